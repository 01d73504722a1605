use Rattle.std.proofs.Common.{◌≡◌, ◌≤◌, ◌+◌, ◌*◌, ◌++◌, length}
use Rattle.std.specs.Prelude.{replicate}
use Rattle.std.specs.List.{flat_map, range_with_len}
use Rattle.spu_word.specs.declared.limits.TheConstants.{QUAD_SIZE}
use Rattle.spu_elf.specs.Rows.{front_size}
use Rattle.spu_image.specs.Overlays.{table_entry}
use Rattle.spu_image.specs.OverlayFilling.{end_after, offset_of, sizes_with}
use Rattle.spu_image.proofs.overlay_parts.put_table.Given as goal

abbrev pub invariant-loop-r : goal.invariant-loop-r
invariant-loop-r l = record {
  end : l.end ≡ end_after (front_size (length l.regions + 1)) (sizes_with l.load_size l.regions) (l.r + 1);
  low : l.end ≤ 1048576 + 131072 * l.r;
  out : l.out ≡ l.fn.out ++ (replicate QUAD_SIZE 0 ++ flat_map (table_entry l.p l.plan (offset_of l.load_size l.regions)) (range_with_len 1 l.r));
}
