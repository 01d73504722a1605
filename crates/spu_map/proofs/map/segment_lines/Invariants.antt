use Rattle.std.proofs.Common.{◌≡◌, ◌++◌, ◌≤◌, ◌+◌, ◌*◌, ◌^◌, length, drop}
use Rattle.spu_elf.specs.Rows.{front_size}
use Rattle.spu_map.specs.Maps.{segment_lines}
use Rattle.spu_map.proofs.map.segment_lines.Given as goal

abbrev pub invariant-loop-k : goal.invariant-loop-k
invariant-loop-k l = record { lines : l.text ++ segment_lines l.k l.end (drop l.k l.segments) ≡ segment_lines 0 (front_size (length l.segments)) l.segments; near : l.end ≤ 1000000 + l.k * 2 ^ 23 }
