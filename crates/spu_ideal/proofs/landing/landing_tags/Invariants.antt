use Rattle.std.proofs.Common.{◌≡◌, ℕ, ◌<◌, false, length}
use Rattle.std.specs.Prelude.{slice_index_or}
use Rattle.spu_exec.specs.declared.channels.TheConstants.{TAG_COUNT}
use Rattle.spu_exec.specs.Tags.{is_landing}
use Rattle.spu_ideal.proofs.landing.landing_tags.Given as goal

abbrev pub invariant-loop-tag : goal.invariant-loop-tag
invariant-loop-tag l = record {
  len : length l.tags ≡ TAG_COUNT;
  told : (tag : ℕ) → tag < l.tag → slice_index_or l.tags tag false ≡ is_landing l.update l.mask l.queue tag;
}
