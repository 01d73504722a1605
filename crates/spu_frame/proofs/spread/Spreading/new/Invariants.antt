use Rattle.std.proofs.Common.{◌≡◌, []}
use Rattle.spu_word.specs.Chains.{lists_of, slot_count, list_count}
use Rattle.spu_frame.proofs.spread.Spreading.new.Given as goal

abbrev pub invariant-loop : goal.invariant-loop
invariant-loop l = record { slots : slot_count l.waiting ≡ l.counter; lists : list_count l.waiting ≡ 1; empty : lists_of l.waiting 0 ≡ [] }
