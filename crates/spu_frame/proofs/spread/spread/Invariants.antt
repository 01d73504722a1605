use Rattle.std.proofs.Common.{◌+◌, length}
use Rattle.spu_word.specs.Chains.{lists_of}
use Rattle.spu_frame.specs.Surveys.{IsSpread, room}
use Rattle.spu_frame.proofs.spread.spread.Given as goal

abbrev pub invariant-loop-node : goal.invariant-loop-node
invariant-loop-node l = IsSpread l.p l.f l.known l.spread.met.items (lists_of l.spread.waiting 0)

abbrev pub decreases-loop-node : goal.decreases-loop-node
decreases-loop-node l = length (lists_of l.spread.waiting 0) + room l.spread.met.items
