use Rattle.std.proofs.Common.{ℕ, List, length, sym, ap, arith}
use Rattle.spu_word.specs.Chains.{lists_of}
use Rattle.spu_word.proofs.Places.{stands_place}
use Rattle.spu_frame.proofs.Waiting.{without_first}
use Rattle.spu_frame.proofs.spread.Spreading.take.Goals as goal

pub remove-requires : goal.remove-requires
remove-requires c = (0, stands_place (lists_of c.args.self.now.waiting 0) 0 c.in_ok-node.node (sym c.in_ok-node.ensures.first))

pub returns-clause-shorter : goal.returns-clause-shorter
returns-clause-shorter c =
    let now = ap (λ (xs : List ℕ). length xs) (c.remove.ensures.lists 0) in
    let lt = without_first (lists_of c.args.self.now.waiting 0) c.in_ok-node.node c.in_ok-node.ensures.first in
    omega (arith, now, lt)
