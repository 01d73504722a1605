use Rattle.std.proofs.Common.{rules, arith, FitsSigned, w32}
use Rattle.std.proofs.lemmas.Int.{ints}
use Rattle.spu_frame.proofs.met.behind.Goals as goal

pub less-requires-clause-added : goal.less-requires-clause-added
less-requires-clause-added c =
    let f : FitsSigned w32 c.in-Some.added = search rules in
    let e = c.from.ensures in
    (omega (arith, ints, f, e), omega (arith, ints, f, e))
