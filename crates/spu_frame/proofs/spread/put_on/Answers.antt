use Rattle.std.proofs.Common.{ℕ, List, sym, ap, ◌∙◌}
use Rattle.spu_word.specs.Lists.{stands_on}
use Rattle.spu_word.specs.Chains.{lists_of}
use Rattle.spu_frame.proofs.Waiting.{stands_last, stays_off}
use Rattle.spu_frame.proofs.spread.put_on.Goals as goal

pub returns-in-None-clause-on : goal.returns-in-None-clause-on
returns-in-None-clause-on c = ap (λ (xs : List ℕ). stands_on xs c.args.node) (c.append.ensures.lists 0) ∙ stands_last (lists_of c.args.waiting.now 0) c.args.node

pub returns-in-None-clause-stay : goal.returns-in-None-clause-stay
returns-in-None-clause-stay c = λ k off. stays_off (lists_of c.args.waiting.now 0) c.args.node k (ap (λ (xs : List ℕ). stands_on xs k) (sym (c.append.ensures.lists 0)) ∙ off)
