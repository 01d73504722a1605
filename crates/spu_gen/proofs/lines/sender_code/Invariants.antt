use Rattle.std.proofs.Common.{◌≡◌, ◌++◌, ◌∷◌, replicate}
use Rattle.spu_gen.specs.declared.lines.Line.TheVariants.{Load, Nop, Send}
use Rattle.spu_gen.specs.Workloads.{enters}
use Rattle.spu_gen.proofs.lines.sender_code.Given as goal

abbrev pub invariant-loop : goal.invariant-loop
invariant-loop l = l.lines.items ≡ enters ++ Load l.draw ∷ Send ∷ replicate l.counter Nop
