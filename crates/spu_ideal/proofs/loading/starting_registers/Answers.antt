use Rattle.std.proofs.Common.{List, ℕ, ap₂, ◌∙◌, arith}
use Rattle.spu_word.specs.declared.limits.TheConstants.{REGISTER_COUNT}
use Rattle.spu_lift.specs.declared.symbolic.SymByte.{SymByte}
use Rattle.spu_ideal.specs.State.{put}
use Rattle.spu_ideal.proofs.Going.{register_set}
use Rattle.spu_ideal.proofs.Filling.{zero_registers}
use Rattle.spu_ideal.proofs.loading.starting_registers.Goals as goal

pub returns-clause-value : goal.returns-clause-value
returns-clause-value c =
    register_set c.in_ok-regs.regs.items 1 c.stack_quad.result (let few = c.in_ok-regs.ensures.len in omega (arith, few))
    ∙ ap₂ (λ (q : List SymByte) (regs : ℕ → List SymByte). put 1 q regs) c.stack_quad.ensures (zero_registers c.in_ok-regs.regs.items REGISTER_COUNT (c.in_ok-regs.ensures.items_if_clones_equal (λ y e. e)))
