-- The instructions of the start code are well formed in any program.
use Rattle.std.proofs.Common.{ℕ, ◌^◌, ◌<◌, refl, arith, lit<}
use Rattle.std.specs.Prelude.{pos}
use Rattle.std.proofs.lemmas.Int.{ints}
use Rattle.spu_isa.specs.declared.operation.Op.TheVariants as op
use Rattle.spu_lift.specs.declared.program.Operand.TheVariants as operand
use Rattle.spu_lift.specs.declared.program.Prog.{Prog}
use Rattle.spu_lift.specs.StartCode.{of_register, symbolic}
use Rattle.spu_lift.specs.WellFormed.{IsCallee, IsInstruction}

pub lqr_formed : (p : Prog) (n : ℕ) → n < 2 ^ 32 → IsInstruction p 0 (symbolic (of_register op.Lqr 1 (pos 0)) (operand.Number n))
lqr_formed p n small = record {
  range = record { layout = (lit< tt, refl, refl, refl, omega (arith, ints), omega (arith, ints)); zeros = tt };
  stands = (refl, small);
  empty = λ e. refl;
  call = λ e. absurd (cc);
  pointer_call = λ e. absurd (cc);
}

pub brsl_formed : (p : Prog) (g : ℕ) → IsCallee p g → IsInstruction p 0 (symbolic (of_register op.Brsl 0 (pos 0)) (operand.Call g))
brsl_formed p g callee = record {
  range = record { layout = (lit< tt, refl, refl, refl, omega (arith, ints), omega (arith, ints)); zeros = tt };
  stands = (refl, callee);
  empty = λ e. refl;
  call = λ e. refl;
  pointer_call = λ e. absurd (cc);
}

pub stop_formed : (p : Prog) → IsInstruction p 0 (symbolic (of_register op.Stop 0 (pos 0x2000)) operand.Plain)
stop_formed p = record {
  range = record { layout = (refl, refl, refl, refl, omega (arith, ints), omega (arith, ints)); zeros = tt };
  stands = refl;
  empty = λ e. absurd (e refl);
  call = λ e. absurd (cc);
  pointer_call = λ e. absurd (cc);
}
