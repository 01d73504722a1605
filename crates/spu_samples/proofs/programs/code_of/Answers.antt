use Rattle.std.proofs.Common.{◌≡◌, ℕ, List, [], ◌∷◌, Some, length, sym, ap, subst, arith, length-append}
use Rattle.std.specs.Prelude.{slice_get}
use Rattle.spu_lift.specs.declared.program.SymInst.{SymInst}
use Rattle.spu_samples.proofs.Formed.{IsFine, each_more}
use Rattle.spu_samples.proofs.programs.code_of.Goals as goal

pub loop-step-preserved : goal.loop-step-preserved
loop-step-preserved c = record {
  count = (let new = ap (λ (xs : List SymInst). length xs) c.in_ok-push.ensures.ok in let long = length-append c.loop-step.code (c.instruction-x.result ∷ []) in let count = c.loop-step.invariant.count in omega (arith, new, long, count));
  fine = subst (λ (xs : List SymInst). (k : ℕ) (x : SymInst) → slice_get xs k ≡ Some x → IsFine c.args.functions c.args.f (length c.args.steps.now) x) (sym c.in_ok-push.ensures.ok)
      (each_more (λ k x. IsFine c.args.functions c.args.f (length c.args.steps.now) x) c.loop-step.code c.instruction-x.result c.loop-step.invariant.fine (c.is_fine.ensures c.if-is_fine.true));
}
