use Rattle.std.proofs.Common.{◌≡◌, ◌^◌, inl, inr, refl, sym, ap, ◌∙◌, subst, arith, ℤ, FitsSigned, w64, to_z, of_z}
use Rattle.std.specs.Prelude.{◌-ℤ◌}
use Rattle.std.proofs.lemmas.Int.{ints}
use Rattle.spu_frame.specs.declared.met.Met.{Met}
use Rattle.spu_frame.specs.declared.met.Met.TheVariants.{Once, Twice}
use Rattle.spu_frame.specs.Surveys.{Keeps, IsWithin, less}
use Rattle.spu_frame.proofs.met.less.Goals as goal

less_fits : (d a : ℤ) → IsWithin d (2 ^ 40) → IsWithin a (2 ^ 31) → FitsSigned w64 (to_z w64 (of_z w64 d) -ℤ to_z w64 (of_z w64 a))
less_fits d a (low, high) (lower, higher) = omega (arith, ints, low, high, lower, higher)

less_is : (d a : ℤ) → IsWithin d (2 ^ 40) → IsWithin a (2 ^ 31) → to_z w64 (of_z w64 (to_z w64 (of_z w64 d) -ℤ to_z w64 (of_z w64 a))) ≡ d -ℤ a
less_is d a (low, high) (lower, higher) = omega (arith, ints, low, high, lower, higher)

twice_is : (a b d e : ℤ) → a ≡ d → b ≡ e → Twice a b ≡ Twice d e
twice_is a b d e is also = cc

pub overflow_sub-result : goal.overflow_sub-result
overflow_sub-result c = less_fits c.in-Once.d c.args.added (c.requires.met c.in-Once.d (subst (λ (m : Met). Keeps m c.in-Once.d) (sym c.in-Once.is) refl)) c.requires.added

pub overflow_sub-result-in-Twice : goal.overflow_sub-result-in-Twice
overflow_sub-result-in-Twice c = less_fits c.in-Twice.d c.args.added (c.requires.met c.in-Twice.d (subst (λ (m : Met). Keeps m c.in-Twice.d) (sym c.in-Twice.is) (inl refl))) c.requires.added

pub overflow_sub-result-in-Twice-2 : goal.overflow_sub-result-in-Twice-2
overflow_sub-result-in-Twice-2 c = less_fits c.in-Twice.e c.args.added (c.requires.met c.in-Twice.e (subst (λ (m : Met). Keeps m c.in-Twice.e) (sym c.in-Twice.is) (inr refl))) c.requires.added

pub returns-in-Once : goal.returns-in-Once
returns-in-Once c =
    let w = c.requires.met c.in-Once.d (subst (λ (m : Met). Keeps m c.in-Once.d) (sym c.in-Once.is) refl) in
    ap Once (less_is c.in-Once.d c.args.added w c.requires.added) ∙ sym (ap (λ (m : Met). less m c.args.added) c.in-Once.is)

pub returns-in-Twice : goal.returns-in-Twice
returns-in-Twice c =
    let w = c.requires.met c.in-Twice.d (subst (λ (m : Met). Keeps m c.in-Twice.d) (sym c.in-Twice.is) (inl refl)) in
    let v = c.requires.met c.in-Twice.e (subst (λ (m : Met). Keeps m c.in-Twice.e) (sym c.in-Twice.is) (inr refl)) in
    twice_is _ _ _ _ (less_is c.in-Twice.d c.args.added w c.requires.added) (less_is c.in-Twice.e c.args.added v c.requires.added) ∙ sym (ap (λ (m : Met). less m c.args.added) c.in-Twice.is)
