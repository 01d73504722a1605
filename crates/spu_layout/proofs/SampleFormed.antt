-- The small program on which layouts are tried is well formed, and fits with the flat plan.
use Rattle.std.proofs.Common.{◌≡◌, ◌≢◌, ℕ, zero, suc, ◌≤◌, inl, inr, List, [], ◌∷◌, Some, refl, sym, subst, arith, lit≤, lit<, codes}
use Rattle.std.specs.Prelude.{slice_get}
use Rattle.std.specs.List.{Contains}
use Rattle.std.proofs.lemmas.Option.{slice_get_within}
use Rattle.std.proofs.lemmas.List.Elements.{All-nil, All-cons}
use Rattle.spu_word.specs.declared.limits.TheConstants.{MAX_SECTION_SIZE}
use Rattle.spu_lift.specs.declared.program.CodeSection.{CodeSection}
use Rattle.spu_lift.specs.declared.program.Function.{Function}
use Rattle.spu_lift.specs.declared.program.Part.{Part}
use Rattle.spu_lift.specs.declared.program.Prog.{Prog}
use Rattle.spu_lift.specs.declared.program.SymInst.{SymInst}
use Rattle.spu_lift.specs.Places.{instruction_at, taken_places}
use Rattle.spu_lift.specs.WellFormed.{IsRising, IsCallee, IsInstruction, IsFunction, IsPart, AreApart, IsWellFormed}
use Rattle.spu_lift.proofs.StartFormed.{lqr_formed, brsl_formed, stop_formed}
use Rattle.spu_lift.proofs.WrittenNames.{name_written}
use Rattle.spu_plan.specs.declared.plan.Plan.{Plan}
use Rattle.spu_plan.specs.Plans.{flat_plan}
use Rattle.spu_layout.specs.Placing.{FitsFlat, section_sizes}
use Rattle.spu_layout.specs.Planned.{Fits}
use Rattle.spu_layout.specs.Samples.{nop, sample}

the_one : {A : Type 0} (x y : A) → Some x ≡ Some y → x ≡ y
the_one x y e = cc

-- ---- functions

callee : IsCallee sample 1
callee = ((λ e. omega (arith, e)), lit< tt)

nop_formed : (f : ℕ) → IsInstruction sample f nop
nop_formed f = record {
  range = record { layout = (lit< tt, lit< tt, lit< tt, refl, refl); zeros = (refl, (refl, tt)) };
  stands = refl;
  empty = λ e. absurd (e refl);
  call = λ e. absurd cc;
  pointer_call = λ e. absurd cc;
}

formed_at : (f i : ℕ) (x : SymInst) → instruction_at sample f i ≡ Some x → IsInstruction sample f x
formed_at zero zero x e = subst (IsInstruction sample 0) (the_one _ x e) (lqr_formed sample 160 (lit< tt))
formed_at zero (suc zero) x e = subst (IsInstruction sample 0) (the_one _ x e) (brsl_formed sample 1 callee)
formed_at zero (suc (suc zero)) x e = subst (IsInstruction sample 0) (the_one _ x e) (stop_formed sample)
formed_at zero (suc (suc (suc i))) x e = absurd cc
formed_at (suc zero) zero x e = subst (IsInstruction sample 1) (the_one _ x e) (nop_formed 1)
formed_at (suc zero) (suc zero) x e = subst (IsInstruction sample 1) (the_one _ x e) (nop_formed 1)
formed_at (suc zero) (suc (suc zero)) x e = subst (IsInstruction sample 1) (the_one _ x e) (nop_formed 1)
formed_at (suc zero) (suc (suc (suc i))) x e = absurd cc
formed_at (suc (suc zero)) zero x e = subst (IsInstruction sample 2) (the_one _ x e) (nop_formed 2)
formed_at (suc (suc zero)) (suc zero) x e = subst (IsInstruction sample 2) (the_one _ x e) (nop_formed 2)
formed_at (suc (suc zero)) (suc (suc i)) x e = absurd cc
formed_at (suc (suc (suc zero))) zero x e = subst (IsInstruction sample 3) (the_one _ x e) (nop_formed 3)
formed_at (suc (suc (suc zero))) (suc i) x e = absurd cc
formed_at (suc (suc (suc (suc zero)))) zero x e = subst (IsInstruction sample 4) (the_one _ x e) (nop_formed 4)
formed_at (suc (suc (suc (suc zero)))) (suc zero) x e = subst (IsInstruction sample 4) (the_one _ x e) (nop_formed 4)
formed_at (suc (suc (suc (suc zero)))) (suc (suc zero)) x e = subst (IsInstruction sample 4) (the_one _ x e) (nop_formed 4)
formed_at (suc (suc (suc (suc zero)))) (suc (suc (suc zero))) x e = subst (IsInstruction sample 4) (the_one _ x e) (nop_formed 4)
formed_at (suc (suc (suc (suc zero)))) (suc (suc (suc (suc i)))) x e = absurd cc
formed_at (suc (suc (suc (suc (suc f))))) i x e = absurd cc

function_at : (f : ℕ) (g : Function) → f ≢ 0 → slice_get sample.functions f ≡ Some g → IsFunction sample g
function_at zero g n e = absurd (n refl)
function_at (suc zero) g n e = subst (IsFunction sample) (the_one _ g e) (record { named = name_written (codes "main") (lit< tt) (lit< tt) refl; some = lit≤ tt; section = record { name = codes "a"; size = 20 }; there = refl; aligned = refl; fits = lit≤ tt })
function_at (suc (suc zero)) g n e = subst (IsFunction sample) (the_one _ g e) (record { named = name_written (codes "first") (lit< tt) (lit< tt) refl; some = lit≤ tt; section = record { name = codes "a"; size = 20 }; there = refl; aligned = refl; fits = lit≤ tt })
function_at (suc (suc (suc zero))) g n e = subst (IsFunction sample) (the_one _ g e) (record { named = name_written (codes "second") (lit< tt) (lit< tt) refl; some = lit≤ tt; section = record { name = codes "b"; size = 8 }; there = refl; aligned = refl; fits = lit≤ tt })
function_at (suc (suc (suc (suc zero)))) g n e = subst (IsFunction sample) (the_one _ g e) (record { named = name_written (codes "third") (lit< tt) (lit< tt) refl; some = lit≤ tt; section = record { name = codes "c"; size = 16 }; there = refl; aligned = refl; fits = lit≤ tt })
function_at (suc (suc (suc (suc (suc f))))) g n e = absurd cc

apart_two : (g h g' h' : Function) → g ≡ g' → h ≡ h' → AreApart g h → AreApart g' h'
apart_two g h g' h' e q a = subst (λ g. AreApart g h') e (subst (AreApart g) q a)

apart_at : (f h : ℕ) (g k : Function) → f ≢ 0 → h ≢ 0 → f ≢ h → slice_get sample.functions f ≡ Some g → slice_get sample.functions h ≡ Some k → AreApart g k
apart_at zero h g k nf nh ne eg ek = absurd (nf refl)
apart_at f zero g k nf nh ne eg ek = absurd (nh refl)
apart_at (suc zero) (suc zero) g k nf nh ne eg ek = absurd (ne refl)
apart_at (suc zero) (suc (suc zero)) g k nf nh ne eg ek = apart_two _ _ g k (the_one _ g eg) (the_one _ k ek) (λ e. inl (lit≤ tt))
apart_at (suc zero) (suc (suc (suc zero))) g k nf nh ne eg ek = apart_two _ _ g k (the_one _ g eg) (the_one _ k ek) (λ e. absurd (omega (arith, e)))
apart_at (suc zero) (suc (suc (suc (suc zero)))) g k nf nh ne eg ek = apart_two _ _ g k (the_one _ g eg) (the_one _ k ek) (λ e. absurd (omega (arith, e)))
apart_at (suc zero) (suc (suc (suc (suc (suc h))))) g k nf nh ne eg ek = absurd cc
apart_at (suc (suc zero)) (suc zero) g k nf nh ne eg ek = apart_two _ _ g k (the_one _ g eg) (the_one _ k ek) (λ e. inr (lit≤ tt))
apart_at (suc (suc zero)) (suc (suc zero)) g k nf nh ne eg ek = absurd (ne refl)
apart_at (suc (suc zero)) (suc (suc (suc zero))) g k nf nh ne eg ek = apart_two _ _ g k (the_one _ g eg) (the_one _ k ek) (λ e. absurd (omega (arith, e)))
apart_at (suc (suc zero)) (suc (suc (suc (suc zero)))) g k nf nh ne eg ek = apart_two _ _ g k (the_one _ g eg) (the_one _ k ek) (λ e. absurd (omega (arith, e)))
apart_at (suc (suc zero)) (suc (suc (suc (suc (suc h))))) g k nf nh ne eg ek = absurd cc
apart_at (suc (suc (suc zero))) (suc zero) g k nf nh ne eg ek = apart_two _ _ g k (the_one _ g eg) (the_one _ k ek) (λ e. absurd (omega (arith, e)))
apart_at (suc (suc (suc zero))) (suc (suc zero)) g k nf nh ne eg ek = apart_two _ _ g k (the_one _ g eg) (the_one _ k ek) (λ e. absurd (omega (arith, e)))
apart_at (suc (suc (suc zero))) (suc (suc (suc zero))) g k nf nh ne eg ek = absurd (ne refl)
apart_at (suc (suc (suc zero))) (suc (suc (suc (suc zero)))) g k nf nh ne eg ek = apart_two _ _ g k (the_one _ g eg) (the_one _ k ek) (λ e. absurd (omega (arith, e)))
apart_at (suc (suc (suc zero))) (suc (suc (suc (suc (suc h))))) g k nf nh ne eg ek = absurd cc
apart_at (suc (suc (suc (suc zero)))) (suc zero) g k nf nh ne eg ek = apart_two _ _ g k (the_one _ g eg) (the_one _ k ek) (λ e. absurd (omega (arith, e)))
apart_at (suc (suc (suc (suc zero)))) (suc (suc zero)) g k nf nh ne eg ek = apart_two _ _ g k (the_one _ g eg) (the_one _ k ek) (λ e. absurd (omega (arith, e)))
apart_at (suc (suc (suc (suc zero)))) (suc (suc (suc zero))) g k nf nh ne eg ek = apart_two _ _ g k (the_one _ g eg) (the_one _ k ek) (λ e. absurd (omega (arith, e)))
apart_at (suc (suc (suc (suc zero)))) (suc (suc (suc (suc zero)))) g k nf nh ne eg ek = absurd (ne refl)
apart_at (suc (suc (suc (suc zero)))) (suc (suc (suc (suc (suc h))))) g k nf nh ne eg ek = absurd cc
apart_at (suc (suc (suc (suc (suc f))))) h g k nf nh ne eg ek = absurd cc

no_taken : (f : ℕ) → taken_places sample f ≡ []
no_taken zero = refl
no_taken (suc zero) = refl
no_taken (suc (suc zero)) = refl
no_taken (suc (suc (suc zero))) = refl
no_taken (suc (suc (suc (suc zero)))) = refl
no_taken (suc (suc (suc (suc (suc f))))) = refl

none_in : {A : Type 0} (x : A) → Contains [] x → ⊥
none_in x (k, lt, e) = omega (arith, lt)

only : {A : Type 0} (x y : A) → Contains (x ∷ []) y → x ≡ y
only x y (zero, lt, e) = e
only x y (suc k, lt, e) = absurd (omega (arith, lt))

-- ---- data

abbrev data_part : Part
data_part = record { address = 128; size = 32; bytes = []; labels = [] }

part_formed : IsPart sample data_part
part_formed = record {
  filled = inr refl;
  rising = λ k l m a b. (let far = slice_get_within [] k l a in absurd (omega (arith, far)));
  aligned = λ l c. absurd (none_in l c);
  inside = λ l c. absurd (none_in l c);
  taken = λ l c. absurd (none_in l c);
}

abbrev IsSmall : CodeSection → Type 0
IsSmall c = c.size ≤ MAX_SECTION_SIZE

abbrev IsFilled : CodeSection → Type 0
IsFilled c = 1 ≤ c.size

abbrev a : CodeSection
a = record { name = codes "a"; size = 20 }

abbrev b : CodeSection
b = record { name = codes "b"; size = 8 }

abbrev c : CodeSection
c = record { name = codes "c"; size = 16 }

formed : IsWellFormed sample
formed = record {
  functions = lit≤ tt;
  sections = lit≤ tt;
  small = All-cons IsSmall a (b ∷ c ∷ []) (lit≤ tt) (All-cons IsSmall b (c ∷ []) (lit≤ tt) (All-cons IsSmall c [] (lit≤ tt) (All-nil IsSmall)));
  filled = All-cons IsFilled a (b ∷ c ∷ []) (lit≤ tt) (All-cons IsFilled b (c ∷ []) (lit≤ tt) (All-cons IsFilled c [] (lit≤ tt) (All-nil IsFilled)));
  few_globals = lit≤ tt;
  start = refl;
  entry = callee;
  each = function_at;
  apart = apart_at;
  instructions = formed_at;
  taken = λ g c. absurd (none_in g c);
  taken_rising = tt;
  places = λ f i c. absurd (none_in i (subst (λ l. Contains l i) (no_taken f) c));
  places_rising = λ f. subst IsRising (sym (no_taken f)) tt;
  data_aligned = refl;
  data_end = lit≤ tt;
  ordered = (lit≤ tt, lit≤ tt);
  parts = λ part c. subst (IsPart sample) (only data_part part c) part_formed;
  globals = λ g c. absurd (none_in g c);
  distinct = λ i j g h eg eh same. (let far = slice_get_within [] i g eg in absurd (omega (arith, far)));
  ears = λ ear c. absurd (none_in ear c);
  ears_are_global = tt;
}

-- ---- as the test holds it

pub sample_formed : (p : Prog) → p ≡ sample → IsWellFormed p
sample_formed p e = subst IsWellFormed (sym e) formed

pub sample_fits : (p : Prog) (sizes : List ℕ) (plan : Plan) → p ≡ sample → sizes ≡ section_sizes p.code → plan ≡ flat_plan 160 sizes → Fits p plan 4096
sample_fits p sizes plan e s q =
    inl (subst (λ plan. FitsFlat p plan 4096) (sym q)
    (subst (λ sizes. FitsFlat p (flat_plan 160 sizes) 4096) (sym s) (subst (λ p. FitsFlat p (flat_plan 160 (section_sizes p.code)) 4096) (sym e) (record { planned = refl; below = lit≤ tt }))))
