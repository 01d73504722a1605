-- The plans of the samples are ones that are made.
use Rattle.std.proofs.Common.{◌≡◌, ℕ, zero, suc, ◌%◌, ◌≤◌, [], ◌∷◌, All, refl, sym, inr, subst, arith}
use Rattle.spu_word.specs.declared.limits.TheConstants.{STORE_SIZE}
use Rattle.spu_lift.specs.declared.program.Prog.{Prog}
use Rattle.spu_plan.specs.declared.plan.Plan.{Plan}
use Rattle.spu_plan.specs.Choices.{IsInput, IsOverlayPlan}
use Rattle.spu_layout.specs.Layouts.{Layout}
use Rattle.spu_layout.specs.Planned.{IsPlanned, Fits}
use Rattle.spu_layout.specs.Samples.{sample}
use Rattle.spu_layout.specs.PlannedSamples.{sample_input, sample_made, pair, pair_input, pair_made}

three_quads : All (λ (size : ℕ). size % 16 ≡ 0) (32 ∷ 16 ∷ 16 ∷ [])
three_quads zero d lt = refl
three_quads (suc zero) d lt = refl
three_quads (suc (suc zero)) d lt = refl
three_quads (suc (suc (suc k))) d lt = absurd (omega arith)

sample_allowed : IsInput sample_input
sample_allowed = record {
  sections = omega arith;
  flags = refl;
  quads = three_quads;
  data_begins = omega arith;
  data_ends = omega arith;
  data_quads = refl;
  room = omega arith;
  buffers = (1, omega arith, refl);
  largest = (6, omega arith, refl);
}

sample_is_made : IsOverlayPlan sample_input sample_made
sample_is_made = record {
  permitted = tt;
  needed = λ p. absurd p;
  overlay = refl;
  buffers = refl;
  asked = record { size = (6, omega arith, refl); most = omega arith };
  end = refl;
  fits = omega arith;
  greatest = λ other a within. a.most;
  cut = record { regions = (16 ∷ 16 ∷ []) ∷ []; cut = record { whole = refl; each = (record { some = omega arith; fits = omega arith }, tt, tt) }; many = refl; each = refl };
}

pub sample_is_planned : IsPlanned sample sample_made 4096
sample_is_planned = record { input = sample_input; allowed = sample_allowed; of = record { sizes = refl; data_end = refl; functions = refl; room = refl }; is = inr sample_is_made }

two_quads : All (λ (size : ℕ). size % 16 ≡ 0) (32 ∷ 16 ∷ [])
two_quads zero d lt = refl
two_quads (suc zero) d lt = refl
two_quads (suc (suc k)) d lt = absurd (omega arith)

pair_allowed : IsInput pair_input
pair_allowed = record {
  sections = omega arith;
  flags = refl;
  quads = two_quads;
  data_begins = omega arith;
  data_ends = omega arith;
  data_quads = refl;
  room = omega arith;
  buffers = (0, omega arith, refl);
  largest = (2, omega arith, refl);
}

pair_is_made : IsOverlayPlan pair_input pair_made
pair_is_made = record {
  permitted = tt;
  needed = λ p. absurd p;
  overlay = refl;
  buffers = refl;
  asked = record { size = (2, omega arith, refl); most = omega arith };
  end = refl;
  fits = omega arith;
  greatest = λ other a within. a.most;
  cut = record { regions = (16 ∷ []) ∷ []; cut = record { whole = refl; each = (record { some = omega arith; fits = omega arith }, tt, tt) }; many = refl; each = refl };
}

pub pair_is_planned : IsPlanned pair pair_made 16384
pair_is_planned = record { input = pair_input; allowed = pair_allowed; of = record { sizes = refl; data_end = refl; functions = refl; room = refl }; is = inr pair_is_made }

-- ---- as the test holds it

pub sample_has_plan : (p : Prog) (plan : Plan) → p ≡ sample → plan ≡ sample_made → Fits p plan 4096
sample_has_plan p plan e q = inr (subst (λ plan. IsPlanned p plan 4096) (sym q) (subst (λ p. IsPlanned p sample_made 4096) (sym e) sample_is_planned))

pub same_within : (address : Layout → ℕ) (l k : Layout) → l ≡ k → address k ≤ STORE_SIZE → address l ≤ STORE_SIZE
same_within address l k e h = subst (λ (m : Layout). address m ≤ STORE_SIZE) (sym e) h
