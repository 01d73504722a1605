-- From what is found in each function to what is wrong with the program, or its depths.
use Rattle.std.proofs.Common.{◌≡◌, ℕ, ◌+◌, ◌<◌, ◌≤◌, ◌++◌, ◌⊎◌, inl, inr, Bool, true, false, List, [], ◌∷◌, length, Option, Some, None, refl, sym, ap, ◌∙◌, subst, arith, ℤ, pos}
use Rattle.std.specs.Prelude.{slice_get, nat_lt, if◌then◌else◌}
use Rattle.std.proofs.lemmas.Bool.{cases_lt, ltb-true}
use Rattle.std.proofs.lemmas.Bool.Decides.{nat_tests}
use Rattle.spu_word.proofs.Places.{get_within, get_some, get_past, get_more_before, get_more_last, length_more}
use Rattle.spu_lift.specs.declared.program.SymInst.{SymInst}
use Rattle.spu_lift.specs.declared.program.Prog.{Prog}
use Rattle.spu_lift.specs.Places.{instruction_at, place_in}
use Rattle.spu_frame.specs.declared.depths.Flaw.{Flaw}
use Rattle.spu_frame.specs.declared.depths.Depths.{Depths}
use Rattle.spu_frame.specs.declared.faults.FrameKind.{FrameKind}
use Rattle.spu_frame.specs.declared.faults.FrameKind.TheVariants.{StackWrite, DepthDisagrees, DepthAtExit, DepthRange}
use Rattle.spu_frame.specs.declared.survey.FunctionDepths.{FunctionDepths}
use Rattle.spu_frame.specs.Walks.{Reaches}
use Rattle.spu_frame.specs.Frames.{AreDepths, IsFrame, IsDepthAt}
use Rattle.spu_frame.specs.Faults.{IsFaulty, IsFrameFault, number_of}
use Rattle.spu_frame.specs.Found.{depth_within, frame_within, depth_at, frame_at}
use Rattle.spu_frame.specs.Surveys.{AreDepthsIn, IsFaultIn}
use Rattle.spu_frame.specs.Flaws.{worse, IsWorst, AreFound}

-- good depths of a function leave no fault in it
pub good_in : (p : Prog) (f : ℕ) (d : FunctionDepths) → AreDepthsIn p f d → (kind : FrameKind) (i : ℕ) → IsFaulty kind p f i → ⊥
good_in p f d good StackWrite i w = let known = good.known i w.x w.function w.here w.writes in w.unknown known.0 known.1
good_in p f d good DepthDisagrees i h = h.apart (good.agreed i h.one h.other h.first h.second)
good_in p f d good DepthAtExit i e = e.deep (good.level i e.depth e.x e.reached e.here e.exit)
good_in p f d good DepthRange i (n, depth, out) = out (good.range i n depth)

pub found_starts : (p : Prog) → AreFound p 0 [] None
found_starts p = (refl, λ f d at. absurd (cc))

below_next : (g n : ℕ) → g < n + 1 → (g < n) ⊎ (g ≡ n)
below_next g n lt = elim (cases_lt g n) as (λ s. (g < n) ⊎ (g ≡ n)) [ inl a ↦ inl a | inr b ↦ inr (omega (arith, lt, b)) ]

-- a function without a fault
worst_stays : (p : Prog) (n : ℕ) (flaw : Flaw) (d : FunctionDepths) → IsWorst p n flaw → AreDepthsIn p n d → IsWorst p (n + 1) flaw
worst_stays p n flaw d w good = record {
  function = (let lt = w.function in omega (arith, lt));
  here = w.here;
  least = λ other g j lt less bad. by_place other g j less bad (below_next g n lt);
  first = w.first;
}
  where
    by_place : (other : FrameKind) (g j : ℕ) → number_of other < number_of flaw.kind → IsFaulty other p g j → (g < n) ⊎ (g ≡ n) → ⊥
    by_place other g j less bad (inl lt) = w.least other g j lt less bad
    by_place other g j less bad (inr e) = good_in p n d good other j (subst (λ v. IsFaulty other p v j) e bad)

pub found_good : (p : Prog) (n : ℕ) (ds : List FunctionDepths) (worst : Option Flaw) (d : FunctionDepths) → AreFound p n ds worst → AreDepthsIn p n d → AreFound p (n + 1) (ds ++ d ∷ []) worst
found_good p n ds (Some flaw) d found good = worst_stays p n flaw d found good
found_good p n ds None d (count, each) good = (
  (let more = length_more ds d in omega (arith, count, more)),
  (λ f e at. by_place f e at (cases_lt f (length ds))),
)
  where
    by_place : (f : ℕ) (e : FunctionDepths) → slice_get (ds ++ d ∷ []) f ≡ Some e → (f < length ds) ⊎ (length ds ≤ f) → AreDepthsIn p f e
    by_place f e at (inl lt) = each f e (sym (get_more_before ds d f lt) ∙ at)
    by_place f e at (inr le) =
        let within = get_within (ds ++ d ∷ []) f e at in
        let more = length_more ds d in
        let last : f ≡ length ds = omega (arith, within, more, le) in
        let there = sym (get_more_last ds d f last) ∙ at in
        let same : d ≡ e = cc in
        subst (AreDepthsIn p f) same (subst (λ v. AreDepthsIn p v d) (sym (last ∙ count)) good)

-- a function with one
module _ (p : Prog) (n : ℕ) (flaw : Flaw) (fault : IsFaultIn p n flaw.kind flaw.place) (at : flaw.function ≡ n) where
  here_is : IsFaulty flaw.kind p flaw.function flaw.place
  here_is = subst (λ v. IsFaulty flaw.kind p v flaw.place) (sym at) fault.here

  first_worst : ((kind : FrameKind) (g j : ℕ) → g < n → IsFaulty kind p g j → ⊥) → IsWorst p (n + 1) flaw
  first_worst none = record {
    function = omega (arith, at);
    here = here_is;
    least = λ other g j lt less bad. by_place other g j less bad (below_next g n lt);
    first = λ g j before bad. by_order g j bad before;
  }
    where
      by_place : (other : FrameKind) (g j : ℕ) → number_of other < number_of flaw.kind → IsFaulty other p g j → (g < n) ⊎ (g ≡ n) → ⊥
      by_place other g j less bad (inl lt) = none other g j lt bad
      by_place other g j less bad (inr e) = fault.least other j less (subst (λ v. IsFaulty other p v j) e bad)

      by_order : (g j : ℕ) → IsFaulty flaw.kind p g j → (g < flaw.function) ⊎ ((g ≡ flaw.function) × (j < flaw.place)) → ⊥
      by_order g j bad (inl lt) = none flaw.kind g j (omega (arith, lt, at)) bad
      by_order g j bad (inr (e, lt)) = fault.first j lt (subst (λ v. IsFaulty flaw.kind p v j) (e ∙ at) bad)

  -- a lesser one than the worst so far
  lesser_worst : (old : Flaw) → IsWorst p n old → number_of flaw.kind < number_of old.kind → IsWorst p (n + 1) flaw
  lesser_worst old w less = record {
    function = omega (arith, at);
    here = here_is;
    least = λ other g j lt under bad. by_place other g j under bad (below_next g n lt);
    first = λ g j before bad. by_order g j bad before;
  }
    where
      by_place : (other : FrameKind) (g j : ℕ) → number_of other < number_of flaw.kind → IsFaulty other p g j → (g < n) ⊎ (g ≡ n) → ⊥
      by_place other g j under bad (inl lt) = w.least other g j lt (omega (arith, under, less)) bad
      by_place other g j under bad (inr e) = fault.least other j under (subst (λ v. IsFaulty other p v j) e bad)

      by_order : (g j : ℕ) → IsFaulty flaw.kind p g j → (g < flaw.function) ⊎ ((g ≡ flaw.function) × (j < flaw.place)) → ⊥
      by_order g j bad (inl lt) = w.least flaw.kind g j (omega (arith, lt, at)) less bad
      by_order g j bad (inr (e, lt)) = fault.first j lt (subst (λ v. IsFaulty flaw.kind p v j) (e ∙ at) bad)

  -- one that isn't less
  older_worst : (old : Flaw) → IsWorst p n old → number_of old.kind ≤ number_of flaw.kind → IsWorst p (n + 1) old
  older_worst old w le = record {
    function = (let lt = w.function in omega (arith, lt));
    here = w.here;
    least = λ other g j lt under bad. by_place other g j under bad (below_next g n lt);
    first = w.first;
  }
    where
      by_place : (other : FrameKind) (g j : ℕ) → number_of other < number_of old.kind → IsFaulty other p g j → (g < n) ⊎ (g ≡ n) → ⊥
      by_place other g j under bad (inl lt) = w.least other g j lt under bad
      by_place other g j under bad (inr e) = fault.least other j (omega (arith, under, le)) (subst (λ v. IsFaulty other p v j) e bad)

  pub found_faulty : (ds : List FunctionDepths) (worst : Option Flaw) → AreFound p n ds worst → AreFound p (n + 1) ds (worse worst flaw)
  found_faulty ds None (count, each) = first_worst (λ kind g j lt bad. (let d = get_some ds g (omega (arith, lt, count)) in good_in p g d.0 (each g d.0 d.1) kind j bad))
  found_faulty ds (Some old) w = by_test (nat_lt (number_of flaw.kind) (number_of old.kind)) refl
    where
      by_test : (b : Bool) → nat_lt (number_of flaw.kind) (number_of old.kind) ≡ b → AreFound p (n + 1) ds (if b then Some flaw else Some old)
      by_test true e = lesser_worst old w (ltb-true (number_of flaw.kind) (number_of old.kind) e)
      by_test false e = older_worst old w (grind (arith, nat_tests, e))

-- ---- the end

-- a place is one of a function of the program
module _ (p : Prog) (n : ℕ) (all : n ≡ length p.functions) where
  placed : (g i : ℕ) (x : SymInst) → instruction_at p g i ≡ Some x → g < n
  placed g i x here = by_order (cases_lt g (length p.functions))
    where
      by_order : (g < length p.functions) ⊎ (length p.functions ≤ g) → g < n
      by_order (inl lt) = omega (arith, lt, all)
      by_order (inr le) = let none = ap (λ o. place_in o i) (get_past p.functions g le) in absurd (cc)

  reached : (g i : ℕ) (m : ℤ) → Reaches p g i m → g < n
  reached g i m r = let here = r.here in placed g i here.0 here.1

  deep : (g i : ℕ) (m : ℤ) → IsDepthAt p g i m → g < n
  deep g i m (inl r) = reached g i m r
  deep g i m (inr (k, c, r, adds, e)) = reached g i k r

pub worst_fault : (p : Prog) (n : ℕ) (flaw : Flaw) → n ≡ length p.functions → IsWorst p n flaw → IsFrameFault p flaw.kind flaw.function flaw.place
worst_fault p n flaw all w = record {
  here = w.here;
  least = λ other g j less bad. w.least other g j (within other g j bad) less bad;
  first = w.first;
}
  where
    within : (kind : FrameKind) (g j : ℕ) → IsFaulty kind p g j → g < n
    within StackWrite g j b = placed p n all g j b.x b.here
    within DepthDisagrees g j b = reached p n all g j b.one b.first
    within DepthAtExit g j b = reached p n all g j b.depth b.reached
    within DepthRange g j (m, d, out) = deep p n all g j m d

pub found_depths : (p : Prog) (n : ℕ) (d : Depths) → n ≡ length p.functions → AreFound p n d.functions None → AreDepths p (depth_at d) (frame_at d)
found_depths p n d all (count, each) = record {
  good = record {
    known = λ f i x ne here w. (good f (placed p n all f i x here)).1.known i x ne here w;
    agreed = λ f i a b r s. (good f (reached p n all f i a r)).1.agreed i a b r s;
    level = λ f i a x r here exit. (good f (reached p n all f i a r)).1.level i a x r here exit;
    range = λ f i a depth. (good f (deep p n all f i a depth)).1.range i a depth;
  };
  some = λ f i m e. by_some f i m (slice_get d.functions f) refl e;
  none = λ f i a e r. by_none f i a (reached p n all f i a r) e r;
  greatest = λ f lt. by_frame f lt;
}
  where
    at : (f : ℕ) → f < n → (e : FunctionDepths) × (slice_get d.functions f ≡ Some e)
    at f lt = get_some d.functions f (omega (arith, lt, count))

    good : (f : ℕ) → f < n → (e : FunctionDepths) × AreDepthsIn p f e
    good f lt = let e = at f lt in (e.0, each f e.0 e.1)

    by_some : (f i m : ℕ) (o : Option FunctionDepths) → slice_get d.functions f ≡ o → depth_within o i ≡ Some m → Reaches p f i (pos m)
    by_some f i m None is e = absurd (cc)
    by_some f i m (Some g) is e = (each f g is).some i m e

    by_none : (f i : ℕ) (a : ℤ) → f < n → depth_at d f i ≡ None → Reaches p f i a → ⊥
    by_none f i a lt e r = let g = at f lt in (each f g.0 g.1).none i a (sym (ap (λ o. depth_within o i) g.1) ∙ e) r

    by_frame : (f : ℕ) → f < length p.functions → IsFrame p f (frame_at d f)
    by_frame f lt = let g = at f (omega (arith, lt, all)) in subst (IsFrame p f) (sym (ap frame_within g.1)) (each f g.0 g.1).greatest
