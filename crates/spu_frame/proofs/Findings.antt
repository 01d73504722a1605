-- What the depths of a function tell: where walks disagree, which exits are deep, which depths are out of range.
use Rattle.std.proofs.Common.{◌≡◌, ℕ, ◌+◌, ◌<◌, ◌≤◌, ◌⊎◌, inl, inr, List, [], ◌∷◌, ◌++◌, length, Option, Some, None, below_more, refl, sym, ap, ◌∙◌, subst, arith, ℤ, pos, negsuc}
use Rattle.std.specs.Prelude.{slice_get, ◌≤ℤ◌, max}
use Rattle.std.proofs.lemmas.Int.{ints}
use Rattle.std.proofs.lemmas.Bool.{cases_lt}
use Rattle.spu_word.proofs.Places.{nat_equal, get_within, get_more_before, get_more_last, length_more}
use Rattle.spu_lift.specs.declared.program.SymInst.{SymInst}
use Rattle.spu_lift.specs.declared.program.Prog.{Prog}
use Rattle.spu_lift.specs.Places.{instruction_at}
use Rattle.spu_lift.specs.WellFormed.{IsWellFormed}
use Rattle.spu_frame.specs.declared.met.Met.{Met}
use Rattle.spu_frame.specs.declared.met.Met.TheVariants.{Never, Once, Twice}
use Rattle.spu_frame.specs.Walks.{Reaches}
use Rattle.spu_frame.specs.Frames.{IsExit, IsDepthAt, IsDepthInRange}
use Rattle.spu_frame.specs.Faults.{HasTwoDepths, ExitsWithin, LeavesRange}
use Rattle.spu_frame.specs.Functions.{code_of}
use Rattle.spu_frame.specs.Surveys.{AreKnown, met_at, Keeps, IsTwice, Covers, met_behind, amount_in, behind_node, AreMet, AreSingle, IsLevel, IsInRange, IsDeep, IsMetInRange, IsDepthOf, KnowsWrites, AreDepthsIn, deeper}
use Rattle.spu_frame.specs.Found.{depth_in}
use Rattle.spu_frame.proofs.Walks.{reaches_start}
use Rattle.spu_frame.proofs.Formed.{place_at, place_within, code_some}
use Rattle.spu_frame.proofs.Spreading.{behind_of, keeps_behind, behind_adds, adds_known}

pub int_equal : (a b : ℤ) → (a ≡ b) ⊎ (a ≡ b → ⊥)
int_equal (pos m) (pos n) = elim (nat_equal m n) as (λ s. (pos m ≡ pos n) ⊎ (pos m ≡ pos n → ⊥)) [ inl e ↦ inl (ap pos e) | inr ne ↦ inr (λ e. ne (cc)) ]
int_equal (pos m) (negsuc n) = inr (λ e. (cc))
int_equal (negsuc m) (pos n) = inr (λ e. (cc))
int_equal (negsuc m) (negsuc n) = elim (nat_equal m n) as (λ s. (negsuc m ≡ negsuc n) ⊎ (negsuc m ≡ negsuc n → ⊥)) [ inl e ↦ inl (ap negsuc e) | inr ne ↦ inr (λ e. ne (cc)) ]

once_behind : (o : Option ℤ) (mt : Met) (m : ℤ) → mt ≡ Once m → met_behind mt o ≡ Once (behind_of o m)
once_behind None mt m e = e
once_behind (Some a) mt m e = ap (λ (x : Met). met_behind x (Some a)) e

module _ (p : Prog) (f : ℕ) (met : List Met) (are : AreMet p f met) where
  -- ---- different depths

  pub twice_flaw : (i : ℕ) → i < length (code_of p f) → IsTwice (met_at met i) → HasTwoDepths p f i
  twice_flaw i lt two = by_met (met_at met i) refl two
    where
      by_met : (m : Met) → met_at met i ≡ m → IsTwice m → HasTwoDepths p f i
      by_met Never e two = absurd two
      by_met (Once d) e two = absurd two
      by_met (Twice d other) e two = record {
        one = d;
        other = other;
        first = are.come i d lt (subst (λ (m : Met). Keeps m d) (sym e) (inl refl));
        second = are.come i other lt (subst (λ (m : Met). Keeps m other) (sym e) (inr refl));
        apart = are.apart i d other e;
      }

  pub flaw_twice : (i : ℕ) → HasTwoDepths p f i → IsTwice (met_at met i)
  flaw_twice i h = by_covers (met_at met i) (are.all i h.one h.first) (are.all i h.other h.second)
    where
      by_covers : (m : Met) → Covers m h.one → Covers m h.other → IsTwice m
      by_covers m (inr two) b = two
      by_covers m (inl a) (inr two) = two
      by_covers Never (inl a) (inl b) = absurd a
      by_covers (Once d) (inl a) (inl b) = absurd (h.apart (sym a ∙ b))
      by_covers (Twice d e) (inl a) (inl b) = tt

  pub two_within : (i : ℕ) → HasTwoDepths p f i → i < length (code_of p f)
  two_within i h = let here = h.first.here in place_within p f i here.0 here.1

  module _ (single : AreSingle p f met) where
    reached_within : (i : ℕ) (n : ℤ) → Reaches p f i n → i < length (code_of p f)
    reached_within i n r = let here = r.here in place_within p f i here.0 here.1

    pub single_once : (i : ℕ) (n : ℤ) → Reaches p f i n → met_at met i ≡ Once n
    single_once i n r = by_met (met_at met i) refl (are.all i n r)
      where
        by_met : (m : Met) → met_at met i ≡ m → Covers m n → m ≡ Once n
        by_met m e (inr two) = absurd (single i (reached_within i n r) (subst IsTwice (sym e) two))
        by_met Never e (inl keeps) = absurd keeps
        by_met (Once d) e (inl keeps) = ap Once keeps
        by_met (Twice d e') e (inl keeps) = absurd (single i (reached_within i n r) (subst IsTwice (sym e) tt))

    pub once_reaches : (i : ℕ) (n : ℤ) → i < length (code_of p f) → met_at met i ≡ Once n → Reaches p f i n
    once_reaches i n lt e = are.come i n lt (subst (λ (m : Met). Keeps m n) (sym e) refl)

    pub agreed : (i : ℕ) (n m : ℤ) → Reaches p f i n → Reaches p f i m → n ≡ m
    agreed i n m r s = let a = single_once i n r in let b = single_once i m s in cc

    -- ---- exits

    pub deep_flaw : (i : ℕ) (x : SymInst) → instruction_at p f i ≡ Some x → IsDeep (met_at met i) → IsExit p f x → ExitsWithin p f i
    deep_flaw i x here deep exit = by_met (met_at met i) refl deep
      where
        by_met : (m : Met) → met_at met i ≡ m → IsDeep m → ExitsWithin p f i
        by_met Never e deep = absurd deep
        by_met (Twice d other) e deep = absurd deep
        by_met (Once d) e deep = record { depth = d; reached = once_reaches i d (place_within p f i x here) e; x = x; here = here; exit = exit; deep = deep }

    pub flaw_deep : (i : ℕ) → ExitsWithin p f i → IsDeep (met_at met i)
    flaw_deep i h = subst IsDeep (sym (single_once i h.depth h.reached)) h.deep

    pub level_by : ((i : ℕ) (x : SymInst) → instruction_at p f i ≡ Some x → IsDeep (met_at met i) → IsExit p f x → ⊥) → IsLevel p f
    level_by none i n x r here exit = elim (int_equal n (pos 0)) as (λ s. n ≡ pos 0) [ inl e ↦ e | inr ne ↦ absurd (none i x here (subst IsDeep (sym (single_once i n r)) ne) exit) ]

    -- ---- depths before and after a place

    module _ (formed : IsWellFormed p) (inside : f < length p.functions) (known : List (Option ℤ)) (knows : AreKnown p f known) where
      pub depth_once : (i : ℕ) (n : ℤ) → IsDepthAt p f i n → (met_at met i ≡ Once n) ⊎ (behind_node known met i ≡ Once n)
      depth_once i n (inl r) = inl (single_once i n r)
      depth_once i n (inr (m, c, r, adds, e)) =
          let lt = reached_within i m r in
          inr (once_behind (amount_in (slice_get known i)) (met_at met i) m (single_once i m r) ∙ ap Once (behind_adds p formed f inside known knows i c m lt adds ∙ sym e))

      pub before_depth : (i : ℕ) (n : ℤ) → i < length (code_of p f) → met_at met i ≡ Once n → IsDepthAt p f i n
      before_depth i n lt e = inl (once_reaches i n lt e)

      pub after_depth : (i : ℕ) (n : ℤ) → i < length (code_of p f) → behind_node known met i ≡ Once n → IsDepthAt p f i n
      after_depth i n lt e =
          let before = keeps_behind (met_at met i) (amount_in (slice_get known i)) n (subst (λ (m : Met). Keeps m n) (sym e) refl) in
          let adds = adds_known p formed f inside known knows i lt in
          inr (before.0, adds.0, are.come i before.0 lt before.1, adds.1, sym before.2 ∙ adds.2 before.0)

      -- ---- range

      out_cases : (m : Met) → (IsMetInRange m → ⊥) → (n : ℤ) × (m ≡ Once n) × (IsDepthInRange n → ⊥)
      out_cases Never out = absurd (out tt)
      out_cases (Once n) out = (n, refl, out)
      out_cases (Twice d e) out = absurd (out tt)

      pub before_out : (i : ℕ) → i < length (code_of p f) → (IsMetInRange (met_at met i) → ⊥) → LeavesRange p f i
      before_out i lt out = let n = out_cases (met_at met i) out in (n.0, before_depth i n.0 lt n.1, n.2)

      pub after_out : (i : ℕ) → i < length (code_of p f) → (IsMetInRange (behind_node known met i) → ⊥) → LeavesRange p f i
      after_out i lt out = let n = out_cases (behind_node known met i) out in (n.0, after_depth i n.0 lt n.1, n.2)

      pub range_in : (i : ℕ) (n : ℤ) → IsMetInRange (met_at met i) → IsMetInRange (behind_node known met i) → IsDepthAt p f i n → IsDepthInRange n
      range_in i n a b d = elim (depth_once i n d) as (λ s. IsDepthInRange n) [ inl e ↦ subst IsMetInRange e a | inr e ↦ subst IsMetInRange e b ]

      pub depth_within_code : (i : ℕ) (n : ℤ) → IsDepthAt p f i n → i < length (code_of p f)
      depth_within_code i n (inl r) = reached_within i n r
      depth_within_code i n (inr (m, c, r, adds, e)) = reached_within i m r

      pub met_in_range : IsInRange p f → (i : ℕ) → i < length (code_of p f) → IsMetInRange (met_at met i)
      met_in_range range i lt = by_met (met_at met i) refl
        where
          by_met : (m : Met) → met_at met i ≡ m → IsMetInRange m
          by_met Never e = tt
          by_met (Twice d other) e = tt
          by_met (Once d) e = range i d (before_depth i d lt e)

      pub behind_in_range : IsInRange p f → (i : ℕ) → i < length (code_of p f) → IsMetInRange (behind_node known met i)
      behind_in_range range i lt = by_met (behind_node known met i) refl
        where
          by_met : (m : Met) → behind_node known met i ≡ m → IsMetInRange m
          by_met Never e = tt
          by_met (Twice d other) e = tt
          by_met (Once d) e = range i d (after_depth i d lt e)

-- ---- the greatest depth

pub deeper_above : (frame : ℕ) (o : Option ℕ) → frame ≤ deeper frame o
deeper_above frame None = omega arith
deeper_above frame (Some d) = omega arith

pub deeper_over : (frame : ℕ) (o : Option ℕ) (m : Met) (n : ℤ) → IsDepthOf m o → m ≡ Once n → n ≤ℤ pos (deeper frame o)
deeper_over frame o Never n is e = absurd (cc)
deeper_over frame o (Twice d e') n is e = absurd (cc)
deeper_over frame o (Once d) n (v, at, same) e =
    let le : v ≤ deeper frame (Some v) = omega arith in
    let there : v ≤ deeper frame o = subst (λ q. v ≤ deeper frame q) (sym at) le in
    let value : n ≡ pos v = (let x : d ≡ n = cc in sym x ∙ same) in
    omega (arith, ints, there, value)

pub deeper_is : (P : ℤ → Type 0) (frame : ℕ) (o : Option ℕ) (m : Met) → IsDepthOf m o → P (pos frame) → ((n : ℤ) → m ≡ Once n → P n) → P (pos (deeper frame o))
deeper_is P frame o Never is old new = subst (λ q. P (pos (deeper frame q))) (sym is) old
deeper_is P frame o (Twice d e) is old new = subst (λ q. P (pos (deeper frame q))) (sym is) old
deeper_is P frame o (Once d) (v, at, same) old new = subst (λ q. P (pos (deeper frame q))) (sym at) (by_order (less_or_not frame v))
  where
    less_or_not : (a b : ℕ) → (a < b) ⊎ (b ≤ a)
    less_or_not a b = cases_lt a b

    by_order : (frame < v) ⊎ (v ≤ frame) → P (pos (max frame v))
    by_order (inl lt) = let e : v ≡ max frame v = omega (arith, lt) in subst (λ w. P (pos w)) e (subst P same (new d refl))
    by_order (inr le) = let e : frame ≡ max frame v = omega (arith, le) in subst (λ w. P (pos w)) e old

-- ---- the depths of the first n places, and the greatest of them

pub record AreDepthsTo (p : Prog) (f : ℕ) (met : List Met) (n : ℕ) (depths : List (Option ℕ)) (frame : ℕ) : Type 0 where
  pub count : length depths ≡ n
  pub each : (j : ℕ) → j < n → IsDepthOf (met_at met j) (depth_in (slice_get depths j))
  pub most : (j : ℕ) (m : ℤ) → j < n → IsDepthAt p f j m → m ≤ℤ pos frame
  pub some : (at : ℕ) × IsDepthAt p f at (pos frame)

pub depths_start : (p : Prog) → IsWellFormed p → (f : ℕ) → f < length p.functions → (met : List Met) (depths : List (Option ℕ)) → depths ≡ [] → AreDepthsTo p f met 0 depths 0
depths_start p formed f inside met depths e = record {
  count = ap length e;
  each = λ j lt. absurd (omega (arith, lt));
  most = λ j m lt d. absurd (omega (arith, lt));
  some = (0, inl (reaches_start p f (place_at p f 0 (let one = code_some p formed f inside in omega (arith, one)))));
}

le_trans : (a : ℤ) (b c : ℕ) → a ≤ℤ pos b → b ≤ c → a ≤ℤ pos c
le_trans a b c x y = omega (arith, ints, x, y)

module _ (p : Prog) (f : ℕ) (met : List Met) (are : AreMet p f met) (single : AreSingle p f met) (formed : IsWellFormed p) (inside : f < length p.functions) (known : List (Option ℤ)) (knows : AreKnown p f known) where
  pub depths_more : (n : ℕ) (depths new : List (Option ℕ)) (frame : ℕ) (before behind : Option ℕ) → n < length (code_of p f) → AreDepthsTo p f met n depths frame → new ≡ depths ++ before ∷ [] → IsDepthOf (met_at met n) before
      → IsDepthOf (behind_node known met n) behind → AreDepthsTo p f met (n + 1) new (deeper (deeper frame before) behind)
  depths_more n depths new frame before behind lt d e is also = record {
    count = (let more = length_more depths before in let count = d.count in let whole = ap length e in omega (arith, more, count, whole));
    each = below_more (λ j. IsDepthOf (met_at met j) (depth_in (slice_get new j))) n old_each new_each;
    most = λ j m le depth. below_more (λ j. (m : ℤ) → IsDepthAt p f j m → m ≤ℤ pos (deeper (deeper frame before) behind)) n old_most new_most j le m depth;
    some = deeper_is Attained (deeper frame before) behind (behind_node known met n) also
        (deeper_is Attained frame before (met_at met n) is d.some (λ m once. (n, before_depth p f met are single formed inside known knows n m lt once)))
        (λ m once. (n, after_depth p f met are single formed inside known knows n m lt once));
  }
    where
      Attained : ℤ → Type 0
      Attained z = (at : ℕ) × IsDepthAt p f at z

      old_each : (j : ℕ) → j < n → IsDepthOf (met_at met j) (depth_in (slice_get new j))
      old_each j below =
          let same = ap (λ (xs : List (Option ℕ)). slice_get xs j) e ∙ get_more_before depths before j (let count = d.count in omega (arith, count, below)) in
          subst (λ o. IsDepthOf (met_at met j) (depth_in o)) (sym same) (d.each j below)

      new_each : IsDepthOf (met_at met n) (depth_in (slice_get new n))
      new_each =
          let same = ap (λ (xs : List (Option ℕ)). slice_get xs n) e ∙ get_more_last depths before n (sym d.count) in
          subst (λ o. IsDepthOf (met_at met n) (depth_in o)) (sym same) is

      old_most : (j : ℕ) → j < n → (m : ℤ) → IsDepthAt p f j m → m ≤ℤ pos (deeper (deeper frame before) behind)
      old_most j below m depth = le_trans m frame (deeper (deeper frame before) behind) (d.most j m below depth) (let a = deeper_above frame before in let b = deeper_above (deeper frame before) behind in omega (arith, a, b))

      new_most : (m : ℤ) → IsDepthAt p f n m → m ≤ℤ pos (deeper (deeper frame before) behind)
      new_most m depth = by_once (depth_once p f met are single formed inside known knows n m depth)
        where
          by_once : (met_at met n ≡ Once m) ⊎ (behind_node known met n ≡ Once m) → m ≤ℤ pos (deeper (deeper frame before) behind)
          by_once (inl once) = le_trans m (deeper frame before) (deeper (deeper frame before) behind) (deeper_over frame before (met_at met n) m is once) (deeper_above (deeper frame before) behind)
          by_once (inr once) = deeper_over (deeper frame before) behind (behind_node known met n) m also once

  pub depths_end : (n : ℕ) (depths : List (Option ℕ)) (frame : ℕ) → n ≡ length (code_of p f) → AreDepthsTo p f met n depths frame → KnowsWrites p f → IsLevel p f → IsInRange p f → AreDepthsIn p f (record { depths = depths; frame = frame })
  depths_end n depths frame all d writes level range = record {
    known = writes;
    agreed = agreed p f met are single;
    level = level;
    range = range;
    some = λ i m e. reach i m (slice_get depths i) refl e;
    none = λ i m e r. never i m (reached_in i m r) (single_once p f met are single i m r) e;
    greatest = record { at = d.some.0; some = d.some.1; most = λ i m depth. d.most i m (let lt = depth_within_code p f met are single formed inside known knows i m depth in omega (arith, lt, all)) depth };
  }
    where
      reached_in : (i : ℕ) (m : ℤ) → Reaches p f i m → i < n
      reached_in i m r = let here = r.here in let lt = place_within p f i here.0 here.1 in omega (arith, lt, all)

      once_is : (mt : Met) (m : ℕ) → IsDepthOf mt (Some m) → mt ≡ Once (pos m)
      once_is Never m is = absurd (cc)
      once_is (Twice a b) m is = absurd (cc)
      once_is (Once a) m (v, e, same) = let number : m ≡ v = cc in ap Once (same ∙ ap pos (sym number))

      reach : (i m : ℕ) (o : Option (Option ℕ)) → slice_get depths i ≡ o → depth_in o ≡ Some m → Reaches p f i (pos m)
      reach i m None at e = absurd (cc)
      reach i m (Some o) at e =
          let within = get_within depths i o at in
          let count = d.count in
          let is = subst (λ q. IsDepthOf (met_at met i) (depth_in q)) at (d.each i (omega (arith, within, count))) in
          once_reaches p f met are single i (pos m) (omega (arith, within, count, all)) (once_is (met_at met i) m (subst (IsDepthOf (met_at met i)) e is))

      no_depth : (mt : Met) (m : ℤ) → mt ≡ Once m → IsDepthOf mt None → ⊥
      no_depth Never m e is = absurd (cc)
      no_depth (Twice a b) m e is = absurd (cc)
      no_depth (Once a) m e (v, none, same) = absurd (cc)

      never : (i : ℕ) (m : ℤ) → i < n → met_at met i ≡ Once m → depth_in (slice_get depths i) ≡ None → ⊥
      never i m lt once e = no_depth (met_at met i) m once (subst (IsDepthOf (met_at met i)) e (d.each i lt))
