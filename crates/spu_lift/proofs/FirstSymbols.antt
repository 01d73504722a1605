-- The first symbol of each extent of a sorted list, one symbol after another.
use Rattle.std.proofs.Common.{◌≡◌, ℕ, zero, suc, ◌+◌, ◌-◌, ◌<◌, ◌≤◌, ◌⊎◌, Bool, true, false, not, List, [], ◌∷◌, ◌++◌, length, get_or, Option, Some, None, slice_get, refl, sym, ap, subst, ◌∙◌, inl, inr, arith, length-append}
use Rattle.std.specs.Option.{option_map_or}
use Rattle.std.proofs.lemmas.Bool.{cases_Bool, cases_lt}
use Rattle.std.proofs.lemmas.Option.{none-some, same_Some, slice_get-get_or, slice_get_within}
use Rattle.spu_lift.specs.declared.functions.FunctionSymbol.{FunctionSymbol}
use Rattle.spu_lift.specs.Extents.{Extent, IsEarlier}
use Rattle.spu_lift.specs.FunctionTables.{AreRisingExtents, AreSorted, HasFunction, extent_in, extent_key, is_same}
use Rattle.spu_lift.proofs.Gathering.{in_pushed, last_pushed, left_joined}
use Rattle.spu_lift.proofs.SymbolOrder.{earlier_along, extent_cases, not_before, not_itself, same_key, same_tested, tested_same}

-- a symbol of the first n, and none in front of it has its extent
pub record IsFirstOf (ss : List FunctionSymbol) (n : ℕ) (f : FunctionSymbol) : Type 0 where
  pub b : ℕ
  pub less : b < n
  pub there : slice_get ss b ≡ Some f
  pub first : (c : ℕ) (g : FunctionSymbol) → c < b → slice_get ss c ≡ Some g → extent_in g ≡ extent_in f → ⊥

-- the first symbol of each extent among the first n symbols, in order
pub record AreFirsts (ss : List FunctionSymbol) (n : ℕ) (fs : List FunctionSymbol) : Type 0 where
  pub kept : (a : ℕ) (f : FunctionSymbol) → slice_get fs a ≡ Some f → IsFirstOf ss n f
  pub rising : AreRisingExtents fs
  pub all : (b : ℕ) (g : FunctionSymbol) → b < n → slice_get ss b ≡ Some g → HasFunction fs (extent_in g)
  pub few : length fs ≤ n

pub no_firsts : (ss : List FunctionSymbol) → AreFirsts ss 0 []
no_firsts ss = record {
  kept = λ a f there. absurd (none-some f there);
  rising = λ i j f g less one two. absurd (none-some f one);
  all = λ b g less there. absurd (omega arith);
  few = omega arith;
}

still_first : (ss : List FunctionSymbol) (n : ℕ) (f : FunctionSymbol) → IsFirstOf ss n f → IsFirstOf ss (n + 1) f
still_first ss n f is = record { b = is.b; less = let less = is.less in omega arith; there = is.there; first = is.first }

abbrev last_of : List FunctionSymbol → Option FunctionSymbol
last_of fs = slice_get fs (length fs - 1)

-- the symbol's extent is that of the last one
same_more : (ss : List FunctionSymbol) (n : ℕ) (fs : List FunctionSymbol) (g l : FunctionSymbol) → slice_get ss n ≡ Some g → AreFirsts ss n fs → last_of fs ≡ Some l → extent_in l ≡ extent_in g → AreFirsts ss (n + 1) fs
same_more ss n fs g l there firsts last same = record {
  kept = λ a f at. still_first ss n f (firsts.kept a f at);
  rising = firsts.rising;
  all = λ b h less at. all b h less at;
  few = let few = firsts.few in omega arith;
}
  where
    all : (b : ℕ) (h : FunctionSymbol) → b < n + 1 → slice_get ss b ≡ Some h → HasFunction fs (extent_in h)
    all b h less at = elim (cases_lt b n) [
      | inl before ↦ firsts.all b h before at
      | inr here ↦
          let these : b ≡ n = omega arith in
          let is : g ≡ h = same_Some g h (sym there ∙ ap (slice_get ss) (sym these) ∙ at) in
          record { i = length fs - 1; f = l; there = last; is = same ∙ ap extent_in is }
    ]

-- another one's extent is behind those of all before it
behind_all : (ss : List FunctionSymbol) (n : ℕ) (fs : List FunctionSymbol) (g : FunctionSymbol) → AreSorted ss → slice_get ss n ≡ Some g → AreFirsts ss n fs
    → ((l : FunctionSymbol) → last_of fs ≡ Some l → extent_in l ≡ extent_in g → ⊥) → (a : ℕ) (f : FunctionSymbol) → slice_get fs a ≡ Some f → IsEarlier (extent_key f) (extent_key g)
behind_all ss n fs g sorted there firsts fresh a f at =
    elim (extent_cases f g) [
      | inl less ↦ less
      | inr rest ↦ elim rest [
        | inl same ↦ absurd (by same (cases_lt a (length fs - 1)))
        | inr more ↦ absurd (before a f at more)
      ]
    ]
  where
    within : a < length fs
    within = slice_get_within fs a f at

    before : (c : ℕ) (h : FunctionSymbol) → slice_get fs c ≡ Some h → IsEarlier (extent_key g) (extent_key h) → ⊥
    before c h here more =
        let first = firsts.kept c h here in
        let less : first.b < n = first.less in
        not_before ss first.b n h g sorted (omega arith) first.there there more

    last_is : (o : Option FunctionSymbol) → last_of fs ≡ o → a < length fs - 1 → extent_in f ≡ extent_in g → ⊥
    last_is None none less same = none-some (get_or fs (length fs - 1) f) (sym none ∙ slice_get-get_or fs (length fs - 1) f (omega (arith, within)))
    last_is (Some l) last less same =
        let rise : IsEarlier (extent_key f) (extent_key l) = firsts.rising a (length fs - 1) f l less at last in
        before (length fs - 1) l last (subst (λ ks. IsEarlier ks (extent_key l)) (same_key f g same) rise)

    by : extent_in f ≡ extent_in g → (a < length fs - 1) ⊎ (length fs - 1 ≤ a) → ⊥
    by same (inl less) = last_is (last_of fs) refl less same
    by same (inr end) =
        let here : a ≡ length fs - 1 = omega (arith, within) in
        fresh f (ap (slice_get fs) (sym here) ∙ at) same

new_more : (ss : List FunctionSymbol) (n : ℕ) (fs : List FunctionSymbol) (g : FunctionSymbol) → AreSorted ss → slice_get ss n ≡ Some g → AreFirsts ss n fs
    → ((l : FunctionSymbol) → last_of fs ≡ Some l → extent_in l ≡ extent_in g → ⊥) → AreFirsts ss (n + 1) (fs ++ g ∷ [])
new_more ss n fs g sorted there firsts fresh = record {
  kept = kept;
  rising = rising;
  all = all;
  few = let few = firsts.few in let size : length (fs ++ g ∷ []) ≡ length fs + 1 = length-append fs (g ∷ []) in omega arith;
}
  where
    behind : (a : ℕ) (f : FunctionSymbol) → slice_get fs a ≡ Some f → IsEarlier (extent_key f) (extent_key g)
    behind = behind_all ss n fs g sorted there firsts fresh

    new : IsFirstOf ss (n + 1) g
    new = record {
      b = n;
      less = omega arith;
      there = there;
      first = λ c h less at same.
          let has = firsts.all c h less at in
          let key : extent_key has.f ≡ extent_key g = same_key has.f g (has.is ∙ same) in
          not_itself (extent_key g) (subst (λ ks. IsEarlier ks (extent_key g)) key (behind has.i has.f has.there));
    }

    kept : (a : ℕ) (f : FunctionSymbol) → slice_get (fs ++ g ∷ []) a ≡ Some f → IsFirstOf ss (n + 1) f
    kept a f at = elim (in_pushed fs g a f at) [
      | inl old ↦ still_first ss n f (firsts.kept a f old)
      | inr these ↦ subst (IsFirstOf ss (n + 1)) (sym these.1) new
    ]

    rising : AreRisingExtents (fs ++ g ∷ [])
    rising i j f h less one two = elim (in_pushed fs g j h two) [
      | inl old ↦
          let within : j < length fs = slice_get_within fs j h old in
          elim (in_pushed fs g i f one) [
            | inl both ↦ firsts.rising i j f h less both old
            | inr end ↦ let last = end.0 in absurd (omega arith)
          ]
      | inr these ↦
          let last = these.0 in
          elim (in_pushed fs g i f one) [
            | inl old ↦ subst (λ (x : FunctionSymbol). IsEarlier (extent_key f) (extent_key x)) (sym these.1) (behind i f old)
            | inr end ↦ let also = end.0 in absurd (omega arith)
          ]
    ]

    all : (b : ℕ) (h : FunctionSymbol) → b < n + 1 → slice_get ss b ≡ Some h → HasFunction (fs ++ g ∷ []) (extent_in h)
    all b h less at = elim (cases_lt b n) [
      | inl before ↦
          let has = firsts.all b h before at in
          record { i = has.i; f = has.f; there = left_joined fs (g ∷ []) has.i has.f has.there; is = has.is }
      | inr here ↦
          let these : b ≡ n = omega arith in
          let is : g ≡ h = same_Some g h (sym there ∙ ap (slice_get ss) (sym these) ∙ at) in
          record { i = length fs; f = g; there = last_pushed fs g; is = ap extent_in is }
    ]

abbrev pub is_new_by : FunctionSymbol → Option FunctionSymbol → Bool
is_new_by g o = option_map_or (λ l. not (is_same l g)) o true

pub first_kept : (ss : List FunctionSymbol) (n : ℕ) (fs seen : List FunctionSymbol) (g : FunctionSymbol) → seen ≡ fs → is_new_by g (last_of seen) ≡ false → slice_get ss n ≡ Some g → AreFirsts ss n fs → AreFirsts ss (n + 1) fs
first_kept ss n fs seen g are old there firsts = by (last_of fs) refl
  where
    old_here : is_new_by g (last_of fs) ≡ false
    old_here = ap (λ (xs : List FunctionSymbol). is_new_by g (last_of xs)) (sym are) ∙ old

    by : (o : Option FunctionSymbol) → last_of fs ≡ o → AreFirsts ss (n + 1) fs
    by None last = let bad : true ≡ false = ap (is_new_by g) (sym last) ∙ old_here in absurd (cc)
    by (Some l) last =
        let test : not (is_same l g) ≡ false = ap (is_new_by g) (sym last) ∙ old_here in
        let same : is_same l g ≡ true = elim (cases_Bool (is_same l g)) [ inl is ↦ is | inr other ↦ let bad : not (is_same l g) ≡ true = ap not other in absurd (cc) ] in
        same_more ss n fs g l there firsts last (tested_same l g same)

pub first_pushed : (ss : List FunctionSymbol) (n : ℕ) (fs seen : List FunctionSymbol) (g : FunctionSymbol) → AreSorted ss → seen ≡ fs → is_new_by g (last_of seen) ≡ true → slice_get ss n ≡ Some g → AreFirsts ss n fs
    → AreFirsts ss (n + 1) (fs ++ g ∷ [])
first_pushed ss n fs seen g sorted are new there firsts = new_more ss n fs g sorted there firsts (λ l last same.
    let new_here : is_new_by g (last_of fs) ≡ true = ap (λ (xs : List FunctionSymbol). is_new_by g (last_of xs)) (sym are) ∙ new in
    let test : not (is_same l g) ≡ true = ap (is_new_by g) (sym last) ∙ new_here in
    let is : is_same l g ≡ true = same_tested l g same in
    let bad : not (is_same l g) ≡ false = ap not is in
    absurd (cc))
