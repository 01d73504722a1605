-- The functions of one section stand together in a sorted list.
use Rattle.std.proofs.Common.{◌≡◌, ℕ, zero, suc, ◌+◌, ◌-◌, ◌<◌, ◌≤◌, ◌⊎◌, Bool, true, false, List, [], ◌∷◌, length, take, drop, get_or, filter, Some, slice_get, refl, sym, ap, subst, ◌∙◌, inl, inr, arith}
use Rattle.std.specs.List.Sorted.{IsPartitionPoint, IsPartitionedBy}
use Rattle.std.proofs.lemmas.Bool.{cases_lt}
use Rattle.std.proofs.lemmas.Bool.Decides.{nat_tests}
use Rattle.std.proofs.lemmas.List.{get_or-drop, length-drop}
use Rattle.std.proofs.lemmas.Option.{get_or_from_slice_get, slice_get-get_or, slice_get_within}
use Rattle.spu_lift.specs.declared.functions.FunctionSymbol.{FunctionSymbol}
use Rattle.spu_lift.specs.Extents.{IsEarlier}
use Rattle.spu_lift.specs.FunctionTables.{AreSorted, extent_key, is_before, is_in}
use Rattle.spu_lift.proofs.SymbolOrder.{not_before}
use Rattle.spu_lift.proofs.PlaceLemmas.{in_both, in_parts}

-- ---- a part of a list

-- where just a middle part passes a test, the test filters it out
pub filter_middle : {X : Type 0} (p : X → Bool) (xs : List X) (a c : ℕ) → ((i : ℕ) (x : X) → slice_get xs i ≡ Some x → i < a → p x ≡ false)
    → ((i : ℕ) (x : X) → slice_get xs i ≡ Some x → a ≤ i → i < a + c → p x ≡ true) → ((i : ℕ) (x : X) → slice_get xs i ≡ Some x → a + c ≤ i → p x ≡ false) → take c (drop a xs) ≡ filter p xs
filter_middle p [] zero zero before inside behind = refl
filter_middle p [] zero (suc c) before inside behind = refl
filter_middle p [] (suc a) zero before inside behind = refl
filter_middle p [] (suc a) (suc c) before inside behind = refl
filter_middle p (x ∷ xs) zero zero before inside behind =
    let out : p x ≡ false = behind 0 x refl (omega arith) in
    rw out (filter_middle p xs zero zero (λ i y at less. absurd (omega arith)) (λ i y at from less. absurd (omega arith)) (λ i y at past. behind (suc i) y at (omega arith)))
filter_middle p (x ∷ xs) zero (suc c) before inside behind =
    let in_part : p x ≡ true = inside 0 x refl (omega arith) (omega arith) in
    rw in_part (ap (λ ys. x ∷ ys) (filter_middle p xs zero c (λ i y at less. absurd (omega arith)) (λ i y at from less. inside (suc i) y at (omega arith) (omega arith)) (λ i y at past. behind (suc i) y at (omega arith))))
filter_middle p (x ∷ xs) (suc a) c before inside behind =
    let out : p x ≡ false = before 0 x refl (omega arith) in
    rw out (filter_middle p xs a c (λ i y at less. before (suc i) y at (omega arith)) (λ i y at from less. inside (suc i) y at (omega arith) (omega arith)) (λ i y at past. behind (suc i) y at (omega arith)))

-- ---- sections

before_cases : (g : FunctionSymbol) (n k : ℕ) → is_before g n k ≡ true → (g.object < n) ⊎ ((g.object ≡ n) × (g.section < k))
before_cases g n k is = elim (cases_lt g.object n) [
  | inl less ↦ inl less
  | inr more ↦ inr (grind (arith, nat_tests), grind (arith, nat_tests))
]

before_by : (g : FunctionSymbol) (n k : ℕ) → (g.object < n) ⊎ ((g.object ≡ n) × (g.section < k)) → is_before g n k ≡ true
before_by g n k (inl less) = grind (arith, nat_tests)
before_by g n k (inr both) = let same = both.0 in let less = both.1 in grind (arith, nat_tests)

before_along : (f g : FunctionSymbol) (n k : ℕ) → is_before g n k ≡ true → (IsEarlier (extent_key g) (extent_key f) → ⊥) → is_before f n k ≡ true
before_along f g n k is ordered = by (before_cases g n k is) (cases_lt f.object n) (cases_lt n f.object) (cases_lt f.section k)
  where
    by : (g.object < n) ⊎ ((g.object ≡ n) × (g.section < k)) → (f.object < n) ⊎ (n ≤ f.object) → (n < f.object) ⊎ (f.object ≤ n) → (f.section < k) ⊎ (k ≤ f.section) → is_before f n k ≡ true
    by one (inl less) more section = before_by f n k (inl less)
    by (inl one) (inr from) more section = absurd (ordered (inl (omega arith)))
    by (inr one) (inr from) (inl more) section = let same = one.0 in absurd (ordered (inl (omega arith)))
    by (inr one) (inr from) (inr to) (inl section) = before_by f n k (inr (omega arith, section))
    by (inr one) (inr from) (inr to) (inr section) =
        let same = one.0 in
        let less = one.1 in
        absurd (ordered (inr (omega arith, inl (omega arith))))

in_along : (f g : FunctionSymbol) (n k : ℕ) → is_in g n k ≡ true → is_before f n k ≡ false → (IsEarlier (extent_key g) (extent_key f) → ⊥) → is_in f n k ≡ true
in_along f g n k is behind ordered = by (cases_lt n f.object) (cases_lt f.object n) (cases_lt k f.section) (cases_lt f.section k)
  where
    here : (g.object ≡ n) × (g.section ≡ k)
    here = in_parts g n k is

    not_less : (f.object < n) ⊎ ((f.object ≡ n) × (f.section < k)) → ⊥
    not_less less = let bad : is_before f n k ≡ true = before_by f n k less in absurd (cc)

    by : (n < f.object) ⊎ (f.object ≤ n) → (f.object < n) ⊎ (n ≤ f.object) → (k < f.section) ⊎ (f.section ≤ k) → (f.section < k) ⊎ (k ≤ f.section) → is_in f n k ≡ true
    by (inl more) less above below = let same = here.0 in absurd (ordered (inl (omega arith)))
    by (inr to) (inl less) above below = absurd (not_less (inl less))
    by (inr to) (inr from) (inl above) below =
        let same = here.0 in
        let also = here.1 in
        absurd (ordered (inr (omega arith, inl (omega arith))))
    by (inr to) (inr from) (inr above) (inl below) = let even : f.object ≡ n = omega arith in absurd (not_less (inr (even, below)))
    by (inr to) (inr from) (inr above) (inr below) = in_both f n k (omega arith) (omega arith)

before_not_in : (f : FunctionSymbol) (n k : ℕ) → is_before f n k ≡ true → is_in f n k ≡ false
before_not_in f n k is = by (before_cases f n k is)
  where
    by : (f.object < n) ⊎ ((f.object ≡ n) × (f.section < k)) → is_in f n k ≡ false
    by (inl less) = grind (arith, nat_tests)
    by (inr both) = let less = both.1 in grind (arith, nat_tests)

-- ---- searches

pub befores_first : (fs : List FunctionSymbol) (n k : ℕ) → AreSorted fs → IsPartitionedBy (λ (f : FunctionSymbol). is_before f n k) fs
befores_first fs n k sorted i j d le within is =
    before_along (get_or fs i d) (get_or fs j d) n k is (not_before fs i j (get_or fs i d) (get_or fs j d) sorted le (slice_get-get_or fs i d (omega arith)) (slice_get-get_or fs j d within))

pub ins_first : (fs : List FunctionSymbol) (n k a : ℕ) → AreSorted fs → a ≤ length fs → IsPartitionPoint (λ (f : FunctionSymbol). is_before f n k ≡ true) (λ (f : FunctionSymbol). is_before f n k ≡ false) fs a
    → IsPartitionedBy (λ (f : FunctionSymbol). is_in f n k) (drop a fs)
ins_first fs n k a sorted low parts i j d le within is =
    let size : length (drop a fs) ≡ length fs - a = length-drop a fs in
    let one : get_or (drop a fs) i d ≡ get_or fs (a + i) d = get_or-drop a fs i d in
    let two : get_or (drop a fs) j d ≡ get_or fs (a + j) d = get_or-drop a fs j d in
    let there : is_in (get_or fs (a + j) d) n k ≡ true = ap (λ (f : FunctionSymbol). is_in f n k) (sym two) ∙ is in
    let less : a + i < length fs = omega arith in
    let last : a + j < length fs = omega arith in
    ap (λ (f : FunctionSymbol). is_in f n k) one
    ∙ in_along (get_or fs (a + i) d) (get_or fs (a + j) d) n k there (parts.1 (a + i) d (omega arith) less)
    (not_before fs (a + i) (a + j) (get_or fs (a + i) d) (get_or fs (a + j) d) sorted (omega arith) (slice_get-get_or fs (a + i) d less) (slice_get-get_or fs (a + j) d last))

pub within_is : (fs : List FunctionSymbol) (n k a c : ℕ) → a ≤ length fs → c ≤ length (drop a fs) → IsPartitionPoint (λ (f : FunctionSymbol). is_before f n k ≡ true) (λ (f : FunctionSymbol). is_before f n k ≡ false) fs a
    → IsPartitionPoint (λ (f : FunctionSymbol). is_in f n k ≡ true) (λ (f : FunctionSymbol). is_in f n k ≡ false) (drop a fs) c → take c (drop a fs) ≡ filter (λ (f : FunctionSymbol). is_in f n k) fs
within_is fs n k a c low most parts rest = filter_middle (λ (f : FunctionSymbol). is_in f n k) fs a c before inside behind
  where
    size : length (drop a fs) ≡ length fs - a
    size = length-drop a fs

    moved : (i : ℕ) (f : FunctionSymbol) → slice_get fs i ≡ Some f → a ≤ i → get_or (drop a fs) (i - a) f ≡ f
    moved i f at from = let index : a + (i - a) ≡ i = omega arith in get_or-drop a fs (i - a) f ∙ ap (λ m. get_or fs m f) index ∙ get_or_from_slice_get fs i f f at

    before : (i : ℕ) (f : FunctionSymbol) → slice_get fs i ≡ Some f → i < a → is_in f n k ≡ false
    before i f at less = before_not_in f n k (subst (λ (g : FunctionSymbol). is_before g n k ≡ true) (get_or_from_slice_get fs i f f at) (parts.0 i f (omega arith) less))

    inside : (i : ℕ) (f : FunctionSymbol) → slice_get fs i ≡ Some f → a ≤ i → i < a + c → is_in f n k ≡ true
    inside i f at from less = subst (λ (g : FunctionSymbol). is_in g n k ≡ true) (moved i f at from) (rest.0 (i - a) f (omega arith) (omega arith))

    behind : (i : ℕ) (f : FunctionSymbol) → slice_get fs i ≡ Some f → a + c ≤ i → is_in f n k ≡ false
    behind i f at past =
        let within : i < length fs = slice_get_within fs i f at in
        subst (λ (g : FunctionSymbol). is_in g n k ≡ false) (moved i f at (omega arith)) (rest.1 (i - a) f (omega arith) (omega (arith, size)))
