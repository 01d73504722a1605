-- The function at a place, by how many begin there or before.
use Rattle.std.proofs.Common.{◌≡◌, ℕ, ◌+◌, ◌-◌, ◌*◌, ◌/◌, ◌%◌, ◌<◌, ◌≤◌, ◌⊎◌, true, false, List, length, get_or, slice_get, Option, None, Some, IfNone, ℤ, pos, sym, ap, subst, ◌∙◌, inl, inr, arith}
use Rattle.std.specs.Int.{FitsUnsignedBits}
use Rattle.std.specs.List.Sorted.{IsPartitionPoint, IsPartitionedBy}
use Rattle.std.proofs.lemmas.Bool.{cases_lt}
use Rattle.std.proofs.lemmas.Bool.Decides.{nat_tests}
use Rattle.std.proofs.lemmas.Option.{slice_get_within, get_or_from_slice_get, slice_get-get_or}
use Rattle.spu_word.specs.declared.limits.TheConstants.{WORD_SIZE}
use Rattle.spu_lift.specs.declared.relocations.Spot.{Spot}
use Rattle.spu_lift.specs.declared.functions.FunctionSymbol.{FunctionSymbol}
use Rattle.spu_lift.specs.declared.functions.Place.{Place}
use Rattle.spu_lift.specs.FunctionTables.{AreAligned, AreApart, AreOrdered, HasPlaces, IsPlaceFor, IsPlaceIn, begins_by, is_in, start_of}

abbrev Order : FunctionSymbol → Spot → Type 0
Order f q = (f.object < q.object) ⊎ ((f.object ≡ q.object) × ((f.section < q.section) ⊎ ((f.section ≡ q.section) × (f.offset ≤ q.offset))))

pub order_of : (f : FunctionSymbol) (q : Spot) → begins_by f q ≡ true → Order f q
order_of f q h = elim (cases_lt f.object q.object) [
  | inl less ↦ inl less
  | inr more ↦ elim (cases_lt f.section q.section) [
    | inl less ↦ inr (grind (arith, nat_tests), inl less)
    | inr even ↦ inr (grind (arith, nat_tests), inr (grind (arith, nat_tests), grind (arith, nat_tests)))
  ]
]

pub of_order : (f : FunctionSymbol) (q : Spot) → Order f q → begins_by f q ≡ true
of_order f q (inl less) = grind (arith, nat_tests)
of_order f q (inr (same, inl less)) = grind (arith, nat_tests)
of_order f q (inr (same, inr (even, at))) = grind (arith, nat_tests)

order_along : (f g : FunctionSymbol) (q : Spot) → Order f (start_of g) → Order g q → Order f q
order_along f g q (inl a) (inl b) = inl (omega arith)
order_along f g q (inl a) (inr (e, b)) = inl (omega arith)
order_along f g q (inr (e, a)) (inl b) = inl (omega arith)
order_along f g q (inr (e, inl a)) (inr (m, inl b)) = inr (omega arith, inl (omega arith))
order_along f g q (inr (e, inl a)) (inr (m, inr (n, b))) = inr (omega arith, inl (omega arith))
order_along f g q (inr (e, inr (l, a))) (inr (m, inl b)) = inr (omega arith, inl (omega arith))
order_along f g q (inr (e, inr (l, a))) (inr (m, inr (n, b))) = inr (omega arith, inr (omega arith, omega arith))

begins_along : (f g : FunctionSymbol) (q : Spot) → begins_by f (start_of g) ≡ true → begins_by g q ≡ true → begins_by f q ≡ true
begins_along f g q one two = of_order f q (order_along f g q (order_of f (start_of g) one) (order_of g q two))

pub ordered_parts : (fs : List FunctionSymbol) (q : Spot) → AreOrdered fs → IsPartitionedBy (λ f. begins_by f q) fs
ordered_parts fs q ordered = λ i j d le less here. begins_along (get_or fs i d) (get_or fs j d) q (ordered i j d le less) here

begins_here : (f : FunctionSymbol) (q : Spot) (w : ℕ) → is_in f q.object q.section ≡ true → q.offset ≡ f.offset + w → begins_by f q ≡ true
begins_here f q w inside at = grind (arith, nat_tests)

-- one that begins between another and a place of that other lies in the same section
between : (f g : FunctionSymbol) (q : Spot) → begins_by f (start_of g) ≡ true → begins_by g q ≡ true → is_in f q.object q.section ≡ true → is_in g f.object f.section ≡ true
between f g q one two inside = grind (arith, nat_tests)

between_at : (f g : FunctionSymbol) (q : Spot) → begins_by f (start_of g) ≡ true → begins_by g q ≡ true → is_in f q.object q.section ≡ true → g.offset ≤ q.offset
between_at f g q one two inside = grind (arith, nat_tests)

-- only the last that begins by a place can hold it
pub only_last : (fs : List FunctionSymbol) (q : Spot) (n : ℕ) → AreOrdered fs → AreApart fs → n ≤ length fs
    → IsPartitionPoint (λ (f : FunctionSymbol). begins_by f q ≡ true) (λ (f : FunctionSymbol). begins_by f q ≡ false) fs n
    → (p : Place) → IsPlaceIn fs q p → p.function ≡ n
only_last fs q n ordered apart within point p h =
    let k : ℕ = p.function - 1 in
    let from : 1 ≤ p.function = h.from in
    let less : p.function - 1 < length fs = slice_get_within fs (p.function - 1) h.f h.there in
    let is : get_or fs (p.function - 1) h.f ≡ h.f = get_or_from_slice_get fs (p.function - 1) h.f h.f h.there in
    let here : begins_by h.f q ≡ true = begins_here h.f q (WORD_SIZE * p.word) h.section h.at in
    let begins : begins_by (get_or fs (p.function - 1) h.f) q ≡ true = rw is here in
    elim (cases_lt (p.function - 1) n) [
      | inr past ↦ let not : begins_by (get_or fs (p.function - 1) h.f) q ≡ false = point.1 (p.function - 1) h.f past less in absurd (cc)
      | inl below ↦ elim (cases_lt p.function n) [
        | inr last ↦ omega arith
        | inl more ↦
            let d = h.f in
            let g = get_or fs (n - 1) h.f in
            let order : begins_by (get_or fs (p.function - 1) h.f) (start_of (get_or fs (n - 1) h.f)) ≡ true = ordered (p.function - 1) (n - 1) h.f (omega arith) (omega arith) in
            let one : begins_by h.f (start_of (get_or fs (n - 1) h.f)) ≡ true = rw is at order in
            let two : begins_by (get_or fs (n - 1) h.f) q ≡ true = point.0 (n - 1) h.f (omega arith) (omega arith) in
            let same : is_in (get_or fs (n - 1) h.f) h.f.object h.f.section ≡ true = between h.f (get_or fs (n - 1) h.f) q one two h.section in
            let at : (get_or fs (n - 1) h.f).offset ≤ q.offset = between_at h.f (get_or fs (n - 1) h.f) q one two h.section in
            let ends : (get_or fs (p.function - 1) h.f).offset + (get_or fs (p.function - 1) h.f).size ≤ (get_or fs (n - 1) h.f).offset
            = apart (p.function - 1) (n - 1) h.f (omega arith) (omega arith) (rw is same) in
            let end : h.f.offset + h.f.size ≤ (get_or fs (n - 1) h.f).offset = rw is at ends in
            let place : q.offset ≡ h.f.offset + WORD_SIZE * p.word = h.at in
            let inside : WORD_SIZE * p.word < h.f.size = h.inside in
            absurd (omega arith)
      ]
    ]

-- none where none begins by the place
pub none_before : (fs : List FunctionSymbol) (q : Spot) (n : ℕ) → AreOrdered fs → AreApart fs → n ≤ length fs
    → IsPartitionPoint (λ (f : FunctionSymbol). begins_by f q ≡ true) (λ (f : FunctionSymbol). begins_by f q ≡ false) fs n → n ≡ 0
    → (p : Place) → IsPlaceIn fs q p → ⊥
none_before fs q n ordered apart within point zero p h =
    let e : p.function ≡ n = only_last fs q n ordered apart within point p h in
    let from : 1 ≤ p.function = h.from in
    absurd (omega arith)

-- none at a place that is no multiple of 4
pub none_between : (fs : List FunctionSymbol) (q : Spot) → AreAligned fs → (q.offset % WORD_SIZE ≡ 0 → ⊥) → (p : Place) → IsPlaceIn fs q p → ⊥
none_between fs q aligned uneven p h =
    let less : p.function - 1 < length fs = slice_get_within fs (p.function - 1) h.f h.there in
    let is : get_or fs (p.function - 1) h.f ≡ h.f = get_or_from_slice_get fs (p.function - 1) h.f h.f h.there in
    let even : h.f.offset % 4 ≡ 0 = rw is at (aligned (p.function - 1) h.f less) in
    let at : q.offset ≡ h.f.offset + 4 * p.word = h.at in
    let sum : q.offset % 4 ≡ 0 = omega arith in
    uneven sum

-- the last one holds the place
pub found_last : (fs : List FunctionSymbol) (q : Spot) (n : ℕ) (d : FunctionSymbol) → AreAligned fs → n ≤ length fs → (n ≡ 0 → ⊥) → q.offset % WORD_SIZE ≡ 0
    → IsPartitionPoint (λ (f : FunctionSymbol). begins_by f q ≡ true) (λ (f : FunctionSymbol). begins_by f q ≡ false) fs n
    → is_in (get_or fs (n - 1) d) q.object q.section ≡ true → q.offset - (get_or fs (n - 1) d).offset < (get_or fs (n - 1) d).size
    → IsPlaceIn fs q (record { function = n; word = (q.offset - (get_or fs (n - 1) d).offset) / 4 })
found_last fs q n d aligned within some even point inside near =
    let pos : 1 ≤ n = omega arith in
    let less : n - 1 < length fs = omega arith in
    let start : (get_or fs (n - 1) d).offset % 4 ≡ 0 = aligned (n - 1) d less in
    let begins : begins_by (get_or fs (n - 1) d) q ≡ true = point.0 (n - 1) d (omega arith) (omega arith) in
    let behind : (get_or fs (n - 1) d).offset ≤ q.offset = grind (arith, nat_tests) in
    record {
      from = pos;
      f = get_or fs (n - 1) d;
      there = slice_get-get_or fs (n - 1) d less;
      section = inside;
      at = omega arith;
      inside = omega arith;
    }

-- no one does where the last one doesn't
pub none_last : (fs : List FunctionSymbol) (q : Spot) (n : ℕ) (d : FunctionSymbol) → AreOrdered fs → AreApart fs → n ≤ length fs
    → IsPartitionPoint (λ (f : FunctionSymbol). begins_by f q ≡ true) (λ (f : FunctionSymbol). begins_by f q ≡ false) fs n
    → (is_in (get_or fs (n - 1) d) q.object q.section ≡ true → q.offset - (get_or fs (n - 1) d).offset < (get_or fs (n - 1) d).size → ⊥)
    → (p : Place) → IsPlaceIn fs q p → ⊥
none_last fs q n d ordered apart within point misses p h =
    let e : p.function ≡ n = only_last fs q n ordered apart within point p h in
    let there : slice_get fs (n - 1) ≡ Some h.f = ap (λ m. slice_get fs (m - 1)) (sym e) ∙ h.there in
    let is : get_or fs (n - 1) d ≡ h.f = get_or_from_slice_get fs (n - 1) h.f d there in
    let at : q.offset ≡ h.f.offset + WORD_SIZE * p.word = h.at in
    let inside : WORD_SIZE * p.word < h.f.size = h.inside in
    let near : q.offset - h.f.offset < h.f.size = omega arith in
    misses (rw is h.section) (rw is near)

-- a place of a function is small
pub place_small : (fs : List FunctionSymbol) (q : Spot) (p : Place) → HasPlaces fs → IsPlaceIn fs q p → q.offset < 4294967296
place_small fs q p places is =
    let within : p.function - 1 < length fs = slice_get_within fs (p.function - 1) is.f is.there in
    let same : get_or fs (p.function - 1) is.f ≡ is.f = get_or_from_slice_get fs (p.function - 1) is.f is.f is.there in
    let small : is.f.offset + is.f.size < 4294967296 = rw same at (places.small (p.function - 1) is.f within) in
    let at = is.at in
    let inside = is.inside in
    omega arith

-- an offset that is a number, and one that is none
pub none_for : (fs : List FunctionSymbol) (n k m : ℕ) (offset : ℤ) (r : Option Place) → offset ≡ pos m → IfNone r ((p : Place) → IsPlaceIn fs (record { object = n; section = k; offset = m }) p → ⊥) → IfNone r ((p : Place) → IsPlaceFor fs n k offset p → ⊥)
none_for fs n k m offset None is none = λ p for.
    let signed : pos for.at ≡ pos m = sym for.is ∙ is in
    let same : for.at ≡ m = cc in
    none p (subst (λ (i : ℕ). IsPlaceIn fs (record { object = n; section = k; offset = i }) p) same for.place)
none_for fs n k m offset (Some r) is none = tt

-- such a number fits 32 bits
pub fits_unsigned : (z offset : ℤ) (m : ℕ) → z ≡ offset → offset ≡ pos m → m < 4294967296 → FitsUnsignedBits 32 z
fits_unsigned z offset m same is less = subst (FitsUnsignedBits 32) (sym (same ∙ is)) less

-- ---- in a section

pub in_parts : (f : FunctionSymbol) (n k : ℕ) → is_in f n k ≡ true → (f.object ≡ n) × (f.section ≡ k)
in_parts f n k is = (grind (arith, nat_tests), grind (arith, nat_tests))

pub in_both : (f : FunctionSymbol) (n k : ℕ) → f.object ≡ n → f.section ≡ k → is_in f n k ≡ true
in_both f n k one two = grind (arith, nat_tests)
