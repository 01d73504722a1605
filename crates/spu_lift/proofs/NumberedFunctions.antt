-- Where nothing is misaligned and no functions overlap, functions have places, and they are numbered in order of these.
use Rattle.std.proofs.Common.{◌≡◌, ◌≢◌, ℕ, suc, ◌+◌, ◌-◌, ◌*◌, ◌/◌, ◌%◌, ◌<◌, ◌≤◌, ◌⊎◌, true, List, [], ◌∷◌, length, get_or, map, All, Option, Some, None, slice_get, refl, sym, ap, subst, ◌∙◌, inl, inr, arith, pos, ℤ}
use Rattle.std.specs.Option.{option_map}
use Rattle.std.proofs.lemmas.Bool.{cases_lt}
use Rattle.std.proofs.lemmas.Bool.Decides.{nat_tests}
use Rattle.std.proofs.lemmas.Option.{get_or_from_slice_get, none-some, same_Some, slice_get-get_or, slice_get-map, slice_get_within}
use Rattle.spu_word.specs.declared.limits.TheConstants.{MAX_SECTION_SIZE, WORD_SIZE}
use Rattle.spu_elf.specs.WellFormed.{IsWellFormed}
use Rattle.spu_elf.specs.declared.objects.Section.{Section}
use Rattle.spu_elf.specs.declared.objects.Object.{Object}
use Rattle.spu_lift.specs.declared.fault.LiftKind.TheVariants.{FunctionOverlap, Misaligned}
use Rattle.spu_lift.specs.declared.fault.LiftFault.TheVariants as faults
use Rattle.spu_lift.specs.declared.relocations.Spot.{Spot}
use Rattle.spu_lift.specs.declared.functions.FunctionSymbol.{FunctionSymbol}
use Rattle.spu_lift.specs.declared.functions.Place.{Place}
use Rattle.spu_lift.specs.Tables.{section_at}
use Rattle.spu_lift.specs.Extents.{AreRising, Extent, Holds, IsEarlier, IsExtent, IsNumbering, IsWordAt, extent_of, place_of}
use Rattle.spu_lift.specs.Lifted.{IsPlaceAt}
use Rattle.spu_lift.specs.LiftFaults.{IsAbsent}
use Rattle.spu_lift.specs.FunctionTables.{AreFunctions, AreOrdered, HasPlaces, HasSymbol, IsPlaceFor, IsPlaceIn, begins_by, extent_in, extent_key, is_in, start_of}
use Rattle.spu_lift.proofs.OneExtent.{AreApart as AreExtentsApart, AreEven, extent_even, extent_lies, one_extent}
use Rattle.spu_lift.proofs.PlaceLemmas.{in_both, in_parts, of_order}

-- ---- one function

pub extent_is : (os : List Object) (f : FunctionSymbol) → HasSymbol os f → IsExtent os (extent_in f)
extent_is os f has = (f.symbol, has.s, has.t, has.is.function)

pub aligned_function : (os : List Object) (entry : List ℕ) (f : FunctionSymbol) → IsAbsent Misaligned os entry → HasSymbol os f → AreEven (extent_in f)
aligned_function os entry f straight has = extent_even os entry (extent_in f) straight (extent_is os f has)

-- of two functions of one section the first ends before the other begins
apart_functions : (os : List Object) (entry : List ℕ) (f g : FunctionSymbol) → AreExtentsApart os entry → HasSymbol os f → HasSymbol os g
    → g.object ≡ f.object → g.section ≡ f.section → f.offset ≤ g.offset → (extent_in f ≡ extent_in g → ⊥) → f.offset + f.size ≤ g.offset
apart_functions os entry f g apart has also object section behind other = elim (cases_lt g.offset (f.offset + f.size)) [
  | inr at ↦ at
  | inl less ↦
      let some = also.is.function.some in
      absurd (other (one_extent os entry (extent_in f) (extent_in g) g.object g.section g.offset apart (extent_is os f has) (extent_is os g also)
      (record { object = sym object; section = sym section; from = behind; to = less }) (record { object = refl; section = refl; from = omega arith; to = omega arith })))
]

-- ---- places

-- of two functions in order, the one begins where the other does or before it
begins_before : (f g : FunctionSymbol) → IsEarlier (extent_key f) (extent_key g) → begins_by f (start_of g) ≡ true
begins_before f g (inl less) = of_order f (start_of g) (inl less)
begins_before f g (inr (same, inl less)) = of_order f (start_of g) (inr (same, inl less))
begins_before f g (inr (same, inr (also, inl less))) = of_order f (start_of g) (inr (same, inr (also, omega arith)))
begins_before f g (inr (same, inr (also, inr (at, rest)))) = of_order f (start_of g) (inr (same, inr (also, omega arith)))

behind_in : (f g : FunctionSymbol) → IsEarlier (extent_key f) (extent_key g) → g.object ≡ f.object → g.section ≡ f.section → f.offset ≤ g.offset
behind_in f g (inl less) object section = absurd (omega arith)
behind_in f g (inr (same, inl less)) object section = absurd (omega arith)
behind_in f g (inr (same, inr (also, inl less))) object section = omega arith
behind_in f g (inr (same, inr (also, inr (at, rest)))) object section = omega arith

not_same : (f g : FunctionSymbol) → IsEarlier (extent_key f) (extent_key g) → extent_in f ≡ extent_in g → ⊥
not_same f g (inl less) e = let same : f.object ≡ g.object = ap (λ (x : Extent). x.object) e in absurd (omega arith)
not_same f g (inr (same, inl less)) e = let same : f.section ≡ g.section = ap (λ (x : Extent). x.section) e in absurd (omega arith)
not_same f g (inr (same, inr (also, inl less))) e = let same : f.offset ≡ g.offset = ap (λ (x : Extent). x.offset) e in absurd (omega arith)
not_same f g (inr (same, inr (also, inr (at, inl less)))) e = let same : f.size ≡ g.size = ap (λ (x : Extent). x.size) e in absurd (omega arith)
not_same f g (inr (same, inr (also, inr (at, inr rest)))) e = rest.1

pub functions_apart : (os : List Object) (entry : List ℕ) (fs : List FunctionSymbol) (i j : ℕ) (f g : FunctionSymbol) → All IsWellFormed os → AreFunctions os fs → IsAbsent Misaligned os entry → IsAbsent FunctionOverlap os entry
    → i < j → slice_get fs i ≡ Some f → slice_get fs j ≡ Some g → g.object ≡ f.object → g.section ≡ f.section → f.offset + f.size ≤ g.offset
functions_apart os entry fs i j f g formed functions straight none less one two object section =
    let order = functions.rising i j f g less one two in
    apart_functions os entry f g (record { formed = formed; aligned = straight; overlaps = none }) (functions.each i f one) (functions.each j g two) object section (behind_in f g order object section) (not_same f g order)

pub have_places : (os : List Object) (entry : List ℕ) (fs : List FunctionSymbol) → All IsWellFormed os → AreFunctions os fs → IsAbsent Misaligned os entry → IsAbsent FunctionOverlap os entry → HasPlaces fs
have_places os entry fs formed functions straight none = record {
  ordered = ordered;
  apart = apart;
  aligned = λ i d within. (aligned_function os entry (get_or fs i d) straight (functions.each i (get_or fs i d) (slice_get-get_or fs i d within))).offset;
  few = let few = functions.few in omega arith;
  small = λ i d within.
      let lies = extent_lies os (extent_in (get_or fs i d)) formed (extent_is os (get_or fs i d) (functions.each i (get_or fs i d) (slice_get-get_or fs i d within))) in
      let ends = lies.ends in
      let small = lies.valid.small in
      omega arith;
}
  where
    ordered : AreOrdered fs
    ordered i j d le within = elim (cases_lt i j) [
      | inl less ↦ begins_before (get_or fs i d) (get_or fs j d) (functions.rising i j (get_or fs i d) (get_or fs j d) less (slice_get-get_or fs i d (omega arith)) (slice_get-get_or fs j d within))
      | inr more ↦
          let same : i ≡ j = omega arith in
          let here : get_or fs i d ≡ get_or fs j d = ap (λ m. get_or fs m d) same in
          ap (λ (f : FunctionSymbol). begins_by f (start_of (get_or fs j d))) here ∙ of_order (get_or fs j d) (start_of (get_or fs j d)) (inr (refl, inr (refl, omega arith)))
    ]

    apart : (i j : ℕ) (d : FunctionSymbol) → i < j → j < length fs → is_in (get_or fs j d) (get_or fs i d).object (get_or fs i d).section ≡ true → (get_or fs i d).offset + (get_or fs i d).size ≤ (get_or fs j d).offset
    apart i j d less within inside =
        let object : (get_or fs j d).object ≡ (get_or fs i d).object = grind (arith, nat_tests) in
        let section : (get_or fs j d).section ≡ (get_or fs i d).section = grind (arith, nat_tests) in
        functions_apart os entry fs i j (get_or fs i d) (get_or fs j d) formed functions straight none less (slice_get-get_or fs i d (omega arith)) (slice_get-get_or fs j d within) object section

-- ---- numbers

rising_by : (fs : List FunctionSymbol) → ((i j : ℕ) (f g : FunctionSymbol) → i < j → slice_get fs i ≡ Some f → slice_get fs j ≡ Some g → IsEarlier (place_of (extent_in f)) (place_of (extent_in g))) → AreRising (map extent_in fs)
rising_by [] order = tt
rising_by (f ∷ []) order = tt
rising_by (f ∷ g ∷ fs) order = (order 0 1 f g (omega arith) refl refl, rising_by (g ∷ fs) (λ i j h k less one two. order (suc i) (suc j) h k (omega arith) one two))

places_rise : (os : List Object) (entry : List ℕ) (fs : List FunctionSymbol) → All IsWellFormed os → AreFunctions os fs → IsAbsent Misaligned os entry → IsAbsent FunctionOverlap os entry
    → (i j : ℕ) (f g : FunctionSymbol) → i < j → slice_get fs i ≡ Some f → slice_get fs j ≡ Some g → IsEarlier (place_of (extent_in f)) (place_of (extent_in g))
places_rise os entry fs formed functions straight none i j f g less one two = by (functions.rising i j f g less one two)
  where
    by : IsEarlier (extent_key f) (extent_key g) → IsEarlier (place_of (extent_in f)) (place_of (extent_in g))
    by (inl a) = inl a
    by (inr (same, inl a)) = inr (same, inl a)
    by (inr (same, inr (also, inl a))) = inr (same, inr (also, inl a))
    by (inr (same, inr (also, inr (at, rest)))) =
        let ends : f.offset + f.size ≤ g.offset = functions_apart os entry fs i j f g formed functions straight none less one two (sym same) (sym also) in
        let some = (functions.each i f one).is.function.some in
        absurd (omega arith)

pub number_of : (fs : List FunctionSymbol) (i : ℕ) (f : FunctionSymbol) → slice_get fs i ≡ Some f → extent_of (map extent_in fs) (suc i) ≡ Some (extent_in f)
number_of fs i f at = slice_get-map extent_in fs i ∙ ap (option_map extent_in) at

pub numbered_extent : (fs : List FunctionSymbol) (i : ℕ) (x : Extent) → slice_get (map extent_in fs) i ≡ Some x → (f : FunctionSymbol) × (slice_get fs i ≡ Some f) × (extent_in f ≡ x)
numbered_extent fs i x at = by (slice_get fs i) refl
  where
    by : (o : Option FunctionSymbol) → slice_get fs i ≡ o → (f : FunctionSymbol) × (slice_get fs i ≡ Some f) × (extent_in f ≡ x)
    by None is = absurd (none-some x (sym (slice_get-map extent_in fs i ∙ ap (option_map extent_in) is) ∙ at))
    by (Some f) is = (f, is, same_Some (extent_in f) x (sym (slice_get-map extent_in fs i ∙ ap (option_map extent_in) is) ∙ at))

pub are_numbered : (os : List Object) (entry : List ℕ) (fs : List FunctionSymbol) → All IsWellFormed os → AreFunctions os fs → IsAbsent Misaligned os entry → IsAbsent FunctionOverlap os entry → IsNumbering os (map extent_in fs)
are_numbered os entry fs formed functions straight none = record {
  rising = rising_by fs (places_rise os entry fs formed functions straight none);
  extents = λ x has.
      let at : slice_get (map extent_in fs) has.0 ≡ Some x = slice_get-get_or (map extent_in fs) has.0 x has.1 ∙ ap Some has.2 in
      let f = numbered_extent fs has.0 x at in
      let symbol = functions.each has.0 f.0 f.1 in
      let extent : IsExtent os (extent_in f.0) = extent_is os f.0 symbol in
      subst (IsExtent os) f.2 extent;
  all = λ x extent.
      let has = functions.all x extent in
      let at : slice_get (map extent_in fs) has.i ≡ Some x = number_of fs has.i has.f has.there ∙ ap Some has.is in
      (has.i, slice_get_within (map extent_in fs) has.i x at, get_or_from_slice_get (map extent_in fs) has.i x x at);
}

-- ---- places of functions are words of extents

pub place_at : (os : List Object) (fs : List FunctionSymbol) (q : Spot) (p : Place) → AreFunctions os fs → IsPlaceIn fs q p → IsPlaceAt os (map extent_in fs) q.object q.section (pos q.offset) p.function p.word
place_at os fs q p functions is =
    let symbol = functions.each (p.function - 1) is.f is.there in
    let parts = in_parts is.f q.object q.section is.section in
    let from = is.from in
    let index : suc (p.function - 1) ≡ p.function = omega arith in
    record {
      x = extent_in is.f;
      number = ap (extent_of (map extent_in fs)) (sym index) ∙ number_of fs (p.function - 1) is.f is.there;
      word = record { extent = extent_is os is.f symbol; object = parts.0; section = parts.1; inside = is.inside; at = ap pos is.at };
    }

pub place_for_at : (os : List Object) (fs : List FunctionSymbol) (n k : ℕ) (offset : ℤ) (p : Place) → AreFunctions os fs → IsPlaceFor fs n k offset p → IsPlaceAt os (map extent_in fs) n k offset p.function p.word
place_for_at os fs n k offset p functions is =
    subst (λ (z : ℤ). IsPlaceAt os (map extent_in fs) n k z p.function p.word) (sym is.is) (place_at os fs (record { object = n; section = k; offset = is.at }) p functions is.place)

-- a word of an extent is a place of a function
pub word_place : (os : List Object) (fs : List FunctionSymbol) (x : Extent) (j n k : ℕ) (offset : ℤ) → AreFunctions os fs → IsWordAt os x j n k offset
    → (i : ℕ) × (f : FunctionSymbol) × (slice_get fs i ≡ Some f) × (extent_in f ≡ x) × IsPlaceFor fs n k offset (record { function = suc i; word = j })
word_place os fs x j n k offset functions is =
    let has = functions.all x is.extent in
    let back : suc has.i - 1 ≡ has.i = omega arith in
    let object : has.f.object ≡ n = ap (λ (y : Extent). y.object) has.is ∙ is.object in
    let section : has.f.section ≡ k = ap (λ (y : Extent). y.section) has.is ∙ is.section in
    let at : has.f.offset ≡ x.offset = ap (λ (y : Extent). y.offset) has.is in
    let size : has.f.size ≡ x.size = ap (λ (y : Extent). y.size) has.is in
    let inner = is.inside in (
      has.i,
      has.f,
      has.there,
      has.is,
      record {
        at = x.offset + WORD_SIZE * j;
        is = is.at;
        place = record {
          from = omega arith;
          f = has.f;
          there = ap (slice_get fs) back ∙ has.there;
          section = in_both has.f n k object section;
          at = ap (λ m. m + WORD_SIZE * j) (sym at);
          inside = omega arith;
        };
      },
    )
