-- The sections of data of a program, one word, one section and one object after another.
use Rattle.std.proofs.Common.{◌≡◌, ◌≢◌, ℕ, zero, suc, ◌+◌, ◌-◌, ◌*◌, ◌/◌, ◌<◌, ◌≤◌, ◌⊎◌, Bool, true, false, List, [], ◌∷◌, ◌++◌, length, take, drop, map, get_or, Option, Some, None, slice_get, refl, sym, ap, subst, ◌∙◌, inl, inr, arith, append_assoc, append-nil, length-append, length-take, length-drop}
use Rattle.std.specs.Prelude.{if◌then◌else◌}
use Rattle.std.specs.List.{Contains}
use Rattle.std.specs.Option.{option_and_then, option_map_or}
use Rattle.std.proofs.lemmas.Bool.{cases_Bool, cases_lt}
use Rattle.std.proofs.lemmas.List.{drop-append-le, drop-drop, drop_at, length-take-le, take-append-drop, take-append-le, take_all, take_at, take_more}
use Rattle.std.proofs.lemmas.List.Elements.{Contains-append_left, Contains-push, Contains-push_cases}
use Rattle.std.proofs.lemmas.Option.{cond_some, get_or_from_slice_get, slice_get_read, slice_get_within}
use Rattle.spu_word.specs.declared.limits.TheConstants.{WORD_SIZE}
use Rattle.spu_word.specs.Bytes.{be_digits, with_be}
use Rattle.spu_elf.specs.declared.objects.Section.{Section}
use Rattle.spu_elf.specs.declared.objects.Reloc.{Reloc}
use Rattle.spu_elf.specs.declared.objects.Object.{Object}
use Rattle.spu_lift.specs.declared.functions.FunctionSymbol.{FunctionSymbol}
use Rattle.spu_lift.specs.declared.functions.Place.{Place}
use Rattle.spu_lift.specs.declared.program.WordLabel.{WordLabel}
use Rattle.spu_lift.specs.declared.program.Part.{Part}
use Rattle.spu_lift.specs.WellFormed.{IsRising}
use Rattle.spu_lift.specs.Tables.{all_sections, data_address, holds_data, reloc_on, section_at, sections_before, sections_of}
use Rattle.spu_lift.specs.Meanings.{meaning_of}
use Rattle.spu_lift.specs.Lifted.{number_in, word_of_data}
use Rattle.spu_lift.specs.TakenPlaces.{LabelsPlace}
use Rattle.spu_lift.specs.Built.{AddsLabel, AreLabels, ArePartsBuilt, AreWordsFilled, HasPartBuilt, IsPartBuilt, IsWordOfLabel, filled, filled_by, label_at, word_spot}
use Rattle.spu_lift.proofs.SectionNumbers.{at_front, at_joint, count_append, count_of}
use Rattle.spu_lift.proofs.PlacedLemmas.{sections_more}

-- ---- words

-- bytes with a word put in their place
module _ (bytes : List ℕ) (w v : ℕ) (room : WORD_SIZE * w + WORD_SIZE ≤ length bytes) where
  abbrev front : List ℕ
  front = take (WORD_SIZE * w) bytes

  front_size : length (take (WORD_SIZE * w) bytes) ≡ WORD_SIZE * w
  front_size = length-take-le (WORD_SIZE * w) bytes (omega (arith, room))

  parts_of : with_be bytes (WORD_SIZE * w) v ≡ take (WORD_SIZE * w) bytes ++ (be_digits v ++ drop (WORD_SIZE * w + 4) bytes)
  parts_of = append_assoc (take (WORD_SIZE * w) bytes) (be_digits v) (drop (WORD_SIZE * w + 4) bytes)

  -- a word in front of it is that of the front
  of_front : (i : ℕ) (rest : List ℕ) → i < w → take 4 (drop (WORD_SIZE * i) (take (WORD_SIZE * w) bytes ++ rest)) ≡ take 4 (drop (WORD_SIZE * i) (take (WORD_SIZE * w) bytes))
  of_front i rest less =
      let size = front_size in
      let long = length-drop (WORD_SIZE * i) (take (WORD_SIZE * w) bytes) in
      ap (take 4) (drop-append-le (WORD_SIZE * i) (take (WORD_SIZE * w) bytes) rest (omega (arith, size, less)))
      ∙ take-append-le 4 (drop (WORD_SIZE * i) (take (WORD_SIZE * w) bytes)) rest (omega (arith, long, size, less))

  pub word_before : (i : ℕ) → i < w → take 4 (drop (WORD_SIZE * i) (with_be bytes (WORD_SIZE * w) v)) ≡ take 4 (drop (WORD_SIZE * i) bytes)
  word_before i less =
      ap (λ xs. take 4 (drop (WORD_SIZE * i) xs)) parts_of ∙ of_front i (be_digits v ++ drop (WORD_SIZE * w + 4) bytes) less
      ∙ sym (ap (λ xs. take 4 (drop (WORD_SIZE * i) xs)) (sym (take-append-drop (WORD_SIZE * w) bytes)) ∙ of_front i (drop (WORD_SIZE * w) bytes) less)

  behind : drop (WORD_SIZE * w) (with_be bytes (WORD_SIZE * w) v) ≡ be_digits v ++ drop (WORD_SIZE * w + 4) bytes
  behind = ap (drop (WORD_SIZE * w)) parts_of ∙ drop_at (take (WORD_SIZE * w) bytes) (be_digits v ++ drop (WORD_SIZE * w + 4) bytes) (WORD_SIZE * w) front_size

  pub word_there : take 4 (drop (WORD_SIZE * w) (with_be bytes (WORD_SIZE * w) v)) ≡ be_digits v
  word_there = ap (take 4) behind ∙ take_at (be_digits v) (drop (WORD_SIZE * w + 4) bytes) 4 refl

  pub words_behind : drop (WORD_SIZE * w + 4) (with_be bytes (WORD_SIZE * w) v) ≡ drop (WORD_SIZE * w + 4) bytes
  words_behind = sym (drop-drop 4 (WORD_SIZE * w) (with_be bytes (WORD_SIZE * w) v)) ∙ ap (drop 4) behind ∙ drop_at (be_digits v) (drop (WORD_SIZE * w + 4) bytes) 4 refl

  pub size_kept : length (with_be bytes (WORD_SIZE * w) v) ≡ length bytes
  size_kept =
      let size = front_size in
      let one = length-append (take (WORD_SIZE * w) bytes) (be_digits v ++ drop (WORD_SIZE * w + 4) bytes) in
      let two = length-append (be_digits v) (drop (WORD_SIZE * w + 4) bytes) in
      let rest = length-drop (WORD_SIZE * w + 4) bytes in
      ap length parts_of ∙ omega (arith, one, two, rest, size, room)

-- one more word is filled in
pub words_more : (os : List Object) (n k : ℕ) (old : List ℕ) (w : ℕ) (bytes new : List ℕ) → AreWordsFilled os n k old w bytes → w < length old / WORD_SIZE → new ≡ filled os (word_spot n k w) bytes → AreWordsFilled os n k old (w + 1) new
words_more os n k old w bytes new before inside is = subst (AreWordsFilled os n k old (w + 1)) (sym is) (by (reloc_on os n k (WORD_SIZE * w)) refl)
  where
    room : WORD_SIZE * w + WORD_SIZE ≤ length bytes
    room = let count = before.count in omega (arith, inside, count)

    next : WORD_SIZE * (w + 1) ≡ WORD_SIZE * w + 4
    next = omega arith

    rest_from : (xs : List ℕ) → drop (WORD_SIZE * w + 4) xs ≡ drop (WORD_SIZE * w + 4) bytes → drop (WORD_SIZE * (w + 1)) xs ≡ drop (WORD_SIZE * (w + 1)) old
    rest_from xs same =
        ap (λ m. drop m xs) next ∙ same ∙ sym (drop-drop 4 (WORD_SIZE * w) bytes) ∙ ap (drop 4) before.rest ∙ drop-drop 4 (WORD_SIZE * w) old ∙ ap (λ m. drop m old) (sym next)

    each : (xs : List ℕ) → ((i : ℕ) → i < w → take 4 (drop (WORD_SIZE * i) xs) ≡ take 4 (drop (WORD_SIZE * i) bytes)) → take 4 (drop (WORD_SIZE * w) xs) ≡ word_of_data os n old (WORD_SIZE * w) (reloc_on os n k (WORD_SIZE * w))
        → (i : ℕ) → i < w + 1 → take WORD_SIZE (drop (WORD_SIZE * i) xs) ≡ word_of_data os n old (WORD_SIZE * i) (reloc_on os n k (WORD_SIZE * i))
    each xs same here i less = elim (cases_lt i w) [
      | inl low ↦ same i low ∙ before.done i low
      | inr high ↦ let e : w ≡ i = omega (arith, less, high) in subst (λ m. take WORD_SIZE (drop (WORD_SIZE * m) xs) ≡ word_of_data os n old (WORD_SIZE * m) (reloc_on os n k (WORD_SIZE * m))) e here
    ]

    by : (o : Option Reloc) → reloc_on os n k (WORD_SIZE * w) ≡ o → AreWordsFilled os n k old (w + 1) (filled_by os (word_spot n k w) bytes (reloc_on os n k (WORD_SIZE * w)))
    by None at = subst (λ (p : Option Reloc). AreWordsFilled os n k old (w + 1) (filled_by os (word_spot n k w) bytes p)) (sym at) (record {
      count = before.count;
      done = each bytes (λ i less. refl) (ap (take 4) before.rest ∙ ap (word_of_data os n old (WORD_SIZE * w)) (sym at));
      rest = rest_from bytes refl;
    })
    by (Some r) at =
        let v : ℕ = number_in (meaning_of os n r) in
        subst (λ (p : Option Reloc). AreWordsFilled os n k old (w + 1) (filled_by os (word_spot n k w) bytes p)) (sym at) (record {
          count = size_kept bytes w (number_in (meaning_of os n r)) room ∙ before.count;
          done = each (with_be bytes (WORD_SIZE * w) (number_in (meaning_of os n r))) (word_before bytes w (number_in (meaning_of os n r)) room)
              (word_there bytes w (number_in (meaning_of os n r)) room ∙ ap (word_of_data os n old (WORD_SIZE * w)) (sym at));
          rest = rest_from (with_be bytes (WORD_SIZE * w) (number_in (meaning_of os n r))) (words_behind bytes w (number_in (meaning_of os n r)) room);
        })

-- ---- labels

rising_push : (ns : List ℕ) (m : ℕ) → IsRising ns → ((i n : ℕ) → slice_get ns i ≡ Some n → n < m) → IsRising (ns ++ m ∷ [])
rising_push [] m rising less = tt
rising_push (n ∷ []) m rising less = (less 0 n refl, tt)
rising_push (n ∷ k ∷ ns) m rising less = (rising.0, rising_push (k ∷ ns) m rising.1 (λ i x at. less (suc i) x at))

word_more : (os : List Object) (fs : List FunctionSymbol) (n k w : ℕ) (l : WordLabel) → IsWordOfLabel os fs n k w l → IsWordOfLabel os fs n k (w + 1) l
word_more os fs n k w l is = let inside = is.inside in record { w = is.w; inside = omega (arith, inside); p = is.p; labels = is.labels; is = is.is }

map_push : (ls : List WordLabel) (l : WordLabel) → map (λ (x : WordLabel). x.offset) (ls ++ l ∷ []) ≡ map (λ (x : WordLabel). x.offset) ls ++ l.offset ∷ []
map_push [] l = refl
map_push (x ∷ ls) l = ap (λ ns. x.offset ∷ ns) (map_push ls l)

label_of_offset : (ls : List WordLabel) (i n : ℕ) → slice_get (map (λ (x : WordLabel). x.offset) ls) i ≡ Some n → (l : WordLabel) × (slice_get ls i ≡ Some l) × (l.offset ≡ n)
label_of_offset [] i n at = absurd (cc)
label_of_offset (x ∷ ls) zero n at = let e : x.offset ≡ n = some_one x.offset n at in (x, refl, e)
  where
    some_one : (a b : ℕ) → Some a ≡ Some b → a ≡ b
    some_one a b e = cc
label_of_offset (x ∷ ls) (suc i) n at = label_of_offset ls i n at

pub labels_more : (os : List Object) (fs : List FunctionSymbol) (n k w : ℕ) (ls new : List WordLabel) → AreLabels os fs n k w ls → AddsLabel os fs (word_spot n k w) ls new → AreLabels os fs n k (w + 1) new
labels_more os fs n k w ls new before (inl (same, none)) = subst (AreLabels os fs n k (w + 1)) (sym same) (record {
  rising = before.rising;
  each = λ l c. word_more os fs n k w l (before.each l c);
  all = λ j less p labels. elim (cases_lt j w) [
    | inl low ↦ before.all j low p labels
    | inr high ↦ let e : j ≡ w = omega (arith, less, high) in absurd (none p (subst (λ m. LabelsPlace os fs (word_spot n k m) p) e labels))
  ];
})
labels_more os fs n k w ls new before (inr (p, place, pushed)) = subst (AreLabels os fs n k (w + 1)) (sym pushed) (record {
  rising = subst IsRising (sym (map_push ls (label_at (word_spot n k w) p))) (rising_push (map (λ (x : WordLabel). x.offset) ls) (WORD_SIZE * w) before.rising low);
  each = λ l c. elim (Contains-push_cases ls (label_at (word_spot n k w) p) l c) [
    | inl there ↦ word_more os fs n k w l (before.each l there)
    | inr is ↦ record { w = w; inside = omega arith; p = p; labels = place; is = sym is }
  ];
  all = λ j less q labels. elim (cases_lt j w) [
    | inl under ↦ let l = before.all j under q labels in (l.0, Contains-append_left ls (label_at (word_spot n k w) p ∷ []) l.0 l.1, l.2)
    | inr high ↦ let e : w ≡ j = omega (arith, less, high) in (label_at (word_spot n k w) p, Contains-push ls (label_at (word_spot n k w) p), ap (λ m. WORD_SIZE * m) e)
  ];
})
  where
    low : (i m : ℕ) → slice_get (map (λ (x : WordLabel). x.offset) ls) i ≡ Some m → m < WORD_SIZE * w
    low i m at =
        let l = label_of_offset ls i m at in
        let is = before.each l.0 (i, slice_get_within ls i l.0 l.1, get_or_from_slice_get ls i l.0 l.0 l.1) in
        let offset : l.0.offset ≡ WORD_SIZE * is.w = ap (λ (x : WordLabel). x.offset) is.is in
        let inside = is.inside in
        let its = l.2 in
        omega (arith, offset, inside, its)

pub no_labels : (os : List Object) (fs : List FunctionSymbol) (n k : ℕ) → AreLabels os fs n k 0 []
no_labels os fs n k = record { rising = tt; each = λ l (i, less, is). absurd (omega (arith, less)); all = λ j less p labels. absurd (omega (arith, less)) }

pub no_words : (os : List Object) (n k : ℕ) (old new : List ℕ) → new ≡ old → AreWordsFilled os n k old 0 new
no_words os n k old new same = record { count = ap length same; done = λ i less. absurd (omega (arith, less)); rest = ap (drop (WORD_SIZE * 0)) same }

-- ---- sections

before_more : (os : List Object) (n k : ℕ) (t : Section) → section_at os n k ≡ Some t → sections_before os n (k + 1) ≡ sections_before os n k ++ t ∷ []
before_more os n k t at =
    let within = slice_get_within (sections_of os n) k t at in
    let next : take (k + 1) (sections_of os n) ≡ take k (sections_of os n) ++ t ∷ [] = take_more (sections_of os n) k t within ∙ ap (λ u. take k (sections_of os n) ++ u ∷ []) (get_or_from_slice_get (sections_of os n) k t t at) in
    ap (λ ts. all_sections (take n os) ++ ts) next ∙ sym (append_assoc (all_sections (take n os)) (take k (sections_of os n)) (t ∷ []))

count_one : (t : Section) (is : Bool) → holds_data t ≡ is → count_of holds_data (t ∷ []) ≡ (if is then 1 else 0)
count_one t true is = rw is refl
count_one t false is = rw is refl

cases_before : (m j n k : ℕ) → (m < n) ⊎ ((m ≡ n) × (j < k + 1)) → ((m < n) ⊎ ((m ≡ n) × (j < k))) ⊎ ((n ≡ m) × (k ≡ j))
cases_before m j n k (inl less) = inl (inl less)
cases_before m j n k (inr (same, less)) = elim (cases_lt j k) [
  | inl low ↦ inl (inr (same, low))
  | inr high ↦ inr (sym same, omega (arith, less, high))
]

-- one more section of code
pub parts_same : (os : List Object) (fs : List FunctionSymbol) (n k : ℕ) (t : Section) (parts : List Part) → ArePartsBuilt os fs n k parts → section_at os n k ≡ Some t → holds_data t ≡ false → ArePartsBuilt os fs n (k + 1) parts
parts_same os fs n k t parts before at not = record {
  count = (let more = ap (count_of holds_data) (before_more os n k t at) in let sum = count_append holds_data (sections_before os n k) (t ∷ []) in let none = count_one t false not in let count = before.count in omega (arith, more, sum, none, count));
  each = λ m j u where_is there holds. elim (cases_before m j n k where_is) [
    | inl low ↦ before.each m j u low there holds
    | inr here ↦
        let same : Some t ≡ Some u = sym at ∙ ap (λ x. section_at os x k) here.0 ∙ ap (section_at os m) here.1 ∙ there in
        absurd (let its : t ≡ u = cc in let bad : true ≡ false = sym holds ∙ ap (λ (x : Section). holds_data x) (sym its) ∙ not in cc)
  ];
}

kept_part : (os : List Object) (fs : List FunctionSymbol) (parts : List Part) (part : Part) (m j : ℕ) (u : Section) → HasPartBuilt os fs parts m j u → HasPartBuilt os fs (parts ++ part ∷ []) m j u
kept_part os fs parts part m j u has =
    let number : ℕ = count_of holds_data (sections_before os m j) in
    record { part = has.part; there = at_front parts (part ∷ []) (count_of holds_data (sections_before os m j)) (slice_get_within parts (count_of holds_data (sections_before os m j)) has.part has.there) ∙ has.there; is = has.is }

-- one more section of data
pub parts_more : (os : List Object) (fs : List FunctionSymbol) (n k : ℕ) (t : Section) (parts new : List Part) (part : Part) → ArePartsBuilt os fs n k parts → section_at os n k ≡ Some t → holds_data t ≡ true
    → IsPartBuilt os fs n k t (data_address os n k t) part → new ≡ parts ++ part ∷ [] → ArePartsBuilt os fs n (k + 1) new
parts_more os fs n k t parts new part before at holds built pushed = subst (ArePartsBuilt os fs n (k + 1)) (sym pushed) (record {
  count = (
      let more = ap (count_of holds_data) (before_more os n k t at) in let sum = count_append holds_data (sections_before os n k) (t ∷ []) in let one = count_one t true holds in
      let count = before.count in let long = length-append parts (part ∷ []) in omega (arith, more, sum, one, count, long));
  each = λ m j u where_is there its. elim (cases_before m j n k where_is) [
    | inl low ↦ kept_part os fs parts part m j u (before.each m j u low there its)
    | inr here ↦
        let same : Some t ≡ Some u = sym at ∙ ap (λ x. section_at os x k) here.0 ∙ ap (section_at os m) here.1 ∙ there in
        let section : t ≡ u = some_one t u same in
        subst (λ x. HasPartBuilt os fs (parts ++ part ∷ []) x j u) here.0
        (subst (λ x. HasPartBuilt os fs (parts ++ part ∷ []) n x u) here.1 (subst (λ (x : Section). HasPartBuilt os fs (parts ++ part ∷ []) n k x) section new_part))
  ];
})
  where
    some_one : (a b : Section) → Some a ≡ Some b → a ≡ b
    some_one a b e = cc

    new_part : HasPartBuilt os fs (parts ++ part ∷ []) n k t
    new_part = record { part = part; there = ap (slice_get (parts ++ part ∷ [])) (sym before.count) ∙ at_joint parts part []; is = built }

-- one more object
pub objects_more : (os : List Object) (fs : List FunctionSymbol) (n : ℕ) (o : Object) (parts : List Part) → slice_get os n ≡ Some o → ArePartsBuilt os fs n (length o.sections) parts → ArePartsBuilt os fs (n + 1) 0 parts
objects_more os fs n o parts at before = record {
  count = before.count ∙ ap (count_of holds_data) all;
  each = λ m j t where_is there holds. by m j t where_is there holds;
}
  where
    these : sections_of os n ≡ o.sections
    these = ap (λ p. option_map_or (λ (q : Object). q.sections) p ([])) at

    objects : take (n + 1) os ≡ take n os ++ o ∷ []
    objects = take_more os n o (slice_get_within os n o at) ∙ ap (λ x. take n os ++ x ∷ []) (get_or_from_slice_get os n o o at)

    all : sections_before os n (length o.sections) ≡ sections_before os (n + 1) 0
    all = ap (λ ts. all_sections (take n os) ++ take (length o.sections) ts) these ∙ ap (λ ts. all_sections (take n os) ++ ts) (take_all (length o.sections) o.sections (omega arith))
        ∙ sym (append-nil (all_sections (take (n + 1) os)) ∙ ap all_sections objects ∙ sections_more (take n os) o)

    by : (m j : ℕ) (t : Section) → (m < n + 1) ⊎ ((m ≡ n + 1) × (j < 0)) → section_at os m j ≡ Some t → holds_data t ≡ true → HasPartBuilt os fs parts m j t
    by m j t (inl less) there holds = elim (cases_lt m n) [
      | inl low ↦ before.each m j t (inl low) there holds
      | inr high ↦
          let same : m ≡ n = omega (arith, less, high) in
          let within = slice_get_within o.sections j t (ap (λ (ts : List Section). slice_get ts j) (sym these) ∙ ap (λ x. section_at os x j) (sym same) ∙ there) in
          before.each m j t (inr (same, within)) there holds
    ]
    by m j t (inr (same, less)) there holds = absurd (omega (arith, less))

pub no_parts : (os : List Object) (fs : List FunctionSymbol) → ArePartsBuilt os fs 0 0 []
no_parts os fs = record { count = refl; each = λ m j t where_is there holds. absurd (none m j where_is) }
  where
    none : (m j : ℕ) → (m < 0) ⊎ ((m ≡ 0) × (j < 0)) → ⊥
    none m j (inl less) = omega (arith, less)
    none m j (inr (same, less)) = omega (arith, less)

-- ---- what a loop over sections knows

pub section_here : (os : List Object) (n k : ℕ) (o : Object) (t : Section) → slice_get os n ≡ Some o → k < length o.sections → t ≡ get_or o.sections k t → section_at os n k ≡ Some t
section_here os n k o t there within is =
    let these : sections_of os n ≡ o.sections = ap (λ p. option_map_or (λ (q : Object). q.sections) p ([])) there in
    ap (λ (ts : List Section). slice_get ts k) these ∙ slice_get_read o.sections (length o.sections) k t refl within is

-- where a section begins, if it holds data
abbrev pub start_of : List Object → ℕ → ℕ → Section → Option ℕ
start_of os n k t = if holds_data t then Some (data_address os n k t) else None

pub started_some : (os : List Object) (n k address : ℕ) (t : Section) (o : Option ℕ) → section_at os n k ≡ Some t → o ≡ option_and_then (start_of os n k) (section_at os n k) → o ≡ Some address → (holds_data t ≡ true) × (data_address os n k t ≡ address)
started_some os n k address t o there starts is = cond_some (holds_data t) (data_address os n k t) address (sym (starts ∙ ap (option_and_then (start_of os n k)) there) ∙ is)

pub started_none : (os : List Object) (n k : ℕ) (t : Section) (o : Option ℕ) → section_at os n k ≡ Some t → o ≡ option_and_then (start_of os n k) (section_at os n k) → o ≡ None → holds_data t ≡ false
started_none os n k t o there starts is = elim (cases_Bool (holds_data t)) [
  | inl holds ↦
      let starts_so : o ≡ start_of os n k t = starts ∙ ap (option_and_then (start_of os n k)) there in
      absurd (let bad : Some (data_address os n k t) ≡ None = rw holds at (sym starts_so ∙ is) in cc)
  | inr not ↦ not
]
