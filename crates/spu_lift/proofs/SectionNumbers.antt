-- The numbers of sections among all those that pass a test: each has one, and each number is that of one section.
use Rattle.std.proofs.Common.{◌≡◌, ℕ, zero, suc, ◌+◌, ◌-◌, ◌<◌, ◌≤◌, ◌⊎◌, Bool, true, false, cond, List, [], ◌∷◌, ◌++◌, length, take, drop, Option, Some, None, slice_get, refl, sym, ap, subst, ◌∙◌, inl, inr, arith, append_assoc, length-append, add-zero}
use Rattle.std.specs.Prelude.{filter}
use Rattle.std.specs.Option.{option_map_or}
use Rattle.std.proofs.lemmas.Bool.{cases_Bool, cases_lt, cases_order}
use Rattle.std.proofs.lemmas.List.{take-append-le}
use Rattle.std.proofs.lemmas.List.Elements.{filter-append}
use Rattle.std.proofs.lemmas.Option.{slice_get_within}
use Rattle.spu_elf.specs.declared.objects.Section.{Section}
use Rattle.spu_elf.specs.declared.objects.Object.{Object}
use Rattle.spu_lift.specs.Tables.{all_sections, section_at, sections_before, sections_of}

-- ---- lists

-- a list around one of its elements
pub around : {X : Type 0} (xs : List X) (i : ℕ) (x : X) → slice_get xs i ≡ Some x → xs ≡ take i xs ++ x ∷ drop (suc i) xs
around [] i x at = absurd (cc)
around (y ∷ xs) zero x at = let e : y ≡ x = some_one y x at in ap (λ z. z ∷ xs) e
  where
    some_one : {X : Type 0} (a b : X) → Some a ≡ Some b → a ≡ b
    some_one a b e = cc
around (y ∷ xs) (suc i) x at = ap (λ zs. y ∷ zs) (around xs i x at)

pub at_joint : {X : Type 0} (xs : List X) (x : X) (ys : List X) → slice_get (xs ++ x ∷ ys) (length xs) ≡ Some x
at_joint [] x ys = refl
at_joint (y ∷ xs) x ys = at_joint xs x ys

pub at_front : {X : Type 0} (xs ys : List X) (i : ℕ) → i < length xs → slice_get (xs ++ ys) i ≡ slice_get xs i
at_front [] ys i less = absurd (omega (arith, less))
at_front (x ∷ xs) ys zero less = refl
at_front (x ∷ xs) ys (suc i) less = at_front xs ys i (omega (arith, less))

pub at_back : {X : Type 0} (xs ys : List X) (i : ℕ) → length xs ≤ i → slice_get (xs ++ ys) i ≡ slice_get ys (i - length xs)
at_back [] ys i more = ap (slice_get ys) (let e : i ≡ i - 0 = omega arith in e)
at_back (x ∷ xs) ys zero more = absurd (omega (arith, more))
at_back (x ∷ xs) ys (suc i) more = at_back xs ys i (omega (arith, more)) ∙ ap (slice_get ys) (let e : i - length xs ≡ suc i - suc (length xs) = omega arith in e)

take_back : {X : Type 0} (xs ys : List X) (i : ℕ) → length xs ≤ i → take i (xs ++ ys) ≡ xs ++ take (i - length xs) ys
take_back [] ys i more = ap (λ n. take n ys) (let e : i ≡ i - 0 = omega arith in e)
take_back (x ∷ xs) ys zero more = absurd (omega (arith, more))
take_back (x ∷ xs) ys (suc i) more = ap (λ zs. x ∷ zs) (take_back xs ys i (omega (arith, more)) ∙ ap (λ n. xs ++ take n ys) (let e : i - length xs ≡ suc i - suc (length xs) = omega arith in e))

-- how many pass a test
abbrev pub count_of : {X : Type 0} → (X → Bool) → List X → ℕ
count_of test xs = length (filter test xs)

pub count_append : {X : Type 0} (test : X → Bool) (xs ys : List X) → count_of test (xs ++ ys) ≡ count_of test xs + count_of test ys
count_append test xs ys = ap length (filter-append test xs ys) ∙ length-append (filter test xs) (filter test ys)

pub count_here : {X : Type 0} (test : X → Bool) (x : X) (xs : List X) → test x ≡ true → count_of test (x ∷ xs) ≡ count_of test xs + 1
count_here test x xs is = rw is (let e : suc (count_of test xs) ≡ count_of test xs + 1 = omega arith in e)

-- the element at an index of what passes
pub record IsKept {X : Type 0} (test : X → Bool) (xs : List X) (i : ℕ) (x : X) : Type 0 where
  pub j : ℕ
  pub there : slice_get xs j ≡ Some x
  pub passes : test x ≡ true
  pub front : filter test (take j xs) ≡ take i (filter test xs)
  pub number : count_of test (take j xs) ≡ i

pub kept_at : {X : Type 0} (test : X → Bool) (xs : List X) (i : ℕ) (x : X) → slice_get (filter test xs) i ≡ Some x → IsKept test xs i x
kept_at test [] i x at = absurd (cc)
kept_at {X} test (y ∷ xs) i x at = elim (cases_Bool (test y)) [
  | inl is ↦ here (λ m e. kept_at test xs m x e) i is (rw is at at)
  | inr not ↦
      let k : IsKept test xs i x = kept_at test xs i x (rw not at at) in
      record {
        j = suc k.j;
        there = k.there;
        passes = k.passes;
        front = rw not k.front;
        number = rw not k.number;
      }
]
  where
    here : ((m : ℕ) → slice_get (filter test xs) m ≡ Some x → IsKept test xs m x) → (m : ℕ) → test y ≡ true → slice_get (y ∷ filter test xs) m ≡ Some x → IsKept test (y ∷ xs) m x
    here rest zero is found = let e : y ≡ x = some_one y x found in record { j = 0; there = found; passes = subst (λ (z : X). test z ≡ true) e is; front = refl; number = refl }
      where
        some_one : (a b : X) → Some a ≡ Some b → a ≡ b
        some_one a b e = cc
    here rest (suc m) is found =
        let k : IsKept test xs m x = rest m found in
        record {
          j = suc k.j;
          there = k.there;
          passes = k.passes;
          front = rw is (ap (λ zs. y ∷ zs) k.front);
          number = rw is (ap suc k.number);
        }

-- ---- sections

abbrev pub number_by : (Section → Bool) → List Object → ℕ → ℕ → ℕ
number_by test os n k = count_of test (sections_before os n k)

before_next : (o : Object) (os : List Object) (n k : ℕ) → sections_before (o ∷ os) (suc n) k ≡ o.sections ++ sections_before os n k
before_next o os n k = append_assoc o.sections (all_sections (take n os)) (take k (sections_of os n))

-- all sections around one of them
pub sections_around : (os : List Object) (n k : ℕ) (t : Section) → section_at os n k ≡ Some t → (rest : List Section) × (all_sections os ≡ sections_before os n k ++ t ∷ rest)
sections_around [] n k t at = absurd (cc)
sections_around (o ∷ os) zero k t at =
    (drop (suc k) o.sections ++ all_sections os, ap (λ ts. ts ++ all_sections os) (around o.sections k t at) ∙ append_assoc (take k o.sections) (t ∷ drop (suc k) o.sections) (all_sections os))
sections_around (o ∷ os) (suc n) k t at =
    let rest = sections_around os n k t at in
    (rest.0, ap (λ ts. o.sections ++ ts) rest.1 ∙ sym (append_assoc o.sections (sections_before os n k) (t ∷ rest.0)) ∙ ap (λ ts. ts ++ t ∷ rest.0) (sym (before_next o os n k)))

-- a section that passes stands at its number
pub at_number : (test : Section → Bool) (os : List Object) (n k : ℕ) (t : Section) → section_at os n k ≡ Some t → test t ≡ true → slice_get (filter test (all_sections os)) (number_by test os n k) ≡ Some t
at_number test os n k t at passes =
    let rest = sections_around os n k t at in
    let before : List Section = sections_before os n k in
    let all : filter test (all_sections os) ≡ filter test before ++ t ∷ filter test rest.0 =
    ap (filter test) rest.1 ∙ filter-append test before (t ∷ rest.0) ∙ ap (λ ts. filter test before ++ ts) (first passes rest.0) in
    ap (λ ts. slice_get ts (number_by test os n k)) all ∙ at_joint (filter test before) t (filter test rest.0)
  where
    first : test t ≡ true → (ts : List Section) → filter test (t ∷ ts) ≡ t ∷ filter test ts
    first is ts = rw is refl

-- the section at an index of all
pub record IsSectionAt (os : List Object) (j : ℕ) (t : Section) : Type 0 where
  pub n : ℕ
  pub k : ℕ
  pub there : section_at os n k ≡ Some t
  pub before : sections_before os n k ≡ take j (all_sections os)

pub section_found : (os : List Object) (j : ℕ) (t : Section) → slice_get (all_sections os) j ≡ Some t → IsSectionAt os j t
section_found [] j t at = absurd (cc)
section_found (o ∷ os) j t at = elim (cases_lt j (length o.sections)) [
  | inl less ↦ record {
    n = 0;
    k = j;
    there = sym (at_front o.sections (all_sections os) j less) ∙ at;
    before = sym (take-append-le j o.sections (all_sections os) (omega arith));
  }
  | inr more ↦
      let next : IsSectionAt os (j - length o.sections) t = section_found os (j - length o.sections) t (sym (at_back o.sections (all_sections os) j more) ∙ at) in
      record {
        n = suc next.n;
        k = next.k;
        there = next.there;
        before = before_next o os next.n next.k ∙ ap (λ ts. o.sections ++ ts) next.before ∙ sym (take_back o.sections (all_sections os) j more);
      }
]

-- each number is that of a section
pub record IsNumbered (test : Section → Bool) (os : List Object) (i : ℕ) (t : Section) : Type 0 where
  pub n : ℕ
  pub k : ℕ
  pub there : section_at os n k ≡ Some t
  pub passes : test t ≡ true
  pub number : number_by test os n k ≡ i
  pub front : filter test (sections_before os n k) ≡ take i (filter test (all_sections os))

pub numbered_at : (test : Section → Bool) (os : List Object) (i : ℕ) (t : Section) → slice_get (filter test (all_sections os)) i ≡ Some t → IsNumbered test os i t
numbered_at test os i t at =
    let kept = kept_at test (all_sections os) i t at in
    let found = section_found os kept.j t kept.there in
    record {
      n = found.n;
      k = found.k;
      there = found.there;
      passes = kept.passes;
      number = ap (count_of test) found.before ∙ kept.number;
      front = ap (filter test) found.before ∙ kept.front;
    }

-- ---- one section has a number

abbrev pub IsBefore : ℕ → ℕ → ℕ → ℕ → Type 0
IsBefore n k m j = (n < m) ⊎ ((n ≡ m) × (k < j))

take_more_count : (test : Section → Bool) (ts : List Section) (k j : ℕ) (t : Section) → slice_get ts k ≡ Some t → test t ≡ true → k < j → count_of test (take k ts) < count_of test (take j ts)
take_more_count test [] k j t at passes less = absurd (cc)
take_more_count test (u ∷ ts) k zero t at passes less = absurd (omega (arith, less))
take_more_count test (u ∷ ts) zero (suc j) t at passes less =
    let e : u ≡ t = some_one u t at in
    let here = count_here test u (take j ts) (subst (λ (x : Section). test x ≡ true) (sym e) passes) in
    omega (arith, here)
  where
    some_one : (a b : Section) → Some a ≡ Some b → a ≡ b
    some_one a b e = cc
take_more_count test (u ∷ ts) (suc k) (suc j) t at passes less =
    let more = take_more_count test ts k j t at passes (omega (arith, less)) in
    elim (cases_Bool (test u)) [
      | inl is ↦ rw is (omega (arith, more))
      | inr not ↦ rw not more
    ]

take_count : (test : Section → Bool) (ts : List Section) (k : ℕ) (t : Section) → slice_get ts k ≡ Some t → test t ≡ true → count_of test (take k ts) < count_of test ts
take_count test ts k t at passes =
    let all = ap (count_of test) (around ts k t at) in
    let sum = count_append test (take k ts) (t ∷ drop (suc k) ts) in
    let here = count_here test t (drop (suc k) ts) passes in
    omega (arith, all, sum, here)

pub numbers_rise : (test : Section → Bool) (os : List Object) (n k m j : ℕ) (t : Section) → section_at os n k ≡ Some t → test t ≡ true → IsBefore n k m j → (u : Section) → section_at os m j ≡ Some u → number_by test os n k < number_by test os m j
numbers_rise test [] n k m j t at passes before u there = absurd (cc)
numbers_rise test (o ∷ os) zero k zero j t at passes (inl less) u there = absurd (omega (arith, less))
numbers_rise test (o ∷ os) zero k zero j t at passes (inr (e, less)) u there = take_more_count test o.sections k j t at passes less
numbers_rise test (o ∷ os) zero k (suc m) j t at passes before u there =
    let here = take_count test o.sections k t at passes in
    let next = ap (count_of test) (before_next o os m j) ∙ count_append test o.sections (sections_before os m j) in
    omega (arith, here, next)
numbers_rise test (o ∷ os) (suc n) k zero j t at passes (inl less) u there = absurd (omega (arith, less))
numbers_rise test (o ∷ os) (suc n) k zero j t at passes (inr (e, less)) u there = absurd (omega (arith, e))
numbers_rise test (o ∷ os) (suc n) k (suc m) j t at passes before u there =
    let rest = numbers_rise test os n k m j t at passes (below before) u there in
    let one = ap (count_of test) (before_next o os n k) ∙ count_append test o.sections (sections_before os n k) in
    let two = ap (count_of test) (before_next o os m j) ∙ count_append test o.sections (sections_before os m j) in
    omega (arith, rest, one, two)
  where
    below : IsBefore (suc n) k (suc m) j → IsBefore n k m j
    below (inl less) = inl (omega (arith, less))
    below (inr (e, less)) = inr (omega (arith, e), less)

pub one_number : (test : Section → Bool) (os : List Object) (n k m j : ℕ) (t u : Section) → section_at os n k ≡ Some t → test t ≡ true → section_at os m j ≡ Some u → test u ≡ true
    → number_by test os n k ≡ number_by test os m j → (n ≡ m) × (k ≡ j)
one_number test os n k m j t u at passes there its same = elim (cases_order n m) [
  | inr apart ↦ elim apart [
    | inl less ↦ absurd (let rise = numbers_rise test os n k m j t at passes (inl less) u there in omega (arith, rise, same))
    | inr more ↦ absurd (let rise = numbers_rise test os m j n k u there its (inl more) t at in omega (arith, rise, same))
  ]
  | inl objects ↦ elim (cases_order k j) [
    | inl sections ↦ (objects, sections)
    | inr apart ↦ elim apart [
      | inl less ↦ absurd (let rise = numbers_rise test os n k m j t at passes (inr (objects, less)) u there in omega (arith, rise, same))
      | inr more ↦ absurd (let rise = numbers_rise test os m j n k u there its (inr (sym objects, more)) t at in omega (arith, rise, same))
    ]
  ]
]
