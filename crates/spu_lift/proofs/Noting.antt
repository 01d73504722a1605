-- The first relocation at a place, one relocation after another, and one object after another.
use Rattle.std.proofs.Common.{◌≡◌, ℕ, zero, suc, ◌+◌, ◌<◌, ◌≤◌, Bool, true, false, ◌&&◌, ◌==◌, List, [], ◌∷◌, ◌++◌, length, take, get_or, slice_get, Option, Some, None, refl, sym, ap, subst, ◌∙◌, inl, inr, cond, arith, if◌then◌else◌, add-zero}
use Rattle.std.specs.Option.{option_or, option_map_or}
use Rattle.std.specs.List.{position_from}
use Rattle.std.proofs.lemmas.Bool.{cases_Bool, cases_lt}
use Rattle.std.proofs.lemmas.Bool.Decides.{nat_tests}
use Rattle.std.proofs.lemmas.Grind.{common_steps}
use Rattle.std.proofs.lemmas.List.{take_more}
use Rattle.std.proofs.lemmas.Option.{slice_get-get_or}
use Rattle.spu_elf.specs.declared.objects.Reloc.{Reloc}
use Rattle.spu_elf.specs.declared.objects.Object.{Object}
use Rattle.spu_lift.specs.declared.relocations.Spot.{Spot}
use Rattle.spu_lift.specs.declared.relocations.Relocations.{Relocations}
use Rattle.spu_lift.specs.Tables.{relocs_of}
use Rattle.spu_lift.specs.LookUps.{first_of, noted, same_spot, stands_at, Notes}

position_push : {X : Type 0} (p : X → Bool) (i : ℕ) (xs : List X) (x : X) → position_from p i (xs ++ x ∷ []) ≡ option_or (position_from p i xs) (cond (p x) (Some (i + length xs)) None)
position_push p i [] x = rw add-zero refl
position_push p i (y ∷ xs) x = elim (cases_Bool (p y)) [
  | inl is ↦ rw is refl
  | inr not ↦
      let more : (i + 1) + length xs ≡ i + length (y ∷ xs) = omega arith in
      rw not (position_push p (i + 1) xs x ∙ ap (λ n. option_or (position_from p (i + 1) xs) (cond (p x) (Some n) None)) more)
]

or_assoc : {X : Type 0} (a b c : Option X) → option_or (option_or a b) c ≡ option_or a (option_or b c)
or_assoc None b c = refl
or_assoc (Some x) b c = refl

-- one relocation more
pub first_more : (n : ℕ) (rs : List Reloc) (i : ℕ) (d : Reloc) → i < length rs → (q : Spot)
    → first_of n (take (i + 1) rs) q ≡ option_or (first_of n (take i rs) q) (if same_spot (record { object = n; section = (get_or rs i d).section; offset = (get_or rs i d).offset }) q then Some i else None)
first_more n rs i d less q = elim (cases_Bool (n == q.object)) [
  | inl same ↦
      let r = get_or rs i d in
      let e : take (i + 1) rs ≡ take i rs ++ r ∷ [] = take_more rs i d less in
      let len : 0 + length (take i rs) ≡ i = grind (arith, common_steps) in
      rw same (ap (position_from (stands_at q) 0) e ∙ position_push (stands_at q) 0 (take i rs) r ∙ ap (λ k. option_or (position_from (stands_at q) 0 (take i rs)) (cond (stands_at q r) (Some k) None)) len)
  | inr other ↦ rw other refl
]

pub noted_more : (n : ℕ) (rs : List Reloc) (i : ℕ) (d : Reloc) → i < length rs → (q : Spot) (start seen new : Option ℕ)
    → seen ≡ option_or start (first_of n (take i rs) q)
    → new ≡ option_or seen (if same_spot (record { object = n; section = (get_or rs i d).section; offset = (get_or rs i d).offset }) q then Some i else None)
    → new ≡ option_or start (first_of n (take (i + 1) rs) q)
noted_more n rs i d less q start seen new e f =
    let noted = if same_spot (record { object = n; section = (get_or rs i d).section; offset = (get_or rs i d).offset }) q then Some i else None in
    f ∙ ap (λ o. option_or o noted) e ∙ or_assoc start (first_of n (take i rs) q) noted ∙ ap (option_or start) (sym (first_more n rs i d less q))

-- ---- objects

pub taken_get : {X : Type 0} (xs : List X) (i n : ℕ) → n < i → slice_get (take i xs) n ≡ slice_get xs n
taken_get [] zero n h = refl
taken_get [] (suc i) n h = refl
taken_get (x ∷ xs) zero n h = absurd (omega arith)
taken_get (x ∷ xs) (suc i) zero h = refl
taken_get (x ∷ xs) (suc i) (suc n) h = taken_get xs i n (omega arith)

pub taken_past : {X : Type 0} (xs : List X) (i n : ℕ) → i ≤ n → slice_get (take i xs) n ≡ None
taken_past [] zero n h = refl
taken_past [] (suc i) n h = refl
taken_past (x ∷ xs) zero n h = refl
taken_past (x ∷ xs) (suc i) zero h = absurd (omega arith)
taken_past (x ∷ xs) (suc i) (suc n) h = taken_past xs i n (omega arith)

-- one more makes no difference at another place
pub taken_more : {X : Type 0} (xs : List X) (i n : ℕ) → (n ≡ i → ⊥) → slice_get (take (i + 1) xs) n ≡ slice_get (take i xs) n
taken_more xs i n apart = elim (cases_lt n i) [
  | inl less ↦ taken_get xs (i + 1) n (omega arith) ∙ sym (taken_get xs i n less)
  | inr more ↦
      let past : i + 1 ≤ n = by n more in
      taken_past xs (i + 1) n past ∙ sym (taken_past xs i n (omega arith))
]
  where
    by : (m : ℕ) → i ≤ n → i + 1 ≤ n
    by m h = elim (cases_Bool (n == i)) [
      | inl same ↦ absurd (apart (grind (arith, nat_tests)))
      | inr other ↦ grind (arith, nat_tests)
    ]

or_none : {X : Type 0} (a : Option X) → option_or a None ≡ a
or_none None = refl
or_none (Some x) = refl

found_in : Spot → Option Object → Option ℕ
found_in q o = position_from (stands_at q) 0 (option_map_or (λ (x : Object). x.relocs) o ([]))

-- one object more
pub notes_more : (os : List Object) (i : ℕ) (d : Object) (rs : List Reloc) → i < length os → rs ≡ (get_or os i d).relocs → (old new : Relocations) → Notes (take i os) old
    → ((q : Spot) → noted new q ≡ option_or (noted old q) (first_of i rs q)) → Notes (take (i + 1) os) new
unfolding found_in
notes_more os i d rs less are old new inv steps q =
    let step : (p : Spot) → noted new p ≡ option_or (noted old p) (first_of i (get_or os i d).relocs p) = λ p. steps p ∙ ap (λ r. option_or (noted old p) (first_of i r p)) are in
    elim (cases_Bool (i == q.object)) [
      | inl same ↦
          let is : q.object ≡ i = grind (arith, nat_tests) in
          let here : slice_get (take (i + 1) os) q.object ≡ Some (get_or os i d) = taken_get os (i + 1) q.object (omega arith) ∙ ap (slice_get os) is ∙ slice_get-get_or os i d less in
          let none : slice_get (take i os) q.object ≡ None = taken_past os i q.object (omega arith) in
          let was : noted old q ≡ None = inv q ∙ ap (found_in q) none in
          step q ∙ rw (was, same) (sym (ap (found_in q) here))
      | inr other ↦
          let apart : q.object ≡ i → ⊥ = λ e. absurd (grind (arith, nat_tests)) in
          step q ∙ rw other (or_none (noted old q) ∙ inv q ∙ sym (ap (found_in q) (taken_more os i q.object apart)))
    ]
