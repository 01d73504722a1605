-- Where a relocation may stand, and which of several stands first at a place.
use Rattle.std.proofs.Common.{◌≡◌, ℕ, zero, suc, ◌+◌, ◌-◌, ◌%◌, ◌<◌, ◌⊎◌, ◌==◌, Bool, true, false, not, eqb, nat_le, if◌then◌else◌, List, [], ◌∷◌, length, Option, Some, None, slice_get, refl, sym, ap, subst, ◌∙◌, inl, inr, arith, add-zero}
use Rattle.std.specs.List.{position_from}
use Rattle.std.specs.Option.{option_and_then, option_eq, option_map_or}
use Rattle.std.proofs.lemmas.Bool.{cases_Bool, eqb-true, eq-eqb, false≢true}
use Rattle.std.proofs.lemmas.Bool.Decides.{eqb_tells}
use Rattle.std.proofs.lemmas.Option.{cond_some, none-some, same_Some}
use Rattle.spu_word.specs.declared.limits.TheConstants.{WORD_SIZE}
use Rattle.spu_word.specs.Bytes.{be_number}
use Rattle.spu_isa.specs.declared.instruction.Inst.{Inst}
use Rattle.spu_isa.specs.Table.{Decodes}
use Rattle.spu_isa.proofs.Decoded.{one_instruction_lem}
use Rattle.spu_elf.specs.declared.objects.SecKind.{SecKind}
use Rattle.spu_elf.specs.declared.objects.SecKind.TheVariants as kinds
use Rattle.spu_elf.specs.declared.objects.Section.{Section}
use Rattle.spu_elf.specs.declared.objects.Reloc.{Reloc}
use Rattle.spu_elf.specs.declared.objects.Object.{Object}
use Rattle.spu_reloc.specs.declared.field.RelocKind.{RelocKind}
use Rattle.spu_reloc.specs.declared.field.RelocKind.TheVariants.{Addr16, Addr16Hi, Addr16Lo, Addr18, Addr32, Rel16}
use Rattle.spu_reloc.specs.Fields.{fits_on, number_of}
use Rattle.spu_lift.specs.declared.relocations.Spot.{Spot}
use Rattle.spu_lift.specs.Tables.{is_code, reloc_at, relocs_of, section_at}
use Rattle.spu_lift.specs.LiftFaults.{FitsIn, IsBadReloc, IsSecond}
use Rattle.spu_lift.specs.LookUps.{HasWord, IsWordOf, stands_at, word_at, word_in}
use Rattle.spu_lift.specs.Checks.{MayHave, spot_of}
use Rattle.spu_lift.proofs.ExtentFacts.{both_true, code_only, true_both}
use Rattle.spu_lift.proofs.TableLemmas.{word_there}

-- ---- the word of a relocation

pub word_is : (os : List Object) (q : Spot) (t : Section) (w : ℕ) → section_at os q.object q.section ≡ Some t → word_at os q ≡ Some w → w ≡ be_number t.bytes q.offset
word_is os q t w there at =
    let found : word_in q.offset t ≡ Some w = sym (ap (option_and_then (word_in q.offset)) there) ∙ at in
    sym (cond_some (nat_le (q.offset + 4) (length t.bytes)) (be_number t.bytes q.offset) w found).1

-- a section whose kind was asked
pub code_there : (os : List Object) (n k : ℕ) (t : Section) → section_at os n k ≡ Some t → option_map_or (λ (x : Section). is_code x.kind) (section_at os n k) false ≡ true → t.kind ≡ kinds.Code
code_there os n k t there is = code_only t.kind (sym (ap (λ o. option_map_or (λ (x : Section). is_code x.kind) o false) there) ∙ is)

pub may_have_some : (os : List Object) (q : Spot) (t : Section) (x : Inst) (kind : RelocKind) (b : Bool) → section_at os q.object q.section ≡ Some t → t.kind ≡ kinds.Code → IsWordOf os q x → b ≡ fits_on kind x.op
    → (b ≡ true → MayHave t.kind (be_number t.bytes q.offset) kind) × (MayHave t.kind (be_number t.bytes q.offset) kind → b ≡ true)
may_have_some os q t x kind b there code is fits = (forth, back)
  where
    word : is.word ≡ be_number t.bytes q.offset
    word = word_is os q t is.word there is.at

    decodes : Decodes (be_number t.bytes q.offset) x
    decodes = subst (λ w. Decodes w x) word is.decodes

    forth : b ≡ true → MayHave t.kind (be_number t.bytes q.offset) kind
    forth passes = subst (λ (k : SecKind). MayHave k (be_number t.bytes q.offset) kind) (sym code) (x, decodes, sym fits ∙ passes)

    back : MayHave t.kind (be_number t.bytes q.offset) kind → b ≡ true
    back h =
        let has : MayHave kinds.Code (be_number t.bytes q.offset) kind = subst (λ (k : SecKind). MayHave k (be_number t.bytes q.offset) kind) code h in
        let same : x ≡ has.0 = one_instruction_lem (be_number t.bytes q.offset) x has.0 decodes has.1 in
        fits ∙ ap (λ (y : Inst). fits_on kind y.op) same ∙ has.2

pub may_have_none : (os : List Object) (q : Spot) (t : Section) (kind : RelocKind) → section_at os q.object q.section ≡ Some t → t.kind ≡ kinds.Code → HasWord os q → ((x : Inst) → IsWordOf os q x → ⊥)
    → (false ≡ true → MayHave t.kind (be_number t.bytes q.offset) kind) × (MayHave t.kind (be_number t.bytes q.offset) kind → false ≡ true)
may_have_none os q t kind there code has none = (λ e. absurd (false≢true e), λ h. absurd (no h))
  where
    no : MayHave t.kind (be_number t.bytes q.offset) kind → ⊥
    no h =
        let is : MayHave kinds.Code (be_number t.bytes q.offset) kind = subst (λ (k : SecKind). MayHave k (be_number t.bytes q.offset) kind) code h in
        none is.0 (record { word = be_number t.bytes q.offset; at = word_there os q t there (has t there); decodes = is.1 })

-- ---- the kind of a relocation

kind_by : ℕ → RelocKind
kind_by n = if n == 2 then Addr16 else (if n == 3 then Addr16Hi else (if n == 4 then Addr16Lo else (if n == 5 then Addr18 else (if n == 6 then Addr32 else Rel16))))

kind_back : (k : RelocKind) → kind_by (number_of k) ≡ k
unfolding kind_by
kind_back Addr16 = refl
kind_back Addr16Hi = refl
kind_back Addr16Lo = refl
kind_back Addr18 = refl
kind_back Addr32 = refl
kind_back Rel16 = refl

pub kind_same : (a b : RelocKind) → number_of a ≡ number_of b → a ≡ b
kind_same a b same = sym (kind_back a) ∙ ap kind_by same ∙ kind_back b

fits_so : (k : SecKind) (t : Section) (r : Reloc) (kind : RelocKind) → number_of kind ≡ r.kind → MayHave k (be_number t.bytes r.offset) kind → FitsIn k t r
fits_so kinds.Code t r kind number h = (kind, number, h.0, h.1, h.2)
fits_so kinds.Const t r kind number h = sym number ∙ ap number_of h
fits_so kinds.Vars t r kind number h = sym number ∙ ap number_of h
fits_so kinds.Zero t r kind number h = sym number ∙ ap number_of h

may_so : (k : SecKind) (t : Section) (r : Reloc) (kind : RelocKind) → number_of kind ≡ r.kind → FitsIn k t r → MayHave k (be_number t.bytes r.offset) kind
may_so kinds.Code t r kind number h =
    let same : h.0 ≡ kind = kind_same h.0 kind (h.1 ∙ sym number) in
    (h.2, h.3, ap (λ y. fits_on y h.2.op) (sym same) ∙ h.4)
may_so kinds.Const t r kind number h = kind_same kind Addr32 (number ∙ h)
may_so kinds.Vars t r kind number h = kind_same kind Addr32 (number ∙ h)
may_so kinds.Zero t r kind number h = kind_same kind Addr32 (number ∙ h)

pub may_stand_some : (t : Section) (r : Reloc) (kind : RelocKind) (b : Bool) → number_of kind ≡ r.kind
    → (b ≡ true → MayHave t.kind (be_number t.bytes r.offset) kind) × (MayHave t.kind (be_number t.bytes r.offset) kind → b ≡ true) → (b ≡ true → FitsIn t.kind t r) × (FitsIn t.kind t r → b ≡ true)
may_stand_some t r kind b number has = (λ passes. fits_so t.kind t r kind number (has.0 passes), λ fits. has.1 (may_so t.kind t r kind number fits))

unknown : (k : SecKind) (t : Section) (r : Reloc) → ((kind : RelocKind) → number_of kind ≡ r.kind → ⊥) → FitsIn k t r → ⊥
unknown kinds.Code t r none h = none h.0 h.1
unknown kinds.Const t r none h = none Addr32 (sym h)
unknown kinds.Vars t r none h = none Addr32 (sym h)
unknown kinds.Zero t r none h = none Addr32 (sym h)

pub may_stand_none : (t : Section) (r : Reloc) → ((kind : RelocKind) → number_of kind ≡ r.kind → ⊥) → (false ≡ true → FitsIn t.kind t r) × (FitsIn t.kind t r → false ≡ true)
may_stand_none t r none = (λ e. absurd (false≢true e), λ fits. absurd (unknown t.kind t r none fits))

-- ---- the first at a place

first_or_earlier : {X : Type 0} (p : X → Bool) (xs : List X) (from i : ℕ) (x : X) → slice_get xs i ≡ Some x → p x ≡ true
    → (position_from p from xs ≡ Some (from + i)) ⊎ ((m : ℕ) × (y : X) × (m < i) × (slice_get xs m ≡ Some y) × (p y ≡ true))
first_or_earlier p [] from i x there is = absurd (none-some x there)
first_or_earlier p (z ∷ xs) from zero x there is =
    let here : p z ≡ true = ap p (same_Some z x there) ∙ is in
    inl (rw here (ap Some (sym (add-zero from))))
first_or_earlier p (z ∷ xs) from (suc i) x there is = elim (cases_Bool (p z)) [
  | inl passes ↦ inr (0, z, omega arith, refl, passes)
  | inr fails ↦ elim (first_or_earlier p xs (from + 1) i x there is) [
    | inl at ↦ let sum : (from + 1) + i ≡ from + suc i = omega arith in inl (rw fails (at ∙ ap Some sum))
    | inr earlier ↦ inr (suc earlier.0, earlier.1, omega (arith, earlier.2), earlier.3, earlier.4)
  ]
]

none_earlier : {X : Type 0} (p : X → Bool) (xs : List X) (from i m : ℕ) (y : X) → position_from p from xs ≡ Some (from + i) → m < i → slice_get xs m ≡ Some y → p y ≡ true → ⊥
none_earlier p [] from i m y at less there is = none-some y there
none_earlier p (z ∷ xs) from i zero y at less there is =
    let here : p z ≡ true = ap p (same_Some z y there) ∙ is in
    let first : from ≡ from + i = same_Some from (from + i) (rw here at at) in
    omega arith
none_earlier p (z ∷ xs) from i (suc m) y at less there is = elim (cases_Bool (p z)) [
  | inl passes ↦
      let first : from ≡ from + i = same_Some from (from + i) (rw passes at at) in
      absurd (omega arith)
  | inr fails ↦
      let sum : from + i ≡ (from + 1) + (i - 1) = omega arith in
      none_earlier p xs (from + 1) (i - 1) m y ((rw fails at at) ∙ ap Some sum) (omega arith) there is
]

same_place : (q : Spot) (r : Reloc) → stands_at q r ≡ true → (r.section ≡ q.section) × (r.offset ≡ q.offset)
same_place q r is = let parts = both_true (r.section == q.section) (r.offset == q.offset) is in (eqb-true r.section q.section parts.0, eqb-true r.offset q.offset parts.1)

stands : (q : Spot) (r : Reloc) → r.section ≡ q.section → r.offset ≡ q.offset → stands_at q r ≡ true
stands q r section offset = true_both (r.section == q.section) (r.offset == q.offset) (eq-eqb r.section q.section section) (eq-eqb r.offset q.offset offset)

-- a relocation that isn't the first at its place is a second
pub second : (os : List Object) (n i : ℕ) (r : Reloc) (o : Option ℕ) → reloc_at os n i ≡ Some r → o ≡ position_from (stands_at (spot_of n r)) 0 (relocs_of os n) → (o ≡ Some i → ⊥) → IsSecond os n i r
second os n i r o there is other = elim (first_or_earlier (stands_at (spot_of n r)) (relocs_of os n) 0 i r there (stands (spot_of n r) r refl refl)) [
  | inl first ↦ let sum : 0 + i ≡ i = omega arith in absurd (other (is ∙ first ∙ ap Some sum))
  | inr earlier ↦
      let same = same_place (spot_of n r) earlier.1 earlier.4 in
      record { m = earlier.0; other = earlier.1; there = earlier.3; earlier = earlier.2; section = same.0; offset = same.1 }
]

pub not_second : (os : List Object) (n i : ℕ) (r : Reloc) (o : Option ℕ) → o ≡ position_from (stands_at (spot_of n r)) 0 (relocs_of os n) → IsSecond os n i r → o ≡ Some i → ⊥
not_second os n i r o is s at =
    let sum : i ≡ 0 + i = omega arith in
    none_earlier (stands_at (spot_of n r)) (relocs_of os n) 0 i s.m s.other (sym is ∙ at ∙ ap Some sum) s.earlier s.there (stands (spot_of n r) s.other s.section s.offset)

-- what the comparison of what is noted tells
not_equal : (o : Option ℕ) (i : ℕ) (b : Bool) → b ≡ not (option_eq eqb o (Some i)) → (b ≡ true → o ≡ Some i → ⊥) × ((o ≡ Some i → ⊥) → b ≡ true)
not_equal None i b is = (λ e same. none-some i same, λ unless. is)
not_equal (Some k) i b is = elim (eqb_tells k i) [
  | inl (equal, same) ↦
      let fails : b ≡ false = is ∙ ap not equal in
      (λ e at. absurd (false≢true (sym fails ∙ e)), λ unless. absurd (unless (ap Some same)))
  | inr (unequal, apart) ↦ (λ e at. apart (same_Some k i at), λ unless. is ∙ ap not unequal)
]

pub second_if : (os : List Object) (n i : ℕ) (r : Reloc) (o : Option ℕ) (b : Bool) → reloc_at os n i ≡ Some r → o ≡ position_from (stands_at (spot_of n r)) 0 (relocs_of os n) → b ≡ not (option_eq eqb o (Some i))
    → (b ≡ true → IsSecond os n i r) × (IsSecond os n i r → b ≡ true)
second_if os n i r o b there noted tells =
    let parts = not_equal o i b tells in
    (λ passes. second os n i r o there noted (parts.0 passes), λ s. parts.1 (not_second os n i r o noted s))

-- a relocation at a multiple of 4 that is no second is bad where it may not stand
pub unfit_if : (os : List Object) (n i : ℕ) (r : Reloc) (t : Section) (b : Bool) → r.offset % WORD_SIZE ≡ 0 → (IsSecond os n i r → ⊥) → (b ≡ true → FitsIn t.kind t r) × (FitsIn t.kind t r → b ≡ true)
    → (not b ≡ true → IsBadReloc os n i r t) × (IsBadReloc os n i r t → not b ≡ true)
unfit_if os n i r t true even first stands = (λ fails. absurd (false≢true fails), λ bad. absurd (good bad))
  where
    good : IsBadReloc os n i r t → ⊥
    good (inl odd) = odd even
    good (inr (inl second)) = first second
    good (inr (inr misfit)) = misfit (stands.0 refl)
unfit_if os n i r t false even first stands = (λ misfit. inr (inr (λ fits. absurd (false≢true (stands.1 fits)))), λ bad. refl)
