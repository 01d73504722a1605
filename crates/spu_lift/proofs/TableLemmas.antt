-- What is looked up in objects: words, hints, and relocations by their places.
use Rattle.std.proofs.Common.{◌≡◌, ℕ, ◌+◌, ◌≤◌, Bool, true, cond, nat_le, ltb, List, length, Some, None, slice_get, ap, ◌∙◌, inl, inr, arith}
use Rattle.std.specs.List.{find, position_from, position_or_len}
use Rattle.std.specs.Option.{option_and_then}
use Rattle.std.proofs.lemmas.Bool.{cases_lt}
use Rattle.std.proofs.lemmas.Bool.Decides.{nat_tests}
use Rattle.std.proofs.lemmas.Iterator.Adapters.{position_from-zero}
use Rattle.std.proofs.lemmas.List.Folds.{find_at}
use Rattle.std.proofs.lemmas.Option.{cond_some, slice_get_past}
use Rattle.spu_word.specs.Bytes.{be_number}
use Rattle.spu_isa.specs.declared.instruction.Inst.{Inst}
use Rattle.spu_elf.specs.declared.objects.Section.{Section}
use Rattle.spu_elf.specs.declared.objects.Object.{Object}
use Rattle.spu_lift.specs.declared.relocations.Spot.{Spot}
use Rattle.spu_lift.specs.Tables.{section_at}
use Rattle.spu_lift.specs.Meanings.{IsInstructionAt}
use Rattle.spu_lift.specs.LookUps.{HasWord, IsWordOf, word_at, word_in}

-- ---- words

-- a word inside its section is there
pub word_there : (os : List Object) (q : Spot) (t : Section) → section_at os q.object q.section ≡ Some t → q.offset + 4 ≤ length t.bytes → word_at os q ≡ Some (be_number t.bytes q.offset)
word_there os q t there inside =
    let fits : nat_le (q.offset + 4) (length t.bytes) ≡ true = grind (arith, nat_tests) in
    ap (option_and_then (word_in q.offset)) there ∙ ap (λ b. cond b (Some (be_number t.bytes q.offset)) None) fits

pub instruction_there : (os : List Object) (q : Spot) (t : Section) (x : Inst) → HasWord os q → IsInstructionAt os q.object q.section q.offset t x → IsWordOf os q x
instruction_there os q t x has is = record {
  word = be_number t.bytes q.offset;
  at = word_there os q t is.section (has t is.section);
  decodes = is.decodes;
}

-- ---- the first of a list

pub first_found : {X : Type 0} (p : X → Bool) (xs : List X) (i : ℕ) → position_from p 0 xs ≡ Some i → find p xs ≡ slice_get xs i
first_found p xs i is =
    find_at p xs ∙ ap (slice_get xs) (cond_some (ltb (position_or_len p xs) (length xs)) (position_or_len p xs) i (position_from-zero p xs ∙ is)).1

pub none_found : {X : Type 0} (p : X → Bool) (xs : List X) → position_from p 0 xs ≡ None → find p xs ≡ None
none_found p xs is = elim (cases_lt (position_or_len p xs) (length xs)) [
  | inl less ↦
      let test : ltb (position_or_len p xs) (length xs) ≡ true = grind (arith, nat_tests) in
      let none : cond (ltb (position_or_len p xs) (length xs)) (Some (position_or_len p xs)) None ≡ None = position_from-zero p xs ∙ is in
      let some : Some (position_or_len p xs) ≡ None = rw test at none in
      absurd (cc)
  | inr past ↦ find_at p xs ∙ slice_get_past xs (position_or_len p xs) past
]
