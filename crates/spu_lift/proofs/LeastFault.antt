-- Well-formed objects have a least fault, or none.
use Rattle.std.proofs.Common.{◌≡◌, ℕ, ◌+◌, ◌≤◌, ◌⊎◌, List, None, refl, inl, inr, lit≤}
use Rattle.std.specs.Prelude.{All}
use Rattle.spu_word.proofs.Places.{get_some}
use Rattle.spu_elf.specs.declared.objects.Object.{Object}
use Rattle.spu_elf.specs.WellFormed.{IsWellFormed}
use Rattle.spu_lift.specs.declared.fault.LiftKind.{LiftKind}
use Rattle.spu_lift.specs.declared.fault.LiftKind.TheVariants.{BadRelocation, BadTarget, CodeAddend, CodeOutsideFunction, DuplicateSymbol, FunctionOverlap, LinkRegister, Misaligned, NoEntry, ReadsCode, ReservedName, UndefinedSymbol, UnknownInstruction}
use Rattle.spu_lift.specs.declared.fault.LiftFault.{LiftFault}
use Rattle.spu_lift.specs.declared.fault.LiftFault.TheVariants as faults
use Rattle.spu_lift.specs.Tables.{symbols_of, target_of}
use Rattle.spu_lift.specs.LiftFaults.{GoesAstray, IsAbsent, IsBadAddend, IsBadReloc, IsDuplicate, IsLeastFault, IsOutside, IsReserved, IsShared, IsUnknown, IsWrong, LinksOtherwise, ReadsOfCode, Shows, TellsSite, TellsSymbol, kind_number}
use Rattle.spu_lift.proofs.OneExtent.{reloc_formed}
use Rattle.spu_lift.proofs.CheckOrder.{AreAbsent, all_absent_from, none_absent, one_more_absent}
use Rattle.spu_lift.proofs.ConditionDecisions.{decided_astray, decided_bad_addend, decided_bad_reloc, decided_duplicate, decided_links, decided_outside, decided_reads, decided_reserved, decided_shared, decided_undefined, decided_unknown, decided_wrong}
use Rattle.spu_lift.proofs.PlaceSearch.{IsFirstOrNowhere}
use Rattle.spu_lift.proofs.ShownFirst.{Telling, code_first, reloc_first, symbol_first, word_first}
use Rattle.spu_lift.proofs.MisalignedFirst.{entry_first, misaligned_first}

-- ---- each kind

tells_symbol : (os : List Object) → All IsWellFormed os → Telling os (TellsSymbol os UndefinedSymbol)
tells_symbol os formed n i r t at =
    let symbol = get_some (symbols_of os n) r.symbol (reloc_formed os n i r formed at).known in
    (faults.Symbol UndefinedSymbol symbol.0.name, (symbol.0, symbol.1, refl))

tells_site : (os : List Object) (kind : LiftKind) → Telling os (TellsSite kind)
tells_site os kind n i r t at = (faults.Site kind n t.name r.offset, refl)

pub first_or_absent : (kind : LiftKind) (os : List Object) (entry : List ℕ) → All IsWellFormed os → IsFirstOrNowhere (Shows kind os entry)
first_or_absent DuplicateSymbol os entry formed = symbol_first os DuplicateSymbol (IsDuplicate os) (decided_duplicate os)
first_or_absent UndefinedSymbol os entry formed = reloc_first os (λ n i r t. target_of os n r ≡ None) (TellsSymbol os UndefinedSymbol) formed (λ n i r t. decided_undefined os n r) (tells_symbol os formed)
first_or_absent ReservedName os entry formed = symbol_first os ReservedName (λ n j s. IsReserved s.name) (λ n j s at. decided_reserved s.name)
first_or_absent NoEntry os entry formed = entry_first os entry
first_or_absent Misaligned os entry formed = misaligned_first os
first_or_absent CodeOutsideFunction os entry formed = code_first os CodeOutsideFunction (IsOutside os) formed (decided_outside os)
first_or_absent FunctionOverlap os entry formed = code_first os FunctionOverlap (IsShared os) formed (decided_shared os)
first_or_absent UnknownInstruction os entry formed = word_first os UnknownInstruction IsUnknown formed decided_unknown
first_or_absent BadRelocation os entry formed = reloc_first os (IsBadReloc os) (TellsSite BadRelocation) formed (decided_bad_reloc os) (tells_site os BadRelocation)
first_or_absent BadTarget os entry formed = word_first os BadTarget (IsWrong os (GoesAstray os)) formed (decided_wrong os (GoesAstray os) (decided_astray os))
first_or_absent CodeAddend os entry formed = reloc_first os (IsBadAddend os) (TellsSite CodeAddend) formed (decided_bad_addend os) (tells_site os CodeAddend)
first_or_absent LinkRegister os entry formed = word_first os LinkRegister (IsWrong os LinksOtherwise) formed (decided_wrong os LinksOtherwise decided_links)
first_or_absent ReadsCode os entry formed = word_first os ReadsCode (IsWrong os ReadsOfCode) formed (decided_wrong os ReadsOfCode decided_reads)

-- ---- in order of their numbers

positive : (kind : LiftKind) → 1 ≤ kind_number kind
positive DuplicateSymbol = lit≤ tt
positive _ = lit≤ tt

abbrev pub HasLeast : List Object → List ℕ → Type 0
HasLeast os entry = (fault : LiftFault) × IsLeastFault os entry fault

next : (kind : LiftKind) (os : List Object) (entry : List ℕ) → All IsWellFormed os → HasLeast os entry ⊎ AreAbsent 1 (kind_number kind) os entry → HasLeast os entry ⊎ AreAbsent 1 (kind_number kind + 1) os entry
next kind os entry formed (inl least) = inl least
next kind os entry formed (inr absent) = elim (first_or_absent kind os entry formed) [
  | inr none ↦ inr (one_more_absent kind 1 os entry absent none)
  | inl shown ↦ inl (
    shown.0,
    record {
      kind = kind;
      here = record { place = shown.1.place; here = shown.1.here; first = shown.1.first };
      least = λ less before. absent.each less (positive less) before;
    },
  )
]

module _ (os : List Object) (entry : List ℕ) (formed : All IsWellFormed os) where
  to_8 : HasLeast os entry ⊎ AreAbsent 1 8 os entry
  to_8 =
      next FunctionOverlap os entry formed (next CodeOutsideFunction os entry formed (next Misaligned os entry formed (next NoEntry os entry formed
      (next ReservedName os entry formed (next UndefinedSymbol os entry formed (next DuplicateSymbol os entry formed (inr (none_absent 1 os entry))))))))

  to_14 : HasLeast os entry ⊎ AreAbsent 1 14 os entry
  to_14 =
      next ReadsCode os entry formed (next LinkRegister os entry formed (next CodeAddend os entry formed (next BadTarget os entry formed
      (next BadRelocation os entry formed (next UnknownInstruction os entry formed (to_8))))))

none_at_all : (os : List Object) (entry : List ℕ) → HasLeast os entry ⊎ AreAbsent 1 14 os entry → HasLeast os entry ⊎ ((kind : LiftKind) → IsAbsent kind os entry)
none_at_all os entry (inl least) = inl least
none_at_all os entry (inr absent) = inr (λ kind. all_absent_from 1 os entry absent kind (positive kind))

pub fault_or_none : (os : List Object) (entry : List ℕ) → All IsWellFormed os → HasLeast os entry ⊎ ((kind : LiftKind) → IsAbsent kind os entry)
fault_or_none os entry formed = none_at_all os entry (to_14 os entry formed)
