-- The checks in order of their numbers: what is absent so far, and the least that is shown.
use Rattle.std.proofs.Common.{◌≡◌, ℕ, ◌+◌, ◌<◌, ◌≤◌, List, [], refl, subst, inl, inr, arith, lit≤}
use Rattle.std.proofs.lemmas.Bool.{cases_lt}
use Rattle.spu_elf.specs.declared.objects.Object.{Object}
use Rattle.spu_lift.specs.declared.fault.LiftKind.{LiftKind}
use Rattle.spu_lift.specs.declared.fault.LiftKind.TheVariants.{BadRelocation, BadTarget, CodeAddend, CodeOutsideFunction, DuplicateSymbol, FunctionOverlap, LinkRegister, Misaligned, NoEntry, ReadsCode, ReservedName, UndefinedSymbol, UnknownInstruction}
use Rattle.spu_lift.specs.declared.fault.LiftFault.{LiftFault}
use Rattle.spu_lift.specs.declared.fault.LiftFault.TheVariants as faults
use Rattle.spu_lift.specs.LiftFaults.{IsAbsent, IsRefused, Shows, kind_number}
use Rattle.spu_lift.specs.Checks.{AreAbsentFrom, IsAnswer, IsLeastFrom, IsNowhere}
use Rattle.spu_lift.proofs.OneFault.{kind_same}

bounds : (k : LiftKind) → (1 ≤ kind_number k) × (kind_number k ≤ 13)
bounds DuplicateSymbol = (lit≤ tt, lit≤ tt)
bounds UndefinedSymbol = (lit≤ tt, lit≤ tt)
bounds ReservedName = (lit≤ tt, lit≤ tt)
bounds NoEntry = (lit≤ tt, lit≤ tt)
bounds Misaligned = (lit≤ tt, lit≤ tt)
bounds CodeOutsideFunction = (lit≤ tt, lit≤ tt)
bounds FunctionOverlap = (lit≤ tt, lit≤ tt)
bounds UnknownInstruction = (lit≤ tt, lit≤ tt)
bounds BadRelocation = (lit≤ tt, lit≤ tt)
bounds BadTarget = (lit≤ tt, lit≤ tt)
bounds CodeAddend = (lit≤ tt, lit≤ tt)
bounds LinkRegister = (lit≤ tt, lit≤ tt)
bounds ReadsCode = (lit≤ tt, lit≤ tt)

-- ---- what is absent so far

-- no fault from one number to another
pub record AreAbsent (from to : ℕ) (os : List Object) (entry : List ℕ) : Type 0 where
  pub each : (k : LiftKind) → from ≤ kind_number k → kind_number k < to → IsAbsent k os entry

pub none_absent : (from : ℕ) (os : List Object) (entry : List ℕ) → AreAbsent from from os entry
none_absent from os entry = record { each = λ k behind before. absurd (omega arith) }

pub one_more_absent : (kind : LiftKind) (from : ℕ) (os : List Object) (entry : List ℕ) → AreAbsent from (kind_number kind) os entry → IsNowhere (Shows kind os entry) → AreAbsent from (kind_number kind + 1) os entry
one_more_absent kind from os entry absent none = record {
  each = λ k behind before. elim (cases_lt (kind_number k) (kind_number kind)) [
    | inl less ↦ absent.each k behind less
    | inr more ↦
        let same : kind ≡ k = kind_same kind k (omega arith) in
        subst (λ (x : LiftKind). IsAbsent x os entry) same none
  ];
}

pub all_absent_from : (from : ℕ) (os : List Object) (entry : List ℕ) → AreAbsent from 14 os entry → AreAbsentFrom from os entry
all_absent_from from os entry absent kind behind = let most = (bounds kind).1 in absent.each kind behind (omega arith)

-- ---- of any entry

-- the entry matters to the missing entry alone
same_shows : (kind : LiftKind) (os : List Object) (entry : List ℕ) → 5 ≤ kind_number kind → ◌≡◌ {A = List ℕ → LiftFault → Type 0} (Shows kind os ([])) (Shows kind os entry)
same_shows DuplicateSymbol os entry late = refl
same_shows UndefinedSymbol os entry late = refl
same_shows ReservedName os entry late = refl
same_shows NoEntry os entry late = absurd (omega arith)
same_shows Misaligned os entry late = refl
same_shows CodeOutsideFunction os entry late = refl
same_shows FunctionOverlap os entry late = refl
same_shows UnknownInstruction os entry late = refl
same_shows BadRelocation os entry late = refl
same_shows BadTarget os entry late = refl
same_shows CodeAddend os entry late = refl
same_shows LinkRegister os entry late = refl
same_shows ReadsCode os entry late = refl

absent_at : (kind : LiftKind) (os : List Object) (entry : List ℕ) → 5 ≤ kind_number kind → IsAbsent kind os ([]) → IsAbsent kind os entry
absent_at kind os entry late absent = subst (λ (shown : List ℕ → LiftFault → Type 0). IsNowhere shown) (same_shows kind os entry late) absent

-- ---- all checks

pub all_absent : (os : List Object) (entry : List ℕ) → AreAbsent 1 8 os entry → AreAbsentFrom 8 os ([]) → (kind : LiftKind) → IsAbsent kind os entry
all_absent os entry front back kind = elim (cases_lt (kind_number kind) 8) [
  | inl less ↦ front.each kind ((bounds kind).0) less
  | inr more ↦ absent_at kind os entry (omega arith) (back kind more)
]

pub refused : (kind : LiftKind) (os : List Object) (entry : List ℕ) (fault : LiftFault) → AreAbsent 1 (kind_number kind) os entry → IsAnswer (Shows kind os entry) fault → IsRefused os entry fault
refused kind os entry faults.NoEntry absent answer = record {
  kind = kind;
  here = record { place = answer.place; here = answer.here; first = answer.first };
  least = λ less before. absent.each less ((bounds less).0) before;
}
refused kind os entry (faults.Symbol k name) absent answer = record {
  kind = kind;
  here = record { place = answer.place; here = answer.here; first = answer.first };
  least = λ less before. absent.each less ((bounds less).0) before;
}
refused kind os entry (faults.Site k object section offset) absent answer = record {
  kind = kind;
  here = record { place = answer.place; here = answer.here; first = answer.first };
  least = λ less before. absent.each less ((bounds less).0) before;
}
refused kind os entry (faults.Word k function offset) absent answer = record {
  kind = kind;
  here = record { place = answer.place; here = answer.here; first = answer.first };
  least = λ less before. absent.each less ((bounds less).0) before;
}
refused kind os entry faults.OutOfMemory absent answer = tt

-- a fault of words or relocations comes behind the others
pub refused_behind : (os : List Object) (entry : List ℕ) (fault : LiftFault) → AreAbsent 1 8 os entry → IsLeastFrom 8 os ([]) fault → IsRefused os entry fault
refused_behind os entry fault front least =
    let number = least.number in
    let absent : AreAbsent 1 (kind_number least.kind) os entry = record {
      each = λ k behind before. elim (cases_lt (kind_number k) 8) [
        | inl less ↦ front.each k behind less
        | inr more ↦ absent_at k os entry (omega arith) (least.least k more before)
      ];
    } in
    refused least.kind os entry fault absent (subst (λ (shown : List ℕ → LiftFault → Type 0). IsAnswer shown fault) (same_shows least.kind os entry (omega arith)) least.here)

-- ---- the first seven

abbrev pub IsGood : LiftKind → List Object → Type 0
IsGood kind os = IsNowhere (Shows kind os ([]))

pub absent_to_2 : (os : List Object) (entry : List ℕ) → IsGood DuplicateSymbol os → AreAbsent 1 2 os entry
absent_to_2 os entry a = one_more_absent DuplicateSymbol 1 os entry (none_absent 1 os entry) a

pub absent_to_3 : (os : List Object) (entry : List ℕ) → IsGood DuplicateSymbol os → IsGood UndefinedSymbol os → AreAbsent 1 3 os entry
absent_to_3 os entry a b = one_more_absent UndefinedSymbol 1 os entry (absent_to_2 os entry a) b

pub absent_to_4 : (os : List Object) (entry : List ℕ) → IsGood DuplicateSymbol os → IsGood UndefinedSymbol os → IsGood ReservedName os → AreAbsent 1 4 os entry
absent_to_4 os entry a b c = one_more_absent ReservedName 1 os entry (absent_to_3 os entry a b) c

pub absent_to_5 : (os : List Object) (entry : List ℕ) → AreAbsent 1 4 os entry → IsNowhere (Shows NoEntry os entry) → AreAbsent 1 5 os entry
absent_to_5 os entry before d = one_more_absent NoEntry 1 os entry before d

pub absent_to_6 : (os : List Object) (entry : List ℕ) → AreAbsent 1 5 os entry → IsGood Misaligned os → AreAbsent 1 6 os entry
absent_to_6 os entry before e = one_more_absent Misaligned 1 os entry before e

pub absent_to_7 : (os : List Object) (entry : List ℕ) → AreAbsent 1 6 os entry → IsGood CodeOutsideFunction os → AreAbsent 1 7 os entry
absent_to_7 os entry before f = one_more_absent CodeOutsideFunction 1 os entry before f

pub absent_to_8 : (os : List Object) (entry : List ℕ) → AreAbsent 1 7 os entry → IsGood FunctionOverlap os → AreAbsent 1 8 os entry
absent_to_8 os entry before g = one_more_absent FunctionOverlap 1 os entry before g
