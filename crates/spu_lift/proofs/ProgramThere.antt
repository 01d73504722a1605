-- Objects without a fault stand for a program, and so each list of objects stands for one or has a fault.
use Rattle.std.proofs.Common.{◌≡◌, ℕ, ◌+◌, ◌-◌, ◌≤◌, ◌⊎◌, ◌↔◌, true, ◌==◌, List, [], length, map, slice_get, refl, ap, ◌∙◌, inl, inr, arith}
use Rattle.std.specs.Prelude.{All, filter}
use Rattle.std.proofs.lemmas.Bool.{and_from, eq-eqb}
use Rattle.spu_word.specs.declared.limits.TheConstants.{MAX_OBJECTS}
use Rattle.spu_elf.specs.declared.objects.Object.{Object}
use Rattle.spu_elf.specs.WellFormed.{IsWellFormed}
use Rattle.spu_lift.specs.declared.fault.LiftKind.{LiftKind}
use Rattle.spu_lift.specs.declared.fault.LiftKind.TheVariants.{FunctionOverlap, Misaligned, NoEntry}
use Rattle.spu_lift.specs.declared.fault.LiftFault.{LiftFault}
use Rattle.spu_lift.specs.declared.fault.LiftFault.TheVariants as faults
use Rattle.spu_lift.specs.declared.functions.FunctionSymbol.{FunctionSymbol}
use Rattle.spu_lift.specs.declared.functions.Place.{Place}
use Rattle.spu_lift.specs.declared.program.Prog.{Prog}
use Rattle.spu_lift.specs.Tables.{all_sections, data_end_of, holds_code}
use Rattle.spu_lift.specs.Extents.{Extent}
use Rattle.spu_lift.specs.Lifted.{IsProgramOf, ear_of, global_of, of_symbols}
use Rattle.spu_lift.specs.LiftFaults.{IsAbsent, IsLeastFault, Lifted}
use Rattle.spu_lift.specs.Checks.{first_spot}
use Rattle.spu_lift.specs.FunctionTables.{HasFunction, HasPlaces, IsPlaceIn}
use Rattle.spu_lift.specs.TakenPlaces.{IsTakenPlace}
use Rattle.spu_lift.specs.Built.{code_section}
use Rattle.spu_lift.proofs.NumberedFunctions.{have_places}
use Rattle.spu_lift.proofs.ProgramBuilt.{AreFaultless, program_is}
use Rattle.spu_lift.proofs.ReadyFunctions.{functions_ready}
use Rattle.spu_lift.proofs.MisalignedFirst.{HasEntry, decided_entry}
use Rattle.spu_lift.proofs.LeastFault.{HasLeast, fault_or_none}
use Rattle.spu_lift.proofs.BuiltFunctions.{functions_of}
use Rattle.spu_lift.proofs.BuiltTaken.{among, taken_there}
use Rattle.spu_lift.proofs.BuiltCode.{functions_to, parts_to, passed_to}

-- the entry is there, where it isn't missing
entry_of : (os : List Object) (name : List ℕ) → IsAbsent NoEntry os name → HasEntry os name
entry_of os name there = elim (decided_entry os name) [
  | inl entry ↦ entry
  | inr none ↦ absurd (there ([]) faults.NoEntry (record { none = λ x is. none (x, is); at = refl; told = refl }))
]

-- a function begins at the place where its extent begins
begins : (fs : List FunctionSymbol) (x : Extent) (has : HasFunction fs x) → 1 ≤ x.size → IsPlaceIn fs (first_spot x) (record { function = has.i + 1; word = 0 })
begins fs x has some =
    let object : has.f.object ≡ x.object = ap (λ (y : Extent). y.object) has.is in
    let section : has.f.section ≡ x.section = ap (λ (y : Extent). y.section) has.is in
    let offset : has.f.offset ≡ x.offset = ap (λ (y : Extent). y.offset) has.is in
    let size : has.f.size ≡ x.size = ap (λ (y : Extent). y.size) has.is in
    record {
      from = omega arith;
      f = has.f;
      there = (let back : (has.i + 1) - 1 ≡ has.i = omega arith in ap (slice_get fs) back ∙ has.there);
      section = and_from (has.f.object == x.object) (has.f.section == x.section) (eq-eqb has.f.object x.object object) (eq-eqb has.f.section x.section section);
      at = omega (arith, offset);
      inside = omega (arith, some, size);
    }

module _ (os : List Object) (name : List ℕ) (few : length os ≤ MAX_OBJECTS) (formed : All IsWellFormed os) (faultless : (kind : LiftKind) → IsAbsent kind os name) where
  module _ (fs : List FunctionSymbol) (h : AreFaultless os name fs) (ps : List Place) (these : (p : Place) → (among ps p ≡ true) ↔ IsTakenPlace os fs p) where
    has_places : HasPlaces fs
    has_places = have_places os name fs formed h.functions (faultless Misaligned) (faultless FunctionOverlap)

    from_entry : HasEntry os name → (p : Prog) × IsProgramOf os name p
    from_entry (x, entry) =
        let has = h.functions.all x (entry.j, entry.symbol, entry.section, entry.function) in
        let functions = functions_to os fs (among ps) (data_end_of os) (has.i + 1) (functions_ready os name fs h has_places) (length fs) (omega arith) in
        let parts = parts_to os fs has_places (length os) (omega arith) in
        let taken = passed_to (λ f. among ps (record { function = f; word = 0 })) (length fs) in
        let p : Prog = record {
          functions = functions.0;
          code = map code_section (filter holds_code (all_sections os));
          parts = parts.0;
          taken = taken.0;
          entry = has.i + 1;
          ears = of_symbols (ear_of os) os;
          globals = of_symbols (global_of os) os;
          data_end = data_end_of os;
        } in (
          p,
          program_is os name fs h p (among ps) functions.1 parts.1 these (first_spot x) (record { x = x; entry = entry; at = refl })
              (λ r place. (0, begins fs x has entry.function.some)) refl taken.1.rising taken.1.these refl refl refl,
        )

  pub program_there : (p : Prog) × IsProgramOf os name p
  program_there =
      let fs = functions_of os few formed in
      let h : AreFaultless os name fs.0 = record { formed = formed; faultless = faultless; functions = fs.1 } in
      let has = have_places os name fs.0 formed fs.1 (faultless Misaligned) (faultless FunctionOverlap) in
      let taken = taken_there os fs.0 has (functions_ready os name fs.0 h has) in
      from_entry fs.0 h taken.0 taken.1 (entry_of os name (faultless NoEntry))

pub faultless_lifted : (os : List Object) (name : List ℕ) → length os ≤ MAX_OBJECTS → All IsWellFormed os → ((kind : LiftKind) → IsAbsent kind os name) → (p : Prog) × Lifted os name p
faultless_lifted os name few formed faultless =
    let p = program_there os name few formed faultless in
    (p.0, record { faultless = faultless; program = p.1 })

pub lifted_or_faulty : (os : List Object) (name : List ℕ) → length os ≤ MAX_OBJECTS → All IsWellFormed os → ((p : Prog) × Lifted os name p) ⊎ ((fault : LiftFault) × IsLeastFault os name fault)
lifted_or_faulty os name few formed = by (fault_or_none os name formed)
  where
    by : HasLeast os name ⊎ ((kind : LiftKind) → IsAbsent kind os name) → ((p : Prog) × Lifted os name p) ⊎ ((fault : LiftFault) × IsLeastFault os name fault)
    by (inl least) = inr least
    by (inr faultless) = inl (faultless_lifted os name few formed faultless)
