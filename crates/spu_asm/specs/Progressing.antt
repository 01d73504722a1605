-- What the code has of the statements so far, and what it makes of all of them.
use Rattle.std.specs.Prelude.{◌≡◌, [], ◌∷◌, Some, None, option_map}
use Rattle.spu_elf.specs.Validity.{IsValid}
use Rattle.spu_asm.specs.Statements.{Name}
use Rattle.spu_asm.specs.Histories.{History}
use Rattle.spu_asm.specs.Faults.{Fault, Run, first_fault}
use Rattle.spu_asm.specs.Objects.{object_of}
use Rattle.spu_asm.specs.Summaries.{sighting_in, summary, enter}
use Rattle.spu_asm.specs.Cursors.{cursor_of}
use Rattle.spu_asm.specs.declared.progress.LineFault.{LineFault}
use Rattle.spu_asm.specs.declared.progress.Progress.{Progress}
use Rattle.spu_asm.specs.declared.progress.Outcome.{Outcome}
use Rattle.spu_asm.specs.declared.progress.Outcome.TheVariants as outcomes

abbrev pub fault_of : LineFault → Fault
fault_of f = record { line = f.line; kind = f.kind }

-- only a symbol that stands somewhere has a size
abbrev pub IsSizedHistory : History → Type 0
IsSizedHistory h = (n : Name) → (sighting_in h n).spot ≡ None → (sighting_in h n).size ≡ 0

-- each entry is what its statement makes behind those before it
abbrev pub IsMade : History → Type 0
IsMade [] = Unit {0}
IsMade (e ∷ h) = (e ≡ enter h e.labels e.effect) × IsMade h

-- the code stands for these statements
pub record InRun (r : Run) (p : Progress) : Type 0 where
  pub kept : cursor_of p.assembler ≡ summary r.history
  pub made : IsMade r.history
  pub sized : IsSizedHistory r.history
  pub worst : option_map fault_of p.worst ≡ first_fault r.faults

abbrev pub Finishes : Run → Outcome → Type 0
Finishes r (outcomes.Faulty f) = first_fault r.faults ≡ Some (fault_of f)
Finishes r (outcomes.Object o) = (r.faults ≡ []) × (o ≡ object_of r.history)
Finishes r outcomes.NoFile = (r.faults ≡ []) × (IsValid (object_of r.history) → ⊥)
