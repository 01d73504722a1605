-- The instruction of a word, by the operand that stands for its field.
use Rattle.std.proofs.Common.{◌≡◌, ℕ, ◌<◌, ◌%◌, ◌^◌, refl, sym, ◌∙◌, subst, Bool, true, false, ℤ}
use Rattle.spu_isa.specs.declared.operation.Op.{Op}
use Rattle.spu_isa.specs.declared.operation.Op.TheVariants as op
use Rattle.spu_isa.specs.declared.operation.Kind.{Kind}
use Rattle.spu_isa.specs.declared.operation.Kind.TheVariants as kind
use Rattle.spu_isa.specs.declared.instruction.Inst.{Inst}
use Rattle.spu_isa.specs.Table.{row_of}
use Rattle.spu_reloc.specs.Fields.{fits_on, kind_on, stored, relocated}
use Rattle.spu_reloc.specs.Meanings.{Reaches, Means}
use Rattle.spu_reloc.proofs.Patches.{no, one_kind}
use Rattle.spu_lift.specs.declared.program.Operand.{Operand}
use Rattle.spu_lift.specs.declared.program.Operand.TheVariants as operand
use Rattle.spu_lift.specs.declared.program.SymInst.{SymInst}
use Rattle.spu_layout.specs.Layouts.{Layout}
use Rattle.spu_image.proofs.Instructions.{instruction_by}
use Rattle.spu_image.specs.Words.{value_of, IsPatched, IsWordBy}
use Rattle.spu_image.proofs.WordLaws.{patched_means}

-- the immediate of the instruction that an operand makes
abbrev pub field_by : Operand → Layout → ℕ → ℕ → Inst → ℤ
field_by operand.Plain l f i x = x.imm
field_by (operand.Number n) l f i x = stored (kind_on x.op) (value_of l f (operand.Number n)) (l.at f i)
field_by (operand.Address m) l f i x = stored (kind_on x.op) (value_of l f (operand.Address m)) (l.at f i)
field_by (operand.Call g) l f i x = stored (kind_on x.op) (value_of l f (operand.Call g)) (l.at f i)
field_by (operand.Jump g) l f i x = stored (kind_on x.op) (value_of l f (operand.Jump g)) (l.at f i)
field_by (operand.Branch j) l f i x = stored (kind_on x.op) (value_of l f (operand.Branch j)) (l.at f i)

pub other_field : (o : Operand) (l : Layout) (f i : ℕ) (x : Inst) → instruction_by o l f i x ≡ record x { imm = field_by o l f i x }
other_field operand.Plain l f i x = refl
other_field (operand.Number n) l f i x = refl
other_field (operand.Address m) l f i x = refl
other_field (operand.Call g) l f i x = refl
other_field (operand.Jump g) l f i x = refl
other_field (operand.Branch j) l f i x = refl

-- ---- which kinds have a field for an operand

abbrev pub has_field : Kind → Bool
has_field kind.Compute = true
has_field kind.Load = true
has_field kind.Store = true
has_field kind.Branch = true
has_field kind.Call = true
has_field _ = false

fields : (o : Op) → fits_on (kind_on o) o ≡ true → has_field (row_of o).kind ≡ true
fields op.Bra e = refl
fields op.Brasl e = refl
fields op.Lqa e = refl
fields op.Stqa e = refl
fields op.Ilhu e = refl
fields op.Iohl e = refl
fields op.Ila e = refl
fields op.Br e = refl
fields op.Brsl e = refl
fields op.Brz e = refl
fields op.Brnz e = refl
fields op.Brhz e = refl
fields op.Brhnz e = refl
fields op.Lqr e = refl
fields op.Stqr e = refl
fields _ e = no e

pub fits_too : (x : SymInst) (v place w : ℕ) → IsPatched x v place w → fits_on (kind_on x.inst.op) x.inst.op ≡ true
fits_too x v place w h = subst (λ k. fits_on k x.inst.op ≡ true) (one_kind h.kind x.inst.op h.fits) h.fits

no_field : (x : SymInst) (v place w : ℕ) {A : Type 0} → has_field (row_of x.inst.op).kind ≡ false → IsPatched x v place w → A
no_field x v place w e h = no (sym e ∙ fields x.inst.op (fits_too x v place w h))

-- an instruction of a kind without a field has no operand
pub plain_by : (o : Operand) (l : Layout) (f i : ℕ) (x : SymInst) (w : ℕ) → has_field (row_of x.inst.op).kind ≡ false → IsWordBy o l f i x w → instruction_by o l f i x.inst ≡ x.inst
plain_by operand.Plain l f i x w e h = refl
plain_by (operand.Number n) l f i x w e h = no_field x _ _ w e h
plain_by (operand.Address m) l f i x w e h = no_field x _ _ w e h
plain_by (operand.Call g) l f i x w e h = no_field x _ _ w e h
plain_by (operand.Jump g) l f i x w e h = no_field x _ _ w e h
plain_by (operand.Branch j) l f i x w e h = no_field x _ _ w e h

-- ---- what the field of a load, a store, a branch and a call reaches

abbrev pub reaches_by : Kind → Bool
reaches_by kind.Load = true
reaches_by kind.Store = true
reaches_by kind.Branch = true
reaches_by kind.Call = true
reaches_by _ = false

reaches : (o : Op) (z : Inst) (v at : ℕ) → reaches_by (row_of o).kind ≡ true → fits_on (kind_on o) o ≡ true → Means (kind_on o) v at z → Reaches v at z
reaches op.Bra z v at k e h = h
reaches op.Brasl z v at k e h = h
reaches op.Lqa z v at k e h = h
reaches op.Stqa z v at k e h = h
reaches op.Ilhu z v at k e h = no k
reaches op.Iohl z v at k e h = no k
reaches op.Ila z v at k e h = no k
reaches op.Br z v at k e h = h
reaches op.Brsl z v at k e h = h
reaches op.Brz z v at k e h = h
reaches op.Brnz z v at k e h = h
reaches op.Brhz z v at k e h = h
reaches op.Brhnz z v at k e h = h
reaches op.Lqr z v at k e h = h
reaches op.Stqr z v at k e h = h
reaches _ z v at k e h = no e

pub patched_reaches : (x : SymInst) (v place w : ℕ) → reaches_by (row_of x.inst.op).kind ≡ true → IsPatched x v place w → place < 2 ^ 32 → place % 4 ≡ 0
    → Reaches v place (relocated (kind_on x.inst.op) v place x.inst)
patched_reaches x v place w k h lt word = reaches x.inst.op _ v place k (fits_too x v place w h) (patched_means x v place w h lt word)
