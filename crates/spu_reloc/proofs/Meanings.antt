-- What an instruction does whose field holds what a kind stores.
use Rattle.std.proofs.Common.{◌≡◌, ℕ, ◌+◌, ◌-◌, ◌*◌, ◌/◌, ◌%◌, ◌^◌, ◌<◌, true, ap, arith, bit_or, pos}
use Rattle.std.proofs.lemmas.Int.{ints}
use Rattle.spu_isa.specs.declared.operation.Op.{Op}
use Rattle.spu_isa.specs.declared.operation.Op.TheVariants as op
use Rattle.spu_isa.specs.declared.instruction.Inst.{Inst}
use Rattle.spu_isa.specs.Table.{signed}
use Rattle.spu_exec.specs.Lanes.{lane_of, lanes, immediate}
use Rattle.spu_exec.specs.Places.{code_mask, quad_mask}
use Rattle.spu_reloc.specs.declared.field.RelocKind.{RelocKind}
use Rattle.spu_reloc.specs.declared.field.RelocKind.TheVariants.{Addr16, Addr16Hi, Addr16Lo, Addr18, Rel16}
use Rattle.spu_reloc.specs.Fields.{fits_on, field_number, stored, relocated}
use Rattle.spu_reloc.specs.Meanings.{Means}
use Rattle.spu_reloc.proofs.Patches.{no}

-- a signed field as a word has the field's lowest bits
pub word_16 : (n : ℕ) → n < 2 ^ 16 → immediate 4 (signed 16 n) % 2 ^ 16 ≡ n
word_16 n lt = grind (arith, ints)

pub word_18 : (n : ℕ) → n < 2 ^ 18 → immediate 4 (pos n) ≡ n
word_18 n lt = grind (arith, ints)

-- absolute forms, at any place
code_absolute : (i v : ℕ) → i % 2 ^ 16 ≡ v / 2 ^ 2 % 2 ^ 16 → code_mask (4 * i) ≡ code_mask v
code_absolute i v e = omega arith

quad_absolute : (i v : ℕ) → i % 2 ^ 16 ≡ v / 2 ^ 2 % 2 ^ 16 → quad_mask (4 * i) ≡ quad_mask v
quad_absolute i v e = omega arith

-- relative forms, at a word's address
code_relative : (i v at : ℕ) → at < 2 ^ 32 → at % 4 ≡ 0 → i % 2 ^ 16 ≡ (v + 2 ^ 32 - at) % 2 ^ 18 / 2 ^ 2 % 2 ^ 16 → code_mask (at + 4 * i) ≡ code_mask v
code_relative i v at lt word e = omega arith

quad_relative : (i v at : ℕ) → at < 2 ^ 32 → at % 4 ≡ 0 → i % 2 ^ 16 ≡ (v + 2 ^ 32 - at) % 2 ^ 18 / 2 ^ 2 % 2 ^ 16 → quad_mask (at + 4 * i) ≡ quad_mask v
quad_relative i v at lt word e = omega arith

-- the field of a kind, as a word
pub field_of : (k : RelocKind) (v at : ℕ) → immediate 4 (signed 16 (field_number k v at % 2 ^ 16)) % 2 ^ 16 ≡ field_number k v at % 2 ^ 16
field_of k v at = word_16 (field_number k v at % 2 ^ 16) (omega arith)

means_by : (k : RelocKind) (o : Op) (x : Inst) (v at : ℕ) → fits_on k o ≡ true → at < 2 ^ 32 → at % 4 ≡ 0 → Means k v at (record x { op = o; imm = stored k v at })
means_by Addr16 op.Bra x v at t lt word = λ a b. code_absolute _ v (field_of Addr16 v at)
means_by Addr16 op.Brasl x v at t lt word = λ a b. code_absolute _ v (field_of Addr16 v at)
means_by Addr16 op.Lqa x v at t lt word = λ a b. quad_absolute _ v (field_of Addr16 v at)
means_by Addr16 op.Stqa x v at t lt word = λ a b. quad_absolute _ v (field_of Addr16 v at)
means_by Addr16Hi op.Ilhu x v at t lt word = λ a b c t. ap (λ n. lanes 4 (λ j. n * 2 ^ 16)) (field_of Addr16Hi v at)
means_by Addr16Lo op.Iohl x v at t lt word = λ a b c t. ap (λ n. lanes 4 (λ j. bit_or (lane_of 4 t j) n)) (field_of Addr16Lo v at)
means_by Addr18 op.Ila x v at t lt word = λ a b c t. ap (λ n. lanes 4 (λ j. n)) (word_18 (v % 2 ^ 18) (omega arith))
means_by Rel16 op.Br x v at t lt word = λ a b. code_relative _ v at lt word (field_of Rel16 v at)
means_by Rel16 op.Brsl x v at t lt word = λ a b. code_relative _ v at lt word (field_of Rel16 v at)
means_by Rel16 op.Brz x v at t lt word = λ a b. code_relative _ v at lt word (field_of Rel16 v at)
means_by Rel16 op.Brnz x v at t lt word = λ a b. code_relative _ v at lt word (field_of Rel16 v at)
means_by Rel16 op.Brhz x v at t lt word = λ a b. code_relative _ v at lt word (field_of Rel16 v at)
means_by Rel16 op.Brhnz x v at t lt word = λ a b. code_relative _ v at lt word (field_of Rel16 v at)
means_by Rel16 op.Lqr x v at t lt word = λ a b. quad_relative _ v at lt word (field_of Rel16 v at)
means_by Rel16 op.Stqr x v at t lt word = λ a b. quad_relative _ v at lt word (field_of Rel16 v at)
means_by _ _ x v at t lt word = no t

-- the law
pub relocated_means : (x : Inst) (k : RelocKind) (v at : ℕ) → fits_on k x.op ≡ true → at < 2 ^ 32 → at % 4 ≡ 0 → Means k v at (relocated k v at x)
relocated_means x k v at t lt word = means_by k x.op x v at t lt word
