-- What an instruction leaves that has a number or a label in place of its field agrees with what the machine computes.
use Rattle.std.proofs.Common.{◌≡◌, ℕ, zero, suc, ◌-◌, ◌*◌, ◌/◌, ◌%◌, ◌^◌, ◌<◌, List, Some, refl, sym, ap, ◌∙◌, subst, arith, true, pos}
use Rattle.std.specs.Prelude.{slice_index}
use Rattle.std.specs.Int.{byte_at}
use Rattle.spu_isa.specs.declared.operation.Op.{Op}
use Rattle.spu_isa.specs.declared.operation.Op.TheVariants as op
use Rattle.spu_isa.specs.declared.operation.Kind.TheVariants as kind
use Rattle.spu_isa.specs.declared.instruction.Inst.{Inst}
use Rattle.spu_isa.specs.Table.{row_of}
use Rattle.spu_exec.specs.Lanes.{immediate}
use Rattle.spu_exec.specs.Values.{value}
use Rattle.spu_exec.specs.Moves.{moved, immediate_byte}
use Rattle.spu_exec.proofs.Moves.{moved_agrees, with_op}
use Rattle.spu_lift.specs.declared.program.Operand.{Operand}
use Rattle.spu_lift.specs.declared.program.Operand.TheVariants as operand
use Rattle.spu_reloc.specs.declared.field.RelocKind.TheVariants as relocs
use Rattle.spu_reloc.specs.Fields.{fits_on, kind_on, stored, relocated}
use Rattle.spu_reloc.proofs.Patches.{no}
use Rattle.spu_reloc.proofs.Meanings.{word_18, field_of}
use Rattle.spu_lift.specs.declared.program.Label.{Label}
use Rattle.spu_lift.specs.declared.symbolic.SymByte.{SymByte}
use Rattle.spu_lift.specs.declared.symbolic.SymByte.TheVariants.{Unknown}
use Rattle.spu_ideal.specs.Bytes.{sym_at, sym_bytes}
use Rattle.spu_ideal.specs.Results.{symbolic_value, label_byte, label_value_byte, label_value}
use Rattle.spu_ideal.specs.Machine.{leaves}
use Rattle.spu_layout.specs.Layouts.{Layout}
use Rattle.spu_layout.specs.Labels.{code}
use Rattle.spu_image.proofs.Instructions.{instruction_by, HasAddress}
use Rattle.spu_image.specs.Words.{value_of}
use Rattle.spu_image.proofs.Agreeings.{Agreeing, IsAddress}
use Rattle.spu_image.specs.Agreeing.{Agrees, AgreesQuad}
use Rattle.spu_image.proofs.Agreement.{agrees_sixteen, agrees_unknown}
use Rattle.spu_image.proofs.Results.{symbols_keep, moved_or_computed, result_agrees}

-- ---- numbers

-- no instruction that computes has a field that is relative to its place
anywhere : (o : Op) → (row_of o).kind ≡ kind.Compute → (n at place : ℕ) → stored (kind_on o) n at ≡ stored (kind_on o) n place
anywhere op.Br k n at place = cc
anywhere op.Brsl k n at place = cc
anywhere op.Brz k n at place = cc
anywhere op.Brnz k n at place = cc
anywhere op.Brhz k n at place = cc
anywhere op.Brhnz k n at place = cc
anywhere op.Lqr k n at place = cc
anywhere op.Stqr k n at place = cc
anywhere _ k n at place = refl

pub number_agrees : (c : Label → List ℕ) (x : Inst) → (row_of x.op).kind ≡ kind.Compute → (n place : ℕ) (sa sb sc st : List SymByte) (a b e t : List ℕ) → Agreeing c sa sb sc st a b e t
    → AgreesQuad c (symbolic_value (relocated (kind_on x.op) n 0 x) sa sb sc st) (value (relocated (kind_on x.op) n place x) a b e t)
number_agrees c x k n place sa sb sc st a b e t h =
    subst (λ i. AgreesQuad c (symbolic_value (relocated (kind_on x.op) n 0 x) sa sb sc st) (value (record x { imm = i }) a b e t)) (anywhere x.op k n 0 place)
    (result_agrees c (relocated (kind_on x.op) n 0 x) sa sb sc st a b e t h)

-- ---- labels

high_byte : (i v j : ℕ) → i % 2 ^ 16 ≡ v / 2 ^ 16 % 2 ^ 16 → j < 2 → byte_at (3 - j) (i % 2 ^ 16 * 2 ^ 16) ≡ byte_at (3 - j) v
high_byte i v zero e lt = omega arith
high_byte i v (suc zero) e lt = omega arith
high_byte i v (suc (suc j)) e lt = absurd (omega arith)

low_byte : (i v j : ℕ) → i % 2 ^ 16 ≡ v % 2 ^ 16 → j < 2 → byte_at (1 - j) (i % 2 ^ 16) ≡ byte_at (1 - j) v
low_byte i v zero e lt = omega arith
low_byte i v (suc zero) e lt = omega arith
low_byte i v (suc (suc j)) e lt = absurd (omega arith)

-- the address, and its halfwords
address_agrees : (c : Label → List ℕ) (l : Label) (v i : ℕ) → IsAddress (c l) v → i ≡ v % 2 ^ 18 → (j : ℕ) → j < 4 → Agrees c (label_byte op.Ila l j) (immediate_byte op.Ila i j)
address_agrees c l v i h e j lt =
    let small = h.small in
    let same : i ≡ v = omega arith in
    ap (byte_at (3 - j)) same ∙ sym (h.digits j lt)

high_agrees : (c : Label → List ℕ) (l : Label) (v i : ℕ) → IsAddress (c l) v → i % 2 ^ 16 ≡ v / 2 ^ 16 % 2 ^ 16 → (j : ℕ) → j < 4 → Agrees c (label_byte op.Ilhu l j) (immediate_byte op.Ilhu i j)
high_agrees c l v i h e zero lt = high_byte i v 0 e (omega arith) ∙ sym (h.digits 0 (omega arith))
high_agrees c l v i h e (suc zero) lt = high_byte i v 1 e (omega arith) ∙ sym (h.digits 1 (omega arith))
high_agrees c l v i h e (suc (suc zero)) lt = omega arith
high_agrees c l v i h e (suc (suc (suc zero))) lt = omega arith
high_agrees c l v i h e (suc (suc (suc (suc j)))) lt = absurd (omega arith)

low_agrees : (c : Label → List ℕ) (l : Label) (v i : ℕ) → IsAddress (c l) v → i % 2 ^ 16 ≡ v % 2 ^ 16 → (j : ℕ) → j < 4 → Agrees c (label_byte op.Iohl l j) (immediate_byte op.Iohl i j)
low_agrees c l v i h e zero lt = omega arith
low_agrees c l v i h e (suc zero) lt = omega arith
low_agrees c l v i h e (suc (suc zero)) lt = low_byte i v 0 e (omega arith) ∙ sym (h.digits 2 (omega arith))
low_agrees c l v i h e (suc (suc (suc zero))) lt = low_byte i v 1 e (omega arith) ∙ sym (h.digits 3 (omega arith))
low_agrees c l v i h e (suc (suc (suc (suc j)))) lt = absurd (omega arith)

label_moves : (c : Label → List ℕ) (o : Op) (x : Inst) (l : Label) (v place : ℕ) → (row_of o).kind ≡ kind.Compute → fits_on (kind_on o) o ≡ true → IsAddress (c l) v
    → (sa sb sc st : List SymByte) (a b e t : List ℕ) → Agreeing c sa sb sc st a b e t → (k : ℕ) → k < 16 → (s : SymByte)
    → moved sym_bytes o 0 (label_byte o l) (sym_at sa) (sym_at sb) (sym_at sc) (sym_at st) k ≡ Some s → Agrees c s (slice_index (value (with_op o (relocated (kind_on o) v place x)) a b e t) k)
label_moves c op.Ila x l v place is fits h sa sb sc st a b e t g k lt s q =
    moved_agrees sym_bytes (Agrees c) (symbols_keep c) op.Ila (relocated relocs.Addr18 v place x) (label_byte op.Ila l) (sym_at sa) (sym_at sb) (sym_at sc) (sym_at st) a b e t k lt
    (record { imm = address_agrees c l v (immediate 4 (pos (v % 2 ^ 18))) h (word_18 (v % 2 ^ 18) (omega arith)); ra = g.ra; rb = g.rb; rc = g.rc; rt = g.rt; small_a = g.small_a; small_b = g.small_b; small_t = g.small_t }) s q
label_moves c op.Ilhu x l v place is fits h sa sb sc st a b e t g k lt s q =
    moved_agrees sym_bytes (Agrees c) (symbols_keep c) op.Ilhu (relocated relocs.Addr16Hi v place x) (label_byte op.Ilhu l) (sym_at sa) (sym_at sb) (sym_at sc) (sym_at st) a b e t k lt
    (record { imm = high_agrees c l v (immediate 4 (stored relocs.Addr16Hi v place)) h (field_of relocs.Addr16Hi v place); ra = g.ra; rb = g.rb; rc = g.rc; rt = g.rt; small_a = g.small_a; small_b = g.small_b; small_t = g.small_t }) s q
label_moves c op.Iohl x l v place is fits h sa sb sc st a b e t g k lt s q =
    moved_agrees sym_bytes (Agrees c) (symbols_keep c) op.Iohl (relocated relocs.Addr16Lo v place x) (label_byte op.Iohl l) (sym_at sa) (sym_at sb) (sym_at sc) (sym_at st) a b e t k lt
    (record { imm = low_agrees c l v (immediate 4 (stored relocs.Addr16Lo v place)) h (field_of relocs.Addr16Lo v place); ra = g.ra; rb = g.rb; rc = g.rc; rt = g.rt; small_a = g.small_a; small_b = g.small_b; small_t = g.small_t }) s q
label_moves c op.Br x l v place is fits h sa sb sc st a b e t g k lt s q = cc
label_moves c op.Brsl x l v place is fits h sa sb sc st a b e t g k lt s q = cc
label_moves c op.Brz x l v place is fits h sa sb sc st a b e t g k lt s q = cc
label_moves c op.Brnz x l v place is fits h sa sb sc st a b e t g k lt s q = cc
label_moves c op.Brhz x l v place is fits h sa sb sc st a b e t g k lt s q = cc
label_moves c op.Brhnz x l v place is fits h sa sb sc st a b e t g k lt s q = cc
label_moves c op.Lqr x l v place is fits h sa sb sc st a b e t g k lt s q = cc
label_moves c op.Stqr x l v place is fits h sa sb sc st a b e t g k lt s q = cc
label_moves c op.Bra x l v place is fits h sa sb sc st a b e t g k lt s q = cc
label_moves c op.Brasl x l v place is fits h sa sb sc st a b e t g k lt s q = cc
label_moves c op.Lqa x l v place is fits h sa sb sc st a b e t g k lt s q = cc
label_moves c op.Stqa x l v place is fits h sa sb sc st a b e t g k lt s q = cc
label_moves c _ x l v place is fits h sa sb sc st a b e t g k lt s q = no fits

pub label_agrees : (c : Label → List ℕ) (x : Inst) (l : Label) (v place : ℕ) → (row_of x.op).kind ≡ kind.Compute → fits_on (kind_on x.op) x.op ≡ true → IsAddress (c l) v
    → (sa sb sc st : List SymByte) (a b e t : List ℕ) → Agreeing c sa sb sc st a b e t → AgreesQuad c (label_value x l sa sb sc st) (value (relocated (kind_on x.op) v place x) a b e t)
unfolding label_value_byte
label_agrees c x l v place is fits h sa sb sc st a b e t g =
    agrees_sixteen c (label_value_byte x l sa sb sc st) (value (relocated (kind_on x.op) v place x) a b e t)
    (λ k lt. moved_or_computed c (moved sym_bytes x.op 0 (label_byte x.op l) (sym_at sa) (sym_at sb) (sym_at sc) (sym_at st) k) Unknown (slice_index (value (relocated (kind_on x.op) v place x) a b e t) k)
    (label_moves c x.op x l v place is fits h sa sb sc st a b e t g k lt) tt)

-- ---- every operand

pub leaves_agrees : (l : Layout) (f i : ℕ) (o : Operand) (x : Inst) → (row_of x.op).kind ≡ kind.Compute → HasAddress l o x.op
    → (sa sb sc st : List SymByte) (a b e t : List ℕ) → Agreeing (code l) sa sb sc st a b e t → AgreesQuad (code l) (leaves o x sa sb sc st) (value (instruction_by o l f i x) a b e t)
leaves_agrees l f i operand.Plain x is has sa sb sc st a b e t g = result_agrees (code l) x sa sb sc st a b e t g
leaves_agrees l f i (operand.Number n) x is has sa sb sc st a b e t g = number_agrees (code l) x is n (l.at f i) sa sb sc st a b e t g
leaves_agrees l f i (operand.Address m) x is has sa sb sc st a b e t g = label_agrees (code l) x m (value_of l f (operand.Address m)) (l.at f i) is has.0 has.1 sa sb sc st a b e t g
leaves_agrees l f i (operand.Call h) x is has sa sb sc st a b e t g = agrees_unknown (code l) _
leaves_agrees l f i (operand.Jump h) x is has sa sb sc st a b e t g = agrees_unknown (code l) _
leaves_agrees l f i (operand.Branch j) x is has sa sb sc st a b e t g = agrees_unknown (code l) _
