-- A patched word is the instruction whose field holds what the kind stores.
use Rattle.std.proofs.Common.{◌≡◌, ℕ, ◌+◌, ◌-◌, ◌*◌, ◌/◌, ◌%◌, ◌^◌, List, [], ◌∷◌, true, false, refl, sym, ap, subst, ◌∙◌, arith, ℤ, pos}
use Rattle.std.specs.List.{AllByRecursion}
use Rattle.spu_isa.specs.declared.operation.Op.{Op}
use Rattle.spu_isa.specs.declared.operation.Op.TheVariants as op
use Rattle.spu_isa.specs.declared.instruction.Inst.{Inst}
use Rattle.spu_isa.specs.declared.operation.Layout.{Layout}
use Rattle.spu_isa.specs.declared.operation.Layout.TheVariants.{Ri16, Ri18}
use Rattle.spu_isa.specs.declared.operation.Register.{Register}
use Rattle.spu_isa.specs.declared.operation.Register.TheVariants.{Rt, Ra, Rb}
use Rattle.spu_isa.specs.Table.{row_of, opcode_bits, opcode_of, HasNoOtherBits, Decodes, bits_at, signed, fields_of, reg_of}
use Rattle.spu_reloc.specs.declared.field.RelocKind.{RelocKind}
use Rattle.spu_reloc.specs.declared.field.RelocKind.TheVariants.{Addr16, Addr16Hi, Addr16Lo, Addr18, Addr32, Rel16}
use Rattle.spu_reloc.specs.Fields.{kind_on, fits_on, field_number, patched, relocated}

-- ---- words with another field

-- the register fields are zero where they were
zeros_kept : (x : Inst) (i : ℤ) (rs : List Register) → AllByRecursion (λ f. reg_of x f ≡ 0) rs → AllByRecursion (λ f. reg_of (record x { imm = i }) f ≡ 0) rs
zeros_kept x i [] h = tt
zeros_kept x i (Rt ∷ rs) h = (h.0, zeros_kept x i rs h.1)
zeros_kept x i (Ra ∷ rs) h = (h.0, zeros_kept x i rs h.1)
zeros_kept x i (Rb ∷ rs) h = (h.0, zeros_kept x i rs h.1)

-- the parts of `Decodes`, at a layout
abbrev Parts : ℕ → Inst → Layout → Type 0
Parts w x l = (w / 2 ^ (32 - opcode_bits l) ≡ opcode_of x.op) × (x ≡ fields_of l x.op w) × HasNoOtherBits l w

parts_of : (w : ℕ) (x : Inst) (l : Layout) → (row_of x.op).layout ≡ l → Decodes w x → Parts w x l
parts_of w x l e d =
    let here : Parts w x (row_of x.op).layout = (d.opcode, d.fields, d.others) in
    subst (Parts w x) e here

-- an instruction with another immediate, from the parts of its new word
with_imm : (w v : ℕ) (x : Inst) (i : ℤ) (l : Layout) → (row_of x.op).layout ≡ l → Decodes w x → Parts v (record x { imm = i }) l → Decodes v (record x { imm = i })
with_imm w v x i l e d p =
    let here : Parts v (record x { imm = i }) (row_of x.op).layout = subst (Parts v (record x { imm = i })) (sym e) p in
    record { opcode = here.0; fields = here.1; others = here.2; zeros = zeros_kept x i (row_of x.op).zero_fields d.zeros }

-- the field of 16 bits, and that of 18
put_16 : ℕ → ℕ → ℕ
put_16 w n = (w / 2 ^ 23 * 2 ^ 16 + n % 2 ^ 16) * 2 ^ 7 + w % 2 ^ 7

put_18 : ℕ → ℕ → ℕ
put_18 w n = (w / 2 ^ 25 * 2 ^ 18 + n % 2 ^ 18) * 2 ^ 7 + w % 2 ^ 7

abbrev with_immediate : ℤ → Inst → Inst
with_immediate i x = record x { imm = i }

-- an instruction with a target and an immediate alone
abbrev plain : Op → ℕ → ℤ → Inst
plain o t i = record { op = o; rt = t; ra = 0; rb = 0; rc = 0; imm = i }

fields_16 : (o : Op) (t t' : ℕ) (i i' : ℤ) → t ≡ t' → i ≡ i' → plain o t i ≡ plain o t' i'
fields_16 o t t' i i' e f = cc

decodes_16 : (w n : ℕ) (x : Inst) → (row_of x.op).layout ≡ Ri16 → Decodes w x → Decodes (put_16 w n) (record x { imm = signed 16 (n % 2 ^ 16) })
unfolding put_16
decodes_16 w n x e d =
    let p = parts_of w x Ri16 e d in
    let v : ℕ = put_16 w n in
    let front : v / 2 ^ 23 ≡ w / 2 ^ 23 = omega arith in
    let target : bits_at v 0 7 ≡ bits_at w 0 7 = omega arith in
    let field : bits_at v 7 16 ≡ n % 2 ^ 16 = omega arith in
    with_imm w v x (signed 16 (n % 2 ^ 16)) Ri16 e d (
      front ∙ p.0,
      ap (with_immediate (signed 16 (n % 2 ^ 16))) p.1 ∙ fields_16 x.op _ _ _ _ (sym target) (ap (signed 16) (sym field)),
      tt,
    )

decodes_18 : (w n : ℕ) (x : Inst) → (row_of x.op).layout ≡ Ri18 → Decodes w x → Decodes (put_18 w n) (record x { imm = pos (n % 2 ^ 18) })
unfolding put_18
decodes_18 w n x e d =
    let p = parts_of w x Ri18 e d in
    let v : ℕ = put_18 w n in
    let front : v / 2 ^ 25 ≡ w / 2 ^ 25 = omega arith in
    let target : bits_at v 0 7 ≡ bits_at w 0 7 = omega arith in
    let field : bits_at v 7 18 ≡ n % 2 ^ 18 = omega arith in
    with_imm w v x (pos (n % 2 ^ 18)) Ri18 e d (
      front ∙ p.0,
      ap (with_immediate (pos (n % 2 ^ 18))) p.1 ∙ fields_16 x.op _ _ _ _ (sym target) (ap pos (sym field)),
      tt,
    )

-- ---- the layouts that the kinds fit

pub no : {A : Type 0} → false ≡ true → A
no e = cc

abbrev layout_of : RelocKind → Layout
layout_of Addr18 = Ri18
layout_of _ = Ri16

has_layout : (k : RelocKind) (o : Op) → fits_on k o ≡ true → (row_of o).layout ≡ layout_of k
has_layout Addr16 op.Bra t = refl
has_layout Addr16 op.Brasl t = refl
has_layout Addr16 op.Lqa t = refl
has_layout Addr16 op.Stqa t = refl
has_layout Addr16Hi op.Ilhu t = refl
has_layout Addr16Lo op.Iohl t = refl
has_layout Addr18 op.Ila t = refl
has_layout Rel16 op.Br t = refl
has_layout Rel16 op.Brsl t = refl
has_layout Rel16 op.Brz t = refl
has_layout Rel16 op.Brnz t = refl
has_layout Rel16 op.Brhz t = refl
has_layout Rel16 op.Brhnz t = refl
has_layout Rel16 op.Lqr t = refl
has_layout Rel16 op.Stqr t = refl
has_layout _ _ t = no t

no_data : (o : Op) → fits_on Addr32 o ≡ true → ⊥
no_data op.Bra t = no t
no_data _ t = no t

-- the law
pub patched_decodes : (w : ℕ) (x : Inst) (k : RelocKind) (v at : ℕ) → Decodes w x → fits_on k x.op ≡ true → Decodes (patched w k v at) (relocated k v at x)
unfolding put_16 put_18
patched_decodes w x Addr16 v at d t = decodes_16 w (field_number Addr16 v at) x (has_layout Addr16 x.op t) d
patched_decodes w x Addr16Hi v at d t = decodes_16 w (field_number Addr16Hi v at) x (has_layout Addr16Hi x.op t) d
patched_decodes w x Addr16Lo v at d t = decodes_16 w (field_number Addr16Lo v at) x (has_layout Addr16Lo x.op t) d
patched_decodes w x Addr18 v at d t = decodes_18 w (field_number Addr18 v at) x (has_layout Addr18 x.op t) d
patched_decodes w x Addr32 v at d t = absurd (no_data x.op t)
patched_decodes w x Rel16 v at d t = decodes_16 w (field_number Rel16 v at) x (has_layout Rel16 x.op t) d

-- no other kind fits
pub one_kind : (k : RelocKind) (o : Op) → fits_on k o ≡ true → k ≡ kind_on o
one_kind Addr16 op.Bra t = refl
one_kind Addr16 op.Brasl t = refl
one_kind Addr16 op.Lqa t = refl
one_kind Addr16 op.Stqa t = refl
one_kind Addr16Hi op.Ilhu t = refl
one_kind Addr16Lo op.Iohl t = refl
one_kind Addr18 op.Ila t = refl
one_kind Rel16 op.Br t = refl
one_kind Rel16 op.Brsl t = refl
one_kind Rel16 op.Brz t = refl
one_kind Rel16 op.Brnz t = refl
one_kind Rel16 op.Brhz t = refl
one_kind Rel16 op.Brhnz t = refl
one_kind Rel16 op.Lqr t = refl
one_kind Rel16 op.Stqr t = refl
one_kind _ _ t = no t
