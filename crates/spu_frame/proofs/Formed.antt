-- What a well-formed program's functions are like.
use Rattle.std.proofs.Common.{◌≡◌, ℕ, zero, suc, ◌+◌, ◌*◌, ◌^◌, ◌<◌, ◌≤◌, ◌⊎◌, inl, inr, List, length, Option, Some, None, IfSome, refl, sym, ap, ◌∙◌, subst, arith, ℤ}
use Rattle.std.specs.Prelude.{slice_get, ◌≤ℤ◌}
use Rattle.std.specs.List.{Contains}
use Rattle.std.proofs.lemmas.Int.{ints}
use Rattle.std.proofs.lemmas.Option.{slice_get_within, slice_get-get_or, get_or_from_slice_get}
use Rattle.std.proofs.lemmas.List.Elements.{All-contains}
use Rattle.spu_word.proofs.Places.{nat_equal, get_some}
use Rattle.spu_word.specs.declared.limits.TheConstants.{MAX_SECTION_SIZE, REGISTER_COUNT}
use Rattle.spu_isa.specs.declared.operation.Op.TheVariants as op
use Rattle.spu_isa.specs.declared.instruction.Inst.{Inst}
use Rattle.spu_isa.specs.declared.operation.Layout.{Layout}
use Rattle.spu_isa.specs.declared.operation.Layout.TheVariants.{Rr, Rrr, Ri7, Ri10, Ri16, Ri18, HintA, HintB, StopForm}
use Rattle.spu_isa.specs.Table.{InLayout, row_of, least_signed, most_signed}
use Rattle.spu_lift.specs.declared.program.Operand.{Operand}
use Rattle.spu_lift.specs.declared.program.Operand.TheVariants as operand
use Rattle.spu_lift.specs.declared.program.SymInst.{SymInst}
use Rattle.spu_lift.specs.declared.program.Function.{Function}
use Rattle.spu_lift.specs.declared.program.CodeSection.{CodeSection}
use Rattle.spu_lift.specs.declared.program.Prog.{Prog}
use Rattle.spu_lift.specs.Places.{place_in, instruction_at, taken_places, IsPlace, IsTarget}
use Rattle.spu_lift.specs.StartCode.{start_code}
use Rattle.spu_lift.specs.WellFormed.{IsOperand, IsWellFormed}
use Rattle.spu_frame.specs.Walks.{AddsImmediate, AddsRegister, IsKnownWrite}
use Rattle.spu_frame.specs.Functions.{code_in, code_of}
use Rattle.spu_frame.specs.Surveys.{IsWithin}

-- ---- places

place_code : (o : Option Function) (i : ℕ) → place_in o i ≡ slice_get (code_in o) i
place_code None zero = refl
place_code None (suc i) = refl
place_code (Some g) i = refl

pub code_is : (p : Prog) (f i : ℕ) → instruction_at p f i ≡ slice_get (code_of p f) i
code_is p f i = place_code (slice_get p.functions f) i

pub place_within : (p : Prog) (f i : ℕ) (x : SymInst) → instruction_at p f i ≡ Some x → i < length (code_of p f)
place_within p f i x here = slice_get_within (code_of p f) i x (sym (code_is p f i) ∙ here)

pub place_at : (p : Prog) (f i : ℕ) → i < length (code_of p f) → IsPlace p f i
place_at p f i lt = let at = get_some (code_of p f) i lt in (at.0, code_is p f i ∙ at.1)

function_code : (p : Prog) (f : ℕ) (g : Function) → slice_get p.functions f ≡ Some g → code_of p f ≡ g.code
function_code p f g at = ap code_in at

-- ---- targets

pub branch_within : (p : Prog) → IsWellFormed p → (f i j : ℕ) (x : SymInst) → instruction_at p f i ≡ Some x → x.operand ≡ operand.Branch j → j < length (code_of p f)
branch_within p formed f i j x here to =
    let stands : IsOperand p f x (operand.Branch j) = subst (λ (o : Operand). IsOperand p f x o) to (formed.instructions f i x here).stands in
    place_within p f j stands.1.0 stands.1.1

pub taken_within : (p : Prog) → IsWellFormed p → (f j : ℕ) → Contains (taken_places p f) j → j < length (code_of p f)
taken_within p formed f j taken = let place = (formed.places f j taken).1 in place_within p f j place.0 place.1

pub target_within : (p : Prog) → IsWellFormed p → (f j : ℕ) → IsTarget p f j → j < length (code_of p f)
target_within p formed f j (inl b) = branch_within p formed f b.from j b.x b.here b.to
target_within p formed f j (inr t) = taken_within p formed f j t

pub contains_at : {X : Type 0} (xs : List X) (i : ℕ) (x : X) → slice_get xs i ≡ Some x → Contains xs x
contains_at xs i x at = (i, slice_get_within xs i x at, get_or_from_slice_get xs i x x at)

pub contains_place : {X : Type 0} (xs : List X) (x : X) → Contains xs x → (i : ℕ) × (slice_get xs i ≡ Some x)
contains_place xs x (i, lt, is) = (i, slice_get-get_or xs i x lt ∙ ap Some is)

pub if_some : {X : Type 0} (o : Option X) (x : X) (P : X → Type 0) → o ≡ Some x → IfSome o P → P x
if_some None x P e h = absurd (cc)
if_some (Some y) x P e h = let same : y ≡ x = cc in subst P same h

-- ---- sizes

start_is : (p : Prog) → IsWellFormed p → (f : ℕ) → f ≡ 0 → length (code_of p f) ≡ 3
start_is p formed f e = ap (λ (cs : List SymInst). length cs) (ap (code_of p) e ∙ function_code p 0 (start_code p.data_end p.entry) formed.start)

pub code_some : (p : Prog) → IsWellFormed p → (f : ℕ) → f < length p.functions → 1 ≤ length (code_of p f)
code_some p formed f lt = by_number (nat_equal f 0)
  where
    by_number : (f ≡ 0) ⊎ (f ≡ 0 → ⊥) → 1 ≤ length (code_of p f)
    by_number (inl e) = let three = start_is p formed f e in omega (arith, three)
    by_number (inr ne) =
        let at = get_some p.functions f lt in
        let some = (formed.each f at.0 ne at.1).some in
        let same = ap (λ (cs : List SymInst). length cs) (function_code p f at.0 at.1) in
        omega (arith, some, same)

pub code_small : (p : Prog) → IsWellFormed p → (f : ℕ) → f < length p.functions → length (code_of p f) ≤ 65536
code_small p formed f lt = by_number (nat_equal f 0)
  where
    by_number : (f ≡ 0) ⊎ (f ≡ 0 → ⊥) → length (code_of p f) ≤ 65536
    by_number (inl e) = let three = start_is p formed f e in omega (arith, three)
    by_number (inr ne) =
        let at = get_some p.functions f lt in
        let is = formed.each f at.0 ne at.1 in
        let fits : at.0.offset + 4 * length at.0.code ≤ is.section.size = is.fits in
        let most : is.section.size ≤ 262144 = section_small is.section (at.0.section) is.there in
        let same = ap (λ (cs : List SymInst). length cs) (function_code p f at.0 at.1) in
        omega (arith, fits, most, same)
      where
        section_small : (s : CodeSection) (k : ℕ) → slice_get p.code k ≡ Some s → s.size ≤ MAX_SECTION_SIZE
        section_small s k there = All-contains (λ (c : CodeSection). c.size ≤ MAX_SECTION_SIZE) p.code s formed.small (contains_at p.code k s there)

-- ---- fields

rt_in : (l : Layout) (x : Inst) → InLayout l x → x.rt < REGISTER_COUNT
rt_in Rr x h = h.0
rt_in Rrr x h = h.0
rt_in Ri7 x h = h.0
rt_in Ri10 x h = h.0
rt_in Ri16 x h = h.0
rt_in Ri18 x h = h.0
rt_in HintA x h = h.0
rt_in HintB x h = h.0
rt_in StopForm x h = let e = h.0 in omega (arith, e)

pub rt_small : (p : Prog) → IsWellFormed p → (f i : ℕ) (x : SymInst) → instruction_at p f i ≡ Some x → x.inst.rt < REGISTER_COUNT
rt_small p formed f i x here = rt_in (row_of x.inst.op).layout x.inst (formed.instructions f i x here).range.layout

pub rb_small : (p : Prog) → IsWellFormed p → (f i : ℕ) (x : SymInst) → instruction_at p f i ≡ Some x → x.inst.op ≡ op.A → x.inst.rb < REGISTER_COUNT
rb_small p formed f i x here e =
    let fields : InLayout Rr x.inst = subst (λ o. InLayout (row_of o).layout x.inst) e (formed.instructions f i x here).range.layout in
    fields.2

ai_small : (x : Inst) → InLayout Ri10 x → IsWithin x.imm (2 ^ 15)
ai_small x h = let low : least_signed 10 ≤ℤ x.imm = h.4 in let high : x.imm ≤ℤ most_signed 10 = h.5 in (omega (arith, ints, low), omega (arith, ints, high))

il_small : (x : Inst) → InLayout Ri16 x → IsWithin x.imm (2 ^ 15)
il_small x h = let low : least_signed 16 ≤ℤ x.imm = h.4 in let high : x.imm ≤ℤ most_signed 16 = h.5 in (omega (arith, ints, low), omega (arith, ints, high))

-- what a known write adds is the field of an `ai` or of an `il`
pub known_small : (p : Prog) → IsWellFormed p → (f i : ℕ) (k : ℤ) → IsKnownWrite p f i k → IsWithin k (2 ^ 15)
known_small p formed f i k w = by_form w.form
  where
    by_form : AddsImmediate w.x k ⊎ AddsRegister p f i w.x k → IsWithin k (2 ^ 15)
    by_form (inl a) =
        subst (λ (z : ℤ). IsWithin z (2 ^ 15)) a.number (ai_small w.x.inst (subst (λ o. InLayout (row_of o).layout w.x.inst) a.ai (formed.instructions f i w.x w.here).range.layout))
    by_form (inr a) =
        let h = a.held in
        subst (λ (z : ℤ). IsWithin z (2 ^ 15)) h.number (il_small h.x.inst (subst (λ o. InLayout (row_of o).layout h.x.inst) h.il (formed.instructions f a.at h.x h.here).range.layout))
