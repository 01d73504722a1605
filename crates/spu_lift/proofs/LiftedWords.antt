-- What a word of a function is lifted to.
use Rattle.std.proofs.Common.{◌≡◌, ℕ, ◌⊎◌, Bool, true, false, List, Option, Some, None, IfNone, refl, sym, ap, subst, ◌∙◌, pos, ℤ}
use Rattle.std.proofs.lemmas.Option.{same_Some}
use Rattle.spu_isa.specs.declared.instruction.Inst.{Inst}
use Rattle.spu_isa.specs.declared.operation.Op.TheVariants as op
use Rattle.spu_isa.specs.declared.operation.Kind.{Kind}
use Rattle.spu_isa.specs.Table.{Decodes, row_of}
use Rattle.spu_isa.proofs.Decoded.{one_instruction_lem}
use Rattle.spu_elf.specs.declared.objects.Object.{Object}
use Rattle.spu_lift.specs.declared.relocations.Spot.{Spot}
use Rattle.spu_lift.specs.declared.functions.FunctionSymbol.{FunctionSymbol}
use Rattle.spu_lift.specs.declared.functions.Place.{Place}
use Rattle.spu_lift.specs.declared.tables.Meaning.{Meaning}
use Rattle.spu_lift.specs.declared.tables.Meaning.TheVariants.{Code}
use Rattle.spu_lift.specs.declared.program.Operand.{Operand}
use Rattle.spu_lift.specs.declared.program.Operand.TheVariants as operand
use Rattle.spu_lift.specs.declared.program.SymInst.{SymInst}
use Rattle.spu_lift.specs.StartCode.{of_register, symbolic}
use Rattle.spu_lift.specs.Meanings.{field_of, is_hint}
use Rattle.spu_lift.specs.Lifted.{with_operand}
use Rattle.spu_lift.specs.LookUps.{IsWordOf, word_at}
use Rattle.spu_lift.specs.FunctionTables.{IsLiftedBy, IsLiftedIn, IsOperandIn, IsPlaceFor, IsPlaceOperand}

-- a word decodes to one instruction
pub one_word : (os : List Object) (q : Spot) (x y : Inst) → IsWordOf os q x → IsWordOf os q y → x ≡ y
one_word os q x y one two =
    let same : one.word ≡ two.word = same_Some one.word two.word (sym one.at ∙ two.at) in
    one_instruction_lem one.word x y one.decodes (subst (λ (w : ℕ). Decodes w y) (sym same) two.decodes)

-- a hint is lifted as an `lnop`
pub hint_lifted : (os : List Object) (fs : List FunctionSymbol) (f : ℕ) (q : Spot) (x : Inst) (s : SymInst) → IsWordOf os q x → is_hint x.op ≡ true → s ≡ symbolic (of_register op.Lnop 0 (pos 0)) operand.Plain → IsLiftedIn os fs f q s
hint_lifted os fs f q x s word hint is = record { x = x; word = word; lifted = subst (λ (b : Bool). IsLiftedBy b os fs f q x s) (sym hint) is }

-- any other instruction with its operand
pub operand_lifted : (os : List Object) (fs : List FunctionSymbol) (f : ℕ) (q : Spot) (x : Inst) (o : Operand) (s : SymInst) → IsWordOf os q x → is_hint x.op ≡ false
    → IsOperandIn fs f (row_of x.op).kind (field_of os q.object q.section q.offset x) o → s ≡ with_operand x o → IsLiftedIn os fs f q s
operand_lifted os fs f q x o s word other stands is = record { x = x; word = word; lifted = subst (λ (b : Bool). IsLiftedBy b os fs f q x s) (sym other) (o, stands, is) }

-- and not where it has none
pub none_lifted : (os : List Object) (fs : List FunctionSymbol) (f : ℕ) (q : Spot) (x : Inst) → IsWordOf os q x → is_hint x.op ≡ false
    → ((o : Operand) → IsOperandIn fs f (row_of x.op).kind (field_of os q.object q.section q.offset x) o → ⊥) → (s : SymInst) → IsLiftedIn os fs f q s → ⊥
none_lifted os fs f q x word other none s is =
    let same : is.x ≡ x = one_word os q is.x x is.word word in
    let here : IsLiftedBy (is_hint x.op) os fs f q x s = subst (λ (y : Inst). IsLiftedBy (is_hint y.op) os fs f q y s) same is.lifted in
    let by : IsLiftedBy false os fs f q x s = subst (λ (b : Bool). IsLiftedBy b os fs f q x s) other here in
    none by.0 by.1

-- what holds of None, where it holds anyway
pub if_none : {X : Type 0} (r : Option X) (P : Type 0) → P → IfNone r P
if_none None P p = p
if_none (Some x) P p = tt

-- a place that is in no function is no operand
pub no_operand : (fs : List FunctionSymbol) (f : ℕ) (what : Kind) (field : Option Meaning) (n k : ℕ) (offset : ℤ) → field ≡ Some (Code n k offset) → ((p : Place) → IsPlaceFor fs n k offset p → ⊥) → (o : Operand) → IsOperandIn fs f what field o → ⊥
no_operand fs f what field n k offset is none o stands =
    let here : IsPlaceOperand fs f what (Code n k offset) o = subst (λ (m : Option Meaning). IsOperandIn fs f what m o) is stands in
    none here.p here.place
