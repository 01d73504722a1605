-- What the tables lift and label is what the definitions say, with the numbers of the functions' extents.
use Rattle.std.proofs.Common.{◌≡◌, ℕ, zero, suc, ◌+◌, ◌-◌, ◌*◌, ◌%◌, ◌<◌, ◌≤◌, Bool, true, false, cond, nat_le, List, length, map, Option, Some, None, slice_get, refl, sym, ap, subst, ◌∙◌, arith, pos, ℤ}
use Rattle.std.specs.Option.{option_and_then}
use Rattle.std.proofs.lemmas.Bool.Decides.{nat_tests}
use Rattle.std.proofs.lemmas.Option.{cond_some, none-some}
use Rattle.spu_word.specs.declared.limits.TheConstants.{WORD_SIZE}
use Rattle.spu_word.specs.Bytes.{be_number}
use Rattle.spu_isa.specs.declared.instruction.Inst.{Inst}
use Rattle.spu_isa.specs.declared.operation.Kind.{Kind}
use Rattle.spu_isa.specs.Table.{Decodes, row_of}
use Rattle.spu_elf.specs.declared.objects.SecKind.TheVariants as kinds
use Rattle.spu_elf.specs.declared.objects.Section.{Section}
use Rattle.spu_elf.specs.declared.objects.Object.{Object}
use Rattle.spu_lift.specs.declared.relocations.Spot.{Spot}
use Rattle.spu_lift.specs.declared.functions.FunctionSymbol.{FunctionSymbol}
use Rattle.spu_lift.specs.declared.functions.Place.{Place}
use Rattle.spu_lift.specs.declared.program.Label.{Label}
use Rattle.spu_lift.specs.declared.program.Operand.{Operand}
use Rattle.spu_lift.specs.declared.program.SymInst.{SymInst}
use Rattle.spu_lift.specs.declared.tables.Meaning.{Meaning}
use Rattle.spu_lift.specs.declared.tables.Meaning.TheVariants.{Number, Code, Unknown}
use Rattle.spu_lift.specs.Tables.{section_at}
use Rattle.spu_lift.specs.Extents.{Extent, extent_of, label_of}
use Rattle.spu_lift.specs.Meanings.{field_of, is_hint}
use Rattle.spu_lift.specs.Lifted.{IsLabelOf, IsLiftedAs, IsLiftedWord, IsOperandOf, IsPlaceAt}
use Rattle.spu_lift.specs.LookUps.{IsWordOf, word_in}
use Rattle.spu_lift.specs.FunctionTables.{AreFunctions, IsLiftedBy, IsLiftedIn, IsOperandIn, IsPlaceFor, IsPlaceMeant, extent_in, is_in}
use Rattle.spu_lift.proofs.NumberedFunctions.{numbered_extent, place_for_at}
use Rattle.spu_lift.proofs.PlaceLemmas.{in_both}

-- ---- words

pub word_is : (os : List Object) (q : Spot) (t : Section) (x : Inst) → section_at os q.object q.section ≡ Some t → IsWordOf os q x → Decodes (be_number t.bytes q.offset) x
word_is os q t x there is =
    let found : cond (nat_le (q.offset + 4) (length t.bytes)) (Some (be_number t.bytes q.offset)) None ≡ Some is.word = sym (ap (option_and_then (word_in q.offset)) there) ∙ is.at in
    let same : be_number t.bytes q.offset ≡ is.word = (cond_some (nat_le (q.offset + 4) (length t.bytes)) (be_number t.bytes q.offset) is.word found).1 in
    subst (λ w. Decodes w x) (sym same) is.decodes

operand_is : (os : List Object) (fs : List FunctionSymbol) (f : ℕ) (what : Kind) (field : Option Meaning) (o : Operand) → AreFunctions os fs → IsOperandIn fs f what field o → IsOperandOf os (map extent_in fs) f what field o
operand_is os fs f what None o functions is = is
operand_is os fs f what (Some (Number v)) o functions is = is
operand_is os fs f what (Some (Code n k offset)) o functions is = (is.p.function, is.p.word, place_for_at os fs n k offset is.p functions is.place, is.is)
operand_is os fs f what (Some Unknown) o functions is = is

lifted_is : (os : List Object) (fs : List FunctionSymbol) (f : ℕ) (q : Spot) (x : Inst) (s : SymInst) (b : Bool) → AreFunctions os fs → IsLiftedBy b os fs f q x s → IsLiftedAs b os (map extent_in fs) f q.object q.section q.offset x s
lifted_is os fs f q x s true functions is = is
lifted_is os fs f q x s false functions is = (is.0, operand_is os fs f (row_of x.op).kind (field_of os q.object q.section q.offset x) is.0 functions is.1, is.2)

-- a word of code that the tables lift is lifted so
pub is_lifted_word : (os : List Object) (fs : List FunctionSymbol) (f : ℕ) (q : Spot) (t : Section) (s : SymInst) → AreFunctions os fs → section_at os q.object q.section ≡ Some t → t.kind ≡ kinds.Code → q.offset % WORD_SIZE ≡ 0 → IsLiftedIn os fs f q s
    → IsLiftedWord os (map extent_in fs) f q.object q.section q.offset s
is_lifted_word os fs f q t s functions there code aligned is = record {
  section = t;
  x = is.x;
  here = record { section = there; code = code; aligned = aligned; decodes = word_is os q t is.x there is.word };
  lifted = lifted_is os fs f q is.x s (is_hint is.x.op) functions is.lifted;
}

-- ---- labels

pub is_label : (os : List Object) (fs : List FunctionSymbol) (m : Meaning) (p : Place) → AreFunctions os fs → IsPlaceMeant fs m p → IsLabelOf os (map extent_in fs) m (label_of p.function p.word)
is_label os fs (Number v) p functions is = is
is_label os fs (Code n k offset) p functions is = (p.function, p.word, place_for_at os fs n k offset p functions is, refl)
is_label os fs Unknown p functions is = is

-- a place by the extents' numbers is one by the functions'
pub place_by : (os : List Object) (fs : List FunctionSymbol) (n k : ℕ) (offset : ℤ) (g j : ℕ) → IsPlaceAt os (map extent_in fs) n k offset g j → IsPlaceFor fs n k offset (record { function = g; word = j })
place_by os fs n k offset zero j is = absurd (none-some is.x is.number)
place_by os fs n k offset (suc i) j is =
    let has = numbered_extent fs i is.x is.number in
    let word = is.word in
    let back : suc i - 1 ≡ i = omega arith in
    let object : has.0.object ≡ n = ap (λ (y : Extent). y.object) has.2 ∙ word.object in
    let section : has.0.section ≡ k = ap (λ (y : Extent). y.section) has.2 ∙ word.section in
    let at : has.0.offset ≡ is.x.offset = ap (λ (y : Extent). y.offset) has.2 in
    let size : has.0.size ≡ is.x.size = ap (λ (y : Extent). y.size) has.2 in
    let inner = word.inside in
    record {
      at = is.x.offset + WORD_SIZE * j;
      is = word.at;
      place = record {
        from = omega arith;
        f = has.0;
        there = ap (slice_get fs) back ∙ has.1;
        section = in_both has.0 n k object section;
        at = ap (λ m. m + WORD_SIZE * j) (sym at);
        inside = omega arith;
      };
    }

pub label_is : (os : List Object) (fs : List FunctionSymbol) (m : Meaning) (l : Label) → IsLabelOf os (map extent_in fs) m l → (p : Place) × IsPlaceMeant fs m p × (l ≡ label_of p.function p.word)
label_is os fs (Number v) l is = absurd is
label_is os fs (Code n k offset) l is = (record { function = is.0; word = is.1 }, place_by os fs n k offset is.0 is.1 is.2, is.3)
label_is os fs Unknown l is = absurd is
