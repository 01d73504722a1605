-- What stands for the field of a branch by a distance, and where a branch may go.
use Rattle.std.proofs.Common.{◌≡◌, ℕ, ◌+◌, ◌⊎◌, ◌↔◌, Bool, true, false, ◌==◌, cond, IsTrue, List, Option, Some, None, refl, sym, ap, subst, ◌∙◌, inl, inr, arith, pos, ℤ, ◌+ℤ◌, ◌*ℤ◌}
use Rattle.std.proofs.lemmas.Bool.Decides.{nat_tests}
use Rattle.spu_word.specs.declared.limits.TheConstants.{WORD_SIZE}
use Rattle.spu_isa.specs.declared.instruction.Inst.{Inst}
use Rattle.spu_isa.specs.declared.operation.Kind.{Kind}
use Rattle.spu_isa.specs.declared.operation.Kind.TheVariants as kind
use Rattle.spu_elf.specs.declared.objects.Reloc.{Reloc}
use Rattle.spu_elf.specs.declared.objects.Object.{Object}
use Rattle.spu_lift.specs.declared.functions.FunctionSymbol.{FunctionSymbol}
use Rattle.spu_lift.specs.declared.functions.Place.{Place}
use Rattle.spu_lift.specs.declared.tables.Meaning.{Meaning}
use Rattle.spu_lift.specs.declared.tables.Meaning.TheVariants.{Code}
use Rattle.spu_lift.specs.Tables.{reloc_on}
use Rattle.spu_lift.specs.Meanings.{field_by, field_of, is_relative}
use Rattle.spu_lift.specs.FunctionTables.{HasPlaces, IsPlaceMeant, MayGoTo}
use Rattle.spu_lift.proofs.TakenLemmas.{one_place_meant}

pub relative_field : (os : List Object) (n k offset : ℕ) (x : Inst) → reloc_on os n k offset ≡ None → is_relative x.op ≡ true → field_of os n k offset x ≡ Some (Code n k (pos offset +ℤ (pos 4 *ℤ x.imm)))
relative_field os n k offset x none relative = ap (field_by os n k offset x) none ∙ ap (λ b. cond b (Some (Code n k (pos offset +ℤ (pos 4 *ℤ x.imm)))) None) relative

-- a branch to a word that isn't a function's first may go there where the function is its own
pub branch_may_go : (fs : List FunctionSymbol) (what : Kind) (f : ℕ) (field : Option Meaning) (m : Meaning) (p : Place) → HasPlaces fs → field ≡ Some m → IsPlaceMeant fs m p → (p.word ≡ 0 → ⊥) → what ≡ kind.Branch
    → (IsTrue (p.function == f) → MayGoTo fs what f field) × (MayGoTo fs what f field → IsTrue (p.function == f))
branch_may_go fs what f field m p places is meant inner branch =
    (λ same. subst (MayGoTo fs what f) (sym is) (record { p = p; place = meant; may = inr (branch, function same) }), λ goes. back (subst (MayGoTo fs what f) is goes))
  where
    function : IsTrue (p.function == f) → p.function ≡ f
    function same = grind (arith, nat_tests)

    back : MayGoTo fs what f (Some m) → IsTrue (p.function == f)
    back goes = by (one_place_meant fs m goes.p p places goes.place meant) goes.may
      where
        by : goes.p ≡ p → (goes.p.word ≡ 0) ⊎ ((what ≡ kind.Branch) × (goes.p.function ≡ f)) → IsTrue (p.function == f)
        by same (inl first) = absurd (inner (ap (λ (r : Place). r.word) (sym same) ∙ first))
        by same (inr own) =
            let here : p.function ≡ f = ap (λ (r : Place). r.function) (sym same) ∙ own.1 in
            grind (arith, nat_tests)

-- anything else may not
pub other_may_not_go : (fs : List FunctionSymbol) (what : Kind) (f : ℕ) (field : Option Meaning) (m : Meaning) (p : Place) → HasPlaces fs → field ≡ Some m → IsPlaceMeant fs m p → (p.word ≡ 0 → ⊥) → (what ≡ kind.Branch → ⊥) → MayGoTo fs what f field → ⊥
other_may_not_go fs what f field m p places is meant inner other goes = back (subst (MayGoTo fs what f) is goes)
  where
    back : MayGoTo fs what f (Some m) → ⊥
    back goes = by (one_place_meant fs m goes.p p places goes.place meant) goes.may
      where
        by : goes.p ≡ p → (goes.p.word ≡ 0) ⊎ ((what ≡ kind.Branch) × (goes.p.function ≡ f)) → ⊥
        by same (inl first) = inner (ap (λ (r : Place). r.word) (sym same) ∙ first)
        by same (inr own) = other own.0
