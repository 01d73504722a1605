use Rattle.std.proofs.Common.{◌≡◌, Some, w64, to_z, of_z, subst, ℤ, arith, rules}
use Rattle.std.proofs.lemmas.Int.{ints, to_z-of_z}
use Rattle.spu_lift.specs.declared.functions.Place.{Place}
use Rattle.spu_lift.specs.declared.tables.Meaning.TheVariants.{Code}
use Rattle.spu_lift.specs.FunctionTables.{IsPlaceFor}
use Rattle.spu_lift.proofs.LiftedWords.{no_operand}
use Rattle.spu_lift.proofs.lifting.Lifting.operand.Goals as goal

pub returns-in-None-place-clause-none : goal.returns-in-None-place-clause-none
returns-in-None-place-clause-none c =
    let fs = c.args.self.now.functions.sorted.items in
    let is : c.args.field ≡ Some (Code c.in-Some-Code.object c.in-Some-Code.section c.in-Some-Code.offset) = first_of (search rules, cc) in
    let same : to_z w64 (of_z w64 c.in-Some-Code.offset) ≡ c.in-Some-Code.offset = first_of (search rules, grind (arith, ints, to_z-of_z)) in
    let none = subst (λ (z : ℤ). (p : Place) → IsPlaceFor fs c.in-Some-Code.object c.in-Some-Code.section z p → ⊥) same c.in-None-place.ensures.none in
    no_operand fs c.args.function c.args.kind c.args.field c.in-Some-Code.object c.in-Some-Code.section c.in-Some-Code.offset is none
