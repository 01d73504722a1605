use Rattle.std.proofs.Common.{◌≡◌, ◌+ℤ◌, ◌*ℤ◌, pos, w32, w64, to_z, of_z, None, Some, sym, ap, ◌∙◌, arith, rules}
use Rattle.std.proofs.lemmas.Int.{ints, to_z-of_z}
use Rattle.spu_lift.specs.declared.tables.Meaning.TheVariants.{Code}
use Rattle.spu_lift.specs.Tables.{reloc_on}
use Rattle.spu_lift.proofs.FieldLemmas.{relative_field}
use Rattle.spu_lift.proofs.lifting.Lifting.field.Goals as goal

pub returns-then-is_relative : goal.returns-then-is_relative
returns-then-is_relative c =
    let z : to_z w64 (of_z w64 (to_z w64 c.args.spot.offset +ℤ to_z w64 (of_z w64 (pos 4 *ℤ to_z w64 (of_z w64 (to_z w32 (of_z w32 c.args.x.now.imm))))))) ≡ pos c.args.spot.offset +ℤ (pos 4 *ℤ c.args.x.now.imm) =
    first_of (omega (arith, ints), grind (arith, ints, to_z-of_z)) in
    let none : reloc_on c.args.self.now.tables.objects.now c.args.spot.object c.args.spot.section c.args.spot.offset ≡ None = search rules in
    ap (λ i. Some (Code c.args.spot.object c.args.spot.section i)) z
    ∙ sym (relative_field c.args.self.now.tables.objects.now c.args.spot.object c.args.spot.section c.args.spot.offset c.args.x.now none (sym c.is_relative.ensures ∙ c.if-is_relative.true))
