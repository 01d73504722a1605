use Rattle.std.proofs.Common.{sym, subst, ◌∙◌}
use Rattle.spu_lift.specs.Tables.{data_address}
use Rattle.spu_lift.specs.Built.{IsPartBuilt}
use Rattle.spu_lift.proofs.BuiltParts.{parts_more, parts_same, section_here, started_none, started_some}
use Rattle.spu_lift.proofs.lifting.Lifting.push_parts.Goals as goal
use Rattle.spu_lift.proofs.lifting.Lifting.push_parts.Goals.{in-Some+in_ok-part+in_ok-push, in_default}

pub loop-section-preserved : goal.loop-section-preserved
loop-section-preserved c =
    let os = c.args.self.now.tables.objects.now in
    let fs = c.args.self.now.functions.sorted.items in
    let n = c.args.object in
    let k = c.loop-section.section in
    let t = c.s-item.result in
    let is = rw c.as_slice-s-items.ensures at c.s-item.is in
    let within = rw c.as_slice-s-items.ensures at c.loop-section-test.true in
    let there = section_here os n k c.args.o.now t c.requires.there within is in
    elim c.match-data_start.branch [
      | in-Some+in_ok-part+in_ok-push w ↦
          let started = started_some os n k w.in-Some.address t c.data_start.result there c.data_start.ensures.start w.in-Some.is in
          let built : IsPartBuilt os fs n k t (data_address os n k t) w.in_ok-part.field-0 = subst (λ a. IsPartBuilt os fs n k t a w.in_ok-part.field-0) (sym started.1) w.in_ok-part.ensures in
          parts_more os fs n k t c.loop-section.parts c.match-data_start.parts w.in_ok-part.field-0 c.loop-section.invariant there started.0 built (w.parts-is ∙ w.in_ok-push.ensures.ok)
      | in_default w ↦ rw w.parts-is (parts_same os fs n k t c.loop-section.parts c.loop-section.invariant there (started_none os n k t c.data_start.result there c.data_start.ensures.start w.in_default.is))
    ]
