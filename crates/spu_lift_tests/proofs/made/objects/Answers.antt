use Rattle.std.proofs.Common.{[], ◌∷◌}
use Rattle.std.proofs.lemmas.List.Elements.{All-append, All-cons, All-nil, All-same}
use Rattle.spu_elf.specs.WellFormed.{IsWellFormed}
use Rattle.spu_lift_tests.proofs.made.objects.Goals as goal

pub loop-object-preserved : goal.loop-object-preserved
loop-object-preserved c =
    let o = c.in_ok-valid.field-0 in
    All-same IsWellFormed c.push.new.self _ c.in_ok-push.ensures.ok
    (All-append IsWellFormed c.loop-object.objects (o ∷ []) c.loop-object.invariant (All-cons IsWellFormed o [] c.in_ok-valid.ensures (All-nil IsWellFormed)))
