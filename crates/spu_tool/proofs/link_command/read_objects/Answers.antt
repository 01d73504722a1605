use Rattle.std.proofs.Common.{◌≡◌, get_or, subst, sym}
use Rattle.spu_tool.proofs.Links.{read_more}
use Rattle.spu_tool.proofs.link_command.read_objects.Goals as goal

pub loop-k-preserved : goal.loop-k-preserved
loop-k-preserved c =
    let there = subst (λ f. f ≡ get_or c.args.files.now c.loop-k.k f) (sym c.as_slice.ensures) c.index-files-k.is in
    read_more c.args.files.now c.loop-k.k c.as_slice.result.now c.loop-k.objects _ c.in-Ok.object c.loop-k.invariant c.loop-k-test.true there c.in-Ok.ensures.checks c.in-Ok.ensures.value
    c.in-Ok.ensures.well_formed c.in_ok-push-in-Ok.ensures.ok
