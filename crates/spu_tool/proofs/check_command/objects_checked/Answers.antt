use Rattle.std.proofs.Common.{subst}
use Rattle.spu_image.specs.Linking.{IsJudgedFrom}
use Rattle.spu_tool.specs.Arguments.{texts_of}
use Rattle.spu_tool.proofs.Checks.{checked_if}
use Rattle.spu_tool.proofs.check_command.objects_checked.Goals as goal

pub returns-in-Ok : goal.returns-in-Ok
returns-in-Ok c =
    checked_if c.args.options (texts_of c.args.names.now) c.args.objects.now c.args.areas.now c.in-Ok.judged c.in_ok-inputs-in-Ok.inputs c.judged_check.result
    (subst (λ entry. IsJudgedFrom c.args.objects.now entry c.args.options.limit c.in-Ok.judged) c.as_slice.ensures c.in-Ok.ensures.judged) c.in_ok-inputs-in-Ok.ensures c.judged_check.ensures
