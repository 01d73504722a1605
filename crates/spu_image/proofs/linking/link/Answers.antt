use Rattle.std.proofs.Common.{subst}
use Rattle.std.proofs.lemmas.Result.{err_from_is_err_and}
use Rattle.spu_image.specs.Linking.{IsJudgedFrom, IsJudgeFault}
use Rattle.spu_image.proofs.LinkAnswers.{handed_on, refused_if}
use Rattle.spu_image.proofs.linking.link.Goals as goal

pub returns-in_err-judged-clause-fault : goal.returns-in_err-judged-clause-fault
returns-in_err-judged-clause-fault c =
    let same = err_from_is_err_and c.from_residual.result c.from_residual.ensures.1 in
    handed_on c.args.objects.now c.args.options.now _ c.in_err-judged.field-0.0 same.0 same.1 same.2
    (subst (λ e. IsJudgeFault c.args.objects.now e c.args.options.now.limit c.in_err-judged.field-0.0) c.as_slice.ensures c.in_err-judged.ensures.fault)

pub returns-clause-fault : goal.returns-clause-fault
returns-clause-fault c =
    refused_if c.args.objects.now c.args.options.now c.in_ok-judged.judged c.link_judged.result
    (subst (λ e. IsJudgedFrom c.args.objects.now e c.args.options.now.limit c.in_ok-judged.judged) c.as_slice.ensures c.in_ok-judged.ensures.judged) c.link_judged.ensures.refused
