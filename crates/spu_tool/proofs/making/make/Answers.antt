use Rattle.spu_tool.proofs.Splitting.{makes_check}
use Rattle.spu_tool.proofs.making.make.Goals as goal

pub returns-in-Check : goal.returns-in-Check
returns-in-Check c =
    makes_check c.args.action c.in-Check.options c.args.names.now c.names_before.result.now c.args.files.now c.files_split.result.0.now c.files_split.result.1.now c.len-areas.result
    c.check_command.result c.in-Check.is c.requires.named c.len-areas.ensures.value c.names_before.ensures c.files_split.ensures.first c.files_split.ensures.rest c.check_command.ensures
