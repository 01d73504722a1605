use Rattle.std.proofs.Common.{rules}
use Rattle.spu_lift.proofs.TableLemmas.{instruction_there}
use Rattle.spu_lift.proofs.tables.Tables.is_on_hint.Goals as goal

pub returns-in-None : goal.returns-in-None
returns-in-None c = (λ yes. search rules, λ hint. absurd (c.in-None.ensures.none hint.1 (instruction_there c.args.self.now.objects.now c.args.spot hint.0 hint.1 c.requires hint.2)))
