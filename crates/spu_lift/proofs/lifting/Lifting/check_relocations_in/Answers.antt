use Rattle.spu_lift.proofs.RelocPasses.{first_shown, none_shown}
use Rattle.spu_lift.proofs.lifting.Lifting.check_relocations_in.Goals as goal

pub returns-in-Some-clause-err : goal.returns-in-Some-clause-err
returns-in-Some-clause-err c =
    first_shown c.args.check c.args.self.now.tables.objects.now c.args.object c.args.o.now c.in-Some.r c.relocation_fault.result c.requires.there c.in-Some.ensures c.relocation_fault.ensures

pub returns-in-None-clause-ok : goal.returns-in-None-clause-ok
returns-in-None-clause-ok c = none_shown c.args.check c.args.self.now.tables.objects.now c.args.object c.args.o.now c.requires.there c.in-None.ensures
