use Rattle.spu_ideal.proofs.Begun.{start_of_both}
use Rattle.spu_ideal.proofs.Stepped.{stays_high}
use Rattle.spu_ideal.proofs.ideal.Ideal.load.Goals as goal

pub returns-in-Ok-clause-of : goal.returns-in-Ok-clause-of
returns-in-Ok-clause-of c = start_of_both c.args.p.now c.args.d.now c.args.limit c.requires c.args.inputs.now c.in-Ok.ideal c.in-Ok.ensures.start c.in-Ok.ensures.room

pub returns-in-Ok-clause-high : goal.returns-in-Ok-clause-high
returns-in-Ok-clause-high c =
    stays_high c.args.p.now c.args.d.now c.in-Ok.ideal
    (start_of_both c.args.p.now c.args.d.now c.args.limit c.requires c.args.inputs.now c.in-Ok.ideal c.in-Ok.ensures.start c.in-Ok.ensures.room)
