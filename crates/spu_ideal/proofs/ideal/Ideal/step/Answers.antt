use Rattle.spu_ideal.proofs.Stepped.{stays_high}
use Rattle.spu_ideal.proofs.ideal.Ideal.step.Goals as goal

pub returns-in-Some-clause-high : goal.returns-in-Some-clause-high
returns-in-Some-clause-high c = stays_high c.args.p.now c.args.d.now c.args.self.now c.requires.of

pub returns-in-Some-ended-clause-high : goal.returns-in-Some-ended-clause-high
returns-in-Some-ended-clause-high c = stays_high c.args.p.now c.args.d.now c.advance.new.self c.advance.ensures.of

pub returns-in-None-ended-clause-high : goal.returns-in-None-ended-clause-high
returns-in-None-ended-clause-high c = stays_high c.args.p.now c.args.d.now c.advance.new.self c.advance.ensures.of
