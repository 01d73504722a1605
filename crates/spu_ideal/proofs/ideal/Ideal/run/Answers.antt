use Rattle.std.proofs.Common.{arith, ◌-◌, sym, ◌∙◌}
use Rattle.spu_frame.specs.Found.{frame_at}
use Rattle.spu_ideal.specs.View.{state_of}
use Rattle.spu_ideal.proofs.Stepped.{stays_high, steps_ended, steps_left, steps_none}
use Rattle.spu_ideal.proofs.ideal.Ideal.run.Goals as goal

pub returns-in-Some-clause-state : goal.returns-in-Some-clause-state
returns-in-Some-clause-state c = sym (steps_ended c.args.p.now (frame_at c.args.d.now) (c.args.budget - c.loop.counter) (state_of c.loop.self) c.in-Some.end c.in-Some.is) ∙ c.loop.invariant.rest

pub returns-in-Some-clause-high : goal.returns-in-Some-clause-high
returns-in-Some-clause-high c = stays_high c.args.p.now c.args.d.now c.loop.self c.loop.invariant.kept

pub loop-preserved : goal.loop-preserved
loop-preserved c = record {
  rest = steps_left c.args.p.now (frame_at c.args.d.now) c.args.budget c.loop.counter (state_of c.loop.self) (state_of c.advance.new.self) c.loop-test.true c.advance.ensures.exact ∙ c.loop.invariant.rest;
  kept = c.advance.ensures.of;
  made = omega arith;
}

pub returns-clause-state : goal.returns-clause-state
returns-clause-state c = sym (steps_none c.args.p.now (frame_at c.args.d.now) (c.args.budget - c.loop.counter) (state_of c.loop.self) (omega arith)) ∙ c.loop.invariant.rest

pub returns-clause-high : goal.returns-clause-high
returns-clause-high c = stays_high c.args.p.now c.args.d.now c.loop.self c.loop.invariant.kept
