use Rattle.std.proofs.Common.{◌≡◌, ◌+◌, ◌-◌, ◌≤◌}
use Rattle.spu_frame.specs.Found.{frame_at}
use Rattle.spu_ideal.specs.View.{IsStateOf, state_of, steps}
use Rattle.spu_ideal.proofs.ideal.Ideal.run.Given as goal

abbrev pub invariant-loop : goal.invariant-loop
invariant-loop l = record {
  rest : steps l.p (frame_at l.d) (l.fn.budget - l.counter) (state_of l.self) ≡ steps l.p (frame_at l.d) l.fn.budget (state_of l.fn.self);
  kept : IsStateOf l.p l.d l.self;
  made : l.self.steps ≤ l.fn.self.steps + l.counter;
}
