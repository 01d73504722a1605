use Rattle.std.proofs.Common.{◌≡◌, ◌++◌, ◌-◌, ◌≤◌, take, drop, vec_len, false, Some}
use Rattle.std.specs.Prelude.{slice_index_or}
use Rattle.spu_exec.specs.Tags.{with_tags, without_tags}
use Rattle.spu_ideal.specs.Channels.{Contents, land_all}
use Rattle.spu_ideal.specs.View.{contents_of, state_of}
use Rattle.spu_ideal.proofs.Landed.{IsLanding}
use Rattle.spu_ideal.proofs.ideal.Ideal.land_tags.Given as goal

abbrev pub invariant-loop-i : goal.invariant-loop-i
invariant-loop-i l = record {
  rest : (m : Contents) → land_all (with_tags (λ tag. slice_index_or l.tags tag false) l.fn.self.queue.items) (Some (contents_of (state_of l.fn.self))) ≡ Some m
      → IsLanding (λ tag. slice_index_or l.tags tag false) l.i (state_of l.fn.self) (state_of l.self) m;
  left : take l.i l.self.queue.items ++ without_tags (λ tag. slice_index_or l.tags tag false) (drop l.i l.self.queue.items) ≡ without_tags (λ tag. slice_index_or l.tags tag false) l.fn.self.queue.items;
  within : l.i ≤ vec_len l.self.queue;
  steps : l.self.steps ≡ l.fn.self.steps;
  room : l.self.most_calls ≡ l.fn.self.most_calls;
}

abbrev pub decreases-loop-i : goal.decreases-loop-i
decreases-loop-i l = vec_len l.self.queue - l.i
