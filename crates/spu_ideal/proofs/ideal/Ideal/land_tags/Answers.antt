use Rattle.std.proofs.Common.{◌≡◌, ℕ, Bool, List, ◌++◌, take, drop, length, ap, refl, ◌∙◌, arith, false}
use Rattle.std.specs.Prelude.{slice_index_or}
use Rattle.spu_exec.specs.declared.transfers.Transfer.{Transfer}
use Rattle.spu_exec.specs.Tags.{without_tags}
use Rattle.spu_ideal.specs.View.{state_of}
use Rattle.spu_ideal.proofs.Landed.{landing_lands, landing_stays, queue_lands, queue_stays, landing_ends}
use Rattle.spu_ideal.proofs.ideal.Ideal.land_tags.Goals as goal

pub loop-i-init : goal.loop-i-init
loop-i-init c = record { rest = λ m e. (e, refl); left = refl; within = omega arith; steps = refl; room = refl }

pub loop-i-preserved-then-tags-t : goal.loop-i-preserved-then-tags-t
loop-i-preserved-then-tags-t c =
    let test : ℕ → Bool = λ tag. slice_index_or c.args.tags tag false in
    record {
      rest = λ m e.
          landing_lands test c.loop-i.i c.index.result.now (state_of c.args.self.now) (state_of c.loop-i.self) (state_of c.land.new.self) c.remove.new.self.items
          (omega arith) c.index.ensures c.remove.ensures.items c.if-tags-t.true c.land.ensures.exact m (c.loop-i.invariant.rest m e);
      left =
          ap (λ (q : List Transfer). take c.loop-i.i q ++ without_tags test (drop c.loop-i.i q)) c.land.ensures.queue
          ∙ queue_lands test c.loop-i.i c.index.result.now c.loop-i.self.queue.items c.remove.new.self.items (omega arith) c.index.ensures c.remove.ensures.items c.if-tags-t.true
          ∙ c.loop-i.invariant.left;
      within = (let e : length c.land.new.self.queue.items ≡ length c.remove.new.self.items = ap length c.land.ensures.queue in omega (arith, e, c.remove.ensures.len));
      steps = c.land.ensures.count ∙ c.loop-i.invariant.steps;
      room = c.land.ensures.room ∙ c.loop-i.invariant.room;
    }

pub loop-i-preserved : goal.loop-i-preserved
loop-i-preserved c =
    let test : ℕ → Bool = λ tag. slice_index_or c.args.tags tag false in
    record {
      rest = λ m e. landing_stays test c.loop-i.i c.index.result.now (state_of c.args.self.now) (state_of c.loop-i.self) (omega arith) c.index.ensures c.if-tags-t.false m (c.loop-i.invariant.rest m e);
      left = queue_stays test c.loop-i.i c.index.result.now c.loop-i.self.queue.items (omega arith) c.index.ensures c.if-tags-t.false ∙ c.loop-i.invariant.left;
      within = omega arith;
      steps = c.loop-i.invariant.steps;
      room = c.loop-i.invariant.room;
    }

pub returns-clause-exact : goal.returns-clause-exact
returns-clause-exact c m e =
    landing_ends (λ tag. slice_index_or c.args.tags tag false) c.loop-i.i (state_of c.args.self.now) (state_of c.loop-i.self) m (omega arith) c.loop-i.invariant.left (c.loop-i.invariant.rest m e)
