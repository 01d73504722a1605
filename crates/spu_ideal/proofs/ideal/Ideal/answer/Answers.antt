use Rattle.std.proofs.Common.{List, ap, sym, ◌∙◌, false}
use Rattle.std.specs.Prelude.{slice_index_or}
use Rattle.spu_exec.specs.declared.transfers.Transfer.{Transfer}
use Rattle.spu_exec.specs.Tags.{is_landing}
use Rattle.spu_ideal.specs.declared.state.Update.{Update}
use Rattle.spu_ideal.specs.Channels.{answers}
use Rattle.spu_ideal.specs.View.{state_of}
use Rattle.spu_ideal.proofs.Landed.{answers_same}
use Rattle.spu_ideal.proofs.ideal.Ideal.answer.Goals as goal

pub returns-in-Pending-clause-exact : goal.returns-in-Pending-clause-exact
returns-in-Pending-clause-exact c =
    c.answer_after.ensures.exact
    ∙ answers_same (λ tag. slice_index_or c.landing_tags-tags.result tag false) (is_landing c.in-Pending.update c.args.self.now.mask c.args.self.now.queue.items) c.args.r c.args.p.now (state_of c.args.self.now)
    c.args.self.now.waiting
    (λ tag lt. c.landing_tags-tags.ensures tag lt ∙ ap (λ (q : List Transfer). is_landing c.in-Pending.update c.args.self.now.mask q tag) c.deref.ensures.value)
    ∙ sym (ap (λ (u : Update). answers u c.args.r c.args.p.now (state_of c.args.self.now)) c.in-Pending.is)
