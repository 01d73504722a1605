use Rattle.std.proofs.Common.{List, ℕ, ap, ◌∙◌, false}
use Rattle.std.specs.Prelude.{slice_index_or}
use Rattle.spu_exec.specs.declared.transfers.Transfer.{Transfer}
use Rattle.spu_exec.specs.Tags.{is_landing, status}
use Rattle.spu_word.specs.Bytes.{quad_of}
use Rattle.spu_ls.specs.View.{state_of}
use Rattle.spu_ls.proofs.Landed.{answered}
use Rattle.spu_ls.proofs.stepping.Machine.answer.Goals as goal

pub returns-in-Some-clause-exact : goal.returns-in-Some-clause-exact
returns-in-Some-clause-exact c =
    c.set.ensures.exact
    ∙ answered (state_of c.args.self.now) (state_of c.land_tags.new.self) (λ tag. slice_index_or c.landing_tags-tags.result tag false) c.in-Some.update c.args.r c.args.to c.preferred.result.0
    c.args.self.now.waiting
    (λ tag lt. c.landing_tags-tags.ensures tag lt ∙ ap (λ (q : List Transfer). is_landing c.in-Some.update c.args.self.now.channels.tag_mask q tag) c.deref.ensures.value)
    c.land_tags.ensures.exact
    (c.preferred.ensures ∙ ap (λ (w : ℕ). quad_of w 0 0 0) (c.status-left.ensures ∙ ap (λ (q : List Transfer). status c.args.self.now.channels.tag_mask q) c.deref-in-Some.ensures.value))
    c.in-Some.is
