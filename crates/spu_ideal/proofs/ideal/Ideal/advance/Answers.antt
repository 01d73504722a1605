use Rattle.std.proofs.Common.{sym, ◌∙◌, Some, None}
use Rattle.spu_frame.specs.Found.{frame_at}
use Rattle.spu_ideal.specs.View.{state_of}
use Rattle.spu_ideal.proofs.Stepped.{can_act, kept, runs}
use Rattle.spu_ideal.proofs.ideal.Ideal.advance.Goals as goal

pub obey-requires : goal.obey-requires
obey-requires c =
    let h = can_act c.args.p.now c.args.d.now c.args.self.now c.in-Some.x c.requires.of (sym c.instruction.ensures ∙ c.in-Some.is) in
    record { fields = h.fields; frame = h.frame; near = h.near; open_calls = h.open_calls; count = c.requires.count }

pub returns-in-Some-clause-exact : goal.returns-in-Some-clause-exact
returns-in-Some-clause-exact c =
    c.obey.ensures.exact ∙ sym (runs c.args.p.now (frame_at c.args.d.now) (state_of c.args.self.now) (Some c.in-Some.x) c.requires.running (sym c.in-Some.is ∙ c.instruction.ensures))

pub returns-in-Some-clause-of : goal.returns-in-Some-clause-of
returns-in-Some-clause-of c =
    kept c.args.p.now c.args.d.now c.args.self.now c.obey.new.self c.requires.of
    (c.obey.ensures.exact ∙ sym (runs c.args.p.now (frame_at c.args.d.now) (state_of c.args.self.now) (Some c.in-Some.x) c.requires.running (sym c.in-Some.is ∙ c.instruction.ensures)))
    c.obey.ensures.room

pub returns-in-None-clause-exact : goal.returns-in-None-clause-exact
returns-in-None-clause-exact c =
    c.leave.ensures.exact ∙ sym (runs c.args.p.now (frame_at c.args.d.now) (state_of c.args.self.now) None c.requires.running (sym c.in-None.is ∙ c.instruction.ensures))

pub returns-in-None-clause-of : goal.returns-in-None-clause-of
returns-in-None-clause-of c =
    kept c.args.p.now c.args.d.now c.args.self.now c.leave.new.self c.requires.of
    (c.leave.ensures.exact ∙ sym (runs c.args.p.now (frame_at c.args.d.now) (state_of c.args.self.now) None c.requires.running (sym c.in-None.is ∙ c.instruction.ensures)))
    c.leave.ensures.room
