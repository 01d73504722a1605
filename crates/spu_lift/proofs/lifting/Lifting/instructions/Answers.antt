use Rattle.std.proofs.Common.{sym, arith, ◌∙◌, ◌<◌, ◌/◌}
use Rattle.spu_lift.proofs.BuiltLemmas.{instructions_more}
use Rattle.spu_lift.proofs.lifting.Lifting.instructions.Goals as goal
use Rattle.spu_lift.proofs.lifting.Lifting.instructions.Goals.{in-Some+in_ok-push, in_default}

pub loop-word-preserved : goal.loop-word-preserved
loop-word-preserved c =
    let os = c.args.self.now.tables.objects.now in
    let fs = c.args.self.now.functions.sorted.items in
    let f = c.args.f.now in
    let inside : c.loop-word.word < f.size / 4 = omega arith in
    elim c.match-lifted.branch [
      | in-Some+in_ok-push w ↦
          let lifted = rw c.spot.ensures at w.in-Some.ensures.some in
          instructions_more os fs c.args.function f c.loop-word.word c.loop-word.code c.match-lifted.code w.in-Some.x c.loop-word.invariant lifted (w.code-is ∙ w.in_ok-push.ensures.ok)
      | in_default w ↦
          let never = rw c.spot.ensures at w.in_default.ensures.none in
          let its = c.requires.ready.lifts c.loop-word.word inside in
          absurd (never its.0 its.1)
    ]
