use Rattle.std.proofs.Common.{lit≤}
use Rattle.spu_layout.specs.Layouts.{Layout}
use Rattle.spu_layout.specs.Labels.{call_target, jump_target}
use Rattle.spu_layout.specs.PlannedSamples.{sample_layout}
use Rattle.spu_layout.specs.Views.{layout_in}
use Rattle.spu_layout.proofs.PlannedSamples.{same_within}
use Rattle.spu_layout.proofs.tests.overlaid_targets.Goals as goal

pub call_target-requires-clause-inside : goal.call_target-requires-clause-inside
call_target-requires-clause-inside c = same_within (λ (l : Layout). call_target l 1 2) (layout_in c.args.l.now) sample_layout c.requires.laid (lit≤ tt)

pub call_target-requires-2-clause-inside : goal.call_target-requires-2-clause-inside
call_target-requires-2-clause-inside c = same_within (λ (l : Layout). call_target l 1 3) (layout_in c.args.l.now) sample_layout c.requires.laid (lit≤ tt)

pub call_target-requires-3-clause-inside : goal.call_target-requires-3-clause-inside
call_target-requires-3-clause-inside c = same_within (λ (l : Layout). call_target l 3 1) (layout_in c.args.l.now) sample_layout c.requires.laid (lit≤ tt)

pub call_target-requires-4-clause-inside : goal.call_target-requires-4-clause-inside
call_target-requires-4-clause-inside c = same_within (λ (l : Layout). call_target l 3 4) (layout_in c.args.l.now) sample_layout c.requires.laid (lit≤ tt)

pub jump_target-requires-clause-inside : goal.jump_target-requires-clause-inside
jump_target-requires-clause-inside c = same_within (λ (l : Layout). jump_target l 1 3) (layout_in c.args.l.now) sample_layout c.requires.laid (lit≤ tt)

pub jump_target-requires-2-clause-inside : goal.jump_target-requires-2-clause-inside
jump_target-requires-2-clause-inside c = same_within (λ (l : Layout). jump_target l 3 1) (layout_in c.args.l.now) sample_layout c.requires.laid (lit≤ tt)

pub jump_target-requires-3-clause-inside : goal.jump_target-requires-3-clause-inside
jump_target-requires-3-clause-inside c = same_within (λ (l : Layout). jump_target l 3 4) (layout_in c.args.l.now) sample_layout c.requires.laid (lit≤ tt)
