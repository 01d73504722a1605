use Rattle.std.proofs.Common.{lit≤}
use Rattle.spu_layout.specs.Layouts.{Layout}
use Rattle.spu_lift.specs.declared.program.Label.TheVariants.{Fun, Place, Link}
use Rattle.spu_layout.specs.Labels.{address_of}
use Rattle.spu_layout.specs.PlannedSamples.{sample_layout}
use Rattle.spu_layout.specs.Views.{layout_in}
use Rattle.spu_layout.proofs.PlannedSamples.{same_within}
use Rattle.spu_layout.proofs.tests.overlaid_codes.Goals as goal

pub code-requires-clause-inside : goal.code-requires-clause-inside
code-requires-clause-inside c = same_within (λ (l : Layout). address_of l (Fun 1)) (layout_in c.args.l.now) sample_layout c.requires.laid (lit≤ tt)

pub code-requires-2-clause-inside : goal.code-requires-2-clause-inside
code-requires-2-clause-inside c = same_within (λ (l : Layout). address_of l (Fun 4)) (layout_in c.args.l.now) sample_layout c.requires.laid (lit≤ tt)

pub code-requires-3-clause-inside : goal.code-requires-3-clause-inside
code-requires-3-clause-inside c = same_within (λ (l : Layout). address_of l (Place 4 1)) (layout_in c.args.l.now) sample_layout c.requires.laid (lit≤ tt)

pub code-requires-4-clause-inside : goal.code-requires-4-clause-inside
code-requires-4-clause-inside c = same_within (λ (l : Layout). address_of l (Link 1 2)) (layout_in c.args.l.now) sample_layout c.requires.laid (lit≤ tt)

pub code-requires-5-clause-inside : goal.code-requires-5-clause-inside
code-requires-5-clause-inside c = same_within (λ (l : Layout). address_of l (Link 3 1)) (layout_in c.args.l.now) sample_layout c.requires.laid (lit≤ tt)
