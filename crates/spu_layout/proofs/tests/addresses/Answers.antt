use Rattle.std.proofs.Common.{lit≤}
use Rattle.spu_layout.specs.Layouts.{Layout}
use Rattle.spu_layout.specs.Samples.{flat_sample}
use Rattle.spu_layout.specs.Views.{layout_in}
use Rattle.spu_layout.proofs.PlannedSamples.{same_within}
use Rattle.spu_layout.proofs.tests.addresses.Goals as goal

pub address-requires-clause-inside : goal.address-requires-clause-inside
address-requires-clause-inside c = same_within (λ (l : Layout). l.at 0 0) (layout_in c.args.l.now) flat_sample c.requires.laid (lit≤ tt)

pub address-requires-2-clause-inside : goal.address-requires-2-clause-inside
address-requires-2-clause-inside c = same_within (λ (l : Layout). l.at 1 0) (layout_in c.args.l.now) flat_sample c.requires.laid (lit≤ tt)

pub address-requires-3-clause-inside : goal.address-requires-3-clause-inside
address-requires-3-clause-inside c = same_within (λ (l : Layout). l.at 2 0) (layout_in c.args.l.now) flat_sample c.requires.laid (lit≤ tt)

pub address-requires-4-clause-inside : goal.address-requires-4-clause-inside
address-requires-4-clause-inside c = same_within (λ (l : Layout). l.at 3 0) (layout_in c.args.l.now) flat_sample c.requires.laid (lit≤ tt)

pub address-requires-5-clause-inside : goal.address-requires-5-clause-inside
address-requires-5-clause-inside c = same_within (λ (l : Layout). l.at 4 0) (layout_in c.args.l.now) flat_sample c.requires.laid (lit≤ tt)

pub address-requires-6-clause-inside : goal.address-requires-6-clause-inside
address-requires-6-clause-inside c = same_within (λ (l : Layout). l.at 2 1) (layout_in c.args.l.now) flat_sample c.requires.laid (lit≤ tt)
