use Rattle.std.proofs.Common.{◌≡◌, true, false, sym, ap, rules}
use denote.Enum.Bare.{same_true, sameb}
use Rattle.spu_isa.specs.contracts.operation.Kind.{the_type}
use Rattle.spu_isa.specs.declared.operation.Kind.{Kind}
use Rattle.spu_isa.specs.declared.operation.Kind.TheVariants.{Branch}
use Rattle.spu_lift.proofs.FieldLemmas.{branch_may_go, other_may_not_go}
use Rattle.spu_lift.proofs.lifting.Lifting.may_go.Goals as goal

pub returns-then-eq : goal.returns-then-eq
returns-then-eq c =
    branch_may_go c.args.self.now.functions.sorted.items c.args.kind c.args.function c.args.field c.in-Some.meaning c.in-Some-place_meant.place c.requires c.in-Some.is c.in-Some-place_meant.ensures.some c.if-place-eq0.false
    (same_true the_type (search rules) _ _ (sym c.if-eq.ensures))

pub returns-else-eq : goal.returns-else-eq
returns-else-eq c = (
  λ yes. search rules,
  λ goes. absurd (other_may_not_go c.args.self.now.functions.sorted.items c.args.kind c.args.function c.args.field c.in-Some.meaning c.in-Some-place_meant.place c.requires c.in-Some.is
      c.in-Some-place_meant.ensures.some c.if-place-eq0.false (λ branch.
      let yes : sameb the_type c.args.kind Branch ≡ true = ap (λ (k : Kind). sameb the_type k Branch) branch in
      let no : sameb the_type c.args.kind Branch ≡ false = sym c.if-eq.ensures in
      absurd (cc)) goes),
)
