use Rattle.std.proofs.Common.{◌≡◌, ◌<◌, ◌-◌, ◌/◌, true, arith, get_or, sym, subst, ◌∙◌}
use Rattle.spu_lift.specs.declared.functions.FunctionSymbol.{FunctionSymbol}
use Rattle.spu_lift.specs.FunctionTables.{IsPlaceIn, is_in}
use Rattle.spu_lift.proofs.PlaceLemmas.{found_last, none_before, none_between, none_last, ordered_parts}
use Rattle.spu_lift.proofs.functions.Functions.place_at.Goals as goal
use Rattle.spu_lift.proofs.functions.Functions.place_at.Goals.{then-number-eq0-via-then-number-eq0, then-number-eq0-via-else-number-eq0+then-spot-ne0, else-is_in-via-then-is_in+else-spot-f, else-is_in-via-else-is_in}

pub count_by-number-requires : goal.count_by-number-requires
count_by-number-requires c = ordered_parts c.args.self.now.sorted.items c.args.spot c.requires.ordered

pub returns-then-number-eq0-clause-none : goal.returns-then-number-eq0-clause-none
returns-then-number-eq0-clause-none c =
    elim c.then-number-eq0.branch [
      | then-number-eq0-via-then-number-eq0 w ↦
          none_before c.args.self.now.sorted.items c.args.spot c.count_by-number.result c.requires.ordered c.requires.apart c.count_by-number.ensures.within c.count_by-number.ensures.splits (omega arith)
      | then-number-eq0-via-else-number-eq0+then-spot-ne0 w ↦ none_between c.args.self.now.sorted.items c.args.spot c.requires.aligned (λ e. absurd (omega arith))
    ]

pub returns-then-spot-f-clause-some : goal.returns-then-spot-f-clause-some
returns-then-spot-f-clause-some c =
    let e : c.index.result.now ≡ get_or c.args.self.now.sorted.items (c.count_by-number.result - 1) c.index.result.now = c.index.ensures in
    let inside : is_in (get_or c.args.self.now.sorted.items (c.count_by-number.result - 1) c.index.result.now) c.args.spot.object c.args.spot.section ≡ true
    = subst (λ (f : FunctionSymbol). is_in f c.args.spot.object c.args.spot.section ≡ true) e (sym c.if-is_in.ensures) in
    let near : c.args.spot.offset - (get_or c.args.self.now.sorted.items (c.count_by-number.result - 1) c.index.result.now).offset < (get_or c.args.self.now.sorted.items (c.count_by-number.result - 1) c.index.result.now).size
    = subst (λ (f : FunctionSymbol). c.args.spot.offset - f.offset < f.size) e c.if-spot-f.true in
    subst (λ (f : FunctionSymbol). IsPlaceIn c.args.self.now.sorted.items c.args.spot (record { function = c.count_by-number.result; word = (c.args.spot.offset - f.offset) / 4 })) (sym e)
    (found_last c.args.self.now.sorted.items c.args.spot c.count_by-number.result c.index.result.now c.requires.aligned c.count_by-number.ensures.within c.if-number-eq0.false c.if-spot-ne0.false c.count_by-number.ensures.splits inside near)

pub returns-else-is_in-clause-none : goal.returns-else-is_in-clause-none
returns-else-is_in-clause-none c =
    let f = c.index.result.now in
    let e : c.index.result.now ≡ get_or c.args.self.now.sorted.items (c.count_by-number.result - 1) c.index.result.now = c.index.ensures in
    let misses : is_in c.index.result.now c.args.spot.object c.args.spot.section ≡ true → c.args.spot.offset - c.index.result.now.offset < c.index.result.now.size → ⊥
    = λ i n. elim c.else-is_in.branch [
      | else-is_in-via-then-is_in+else-spot-f w ↦ absurd (omega arith)
      | else-is_in-via-else-is_in w ↦ let t : c.is_in.result ≡ true = c.is_in.ensures ∙ i in absurd (cc)
    ] in
    none_last c.args.self.now.sorted.items c.args.spot c.count_by-number.result c.index.result.now c.requires.ordered c.requires.apart c.count_by-number.ensures.within c.count_by-number.ensures.splits
    (subst (λ (f : FunctionSymbol). is_in f c.args.spot.object c.args.spot.section ≡ true → c.args.spot.offset - f.offset < f.size → ⊥) e misses)
