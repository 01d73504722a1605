use Rattle.std.proofs.Common.{◌≡◌, ℕ, ◌+◌, ◌<◌, List, length, get_or, false, Some, slice_get, refl, sym, ap, subst, ◌∙◌, arith}
use Rattle.std.specs.List.{list_any}
use Rattle.std.proofs.lemmas.Option.{slice_get-get_or, slice_get_read}
use Rattle.spu_elf.specs.declared.objects.Object.{Object}
use Rattle.spu_lift.specs.declared.functions.FunctionSymbol.{FunctionSymbol}
use Rattle.spu_lift.specs.declared.functions.Place.{Place}
use Rattle.spu_lift.specs.declared.taken.Taken.{Taken}
use Rattle.spu_lift.specs.TakenPlaces.{IsLabeledInObject, IsLabeledOf, IsNamedBy, IsNamedIn, same_place, takes}
use Rattle.spu_lift.proofs.TakenLemmas.{step_more}
use Rattle.spu_lift.proofs.TakenSteps.{adds_by, all_places, function_named, labeled_object, named_function, object_labeled}
use Rattle.spu_lift.proofs.taken.Taken.of.Goals as goal

unfoldable none : FunctionSymbol
none = record { object = 0; section = 0; offset = 0; size = 0; local = false; symbol = 0 }

pub loop-index-preserved : goal.loop-index-preserved
unfolding none
loop-index-preserved c =
    let os = c.args.lifting.now.tables.objects.now in
    let fs = c.args.lifting.now.functions.sorted.items in
    let all = c.as_slice-f-items.result.now in
    let i = c.loop-index.index in
    let start : Taken = record { places = c.new.result } in
    let there : slice_get fs i ≡ Some (get_or all i none) = ap (λ (xs : List FunctionSymbol). slice_get xs i) (sym c.as_slice-f-items.ensures) ∙ slice_get-get_or all i none c.loop-index-test.true in
    step_more (IsNamedBy os fs) (takes start) (takes c.loop-index.taken) (takes c.take_in_function.new.self) i c.loop-index.invariant
    (adds_by (IsNamedIn os fs (i + 1) (get_or all i none)) (IsNamedBy os fs i) (takes c.loop-index.taken) (takes c.take_in_function.new.self) (function_named os fs i (get_or all i none) there) (named_function os fs i (get_or all i none) there)
    c.in_ok-take_in_function.ensures)

pub loop-object-preserved : goal.loop-object-preserved
loop-object-preserved c =
    let os = c.args.lifting.now.tables.objects.now in
    let fs = c.args.lifting.now.functions.sorted.items in
    let n = c.loop-object.object in
    let o = c.o-item.result in
    let there : slice_get os n ≡ Some o = slice_get_read os (length os) n o refl c.loop-object-test.true c.o-item.is in
    step_more (IsLabeledInObject os fs) (takes c.loop-index.taken) (takes c.loop-object.taken) (takes c.take_in_object.new.self) n c.loop-object.invariant
    (adds_by (IsLabeledOf os fs n o.sections) (IsLabeledInObject os fs n) (takes c.loop-object.taken) (takes c.take_in_object.new.self) (object_labeled os fs n o there) (labeled_object os fs n o there) c.in_ok-take_in_object.ensures)

pub returns : goal.returns
returns c =
    let os = c.args.lifting.now.tables.objects.now in
    let fs = c.args.lifting.now.functions.sorted.items in
    let start : Taken = record { places = c.new.result } in
    let size : length c.as_slice-f-items.result.now ≡ length fs = ap length c.as_slice-f-items.ensures in
    all_places os fs c.loop-index.index c.loop-object.object start c.loop-index.taken c.loop-object.taken (omega arith) (omega arith) (λ p. ap (list_any (same_place p)) c.new.ensures.empty) c.loop-index.invariant c.loop-object.invariant
