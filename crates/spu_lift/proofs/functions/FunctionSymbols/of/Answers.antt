use Rattle.std.proofs.Common.{◌≡◌, ◌++◌, List, take, ap, sym, ◌∙◌, ◌<◌, length, arith}
use Rattle.std.proofs.lemmas.List.{take_all}
use Rattle.spu_lift.specs.declared.functions.FunctionSymbol.{FunctionSymbol}
use Rattle.spu_lift.specs.Gathered.{function_symbols, symbols_in}
use Rattle.spu_lift.proofs.SymbolOrder.{sorted_by_key}
use Rattle.spu_lift.proofs.GatheredSymbols.{are_symbols, object_gathered}
use Rattle.spu_lift.proofs.functions.FunctionSymbols.of.Goals as goal

pub loop-object-preserved : goal.loop-object-preserved
loop-object-preserved c =
    let within : c.loop-object.object < length c.args.objects.now = omega arith in
    c.in_ok-push_symbols.ensures ∙ ap (λ (fs : List FunctionSymbol). fs ++ symbols_in c.loop-object.object c.index-objects-object.result) c.loop-object.invariant
    ∙ sym (object_gathered c.args.objects.now c.loop-object.object c.index-objects-object.result within c.index-objects-object.is)

pub returns : goal.returns
returns c =
    let whole : take c.loop-object.object c.args.objects.now ≡ c.args.objects.now = take_all c.loop-object.object c.args.objects.now (omega arith) in
    are_symbols c.args.objects.now c.loop-object.symbols.items c.sort.new.self.items c.requires.few c.requires.formed (c.loop-object.invariant ∙ ap function_symbols whole) c.in_ok-sort.ensures.permutation
    (sorted_by_key c.sort.new.self.items c.in_ok-sort.ensures.sorted)
