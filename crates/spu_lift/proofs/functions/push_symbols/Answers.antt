use Rattle.spu_lift.proofs.GatheredSymbols.{symbols_more}
use Rattle.spu_lift.proofs.functions.push_symbols.Goals as goal

pub loop-number-preserved : goal.loop-number-preserved
loop-number-preserved c =
    symbols_more c.args.object c.args.o.now c.as_slice-symbol-items.result.now c.as_slice.result.now c.loop-number.number c.symbol-item.result c.args.symbols.now.items c.loop-number.symbols.items c.push_symbol.new.symbols.items
    c.as_slice-symbol-items.ensures c.as_slice.ensures c.loop-number-test.true c.symbol-item.is c.loop-number.invariant c.in_ok-push_symbol.ensures
