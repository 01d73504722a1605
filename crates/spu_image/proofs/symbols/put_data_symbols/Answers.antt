use Rattle.std.proofs.Common.{arith}
use Rattle.spu_image.proofs.DataSymbols.{item_low, symbol_next}
use Rattle.spu_image.proofs.symbols.put_data_symbols.Goals as goal

pub data_symbol-requires : goal.data_symbol-requires
data_symbol-requires c =
    let low = item_low c.args.p.now c.requires.formed c.as_slice-g-items.result.now c.as_slice-g-items.ensures c.loop-g.g-index c.loop-g-test.true c.g-item.result c.g-item.is in
    let end = c.requires.low in
    omega (arith, low, end)

pub loop-g-preserved : goal.loop-g-preserved
loop-g-preserved c =
    symbol_next c.args.p.now c.as_slice-g-items.result.now c.loop-g.g-index c.loop-g-test.true c.g-item.result c.g-item.is c.loop-g.ears.now c.without_first-ears.result.now
    c.has_first-is_ear.result c.data_kind.result c.in_ok-data_symbol.field-0 c.args.symbols.now c.loop-g.symbols c.push.new.self
    c.loop-g.invariant.0 c.loop-g.invariant.1 c.has_first-is_ear.ensures c.data_kind.ensures c.in_ok-data_symbol.ensures c.in_ok-push.ensures.ok c.without_first-ears.ensures
