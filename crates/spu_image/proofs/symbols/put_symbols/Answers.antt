use Rattle.spu_layout.specs.Views.{layout_in}
use Rattle.spu_image.specs.Filling.{is_of}
use Rattle.spu_image.proofs.Made.{symbols_next}
use Rattle.spu_image.proofs.symbols.put_symbols.Goals as goal

pub loop-f-preserved : goal.loop-f-preserved
loop-f-preserved c =
    symbols_next (layout_in c.args.layout.now) (is_of c.args.global) _ c.loop-f.f c.index-others-f.result c.args.symbols.now c.loop-f.symbols c.put_symbol.new.symbols c.loop-f-test.true c.index-others-f.is c.loop-f.invariant c.in_ok-put_symbol.ensures
