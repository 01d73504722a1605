use Rattle.spu_image.specs.Filling.{told_in}
use Rattle.spu_image.proofs.Made.{stack_next}
use Rattle.spu_image.proofs.symbols.put_stack_symbols.Goals as goal

pub loop-f-preserved : goal.loop-f-preserved
loop-f-preserved c =
    stack_next (told_in c.args.told.now) _ c.loop-f.f c.index-others-f.result c.told_need.result c.args.symbols.now c.loop-f.symbols c.put_stack_symbol.new.symbols c.loop-f-test.true c.index-others-f.is c.told_need.ensures
    c.loop-f.invariant c.in_ok-put_stack_symbol.ensures
