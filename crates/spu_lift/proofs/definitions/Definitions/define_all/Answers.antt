use Rattle.std.proofs.Common.{arith, ◌<◌, length}
use Rattle.spu_lift.specs.Tables.{definitions_in}
use Rattle.spu_lift.specs.Defined.{named}
use Rattle.spu_lift.proofs.DefinedLemmas.{symbol_more}
use Rattle.spu_lift.proofs.definitions.Definitions.define_all.Goals as goal

pub loop-symbol-preserved : goal.loop-symbol-preserved
loop-symbol-preserved c =
    let within : c.loop-symbol.symbol < length c.args.symbols.now = omega arith in
    λ q. symbol_more c.args.object c.args.symbols.now c.loop-symbol.symbol c.index-symbols-symbol.result within c.index-symbols-symbol.is q
    (named c.args.self.now q) (named c.loop-symbol.self q) (named c.define_symbol.new.self q) (c.loop-symbol.invariant q) (c.in_ok-define_symbol.ensures q)
