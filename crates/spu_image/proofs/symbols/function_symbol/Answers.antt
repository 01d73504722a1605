use Rattle.std.proofs.Common.{arith}
use Rattle.std.proofs.lemmas.Option.{slice_get_within}
use Rattle.spu_image.proofs.Filled.{few_words}
use Rattle.spu_image.proofs.Laid.{callee_inside}
use Rattle.spu_image.proofs.symbols.function_symbol.Goals as goal

pub address-requires-clause-inside : goal.address-requires-clause-inside
address-requires-clause-inside c =
    callee_inside c.args.p.now c.args.layout.now c.requires.laid c.args.f (c.requires.other, slice_get_within c.args.p.now.functions c.args.f c.args.g.now c.requires.there)

pub overflow_cast-result : goal.overflow_cast-result
overflow_cast-result c =
    let few = few_words c.args.p.now c.requires.laid.well c.args.f c.args.g.now c.requires.there in
    omega (arith, few, c.len.ensures.value)

pub overflow_mul-result : goal.overflow_mul-result
overflow_mul-result c =
    let few = few_words c.args.p.now c.requires.laid.well c.args.f c.args.g.now c.requires.there in
    omega (arith, few, c.len.ensures.value)
