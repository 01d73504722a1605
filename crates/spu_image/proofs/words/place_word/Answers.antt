use Rattle.spu_ideal.proofs.Lifted.{function_within}
use Rattle.spu_image.proofs.Laid.{inside, known, operand_fits}
use Rattle.spu_image.proofs.words.place_word.Goals as goal

pub encode-requires : goal.encode-requires
encode-requires c = (c.requires.laid.well.instructions c.args.f c.args.i c.args.x.now c.requires.there).range

pub operand_value-requires : goal.operand_value-requires
operand_value-requires c = record {
  laid = c.requires.laid;
  known = function_within c.args.p.now c.args.f c.args.i c.args.x.now c.requires.there;
  stands = (c.requires.laid.well.instructions c.args.f c.args.i c.args.x.now c.requires.there).stands;
}

pub address-requires : goal.address-requires
address-requires c = record {
  known = known c.args.p.now c.args.layout.now c.requires.laid c.args.f c.args.i (c.args.x.now, c.requires.there);
  inside = inside c.args.p.now c.args.layout.now c.requires.laid c.args.f c.args.i (c.args.x.now, c.requires.there);
}

pub patched-requires : goal.patched-requires
patched-requires c =
    let is = c.requires.laid.well.instructions c.args.f c.args.i c.args.x.now c.requires.there in
    record { range = is.range; fits = operand_fits c.args.p.now c.args.f c.args.x.now c.args.x.now.operand is.stands c.in_default.not-Plain }
