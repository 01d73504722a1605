use Rattle.std.proofs.Common.{arith}
use Rattle.spu_cesof.proofs.Given.{taken_out}
use Rattle.spu_cesof.proofs.Taken.{embeds}
use Rattle.spu_cesof.proofs.unpacking.unpack.Goals as goal

pub returns-clause-embeds : goal.returns-clause-embeds
returns-clause-embeds c = embeds c.image_in.result c.args.bytes.now (λ i. let f = c.type_inv.bytes i in omega (arith, f)) c.image_in.ensures.fault c.image_in.ensures.value

pub returns-clause-takes_out : goal.returns-clause-takes_out
returns-clause-takes_out c = λ name file h. taken_out name file c.args.bytes.now h
