use Rattle.std.proofs.Common.{◌%◌, ◌/◌, [], get_or, ap, ◌∙◌, arith}
use Rattle.std.proofs.Math.ListN.{set}
use Rattle.spu_ideal.specs.declared.quads.SymQuad.TheVariants.{Numbers}
use Rattle.spu_ideal.proofs.Going.{stored_put}
use Rattle.spu_ideal.proofs.Filling.{byte_set}
use Rattle.spu_ideal.proofs.data.put.Goals as goal

pub returns-clause-value : goal.returns-clause-value
returns-clause-value c =
    stored_put c.args.store.now c.args.at c.args.s (Numbers (record { 0 = [] })) c.of.result (omega arith)
    (byte_set (get_or c.args.store.now (c.args.at / 16) (Numbers (record { 0 = [] }))) c.of.result (c.args.at % 16) c.args.s (omega arith)
    (c.of.ensures ∙ ap (λ bytes. set bytes (c.args.at % 16) c.args.s) c.bytes-bytes.ensures))
