use Rattle.std.proofs.Common.{◌%◌, ◌^◌, ◌∙◌, ap}
use Rattle.spu_exec.specs.Lanes.{immediate}
use Rattle.spu_exec.specs.Moves.{immediate_word}
use Rattle.spu_ideal.proofs.Listed.{four_bytes}
use Rattle.spu_ideal.proofs.computing.immediate_bytes.Goals as goal

pub returns : goal.returns
returns c =
    four_bytes (immediate_word c.args.i.now.op (immediate 4 c.args.i.now.imm)) c.immediate_word.result c.to_be_bytes-bytes.result c.to_be_bytes-bytes.ensures
    (c.immediate_word.ensures ∙ ap (λ n. immediate_word c.args.i.now.op n % 2 ^ 32) c.immediate.ensures)
