use Rattle.std.proofs.Common.{◌∙◌, ap, ◌++◌, List, ℕ, arith}
use Rattle.std.specs.Prelude.{replicate}
use Rattle.spu_image.proofs.DataBytes.{own_zeros, own_given}
use Rattle.spu_image.proofs.parts.own_bytes.Goals as goal

pub returns-in_ok-extend_zeros : goal.returns-in_ok-extend_zeros
returns-in_ok-extend_zeros c =
    c.in_ok-extend_zeros.ensures.ok ∙ ap (λ (bs : List ℕ). bs ++ replicate c.args.part.now.size 0) c.new-zeros.ensures ∙ own_zeros c.args.part.now c.is_empty.result c.is_empty.ensures c.if-is_empty.true

pub returns-else-is_empty : goal.returns-else-is_empty
returns-else-is_empty c =
    let is = c.as_slice.ensures ∙ own_given c.args.part.now c.is_empty.result c.is_empty.ensures c.if-is_empty.false c.requires in
    grind (arith, is, c.copied.ensures)
