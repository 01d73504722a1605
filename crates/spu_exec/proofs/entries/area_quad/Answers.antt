use Rattle.std.proofs.Common.{ℕ, ◌/◌, ◌%◌, ◌^◌, length, ap, ◌∙◌}
use Rattle.spu_word.specs.Bytes.{quad_of}
use Rattle.spu_exec.proofs.LowWords.{low_word}
use Rattle.spu_exec.proofs.entries.area_quad.Goals as goal

pub returns : goal.returns
returns c =
    c.address_quad.ensures
    ∙ ap (λ (n : ℕ). quad_of (c.args.a.now.ea / 2 ^ 32) (c.args.a.now.ea % 2 ^ 32) (n % 2 ^ 32) 0) c.len.ensures.value
    ∙ low_word (c.args.a.now.ea / 2 ^ 32) (c.args.a.now.ea % 2 ^ 32) (length c.args.a.now.bytes)
