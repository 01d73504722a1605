use Rattle.std.proofs.Common.{ℕ, List, ◌+◌, ◌*◌, ◌/◌, length, sym, ap, ◌∙◌}
use Rattle.spu_elf.specs.Lengths.{strings_len}
use Rattle.spu_elf.specs.declared.objects.Symbol.{Symbol}
use Rattle.spu_image.specs.Filling.{segment_size}
use Rattle.spu_image.proofs.FileLengths.{flat_length}
use Rattle.spu_image.proofs.lengths.file_len.Goals as goal

pub returns : goal.returns
returns c =
    let x = c.args.x.now in
    ap (λ (n : ℕ). (128 + n + 16 * (1 + c.len.result) + (c.strings_len-names.result + 33) + 3) / 4 * 4 + 200) c.segment_len.ensures
    ∙ ap (λ (n : ℕ). (128 + segment_size x + 16 * (1 + n) + (c.strings_len-names.result + 33) + 3) / 4 * 4 + 200) c.len.ensures.value
    ∙ ap (λ (n : ℕ). (128 + segment_size x + 16 * (1 + length x.symbols) + (n + 33) + 3) / 4 * 4 + 200) (c.strings_len-names.ensures.value ∙ ap (λ (ss : List Symbol). strings_len ss) c.as_slice.ensures)
    ∙ sym (flat_length x c.requires.one)
