-- How long the file of an executable of one segment is.
use Rattle.std.proofs.Common.{◌≡◌, ℕ, ◌+◌, ◌*◌, ◌/◌, ◌%◌, List, [], ◌∷◌, length, sym, ap, ◌∙◌, arith}
use Rattle.spu_elf.specs.declared.executables.Segment.{Segment}
use Rattle.spu_elf.specs.declared.executables.Exec.{Exec}
use Rattle.spu_elf.specs.Rows.{front_size, padding}
use Rattle.spu_elf.specs.Lengths.{blank_extent, grown, segments_grown, strings_len, tables_grown, whole_len}
use Rattle.spu_elf.specs.Spelling.{spell_exec}
use Rattle.spu_elf.proofs.DraftLemmas.{no_padding_1, no_padding_4}
use Rattle.spu_elf.proofs.ExtentLemmas.{spell_exec_length}
use Rattle.spu_image.specs.Filling.{HasOneSegment, first_size, segment_size}

-- behind a segment of n bytes
at_one : (n symbols strings : ℕ) → n % 16 ≡ 0 → whole_len (tables_grown (grown (blank_extent 84) 128 5 n) symbols strings) ≡ (128 + n + 16 * (1 + symbols) + (strings + 33) + 3) / 4 * 4 + 40 * 5
at_one n symbols strings quads =
    let a : 84 + padding 128 84 + n ≡ 128 + n = omega arith in
    let b : padding 4 (84 + padding 128 84 + n) ≡ 0 = no_padding_4 (84 + padding 128 84 + n) (omega (arith, a, quads)) in
    let f : ℕ = 84 + padding 128 84 + n + padding 4 (84 + padding 128 84 + n) + (16 + 16 * symbols) in
    let c : padding 1 f ≡ 0 = no_padding_1 f in
    let d : padding 1 (f + padding 1 f + strings) ≡ 0 = no_padding_1 (f + padding 1 f + strings) in
    let g : f + padding 1 f + strings + padding 1 (f + padding 1 f + strings) + 33 ≡ 128 + n + 16 * (1 + symbols) + (strings + 33) = omega (arith, a, b, c, d) in
    ap (λ m. m + padding 4 m + 200) g ∙ rounds (128 + n + 16 * (1 + symbols) + (strings + 33))
  where
    rounds : (m : ℕ) → m + padding 4 m + 200 ≡ (m + 3) / 4 * 4 + 40 * 5
    rounds m = omega arith

pub flat_length : (x : Exec) → HasOneSegment x → length (spell_exec x) ≡ (128 + segment_size x + 16 * (1 + length x.symbols) + (strings_len x.symbols + 33) + 3) / 4 * 4 + 40 * 5
flat_length x one =
    let n : first_size (one.segment ∷ []) ≡ segment_size x = ap first_size (sym one.only) in
    spell_exec_length x
    ∙ ap (λ (ss : List Segment). whole_len (tables_grown (segments_grown (blank_extent (front_size (length ss))) 0 ss) (length x.symbols) (strings_len x.symbols))) one.only
    ∙ at_one (length one.segment.bytes) (length x.symbols) (strings_len x.symbols) one.quads
    ∙ ap (λ m. (128 + m + 16 * (1 + length x.symbols) + (strings_len x.symbols + 33) + 3) / 4 * 4 + 40 * 5) n
