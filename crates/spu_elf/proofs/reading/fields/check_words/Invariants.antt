use Rattle.std.proofs.Common.{◌≡◌, ◌+◌, ◌*◌, ◌≤◌, ◌<◌, drop, length}
use Rattle.spu_elf.specs.Checks.{words_check}
use Rattle.spu_elf.proofs.reading.fields.check_words.Given as goal

abbrev pub invariant-loop-i : goal.invariant-loop-i
invariant-loop-i l = record {
  checks : words_check l.bytes l.kind (l.at + 4 * l.i) (drop l.i l.words) ≡ words_check l.bytes l.kind l.at l.words;
  inside : 0 < l.i → l.at + 4 * l.i ≤ length l.bytes;
}
