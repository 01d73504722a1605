-- Names of programs that are written out: a short text of printed characters is a name.
use Rattle.std.proofs.Common.{◌≡◌, ℕ, ◌<◌, ◌≤◌, true, List, length, arith}
use Rattle.std.specs.Prelude.{nat_le}
use Rattle.std.specs.List.{list_all}
use Rattle.std.proofs.lemmas.Bool.{and_parts}
use Rattle.std.proofs.lemmas.Bool.Decides.{nat_tests}
use Rattle.std.proofs.lemmas.List.Sums.{AllPass-from_list_all}
use Rattle.spu_word.specs.declared.limits.TheConstants.{MAX_NAME_SIZE}
use Rattle.spu_elf.specs.Validity.{IsName, is_printed}

printed : (c : ℕ) → is_printed c ≡ true → (33 ≤ c) × (c ≤ 126)
printed c is = let both = and_parts (nat_le 33 c) (nat_le c 126) is in (grind (arith, nat_tests), grind (arith, nat_tests))

pub name_written : (cs : List ℕ) → 0 < length cs → length cs ≤ MAX_NAME_SIZE → list_all is_printed cs ≡ true → IsName cs
name_written cs some short is = record {
  some = some;
  short = short;
  printed = λ k d lt. printed _ (AllPass-from_list_all is_printed cs is k d lt);
}
