-- Words that name symbols.
use Rattle.std.specs.Prelude.{ℕ, ◌==◌, ◌&&◌, Bool, List, length, nat_le, not, Option, Some, None, if◌then◌else◌}
use Rattle.std.specs.List.{list_all}
use Rattle.spu_word.specs.declared.limits.TheConstants.{MAX_NAME_SIZE}
use Rattle.spu_elf.specs.Validity.{is_printed}

-- a name of a symbol has 1 to 1,023 bytes, each from 33 to 126
abbrev pub is_symbol_name : List ℕ → Bool
is_symbol_name word = not (length word == 0) && (nat_le (length word) MAX_NAME_SIZE && list_all is_printed word)

abbrev pub symbol_name : List ℕ → Option (List ℕ)
symbol_name word = if is_symbol_name word then Some word else None
