-- What the sizes that an object is read with are below, so that no sum of them wraps.
use Rattle.std.specs.Prelude.{◌+◌, ◌*◌, ◌^◌, ◌<◌, ◌≤◌, ◌≡◌}
use Rattle.spu_word.specs.declared.limits.TheConstants.{MAX_FILE_SIZE, MAX_SYMBOLS}
use Rattle.spu_elf.specs.declared.constants.TheConstants.{SYM_SIZE}
use Rattle.spu_cesof.specs.declared.constants.TheConstants.{FIRST_ENTRY}
use Rattle.spu_cesof.specs.declared.places.Places.{Places}

pub record IsFar (p : Places) : Type 0 where
  pub headers : p.headers < 2 ^ 32
  pub image_size : p.image_size < 2 ^ 32
  pub entries : p.entries < 2 ^ 32
  pub strings_size : p.strings_size < 2 ^ 32
  pub end : p.end < 2 ^ 40
  pub names : p.names ≤ p.end
  pub strings : p.strings + p.strings_size ≡ p.names
  pub symbols : p.symbols + SYM_SIZE * (1 + FIRST_ENTRY + p.entries) ≡ p.strings
  pub handle_relocs : p.handle_relocs ≤ p.symbols
  pub toe_relocs : p.toe_relocs ≤ p.handle_relocs
  pub handle : p.handle ≤ p.toe_relocs
  pub toe : p.toe ≤ p.handle

-- the parts lie in a file of at most 4,194,304 bytes
pub record IsInside (p : Places) : Type 0 where
  pub end : p.end ≤ MAX_FILE_SIZE
  pub headers : p.headers ≤ MAX_FILE_SIZE
  pub few : p.entries ≤ MAX_SYMBOLS
