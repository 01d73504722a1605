-- Symbolic bytes that agree with the machine's, where each label has the bytes of its code. (No standard has it: it is this project's own
-- relation between its two machines.)
use Rattle.std.specs.Prelude.{◌≡◌, ℕ, ◌<◌, List, Option, Some, None, slice_index}
use Rattle.spu_word.specs.declared.limits.TheConstants.{QUAD_SIZE}
use Rattle.spu_lift.specs.declared.program.Label.{Label}
use Rattle.spu_lift.specs.declared.symbolic.SymByte.{SymByte}
use Rattle.spu_lift.specs.declared.symbolic.SymByte.TheVariants.{Num, Part, Unknown}
use Rattle.spu_ideal.specs.Bytes.{sym_at}
use Rattle.spu_ideal.specs.declared.state.Update.{Update}
use Rattle.spu_ideal.specs.declared.state.Update.TheVariants.{NoUpdate, Pending, UnknownUpdate}

-- a number agrees with itself, a part of a label with that byte of its code, and Unknown with every byte
abbrev pub Agrees : (Label → List ℕ) → SymByte → ℕ → Type 0
Agrees c (Num n) v = v ≡ n
Agrees c (Part l k) v = v ≡ slice_index (c l) k
Agrees c Unknown v = Unit {0}

abbrev pub AgreesQuad : (Label → List ℕ) → List SymByte → List ℕ → Type 0
AgreesQuad c bytes quad = (k : ℕ) → k < QUAD_SIZE → Agrees c (sym_at bytes k) (slice_index quad k)

-- so does what isn't known of a word, and of a tag update
abbrev pub AgreesWord : Option ℕ → ℕ → Type 0
AgreesWord None w = Unit {0}
AgreesWord (Some v) w = w ≡ v

abbrev pub AgreesUpdate : Update → Option ℕ → Type 0
AgreesUpdate NoUpdate u = u ≡ None
AgreesUpdate (Pending w) u = u ≡ Some w
AgreesUpdate UnknownUpdate u = Unit {0}
