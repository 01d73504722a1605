-- Instructions as they are written, by what their formats have: two source registers; three; a source register and an immediate; an
-- immediate alone; a channel. A field that a format lacks is 0. SPU ISA 1.2, section 2.3.
use Rattle.std.specs.Prelude.{◌≡◌, ℕ, ◌+◌, ◌*◌, ◌<◌, ℤ, pos, List, length, map, slice_get, Some}
use Rattle.spu_word.specs.declared.limits.TheConstants.{WORD_SIZE}
use Rattle.spu_isa.specs.declared.operation.Op.{Op}
use Rattle.spu_isa.specs.declared.instruction.Inst.{Inst}
use Rattle.spu_isa.specs.Decoding.{decoded}
use Rattle.spu_ls.specs.Stores.{Store, fetch}

abbrev pub rr : Op → ℕ → ℕ → ℕ → Inst
rr o t a b = record { op = o; rt = t; ra = a; rb = b; rc = 0; imm = pos 0 }

abbrev pub rrr : Op → ℕ → ℕ → ℕ → ℕ → Inst
rrr o t a b c = record { op = o; rt = t; ra = a; rb = b; rc = c; imm = pos 0 }

abbrev pub ri : Op → ℕ → ℕ → ℤ → Inst
ri o t a i = record { op = o; rt = t; ra = a; rb = 0; rc = 0; imm = i }

abbrev pub wide : Op → ℕ → ℤ → Inst
wide o t i = record { op = o; rt = t; ra = 0; rb = 0; rc = 0; imm = i }

abbrev pub channel : Op → ℕ → ℕ → Inst
channel o n t = record { op = o; rt = t; ra = n; rb = 0; rc = 0; imm = pos 0 }

-- these words are these instructions
abbrev pub AreWordsOf : List Inst → List ℕ → Type 0
AreWordsOf code words = map decoded words ≡ map Some code

-- they stand one after another in a store
abbrev pub HasCode : List Inst → ℕ → Store → Type 0
HasCode code at m = (n : ℕ) → n < length code → decoded (fetch m (at + WORD_SIZE * n)) ≡ slice_get code n
