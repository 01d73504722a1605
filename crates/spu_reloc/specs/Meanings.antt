-- What an instruction does whose field was written by a relocation (SPU ABI, "Relocation types"): it goes to the value, or loads
-- or stores there; or it takes the part of the value that its field holds.
use Rattle.std.specs.Prelude.{◌≡◌, ℕ, ◌*◌, ◌/◌, ◌%◌, ◌^◌, List, bit_or}
use Rattle.spu_isa.specs.declared.operation.Kind.{Kind}
use Rattle.spu_isa.specs.declared.operation.Kind.TheVariants as kind
use Rattle.spu_isa.specs.declared.instruction.Inst.{Inst}
use Rattle.spu_isa.specs.Table.{row_of}
use Rattle.spu_exec.specs.Lanes.{lane_of, lanes}
use Rattle.spu_exec.specs.Values.{value}
use Rattle.spu_exec.specs.Places.{code_mask, quad_mask, place}
use Rattle.spu_reloc.specs.declared.field.RelocKind.{RelocKind}
use Rattle.spu_reloc.specs.declared.field.RelocKind.TheVariants.{Addr16, Addr16Hi, Addr16Lo, Addr18, Addr32, Rel16}

-- the quadword of an address for a load or store, its word for a branch or call
abbrev pub reached : Kind → ℕ → ℕ
reached kind.Load v = quad_mask v
reached kind.Store v = quad_mask v
reached _ v = code_mask v

-- the instruction at the address `at` reaches v
abbrev pub Reaches : ℕ → ℕ → Inst → Type 0
Reaches v at x = (a b : List ℕ) → place x at a b ≡ reached (row_of x.op).kind v

-- what a kind makes of its instruction
abbrev pub Means : RelocKind → ℕ → ℕ → Inst → Type 0
Means Addr16 v at x = Reaches v at x
Means Rel16 v at x = Reaches v at x
-- `ila` gives the value's lowest 18 bits in each word
Means Addr18 v at x = (a b c t : List ℕ) → value x a b c t ≡ lanes 4 (λ j. v % 2 ^ 18)
-- `ilhu` gives its high halfword, with zeros below
Means Addr16Hi v at x = (a b c t : List ℕ) → value x a b c t ≡ lanes 4 (λ j. v / 2 ^ 16 % 2 ^ 16 * 2 ^ 16)
-- `iohl` puts its low halfword to the old words
Means Addr16Lo v at x = (a b c t : List ℕ) → value x a b c t ≡ lanes 4 (λ j. bit_or (lane_of 4 t j) (v % 2 ^ 16))
Means Addr32 v at x = Unit {0}
