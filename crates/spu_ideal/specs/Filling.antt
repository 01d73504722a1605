-- How a load fills the store, some bytes after others. No clause of a public call cites this.
use Rattle.std.specs.Prelude.{ℕ, ◌+◌, ◌-◌, ◌&&◌, nat_le, nat_lt, if◌then◌else◌, List, slice_index}
use Rattle.spu_lift.specs.declared.program.WordLabel.{WordLabel}
use Rattle.spu_lift.specs.declared.program.Part as section
use Rattle.spu_lift.specs.declared.symbolic.SymByte.{SymByte}
use Rattle.spu_lift.specs.declared.symbolic.SymByte.TheVariants.{Num}
use Rattle.spu_ideal.specs.Machine.{labelled}

-- n bytes from an address on, over others
abbrev pub filled : ℕ → ℕ → (ℕ → SymByte) → (ℕ → SymByte) → ℕ → SymByte
filled at n f m = λ k. if nat_le at k && nat_lt k (at + n) then f (k - at) else m k

-- the bytes of a section of data, and some of its labels
abbrev pub section_bytes : section.Part → List WordLabel → ℕ → SymByte
section_bytes part labels = λ j. labelled labels j (Num (slice_index part.bytes j))
