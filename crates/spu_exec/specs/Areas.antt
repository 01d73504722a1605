-- What a transfer reads and writes in effective memory. Cell Broadband Engine Architecture, MFC commands.
use Rattle.std.specs.Prelude.{ℕ, ◌+◌, ◌-◌, if◌then◌else◌, List, [], ◌∷◌, ◌++◌, length, take, drop, slice_set, slice_index_or, Option, Some, None}
use Rattle.std.specs.List.{position}
use Rattle.spu_word.specs.declared.load.Area.{Area}
use Rattle.spu_exec.specs.Transfers.{Stretch, stretch_of, holds_range}

-- the bytes of a range, in the first stretch that holds it
abbrev pub bytes_at : List Stretch → ℕ → ℕ → List ℕ
bytes_at [] ea size = []
bytes_at (x ∷ xs) ea size = if holds_range ea size x then take size (drop (ea - x.ea) x.bytes) else bytes_at xs ea size

-- a list with others in the place of its elements from an index on
abbrev pub with_bytes : ℕ → List ℕ → List ℕ → List ℕ
with_bytes at bytes old = take at old ++ (bytes ++ drop (at + length bytes) old)

-- the first area that holds a range
abbrev pub first_holding : ℕ → ℕ → List Area → Option ℕ
first_holding ea size areas = position (λ (a : Area). holds_range ea size (stretch_of a)) areas

-- an area with bytes written to an address
abbrev pub area_with : ℕ → List ℕ → Area → Area
area_with ea bytes a = record a { bytes = with_bytes (ea - a.ea) bytes a.bytes }

abbrev pub written_in : Option ℕ → ℕ → List ℕ → List Area → List Area
written_in None ea bytes areas = areas
written_in (Some i) ea bytes areas = slice_set areas i (area_with ea bytes (slice_index_or areas i (record { name = []; ea = 0; bytes = [] })))

-- the areas with bytes written to an address
abbrev pub written : ℕ → List ℕ → List Area → List Area
written ea bytes areas = written_in (first_holding ea (length bytes) areas) ea bytes areas
