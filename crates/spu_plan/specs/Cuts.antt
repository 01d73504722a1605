-- Regions: how the sections of code that don't stay in the root are divided, in their order, into regions that share buffers. (No
-- standard has them: they are this project's own, after the overlays of linkers.)
use Rattle.std.specs.Prelude.{◌≡◌, ℕ, suc, ◌+◌, ◌<◌, ◌≤◌, ◌||◌, nat_lt, Bool, true, false, List, [], ◌∷◌, ◌++◌, length, sum, replicate}
use Rattle.std.specs.List.{concat}

-- which sections stay in the root: those that are asked for, and those larger than a buffer
abbrev pub stays : ℕ → ℕ → Bool → Bool
stays buffer size rooted = rooted || nat_lt buffer size

abbrev pub staying : ℕ → List ℕ → List Bool → List Bool
staying buffer (size ∷ sizes) (rooted ∷ rest) = stays buffer size rooted ∷ staying buffer sizes rest
staying buffer [] _ = []
staying buffer _ [] = []

-- the sizes of those that stay, and of the others, in order
abbrev pub root_sizes : List Bool → List ℕ → List ℕ
root_sizes (true ∷ stay) (size ∷ sizes) = size ∷ root_sizes stay sizes
root_sizes (false ∷ stay) (size ∷ sizes) = root_sizes stay sizes
root_sizes [] _ = []
root_sizes _ [] = []

abbrev pub overlaid : List Bool → List ℕ → List ℕ
overlaid (true ∷ stay) (size ∷ sizes) = overlaid stay sizes
overlaid (false ∷ stay) (size ∷ sizes) = size ∷ overlaid stay sizes
overlaid [] _ = []
overlaid _ [] = []

-- a region has sections, of which a buffer takes all
pub record IsRegion (buffer : ℕ) (region : List ℕ) : Type 0 where
  pub some : 0 < length region
  pub fits : sum region ≤ buffer

-- behind sections of this many bytes a buffer doesn't take the first section of the next region too
abbrev pub IsFull : ℕ → ℕ → List (List ℕ) → Type 0
IsFull buffer total ((size ∷ _) ∷ _) = buffer < total + size
IsFull buffer total _ = Unit {0}

-- so it is with each region and the one behind it
abbrev pub AreRegions : ℕ → List (List ℕ) → Type 0
AreRegions buffer [] = Unit {0}
AreRegions buffer (region ∷ rest) = IsRegion buffer region × IsFull buffer (sum region) rest × AreRegions buffer rest

-- a division of sections of these sizes into regions
pub record IsCut (buffer : ℕ) (sizes : List ℕ) (regions : List (List ℕ)) : Type 0 where
  pub whole : concat regions ≡ sizes
  pub each : AreRegions buffer regions

-- the number of its region for each section of these regions, which have numbers from r on
abbrev pub numbers : ℕ → List (List ℕ) → List ℕ
numbers r [] = []
numbers r (region ∷ rest) = replicate (length region) r ++ numbers (suc r) rest

-- the region of each section, 0 for those that stay, if the others have these
abbrev pub spread : List Bool → List ℕ → List ℕ
spread (true ∷ stay) regions = 0 ∷ spread stay regions
spread (false ∷ stay) (r ∷ regions) = r ∷ spread stay regions
spread (false ∷ stay) [] = []
spread [] regions = []

-- a plan with buffers of this size gives sections, of which some are to stay in the root, these regions, and has this many
pub record AreCut (buffer : ℕ) (sizes : List ℕ) (rooted : List Bool) (region_of : List ℕ) (count : ℕ) : Type 0 where
  pub regions : List (List ℕ)
  pub cut : IsCut buffer (overlaid (staying buffer sizes rooted) sizes) regions
  pub many : count ≡ length regions
  pub each : region_of ≡ spread (staying buffer sizes rooted) (numbers 1 regions)
