-- What the code that makes an overlay image has so far: the bytes of regions, and the words of stubs. No clause of a public call cites these.
use Rattle.std.specs.Prelude.{◌≡◌, ℕ, zero, suc, ◌+◌, ◌*◌, ◌%◌, ◌<◌, ◌≤◌, ◌^◌, true, List, [], ◌∷◌, ◌++◌, length, map, replicate, take, slice_index_or}
use Rattle.std.specs.List.{flat_map}
use Rattle.spu_word.specs.Bytes.{quad_of}
use Rattle.spu_word.specs.declared.limits.TheConstants.{MAX_BUFFER_SIZE, QUAD_SIZE, STORE_SIZE}
use Rattle.spu_isa.specs.declared.instruction.Inst.{Inst}
use Rattle.spu_elf.specs.Rows.{begins, front_size}
use Rattle.spu_elf.specs.declared.executables.Segment.{Segment}
use Rattle.spu_lift.specs.declared.program.Prog.{Prog}
use Rattle.spu_lift.specs.StartCode.{start_instructions}
use Rattle.spu_lift.specs.WellFormed.{IsCallee}
use Rattle.spu_plan.specs.declared.constants.TheConstants.{STUB_SIZE}
use Rattle.spu_plan.specs.declared.plan.Plan.{Plan}
use Rattle.spu_layout.specs.Layouts.{Layout}
use Rattle.spu_layout.specs.Placing.{region_size}
use Rattle.spu_loader.specs.Forms.{AreWordsOf}
use Rattle.spu_image.specs.Images.{AreWords, bytes_of_words, data_bytes, start_quad}
use Rattle.spu_image.specs.Overlays.{in_region, offset_from, passage_code, step_quad, tail}

-- ---- regions

-- the bytes of each region, of the first k sections, which have these words
pub record AreRegionBytes (plan : Plan) (sections : List (List ℕ)) (k : ℕ) (all : List (List ℕ)) : Type 0 where
  pub count : length all ≡ plan.regions + 1
  pub each : (r : ℕ) → r ≤ plan.regions → slice_index_or all r [] ≡ flat_map bytes_of_words (in_region r (take k plan.region_of) (take k sections))

-- ---- stubs

-- words were added that are these instructions
pub record Adds (code : List Inst) (old new : List ℕ) : Type 0 where
  pub words : List ℕ
  pub are : AreWordsOf code words
  pub is : new ≡ old ++ bytes_of_words words

-- the stubs stand before the loader, and what they name fits their fields
pub record HasStubs (p : Prog) (l : Layout) (loader : ℕ) : Type 0 where
  pub before : (f : ℕ) → IsCallee p f → l.entry f + STUB_SIZE ≤ loader
  pub inside : loader < STORE_SIZE
  pub regions : (f : ℕ) → IsCallee p f → l.region f < 2 ^ 18
  pub places : (f : ℕ) → IsCallee p f → l.at f 0 < STORE_SIZE

-- ---- what the loader reads

-- the mapped quadwords, and the loader's three
abbrev pub constants : ℕ → ℕ → List ℕ
constants buffers return_entry = replicate (QUAD_SIZE * buffers) 0 ++ (quad_of return_entry 0 0 0 ++ (replicate QUAD_SIZE 0 ++ step_quad))

-- the sizes of the segments: the first one's, and those of regions
abbrev pub sizes_with : ℕ → List (List ℕ) → List ℕ
sizes_with first regions = first ∷ map (λ (bytes : List ℕ). length bytes) regions

-- where the file has the segment of region r, if the load segment has so many bytes and the regions have these
abbrev pub offset_of : ℕ → List (List ℕ) → ℕ → ℕ
offset_of load regions r = offset_from (front_size (length regions + 1)) (sizes_with load regions) r

-- where the first n segments end that stand behind so many bytes
abbrev pub end_after : ℕ → List ℕ → ℕ → ℕ
end_after at [] n = at
end_after at (s ∷ ss) zero = at
end_after at (s ∷ ss) (suc n) = end_after (begins at + s) ss n

-- these are the bytes of the regions of a plan, from the first one on
pub record AreRegions (p : Prog) (plan : Plan) (regions : List (List ℕ)) : Type 0 where
  pub count : length regions ≡ plan.regions
  pub sizes : (r : ℕ) → r < plan.regions → length (slice_index_or regions r []) ≡ region_size p plan (suc r)
  pub small : (r : ℕ) → r < plan.regions → length (slice_index_or regions r []) ≤ MAX_BUFFER_SIZE
  pub within : plan.regions ≤ length p.code
  pub few : length p.code < 2 ^ 14

-- ---- segments

-- what stands behind the root was added, if the file has the segments of regions there
pub record AddsTail (p : Prog) (plan : Plan) (l : Layout) (offset : ℕ → ℕ) (old new : List ℕ) : Type 0 where
  pub shift : ℕ
  pub size : plan.buffer ≡ 2 ^ shift
  pub passage : List ℕ
  pub passes : AreWordsOf (passage_code p plan l shift) passage
  pub is : new ≡ old ++ tail p plan l passage offset

-- the bytes of the load segment, if the root has these and the file has the segments of regions there
pub record IsRootSegment (p : Prog) (plan : Plan) (l : Layout) (limit : ℕ) (root : List ℕ) (offset : ℕ → ℕ) (bytes : List ℕ) : Type 0 where
  pub start : List ℕ
  pub starts : AreWords l 0 0 (start_instructions p.data_end p.entry) start
  pub shift : ℕ
  pub size : plan.buffer ≡ 2 ^ shift
  pub passage : List ℕ
  pub passes : AreWordsOf (passage_code p plan l shift) passage
  pub is : bytes ≡ data_bytes p l ++ (start_quad limit ++ (bytes_of_words (start ++ 0 ∷ []) ++ (root ++ tail p plan l passage offset)))

-- the segments of regions from the one behind r on, which have these bytes, in buffers from an address on
abbrev pub region_segments : ℕ → Plan → ℕ → List (List ℕ) → List Segment
region_segments at plan r [] = []
region_segments at plan r (bytes ∷ rest) = record { address = at + plan.buffer * (r % plan.buffers); overlay = true; bytes = bytes } ∷ region_segments at plan (suc r) rest
