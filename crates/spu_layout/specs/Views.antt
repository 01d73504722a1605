-- The layout that a `Layout` of the code holds, and what the code makes it of: where sections begin, and where each region ends so far.
use Rattle.std.specs.Prelude.{◌≡◌, ℕ, ◌+◌, ◌-◌, ◌*◌, ◌<◌, ◌≤◌, if◌then◌else◌, List, Option, Some, None, length, slice_get, slice_index}
use Rattle.spu_word.specs.declared.limits.TheConstants.{STORE_SIZE, WORD_SIZE}
use Rattle.spu_lift.specs.declared.program.Function.{Function}
use Rattle.spu_lift.specs.declared.program.Prog.{Prog}
use Rattle.spu_plan.specs.declared.constants.TheConstants.{LOADER_CODE_SIZE, RETURN_OFFSET, STUB_SIZE}
use Rattle.spu_plan.specs.declared.plan.Plan.{Plan}
use Rattle.spu_layout.specs.declared.layout.Layout as held
use Rattle.spu_layout.specs.declared.layout.Spot.{Spot}
use Rattle.spu_layout.specs.declared.layout.Tail.{Tail}
use Rattle.spu_layout.specs.Layouts.{Layout, span}
use Rattle.spu_layout.specs.Placing.{sizes_of, size_in, region_size, region_start, section_start, root_end, loader_start, slots_start, constants_start, table_end, buffers_start}

abbrev pub function_count : held.Layout → ℕ
function_count l = length l.functions

abbrev pub start_at : Option Spot → ℕ
start_at None = 0
start_at (Some s) = s.start

abbrev pub region_at : Option Spot → ℕ
region_at None = 0
region_at (Some s) = s.region

abbrev pub layout_in : held.Layout → Layout
layout_in l = record {
  at = λ f i. start_at (slice_get l.functions f) + WORD_SIZE * i;
  region = λ f. region_at (slice_get l.functions f);
  entry = λ f. if l.overlay then l.tail.passage.from + STUB_SIZE * (f - 1) else start_at (slice_get l.functions f);
  return_entry = l.tail.return_entry;
  passage = l.tail.passage;
  slots = l.tail.slots;
  data_area = l.areas.data_area;
  code_area = l.areas.code;
  buffers = l.areas.buffer;
  stack = l.areas.stack;
}

-- ---- what a layout is made of

-- where the first n sections of code begin
pub record AreStarts (p : Prog) (plan : Plan) (n : ℕ) (starts : List ℕ) : Type 0 where
  pub count : length starts ≡ n
  pub each : (k : ℕ) → k < n → slice_index starts k ≡ section_start p plan k

-- where those of the first n sections end that are in a region, for each region
pub record AreEnds (p : Prog) (plan : Plan) (n : ℕ) (ends : List ℕ) : Type 0 where
  pub count : length ends ≡ plan.regions + 1
  pub each : (r : ℕ) → r ≤ plan.regions → slice_index ends r ≡ region_start p plan r + size_in r (sizes_of p) plan.region_of n

-- the regions of a plan lie in the local store
pub record LieInStore (p : Prog) (plan : Plan) : Type 0 where
  pub count : length plan.region_of ≡ length p.code
  pub known : (k : ℕ) → k < length p.code → slice_index plan.region_of k ≤ plan.regions
  pub low : (r : ℕ) → r ≤ plan.regions → region_start p plan r + region_size p plan r ≤ STORE_SIZE
  -- the buffers are the end of the image; where there are regions, there is one
  pub end : plan.end ≤ STORE_SIZE
  pub behind : plan.buffer * plan.buffers ≤ plan.end
  pub some : 0 < plan.regions → 0 < plan.buffers
  pub buffers : 0 < plan.regions → buffers_start p plan + plan.buffer * plan.buffers ≡ plan.end

-- where a function begins, and in which region, whose section begins there
abbrev pub start_in : List ℕ → Function → ℕ
start_in sections g = slice_index sections g.section + g.offset

abbrev pub spot_in : List ℕ → List ℕ → Function → Spot
spot_in sections regions g = record { start = start_in sections g; region = slice_index regions g.section }

pub record LiesIn (sections regions : List ℕ) (g : Function) : Type 0 where
  pub placed : g.section < length sections
  pub known : g.section < length regions
  pub inside : start_in sections g ≤ STORE_SIZE

-- ---- what stands behind the root

abbrev pub flat_tail : ℕ → Tail
flat_tail end = record { passage = span end end; return_entry = 0; slots = span end end; end = end }

abbrev pub overlay_tail : Prog → Plan → Tail
overlay_tail p plan = record {
  passage = span (root_end p plan) (loader_start p plan + LOADER_CODE_SIZE);
  return_entry = loader_start p plan + RETURN_OFFSET;
  slots = span (slots_start p plan) (constants_start p plan);
  end = table_end p plan;
}

abbrev pub tail_of : Prog → Plan → Tail
tail_of p plan = if plan.overlay then overlay_tail p plan else flat_tail (root_end p plan)
