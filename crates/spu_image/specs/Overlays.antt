-- The executable of a program with overlays. Its first segment has the parts of a flat image's, with the sections of the root alone, and
-- behind them what brings regions into their buffers: the stubs, the loader's words and two zero words, the mapped quadwords, the loader's
-- three quadwords, and the table of regions. Each region is a segment of its own, behind it. Then come the symbols, among them one that
-- tells where the loader finds the address of the executable's file. (The words are those of the SPU ABI; the parts are this project's own.)
use Rattle.std.specs.Prelude.{◌≡◌, ℕ, zero, suc, ◌+◌, ◌-◌, ◌*◌, ◌%◌, ◌^◌, ◌==◌, if◌then◌else◌, true, false, not, List, [], ◌∷◌, ◌++◌, length, drop, map, codes, replicate, Option, Some, slice_get, slice_index_or}
use Rattle.std.specs.List.{range_with_len, flat_map}
use Rattle.spu_word.specs.Bytes.{quad_of}
use Rattle.spu_word.specs.declared.limits.TheConstants.{DATA_START, MAX_TRANSFER_SIZE, QUAD_SIZE}
use Rattle.spu_isa.specs.declared.instruction.Inst.{Inst}
use Rattle.spu_elf.specs.Rows.{begins, front_size}
use Rattle.spu_elf.specs.declared.objects.Symbol.{Symbol}
use Rattle.spu_elf.specs.declared.objects.SymKind.TheVariants as kinds
use Rattle.spu_elf.specs.declared.objects.SymPlace.TheVariants as places
use Rattle.spu_elf.specs.declared.executables.Segment.{Segment}
use Rattle.spu_elf.specs.declared.executables.Exec.{Exec}
use Rattle.spu_lift.specs.declared.program.Function.{Function}
use Rattle.spu_lift.specs.declared.program.CodeSection.{CodeSection}
use Rattle.spu_lift.specs.declared.program.Global_.{Global_}
use Rattle.spu_lift.specs.declared.program.Prog.{Prog}
use Rattle.spu_lift.specs.StartCode.{start_instructions}
use Rattle.spu_lift.specs.WellFormed.{IsWellFormed}
use Rattle.spu_plan.specs.declared.plan.Plan.{Plan}
use Rattle.spu_layout.specs.declared.layout.Layout as held
use Rattle.spu_layout.specs.Layouts.{Layout}
use Rattle.spu_layout.specs.Placing.{buffers_start, constants_start, loader_start, overlay_layout, region_size, region_start, table_start}
use Rattle.spu_layout.specs.Planned.{IsPlanned}
use Rattle.spu_layout.specs.Views.{function_count, layout_in}
use Rattle.spu_loader.specs.declared.table.Loader.{Loader}
use Rattle.spu_loader.specs.Code.{loader_code, stub_code}
use Rattle.spu_loader.specs.Forms.{AreWordsOf}
use Rattle.spu_image.specs.Images.{AreSectionWords, AreWords, bytes_of_words, data_bytes, data_symbol, function_symbols, stack_symbols, start_quad}

-- ---- regions

-- of what there is for each section, that of the sections in region r
abbrev pub in_region : ℕ → List ℕ → List (List ℕ) → List (List ℕ)
in_region r (s ∷ ss) (words ∷ rest) = if s == r then words ∷ in_region r ss rest else in_region r ss rest
in_region r _ _ = []

-- the bytes of region r, if sections have these words; those of the root are those of region 0
abbrev pub region_bytes : Plan → List (List ℕ) → ℕ → List ℕ
region_bytes plan sections r = flat_map bytes_of_words (in_region r plan.region_of sections)

-- ---- behind the root

-- the loader, for buffers of two to this power of bytes
abbrev pub loader_of : Prog → Plan → ℕ → Loader
loader_of p plan shift = record { base = loader_start p plan; buffer = buffers_start p plan; shift = shift; buffers = plan.buffers; table = table_start p plan }

-- the instructions of the stubs of functions, from function f on
abbrev pub stub_codes : ℕ → Layout → ℕ → List Function → List Inst
stub_codes base l f [] = []
stub_codes base l f (g ∷ gs) = stub_code base (l.entry f) (l.region f) (l.at f 0) ++ stub_codes base l (suc f) gs

abbrev pub passage_code : Prog → Plan → Layout → ℕ → List Inst
passage_code p plan l shift = stub_codes (loader_start p plan) l 1 (drop 1 p.functions) ++ loader_code (loader_of p plan shift)

-- what the loader adds to an entry of the table from one transfer to the next: the address and the place in the file rise, the bytes that
-- are left fall
abbrev pub step_quad : List ℕ
step_quad = quad_of MAX_TRANSFER_SIZE (2 ^ 32 - MAX_TRANSFER_SIZE) MAX_TRANSFER_SIZE 0

-- the entry of region r: where its buffer begins, its bytes, where they stand in the file, and the number of its buffer, from 1 on
abbrev pub table_entry : Prog → Plan → (ℕ → ℕ) → ℕ → List ℕ
table_entry p plan offset r = quad_of (region_start p plan r) (region_size p plan r) (offset r) ((r - 1) % plan.buffers + 1)

-- one for the root, which is zero, those of the regions, and zeros up to as many as there are sections besides the root's
abbrev pub table : Prog → Plan → (ℕ → ℕ) → List ℕ
table p plan offset = replicate QUAD_SIZE 0 ++ (flat_map (table_entry p plan offset) (range_with_len 1 plan.regions) ++ replicate (QUAD_SIZE * (length p.code - plan.regions)) 0)

-- with these words of stubs and loader
abbrev pub tail : Prog → Plan → Layout → List ℕ → (ℕ → ℕ) → List ℕ
tail p plan l passage offset =
    bytes_of_words (passage ++ 0 ∷ 0 ∷ []) ++ (replicate (QUAD_SIZE * plan.buffers) 0 ++ (quad_of l.return_entry 0 0 0 ++ (replicate QUAD_SIZE 0 ++ (step_quad ++ table p plan offset))))

-- ---- segments

abbrev pub root_segment : Prog → Plan → Layout → ℕ → List ℕ → List (List ℕ) → List ℕ → (ℕ → ℕ) → List ℕ
root_segment p plan l limit start sections passage offset =
    data_bytes p l ++ (start_quad limit ++ (bytes_of_words (start ++ 0 ∷ []) ++ (region_bytes plan sections 0 ++ tail p plan l passage offset)))

abbrev pub region_segment : Prog → Plan → List (List ℕ) → ℕ → Segment
region_segment p plan sections r = record { address = region_start p plan r; overlay = true; bytes = region_bytes plan sections r }

-- where a file has segment r, whose segments have these sizes and stand behind so many bytes; and where that of an executable has it
abbrev pub offset_from : ℕ → List ℕ → ℕ → ℕ
offset_from at [] r = 0
offset_from at (n ∷ ns) zero = begins at
offset_from at (n ∷ ns) (suc r) = offset_from (begins at + n) ns r

abbrev pub segment_offset : Exec → ℕ → ℕ
segment_offset x r = offset_from (front_size (length x.segments)) (map (λ (s : Segment). length s.bytes) x.segments) r

-- ---- symbols

-- that of the quadword in which the loader finds the address of the file
abbrev pub image_symbol : ℕ → Symbol
image_symbol at = record { name = codes "__image_ea"; value = at; size = QUAD_SIZE; kind = kinds.Object; global = true; place = places.Inside 0 }

-- as in a flat image, with that symbol before the global functions
abbrev pub overlay_symbols : Prog → Layout → ℕ → (ℕ → Option ℕ) → List Symbol
overlay_symbols p l at told =
    function_symbols l (λ (g : Function). not g.global) 1 (drop 1 p.functions) ++ stack_symbols told 1 (drop 1 p.functions) ++ (image_symbol at ∷ [])
    ++ function_symbols l (λ (g : Function). g.global) 1 (drop 1 p.functions) ++ map (λ (g : Global_). data_symbol p g) p.globals

-- ---- the executable

-- what it is made of: a program and its layout, by a plan with overlays that is made for it
pub record IsOverlaid (p : Prog) (plan : Plan) (layout : held.Layout) : Type 0 where
  pub limit : ℕ
  pub well : IsWellFormed p
  pub planned : IsPlanned p plan limit
  pub overlay : plan.overlay ≡ true
  pub is : layout_in layout ≡ overlay_layout p plan limit
  pub functions : function_count layout ≡ length p.functions

pub record IsOverlayExec (p : Prog) (plan : Plan) (l : Layout) (limit : ℕ) (told : ℕ → Option ℕ) (x : Exec) : Type 0 where
  pub entry : x.entry ≡ l.at 0 0
  pub start : List ℕ
  pub starts : AreWords l 0 0 (start_instructions p.data_end p.entry) start
  pub sections : List (List ℕ)
  pub count : length sections ≡ length p.code
  pub each : (k : ℕ) (c : CodeSection) → slice_get p.code k ≡ Some c → AreSectionWords p l k c.size (slice_index_or sections k [])
  pub shift : ℕ
  pub size : plan.buffer ≡ 2 ^ shift
  pub passage : List ℕ
  pub passes : AreWordsOf (passage_code p plan l shift) passage
  pub segments : x.segments ≡ record { address = DATA_START; overlay = false; bytes = root_segment p plan l limit start sections passage (segment_offset x) }
      ∷ map (region_segment p plan sections) (range_with_len 1 plan.regions)
  pub symbols : x.symbols ≡ overlay_symbols p l (constants_start p plan + QUAD_SIZE) told
