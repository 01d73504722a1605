-- An overlay image as the loader finds it: the numbers of its layout, what the local store and the image's file hold, and the states in
-- which the loader can run. Regions have numbers from 1 on; 0 is the root, which is never loaded.
-- (No standard has it: the form of these images is this project's own.)
use Rattle.std.specs.Prelude.{◌≡◌, ℕ, ◌+◌, ◌-◌, ◌*◌, ◌/◌, ◌%◌, ◌^◌, ◌<◌, ◌≤◌, ◌⊎◌, false, List, length, slice_index, None}
use Rattle.spu_word.specs.declared.limits.TheConstants.{MAX_TRANSFER_SIZE, QUAD_SIZE, QUEUE_SIZE, STORE_SIZE, WORD_SIZE}
use Rattle.spu_word.specs.Bytes.{word_of, quad_of}
use Rattle.spu_exec.specs.declared.channels.TheConstants.{MFC_WR_TAG_MASK}
use Rattle.spu_exec.specs.Transfers.{Stretch}
use Rattle.spu_exec.specs.Tags.{waits}
use Rattle.spu_ls.specs.Stores.{Store, load}
use Rattle.spu_ls.specs.Machine.{State}
use Rattle.spu_plan.specs.declared.constants.TheConstants.{RETURN_OFFSET, STUB_SIZE}
use Rattle.spu_word.specs.declared.conventions.TheConstants.{LINK_REGISTER, LOADER_TAG, LOAD_TRANSFERS}
use Rattle.spu_loader.specs.declared.table.Loader.{Loader}
use Rattle.spu_loader.specs.Forms.{HasCode}
use Rattle.spu_loader.specs.Code.{IsLoader, mapped_at, return_quad, image_quad, step_quad, loader_code, stub_code}

pub record Overlay : Type 0 where
  pub loader : Loader
  -- how many regions there are; how many bytes each has, and where they begin in the file
  pub regions : ℕ
  pub size : ℕ → ℕ
  pub offset : ℕ → ℕ

abbrev pub IsRegion : Overlay → ℕ → Type 0
IsRegion o r = (1 ≤ r) × (r ≤ o.regions)

-- a region's buffer; where that begins; the mapped quadword of the buffer; the region's entry of the table
abbrev pub buffer_of : Overlay → ℕ → ℕ
buffer_of o r = (r - 1) % o.loader.buffers

abbrev pub place_of : Overlay → ℕ → ℕ
place_of o r = o.loader.buffer + 2 ^ o.loader.shift * buffer_of o r

abbrev pub slot_of : Overlay → ℕ → ℕ
slot_of o r = mapped_at o.loader (buffer_of o r)

abbrev pub entry_of : Overlay → ℕ → ℕ
entry_of o r = o.loader.table + QUAD_SIZE * r

-- where a return into a region comes to
abbrev pub return_entry_of : Overlay → ℕ
return_entry_of o = o.loader.base + RETURN_OFFSET

-- a region has some quadwords, in its buffer and in the file, at an offset that a word can say
pub record IsFitted (o : Overlay) (r : ℕ) : Type 0 where
  pub some : 0 < o.size r
  pub small : o.size r ≤ 2 ^ o.loader.shift
  pub quads : o.size r % QUAD_SIZE ≡ 0
  pub offset : o.offset r % QUAD_SIZE ≡ 0
  pub word : o.offset r + o.size r ≤ 2 ^ 32

-- the loader, its quadwords, the table and the buffers stand one behind another in the local store
pub record IsLaid (o : Overlay) : Type 0 where
  pub loader : IsLoader o.loader
  pub base : o.loader.base % QUAD_SIZE ≡ 0
  pub table : o.loader.table % QUAD_SIZE ≡ 0
  pub buffer : o.loader.buffer % QUAD_SIZE ≡ 0
  pub before : step_quad o.loader + QUAD_SIZE ≤ o.loader.table
  pub below : o.loader.table + QUAD_SIZE * (o.regions + 1) ≤ o.loader.buffer
  pub fits : o.loader.buffer + 2 ^ o.loader.shift * o.loader.buffers ≤ STORE_SIZE
  pub each : (r : ℕ) → IsRegion o r → IsFitted o r

-- ---- what the local store and the file hold

-- the loader's instructions, its quadwords but the mapped ones, and the table
pub record Holds (o : Overlay) (m : Store) (image : Stretch) : Type 0 where
  pub code : HasCode (loader_code o.loader) o.loader.base m
  pub returns : load m (return_quad o.loader) ≡ quad_of (return_entry_of o) 0 0 0
  pub image_is : load m (image_quad o.loader) ≡ quad_of (image.ea / 2 ^ 32) (image.ea % 2 ^ 32) 0 0
  pub step_is : load m (step_quad o.loader) ≡ quad_of MAX_TRANSFER_SIZE (2 ^ 32 - MAX_TRANSFER_SIZE) MAX_TRANSFER_SIZE 0
  pub table : (r : ℕ) → IsRegion o r → load m (entry_of o r) ≡ quad_of (place_of o r) (o.size r) (o.offset r) (buffer_of o r + 1)

-- the file begins at a quadword, doesn't pass 2 ^ 64, and has all regions
pub record HoldsFile (o : Overlay) (image : Stretch) : Type 0 where
  pub aligned : image.ea % QUAD_SIZE ≡ 0
  pub fits : image.ea + length image.bytes ≤ 2 ^ 64
  pub regions : (r : ℕ) → IsRegion o r → o.offset r + o.size r ≤ length image.bytes

-- region r is mapped: the quadword of its buffer says so, and the buffer begins with its bytes
pub record IsMapped (o : Overlay) (r : ℕ) (m : Store) (image : Stretch) : Type 0 where
  pub quad : load m (slot_of o r) ≡ quad_of r 0 0 0
  pub bytes : (k : ℕ) → k < o.size r → m (place_of o r + k) ≡ slice_index image.bytes (o.offset r + k)

-- in a buffer nothing is mapped, or one of its regions
abbrev pub HasBuffer : Overlay → ℕ → Store → Stretch → Type 0
HasBuffer o k m image =
    (load m (mapped_at o.loader k) ≡ quad_of 0 0 0 0)
    ⊎ ((r : ℕ) × IsRegion o r × (buffer_of o r ≡ k) × IsMapped o r m image)

-- ---- the states in which the loader can run

-- there is room in the queue for its transfers, and none with its tag waits; the tag mask is a word
pub record IsReady (o : Overlay) (s : State) : Type 0 where
  pub running : s.ended ≡ None
  pub holds : Holds o s.store s.image
  pub file : HoldsFile o s.image
  pub buffers : (k : ℕ) → k < o.loader.buffers → HasBuffer o k s.store s.image
  pub few : length s.queue + LOAD_TRANSFERS ≤ QUEUE_SIZE
  pub untagged : waits s.queue LOADER_TAG ≡ false
  pub mask : s.channels MFC_WR_TAG_MASK < 2 ^ 32

-- the stub at p of a function at a in region r
pub record IsStub (o : Overlay) (p r a : ℕ) (m : Store) : Type 0 where
  pub aligned : p % WORD_SIZE ≡ 0
  pub before : p + STUB_SIZE ≤ o.loader.base
  pub region : r ≤ o.regions
  pub target : (a % WORD_SIZE ≡ 0) × (a < STORE_SIZE)
  pub code : HasCode (stub_code o.loader.base p r a) p m

-- the link of a place at a in region r
abbrev pub link_into : Overlay → ℕ → ℕ → List ℕ
link_into o r a = quad_of (return_entry_of o) r a 0

-- What becomes of the link that a call leaves. The address of a place in a mapped region, behind its first word, becomes the link of
-- that place; any other link, whose word 0 lies below the buffers, stays.
pub data IsLink (o : Overlay) (s : State) : List ℕ → Type 0 where
  Direct : (r a : ℕ) → IsRegion o r → IsMapped o r s.store s.image → place_of o r + WORD_SIZE ≤ a → a ≤ place_of o r + o.size r → s.regs LINK_REGISTER ≡ quad_of a 0 0 0 → IsLink o s (link_into o r a)
  Kept : word_of (s.regs LINK_REGISTER) 0 < o.loader.buffer → IsLink o s (s.regs LINK_REGISTER)
