-- The state in which an executable starts: all registers, channels and bytes are zero, but for the load segment, the quadwords of the
-- entries, and the quadword that tells where the executable's file lies.
use Rattle.std.specs.Prelude.{ℕ, ◌/◌, ◌%◌, ◌^◌, List, [], ◌∷◌, Option, Some, None, replicate, nat_lt, if◌then◌else◌}
use Rattle.spu_word.specs.declared.limits.TheConstants.{REGISTER_COUNT, QUAD_SIZE}
use Rattle.spu_word.specs.declared.load.Area.{Area}
use Rattle.spu_word.specs.declared.load.Inputs.{Inputs}
use Rattle.spu_word.specs.Bytes.{quad_of}
use Rattle.spu_elf.specs.declared.executables.Segment.{Segment}
use Rattle.spu_elf.specs.declared.executables.Exec.{Exec}
use Rattle.spu_exec.specs.Places.{code_mask}
use Rattle.spu_exec.specs.Transfers.{Stretch}
use Rattle.spu_exec.specs.Entries.{Entry, quad_for}
use Rattle.spu_ls.specs.Stores.{Store, placed}
use Rattle.spu_ls.specs.Entries.{entries_of, image_place}
use Rattle.spu_ls.specs.Machine.{State}

-- the first segment is the load segment
abbrev pub loaded : List Segment → Store
loaded [] = λ k. 0
loaded (s ∷ ss) = placed s.address s.bytes (λ k. 0)

-- each entry's quadword, one after another, over what stands there
unfoldable pub with_entries : List Entry → List Area → Store → Store
with_entries [] areas m = m
with_entries (e ∷ es) areas m = with_entries es areas (placed e.at (quad_for areas e.name) m)

-- the quadword that tells where the executable's file lies: the two words of its effective address, and zeros
abbrev pub image_quad : ℕ → List ℕ
image_quad ea = quad_of (ea / 2 ^ 32) (ea % 2 ^ 32) 0 0

abbrev pub with_image : Option ℕ → Stretch → Store → Store
with_image None image m = m
with_image (Some at) image m = placed at (image_quad image.ea) m

-- the executable's file in effective memory
abbrev pub image_of : List ℕ → Inputs → Stretch
image_of file inputs = record { ea = inputs.image_ea; bytes = file }

abbrev pub zero_registers : ℕ → List ℕ
zero_registers = λ r. if nat_lt r REGISTER_COUNT then replicate QUAD_SIZE 0 else []

-- the start with this store, at an address
abbrev pub started : Store → ℕ → Stretch → List Area → List ℕ → State
started m entry image areas mail = record {
  store = m;
  regs = zero_registers;
  pc = code_mask entry;
  channels = λ n. 0;
  update = None;
  queue = [];
  areas = areas;
  image = image;
  mail = mail;
  output = [];
  steps = 0;
  ended = None;
}

-- the store at the start
abbrev pub start_store : Exec → Stretch → List Area → Store
start_store x image areas = with_image (image_place x.symbols) image (with_entries (entries_of x.symbols) areas (loaded x.segments))

-- the start of an executable with this file
unfoldable pub start : Exec → List ℕ → Inputs → State
start x file inputs = started (start_store x (image_of file inputs) inputs.areas) x.entry (image_of file inputs) inputs.areas inputs.mail
