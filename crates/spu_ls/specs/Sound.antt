-- What every state of a machine keeps that is loaded over bytes: bytes are below 256, words below 2 ^ 32, registers are whole, the queue
-- has room for its transfers, each of them can be carried out, the areas are those that a load takes, and pc is the address of a word of
-- the local store.
use Rattle.std.specs.Prelude.{◌≡◌, ℕ, true, ◌+◌, ◌%◌, ◌^◌, ◌<◌, ◌≤◌, List, [], length, Option, None, IfSome}
use Rattle.std.specs.List.{All}
use Rattle.spu_word.specs.declared.limits.TheConstants.{OUTBOX_SIZE, QUAD_SIZE, QUEUE_SIZE, REGISTER_COUNT, STORE_SIZE, WORD_SIZE}
use Rattle.spu_word.specs.declared.load.Area.{Area}
use Rattle.spu_word.specs.declared.load.Inputs.{Inputs}
use Rattle.spu_elf.specs.declared.executables.Segment.{Segment}
use Rattle.spu_elf.specs.declared.executables.Exec.{Exec}
use Rattle.spu_exec.specs.Channels.{is_update}
use Rattle.spu_exec.specs.Transfers.{Stretch, is_taken}
use Rattle.spu_exec.specs.Values.{HasBytes}
use Rattle.spu_exec.specs.declared.transfers.Transfer.{Transfer}
use Rattle.spu_ls.specs.Landing.{Memory}
use Rattle.spu_exec.specs.Admission.{first_overlap, first_unfit}
use Rattle.spu_ls.specs.Machine.{State}

abbrev pub AreBytes : List ℕ → Type 0
AreBytes xs = All (λ v. v < 256) xs

abbrev pub AreWords : List ℕ → Type 0
AreWords xs = All (λ w. w < 2 ^ 32) xs

-- the store, and the areas beside the executable's file
pub record IsSoundMemory (file : Stretch) (memory : Memory) : Type 0 where
  pub store : (k : ℕ) → memory.store k < 256
  pub image : AreBytes file.bytes
  pub areas : All (λ (a : Area). AreBytes a.bytes) memory.areas
  pub apart : first_overlap file [] memory.areas ≡ None
  pub fit : first_unfit memory.areas ≡ None

pub record AreRegisters (regs : ℕ → List ℕ) : Type 0 where
  pub bytes : (k : ℕ) → HasBytes (regs k)
  pub whole : (k : ℕ) → k < REGISTER_COUNT → length (regs k) ≡ QUAD_SIZE

-- what channels hold, and how many transfers and which words wait on them
pub record AreChannels (held : ℕ → ℕ) (pending : Option ℕ) (queue : List Transfer) (left sent : List ℕ) : Type 0 where
  pub words : (n : ℕ) → held n < 2 ^ 32
  pub update : IfSome pending (λ u. is_update u ≡ true)
  pub few : length queue ≤ QUEUE_SIZE
  pub mail : AreWords left
  pub output : AreWords sent
  pub room : length sent ≤ OUTBOX_SIZE

-- each of these transfers can be carried out
abbrev pub AreTaken : Stretch → List Area → List Transfer → Type 0
AreTaken image areas queue = All (λ (t : Transfer). is_taken image areas t ≡ true) queue

-- an address of a word
pub record IsPlace (pc : ℕ) : Type 0 where
  pub aligned : pc % WORD_SIZE ≡ 0
  pub inside : pc + WORD_SIZE ≤ STORE_SIZE

pub record IsSound (s : State) : Type 0 where
  pub memory : IsSoundMemory s.image (record { store = s.store; areas = s.areas })
  pub registers : AreRegisters s.regs
  pub channels : AreChannels s.channels s.update s.queue s.mail s.output
  pub waiting : AreTaken s.image s.areas s.queue
  pub place : IsPlace s.pc

-- an executable, its file and inputs over bytes and words
pub record IsOverBytes (x : Exec) (spelled : List ℕ) (i : Inputs) : Type 0 where
  pub segments : All (λ (s : Segment). AreBytes s.bytes) x.segments
  pub file : AreBytes spelled
  pub areas : All (λ (a : Area). AreBytes a.bytes) i.areas
  pub mail : AreWords i.mail
