-- The main promise of a link: for all inputs with which the executable starts, and as long as the symbolic run stays inside, the
-- machine's run of the executable matches it hop by hop, at the word of the function and place meant, with the stack pointer within the
-- need; the code stays as it was; and data, code, buffers and stack lie apart.
use Rattle.std.specs.Prelude.{◌≡◌, ℕ, zero, suc, ◌-◌, ◌≤◌, Bool, List, None}
use Rattle.spu_word.specs.Bytes.{word_of}
use Rattle.spu_word.specs.declared.limits.TheConstants.{DATA_START, STACK_TOP, STORE_SIZE}
use Rattle.spu_word.specs.declared.load.Inputs.{Inputs}
use Rattle.spu_elf.specs.declared.executables.Exec.{Exec}
use Rattle.spu_lift.specs.declared.program.Prog.{Prog}
use Rattle.spu_lift.specs.Places.{stack_pointer}
use Rattle.spu_ls.specs.declared.ending.TheConstants.{MAX_HOP_STEPS}
use Rattle.spu_ls.specs.Machine.{State, step}
use Rattle.spu_ls.specs.Hops.{hop, Along}
use Rattle.spu_ls.specs.Sound.{IsOverBytes}
use Rattle.spu_ls.specs.Start.{start}
use Rattle.spu_ls.specs.Loading.{IsAdmitted, load_fault}
use Rattle.spu_ideal.specs.Machine.{run, IsInside}
use Rattle.spu_layout.specs.Layouts.{Layout, areas, AreDisjoint, IsFixed, is_between}
use Rattle.spu_image.specs.Matching.{Matches, Meant}

-- the machine after n hops from the state after its first step, which is the start code's load of the stack pointer
unfoldable pub hops : (ℕ → Bool) → State → ℕ → State
hops between first zero = first
hops between first (suc n) = hop between (hops between first n)

-- what holds after the last of n hops and after each of its steps
unfoldable pub InHop : (State → Type 0) → (ℕ → Bool) → State → ℕ → Type 0
InHop P between first zero = P first
InHop P between first (suc n) = Along P between MAX_HOP_STEPS (step (hops between first n))

-- the stack pointer is within the need
abbrev pub IsAbove : ℕ → State → Type 0
IsAbove need m = STACK_TOP - need ≤ word_of (m.regs stack_pointer) 0

-- the code and what the loader reads hold what they held
abbrev pub KeepsCode : Layout → State → State → Type 0
KeepsCode l begin m = (a : ℕ) → IsFixed l a → m.store a ≡ begin.store a

-- what holds after the first step and n hops of a machine that starts in this state
pub record Hop (p : Prog) (l : Layout) (frames : ℕ → ℕ) (limit need : ℕ) (inputs : Inputs) (begin : State) (n : ℕ) : Type 0 where
  pub matched : Matches l (run p frames limit inputs n) (hops (is_between l) (step begin) n)
  pub meant : Meant p l (run p frames limit inputs n) (hops (is_between l) (step begin) n)
  pub pointer : InHop (IsAbove need) (is_between l) (step begin) n
  pub code : KeepsCode l begin (hops (is_between l) (step begin) n)

-- what a run is given, whose bytes are bytes and whose words are words, can be loaded with an executable of this file
pub record CanStart (x : Exec) (file : List ℕ) (inputs : Inputs) : Type 0 where
  pub bytes : IsOverBytes x file inputs
  pub admitted : IsAdmitted inputs
  pub fits : load_fault x file inputs ≡ None

pub record Headline (p : Prog) (l : Layout) (frames : ℕ → ℕ) (limit need : ℕ) (x : Exec) (file : List ℕ) : Type 0 where
  pub each : (inputs : Inputs) → CanStart x file inputs → (n : ℕ) → IsInside p frames limit inputs n
      → Hop p l frames limit need inputs (start x file inputs) n
  pub apart : AreDisjoint DATA_START (areas l) STORE_SIZE
