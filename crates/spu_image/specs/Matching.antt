-- When a state of the machine matches one of the symbolic machine, in a layout. (No standard has it: it is this project's own relation
-- between its two machines.)
use Rattle.std.specs.Prelude.{◌≡◌, ℕ, ◌≤◌, Option, Some, None}
use Rattle.spu_exec.specs.declared.channels.TheConstants.{MFC_LSA, MFC_TAG_ID, MFC_WR_TAG_MASK}
use Rattle.spu_lift.specs.declared.program.SymInst.{SymInst}
use Rattle.spu_lift.specs.declared.program.Prog.{Prog}
use Rattle.spu_lift.specs.Places.{instruction_at}
use Rattle.spu_ls.specs.Stores.{fetch}
use Rattle.spu_ls.specs.Machine.{State}
use Rattle.spu_ls.specs.declared.ending.RunEnd.{RunEnd}
use Rattle.spu_ls.specs.declared.ending.RunEnd.TheVariants as machine
use Rattle.spu_ideal.specs.declared.ending.IdealEnd.{IdealEnd}
use Rattle.spu_ideal.specs.declared.ending.IdealEnd.TheVariants as ideal
use Rattle.spu_ideal.specs.State.{Sym}
use Rattle.spu_layout.specs.Layouts.{Layout, IsShared}
use Rattle.spu_layout.specs.Labels.{code}
use Rattle.spu_image.specs.Agreeing.{Agrees, AgreesQuad, AgreesWord, AgreesUpdate}
use Rattle.spu_image.specs.Words.{IsWord}

-- the ends correspond; an end outside has none
abbrev pub SameEnd : Layout → Option IdealEnd → Option RunEnd → Type 0
SameEnd l None e = e ≡ None
SameEnd l (Some (ideal.Stop c)) e = e ≡ Some (machine.Stop c)
SameEnd l (Some (ideal.Halt f i)) e = e ≡ Some (machine.Halt (l.at f i))
SameEnd l (Some ideal.Starved) e = e ≡ Some machine.Starved
SameEnd l (Some (ideal.BadChannel n)) e = e ≡ Some (machine.BadChannel n)
SameEnd l (Some ideal.OutboxFull) e = e ≡ Some machine.OutboxFull
SameEnd l (Some (ideal.Outside r f i)) e = ⊥
SameEnd l (Some ideal.Running) e = ⊥

pub record Matches (l : Layout) (s : Sym) (m : State) : Type 0 where
  pub place : m.pc ≡ l.at s.f s.i
  pub regs : (r : ℕ) → AgreesQuad (code l) (s.regs r) (m.regs r)
  -- the data and the stack
  pub store : (a : ℕ) → IsShared l a → Agrees (code l) (s.store a) (m.store a)
  -- the channels of transfers, the tag mask, the tag update, and the transfers that wait
  pub channels : (n : ℕ) → MFC_LSA ≤ n → n ≤ MFC_TAG_ID → AgreesWord (s.channels n) (m.channels n)
  pub mask : m.channels MFC_WR_TAG_MASK ≡ s.mask
  pub update : AgreesUpdate s.update m.update
  pub queue : m.queue ≡ s.queue
  pub areas : m.areas ≡ s.areas
  pub mail : m.mail ≡ s.mail
  pub output : m.output ≡ s.output
  pub ended : SameEnd l s.ended m.ended

-- the machine is at the word of the place that is meant
abbrev pub Meant : Prog → Layout → Sym → State → Type 0
Meant p l s m = (x : SymInst) → instruction_at p s.f s.i ≡ Some x → IsWord l s.f s.i x (fetch m.store m.pc)
