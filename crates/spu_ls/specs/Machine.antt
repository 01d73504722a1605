-- The local-store machine: its state, and one step of it (SPU ISA 1.2). Channels
-- have the numbers that the Cell's SPU gives them; what they do here is this project's own rule. A step
-- reads the word at pc, decodes it by the instruction table, and does what the instruction says. A step that ends the
-- run changes only the count of steps and the end, and a state that has ended stays.
use Rattle.std.specs.Prelude.{ℕ, zero, suc, ◌+◌, ◌==◌, if◌then◌else◌, Bool, true, false, List, [], ◌∷◌, ◌++◌, length, take, drop, Option, Some, None}
use Rattle.std.specs.Int.{w32, cast_unsigned}
use Rattle.spu_word.specs.Bytes.{word_of, quad_of}
use Rattle.spu_isa.specs.declared.operation.Op.{Op}
use Rattle.spu_isa.specs.declared.operation.Op.TheVariants as op
use Rattle.spu_isa.specs.declared.operation.Kind.{Kind}
use Rattle.spu_isa.specs.declared.operation.Kind.TheVariants as kind
use Rattle.spu_isa.specs.declared.instruction.Inst.{Inst}
use Rattle.spu_isa.specs.Table.{row_of}
use Rattle.spu_isa.specs.Decoding.{decoded}
use Rattle.spu_exec.specs.Values.{value}
use Rattle.spu_exec.specs.Places.{code_mask, holds, taken, place}
use Rattle.spu_word.specs.declared.limits.TheConstants.{OUTBOX_SIZE, QUEUE_SIZE, WORD_SIZE}
use Rattle.spu_exec.specs.declared.channels.TheConstants.{MFC_CMD, MFC_RD_TAG_MASK, MFC_RD_TAG_STAT, MFC_WR_TAG_MASK, MFC_WR_TAG_UPDATE, SPU_RD_IN_MBOX, SPU_WR_OUT_MBOX}
use Rattle.spu_exec.specs.Channels.{is_written, is_counted, is_update, count_of}
use Rattle.spu_exec.specs.declared.transfers.Form.{Form}
use Rattle.spu_exec.specs.declared.transfers.Transfer.{Transfer}
use Rattle.spu_exec.specs.Transfers.{Stretch, form_of, is_taken, described}
use Rattle.spu_exec.specs.Tags.{is_landing, with_tags, without_tags, status}
use Rattle.spu_word.specs.declared.load.Area.{Area}
use Rattle.spu_ls.specs.Landing.{Memory, land}
use Rattle.spu_ls.specs.Stores.{Store, load, fetch, save}
use Rattle.spu_ls.specs.declared.ending.RunEnd.{RunEnd}
use Rattle.spu_ls.specs.declared.ending.RunEnd.TheVariants as ending

pub record State : Type 0 where
  pub store : Store
  pub regs : ℕ → List ℕ
  pub pc : ℕ
  -- what was last written to the channels of transfers and of the tag mask
  pub channels : ℕ → ℕ
  -- a tag update that no read of the tag status has answered, as it was written
  pub update : Option ℕ
  -- the transfers that wait, the oldest first
  pub queue : List Transfer
  -- the named areas of effective memory, and the executable's file, which is only read
  pub areas : List Area
  pub image : Stretch
  -- the words of the inbound mailbox that are left
  pub mail : List ℕ
  -- the words that were written to the outbound mailbox
  pub output : List ℕ
  pub steps : ℕ
  pub ended : Option RunEnd

-- the registers with one of them changed
abbrev pub put : ℕ → List ℕ → (ℕ → List ℕ) → ℕ → List ℕ
put t quad regs = λ k. if k == t then quad else regs k

-- the channels with one of them changed
abbrev pub put_word : ℕ → ℕ → (ℕ → ℕ) → ℕ → ℕ
put_word n word channels = λ k. if k == n then word else channels k

-- the run goes on at p
abbrev pub goes : ℕ → State → State
goes p s = record s { pc = p; steps = s.steps + 1 }

-- it goes on at p with register t changed
abbrev pub sets : ℕ → List ℕ → ℕ → State → State
sets t quad p s = record s { regs = put t quad s.regs; pc = p; steps = s.steps + 1 }

-- it ends
abbrev pub ends : RunEnd → State → State
ends e s = record s { ended = Some e; steps = s.steps + 1 }

-- register t goes into the store
abbrev pub saves : ℕ → ℕ → ℕ → State → State
saves at t p s = record s { store = save s.store at (s.regs t); pc = p; steps = s.steps + 1 }

-- a word is written to the outbound mailbox, which holds at most so many
abbrev pub sends : ℕ → ℕ → State → State
sends word p s =
    if length s.output == OUTBOX_SIZE then ends ending.OutboxFull s
    else record s { output = s.output ++ word ∷ []; pc = p; steps = s.steps + 1 }

-- the tag update, which is 0, 1 or 2
abbrev pub updates : ℕ → ℕ → State → State
updates word p s =
    if is_update word then record s { update = Some word; pc = p; steps = s.steps + 1 } else ends (ending.BadChannel MFC_WR_TAG_UPDATE) s

-- these transfers land, in order
abbrev pub with_memory : Memory → State → State
with_memory memory s = record s { store = memory.store; areas = memory.areas }

abbrev pub lands : List Transfer → State → State
lands ts s = with_memory (land s.image ts (record { store = s.store; areas = s.areas })) s

-- where the queue is full, its first transfer lands
abbrev pub makes_room : State → State
makes_room s = if length s.queue == QUEUE_SIZE then lands (take 1 s.queue) (record s { queue = drop 1 s.queue }) else s

-- a transfer waits behind the others
abbrev pub waits_last : Transfer → State → State
waits_last t s = record s { queue = s.queue ++ t ∷ [] }

-- a command is judged as it is written
abbrev pub commands : Option Form → ℕ → State → State
commands None p s = ends ending.TransferFault s
commands (Some form) p s =
    if is_taken s.image s.areas (described form s.channels) then goes p (waits_last (described form s.channels) (makes_room s))
    else ends ending.TransferFault s

-- what a word written to a channel does
abbrev pub writes : ℕ → ℕ → ℕ → State → State
writes n word p s =
    if n == SPU_WR_OUT_MBOX then sends word p s
    else (if n == MFC_WR_TAG_UPDATE then updates word p s
    else (if n == MFC_CMD then commands (form_of word) p s
    else (if is_written n then record s { channels = put_word n word s.channels; pc = p; steps = s.steps + 1 }
    else ends (ending.BadChannel n) s)))

-- the next word of the inbound mailbox goes into register t
abbrev pub takes : List ℕ → ℕ → ℕ → State → State
takes [] t p s = ends ending.Starved s
takes (word ∷ mail) t p s = record s { regs = put t (quad_of word 0 0 0) s.regs; mail = mail; pc = p; steps = s.steps + 1 }

-- the transfers whose tags pass a test land and wait no more
abbrev pub lands_tags : (ℕ → Bool) → State → State
lands_tags test s = record (lands (with_tags test s.queue) s) { queue = without_tags test s.queue }

-- the tag status, after the transfers have landed whose tags pass a test
abbrev pub answers_by : (ℕ → Bool) → ℕ → ℕ → State → State
answers_by test t p s = record (lands_tags test s) {
  regs = put t (quad_of (status (s.channels MFC_WR_TAG_MASK) (without_tags test s.queue)) 0 0 0) s.regs;
  update = None;
  pc = p;
  steps = s.steps + 1;
}

-- the tag status, where an update is pending
abbrev pub answers : Option ℕ → ℕ → ℕ → State → State
answers None t p s = ends (ending.BadChannel MFC_RD_TAG_STAT) s
answers (Some update) t p s = answers_by (is_landing update (s.channels MFC_WR_TAG_MASK) s.queue) t p s

-- what a read of a channel into register t does
abbrev pub reads : ℕ → ℕ → ℕ → State → State
reads n t p s =
    if n == SPU_RD_IN_MBOX then takes s.mail t p s
    else (if n == MFC_RD_TAG_STAT then answers s.update t p s
    else (if n == MFC_RD_TAG_MASK then sets t (quad_of (s.channels MFC_WR_TAG_MASK) 0 0 0) p s
    else ends (ending.BadChannel n) s))

abbrev pub is_pending : Option ℕ → Bool
is_pending None = false
is_pending (Some update) = true

-- the count of a channel goes into register t
abbrev pub counts : ℕ → ℕ → ℕ → State → State
counts n t p s =
    if is_counted n then sets t (quad_of (count_of n (is_pending s.update) (length s.queue) (length s.mail)) 0 0 0) p s else ends (ending.BadChannel n) s

abbrev pub uses_channel : Op → Inst → ℕ → State → State
uses_channel op.Wrch x p s = writes x.ra (word_of (s.regs x.rt) 0) p s
uses_channel op.Rdch x p s = reads x.ra x.rt p s
uses_channel _ x p s = counts x.ra x.rt p s

-- what an instruction of a kind does, where p is the place after it
abbrev pub acts : Kind → Inst → ℕ → State → State
acts kind.Compute x p s = sets x.rt (value x (s.regs x.ra) (s.regs x.rb) (s.regs x.rc) (s.regs x.rt)) p s
acts kind.Load x p s = sets x.rt (load s.store (place x s.pc (s.regs x.ra) (s.regs x.rb))) p s
acts kind.Store x p s = saves (place x s.pc (s.regs x.ra) (s.regs x.rb)) x.rt p s
acts kind.Branch x p s = if taken x (s.regs x.rt) then goes (place x s.pc (s.regs x.ra) (s.regs x.rb)) s else goes p s
acts kind.Call x p s = sets x.rt (quad_of p 0 0 0) (place x s.pc (s.regs x.ra) (s.regs x.rb)) s
acts kind.Indirect x p s = if taken x (s.regs x.rt) then goes (place x s.pc (s.regs x.ra) (s.regs x.rb)) s else goes p s
acts kind.PointerCall x p s = sets x.rt (quad_of p 0 0 0) (place x s.pc (s.regs x.ra) (s.regs x.rb)) s
acts kind.HaltTest x p s = if holds x (s.regs x.ra) (s.regs x.rb) then ends (ending.Halt s.pc) s else goes p s
acts kind.ChannelOp x p s = uses_channel x.op x p s
acts kind.StopOp x p s = ends (ending.Stop (cast_unsigned w32 x.imm)) s
acts kind.Nothing x p s = goes p s

-- what a word does
abbrev pub obeys : Option Inst → State → State
obeys (Some x) s = acts (row_of x.op).kind x (code_mask (s.pc + WORD_SIZE)) s
obeys None s = ends (ending.BadInstruction s.pc) s

abbrev pub unless_ended : Option RunEnd → State → State → State
unless_ended None s t = t
unless_ended (Some e) s t = s

unfoldable pub step : State → State
step s = unless_ended s.ended s (obeys (decoded (fetch s.store s.pc)) s)

unfoldable pub steps : ℕ → State → State
steps zero s = s
steps (suc n) s = steps n (step s)
