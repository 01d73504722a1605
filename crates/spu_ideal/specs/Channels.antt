-- Channels of the symbolic machine. A command waits in the queue as on the machine; it must lie in one named area and in
-- what the running function may store, and leave the loader its tag and four places of the queue. A transfer to an area needs bytes
-- that are numbers as it lands.
use Rattle.std.specs.Prelude.{ℕ, zero, suc, ◌+◌, ◌-◌, ◌==◌, ◌&&◌, ◌||◌, not, nat_lt, nat_le, if◌then◌else◌, Bool, true, false, List, [], ◌∷◌, ◌++◌, length, map, Option, Some, None, is_some, slice_index}
use Rattle.spu_word.specs.declared.limits.TheConstants.{OUTBOX_SIZE}
use Rattle.spu_word.specs.Bytes.{quad_of}
use Rattle.spu_word.specs.declared.load.Area.{Area}
use Rattle.spu_isa.specs.declared.operation.Op.{Op}
use Rattle.spu_isa.specs.declared.operation.Op.TheVariants as op
use Rattle.spu_isa.specs.declared.instruction.Inst.{Inst}
use Rattle.spu_exec.specs.declared.channels.TheConstants.{MFC_CMD, MFC_EAH, MFC_EAL, MFC_LSA, MFC_RD_TAG_MASK, MFC_RD_TAG_STAT, MFC_SIZE, MFC_TAG_ID, MFC_WR_TAG_MASK, MFC_WR_TAG_UPDATE, SPU_RD_IN_MBOX, SPU_WR_OUT_MBOX}
use Rattle.spu_exec.specs.Channels.{is_written, is_counted, is_update, count_of}
use Rattle.spu_exec.specs.Moves.{or_zero}
use Rattle.spu_exec.specs.declared.transfers.Form.{Form}
use Rattle.spu_exec.specs.declared.transfers.Form.TheVariants.{Put, Get}
use Rattle.spu_exec.specs.declared.transfers.Transfer.{Transfer}
use Rattle.spu_exec.specs.Transfers.{Stretch, stretch_of, form_of, is_taken, described}
use Rattle.spu_exec.specs.Areas.{bytes_at, written}
use Rattle.spu_exec.specs.Tags.{is_landing, with_tags, without_tags, status}
use Rattle.spu_lift.specs.declared.program.SymInst.{SymInst}
use Rattle.spu_lift.specs.declared.program.Prog.{Prog}
use Rattle.spu_lift.specs.Places.{instruction_at}
use Rattle.spu_ideal.specs.declared.rules.TheConstants.{LOADER_TAG, MAX_WAITING}
use Rattle.spu_ideal.specs.declared.ending.IdealEnd.TheVariants as ending
use Rattle.spu_ideal.specs.declared.ending.Reason.TheVariants as reason
use Rattle.spu_lift.specs.declared.symbolic.SymByte.{SymByte}
use Rattle.spu_lift.specs.declared.symbolic.SymByte.TheVariants.{Num}
use Rattle.spu_ideal.specs.Bytes.{numbers, number_in, known_word}
use Rattle.spu_ideal.specs.declared.state.Update.{Update}
use Rattle.spu_ideal.specs.declared.state.Update.TheVariants.{NoUpdate, Pending, UnknownUpdate}
use Rattle.spu_ideal.specs.State.{Sym, put, put_word, ends, outside, advances, sets}
use Rattle.spu_ideal.specs.Accesses.{is_allowed}

-- ---- transfers

-- the symbolic machine has no image
abbrev pub no_image : Stretch
no_image = record { ea = 0; bytes = [] }

-- what transfers read and write
pub record Contents : Type 0 where
  pub store : ℕ → SymByte
  pub areas : List Area

abbrev pub before : Option ℕ → Option (List ℕ) → Option (List ℕ)
before (Some v) (Some vs) = Some (v ∷ vs)
before _ _ = None

-- the n bytes from an address on, where each is a number
unfoldable pub numbers_from : (ℕ → SymByte) → ℕ → ℕ → Option (List ℕ)
numbers_from m a zero = Some []
numbers_from m a (suc n) = before (number_in (m a)) (numbers_from m (a + 1) n)

abbrev pub placed : ℕ → List ℕ → (ℕ → SymByte) → ℕ → SymByte
placed a bytes m = λ k. if nat_le a k && nat_lt k (a + length bytes) then Num (slice_index bytes (k - a)) else m k

abbrev pub puts : Option (List ℕ) → ℕ → Contents → Option Contents
puts None ea m = None
puts (Some bytes) ea m = Some (record m { areas = written ea bytes m.areas })

abbrev pub land_by : Form → Transfer → Contents → Option Contents
land_by Put t m = puts (numbers_from m.store t.local t.size) t.ea m
land_by Get t m = Some (record m { store = placed t.local (bytes_at (map stretch_of m.areas) t.ea t.size) m.store })

-- transfers land one after another
unfoldable pub land_all : List Transfer → Option Contents → Option Contents
land_all [] m = m
land_all (t ∷ ts) None = None
land_all (t ∷ ts) (Some m) = land_all ts (land_by t.form t m)

-- ---- writes

abbrev pub knows_transfer : (ℕ → Option ℕ) → Bool
knows_transfer c =
    is_some (c MFC_LSA) && (is_some (c MFC_EAH) && (is_some (c MFC_EAL) && (is_some (c MFC_SIZE) && is_some (c MFC_TAG_ID))))

-- the transfer that the channels describe
abbrev pub transfer_by : Form → Sym → Transfer
transfer_by form s = described form (λ n. or_zero (s.channels n))

abbrev pub is_free : Sym → Transfer → Bool
is_free s t = is_taken no_image s.areas t && (not (t.tag == LOADER_TAG) && nat_lt (length s.queue) MAX_WAITING)

abbrev pub waits_last : Option Form → Prog → Sym → Sym
waits_last None p s = outside reason.Transfer s
waits_last (Some form) p s =
    if is_free s (transfer_by form s) then advances p s (record s { queue = s.queue ++ transfer_by form s ∷ [] }) else outside reason.Transfer s

-- the bytes of a command, whatever its word; one of no bytes reaches nothing
abbrev pub is_within : Prog → (ℕ → ℕ) → Sym → Bool
is_within p frames s =
    or_zero (s.channels MFC_SIZE) == 0 || is_allowed p frames s (or_zero (s.channels MFC_LSA)) (or_zero (s.channels MFC_SIZE))

abbrev pub commands : ℕ → Prog → (ℕ → ℕ) → Sym → Sym
commands word p frames s =
    if knows_transfer s.channels then (if is_within p frames s then waits_last (form_of word) p s else outside reason.Store s)
    else outside reason.NotNumber s

-- a word goes to the outbound mailbox, which holds at most so many
abbrev pub sends : ℕ → Prog → Sym → Sym
sends word p s = if length s.output == OUTBOX_SIZE then ends ending.OutboxFull s else advances p s (record s { output = s.output ++ word ∷ [] })

abbrev pub updates : ℕ → Prog → Sym → Sym
updates word p s =
    if is_update word then advances p s (record s { update = Pending word }) else ends (ending.BadChannel MFC_WR_TAG_UPDATE) s

abbrev pub writes_word : ℕ → ℕ → Prog → (ℕ → ℕ) → Sym → Sym
writes_word n word p frames s =
    if n == SPU_WR_OUT_MBOX then sends word p s
    else (if n == MFC_WR_TAG_UPDATE then updates word p s
    else (if n == MFC_CMD then commands word p frames s
    else (if n == MFC_WR_TAG_MASK then advances p s (record s { mask = word })
    else advances p s (record s { channels = put_word n word s.channels }))))

abbrev pub writes_known : ℕ → Option ℕ → Prog → (ℕ → ℕ) → Sym → Sym
writes_known n None p frames s = outside reason.NotNumber s
writes_known n (Some word) p frames s = writes_word n word p frames s

abbrev pub writes : ℕ → Option ℕ → Prog → (ℕ → ℕ) → Sym → Sym
writes n word p frames s = if is_written n then writes_known n word p frames s else ends (ending.BadChannel n) s

-- ---- reads

-- the next word of the inbound mailbox
abbrev pub takes : List ℕ → ℕ → Prog → Sym → Sym
takes [] t p s = ends ending.Starved s
takes (word ∷ mail) t p s = advances p s (record s { regs = put t (numbers (quad_of word 0 0 0)) s.regs; mail = mail })

abbrev pub answered : Option Contents → List Transfer → ℕ → Prog → Sym → Sym
answered None left t p s = outside reason.NotNumber s
answered (Some m) left t p s = advances p s (record s {
  store = m.store;
  areas = m.areas;
  queue = left;
  regs = put t (numbers (quad_of (status s.mask left) 0 0 0)) s.regs;
  update = NoUpdate;
})

-- the tag status, after the transfers have landed whose tags pass a test
abbrev pub answers_by : (ℕ → Bool) → ℕ → Prog → Sym → Sym
answers_by test t p s = answered (land_all (with_tags test s.queue) (Some (record { store = s.store; areas = s.areas }))) (without_tags test s.queue) t p s

abbrev pub answers : Update → ℕ → Prog → Sym → Sym
answers NoUpdate t p s = ends (ending.BadChannel MFC_RD_TAG_STAT) s
answers UnknownUpdate t p s = outside reason.Update s
answers (Pending update) t p s = answers_by (is_landing update s.mask s.queue) t p s

abbrev pub reads : ℕ → ℕ → Prog → Sym → Sym
reads n t p s =
    if n == SPU_RD_IN_MBOX then takes s.mail t p s
    else (if n == MFC_RD_TAG_STAT then answers s.update t p s
    else (if n == MFC_RD_TAG_MASK then sets p t (numbers (quad_of s.mask 0 0 0)) s
    else ends (ending.BadChannel n) s))

-- ---- counts

abbrev pub counted : ℕ → Bool → ℕ → Prog → Sym → Sym
counted n pending t p s = sets p t (numbers (quad_of (count_of n pending (length s.queue) (length s.mail)) 0 0 0)) s

-- the end of the code comes before an update that is not known
abbrev pub unless_last : Option SymInst → Sym → Sym
unless_last None s = outside reason.EndOfCode s
unless_last (Some x) s = outside reason.Update s

abbrev pub counts_by : Update → ℕ → ℕ → Prog → Sym → Sym
counts_by NoUpdate n t p s = counted n false t p s
counts_by (Pending u) n t p s = counted n true t p s
counts_by UnknownUpdate n t p s = if n == MFC_RD_TAG_STAT then unless_last (instruction_at p s.f (s.i + 1)) s else counted n false t p s

abbrev pub counts : ℕ → ℕ → Prog → Sym → Sym
counts n t p s = if is_counted n then counts_by s.update n t p s else ends (ending.BadChannel n) s

abbrev pub uses_channel : Op → Inst → Prog → (ℕ → ℕ) → Sym → Sym
uses_channel op.Wrch x p frames s = writes x.ra (known_word (s.regs x.rt) 0) p frames s
uses_channel op.Rdch x p frames s = reads x.ra x.rt p s
uses_channel _ x p frames s = counts x.ra x.rt p s
