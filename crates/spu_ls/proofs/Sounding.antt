-- Each step of the machine keeps a state sound, whatever it does.
use Rattle.std.proofs.Common.{◌≡◌, ℕ, zero, suc, ◌+◌, ◌-◌, ◌^◌, ◌<◌, ◌≤◌, List, [], ◌∷◌, ◌++◌, length, take, drop, Option, Some, None, true, Bool, cond, filter, refl, arith, length-append}
use Rattle.std.specs.Prelude.{◌==◌, ◌&&◌, not, nat_le, nat_lt, slice_index}
use Rattle.std.proofs.lemmas.Bool.{cond_both}
use Rattle.std.proofs.lemmas.Bool.Decides.{nat_tests}
use Rattle.std.proofs.lemmas.List.{length-drop}
use Rattle.std.proofs.lemmas.List.Elements.{All-append, All-cons, All-drop, All-filter, All-nil, All-tail}
use Rattle.spu_word.specs.declared.limits.TheConstants.{OUTBOX_SIZE, QUAD_SIZE, QUEUE_SIZE, WORD_SIZE}
use Rattle.spu_word.specs.Bytes.{word_of, quad_of}
use Rattle.spu_isa.specs.declared.operation.Op.{Op}
use Rattle.spu_isa.specs.declared.operation.Op.TheVariants as op
use Rattle.spu_isa.specs.declared.operation.Kind.{Kind}
use Rattle.spu_isa.specs.declared.operation.Kind.TheVariants as kind
use Rattle.spu_isa.specs.declared.instruction.Inst.{Inst}
use Rattle.spu_isa.specs.Table.{row_of}
use Rattle.spu_isa.specs.Decoding.{decoded}
use Rattle.spu_exec.specs.declared.channels.TheConstants.{MFC_CMD, MFC_RD_TAG_MASK, MFC_RD_TAG_STAT, MFC_WR_TAG_MASK, MFC_WR_TAG_UPDATE, SPU_RD_IN_MBOX, SPU_WR_OUT_MBOX}
use Rattle.spu_exec.specs.declared.transfers.Form.{Form}
use Rattle.spu_exec.specs.declared.transfers.Transfer.{Transfer}
use Rattle.spu_exec.specs.Channels.{count_of, is_counted, is_update, is_written}
use Rattle.spu_exec.specs.Places.{code_mask, place, place_of}
use Rattle.spu_exec.specs.Tags.{is_landing, status, with_tags, without_tags}
use Rattle.spu_exec.specs.Transfers.{described, form_of, is_taken}
use Rattle.spu_exec.specs.Values.{HasBytes}
use Rattle.spu_exec.proofs.Sound.{quad_small, value_bytes, value_length}
use Rattle.spu_ls.specs.Stores.{Store, bytes_from, load, save}
use Rattle.spu_ls.specs.Machine.{State, steps, put, put_word, goes, sets, ends, saves, sends, updates, lands, makes_room, waits_last, commands, writes, takes, answers_by, answers, reads, is_pending, counts, uses_channel, acts, obeys, unless_ended, step}
use Rattle.spu_ls.specs.Sound.{AreTaken, AreWords, AreRegisters, IsPlace, IsSound}
use Rattle.spu_ls.specs.declared.ending.RunEnd.{RunEnd}
use Rattle.spu_ls.specs.declared.ending.RunEnd.TheVariants as ending
use Rattle.spu_ls.proofs.Memories.{land_all_taken, land_sound, land_taken}

-- ---- places

pub masked : (n : ℕ) → IsPlace (code_mask n)
masked n = record { aligned = omega arith; inside = omega arith }

place_at : (o : Op) (i pc a b : ℕ) → IsPlace (place_of o i pc a b)
place_at op.Stop i pc a b = record { aligned = omega arith; inside = omega arith }
place_at _ i pc a b = record { aligned = omega arith; inside = omega arith }

to_place : (x : Inst) (pc : ℕ) (a b : List ℕ) → IsPlace (place x pc a b)
to_place x pc a b = place_at x.op _ pc _ _

-- ---- registers

put_registers : (t : ℕ) (quad : List ℕ) (regs : ℕ → List ℕ) → AreRegisters regs → HasBytes quad → length quad ≡ QUAD_SIZE → AreRegisters (put t quad regs)
put_registers t quad regs h small whole = record {
  bytes = λ k. cond_both (k == t) quad (regs k) HasBytes (λ is. small) (λ is. h.bytes k);
  whole = λ k lt. cond_both (k == t) quad (regs k) (λ q. length q ≡ QUAD_SIZE) (λ is. whole) (λ is. h.whole k lt);
}

put_value : (t v : ℕ) (regs : ℕ → List ℕ) → AreRegisters regs → AreRegisters (put t (quad_of v 0 0 0) regs)
put_value t v regs h = put_registers t (quad_of v 0 0 0) regs h (quad_small v 0 0 0) refl

from_bytes : (n : ℕ) (m : Store) (a k : ℕ) → ((j : ℕ) → m j < 256) → slice_index (bytes_from m a n) k < 256
from_bytes zero m a k h = omega arith
from_bytes (suc n) m a zero h = h a
from_bytes (suc n) m a (suc k) h = from_bytes n m (a + 1) k h

load_small : (m : Store) (a : ℕ) → ((k : ℕ) → m k < 256) → HasBytes (load m a)
unfolding load
load_small m a h k lt = from_bytes 16 m a k h

load_whole : (m : Store) (a : ℕ) → length (load m a) ≡ QUAD_SIZE
unfolding load
load_whole m a = refl

save_small : (m : Store) (at : ℕ) (quad : List ℕ) → ((k : ℕ) → m k < 256) → HasBytes quad → (k : ℕ) → save m at quad k < 256
unfolding save
save_small m at quad h small k =
    cond_both (nat_le at k && nat_lt k (at + 16)) (slice_index quad (k - at)) (m k) (λ v. v < 256)
    (λ is. small (k - at) (grind (arith, nat_tests))) (λ is. h k)

word_low : (quad : List ℕ) → HasBytes quad → word_of quad 0 < 2 ^ 32
word_low quad h =
    let a = h 0 (omega arith) in
    let b = h 1 (omega arith) in
    let c = h 2 (omega arith) in
    let d = h 3 (omega arith) in
    omega arith

-- ---- kinds of steps

goes_sound : (p : ℕ) (s : State) → IsSound s → IsPlace p → IsSound (goes p s)
goes_sound p s h at = record { memory = h.memory; registers = h.registers; channels = h.channels; waiting = h.waiting; place = at }

ends_sound : (e : RunEnd) (s : State) → IsSound s → IsSound (ends e s)
ends_sound e s h = record { memory = h.memory; registers = h.registers; channels = h.channels; waiting = h.waiting; place = h.place }

sets_sound : (t : ℕ) (quad : List ℕ) (p : ℕ) (s : State) → IsSound s → IsPlace p → HasBytes quad → length quad ≡ QUAD_SIZE → IsSound (sets t quad p s)
sets_sound t quad p s h at small whole = record { memory = h.memory; registers = put_registers t quad s.regs h.registers small whole; channels = h.channels; waiting = h.waiting; place = at }

word_sound : (t v p : ℕ) (s : State) → IsSound s → IsPlace p → IsSound (sets t (quad_of v 0 0 0) p s)
word_sound t v p s h at = sets_sound t (quad_of v 0 0 0) p s h at (quad_small v 0 0 0) refl

saves_sound : (at t p : ℕ) (s : State) → IsSound s → IsPlace p → IsSound (saves at t p s)
saves_sound at t p s h to = record {
  memory = record {
    store = save_small s.store at (s.regs t) h.memory.store (h.registers.bytes t);
    image = h.memory.image;
    areas = h.memory.areas;
    apart = h.memory.apart;
    fit = h.memory.fit;
  };
  registers = h.registers;
  channels = h.channels;
  waiting = h.waiting;
  place = to;
}

-- ---- channels

lands_sound : (ts : List Transfer) (s : State) → IsSound s → IsSound (lands ts s)
lands_sound ts s h = record {
  memory = land_sound s.image ts (record { store = s.store; areas = s.areas }) h.memory;
  registers = h.registers;
  channels = h.channels;
  waiting = land_all_taken s.image ts (record { store = s.store; areas = s.areas }) s.queue h.waiting;
  place = h.place;
}

-- a state whose transfers are fewer
queued : (ts : List Transfer) (s : State) → IsSound s → length ts ≤ QUEUE_SIZE → AreTaken s.image s.areas ts → IsSound (record s { queue = ts })
queued ts s h few all = record {
  memory = h.memory;
  registers = h.registers;
  channels = record {
    words = h.channels.words;
    update = h.channels.update;
    few = few;
    mail = h.channels.mail;
    output = h.channels.output;
    room = h.channels.room;
  };
  waiting = all;
  place = h.place;
}

-- a state in which a transfer that a state before it could carry out can wait
record HasRoom (before s : State) : Type 0 where
  sound : IsSound s
  room : length s.queue < QUEUE_SIZE
  taken : (t : Transfer) → is_taken before.image before.areas t ≡ true → is_taken s.image s.areas t ≡ true

room_sound : (s : State) → IsSound s → HasRoom s (makes_room s)
room_sound s h =
    cond_both (length s.queue == QUEUE_SIZE) _ _ (HasRoom s)
    (λ is.
    let full : length s.queue ≡ QUEUE_SIZE = grind (arith, nat_tests) in
    let left : length (drop 1 s.queue) ≡ length s.queue - 1 = length-drop 1 s.queue in
    record {
      sound = lands_sound (take 1 s.queue) (record s { queue = drop 1 s.queue }) (queued (drop 1 s.queue) s h (omega arith) (All-drop (λ (t : Transfer). is_taken s.image s.areas t ≡ true) 1 s.queue h.waiting));
      room = omega arith;
      taken = land_taken s.image (take 1 s.queue) (record { store = s.store; areas = s.areas });
    })
    (λ is. let few : length s.queue ≤ QUEUE_SIZE = h.channels.few in record { sound = h; room = grind (arith, nat_tests); taken = λ t e. e })

joins : (t : Transfer) (before s : State) → HasRoom before s → is_taken before.image before.areas t ≡ true → IsSound (waits_last t s)
joins t before s h e =
    let room = h.room in
    let more = length-append s.queue (t ∷ []) in
    queued (s.queue ++ t ∷ []) s h.sound (omega arith)
    (All-append (λ (u : Transfer). is_taken s.image s.areas u ≡ true) s.queue (t ∷ []) h.sound.waiting
    (All-cons (λ (u : Transfer). is_taken s.image s.areas u ≡ true) t [] (h.taken t e) (All-nil (λ (u : Transfer). is_taken s.image s.areas u ≡ true))))

commands_sound : (o : Option Form) (p : ℕ) (s : State) → IsSound s → IsPlace p → IsSound (commands o p s)
commands_sound None p s h at = ends_sound _ s h
commands_sound (Some form) p s h at =
    cond_both (is_taken s.image s.areas (described form s.channels)) _ _ IsSound
    (λ is. goes_sound p (waits_last (described form s.channels) (makes_room s)) (joins (described form s.channels) s (makes_room s) (room_sound s h) is) at)
    (λ is. ends_sound _ s h)

sends_sound : (w p : ℕ) (s : State) → IsSound s → IsPlace p → w < 2 ^ 32 → IsSound (sends w p s)
sends_sound w p s h at low =
    cond_both (length s.output == OUTBOX_SIZE) _ _ IsSound (λ is. ends_sound _ s h)
    (λ is.
    let few : length s.output ≤ OUTBOX_SIZE = h.channels.room in
    let less : length s.output < OUTBOX_SIZE = grind (arith, nat_tests) in
    let more = length-append s.output (w ∷ []) in
    record {
      memory = h.memory;
      registers = h.registers;
      channels = record {
        words = h.channels.words;
        update = h.channels.update;
        few = h.channels.few;
        mail = h.channels.mail;
        output = All-append (λ w. w < 2 ^ 32) s.output (w ∷ []) h.channels.output (All-cons (λ w. w < 2 ^ 32) w [] low (All-nil (λ w. w < 2 ^ 32)));
        room = omega arith;
      };
      waiting = h.waiting;
      place = at;
    })

updates_sound : (w p : ℕ) (s : State) → IsSound s → IsPlace p → IsSound (updates w p s)
updates_sound w p s h at =
    cond_both (is_update w) _ _ IsSound
    (λ is. record {
      memory = h.memory;
      registers = h.registers;
      channels = record {
        words = h.channels.words;
        update = is;
        few = h.channels.few;
        mail = h.channels.mail;
        output = h.channels.output;
        room = h.channels.room;
      };
      waiting = h.waiting;
      place = at;
    })
    (λ is. ends_sound _ s h)

keeps_sound : (n w p : ℕ) (s : State) → IsSound s → IsPlace p → w < 2 ^ 32 → IsSound (record s { channels = put_word n w s.channels; pc = p; steps = s.steps + 1 })
keeps_sound n w p s h at low = record {
  memory = h.memory;
  registers = h.registers;
  channels = record {
    words = λ k. cond_both (k == n) w (s.channels k) (λ v. v < 2 ^ 32) (λ is. low) (λ is. h.channels.words k);
    update = h.channels.update;
    few = h.channels.few;
    mail = h.channels.mail;
    output = h.channels.output;
    room = h.channels.room;
  };
  waiting = h.waiting;
  place = at;
}

writes_sound : (n w p : ℕ) (s : State) → IsSound s → IsPlace p → w < 2 ^ 32 → IsSound (writes n w p s)
writes_sound n w p s h at low =
    cond_both (n == SPU_WR_OUT_MBOX) _ _ IsSound (λ is. sends_sound w p s h at low)
    (λ is. cond_both (n == MFC_WR_TAG_UPDATE) _ _ IsSound (λ is. updates_sound w p s h at)
    (λ is. cond_both (n == MFC_CMD) _ _ IsSound (λ is. commands_sound (form_of w) p s h at)
    (λ is. cond_both (is_written n) _ _ IsSound (λ is. keeps_sound n w p s h at low) (λ is. ends_sound _ s h))))

takes_sound : (mail : List ℕ) (t p : ℕ) (s : State) → IsSound s → IsPlace p → AreWords mail → IsSound (takes mail t p s)
takes_sound [] t p s h at words = ends_sound _ s h
takes_sound (w ∷ mail) t p s h at words = record {
  memory = h.memory;
  registers = put_value t w s.regs h.registers;
  channels = record {
    words = h.channels.words;
    update = h.channels.update;
    few = h.channels.few;
    mail = All-tail (λ w. w < 2 ^ 32) w mail words;
    output = h.channels.output;
    room = h.channels.room;
  };
  waiting = h.waiting;
  place = at;
}

shorter : {X : Type 0} (p : X → Bool) (xs : List X) → length (filter p xs) ≤ length xs
shorter p [] = omega arith
shorter p (x ∷ xs) =
    let rest = shorter p xs in
    cond_both (p x) (x ∷ filter p xs) (filter p xs) (λ ys. length ys ≤ suc (length xs)) (λ is. omega arith) (λ is. omega arith)

fewer : {X : Type 0} (p : X → Bool) (xs : List X) (n : ℕ) → length xs ≤ n → length (filter p xs) ≤ n
fewer p xs n le = (let e = shorter p xs in omega arith)

answers_sound : (u : Option ℕ) (t p : ℕ) (s : State) → IsSound s → IsPlace p → IsSound (answers u t p s)
answers_sound None t p s h at = ends_sound _ s h
answers_sound (Some u) t p s h at = by (is_landing u (s.channels MFC_WR_TAG_MASK) s.queue)
  where
    by : (test : ℕ → Bool) → IsSound (answers_by test t p s)
    by test = record {
      memory = land_sound s.image (with_tags test s.queue) (record { store = s.store; areas = s.areas }) h.memory;
      registers = put_value t (status (s.channels MFC_WR_TAG_MASK) (without_tags test s.queue)) s.regs h.registers;
      channels = record {
        words = h.channels.words;
        update = tt;
        few = fewer (λ (x : Transfer). not (test x.tag)) s.queue QUEUE_SIZE h.channels.few;
        mail = h.channels.mail;
        output = h.channels.output;
        room = h.channels.room;
      };
      waiting = land_all_taken s.image (with_tags test s.queue) (record { store = s.store; areas = s.areas }) (without_tags test s.queue)
          (All-filter (λ (x : Transfer). not (test x.tag)) (λ (t : Transfer). is_taken s.image s.areas t ≡ true) s.queue h.waiting);
      place = at;
    }

reads_sound : (n t p : ℕ) (s : State) → IsSound s → IsPlace p → IsSound (reads n t p s)
reads_sound n t p s h at =
    cond_both (n == SPU_RD_IN_MBOX) _ _ IsSound (λ is. takes_sound s.mail t p s h at h.channels.mail)
    (λ is. cond_both (n == MFC_RD_TAG_STAT) _ _ IsSound (λ is. answers_sound s.update t p s h at)
    (λ is. cond_both (n == MFC_RD_TAG_MASK) _ _ IsSound (λ is. word_sound t (s.channels MFC_WR_TAG_MASK) p s h at) (λ is. ends_sound _ s h)))

counts_sound : (n t p : ℕ) (s : State) → IsSound s → IsPlace p → IsSound (counts n t p s)
counts_sound n t p s h at =
    cond_both (is_counted n) _ _ IsSound
    (λ is. word_sound t (count_of n (is_pending s.update) (length s.queue) (length s.mail)) p s h at) (λ is. ends_sound (ending.BadChannel n) s h)

channel_sound : (o : Op) (x : Inst) (p : ℕ) (s : State) → IsSound s → IsPlace p → IsSound (uses_channel o x p s)
channel_sound op.Wrch x p s h at = writes_sound x.ra (word_of (s.regs x.rt) 0) p s h at (word_low (s.regs x.rt) (h.registers.bytes x.rt))
channel_sound op.Rdch x p s h at = reads_sound x.ra x.rt p s h at
channel_sound _ x p s h at = counts_sound x.ra x.rt p s h at

-- ---- every step

branch_sound : (b : Bool) (x : Inst) (p : ℕ) (s : State) → IsSound s → IsPlace p → IsSound (cond b (goes (place x s.pc (s.regs x.ra) (s.regs x.rb)) s) (goes p s))
branch_sound b x p s h at = cond_both b _ _ IsSound (λ is. goes_sound _ s h (to_place x s.pc (s.regs x.ra) (s.regs x.rb))) (λ is. goes_sound p s h at)

acts_sound : (k : Kind) (x : Inst) (p : ℕ) (s : State) → IsSound s → IsPlace p → IsSound (acts k x p s)
acts_sound kind.Compute x p s h at =
    sets_sound x.rt _ p s h at (value_bytes x _ _ _ _ (h.registers.bytes x.ra) (h.registers.bytes x.rb) (h.registers.bytes x.rc) (h.registers.bytes x.rt)) (value_length x _ _ _ _)
acts_sound kind.Load x p s h at = sets_sound x.rt _ p s h at (load_small s.store _ h.memory.store) (load_whole s.store _)
acts_sound kind.Store x p s h at = saves_sound _ x.rt p s h at
acts_sound kind.Branch x p s h at = branch_sound _ x p s h at
acts_sound kind.Call x p s h at = word_sound x.rt p _ s h (to_place x s.pc (s.regs x.ra) (s.regs x.rb))
acts_sound kind.Indirect x p s h at = branch_sound _ x p s h at
acts_sound kind.PointerCall x p s h at = word_sound x.rt p _ s h (to_place x s.pc (s.regs x.ra) (s.regs x.rb))
acts_sound kind.HaltTest x p s h at = cond_both _ _ _ IsSound (λ is. ends_sound _ s h) (λ is. goes_sound p s h at)
acts_sound kind.ChannelOp x p s h at = channel_sound x.op x p s h at
acts_sound kind.StopOp x p s h at = ends_sound _ s h
acts_sound kind.Nothing x p s h at = goes_sound p s h at

obeys_sound : (o : Option Inst) (s : State) → IsSound s → IsSound (obeys o s)
obeys_sound None s h = ends_sound _ s h
obeys_sound (Some x) s h = acts_sound (row_of x.op).kind x (code_mask (s.pc + WORD_SIZE)) s h (masked (s.pc + WORD_SIZE))

unless_sound : (e : Option RunEnd) (s t : State) → IsSound s → IsSound t → IsSound (unless_ended e s t)
unless_sound None s t h j = j
unless_sound (Some e) s t h j = h

pub step_sound : (s : State) → IsSound s → IsSound (step s)
unfolding step
step_sound s h = unless_sound s.ended s _ h (obeys_sound (decoded _) s h)

pub steps_sound : (n : ℕ) (s : State) → IsSound s → IsSound (steps n s)
unfolding steps
steps_sound zero s h = h
steps_sound (suc n) s h = steps_sound n (step s) (step_sound s h)
