-- The registers that a step leaves.
use Rattle.std.proofs.Common.{◌≡◌, ◌≢◌, ℕ, ◌+◌, cond, List, [], ◌∷◌, length, Option, Some, None, Bool, true, false, refl, sym, ap, ◌∙◌, arith}
use Rattle.std.specs.Prelude.{◌==◌}
use Rattle.std.proofs.lemmas.Bool.{cond_both}
use Rattle.std.proofs.lemmas.Bool.Decides.{nat_tests}
use Rattle.spu_word.specs.Bytes.{word_of, quad_of}
use Rattle.spu_word.specs.declared.limits.TheConstants.{OUTBOX_SIZE, QUEUE_SIZE, WORD_SIZE}
use Rattle.spu_isa.specs.declared.operation.Op.{Op}
use Rattle.spu_isa.specs.declared.operation.Op.TheVariants as op
use Rattle.spu_isa.specs.declared.operation.Kind.{Kind}
use Rattle.spu_isa.specs.declared.operation.Kind.TheVariants as kind
use Rattle.spu_isa.specs.declared.instruction.Inst.{Inst}
use Rattle.spu_isa.specs.Table.{row_of}
use Rattle.spu_isa.specs.Decoding.{decoded}
use Rattle.spu_exec.specs.Places.{code_mask}
use Rattle.spu_exec.specs.declared.channels.TheConstants.{MFC_CMD, MFC_RD_TAG_MASK, MFC_RD_TAG_STAT, MFC_WR_TAG_MASK, MFC_WR_TAG_UPDATE, SPU_RD_IN_MBOX, SPU_WR_OUT_MBOX}
use Rattle.spu_exec.specs.declared.transfers.Form.{Form}
use Rattle.spu_exec.specs.Channels.{is_counted, is_update, is_written}
use Rattle.spu_exec.specs.Transfers.{described, form_of, is_taken}
use Rattle.spu_ls.specs.Machine.{State, put, goes, ends, makes_room, commands, writes, takes, answers, reads, counts, uses_channel, acts, obeys, unless_ended, step}
use Rattle.spu_ls.specs.Stores.{fetch}
use Rattle.spu_ls.specs.declared.ending.RunEnd.{RunEnd}

-- whether an operation of a kind writes a register
abbrev channel_writes : Op → Bool
channel_writes op.Wrch = false
channel_writes _ = true

abbrev kind_writes : Kind → Op → Bool
kind_writes kind.Compute o = true
kind_writes kind.Load o = true
kind_writes kind.Call o = true
kind_writes kind.PointerCall o = true
kind_writes kind.ChannelOp o = channel_writes o
kind_writes kind.Store o = false
kind_writes kind.Branch o = false
kind_writes kind.Indirect o = false
kind_writes kind.HaltTest o = false
kind_writes kind.StopOp o = false
kind_writes kind.Nothing o = false

by_table : (o : Op) → (row_of o).writes ≡ kind_writes (row_of o).kind o
by_table op.Stop = refl
by_table _ = refl

module _ (r : ℕ) where
  -- it holds what it held
  abbrev Same : State → State → Type 0
  Same s t = t.regs r ≡ s.regs r

  put_other : (t : ℕ) (quad : List ℕ) (regs : ℕ → List ℕ) → r ≢ t → put t quad regs r ≡ regs r
  put_other t quad regs ne = cond_both (r == t) quad (regs r) (λ q. q ≡ regs r) (λ is. let e : r ≡ t = grind (arith, nat_tests) in absurd (ne e)) (λ is. refl)

  room_same : (s : State) → Same s (makes_room s)
  room_same s = cond_both (length s.queue == QUEUE_SIZE) _ _ (Same s) (λ is. refl) (λ is. refl)

  commands_same : (o : Option Form) (p : ℕ) (s : State) → Same s (commands o p s)
  commands_same None p s = refl
  commands_same (Some form) p s = cond_both (is_taken s.image s.areas (described form s.channels)) _ _ (Same s) (λ is. room_same s) (λ is. refl)

  writes_same : (n w p : ℕ) (s : State) → Same s (writes n w p s)
  writes_same n w p s =
      cond_both (n == SPU_WR_OUT_MBOX) _ _ (Same s) (λ is. cond_both (length s.output == OUTBOX_SIZE) _ _ (Same s) (λ is. refl) (λ is. refl))
      (λ is. cond_both (n == MFC_WR_TAG_UPDATE) _ _ (Same s) (λ is. cond_both (is_update w) _ _ (Same s) (λ is. refl) (λ is. refl))
      (λ is. cond_both (n == MFC_CMD) _ _ (Same s) (λ is. commands_same (form_of w) p s)
      (λ is. cond_both (is_written n) _ _ (Same s) (λ is. refl) (λ is. refl))))

  takes_same : (mail : List ℕ) (t p : ℕ) (s : State) → r ≢ t → Same s (takes mail t p s)
  takes_same [] t p s ne = refl
  takes_same (w ∷ mail) t p s ne = put_other t (quad_of w 0 0 0) s.regs ne

  answers_same : (u : Option ℕ) (t p : ℕ) (s : State) → r ≢ t → Same s (answers u t p s)
  answers_same None t p s ne = refl
  answers_same (Some u) t p s ne = put_other t _ s.regs ne

  reads_same : (n t p : ℕ) (s : State) → r ≢ t → Same s (reads n t p s)
  reads_same n t p s ne =
      cond_both (n == SPU_RD_IN_MBOX) _ _ (Same s) (λ is. takes_same s.mail t p s ne)
      (λ is. cond_both (n == MFC_RD_TAG_STAT) _ _ (Same s) (λ is. answers_same s.update t p s ne)
      (λ is. cond_both (n == MFC_RD_TAG_MASK) _ _ (Same s) (λ is. put_other t (quad_of (s.channels MFC_WR_TAG_MASK) 0 0 0) s.regs ne) (λ is. refl)))

  counts_same : (n t p : ℕ) (s : State) → r ≢ t → Same s (counts n t p s)
  counts_same n t p s ne = cond_both (is_counted n) _ _ (Same s) (λ is. put_other t _ s.regs ne) (λ is. refl)

  differs : (t : ℕ) → (r ≡ t → true ≡ false) → r ≢ t
  differs t h = λ e. clash (h e)
    where
      clash : true ≡ false → ⊥
      clash q = cc

  channel_same : (o : Op) (x : Inst) (p : ℕ) (s : State) → (r ≡ x.rt → channel_writes o ≡ false) → Same s (uses_channel o x p s)
  channel_same op.Wrch x p s h = writes_same x.ra (word_of (s.regs x.rt) 0) p s
  channel_same op.Rdch x p s h = reads_same x.ra x.rt p s (differs x.rt h)
  channel_same _ x p s h = counts_same x.ra x.rt p s (differs x.rt h)

  branch_same : (b : Bool) (q p : ℕ) (s : State) → Same s (cond b (goes q s) (goes p s))
  branch_same true q p s = refl
  branch_same false q p s = refl

  halt_same : (b : Bool) (e : RunEnd) (p : ℕ) (s : State) → Same s (cond b (ends e s) (goes p s))
  halt_same true e p s = refl
  halt_same false e p s = refl

  acts_same : (k : Kind) (x : Inst) (p : ℕ) (s : State) → (r ≡ x.rt → kind_writes k x.op ≡ false) → Same s (acts k x p s)
  acts_same kind.Compute x p s h = put_other x.rt _ s.regs (differs x.rt h)
  acts_same kind.Load x p s h = put_other x.rt _ s.regs (differs x.rt h)
  acts_same kind.Store x p s h = refl
  acts_same kind.Branch x p s h = branch_same _ _ p s
  acts_same kind.Call x p s h = put_other x.rt _ s.regs (differs x.rt h)
  acts_same kind.Indirect x p s h = branch_same _ _ p s
  acts_same kind.PointerCall x p s h = put_other x.rt _ s.regs (differs x.rt h)
  acts_same kind.HaltTest x p s h = halt_same _ _ p s
  acts_same kind.ChannelOp x p s h = channel_same x.op x p s h
  acts_same kind.StopOp x p s h = refl
  acts_same kind.Nothing x p s h = refl

  unless_same : (e : Option RunEnd) (s t : State) → Same s t → Same s (unless_ended e s t)
  unless_same None s t h = h
  unless_same (Some e) s t h = refl

pub step_leaves : (s : State) (x : Inst) (r : ℕ) → decoded (fetch s.store s.pc) ≡ Some x → (r ≡ x.rt → (row_of x.op).writes ≡ false) → (step s).regs r ≡ s.regs r
unfolding step
step_leaves s x r is h =
    unless_same r s.ended s _
    (ap (λ (o : Option Inst). (obeys o s).regs r) is
    ∙ acts_same r (row_of x.op).kind x (code_mask (s.pc + WORD_SIZE)) s (λ e. sym (by_table x.op) ∙ h e))

pub step_leaves_all : (s : State) (r : ℕ) → decoded (fetch s.store s.pc) ≡ None → (step s).regs r ≡ s.regs r
unfolding step
step_leaves_all s r is = unless_same r s.ended s _ (ap (λ (o : Option Inst). (obeys o s).regs r) is)
