-- An instruction that computes keeps what holds of a state; where it writes register 1, that is a known write.
use Rattle.std.proofs.Common.{◌≡◌, ℕ, ◌+◌, ◌-◌, ◌%◌, ◌<◌, ◌≤◌, ◌^◌, ◌⊎◌, inl, inr, List, Some, refl, sym, ap, ◌∙◌, subst, arith, true, ℤ, pos, negsuc}
use Rattle.std.specs.Prelude.{◌+ℤ◌, ◌-ℤ◌, ◌≤ℤ◌}
use Rattle.std.proofs.lemmas.Int.{ints}
use Rattle.std.proofs.lemmas.Bool.{cond-true, eq-eqb}
use Rattle.spu_word.specs.declared.limits.TheConstants.{MAX_STACK_LIMIT, STACK_TOP}
use Rattle.spu_isa.specs.declared.operation.Op.TheVariants as op
use Rattle.spu_isa.specs.declared.operation.Kind.TheVariants as kind
use Rattle.spu_isa.specs.declared.instruction.Inst.{Inst}
use Rattle.spu_isa.specs.Table.{row_of}
use Rattle.spu_exec.specs.Lanes.{immediate}
use Rattle.spu_lift.specs.declared.program.SymInst.{SymInst}
use Rattle.spu_lift.specs.declared.program.Prog.{Prog}
use Rattle.spu_lift.specs.declared.program.Operand.{Operand}
use Rattle.spu_lift.specs.declared.program.Operand.TheVariants as operand
use Rattle.spu_lift.specs.declared.symbolic.SymByte.{SymByte}
use Rattle.spu_ideal.specs.Bytes.{known_word}
use Rattle.spu_lift.specs.Places.{instruction_at, kind_of, Writes, stack_pointer}
use Rattle.spu_frame.specs.Walks.{IsKnownWrite, AddsImmediate, AddsRegister, Adds, goes_on}
use Rattle.spu_ideal.specs.State.{Sym, sets}
use Rattle.spu_ideal.specs.Machine.{leaves}
use Rattle.spu_ideal.specs.States.{IsQuad, IsOf, IsJudged}
use Rattle.spu_ideal.proofs.Known.{adds, plain_value, computed, il_word, ai_word, a_word, added}
use Rattle.spu_ideal.proofs.Lifted.{lifted}
use Rattle.spu_ideal.proofs.Rows.{compute_writes}
use Rattle.spu_ideal.proofs.Labels.{taken_result}
use Rattle.spu_ideal.proofs.Heights.{within_frame_after, entry_high, entry_low}
use Rattle.spu_ideal.proofs.Within.{sets_keeps, sets_other}
use Rattle.spu_frame.proofs.Walks.{same_instruction, known_kind}
use Rattle.spu_frame.proofs.Additions.{nat_equal}

-- an instruction with its own fields that moves nothing
plain_is : (o : Operand) (x : Inst) (a b c t : List SymByte) → o ≡ operand.Plain → adds x.op ≡ true → leaves o x a b c t ≡ computed x a b c t
plain_is o x a b c t e m = ap (λ v. leaves v x a b c t) e ∙ plain_value x a b c t x.op refl m

nat_of : (z : ℤ) → pos 0 ≤ℤ z → (m : ℕ) × (z ≡ pos m)
nat_of (pos m) h = (m, refl)
nat_of (negsuc m) h = absurd (omega (arith, ints, h))

module _ (p : Prog) (frames : ℕ → ℕ) (need : ℕ) (judged : IsJudged p frames need) (s : Sym) (inv : IsOf p s) (x : SymInst) (here : instruction_at p s.f s.i ≡ Some x) where
  -- a function other than 0 writes register 1 by additions alone
  pub write_computes : (s.f ≡ 0 → ⊥) → Writes x stack_pointer → kind_of x ≡ kind.Compute
  write_computes other writes =
      let known = judged.good.known s.f s.i x other here writes in
      of_known (known_kind p s.f s.i known.0 x known.1 here)
    where
      of_known : (x.inst.op ≡ op.Ai) ⊎ (x.inst.op ≡ op.A) → kind_of x ≡ kind.Compute
      of_known (inl e) = ap (λ o. (row_of o).kind) e
      of_known (inr e) = ap (λ o. (row_of o).kind) e

  module _ (computing : kind_of x ≡ kind.Compute) where
    abbrev value : List SymByte
    value = leaves x.operand x.inst (s.regs x.inst.ra) (s.regs x.inst.rb) (s.regs x.inst.rc) (s.regs x.inst.rt)

    on : goes_on (kind_of x) x.inst.op ≡ true
    on = ap (λ k. goes_on k x.inst.op) computing

    writes : (row_of x.inst.op).writes ≡ true
    writes = compute_writes x.inst.op computing

    labels : IsQuad p value
    labels = taken_result p x.operand x.inst _ _ _ _ (λ l e. (lifted p judged.formed).operands s.f s.i x l here e) (inv.labels x.inst.ra) (inv.labels x.inst.rb) (inv.labels x.inst.rc) (inv.labels x.inst.rt)

    il : x.inst.op ≡ op.Il → x.operand ≡ operand.Plain → known_word value 0 ≡ Some (immediate 4 x.inst.imm)
    il e plain = ap (λ q. known_word q 0) (plain_is x.operand x.inst _ _ _ _ plain (ap adds e)) ∙ il_word x.inst _ _ _ _ e

    -- the new word 0 of register 1
    moved : (k : ℤ) (word : ℕ) → IsKnownWrite p s.f s.i k → pos word ≡ pos inv.word +ℤ k → inv.word < 2 ^ 32 → word < 2 ^ 32 → known_word value 0 ≡ Some word
    moved k word w sum low small =
        let same : w.x ≡ x = same_instruction _ _ _ w.here here in
        by_form (subst (λ y. AddsImmediate y k ⊎ AddsRegister p s.f s.i y k) same w.form)
      where
        by_form : AddsImmediate x k ⊎ AddsRegister p s.f s.i x k → known_word value 0 ≡ Some word
        by_form (inl a) =
            ap (λ q. known_word q 0) (plain_is x.operand x.inst _ _ _ _ a.plain (ap adds a.ai))
            ∙ ai_word x.inst _ _ _ _ inv.word a.ai (ap (λ r. known_word (s.regs r) 0) a.from ∙ inv.pointer)
            ∙ ap Some (ap (λ v. (inv.word + immediate 4 v) % 2 ^ 32) a.number ∙ added inv.word word k sum low small)
        by_form (inr a) =
            ap (λ q. known_word q 0) (plain_is x.operand x.inst _ _ _ _ a.plain (ap adds a.a))
            ∙ a_word x.inst _ _ _ _ inv.word (immediate 4 k) a.a (ap (λ r. known_word (s.regs r) 0) a.from ∙ inv.pointer)
            (inv.held a.at x.inst.rb s.i k a.held a.held.before (omega arith))
            ∙ ap Some (added inv.word word k sum low small)

    moves_pointer : (s.f ≡ 0 → ⊥) → x.inst.rt ≡ 1 → IsOf p (sets p x.inst.rt value s)
    moves_pointer other is =
        let known = judged.good.known s.f s.i x other here (writes, is) in
        let k = known.0 in
        let adds : Adds p s.f s.i (pos 0 -ℤ k) = inl (k, known.1, refl) in
        let positive = (judged.good.range s.f s.i (inv.depth +ℤ (pos 0 -ℤ k)) (inr (inv.depth, pos 0 -ℤ k, inv.reached, adds, refl))).0 in
        let most = within_frame_after p frames need judged s.f s.i inv.depth (pos 0 -ℤ k) inv.reached adds in
        let high = entry_high p frames need judged s.calls s.f inv.entry inv.chain in
        let low = entry_low p frames need judged s.calls s.f inv.entry inv.chain in
        let before = (judged.good.range s.f s.i inv.depth (inl inv.reached)).0 in
        let after = nat_of (inv.depth +ℤ (pos 0 -ℤ k)) positive in
        let limit = judged.limit in
        let falls = inv.falls in
        ends_at k known.1 adds after.0 after.1 (omega (arith, ints, most, after.1)) high low before limit falls
      where
        ends_at : (k : ℤ) → IsKnownWrite p s.f s.i k → Adds p s.f s.i (pos 0 -ℤ k) → (m : ℕ) → inv.depth +ℤ (pos 0 -ℤ k) ≡ pos m → m ≤ frames s.f
            → STACK_TOP + frames s.f ≤ inv.entry + need → inv.entry ≤ STACK_TOP → pos 0 ≤ℤ inv.depth → need ≤ MAX_STACK_LIMIT → pos inv.word ≡ pos inv.entry -ℤ inv.depth
            → IsOf p (sets p x.inst.rt value s)
        ends_at k w adds m e most high low before limit falls =
            sets_keeps p s inv x here s inv.stored value (pos 0 -ℤ k) (inv.entry - m) on writes labels adds
            (ap (λ q. known_word q 0) (cond-true _ _ _ (eq-eqb 1 x.inst.rt (sym is))) ∙ moved k (inv.entry - m) w (omega (arith, ints, e, most, high, limit, falls)) (omega (arith, ints, falls, low, before)) (omega (arith, low)))
            (omega (arith, ints, e, most, high, limit)) il

    pub compute_keeps : (s.f ≡ 0 → ⊥) → IsOf p (sets p x.inst.rt value s)
    compute_keeps other = by_register (nat_equal x.inst.rt 1)
      where
        by_register : (x.inst.rt ≡ 1) ⊎ (x.inst.rt ≡ 1 → ⊥) → IsOf p (sets p x.inst.rt value s)
        by_register (inl is) = moves_pointer other is
        by_register (inr ne) = sets_other p s inv x here s inv.stored value on writes ne labels il
