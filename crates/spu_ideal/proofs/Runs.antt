-- The start has what is said of states, and so has each state of a run; what follows for register 1, for stores and for
-- the first open call.
use Rattle.std.proofs.Common.{◌≡◌, ℕ, zero, suc, ◌+◌, ◌-◌, ◌%◌, ◌≤◌, ◌^◌, ◌⊎◌, inl, inr, List, [], ◌∷◌, Some, refl, sym, ap, subst, arith, Bool, true, false, ℤ, pos}
use Rattle.std.specs.Prelude.{◌==◌, ◌||◌, map}
use Rattle.std.proofs.lemmas.Int.{ints}
use Rattle.std.proofs.lemmas.Bool.{cond_both}
use Rattle.std.proofs.lemmas.Bool.Decides.{nat_tests}
use Rattle.spu_word.specs.declared.limits.TheConstants.{DATA_START, STACK_TOP, STORE_SIZE}
use Rattle.spu_word.specs.Bytes.{quad_of}
use Rattle.spu_word.specs.declared.load.Inputs.{Inputs}
use Rattle.spu_isa.specs.declared.operation.Op.TheVariants as op
use Rattle.spu_lift.specs.declared.program.Prog.{Prog}
use Rattle.spu_lift.specs.declared.program.Operand.TheVariants as operand
use Rattle.spu_lift.specs.StartCode.{symbolic, of_register}
use Rattle.spu_lift.specs.declared.symbolic.SymByte.TheVariants.{Num}
use Rattle.spu_ideal.specs.Bytes.{numbers, sixteen, known_word}
use Rattle.spu_lift.specs.Places.{instruction_at, place_in, stack_pointer}
use Rattle.spu_frame.specs.Walks.{Holds, Reaches}
use Rattle.spu_ideal.specs.declared.state.OpenCall.{OpenCall}
use Rattle.spu_ideal.specs.State.{Sym}
use Rattle.spu_ideal.specs.Machine.{entry_of, data_byte, start, run}
use Rattle.spu_ideal.specs.Accesses.{entry_pointer, is_data, is_stack, is_allowed}
use Rattle.spu_ideal.specs.States.{IsQuad, IsChain, IsOf, IsJudged}
use Rattle.spu_lift.specs.WellFormed.{IsWellFormed}
use Rattle.spu_ideal.proofs.Lifted.{IsLifted, lifted}
use Rattle.spu_ideal.proofs.Labels.{taken_sixteen, taken_numbers, taken_data, taken_entries}
use Rattle.spu_ideal.proofs.Heights.{start_kinds, start_call, entry_high, pointer_high}
use Rattle.spu_ideal.proofs.Steps.{step_keeps}
use Rattle.spu_frame.proofs.Walks.{reaches_next, reaches_start, adds_none}

-- ---- the start

-- the start code's first two words
first_word : (p : Prog) → IsLifted p → instruction_at p 0 0 ≡ Some (symbolic (of_register op.Lqr 1 (pos 0)) (operand.Number (p.data_end % 2 ^ 32)))
first_word p lifted = ap (λ o. place_in o 0) lifted.start

second_word : (p : Prog) → IsLifted p → instruction_at p 0 1 ≡ Some (symbolic (of_register op.Brsl 0 (pos 0)) (operand.Call p.entry))
second_word p lifted = ap (λ o. place_in o 1) lifted.start

-- the run begins where a walk of the start code reaches place 1
begins : (p : Prog) → IsLifted p → Reaches p 0 1 (pos 0)
begins p lifted =
    reaches_next p 0 0 1 (pos 0) (pos 0) (reaches_start p 0 (_, first_word p lifted))
    (inl (record {
      x = symbolic (of_register op.Lqr 1 (pos 0)) (operand.Number (p.data_end % 2 ^ 32));
      here = first_word p lifted;
      on = refl;
      next = refl;
      y = symbolic (of_register op.Brsl 0 (pos 0)) (operand.Call p.entry);
      there = second_word p lifted;
    }))
    (adds_none p 0 0 (symbolic (of_register op.Lqr 1 (pos 0)) (operand.Number (p.data_end % 2 ^ 32))) (first_word p lifted) (λ c. cc)) (_, second_word p lifted)

-- no `il` stands in the start code
start_holds : (p : Prog) → IsLifted p → (h r a : ℕ) (k : ℤ) → Holds p 0 h r k a → ⊥
start_holds p lifted h r a k held = of_start (start_kinds p lifted h held.x held.here)
  where
    of_start : (held.x.inst.op ≡ op.Lqr) × (h ≡ 0) ⊎ ((held.x.inst.op ≡ op.Brsl) × (held.x.operand ≡ operand.Call p.entry) ⊎ (held.x.inst.op ≡ op.Stop)) → ⊥
    of_start (inl (o, i)) = let il = held.il in cc
    of_start (inr (inl (o, c))) = let il = held.il in cc
    of_start (inr (inr o)) = let il = held.il in cc

top_known : (limit : ℕ) → known_word (numbers (quad_of STACK_TOP limit 0 0)) 0 ≡ Some STACK_TOP
top_known limit = refl

pub start_keeps : (p : Prog) (limit : ℕ) (inputs : Inputs) → IsLifted p → IsOf p (start p limit inputs)
unfolding start IsChain
start_keeps p limit inputs lifted = record {
  labels = λ r. cond_both (r == 1) (numbers (quad_of STACK_TOP limit 0 0)) (sixteen (λ k. Num 0)) (IsQuad p) (λ e. taken_numbers p (quad_of STACK_TOP limit 0 0) refl) (λ e. taken_sixteen p (λ k. Num 0) (λ k lt. tt));
  stored = taken_entries p (map entry_of p.ears) inputs.areas (data_byte p.parts) (taken_data p p.parts lifted.words);
  entry = STACK_TOP;
  chain = (refl, refl);
  placed = (symbolic (of_register op.Brsl 0 (pos 0)) (operand.Call p.entry), second_word p lifted);
  begun = λ z e. omega (arith, e);
  depth = pos 0;
  reached = begins p lifted;
  word = STACK_TOP;
  pointer = top_known limit;
  falls = omega (arith, ints);
  held = λ h r j k held lt le. absurd (start_holds p lifted h r j k held);
}

pub start_of_formed : (p : Prog) (limit : ℕ) (inputs : Inputs) → IsWellFormed p → IsOf p (start p limit inputs)
start_of_formed p limit inputs formed = start_keeps p limit inputs (lifted p formed)

module _ (p : Prog) (frames : ℕ → ℕ) (need : ℕ) (judged : IsJudged p frames need) where
  -- ---- runs

  pub run_keeps : (limit : ℕ) (inputs : Inputs) (n : ℕ) → IsOf p (run p frames limit inputs n)
  unfolding run
  run_keeps limit inputs zero = start_keeps p limit inputs (lifted p judged.formed)
  run_keeps limit inputs (suc n) = step_keeps p frames need judged (run p frames limit inputs n) (run_keeps limit inputs n)

  -- word 0 of register 1 is a number, and at least what the need leaves
  pub run_high : (limit : ℕ) (inputs : Inputs) (n : ℕ) → (w : ℕ) × (known_word ((run p frames limit inputs n).regs stack_pointer) 0 ≡ Some w) × (STACK_TOP - need ≤ w)
  run_high limit inputs n =
      let inv = run_keeps limit inputs n in
      let high = pointer_high p frames need judged (run p frames limit inputs n) inv in
      (inv.word, inv.pointer, omega (arith, high))

  -- ---- stores

  -- the innermost entry pointer
  entry_is : (calls : List OpenCall) (g entry : ℕ) → IsChain p calls g entry → entry_pointer calls ≡ Some entry
  unfolding IsChain
  entry_is [] g entry (z, e) = ap Some (sym e)
  entry_is (c ∷ cs) g entry (outer, o, rest) = o.pointer

  -- what a function may touch of the stack lies in the stack area
  pub stack_inside : (s : Sym) → IsOf p s → (limit : ℕ) → need ≤ limit → (a n : ℕ) → is_stack (entry_pointer s.calls) (frames s.f) a n ≡ true
      → (STACK_TOP - limit ≤ a) × (a + n ≤ STORE_SIZE)
  stack_inside s inv limit least a n t =
      let is = entry_is s.calls s.f inv.entry inv.chain in
      let high = entry_high p frames need judged s.calls s.f inv.entry inv.chain in
      let some : is_stack (Some inv.entry) (frames s.f) a n ≡ true = subst (λ o. is_stack o (frames s.f) a n ≡ true) is t in
      within inv.entry (frames s.f) some high
    where
      within : (entry frame : ℕ) → is_stack (Some entry) frame a n ≡ true → STACK_TOP + frame ≤ entry + need → (STACK_TOP - limit ≤ a) × (a + n ≤ STORE_SIZE)
      within entry frame some high = grind (arith, nat_tests)

  -- a load or store that is allowed lies in the data or in the stack area
  pub allowed_inside : (limit : ℕ) (inputs : Inputs) (n a size : ℕ) → need ≤ limit → is_allowed p frames (run p frames limit inputs n) a size ≡ true
      → ((DATA_START ≤ a) × (a + size ≤ p.data_end)) ⊎ ((STACK_TOP - limit ≤ a) × (a + size ≤ STORE_SIZE))
  allowed_inside limit inputs n a size least t = by_data (is_data p a size) refl
    where
      s : Sym
      s = run p frames limit inputs n

      by_data : (b : Bool) → is_data p a size ≡ b → ((DATA_START ≤ a) × (a + size ≤ p.data_end)) ⊎ ((STACK_TOP - limit ≤ a) × (a + size ≤ STORE_SIZE))
      by_data true e = inl (grind (arith, nat_tests))
      by_data false e =
          inr (stack_inside s (run_keeps limit inputs n) limit least a size
          (subst (λ b. (b || is_stack (entry_pointer s.calls) (frames s.f) a size) ≡ true) e t))

  -- ---- open calls

  -- the first call of those that are open
  abbrev first_of : OpenCall → List OpenCall → OpenCall
  first_of c [] = c
  first_of c (d ∷ ds) = first_of d ds

  -- it returns to place 2 of function 0
  pub first_return : (c : OpenCall) (cs : List OpenCall) (g entry : ℕ) → IsChain p (c ∷ cs) g entry → ((first_of c cs).f ≡ 0) × ((first_of c cs).i ≡ 2)
  unfolding IsChain
  first_return c [] g entry (outer, o, (z, e)) =
      let at = start_call p (lifted p judged.formed) o.at o.callee o.x (subst (λ v. instruction_at p v o.at ≡ Some o.x) z o.here) o.call in
      let next = o.next in
      (z, omega (arith, at, next))
  first_return c (d ∷ ds) g entry (outer, o, rest) = first_return d ds c.f outer rest
