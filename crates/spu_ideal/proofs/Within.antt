-- Steps within a function keep what holds of a state.
use Rattle.std.proofs.Common.{◌≡◌, ℕ, ◌+◌, ◌<◌, ◌≤◌, ◌⊎◌, inl, inr, List, Option, Some, None, refl, sym, ap, ◌∙◌, subst, arith, true, false, ℤ, pos}
use Rattle.std.specs.Prelude.{◌+ℤ◌, ◌-ℤ◌}
use Rattle.std.proofs.lemmas.Int.{ints}
use Rattle.std.proofs.lemmas.Bool.{cond-true, cond-false, ne_eqb, eq-eqb}
use Rattle.spu_isa.specs.declared.operation.Op.TheVariants as op
use Rattle.spu_isa.specs.declared.operation.Kind.TheVariants as kind
use Rattle.spu_isa.specs.Table.{row_of}
use Rattle.spu_exec.specs.Lanes.{immediate}
use Rattle.spu_lift.specs.declared.program.SymInst.{SymInst}
use Rattle.spu_lift.specs.declared.program.Prog.{Prog}
use Rattle.spu_lift.specs.declared.program.Operand.TheVariants as operand
use Rattle.spu_ideal.specs.declared.ending.IdealEnd.{IdealEnd}
use Rattle.spu_lift.specs.declared.symbolic.SymByte.{SymByte}
use Rattle.spu_ideal.specs.Bytes.{known_word}
use Rattle.spu_lift.specs.Places.{instruction_at, kind_of, Writes, IsTarget, stack_pointer}
use Rattle.spu_frame.specs.Walks.{Holds, Adds, goes_on, leads_away, Follows}
use Rattle.spu_ideal.specs.State.{Sym, put, ends, goes_to, goes}
use Rattle.spu_ideal.specs.States.{IsTaken, IsQuad, IsOf}
use Rattle.spu_ideal.proofs.Lifted.{IsLifted}
use Rattle.spu_ideal.proofs.Labels.{RegsTaken, taken_put}
use Rattle.spu_ideal.proofs.Heights.{start_kinds}
use Rattle.spu_frame.proofs.Walks.{same_instruction, reaches_next, adds_none, adds_other}

-- a step that ends the run changes nothing else
pub ends_keeps : (p : Prog) (s : Sym) (e : IdealEnd) → IsOf p s → IsOf p (ends e s)
ends_keeps p s e inv = record {
  labels = inv.labels;
  stored = inv.stored;
  entry = inv.entry;
  chain = inv.chain;
  placed = inv.placed;
  begun = inv.begun;
  depth = inv.depth;
  reached = inv.reached;
  word = inv.word;
  pointer = inv.pointer;
  falls = inv.falls;
  held = inv.held;
}

-- on to a place, or an end before it
pub goes_keeps : (p : Prog) (s new : Sym) (f i : ℕ) → IsOf p s
    → ((y : SymInst) → instruction_at p f i ≡ Some y → IsOf p (record new { f = f; i = i; steps = s.steps + 1 })) → IsOf p (goes p f i s new)
goes_keeps p s new f i inv go = by_word (instruction_at p f i) refl
  where
    by_word : (o : Option SymInst) → instruction_at p f i ≡ o → IsOf p (goes_to o f i s new)
    by_word None e = ends_keeps p s _ inv
    by_word (Some y) e = go y e

-- the start code has calls and a stop alone from place 1 on
pub not_start : (p : Prog) → IsLifted p → (s : Sym) → (s.f ≡ 0 → s.i ≡ 0 → ⊥) → (x : SymInst) → instruction_at p s.f s.i ≡ Some x
    → (kind_of x ≡ kind.Call → ⊥) → (kind_of x ≡ kind.StopOp → ⊥) → s.f ≡ 0 → ⊥
not_start p lifted s begun x here call stop z = of_start (start_kinds p lifted s.i x (subst (λ v. instruction_at p v s.i ≡ Some x) z here))
  where
    of_start : (x.inst.op ≡ op.Lqr) × (s.i ≡ 0) ⊎ ((x.inst.op ≡ op.Brsl) × (x.operand ≡ operand.Call p.entry) ⊎ (x.inst.op ≡ op.Stop)) → ⊥
    of_start (inl (o, i)) = begun z i
    of_start (inr (inl (o, c))) = call (ap (λ v. (row_of v).kind) o)
    of_start (inr (inr o)) = stop (ap (λ v. (row_of v).kind) o)

-- ---- what an `il` left

-- no `il` holds across this place
abbrev pub IsFresh : Prog → ℕ → ℕ → Type 0
IsFresh p f j = (h r a : ℕ) (k : ℤ) → Holds p f h r k a → h < j → j ≤ a → ⊥

pub fresh_target : (p : Prog) (f j : ℕ) → IsTarget p f j → IsFresh p f j
fresh_target p f j t h r a k held lt le = held.alone j lt le t

pub fresh_start : (p : Prog) (f : ℕ) → IsFresh p f 0
fresh_start p f h r a k held lt le = omega (arith, lt)

-- an `il` computes
il_kind : (p : Prog) (f h r a : ℕ) (k : ℤ) (x : SymInst) → Holds p f h r k a → instruction_at p f h ≡ Some x → kind_of x ≡ kind.Compute
il_kind p f h r a k x held here = ap kind_of (same_instruction _ _ _ here held.here) ∙ ap (λ o. (row_of o).kind) held.il

-- none holds across the return place of a call
pub fresh_after : (p : Prog) (f i : ℕ) (x : SymInst) → instruction_at p f i ≡ Some x → leads_away (kind_of x) ≡ true → IsFresh p f (i + 1)
fresh_after p f i x here away h r a k held lt le = by_place (nat_cases h i (omega arith))
  where
    nat_cases : (m n : ℕ) → m ≤ n → (m < n) ⊎ (m ≡ n)
    nat_cases m n le = grind arith

    by_place : (h < i) ⊎ (h ≡ i) → ⊥
    by_place (inl below) = let straight = held.straight i x below (omega arith) here in cc
    by_place (inr same) =
        let is = il_kind p f h r a k x held (subst (λ v. instruction_at p f v ≡ Some x) (sym same) here) in
        let so : leads_away (kind_of x) ≡ false = ap leads_away is in cc

-- what an `il` left at the place after x, which may be that `il`
pub held_next : (p : Prog) (s : Sym) (regs : ℕ → List SymByte) → IsOf p s → (x : SymInst) → instruction_at p s.f s.i ≡ Some x
    → ((r : ℕ) → (Writes x r → ⊥) → known_word (regs r) 0 ≡ known_word (s.regs r) 0)
    → (x.inst.op ≡ op.Il → x.operand ≡ operand.Plain → known_word (regs x.inst.rt) 0 ≡ Some (immediate 4 x.inst.imm))
    → (h r a : ℕ) (k : ℤ) → Holds p s.f h r k a → h < s.i + 1 → s.i + 1 ≤ a → known_word (regs r) 0 ≡ Some (immediate 4 k)
held_next p s regs inv x here same left h r a k held lt le = by_place (nat_cases h s.i (omega arith))
  where
    nat_cases : (m n : ℕ) → m ≤ n → (m < n) ⊎ (m ≡ n)
    nat_cases m n le = grind arith

    by_place : (h < s.i) ⊎ (h ≡ s.i) → known_word (regs r) 0 ≡ Some (immediate 4 k)
    by_place (inl below) = same r (held.kept s.i x below (omega arith) here) ∙ inv.held h r a k held below (omega arith)
    by_place (inr at) =
        let is : held.x ≡ x = same_instruction _ _ _ held.here (subst (λ v. instruction_at p s.f v ≡ Some x) (sym at) here) in
        let word = left (ap (λ y. y.inst.op) (sym is) ∙ held.il) (ap (λ y. y.operand) (sym is) ∙ held.plain) in
        let rt : x.inst.rt ≡ r = ap (λ y. y.inst.rt) (sym is) ∙ held.register in
        let number : x.inst.imm ≡ k = ap (λ y. y.inst.imm) (sym is) ∙ held.number in
        ap (λ v. known_word (regs v) 0) (sym rt) ∙ word ∙ ap (λ v. Some (immediate 4 v)) number

-- ---- steps within the function

-- on to place j of the same function, with other registers and store
pub stays : (p : Prog) (s new : Sym) (inv : IsOf p s) (j k : ℕ) (c : ℤ) (word : ℕ) → (y : SymInst) → instruction_at p s.f j ≡ Some y → Follows p s.f s.i j → Adds p s.f s.i c
    → (s.f ≡ 0 → j ≡ 0 → ⊥) → RegsTaken p new.regs → ((a : ℕ) → IsTaken p (new.store a))
    → known_word (new.regs stack_pointer) 0 ≡ Some word → pos word ≡ pos inv.entry -ℤ (inv.depth +ℤ c)
    → ((h r a : ℕ) (k : ℤ) → Holds p s.f h r k a → h < j → j ≤ a → known_word (new.regs r) 0 ≡ Some (immediate 4 k))
    → IsOf p (record new { f = s.f; i = j; calls = s.calls; steps = k })
stays p s new inv j k c word y there follows adds begun labels stored pointer falls held = record {
  labels = labels;
  stored = stored;
  entry = inv.entry;
  chain = inv.chain;
  placed = (y, there);
  begun = begun;
  depth = inv.depth +ℤ c;
  reached = reaches_next p s.f s.i j inv.depth c inv.reached follows adds (y, there);
  word = word;
  pointer = pointer;
  falls = falls;
  held = held;
}

module _ (p : Prog) (s : Sym) (inv : IsOf p s) (x : SymInst) (here : instruction_at p s.f s.i ≡ Some x) where
  -- to the next place with the registers as they are
  pub passes : (new : Sym) → goes_on (kind_of x) x.inst.op ≡ true → (kind_of x ≡ kind.Compute → ⊥) → ((a : ℕ) → IsTaken p (new.store a))
      → IsOf p (goes p s.f (s.i + 1) s (record new { regs = s.regs; calls = s.calls }))
  passes new on ne stored =
      let falls = inv.falls in
      goes_keeps p s (record new { regs = s.regs; calls = s.calls }) s.f (s.i + 1) inv (λ y there.
      stays p s (record new { regs = s.regs; calls = s.calls }) inv (s.i + 1) (s.steps + 1) (pos 0) inv.word y there
      (inl (record { x = x; here = here; on = on; next = refl; y = y; there = there })) (adds_none p s.f s.i x here ne)
      (λ z e. omega (arith, e)) inv.labels stored inv.pointer (omega (arith, ints, falls))
      (held_next p s s.regs inv x here (λ r w. refl) (λ il plain. absurd (ne (ap (λ o. (row_of o).kind) il)))))

  -- to a target of the same function
  pub turns : (new : Sym) (j : ℕ) → Follows p s.f s.i j → IsTarget p s.f j → (s.f ≡ 0 → ⊥) → (kind_of x ≡ kind.Compute → ⊥)
      → RegsTaken p new.regs → known_word (new.regs stack_pointer) 0 ≡ known_word (s.regs stack_pointer) 0
      → IsOf p (goes p s.f j s (record new { store = s.store; calls = s.calls }))
  turns new j follows target other ne labels pointer =
      let falls = inv.falls in
      goes_keeps p s (record new { store = s.store; calls = s.calls }) s.f j inv (λ y there.
      stays p s (record new { store = s.store; calls = s.calls }) inv j (s.steps + 1) (pos 0) inv.word y there follows (adds_none p s.f s.i x here ne)
      (λ z e. other z) labels inv.stored (pointer ∙ inv.pointer) (omega (arith, ints, falls))
      (λ h r a k held lt le. absurd (fresh_target p s.f j target h r a k held lt le)))

  put_other : (t r : ℕ) (quad : List SymByte) (regs : ℕ → List SymByte) → (t ≡ r → ⊥) → put t quad regs r ≡ regs r
  put_other t r quad regs ne = cond-false _ _ _ (ne_eqb _ _ (λ e. ne (sym e)))

  put_same : (t : ℕ) (quad : List SymByte) (regs : ℕ → List SymByte) → put t quad regs t ≡ quad
  put_same t quad regs = cond-true _ _ _ (eq-eqb t t refl)

  -- to the next place with another value in a register
  pub sets_keeps : (new : Sym) → ((a : ℕ) → IsTaken p (new.store a)) → (quad : List SymByte) (c : ℤ) (word : ℕ) → goes_on (kind_of x) x.inst.op ≡ true → (row_of x.inst.op).writes ≡ true
      → IsQuad p quad → Adds p s.f s.i c → known_word (put x.inst.rt quad s.regs stack_pointer) 0 ≡ Some word → pos word ≡ pos inv.entry -ℤ (inv.depth +ℤ c)
      → (x.inst.op ≡ op.Il → x.operand ≡ operand.Plain → known_word quad 0 ≡ Some (immediate 4 x.inst.imm))
      → IsOf p (goes p s.f (s.i + 1) s (record new { regs = put x.inst.rt quad s.regs; calls = s.calls }))
  sets_keeps new stored quad c word on writes taken adds pointer falls il =
      let next : Sym = record new { regs = put x.inst.rt quad s.regs; calls = s.calls } in
      goes_keeps p s next s.f (s.i + 1) inv (λ y there.
      stays p s next inv (s.i + 1) (s.steps + 1) c word y there
      (inl (record { x = x; here = here; on = on; next = refl; y = y; there = there })) adds
      (λ z e. omega (arith, e)) (taken_put p x.inst.rt quad s.regs taken inv.labels) stored pointer falls
      (held_next p s (put x.inst.rt quad s.regs) inv x here
      (λ r w. ap (λ q. known_word q 0) (put_other x.inst.rt r quad s.regs (λ e. w (writes, e))))
      (λ op plain. ap (λ q. known_word q 0) (put_same x.inst.rt quad s.regs) ∙ il op plain)))

  -- a register other than register 1
  pub sets_other : (new : Sym) → ((a : ℕ) → IsTaken p (new.store a)) → (quad : List SymByte) → goes_on (kind_of x) x.inst.op ≡ true → (row_of x.inst.op).writes ≡ true → (x.inst.rt ≡ 1 → ⊥)
      → IsQuad p quad → (x.inst.op ≡ op.Il → x.operand ≡ operand.Plain → known_word quad 0 ≡ Some (immediate 4 x.inst.imm))
      → IsOf p (goes p s.f (s.i + 1) s (record new { regs = put x.inst.rt quad s.regs; calls = s.calls }))
  sets_other new stored quad on writes ne taken il =
      let falls = inv.falls in
      sets_keeps new stored quad (pos 0) inv.word on writes taken (adds_other p s.f s.i x here ne)
      (ap (λ q. known_word q 0) (put_other x.inst.rt 1 quad s.regs ne) ∙ inv.pointer) (omega (arith, ints, falls)) il
