-- Calls, returns and jumps to another function keep what holds of a state.
use Rattle.std.proofs.Common.{◌≡◌, ℕ, ◌+◌, inl, inr, List, [], ◌∷◌, Some, refl, sym, ap, subst, arith, true, false, pos}
use Rattle.std.specs.Prelude.{◌+ℤ◌}
use Rattle.std.proofs.lemmas.Int.{ints}
use Rattle.std.proofs.lemmas.Bool.{cond_both}
use Rattle.spu_isa.specs.declared.operation.Kind.TheVariants as kind
use Rattle.spu_lift.specs.declared.program.SymInst.{SymInst}
use Rattle.spu_lift.specs.declared.program.Prog.{Prog}
use Rattle.spu_ideal.specs.declared.ending.Reason.TheVariants as reason
use Rattle.spu_lift.specs.declared.symbolic.SymByte.{SymByte}
use Rattle.spu_ideal.specs.Bytes.{link_of, known_word, is_link}
use Rattle.spu_lift.specs.Places.{instruction_at, kind_of}
use Rattle.spu_frame.specs.Walks.{goes_on, leads_away}
use Rattle.spu_graph.specs.declared.graph.Edge.{Edge}
use Rattle.spu_graph.specs.Paths.{IsPath}
use Rattle.spu_ideal.specs.Edges.{Calls, Jumps, IsEdge}
use Rattle.spu_ideal.specs.declared.state.OpenCall.{OpenCall}
use Rattle.spu_ideal.specs.State.{Sym, put, forgets, outside, goes}
use Rattle.spu_ideal.specs.Machine.{calls, returns, jumps}
use Rattle.spu_ideal.specs.States.{IsOpen, IsChain, IsOf}
use Rattle.spu_ideal.proofs.Labels.{taken_put, taken_forgotten, taken_link}
use Rattle.spu_ideal.proofs.Within.{ends_keeps, goes_keeps, fresh_start, fresh_after}
use Rattle.spu_frame.proofs.Walks.{reaches_next, reaches_start, adds_none}

-- what calls is no addition, goes on at the next place in its walk, and leads away
call_adds : (p : Prog) (x : SymInst) (g : ℕ) → Calls p x g → kind_of x ≡ kind.Compute → ⊥
call_adds p x g (inl (k, o)) e = cc
call_adds p x g (inr (k, o)) e = cc

call_goes_on : (p : Prog) (x : SymInst) (g : ℕ) → Calls p x g → goes_on (kind_of x) x.inst.op ≡ true
call_goes_on p x g (inl (k, o)) = ap (λ v. goes_on v x.inst.op) k
call_goes_on p x g (inr (k, o)) = ap (λ v. goes_on v x.inst.op) k

call_leads_away : (p : Prog) (x : SymInst) (g : ℕ) → Calls p x g → leads_away (kind_of x) ≡ true
call_leads_away p x g (inl (k, o)) = ap leads_away k
call_leads_away p x g (inr (k, o)) = ap leads_away k

-- a call opens one more call
pub calls_keeps : (p : Prog) (s : Sym) (inv : IsOf p s) (x : SymInst) → instruction_at p s.f s.i ≡ Some x → (g : ℕ) → Calls p x g → (g ≡ 0 → ⊥) → IsOf p (calls p g s)
unfolding IsChain IsPath
calls_keeps p s inv x here g call other =
    let c : OpenCall = record { f = s.f; i = s.i + 1; pointer = known_word (s.regs 1) 0 } in
    let open_call : IsOpen p c g inv.word inv.entry = record {
      function = other;
      pointer = inv.pointer;
      at = s.i;
      next = refl;
      depth = inv.depth;
      reached = inv.reached;
      x = x;
      here = here;
      callee = g;
      call = call;
      jumps = [];
      path = refl;
      falls = inv.falls;
    } in
    let regs : ℕ → List SymByte = put 0 (link_of s.f (s.i + 1)) s.regs in
    goes_keeps p s (forgets (record s { regs = regs; calls = c ∷ s.calls })) g 0 inv (λ y there. record {
      labels = taken_forgotten p regs (taken_put p 0 (link_of s.f (s.i + 1)) s.regs (taken_link p s.f (s.i + 1) (record { at = s.i; x = x; here = here; next = refl })) inv.labels);
      stored = inv.stored;
      entry = inv.word;
      chain = (inv.entry, open_call, inv.chain);
      placed = (y, there);
      begun = λ z e. other z;
      depth = pos 0;
      reached = reaches_start p g (y, there);
      word = inv.word;
      pointer = inv.pointer;
      falls = omega (arith, ints);
      held = λ h r a k held lt le. absurd (fresh_start p g h r a k held lt le);
    })

-- a return closes the innermost one
pub returns_keeps : (p : Prog) (s : Sym) (inv : IsOf p s) → inv.depth ≡ pos 0 → (cs : List OpenCall) → s.calls ≡ cs → IsOf p (returns p cs s)
unfolding IsChain
returns_keeps p s inv level [] e = ends_keeps p s _ inv
returns_keeps p s inv level (c ∷ cs) e =
    cond_both (is_link c.f c.i (s.regs 0)) (goes p c.f c.i s (forgets (record s { calls = cs }))) (outside reason.Target s) (IsOf p) (λ t. closes (subst (λ l. IsChain p l s.f inv.entry) e inv.chain)) (λ t. ends_keeps p s _ inv)
  where
    closes : (outer : ℕ) × IsOpen p c s.f inv.entry outer × IsChain p cs c.f outer → IsOf p (goes p c.f c.i s (forgets (record s { calls = cs })))
    closes (outer, o, rest) =
        let falls = inv.falls in
        let fell = o.falls in
        let next = o.next in
        let fresh = fresh_after p c.f o.at o.x o.here (call_leads_away p o.x o.callee o.call) in
        goes_keeps p s (forgets (record s { calls = cs })) c.f c.i inv (λ y there. record {
          labels = taken_forgotten p s.regs inv.labels;
          stored = inv.stored;
          entry = outer;
          chain = rest;
          placed = (y, there);
          begun = λ z i. omega (arith, next, i);
          depth = o.depth +ℤ pos 0;
          reached = reaches_next p c.f o.at c.i o.depth (pos 0) o.reached
              (inl (record { x = o.x; here = o.here; on = call_goes_on p o.x o.callee o.call; next = o.next; y = y; there = there }))
              (adds_none p c.f o.at o.x o.here (call_adds p o.x o.callee o.call)) (y, there);
          word = inv.word;
          pointer = inv.pointer;
          falls = omega (arith, ints, falls, fell, level);
          held = λ h r a k held lt le. absurd (fresh h r a k held (omega (arith, next, lt)) (omega (arith, next, le)));
        })

-- a jump to another function leaves the open calls
pub leaves_keeps : (p : Prog) (s : Sym) (inv : IsOf p s) → inv.depth ≡ pos 0 → (x : SymInst) → instruction_at p s.f s.i ≡ Some x
    → (g : ℕ) → Jumps p s.f x g → (g ≡ 0 → ⊥) → (cs : List OpenCall) → s.calls ≡ cs → IsOf p (jumps p g cs s)
unfolding IsChain IsPath
leaves_keeps p s inv level x here g jump other [] e = ends_keeps p s _ inv
leaves_keeps p s inv level x here g jump other (c ∷ cs) e =
    cond_both (is_link c.f c.i (s.regs 0)) (goes p g 0 s (forgets s)) (outside reason.Target s) (IsOf p) (λ t. moves (subst (λ l. IsChain p l s.f inv.entry) e inv.chain)) (λ t. ends_keeps p s _ inv)
  where
    moves : (outer : ℕ) × IsOpen p c s.f inv.entry outer × IsChain p cs c.f outer → IsOf p (goes p g 0 s (forgets s))
    moves (outer, o, rest) =
        let falls = inv.falls in
        let edge : Edge = record { from = s.f; to = g; call = false } in
        let is : IsEdge p edge = record { at = s.i; depth = inv.depth; reached = inv.reached; x = x; here = here; leads = inr (refl, jump) } in
        let moved : IsOpen p c g inv.entry outer = record {
          function = other;
          pointer = o.pointer;
          at = o.at;
          next = o.next;
          depth = o.depth;
          reached = o.reached;
          x = o.x;
          here = o.here;
          callee = o.callee;
          call = o.call;
          jumps = edge ∷ o.jumps;
          path = ((is, refl), refl, o.path);
          falls = o.falls;
        } in
        goes_keeps p s (forgets s) g 0 inv (λ y there. record {
          labels = taken_forgotten p s.regs inv.labels;
          stored = inv.stored;
          entry = inv.entry;
          chain = subst (λ l. IsChain p l g inv.entry) (sym e) (outer, moved, rest);
          placed = (y, there);
          begun = λ z i. other z;
          depth = pos 0;
          reached = reaches_start p g (y, there);
          word = inv.word;
          pointer = inv.pointer;
          falls = omega (arith, ints, falls, level);
          held = λ h r a k held lt le. absurd (fresh_start p g h r a k held lt le);
        })
