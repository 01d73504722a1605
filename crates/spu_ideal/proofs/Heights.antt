-- The open calls lie on a path from the entry, so each entry pointer is at least what the need leaves.
use Rattle.std.proofs.Common.{◌≡◌, ℕ, zero, suc, ◌+◌, ◌%◌, ◌≤◌, ◌^◌, ◌⊎◌, inl, inr, List, [], ◌∷◌, ◌++◌, Option, Some, None, refl, sym, ap, ap₂, ◌∙◌, subst, zero-add, arith, true, ℤ, pos}
use Rattle.std.specs.Prelude.{◌+ℤ◌, ◌≤ℤ◌}
use Rattle.std.proofs.lemmas.Int.{ints}
use Rattle.std.proofs.lemmas.Option.{slice_get_within}
use Rattle.spu_word.specs.declared.limits.TheConstants.{STACK_TOP}
use Rattle.spu_isa.specs.declared.operation.Op.TheVariants as op
use Rattle.spu_isa.specs.declared.operation.Kind.{Kind}
use Rattle.spu_isa.specs.declared.operation.Kind.TheVariants as kind
use Rattle.spu_isa.specs.Table.{row_of}
use Rattle.spu_lift.specs.declared.program.SymInst.{SymInst}
use Rattle.spu_lift.specs.declared.program.Prog.{Prog}
use Rattle.spu_lift.specs.declared.program.Operand.TheVariants as operand
use Rattle.spu_lift.specs.StartCode.{start_code, symbolic, of_register}
use Rattle.spu_lift.specs.Places.{instruction_at, place_in, kind_of}
use Rattle.spu_frame.specs.Walks.{IsKnownWrite, Adds, IsDepth, Reaches}
use Rattle.spu_frame.specs.Frames.{IsDepthAt, IsFrame}
use Rattle.spu_graph.specs.declared.graph.Edge.{Edge}
use Rattle.spu_graph.specs.Paths.{IsPath, weight_if, edges_weight}
use Rattle.spu_ideal.specs.Edges.{Calls, IsEdge, IsJumpEdge}
use Rattle.spu_ideal.specs.declared.state.OpenCall.{OpenCall}
use Rattle.spu_ideal.specs.State.{Sym}
use Rattle.spu_ideal.specs.States.{IsChain, IsOf, IsJudged}
use Rattle.spu_ideal.proofs.Lifted.{IsLifted, lifted, function_within}
use Rattle.spu_frame.proofs.Walks.{known_kind}

-- ---- the start code

abbrev kind_in : Option SymInst → Kind
kind_in None = kind.Nothing
kind_in (Some x) = kind_of x

-- what stands in function 0: its first word, a call, or a stop
pub start_kinds : (p : Prog) → IsLifted p → (i : ℕ) (x : SymInst) → instruction_at p 0 i ≡ Some x → (x.inst.op ≡ op.Lqr) × (i ≡ 0) ⊎ ((x.inst.op ≡ op.Brsl) × (x.operand ≡ operand.Call p.entry) ⊎ (x.inst.op ≡ op.Stop))
start_kinds p lifted i x e = at i (ap (λ o. place_in o i) (sym lifted.start) ∙ e)
  where
    at : (i : ℕ) → place_in (Some (start_code p.data_end p.entry)) i ≡ Some x → (x.inst.op ≡ op.Lqr) × (i ≡ 0) ⊎ ((x.inst.op ≡ op.Brsl) × (x.operand ≡ operand.Call p.entry) ⊎ (x.inst.op ≡ op.Stop))
    at zero e = let is : symbolic (of_register op.Lqr 1 (pos 0)) (operand.Number (p.data_end % 2 ^ 32)) ≡ x = cc in inl (ap (λ y. y.inst.op) (sym is), refl)
    at (suc zero) e = let is : symbolic (of_register op.Brsl 0 (pos 0)) (operand.Call p.entry) ≡ x = cc in inr (inl (ap (λ y. y.inst.op) (sym is), ap (λ y. y.operand) (sym is)))
    at (suc (suc zero)) e = let is : symbolic (of_register op.Stop 0 (pos 0x2000)) operand.Plain ≡ x = cc in inr (inr (ap (λ y. y.inst.op) (sym is)))
    at (suc (suc (suc i))) e = cc

-- its call stands at place 1
pub start_call : (p : Prog) → IsLifted p → (i g : ℕ) (x : SymInst) → instruction_at p 0 i ≡ Some x → Calls p x g → i ≡ 1
start_call p lifted i g x e call = at i (ap (λ o. place_in o i) (sym lifted.start) ∙ e) call
  where
    at : (i : ℕ) → place_in (Some (start_code p.data_end p.entry)) i ≡ Some x → Calls p x g → i ≡ 1
    at zero e (inl (k, o)) = let is : kind.Load ≡ kind_of x = ap kind_in e in cc
    at zero e (inr (k, o)) = let is : kind.Load ≡ kind_of x = ap kind_in e in cc
    at (suc zero) e c = refl
    at (suc (suc zero)) e (inl (k, o)) = let is : kind.StopOp ≡ kind_of x = ap kind_in e in cc
    at (suc (suc zero)) e (inr (k, o)) = let is : kind.StopOp ≡ kind_of x = ap kind_in e in cc
    at (suc (suc (suc i))) e c = cc

-- the start code has no known write
pub start_unknown : (p : Prog) → IsLifted p → (i : ℕ) (k : ℤ) → IsKnownWrite p 0 i k → ⊥
start_unknown p lifted i k w =
    let is = known_kind p 0 i k w.x w w.here in
    let start = start_kinds p lifted i w.x w.here in
    grind arith

start_adds : (p : Prog) → IsLifted p → (i : ℕ) (c : ℤ) → Adds p 0 i c → c ≡ pos 0
start_adds p lifted i c (inl (k, w, e)) = absurd (start_unknown p lifted i k w)
start_adds p lifted i c (inr (n, e)) = e

start_depth : (p : Prog) → IsLifted p → (left : List ℕ) (n : ℤ) → IsDepth p 0 left n → n ≡ pos 0
unfolding IsDepth
start_depth p lifted [] n d = d
start_depth p lifted (j ∷ js) n (m, dm, c, a, e) =
    e ∙ ap₂ (λ u v. u +ℤ v) (start_depth p lifted js m dm) (start_adds p lifted j c a)

pub start_level : (p : Prog) → IsLifted p → (i : ℕ) (n : ℤ) → Reaches p 0 i n → n ≡ pos 0
start_level p lifted i n r = start_depth p lifted r.left n r.depth

start_frame : (p : Prog) → IsLifted p → (frame : ℕ) → IsFrame p 0 frame → frame ≡ 0
start_frame p lifted frame is = of_some is.some
  where
    of_some : IsDepthAt p 0 is.at (pos frame) → frame ≡ 0
    of_some (inl r) = let e = start_level p lifted is.at (pos frame) r in omega (arith, ints, e)
    of_some (inr (m, c, r, a, e)) =
        let em = start_level p lifted is.at m r in
        let ec = start_adds p lifted is.at c a in
        omega (arith, ints, e, em, ec)

-- ---- paths

-- a path of jumps after a path
pub jumps_path : (p : Prog) (frames : ℕ → ℕ) (e h g : ℕ) (es js : List Edge) → IsPath (IsEdge p) e h es → IsPath (IsJumpEdge p) h g js
    → IsPath (IsEdge p) e g (js ++ es) × (edges_weight frames (js ++ es) ≡ edges_weight frames es)
unfolding IsPath edges_weight
jumps_path p frames e h g es [] a b = (subst (λ v. IsPath (IsEdge p) e v es) b a, refl)
jumps_path p frames e h g es (x ∷ xs) a (jump, to, b) =
    let rest = jumps_path p frames e h x.from es xs a b in
    ((jump.0, to, rest.0), ap₂ (λ c n. weight_if c (frames x.from) + n) jump.1 rest.1 ∙ zero-add (edges_weight frames es))

-- the edges of a path from the entry to the running function; the entry pointer has not fallen by more than they weigh
record Lies (p : Prog) (frames : ℕ → ℕ) (g entry : ℕ) : Type 0 where
  edges : List Edge
  path : IsPath (IsEdge p) p.entry g edges
  high : STACK_TOP ≤ entry + edges_weight frames edges

module _ (p : Prog) (frames : ℕ → ℕ) (need : ℕ) (judged : IsJudged p frames need) where
  -- a depth is at most the frame
  pub within_frame : (f i : ℕ) (n : ℤ) → Reaches p f i n → n ≤ℤ pos (frames f)
  within_frame f i n r = (judged.greatest f (function_within p f i r.here.0 r.here.1)).most i n (inl r)

  pub within_frame_after : (f i : ℕ) (n c : ℤ) → Reaches p f i n → Adds p f i c → (n +ℤ c) ≤ℤ pos (frames f)
  within_frame_after f i n c r a = (judged.greatest f (function_within p f i r.here.0 r.here.1)).most i (n +ℤ c) (inr (n, c, r, a, refl))

  -- the first call of all is that of the entry
  pub first_callee : (f at g : ℕ) (x : SymInst) → f ≡ 0 → instruction_at p f at ≡ Some x → Calls p x g → g ≡ p.entry
  first_callee f at g x z e c =
      let start = start_kinds p (lifted p judged.formed) at x (subst (λ v. instruction_at p v at ≡ Some x) z e) in
      of_start start c
    where
      of_start : (x.inst.op ≡ op.Lqr) × (at ≡ 0) ⊎ ((x.inst.op ≡ op.Brsl) × (x.operand ≡ operand.Call p.entry) ⊎ (x.inst.op ≡ op.Stop)) → Calls p x g → g ≡ p.entry
      of_start (inl (o, i)) (inl (k, q)) = let kk = ap (λ v. (row_of v).kind) o in cc
      of_start (inl (o, i)) (inr (k, q)) = let kk = ap (λ v. (row_of v).kind) o in cc
      of_start (inr (inl (o, i))) (inl (k, q)) = cc
      of_start (inr (inl (o, i))) (inr (k, q)) = let kk = ap (λ v. (row_of v).kind) o in cc
      of_start (inr (inr o)) (inl (k, q)) = let kk = ap (λ v. (row_of v).kind) o in cc
      of_start (inr (inr o)) (inr (k, q)) = let kk = ap (λ v. (row_of v).kind) o in cc

  chain_path : (c : OpenCall) (cs : List OpenCall) (g entry : ℕ) → IsChain p (c ∷ cs) g entry → Lies p frames g entry
  unfolding IsChain IsPath edges_weight
  chain_path c [] g entry (outer, o, (z, e)) =
      let first = first_callee c.f o.at o.callee o.x z o.here o.call in
      let level = start_level p (lifted p judged.formed) o.at o.depth (subst (λ v. Reaches p v o.at o.depth) z o.reached) in
      let path = jumps_path p frames p.entry o.callee g [] o.jumps (sym first) o.path in
      let falls = o.falls in
      record { edges = o.jumps ++ []; path = path.0; high = omega (arith, ints, level, falls, e, path.1) }
  chain_path c (d ∷ ds) g entry (outer, o, rest) =
      let before = chain_path d ds c.f outer rest in
      let edge : Edge = record { from = c.f; to = o.callee; call = true } in
      let is : IsEdge p edge = record { at = o.at; depth = o.depth; reached = o.reached; x = o.x; here = o.here; leads = inl (refl, o.call) } in
      let path = jumps_path p frames p.entry o.callee g (edge ∷ before.edges) o.jumps (is, refl, before.path) o.path in
      let most = within_frame c.f o.at o.depth o.reached in
      let falls = o.falls in
      let high = before.high in
      record { edges = o.jumps ++ edge ∷ before.edges; path = path.0; high = omega (arith, ints, most, falls, high, path.1) }

  -- the entry pointer, less the frame, is at least what the need leaves
  pub entry_high : (calls : List OpenCall) (g entry : ℕ) → IsChain p calls g entry → STACK_TOP + frames g ≤ entry + need
  unfolding IsChain
  entry_high [] g entry (z, e) =
      let none = start_frame p (lifted p judged.formed) (frames 0) (judged.greatest 0 (slice_get_within p.functions 0 _ judged.formed.start)) in
      let same : frames g ≡ frames 0 = ap frames z in
      omega (arith, none, same, e)
  entry_high (c ∷ cs) g entry chain =
      let lies = chain_path c cs g entry chain in
      let most = judged.heaviest.most g lies.edges lies.path in
      let high = lies.high in
      omega (arith, most, high)

  -- and at most where the stack begins
  pub entry_low : (calls : List OpenCall) (g entry : ℕ) → IsChain p calls g entry → entry ≤ STACK_TOP
  unfolding IsChain
  entry_low [] g entry (z, e) = omega (arith, e)
  entry_low (c ∷ cs) g entry (outer, o, rest) =
      let low = entry_low cs c.f outer rest in
      let positive = (judged.good.range c.f o.at o.depth (inl o.reached)).0 in
      let falls = o.falls in
      omega (arith, ints, low, positive, falls)

  -- register 1 stays at or above what the need leaves
  pub pointer_high : (s : Sym) (inv : IsOf p s) → STACK_TOP ≤ inv.word + need
  pointer_high s inv =
      let high = entry_high s.calls s.f inv.entry inv.chain in
      let most = within_frame s.f s.i inv.depth inv.reached in
      let falls = inv.falls in
      omega (arith, ints, high, most, falls)
