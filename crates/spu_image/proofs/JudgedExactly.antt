-- A program that is judged has none of the faults that refuse a judgement, and its judgement is the only one.
use Rattle.std.proofs.Common.{◌≡◌, ℕ, ◌<◌, ◌≤◌, ◌⊎◌, Bool, true, false, List, [], ◌∷◌, length, Option, Some, None, refl, ap, subst, arith, inl, inr, pos}
use Rattle.std.specs.Prelude.{◌≤ℤ◌}
use Rattle.std.proofs.lemmas.Int.{ints}
use Rattle.spu_lift.specs.declared.program.Operand.TheVariants as operand
use Rattle.spu_lift.specs.declared.program.SymInst.{SymInst}
use Rattle.spu_lift.specs.declared.program.Prog.{Prog}
use Rattle.spu_lift.specs.WellFormed.{IsOperand, IsWellFormed}
use Rattle.spu_frame.specs.Frames.{IsFrame}
use Rattle.spu_graph.specs.declared.graph.Edge.{Edge}
use Rattle.spu_graph.specs.Paths.{IsNeed, IsPath, edges_weight, weight_if}
use Rattle.spu_graph.specs.Known.{AreNeeds}
use Rattle.spu_judge.specs.Answers.{IsLimitRefusal}
use Rattle.spu_judge.specs.Edges.{Calls, IsEdge, Jumps}
use Rattle.spu_judge.specs.Judged.{IsJudged}
use Rattle.spu_judge.proofs.Instructions.{function_within}

-- ---- frames

frame_most : (p : Prog) (f a b : ℕ) → IsFrame p f a → IsFrame p f b → a ≤ b
frame_most p f a b one other = low a b (other.most one.at (pos a) one.some)
  where
    low : (a b : ℕ) → pos a ≤ℤ pos b → a ≤ b
    low a b h = omega (arith, ints, h)

-- ---- edges lead from functions to functions

module _ (p : Prog) (formed : IsWellFormed p) where
  call_callee : (f : ℕ) (x : SymInst) (g : ℕ) → IsOperand p f x (operand.Call g) → g < length p.functions
  call_callee f x g h = h.1.1

  jump_callee : (f : ℕ) (x : SymInst) (g : ℕ) → IsOperand p f x (operand.Jump g) → g < length p.functions
  jump_callee f x g h = h.1.1

  called_within : (g : ℕ) (e : Edge) (is : IsEdge p e) → Calls p is.x g → g < length p.functions
  called_within g e is (inl (k, call)) = call_callee e.from is.x g (subst (IsOperand p e.from is.x) call (formed.instructions e.from is.at is.x is.here).stands)
  called_within g e is (inr (k, taken)) = (formed.taken g taken).1

  jumped_within : (f g : ℕ) (e : Edge) (is : IsEdge p e) → Jumps p f is.x g → g < length p.functions
  jumped_within f g e is (inl jump) = jump_callee e.from is.x g (subst (IsOperand p e.from is.x) jump (formed.instructions e.from is.at is.x is.here).stands)
  jumped_within f g e is (inr h) = (formed.taken g h.1).1

  edge_to : (e : Edge) → IsEdge p e → e.to < length p.functions
  edge_to e is = by_lead is.leads
    where
      by_lead : ((e.call ≡ true) × Calls p is.x e.to) ⊎ ((e.call ≡ false) × Jumps p e.from is.x e.to) → e.to < length p.functions
      by_lead (inl call) = called_within e.to e is call.1
      by_lead (inr jump) = jumped_within e.from e.to e is jump.1

  path_end : (e g : ℕ) (xs : List Edge) → e < length p.functions → IsPath (IsEdge p) e g xs → g < length p.functions
  unfolding IsPath
  path_end e g [] low path = subst (λ n. n < length p.functions) path low
  path_end e g (x ∷ xs) low path = subst (λ n. n < length p.functions) path.1 (edge_to x path.0)

  -- ---- weights under frames that are no less

  module _ (frame other : ℕ → ℕ) (least : (f : ℕ) → f < length p.functions → frame f ≤ other f) where
    if_least : (call : Bool) (m n : ℕ) → m ≤ n → weight_if call m ≤ weight_if call n
    if_least true m n h = h
    if_least false m n h = omega arith

    edges_least : (e g : ℕ) (xs : List Edge) → IsPath (IsEdge p) e g xs → edges_weight frame xs ≤ edges_weight other xs
    unfolding IsPath edges_weight
    edges_least e g [] path = omega arith
    edges_least e g (x ∷ xs) path =
        let rest = edges_least e x.from xs path.2 in
        let own = if_least x.call (frame x.from) (other x.from) (least x.from (function_within p x.from path.0.at path.0.x path.0.here)) in
        omega (arith, rest, own)

    need_least : (e m n : ℕ) → e < length p.functions → IsNeed (IsEdge p) frame e m → IsNeed (IsEdge p) other e n → m ≤ n
    need_least e m n low one another =
        let most = another.most one.last one.edges one.path in
        let edges = edges_least e one.last one.edges one.path in
        let last = least one.last (path_end e one.last one.edges low one.path) in
        let reached = one.reached in
        omega (arith, most, edges, last, reached)

-- ---- L19

pub limit_kept : (p : Prog) (frames : ℕ → ℕ) (need limit over told : ℕ) → IsJudged p frames need → need ≤ limit → IsLimitRefusal p limit over told → ⊥
limit_kept p frames need limit over told is least h =
    let low = need_least p is.formed h.frames frames (λ f lt. frame_most p f (h.frames f) (frames f) (h.greatest f lt) (is.greatest f lt)) p.entry over need is.formed.entry.1 h.heaviest is.heaviest in
    let more = h.over in
    omega (arith, low, more, least)

-- ---- the needs of a program

pub needs_agree : (p : Prog) → IsWellFormed p → (frames other : ℕ → ℕ) → ((f : ℕ) → f < length p.functions → IsFrame p f (frames f)) → ((f : ℕ) → f < length p.functions → IsFrame p f (other f))
    → (needs known : ℕ → Option ℕ) → AreNeeds (IsEdge p) frames p.entry needs → AreNeeds (IsEdge p) other p.entry known → (f : ℕ) → f < length p.functions → needs f ≡ known f
needs_agree p formed frames other one another needs known are also f lt = by_both (needs f) (known f) refl refl
  where
    by_both : (a b : Option ℕ) → needs f ≡ a → known f ≡ b → a ≡ b
    by_both None None e g = refl
    by_both None (Some n) e g = absurd (let path = also.some f n g in are.none f path.0 e path.1)
    by_both (Some m) None e g = absurd (let path = are.some f m e in also.none f path.0 g path.1)
    by_both (Some m) (Some n) e g =
        let up = need_least p formed frames other (λ k low. frame_most p k (frames k) (other k) (one k low) (another k low)) f m n lt (are.need f m e) (also.need f n g) in
        let down = need_least p formed other frames (λ k low. frame_most p k (other k) (frames k) (another k low) (one k low)) f n m lt (also.need f n g) (are.need f m e) in
        let same : m ≡ n = omega (arith, up, down) in
        ap Some same
