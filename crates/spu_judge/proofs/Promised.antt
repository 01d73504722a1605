-- What a judgement says of its program.
use Rattle.std.proofs.Common.{◌≡◌, ℕ, ◌<◌, ◌≤◌, inl, inr, length, [], Option, Some, None, Result, Err, IfErr, refl, sym, subst, arith, ℤ}
use Rattle.spu_word.specs.declared.limits.TheConstants.{MAX_STACK_LIMIT}
use Rattle.spu_lift.specs.declared.program.Prog.{Prog}
use Rattle.spu_lift.specs.Places.{IsPlace}
use Rattle.spu_lift.specs.WellFormed.{IsWellFormed}
use Rattle.spu_frame.specs.declared.faults.FrameKind.{FrameKind}
use Rattle.spu_frame.specs.declared.faults.FrameKind.TheVariants as frame_kind
use Rattle.spu_frame.specs.Frames.{AreDepths, IsDepthAt}
use Rattle.spu_frame.specs.Faults.{IsFaulty, IsFrameFault}
use Rattle.spu_frame.proofs.Formed.{place_within, code_small}
use Rattle.spu_graph.specs.declared.graph.Edge.{Edge}
use Rattle.spu_graph.specs.declared.fault.GraphFault.{GraphFault}
use Rattle.spu_graph.specs.declared.fault.GraphFault.TheVariants as graph_faults
use Rattle.spu_graph.specs.Paths.{IsPath, IsRecursive}
use Rattle.spu_graph.specs.Cycles.{IsRefused as IsGraphFault}
use Rattle.spu_graph.specs.Known.{AreNeeds}
use Rattle.spu_judge.specs.declared.outcome.Judged.{Judged}
use Rattle.spu_judge.specs.declared.outcome.JudgeFault.{JudgeFault}
use Rattle.spu_judge.specs.Edges.{IsEdge}
use Rattle.spu_judge.specs.Judged.{IsJudged}
use Rattle.spu_judge.specs.Answers.{IsLimitRefusal, IsRefused}
use Rattle.spu_judge.specs.Building.{IsMade, IsGraphRefused}
use Rattle.spu_judge.proofs.Instructions.{function_within}
use Rattle.spu_judge.proofs.Cycles.{cycle_refused}

-- ---- faults of frames

depth_place : (p : Prog) (f i : ℕ) (n : ℤ) → IsDepthAt p f i n → IsPlace p f i
depth_place p f i n (inl reached) = reached.here
depth_place p f i n (inr (m, c, reached, adds, is)) = reached.here

fault_place : (kind : FrameKind) (p : Prog) (f i : ℕ) → IsFaulty kind p f i → IsPlace p f i
fault_place frame_kind.StackWrite p f i h = (h.x, h.here)
fault_place frame_kind.DepthDisagrees p f i h = h.first.here
fault_place frame_kind.DepthAtExit p f i h = (h.x, h.here)
fault_place frame_kind.DepthRange p f i (n, at, out) = depth_place p f i n at

pub fault_function : (p : Prog) (kind : FrameKind) (f i : ℕ) → IsFrameFault p kind f i → f < length p.functions
fault_function p kind f i fault = let place = fault_place kind p f i fault.here in function_within p f i place.0 place.1

pub fault_small : (p : Prog) → IsWellFormed p → (kind : FrameKind) (f i : ℕ) → IsFrameFault p kind f i → i < 65536
fault_small p formed kind f i fault =
    let place = fault_place kind p f i fault.here in
    let within = place_within p f i place.0 place.1 in
    let small = code_small p formed f (fault_function p kind f i fault) in
    omega (arith, within, small)

-- ---- faults of the graph

pub graph_refused : (p : Prog) → IsWellFormed p → (E : Edge → Type 0) → ((x : Edge) → E x → IsMade p x) → (fault : GraphFault) → IsGraphFault E p.entry fault → IsGraphRefused p fault
graph_refused p formed E made (graph_faults.Recursion nodes) h = cycle_refused p formed E made p.entry nodes formed.entry.1 h.1
graph_refused p formed E made graph_faults.OutOfMemory h = tt

-- ---- needs

pub entry_known : (p : Prog) (frames : ℕ → ℕ) (need_from : ℕ → Option ℕ) → AreNeeds (IsEdge p) frames p.entry need_from → need_from p.entry ≡ None → ⊥
unfolding IsPath
entry_known p frames need_from needs none = needs.none p.entry [] none refl

pub judged : (p : Prog) (depth : ℕ → ℕ → Option ℕ) (frames : ℕ → ℕ) (need_from : ℕ → Option ℕ) (need limit : ℕ) → IsWellFormed p → AreDepths p depth frames
    → AreNeeds (IsEdge p) frames p.entry need_from → (IsRecursive (IsEdge p) p.entry → ⊥) → need_from p.entry ≡ Some need → need ≤ limit → limit ≤ MAX_STACK_LIMIT → IsJudged p frames need
judged p depth frames need_from need limit formed depths needs acyclic at least most = record {
  formed = formed;
  good = depths.good;
  greatest = depths.greatest;
  heaviest = needs.need p.entry need at;
  acyclic = acyclic;
  limit = omega (arith, least, most);
}

pub over_limit : (p : Prog) (depth : ℕ → ℕ → Option ℕ) (frames : ℕ → ℕ) (need_from : ℕ → Option ℕ) (need limit : ℕ) → AreDepths p depth frames
    → AreNeeds (IsEdge p) frames p.entry need_from → (IsRecursive (IsEdge p) p.entry → ⊥) → need_from p.entry ≡ Some need → limit < need → IsLimitRefusal p limit need limit
over_limit p depth frames need_from need limit depths needs acyclic at over = record {
  good = depths.good;
  acyclic = acyclic;
  frames = frames;
  greatest = depths.greatest;
  heaviest = needs.need p.entry need at;
  over = over;
  limit_told = refl;
}

-- what a `?` hands on
pub handed_on : (p : Prog) (limit : ℕ) (r : Result Judged JudgeFault) (x y : JudgeFault) → r ≡ Err y → y ≡ x → IsRefused p limit x → IfErr r (IsRefused p limit)
handed_on p limit r x y is same h = subst (λ (r : Result Judged JudgeFault). IfErr r (IsRefused p limit)) (sym is) (subst (IsRefused p limit) (sym same) h)
