-- What judging a program answers: the program with its depths, frames and needs, or the least of its faults.
use Rattle.std.specs.Prelude.{◌≡◌, ℕ, ◌*◌, ◌<◌, ◌≤◌, List, [], map, length, Option, Some, None, slice_get}
use Rattle.spu_word.specs.declared.limits.TheConstants.{WORD_SIZE}
use Rattle.spu_lift.specs.declared.program.Function.{Function}
use Rattle.spu_lift.specs.declared.program.Prog.{Prog}
use Rattle.spu_frame.specs.declared.faults.FrameKind.{FrameKind}
use Rattle.spu_frame.specs.Frames.{AreGood, AreDepths, IsFrame}
use Rattle.spu_frame.specs.Faults.{IsFrameFault}
use Rattle.spu_frame.specs.Found.{depth_at, frame_at, function_count}
use Rattle.spu_graph.specs.Paths.{IsNeed, IsRecursive}
use Rattle.spu_graph.specs.Cycles.{IsCycle}
use Rattle.spu_graph.specs.Known.{AreNeeds, need_of}
use Rattle.spu_judge.specs.declared.outcome.Judged.{Judged}
use Rattle.spu_judge.specs.declared.outcome.JudgeFault.{JudgeFault}
use Rattle.spu_judge.specs.declared.outcome.JudgeFault.TheVariants as faults
use Rattle.spu_judge.specs.Edges.{IsEdge}
use Rattle.spu_judge.specs.Judged.{IsJudged}

abbrev pub name_in : Option Function → List ℕ
name_in None = []
name_in (Some g) = g.name

-- the name of a function
abbrev pub name_of : Prog → ℕ → List ℕ
name_of p f = name_in (slice_get p.functions f)

-- the program with its depths, frames and needs; what its entry needs is within the limit
pub record IsJudgement (p : Prog) (limit : ℕ) (j : Judged) : Type 0 where
  pub program : j.prog ≡ p
  pub depths : AreDepths p (depth_at j.depths) (frame_at j.depths)
  pub count : function_count j.depths ≡ length p.functions
  pub needs : AreNeeds (IsEdge p) (frame_at j.depths) p.entry (need_of j.needs)
  pub need : ℕ
  pub entry : need_of j.needs p.entry ≡ Some need
  pub least : need ≤ limit
  pub judged : IsJudged p (frame_at j.depths) need

-- L14 to L17: the least fault of the frames, at its place, which is named by the function and the offset there
pub record IsFrameRefusal (p : Prog) (kind : FrameKind) (name : List ℕ) (offset : ℕ) : Type 0 where
  pub function : ℕ
  pub place : ℕ
  pub fault : IsFrameFault p kind function place
  pub called : name ≡ name_of p function
  pub at : offset ≡ WORD_SIZE * place

-- L18: the frames are good, and a path from the entry comes to a function twice; the names are those of a cycle
pub record IsRecursionRefusal (p : Prog) (names : List (List ℕ)) : Type 0 where
  pub good : AreGood p
  pub recursive : IsRecursive (IsEdge p) p.entry
  pub members : List ℕ
  pub cycle : IsCycle (IsEdge p) p.entry members
  pub called : names ≡ map (name_of p) members

-- L19: the frames are good and no path is recursive, and the entry needs more than the limit
pub record IsLimitRefusal (p : Prog) (limit need told : ℕ) : Type 0 where
  pub good : AreGood p
  pub acyclic : IsRecursive (IsEdge p) p.entry → ⊥
  pub frames : ℕ → ℕ
  pub greatest : (f : ℕ) → f < length p.functions → IsFrame p f (frames f)
  pub heaviest : IsNeed (IsEdge p) frames p.entry need
  pub over : limit < need
  pub limit_told : told ≡ limit

abbrev pub IsRefused : Prog → ℕ → JudgeFault → Type 0
IsRefused p limit (faults.Frame kind name offset) = IsFrameRefusal p kind name offset
IsRefused p limit (faults.Recursion names) = IsRecursionRefusal p names
IsRefused p limit (faults.StackLimit need told) = IsLimitRefusal p limit need told
IsRefused p limit faults.OutOfMemory = Unit {0}
