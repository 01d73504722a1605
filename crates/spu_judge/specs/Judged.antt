-- When a program is judged: its frames are good, and what its entry needs is known and fits on a stack. (This project's own.)
use Rattle.std.specs.Prelude.{ℕ, ◌<◌, ◌≤◌, length}
use Rattle.spu_word.specs.declared.limits.TheConstants.{MAX_STACK_LIMIT}
use Rattle.spu_lift.specs.declared.program.Prog.{Prog}
use Rattle.spu_lift.specs.WellFormed.{IsWellFormed}
use Rattle.spu_frame.specs.Frames.{AreGood, IsFrame}
use Rattle.spu_graph.specs.Paths.{IsNeed, IsRecursive}
use Rattle.spu_judge.specs.Edges.{IsEdge}

-- What is known of a program that was linked or is checked: it is well formed, its frames are good and these, and the need of its entry
-- is this, which a stack can have.
pub record IsJudged (p : Prog) (frames : ℕ → ℕ) (need : ℕ) : Type 0 where
  pub formed : IsWellFormed p
  pub good : AreGood p
  pub greatest : (f : ℕ) → f < length p.functions → IsFrame p f (frames f)
  pub heaviest : IsNeed (IsEdge p) frames p.entry need
  pub acyclic : IsRecursive (IsEdge p) p.entry → ⊥
  pub limit : need ≤ MAX_STACK_LIMIT
