-- What is shown of these definitions: there is one cut, and one plan or one least end.
use Rattle.std.specs.Prelude.{◌≡◌, ℕ, ◌≤◌, ◌⊎◌, List, All}
use Rattle.spu_plan.specs.declared.plan.Plan.{Plan}
use Rattle.spu_plan.specs.declared.input.PlanInput.{PlanInput}
use Rattle.spu_plan.specs.Cuts.{IsCut}
use Rattle.spu_plan.specs.Choices.{IsInput, IsPlan, IsTooLarge}

-- sections that a buffer takes one by one have a cut, and sections have no two
pub record HasOneCut (buffer : ℕ) (sizes : List ℕ) : Type 0 where
  pub some : All (λ size. size ≤ buffer) sizes → (regions : List (List ℕ)) × IsCut buffer sizes regions
  pub one : (xs ys : List (List ℕ)) → IsCut buffer sizes xs → IsCut buffer sizes ys → xs ≡ ys

abbrev pub CutsAreOne : Type 0
CutsAreOne = (buffer : ℕ) (sizes : List ℕ) → HasOneCut buffer sizes

-- there is a plan, or an end beyond the room; no two of either, and not both
pub record HasOneAnswer (input : PlanInput) : Type 0 where
  pub some : ((plan : Plan) × IsPlan input plan) ⊎ ((least : ℕ) × IsTooLarge input least)
  pub one_plan : (p q : Plan) → IsPlan input p → IsPlan input q → p ≡ q
  pub one_end : (m n : ℕ) → IsTooLarge input m → IsTooLarge input n → m ≡ n
  pub apart : (plan : Plan) (least : ℕ) → IsPlan input plan → IsTooLarge input least → ⊥

abbrev pub AnswersAreOne : Type 0
AnswersAreOne = (input : PlanInput) → IsInput input → HasOneAnswer input
