-- Plans that are made for a program: what is asked for tells its sections, the end of its data, its functions and the room below its
-- stack; which sections are to stay in the root, the mode, and the number and greatest size of buffers are free.
use Rattle.std.specs.Prelude.{◌≡◌, ◌⊎◌, ℕ, ◌+◌, ◌-◌, length}
use Rattle.spu_word.specs.declared.limits.TheConstants.{STACK_TOP}
use Rattle.spu_lift.specs.declared.program.Prog.{Prog}
use Rattle.spu_plan.specs.declared.input.PlanInput.{PlanInput}
use Rattle.spu_plan.specs.declared.plan.Plan.{Plan}
use Rattle.spu_plan.specs.Choices.{IsInput, IsPlan}
use Rattle.spu_layout.specs.Placing.{FitsFlat, sizes_of}

pub record IsInputOf (p : Prog) (limit : ℕ) (input : PlanInput) : Type 0 where
  pub sizes : input.sizes ≡ sizes_of p
  pub data_end : input.data_end ≡ p.data_end
  pub functions : input.functions + 1 ≡ length p.functions
  pub room : input.room ≡ STACK_TOP - limit

pub record IsPlanned (p : Prog) (plan : Plan) (limit : ℕ) : Type 0 where
  pub input : PlanInput
  pub allowed : IsInput input
  pub of : IsInputOf p limit input
  pub is : IsPlan input plan

-- a plan with which a program fits below a stack of this size: the flat one, or one that is made for it
abbrev pub Fits : Prog → Plan → ℕ → Type 0
Fits p plan limit = FitsFlat p plan limit ⊎ IsPlanned p plan limit
