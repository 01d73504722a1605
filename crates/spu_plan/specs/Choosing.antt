-- How the code chooses the size of the buffers: the greatest that fits, or the least end.
use Rattle.std.specs.Prelude.{◌≡◌, ℕ, ◌<◌, ◌≤◌, min}
use Rattle.spu_plan.specs.declared.input.Mode.{Mode}
use Rattle.spu_plan.specs.declared.input.Mode.TheVariants.{Auto, Always, Never}
use Rattle.spu_plan.specs.declared.input.PlanInput.{PlanInput}
use Rattle.spu_plan.specs.declared.making.Choice.{Choice}
use Rattle.spu_plan.specs.declared.making.Choice.TheVariants.{Fits, TooLarge}
use Rattle.spu_plan.specs.Choices.{IsAsked, overlay_end}

pub record IsGreatest (input : PlanInput) (buffer end : ℕ) : Type 0 where
  pub asked : IsAsked input buffer
  pub is : end ≡ overlay_end input buffer
  pub fits : end ≤ input.room
  pub greatest : (other : ℕ) → IsAsked input other → overlay_end input other ≤ input.room → other ≤ buffer

pub record IsLeast (input : PlanInput) (least : ℕ) : Type 0 where
  pub buffer : ℕ
  pub asked : IsAsked input buffer
  pub is : least ≡ overlay_end input buffer
  pub lowest : (other : ℕ) → IsAsked input other → least ≤ overlay_end input other
  pub over : input.room < least

abbrev pub IsChoice : PlanInput → Choice → Type 0
IsChoice input (Fits buffer end) = IsGreatest input buffer end
IsChoice input (TooLarge least) = IsLeast input least

abbrev pub IsLeastEnd : Mode → ℕ → ℕ → ℕ → Type 0
IsLeastEnd Auto flat overlay least = least ≡ min flat overlay
IsLeastEnd Always flat overlay least = least ≡ overlay
IsLeastEnd Never flat overlay least = least ≡ min flat overlay
