-- What a step and a run of the symbolic machine answer by the end of a state.
use Rattle.std.specs.Prelude.{Bool, true, false, Option, Some, None}
use Rattle.spu_ideal.specs.declared.ending.IdealEnd.{IdealEnd}
use Rattle.spu_ideal.specs.declared.ending.IdealEnd.TheVariants as ending
use Rattle.spu_ideal.specs.declared.ticks.IdealTick.{IdealTick}
use Rattle.spu_ideal.specs.declared.ticks.IdealTick.TheVariants.{Went, Ended}

-- how a run ended, or that it hasn't
abbrev pub end_of : Option IdealEnd → IdealEnd
end_of None = ending.Running
end_of (Some e) = e

-- what a step answers
abbrev pub tick_of : Option IdealEnd → IdealTick
tick_of None = Went
tick_of (Some e) = Ended e

-- no run ends as running
abbrev pub is_end : Option IdealEnd → Bool
is_end None = true
is_end (Some ending.Running) = false
is_end (Some _) = true
