-- What `frames` answers: the depths and frames that it hands back, and what a refusal means.
use Rattle.std.specs.Prelude.{ℕ, length, Option, Some, None, slice_get}
use Rattle.spu_lift.specs.declared.program.Prog.{Prog}
use Rattle.spu_frame.specs.declared.depths.Depths.{Depths}
use Rattle.spu_frame.specs.declared.survey.FunctionDepths.{FunctionDepths}
use Rattle.spu_frame.specs.declared.frame_fault.FrameFault.{FrameFault}
use Rattle.spu_frame.specs.declared.frame_fault.FrameFault.TheVariants as outcomes
use Rattle.spu_frame.specs.Faults.{IsFrameFault}

abbrev pub depth_in : Option (Option ℕ) → Option ℕ
depth_in None = None
depth_in (Some o) = o

abbrev pub depth_within : Option FunctionDepths → ℕ → Option ℕ
depth_within None i = None
depth_within (Some g) i = depth_in (slice_get g.depths i)

abbrev pub frame_within : Option FunctionDepths → ℕ
frame_within None = 0
frame_within (Some g) = g.frame

-- the depth before place i of function f, None where there is none
abbrev pub depth_at : Depths → ℕ → ℕ → Option ℕ
depth_at d f i = depth_within (slice_get d.functions f) i

-- the frame of function f
abbrev pub frame_at : Depths → ℕ → ℕ
frame_at d f = frame_within (slice_get d.functions f)

abbrev pub function_count : Depths → ℕ
function_count d = length d.functions

abbrev pub IsRefused : Prog → FrameFault → Type 0
IsRefused p (outcomes.Fault kind f i) = IsFrameFault p kind f i
IsRefused p outcomes.OutOfMemory = Unit {0}
