-- Places of a function stand one after another.
use Rattle.std.proofs.Common.{◌≡◌, ℕ, zero, suc, ◌+◌, ◌*◌, arith}
use Rattle.std.specs.Prelude.{slice_get}
use Rattle.spu_lift.specs.declared.program.Prog.{Prog}
use Rattle.spu_plan.specs.declared.plan.Plan.{Plan}
use Rattle.spu_layout.specs.Placing.{function_start, at}

next_word : (a i : ℕ) → a + 4 * (i + 1) ≡ a + 4 * i + 4
next_word a i = omega arith

pub next_place : (p : Prog) (plan : Plan) (f i : ℕ) → at p plan f (i + 1) ≡ at p plan f i + 4
next_place p plan zero i = next_word (p.data_end + 16) i
next_place p plan (suc f) i = next_word (function_start p plan (slice_get p.functions (suc f))) i
