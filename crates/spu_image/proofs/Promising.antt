-- What the symbolic machine promises of a judged program is what hops rest on.
use Rattle.std.proofs.Common.{ℕ, ◌≤◌}
use Rattle.spu_word.specs.declared.load.Inputs.{Inputs}
use Rattle.spu_lift.specs.declared.program.Prog.{Prog}
use Rattle.spu_ideal.specs.States.{IsJudged}
use Rattle.spu_ideal.proofs.Runs.{run_high}
use Rattle.spu_ideal.proofs.Promises.{high}
use Rattle.spu_image.proofs.Relations.{IsPromised}

pub promised : (p : Prog) (frames : ℕ → ℕ) (need : ℕ) → IsJudged p frames need → (limit : ℕ) → need ≤ limit → (inputs : Inputs) → IsPromised p frames limit need inputs
promised p frames need judged limit least inputs = record { high = high p frames need judged limit least inputs; pointer = λ n. run_high p frames need judged limit inputs n }
