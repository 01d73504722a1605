-- The sources of an instruction that agree with the machine's, and the addresses that labels begin with.
use Rattle.std.specs.Prelude.{◌≡◌, ℕ, ◌-◌, ◌<◌, ◌^◌, List, slice_index}
use Rattle.std.specs.Int.{byte_at}
use Rattle.spu_exec.specs.Values.{HasBytes}
use Rattle.spu_lift.specs.declared.program.Label.{Label}
use Rattle.spu_lift.specs.declared.symbolic.SymByte.{SymByte}
use Rattle.spu_image.specs.Agreeing.{AgreesQuad}

-- the sources of an instruction agree with the machine's, whose bytes are bytes
pub record Agreeing (c : Label → List ℕ) (sa sb sc st : List SymByte) (a b e t : List ℕ) : Type 0 where
  pub ra : AgreesQuad c sa a
  pub rb : AgreesQuad c sb b
  pub rc : AgreesQuad c sc e
  pub rt : AgreesQuad c st t
  pub small_a : HasBytes a
  pub small_b : HasBytes b
  pub small_t : HasBytes t

-- the bytes of a label begin with an address
pub record IsAddress (bytes : List ℕ) (v : ℕ) : Type 0 where
  pub digits : (j : ℕ) → j < 4 → slice_index bytes j ≡ byte_at (3 - j) v
  pub small : v < 2 ^ 18
