-- A hop of a machine: one step, and then further steps while it stands between the places of a program.
use Rattle.std.specs.Prelude.{ℕ, zero, suc, ◌&&◌, if◌then◌else◌, Bool, is_none, IsTrue}
use Rattle.spu_ls.specs.declared.ending.TheConstants.{MAX_HOP_STEPS}
use Rattle.spu_ls.specs.Machine.{State, step}

-- further steps, while the machine runs and stands between places, at most so many
unfoldable pub settles : (ℕ → Bool) → ℕ → State → State
settles between zero m = m
settles between (suc k) m = if between m.pc && is_none m.ended then settles between k (step m) else m

unfoldable pub hop : (ℕ → Bool) → State → State
hop between m = settles between MAX_HOP_STEPS (step m)

-- P holds now, and after each of the further steps
unfoldable pub Along : (State → Type 0) → (ℕ → Bool) → ℕ → State → Type 0
Along P between zero m = P m
Along P between (suc k) m = P m × (IsTrue (between m.pc && is_none m.ended) → Along P between k (step m))
