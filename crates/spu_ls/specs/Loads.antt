-- Loads of a region of an overlay image: the steps after which word 0 of one of several quadwords one behind another is its number, and
-- before which it wasn't. The quadwords name the regions that are mapped. (No standard has it.)
use Rattle.std.specs.Prelude.{ℕ, zero, suc, ◌+◌, ◌*◌, ◌==◌, ◌&&◌, ◌||◌, not, if◌then◌else◌, Bool, false}
use Rattle.spu_word.specs.declared.limits.TheConstants.{QUAD_SIZE}
use Rattle.spu_ls.specs.Stores.{fetch}
use Rattle.spu_ls.specs.Machine.{State, step}

-- the next step makes the word at an address r
abbrev pub makes : ℕ → ℕ → State → Bool
makes at r s = (fetch (step s).store at == r) && not (fetch s.store at == r)

-- it loads region r, where so many quadwords stand from an address on
unfoldable pub is_load : ℕ → ℕ → ℕ → State → Bool
is_load from zero r s = false
is_load from (suc n) r s = makes (from + QUAD_SIZE * n) r s || is_load from n r s

-- how many of the next steps do
unfoldable pub load_count : ℕ → ℕ → ℕ → ℕ → State → ℕ
load_count from n r zero s = 0
load_count from n r (suc k) s = (if is_load from n r s then 1 else 0) + load_count from n r k (step s)
