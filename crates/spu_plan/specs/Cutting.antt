-- How the code divides sections, one by one: what a further section makes of the number of regions and of the bytes of the last one.
use Rattle.std.specs.Prelude.{ℕ, suc, ◌+◌, ◌&&◌, nat_lt, nat_le, Bool, if◌then◌else◌}

abbrev pub joins : ℕ → ℕ → ℕ → ℕ → Bool
joins buffer count total size = nat_lt 0 count && nat_le (total + size) buffer

abbrev pub count_with : ℕ → ℕ → ℕ → ℕ → ℕ
count_with buffer count total size = if joins buffer count total size then count else suc count

abbrev pub total_with : ℕ → ℕ → ℕ → ℕ → ℕ
total_with buffer count total size = if joins buffer count total size then total + size else size
