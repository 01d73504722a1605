-- Where the pieces begin, in bytes behind the loader's first word.
use Rattle.std.proofs.Common.{ℕ}

abbrev pub test_from : ℕ
test_from = 60

abbrev pub fetch_from : ℕ
fetch_from = 96

abbrev pub command_from : ℕ
command_from = 124

abbrev pub wait_from : ℕ
wait_from = 216

abbrev pub exit_from : ℕ
exit_from = 248
