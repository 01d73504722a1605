use Rattle.std.proofs.Common.{◌≡◌, ◌+◌, drop, map, string_bytes}
use Rattle.spu_tool.specs.Arguments.{with_words, nothing_given}
use Rattle.spu_tool.proofs.arguments.arguments_of.Given as goal

abbrev pub invariant-loop-i : goal.invariant-loop-i
invariant-loop-i l = with_words l.command l.arguments (l.i + 2) (map string_bytes (drop l.i l.words)) ≡ with_words l.command nothing_given 2 (map string_bytes l.words)
