use Rattle.std.proofs.Common.{◌≡◌, ◌++◌, ◌-◌}
use Rattle.std.specs.List.{range_with_len, flat_map}
use Rattle.spu_map.specs.Stacks.{function_line, stack_text}
use Rattle.spu_map.proofs.stack.stack_text.Given as goal

abbrev pub invariant-loop-f : goal.invariant-loop-f
invariant-loop-f l = l.text ++ flat_map (function_line l.p l.d l.n) (range_with_len l.f (l.count - l.f)) ≡ stack_text l.p l.d l.n
