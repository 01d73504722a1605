use Rattle.std.proofs.Common.{◌≡◌, replicate}
use Rattle.spu_word.specs.Linking.{empty}
use Rattle.spu_word.proofs.linked.Chains.new.Given as goal

abbrev pub invariant-loop : goal.invariant-loop
invariant-loop l = l.ends.items ≡ replicate l.counter empty
