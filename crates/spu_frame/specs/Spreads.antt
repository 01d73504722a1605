-- The depths and the waiting nodes of a `Spreading`.
use Rattle.std.specs.Prelude.{ℕ, List}
use Rattle.spu_word.specs.Chains.{lists_of}
use Rattle.spu_frame.specs.declared.met.Met.{Met}
use Rattle.spu_frame.specs.declared.spread.Spreading.{Spreading}

abbrev pub met_of : Spreading → List Met
met_of s = s.met.items

abbrev pub waiting_of : Spreading → List ℕ
waiting_of s = lists_of s.waiting 0
