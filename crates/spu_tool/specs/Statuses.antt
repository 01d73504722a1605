-- The number of each status, which the program ends with.
use Rattle.std.specs.Prelude.{ℕ}
use Rattle.spu_tool.specs.declared.status.Status.{Status}
use Rattle.spu_tool.specs.declared.status.Status.TheVariants as status

abbrev pub number_of : Status → ℕ
number_of status.Ok = 0
number_of status.Refused = 1
number_of status.Words = 2
number_of status.ReadFault = 3
number_of status.WriteFault = 4
number_of status.OutOfMemory = 5
number_of status.Ended = 6
number_of status.Running = 7
