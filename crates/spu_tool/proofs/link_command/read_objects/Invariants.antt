use Rattle.std.proofs.Common.{take}
use Rattle.spu_tool.proofs.Links.{AreRead}
use Rattle.spu_tool.proofs.link_command.read_objects.Given as goal

abbrev pub invariant-loop-k : goal.invariant-loop-k
invariant-loop-k l = AreRead (take l.k l.files) l.objects
