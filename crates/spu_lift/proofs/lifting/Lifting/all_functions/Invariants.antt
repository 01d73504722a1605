use Rattle.spu_lift.specs.Tables.{data_end_of}
use Rattle.spu_lift.specs.TakenPlaces.{takes}
use Rattle.spu_lift.specs.Built.{AreFunctionsBuilt}
use Rattle.spu_lift.proofs.lifting.Lifting.all_functions.Given as goal

abbrev pub invariant-loop-index : goal.invariant-loop-index
invariant-loop-index l = AreFunctionsBuilt l.self.tables.objects.now l.self.functions.sorted.items (takes l.taken) (data_end_of l.self.tables.objects.now) l.entry l.index l.functions
