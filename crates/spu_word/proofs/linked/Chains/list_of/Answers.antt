use Rattle.std.proofs.lemmas.Option.{slice_get_read}
use Rattle.std.proofs.Common.{refl}
use Rattle.spu_word.proofs.Links.{stands_once}
use Rattle.spu_word.proofs.Reading.{list_is}
use Rattle.spu_word.proofs.linked.Chains.list_of.Goals as goal

pub returns-clause-list : goal.returns-clause-list
returns-clause-list c = list_is _ _ c.args.self.now.linked c.args.slot c.index.result.now (slice_get_read c.args.self.now.slots.items _ c.args.slot c.index.result.now refl c.requires c.index.ensures)

pub returns-clause-once : goal.returns-clause-once
returns-clause-once c = λ l m i j at there. stands_once _ _ _ c.args.self.now.linked l m i j c.args.slot at there
