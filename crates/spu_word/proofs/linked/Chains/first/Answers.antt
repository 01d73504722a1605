use Rattle.std.proofs.Common.{refl}
use Rattle.std.proofs.lemmas.Option.{slice_get_read}
use Rattle.spu_word.proofs.Reading.{first_is, slot_at}
use Rattle.spu_word.proofs.linked.Chains.first.Goals as goal

pub returns-clause-slot : goal.returns-clause-slot
returns-clause-slot c = slot_at _ _ c.args.self.now.linked c.args.list 0 _ (first_is _ _ c.args.self.now.linked c.args.list c.index.result.now
    (slice_get_read c.args.self.now.ends.items _ c.args.list c.index.result.now refl c.requires c.index.ensures))
