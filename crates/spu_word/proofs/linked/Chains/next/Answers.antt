use Rattle.std.proofs.Common.{refl, arith}
use Rattle.std.proofs.lemmas.Option.{slice_get_read}
use Rattle.spu_word.proofs.Places.{place_stands}
use Rattle.spu_word.proofs.Reading.{stands_within, next_is, slot_at}
use Rattle.spu_word.proofs.linked.Chains.next.Goals as goal

pub index-requires : goal.index-requires
index-requires c = let lt = stands_within _ _ c.args.self.now.linked c.requires.0 c.args.slot c.requires.1 in let same = c.args.self.now.slots.ok in omega (arith, lt, same)

pub returns-clause-next : goal.returns-clause-next
returns-clause-next c = λ l k at. next_is _ _ c.args.self.now.linked l k c.args.slot at c.index.result.now
    (slice_get_read c.args.self.now.slots.items _ c.args.slot c.index.result.now refl (stands_within _ _ c.args.self.now.linked c.requires.0 c.args.slot c.requires.1) c.index.ensures)

pub returns-clause-slot : goal.returns-clause-slot
returns-clause-slot c =
    let at = place_stands _ c.args.slot c.requires.1 in
    slot_at _ _ c.args.self.now.linked c.requires.0 _ _ (returns-clause-next c c.requires.0 at.0 at.1)
