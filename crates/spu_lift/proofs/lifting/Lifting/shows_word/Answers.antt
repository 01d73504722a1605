use Rattle.std.proofs.Common.{true, false, refl}
use Rattle.std.proofs.lemmas.Bool.{false≢true}
use Rattle.spu_lift.proofs.WordPasses.{word_none, word_some}
use Rattle.spu_lift.proofs.lifting.Lifting.shows_word.Goals as goal

pub returns-in-Some : goal.returns-in-Some
returns-in-Some c = λ e t within.
    word_some c.args.check c.args.self.now.tables.objects.now c.args.self.now.functions.sorted.items c.args.function c.args.spot e t c.in-Some.x c.shows_instruction.result within c.in-Some.ensures.some
    (c.shows_instruction.ensures e within.function)

pub returns-in-Unknown : goal.returns-in-Unknown
returns-in-Unknown c = λ e t within.
    word_none c.args.check c.args.self.now.tables.objects.now c.args.self.now.functions.sorted.items c.args.function c.args.spot e t true within c.in-None.ensures.none (λ passes. c.in-Unknown.is, λ is. refl)

pub returns-in_default : goal.returns-in_default
returns-in_default c = λ e t within.
    word_none c.args.check c.args.self.now.tables.objects.now c.args.self.now.functions.sorted.items c.args.function c.args.spot e t false within c.in-None.ensures.none
    (λ fails. absurd (false≢true fails), λ is. absurd (c.in_default.not-Unknown is))
