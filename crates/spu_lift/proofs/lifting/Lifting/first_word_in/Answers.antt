use Rattle.std.proofs.Common.{[], ◌<◌, ◌≤◌, ◌/◌, sym, ◌∙◌}
use Rattle.std.proofs.lemmas.Bool.{false≢true}
use Rattle.spu_word.specs.declared.limits.TheConstants.{WORD_SIZE}
use Rattle.spu_lift.specs.FunctionTables.{extent_in}
use Rattle.spu_lift.proofs.NumberedFunctions.{aligned_function}
use Rattle.spu_lift.proofs.WordPasses.{all_words, first_word, one_word_more, word_lies}
use Rattle.spu_lift.proofs.lifting.Lifting.first_word_in.Goals as goal

pub returns-then-shows_word : goal.returns-then-shows_word
returns-then-shows_word c = λ t there.
    let os = c.args.self.now.tables.objects.now in
    let f = c.args.f.now in
    let w = c.loop-word.word in
    let less : w < f.size / WORD_SIZE = rw c.word_count-word-end.ensures at c.loop-word-test.true in
    let lies = word_lies os c.args.self.now.functions.sorted.items c.args.function f t w c.requires.lifting.tables.formed c.requires.lifting.functions c.requires.number there less in
    let tells = rw c.spot.ensures at c.shows_word.ensures in
    first_word c.args.check os f w t less c.loop-word.invariant there ((tells (extent_in f) t lies).0 c.if-shows_word.true)

pub loop-word-preserved : goal.loop-word-preserved
loop-word-preserved c =
    let os = c.args.self.now.tables.objects.now in
    let f = c.args.f.now in
    let w = c.loop-word.word in
    let less : w < f.size / WORD_SIZE = rw c.word_count-word-end.ensures at c.loop-word-test.true in
    let tells = rw c.spot.ensures at c.shows_word.ensures in
    one_word_more c.args.check os f w c.loop-word.invariant (λ t there bad.
    let lies = word_lies os c.args.self.now.functions.sorted.items c.args.function f t w c.requires.lifting.tables.formed c.requires.lifting.functions c.requires.number there less in
    absurd (false≢true (sym c.if-shows_word.false ∙ (tells (extent_in f) t lies).1 bad)))

pub returns : goal.returns
returns c = λ t there.
    let os = c.args.self.now.tables.objects.now in
    let f = c.args.f.now in
    let all : f.size / WORD_SIZE ≤ c.loop-word.word = rw c.word_count-word-end.ensures at c.loop-word-test.false in
    let has = c.requires.lifting.functions.each _ f c.requires.number.there in
    let even = aligned_function os ([]) f c.requires.aligned has in
    all_words c.args.check os f c.loop-word.word t all even.size c.loop-word.invariant there
