use Rattle.std.proofs.Common.{◌<◌, length, arith}
use Rattle.std.proofs.lemmas.Option.{slice_get-get_or}
use Rattle.spu_lift.proofs.WordPasses.{one_function_more, small_word, words_first, words_nowhere, zero_function}
use Rattle.spu_lift.proofs.lifting.Lifting.check_words.Goals as goal

pub overflow_mul-result : goal.overflow_mul-result
overflow_mul-result c =
    let fs = c.args.self.now.functions.sorted.items in
    let within : c.loop-index.index < length fs = rw c.as_slice-f-items.ensures at c.loop-index-test.true in
    let first = rw c.as_slice-f-items.ensures at c.in-Some.ensures in
    let small = small_word c.args.check c.args.self.now.tables.objects.now fs c.loop-index.index _ c.in-Some.word c.requires.lifting.functions c.requires.places (slice_get-get_or fs c.loop-index.index zero_function within) first in
    omega (arith, small)

pub returns-in-Some-clause-err : goal.returns-in-Some-clause-err
returns-in-Some-clause-err c =
    let os = c.args.self.now.tables.objects.now in
    let fs = c.args.self.now.functions.sorted.items in
    let within : c.loop-index.index < length fs = rw c.as_slice-f-items.ensures at c.loop-index-test.true in
    let first = rw c.as_slice-f-items.ensures at c.in-Some.ensures in
    let name = rw c.as_slice-f-items.ensures at c.in_ok-name.ensures in
    rw c.kind.ensures (words_first c.args.check os fs c.loop-index.index _ c.in-Some.word c.in_ok-name.field-0 c.requires.lifting.functions c.requires.places (slice_get-get_or fs c.loop-index.index zero_function within)
    c.loop-index.invariant first name)

pub loop-index-preserved : goal.loop-index-preserved
loop-index-preserved c =
    let os = c.args.self.now.tables.objects.now in
    let fs = c.args.self.now.functions.sorted.items in
    let within : c.loop-index.index < length fs = rw c.as_slice-f-items.ensures at c.loop-index-test.true in
    let none = rw c.as_slice-f-items.ensures at c.in_default.ensures in
    one_function_more c.args.check os fs c.loop-index.index _ (slice_get-get_or fs c.loop-index.index zero_function within) c.loop-index.invariant none

pub returns-clause-ok : goal.returns-clause-ok
returns-clause-ok c =
    let all = rw c.as_slice-f-items.ensures at c.loop-index-test.false in
    words_nowhere c.args.check c.args.self.now.tables.objects.now c.args.self.now.functions.sorted.items c.loop-index.index c.requires.lifting.functions all c.loop-index.invariant
