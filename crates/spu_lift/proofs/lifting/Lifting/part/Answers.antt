use Rattle.std.proofs.Common.{◌≡◌, ◌/◌, ◌≤◌, length, arith, refl, subst}
use Rattle.spu_lift.specs.Built.{AreLabels, AreWordsFilled}
use Rattle.spu_lift.proofs.BuiltParts.{labels_more, words_more}
use Rattle.spu_lift.proofs.lifting.Lifting.part.Goals as goal

pub loop-word-preserved : goal.loop-word-preserved
loop-word-preserved c =
    let os = c.args.self.now.tables.objects.now in
    let added = c.in_ok-fill_word.ensures in
    let t = c.args.s.now in
    record {
      words = words_more os c.args.object c.args.section t.bytes c.loop-word.word c.loop-word.bytes c.fill_word.new.bytes c.loop-word.invariant.words (omega arith) added.bytes;
      labels = labels_more os c.args.self.now.functions.sorted.items c.args.object c.args.section c.loop-word.word c.loop-word.labels c.fill_word.new.labels c.loop-word.invariant.labels added.labels;
    }

pub returns : goal.returns
returns c =
    let os = c.args.self.now.tables.objects.now in
    let fs = c.args.self.now.functions.sorted.items in
    let all : c.loop-word.word ≡ length c.args.s.now.bytes / 4 = omega arith in
    record {
      address = refl;
      size = refl;
      words = subst (λ w. AreWordsFilled os c.args.object c.args.section c.args.s.now.bytes w c.loop-word.bytes) all c.loop-word.invariant.words;
      labels = subst (λ w. AreLabels os fs c.args.object c.args.section w c.loop-word.labels) all c.loop-word.invariant.labels;
    }
