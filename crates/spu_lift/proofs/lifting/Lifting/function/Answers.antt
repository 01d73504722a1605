use Rattle.std.proofs.Common.{refl, ◌≡◌}
use Rattle.spu_lift.proofs.lifting.Lifting.function.Goals as goal

pub returns : goal.returns
returns c =
    let these = rw c.word_count.ensures at c.in_ok-words.ensures.these in
    record {
      name = c.in_ok-name.ensures;
      global = refl;
      section = c.code_number.ensures c.requires.ready.code.0 c.requires.ready.code.1 c.requires.ready.code.2;
      offset = refl;
      code = c.in_ok-instructions.ensures;
      rising = c.in_ok-words.ensures.rising;
      taken = these;
    }
