use Rattle.std.proofs.Common.{◌≡◌, ℕ, Option, Some, refl, subst}
use Rattle.std.proofs.lemmas.Option.{slice_get_read}
use Rattle.spu_frame.specs.Surveys.{IsLoaded}
use Rattle.spu_frame.proofs.known.added_register.Goals as goal

same_writer : (o : Option (Option ℕ)) (a b : Option ℕ) → o ≡ Some a → o ≡ Some b → a ≡ b
same_writer o a b e f = cc

pub returns-then-adds_register-clause-none : goal.returns-then-adds_register-clause-none
returns-then-adds_register-clause-none c =
    λ e k l. (
    let ws = c.args.writers.now.items in
    let at = slice_get_read ws _ c.args.x.now.inst.rb c.index.result.now refl (c.requires.rb l.is) c.index.ensures in
    c.loaded.ensures.none e k (subst (λ w. IsLoaded c.args.code.now w c.args.straight k) (same_writer _ _ _ l.wrote at) l.load))
