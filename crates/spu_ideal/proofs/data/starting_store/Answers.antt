use Rattle.std.proofs.Common.{◌≡◌, ℕ, List, length, ap, ◌∙◌, arith}
use Rattle.std.specs.Prelude.{map}
use Rattle.spu_lift.specs.declared.symbolic.SymByte.{SymByte}
use Rattle.spu_ideal.specs.declared.quads.SymQuad.{SymQuad}
use Rattle.spu_ideal.specs.Machine.{entry_of, with_entries}
use Rattle.spu_ideal.specs.View.{store_of}
use Rattle.spu_ideal.proofs.Filling.{front}
use Rattle.spu_ideal.proofs.data.starting_store.Goals as goal

pub returns-clause-value : goal.returns-clause-value
returns-clause-value c =
    let long : length c.enter_all.new.store ≡ c.in_ok-store.store.len = (let a = c.enter_all.ensures.len in let b = c.deref_mut.ensures.len in omega (arith, a, b)) in
    ap (λ (xs : List SymQuad). store_of xs) (front c.in_ok-store.store.len c.enter_all.new.store _ long)
    ∙ c.enter_all.ensures.value
    ∙ ap (λ (m : ℕ → SymByte). with_entries (map entry_of c.args.ears.now) c.args.areas.now m) (ap (λ (xs : List SymQuad). store_of xs) c.deref_mut.ensures.value ∙ c.in_ok-store.ensures.value)
