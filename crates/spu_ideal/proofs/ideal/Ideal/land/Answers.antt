use Rattle.std.proofs.Common.{List, ℕ, map, ap, ap₂, ◌∙◌, arith}
use Rattle.std.proofs.lemmas.List.{with_items_is}
use Rattle.spu_word.specs.declared.load.Area.{Area}
use Rattle.spu_exec.specs.Areas.{written, bytes_at}
use Rattle.spu_exec.specs.Transfers.{stretch_of}
use Rattle.spu_lift.specs.declared.symbolic.SymByte.{SymByte}
use Rattle.spu_ideal.specs.declared.quads.SymQuad.{SymQuad}
use Rattle.spu_ideal.specs.Channels.{Contents, numbers_from, placed}
use Rattle.spu_ideal.specs.View.{contents_of, state_of, store_of}
use Rattle.spu_ideal.proofs.Landed.{get_is, put_is}
use Rattle.spu_ideal.proofs.ideal.Ideal.land.Goals as goal

pub returns-in-Put-clause-exact : goal.returns-in-Put-clause-exact
returns-in-Put-clause-exact c m e =
    let h = put_is c.args.t.now (contents_of (state_of c.args.self.now)) m c.in-Put.is e in
    ap (λ (areas : List Area). record (state_of c.args.self.now) { areas = areas })
    (with_items_is c.args.self.now.areas c.put_to.new.areas (omega arith)
    ∙ c.put_to.ensures h.0 (ap (λ (l : List SymQuad). numbers_from (store_of l) c.args.t.now.local c.args.t.now.size) c.deref.ensures.value ∙ h.1)
    ∙ ap (λ (areas : List Area). written c.args.t.now.ea h.0 areas) c.deref_mut.ensures.value)
    ∙ ap (λ (k : Contents). record (state_of c.args.self.now) { store = k.store; areas = k.areas }) h.2

pub returns-in-Get-clause-exact : goal.returns-in-Get-clause-exact
returns-in-Get-clause-exact c m e =
    let h = get_is c.args.t.now (contents_of (state_of c.args.self.now)) m c.in-Get.is e in
    ap (λ (l : List SymQuad). record (state_of c.args.self.now) { store = store_of l }) (with_items_is c.args.self.now.store c.get_from.new.store (omega arith))
    ∙ ap (λ (store : ℕ → SymByte). record (state_of c.args.self.now) { store = store })
    (c.get_from.ensures.value
    ∙ ap₂ (λ (areas : List Area) (l : List SymQuad). placed c.args.t.now.local (bytes_at (map stretch_of areas) c.args.t.now.ea c.args.t.now.size) (store_of l)) c.deref-in-Get.ensures.value c.deref_mut-in-Get.ensures.value)
    ∙ ap (λ (k : Contents). record (state_of c.args.self.now) { store = k.store; areas = k.areas }) h
