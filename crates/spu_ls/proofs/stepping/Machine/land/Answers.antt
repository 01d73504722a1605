use Rattle.std.proofs.Common.{List, ℕ, ap, ap₂, sym, ◌∙◌, arith}
use Rattle.std.proofs.lemmas.List.{with_items_is}
use Rattle.spu_word.specs.declared.load.Area.{Area}
use Rattle.spu_exec.specs.declared.transfers.Form.TheVariants.{Get}
use Rattle.spu_exec.specs.Transfers.{reached}
use Rattle.spu_ls.specs.Stores.{bytes_from, bytes_of, placed}
use Rattle.spu_exec.specs.Areas.{written, bytes_at}
use Rattle.spu_ls.specs.View.{state_of}
use Rattle.spu_ls.proofs.Landed.{lands_put, lands_get}
use Rattle.spu_ls.proofs.stepping.Machine.land.Goals as goal

pub returns-in-Put-clause-exact : goal.returns-in-Put-clause-exact
returns-in-Put-clause-exact c =
    ap (λ (areas : List Area). record (state_of c.args.self.now) { areas = areas })
    (with_items_is c.args.self.now.areas c.put_to.new.areas (omega arith)
    ∙ c.put_to.ensures
    ∙ ap₂ (λ (store : List ℕ) (areas : List Area). written c.args.t.now.ea (bytes_from (bytes_of store) c.args.t.now.local c.args.t.now.size) areas) c.deref.ensures.value c.deref_mut.ensures.value)
    ∙ sym (lands_put (state_of c.args.self.now) c.args.t.now c.in-Put.is)

pub returns-in-Get-clause-exact : goal.returns-in-Get-clause-exact
returns-in-Get-clause-exact c =
    ap (λ (store : List ℕ). record (state_of c.args.self.now) { store = bytes_of store }) (with_items_is c.args.self.now.store c.get_from.new.store (omega arith))
    ∙ ap (λ (store : ℕ → ℕ). record (state_of c.args.self.now) { store = store })
    (c.get_from.ensures.value
    ∙ ap₂ (λ (image : List ℕ) (areas : List Area). placed c.args.t.now.local (bytes_at (reached Get (record { ea = c.args.self.now.image_ea; bytes = image }) areas) c.args.t.now.ea c.args.t.now.size) (bytes_of c.deref_mut-in-Get.result.now)) c.deref-in-Get.ensures.value c.deref-in-Get-2.ensures.value
    ∙ ap (λ (store : List ℕ). placed c.args.t.now.local (bytes_at (reached Get (record { ea = c.args.self.now.image_ea; bytes = c.args.self.now.image.items }) c.args.self.now.areas.items) c.args.t.now.ea c.args.t.now.size) (bytes_of store)) c.deref_mut-in-Get.ensures.value)
    ∙ sym (lands_get (state_of c.args.self.now) c.args.t.now c.in-Get.is)
