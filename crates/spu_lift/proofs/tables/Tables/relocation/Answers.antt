use Rattle.std.proofs.Common.{◌≡◌, None, slice_get, sym, ◌∙◌, rules}
use Rattle.std.specs.List.{position_from}
use Rattle.spu_lift.specs.Tables.{reloc_on, relocs_of}
use Rattle.spu_lift.specs.LookUps.{stands_at}
use Rattle.spu_lift.proofs.TableLemmas.{first_found, none_found}
use Rattle.spu_lift.proofs.tables.Tables.relocation.Goals as goal

pub returns-in_err-index : goal.returns-in_err-index
returns-in_err-index c =
    let os = c.args.self.now.objects.now in
    let none : position_from (stands_at c.args.spot) 0 (relocs_of os c.args.spot.object) ≡ None = sym (c.first_at.ensures ∙ c.requires.relocations c.args.spot) ∙ c.in_err-index.was in
    let e : reloc_on os c.args.spot.object c.args.spot.section c.args.spot.offset ≡ None = none_found (stands_at c.args.spot) (relocs_of os c.args.spot.object) none in
    rw e (search rules)

pub returns : goal.returns
returns c =
    let os = c.args.self.now.objects.now in
    let e : reloc_on os c.args.spot.object c.args.spot.section c.args.spot.offset ≡ slice_get (relocs_of os c.args.spot.object) c.in_ok-index.index =
    first_found (stands_at c.args.spot) (relocs_of os c.args.spot.object) c.in_ok-index.index (sym (c.first_at.ensures ∙ c.requires.relocations c.args.spot) ∙ c.in_ok-index.was) in
    c.numbered_relocation.ensures ∙ sym e
