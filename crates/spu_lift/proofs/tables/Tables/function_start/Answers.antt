use Rattle.std.proofs.Common.{length, refl, sym, ◌∙◌, ap}
use Rattle.std.proofs.lemmas.Option.{slice_get_read}
use Rattle.spu_lift.specs.Checks.{function_section}
use Rattle.spu_lift.proofs.EntryLemmas.{starts_at}
use Rattle.spu_lift.proofs.tables.Tables.function_start.Goals as goal

pub returns-clause-some : goal.returns-clause-some
returns-clause-some c =
    let h = c.in_ok-o.ensures.lookup in
    let os = c.args.self.now.objects.now in
    let o = c.in_ok-o.o.now in
    let s = c.in_ok-symbol.symbol.now in
    let there = slice_get_read os (length os) c.args.id.object o refl h.3.0 h.1 in
    let k = c.in_ok-section.ensures in
    starts_at os c.args.id o s c.in_ok-section.section there (sym c.in_ok-symbol.ensures) (ap (λ ts. function_section ts s) (sym c.as_slice.ensures) ∙ sym k)
