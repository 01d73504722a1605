use Rattle.std.proofs.Common.{sym, ◌∙◌}
use Rattle.spu_lift.proofs.EntryLemmas.{none_named, starts_err, starts_none, starts_ok}
use Rattle.spu_lift.proofs.tables.Tables.entry_start.Goals as goal

pub returns-in-Some-clause-ok : goal.returns-in-Some-clause-ok
returns-in-Some-clause-ok c =
    let found = sym (c.in-Some.ensures ∙ c.requires.tables.definitions.found c.args.entry.now) in
    rw c.ok_or.ensures.value (starts_ok c.args.self.now.objects.now c.args.entry.now c.in-Some.id c.function_start.result c.requires.tables.definitions.there found c.function_start.ensures.some)

pub returns-in-Some-clause-none : goal.returns-in-Some-clause-none
returns-in-Some-clause-none c =
    let found = sym (c.in-Some.ensures ∙ c.requires.tables.definitions.found c.args.entry.now) in
    rw c.ok_or.ensures.value (starts_none c.args.self.now.objects.now c.args.entry.now c.in-Some.id c.function_start.result c.requires.tables.definitions.there found c.function_start.ensures.some)

pub returns-in-Some-clause-err : goal.returns-in-Some-clause-err
returns-in-Some-clause-err c =
    let found = sym (c.in-Some.ensures ∙ c.requires.tables.definitions.found c.args.entry.now) in
    rw c.ok_or.ensures.value (starts_err c.args.self.now.objects.now c.args.entry.now c.in-Some.id c.function_start.result c.requires.tables.definitions.there c.requires.unique found c.function_start.ensures.none)

pub returns-in-None-clause-err : goal.returns-in-None-clause-err
returns-in-None-clause-err c =
    none_named c.args.self.now.objects.now c.args.entry.now c.requires.tables.definitions.there c.requires.unique (sym (c.find.ensures ∙ c.requires.tables.definitions.found c.args.entry.now) ∙ c.in-None.is)
