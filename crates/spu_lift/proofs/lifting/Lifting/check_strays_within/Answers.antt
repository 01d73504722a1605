use Rattle.std.proofs.Common.{◌≡◌, length, ap, arith, rules}
use Rattle.spu_elf.specs.declared.objects.SecKind.TheVariants as sections
use Rattle.spu_lift.proofs.CoverPasses.{first_stray_shown, laid_out, no_stray}
use Rattle.spu_lift.proofs.ExtentFacts.{bytes_of_code, few_bytes, valid_section}
use Rattle.spu_lift.proofs.lifting.Lifting.check_strays_within.Goals as goal

pub first_stray-requires-clause-laid : goal.first_stray-requires-clause-laid
first_stray-requires-clause-laid c =
    let os = c.args.self.now.tables.objects.now in
    rw (c.as_slice.ensures, c.within.ensures)
    (laid_out os c.args.self.now.symbols.sorted.items c.args.object c.args.section c.args.s.now c.requires.lifting.tables.formed c.requires.lifting.symbols c.requires.aligned c.requires.there)

pub first_stray-requires-clause-small : goal.first_stray-requires-clause-small
first_stray-requires-clause-small c =
    let few = few_bytes c.args.s.now (valid_section c.args.self.now.tables.objects.now c.args.object c.args.section c.args.s.now c.requires.lifting.tables.formed c.requires.there) in
    omega (arith, ap length c.as_slice.ensures)

pub overflow_mul-word : goal.overflow_mul-word
overflow_mul-word c =
    let few = few_bytes c.args.s.now (valid_section c.args.self.now.tables.objects.now c.args.object c.args.section c.args.s.now c.requires.lifting.tables.formed c.requires.there) in
    let inside = c.in-Some.ensures.inside in
    omega (arith, ap length c.as_slice.ensures)

pub returns-in-Some-clause-err : goal.returns-in-Some-clause-err
returns-in-Some-clause-err c =
    let os = c.args.self.now.tables.objects.now in
    let t = c.args.s.now in
    let code : c.args.s.now.kind ≡ sections.Code = search rules in
    let first = rw (c.as_slice.ensures, c.within.ensures) at c.in-Some.ensures in
    let valid = valid_section os c.args.object c.args.section t c.requires.lifting.tables.formed c.requires.there in
    first_stray_shown os c.args.self.now.symbols.sorted.items c.args.object c.args.section t c.in-Some.word c.of_site.result c.requires.lifting.symbols c.requires.there code (bytes_of_code t valid code) first c.of_site.ensures

pub returns-in-None-clause-ok : goal.returns-in-None-clause-ok
returns-in-None-clause-ok c =
    let os = c.args.self.now.tables.objects.now in
    let t = c.args.s.now in
    let code : c.args.s.now.kind ≡ sections.Code = search rules in
    let covered = rw (c.as_slice.ensures, c.within.ensures) at c.in-None.ensures in
    let valid = valid_section os c.args.object c.args.section t c.requires.lifting.tables.formed c.requires.there in
    no_stray os c.args.self.now.symbols.sorted.items c.args.object c.args.section t c.requires.lifting.symbols c.requires.there (bytes_of_code t valid code) covered
