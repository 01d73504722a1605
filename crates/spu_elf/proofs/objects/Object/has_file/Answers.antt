use Rattle.std.proofs.Common.{IsTrue, rules}
use Rattle.spu_elf.proofs.objects.Object.has_file.Goals as goal

pub returns : goal.returns
returns c =
    let in_sections : IsTrue c.are_valid_sections.result = search rules in
    let in_symbols : IsTrue c.has_valid_symbols.result = search rules in
    let in_relocs : IsTrue c.has_valid_relocs.result = search rules in
    let symbols = c.has_valid_symbols.ensures.0 in_symbols in
    let relocs = c.has_valid_relocs.ensures.0 in_relocs in (
      λ passes. let fits = c.fits.ensures.0 passes in record {
        sections = c.are_valid_sections.ensures.0 in_sections;
        symbols = symbols.0;
        locals_first = symbols.1;
        relocs = relocs.0;
        ordered = relocs.1;
        few = fits.0;
        small = fits.1;
      },
      λ valid. c.fits.ensures.1 (valid.few, valid.small),
    )
