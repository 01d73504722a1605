use Rattle.std.proofs.Common.{sym}
use Rattle.std.proofs.lemmas.List.{take_all}
use Rattle.std.proofs.lemmas.List.Elements.{All-more, All-same}
use Rattle.spu_elf.specs.Bounds.{Lies}
use Rattle.spu_elf.specs.Reading.{section_checks, no_header}
use Rattle.spu_elf.proofs.Steps.{each_next}
use Rattle.spu_elf.proofs.reading.headers.check_sections.Goals as goal

pub loop-h-preserved : goal.loop-h-preserved
loop-h-preserved c = record {
  checks = each_next (section_checks c.args.len) c.args.headers.now c.loop-h.h-index no_header c.loop-h-test.true c.in_ok-check_section.ensures.checks c.loop-h.invariant.checks;
  lie = All-more (Lies c.args.len) c.args.headers.now c.loop-h.h-index no_header c.loop-h-test.true c.loop-h.invariant.lie c.in_ok-check_section.ensures.lies;
}

pub returns-clause-lie : goal.returns-clause-lie
returns-clause-lie c = All-same (Lies c.args.len) c.args.headers.now _ (sym (take_all c.loop-h.h-index c.args.headers.now c.loop-h-test.false)) c.loop-h.invariant.lie
