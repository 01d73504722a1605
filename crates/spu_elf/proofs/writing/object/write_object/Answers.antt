use Rattle.spu_elf.proofs.RoundTrip.{written_spelling, written_passes, written_again}
use Rattle.spu_elf.proofs.writing.object.write_object.Goals as goal

pub returns-clause-spelling : goal.returns-clause-spelling
returns-clause-spelling c = written_spelling c.spelled_from.result c.args.o.now c.spelled_from.ensures

pub returns-clause-passes : goal.returns-clause-passes
returns-clause-passes c = written_passes c.spelled_from.result c.args.o.now c.requires (written_spelling c.spelled_from.result c.args.o.now c.spelled_from.ensures)

pub returns-clause-read_again : goal.returns-clause-read_again
returns-clause-read_again c = written_again c.spelled_from.result c.args.o.now c.requires (written_spelling c.spelled_from.result c.args.o.now c.spelled_from.ensures)
