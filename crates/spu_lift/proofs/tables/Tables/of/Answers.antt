use Rattle.spu_lift.proofs.DefinitionPlaces.{definition_there}
use Rattle.spu_lift.proofs.tables.Tables.of.Goals as goal

pub returns-clause-tables : goal.returns-clause-tables
returns-clause-tables c = record {
  few = c.requires.few;
  formed = c.requires.formed;
  sections = c.in_ok-of.ensures;
  definitions = record { found = c.in_ok-of-2.ensures; there = λ name x found. (definition_there c.args.objects.now name x found).there };
  relocations = c.in_ok-of-3.ensures;
}
