use Rattle.spu_cesof.proofs.Given.{embeds, unpacks}
use Rattle.spu_cesof.proofs.embedding.embed.Goals as goal

pub returns-clause-embeds : goal.returns-clause-embeds
returns-clause-embeds c = embeds c.embedded.result c.args.name.now c.args.x.now c.args.file.now c.requires.name c.requires.valid c.requires.file c.embedded.ensures.spelled c.embedded.ensures.size

pub returns-clause-unpacks : goal.returns-clause-unpacks
returns-clause-unpacks c = unpacks c.embedded.result c.args.name.now c.args.x.now c.args.file.now c.requires.name c.requires.valid c.requires.file c.embedded.ensures.spelled c.embedded.ensures.size
