use Rattle.spu_ideal.proofs.Worded.{forgotten_words}
use Rattle.spu_ideal.proofs.channel_words.ChannelWords.forgotten.Goals as goal

pub returns : goal.returns
returns c = forgotten_words c.args.self
