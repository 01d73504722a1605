use Rattle.spu_ideal.proofs.Worded.{zero_words}
use Rattle.spu_ideal.proofs.channel_words.ChannelWords.zero.Goals as goal

pub returns : goal.returns
returns c = zero_words
