-- What each channel of transfers holds, of the words that the symbolic machine keeps. The others hold 0 from the start on.
use Rattle.std.specs.Prelude.{ℕ, ◌==◌, if◌then◌else◌, Option, Some}
use Rattle.spu_exec.specs.declared.channels.TheConstants.{MFC_EAH, MFC_EAL, MFC_LSA, MFC_SIZE, MFC_TAG_ID}
use Rattle.spu_ideal.specs.declared.channel_words.ChannelWords.{ChannelWords}

abbrev pub words_of : ChannelWords → ℕ → Option ℕ
words_of c = λ n.
    if n == MFC_LSA then c.local
    else (if n == MFC_EAH then c.effective_high
    else (if n == MFC_EAL then c.effective_low
    else (if n == MFC_SIZE then c.size
    else (if n == MFC_TAG_ID then c.tag
    else Some 0))))
