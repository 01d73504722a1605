-- The channels of transfers with one word changed, at the start, and where they are forgotten.
use Rattle.std.proofs.Common.{◌≡◌, ℕ, Some, None, Option, arith}
use Rattle.std.proofs.Math.Path.{fun_ext}
use Rattle.std.proofs.lemmas.Bool.Decides.{nat_tests}
use Rattle.spu_ideal.specs.State.{put_word, forgotten_channels}
use Rattle.spu_ideal.specs.Words.{words_of}
use Rattle.spu_ideal.specs.declared.channel_words.ChannelWords.{ChannelWords}

pub put_local : (c : ChannelWords) (w : ℕ) → words_of (record c { local = Some w }) ≡ put_word 16 w (words_of c)
put_local c w = fun_ext (λ k. grind (arith, nat_tests))

pub put_high : (c : ChannelWords) (w : ℕ) → words_of (record c { effective_high = Some w }) ≡ put_word 17 w (words_of c)
put_high c w = fun_ext (λ k. grind (arith, nat_tests))

pub put_low : (c : ChannelWords) (w : ℕ) → words_of (record c { effective_low = Some w }) ≡ put_word 18 w (words_of c)
put_low c w = fun_ext (λ k. grind (arith, nat_tests))

pub put_size : (c : ChannelWords) (w : ℕ) → words_of (record c { size = Some w }) ≡ put_word 19 w (words_of c)
put_size c w = fun_ext (λ k. grind (arith, nat_tests))

pub put_tag : (c : ChannelWords) (w : ℕ) → words_of (record c { tag = Some w }) ≡ put_word 20 w (words_of c)
put_tag c w = fun_ext (λ k. grind (arith, nat_tests))

abbrev all_of : Option ℕ → ChannelWords
all_of o = record { local = o; effective_high = o; effective_low = o; size = o; tag = o }

pub zero_words : words_of (all_of (Some 0)) ≡ λ n. Some 0
zero_words = fun_ext (λ k. grind (arith, nat_tests))

pub forgotten_words : (c : ChannelWords) → words_of (all_of None) ≡ forgotten_channels (words_of c)
forgotten_words c = fun_ext (λ k. grind (arith, nat_tests))
