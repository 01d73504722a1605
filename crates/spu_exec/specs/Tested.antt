-- Which bytes of its sources a test, a halt and an address read, by SPU ISA 1.2, chapters 3 and 7.
use Rattle.std.specs.Prelude.{ℕ, nat_lt, nat_le, ◌&&◌, Bool, false}
use Rattle.spu_word.specs.declared.limits.TheConstants.{WORD_SIZE}
use Rattle.spu_isa.specs.declared.operation.Op.{Op}
use Rattle.spu_isa.specs.declared.operation.Op.TheVariants as op
use Rattle.spu_exec.specs.declared.sources.Source.{Source}
use Rattle.spu_exec.specs.declared.sources.Source.TheVariants.{FromRa, FromRb, FromRt}

-- the bytes of word 0, and of the lower half of it
abbrev pub in_word : ℕ → Bool
in_word j = nat_lt j WORD_SIZE

abbrev pub in_halfword : ℕ → Bool
in_halfword j = nat_le 2 j && nat_lt j WORD_SIZE

-- whether byte j of a source is in a word or halfword that a branch or a halt tests
abbrev pub tested : Op → Source → ℕ → Bool
tested op.Brz FromRt j = in_word j
tested op.Brnz FromRt j = in_word j
tested op.Biz FromRt j = in_word j
tested op.Binz FromRt j = in_word j
tested op.Brhz FromRt j = in_halfword j
tested op.Brhnz FromRt j = in_halfword j
tested op.Bihz FromRt j = in_halfword j
tested op.Bihnz FromRt j = in_halfword j
tested op.Heq FromRa j = in_word j
tested op.Heq FromRb j = in_word j
tested op.Hgt FromRa j = in_word j
tested op.Hgt FromRb j = in_word j
tested op.Hlgt FromRa j = in_word j
tested op.Hlgt FromRb j = in_word j
tested op.Heqi FromRa j = in_word j
tested op.Hgti FromRa j = in_word j
tested op.Hlgti FromRa j = in_word j
tested _ _ j = false

-- whether byte j of a source is read by the address of a load or store
abbrev pub addressed : Op → Source → ℕ → Bool
addressed op.Lqd FromRa j = in_word j
addressed op.Stqd FromRa j = in_word j
addressed op.Lqx FromRa j = in_word j
addressed op.Lqx FromRb j = in_word j
addressed op.Stqx FromRa j = in_word j
addressed op.Stqx FromRb j = in_word j
-- or by the target of an indirect branch or call
addressed op.Bi FromRa j = in_word j
addressed op.Bisl FromRa j = in_word j
addressed op.Biz FromRa j = in_word j
addressed op.Binz FromRa j = in_word j
addressed op.Bihz FromRa j = in_word j
addressed op.Bihnz FromRa j = in_word j
addressed _ _ j = false
