-- Where tokens stand in their text: slices one behind the other, and before, between and behind them blanks,
-- ends of lines and comments alone. A comment goes from a `#` to the end of its line (GNU as for SPU).
use Rattle.std.specs.Prelude.{◌≡◌, ℕ, ◌-◌, ◌≤◌, ◌==◌, ◌&&◌, ◌||◌, Bool, true, false, if◌then◌else◌, List, [], ◌∷◌, length, take, drop}
use Rattle.spu_text.specs.declared.lexemes.Token.{Token}
use Rattle.spu_text.specs.Texts.{is_space}

-- whether these bytes are blanks, ends of lines and comments alone; the first may stand within a comment
abbrev pub is_gap : Bool → List ℕ → Bool
is_gap comment [] = true
is_gap comment (b ∷ bs) =
    if b == 10 then is_gap false bs
    else (if comment || b == 35 then is_gap true bs
    else is_space b && is_gap false bs)

-- the token is a slice of the text, at an offset or behind it, and a gap stands between
pub record IsNext (text : List ℕ) (at : ℕ) (t : Token) : Type 0 where
  pub behind : at ≤ t.start
  pub slice : t.start ≤ t.end
  pub within : t.end ≤ length text
  pub gap : is_gap false (take (t.start - at) (drop at text)) ≡ true

-- the tokens from an offset on, each at the end of the one before or behind it, and a gap behind the last
abbrev pub AreInOrder : List ℕ → ℕ → List Token → Type 0
AreInOrder text at [] = is_gap false (drop at text) ≡ true
AreInOrder text at (t ∷ ts) = IsNext text at t × AreInOrder text t.end ts
