-- A text is read line by line.
use Rattle.std.proofs.Common.{◌≡◌, ℕ, suc, ◌+◌, ◌≤◌, ◌<◌, true, false, List, [], ◌∷◌, ◌++◌, length, take, drop, Result, Ok, Err, refl, sym, ap, ◌∙◌, arith, append_assoc, inl, inr}
use Rattle.std.specs.Prelude.{◌==◌, not}
use Rattle.std.proofs.lemmas.Bool.{cases_Bool}
use Rattle.spu_text.specs.declared.lexemes.Token.{Token}
use Rattle.spu_text.specs.declared.lexemes.TextFault.{TextFault}
use Rattle.spu_text.specs.declared.lexemes.TextFault.TheVariants.{NotAscii, LineTooLong, BadNumber, OutOfMemory}
use Rattle.spu_text.specs.Reads.{Fails, Gives}
use Rattle.spu_text.specs.Texts.{lines_of, lines_read, line_read, line_len, onto, with_front, ◌>>=◌}

pub line_len_more : (b : ℕ) (s : List ℕ) → (b == 10) ≡ false → line_len (b ∷ s) ≡ suc (line_len s)
line_len_more b s h = rw h (omega arith)

pub line_len_now : (b : ℕ) (s : List ℕ) → (b == 10) ≡ true → line_len (b ∷ s) ≡ 1
line_len_now b s h = rw h (omega arith)

-- the first line, and the lines behind it
pub lines_first : (s : List ℕ) → 0 < length s → lines_of s ≡ take (line_len s) s ∷ lines_of (drop (line_len s) s)
lines_first [] h = absurd (omega arith)
lines_first (b ∷ []) h =
    elim (cases_Bool (b == 10)) [
      | inl is ↦ rw (line_len_now b [] is, is) refl
      | inr not ↦ rw (line_len_more b [] not, not) refl
    ]
lines_first (b ∷ c ∷ bs) h =
    elim (cases_Bool (b == 10)) [
      | inl is ↦ rw (line_len_now b (c ∷ bs) is, is) refl
      | inr not ↦ rw (line_len_more b (c ∷ bs) not, not) (ap (onto b) (lines_first (c ∷ bs) (omega arith)))
    ]

fronts : (a b : List Token) (r : Result (List Token) TextFault) → with_front a (with_front b r) ≡ with_front (a ++ b) r
fronts a b (Ok ts) = ap (λ (x : List Token). Ok x) (sym (append_assoc a b ts))
fronts a b (Err f) = refl

add_rest : (front front2 : List Token) (now rest : Result (List Token) TextFault) → with_front front now ≡ Ok front2 → with_front front (now >>= λ ts. with_front ts rest) ≡ with_front front2 rest
add_rest front front2 (Ok ts) rest e = fronts front ts rest ∙ ap (λ (x : List Token). with_front x rest) cc
add_rest front front2 (Err f) rest e = absurd cc

-- one line more, of those that are read
pub lines_step : (number start : ℕ) (s l rest : List ℕ) (front front2 : List Token) (v : Result (List Token) TextFault) → with_front front (lines_read number start (lines_of s)) ≡ v → 0 < length s → l ≡ take (line_len s) s → rest ≡ drop (line_len s) s → with_front front (line_read number start l) ≡ Ok front2 →
    with_front front2 (lines_read (number + 1) (start + length l) (lines_of rest)) ≡ v
lines_step number start s l rest front front2 v e h is after now =
    let split : lines_of s ≡ l ∷ lines_of rest = rw (is, after) (lines_first s h) in
    let all = rw split at e in
    sym (add_rest front front2 (line_read number start l) (lines_read (number + 1) (start + length l) (lines_of rest)) now) ∙ all

-- a line with a fault
pub lines_fault : (number start : ℕ) (s l : List ℕ) (front : List Token) (f : TextFault) (v : Result (List Token) TextFault) → with_front front (lines_read number start (lines_of s)) ≡ v → 0 < length s → l ≡ take (line_len s) s → line_read number start l ≡ Err f → v ≡ Err f
lines_fault number start s l front f v e h is fault =
    let split : lines_of s ≡ l ∷ lines_of (drop (line_len s) s) = rw is (lines_first s h) in
    let all = rw (split, fault) at e in sym all

-- what a function gave where the one that it called gave a fault
pub gives_fault : (r : Result (List Token) TextFault) (f : TextFault) (now v : Result (List Token) TextFault) → r ≡ Err f → Fails f now → ((g : TextFault) → now ≡ Err g → v ≡ Err g) → Gives r v
gives_fault r (NotAscii n) now v e h k = rw e (k (NotAscii n) h)
gives_fault r (LineTooLong n) now v e h k = rw e (k (LineTooLong n) h)
gives_fault r (BadNumber n) now v e h k = rw e (k (BadNumber n) h)
gives_fault r OutOfMemory now v e h k = rw e tt
