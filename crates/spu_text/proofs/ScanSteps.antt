-- A line is read token by token.
use Rattle.std.proofs.Common.{◌≡◌, ℕ, zero, suc, ◌+◌, ◌<◌, ◌≤◌, true, false, List, [], ◌∷◌, ◌++◌, length, drop, get_or, Option, Some, None, Result, Ok, Err, refl, sym, ap, ◌∙◌, arith, append_assoc}
use Rattle.std.proofs.Math.Numerals.{sub-one}
use Rattle.spu_text.specs.declared.lexemes.Token.{Token}
use Rattle.spu_text.specs.declared.lexemes.TokenKind.{TokenKind}
use Rattle.spu_text.specs.declared.lexemes.TokenKind.TheVariants as kinds
use Rattle.spu_text.specs.declared.lexemes.TextFault.{TextFault}
use Rattle.spu_text.specs.declared.lexemes.TextFault.TheVariants as faults
use Rattle.spu_text.specs.Texts.{scan, with_front, token, placed, piece_of, is_space, is_over}

abbrev Tokens : Type 0
Tokens = Result (List Token) TextFault

fronts : (a b : List Token) (r : Tokens) → with_front a (with_front b r) ≡ with_front (a ++ b) r
fronts a b (Ok ts) = ap (λ (x : List Token). Ok x) (sym (append_assoc a b ts))
fronts a b (Err f) = refl

-- the bytes of the token before are passed over
pub scan_past : (line at k : ℕ) (s : List ℕ) → k ≤ length s → scan line at k s ≡ scan line (at + k) 0 (drop k s)
scan_past line at zero s h = ap (λ n. scan line n 0 s) (omega arith)
scan_past line at (suc k) [] h = absurd (omega arith)
scan_past line at (suc k) (b ∷ bs) h = scan_past line (at + 1) k bs (omega arith) ∙ ap (λ n. scan line n 0 (drop k bs)) (omega arith)

abbrev first : List ℕ → ℕ
first s = get_or s 0 0

-- over a space
pub front_space : (line at : ℕ) (s rest : List ℕ) (front : List Token) (v : Tokens) → with_front front (scan line at 0 s) ≡ v → is_over s ≡ false → is_space (first s) ≡ true → rest ≡ drop 1 s → with_front front (scan line (at + 1) 0 rest) ≡ v
front_space line at [] rest front v e over space r = absurd cc
front_space line at (b ∷ bs) rest front v e over space r = let h = rw (over, space) at e in rw r h

scan_token : (line at size : ℕ) (kind : Option TokenKind) (s : List ℕ) → is_over s ≡ false → is_space (first s) ≡ false → (piece_of s).kind ≡ kind → (piece_of s).size ≡ size → 0 < size → size ≤ length s →
    scan line at 0 s ≡ placed line at size kind (scan line (at + size) 0 (drop size s))
scan_token line at size kind [] over space k n pos le = absurd cc
scan_token line at zero kind (b ∷ bs) over space k n pos le = absurd (omega arith)
scan_token line at (suc m) kind (b ∷ bs) over space k n pos le =
    let past = scan_past line at (suc m) (b ∷ bs) le in
    rw (over, space, k, n, sub-one) (ap (placed line at (suc m) kind) past)

-- over a token
pub front_token : (line at size : ℕ) (kind : TokenKind) (s rest : List ℕ) (front front2 : List Token) (v : Tokens) → with_front front (scan line at 0 s) ≡ v → is_over s ≡ false → is_space (first s) ≡ false → (piece_of s).kind ≡ Some kind → size ≡ (piece_of s).size → 0 < size → size ≤ length s → rest ≡ drop size s → front2 ≡ front ++ token line at size kind ∷ [] →
    with_front front2 (scan line (at + size) 0 rest) ≡ v
front_token line at size kind s rest front front2 v e over space k n pos le r f =
    rw (f, r) (sym (fronts front (token line at size kind ∷ []) (scan line (at + size) 0 (drop size s))) ∙ ap (with_front front) (sym (scan_token line at size (Some kind) s over space k (sym n) pos le)) ∙ e)

-- a word that is no number
pub front_bad : (line at size : ℕ) (s : List ℕ) (front : List Token) (v : Tokens) → with_front front (scan line at 0 s) ≡ v → is_over s ≡ false → is_space (first s) ≡ false → (piece_of s).kind ≡ None → size ≡ (piece_of s).size → 0 < size → size ≤ length s → v ≡ Err (faults.BadNumber line)
front_bad line at size s front v e over space k n pos le = sym e ∙ ap (with_front front) (scan_token line at size None s over space k (sym n) pos le)

-- the end
pub front_ends : (line at : ℕ) (s : List ℕ) (front front2 : List Token) (v : Tokens) → with_front front (scan line at 0 s) ≡ v → is_over s ≡ true → front2 ≡ front ++ token line at 0 kinds.EndOfStatement ∷ [] → v ≡ Ok front2
front_ends line at [] front front2 v e over f = sym e ∙ ap (λ (x : List Token). Ok x) (sym f)
front_ends line at (b ∷ bs) front front2 v e over f = let h = rw over at e in sym h ∙ ap (λ (x : List Token). Ok x) (sym f)
