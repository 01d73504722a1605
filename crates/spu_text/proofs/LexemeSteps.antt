-- A line is read lexeme by lexeme.
use Rattle.std.proofs.Common.{◌≡◌, ℕ, zero, suc, ◌+◌, ◌<◌, ◌≤◌, true, false, List, [], ◌∷◌, ◌++◌, length, take, drop, get_or, Option, Some, None, Result, Ok, Err, refl, sym, ap, ◌∙◌, arith, append_assoc, append-nil}
use Rattle.std.specs.Prelude.{option_map, map}
use Rattle.std.proofs.Math.Numerals.{sub-one}
use Rattle.spu_text.specs.declared.lexemes.TokenKind.{TokenKind}
use Rattle.spu_text.specs.declared.lexemes.TextFault.{TextFault}
use Rattle.spu_text.specs.declared.line.Piece.{Piece}
use Rattle.spu_text.specs.Texts.{piece_of, is_space, is_over}
use Rattle.spu_text.specs.Lexemes.{Lexeme, lexeme, Lexemes, led_by, lexemes, read_or, lexeme_of, are_lexemes}

-- the lexemes, with others in front
abbrev pub behind : List Piece → Lexemes → Lexemes
behind front ts = option_map (λ (more : List Lexeme). are_lexemes front ++ more) ts

map_more : (front : List Piece) (p : Piece) → are_lexemes (front ++ p ∷ []) ≡ are_lexemes front ++ lexeme_of p ∷ []
map_more [] p = refl
map_more (q ∷ front) p = ap (λ (x : List Lexeme). lexeme_of q ∷ x) (map_more front p)

-- one more lexeme
behind_more : (front : List Piece) (p : Piece) (ts : Lexemes) → behind (front ++ p ∷ []) ts ≡ behind front (option_map (λ (more : List Lexeme). lexeme_of p ∷ more) ts)
behind_more front p None = refl
behind_more front p (Some ts) = ap (λ (x : List Lexeme). Some x) (ap (λ (x : List Lexeme). x ++ ts) (map_more front p) ∙ append_assoc (are_lexemes front) (lexeme_of p ∷ []) ts)

-- the bytes of the lexeme before are passed over
past : (k : ℕ) (s : List ℕ) → k ≤ length s → lexemes k s ≡ lexemes 0 (drop k s)
past zero s h = refl
past (suc k) [] h = absurd (omega arith)
past (suc k) (b ∷ bs) h = past k bs (omega arith)

abbrev first : List ℕ → ℕ
first s = get_or s 0 0

pub over_space : (s rest : List ℕ) (front : List Piece) (v : Lexemes) → behind front (lexemes 0 s) ≡ v → is_over s ≡ false → is_space (first s) ≡ true → rest ≡ drop 1 s → behind front (lexemes 0 rest) ≡ v
over_space [] rest front v e over space r = absurd cc
over_space (b ∷ bs) rest front v e over space r = let h = rw (over, space) at e in rw r h

cut : (size : ℕ) (kind : Option TokenKind) (s : List ℕ) → is_over s ≡ false → is_space (first s) ≡ false → (piece_of s).kind ≡ kind → (piece_of s).size ≡ size → 0 < size → size ≤ length s → lexemes 0 s ≡ led_by kind (take size s) (lexemes 0 (drop size s))
cut size kind [] over space k n pos le = absurd cc
cut zero kind (b ∷ bs) over space k n pos le = absurd (omega arith)
cut (suc m) kind (b ∷ bs) over space k n pos le =
    let more = past (suc m) (b ∷ bs) le in
    rw (over, space, k, n, sub-one) (ap (led_by kind (take (suc m) (b ∷ bs))) more)

pub over_lexeme : (size : ℕ) (kind : TokenKind) (s text rest : List ℕ) (p : Piece) (front front2 : List Piece) (v : Lexemes) → behind front (lexemes 0 s) ≡ v → is_over s ≡ false → is_space (first s) ≡ false → (piece_of s).kind ≡ Some kind → size ≡ (piece_of s).size → 0 < size → size ≤ length s → text ≡ take size s → rest ≡ drop size s → lexeme_of p ≡ lexeme kind text → front2 ≡ front ++ p ∷ [] → behind front2 (lexemes 0 rest) ≡ v
over_lexeme size kind s text rest p front front2 v e over space k n pos le t r is f =
    let one : behind front (lexemes 0 s) ≡ behind front (led_by (Some kind) (take size s) (lexemes 0 (drop size s))) = ap (behind front) (cut size (Some kind) s over space k (sym n) pos le) in
    let same : lexeme_of p ≡ lexeme kind (take size s) = is ∙ ap (lexeme kind) t in
    rw (f, r, behind_more front p (lexemes 0 (drop size s)), same) (sym one ∙ e)

-- a word that is no number
pub no_number : (size : ℕ) (fault : TextFault) (s : List ℕ) (front : List Piece) (v : Lexemes) → behind front (lexemes 0 s) ≡ v → is_over s ≡ false → is_space (first s) ≡ false → (piece_of s).kind ≡ None → size ≡ (piece_of s).size → 0 < size → size ≤ length s → read_or fault v ≡ Err fault
no_number size fault s front v e over space k n pos le =
    let one : behind front (lexemes 0 s) ≡ None = ap (behind front) (cut size None s over space k (sym n) pos le) in
    let none : v ≡ None = sym e ∙ one in
    rw none refl

pub at_end : (fault : TextFault) (s : List ℕ) (front : List Piece) (v : Lexemes) → behind front (lexemes 0 s) ≡ v → is_over s ≡ true → read_or fault v ≡ Ok (are_lexemes front)
at_end fault [] front v e over = rw (← e) (ap (λ (x : List Lexeme). Ok x) (append-nil (are_lexemes front)))
at_end fault (b ∷ bs) front v e over = let h = rw over at e in rw (← h) (ap (λ (x : List Lexeme). Ok x) (append-nil (are_lexemes front)))
