-- The tokens that are read stand in order, with gaps between them.
use Rattle.std.proofs.Common.{◌≡◌, ℕ, zero, suc, ◌+◌, ◌-◌, ◌<◌, ◌≤◌, ◌⊎◌, inl, inr, Bool, true, false, List, [], ◌∷◌, ◌++◌, length, take, drop, get_or, Option, Some, None, Result, Ok, Err, IfOk, refl, sym, ap, ◌∙◌, subst, arith, append_assoc}
use Rattle.std.specs.Prelude.{◌==◌, ◌&&◌, not, nat_lt, if◌then◌else◌, slice_index, option_map}
use Rattle.std.specs.List.{list_all, prefix_len}
use Rattle.std.proofs.lemmas.Bool.{cases_Bool, and_parts, eqb-true}
use Rattle.std.proofs.lemmas.List.{length-append, length-take, length-drop, append-nil, take_at, drop_at, take_all, drop_all, take-append-drop, take-append-le, drop-append-le, drop_more}
use Rattle.std.proofs.Math.ListN.{get_or-append}
use Rattle.std.proofs.lemmas.Bool.Decides.{nat_tests}
use Rattle.std.proofs.lemmas.List.Sums.{prefix_len-le-length}
use Rattle.spu_word.specs.declared.limits.TheConstants.{MAX_LINE_SIZE}
use Rattle.spu_text.specs.declared.lexemes.Token.{Token}
use Rattle.spu_text.specs.declared.lexemes.TokenKind.{TokenKind}
use Rattle.spu_text.specs.declared.lexemes.TokenKind.TheVariants as kinds
use Rattle.spu_text.specs.declared.lexemes.TextFault.{TextFault}
use Rattle.spu_text.specs.Texts.{text_read, lines_of, lines_read, line_read, line_len, content, scan, placed, piece_of, mark_or_quoted, closing, is_word_byte, is_space, is_source_byte, is_no_newline, with_front, token, ◌>>=◌}
use Rattle.spu_text.specs.Order.{is_gap, AreInOrder}
use Rattle.spu_text.proofs.LineSteps.{line_len_more, line_len_now, lines_first}

abbrev NoNewline : List ℕ → Type 0
NoNewline bs = list_all is_no_newline bs ≡ true

no_newline : (b : ℕ) (bs : List ℕ) → NoNewline (b ∷ bs) → (b == 10) ≡ false
no_newline b bs all = by_test (b == 10) (and_parts _ _ all).0
  where
    by_test : (t : Bool) → not t ≡ true → t ≡ false
    by_test true e = absurd cc
    by_test false e = refl

no_newlines : (b : ℕ) (bs : List ℕ) → NoNewline (b ∷ bs) → NoNewline bs
no_newlines b bs all = (and_parts _ _ all).1

no_newline_take : (k : ℕ) (bs : List ℕ) → NoNewline bs → NoNewline (take k bs)
no_newline_take zero bs all = refl
no_newline_take (suc k) [] all = refl
no_newline_take (suc k) (b ∷ bs) all = rw (no_newline b bs all) (no_newline_take k bs (no_newlines b bs all))

-- ---- gaps

gap_newline : (c : Bool) (b : ℕ) (gap : List ℕ) → (b == 10) ≡ true → is_gap false gap ≡ true → is_gap c (b ∷ gap) ≡ true
gap_newline c b gap h ok = rw h ok

gap_comment : (b : ℕ) (gap : List ℕ) → (b == 10) ≡ false → is_gap true gap ≡ true → is_gap true (b ∷ gap) ≡ true
gap_comment b gap h ok = rw h ok

gap_begins : (b : ℕ) (gap : List ℕ) → (b == 10) ≡ false → (b == 35) ≡ true → is_gap true gap ≡ true → is_gap false (b ∷ gap) ≡ true
gap_begins b gap h is ok = rw (h, is) ok

gap_space : (b : ℕ) (gap : List ℕ) → (b == 10) ≡ false → (b == 35) ≡ false → is_space b ≡ true → is_gap false gap ≡ true → is_gap false (b ∷ gap) ≡ true
gap_space b gap h other space ok = rw (h, other, space) ok

return_is_space : is_space 13 ≡ true
unfolding is_space
return_is_space = refl

-- ---- tokens at the front of some bytes

pub record Begins (comment : Bool) (bytes : List ℕ) (at : ℕ) (t : Token) : Type 0 where
  pub gap : List ℕ
  pub slice : List ℕ
  pub left : List ℕ
  pub parts : bytes ≡ gap ++ (slice ++ left)
  pub blank : is_gap comment gap ≡ true
  pub start : t.start ≡ at + length gap
  pub end : t.end ≡ t.start + length slice

abbrev pub Chain : Bool → List ℕ → ℕ → List Token → Type 0
Chain comment bytes at [] = is_gap comment bytes ≡ true
Chain comment bytes at (t ∷ ts) = (begins : Begins comment bytes at t) × Chain false begins.left t.end ts

-- a byte in front of the gap
before : (c d : Bool) (b : ℕ) (bytes : List ℕ) (at : ℕ) (ts : List Token) → ((gap : List ℕ) → is_gap d gap ≡ true → is_gap c (b ∷ gap) ≡ true) → Chain d bytes (at + 1) ts → Chain c (b ∷ bytes) at ts
before c d b bytes at [] step chain = step bytes chain
before c d b bytes at (t ∷ ts) step (begins, rest) =
    let begin_at = begins.start in
    (record { gap = b ∷ begins.gap; slice = begins.slice; left = begins.left; parts = ap (λ (z : List ℕ). b ∷ z) begins.parts; blank = step begins.gap begins.blank; start = omega (arith, begin_at); end = begins.end }, rest)

chain_at : (c : Bool) (bytes : List ℕ) (at there : ℕ) (ts : List Token) → at ≡ there → Chain c bytes at ts → Chain c bytes there ts
chain_at c bytes at there ts e chain = subst (λ n. Chain c bytes n ts) e chain

-- no bytes
chain_none : (c : Bool) (at : ℕ) (ts : List Token) → Chain false [] at ts → Chain c [] at ts
chain_none c at [] chain = refl
chain_none c at (t ∷ ts) (begins, rest) =
    let empty : begins.gap ≡ [] = no_gap begins.gap (begins.slice ++ begins.left) begins.parts in
    (record { gap = begins.gap; slice = begins.slice; left = begins.left; parts = begins.parts; blank = ap (is_gap c) empty; start = begins.start; end = begins.end }, rest)
  where
    no_gap : (xs ys : List ℕ) → [] ≡ xs ++ ys → xs ≡ []
    no_gap [] ys e = refl
    no_gap (x ∷ xs) ys e = absurd cc

-- a comment to the end of the line
comment_rest : (bs tail : List ℕ) (at : ℕ) (ts : List Token) → NoNewline bs → Chain true tail (at + length bs) ts → Chain true (bs ++ tail) at ts
comment_rest [] tail at ts all chain = chain_at true tail (at + 0) at ts (omega arith) chain
comment_rest (b ∷ bs) tail at ts all chain =
    before true true b (bs ++ tail) at ts (λ gap ok. gap_comment b gap (no_newline b bs all) ok)
    (comment_rest bs tail (at + 1) ts (no_newlines b bs all) (chain_at true tail (at + suc (length bs)) (at + 1 + length bs) ts (omega arith) chain))

-- ---- one token

one_more : (o : Option ℕ) (n size : ℕ) → ((m : ℕ) → o ≡ Some m → m < size) → option_map (λ m. m + 1) o ≡ Some n → n < suc size
one_more None n size within e = absurd cc
one_more (Some m) n size within e = let lt = within m refl in let same : m + 1 ≡ n = cc in omega (arith, lt, same)

closing_within : (escaped : Bool) (bs : List ℕ) (n : ℕ) → closing escaped bs ≡ Some n → n < length bs
closing_within escaped [] n e = absurd cc
closing_within true (b ∷ bs) n e = one_more (closing false bs) n (length bs) (λ m is. closing_within false bs m is) e
closing_within false (b ∷ bs) n e = elim (cases_Bool (b == 34)) [
  | inl quote ↦ at_quote (rw quote at e)
  | inr other ↦ one_more (closing (b == 92) bs) n (length bs) (λ m is. closing_within (b == 92) bs m is) (rw other at e)
]
  where
    at_quote : Some 0 ≡ Some n → n < suc (length bs)
    at_quote is = (let same : 0 ≡ n = cc in omega (arith, same))

pub record Sized (s : List ℕ) : Type 0 where
  pub behind : ℕ
  pub size : (piece_of s).size ≡ suc behind
  pub within : suc behind ≤ length s

quoted_size : (bs : List ℕ) (o : Option ℕ) → closing false bs ≡ o → (m : ℕ) × ((mark_or_quoted o).size ≡ suc m) × (m ≤ length bs)
quoted_size bs None is = (0, refl, omega arith)
quoted_size bs (Some n) is = let lt = closing_within false bs n is in (n + 1, omega arith, omega (arith, lt))

piece_sized : (b : ℕ) (bs : List ℕ) → Sized (b ∷ bs)
unfolding piece_of
piece_sized b bs = elim (cases_Bool (is_word_byte b)) [
  | inl word ↦ (let le = prefix_len-le-length is_word_byte bs in record { behind = prefix_len is_word_byte bs; size = rw (word) (omega arith); within = omega (arith, le) })
  | inr other ↦ elim (cases_Bool (b == 34)) [
    | inl quote ↦ (let q = quoted_size bs (closing false bs) refl in let le = q.2 in record { behind = q.0; size = rw (other, quote) q.1; within = omega (arith, le) })
    | inr mark ↦ elim (cases_Bool (b == 59)) [
      | inl ends ↦ record { behind = 0; size = rw (other, mark, ends) refl; within = omega arith }
      | inr not_end ↦ record { behind = 0; size = rw (other, mark, not_end) refl; within = omega arith }
    ]
  ]
]

front_ok : (front ts : List Token) (r : Result (List Token) TextFault) → with_front front r ≡ Ok ts → (rest : List Token) × (r ≡ Ok rest) × (ts ≡ front ++ rest)
front_ok front ts (Ok rest) e = (rest, refl, cc)
front_ok front ts (Err f) e = absurd cc

ok_same : (xs ys : List Token) (r : Result (List Token) TextFault) → r ≡ Ok xs → r ≡ Ok ys → xs ≡ ys
ok_same xs ys r one other = cc

-- a token in front of tokens
token_first : (line at m : ℕ) (kind : TokenKind) (b : ℕ) (bs tail : List ℕ) (ts : List Token) → m ≤ length bs → Chain false (drop m bs ++ tail) (at + 1 + m) ts → Chain false ((b ∷ bs) ++ tail) (at + 0) (token line at (suc m) kind ∷ ts)
token_first line at m kind b bs tail ts le chain =
    let long = length-take m bs in (
      record {
        gap = [];
        slice = b ∷ take m bs;
        left = drop m bs ++ tail;
        parts = ap (λ (z : List ℕ). b ∷ z) (ap (λ (z : List ℕ). z ++ tail) (sym (take-append-drop m bs)) ∙ append_assoc (take m bs) (drop m bs) tail);
        blank = refl;
        start = omega arith;
        end = omega (arith, long, le);
      },
      chain_at false (drop m bs ++ tail) (at + 1 + m) (at + suc m) ts (omega arith) chain,
    )

-- the end of the statement where the line's tokens end
end_first : (line at : ℕ) (bytes : List ℕ) (ts : List Token) → Chain false bytes at ts → Chain false bytes at (token line at 0 kinds.EndOfStatement ∷ ts)
end_first line at bytes ts chain =
    (record { gap = []; slice = []; left = bytes; parts = refl; blank = refl; start = omega arith; end = omega arith }, chain_at false bytes at (at + 0) ts (omega arith) chain)

-- ---- one line

scan_chain : (line at i : ℕ) (bs tail : List ℕ) (ts more : List Token) → i ≤ length bs → NoNewline bs → ((c : Bool) → Chain c tail (at + length bs) more) → scan line at i bs ≡ Ok ts → Chain false (drop i bs ++ tail) (at + i) (ts ++ more)
scan_chain line at zero [] tail ts more le all next e =
    subst (λ (z : List Token). Chain false tail (at + 0) (z ++ more)) (ok_same _ ts _ refl e)
    (chain_at false tail at (at + 0) (token line at 0 kinds.EndOfStatement ∷ more) (omega arith) (end_first line at tail more (chain_at false tail (at + 0) at more (omega arith) (next false))))
scan_chain line at (suc i) [] tail ts more le all next e = absurd (omega arith)
scan_chain line at (suc i) (b ∷ bs) tail ts more le all next e =
    chain_at false (drop i bs ++ tail) (at + 1 + i) (at + suc i) (ts ++ more) (omega arith)
    (scan_chain line (at + 1) i bs tail ts more (omega arith) (no_newlines b bs all) (λ c. chain_at c tail (at + suc (length bs)) (at + 1 + length bs) more (omega arith) (next c)) e)
scan_chain line at zero (b ∷ bs) tail ts more le all next e = elim (cases_Bool (b == 35)) [
  | inl hash ↦ at_hash hash
  | inr other ↦ elim (cases_Bool (is_space b)) [
    | inl space ↦ at_space other space (λ x. scan_chain line (at + 1) 0 bs tail ts more (omega arith) (no_newlines b bs all) further x)
    | inr begins ↦ at_token (rw (other, begins) at e) (λ m rest lt x. scan_chain line (at + 1) m bs tail rest more lt (no_newlines b bs all) further x)
  ]
]
  where
    h10 : (b == 10) ≡ false
    h10 = no_newline b bs all

    further : (c : Bool) → Chain c tail (at + 1 + length bs) more
    further c = chain_at c tail (at + suc (length bs)) (at + 1 + length bs) more (omega arith) (next c)

    at_hash : (b == 35) ≡ true → Chain false ((b ∷ bs) ++ tail) (at + 0) (ts ++ more)
    at_hash hash =
        let same : token line at 0 kinds.EndOfStatement ∷ [] ≡ ts = ok_same _ ts _ refl (rw hash at e) in
        let rest : Chain false (b ∷ (bs ++ tail)) at more = before false true b (bs ++ tail) at more (λ gap ok. gap_begins b gap h10 hash ok) (comment_rest bs tail (at + 1) more (no_newlines b bs all) (further true)) in
        subst (λ (z : List Token). Chain false ((b ∷ bs) ++ tail) (at + 0) (z ++ more)) same
        (chain_at false ((b ∷ bs) ++ tail) at (at + 0) (token line at 0 kinds.EndOfStatement ∷ more) (omega arith) (end_first line at ((b ∷ bs) ++ tail) more rest))

    at_space : (b == 35) ≡ false → is_space b ≡ true → (scan line (at + 1) 0 bs ≡ Ok ts → Chain false (bs ++ tail) (at + 1 + 0) (ts ++ more)) → Chain false ((b ∷ bs) ++ tail) (at + 0) (ts ++ more)
    at_space other space rest =
        chain_at false ((b ∷ bs) ++ tail) at (at + 0) (ts ++ more) (omega arith)
        (before false false b (bs ++ tail) at (ts ++ more) (λ gap ok. gap_space b gap h10 other space ok) (chain_at false (bs ++ tail) (at + 1 + 0) (at + 1) (ts ++ more) (omega arith) (rest (rw (other, space) at e))))

    by_kind : (m : ℕ) → suc m ≤ suc (length bs) → (kind : Option TokenKind) → placed line at (suc m) kind (scan line (at + 1) m bs) ≡ Ok ts → ((rest : List Token) → scan line (at + 1) m bs ≡ Ok rest → Chain false (drop m bs ++ tail) (at + 1 + m) (rest ++ more)) → Chain false ((b ∷ bs) ++ tail) (at + 0) (ts ++ more)
    by_kind m lt None is rest = absurd cc
    by_kind m lt (Some k) is rest =
        let ok = front_ok (token line at (suc m) k ∷ []) ts (scan line (at + 1) m bs) is in
        subst (λ (z : List Token). Chain false ((b ∷ bs) ++ tail) (at + 0) (z ++ more)) (sym ok.2)
        (token_first line at m k b bs tail (ok.0 ++ more) (omega (arith, lt)) (rest ok.0 ok.1))

    at_token : placed line at (piece_of (b ∷ bs)).size (piece_of (b ∷ bs)).kind (scan line (at + 1) ((piece_of (b ∷ bs)).size - 1) bs) ≡ Ok ts
        → ((m : ℕ) (rest : List Token) → m ≤ length bs → scan line (at + 1) m bs ≡ Ok rest → Chain false (drop m bs ++ tail) (at + 1 + m) (rest ++ more)) → Chain false ((b ∷ bs) ++ tail) (at + 0) (ts ++ more)
    at_token is rest =
        let s = piece_sized b bs in
        let one : suc s.behind - 1 ≡ s.behind = omega arith in
        let lt = s.within in
        by_kind s.behind s.within (piece_of (b ∷ bs)).kind (rw (s.size, one) at is) (λ ts2 x. rest s.behind ts2 (omega (arith, lt)) x)

-- ---- the first line of a text, and what of it is read

pub record Line (s : List ℕ) : Type 0 where
  pub body : List ℕ
  pub ending : List ℕ
  pub whole : take (line_len s) s ≡ body ++ ending
  pub plain : NoNewline body
  pub ends : (ending ≡ 10 ∷ []) ⊎ ((ending ≡ []) × (drop (line_len s) s ≡ []))

line_more : (b : ℕ) (s : List ℕ) → (b == 10) ≡ false → Line s → Line (b ∷ s)
line_more b s h l = record {
  body = b ∷ l.body;
  ending = l.ending;
  whole = ap (λ n. take n (b ∷ s)) (line_len_more b s h) ∙ ap (λ (z : List ℕ). b ∷ z) l.whole;
  plain = rw h l.plain;
  ends = by_end l.ends;
}
  where
    by_end : (l.ending ≡ 10 ∷ []) ⊎ ((l.ending ≡ []) × (drop (line_len s) s ≡ [])) → (l.ending ≡ 10 ∷ []) ⊎ ((l.ending ≡ []) × (drop (line_len (b ∷ s)) (b ∷ s) ≡ []))
    by_end (inl newline) = inl newline
    by_end (inr last) = inr (last.0, ap (λ n. drop n (b ∷ s)) (line_len_more b s h) ∙ last.1)

first_line : (s : List ℕ) → Line s
first_line [] = record { body = []; ending = []; whole = refl; plain = refl; ends = inr (refl, refl) }
first_line (b ∷ bs) = elim (cases_Bool (b == 10)) [
  | inl is ↦ record { body = []; ending = 10 ∷ []; whole = ap (λ n. take n (b ∷ bs)) (line_len_now b bs is) ∙ ap (λ d. d ∷ []) (eqb-true b 10 is); plain = refl; ends = inl refl }
  | inr other ↦ line_more b bs other (first_line bs)
]

body_len : (body ending : List ℕ) → NoNewline body → (ending ≡ 10 ∷ []) ⊎ (ending ≡ []) → prefix_len is_no_newline (body ++ ending) ≡ length body
body_len [] ending all (inl e) = ap (prefix_len is_no_newline) e
body_len [] ending all (inr e) = ap (prefix_len is_no_newline) e
body_len (b ∷ bs) ending all e = let rest = body_len bs ending (no_newlines b bs all) e in rw (no_newline b bs all) (omega (arith, rest))

-- a byte 13 before the line's byte 10
abbrev ends_in_return : ℕ → List ℕ → Bool
ends_in_return n l = nat_lt n (length l) && nat_lt 0 n && slice_index l (n - 1) == 13

content_is : (l : List ℕ) (n : ℕ) (b : Bool) → prefix_len is_no_newline l ≡ n → ends_in_return n l ≡ b → content l ≡ (if b then take (n - 1) l else take n l)
unfolding content
content_is l n b e t = ap (λ k. if ends_in_return k l then take (k - 1) l else take k l) e ∙ ap (λ (c : Bool). if c then take (n - 1) l else take n l) t

-- what of a line is read, and what stands behind that
pub record Cut (l left : List ℕ) : Type 0 where
  pub kept : List ℕ
  pub tail : List ℕ
  pub parts : l ≡ kept ++ tail
  pub is : content l ≡ kept
  pub plain : NoNewline kept
  pub ends : (tail ≡ 10 ∷ []) ⊎ ((tail ≡ 13 ∷ 10 ∷ []) ⊎ ((tail ≡ []) × (left ≡ [])))

cut_last : (body : List ℕ) → NoNewline body → Cut body []
cut_last body all =
    let count : prefix_len is_no_newline body ≡ length body = ap (prefix_len is_no_newline) (sym (append-nil body)) ∙ body_len body [] all (inr refl) in
    let no : ends_in_return (length body) body ≡ false = (let f : nat_lt (length body) (length body) ≡ false = grind (arith, nat_tests) in rw f refl) in
    record {
      kept = body;
      tail = [];
      parts = sym (append-nil body);
      is = content_is body (length body) false count no ∙ take_all (length body) body (omega arith);
      plain = all;
      ends = inr (inr (refl, refl));
    }

-- the last byte of a list
last_byte : (xs : List ℕ) (n d : ℕ) → length xs ≡ suc n → get_or xs n 0 ≡ d → drop n xs ≡ d ∷ []
last_byte xs n d long is =
    drop_more xs n 0 (omega (arith, long)) ∙ ap (λ (x : ℕ). x ∷ drop (n + 1) xs) is ∙ ap (λ (z : List ℕ). d ∷ z) (drop_all (n + 1) xs (omega (arith, long)))

third : (a b c : Bool) → (a && b && c) ≡ true → c ≡ true
third a b c t = (and_parts (a && b) c t).1

never : (a b : Bool) → (a && false && b) ≡ true → ⊥
never true b e = cc
never false b e = cc

cut_newline : (body left : List ℕ) → NoNewline body → Cut (body ++ 10 ∷ []) left
cut_newline body left all = by_return (ends_in_return (length body) (body ++ 10 ∷ [])) refl
  where
    count : prefix_len is_no_newline (body ++ 10 ∷ []) ≡ length body
    count = body_len body (10 ∷ []) all (inl refl)

    with_return : (n : ℕ) → length body ≡ suc n → get_or (body ++ 10 ∷ []) n 0 ≡ 13 → content (body ++ 10 ∷ []) ≡ take n (body ++ 10 ∷ []) → Cut (body ++ 10 ∷ []) left
    with_return n long thirteen is =
        let le : n ≤ length body = omega (arith, long) in
        let there : get_or body n 0 ≡ 13 = sym (get_or-append body (10 ∷ []) 0 n (omega (arith, long))) ∙ thirteen in
        record {
          kept = take n (body ++ 10 ∷ []);
          tail = drop n (body ++ 10 ∷ []);
          parts = sym (take-append-drop n (body ++ 10 ∷ []));
          is = is;
          plain = ap (list_all is_no_newline) (take-append-le n body (10 ∷ []) le) ∙ no_newline_take n body all;
          ends = inr (inl (drop-append-le n body (10 ∷ []) le ∙ ap (λ (z : List ℕ). z ++ 10 ∷ []) (last_byte body n 13 long there)));
        }

    by_length : (n : ℕ) → length body ≡ n → ends_in_return n (body ++ 10 ∷ []) ≡ true → Cut (body ++ 10 ∷ []) left
    by_length zero long t = absurd (never _ _ t)
    by_length (suc n) long t =
        let byte : (get_or (body ++ 10 ∷ []) (suc n - 1) 0 == 13) ≡ true = third (nat_lt (suc n) (length (body ++ 10 ∷ []))) (nat_lt 0 (suc n)) (get_or (body ++ 10 ∷ []) (suc n - 1) 0 == 13) t in
        let one : suc n - 1 ≡ n = omega arith in
        with_return n long (ap (λ k. get_or (body ++ 10 ∷ []) k 0) (sym one) ∙ eqb-true (get_or (body ++ 10 ∷ []) (suc n - 1) 0) 13 byte) (content_is (body ++ 10 ∷ []) (suc n) true (count ∙ long) t ∙ ap (λ k. take k (body ++ 10 ∷ [])) one)

    by_return : (b : Bool) → ends_in_return (length body) (body ++ 10 ∷ []) ≡ b → Cut (body ++ 10 ∷ []) left
    by_return true t = by_length (length body) refl t
    by_return false t = record {
      kept = body;
      tail = 10 ∷ [];
      parts = refl;
      is = content_is (body ++ 10 ∷ []) (length body) false count t ∙ take_at body (10 ∷ []) (length body) refl;
      plain = all;
      ends = inl refl;
    }

cut_line : (body ending l left : List ℕ) → l ≡ body ++ ending → NoNewline body → (ending ≡ 10 ∷ []) ⊎ ((ending ≡ []) × (left ≡ [])) → Cut l left
cut_line body ending l left is all (inl newline) = subst (λ (z : List ℕ). Cut z left) (sym (is ∙ ap (λ (z : List ℕ). body ++ z) newline)) (cut_newline body left all)
cut_line body ending l left is all (inr (none, last)) =
    subst (λ (z : List ℕ). Cut z left) (sym (is ∙ ap (λ (z : List ℕ). body ++ z) none ∙ append-nil body)) (subst (Cut body) (sym last) (cut_last body all))

-- ---- tokens behind the line

newline_first : (c : Bool) (left : List ℕ) (at : ℕ) (more : List Token) → Chain false left (at + 1) more → Chain c (10 ∷ left) at more
newline_first c left at more chain = before c false 10 left at more (λ gap ok. gap_newline c 10 gap refl ok) chain

return_first : (c : Bool) (left : List ℕ) (at : ℕ) (more : List Token) → Chain false left (at + 2) more → Chain c (13 ∷ 10 ∷ left) at more
return_first true left at more chain =
    before true true 13 (10 ∷ left) at more (λ gap ok. gap_comment 13 gap refl ok) (newline_first true left (at + 1) more (chain_at false left (at + 2) (at + 1 + 1) more (omega arith) chain))
return_first false left at more chain =
    before false false 13 (10 ∷ left) at more (λ gap ok. gap_space 13 gap refl refl return_is_space ok) (newline_first false left (at + 1) more (chain_at false left (at + 2) (at + 1 + 1) more (omega arith) chain))

behind_line : (l left : List ℕ) (cut : Cut l left) (c : Bool) (at : ℕ) (more : List Token) → Chain false left (at + length l) more → Chain c (cut.tail ++ left) (at + length cut.kept) more
behind_line l left cut c at more chain = by_end cut.ends
  where
    long : length l ≡ length cut.kept + length cut.tail
    long = ap length cut.parts ∙ length-append cut.kept cut.tail

    by_end : (cut.tail ≡ 10 ∷ []) ⊎ ((cut.tail ≡ 13 ∷ 10 ∷ []) ⊎ ((cut.tail ≡ []) × (left ≡ []))) → Chain c (cut.tail ++ left) (at + length cut.kept) more
    by_end (inl e) =
        let size : length cut.tail ≡ 1 = ap length e in
        subst (λ (z : List ℕ). Chain c (z ++ left) (at + length cut.kept) more) (sym e)
        (newline_first c left (at + length cut.kept) more (chain_at false left (at + length l) (at + length cut.kept + 1) more (omega (arith, long, size)) chain))
    by_end (inr (inl e)) =
        let size : length cut.tail ≡ 2 = ap length e in
        subst (λ (z : List ℕ). Chain c (z ++ left) (at + length cut.kept) more) (sym e)
        (return_first c left (at + length cut.kept) more (chain_at false left (at + length l) (at + length cut.kept + 2) more (omega (arith, long, size)) chain))
    by_end (inr (inr (e, last))) =
        let size : length cut.tail ≡ 0 = ap length e in
        let nothing : cut.tail ++ left ≡ [] = ap (λ (z : List ℕ). z ++ left) e ∙ last in
        let here = chain_at false left (at + length l) (at + length cut.kept) more (omega (arith, long, size)) chain in
        subst (λ (z : List ℕ). Chain c z (at + length cut.kept) more) (sym nothing)
        (chain_none c (at + length cut.kept) more (subst (λ (z : List ℕ). Chain false z (at + length cut.kept) more) last here))

-- ---- lines

line_scanned : (line at : ℕ) (l : List ℕ) (ts : List Token) → line_read line at l ≡ Ok ts → scan line at 0 (content l) ≡ Ok ts
unfolding line_read
line_scanned line at l ts e = elim (cases_Bool (list_all is_source_byte (content l))) [
  | inr other ↦ absurd (let f = rw other at e in cc)
  | inl is ↦ elim (cases_Bool (nat_lt MAX_LINE_SIZE (length (content l)))) [
    | inl long ↦ absurd (let f = rw (is, long) at e in cc)
    | inr short ↦ rw (is, short) at e
  ]
]

line_chain : (line at : ℕ) (l left : List ℕ) (ts more : List Token) → Cut l left → line_read line at l ≡ Ok ts → Chain false left (at + length l) more → Chain false (l ++ left) at (ts ++ more)
line_chain line at l left ts more cut e chain =
    let read : scan line at 0 cut.kept ≡ Ok ts = ap (scan line at 0) (sym cut.is) ∙ line_scanned line at l ts e in
    let parts : cut.kept ++ (cut.tail ++ left) ≡ l ++ left = sym (append_assoc cut.kept cut.tail left) ∙ ap (λ (z : List ℕ). z ++ left) (sym cut.parts) in
    chain_at false (l ++ left) (at + 0) at (ts ++ more) (omega arith)
    (subst (λ (z : List ℕ). Chain false z (at + 0) (ts ++ more)) parts
    (scan_chain line at 0 cut.kept (cut.tail ++ left) ts more (omega arith) cut.plain (λ c. behind_line l left cut c at more chain) read))

pub record Both (first rest : Result (List Token) TextFault) (ts : List Token) : Type 0 where
  pub front : List Token
  pub back : List Token
  pub first_is : first ≡ Ok front
  pub rest_is : rest ≡ Ok back
  pub all : ts ≡ front ++ back

both : (first rest : Result (List Token) TextFault) (ts : List Token) → (first >>= λ xs. with_front xs rest) ≡ Ok ts → Both first rest ts
both (Err f) rest ts e = absurd cc
both (Ok xs) rest ts e = let ok = front_ok xs ts rest e in record { front = xs; back = ok.0; first_is = refl; rest_is = ok.1; all = ok.2 }

some_line : (b : ℕ) (bs : List ℕ) → 0 < line_len (b ∷ bs)
some_line b bs = omega arith

lines_chain : (k line at : ℕ) (s : List ℕ) (ts : List Token) → length s ≤ k → lines_read line at (lines_of s) ≡ Ok ts → Chain false s at ts
lines_chain k line at [] ts le e = subst (Chain false [] at) (ok_same [] ts _ refl e) refl
lines_chain zero line at (b ∷ bs) ts le e = absurd (omega (arith, le))
lines_chain (suc k) line at (b ∷ bs) ts le e =
    by_parts (both (line_read line at now) (lines_read (line + 1) (at + length now) (lines_of rest)) ts (rw (lines_first s (omega arith)) at e)) (λ xs x. lines_chain k (line + 1) (at + length now) rest xs fewer x)
  where
    s : List ℕ
    s = b ∷ bs

    now : List ℕ
    now = take (line_len (b ∷ bs)) (b ∷ bs)

    rest : List ℕ
    rest = drop (line_len (b ∷ bs)) (b ∷ bs)

    fewer : length rest ≤ k
    fewer =
        let long = length-drop (line_len (b ∷ bs)) (b ∷ bs) in
        let some = some_line b bs in
        omega (arith, long, some, le)

    by_parts : Both (line_read line at now) (lines_read (line + 1) (at + length now) (lines_of rest)) ts → ((xs : List Token) → lines_read (line + 1) (at + length now) (lines_of rest) ≡ Ok xs → Chain false rest (at + length now) xs) → Chain false s at ts
    by_parts p more =
        let l = first_line (b ∷ bs) in
        subst (λ (z : List Token). Chain false s at z) (sym p.all)
        (subst (λ (z : List ℕ). Chain false z at (p.front ++ p.back)) (take-append-drop (line_len (b ∷ bs)) (b ∷ bs))
        (line_chain line at now rest p.front p.back (cut_line l.body l.ending now rest l.whole l.plain l.ends) p.first_is (more p.back p.rest_is)))

-- ---- the text

chain_order : (front bytes text : List ℕ) (at : ℕ) (ts : List Token) → text ≡ front ++ bytes → length front ≡ at → Chain false bytes at ts → AreInOrder text at ts
chain_order front bytes text at [] is long chain = ap (is_gap false) (ap (drop at) is ∙ drop_at front bytes at long) ∙ chain
chain_order front bytes text at (t ∷ ts) is long (begins, rest) = (
  record {
    behind = omega (arith, start);
    slice = omega (arith, end);
    within = omega (arith, size, long, start, end, parts_long, inner_long);
    gap = ap (is_gap false) first ∙ begins.blank;
  },
  chain_order (front ++ (begins.gap ++ begins.slice)) begins.left text t.end ts further (omega (arith, front_long, pair_long, long, start, end)) rest,
)
  where
    start : t.start ≡ at + length begins.gap
    start = begins.start

    end : t.end ≡ t.start + length begins.slice
    end = begins.end

    size : length text ≡ length front + length bytes
    size = ap length is ∙ length-append front bytes

    parts_long : length bytes ≡ length begins.gap + length (begins.slice ++ begins.left)
    parts_long = ap length begins.parts ∙ length-append begins.gap (begins.slice ++ begins.left)

    inner_long : length (begins.slice ++ begins.left) ≡ length begins.slice + length begins.left
    inner_long = length-append begins.slice begins.left

    pair_long : length (begins.gap ++ begins.slice) ≡ length begins.gap + length begins.slice
    pair_long = length-append begins.gap begins.slice

    front_long : length (front ++ (begins.gap ++ begins.slice)) ≡ length front + length (begins.gap ++ begins.slice)
    front_long = length-append front (begins.gap ++ begins.slice)

    count : t.start - at ≡ length begins.gap
    count = omega (arith, start)

    first : take (t.start - at) (drop at text) ≡ begins.gap
    first = ap (λ n. take n (drop at text)) count ∙ ap (λ (z : List ℕ). take (length begins.gap) (drop at z)) is ∙ ap (take (length begins.gap)) (drop_at front bytes at long) ∙ ap (take (length begins.gap)) begins.parts ∙ take_at begins.gap (begins.slice ++ begins.left) (length begins.gap) refl

    further : text ≡ (front ++ (begins.gap ++ begins.slice)) ++ begins.left
    further = is ∙ ap (λ (z : List ℕ). front ++ z) (begins.parts ∙ sym (append_assoc begins.gap begins.slice begins.left)) ∙ sym (append_assoc front (begins.gap ++ begins.slice) begins.left)

pub text_order : (text : List ℕ) (ts : List Token) → text_read text ≡ Ok ts → AreInOrder text 0 ts
text_order text ts e = chain_order [] text text 0 ts refl refl (lines_chain (length text) 1 0 text ts (omega arith) e)
