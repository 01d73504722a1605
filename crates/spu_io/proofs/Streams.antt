-- What is known of the bytes of a stream, over several calls.
use Rattle.std.proofs.Common.{◌≡◌, ℕ, ◌+◌, ◌≤◌, ◌⊎◌, inl, inr, List, ◌++◌, length, take, drop, Option, Some, None, IfSome, sym, ap, ◌∙◌, append_assoc, subst}
use Rattle.std.proofs.Math.Seq.{take-add}
use Rattle.std.proofs.lemmas.List.{append-nil, take_at, take_all}
use Rattle.std.specs.Io.KnownBytes.{Appends, Consumes, IsAtEnd}
use Rattle.spu_word.specs.declared.limits.TheConstants.{MAX_FILE_SIZE}
use Rattle.spu_io.specs.Transfer.{ReadOn}

pub consumes_more : (a b c : Option (List ℕ)) (bytes piece : List ℕ) → Consumes a b bytes → Consumes b c piece → Consumes a c (bytes ++ piece)
consumes_more None b c bytes piece p q = tt
consumes_more (Some xs) (Some ys) None bytes piece p q = q
consumes_more (Some xs) (Some ys) (Some zs) bytes piece p q = p ∙ ap (λ (w : List ℕ). bytes ++ w) q ∙ sym (append_assoc bytes piece zs)
consumes_more (Some xs) None c bytes piece p q = absurd p

appends_more : (a b c : Option (List ℕ)) (bytes piece : List ℕ) → Appends a b bytes → Appends b c piece → Appends a c (bytes ++ piece)
appends_more None b c bytes piece p q = tt
appends_more (Some xs) (Some ys) None bytes piece p q = q
appends_more (Some xs) (Some ys) (Some zs) bytes piece p q = q ∙ ap (λ (w : List ℕ). w ++ piece) p ∙ append_assoc xs bytes piece
appends_more (Some xs) None c bytes piece p q = absurd p

-- some bytes were written, and then more of them
pub appends_further : (a b c : Option (List ℕ)) (bytes : List ℕ) (n m : ℕ) → Appends a b (take n bytes) → Appends b c (take m (drop n bytes)) → Appends a c (take (n + m) bytes)
appends_further a b c bytes n m p q = subst (λ (w : List ℕ). Appends a c w) (sym (take-add n m bytes)) (appends_more a b c (take n bytes) (take m (drop n bytes)) p q)

-- what was read is all, or as much as the limit allows
whole : (limit : ℕ) (left now : Option (List ℕ)) (bytes : List ℕ) → length bytes ≤ limit → Consumes left now bytes → IsAtEnd now ⊎ (length bytes ≡ limit) → IfSome left (λ (all : List ℕ). bytes ≡ take limit all)
whole limit None now bytes short taken end = tt
whole limit (Some all) None bytes short taken end = absurd taken
whole limit (Some all) (Some rest) bytes short taken (inl none) =
    let same : all ≡ bytes = taken ∙ ap (λ (w : List ℕ). bytes ++ w) none ∙ append-nil bytes in
    sym (take_all limit bytes short) ∙ ap (take limit) (sym same)
whole limit (Some all) (Some rest) bytes short taken (inr full) = sym (take_at bytes rest limit full) ∙ ap (take limit) (sym taken)

pub read_whole : (left mid now : Option (List ℕ)) (bytes bytes_now : List ℕ) (n : ℕ) → Consumes left mid bytes → ReadOn mid now bytes bytes_now n → n ≡ 0 → IfSome left (λ (all : List ℕ). bytes_now ≡ take (MAX_FILE_SIZE + 1) all)
read_whole left mid now bytes bytes_now n taken on none =
    let all_taken : Consumes left now bytes_now = subst (λ (w : List ℕ). Consumes left now w) (sym on.added) (consumes_more left mid now bytes on.piece taken on.taken) in
    whole (MAX_FILE_SIZE + 1) left now bytes_now on.short all_taken (on.end none)
