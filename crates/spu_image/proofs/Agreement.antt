-- Symbolic quads that agree with quads of bytes.
use Rattle.std.proofs.Common.{◌≡◌, ℕ, zero, suc, ◌+◌, ◌*◌, ◌^◌, ◌<◌, ◌≤◌, ◌⊎◌, List, [], ◌∷◌, get_or, map, Option, Some, None, refl, sym, ap, ap₂, ◌∙◌, subst, arith, inl, inr, Bool, true, false, cond}
use Rattle.std.specs.Prelude.{◌==◌, ◌&&◌, nat_le}
use Rattle.std.proofs.lemmas.List.FromFn.{get_or-map-range_with_len}
use Rattle.std.proofs.lemmas.Bool.{and_parts, eqb-true, cond_both, cond-true}
use Rattle.spu_word.specs.Bytes.{word_of}
use Rattle.spu_isa.specs.declared.instruction.Inst.{Inst}
use Rattle.spu_exec.specs.Values.{value}
use Rattle.spu_exec.specs.declared.sources.Source.TheVariants.{FromRa, FromRb, FromRc, FromRt}
use Rattle.spu_exec.specs.Reads.{reads, AgreeIn}
use Rattle.spu_exec.proofs.Laws.{lane_law_lem}
use Rattle.spu_exec.proofs.Moves.{no_some, some_is, word_parts}
use Rattle.spu_lift.specs.declared.program.Label.{Label}
use Rattle.spu_lift.specs.declared.program.Label.TheVariants.{Fun, Place, Link}
use Rattle.spu_lift.specs.declared.symbolic.SymByte.{SymByte}
use Rattle.spu_lift.specs.declared.symbolic.SymByte.TheVariants.{Num, Part, Unknown}
use Rattle.spu_ideal.specs.Bytes.{sym_at, numbers, sixteen, link_of, unknown_quad, is_number, number_of, number_in, known_word, same_label, is_part, are_parts, is_link}
use Rattle.spu_ideal.specs.Results.{are_known, computed_byte}
use Rattle.spu_exec.specs.declared.channels.TheConstants.{MFC_LSA, MFC_TAG_ID}
use Rattle.spu_ideal.specs.State.{forgotten_regs, forgotten_channels}
use Rattle.spu_image.specs.Agreeing.{Agrees, AgreesQuad, AgreesWord}

-- byte k of a quad that a function gives
pub sym_at-sixteen : (f : ℕ → SymByte) (k : ℕ) → k < 16 → sym_at (sixteen f) k ≡ f k
sym_at-sixteen f k lt = get_or-map-range_with_len f 0 16 k k Unknown lt (omega arith)

pub agrees_sixteen : (p : Label → List ℕ) (f : ℕ → SymByte) (q : List ℕ) → ((k : ℕ) → k < 16 → Agrees p (f k) (get_or q k 0)) → AgreesQuad p (sixteen f) q
agrees_sixteen p f q h k lt = subst (λ s. Agrees p s (get_or q k 0)) (sym (sym_at-sixteen f k lt)) (h k lt)

agrees_map : (p : Label → List ℕ) (q : List ℕ) (k : ℕ) → Agrees p (get_or (map Num q) k Unknown) (get_or q k 0)
agrees_map p [] k = tt
agrees_map p (x ∷ q) zero = refl
agrees_map p (x ∷ q) (suc k) = agrees_map p q k

pub agrees_numbers : (p : Label → List ℕ) (q : List ℕ) → AgreesQuad p (numbers q) q
agrees_numbers p q k lt = agrees_map p q k

pub agrees_link : (p : Label → List ℕ) (f i : ℕ) → AgreesQuad p (link_of f i) (p (Link f i))
agrees_link p f i = agrees_sixteen p (Part (Link f i)) (p (Link f i)) (λ k lt. refl)

pub agrees_unknown : (p : Label → List ℕ) (q : List ℕ) → AgreesQuad p unknown_quad q
agrees_unknown p q = agrees_sixteen p (λ k. Unknown) q (λ k lt. tt)

pub agrees_cond : (p : Label → List ℕ) (b : Bool) (s t : List SymByte) (q r : List ℕ) → AgreesQuad p s q → AgreesQuad p t r → AgreesQuad p (cond b s t) (cond b q r)
agrees_cond p true s t q r h j = h
agrees_cond p false s t q r h j = j

pub agrees_forgotten : (p : Label → List ℕ) (regs : ℕ → List SymByte) (q : ℕ → List ℕ) → ((r : ℕ) → AgreesQuad p (regs r) (q r)) → (r : ℕ) → AgreesQuad p (forgotten_regs regs r) (q r)
agrees_forgotten p regs q h r = cond_both (nat_le 75 r && nat_le r 79) _ _ (λ s. AgreesQuad p s (q r)) (λ t. agrees_unknown p (q r)) (λ t. h r)

-- what the channels of transfers hold, where they are forgotten
pub words_forgotten : (channels : ℕ → Option ℕ) (words : ℕ → ℕ) → ((n : ℕ) → MFC_LSA ≤ n → n ≤ MFC_TAG_ID → AgreesWord (channels n) (words n)) → (n : ℕ) → MFC_LSA ≤ n → n ≤ MFC_TAG_ID → AgreesWord (forgotten_channels channels n) (words n)
words_forgotten channels words h n low high = cond_both (nat_le MFC_LSA n && nat_le n MFC_TAG_ID) None (channels n) (λ o. AgreesWord o (words n)) (λ is. tt) (λ is. h n low high)

-- ---- words

-- a byte that is a number
pub number_is : (p : Label → List ℕ) (s : SymByte) (v n : ℕ) → Agrees p s v → number_in s ≡ Some n → v ≡ n
number_is p (Num m) v n h e = h ∙ some_is m n e
number_is p (Part l k) v n h e = no_some n e
number_is p Unknown v n h e = no_some n e

-- a word whose bytes are known is that number
pub word_is : (p : Label → List ℕ) (s : List SymByte) (q : List ℕ) (k x : ℕ) → k < 4 → AgreesQuad p s q → known_word s k ≡ Some x → word_of q k ≡ x
word_is p s q k x lt h e =
    let w = word_parts (number_in (sym_at s (4 * k))) (number_in (sym_at s (4 * k + 1))) (number_in (sym_at s (4 * k + 2))) (number_in (sym_at s (4 * k + 3))) x e in
    let v0 = number_is p (sym_at s (4 * k)) (get_or q (4 * k) 0) w.a (h (4 * k) (omega arith)) w.first in
    let v1 = number_is p (sym_at s (4 * k + 1)) (get_or q (4 * k + 1) 0) w.b (h (4 * k + 1) (omega arith)) w.second in
    let v2 = number_is p (sym_at s (4 * k + 2)) (get_or q (4 * k + 2) 0) w.c (h (4 * k + 2) (omega arith)) w.third in
    let v3 = number_is p (sym_at s (4 * k + 3)) (get_or q (4 * k + 3) 0) w.d (h (4 * k + 3) (omega arith)) w.fourth in
    let sum : w.a * 256 ^ 3 + w.b * 256 ^ 2 + w.c * 256 + w.d ≡ x = w.sum in
    omega (arith, v0, v1, v2, v3, sum)

-- ---- links

pub same_is : (l m : Label) → same_label l m ≡ true → l ≡ m
same_is (Fun f) (Fun g) t = ap Fun (eqb-true f g t)
same_is (Fun f) (Place g j) t = cc
same_is (Fun f) (Link g j) t = cc
same_is (Place f i) (Fun g) t = cc
same_is (Place f i) (Place g j) t = let p = and_parts (f == g) (i == j) t in ap₂ Place (eqb-true f g p.0) (eqb-true i j p.1)
same_is (Place f i) (Link g j) t = cc
same_is (Link f i) (Fun g) t = cc
same_is (Link f i) (Place g j) t = cc
same_is (Link f i) (Link g j) t = let p = and_parts (f == g) (i == j) t in ap₂ Link (eqb-true f g p.0) (eqb-true i j p.1)

pub part_is : (l : Label) (k : ℕ) (s : SymByte) → is_part l k s ≡ true → s ≡ Part l k
part_is l k (Num v) t = cc
part_is l k Unknown t = cc
part_is l k (Part m j) t = let p = and_parts (same_label l m) (k == j) t in sym (ap₂ Part (same_is l m p.0) (eqb-true k j p.1))

last_or_below : (j n : ℕ) → j < suc n → (j ≡ n) ⊎ (j < n)
last_or_below j n lt = grind arith

pub parts_true : (l : Label) (s : List SymByte) (n j : ℕ) → are_parts l s n ≡ true → j < n → sym_at s j ≡ Part l j
unfolding are_parts
parts_true l s zero j t lt = absurd (omega arith)
parts_true l s (suc n) j t lt =
    let p = and_parts (is_part l n (sym_at s n)) (are_parts l s n) t in
    elim (last_or_below j n lt) [
      | inl is ↦ subst (λ i. sym_at s i ≡ Part l i) (sym is) (part_is l n (sym_at s n) p.0)
      | inr below ↦ parts_true l s n j p.1 below
    ]

pub link_byte : (p : Label → List ℕ) (f i : ℕ) (s : List SymByte) (q : List ℕ) → is_link f i s ≡ true → AgreesQuad p s q → (k : ℕ) → k < 16 → get_or q k 0 ≡ get_or (p (Link f i)) k 0
link_byte p f i s q t h k lt = subst (λ u. Agrees p u (get_or q k 0)) (parts_true (Link f i) s 16 k t lt) (h k lt)

-- a quad that is a link leads to the link's place
pub link_leads : (p : Label → List ℕ) (f i : ℕ) (s : List SymByte) (q : List ℕ) → is_link f i s ≡ true → AgreesQuad p s q → word_of q 0 ≡ word_of (p (Link f i)) 0
link_leads p f i s q t h =
    let a = link_byte p f i s q t h 0 (omega arith) in
    let b = link_byte p f i s q t h 1 (omega arith) in
    let c = link_byte p f i s q t h 2 (omega arith) in
    let d = link_byte p f i s q t h 3 (omega arith) in
    rw (a, b, c, d) refl

-- ---- what instructions compute

number_at : (s : List SymByte) (j : ℕ) → get_or (map number_of s) j 0 ≡ number_of (sym_at s j)
number_at [] j = refl
number_at (s ∷ ss) zero = refl
number_at (s ∷ ss) (suc j) = number_at ss j

agrees_number : (p : Label → List ℕ) (s : SymByte) (v : ℕ) → is_number s ≡ true → Agrees p s v → v ≡ number_of s
agrees_number p (Num n) v t h = h
agrees_number p (Part l k) v t h = cc
agrees_number p Unknown v t h = cc

known_at : (is_read : ℕ → Bool) (s : List SymByte) (n j : ℕ) → are_known is_read s n ≡ true → j < n → is_read j ≡ true → is_number (sym_at s j) ≡ true
unfolding are_known
known_at is_read s zero j t lt r = absurd (omega arith)
known_at is_read s (suc n) j t lt r =
    let p = and_parts (cond (is_read n) (is_number (sym_at s n)) true) (are_known is_read s n) t in
    elim (last_or_below j n lt) [
      | inl is ↦ sym (cond-true (is_read j) (is_number (sym_at s j)) true r) ∙ subst (λ m. cond (is_read m) (is_number (sym_at s m)) true ≡ true) (sym is) p.0
      | inr below ↦ known_at is_read s n j p.1 below r
    ]

-- where all bytes that are read are numbers, the quad agrees with those numbers there
pub read_agree : (p : Label → List ℕ) (is_read : ℕ → Bool) (s : List SymByte) (q : List ℕ) → AgreesQuad p s q → are_known is_read s 16 ≡ true → AgreeIn is_read q (map number_of s)
read_agree p is_read s q h t j lt r = agrees_number p (sym_at s j) (get_or q j 0) (known_at is_read s 16 j t lt r) (h j lt) ∙ sym (number_at s j)

-- a byte of what is computed
pub byte_agrees : (p : Label → List ℕ) (x : Inst) (sa sb sc st : List SymByte) (a b c t : List ℕ) → AgreesQuad p sa a → AgreesQuad p sb b → AgreesQuad p sc c → AgreesQuad p st t → (k : ℕ) → k < 16 → Agrees p (computed_byte x sa sb sc st k) (get_or (value x a b c t) k 0)
unfolding computed_byte
byte_agrees p x sa sb sc st a b c t ha hb hc ht k lt =
    let ka : Bool = are_known (reads x.op FromRa k) sa 16 in
    let kb : Bool = are_known (reads x.op FromRb k) sb 16 in
    let kc : Bool = are_known (reads x.op FromRc k) sc 16 in
    let kt : Bool = are_known (reads x.op FromRt k) st 16 in
    cond_both (ka && (kb && (kc && kt))) _ _ (λ s. Agrees p s (get_or (value x a b c t) k 0))
    (λ all.
    let one = and_parts ka (kb && (kc && kt)) all in
    let two = and_parts kb (kc && kt) one.1 in
    let three = and_parts kc kt two.1 in
    lane_law_lem x a b c t (map number_of sa) (map number_of sb) (map number_of sc) (map number_of st) k lt
    (read_agree p (reads x.op FromRa k) sa a ha one.0) (read_agree p (reads x.op FromRb k) sb b hb two.0)
    (read_agree p (reads x.op FromRc k) sc c hc three.0) (read_agree p (reads x.op FromRt k) st t ht three.1))
    (λ some. tt)
