-- What a move gives agrees with the value that the machine computes, whatever it is that bytes are and agree by.
use Rattle.std.proofs.Common.{◌≡◌, ℕ, zero, suc, ◌+◌, ◌-◌, ◌*◌, ◌/◌, ◌%◌, ◌^◌, ◌<◌, ◌≤◌, Bool, true, false, nat_lt, List, Option, Some, None, refl, sym, ap, ap₂, ◌∙◌, subst, arith, bit_or, bit_and}
use Rattle.std.specs.Prelude.{slice_index, if◌then◌else◌, ◌==◌}
use Rattle.std.specs.Int.{w32, byte_at, cast_unsigned}
use Rattle.std.specs.Int.Bits.{or_zero_l, or_zero_r, and_zero_l}
use Rattle.std.proofs.lemmas.Nat.{and_mask, and_comm, or_of_8, or_mod, or_shr}
use Rattle.std.proofs.lemmas.Bool.{eqb-true}
use Rattle.spu_word.specs.Bytes.{word_of}
use Rattle.spu_isa.specs.declared.operation.Op.{Op}
use Rattle.spu_isa.specs.declared.operation.Op.TheVariants as op
use Rattle.spu_isa.specs.declared.instruction.Inst.{Inst}
use Rattle.spu_exec.specs.Lanes.{sixteen, lanes, lane_of, immediate, byte_value}
use Rattle.spu_exec.specs.Moves.{ByteType, turned_byte, left_byte, right_byte, chosen_byte, selected_byte, or_of, or_byte, word_number, first_word, given, immediate_byte, moved, moved_byte, number_bytes, or_zero}
use Rattle.spu_exec.specs.Values.{HasBytes, value}
use Rattle.spu_exec.proofs.Laws.{slice_sixteen, lt_true, not_lt}
use Rattle.spu_exec.proofs.Sound.{byte_small}

-- ---- options

pub no_some : {A : Type 0} {B : Type 0} (a : A) → None ≡ Some a → B
no_some a e = absurd (cc)

pub some_is : {A : Type 0} (x y : A) → Some x ≡ Some y → x ≡ y
some_is x y e = cc

given_is : {A : Type 0} (o : Option ℕ) (f : ℕ → Option A) (s : A) → given o f ≡ Some s → (n : ℕ) × (o ≡ Some n) × (f n ≡ Some s)
given_is None f s e = no_some s e
given_is (Some n) f s e = (n, refl, e)

-- the four bytes of a word that is a number
pub record IsWord (p q r s : Option ℕ) (n : ℕ) : Type 0 where
  pub a : ℕ
  pub b : ℕ
  pub c : ℕ
  pub d : ℕ
  pub first : p ≡ Some a
  pub second : q ≡ Some b
  pub third : r ≡ Some c
  pub fourth : s ≡ Some d
  pub sum : a * 256 ^ 3 + b * 256 ^ 2 + c * 256 + d ≡ n

pub word_parts : (p q r s : Option ℕ) (n : ℕ) → word_number p q r s ≡ Some n → IsWord p q r s n
word_parts (Some a) (Some b) (Some c) (Some d) n e = record { a = a; b = b; c = c; d = d; first = refl; second = refl; third = refl; fourth = refl; sum = some_is _ _ e }
word_parts (Some a) (Some b) (Some c) None n e = no_some n e
word_parts (Some a) (Some b) None s n e = no_some n e
word_parts (Some a) None r s n e = no_some n e
word_parts None q r s n e = no_some n e

-- ---- what agreeing must keep

pub record Keeps (A : Type 0) (d : ByteType A) (R : A → ℕ → Type 0) : Type 0 where
  pub constant : (v : ℕ) → R (d.constant v) v
  pub number : (s : A) (v n : ℕ) → R s v → d.number s ≡ Some n → v ≡ n
  pub joined : (s u r : A) (v w : ℕ) → v < 256 → w < 256 → R s v → R u w → d.joined s u ≡ Some r → R r (bit_or v w)

-- the bytes of a source agree with a quad
abbrev pub Related : (A : Type 0) → (A → ℕ → Type 0) → (ℕ → A) → List ℕ → Type 0
Related A R s q = (k : ℕ) → k < 16 → R (s k) (slice_index q k)

pick : {A : Type 0} (R : A → ℕ → Type 0) (b : Bool) (s u : A) (v w : ℕ) → (b ≡ true → R s v) → (b ≡ false → R u w) → R (if b then s else u) (if b then v else w)
pick R true s u v w p q = p refl
pick R false s u v w p q = q refl

-- ---- the shifts and choices

word_related : {A : Type 0} (d : ByteType A) (R : A → ℕ → Type 0) → Keeps A d R → (s : ℕ → A) (q : List ℕ) (n : ℕ) → Related A R s q → first_word d s ≡ Some n → word_of q 0 ≡ n
word_related d R keeps s q n h e =
    let w = word_parts (d.number (s 0)) (d.number (s 1)) (d.number (s 2)) (d.number (s 3)) n e in
    let w0 : slice_index q 0 ≡ w.a = keeps.number (s 0) (slice_index q 0) w.a (h 0 (omega arith)) w.first in
    let w1 : slice_index q 1 ≡ w.b = keeps.number (s 1) (slice_index q 1) w.b (h 1 (omega arith)) w.second in
    let w2 : slice_index q 2 ≡ w.c = keeps.number (s 2) (slice_index q 2) w.c (h 2 (omega arith)) w.third in
    let w3 : slice_index q 3 ≡ w.d = keeps.number (s 3) (slice_index q 3) w.d (h 3 (omega arith)) w.fourth in
    let sum : w.a * 256 ^ 3 + w.b * 256 ^ 2 + w.c * 256 + w.d ≡ n = w.sum in
    omega (arith, w0, w1, w2, w3, sum)

turned_related : {A : Type 0} (R : A → ℕ → Type 0) (s : ℕ → A) (q : List ℕ) (n k : ℕ) → Related A R s q → R (turned_byte s n k) (turned_byte (slice_index q) n k)
turned_related R s q n k h = h ((k + n) % 16) (omega arith)

left_related : {A : Type 0} (R : A → ℕ → Type 0) (z : A) → R z 0 → (s : ℕ → A) (q : List ℕ) (n k : ℕ) → Related A R s q → R (left_byte z s n k) (left_byte 0 (slice_index q) n k)
left_related R z none s q n k h = pick R (nat_lt (k + n) 16) (s (k + n)) z _ _ (λ t. h (k + n) (lt_true _ _ t)) (λ t. none)

right_related : {A : Type 0} (R : A → ℕ → Type 0) (z : A) → R z 0 → (s : ℕ → A) (q : List ℕ) (n k : ℕ) → k < 16 → Related A R s q → R (right_byte z s n k) (right_byte 0 (slice_index q) n k)
right_related R z none s q n k lt h = pick R (nat_lt k n) z (s (k - n)) _ _ (λ t. none) (λ t. h (k - n) (omega arith))

chosen_related : {A : Type 0} (R : A → ℕ → Type 0) (constant : ℕ → A) → ((v : ℕ) → R (constant v) v) → (sa sb : ℕ → A) (a b : List ℕ) (n : ℕ) → Related A R sa a → Related A R sb b
    → R (chosen_byte constant sa sb n) (chosen_byte (λ v. v) (slice_index a) (slice_index b) n)
chosen_related R constant is sa sb a b n ha hb =
    pick R (nat_lt n 128) _ _ _ _
    (λ t. pick R (nat_lt (n % 32) 16) _ _ _ _ (λ below. ha (n % 32) (lt_true _ _ below)) (λ above. let le : 16 ≤ n % 32 = not_lt _ _ above in hb (n % 32 - 16) (omega arith)))
    (λ t. pick R (nat_lt n 192) _ _ _ _ (λ u. is 0) (λ u. pick R (nat_lt n 224) _ _ _ _ (λ w. is 255) (λ w. is 128)))

-- where the count or the control is a number, it's the machine's
counted : {A : Type 0} (d : ByteType A) (R : A → ℕ → Type 0) → Keeps A d R → (sb : ℕ → A) (b : List ℕ) → Related A R sb b → (f : ℕ → A) (g : ℕ → ℕ) → ((n : ℕ) → R (f n) (g n))
    → (s : A) → given (first_word d sb) (λ n. Some (f n)) ≡ Some s → R s (g (word_of b 0))
counted d R keeps sb b hb f g related s e =
    let p = given_is (first_word d sb) (λ n. Some (f n)) s e in
    let n : ℕ = p.0 in
    let is : word_of b 0 ≡ n = word_related d R keeps sb b n hb p.1 in
    subst (λ m. R s (g m)) (sym is) (subst (λ r. R r (g n)) (some_is (f n) s p.2) (related n))

controlled : {A : Type 0} (d : ByteType A) (R : A → ℕ → Type 0) → Keeps A d R → (sc : A) (c : ℕ) → R sc c → (f : ℕ → A) (g : ℕ → ℕ) → ((n : ℕ) → R (f n) (g n))
    → (s : A) → given (d.number sc) (λ n. Some (f n)) ≡ Some s → R s (g c)
controlled d R keeps sc c hc f g related s e =
    let p = given_is (d.number sc) (λ n. Some (f n)) s e in
    let n : ℕ = p.0 in
    let is : c ≡ n = keeps.number sc c n hc p.1 in
    subst (λ m. R s (g m)) (sym is) (subst (λ r. R r (g n)) (some_is (f n) s p.2) (related n))

-- the or of two bytes
or_related : {A : Type 0} (d : ByteType A) (R : A → ℕ → Type 0) → Keeps A d R → (s u r : A) (v w : ℕ) → v < 256 → w < 256 → R s v → R u w → or_byte d s u ≡ Some r → R r (bit_or v w)
or_related d R keeps s u r v w p q h j e = by_numbers (d.number s) (d.number u) refl refl e
  where
    by_numbers : (m n : Option ℕ) → d.number s ≡ m → d.number u ≡ n → or_of d m n s u ≡ Some r → R r (bit_or v w)
    by_numbers (Some x) (Some y) f g e =
        let same : bit_or v w ≡ bit_or x y = ap₂ bit_or (keeps.number s v x h f) (keeps.number u w y j g) in
        subst (λ z. R z (bit_or v w)) (some_is (d.constant (bit_or x y)) r e) (subst (R (d.constant (bit_or x y))) (sym same) (keeps.constant (bit_or x y)))
    by_numbers (Some x) None f g e = keeps.joined s u r v w p q h j e
    by_numbers None n f g e = keeps.joined s u r v w p q h j e

-- ---- bytes of what the machine computes

in_sixteen : {A : Type 0} (R : A → ℕ → Type 0) (s : A) (f : ℕ → ℕ) (k : ℕ) → k < 16 → R s (f k) → R s (slice_index (sixteen f) k)
in_sixteen R s f k lt h = subst (R s) (sym (slice_sixteen f k lt)) h

-- a byte of lanes of one byte
in_bytes : (f : ℕ → ℕ) (k : ℕ) → k < 16 → slice_index (lanes 1 f) k ≡ f k % 256
in_bytes f k lt =
    let zero_shift : 1 - 1 - k % 1 ≡ 0 = omega arith in
    let itself : k / 1 ≡ k = omega arith in
    slice_sixteen (λ k. byte_at (1 - 1 - k % 1) (f (k / 1))) k lt ∙ ap (λ j. byte_at j (f (k / 1))) zero_shift ∙ ap (λ j. f j % 256) itself

lane_byte : (q : List ℕ) (k : ℕ) → lane_of 1 q k ≡ slice_index q k
lane_byte q k = let e : 1 * k + 0 ≡ k = omega arith in omega (arith, ap (slice_index q) e)

or_small : (v w : ℕ) → v < 256 → w < 256 → bit_or v w % 256 ≡ bit_or v w
or_small v w p q = let lt : bit_or v w < 2 ^ 8 = or_of_8 v w p q in omega arith

ones_and : (v : ℕ) → v < 256 → bit_and 255 v ≡ v
ones_and v lt = and_comm 255 v ∙ and_mask v 8 ∙ omega arith

select_first : (a b : ℕ) → a < 256 → bit_or (bit_and 0 b) (bit_and (255 - 0) a) % 256 ≡ a
select_first a b lt = ap₂ (λ x y. bit_or x y % 256) (and_zero_l b) (ones_and a lt) ∙ ap (λ x. x % 256) (or_zero_l a) ∙ omega arith

select_second : (a b : ℕ) → b < 256 → bit_or (bit_and 255 b) (bit_and (255 - 255) a) % 256 ≡ b
select_second a b lt = ap₂ (λ x y. bit_or x y % 256) (ones_and b lt) (and_zero_l a) ∙ ap (λ x. x % 256) (or_zero_r b) ∙ omega arith

ap3 : (f : ℕ → ℕ → ℕ → ℕ) (a b c a' b' c' : ℕ) → a ≡ a' → b ≡ b' → c ≡ c' → f a b c ≡ f a' b' c'
ap3 f a b c a' b' c' p q r = cc

selb_byte : (i : ℕ) (a b c : List ℕ) (k : ℕ) → k < 16
    → slice_index (lanes 1 (λ j. byte_value op.Selb i (lane_of 1 a j) (lane_of 1 b j) (lane_of 1 c j))) k ≡ bit_or (bit_and (slice_index c k) (slice_index b k)) (bit_and (255 - slice_index c k) (slice_index a k)) % 256
selb_byte i a b c k lt =
    in_bytes (λ j. byte_value op.Selb i (lane_of 1 a j) (lane_of 1 b j) (lane_of 1 c j)) k lt
    ∙ ap3 (λ x y z. bit_or (bit_and z y) (bit_and (255 - z) x) % 256) _ _ _ _ _ _ (lane_byte a k) (lane_byte b k) (lane_byte c k)

or_byte_is : (i : ℕ) (a b c : List ℕ) (k : ℕ) → k < 16 → slice_index a k < 256 → slice_index b k < 256
    → slice_index (lanes 1 (λ j. byte_value op.Or i (lane_of 1 a j) (lane_of 1 b j) (lane_of 1 c j))) k ≡ bit_or (slice_index a k) (slice_index b k)
or_byte_is i a b c k lt p q =
    in_bytes (λ j. byte_value op.Or i (lane_of 1 a j) (lane_of 1 b j) (lane_of 1 c j)) k lt
    ∙ ap₂ (λ x y. bit_or x y % 256) (lane_byte a k) (lane_byte b k) ∙ or_small _ _ p q

orbi_byte : (i n : ℕ) (a b c : List ℕ) (k : ℕ) → k < 16 → slice_index a k < 256 → i < 256 → i ≡ n
    → slice_index (lanes 1 (λ j. byte_value op.Orbi i (lane_of 1 a j) (lane_of 1 b j) (lane_of 1 c j))) k ≡ bit_or (slice_index a k) n
orbi_byte i n a b c k lt p q e =
    in_bytes (λ j. byte_value op.Orbi i (lane_of 1 a j) (lane_of 1 b j) (lane_of 1 c j)) k lt
    ∙ ap (λ x. bit_or x i % 256) (lane_byte a k) ∙ or_small _ _ p q ∙ ap (bit_or (slice_index a k)) e

-- a byte of an or is the or of the bytes
byte_of_or : (r v w : ℕ) → r < 4 → byte_at r (bit_or v w) ≡ bit_or (byte_at r v) (byte_at r w)
byte_of_or zero v w lt = or_mod v w 8
byte_of_or (suc zero) v w lt = ap (λ n. n % 256) (or_shr v w 8) ∙ or_mod (v / 256) (w / 256) 8
byte_of_or (suc (suc zero)) v w lt = ap (λ n. n % 256) (or_shr v w 16) ∙ or_mod (v / 256 ^ 2) (w / 256 ^ 2) 8
byte_of_or (suc (suc (suc zero))) v w lt = ap (λ n. n % 256) (or_shr v w 24) ∙ or_mod (v / 256 ^ 3) (w / 256 ^ 3) 8
byte_of_or (suc (suc (suc (suc r)))) v w lt = absurd (omega arith)

-- the bytes of a word and of a halfword
word_byte : (q : List ℕ) → HasBytes q → (j r : ℕ) → j < 4 → r < 4 → byte_at (3 - r) (lane_of 4 q j) ≡ slice_index q (4 * j + r)
word_byte q small j r lj lr =
    let b0 : slice_index q (4 * j + 0) < 256 = small (4 * j + 0) (omega arith) in
    let b1 : slice_index q (4 * j + 1) < 256 = small (4 * j + 1) (omega arith) in
    let b2 : slice_index q (4 * j + 2) < 256 = small (4 * j + 2) (omega arith) in
    let b3 : slice_index q (4 * j + 3) < 256 = small (4 * j + 3) (omega arith) in
    by_byte r lr b0 b1 b2 b3
  where
    by_byte : (r : ℕ) → r < 4 → slice_index q (4 * j + 0) < 256 → slice_index q (4 * j + 1) < 256 → slice_index q (4 * j + 2) < 256 → slice_index q (4 * j + 3) < 256
        → byte_at (3 - r) (lane_of 4 q j) ≡ slice_index q (4 * j + r)
    by_byte zero lr b0 b1 b2 b3 = omega arith
    by_byte (suc zero) lr b0 b1 b2 b3 = omega arith
    by_byte (suc (suc zero)) lr b0 b1 b2 b3 = omega arith
    by_byte (suc (suc (suc zero))) lr b0 b1 b2 b3 = omega arith
    by_byte (suc (suc (suc (suc r)))) lr b0 b1 b2 b3 = absurd (omega arith)

halfword_byte : (q : List ℕ) → HasBytes q → (j r : ℕ) → j < 8 → r < 2 → byte_at (1 - r) (lane_of 2 q j) ≡ slice_index q (2 * j + r)
halfword_byte q small j r lj lr =
    let b0 : slice_index q (2 * j + 0) < 256 = small (2 * j + 0) (omega arith) in
    let b1 : slice_index q (2 * j + 1) < 256 = small (2 * j + 1) (omega arith) in
    by_byte r lr b0 b1
  where
    by_byte : (r : ℕ) → r < 2 → slice_index q (2 * j + 0) < 256 → slice_index q (2 * j + 1) < 256 → byte_at (1 - r) (lane_of 2 q j) ≡ slice_index q (2 * j + r)
    by_byte zero lr b0 b1 = omega arith
    by_byte (suc zero) lr b0 b1 = omega arith
    by_byte (suc (suc r)) lr b0 b1 = absurd (omega arith)

-- a byte of the or of lanes with a number
or_lanes_byte : (w n : ℕ) (q : List ℕ) (k : ℕ) → k < 16 → w - 1 - k % w < 4 → byte_at (w - 1 - k % w) (lane_of w q (k / w)) ≡ slice_index q k
    → slice_index (lanes w (λ j. bit_or (lane_of w q j) n)) k ≡ bit_or (slice_index q k) (byte_at (w - 1 - k % w) n)
or_lanes_byte w n q k lt below e =
    slice_sixteen (λ k. byte_at (w - 1 - k % w) (bit_or (lane_of w q (k / w)) n)) k lt
    ∙ byte_of_or (w - 1 - k % w) (lane_of w q (k / w)) n below ∙ ap (λ v. bit_or v (byte_at (w - 1 - k % w) n)) e

or_words_byte : (n : ℕ) (q : List ℕ) (k : ℕ) → k < 16 → HasBytes q → slice_index (lanes 4 (λ j. bit_or (lane_of 4 q j) n)) k ≡ bit_or (slice_index q k) (byte_at (3 - k % 4) n)
or_words_byte n q k lt small =
    let itself : 4 * (k / 4) + k % 4 ≡ k = omega arith in
    or_lanes_byte 4 n q k lt (omega arith) (word_byte q small (k / 4) (k % 4) (omega arith) (omega arith) ∙ ap (slice_index q) itself)

-- a byte of the immediate of a halfword is one of the word's
immediate_halfword : (c r : ℕ) → r < 2 → byte_at (1 - r) (c % 256 ^ 2) ≡ byte_at (3 - (2 + r)) (c % 256 ^ 4)
immediate_halfword c zero lt = omega arith
immediate_halfword c (suc zero) lt = omega arith
immediate_halfword c (suc (suc r)) lt = absurd (omega arith)

or_halfwords_byte : (x : Inst) (q : List ℕ) (k : ℕ) → k < 16 → HasBytes q
    → slice_index (lanes 2 (λ j. bit_or (lane_of 2 q j) (immediate 2 x.imm))) k ≡ bit_or (slice_index q k) (byte_at (3 - (2 + k % 2)) (immediate 4 x.imm))
or_halfwords_byte x q k lt small =
    let itself : 2 * (k / 2) + k % 2 ≡ k = omega arith in
    or_lanes_byte 2 (immediate 2 x.imm) q k lt (omega arith) (halfword_byte q small (k / 2) (k % 2) (omega arith) (omega arith) ∙ ap (slice_index q) itself)
    ∙ ap (bit_or (slice_index q k)) (immediate_halfword (cast_unsigned w32 x.imm) (k % 2) (omega arith))

-- ---- the moves agree

-- the immediate and the sources agree with the machine's
pub record Sources (A : Type 0) (R : A → ℕ → Type 0) (o : Op) (n : ℕ) (i sa sb sc st : ℕ → A) (a b c t : List ℕ) : Type 0 where
  pub imm : (j : ℕ) → j < 4 → R (i j) (immediate_byte o n j)
  pub ra : Related A R sa a
  pub rb : Related A R sb b
  pub rc : Related A R sc c
  pub rt : Related A R st t
  pub small_a : HasBytes a
  pub small_b : HasBytes b
  pub small_t : HasBytes t

abbrev pub with_op : Op → Inst → Inst
with_op o x = record x { op = o }

selected : {A : Type 0} (d : ByteType A) (R : A → ℕ → Type 0) → Keeps A d R → (sa sb sc s : A) (a b c : ℕ) → a < 256 → b < 256 → R sa a → R sb b → R sc c → given (d.number sc) (selected_byte sa sb) ≡ Some s
    → R s (bit_or (bit_and c b) (bit_and (255 - c) a) % 256)
selected d R keeps sa sb sc s a b c lta ltb ha hb hc e =
    let p = given_is (d.number sc) (selected_byte sa sb) s e in
    let n : ℕ = p.0 in
    let is : c ≡ n = keeps.number sc c n hc p.1 in
    subst (λ m. R s (bit_or (bit_and m b) (bit_and (255 - m) a) % 256)) (sym is) (by_mask n (n == 0) refl p.2)
  where
    all_ones : (n : ℕ) (f : Bool) → (n == 255) ≡ f → (if f then Some sb else None) ≡ Some s → R s (bit_or (bit_and n b) (bit_and (255 - n) a) % 256)
    all_ones n true t e =
        subst (λ m. R s (bit_or (bit_and m b) (bit_and (255 - m) a) % 256)) (sym (eqb-true n 255 t))
        (subst (R s) (sym (select_second a b ltb)) (subst (λ r. R r b) (some_is sb s e) hb))
    all_ones n false t e = no_some s e

    by_mask : (n : ℕ) (f : Bool) → (n == 0) ≡ f → (if f then Some sa else (if n == 255 then Some sb else None)) ≡ Some s → R s (bit_or (bit_and n b) (bit_and (255 - n) a) % 256)
    by_mask n true t e =
        subst (λ m. R s (bit_or (bit_and m b) (bit_and (255 - m) a) % 256)) (sym (eqb-true n 0 t))
        (subst (R s) (sym (select_first a b lta)) (subst (λ r. R r a) (some_is sa s e) ha))
    by_mask n false t e = all_ones n (n == 255) refl e

pub moved_agrees : {A : Type 0} (d : ByteType A) (R : A → ℕ → Type 0) → Keeps A d R → (o : Op) (x : Inst) (i sa sb sc st : ℕ → A) (a b c t : List ℕ) (k : ℕ) → k < 16
    → Sources A R o (immediate 4 x.imm) i sa sb sc st a b c t → (s : A) → moved d o (immediate 4 x.imm) i sa sb sc st k ≡ Some s → R s (slice_index (value (with_op o x) a b c t) k)
moved_agrees d R keeps op.Shufb x i sa sb sc st a b c t k lt h s e =
    in_sixteen R s (λ k. or_zero (moved_byte op.Shufb (immediate 4 x.imm) a b c t k)) k lt
    (controlled d R keeps (sc k) (slice_index c k) (h.rc k lt) (chosen_byte d.constant sa sb) (chosen_byte (λ v. v) (slice_index a) (slice_index b)) (λ n. chosen_related R d.constant keeps.constant sa sb a b n h.ra h.rb) s e)
moved_agrees d R keeps op.Selb x i sa sb sc st a b c t k lt h s e =
    subst (R s) (sym (selb_byte (immediate 1 x.imm) a b c k lt))
    (selected d R keeps (sa k) (sb k) (sc k) s (slice_index a k) (slice_index b k) (slice_index c k) (h.small_a k lt) (h.small_b k lt) (h.ra k lt) (h.rb k lt) (h.rc k lt) e)
moved_agrees d R keeps op.Rotqby x i sa sb sc st a b c t k lt h s e =
    in_sixteen R s (λ k. or_zero (moved_byte op.Rotqby (immediate 4 x.imm) a b c t k)) k lt
    (counted d R keeps sb b h.rb (λ m. turned_byte sa (m % 16) k) (λ m. turned_byte (slice_index a) (m % 16) k) (λ m. turned_related R sa a (m % 16) k h.ra) s e)
moved_agrees d R keeps op.Rotqbyi x i sa sb sc st a b c t k lt h s e =
    in_sixteen R s (λ k. or_zero (moved_byte op.Rotqbyi (immediate 4 x.imm) a b c t k)) k lt
    (subst (λ r. R r (turned_byte (slice_index a) (immediate 4 x.imm % 16) k)) (some_is (turned_byte sa (immediate 4 x.imm % 16) k) s e) (turned_related R sa a (immediate 4 x.imm % 16) k h.ra))
moved_agrees d R keeps op.Rotqbybi x i sa sb sc st a b c t k lt h s e =
    in_sixteen R s (λ k. or_zero (moved_byte op.Rotqbybi (immediate 4 x.imm) a b c t k)) k lt
    (counted d R keeps sb b h.rb (λ m. turned_byte sa (m / 8 % 16) k) (λ m. turned_byte (slice_index a) (m / 8 % 16) k) (λ m. turned_related R sa a (m / 8 % 16) k h.ra) s e)
moved_agrees d R keeps op.Shlqby x i sa sb sc st a b c t k lt h s e =
    in_sixteen R s (λ k. or_zero (moved_byte op.Shlqby (immediate 4 x.imm) a b c t k)) k lt
    (counted d R keeps sb b h.rb (λ m. left_byte (d.constant 0) sa (m % 32) k) (λ m. left_byte 0 (slice_index a) (m % 32) k) (λ m. left_related R (d.constant 0) (keeps.constant 0) sa a (m % 32) k h.ra) s e)
moved_agrees d R keeps op.Shlqbyi x i sa sb sc st a b c t k lt h s e =
    in_sixteen R s (λ k. or_zero (moved_byte op.Shlqbyi (immediate 4 x.imm) a b c t k)) k lt
    (subst (λ r. R r (left_byte 0 (slice_index a) (immediate 4 x.imm % 32) k)) (some_is (left_byte (d.constant 0) sa (immediate 4 x.imm % 32) k) s e) (left_related R (d.constant 0) (keeps.constant 0) sa a (immediate 4 x.imm % 32) k h.ra))
moved_agrees d R keeps op.Shlqbybi x i sa sb sc st a b c t k lt h s e =
    in_sixteen R s (λ k. or_zero (moved_byte op.Shlqbybi (immediate 4 x.imm) a b c t k)) k lt
    (counted d R keeps sb b h.rb (λ m. left_byte (d.constant 0) sa (m / 8 % 32) k) (λ m. left_byte 0 (slice_index a) (m / 8 % 32) k) (λ m. left_related R (d.constant 0) (keeps.constant 0) sa a (m / 8 % 32) k h.ra) s e)
moved_agrees d R keeps op.Rotqmby x i sa sb sc st a b c t k lt h s e =
    in_sixteen R s (λ k. or_zero (moved_byte op.Rotqmby (immediate 4 x.imm) a b c t k)) k lt
    (counted d R keeps sb b h.rb (λ m. right_byte (d.constant 0) sa ((32 - m % 32) % 32) k) (λ m. right_byte 0 (slice_index a) ((32 - m % 32) % 32) k) (λ m. right_related R (d.constant 0) (keeps.constant 0) sa a ((32 - m % 32) % 32) k lt h.ra) s e)
moved_agrees d R keeps op.Rotqmbyi x i sa sb sc st a b c t k lt h s e =
    in_sixteen R s (λ k. or_zero (moved_byte op.Rotqmbyi (immediate 4 x.imm) a b c t k)) k lt
    (subst (λ r. R r (right_byte 0 (slice_index a) ((32 - immediate 4 x.imm % 32) % 32) k)) (some_is (right_byte (d.constant 0) sa ((32 - immediate 4 x.imm % 32) % 32) k) s e) (right_related R (d.constant 0) (keeps.constant 0) sa a ((32 - immediate 4 x.imm % 32) % 32) k lt h.ra))
moved_agrees d R keeps op.Or x i sa sb sc st a b c t k lt h s e =
    subst (R s) (sym (or_byte_is (immediate 1 x.imm) a b c k lt (h.small_a k lt) (h.small_b k lt)))
    (or_related d R keeps (sa k) (sb k) s _ _ (h.small_a k lt) (h.small_b k lt) (h.ra k lt) (h.rb k lt) e)
moved_agrees d R keeps op.Ori x i sa sb sc st a b c t k lt h s e =
    subst (R s) (sym (or_words_byte (immediate 4 x.imm) a k lt h.small_a))
    (or_related d R keeps (sa k) (i (k % 4)) s _ _ (h.small_a k lt) (byte_small (3 - k % 4) (immediate 4 x.imm)) (h.ra k lt) (h.imm (k % 4) (omega arith)) e)
moved_agrees d R keeps op.Orhi x i sa sb sc st a b c t k lt h s e =
    subst (R s) (sym (or_halfwords_byte x a k lt h.small_a))
    (or_related d R keeps (sa k) (i (2 + k % 2)) s _ _ (h.small_a k lt) (byte_small (3 - (2 + k % 2)) (immediate 4 x.imm)) (h.ra k lt) (h.imm (2 + k % 2) (omega arith)) e)
moved_agrees d R keeps op.Orbi x i sa sb sc st a b c t k lt h s e =
    subst (R s) (sym (orbi_byte (immediate 1 x.imm) (immediate_byte op.Orbi (immediate 4 x.imm) 3) a b c k lt (h.small_a k lt) (omega arith) (omega arith)))
    (or_related d R keeps (sa k) (i 3) s _ _ (h.small_a k lt) (byte_small 0 (immediate 4 x.imm)) (h.ra k lt) (h.imm 3 (omega arith)) e)
moved_agrees d R keeps op.Iohl x i sa sb sc st a b c t k lt h s e =
    subst (R s) (sym (or_words_byte (immediate 4 x.imm % 2 ^ 16) t k lt h.small_t))
    (or_related d R keeps (st k) (i (k % 4)) s _ _ (h.small_t k lt) (byte_small (3 - k % 4) (immediate 4 x.imm % 2 ^ 16)) (h.rt k lt) (h.imm (k % 4) (omega arith)) e)
moved_agrees d R keeps op.Ila x i sa sb sc st a b c t k lt h s e =
    in_sixteen R s (λ k. byte_at (3 - k % 4) (immediate 4 x.imm)) k lt
    (subst (λ r. R r (byte_at (3 - k % 4) (immediate 4 x.imm))) (some_is (i (k % 4)) s e) (h.imm (k % 4) (omega arith)))
moved_agrees d R keeps op.Ilhu x i sa sb sc st a b c t k lt h s e =
    in_sixteen R s (λ k. byte_at (3 - k % 4) (immediate 4 x.imm % 2 ^ 16 * 2 ^ 16)) k lt
    (subst (λ r. R r (byte_at (3 - k % 4) (immediate 4 x.imm % 2 ^ 16 * 2 ^ 16))) (some_is (i (k % 4)) s e) (h.imm (k % 4) (omega arith)))
moved_agrees d R keeps _ x i sa sb sc st a b c t k lt h s e = no_some s e

-- ---- of numbers

number_keeps : Keeps ℕ number_bytes (λ v w. w ≡ v)
number_keeps = record {
  constant = λ v. refl;
  number = λ s v n h e. h ∙ some_is s n e;
  joined = λ s u r v w p q h j e. no_some r e;
}

pub moved_value : (x : Inst) (a b c t : List ℕ) (k v : ℕ) → k < 16 → HasBytes a → HasBytes b → HasBytes t → moved_byte x.op (immediate 4 x.imm) a b c t k ≡ Some v → slice_index (value x a b c t) k ≡ v
moved_value x a b c t k v lt pa pb pt e =
    moved_agrees number_bytes (λ v w. w ≡ v) number_keeps x.op x (immediate_byte x.op (immediate 4 x.imm)) (slice_index a) (slice_index b) (slice_index c) (slice_index t) a b c t k lt
    (record { imm = λ j below. refl; ra = λ j below. refl; rb = λ j below. refl; rc = λ j below. refl; rt = λ j below. refl; small_a = pa; small_b = pb; small_t = pt }) v e
