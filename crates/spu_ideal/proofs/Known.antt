-- What `il`, `ai` and `a` leave in word 0, where the words that they read are known.
use Rattle.std.proofs.Common.{◌≡◌, ℕ, zero, suc, ◌+◌, ◌*◌, ◌%◌, ◌<◌, ◌^◌, List, [], ◌∷◌, get_or, Some, refl, sym, ap, ap₂, ◌∙◌, subst, arith, Bool, true, false, Option, ℤ, pos, negsuc}
use Rattle.std.specs.Prelude.{◌&&◌, map, slice_index, ◌+ℤ◌}
use Rattle.std.proofs.Math.Path.{fun_ext}
use Rattle.std.proofs.lemmas.Int.{ints}
use Rattle.std.proofs.lemmas.Bool.{cond-true}
use Rattle.spu_word.specs.Bytes.{word_of}
use Rattle.spu_isa.specs.declared.operation.Op.{Op}
use Rattle.spu_isa.specs.declared.operation.Op.TheVariants as op
use Rattle.spu_isa.specs.declared.instruction.Inst.{Inst}
use Rattle.spu_exec.specs.Lanes.{immediate, lane_of, word_value}
use Rattle.spu_exec.specs.Values.{value}
use Rattle.spu_exec.specs.declared.sources.Source.TheVariants.{FromRa, FromRb, FromRc, FromRt}
use Rattle.spu_exec.specs.Reads.{reads}
use Rattle.spu_exec.proofs.Joins.{lane_of_word, word_of_lanes}
use Rattle.spu_lift.specs.declared.symbolic.SymByte.{SymByte}
use Rattle.spu_lift.specs.declared.symbolic.SymByte.TheVariants.{Num, Part, Unknown}
use Rattle.spu_ideal.specs.Results.{are_known, computed_byte, symbolic_byte, symbolic_value}
use Rattle.spu_exec.specs.Moves.{word_number}
use Rattle.spu_ideal.specs.Bytes.{number_in, sixteen, sym_at, is_number, number_of, known_word}

abbrev known : SymByte → SymByte → SymByte → SymByte → Option ℕ
known a b c d = word_number (number_in a) (number_in b) (number_in c) (number_in d)

abbrev pub computed : Inst → List SymByte → List SymByte → List SymByte → List SymByte → List SymByte
computed x a b c t = sixteen (computed_byte x a b c t)

pub record AreNumbers (a b c d : SymByte) (w : ℕ) : Type 0 where
  pub one : is_number a ≡ true
  pub two : is_number b ≡ true
  pub three : is_number c ≡ true
  pub four : is_number d ≡ true
  pub sum : number_of a * 256 ^ 3 + number_of b * 256 ^ 2 + number_of c * 256 + number_of d ≡ w

known_parts : (a b c d : SymByte) (w : ℕ) → known a b c d ≡ Some w → AreNumbers a b c d w
known_parts (Num a) (Num b) (Num c) (Num d) w e = record { one = refl; two = refl; three = refl; four = refl; sum = cc }
known_parts (Num a) (Num b) (Num c) (Part l k) w e = cc
known_parts (Num a) (Num b) (Num c) Unknown w e = cc
known_parts (Num a) (Num b) (Part l k) d w e = cc
known_parts (Num a) (Num b) Unknown d w e = cc
known_parts (Num a) (Part l k) c d w e = cc
known_parts (Num a) Unknown c d w e = cc
known_parts (Part l k) b c d w e = cc
known_parts Unknown b c d w e = cc

number_at : (s : List SymByte) (j : ℕ) → get_or (map number_of s) j 0 ≡ number_of (get_or s j Unknown)
number_at [] j = refl
number_at (s ∷ ss) zero = refl
number_at (s ∷ ss) (suc j) = number_at ss j

-- the word of the numbers
known_is : (q : List SymByte) (w : ℕ) → known_word q 0 ≡ Some w → word_of (map number_of q) 0 ≡ w
known_is q w e =
    let parts = known_parts _ _ _ _ w e in
    omega (arith, parts.sum, number_at q 0, number_at q 1, number_at q 2, number_at q 3)

-- all bytes that byte k reads are numbers
abbrev reads_numbers : Inst → List SymByte → List SymByte → List SymByte → List SymByte → ℕ → Bool
reads_numbers x a b c t k = are_known (reads x.op FromRa k) a 16 && (are_known (reads x.op FromRb k) b 16 && (are_known (reads x.op FromRc k) c 16 && are_known (reads x.op FromRt k) t 16))

byte_known : (x : Inst) (a b c t : List SymByte) (k : ℕ) → reads_numbers x a b c t k ≡ true
    → computed_byte x a b c t k ≡ Num (slice_index (value x (map number_of a) (map number_of b) (map number_of c) (map number_of t)) k)
unfolding computed_byte
byte_known x a b c t k e = cond-true _ _ _ e

known_four : (a b c d : SymByte) (u v w z : ℕ) → a ≡ Num u → b ≡ Num v → c ≡ Num w → d ≡ Num z → known a b c d ≡ Some (u * 256 ^ 3 + v * 256 ^ 2 + w * 256 + z)
known_four a b c d u v w z p q r s = ap₂ (λ m n. known m n c d) p q ∙ ap₂ (λ m n. known (Num u) (Num v) m n) r s

word_known : (x : Inst) (a b c t : List SymByte) → reads_numbers x a b c t 0 ≡ true → reads_numbers x a b c t 1 ≡ true → reads_numbers x a b c t 2 ≡ true → reads_numbers x a b c t 3 ≡ true
    → known_word (computed x a b c t) 0 ≡ Some (word_of (value x (map number_of a) (map number_of b) (map number_of c) (map number_of t)) 0)
word_known x a b c t p q r s =
    known_four _ _ _ _ _ _ _ _ (byte_known x a b c t 0 p) (byte_known x a b c t 1 q) (byte_known x a b c t 2 r) (byte_known x a b c t 3 s)

and_true : (a b c d : Bool) → a ≡ true → b ≡ true → c ≡ true → d ≡ true → (a && (b && (c && d))) ≡ true
and_true a b c d p q r s = cc

-- the first four bytes are numbers
in_word : (q : List SymByte) (w : ℕ) → known_word q 0 ≡ Some w → (is_number (sym_at q 3) && (is_number (sym_at q 2) && (is_number (sym_at q 1) && (is_number (sym_at q 0) && true)))) ≡ true
in_word q w e =
    let parts = known_parts _ _ _ _ w e in
    let a = parts.one in let b = parts.two in let c = parts.three in let d = parts.four in cc

abbrev with_op : Inst → Op → Inst
with_op x o = record x { op = o }

has_op : (x : Inst) (o : Op) → x.op ≡ o → with_op x o ≡ x
has_op x o e = ap (with_op x) (sym e)

-- ---- il

il_reads : (x : Inst) (a b c t : List SymByte) (k : ℕ) → k < 4 → reads_numbers (with_op x op.Il) a b c t k ≡ true
unfolding are_known
il_reads x a b c t k lt = refl

il_known : (x : Inst) (a b c t : List SymByte) → known_word (computed (with_op x op.Il) a b c t) 0 ≡ Some (immediate 4 x.imm)
il_known x a b c t =
    let y : Inst = with_op x op.Il in
    let numbers : ℕ → ℕ = λ j. word_value op.Il (immediate 4 x.imm) (lane_of 4 (map number_of a) j) (lane_of 4 (map number_of b) j) (lane_of 4 (map number_of c) j) (lane_of 4 (map number_of t) j) in
    word_known y a b c t (il_reads x a b c t 0 (omega arith)) (il_reads x a b c t 1 (omega arith)) (il_reads x a b c t 2 (omega arith)) (il_reads x a b c t 3 (omega arith))
    ∙ ap Some (word_of_lanes numbers 0 (omega arith) ∙ omega arith)

pub il_word : (x : Inst) (a b c t : List SymByte) → x.op ≡ op.Il → known_word (computed x a b c t) 0 ≡ Some (immediate 4 x.imm)
il_word x a b c t e = subst (λ y. known_word (computed y a b c t) 0 ≡ Some (immediate 4 y.imm)) (has_op x op.Il e) (il_known x a b c t)

-- ---- ai

ai_reads : (x : Inst) (a b c t : List SymByte) (w : ℕ) → known_word a 0 ≡ Some w
    → (reads_numbers (with_op x op.Ai) a b c t 0 ≡ true) × (reads_numbers (with_op x op.Ai) a b c t 1 ≡ true) × (reads_numbers (with_op x op.Ai) a b c t 2 ≡ true) × (reads_numbers (with_op x op.Ai) a b c t 3 ≡ true)
unfolding are_known
ai_reads x a b c t w e =
    let n = in_word a w e in
    (and_true _ _ _ _ n refl refl refl, and_true _ _ _ _ n refl refl refl, and_true _ _ _ _ n refl refl refl, and_true _ _ _ _ n refl refl refl)

ai_known : (x : Inst) (a b c t : List SymByte) (w : ℕ) → known_word a 0 ≡ Some w → known_word (computed (with_op x op.Ai) a b c t) 0 ≡ Some ((w + immediate 4 x.imm) % 2 ^ 32)
ai_known x a b c t w e =
    let y : Inst = with_op x op.Ai in
    let all = ai_reads x a b c t w e in
    let numbers : ℕ → ℕ = λ j. word_value op.Ai (immediate 4 x.imm) (lane_of 4 (map number_of a) j) (lane_of 4 (map number_of b) j) (lane_of 4 (map number_of c) j) (lane_of 4 (map number_of t) j) in
    word_known y a b c t all.0 all.1 all.2 all.3
    ∙ ap Some (word_of_lanes numbers 0 (omega arith) ∙ ap (λ v. (v + immediate 4 x.imm) % 2 ^ 32) (lane_of_word (map number_of a) 0 ∙ known_is a w e))

pub ai_word : (x : Inst) (a b c t : List SymByte) (w : ℕ) → x.op ≡ op.Ai → known_word a 0 ≡ Some w → known_word (computed x a b c t) 0 ≡ Some ((w + immediate 4 x.imm) % 2 ^ 32)
ai_word x a b c t w e k = subst (λ y. known_word (computed y a b c t) 0 ≡ Some ((w + immediate 4 y.imm) % 2 ^ 32)) (has_op x op.Ai e) (ai_known x a b c t w k)

-- ---- a

a_reads : (x : Inst) (a b c t : List SymByte) (v w : ℕ) → known_word a 0 ≡ Some v → known_word b 0 ≡ Some w
    → (reads_numbers (with_op x op.A) a b c t 0 ≡ true) × (reads_numbers (with_op x op.A) a b c t 1 ≡ true) × (reads_numbers (with_op x op.A) a b c t 2 ≡ true) × (reads_numbers (with_op x op.A) a b c t 3 ≡ true)
unfolding are_known
a_reads x a b c t v w e f =
    let n = in_word a v e in
    let m = in_word b w f in
    (and_true _ _ _ _ n m refl refl, and_true _ _ _ _ n m refl refl, and_true _ _ _ _ n m refl refl, and_true _ _ _ _ n m refl refl)

a_known : (x : Inst) (a b c t : List SymByte) (v w : ℕ) → known_word a 0 ≡ Some v → known_word b 0 ≡ Some w → known_word (computed (with_op x op.A) a b c t) 0 ≡ Some ((v + w) % 2 ^ 32)
a_known x a b c t v w e f =
    let y : Inst = with_op x op.A in
    let all = a_reads x a b c t v w e f in
    let numbers : ℕ → ℕ = λ j. word_value op.A (immediate 4 x.imm) (lane_of 4 (map number_of a) j) (lane_of 4 (map number_of b) j) (lane_of 4 (map number_of c) j) (lane_of 4 (map number_of t) j) in
    word_known y a b c t all.0 all.1 all.2 all.3
    ∙ ap Some (word_of_lanes numbers 0 (omega arith) ∙ ap₂ (λ m n. (m + n) % 2 ^ 32) (lane_of_word (map number_of a) 0 ∙ known_is a v e) (lane_of_word (map number_of b) 0 ∙ known_is b w f))

pub a_word : (x : Inst) (a b c t : List SymByte) (v w : ℕ) → x.op ≡ op.A → known_word a 0 ≡ Some v → known_word b 0 ≡ Some w → known_word (computed x a b c t) 0 ≡ Some ((v + w) % 2 ^ 32)
a_word x a b c t v w e k l = subst (λ y. known_word (computed y a b c t) 0 ≡ Some ((v + w) % 2 ^ 32)) (has_op x op.A e) (a_known x a b c t v w k l)

-- ---- the sum as a whole number

pub added : (w v : ℕ) (k : ℤ) → pos v ≡ pos w +ℤ k → w < 2 ^ 32 → v < 2 ^ 32 → (w + immediate 4 k) % 2 ^ 32 ≡ v
added w v (pos n) e lw lv = let f : v ≡ w + n = omega (arith, ints) in omega arith
added w v (negsuc n) e lw lv = let f : v + suc n ≡ w = omega (arith, ints) in omega arith

-- ---- what moves nothing is computed

all_same : (f g : ℕ → SymByte) → ((k : ℕ) → f k ≡ g k) → sixteen f ≡ sixteen g
all_same f g h = ap sixteen (fun_ext h)

il_plain : (x : Inst) (a b c t : List SymByte) → symbolic_value (with_op x op.Il) a b c t ≡ computed (with_op x op.Il) a b c t
unfolding symbolic_byte
il_plain x a b c t = all_same (symbolic_byte (with_op x op.Il) a b c t) (computed_byte (with_op x op.Il) a b c t) (λ k. refl)

ai_plain : (x : Inst) (a b c t : List SymByte) → symbolic_value (with_op x op.Ai) a b c t ≡ computed (with_op x op.Ai) a b c t
unfolding symbolic_byte
ai_plain x a b c t = all_same (symbolic_byte (with_op x op.Ai) a b c t) (computed_byte (with_op x op.Ai) a b c t) (λ k. refl)

a_plain : (x : Inst) (a b c t : List SymByte) → symbolic_value (with_op x op.A) a b c t ≡ computed (with_op x op.A) a b c t
unfolding symbolic_byte
a_plain x a b c t = all_same (symbolic_byte (with_op x op.A) a b c t) (computed_byte (with_op x op.A) a b c t) (λ k. refl)

-- whether an operation is one of these
abbrev pub adds : Op → Bool
adds op.Il = true
adds op.Ai = true
adds op.A = true
adds _ = false

pub plain_value : (x : Inst) (a b c t : List SymByte) (o : Op) → x.op ≡ o → adds o ≡ true → symbolic_value x a b c t ≡ computed x a b c t
plain_value x a b c t op.Il e m = subst (λ y. symbolic_value y a b c t ≡ computed y a b c t) (has_op x op.Il e) (il_plain x a b c t)
plain_value x a b c t op.Ai e m = subst (λ y. symbolic_value y a b c t ≡ computed y a b c t) (has_op x op.Ai e) (ai_plain x a b c t)
plain_value x a b c t op.A e m = subst (λ y. symbolic_value y a b c t ≡ computed y a b c t) (has_op x op.A e) (a_plain x a b c t)
plain_value x a b c t _ e m = cc
