-- What an instruction gives, where it reads or writes and whether it branches, as words that don't compute: the states of a run
-- of many instructions stay small. Each has its law.
use Rattle.std.proofs.Common.{◌≡◌, ℕ, zero, suc, ◌+◌, ◌-◌, ◌*◌, ◌/◌, ◌%◌, ◌^◌, ◌<◌, ◌≤◌, ◌⊎◌, List, [], ◌∷◌, get_or, refl, sym, ap, ◌∙◌, subst, arith, inl, inr, Bool, true, false, ℤ, pos, negsuc, bit_and}
use Rattle.std.specs.Prelude.{◌==◌, not, nat_lt, int_lt, slice_index}
use Rattle.std.specs.Int.{w32, cast_signed, byte_at}
use Rattle.std.proofs.lemmas.Nat.{and_mask}
use Rattle.spu_word.specs.Bytes.{word_of, quad_of}
use Rattle.spu_isa.specs.declared.operation.Op.TheVariants as op
use Rattle.spu_isa.specs.declared.instruction.Inst.{Inst}
use Rattle.spu_exec.specs.Values.{HasBytes, Shape, Words}
use Rattle.spu_exec.specs.Lanes.{lanes, lane_of, immediate, word_value, ones_where}
use Rattle.spu_exec.specs.Quads.{turned}
use Rattle.spu_exec.specs.Values.{shape_of, value_of, value}
use Rattle.spu_exec.specs.Places.{code_mask, quad_mask, place, taken}
use Rattle.spu_exec.proofs.Joins.{lane_of_word, word_of_lanes}
use Rattle.spu_exec.proofs.Laws.{slice_sixteen}
use Rattle.spu_loader.specs.Forms.{rr, ri, wide}

unfoldable pub wd : List ℕ → ℕ → ℕ
wd q k = word_of q k

unfoldable pub quad : ℕ → ℕ → ℕ → ℕ → List ℕ
quad a b c d = quad_of a b c d

unfoldable pub val : Inst → List ℕ → List ℕ → List ℕ → List ℕ → List ℕ
val x a b c t = value x a b c t

unfoldable pub loc : Inst → ℕ → List ℕ → List ℕ → ℕ
loc x pc a b = place x pc a b

unfoldable pub jumps : Inst → List ℕ → Bool
jumps x t = taken x t

-- ---- words of quads

digits_give : (v : ℕ) → v < 2 ^ 32 → v / 256 ^ 3 % 256 * 256 ^ 3 + v / 256 ^ 2 % 256 * 256 ^ 2 + v / 256 % 256 * 256 + v % 256 ≡ v
digits_give v lt = omega arith

pub wd-quad_0 : (a b c d : ℕ) → a < 2 ^ 32 → wd (quad a b c d) 0 ≡ a
unfolding wd quad
wd-quad_0 a b c d h = digits_give a h

pub wd-quad_1 : (a b c d : ℕ) → b < 2 ^ 32 → wd (quad a b c d) 1 ≡ b
unfolding wd quad
wd-quad_1 a b c d h = digits_give b h

pub wd-quad_2 : (a b c d : ℕ) → c < 2 ^ 32 → wd (quad a b c d) 2 ≡ c
unfolding wd quad
wd-quad_2 a b c d h = digits_give c h

-- ---- an instruction that computes in words

pub val-words : (x : Inst) (a b c t : List ℕ) (j : ℕ) → j < 4 → shape_of x.op ≡ Words → wd (val x a b c t) j ≡ word_value x.op (immediate 4 x.imm) (wd a j) (wd b j) (wd c j) (wd t j) % 2 ^ 32
unfolding wd val
val-words x a b c t j lt e =
    ap (λ (s : Shape). word_of (value_of s x a b c t) j) e
    ∙ word_of_lanes (λ k. word_value x.op (immediate 4 x.imm) (lane_of 4 a k) (lane_of 4 b k) (lane_of 4 c k) (lane_of 4 t k)) j lt
    ∙ ap (λ w. word_value x.op (immediate 4 x.imm) w (lane_of 4 b j) (lane_of 4 c j) (lane_of 4 t j) % 2 ^ 32) (lane_of_word a j)
    ∙ ap (λ w. word_value x.op (immediate 4 x.imm) (word_of a j) w (lane_of 4 c j) (lane_of 4 t j) % 2 ^ 32) (lane_of_word b j)
    ∙ ap (λ w. word_value x.op (immediate 4 x.imm) (word_of a j) (word_of b j) w (lane_of 4 t j) % 2 ^ 32) (lane_of_word c j)
    ∙ ap (λ w. word_value x.op (immediate 4 x.imm) (word_of a j) (word_of b j) (word_of c j) w % 2 ^ 32) (lane_of_word t j)

-- ---- bytes

byte_small : (r v : ℕ) → byte_at r v < 256
byte_small zero v = omega arith
byte_small (suc r) v = omega arith

-- ---- moves

pub val-turned_4 : (t a : ℕ) (x b c u : List ℕ) → wd (val (ri op.Rotqbyi t a (pos 4)) x b c u) 0 ≡ wd x 1
unfolding wd val
val-turned_4 t a x b c u = refl

pub val-turned_8 : (t a : ℕ) (x b c u : List ℕ) → wd (val (ri op.Rotqbyi t a (pos 8)) x b c u) 0 ≡ wd x 2
unfolding wd val
val-turned_8 t a x b c u = refl

-- ---- places and tests

pub loc-lqd : (t a pc : ℕ) (x y : List ℕ) → loc (ri op.Lqd t a (pos 0)) pc x y ≡ quad_mask (wd x 0)
unfolding wd loc
loc-lqd t a pc x y = omega arith

pub loc-stqd : (t a pc : ℕ) (x y : List ℕ) → loc (ri op.Stqd t a (pos 0)) pc x y ≡ quad_mask (wd x 0)
unfolding wd loc
loc-stqd t a pc x y = omega arith

pub loc-lqr : (t i pc : ℕ) (x y : List ℕ) → i < 65536 → loc (wide op.Lqr t (pos i)) pc x y ≡ quad_mask (pc + 4 * i)
unfolding loc
loc-lqr t i pc x y h = omega arith

pub loc-bi : (a pc : ℕ) (x y : List ℕ) → loc (rr op.Bi 0 a 0) pc x y ≡ code_mask (wd x 0)
unfolding wd loc
loc-bi a pc x y = refl

pub jumps-brz : (t : ℕ) (i : ℤ) (q : List ℕ) → jumps (wide op.Brz t i) q ≡ (wd q 0 == 0)
unfolding wd jumps
jumps-brz t i q = refl

pub jumps-brnz : (t : ℕ) (i : ℤ) (q : List ℕ) → jumps (wide op.Brnz t i) q ≡ not (wd q 0 == 0)
unfolding wd jumps
jumps-brnz t i q = refl

-- ---- instructions that compute in words

pub val-ila : (t x : ℕ) (a b c u : List ℕ) → x < 262144 → wd (val (wide op.Ila t (pos x)) a b c u) 0 ≡ x
val-ila t x a b c u h = val-words (wide op.Ila t (pos x)) a b c u 0 (omega arith) refl ∙ omega arith

pub val-il : (t x : ℕ) (a b c u : List ℕ) → x < 32768 → wd (val (wide op.Il t (pos x)) a b c u) 0 ≡ x
val-il t x a b c u h = val-words (wide op.Il t (pos x)) a b c u 0 (omega arith) refl ∙ omega arith

pub val-a : (t r k j : ℕ) (a b c u : List ℕ) → j < 4 → wd (val (rr op.A t r k) a b c u) j ≡ (wd a j + wd b j) % 2 ^ 32
val-a t r k j a b c u h = val-words (rr op.A t r k) a b c u j h refl

pub val-sf : (t r k : ℕ) (a b c u : List ℕ) → wd (val (rr op.Sf t r k) a b c u) 0 ≡ (wd b 0 + 2 ^ 32 - wd a 0) % 2 ^ 32
val-sf t r k a b c u = val-words (rr op.Sf t r k) a b c u 0 (omega arith) refl

pub val-shli : (t r : ℕ) (a b c u : List ℕ) → wd a 0 * 16 < 2 ^ 32 → wd (val (ri op.Shli t r (pos 4)) a b c u) 0 ≡ wd a 0 * 16
val-shli t r a b c u h = val-words (ri op.Shli t r (pos 4)) a b c u 0 (omega arith) refl ∙ omega arith

-- one less, where there is one
pub val-less : (t r : ℕ) (a b c u : List ℕ) → 1 ≤ wd a 0 → wd a 0 < 2 ^ 32 → wd (val (ri op.Ai t r (negsuc 0)) a b c u) 0 ≡ wd a 0 - 1
val-less t r a b c u h l = val-words (ri op.Ai t r (negsuc 0)) a b c u 0 (omega arith) refl ∙ omega arith

pub val-clgt : (t r k : ℕ) (a b c u : List ℕ) → wd (val (rr op.Clgt t r k) a b c u) 0 ≡ ones_where 4 (nat_lt (wd b 0) (wd a 0)) % 2 ^ 32
val-clgt t r k a b c u = val-words (rr op.Clgt t r k) a b c u 0 (omega arith) refl

pub val-ceq : (t r k : ℕ) (a b c u : List ℕ) → wd (val (rr op.Ceq t r k) a b c u) 0 ≡ ones_where 4 (wd a 0 == wd b 0) % 2 ^ 32
val-ceq t r k a b c u = val-words (rr op.Ceq t r k) a b c u 0 (omega arith) refl

pub val-cgti : (t r : ℕ) (a b c u : List ℕ) → wd (val (ri op.Cgti t r (pos 0)) a b c u) 0 ≡ ones_where 4 (int_lt (pos 0) (cast_signed w32 (wd a 0))) % 2 ^ 32
val-cgti t r a b c u = val-words (ri op.Cgti t r (pos 0)) a b c u 0 (omega arith) refl

pub val-ilhu : (t : ℕ) (a b c u : List ℕ) → wd (val (wide op.Ilhu t (negsuc 32767)) a b c u) 0 ≡ 2 ^ 31
val-ilhu t a b c u = val-words (wide op.Ilhu t (negsuc 32767)) a b c u 0 (omega arith) refl

-- a mask is nothing exactly where its test doesn't hold
pub ones_test : (t : Bool) → (ones_where 4 t % 2 ^ 32 == 0) ≡ not t
ones_test true = refl
ones_test false = refl

-- the lowest bits of a number
pub val-andi : (t r n : ℕ) (a b c u : List ℕ) → wd a 0 < 2 ^ 32 → (n ≡ 1) ⊎ (n ≡ 2) ⊎ (n ≡ 4) ⊎ (n ≡ 8) → wd (val (ri op.Andi t r (pos (n - 1))) a b c u) 0 ≡ wd a 0 % n
val-andi t r n a b c u l h =
    val-words (ri op.Andi t r (pos (n - 1))) a b c u 0 (omega arith) refl
    ∙ elim h [
      | inl e ↦ subst (λ n. bit_and (wd a 0) ((n - 1) % 256 ^ 4) % 2 ^ 32 ≡ wd a 0 % n) (sym e) (ap (λ x. x % 2 ^ 32) (and_mask (wd a 0) 0) ∙ omega arith)
      | inr g ↦ elim g [
        | inl e ↦ subst (λ n. bit_and (wd a 0) ((n - 1) % 256 ^ 4) % 2 ^ 32 ≡ wd a 0 % n) (sym e) (ap (λ x. x % 2 ^ 32) (and_mask (wd a 0) 1) ∙ omega arith)
        | inr f ↦ elim f [
          | inl e ↦ subst (λ n. bit_and (wd a 0) ((n - 1) % 256 ^ 4) % 2 ^ 32 ≡ wd a 0 % n) (sym e) (ap (λ x. x % 2 ^ 32) (and_mask (wd a 0) 2) ∙ omega arith)
          | inr e ↦ subst (λ n. bit_and (wd a 0) ((n - 1) % 256 ^ 4) % 2 ^ 32 ≡ wd a 0 % n) (sym e) (ap (λ x. x % 2 ^ 32) (and_mask (wd a 0) 3) ∙ omega arith)
        ]
      ]
    ]

-- what is turned, or computed in words, has bytes
turned_bytes : (q : List ℕ) (n : ℕ) → HasBytes q → HasBytes (turned q n)
turned_bytes q n h k lt = rw (slice_sixteen (λ k. slice_index q ((k + n) % 16)) k lt) (h ((k + n) % 16) (omega arith))

pub bytes_turned : (t a : ℕ) (i : ℤ) (x b c u : List ℕ) → HasBytes x → HasBytes (val (ri op.Rotqbyi t a i) x b c u)
unfolding val
bytes_turned t a i x b c u h = turned_bytes x (immediate 4 i % 16) h

lanes_bytes : (f : ℕ → ℕ) → HasBytes (lanes 4 f)
lanes_bytes f k lt = rw (slice_sixteen (λ k. byte_at (4 - 1 - k % 4) (f (k / 4))) k lt) (byte_small (4 - 1 - k % 4) (f (k / 4)))

pub bytes_words : (x : Inst) (a b c t : List ℕ) → shape_of x.op ≡ Words → HasBytes (val x a b c t)
unfolding val
bytes_words x a b c t e k lt = subst (λ (s : Shape). slice_index (value_of s x a b c t) k < 256) (sym e) (lanes_bytes (λ j. word_value x.op (immediate 4 x.imm) (lane_of 4 a j) (lane_of 4 b j) (lane_of 4 c j) (lane_of 4 t j)) k lt)

AllBelow : List ℕ → Type 0
AllBelow [] = Unit {0}
AllBelow (x ∷ xs) = (x < 256) × AllBelow xs

below_at : (xs : List ℕ) → AllBelow xs → (k : ℕ) → get_or xs k 0 < 256
unfolding AllBelow
below_at [] h k = omega arith
below_at (x ∷ xs) h zero = h.0
below_at (x ∷ xs) h (suc k) = below_at xs h.1 k

pub bytes_quad : (a b c d : ℕ) → HasBytes (quad a b c d)
unfolding quad AllBelow
bytes_quad a b c d k lt = below_at (quad_of a b c d)
    (omega arith, (omega arith, (omega arith, (omega arith, (omega arith, (omega arith, (omega arith, (omega arith, (omega arith, (omega arith, (omega arith, (omega arith, (omega arith, (omega arith, (omega arith, (omega arith, tt)))))))))))))))) k

-- words of bytes are below 2 ^ 32
pub word_small : (q : List ℕ) (j : ℕ) → j < 4 → HasBytes q → wd q j < 2 ^ 32
unfolding wd
word_small q j lt h =
    let b0 = h (4 * j) (omega arith) in
    let b1 = h (4 * j + 1) (omega arith) in
    let b2 = h (4 * j + 2) (omega arith) in
    let b3 = h (4 * j + 3) (omega arith) in
    omega arith

-- ---- branches

pub loc-br : (i : ℤ) (pc : ℕ) (x y : List ℕ) → loc (wide op.Br 0 i) pc x y ≡ code_mask (pc + 4 * immediate 4 i)
unfolding loc
loc-br i pc x y = refl

pub loc-brz : (t : ℕ) (i : ℤ) (pc : ℕ) (x y : List ℕ) → loc (wide op.Brz t i) pc x y ≡ code_mask (pc + 4 * immediate 4 i)
unfolding loc
loc-brz t i pc x y = refl

pub loc-brnz : (t : ℕ) (i : ℤ) (pc : ℕ) (x y : List ℕ) → loc (wide op.Brnz t i) pc x y ≡ code_mask (pc + 4 * immediate 4 i)
unfolding loc
loc-brnz t i pc x y = refl

pub jumps-br : (i : ℤ) (q : List ℕ) → jumps (wide op.Br 0 i) q ≡ true
unfolding jumps
jumps-br i q = refl

pub jumps-bi : (a : ℕ) (q : List ℕ) → jumps (rr op.Bi 0 a 0) q ≡ true
unfolding jumps
jumps-bi a q = refl

pub wd-quad_of : (a b c d : ℕ) → a < 2 ^ 32 → wd (quad_of a b c d) 0 ≡ a
unfolding wd
wd-quad_of a b c d h = digits_give a h
