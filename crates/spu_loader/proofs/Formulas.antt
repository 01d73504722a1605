-- What the loader's own instructions compute together: a link of parts, a region's number by itself, the smaller of two sizes.
use Rattle.std.proofs.Common.{◌≡◌, ℕ, ◌+◌, ◌-◌, ◌*◌, ◌/◌, ◌%◌, ◌^◌, ◌<◌, List, get_or, ap, ap₂, ◌∙◌, arith, Bool, true, false, negsuc, bit_or, bit_and}
use Rattle.std.specs.Prelude.{nat_lt, if◌then◌else◌, slice_index}
use Rattle.std.specs.Int.{byte_at}
use Rattle.std.proofs.lemmas.Nat.{or_comm, and_comm, and_mask}
use Rattle.spu_word.specs.Bytes.{word_of}
use Rattle.spu_isa.specs.declared.operation.Op.TheVariants as op
use Rattle.spu_exec.specs.Lanes.{lane_of, ones_where}
use Rattle.spu_exec.specs.Values.{HasBytes}
use Rattle.spu_exec.proofs.Joins.{lane_of_word}
use Rattle.spu_loader.specs.Forms.{rr, ri, wide, rrr}
use Rattle.spu_loader.proofs.Opaque.{wd, quad, val}

or_nothing : (x : ℕ) → bit_or x 0 ≡ x
or_nothing x = or_comm x 0

and_nothing : (x : ℕ) → bit_and x 0 ≡ 0
and_nothing x = and_comm x 0

and_all : (x : ℕ) → x < 256 → bit_and x 255 ≡ x
and_all x h = and_mask x 8 ∙ omega arith

mod_twice : (x : ℕ) → x % 256 % 256 ≡ x % 256
mod_twice x = omega arith

-- a direct link, the region's number and the place of the return entry, in one link
pub relinked_by : (a m r : ℕ) (p q s b c u b' c' u' w w' v v' : List ℕ) → p ≡ quad a 0 0 0 → q ≡ quad m 0 0 0 → s ≡ quad r 0 0 0
    → val (rr op.Or 0 0 76) (val (rr op.Or 0 0 77) (val (ri op.Rotqmbyi 0 0 (negsuc 7)) p b c u) (val (ri op.Rotqmbyi 77 77 (negsuc 3)) q b' c' u') w w') s v v' ≡ quad r m a 0
unfolding val quad
relinked_by a m r p q s b c u b' c' u' w w' v v' e f g = simp (e, f, g, or_nothing, mod_twice)

-- the region's number and nothing else
pub masked : (t r : ℕ) (q b c u b' c' u' : List ℕ) → HasBytes q → val (rr op.And t r 75) q (val (wide op.Fsmbi 75 (negsuc 4095)) b c u b') c' u' ≡ quad (wd q 0) 0 0 0
unfolding val quad wd
masked t r q b c u b' c' u' h =
    let b0 = h 0 (omega arith) in
    let b1 = h 1 (omega arith) in
    let b2 = h 2 (omega arith) in
    let b3 = h 3 (omega arith) in
    let e0 : bit_and (get_or q 0 0) 255 % 256 ≡ word_of q 0 / 256 ^ 3 % 256 = ap (λ x. x % 256) (and_all (get_or q 0 0) b0) ∙ omega arith in
    let e1 : bit_and (get_or q 1 0) 255 % 256 ≡ word_of q 0 / 256 ^ 2 % 256 = ap (λ x. x % 256) (and_all (get_or q 1 0) b1) ∙ omega arith in
    let e2 : bit_and (get_or q 2 0) 255 % 256 ≡ word_of q 0 / 256 % 256 = ap (λ x. x % 256) (and_all (get_or q 2 0) b2) ∙ omega arith in
    let e3 : bit_and (get_or q 3 0) 255 % 256 ≡ word_of q 0 % 256 = ap (λ x. x % 256) (and_all (get_or q 3 0) b3) ∙ omega arith in
    simp (and_nothing, e0, e1, e2, e3)

-- the smaller of a size, word 1 of a quad, and the step
select : (test : Bool) (a0 a1 a2 a3 b0 b1 b2 b3 : ℕ) → a0 < 256 → a1 < 256 → a2 < 256 → a3 < 256 → b0 < 256 → b1 < 256 → b2 < 256 → b3 < 256
    → (let m : ℕ = if test then 255 else 0 in
    bit_or (bit_and m b0) (bit_and (255 - m) a0) % 256 * 256 ^ 3 + bit_or (bit_and m b1) (bit_and (255 - m) a1) % 256 * 256 ^ 2 + bit_or (bit_and m b2) (bit_and (255 - m) a2) % 256 * 256 + bit_or (bit_and m b3) (bit_and (255 - m) a3) % 256)
    ≡ (if test then b0 * 256 ^ 3 + b1 * 256 ^ 2 + b2 * 256 + b3 else a0 * 256 ^ 3 + a1 * 256 ^ 2 + a2 * 256 + a3)
select true a0 a1 a2 a3 b0 b1 b2 b3 h0 h1 h2 h3 g0 g1 g2 g3 =
    let e0 : bit_or (bit_and 255 b0) (bit_and 0 a0) % 256 ≡ b0 = ap (λ x. x % 256) (ap (λ x. bit_or x 0) (and_comm 255 b0 ∙ and_all b0 g0) ∙ or_nothing b0) ∙ omega arith in
    let e1 : bit_or (bit_and 255 b1) (bit_and 0 a1) % 256 ≡ b1 = ap (λ x. x % 256) (ap (λ x. bit_or x 0) (and_comm 255 b1 ∙ and_all b1 g1) ∙ or_nothing b1) ∙ omega arith in
    let e2 : bit_or (bit_and 255 b2) (bit_and 0 a2) % 256 ≡ b2 = ap (λ x. x % 256) (ap (λ x. bit_or x 0) (and_comm 255 b2 ∙ and_all b2 g2) ∙ or_nothing b2) ∙ omega arith in
    let e3 : bit_or (bit_and 255 b3) (bit_and 0 a3) % 256 ≡ b3 = ap (λ x. x % 256) (ap (λ x. bit_or x 0) (and_comm 255 b3 ∙ and_all b3 g3) ∙ or_nothing b3) ∙ omega arith in
    omega (arith, e0, e1, e2, e3)
select false a0 a1 a2 a3 b0 b1 b2 b3 h0 h1 h2 h3 g0 g1 g2 g3 =
    let e0 : bit_or (bit_and 0 b0) (bit_and 255 a0) % 256 ≡ a0 = ap (λ x. x % 256) (and_comm 255 a0 ∙ and_all a0 h0) ∙ omega arith in
    let e1 : bit_or (bit_and 0 b1) (bit_and 255 a1) % 256 ≡ a1 = ap (λ x. x % 256) (and_comm 255 a1 ∙ and_all a1 h1) ∙ omega arith in
    let e2 : bit_or (bit_and 0 b2) (bit_and 255 a2) % 256 ≡ a2 = ap (λ x. x % 256) (and_comm 255 a2 ∙ and_all a2 h2) ∙ omega arith in
    let e3 : bit_or (bit_and 0 b3) (bit_and 255 a3) % 256 ≡ a3 = ap (λ x. x % 256) (and_comm 255 a3 ∙ and_all a3 h3) ∙ omega arith in
    omega (arith, e0, e1, e2, e3)

select_by : (test : Bool) (a0 a1 a2 a3 b0 b1 b2 b3 : ℕ) → a0 < 256 → a1 < 256 → a2 < 256 → a3 < 256 → b0 < 256 → b1 < 256 → b2 < 256 → b3 < 256
    → bit_or (bit_and (byte_at 3 (ones_where 4 test)) b0) (bit_and (255 - byte_at 3 (ones_where 4 test)) a0) % 256 * 256 ^ 3
    + bit_or (bit_and (byte_at 2 (ones_where 4 test)) b1) (bit_and (255 - byte_at 2 (ones_where 4 test)) a1) % 256 * 256 ^ 2
    + bit_or (bit_and (byte_at 1 (ones_where 4 test)) b2) (bit_and (255 - byte_at 1 (ones_where 4 test)) a2) % 256 * 256
    + bit_or (bit_and (byte_at 0 (ones_where 4 test)) b3) (bit_and (255 - byte_at 0 (ones_where 4 test)) a3) % 256
    ≡ (if test then b0 * 256 ^ 3 + b1 * 256 ^ 2 + b2 * 256 + b3 else a0 * 256 ^ 3 + a1 * 256 ^ 2 + a2 * 256 + a3)
select_by true a0 a1 a2 a3 b0 b1 b2 b3 h0 h1 h2 h3 g0 g1 g2 g3 = select true a0 a1 a2 a3 b0 b1 b2 b3 h0 h1 h2 h3 g0 g1 g2 g3
select_by false a0 a1 a2 a3 b0 b1 b2 b3 h0 h1 h2 h3 g0 g1 g2 g3 = select false a0 a1 a2 a3 b0 b1 b2 b3 h0 h1 h2 h3 g0 g1 g2 g3

pub val-select : (a b c u d v : List ℕ) → HasBytes a → HasBytes b
    → wd (val (rrr op.Selb 76 76 75 78) a b (val (rr op.Clgt 78 76 75) a b c u) d) 0 ≡ (if nat_lt (wd b 0) (wd a 0) then wd b 0 else wd a 0)
unfolding val wd
val-select a b c u d v h g =
    select_by (nat_lt (lane_of 4 b 0) (lane_of 4 a 0)) (slice_index a 0) (slice_index a 1) (slice_index a 2) (slice_index a 3) (slice_index b 0) (slice_index b 1) (slice_index b 2) (slice_index b 3)
    (h 0 (omega arith)) (h 1 (omega arith)) (h 2 (omega arith)) (h 3 (omega arith)) (g 0 (omega arith)) (g 1 (omega arith)) (g 2 (omega arith)) (g 3 (omega arith))
    ∙ ap₂ (λ x y. if nat_lt x y then word_of b 0 else word_of a 0) (lane_of_word b 0) (lane_of_word a 0)
