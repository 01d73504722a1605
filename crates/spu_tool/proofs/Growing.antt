-- A number is read digit by digit.
use Rattle.std.proofs.Common.{◌≡◌, ℕ, ◌+◌, ◌*◌, ◌<◌, ◌≤◌, Bool, cond, List, [], ◌∷◌, length, drop, get_or, Option, Some, None, arith, add-one, drop-cons}
use Rattle.std.specs.Prelude.{nat_lt, nat_le, ◌&&◌}
use Rattle.std.specs.List.{list_all}
use Rattle.std.specs.Str.Parse.{digits_value_after}
use Rattle.std.specs.Char.{digit_value}
use Rattle.std.proofs.Math.Nat.{le-mul_of_pos_right}
use Rattle.std.proofs.lemmas.Bool.Decides.{nat_tests}
use Rattle.spu_tool.specs.Numbers.{digits_number, bounded, with_digit}

-- the number that the digits write behind n, where it is at most the bound
abbrev pub number_after : ℕ → ℕ → ℕ → List ℕ → Option ℕ
number_after radix most n [] = Some n
number_after radix most n (c ∷ cs) = cond (nat_lt (digit_value c) radix && nat_le (n * radix + digit_value c) most) (number_after radix most (n * radix + digit_value c) cs) None

abbrev all_digits : ℕ → List ℕ → Bool
all_digits radix ds = list_all (λ c. nat_lt (digit_value c) radix) ds

grows : (radix n : ℕ) (ds : List ℕ) → 0 < radix → n ≤ digits_value_after radix n ds
grows radix n [] h = omega arith
grows radix n (c ∷ cs) h =
    let more : n ≤ n * radix = le-mul_of_pos_right n h in
    omega (arith, grows radix (n * radix + digit_value c) cs h)

step_is : (d r m most : ℕ) (rest : Option ℕ) (all : Bool) (v : ℕ) → m ≤ v → (m ≤ most → rest ≡ cond (all && nat_le v most) (Some v) None) →
    cond (nat_lt d r && nat_le m most) rest None ≡ cond (nat_lt d r && all && nat_le v most) (Some v) None
step_is d r m most rest all v le h = grind (arith, nat_tests)

after_is : (radix most n : ℕ) (ds : List ℕ) → 0 < radix → n ≤ most → number_after radix most n ds ≡ cond (all_digits radix ds && nat_le (digits_value_after radix n ds) most) (Some (digits_value_after radix n ds)) None
after_is radix most n [] h le = grind (arith, nat_tests)
after_is radix most n (c ∷ cs) h le =
    let m = n * radix + digit_value c in
    step_is (digit_value c) radix m most (number_after radix most m cs) (all_digits radix cs) (digits_value_after radix m cs) (grows radix m cs h) (λ small. after_is radix most m cs h small)

bounded_if : (b : Bool) (n most : ℕ) → bounded most (cond b (Some n) None) ≡ cond (b && nat_le n most) (Some n) None
bounded_if b n most = grind (arith, nat_tests)

pub number_is : (radix most : ℕ) (ds : List ℕ) → 0 < radix → 0 < length ds → number_after radix most 0 ds ≡ bounded most (digits_number radix ds)
number_is radix most ds h some = rw (after_is radix most 0 ds h (omega arith), bounded_if) (grind (arith, nat_tests))

pub number_none : (radix most : ℕ) (ds : List ℕ) → length ds ≡ 0 → bounded most (digits_number radix ds) ≡ None
number_none radix most ds none = grind (arith, nat_tests)

-- one digit more
pub number_step : (radix most n m : ℕ) (ds : List ℕ) (i : ℕ) (v : Option ℕ) → number_after radix most n (drop i ds) ≡ v → i < length ds → with_digit radix most n (get_or ds i 0) ≡ Some m → number_after radix most m (drop (i + 1) ds) ≡ v
number_step radix most n m ds i v e lt d = let all = rw (drop-cons ds i 0) at e in rw add-one (grind (arith, nat_tests, d, all))

-- a digit behind which there is no number
pub number_stops : (radix most n : ℕ) (ds : List ℕ) (i : ℕ) (v : Option ℕ) → number_after radix most n (drop i ds) ≡ v → i < length ds → with_digit radix most n (get_or ds i 0) ≡ None → v ≡ None
number_stops radix most n ds i v e lt d = let all = rw (drop-cons ds i 0) at e in grind (arith, nat_tests, d, all)
