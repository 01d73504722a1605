-- A number is read digit by digit.
use Rattle.std.proofs.Common.{◌≡◌, ℕ, ◌+◌, ◌*◌, ◌^◌, ◌<◌, ◌≤◌, Bool, cond, List, [], ◌∷◌, length, drop, get_or, Option, Some, None, arith, add-one, drop-cons}
use Rattle.std.specs.Prelude.{nat_lt, ◌&&◌}
use Rattle.std.specs.List.{list_all}
use Rattle.std.specs.Str.Parse.{digits_value_after}
use Rattle.std.specs.Char.{digit_value}
use Rattle.std.proofs.Math.Nat.{le-mul_of_pos_right}
use Rattle.std.proofs.lemmas.Bool.Decides.{nat_tests}
use Rattle.std.proofs.lemmas.List.{drop_all}
use Rattle.spu_text.specs.Texts.{number_in, with_digit}

-- the number that the digits write behind n
abbrev pub number_after : ℕ → ℕ → List ℕ → Option ℕ
number_after radix n [] = Some n
number_after radix n (c ∷ cs) = cond (nat_lt (digit_value c) radix && nat_lt (n * radix + digit_value c) (2 ^ 128)) (number_after radix (n * radix + digit_value c) cs) None

abbrev all_digits : ℕ → List ℕ → Bool
all_digits radix ds = list_all (λ c. nat_lt (digit_value c) radix) ds

grows : (radix n : ℕ) (ds : List ℕ) → 0 < radix → n ≤ digits_value_after radix n ds
grows radix n [] h = omega arith
grows radix n (c ∷ cs) h =
    let more : n ≤ n * radix = le-mul_of_pos_right n h in
    omega (arith, grows radix (n * radix + digit_value c) cs h)

none_of : (b : Bool) (n : ℕ) → 2 ^ 128 ≤ n → cond (b && nat_lt n (2 ^ 128)) (Some n) None ≡ None
none_of b n h = grind (arith, nat_tests)

step_is : (d r m : ℕ) (rest : Option ℕ) (all : Bool) (v : ℕ) → m ≤ v → (m < 2 ^ 128 → rest ≡ cond (all && nat_lt v (2 ^ 128)) (Some v) None) →
    cond (nat_lt d r && nat_lt m (2 ^ 128)) rest None ≡ cond (nat_lt d r && all && nat_lt v (2 ^ 128)) (Some v) None
step_is d r m rest all v le h = grind (arith, nat_tests)

after_is : (radix n : ℕ) (ds : List ℕ) → 0 < radix → n < 2 ^ 128 → number_after radix n ds ≡ cond (all_digits radix ds && nat_lt (digits_value_after radix n ds) (2 ^ 128)) (Some (digits_value_after radix n ds)) None
after_is radix n [] h lt = grind (arith, nat_tests)
after_is radix n (c ∷ cs) h lt =
    let m = n * radix + digit_value c in
    step_is (digit_value c) radix m (number_after radix m cs) (all_digits radix cs) (digits_value_after radix m cs) (grows radix m cs h) (λ small. after_is radix m cs h small)

pub number_is : (radix : ℕ) (ds : List ℕ) → 0 < radix → 0 < length ds → number_in radix ds ≡ number_after radix 0 ds
unfolding number_in
number_is radix ds h some = rw (after_is radix 0 ds h (omega arith)) (grind (arith, nat_tests))

pub number_none : (radix : ℕ) (ds : List ℕ) → length ds ≡ 0 → number_in radix ds ≡ None
unfolding number_in
number_none radix ds none = grind (arith, nat_tests)

-- one digit more
pub number_step : (radix n m : ℕ) (ds : List ℕ) (i : ℕ) (v : Option ℕ) → number_after radix n (drop i ds) ≡ v → i < length ds → with_digit radix n (get_or ds i 0) ≡ Some m → number_after radix m (drop (i + 1) ds) ≡ v
number_step radix n m ds i v e lt d = let all = rw (drop-cons ds i 0) at e in rw add-one (grind (arith, nat_tests, d, all))

-- a digit behind which there is no number
pub number_stops : (radix n : ℕ) (ds : List ℕ) (i : ℕ) (v : Option ℕ) → number_after radix n (drop i ds) ≡ v → i < length ds → with_digit radix n (get_or ds i 0) ≡ None → v ≡ None
number_stops radix n ds i v e lt d = let all = rw (drop-cons ds i 0) at e in grind (arith, nat_tests, d, all)

pub number_ends : (radix n : ℕ) (ds : List ℕ) (i : ℕ) (v : Option ℕ) → number_after radix n (drop i ds) ≡ v → length ds ≤ i → Some n ≡ v
number_ends radix n ds i v e le = let none : drop i ds ≡ [] = drop_all i ds le in rw none at e
