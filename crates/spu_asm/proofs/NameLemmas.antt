-- Numbers below 128, as names have them, digit by digit.
use Rattle.std.proofs.Common.{◌≡◌, ℕ, ◌+◌, ◌-◌, ◌*◌, ◌<◌, ◌≤◌, Bool, true, false, cond, List, length, take, get_or, Some, None, refl, ap, ◌∙◌, arith, rules}
use Rattle.std.specs.Prelude.{nat_lt, ◌&&◌, ◌||◌, not, ◌==◌}
use Rattle.std.specs.List.{list_all}
use Rattle.std.specs.Char.{is_ascii_digit, digit_value}
use Rattle.std.specs.Str.Parse.{digits_value}
use Rattle.std.proofs.lemmas.Bool.Decides.{nat_tests}
use Rattle.std.proofs.lemmas.List.{take_all}
use Rattle.std.proofs.lemmas.Str.{digit_value_digit}
use Rattle.std.proofs.lemmas.Int.Digits.{digits_value_more}
use Rattle.std.proofs.lemmas.Str.Parse.{IsNumeralModel, numerals_by_value, IsDigitsTest, digit_at, digits_value-take-le}
use Rattle.spu_asm.specs.Names.{is_decimal, number_below_128}

pub digit_is : (c d : ℕ) → 48 ≤ c → c ≤ 57 → d ≡ c - 48 → d ≡ digit_value c
digit_is c d low high e = let value = digit_value_digit c (low, high) in omega (arith, e, value)

abbrev IsDigits : List ℕ → Type 0
IsDigits ds = list_all is_ascii_digit ds ≡ true

tells_digits : IsDigitsTest IsDigits
tells_digits = search rules

own : IsNumeralModel IsDigits (digits_value 10)
own = numerals_by_value IsDigits tells_digits

are_digits : (a b c : Bool) → (not a && b && c) ≡ true → b ≡ true
are_digits true b c e = absurd cc
are_digits false true c e = refl
are_digits false false c e = absurd cc

digit_there : (ds : List ℕ) (i : ℕ) → is_decimal ds ≡ true → i < length ds → (48 ≤ get_or ds i 0) × (get_or ds i 0 ≤ 57)
digit_there ds i told lt = digit_at ds i (own.to ds (are_digits (length ds == 0) (list_all is_ascii_digit ds) (not (get_or ds 0 0 == 48) || length ds == 1) told)) lt

-- one digit more
pub next_digit : (ds : List ℕ) (i n d : ℕ) → is_decimal ds ≡ true → i < length ds → n ≡ digits_value 10 (take i ds) → (48 ≤ get_or ds i 0 → get_or ds i 0 ≤ 57 → d ≡ digit_value (get_or ds i 0)) → n * 10 + d ≡ digits_value 10 (take (i + 1) ds)
next_digit ds i n d told lt e h =
    let p = digit_there ds i told lt in
    let value : d ≡ digit_value (get_or ds i 0) = h p.0 p.1 in
    omega (arith, e, value, digits_value_more 10 ds i lt)

none_of : (b : Bool) (v : ℕ) → 128 ≤ v → cond (b && nat_lt v 128) (Some v) None ≡ None
none_of b v h = grind (arith, nat_tests)

-- no number below 128 begins so
pub too_large : (ds : List ℕ) (k n : ℕ) → n ≡ digits_value 10 (take k ds) → 128 ≤ n → number_below_128 ds ≡ None
unfolding number_below_128
too_large ds k n e h = none_of (is_decimal ds) (digits_value 10 ds) (omega (arith, e, digits_value-take-le 10 ds k (omega arith)))

some_of : (v n : ℕ) → n ≡ v → n < 128 → cond (nat_lt v 128) (Some v) None ≡ Some n
some_of v n e h = grind (arith, nat_tests)

pub named : (ds : List ℕ) (k n : ℕ) → is_decimal ds ≡ true → length ds ≤ k → n ≡ digits_value 10 (take k ds) → n < 128 → number_below_128 ds ≡ Some n
unfolding number_below_128
named ds k n told all e h = rw told (some_of (digits_value 10 ds) n (e ∙ ap (digits_value 10) (take_all k ds all)) h)

pub no_digits : (ds : List ℕ) → is_decimal ds ≡ false → number_below_128 ds ≡ None
unfolding number_below_128
no_digits ds told = rw told refl
