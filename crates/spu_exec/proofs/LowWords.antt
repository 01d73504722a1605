-- The quadword of an area has the low word of its length.
use Rattle.std.proofs.Common.{◌≡◌, ℕ, ◌/◌, ◌%◌, ◌^◌, List, ◌++◌, ap, arith}
use Rattle.spu_word.specs.Bytes.{quad_of, be_digits}

-- the digits of a number are those of its low word
pub low_word : (a b n : ℕ) → quad_of a b (n % 2 ^ 32) 0 ≡ quad_of a b n 0
low_word a b n = ap (λ (ds : List ℕ). be_digits a ++ (be_digits b ++ (ds ++ be_digits 0))) (four n)
  where
    four : (n : ℕ) → be_digits (n % 2 ^ 32) ≡ be_digits n
    four n =
        let p : n % 2 ^ 32 / 256 ^ 3 % 256 ≡ n / 256 ^ 3 % 256 = omega arith in
        let q : n % 2 ^ 32 / 256 ^ 2 % 256 ≡ n / 256 ^ 2 % 256 = omega arith in
        let r : n % 2 ^ 32 / 256 % 256 ≡ n / 256 % 256 = omega arith in
        let t : n % 2 ^ 32 % 256 ≡ n % 256 = omega arith in
        cc
