-- What holds of each byte of the sources, of each constant and of what is joined, holds of each byte that is moved.
use Rattle.std.proofs.Common.{◌≡◌, ℕ, ◌+◌, ◌-◌, ◌%◌, ◌/◌, ◌<◌, arith, Option, Some, None, subst}
use Rattle.std.specs.Prelude.{◌==◌, nat_lt, if◌then◌else◌, bit_or}
use Rattle.std.proofs.lemmas.Bool.{cond_both}
use Rattle.spu_isa.specs.declared.operation.Op.{Op}
use Rattle.spu_isa.specs.declared.operation.Op.TheVariants as op
use Rattle.spu_exec.specs.Moves.{ByteType, left_byte, right_byte, chosen_byte, selected_byte, or_of, or_byte, given, moved}

module _ {A : Type 0} (d : ByteType A) (P : A → Type 0) (constants : (n : ℕ) → P (d.constant n)) (joins : (x y z : A) → P x → P y → d.joined x y ≡ Some z → P z) where
  same : (x z : A) → P x → Some x ≡ Some z → P z
  same x z h e = let is : x ≡ z = cc in subst P is h

  given_keeps : (o : Option ℕ) (f : ℕ → Option A) (z : A) → ((m : ℕ) → f m ≡ Some z → P z) → given o f ≡ Some z → P z
  given_keeps None f z h e = absurd (cc)
  given_keeps (Some m) f z h e = h m e

  left_keeps : (a : ℕ → A) (n k : ℕ) → ((j : ℕ) → P (a j)) → P (left_byte (d.constant 0) a n k)
  left_keeps a n k h = cond_both (nat_lt (k + n) 16) (a (k + n)) (d.constant 0) P (λ e. h (k + n)) (λ e. constants 0)

  right_keeps : (a : ℕ → A) (n k : ℕ) → ((j : ℕ) → P (a j)) → P (right_byte (d.constant 0) a n k)
  right_keeps a n k h = cond_both (nat_lt k n) (d.constant 0) (a (k - n)) P (λ e. constants 0) (λ e. h (k - n))

  chosen_keeps : (a b : ℕ → A) (m : ℕ) → ((j : ℕ) → P (a j)) → ((j : ℕ) → P (b j)) → P (chosen_byte d.constant a b m)
  chosen_keeps a b m ha hb =
      cond_both (nat_lt m 128) (if nat_lt (m % 32) 16 then a (m % 32) else b (m % 32 - 16)) (if nat_lt m 192 then d.constant 0 else (if nat_lt m 224 then d.constant 255 else d.constant 128)) P
      (λ e. cond_both (nat_lt (m % 32) 16) (a (m % 32)) (b (m % 32 - 16)) P (λ q. ha (m % 32)) (λ q. hb (m % 32 - 16)))
      (λ e. cond_both (nat_lt m 192) (d.constant 0) (if nat_lt m 224 then d.constant 255 else d.constant 128) P (λ q. constants 0)
      (λ q. cond_both (nat_lt m 224) (d.constant 255) (d.constant 128) P (λ r. constants 255) (λ r. constants 128)))

  selected_keeps : (x y z : A) (m : ℕ) → P x → P y → selected_byte x y m ≡ Some z → P z
  selected_keeps x y z m hx hy =
      cond_both (m == 0) (Some x) (if m == 255 then Some y else None) (λ v. v ≡ Some z → P z) (λ t e. same x z hx e)
      (λ t. cond_both (m == 255) (Some y) None (λ v. v ≡ Some z → P z) (λ q e. same y z hy e) (λ q e. absurd (cc)))

  or_keeps : (x y z : A) → P x → P y → or_byte d x y ≡ Some z → P z
  or_keeps x y z hx hy = by_numbers (d.number x) (d.number y)
    where
      by_numbers : (m n : Option ℕ) → or_of d m n x y ≡ Some z → P z
      by_numbers (Some v) (Some w) e = same _ z (constants (bit_or v w)) e
      by_numbers (Some v) None e = joins x y z hx hy e
      by_numbers None (Some w) e = joins x y z hx hy e
      by_numbers None None e = joins x y z hx hy e

  pub moved_keeps : (o : Op) (n : ℕ) (i a b c t : ℕ → A) → ((j : ℕ) → j < 4 → P (i j)) → ((j : ℕ) → P (a j)) → ((j : ℕ) → P (b j)) → ((j : ℕ) → P (t j)) → (k : ℕ) (z : A) → moved d o n i a b c t k ≡ Some z → P z
  moved_keeps op.Shufb n i a b c t hi ha hb ht k z e = given_keeps _ _ z (λ m q. same _ z (chosen_keeps a b m ha hb) q) e
  moved_keeps op.Selb n i a b c t hi ha hb ht k z e = given_keeps (d.number (c k)) (selected_byte (a k) (b k)) z (λ m q. selected_keeps (a k) (b k) z m (ha k) (hb k) q) e
  moved_keeps op.Rotqby n i a b c t hi ha hb ht k z e = given_keeps _ _ z (λ m q. same _ z (ha ((k + m % 16) % 16)) q) e
  moved_keeps op.Rotqbyi n i a b c t hi ha hb ht k z e = same _ z (ha ((k + n % 16) % 16)) e
  moved_keeps op.Rotqbybi n i a b c t hi ha hb ht k z e = given_keeps _ _ z (λ m q. same _ z (ha ((k + m / 8 % 16) % 16)) q) e
  moved_keeps op.Shlqby n i a b c t hi ha hb ht k z e = given_keeps _ _ z (λ m q. same _ z (left_keeps a (m % 32) k ha) q) e
  moved_keeps op.Shlqbyi n i a b c t hi ha hb ht k z e = same _ z (left_keeps a (n % 32) k ha) e
  moved_keeps op.Shlqbybi n i a b c t hi ha hb ht k z e = given_keeps _ _ z (λ m q. same _ z (left_keeps a (m / 8 % 32) k ha) q) e
  moved_keeps op.Rotqmby n i a b c t hi ha hb ht k z e = given_keeps _ _ z (λ m q. same _ z (right_keeps a ((32 - m % 32) % 32) k ha) q) e
  moved_keeps op.Rotqmbyi n i a b c t hi ha hb ht k z e = same _ z (right_keeps a ((32 - n % 32) % 32) k ha) e
  moved_keeps op.Or n i a b c t hi ha hb ht k z e = or_keeps (a k) (b k) z (ha k) (hb k) e
  moved_keeps op.Ori n i a b c t hi ha hb ht k z e = or_keeps (a k) (i (k % 4)) z (ha k) (hi (k % 4) (omega arith)) e
  moved_keeps op.Orhi n i a b c t hi ha hb ht k z e = or_keeps (a k) (i (2 + k % 2)) z (ha k) (hi (2 + k % 2) (omega arith)) e
  moved_keeps op.Orbi n i a b c t hi ha hb ht k z e = or_keeps (a k) (i 3) z (ha k) (hi 3 (omega arith)) e
  moved_keeps op.Iohl n i a b c t hi ha hb ht k z e = or_keeps (t k) (i (k % 4)) z (ht k) (hi (k % 4) (omega arith)) e
  moved_keeps op.Ila n i a b c t hi ha hb ht k z e = same _ z (hi (k % 4) (omega arith)) e
  moved_keeps op.Ilhu n i a b c t hi ha hb ht k z e = same _ z (hi (k % 4) (omega arith)) e
  moved_keeps _ n i a b c t hi ha hb ht k z e = absurd (cc)
