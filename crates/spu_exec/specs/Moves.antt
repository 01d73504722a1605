-- Moves: what instructions give that keep bytes of their sources as they are, by SPU ISA 1.2, chapters 3 to 6. They are said
-- once, over bytes of any kind: numbers for the machine, and whatever a byte is that need not be a number yet.
use Rattle.std.specs.Prelude.{ℕ, ◌+◌, ◌-◌, ◌*◌, ◌/◌, ◌%◌, ◌^◌, ◌==◌, nat_lt, if◌then◌else◌, Option, Some, None, List, slice_index, bit_or}
use Rattle.std.specs.Int.{byte_at}
use Rattle.spu_isa.specs.declared.operation.Op.{Op}
use Rattle.spu_isa.specs.declared.operation.Op.TheVariants as op

-- what moves ask of bytes: the byte of a number, the number of a byte that has one, and the or of two bytes that aren't both
-- numbers, where that is a byte
pub record ByteType (A : Type 0) : Type 0 where
  pub constant : ℕ → A
  pub number : A → Option ℕ
  pub joined : A → A → Option A

-- ---- byte k of what each gives; a quad is the function of its bytes

-- shifted by n bytes: rotated to the left, to the left, to the right, where z comes in
abbrev pub turned_byte : {A : Type 0} → (ℕ → A) → ℕ → ℕ → A
turned_byte a n k = a ((k + n) % 16)

abbrev pub left_byte : {A : Type 0} → A → (ℕ → A) → ℕ → ℕ → A
left_byte z a n k = if nat_lt (k + n) 16 then a (k + n) else z

abbrev pub right_byte : {A : Type 0} → A → (ℕ → A) → ℕ → ℕ → A
right_byte z a n k = if nat_lt k n then z else a (k - n)

-- the byte of 32 that a control byte chooses, or the constant that it stands for
abbrev pub chosen_byte : {A : Type 0} → (ℕ → A) → (ℕ → A) → (ℕ → A) → ℕ → A
chosen_byte constant a b control =
    if nat_lt control 128 then (if nat_lt (control % 32) 16 then a (control % 32) else b (control % 32 - 16))
    else (if nat_lt control 192 then constant 0 else (if nat_lt control 224 then constant 255 else constant 128))

-- the byte that a mask byte of no ones, or of ones alone, selects
abbrev pub selected_byte : {A : Type 0} → A → A → ℕ → Option A
selected_byte a b mask = if mask == 0 then Some a else (if mask == 255 then Some b else None)

-- the or of two bytes
abbrev pub or_of : {A : Type 0} → ByteType A → Option ℕ → Option ℕ → A → A → Option A
or_of d (Some v) (Some w) s u = Some (d.constant (bit_or v w))
or_of d _ _ s u = d.joined s u

abbrev pub or_byte : {A : Type 0} → ByteType A → A → A → Option A
or_byte d s u = or_of d (d.number s) (d.number u) s u

-- ---- numbers that say what is moved

abbrev pub word_number : Option ℕ → Option ℕ → Option ℕ → Option ℕ → Option ℕ
word_number (Some a) (Some b) (Some c) (Some d) = Some (a * 256 ^ 3 + b * 256 ^ 2 + c * 256 + d)
word_number _ _ _ _ = None

-- word 0 of a quad, where each byte of it is a number
abbrev pub first_word : {A : Type 0} → ByteType A → (ℕ → A) → Option ℕ
first_word d b = word_number (d.number (b 0)) (d.number (b 1)) (d.number (b 2)) (d.number (b 3))

abbrev pub given : {A : Type 0} → Option ℕ → (ℕ → Option A) → Option A
given None f = None
given (Some n) f = f n

-- the word that an immediate stands for; iohl puts the halfword of it to the old rt
abbrev pub immediate_word : Op → ℕ → ℕ
immediate_word op.Ilhu n = n % 2 ^ 16 * 2 ^ 16
immediate_word op.Iohl n = n % 2 ^ 16
immediate_word _ n = n

-- ---- the moves

-- byte k of what an operation gives, None where it is no move. n is the immediate as a word, i are the four bytes of the
-- word that it stands for, and a b c t are the bytes of ra, rb, rc and the old rt.
abbrev pub moved : {A : Type 0} → ByteType A → Op → ℕ → (ℕ → A) → (ℕ → A) → (ℕ → A) → (ℕ → A) → (ℕ → A) → ℕ → Option A
moved d op.Shufb n i a b c t k = given (d.number (c k)) (λ m. Some (chosen_byte d.constant a b m))
moved d op.Selb n i a b c t k = given (d.number (c k)) (selected_byte (a k) (b k))
moved d op.Rotqby n i a b c t k = given (first_word d b) (λ m. Some (turned_byte a (m % 16) k))
moved d op.Rotqbyi n i a b c t k = Some (turned_byte a (n % 16) k)
moved d op.Rotqbybi n i a b c t k = given (first_word d b) (λ m. Some (turned_byte a (m / 8 % 16) k))
moved d op.Shlqby n i a b c t k = given (first_word d b) (λ m. Some (left_byte (d.constant 0) a (m % 32) k))
moved d op.Shlqbyi n i a b c t k = Some (left_byte (d.constant 0) a (n % 32) k)
moved d op.Shlqbybi n i a b c t k = given (first_word d b) (λ m. Some (left_byte (d.constant 0) a (m / 8 % 32) k))
moved d op.Rotqmby n i a b c t k = given (first_word d b) (λ m. Some (right_byte (d.constant 0) a ((32 - m % 32) % 32) k))
moved d op.Rotqmbyi n i a b c t k = Some (right_byte (d.constant 0) a ((32 - n % 32) % 32) k)
moved d op.Or n i a b c t k = or_byte d (a k) (b k)
moved d op.Ori n i a b c t k = or_byte d (a k) (i (k % 4))
moved d op.Orhi n i a b c t k = or_byte d (a k) (i (2 + k % 2))
moved d op.Orbi n i a b c t k = or_byte d (a k) (i 3)
moved d op.Iohl n i a b c t k = or_byte d (t k) (i (k % 4))
moved d op.Ila n i a b c t k = Some (i (k % 4))
moved d op.Ilhu n i a b c t k = Some (i (k % 4))
moved d _ n i a b c t k = None

-- ---- the machine's moves

-- bytes that are numbers
abbrev pub number_bytes : ByteType ℕ
number_bytes = record { constant = λ v. v; number = Some; joined = λ a b. None }

-- byte j of the word that an immediate stands for
abbrev pub immediate_byte : Op → ℕ → ℕ → ℕ
immediate_byte o n j = byte_at (3 - j) (immediate_word o n)

abbrev pub or_zero : Option ℕ → ℕ
or_zero None = 0
or_zero (Some v) = v

abbrev pub moved_byte : Op → ℕ → List ℕ → List ℕ → List ℕ → List ℕ → ℕ → Option ℕ
moved_byte o n a b c t k = moved number_bytes o n (immediate_byte o n) (slice_index a) (slice_index b) (slice_index c) (slice_index t) k
