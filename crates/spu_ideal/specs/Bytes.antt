-- Symbolic bytes and quads of them: a byte is a number, a part of a label, or Unknown. A label stands for a place of code that has no
-- address yet; a link is what a call leaves in the link register.
use Rattle.std.specs.Prelude.{ℕ, zero, suc, ◌+◌, ◌*◌, ◌==◌, ◌&&◌, if◌then◌else◌, Bool, true, false, List, map, Option, Some, None, slice_index_or}
use Rattle.std.specs.List.{range_with_len}
use Rattle.spu_word.specs.declared.limits.TheConstants.{QUAD_SIZE, WORD_SIZE}
use Rattle.spu_exec.specs.Moves.{ByteType, word_number}
use Rattle.spu_lift.specs.declared.program.Label.{Label}
use Rattle.spu_lift.specs.declared.program.Label.TheVariants.{Fun, Place, Link}
use Rattle.spu_lift.specs.declared.symbolic.SymByte.{SymByte}
use Rattle.spu_lift.specs.declared.symbolic.SymByte.TheVariants.{Num, Part, Unknown}

-- byte k of a quad
abbrev pub sym_at : List SymByte → ℕ → SymByte
sym_at quad k = slice_index_or quad k Unknown

abbrev pub numbers : List ℕ → List SymByte
numbers bytes = map Num bytes

-- the 16 bytes that a function of their places gives
abbrev pub sixteen : (ℕ → SymByte) → List SymByte
sixteen f = map f (range_with_len 0 QUAD_SIZE)

abbrev pub link_of : ℕ → ℕ → List SymByte
link_of f i = sixteen (Part (Link f i))

abbrev pub unknown_quad : List SymByte
unknown_quad = sixteen (λ k. Unknown)

abbrev pub is_number : SymByte → Bool
is_number (Num v) = true
is_number (Part l k) = false
is_number Unknown = false

-- the number, 0 where there is none
abbrev pub number_of : SymByte → ℕ
number_of (Num v) = v
number_of (Part l k) = 0
number_of Unknown = 0

-- the number that a byte is
abbrev pub number_in : SymByte → Option ℕ
number_in (Num v) = Some v
number_in (Part l k) = None
number_in Unknown = None

-- word k of a quad, where its four bytes are numbers
abbrev pub known_word : List SymByte → ℕ → Option ℕ
known_word quad k =
    word_number (number_in (sym_at quad (WORD_SIZE * k))) (number_in (sym_at quad (WORD_SIZE * k + 1))) (number_in (sym_at quad (WORD_SIZE * k + 2))) (number_in (sym_at quad (WORD_SIZE * k + 3)))

-- how many bytes a label has
abbrev pub size_of : Label → ℕ
size_of (Fun f) = WORD_SIZE
size_of (Place f i) = WORD_SIZE
size_of (Link f i) = QUAD_SIZE

-- whether two labels, and two parts of labels, are one
abbrev pub same_label : Label → Label → Bool
same_label (Fun f) (Fun g) = f == g
same_label (Place f i) (Place g j) = (f == g) && (i == j)
same_label (Link f i) (Link g j) = (f == g) && (i == j)
same_label _ _ = false

-- whether a byte is this part of a label; whether the first n bytes of a quad are those of a label; whether all are a link
abbrev pub is_part : Label → ℕ → SymByte → Bool
is_part l k (Part m j) = same_label l m && (k == j)
is_part l k (Num v) = false
is_part l k Unknown = false

unfoldable pub are_parts : Label → List SymByte → ℕ → Bool
are_parts l quad zero = true
are_parts l quad (suc j) = is_part l j (sym_at quad j) && are_parts l quad j

abbrev pub is_link : ℕ → ℕ → List SymByte → Bool
is_link f i quad = are_parts (Link f i) quad QUAD_SIZE

-- ---- symbolic bytes as bytes that are moved

abbrev pub is_zero : SymByte → Bool
is_zero (Num v) = v == 0
is_zero (Part l k) = false
is_zero Unknown = false

abbrev pub same_part : SymByte → SymByte → Bool
same_part (Part l k) (Part m j) = same_label l m && (k == j)
same_part _ _ = false

-- the or of two bytes is one of them where the other is the number 0, or where they are one part of a label
abbrev pub joined : SymByte → SymByte → Option SymByte
joined s u = if is_zero s then Some u else (if is_zero u then Some s else (if same_part s u then Some s else None))

abbrev pub sym_bytes : ByteType SymByte
sym_bytes = record { constant = Num; number = number_in; joined = joined }
