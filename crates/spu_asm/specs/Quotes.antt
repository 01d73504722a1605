-- Quoted text, by SPU Assembly Language: `\n`, `\t`, `\r`, `\b`, `\f`, `\\`, `\"`, and `\` with one to three octal digits, as
-- many as stand there, whose value is taken modulo 256. Nothing else stands behind `\`.
use Rattle.std.specs.Prelude.{ℕ, zero, suc, ◌-◌, ◌%◌, ◌==◌, ◌&&◌, Bool, nat_le, if◌then◌else◌, List, [], ◌∷◌, length, take, drop, slice_index, Option, Some, None, option_map, option_and_then}
use Rattle.std.specs.List.{prefix_len}
use Rattle.std.specs.Str.Parse.{digits_value}

unfoldable pub is_octal : ℕ → Bool
is_octal b = nat_le 48 b && nat_le b 55

-- the byte that one character behind `\` stands for
unfoldable pub letter_of : ℕ → Option ℕ
letter_of c =
    if c == 110 then Some 10
    else (if c == 116 then Some 9
    else (if c == 114 then Some 13
    else (if c == 98 then Some 8
    else (if c == 102 then Some 12
    else (if c == 92 then Some 92
    else (if c == 34 then Some 34
    else None))))))

-- how many octal digits stand in front, three at most
abbrev pub octal_len : List ℕ → ℕ
octal_len bs = prefix_len is_octal (take 3 bs)

-- the byte for which stands what is behind a `\`, and how many bytes that is
unfoldable pub escape : List ℕ → Option (ℕ × ℕ)
escape bs =
    if octal_len bs == 0 then option_map (λ (b : ℕ). (b, 1)) (letter_of (slice_index bs 0))
    else Some (digits_value 8 (take (octal_len bs) bs) % 256, octal_len bs)

-- the byte for which the front stands, and how many bytes behind it belong to it
unfoldable pub front : ℕ → List ℕ → Option (ℕ × ℕ)
front b bs = if b == 92 then escape bs else Some (b, 0)

-- The bytes for which these stand, the first `inside` of which belong to the escape before; nothing where one isn't known.
abbrev pub unescaped : ℕ → List ℕ → Option (List ℕ)
unescaped inside [] = Some ([])
unescaped (suc inside) (b ∷ bs) = unescaped inside bs
unescaped zero (b ∷ bs) = option_and_then (λ (x : ℕ × ℕ). option_map (λ (more : List ℕ). x.0 ∷ more) (unescaped x.1 bs)) (front b bs)

-- the bytes of quoted text, which has its quotes
unfoldable pub text_of : List ℕ → Option (List ℕ)
text_of quoted = unescaped 0 (take (length quoted - 2) (drop 1 quoted))
