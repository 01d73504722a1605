-- Words that name registers, channels and symbols, by SPU Assembly Language. A word begins with no digit.
use Rattle.std.specs.Prelude.{ℕ, ◌-◌, ◌==◌, ◌&&◌, ◌||◌, Bool, not, nat_lt, if◌then◌else◌, List, length, take, drop, slice_index, Option, Some, None, is_none, codes}
use Rattle.std.specs.List.{list_all}
use Rattle.std.specs.Str.{bytes_eq}
use Rattle.std.specs.Str.Parse.{digits_value}
use Rattle.std.specs.Char.{is_ascii_digit}

abbrev pub Name : Type 0
Name = List ℕ

-- decimal digits without a leading zero
abbrev pub is_decimal : List ℕ → Bool
is_decimal ds = not (length ds == 0) && list_all is_ascii_digit ds && (not (slice_index ds 0 == 48) || length ds == 1)

unfoldable pub number_below_128 : List ℕ → Option ℕ
number_below_128 ds = if is_decimal ds && nat_lt (digits_value 10 ds) 128 then Some (digits_value 10 ds) else None

-- `$0` to `$127`, `$lr` and `$LR`, `$sp` and `$SP`
unfoldable pub register_of : Name → Option ℕ
register_of w =
    if bytes_eq w (codes "$lr") || bytes_eq w (codes "$LR") then Some 0
    else (if bytes_eq w (codes "$sp") || bytes_eq w (codes "$SP") then Some 1
    else (if slice_index w 0 == 36 then number_below_128 (drop 1 w) else None))

-- `$ch0` to `$ch127`
unfoldable pub channel_of : Name → Option ℕ
channel_of w = if bytes_eq (take 3 w) (codes "$ch") then number_below_128 (drop 3 w) else None

unfoldable pub is_symbol : Name → Bool
is_symbol w = not (bytes_eq w (codes ".")) && is_none (register_of w)

-- the symbol in front of a suffix
unfoldable pub without_suffix : List ℕ → Name → Option Name
without_suffix suffix w =
    let k = length w - length suffix in
    if bytes_eq (drop k w) suffix && nat_lt 0 k && is_symbol (take k w) then Some (take k w) else None
