-- The values of `.byte` to `.octa`, by SPU Assembly Language: one or more between commas, each of so many bytes, big-endian.
-- A number from -2^(8n-1) to 2^(8n) - 1 is taken modulo 2^(8n), for n bytes. A symbol stands only where values have four
-- bytes; its address goes there when the program is linked.
use Rattle.std.specs.Prelude.{◌≡◌, ℕ, ◌-◌, ◌*◌, ◌%◌, ◌^◌, ◌==◌, Bool, true, false, nat_le, nat_lt, if◌then◌else◌, List, [], ◌∷◌, ◌++◌, length, map, fold, Option, Some, None, Result, Ok, Err, ℤ}
use Rattle.std.specs.Int.{bytes_high_first}
use Rattle.spu_reloc.specs.declared.field.RelocKind.TheVariants.{Addr32}
use Rattle.spu_reloc.specs.Fields.{number_of}
use Rattle.spu_text.specs.Lexemes.{Lexeme}
use Rattle.spu_asm.specs.Values.{Value, plain, symbol, value_of, parted}
use Rattle.spu_asm.specs.Operands.{addend_of}
use Rattle.spu_asm.specs.Statements.{Name, Effect, moved, content, effect_of}
use Rattle.spu_asm.specs.declared.faults.AsmKind.{AsmKind}
use Rattle.spu_asm.specs.declared.faults.AsmKind.TheVariants.{BadDirective, Range}
use Rattle.spu_asm.specs.declared.statements.Action.{Action}
use Rattle.spu_asm.specs.declared.refusals.Refusal.{Refusal}
use Rattle.spu_asm.specs.declared.refusals.Refusal.TheVariants as refusals
use Rattle.spu_asm.specs.declared.values.Offset.{Offset}

-- what a statement does, or its least fault
abbrev pub Meaning : Type 0
Meaning = Result Effect AsmKind

-- ---- one value

-- whether a number fits so many bytes
abbrev pub fits : ℕ → Offset → Bool
fits width n = if n.negative then nat_le n.size (2 ^ (8 * width - 1)) else nat_lt n.size (2 ^ (8 * width))

-- the number in two's complement, of 128 bits
abbrev pub complement : Offset → ℕ
complement n = if n.negative then (2 ^ 128 - n.size) % 2 ^ 128 else n.size

-- an address takes four bytes
abbrev pub address_value : Name → Option ℤ → Meaning
address_value w (Some n) = Ok (content (0 ∷ 0 ∷ 0 ∷ 0 ∷ []) (record { offset = 0; number = number_of Addr32; name = w; addend = n } ∷ []))
address_value w None = Err Range

abbrev pub one_value : ℕ → Option Value → Meaning
one_value width (Some (plain n)) = if fits width n then Ok (content (bytes_high_first width (complement n)) ([])) else Err Range
one_value width (Some (symbol w n)) = if width == 4 then address_value w (addend_of n) else Err BadDirective
one_value width _ = Err BadDirective

-- ---- all values

abbrev pub is_far : Meaning → Bool
is_far (Err Range) = true
is_far _ = false

-- one behind the other; a number outside its range counts before all other faults
abbrev pub joined : Meaning → Meaning → Meaning
joined (Ok (content bs rs)) (Ok (content cs qs)) = Ok (content (bs ++ cs) (rs ++ moved (length bs) qs))
joined (Err k) m = if is_far m then m else Err k
joined _ m = m

abbrev pub value_in : ℕ → List Lexeme → Meaning
value_in width ts = one_value width (value_of ts)

abbrev pub values_of : ℕ → List Lexeme → Meaning
values_of width ts = fold joined (Ok (content ([]) ([]))) (map (value_in width) (parted 44 ts))

-- ---- what the code gives

-- what was read, or its least fault, unless memory ran out
abbrev pub Reads : {A : Type 0} → (A → Effect) → Result A Refusal → Meaning → Type 0
Reads f (Ok a) m = m ≡ Ok (f a)
Reads f (Err (refusals.Fault k)) m = m ≡ Err k
Reads f (Err refusals.OutOfMemory) m = Unit {0}

abbrev pub Gives : Result Action Refusal → Meaning → Type 0
Gives r m = Reads effect_of r m

-- what was read stands behind the old values
abbrev pub Adds : {A : Type 0} → Result A Refusal → Effect → Effect → Meaning → Type 0
Adds (Ok u) old new m = joined (Ok old) m ≡ Ok new
Adds (Err (refusals.Fault k)) old new m = m ≡ Err k
Adds (Err refusals.OutOfMemory) old new m = Unit {0}
