-- What a function gave is what the definition reads, unless memory ran out.
use Rattle.std.specs.Prelude.{◌≡◌, List, Result, Ok, Err}
use Rattle.spu_text.specs.declared.lexemes.Token.{Token}
use Rattle.spu_text.specs.declared.lexemes.TextFault.{TextFault}
use Rattle.spu_text.specs.declared.lexemes.TextFault.TheVariants.{NotAscii, LineTooLong, BadNumber, OutOfMemory}
use Rattle.spu_text.specs.Texts.{with_front}

abbrev pub Fails : {A : Type 0} → TextFault → Result A TextFault → Type 0
Fails OutOfMemory read = Unit {0}
Fails (NotAscii n) read = read ≡ Err (NotAscii n)
Fails (LineTooLong n) read = read ≡ Err (LineTooLong n)
Fails (BadNumber n) read = read ≡ Err (BadNumber n)

abbrev pub Gives : {A : Type 0} → Result A TextFault → Result A TextFault → Type 0
Gives (Ok x) read = read ≡ Ok x
Gives (Err f) read = Fails f read

-- what was read stands behind the old tokens
abbrev pub Adds : {A : Type 0} → Result A TextFault → List Token → List Token → Result (List Token) TextFault → Type 0
Adds (Ok u) old new read = with_front old read ≡ Ok new
Adds (Err f) old new read = Fails f read
