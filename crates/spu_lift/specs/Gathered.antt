-- The symbols of functions as they are gathered from objects, before they are put in order. No clause of a public call cites this.
use Rattle.std.specs.Prelude.{ℕ, not, List, Option}
use Rattle.std.specs.List.{enumerate_from, filter_map, flat_map}
use Rattle.std.specs.Option.{option_map}
use Rattle.spu_elf.specs.declared.objects.Section.{Section}
use Rattle.spu_elf.specs.declared.objects.Symbol.{Symbol}
use Rattle.spu_elf.specs.declared.objects.Object.{Object}
use Rattle.spu_lift.specs.declared.functions.FunctionSymbol.{FunctionSymbol}
use Rattle.spu_lift.specs.Checks.{function_section}

-- symbol s, by its number, of object n with these sections
abbrev pub symbol_in : ℕ → List Section → ℕ → Symbol → Option FunctionSymbol
symbol_in n ts j s = option_map (λ k. record { object = n; section = k; offset = s.value; size = s.size; local = not s.global; symbol = j }) (function_section ts s)

-- those of object n, and all
abbrev pub symbols_in : ℕ → Object → List FunctionSymbol
symbols_in n o = filter_map (λ (j, s). symbol_in n o.sections j s) (enumerate_from 0 o.symbols)

abbrev pub function_symbols : List Object → List FunctionSymbol
function_symbols os = flat_map (λ (n, o). symbols_in n o) (enumerate_from 0 os)
