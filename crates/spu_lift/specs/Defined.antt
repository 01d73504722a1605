-- What the table of definitions holds while objects are gone through. No clause of a public call cites this.
use Rattle.std.specs.Prelude.{◌≡◌, ℕ, List, Option}
use Rattle.std.specs.Map.{lookup}
use Rattle.std.specs.Option.{option_map}
use Rattle.std.specs.Str.{bytes_eq}
use Rattle.spu_elf.specs.declared.objects.Object.{Object}
use Rattle.spu_lift.specs.declared.definitions.SymbolId.{SymbolId}
use Rattle.spu_lift.specs.declared.definitions.Definitions.{Definitions}
use Rattle.spu_lift.specs.Tables.{Definition, definition_of, first_named}

abbrev pub id_of : Definition → SymbolId
id_of d = record { object = d.object; symbol = d.number }

abbrev pub first_id : List ℕ → List Definition → Option SymbolId
first_id name ds = option_map id_of (first_named name ds)

-- the symbol that the table has of a name
abbrev pub named : Definitions → List ℕ → Option SymbolId
named d name = lookup (λ k. bytes_eq name k.now) d.by_name.entries

abbrev pub AreDefined : List Object → Definitions → Type 0
AreDefined os d = (name : List ℕ) → named d name ≡ option_map id_of (definition_of os name)
