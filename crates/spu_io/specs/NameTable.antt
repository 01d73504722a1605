-- What a table of names holds.
use Rattle.std.specs.Prelude.{ℕ, List, Option, Some, None}
use Rattle.std.specs.Borrow.{Bor}
use Rattle.std.specs.BTreeMap.{get_by_text}
use Rattle.spu_io.specs.Outside.{Names}
use Rattle.spu_io.specs.declared.names.NameTable.{NameTable}

-- what each name of a table holds
abbrev pub names_of : NameTable → Names
names_of table = get_by_text table.files

-- what a reference to bytes points to, if there is one
abbrev pub pointed_to : Option (Bor (List ℕ)) → Option (List ℕ)
pointed_to None = None
pointed_to (Some r) = Some r.now
