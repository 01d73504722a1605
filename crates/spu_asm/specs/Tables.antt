-- Values by name, in the order in which the names came.
use Rattle.std.specs.Prelude.{◌≡◌, ℕ, ◌+◌, false, if◌then◌else◌, List, [], ◌∷◌, map, position, Option, Some, None}
use Rattle.spu_asm.specs.Statements.{Name}
use Rattle.spu_asm.specs.Histories.{same, is_among, added}
use Rattle.spu_asm.specs.declared.tables.Table.{Table}

abbrev pub Rows : Type 0 → Type 0
Rows T = List (Name × T)

abbrev pub rows : {T : Type 0} → Table T → Rows T
rows t = map (λ e. (e.0.now, e.1)) t.map.entries

abbrev pub value_in : {T : Type 0} → Rows T → Name → Option T
value_in [] n = None
value_in (e ∷ es) n = if same n e.0 then Some e.1 else value_in es n

abbrev pub place_in : {T : Type 0} → Rows T → Name → Option ℕ
place_in t n = position (λ e. same n e.0) t

-- the rows with these values
abbrev pub with_values : {T S : Type 0} → (T → S) → Rows T → Rows S
with_values g t = map (λ e. (e.0, g e.1)) t

-- a row at the end, where there is none of its name
abbrev pub opened : {T : Type 0} → Rows T → Name → T → Rows T
opened {T} t n v = added (λ (e : Name × T). e.0) t (n, v)

-- the value of the name is changed
abbrev pub edited : {T : Type 0} → Rows T → Name → (T → T) → Rows T
edited [] n f = []
edited (e ∷ es) n f = if same n e.0 then (e.0, f e.1) ∷ es else e ∷ edited es n f

-- the name gets this value, at its place or at the end
abbrev pub put : {T : Type 0} → Rows T → Name → T → Rows T
put [] n v = (n, v) ∷ []
put (e ∷ es) n v = if same n e.0 then (e.0, v) ∷ es else e ∷ put es n v

-- the place of a name, or how many there are
abbrev pub index_in : {T : Type 0} → Rows T → Name → ℕ
index_in [] n = 0
index_in (e ∷ es) n = if same n e.0 then 0 else index_in es n + 1

-- each name stands once
abbrev pub Distinct : List Name → Type 0
Distinct [] = Unit {0}
Distinct (m ∷ ms) = (is_among ms m ≡ false) × Distinct ms
