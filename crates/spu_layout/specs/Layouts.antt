-- A layout: where a program's code lies in the local store, and what a run needs to know of it. (No standard has it: the words are those
-- of overlays.)
use Rattle.std.specs.Prelude.{◌≡◌, ℕ, ◌+◌, ◌-◌, ◌%◌, ◌<◌, ◌≤◌, ◌⊎◌, ◌&&◌, nat_le, nat_lt, Bool, List, [], ◌∷◌}
use Rattle.spu_word.specs.declared.limits.TheConstants.{DATA_START, STACK_TOP, STORE_SIZE, WORD_SIZE}
use Rattle.spu_lift.specs.declared.program.Prog.{Prog}
use Rattle.spu_lift.specs.Places.{IsPlace}
use Rattle.spu_layout.specs.declared.layout.Span.{Span}

abbrev pub span : ℕ → ℕ → Span
span from to = record { from = from; to = to }

abbrev pub Lies : ℕ → Span → Type 0
Lies a s = (s.from ≤ a) × (a < s.to)

pub record Layout : Type 0 where
  -- the address of place i of function f, also of the place behind its last one
  pub at : ℕ → ℕ → ℕ
  -- the region of a function, 0 for the root
  pub region : ℕ → ℕ
  -- where one comes to a function by its label: its stub, or in a flat image its first word
  pub entry : ℕ → ℕ
  -- where links of places in regions lead
  pub return_entry : ℕ
  -- the stubs and the loader's words; the mapped quadwords
  pub passage : Span
  pub slots : Span
  -- data, code, buffers and stack
  pub data_area : Span
  pub code_area : Span
  pub buffers : Span
  pub stack : Span

abbrev pub areas : Layout → List Span
areas l = l.data_area ∷ l.code_area ∷ l.buffers ∷ l.stack ∷ []

-- each begins where the one before has ended, or behind it, and they all lie between two addresses
abbrev pub AreDisjoint : ℕ → List Span → ℕ → Type 0
AreDisjoint low [] high = low ≤ high
AreDisjoint low (s ∷ ss) high = (low ≤ s.from) × (s.from ≤ s.to) × AreDisjoint s.to ss high

-- the bytes of which a symbolic run speaks
abbrev pub IsShared : Layout → ℕ → Type 0
IsShared l a = Lies a l.data_area ⊎ Lies a l.stack

-- whether an address lies in the passage: between the places of functions
abbrev pub is_between : Layout → ℕ → Bool
is_between l pc = nat_le l.passage.from pc && nat_lt pc l.passage.to

-- the bytes that no step changes: the code area without the mapped quadwords
pub record IsFixed (l : Layout) (a : ℕ) : Type 0 where
  pub code : Lies a l.code_area
  pub apart : Lies a l.slots → ⊥

-- what a hop needs of the places of a program
pub record IsLaid (p : Prog) (limit : ℕ) (l : Layout) : Type 0 where
  pub next : (f i : ℕ) → l.at f (i + 1) ≡ l.at f i + WORD_SIZE
  pub aligned : (f i : ℕ) → IsPlace p f i → l.at f i % WORD_SIZE ≡ 0
  -- a place of the root lies among the fixed bytes; every place lies below the stack, and not in the passage
  pub root : (f i : ℕ) → IsPlace p f i → l.region f ≡ 0 → (k : ℕ) → k < WORD_SIZE → IsFixed l (l.at f i + k)
  pub below : (f i : ℕ) → IsPlace p f i → l.at f i + WORD_SIZE ≤ l.stack.from
  pub outside : (f i : ℕ) → IsPlace p f i → Lies (l.at f i) l.passage → ⊥
  -- so does what a label of a function leads to
  pub entries : (f : ℕ) → IsPlace p f 0 → l.entry f + WORD_SIZE ≤ l.stack.from
  pub entries_aligned : (f : ℕ) → IsPlace p f 0 → l.entry f % WORD_SIZE ≡ 0
  pub data_area : l.data_area ≡ span DATA_START p.data_end
  pub stack : l.stack ≡ span (STACK_TOP - limit) STORE_SIZE
  pub apart : AreDisjoint DATA_START (areas l) STORE_SIZE

-- a flat layout has no regions, no passage and no mapped quadwords, and labels lead to functions themselves
pub record IsFlat (l : Layout) : Type 0 where
  pub region : (f : ℕ) → l.region f ≡ 0
  pub entry : (f : ℕ) → l.entry f ≡ l.at f 0
  pub passage : l.passage.to ≤ l.passage.from
