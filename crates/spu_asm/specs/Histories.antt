-- What a list of statements means, by SPU Assembly Language. The statements that were accepted so far are a history, the
-- last first; every quantity is a sum, a list or a look-up over it.
use Rattle.std.specs.Prelude.{ℕ, ◌+◌, ◌-◌, ◌/◌, ◌%◌, ◌||◌, Bool, false, max, if◌then◌else◌, List, [], ◌∷◌, ◌++◌, length, replicate, sum_by, Option, Some, None, codes}
use Rattle.std.specs.List.{concat}
use Rattle.std.specs.Str.{bytes_eq}
use Rattle.spu_word.specs.Bytes.{be_digits}
use Rattle.spu_elf.specs.declared.objects.SecKind.{SecKind}
use Rattle.spu_elf.specs.declared.objects.SecKind.TheVariants as kinds
use Rattle.spu_asm.specs.Statements.{Name, Relocation, moved, Effect, instruction, content, space, align, section, exports, may_be_common, has_kind, ends_here, has_size, common}

-- An accepted statement: the section in which it stands, its labels, what it does, and the bytes that it adds.
pub record Entry : Type 0 where
  pub home : Name
  pub labels : List Name
  pub effect : Effect
  pub bytes : List ℕ

abbrev pub History : Type 0
History = List Entry

abbrev pub same : Name → Name → Bool
same a b = bytes_eq a b

abbrev pub is_among : List Name → Name → Bool
is_among [] n = false
is_among (m ∷ ms) n = same n m || is_among ms n

-- one at the end, where there is none of its name yet
abbrev pub added : {X : Type 0} → (X → Name) → List X → X → List X
added key [] x = x ∷ []
added key (y ∷ ys) x = if same (key x) (key y) then y ∷ ys else y ∷ added key ys x

abbrev pub added_all : {X : Type 0} → (X → Name) → List X → List X → List X
added_all key ys [] = ys
added_all key ys (x ∷ xs) = added_all key (added key ys x) xs

abbrev pub itself : Name → Name
itself n = n

-- ---- sections

-- the section that goes on behind an effect
abbrev pub home_after : Effect → Name → Name
home_after (section n k) home = n
home_after _ home = home

-- the section in which the next statement stands: `.text`, until a directive names another
abbrev pub current : History → Name
current [] = codes ".text"
current (e ∷ h) = home_after e.effect e.home

-- the section whose bytes a statement's are
abbrev pub target_of : Effect → Name → Name
target_of (common n size step) home = codes ".bss"
target_of _ home = home

-- the sum of the sizes of the section's statements
abbrev pub size_in : Name → History → ℕ
size_in k h = sum_by (λ (e : Entry). if same k (target_of e.effect e.home) then length e.bytes else 0) h

abbrev pub bytes_in : Name → History → List ℕ
bytes_in k [] = []
bytes_in k (e ∷ h) = bytes_in k h ++ (if same k (target_of e.effect e.home) then e.bytes else [])

pub record Heading : Type 0 where
  pub name : Name
  pub kind : SecKind

abbrev pub heading_name : Heading → Name
heading_name x = x.name

abbrev pub heading : Name → SecKind → Heading
heading name kind = record { name = name; kind = kind }

-- The sections that an effect needs. One that it stands in is there already, or is `.text`.
abbrev pub needs : Name → Effect → List Heading
needs home (instruction w ns rs) = heading home kinds.Code ∷ []
needs home (content bs rs) = heading home kinds.Code ∷ []
needs home (space n) = heading home kinds.Code ∷ []
needs home (align n) = heading home kinds.Code ∷ []
needs home (section n k) = heading n k ∷ []
needs home (common n size step) = heading (codes ".bss") kinds.Zero ∷ []
needs home _ = []

-- so do labels
abbrev pub label_needs : Name → List Name → List Heading
label_needs home [] = []
label_needs home (l ∷ ls) = heading home kinds.Code ∷ []

abbrev pub needed : Name → List Name → Effect → List Heading
needed home ls e = label_needs home ls ++ needs home e

-- the sections, each where it was first needed, with the kind that it had there
abbrev pub headings : History → List Heading
headings [] = []
headings (e ∷ h) = added_all heading_name (headings h) (needed e.home e.labels e.effect)

-- the alignment that an effect asks of the section that it adds to, or 0
abbrev pub asked : Effect → ℕ
asked (align step) = step
asked (common n size step) = step
asked _ = 0

-- the greatest alignment that was asked of the section, and at least 16
abbrev pub align_in : Name → History → ℕ
align_in k [] = 16
align_in k (e ∷ h) = max (align_in k h) (if same k (target_of e.effect e.home) then asked e.effect else 0)

-- ---- bytes

-- a Zero section has no bytes
abbrev pub stored : SecKind → List ℕ → List ℕ
stored kinds.Zero bytes = []
stored _ bytes = bytes

-- how many bytes there are up to the next multiple
abbrev pub gap : ℕ → ℕ → ℕ
gap step at = (step - at % step) % step

-- the bytes of a padding: zeros, and in code the words of `lnop`
abbrev pub filling : SecKind → ℕ → List ℕ
filling kinds.Code n = concat (replicate (n / 4) (be_digits 0x00200000))
filling _ n = replicate n 0

-- what an effect adds to a section of this kind, in which the next byte stands there
abbrev pub added_bytes : SecKind → ℕ → Effect → List ℕ
added_bytes kind at (instruction w ns rs) = be_digits w
added_bytes kind at (content bs rs) = bs
added_bytes kind at (space n) = replicate n 0
added_bytes kind at (align step) = filling kind (gap step at)
added_bytes kind at (common n size step) = filling kind (gap step at) ++ replicate size 0
added_bytes kind at _ = []

-- ---- symbols

-- A place in a section.
pub record Spot : Type 0 where
  pub section : Name
  pub offset : ℕ

-- where a common symbol stands, behind the padding at the end of `.bss`
abbrev pub common_spot : Effect → ℕ → Spot
common_spot (common n size step) end = record { section = codes ".bss"; offset = end + gap step end }
common_spot _ end = record { section = codes ".bss"; offset = 0 }

-- how far a symbol reaches, from its label to this place
abbrev pub reach : Option Spot → ℕ → ℕ
reach None at = 0
reach (Some s) at = at - s.offset

-- the symbols that an effect names, in order
abbrev pub relocation_names : List Relocation → List Name
relocation_names [] = []
relocation_names (r ∷ rs) = r.name ∷ relocation_names rs

abbrev pub named_by : Effect → List Name
named_by (instruction w ns rs) = ns
named_by (content bs rs) = relocation_names rs
named_by (exports n) = n ∷ []
named_by (has_kind n k) = n ∷ []
named_by (ends_here n) = n ∷ []
named_by (has_size n size) = n ∷ []
named_by (common n size step) = n ∷ []
named_by _ = []

-- labels and named symbols, each where it was first seen
abbrev pub symbol_names : History → List Name
symbol_names [] = []
symbol_names (e ∷ h) = added_all itself (added_all itself (symbol_names h) e.labels) (named_by e.effect)

abbrev pub allowed_by : Effect → List Name
allowed_by (may_be_common n) = n ∷ []
allowed_by _ = []

-- the names that `.comm` may take
abbrev pub local_names : History → List Name
local_names [] = []
local_names (e ∷ h) = added_all itself (local_names h) (allowed_by e.effect)

-- ---- relocations

abbrev pub relocations_by : Effect → List Relocation
relocations_by (instruction w ns rs) = rs
relocations_by (content bs rs) = rs
relocations_by _ = []

-- those of a section, in order of their places
abbrev pub relocations_in : Name → History → List Relocation
relocations_in k [] = []
relocations_in k (e ∷ h) = relocations_in k h ++ (if same k e.home then moved (size_in k h) (relocations_by e.effect) else [])
