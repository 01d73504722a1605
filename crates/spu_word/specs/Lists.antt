-- Doubly linked lists of numbered slots, and the list of numbers that each of them stands for. A slot
-- is on one list at most, and names it together with the slots before and behind it; a list has its
-- first and its last slot. (No standard has them: they are the usual lists that are linked by index.)
use Rattle.std.specs.Prelude.{◌≡◌, ℕ, zero, suc, ◌<◌, ◌≤◌, Bool, true, false, ◌||◌, ◌==◌, if◌then◌else◌, List, [], ◌∷◌, length, Option, Some, None, slice_get}
use Rattle.spu_word.specs.declared.linked.Slot.{Slot}
use Rattle.spu_word.specs.declared.linked.Ends.{Ends}

-- whether a number stands on a list
abbrev pub stands_on : List ℕ → ℕ → Bool
stands_on [] s = false
stands_on (x ∷ xs) s = (x == s) || stands_on xs s

-- the list without a number; the others keep their order
abbrev pub without : ℕ → List ℕ → List ℕ
without s [] = []
without s (x ∷ xs) = if x == s then without s xs else x ∷ without s xs

-- the element before an index
abbrev pub before : List ℕ → ℕ → Option ℕ
before xs zero = None
before xs (suc k) = slice_get xs k

-- the slot at index k of list l, whose slots are xs
abbrev pub slot_on : ℕ → List ℕ → ℕ → Slot
slot_on l xs k = record { list = Some l; previous = before xs k; next = slice_get xs (suc k) }

-- the first and the last slot of the list xs
abbrev pub ends_of : List ℕ → Ends
ends_of xs = record { first = slice_get xs 0; last = before xs (length xs) }

-- slots and ends stand for these lists of slots, one for each list number: each slot of a list names
-- it and its neighbours, each list has its ends, and a slot that names a list is on it
pub record IsLinked (slots : List Slot) (ends : List Ends) (lists : ℕ → List ℕ) : Type 0 where
  pub places : (l k s : ℕ) → slice_get (lists l) k ≡ Some s → slice_get slots s ≡ Some (slot_on l (lists l) k)
  pub all : (l : ℕ) → l < length ends → slice_get ends l ≡ Some (ends_of (lists l))
  pub beyond : (l : ℕ) → length ends ≤ l → lists l ≡ []
  pub held : (s l : ℕ) (x : Slot) → slice_get slots s ≡ Some x → x.list ≡ Some l → stands_on (lists l) s ≡ true

-- the slots behind one another from a first one on, n at most
abbrev pub next_in : Option Slot → Option ℕ
next_in None = None
next_in (Some x) = x.next

abbrev pub first_in : Option Ends → Option ℕ
first_in None = None
first_in (Some x) = x.first

abbrev pub along : List Slot → ℕ → Option ℕ → List ℕ
along slots zero at = []
along slots (suc n) None = []
along slots (suc n) (Some s) = s ∷ along slots n (next_in (slice_get slots s))

-- the slots of list l, from its first one on; no list has more than there are slots
unfoldable pub slots_on : List Slot → List Ends → ℕ → List ℕ
slots_on slots ends l = along slots (length slots) (first_in (slice_get ends l))
