-- What the private steps of `Chains` write: one field of one slot or of one list's ends, and all that
-- linking a slot in or out changes. No clause of a public call cites these.
use Rattle.std.specs.Prelude.{ℕ, List, Option, Some, None, slice_set, slice_index_or}
use Rattle.spu_word.specs.declared.linked.Slot.{Slot}
use Rattle.spu_word.specs.declared.linked.Ends.{Ends}

-- a slot on no list, and the ends of an empty list
abbrev pub free : Slot
free = record { list = None; previous = None; next = None }

abbrev pub empty : Ends
empty = record { first = None; last = None }

abbrev pub with_next : Option ℕ → Slot → Slot
with_next to x = record x { next = to }

abbrev pub with_previous : Option ℕ → Slot → Slot
with_previous to x = record x { previous = to }

abbrev pub with_first : Option ℕ → Ends → Ends
with_first to x = record x { first = to }

abbrev pub with_last : Option ℕ → Ends → Ends
with_last to x = record x { last = to }

abbrev pub modify_some : (Slot → Slot) → List Slot → Option ℕ → List Slot
modify_some f xs None = xs
modify_some f xs (Some s) = slice_set xs s (f (slice_index_or xs s free))

abbrev pub modify_none : (Ends → Ends) → List Ends → ℕ → Option ℕ → List Ends
modify_none f xs l None = slice_set xs l (f (slice_index_or xs l empty))
modify_none f xs l (Some s) = xs

-- ---- slots and ends without a slot of list l, and with one more as its last

abbrev pub slots_without : List Slot → ℕ → List Slot
slots_without xs s =
    let here = slice_index_or xs s free in
    slice_set (modify_some (with_previous here.previous) (modify_some (with_next here.next) xs here.previous) here.next) s free

abbrev pub ends_without : List Slot → List Ends → ℕ → ℕ → List Ends
ends_without xs es l s =
    let here = slice_index_or xs s free in
    modify_none (with_last here.previous) (modify_none (with_first here.next) es l here.previous) l here.next

abbrev pub slots_with : List Slot → List Ends → ℕ → ℕ → List Slot
slots_with xs es l s =
    let last = (slice_index_or es l empty).last in
    slice_set (modify_some (with_next (Some s)) xs last) s (record { list = Some l; previous = last; next = None })

abbrev pub ends_with : List Ends → ℕ → ℕ → List Ends
ends_with es l s =
    let last = (slice_index_or es l empty).last in
    let led = modify_none (with_first (Some s)) es l last in
    slice_set led l (with_last (Some s) (slice_index_or led l empty))
