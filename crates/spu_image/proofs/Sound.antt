-- What hops need of a sound state of the machine.
use Rattle.std.proofs.Common.{◌≡◌, ℕ, ◌^◌, ◌<◌, List, [], ◌∷◌, ◌++◌, length, Some, None, refl, Bool, true, false}
use Rattle.std.specs.Prelude.{◌||◌, if◌then◌else◌}
use Rattle.std.specs.List.{AllByRecursion}
use Rattle.spu_word.specs.declared.load.Area.{Area}
use Rattle.spu_exec.specs.Values.{HasBytes}
use Rattle.spu_exec.specs.Transfers.{Stretch, stretch_of}
use Rattle.spu_exec.specs.Admission.{shares, overlaps, first_overlap}
use Rattle.spu_ls.specs.Machine.{State}
use Rattle.spu_ls.specs.Sound.{IsSoundMemory, IsSound}

-- the image shares no byte with an area
abbrev pub IsApartFrom : Stretch → Area → Type 0
IsApartFrom image a = shares (stretch_of a) image ≡ false

pub record IsBounded (m : State) : Type 0 where
  pub regs : (r : ℕ) → HasBytes (m.regs r)
  pub whole : (r : ℕ) → r < 128 → length (m.regs r) ≡ 16
  pub store : (a : ℕ) → m.store a < 256
  pub mask : m.channels 22 < 2 ^ 32
  pub apart : AllByRecursion (IsApartFrom m.image) m.areas
  pub memory : IsSoundMemory m.image (record { store = m.store; areas = m.areas })

no_or : (b c : Bool) → (b || c) ≡ false → b ≡ false
no_or true c e = cc
no_or false c e = refl

pub apart_areas : (image : Stretch) (before xs : List Area) → first_overlap image before xs ≡ None → AllByRecursion (IsApartFrom image) xs
apart_areas image before [] e = tt
apart_areas image before (a ∷ xs) e = by_test (apart_areas image (before ++ a ∷ []) xs) (overlaps image before a) refl e
  where
    by_test : (first_overlap image (before ++ a ∷ []) xs ≡ None → AllByRecursion (IsApartFrom image) xs) → (b : Bool) → overlaps image before a ≡ b
        → (if b then Some (length before) else first_overlap image (before ++ a ∷ []) xs) ≡ None → AllByRecursion (IsApartFrom image) (a ∷ xs)
    by_test rest true is h = cc
    by_test rest false is h = (no_or (shares (stretch_of a) image) _ is, rest h)

pub bounded : (m : State) → IsSound m → IsBounded m
bounded m h = record {
  regs = h.registers.bytes;
  whole = h.registers.whole;
  store = h.memory.store;
  mask = h.channels.words 22;
  apart = apart_areas m.image [] m.areas h.memory.apart;
  memory = h.memory;
}
