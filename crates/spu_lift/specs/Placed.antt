-- What the tables of sections hold while objects are gone through. No clause of a public call cites this.
use Rattle.std.specs.Prelude.{◌≡◌, ℕ, ◌+◌, ◌*◌, ◌^◌, ◌≤◌, if◌then◌else◌, List, [], ◌∷◌, length, fold, filter, Option, slice_get}
use Rattle.std.specs.Option.{option_and_then, option_map}
use Rattle.spu_elf.specs.declared.objects.Section.{Section}
use Rattle.spu_elf.specs.declared.objects.Object.{Object}
use Rattle.spu_lift.specs.declared.sections.Placing.{Placing}
use Rattle.spu_lift.specs.declared.sections.Placing.TheVariants as placings
use Rattle.spu_lift.specs.declared.sections.Sections.{Sections}
use Rattle.spu_lift.specs.Tables.{all_sections, end_of, holds_code, holds_data, placed_from, section_at, sections_before}

-- where the data ends, and how many sections of code there are, after one more section
abbrev pub end_after : ℕ → Section → ℕ
end_after end t = if holds_data t then placed_from end t + t.size else end

abbrev pub count_after : ℕ → Section → ℕ
count_after count t = if holds_code t then count + 1 else count

abbrev pub placing_from : ℕ → ℕ → Section → Placing
placing_from end count t = if holds_data t then placings.Data (placed_from end t) else (if holds_code t then placings.Code count else placings.Dropped)

abbrev pub placings_from : ℕ → ℕ → List Section → List Placing
placings_from end count [] = []
placings_from end count (t ∷ ts) = placing_from end count t ∷ placings_from (end_after end t) (count_after count t) ts

abbrev pub all_placings : ℕ → ℕ → List Object → List (List Placing)
all_placings end count [] = []
all_placings end count (o ∷ os) = placings_from end count o.sections ∷ all_placings (fold end_after end o.sections) (fold count_after count o.sections) os

-- sections are placed one after another, from where the data ends and from a count of sections of code on
pub record ArePlacedFrom (from count : ℕ) (ts : List Section) (ps : List Placing) (to last : ℕ) : Type 0 where
  pub placed : ps ≡ placings_from from count ts
  pub ends : to ≡ fold end_after from ts
  pub counts : last ≡ fold count_after count ts

-- room for as many more sections: each moves the end by less than 2^33
pub record HasRoom (end count more : ℕ) : Type 0 where
  pub ends : end + more * 2 ^ 33 ≤ 2 ^ 60
  pub counts : count + more ≤ 2 ^ 31

abbrev pub placing_at : Sections → ℕ → ℕ → Option Placing
placing_at s n k = option_and_then (λ ps. slice_get ps k) (slice_get s.placings n)

abbrev pub placing_of : List Object → ℕ → ℕ → Section → Placing
placing_of os n k t = placing_from (end_of (sections_before os n k)) (length (filter holds_code (sections_before os n k))) t

pub record ArePlaced (os : List Object) (s : Sections) : Type 0 where
  pub each : (n k : ℕ) → placing_at s n k ≡ option_map (placing_of os n k) (section_at os n k)
  pub end : s.end ≡ end_of (all_sections os)
  pub small : s.end ≤ 2 ^ 60
