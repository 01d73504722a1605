-- The rows stand in the order of their mnemonics: what a search among them finds.
use Rattle.std.proofs.Common.{◌≡◌, ℕ, zero, suc, ◌+◌, ◌-◌, ◌<◌, List, [], ◌∷◌, length, Bool, true, false, Ok, Err, refl, sym, ap, subst, ◌∙◌, get_or, arith, inl, inr}
use Rattle.std.specs.Prelude.{◌&&◌}
use Rattle.std.specs.List.Sorted.{IsBinarySearchResult, IsSortedBy}
use Rattle.std.specs.Cmp.Lexicographic.{slice_cmp}
use Rattle.std.specs.Ordering.{nat_cmp, is_lt, ordering_reverse}
use Rattle.std.specs.declared.cmp.Ordering.{Ordering}
use Rattle.std.specs.declared.cmp.Ordering.TheVariants.{Less, Equal, Greater}
use Rattle.std.proofs.lemmas.Bool.{and_parts, cases_lt}
use Rattle.std.proofs.lemmas.Cmp.{nat_list_cmp_total, tied_itself}
use Rattle.std.proofs.lemmas.Map.Lookups.{exact_bytes}
use Rattle.std.proofs.lemmas.List.Sorted.{searchable_from_sorted}
use denote.Enum.Declared.{tag_of}
use Rattle.spu_isa.specs.contracts.operation.Op.{the_type}
use Rattle.spu_isa.specs.declared.operation.Op.{Op}
use Rattle.spu_isa.specs.declared.table.OpRow.{OpRow}
use Rattle.spu_isa.specs.declared.table.TheConstants.{ROWS}
use Rattle.spu_isa.specs.Table.{row_of}
use Rattle.spu_isa.proofs.Agreement.{row_at, number_within}

abbrev compare : List ℕ → List ℕ → Ordering
compare = slice_cmp nat_cmp

abbrev pub name_of : OpRow → List ℕ
name_of r = (row_of r.op).name

-- each mnemonic is less than the next one
rises : List OpRow → Bool
rises [] = true
rises (r ∷ []) = true
rises (r ∷ s ∷ rs) = is_lt (compare (name_of r) (name_of s)) && rises (s ∷ rs)

rows_rise : rises ROWS ≡ true
unfolding rises
rows_rise = refl

less : (o : Ordering) → is_lt o ≡ true → o ≡ Less
less Less e = refl
less Equal e = absurd cc
less Greater e = absurd cc

next_is_greater : (rs : List OpRow) (d : OpRow) (k : ℕ) → rises rs ≡ true → k + 1 < length rs → compare (name_of (get_or rs k d)) (name_of (get_or rs (k + 1) d)) ≡ Less
unfolding rises
next_is_greater [] d k up lt = absurd (omega arith)
next_is_greater (r ∷ []) d k up lt = absurd (omega arith)
next_is_greater (r ∷ s ∷ rs) d zero up lt = less _ (and_parts (is_lt (compare (name_of r) (name_of s))) (rises (s ∷ rs)) up).0
next_is_greater (r ∷ s ∷ rs) d (suc k) up lt =
    subst (λ n. compare (name_of (get_or (s ∷ rs) k d)) (name_of (get_or (r ∷ s ∷ rs) n d)) ≡ Less) {x = suc (k + 1)} {y = suc k + 1} (omega arith)
    (next_is_greater (s ∷ rs) d k (and_parts (is_lt (compare (name_of r) (name_of s))) (rises (s ∷ rs)) up).1 (omega arith))

-- each is less than every later one
later_is_greater : (d : OpRow) (i n : ℕ) → i + n + 1 < length ROWS → compare (name_of (get_or ROWS i d)) (name_of (get_or ROWS (i + n + 1) d)) ≡ Less
later_is_greater d i zero lt =
    subst (λ n. compare (name_of (get_or ROWS i d)) (name_of (get_or ROWS n d)) ≡ Less) {x = i + 1} {y = i + zero + 1} (omega arith) (next_is_greater ROWS d i rows_rise (omega arith))
later_is_greater d i (suc n) lt =
    let far : compare (name_of (get_or ROWS i d)) (name_of (get_or ROWS (i + n + 1) d)) ≡ Less = later_is_greater d i n (omega arith) in
    let next : compare (name_of (get_or ROWS (i + n + 1) d)) (name_of (get_or ROWS (i + n + 1 + 1) d)) ≡ Less = next_is_greater ROWS d (i + n + 1) rows_rise (omega arith) in
    subst (λ k. compare (name_of (get_or ROWS i d)) (name_of (get_or ROWS k d)) ≡ Less) {x = i + n + 1 + 1} {y = i + suc n + 1} (omega arith) (nat_list_cmp_total.trans (name_of (get_or ROWS i d)) (name_of (get_or ROWS (i + n + 1) d)) (name_of (get_or ROWS (i + n + 1 + 1) d)) far next)

sorted : IsSortedBy (λ r s. is_lt (compare (name_of r) (name_of s))) ROWS
sorted k d low high = ap is_lt (nat_list_cmp_total.antisymm (name_of (get_or ROWS (k + 1) d)) (name_of (get_or ROWS k d)) ∙ ap ordering_reverse (next_is_greater ROWS d k rows_rise high))

not_both : (o : Ordering) → o ≡ Less → o ≡ Equal → ⊥
not_both o p q = cc

-- the mnemonic of an operation is that of the row at its number
name_at : (d : OpRow) (o : Op) → name_of (get_or ROWS (tag_of the_type o) d) ≡ (row_of o).name
name_at d o = ap (λ k. (row_of k).name) (row_at d o).op

in_order : (d : OpRow) (a b : Op) → tag_of the_type a < tag_of the_type b → compare (row_of a).name (row_of b).name ≡ Less
in_order d a b lt =
    let i : ℕ = tag_of the_type a in
    let j : ℕ = tag_of the_type b in
    let n : ℕ = j - i - 1 in
    let at : compare (name_of (get_or ROWS i d)) (name_of (get_or ROWS j d)) ≡ Less = subst (λ k. compare (name_of (get_or ROWS i d)) (name_of (get_or ROWS k d)) ≡ Less) {x = i + n + 1} {y = j} (omega arith) (later_is_greater d i n (omega (arith, number_within b))) in
    subst (λ x. compare x (row_of b).name ≡ Less) (name_at d a) (subst (λ y. compare (name_of (get_or ROWS i d)) y ≡ Less) (name_at d b) at)

-- some row
default : Op → OpRow
default o = record { op = o; layout = (row_of o).layout; opcode = 0; kind = (row_of o).kind; lane = 0; writes = false }

-- two operations of one name are one
pub name_once : (a b : Op) → (row_of a).name ≡ (row_of b).name → a ≡ b
name_once a b e =
    let d : OpRow = default a in
    elim (cases_lt (tag_of the_type a) (tag_of the_type b)) [
      | inl below ↦ absurd (not_both _ (in_order d a b below) (ap (λ x. compare x (row_of b).name) e ∙ tied_itself nat_list_cmp_total (row_of b).name))
      | inr not_below ↦ elim (cases_lt (tag_of the_type b) (tag_of the_type a)) [
        | inl below ↦ absurd (not_both _ (in_order d b a below) (ap (compare (row_of b).name) e ∙ tied_itself nat_list_cmp_total (row_of b).name))
        | inr same ↦ let i : tag_of the_type a ≡ tag_of the_type b = omega arith in sym (row_at d a).op ∙ ap (λ k. (get_or ROWS k d).op) i ∙ (row_at d b).op
      ]
    ]

module _ (text : List ℕ) where
  abbrev pub against : OpRow → Ordering
  against r = compare (name_of r) text

  -- a search that finds a row finds one with the text
  pub found : (i : ℕ) → IsBinarySearchResult against ROWS (Ok i) → (d : OpRow) → name_of (get_or ROWS i d) ≡ text
  found i at d = exact_bytes _ _ (at d)

  -- one that finds none shows that no operation has it
  pub missed : (i : ℕ) → IsBinarySearchResult against ROWS (Err i) → (o : Op) → (row_of o).name ≡ text → ⊥
  missed i parted o e =
      let d : OpRow = default o in
      let parts = parted (searchable_from_sorted nat_list_cmp_total name_of ROWS text sorted) in
      let k : ℕ = tag_of the_type o in
      let tied : against (get_or ROWS k d) ≡ Equal = ap (λ x. compare x text) (name_at d o ∙ e) ∙ tied_itself nat_list_cmp_total text in
      elim (cases_lt k i) [
        | inl below ↦ not_both _ (parts.0 k d (omega arith) below) tied
        | inr above ↦ let greater = parts.1 k d (omega arith) (number_within o) in absurd cc
      ]
