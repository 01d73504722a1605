-- The bytes of a program's data, put one behind the other.
use Rattle.std.proofs.Common.{◌≡◌, ℕ, ◌+◌, ◌-◌, ◌<◌, ◌≤◌, ◌⊎◌, map, Bool, true, false, List, [], ◌∷◌, ◌++◌, length, take, drop, get_or, refl, sym, ap, ◌∙◌, subst, inl, inr, arith}
use Rattle.std.specs.Prelude.{◌==◌, ◌&&◌, nat_le, nat_lt, slice_index, replicate}
use Rattle.std.specs.List.{Contains, range_with_len}
use Rattle.std.proofs.lemmas.Bool.{cases_lt, cond_both}
use Rattle.std.proofs.lemmas.Bool.Decides.{nat_tests}
use Rattle.std.proofs.lemmas.Grind.{same_number_lists}
use Rattle.std.proofs.lemmas.List.{drop_all, drop_more, get_or_default, get_or_past, length-append, length-replicate, length-take-le, length-drop, get_or_append_left, get_or-append_right, get_or-replicate, get_or-take, get_or-drop}
use Rattle.std.proofs.lemmas.List.FromFn.{length-map-range_with_len, get_or-map-range_with_len}
use Rattle.spu_word.specs.Bytes.{be_digits}
use Rattle.spu_word.specs.declared.limits.TheConstants.{DATA_START, WORD_SIZE}
use Rattle.spu_lift.specs.declared.program.Label.{Label}
use Rattle.spu_lift.specs.declared.program.Label.TheVariants.{Fun, Place, Link}
use Rattle.spu_lift.specs.declared.program.WordLabel.{WordLabel}
use Rattle.spu_lift.specs.declared.program.Part as section
use Rattle.spu_lift.specs.declared.program.Prog.{Prog}
use Rattle.spu_lift.specs.declared.symbolic.SymByte.TheVariants.{Num, Part}
use Rattle.spu_lift.specs.WellFormed.{AreInOrder, IsTakenTarget, IsWellFormed}
use Rattle.spu_ideal.specs.Machine.{data_byte, labelled}
use Rattle.spu_layout.specs.Layouts.{Layout}
use Rattle.spu_layout.specs.Labels.{code, address_of}
use Rattle.spu_image.specs.Images.{byte_of, data_bytes}
use Rattle.spu_image.specs.Filling.{AreDataTo, labelled_bytes, own_bytes}

-- ---- a section

pub own_zeros : (x : section.Part) (none : Bool) → none ≡ (length x.bytes == 0) → none ≡ true → replicate x.size 0 ≡ own_bytes x
own_zeros x none e is = same_number_lists (replicate x.size 0) (own_bytes x)
    (length-replicate {A = ℕ} x.size 0 ∙ sym (length-map-range_with_len (λ j. slice_index x.bytes j) 0 x.size))
    (λ k lt. (let few : k < x.size = (let n = length-replicate {A = ℕ} x.size 0 in omega (arith, n)) in
    get_or-replicate x.size k 0 0 few ∙ sym (get_or-map-range_with_len (λ j. slice_index x.bytes j) 0 x.size k k 0 few (omega arith) ∙ get_or_past x.bytes k 0 (empty k (sym e ∙ is)))))
  where
    empty : (k : ℕ) → (length x.bytes == 0) ≡ true → length x.bytes ≤ k
    empty k t = grind (arith, nat_tests)

pub own_given : (x : section.Part) (none : Bool) → none ≡ (length x.bytes == 0) → none ≡ false → (length x.bytes ≡ x.size) ⊎ (x.bytes ≡ []) → x.bytes ≡ own_bytes x
own_given x none e is (inr nothing) = absurd (filled (sym e ∙ is) (ap (λ (bs : List ℕ). length bs) nothing))
  where
    filled : (length x.bytes == 0) ≡ false → length x.bytes ≡ 0 → ⊥
    filled t n = grind (arith, nat_tests)
own_given x none e is (inl whole) = same_number_lists x.bytes (own_bytes x)
    (whole ∙ sym (length-map-range_with_len (λ j. slice_index x.bytes j) 0 x.size))
    (λ k lt. sym (get_or-map-range_with_len (λ j. slice_index x.bytes j) 0 x.size k k 0 (omega (arith, whole)) (omega arith)))

pub labelled_length : (l : Layout) (x : section.Part) (ls : List WordLabel) → length (labelled_bytes l x ls) ≡ x.size
labelled_length l x ls = length-map-range_with_len (λ j. byte_of l (labelled ls j (Num (slice_index x.bytes j)))) 0 x.size

pub labelled_at : (l : Layout) (x : section.Part) (ls : List WordLabel) (k : ℕ) → k < x.size → get_or (labelled_bytes l x ls) k 0 ≡ byte_of l (labelled ls k (Num (slice_index x.bytes k)))
labelled_at l x ls k lt = get_or-map-range_with_len (λ j. byte_of l (labelled ls j (Num (slice_index x.bytes j)))) 0 x.size k k 0 lt (omega arith)

-- the bytes of a label are those of its address
label_digits : (p : Prog) (l : Layout) (m : Label) → IsTakenTarget p m → (k : ℕ) → k < 4 → slice_index (code l m) k ≡ get_or (be_digits (address_of l m)) k 0
label_digits p l (Fun f) taken k lt = get_or_append_left (be_digits (l.entry f)) (be_digits 0 ++ be_digits 0 ++ be_digits 0) 0 k lt
label_digits p l (Place f i) taken k lt = get_or_append_left (be_digits (l.at f i)) (be_digits 0 ++ be_digits 0 ++ be_digits 0) 0 k lt
label_digits p l (Link f i) taken k lt = absurd taken

module _ (p : Prog) (l : Layout) (x : section.Part) (w : WordLabel) (ls : List WordLabel) (old : List ℕ) (is : old ≡ labelled_bytes l x ls) (inside : w.offset + WORD_SIZE ≤ x.size) (taken : IsTakenTarget p w.label) where
  abbrev word : List ℕ
  word = be_digits (address_of l w.label)

  abbrev written : List ℕ
  written = take w.offset old ++ (word ++ drop (w.offset + 4) old)

  long : length old ≡ x.size
  long = ap (λ (bs : List ℕ). length bs) is ∙ labelled_length l x ls

  front : length (take w.offset old) ≡ w.offset
  front = let n = long in length-take-le w.offset old (omega (arith, n, inside))

  new_length : length written ≡ x.size
  new_length =
      let a = length-append (take w.offset old) (word ++ drop (w.offset + 4) old) in
      let b = length-append word (drop (w.offset + 4) old) in
      let c = length-drop (w.offset + 4) old in
      let n = long in
      let f = front in
      omega (arith, a, b, c, n, f, inside)

  outside : (k : ℕ) → k < x.size → (k < w.offset) ⊎ (w.offset + 4 ≤ k) → get_or old k 0 ≡ byte_of l (labelled (w ∷ ls) k (Num (slice_index x.bytes k)))
  outside k lt apart =
      ap (λ bs. get_or bs k 0) is ∙ labelled_at l x ls k lt
      ∙ cond_both (nat_le w.offset k && nat_lt k (w.offset + 4)) (Part w.label (k - w.offset)) (labelled ls k (Num (slice_index x.bytes k))) (λ s. byte_of l (labelled ls k (Num (slice_index x.bytes k))) ≡ byte_of l s)
      (λ t. absurd (clash k t apart)) (λ t. refl)
    where
      clash : (k : ℕ) → (nat_le w.offset k && nat_lt k (w.offset + 4)) ≡ true → (k < w.offset) ⊎ (w.offset + 4 ≤ k) → ⊥
      clash k t (inl h) = grind (arith, nat_tests)
      clash k t (inr h) = grind (arith, nat_tests)

  within : (j : ℕ) → j < 4 → get_or word j 0 ≡ byte_of l (labelled (w ∷ ls) (w.offset + j) (Num (slice_index x.bytes (w.offset + j))))
  within j lt =
      let e : j ≡ w.offset + j - w.offset = omega arith in
      sym (label_digits p l w.label taken j lt) ∙ ap (λ k. slice_index (code l w.label) k) e
      ∙ cond_both (nat_le w.offset (w.offset + j) && nat_lt (w.offset + j) (w.offset + 4)) (Part w.label (w.offset + j - w.offset)) (labelled ls (w.offset + j) (Num (slice_index x.bytes (w.offset + j))))
      (λ s. byte_of l (Part w.label (w.offset + j - w.offset)) ≡ byte_of l s) (λ t. refl) (λ t. absurd (missed t lt))
    where
      missed : (nat_le w.offset (w.offset + j) && nat_lt (w.offset + j) (w.offset + 4)) ≡ false → j < 4 → ⊥
      missed t lt = grind (arith, nat_tests)

  at : (k : ℕ) → k < x.size → get_or written k 0 ≡ byte_of l (labelled (w ∷ ls) k (Num (slice_index x.bytes k)))
  at k lt = elim (cases_lt k w.offset) [
    | inl low ↦ get_or_append_left (take w.offset old) (word ++ drop (w.offset + 4) old) 0 k (let f = front in omega (arith, f, low)) ∙ get_or-take w.offset old k 0 low ∙ outside k lt (inl low)
    | inr high ↦ elim (cases_lt k (w.offset + 4)) [
      | inl near ↦ (
          let e : w.offset + (k - w.offset) ≡ k = omega (arith, high) in
          get_or-append_right (take w.offset old) (word ++ drop (w.offset + 4) old) w.offset k 0 front high
          ∙ get_or_append_left word (drop (w.offset + 4) old) 0 (k - w.offset) (omega (arith, high, near)) ∙ within (k - w.offset) (omega (arith, high, near))
          ∙ ap (λ n. byte_of l (labelled (w ∷ ls) n (Num (slice_index x.bytes n)))) e)
      | inr far ↦ (
          let e : w.offset + 4 + (k - w.offset - 4) ≡ k = omega (arith, far) in
          get_or-append_right (take w.offset old) (word ++ drop (w.offset + 4) old) w.offset k 0 front high
          ∙ get_or-append_right word (drop (w.offset + 4) old) 4 (k - w.offset) 0 refl (omega (arith, far)) ∙ get_or-drop (w.offset + 4) old (k - w.offset - 4) 0 ∙ ap (λ n. get_or old n 0) e
          ∙ outside k lt (inr far))
    ]
  ]

  pub label_written : written ≡ labelled_bytes l x (w ∷ ls)
  label_written = same_number_lists written (labelled_bytes l x (w ∷ ls)) (new_length ∙ sym (labelled_length l x (w ∷ ls)))
      (λ k lt. (let few : k < x.size = (let n = new_length in omega (arith, n, lt)) in at k few ∙ sym (labelled_at l x (w ∷ ls) k few)))

-- ---- all sections

-- below the sections the data is zero
below_zero : (from : ℕ) (xs : List section.Part) (end : ℕ) → AreInOrder from xs end → (a : ℕ) → a < from → data_byte xs a ≡ Num 0
below_zero from [] end h a lt = refl
below_zero from (x ∷ xs) end h a lt =
    let low = h.0 in
    cond_both (nat_le x.address a && nat_lt a (x.address + x.size)) _ _ (λ s. s ≡ Num 0) (λ t. absurd (clash t low lt)) (λ t. below_zero (x.address + x.size) xs end h.1 a (omega (arith, low, lt)))
  where
    clash : (nat_le x.address a && nat_lt a (x.address + x.size)) ≡ true → from ≤ x.address → a < from → ⊥
    clash t low lt = grind (arith, nat_tests)

module _ (p : Prog) (l : Layout) where
  abbrev byte_at : ℕ → ℕ
  byte_at a = byte_of l (data_byte p.parts a)

  abbrev Are : List ℕ → Type 0
  Are bytes = bytes ≡ map byte_at (range_with_len DATA_START (length bytes))

  more : (xs ys : List ℕ) → Are xs → ((k : ℕ) → k < length ys → get_or ys k 0 ≡ byte_at (DATA_START + length xs + k)) → Are (xs ++ ys)
  more xs ys are h = same_number_lists (xs ++ ys) (map byte_at (range_with_len DATA_START (length (xs ++ ys)))) (sym (length-map-range_with_len byte_at DATA_START (length (xs ++ ys))))
      (λ k lt. by_case k lt (cases_lt k (length xs)))
    where
      by_case : (k : ℕ) → k < length (xs ++ ys) → (k < length xs) ⊎ (length xs ≤ k) → get_or (xs ++ ys) k 0 ≡ get_or (map byte_at (range_with_len DATA_START (length (xs ++ ys)))) k 0
      by_case k lt (inl low) =
          get_or_append_left xs ys 0 k low ∙ ap (λ bs. get_or bs k 0) are ∙ get_or-map-range_with_len byte_at DATA_START (length xs) k (DATA_START + k) 0 low refl
          ∙ sym (get_or-map-range_with_len byte_at DATA_START (length (xs ++ ys)) k (DATA_START + k) 0 lt refl)
      by_case k lt (inr high) =
          let n = length-append xs ys in
          let e : DATA_START + length xs + (k - length xs) ≡ DATA_START + k = omega (arith, high) in
          get_or-append_right xs ys (length xs) k 0 refl high ∙ h (k - length xs) (omega (arith, n, high, lt)) ∙ ap byte_at e
          ∙ sym (get_or-map-range_with_len byte_at DATA_START (length (xs ++ ys)) k (DATA_START + k) 0 lt refl)

  -- with zeros behind
  zeros : (xs : List ℕ) (n : ℕ) → Are xs → ((a : ℕ) → DATA_START + length xs ≤ a → a < DATA_START + length xs + n → data_byte p.parts a ≡ Num 0) → Are (xs ++ replicate n 0)
  zeros xs n are h = more xs (replicate n 0) are (λ k lt. (let few : k < n = (let m = length-replicate {A = ℕ} n 0 in omega (arith, m, lt)) in
      get_or-replicate n k 0 0 few ∙ sym (ap (byte_of l) (h (DATA_START + length xs + k) (omega arith) (omega (arith, few))))))

  pub none_put : AreInOrder DATA_START p.parts p.data_end → AreDataTo p l p.parts []
  none_put ordered = record { are = refl; ordered = ordered; same = λ a le. refl }

  module _ (x : section.Part) (rest : List section.Part) (bytes : List ℕ) (to : AreDataTo p l (x ∷ rest) bytes) where
    pub gap_small : DATA_START + length bytes ≤ x.address
    gap_small = to.ordered.0

    abbrev gapped : List ℕ
    gapped = bytes ++ replicate (x.address - DATA_START - length bytes) 0

    gapped_length : DATA_START + length gapped ≡ x.address
    gapped_length =
        let a = length-append bytes (replicate (x.address - DATA_START - length bytes) 0) in
        let n = length-replicate {A = ℕ} (x.address - DATA_START - length bytes) 0 in
        let g = gap_small in
        omega (arith, a, n, g)

    before : (a : ℕ) → DATA_START + length bytes ≤ a → a < x.address → data_byte p.parts a ≡ Num 0
    before a low lt = to.same a low ∙ cond_both (nat_le x.address a && nat_lt a (x.address + x.size)) _ _ (λ s. s ≡ Num 0) (λ t. absurd (clash t))
        (λ t. below_zero (x.address + x.size) rest p.data_end to.ordered.1 a (omega (arith, lt)))
      where
        clash : (nat_le x.address a && nat_lt a (x.address + x.size)) ≡ true → ⊥
        clash t = grind (arith, nat_tests)

    gap_are : Are gapped
    gap_are = zeros bytes (x.address - DATA_START - length bytes) to.are (λ a low lt. (let g = gap_small in before a low (omega (arith, g, lt))))

    inner : (k : ℕ) → k < x.size → data_byte p.parts (x.address + k) ≡ labelled x.labels k (Num (slice_index x.bytes k))
    inner k lt =
        let g = gap_small in
        let e : x.address + k - x.address ≡ k = omega arith in
        to.same (x.address + k) (omega (arith, g))
        ∙ cond_both (nat_le x.address (x.address + k) && nat_lt (x.address + k) (x.address + x.size)) (labelled x.labels (x.address + k - x.address) (Num (slice_index x.bytes (x.address + k - x.address)))) (data_byte rest (x.address + k))
        (λ s. s ≡ labelled x.labels k (Num (slice_index x.bytes k))) (λ t. ap (λ j. labelled x.labels j (Num (slice_index x.bytes j))) e) (λ t. absurd (missed t))
      where
        missed : (nat_le x.address (x.address + k) && nat_lt (x.address + k) (x.address + x.size)) ≡ false → ⊥
        missed t = grind (arith, nat_tests)

    abbrev part : List ℕ
    part = labelled_bytes l x x.labels

    put_length : DATA_START + length (gapped ++ part) ≡ x.address + x.size
    put_length = let a = length-append gapped part in let n = labelled_length l x x.labels in let g = gapped_length in omega (arith, a, n, g)

    pub part_put : AreDataTo p l rest (gapped ++ part)
    part_put = record {
      are = more gapped part gap_are (λ k lt. (
          let few : k < x.size = (let n = labelled_length l x x.labels in omega (arith, n, lt)) in
          let e : x.address + k ≡ DATA_START + length gapped + k = (let g = gapped_length in omega (arith, g)) in
          labelled_at l x x.labels k few ∙ ap (byte_of l) (sym (inner k few)) ∙ ap byte_at e));
      ordered = subst (λ n. AreInOrder n rest p.data_end) (sym put_length) to.ordered.1;
      same = λ a le. (let n = put_length in let g = gap_small in
          to.same a (omega (arith, n, g, le)) ∙ cond_both (nat_le x.address a && nat_lt a (x.address + x.size)) _ _ (λ s. s ≡ data_byte rest a) (λ t. absurd (behind a t (omega (arith, n, le)))) (λ t. refl));
    }
      where
        behind : (a : ℕ) → (nat_le x.address a && nat_lt a (x.address + x.size)) ≡ true → x.address + x.size ≤ a → ⊥
        behind a t le = grind (arith, nat_tests)

  pub all_put : (bytes : List ℕ) → AreDataTo p l [] bytes → bytes ++ replicate (p.data_end - DATA_START - length bytes) 0 ≡ data_bytes p l
  all_put bytes to =
      let end = to.ordered in
      let n : length (bytes ++ replicate (p.data_end - DATA_START - length bytes) 0) ≡ p.data_end - DATA_START =
      (let a = length-append bytes (replicate (p.data_end - DATA_START - length bytes) 0) in
      let m = length-replicate {A = ℕ} (p.data_end - DATA_START - length bytes) 0 in
      omega (arith, a, m, end)) in
      zeros bytes (p.data_end - DATA_START - length bytes) to.are (λ a low lt. to.same a low) ∙ ap (λ k. map byte_at (range_with_len DATA_START k)) n

-- ---- what the loops have

module _ (p : Prog) (well : IsWellFormed p) (l : Layout) (x : section.Part) (there : Contains p.parts x) (labels : List WordLabel) (same : labels ≡ x.labels) (i : ℕ) (some : 0 < i) (few : i ≤ length labels) (d : WordLabel)
    (old : List ℕ) (is : old ≡ labelled_bytes l x (drop i labels)) where
  abbrev item : WordLabel
  item = get_or labels (i - 1) d

  item_in : Contains x.labels item
  item_in = (i - 1, (let n = ap (λ (ls : List WordLabel). length ls) same in omega (arith, n, some, few)), ap (λ ls. get_or ls (i - 1) item) (sym same) ∙ get_or_default labels (i - 1) item d (omega (arith, some, few)))

  pub item_taken : IsTakenTarget p item.label
  item_taken = (well.parts x there).taken item item_in

  pub item_inside : item.offset + WORD_SIZE ≤ length old
  item_inside =
      let inside = (well.parts x there).inside item item_in in
      let n = ap (λ (bs : List ℕ). length bs) is ∙ labelled_length l x (drop i labels) in
      omega (arith, inside, n)

  pub item_written : (word : ℕ) (new : List ℕ) → word ≡ address_of l item.label → new ≡ take item.offset old ++ (be_digits word ++ drop (item.offset + WORD_SIZE) old) → new ≡ labelled_bytes l x (drop (i - 1) labels)
  item_written word new e h =
      let e1 : i - 1 + 1 ≡ i = omega (arith, some) in
      let split : drop (i - 1) labels ≡ item ∷ drop i labels = drop_more labels (i - 1) d (omega (arith, some, few)) ∙ ap (λ n. item ∷ drop n labels) e1 in
      h ∙ ap (λ v. take item.offset old ++ (be_digits v ++ drop (item.offset + WORD_SIZE) old)) e
      ∙ label_written p l x item (drop i labels) old is ((well.parts x there).inside item item_in) item_taken ∙ ap (labelled_bytes l x) (sym split)

module _ (p : Prog) (l : Layout) (items : List section.Part) (k : ℕ) (x : section.Part) (lt : k < length items) (at : x ≡ get_or items k x) (bytes : List ℕ) (to : AreDataTo p l (drop k items) bytes) where
  left : AreDataTo p l (x ∷ drop (k + 1) items) bytes
  left = subst (λ xs. AreDataTo p l xs bytes) (drop_more items k x lt ∙ ap (λ y. y ∷ drop (k + 1) items) (sym at)) to

  pub next_put : (n : ℕ) (more part new : List ℕ) → n ≡ length bytes → more ≡ bytes ++ replicate (x.address - DATA_START - n) 0 → part ≡ labelled_bytes l x x.labels → new ≡ more ++ part → AreDataTo p l (drop (k + 1) items) new
  next_put n more part new e a b c =
      let is : new ≡ (bytes ++ replicate (x.address - DATA_START - length bytes) 0) ++ labelled_bytes l x x.labels =
      c ∙ ap (λ ys. ys ++ part) (a ∙ ap (λ m. bytes ++ replicate (x.address - DATA_START - m) 0) e) ∙ ap (λ ys. (bytes ++ replicate (x.address - DATA_START - length bytes) 0) ++ ys) b in
      subst (AreDataTo p l (drop (k + 1) items)) (sym is) (part_put p l x (drop (k + 1) items) bytes left)

pub last_put : (p : Prog) (l : Layout) (items : List section.Part) (k : ℕ) → length items ≤ k → (bytes : List ℕ) → AreDataTo p l (drop k items) bytes
    → (n : ℕ) (new : List ℕ) → n ≡ length bytes → new ≡ bytes ++ replicate (p.data_end - DATA_START - n) 0 → new ≡ data_bytes p l
last_put p l items k all bytes to n new e h =
    h ∙ ap (λ m. bytes ++ replicate (p.data_end - DATA_START - m) 0) e ∙ all_put p l bytes (subst (λ xs. AreDataTo p l xs bytes) (drop_all k items all) to)
