-- The table of regions, entry by entry.
use Rattle.std.proofs.Common.{◌≡◌, ℕ, zero, suc, ◌+◌, ◌-◌, ◌*◌, ◌%◌, ◌≤◌, ◌<◌, List, [], ◌∷◌, ◌++◌, length, get_or, map, replicate, refl, sym, ap, ◌∙◌, arith, append_assoc}
use Rattle.std.specs.List.{flat_map, range_with_len}
use Rattle.std.proofs.lemmas.Grind.{flat_map-append}
use Rattle.std.proofs.lemmas.List.{append-nil, length-map}
use Rattle.spu_word.specs.declared.limits.TheConstants.{QUAD_SIZE, STORE_SIZE}
use Rattle.spu_elf.specs.Rows.{begins, front_size}
use Rattle.spu_lift.specs.declared.program.Prog.{Prog}
use Rattle.spu_plan.specs.declared.plan.Plan.{Plan}
use Rattle.spu_layout.specs.Placing.{buffers_start, region_size, region_start}
use Rattle.spu_image.specs.Images.{bytes_of_words}
use Rattle.spu_image.specs.Overlays.{offset_from, table, table_entry}
use Rattle.spu_image.specs.OverlayFilling.{AreRegions, end_after, offset_of, sizes_with}

-- ---- places in the file

end_zero : (at : ℕ) (ns : List ℕ) → end_after at ns 0 ≡ at
end_zero at [] = refl
end_zero at (n ∷ ns) = refl

end_next : (at : ℕ) (ns : List ℕ) (k : ℕ) → k < length ns → end_after at ns (suc k) ≡ begins (end_after at ns k) + get_or ns k 0
end_next at [] k lt = absurd (omega arith)
end_next at (n ∷ ns) zero lt = end_zero (begins at + n) ns
end_next at (n ∷ ns) (suc k) lt = end_next (begins at + n) ns k (omega arith)

offset_is : (at : ℕ) (ns : List ℕ) (k : ℕ) → k < length ns → offset_from at ns k ≡ begins (end_after at ns k)
offset_is at [] k lt = absurd (omega arith)
offset_is at (n ∷ ns) zero lt = refl
offset_is at (n ∷ ns) (suc k) lt = offset_is (begins at + n) ns k (omega arith)

size_of : (regions : List (List ℕ)) (r : ℕ) → r < length regions → get_or (map (λ (bytes : List ℕ). length bytes) regions) r 0 ≡ length (get_or regions r [])
size_of [] r lt = absurd (omega arith)
size_of (x ∷ xs) zero lt = refl
size_of (x ∷ xs) (suc r) lt = size_of xs r (omega arith)

pub begins_near : (at : ℕ) → begins at ≤ at + 127
begins_near at = omega arith

-- ---- entries

range_more : (a n : ℕ) → range_with_len a (n + 1) ≡ range_with_len a n ++ (a + n) ∷ []
range_more a n = ap (range_with_len a) (let e : n + 1 ≡ suc n = omega arith in e) ∙ by_suc a n
  where
    by_suc : (a n : ℕ) → range_with_len a (suc n) ≡ range_with_len a n ++ (a + n) ∷ []
    by_suc a zero = ap (λ (k : ℕ). k ∷ []) (let e : a ≡ a + 0 = omega arith in e)
    by_suc a (suc n) = ap (λ (xs : List ℕ). a ∷ xs) (by_suc (a + 1) n ∙ ap (λ (k : ℕ). range_with_len (a + 1) n ++ k ∷ []) (let e : a + 1 + n ≡ a + suc n = omega arith in e))

entries_more : (f : ℕ → List ℕ) (r : ℕ) → flat_map f (range_with_len 1 (r + 1)) ≡ flat_map f (range_with_len 1 r) ++ f (1 + r)
entries_more f r = ap (flat_map f) (range_more 1 r) ∙ (flat_map-append f (range_with_len 1 r) ((1 + r) ∷ []) ∙ ap (λ bs. flat_map f (range_with_len 1 r) ++ bs) (append-nil (f (1 + r))))

abbrev quad_words : ℕ → ℕ → ℕ → ℕ → List ℕ
quad_words a b c d = bytes_of_words (a ∷ b ∷ c ∷ d ∷ [])

same_quad : (a b c d e f g h : ℕ) → a ≡ e → b ≡ f → c ≡ g → d ≡ h → quad_words a b c d ≡ quad_words e f g h
same_quad a b c d e f g h p q r s = ap (λ x. quad_words x b c d) p ∙ (ap (λ x. quad_words e x c d) q ∙ (ap (λ x. quad_words e f x d) r ∙ ap (λ x. quad_words e f g x) s))

module _ (p : Prog) (plan : Plan) (regions : List (List ℕ)) (are : AreRegions p plan regions) (load : ℕ) (small : load ≤ STORE_SIZE) where
  abbrev front : ℕ
  front = front_size (length regions + 1)

  abbrev sizes : List ℕ
  sizes = sizes_with load regions

  long : length sizes ≡ length regions + 1
  long = (let n = length-map regions (λ (bytes : List ℕ). length bytes) in omega (arith, n))

  pub first_end : end_after front sizes (0 + 1) ≡ begins front + load
  first_end = end_zero (begins front + load) (map (λ (bytes : List ℕ). length bytes) regions)

  pub first_low : begins front + load ≤ 1048576
  first_low = (let near = begins_near front in let few = are.few in let n = are.count in let within = are.within in omega (arith, near, few, n, within, small))

  -- where a region's bytes stand, and end
  pub place_is : (r end : ℕ) → r < length regions → end ≡ end_after front sizes (r + 1) → begins end ≡ offset_of load regions (1 + r)
  place_is r end lt is =
      let n : r + 1 ≡ 1 + r = omega arith in
      ap begins (is ∙ ap (end_after front sizes) n) ∙ sym (offset_is front sizes (1 + r) (let m = long in omega (arith, lt, m)))

  pub end_is : (r end size : ℕ) → r < length regions → end ≡ end_after front sizes (r + 1) → size ≡ length (get_or regions r []) → begins end + size ≡ end_after front sizes (r + 1 + 1)
  end_is r end size lt is own =
      let n : r + 1 + 1 ≡ suc (suc r) = omega arith in
      let m : suc r ≡ r + 1 = omega arith in
      let next = end_next front sizes (suc r) (let m = long in omega (arith, lt, m)) in
      let its = size_of regions r lt in
      let same : begins end ≡ begins (end_after front sizes (suc r)) = ap begins (is ∙ ap (end_after front sizes) (sym m)) in
      sym (ap (end_after front sizes) n ∙ (next ∙ omega (arith, its, own, same)))

  pub entry_is : (r address size offset number : ℕ) → r < plan.regions → address ≡ buffers_start p plan + plan.buffer * (r % plan.buffers) → size ≡ length (get_or regions r []) → offset ≡ offset_of load regions (1 + r)
      → number ≡ r % plan.buffers + 1 → bytes_of_words (address ∷ size ∷ offset ∷ number ∷ []) ≡ table_entry p plan (offset_of load regions) (1 + r)
  entry_is r address size offset number lt a b c d =
      let n : suc r ≡ 1 + r = omega arith in
      let back : r ≡ 1 + r - 1 = omega arith in
      same_quad address size offset number (region_start p plan (1 + r)) (region_size p plan (1 + r)) (offset_of load regions (1 + r)) ((1 + r - 1) % plan.buffers + 1)
      (a ∙ ap (region_start p plan) n) (b ∙ (are.sizes r lt ∙ ap (region_size p plan) n)) c (d ∙ ap (λ k. k % plan.buffers + 1) back)

  -- the entries so far, behind that of the root
  abbrev so_far : ℕ → List ℕ
  so_far r = replicate QUAD_SIZE 0 ++ flat_map (table_entry p plan (offset_of load regions)) (range_with_len 1 r)

  pub entries_next : (r : ℕ) (old now new entry : List ℕ) → now ≡ old ++ so_far r → new ≡ now ++ entry → entry ≡ table_entry p plan (offset_of load regions) (1 + r) → new ≡ old ++ so_far (r + 1)
  entries_next r old now new entry is made its =
      let entries : List ℕ = flat_map (table_entry p plan (offset_of load regions)) (range_with_len 1 r) in
      let own : List ℕ = table_entry p plan (offset_of load regions) (1 + r) in
      made ∙ (ap (λ bs. bs ++ entry) is ∙ (ap (λ bs. (old ++ so_far r) ++ bs) its ∙ (append_assoc old (so_far r) own
      ∙ ap (λ bs. old ++ bs) (append_assoc (replicate QUAD_SIZE 0) entries own ∙ ap (λ bs. replicate QUAD_SIZE 0 ++ bs) (sym (entries_more (table_entry p plan (offset_of load regions)) r))))))

  pub table_is : (old now new : List ℕ) → now ≡ old ++ so_far plan.regions → new ≡ now ++ replicate (QUAD_SIZE * (length p.code - plan.regions)) 0 → new ≡ old ++ table p plan (offset_of load regions)
  table_is old now new is made =
      let entries : List ℕ = flat_map (table_entry p plan (offset_of load regions)) (range_with_len 1 plan.regions) in
      let rest : List ℕ = replicate (QUAD_SIZE * (length p.code - plan.regions)) 0 in
      made ∙ (ap (λ bs. bs ++ rest) is ∙ (append_assoc old (so_far plan.regions) rest ∙ ap (λ bs. old ++ bs) (append_assoc (replicate QUAD_SIZE 0) entries rest)))
