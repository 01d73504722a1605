-- All that the loader asks for holds together at two samples.
use Rattle.std.proofs.Common.{◌≡◌, ℕ, ◌+◌, ◌-◌, ◌*◌, ◌<◌, ◌≤◌, ◌^◌, ◌⊎◌, List, [], ◌∷◌, length, take, drop, get_or, refl, sym, ap, ◌∙◌, subst, arith, inl, inr, Bool, true}
use Rattle.std.specs.Prelude.{◌&&◌, nat_lt}
use Rattle.std.specs.List.{flat_map}
use Rattle.std.proofs.lemmas.Bool.{cases_lt, and_parts, ltb-true}
use Rattle.std.proofs.lemmas.List.{length-take, length-drop, get_or-take, get_or-drop}
use Rattle.spu_word.specs.Bytes.{be_digits, quad_of}
use Rattle.spu_exec.specs.Transfers.{Stretch}
use Rattle.spu_ls.specs.Stores.{Store, load, placed}
use Rattle.spu_loader.specs.Code.{loader_code, stub_code}
use Rattle.spu_loader.specs.Overlays.{buffer_of, place_of, entry_of, IsRegion, IsLaid, Holds, HasBuffer, IsMapped, IsReady, IsStub, Direct, Kept, link_into}
use Rattle.spu_loader.specs.Samples.{AreEncoded, words_placed, first, first_words, first_state, FirstIsReady, second, second_words, second_store, second_state, SecondIsReady}
use Rattle.spu_loader.proofs.Stores.{placed_other, placed_inside}
use Rattle.spu_loader.proofs.Placing.{AllWords, digits_length}
use Rattle.spu_loader.proofs.Encoded.{all_length, stub_stands, loader_stands, rest_quad}

-- ---- the first

first_laid : IsLaid first
first_laid = record {
  loader = record { base = omega arith; some = omega arith; buffer = omega arith; table = omega arith; shift = (omega arith, omega arith); buffers = inl refl };
  base = refl;
  table = refl;
  buffer = refl;
  before = omega arith;
  below = omega arith;
  fits = omega arith;
  each = λ r h. record { some = omega arith; small = omega arith; quads = refl; offset = refl; word = omega arith };
}

only_one : (r : ℕ) → IsRegion first r → r ≡ 1
only_one r h = let a = h.0 in let b = h.1 in omega arith

first_rest : List ℕ
first_rest = 0 ∷ 0 ∷ 0 ∷ 0 ∷ 0 ∷ 0 ∷ 476 ∷ 0 ∷ 0 ∷ 0 ∷ 0 ∷ 0 ∷ 0 ∷ 0 ∷ 16384 ∷ (2 ^ 32 - 16384) ∷ 16384 ∷ 0 ∷ 0 ∷ 0 ∷ 0 ∷ 0 ∷ 640 ∷ 16 ∷ 640 ∷ 1 ∷ []

are_small : List ℕ → Bool
are_small [] = true
are_small (w ∷ ws) = nat_lt w (2 ^ 32) && are_small ws

small_by : (ws : List ℕ) → are_small ws ≡ true → AllWords ws
unfolding are_small
small_by [] h = tt
small_by (w ∷ ws) h = let p = and_parts (nat_lt w (2 ^ 32)) (are_small ws) h in (ltb-true w (2 ^ 32) p.0, small_by ws p.1)

module _ (stub loader file : List ℕ) (s : AreEncoded (stub_code 224 208 1 640) stub) (l : AreEncoded (loader_code first.loader) loader) (some : 656 ≤ length file) (few : length file ≤ 2 ^ 32) where
  abbrev first_store : Store
  first_store = words_placed 208 (first_words stub loader) (λ k. 0)

  first_small : AllWords first_rest
  unfolding first_rest are_small
  first_small = small_by first_rest refl

  first_quad : (p n : ℕ) → p ≡ 224 + 4 * (66 + n) → n + 3 < 26 → load first_store p ≡ quad_of (get_or first_rest n 0) (get_or first_rest (n + 1) 0) (get_or first_rest (n + 2) 0) (get_or first_rest (n + 3) 0)
  unfolding first_rest
  first_quad p n e h = rest_quad 224 208 (stub_code 224 208 1 640) (loader_code first.loader) stub loader first_rest (λ k. 0) s l first_small refl p n e h

  first_holds : Holds first first_store (first_state stub loader file).image
  unfolding first_rest
  first_holds = record {
    code = loader_stands 224 208 (stub_code 224 208 1 640) (loader_code first.loader) stub loader first_rest (λ k. 0) s l first_small refl;
    returns = first_quad 512 6 refl (omega arith);
    image_is = first_quad 528 10 refl (omega arith);
    step_is = first_quad 544 14 refl (omega arith);
    table = λ r h. subst (λ r. load first_store (entry_of first r) ≡ quad_of (place_of first r) 16 640 (buffer_of first r + 1)) (sym (only_one r h)) (first_quad 576 22 refl (omega arith));
  }

  first_buffer : (k : ℕ) → k < 1 → HasBuffer first k first_store (first_state stub loader file).image
  unfolding first_rest
  first_buffer k h = let e : 0 ≡ k = omega arith in subst (λ k. HasBuffer first k first_store (first_state stub loader file).image) e (inl (first_quad 496 2 refl (omega arith)))

  first_stub : IsStub first 208 1 640 first_store
  unfolding first_rest
  first_stub = record {
    aligned = refl;
    before = omega arith;
    region = omega arith;
    target = (refl, omega arith);
    code = stub_stands 224 208 (stub_code 224 208 1 640) (loader_code first.loader) stub loader first_rest (λ k. 0) s l first_small refl;
  }

  first_ready : IsReady first (first_state stub loader file)
  first_ready = record {
    running = refl;
    holds = first_holds;
    file = record { aligned = refl; fits = omega arith; regions = λ r h. omega arith };
    buffers = first_buffer;
    few = omega arith;
    untagged = refl;
    mask = omega arith;
  }

pub first_is_ready : FirstIsReady
first_is_ready stub loader file s l some few = (first_laid, first_ready stub loader file s l some few, first_stub stub loader file s l some few, Kept (omega arith))

-- ---- the second

second_laid : IsLaid second
second_laid = record {
  loader = record { base = omega arith; some = omega arith; buffer = omega arith; table = omega arith; shift = (omega arith, omega arith); buffers = inr (inl refl) };
  base = refl;
  table = refl;
  buffer = refl;
  before = omega arith;
  below = omega arith;
  fits = omega arith;
  each = λ r h. (let most = h.1 in record { some = omega arith; small = omega arith; quads = refl; offset = omega arith; word = omega arith });
}

one_or_two : (r : ℕ) → IsRegion second r → (r ≡ 1) ⊎ (r ≡ 2)
one_or_two r h = let a = h.0 in let b = h.1 in elim (cases_lt r 2) [ inl l ↦ inl (omega arith) | inr l ↦ inr (omega arith) ]

second_rest : List ℕ
second_rest = 0 ∷ 0 ∷ 0 ∷ 0 ∷ 0 ∷ 0 ∷ 2 ∷ 0 ∷ 0 ∷ 0 ∷ 476 ∷ 0 ∷ 0 ∷ 0 ∷ 1 ∷ 128 ∷ 0 ∷ 0 ∷ 16384 ∷ (2 ^ 32 - 16384) ∷ 16384 ∷ 0 ∷ 0 ∷ 0 ∷ 0 ∷ 0 ∷ 640 ∷ 16 ∷ 640 ∷ 1 ∷ 1664 ∷ 16 ∷ 656 ∷ 2 ∷ []

module _ (stub loader file : List ℕ) (s : AreEncoded (stub_code 224 208 1 640) stub) (l : AreEncoded (loader_code second.loader) loader) (some : 672 ≤ length file) (few : length file ≤ 2 ^ 32) where
  abbrev region_placed : Store
  region_placed = placed 1664 (take 16 (drop 656 file)) (λ k. 0)

  abbrev store : Store
  store = second_store stub loader file

  abbrev image : Stretch
  image = record { ea = 2 ^ 32 + 128; bytes = file }

  second_small : AllWords second_rest
  unfolding second_rest are_small
  second_small = small_by second_rest refl

  second_quad : (p n : ℕ) → p ≡ 224 + 4 * (66 + n) → n + 3 < 34 → load store p ≡ quad_of (get_or second_rest n 0) (get_or second_rest (n + 1) 0) (get_or second_rest (n + 2) 0) (get_or second_rest (n + 3) 0)
  unfolding second_rest
  second_quad p n e h = rest_quad 224 208 (stub_code 224 208 1 640) (loader_code second.loader) stub loader second_rest region_placed s l second_small refl p n e h

  second_table : (r : ℕ) → IsRegion second r → load store (entry_of second r) ≡ quad_of (place_of second r) (second.size r) (second.offset r) (buffer_of second r + 1)
  unfolding second_rest
  second_table r h = elim (one_or_two r h) [
    | inl e ↦ subst (λ r. load store (entry_of second r) ≡ quad_of (place_of second r) 16 (624 + 16 * r) (buffer_of second r + 1)) (sym e) (second_quad 592 26 refl (omega arith))
    | inr e ↦ subst (λ r. load store (entry_of second r) ≡ quad_of (place_of second r) 16 (624 + 16 * r) (buffer_of second r + 1)) (sym e) (second_quad 608 30 refl (omega arith))
  ]

  second_holds : Holds second store image
  unfolding second_rest
  second_holds = record {
    code = loader_stands 224 208 (stub_code 224 208 1 640) (loader_code second.loader) stub loader second_rest region_placed s l second_small refl;
    returns = second_quad 528 10 refl (omega arith);
    image_is = second_quad 544 14 refl (omega arith);
    step_is = second_quad 560 18 refl (omega arith);
    table = second_table;
  }

  -- the second region is mapped
  second_mapped : IsMapped second 2 store image
  unfolding second_rest
  second_mapped = record {
    quad = second_quad 512 6 refl (omega arith);
    bytes = λ k h.
        (let long = digits_length (second_words stub loader) ∙ ap (λ n. 4 * n) (all_length 224 208 (stub_code 224 208 1 640) (loader_code second.loader) stub loader second_rest region_placed s l second_small refl) in
        let cut = length-take 16 (drop 656 file) in
        let rest = length-drop 656 file in
        let e : 1664 + k - 1664 ≡ k = omega arith in
        placed_other region_placed 208 (flat_map be_digits (second_words stub loader)) (1664 + k) (inr (omega arith))
        ∙ placed_inside (λ k. 0) 1664 (take 16 (drop 656 file)) (1664 + k) (omega arith) (omega arith)
        ∙ ap (λ i. get_or (take 16 (drop 656 file)) i 0) e
        ∙ get_or-take 16 (drop 656 file) k 0 h
        ∙ get_or-drop 656 file k 0);
  }

  second_buffer : (k : ℕ) → k < 2 → HasBuffer second k store image
  unfolding second_rest
  second_buffer k h = elim (cases_lt k 1) [
    | inl l ↦ (let e : 0 ≡ k = omega arith in subst (λ k. HasBuffer second k store image) e (inl (second_quad 496 2 refl (omega arith))))
    | inr l ↦ (let e : 1 ≡ k = omega arith in subst (λ k. HasBuffer second k store image) e (inr (2, (omega arith, omega arith), refl, second_mapped)))
  ]

  second_stub : IsStub second 208 1 640 store
  unfolding second_rest
  second_stub = record {
    aligned = refl;
    before = omega arith;
    region = omega arith;
    target = (refl, omega arith);
    code = stub_stands 224 208 (stub_code 224 208 1 640) (loader_code second.loader) stub loader second_rest region_placed s l second_small refl;
  }

  second_ready : (pc : ℕ) (link : List ℕ) → IsReady second (second_state pc link stub loader file)
  second_ready pc link = record {
    running = refl;
    holds = second_holds;
    file = record { aligned = refl; fits = omega arith; regions = λ r h. (let most = h.1 in omega arith) };
    buffers = second_buffer;
    few = omega arith;
    untagged = refl;
    mask = omega arith;
  }

pub second_is_ready : SecondIsReady
second_is_ready stub loader file s l some few = (
  second_laid,
  second_ready stub loader file s l some few 208 (quad_of 1668 0 0 0),
  second_stub stub loader file s l some few,
  Direct 2 1668 (omega arith, omega arith) (second_mapped stub loader file s l some few) (omega arith) (omega arith) refl,
  second_ready stub loader file s l some few 476 (link_into second 2 1668),
)
