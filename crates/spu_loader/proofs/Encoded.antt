-- Words that are instructions, where they are placed in a store behind one another.
use Rattle.std.proofs.Common.{◌≡◌, ℕ, zero, suc, ◌+◌, ◌*◌, ◌<◌, ◌^◌, List, [], ◌∷◌, ◌++◌, length, get_or, Some, refl, sym, ap, ap₂, ◌∙◌, arith}
use Rattle.std.specs.Prelude.{slice_get}
use Rattle.std.specs.List.{All}
use Rattle.std.proofs.lemmas.List.{length-append, length-map, get_or_append_left, get_or-append-add}
use Rattle.spu_word.specs.Bytes.{quad_of}
use Rattle.spu_isa.specs.declared.instruction.Inst.{Inst}
use Rattle.spu_isa.specs.Decoding.{decoded}
use Rattle.spu_ls.specs.Stores.{Store, load}
use Rattle.spu_loader.specs.Forms.{AreWordsOf, HasCode}
use Rattle.spu_loader.specs.Samples.{AreEncoded, words_placed}
use Rattle.spu_loader.proofs.Placing.{AllWords, fetch_placed, load_placed}

-- each word is its instruction
pub word_decodes : (words : List ℕ) (code : List Inst) (n : ℕ) → AreWordsOf code words → n < length code → decoded (get_or words n 0) ≡ slice_get code n
word_decodes [] [] n h l = absurd (omega arith)
word_decodes [] (x ∷ xs) n h l = absurd (let e = h in cc)
word_decodes (w ∷ ws) [] n h l = absurd (omega arith)
word_decodes (w ∷ ws) (x ∷ xs) zero h l = let e = h in cc
word_decodes (w ∷ ws) (x ∷ xs) (suc n) h l = word_decodes ws xs n (let e = h in cc) (omega arith)

pub words_length : (words : List ℕ) (code : List Inst) → AreWordsOf code words → length words ≡ length code
words_length words code h = sym (length-map words decoded) ∙ ap length h ∙ length-map code Some

pub small_words : (words : List ℕ) → All (λ w. w < 2 ^ 32) words → AllWords words
small_words [] h = tt
small_words (w ∷ ws) h = (h 0 0 (omega arith), small_words ws (λ k d l. h (suc k) d (omega arith)))

pub small_append : (xs ys : List ℕ) → AllWords xs → AllWords ys → AllWords (xs ++ ys)
small_append [] ys h g = g
small_append (x ∷ xs) ys h g = (h.0, small_append xs ys h.1 g)

same_quad : (a b c d a' b' c' d' : ℕ) → a ≡ a' → b ≡ b' → c ≡ c' → d ≡ d' → quad_of a b c d ≡ quad_of a' b' c' d'
same_quad a b c d a' b' c' d' e f g h = ap₂ (λ x y. quad_of x y c d) e f ∙ ap₂ (λ x y. quad_of a' b' x y) g h

-- a stub, the loader behind it, and other words behind that
module _ (base at : ℕ) (stub_is loader_is : List Inst) (stub loader rest : List ℕ) (m : Store) (s : AreEncoded stub_is stub) (l : AreEncoded loader_is loader) (small : AllWords rest) (next : base ≡ at + 4 * length stub_is) where
  abbrev all : List ℕ
  all = stub ++ (loader ++ rest)

  all_small : AllWords all
  all_small = small_append stub (loader ++ rest) (small_words stub s.small) (small_append loader rest (small_words loader l.small) small)

  pub all_length : length all ≡ length stub_is + (length loader_is + length rest)
  all_length =
      length-append stub (loader ++ rest)
      ∙ ap₂ (λ x y. x + y) (words_length stub stub_is s.words_are) (length-append loader rest ∙ ap (λ x. x + length rest) (words_length loader loader_is l.words_are))

  stub_word : (n : ℕ) → n < length stub_is → get_or all n 0 ≡ get_or stub n 0
  stub_word n h = let e = words_length stub stub_is s.words_are in get_or_append_left stub (loader ++ rest) 0 n (omega arith)

  loader_word : (n : ℕ) → n < length loader_is → get_or all (length stub_is + n) 0 ≡ get_or loader n 0
  loader_word n h =
      let e = words_length stub stub_is s.words_are in
      let f = words_length loader loader_is l.words_are in
      ap (λ i. get_or all (i + n) 0) (sym e) ∙ get_or-append-add stub (loader ++ rest) n 0 ∙ get_or_append_left loader rest 0 n (omega arith)

  rest_word : (j n : ℕ) → j ≡ length stub_is + (length loader_is + n) → get_or all j 0 ≡ get_or rest n 0
  rest_word j n i =
      let e = words_length stub stub_is s.words_are in
      let f = words_length loader loader_is l.words_are in
      let k : j ≡ length stub + (length loader + n) = omega arith in
      ap (λ i. get_or all i 0) k ∙ get_or-append-add stub (loader ++ rest) (length loader + n) 0 ∙ get_or-append-add loader rest n 0

  pub stub_stands : HasCode stub_is at (words_placed at all m)
  stub_stands n h =
      let long = all_length in
      ap decoded (fetch_placed at all m (at + 4 * n) n refl (omega arith) all_small ∙ stub_word n h) ∙ word_decodes stub stub_is n s.words_are h

  pub loader_stands : HasCode loader_is base (words_placed at all m)
  loader_stands n h =
      let long = all_length in
      ap decoded (fetch_placed at all m (base + 4 * n) (length stub_is + n) (omega arith) (omega arith) all_small ∙ loader_word n h) ∙ word_decodes loader loader_is n l.words_are h

  pub rest_quad : (p n : ℕ) → p ≡ base + 4 * (length loader_is + n) → n + 3 < length rest
      → load (words_placed at all m) p ≡ quad_of (get_or rest n 0) (get_or rest (n + 1) 0) (get_or rest (n + 2) 0) (get_or rest (n + 3) 0)
  rest_quad p n e h =
      let long = all_length in
      let j : ℕ = length stub_is + (length loader_is + n) in
      load_placed at all m p j (omega arith) (omega arith)
      ∙ same_quad _ _ _ _ _ _ _ _ (rest_word j n refl) (rest_word (j + 1) (n + 1) (omega arith)) (rest_word (j + 2) (n + 2) (omega arith)) (rest_word (j + 3) (n + 3) (omega arith))
