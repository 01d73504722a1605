-- The parts of a load segment that the code puts one behind the other.
use Rattle.std.proofs.Common.{◌≡◌, ℕ, suc, ◌+◌, ◌<◌, ◌≤◌, List, [], ◌∷◌, ◌++◌, length, take, get_or, Option, Some, Bool, true, false, cond, refl, sym, ap, ◌∙◌, append_assoc, arith}
use Rattle.std.specs.Prelude.{slice_get, drop}
use Rattle.std.specs.List.{flat_map}
use Rattle.std.proofs.lemmas.List.{append-nil, take_more, length-take-le}
use Rattle.std.proofs.lemmas.Option.{slice_get-get_or}
use Rattle.spu_word.specs.Bytes.{be_digits}
use Rattle.spu_word.specs.declared.limits.TheConstants.{STACK_TOP}
use Rattle.spu_elf.specs.declared.objects.Symbol.{Symbol}
use Rattle.spu_lift.specs.declared.program.Function.{Function}
use Rattle.spu_lift.specs.declared.program.Prog.{Prog}
use Rattle.spu_lift.specs.StartCode.{start_instructions}
use Rattle.spu_layout.specs.Layouts.{Layout}
use Rattle.spu_image.specs.Images.{AreWords, IsLoadSegment, bytes_of_words, data_bytes, function_symbol, function_symbols, segment, stack_name, stack_symbol_by, stack_symbols, start_quad}
use Rattle.spu_image.specs.Filling.{AreFilled}
use Rattle.spu_image.proofs.Filled.{all_filled}

pub words_append : (xs ys : List ℕ) → bytes_of_words (xs ++ ys) ≡ bytes_of_words xs ++ bytes_of_words ys
words_append [] ys = refl
words_append (x ∷ xs) ys = ap (λ bs. be_digits x ++ bs) (words_append xs ys) ∙ sym (append_assoc (be_digits x) (bytes_of_words xs) (bytes_of_words ys))

whole : (p : Prog) (l : Layout) (limit : ℕ) (start : List ℕ) (sections : List (List ℕ))
    → (front more last bytes : List ℕ) → front ≡ data_bytes p l ++ bytes_of_words (STACK_TOP ∷ limit ∷ 0 ∷ 0 ∷ []) → more ≡ front ++ bytes_of_words start → last ≡ more ++ bytes_of_words (0 ∷ []) → bytes ≡ last ++ flat_map bytes_of_words sections
    → bytes ≡ segment p l limit start sections
whole p l limit start sections front more last bytes a b c d =
    let body = flat_map bytes_of_words sections in
    let quad : List ℕ = start_quad limit in
    let base : List ℕ = data_bytes p l in
    let first : List ℕ = bytes_of_words start in
    let none : List ℕ = bytes_of_words (0 ∷ []) in
    let joined : (first ++ none) ++ body ≡ bytes_of_words (start ++ 0 ∷ []) ++ body = ap (λ bs. bs ++ body) (sym (words_append start (0 ∷ []))) in
    let all : bytes ≡ (((base ++ quad) ++ first) ++ none) ++ body = d ∙ ap (λ bs. bs ++ body) (c ∙ ap (λ bs. bs ++ none) (b ∙ ap (λ bs. bs ++ first) a)) in
    all ∙ ap (λ bs. bs ++ body) (append_assoc (base ++ quad) first none) ∙ append_assoc (base ++ quad) (first ++ none) body
    ∙ ap (λ bs. (base ++ quad) ++ bs) joined ∙ append_assoc base quad (bytes_of_words (start ++ 0 ∷ []) ++ body)

pub segment_made : (p : Prog) (l : Layout) (limit : ℕ) (start : List ℕ) → AreWords l 0 0 (start_instructions p.data_end p.entry) start
    → (sections : List (List ℕ)) → AreFilled p l (length p.functions) 0 sections
    → (front more last bytes : List ℕ) → front ≡ data_bytes p l ++ bytes_of_words (STACK_TOP ∷ limit ∷ 0 ∷ 0 ∷ []) → more ≡ front ++ bytes_of_words start → last ≡ more ++ bytes_of_words (0 ∷ []) → bytes ≡ last ++ flat_map bytes_of_words sections
    → IsLoadSegment p l limit bytes
segment_made p l limit start starts sections filled front more last bytes a b c d = record {
  start = start;
  starts = starts;
  sections = sections;
  count = filled.count;
  each = λ k s e. all_filled p l sections filled k s e;
  is = whole p l limit start sections front more last bytes a b c d;
}

-- the symbols of one more function
symbols_more : (l : Layout) (test : Function → Bool) (k : ℕ) (xs : List Function) (g : Function) → function_symbols l test k (xs ++ g ∷ []) ≡ function_symbols l test k xs ++ function_symbols l test (k + length xs) (g ∷ [])
symbols_more l test k [] g = let e : k ≡ k + 0 = omega arith in ap (λ n. function_symbols l test n (g ∷ [])) e
symbols_more l test k (x ∷ xs) g =
    let e : suc k + length xs ≡ k + suc (length xs) = omega arith in
    let rest : function_symbols l test (suc k) (xs ++ g ∷ []) ≡ function_symbols l test (suc k) xs ++ function_symbols l test (k + suc (length xs)) (g ∷ []) = symbols_more l test (suc k) xs g ∙ ap (λ n. function_symbols l test (suc k) xs ++ function_symbols l test n (g ∷ [])) e in
    by_test (test x) rest
  where
    by_test : (b : Bool) → function_symbols l test (suc k) (xs ++ g ∷ []) ≡ function_symbols l test (suc k) xs ++ function_symbols l test (k + suc (length xs)) (g ∷ [])
        → cond b (function_symbol l k x ∷ function_symbols l test (suc k) (xs ++ g ∷ [])) (function_symbols l test (suc k) (xs ++ g ∷ []))
        ≡ cond b (function_symbol l k x ∷ function_symbols l test (suc k) xs) (function_symbols l test (suc k) xs) ++ function_symbols l test (k + suc (length xs)) (g ∷ [])
    by_test true rest = ap (λ ss. function_symbol l k x ∷ ss) rest
    by_test false rest = rest

pub symbols_next : (l : Layout) (test : Function → Bool) (others : List Function) (i : ℕ) (g : Function) (old now new : List Symbol) → i < length others → g ≡ get_or others i g
    → now ≡ old ++ function_symbols l test 1 (take i others) → new ≡ now ++ function_symbols l test (i + 1) (g ∷ []) → new ≡ old ++ function_symbols l test 1 (take (i + 1) others)
symbols_next l test others i g old now new lt item a b =
    let n : 1 + length (take i others) ≡ i + 1 = (let t = length-take-le i others (omega arith) in omega (arith, t)) in
    let rest : function_symbols l test 1 (take (i + 1) others) ≡ function_symbols l test 1 (take i others) ++ function_symbols l test (i + 1) (g ∷ []) =
    ap (function_symbols l test 1) (take_more others i g lt ∙ ap (λ x. take i others ++ x ∷ []) (sym item)) ∙ symbols_more l test 1 (take i others) g ∙ ap (λ k. function_symbols l test 1 (take i others) ++ function_symbols l test k (g ∷ [])) n in
    b ∙ ap (λ ss. ss ++ function_symbols l test (i + 1) (g ∷ [])) a ∙ append_assoc old (function_symbols l test 1 (take i others)) (function_symbols l test (i + 1) (g ∷ []))
    ∙ ap (λ ss. old ++ ss) (sym rest)

-- a function behind the start code
pub other_there : (p : Prog) (others : List Function) (i : ℕ) (g : Function) → 1 ≤ length p.functions → others ≡ drop 1 p.functions → i < length others → g ≡ get_or others i g → slice_get p.functions (i + 1) ≡ Some g
other_there p others i g some same lt is = behind p.functions some ∙ ap (λ fs. slice_get fs i) (sym same) ∙ slice_get-get_or others i g lt ∙ ap Some (sym is)
  where
    behind : (fs : List Function) → 1 ≤ length fs → slice_get fs (i + 1) ≡ slice_get (drop 1 fs) i
    behind [] h = absurd (omega arith)
    behind (f ∷ fs) h = let e : i + 1 ≡ suc i = omega arith in ap (slice_get (f ∷ fs)) e

-- the stack symbol of one more function
stack_more : (told : ℕ → Option ℕ) (k : ℕ) (xs : List Function) (g : Function)
    → stack_symbols told k (xs ++ g ∷ []) ≡ stack_symbols told k xs ++ stack_symbol_by (stack_name (k + length xs) g) (told (k + length xs))
stack_more told k [] g =
    let e : k ≡ k + 0 = omega arith in
    append-nil (stack_symbol_by (stack_name k g) (told k)) ∙ ap (λ n. stack_symbol_by (stack_name n g) (told n)) e
stack_more told k (x ∷ xs) g =
    let e : suc k + length xs ≡ k + suc (length xs) = omega arith in
    let first : List Symbol = stack_symbol_by (stack_name k x) (told k) in
    ap (λ ss. first ++ ss) (stack_more told (suc k) xs g ∙ ap (λ n. stack_symbols told (suc k) xs ++ stack_symbol_by (stack_name n g) (told n)) e)
    ∙ sym (append_assoc first (stack_symbols told (suc k) xs) (stack_symbol_by (stack_name (k + suc (length xs)) g) (told (k + suc (length xs)))))

pub stack_next : (told : ℕ → Option ℕ) (others : List Function) (i : ℕ) (g : Function) (need : Option ℕ) (old now new : List Symbol) → i < length others → g ≡ get_or others i g → need ≡ told (i + 1)
    → now ≡ old ++ stack_symbols told 1 (take i others) → new ≡ now ++ stack_symbol_by (stack_name (i + 1) g) need → new ≡ old ++ stack_symbols told 1 (take (i + 1) others)
stack_next told others i g need old now new lt item e a b =
    let n : 1 + length (take i others) ≡ i + 1 = (let t = length-take-le i others (omega arith) in omega (arith, t)) in
    let own : List Symbol = stack_symbol_by (stack_name (i + 1) g) (told (i + 1)) in
    let rest : stack_symbols told 1 (take (i + 1) others) ≡ stack_symbols told 1 (take i others) ++ own =
    ap (stack_symbols told 1) (take_more others i g lt ∙ ap (λ x. take i others ++ x ∷ []) (sym item)) ∙ stack_more told 1 (take i others) g ∙ ap (λ k. stack_symbols told 1 (take i others) ++ stack_symbol_by (stack_name k g) (told k)) n in
    b ∙ ap (λ o. now ++ stack_symbol_by (stack_name (i + 1) g) o) e ∙ ap (λ ss. ss ++ own) a ∙ append_assoc old (stack_symbols told 1 (take i others)) own ∙ ap (λ ss. old ++ ss) (sym rest)
