-- The functions and sections of data that are built of objects: they are there, where each word is lifted.
use Rattle.std.proofs.Common.{◌≡◌, ℕ, zero, suc, ◌+◌, ◌-◌, ◌/◌, ◌<◌, ◌≤◌, ◌⊎◌, ◌↔◌, Bool, true, false, not, List, [], ◌∷◌, ◌++◌, length, Some, slice_get, refl, ap, subst, ◌∙◌, inl, inr, arith}
use Rattle.std.specs.List.{Contains}
use Rattle.std.proofs.lemmas.Bool.{cases_Bool}
use Rattle.std.proofs.lemmas.Option.{none-some}
use Rattle.spu_word.specs.declared.limits.TheConstants.{WORD_SIZE}
use Rattle.spu_word.proofs.Places.{get_some}
use Rattle.spu_elf.specs.declared.objects.Section.{Section}
use Rattle.spu_elf.specs.declared.objects.Object.{Object}
use Rattle.spu_lift.specs.declared.functions.FunctionSymbol.{FunctionSymbol}
use Rattle.spu_lift.specs.declared.functions.Place.{Place}
use Rattle.spu_lift.specs.declared.program.SymInst.{SymInst}
use Rattle.spu_lift.specs.declared.program.Function.{Function}
use Rattle.spu_lift.specs.declared.program.WordLabel.{WordLabel}
use Rattle.spu_lift.specs.declared.program.Part.{Part}
use Rattle.spu_lift.specs.StartCode.{start_code}
use Rattle.spu_lift.specs.WellFormed.{IsRising}
use Rattle.spu_lift.specs.Tables.{code_number, data_address, holds_data, section_at}
use Rattle.spu_lift.specs.FunctionTables.{HasPlaces, symbol_name}
use Rattle.spu_lift.specs.TakenPlaces.{LabelsPlace}
use Rattle.spu_lift.specs.Built.{AreFunctionsBuilt, AreInstructions, AreLabels, ArePartsBuilt, AreReady, AreWordsFilled, IsFunctionBuilt, IsPartBuilt, IsReady, filled, label_at, word_spot}
use Rattle.spu_lift.proofs.ExtentFacts.{object_at}
use Rattle.spu_lift.proofs.RisingTaken.{ArePassing, none_passing, one_passing, passing_contained, skipped_passing}
use Rattle.spu_lift.proofs.BuiltLemmas.{functions_more, instructions_more}
use Rattle.spu_lift.proofs.BuiltParts.{labels_more, no_labels, no_parts, no_words, objects_more, parts_more, parts_same, words_more}
use Rattle.spu_lift.proofs.BuiltTaken.{decided_label}
use Rattle.spu_lift.proofs.Decisions.{Decided}

next_is : (n : ℕ) → n + 1 ≡ suc n
next_is n = omega arith

-- ---- rising numbers that pass a test

abbrev HasPassing : (ℕ → Bool) → ℕ → Type 0
HasPassing such n = (xs : List ℕ) × ArePassing such n xs

passing_to : (such : ℕ → Bool) (n : ℕ) → HasPassing such (n + 1)
passing_to such zero = ([], none_passing such)
passing_to such (suc n) = subst (λ m. HasPassing such (m + 1)) (next_is n) (one_more (passing_to such n) (cases_Bool (such (n + 1))))
  where
    one_more : HasPassing such (n + 1) → (such (n + 1) ≡ true) ⊎ (such (n + 1) ≡ false) → HasPassing such ((n + 1) + 1)
    one_more (xs, are) (inl passes) = (xs ++ (n + 1) ∷ [], one_passing such (n + 1) xs (omega arith) passes are)
    one_more (xs, are) (inr fails) = (xs, skipped_passing such (n + 1) xs fails are)

-- the numbers from 1 to a last one that pass
pub record ArePassed (such : ℕ → Bool) (last : ℕ) (xs : List ℕ) : Type 0 where
  pub rising : IsRising xs
  pub these : (m : ℕ) → Contains xs m ↔ ((1 ≤ m) × (m ≤ last) × (such m ≡ true))

pub passed_to : (such : ℕ → Bool) (last : ℕ) → (xs : List ℕ) × ArePassed such last xs
passed_to such last =
    let are = passing_to such last in (
      are.0,
      record {
        rising = are.1.rising;
        these = λ m.
            let has = passing_contained such (last + 1) are.0 are.1 m in
            (λ c. let is = has.0 c in let less = is.1 in (is.0, omega (arith, less), is.2), λ is. let less = is.1 in has.1 (is.0, omega (arith, less), is.2));
      },
    )

-- those below a count
abbrev Below : (ℕ → Bool) → ℕ → List ℕ → Type 0
Below such count xs = (m : ℕ) → Contains xs m ↔ ((1 ≤ m) × (m < count) × (such m ≡ true))

below_count : (such : ℕ → Bool) (count : ℕ) (xs : List ℕ) → ArePassed such (count - 1) xs → Below such count xs
below_count such count xs are m =
    let has = are.these m in
    (λ c. let is = has.0 c in let some = is.0 in let less = is.1 in (is.0, omega (arith, some, less), is.2), λ is. let less = is.1 in has.1 (is.0, omega (arith, less), is.2))

-- ---- functions

abbrev HasCode : List Object → List FunctionSymbol → ℕ → FunctionSymbol → ℕ → Type 0
HasCode os fs n f words = (code : List SymInst) × AreInstructions os fs n f words code

code_to : (os : List Object) (fs : List FunctionSymbol) (n : ℕ) (f : FunctionSymbol) → IsReady os fs n f → (words : ℕ) → words ≤ f.size / WORD_SIZE → HasCode os fs n f words
code_to os fs n f ready zero most = ([], record { count = refl; each = λ w s at. absurd (none-some s at) })
code_to os fs n f ready (suc w) most =
    let before = code_to os fs n f ready w (omega (arith, most)) in
    let s = ready.lifts w (omega (arith, most)) in
    subst (HasCode os fs n f) (next_is w) (before.0 ++ s.0 ∷ [], instructions_more os fs n f w before.0 (before.0 ++ s.0 ∷ []) s.0 before.1 s.1 refl)

function_there : (os : List Object) (fs : List FunctionSymbol) (is_taken : Place → Bool) (n : ℕ) (f : FunctionSymbol) → IsReady os fs n f → (g : Function) × IsFunctionBuilt os fs is_taken n f g
function_there os fs is_taken n f ready =
    let code = code_to os fs n f ready (f.size / WORD_SIZE) (omega arith) in
    let words = passed_to (λ w. is_taken (record { function = n; word = w })) (f.size / WORD_SIZE - 1) in (
      record { name = symbol_name os f; global = not f.local; section = code_number os f.object f.section; offset = f.offset; code = code.0; taken = words.0 },
      record {
        name = refl;
        global = refl;
        section = refl;
        offset = refl;
        code = code.1;
        rising = words.1.rising;
        taken = below_count (λ w. is_taken (record { function = n; word = w })) (f.size / WORD_SIZE) words.0 words.1;
      },
    )

module _ (os : List Object) (fs : List FunctionSymbol) (is_taken : Place → Bool) (data_end entry : ℕ) (ready : AreReady os fs) where
  abbrev HasFunctions : ℕ → Type 0
  HasFunctions n = (gs : List Function) × AreFunctionsBuilt os fs is_taken data_end entry n gs

  pub functions_to : (n : ℕ) → n ≤ length fs → HasFunctions n
  functions_to zero most = (start_code data_end entry ∷ [], record { start = refl; count = refl; each = λ i f g less at there. absurd (omega (arith, less)) })
  functions_to (suc n) most =
      let before = functions_to n (omega (arith, most)) in
      let f = get_some fs n (omega (arith, most)) in
      let g = function_there os fs is_taken (n + 1) f.0 (ready n f.0 f.1) in
      subst HasFunctions (next_is n) (before.0 ++ g.0 ∷ [], functions_more os fs is_taken data_end entry n before.0 (before.0 ++ g.0 ∷ []) f.0 g.0 before.1 f.1 g.1 refl)

-- ---- sections of data

abbrev HasBytes : List Object → ℕ → ℕ → List ℕ → ℕ → Type 0
HasBytes os n k old w = (bytes : List ℕ) × AreWordsFilled os n k old w bytes

bytes_to : (os : List Object) (n k : ℕ) (old : List ℕ) (w : ℕ) → w ≤ length old / WORD_SIZE → HasBytes os n k old w
bytes_to os n k old zero most = (old, no_words os n k old old refl)
bytes_to os n k old (suc w) most =
    let before = bytes_to os n k old w (omega (arith, most)) in
    subst (HasBytes os n k old) (next_is w) (filled os (word_spot n k w) before.0, words_more os n k old w before.0 (filled os (word_spot n k w) before.0) before.1 (omega (arith, most)) refl)

module _ (os : List Object) (fs : List FunctionSymbol) (has : HasPlaces fs) where
  abbrev HasLabels : ℕ → ℕ → ℕ → Type 0
  HasLabels n k w = (ls : List WordLabel) × AreLabels os fs n k w ls

  labels_to : (n k w : ℕ) → HasLabels n k w
  labels_to n k zero = ([], no_labels os fs n k)
  labels_to n k (suc w) = subst (HasLabels n k) (next_is w) (one_more (labels_to n k w) (decided_label os fs has (word_spot n k w)))
    where
      one_more : HasLabels n k w → Decided ((p : Place) × LabelsPlace os fs (word_spot n k w) p) → HasLabels n k (w + 1)
      one_more (ls, are) (inl (p, is)) = (ls ++ label_at (word_spot n k w) p ∷ [], labels_more os fs n k w ls (ls ++ label_at (word_spot n k w) p ∷ []) are (inr (p, is, refl)))
      one_more (ls, are) (inr none) = (ls, labels_more os fs n k w ls ls are (inl (refl, λ p is. none (p, is))))

  part_there : (n k : ℕ) (t : Section) (at : ℕ) → (part : Part) × IsPartBuilt os fs n k t at part
  part_there n k t at =
      let bytes = bytes_to os n k t.bytes (length t.bytes / WORD_SIZE) (omega arith) in
      let labels = labels_to n k (length t.bytes / WORD_SIZE) in
      (record { address = at; size = t.size; bytes = bytes.0; labels = labels.0 }, record { address = refl; size = refl; words = bytes.1; labels = labels.1 })

  abbrev HasParts : ℕ → ℕ → Type 0
  HasParts n k = (parts : List Part) × ArePartsBuilt os fs n k parts

  section_more : (n k : ℕ) (t : Section) → section_at os n k ≡ Some t → HasParts n k → HasParts n (k + 1)
  section_more n k t at (parts, are) = elim (cases_Bool (holds_data t)) [
    | inr code ↦ (parts, parts_same os fs n k t parts are at code)
    | inl holds ↦
        let part = part_there n k t (data_address os n k t) in
        (parts ++ part.0 ∷ [], parts_more os fs n k t parts (parts ++ part.0 ∷ []) part.0 are at holds part.1 refl)
  ]

  sections_to : (n : ℕ) (o : Object) → slice_get os n ≡ Some o → HasParts n 0 → (k : ℕ) → k ≤ length o.sections → HasParts n k
  sections_to n o at start zero most = start
  sections_to n o at start (suc k) most =
      let t = get_some o.sections k (omega (arith, most)) in
      let there : section_at os n k ≡ Some t.0 = ap (λ ts. slice_get ts k) (object_at os n o at).sections ∙ t.1 in
      subst (HasParts n) (next_is k) (section_more n k t.0 there (sections_to n o at start k (omega (arith, most))))

  pub parts_to : (n : ℕ) → n ≤ length os → HasParts n 0
  parts_to zero most = ([], no_parts os fs)
  parts_to (suc n) most =
      let o = get_some os n (omega (arith, most)) in
      let parts = sections_to n o.0 o.1 (parts_to n (omega (arith, most))) (length o.0.sections) (omega arith) in
      subst (λ m. HasParts m 0) (next_is n) (parts.0, objects_more os fs n o.0 parts.0 o.1 parts.1)
