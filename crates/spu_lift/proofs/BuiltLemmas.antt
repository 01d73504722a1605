-- What is built of a program, one element after another.
use Rattle.std.proofs.Common.{◌≡◌, ℕ, ◌+◌, ◌^◌, ◌<◌, ◌≤◌, Bool, List, [], ◌∷◌, ◌++◌, length, take, get_or, Option, Some, None, slice_get, append-nil, length-append, refl, sym, ap, subst, ◌∙◌, inl, inr, arith}
use Rattle.std.specs.Option.{option_map}
use Rattle.std.specs.List.{enumerate_from, filter_map, flat_map}
use Rattle.std.proofs.lemmas.Grind.{flat_map-append}
use Rattle.std.proofs.lemmas.Bool.{cases_Bool, cases_lt}
use Rattle.std.proofs.lemmas.Option.{slice_get_within}
use Rattle.spu_elf.specs.declared.objects.Section.{Section}
use Rattle.spu_elf.specs.declared.objects.Symbol.{Symbol}
use Rattle.spu_elf.specs.declared.objects.Object.{Object}
use Rattle.spu_lift.specs.declared.sections.Placing.{Placing}
use Rattle.spu_lift.specs.declared.sections.Placing.TheVariants as placings
use Rattle.spu_lift.specs.declared.sections.Sections.{Sections}
use Rattle.spu_lift.specs.Tables.{code_number, data_address, holds_code, holds_data, section_at}
use Rattle.spu_lift.specs.Lifted.{of_symbols}
use Rattle.spu_lift.specs.declared.functions.FunctionSymbol.{FunctionSymbol}
use Rattle.spu_lift.specs.declared.program.SymInst.{SymInst}
use Rattle.spu_lift.specs.declared.program.Function.{Function}
use Rattle.spu_lift.specs.declared.functions.Place.{Place}
use Rattle.spu_lift.specs.FunctionTables.{IsLiftedIn}
use Rattle.spu_lift.specs.TakenPlaces.{spot_in}
use Rattle.spu_lift.specs.Built.{AreFunctionsBuilt, AreInstructions, IsFunctionBuilt}
use Rattle.spu_lift.specs.Placed.{ArePlaced, placing_at, placing_of}
use Rattle.spu_lift.proofs.DefinedLemmas.{enumerate_next}
use Rattle.spu_lift.proofs.SectionNumbers.{at_front, at_joint}
use Rattle.spu_lift.proofs.OneExtent.{at_one}
use Rattle.spu_lift.proofs.DataEnds.{data_before_end}

-- ---- sections

-- data lies low
pub data_low : (os : List Object) (s : Sections) (n k address : ℕ) (p : Placing) → ArePlaced os s → placing_at s n k ≡ Some p → p ≡ placings.Data address → address ≤ 2 ^ 60
data_low os s n k address p placed at is = by (section_at os n k) refl (sym (placed.each n k) ∙ at ∙ ap Some is)
  where
    same : (a b : ℕ) → Some (placings.Data a) ≡ Some (placings.Data b) → a ≡ b
    same a b e = cc

    by : (o : Option Section) → section_at os n k ≡ o → option_map (placing_of os n k) o ≡ Some (placings.Data address) → address ≤ 2 ^ 60
    by None there found = absurd (cc)
    by (Some t) there found = elim (cases_Bool (holds_data t)) [
      | inl holds ↦
          let e : data_address os n k t ≡ address = same (data_address os n k t) address (rw holds at found) in
          let before = data_before_end os n k t there holds in
          let end = placed.end in
          let small = placed.small in
          omega (arith, e, before, end, small)
      | inr not ↦ elim (cases_Bool (holds_code t)) [
        | inl code ↦ absurd (let bad : Some (placings.Code (code_number os n k)) ≡ Some (placings.Data address) = rw (not, code) at found in cc)
        | inr none ↦ absurd (let bad : Some placings.Dropped ≡ Some (placings.Data address) = rw (not, none) at found in cc)
      ]
    ]

-- ---- symbols

-- one more object
pub symbols_more : {X : Type 0} (what : ℕ → Symbol → Option X) (os : List Object) (i : ℕ) (o : Object) (old new : List X) → i < length os → o ≡ get_or os i o → old ≡ of_symbols what (take i os)
    → new ≡ old ++ filter_map (what i) o.symbols → new ≡ of_symbols what (take (i + 1) os)
symbols_more {X} what os i o old new within is before pushed =
    let h : ℕ × Object → List X = λ (p : ℕ × Object). filter_map (what p.0) p.1.symbols in
    let more : of_symbols what (take (i + 1) os) ≡ of_symbols what (take i os) ++ filter_map (what i) o.symbols =
    ap (flat_map h) (enumerate_next os i o within is) ∙ flat_map-append h (enumerate_from 0 (take i os)) ((i, o) ∷ []) ∙ ap (λ xs. of_symbols what (take i os) ++ xs) (append-nil (filter_map (what i) o.symbols)) in
    pushed ∙ ap (λ xs. xs ++ filter_map (what i) o.symbols) before ∙ sym more

-- ---- instructions

-- one more instruction
pub instructions_more : (os : List Object) (fs : List FunctionSymbol) (n : ℕ) (f : FunctionSymbol) (w : ℕ) (old new : List SymInst) (x : SymInst) → AreInstructions os fs n f w old → IsLiftedIn os fs n (spot_in f w) x → new ≡ old ++ x ∷ []
    → AreInstructions os fs n f (w + 1) new
instructions_more os fs n f w old new x before lifted pushed = subst (AreInstructions os fs n f (w + 1)) (sym pushed) (record {
  count = (let count = before.count in let long = length-append old (x ∷ []) in omega (arith, count, long));
  each = λ i s at. elim (cases_lt i (length old)) [
    | inl less ↦ before.each i s (sym (at_front old (x ∷ []) i less) ∙ at)
    | inr more ↦
        let long = length-append old (x ∷ []) in
        let within = slice_get_within (old ++ x ∷ []) i s at in
        let last : i ≡ length old = omega (arith, more, long, within) in
        let same : x ≡ s = some_one x s (sym (ap (slice_get (old ++ x ∷ [])) last ∙ at_joint old x []) ∙ at) in
        subst (λ (y : SymInst). IsLiftedIn os fs n (spot_in f i) y) same (subst (λ m. IsLiftedIn os fs n (spot_in f m) x) (sym (last ∙ before.count)) lifted)
  ];
})
  where
    some_one : (a b : SymInst) → Some a ≡ Some b → a ≡ b
    some_one a b e = cc

-- ---- functions

-- one more function
pub functions_more : (os : List Object) (fs : List FunctionSymbol) (is_taken : Place → Bool) (data_end entry i : ℕ) (old new : List Function) (f : FunctionSymbol) (g : Function) → AreFunctionsBuilt os fs is_taken data_end entry i old → slice_get fs i ≡ Some f
    → IsFunctionBuilt os fs is_taken (i + 1) f g → new ≡ old ++ g ∷ [] → AreFunctionsBuilt os fs is_taken data_end entry (i + 1) new
functions_more os fs is_taken data_end entry i old new f g before at built pushed = subst (AreFunctionsBuilt os fs is_taken data_end entry (i + 1)) (sym pushed) (record {
  start = (let count = before.count in at_front old (g ∷ []) 0 (omega (arith, count)) ∙ before.start);
  count = (let count = before.count in let long = length-append old (g ∷ []) in omega (arith, count, long));
  each = λ j e k less there here. (let count = before.count in elim (cases_lt j i) [
    | inl low ↦ before.each j e k low there (sym (at_front old (g ∷ []) (j + 1) (omega (arith, low, count))) ∙ here)
    | inr high ↦
        let last : i ≡ j = omega (arith, less, high) in
        let symbol : f ≡ e = at_one (slice_get fs i) f e at (ap (slice_get fs) last ∙ there) in
        let index : length old ≡ j + 1 = omega (arith, last, count) in
        let function : g ≡ k = at_one (slice_get (old ++ g ∷ []) (length old)) g k (at_joint old g []) (ap (slice_get (old ++ g ∷ [])) index ∙ here) in
        subst (λ m. IsFunctionBuilt os fs is_taken (m + 1) e k) last (subst (λ (x : FunctionSymbol). IsFunctionBuilt os fs is_taken (i + 1) x k) symbol (subst (λ (x : Function). IsFunctionBuilt os fs is_taken (i + 1) f x) function built))
  ]);
})
