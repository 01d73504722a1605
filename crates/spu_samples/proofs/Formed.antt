-- Programs on which judgements are tried are well formed.
use Rattle.std.proofs.Common.{◌≡◌, ◌≢◌, ℕ, zero, suc, ◌+◌, ◌-◌, ◌*◌, ◌%◌, ◌<◌, ◌≤◌, ◌⊎◌, inl, inr, Bool, true, false, List, [], ◌∷◌, ◌++◌, length, Option, Some, None, refl, sym, ap, ◌∙◌, subst, arith, lit≤, lit<, length-append}
use Rattle.std.specs.Prelude.{slice_get, pos, All, ◌==◌}
use Rattle.std.specs.List.{Contains}
use Rattle.std.proofs.lemmas.Bool.Decides.{nat_tests}
use Rattle.std.proofs.lemmas.Option.{slice_get_within}
use Rattle.std.proofs.lemmas.List.Elements.{All-nil, All-cons, All-append, All-contains, All-head, All-tail}
use Rattle.spu_word.specs.declared.limits.TheConstants.{MAX_SECTION_SIZE}
use Rattle.spu_word.proofs.Places.{get_some}
use Rattle.spu_isa.specs.declared.operation.Op.TheVariants as op
use Rattle.spu_elf.specs.Validity.{IsName}
use Rattle.spu_lift.specs.declared.program.CodeSection.{CodeSection}
use Rattle.spu_lift.specs.declared.program.Function.{Function}
use Rattle.spu_lift.specs.declared.program.Part.{Part}
use Rattle.spu_lift.specs.declared.program.Ear.{Ear}
use Rattle.spu_lift.specs.declared.program.Global_.{Global_}
use Rattle.spu_lift.specs.declared.program.Operand.TheVariants as operand
use Rattle.spu_lift.specs.declared.program.SymInst.{SymInst}
use Rattle.spu_lift.specs.declared.program.Prog.{Prog}
use Rattle.spu_lift.specs.StartCode.{of_register, symbolic, start_code}
use Rattle.spu_lift.specs.Places.{place_in, instruction_at, taken_in, taken_places, IsPlace}
use Rattle.spu_lift.specs.WellFormed.{IsCallee, IsRising, IsInstruction, IsFunction, AreApart, IsWellFormed}
use Rattle.spu_lift.proofs.StartFormed.{lqr_formed, brsl_formed, stop_formed}

none_in : {A : Type 0} (x : A) → Contains [] x → ⊥
none_in x (k, lt, e) = omega (arith, lt)

-- numbers that rise, and lie between 0 and an end
pub record AreBetween (end : ℕ) (ns : List ℕ) : Type 0 where
  pub rising : IsRising ns
  pub inside : All (λ n. (0 < n) × (n < end)) ns

-- ---- one element more

-- an instruction of function f, of so many functions, with so many words
abbrev pub IsFine : ℕ → ℕ → ℕ → SymInst → Type 0
IsFine n f words x = (p : Prog) → length p.functions ≡ n → ((i : ℕ) → i < words → IsPlace p f i) → IsInstruction p f x

pub each_more : {X : Type 0} (P : ℕ → X → Type 0) (xs : List X) (x : X) → ((k : ℕ) (y : X) → slice_get xs k ≡ Some y → P k y) → P (length xs) x
    → (k : ℕ) (y : X) → slice_get (xs ++ x ∷ []) k ≡ Some y → P k y
each_more P [] x each here zero y e = let is : x ≡ y = cc in subst (P 0) is here
each_more P [] x each here (suc k) y e = absurd (cc)
each_more P (z ∷ zs) x each here zero y e = each 0 y e
each_more P (z ∷ zs) x each here (suc k) y e = each_more (λ j w. P (suc j) w) zs x (λ j w f. each (suc j) w f) here k y e

get_before : {X : Type 0} (xs : List X) (x y : X) (k : ℕ) → slice_get xs k ≡ Some y → slice_get (xs ++ x ∷ []) k ≡ Some y
get_before [] x y k e = absurd (cc)
get_before (z ∷ zs) x y zero e = e
get_before (z ∷ zs) x y (suc k) e = get_before zs x y k e

get_last : {X : Type 0} (xs : List X) (x : X) (k : ℕ) → k ≡ length xs → slice_get (xs ++ x ∷ []) k ≡ Some x
get_last [] x zero e = refl
get_last [] x (suc k) e = absurd (omega (arith, e))
get_last (z ∷ zs) x zero e = absurd (omega (arith, e))
get_last (z ∷ zs) x (suc k) e = get_last zs x k (omega (arith, e))

-- ---- functions, each in a section of its own

-- function f, of so many, in the section of the same number less 1
pub record IsLaid (n f : ℕ) (sections : List CodeSection) (g : Function) : Type 0 where
  pub named : IsName g.name
  pub below : g.section + 1 ≡ f
  pub offset : g.offset ≡ 0
  pub taken : AreBetween (length g.code) g.taken
  pub some : 1 ≤ length g.code
  pub section : CodeSection
  pub there : slice_get sections g.section ≡ Some section
  pub size : section.size ≡ 4 * length g.code
  pub fine : (i : ℕ) (x : SymInst) → slice_get g.code i ≡ Some x → IsFine n f (length g.code) x

pub record IsBuilt (n : ℕ) (functions : List Function) (sections : List CodeSection) : Type 0 where
  pub count : length functions ≡ length sections + 1
  pub start : slice_get functions 0 ≡ Some (start_code 128 1)
  pub laid : (f : ℕ) (g : Function) → slice_get functions f ≡ Some g → (f ≡ 0) ⊎ IsLaid n f sections g
  pub small : All (λ (c : CodeSection). c.size ≤ MAX_SECTION_SIZE) sections
  pub filled : All (λ (c : CodeSection). 1 ≤ c.size) sections

pub built_start : (n : ℕ) (functions : List Function) (start : Function) → functions ≡ [] ++ start ∷ [] → start ≡ start_code 128 1 → IsBuilt n functions []
built_start n functions start is same = subst (λ (fs : List Function). IsBuilt n fs []) (sym is) (record {
  count = refl;
  start = ap Some same;
  laid = λ f g at. (let lt = slice_get_within (start ∷ []) f g at in inl (omega (arith, lt)));
  small = All-nil (λ (c : CodeSection). c.size ≤ MAX_SECTION_SIZE);
  filled = All-nil (λ (c : CodeSection). 1 ≤ c.size);
})

laid_more : (n f : ℕ) (sections : List CodeSection) (s : CodeSection) (g : Function) → IsLaid n f sections g → IsLaid n f (sections ++ s ∷ []) g
laid_more n f sections s g l = record {
  named = l.named;
  below = l.below;
  offset = l.offset;
  taken = l.taken;
  some = l.some;
  section = l.section;
  there = get_before sections s l.section g.section l.there;
  size = l.size;
  fine = l.fine;
}

pub built_more : (n : ℕ) (functions new_functions : List Function) (sections new_sections : List CodeSection) (s : CodeSection) (name : List ℕ) (code : List SymInst) (places : List ℕ) (g : Function) (f count : ℕ) → IsBuilt n functions sections
    → new_sections ≡ sections ++ s ∷ [] → new_functions ≡ functions ++ g ∷ [] → g ≡ record { name = name; global = true; section = f - 1; offset = 0; code = code; taken = places }
    → f ≡ length functions → IsName name → 1 ≤ count → count ≤ 65536 → length code ≡ count → s.size ≡ 4 * count → ((i : ℕ) (x : SymInst) → slice_get code i ≡ Some x → IsFine n f count x)
    → IsRising places → All (λ n. (0 < n) × (n < count)) places → IsBuilt n new_functions new_sections
built_more n functions new_functions sections new_sections s name code places g f count b ss fs is at named some few long size fine rising inside =
    subst (λ (cs : List CodeSection). IsBuilt n new_functions cs) (sym ss) (subst (λ (gs : List Function). IsBuilt n gs (sections ++ s ∷ [])) (sym fs) (record {
      count = (let a = length-append functions (g ∷ []) in let c = length-append sections (s ∷ []) in let count = b.count in omega (arith, a, c, count));
      start = get_before functions g (start_code 128 1) 0 b.start;
      laid = each_more (λ k h. (k ≡ 0) ⊎ IsLaid n k (sections ++ s ∷ []) h) functions g (λ k h e. old k h (b.laid k h e)) (inr (subst (λ k. IsLaid n k (sections ++ s ∷ []) g) at (subst (IsLaid n f (sections ++ s ∷ [])) (sym is) here)));
      small = All-append (λ (c : CodeSection). c.size ≤ MAX_SECTION_SIZE) sections (s ∷ []) b.small (All-cons (λ (c : CodeSection). c.size ≤ MAX_SECTION_SIZE) s [] (omega (arith, size, few)) (All-nil (λ (c : CodeSection). c.size ≤ MAX_SECTION_SIZE)));
      filled = All-append (λ (c : CodeSection). 1 ≤ c.size) sections (s ∷ []) b.filled (All-cons (λ (c : CodeSection). 1 ≤ c.size) s [] (omega (arith, size, some)) (All-nil (λ (c : CodeSection). 1 ≤ c.size)));
    }))
  where
    old : (k : ℕ) (h : Function) → (k ≡ 0) ⊎ IsLaid n k sections h → (k ≡ 0) ⊎ IsLaid n k (sections ++ s ∷ []) h
    old k h (inl z) = inl z
    old k h (inr l) = inr (laid_more n k sections s h l)

    here : IsLaid n f (sections ++ s ∷ []) (record { name = name; global = true; section = f - 1; offset = 0; code = code; taken = places })
    here = record {
      named = named;
      below = (let count = b.count in omega (arith, at, count));
      offset = refl;
      taken = record { rising = rising; inside = subst (λ c. All (λ n. (0 < n) × (n < c)) places) (sym long) inside };
      some = omega (arith, some, long);
      section = s;
      there = get_last sections s (f - 1) (let count = b.count in omega (arith, at, count));
      size = omega (arith, size, long);
      fine = λ i x e q two places. fine i x e q two (λ j lt. places j (omega (arith, lt, long)));
    }

-- ---- the program

module _ (n : ℕ) (functions : List Function) (sections : List CodeSection) (taken : List ℕ) (built : IsBuilt n functions sections) (count : length functions ≡ n) (some : 2 ≤ n) (few : n ≤ 65537) where
  abbrev p : Prog
  p = record { functions = functions; code = sections; parts = []; taken = taken; entry = 1; ears = []; globals = []; data_end = 128 }

  callee : IsCallee p 1
  callee = ((λ e. omega (arith, e)), (let lt : 1 < length functions = omega (arith, count, some) in lt))

  start_in : (i : ℕ) (x : SymInst) → slice_get (start_code 128 1).code i ≡ Some x → IsInstruction p 0 x
  start_in zero x e = let is : symbolic (of_register op.Lqr 1 (pos 0)) (operand.Number 128) ≡ x = cc in subst (IsInstruction p 0) is (lqr_formed p 128 (lit< tt))
  start_in (suc zero) x e = let is : symbolic (of_register op.Brsl 0 (pos 0)) (operand.Call 1) ≡ x = cc in subst (IsInstruction p 0) is (brsl_formed p 1 callee)
  start_in (suc (suc zero)) x e = let is : symbolic (of_register op.Stop 0 (pos 0x2000)) operand.Plain ≡ x = cc in subst (IsInstruction p 0) is (stop_formed p)
  start_in (suc (suc (suc i))) x e = absurd (cc)

  start_only : (g : Function) → slice_get functions 0 ≡ Some g → g ≡ start_code 128 1
  start_only g at = let start = built.start in cc

  places_in : (f : ℕ) (g : Function) → slice_get functions f ≡ Some g → (i : ℕ) → i < length g.code → IsPlace p f i
  places_in f g at i lt = let x = get_some g.code i lt in (x.0, ap (λ o. place_in o i) at ∙ x.1)

  instruction_in : (f i : ℕ) (x : SymInst) → instruction_at p f i ≡ Some x → IsInstruction p f x
  instruction_in f i x = by_function (slice_get functions f) refl
    where
      by_function : (o : Option Function) → slice_get functions f ≡ o → place_in o i ≡ Some x → IsInstruction p f x
      by_function None at e = absurd (cc)
      by_function (Some g) at e = by_laid (built.laid f g at)
        where
          by_laid : (f ≡ 0) ⊎ IsLaid n f sections g → IsInstruction p f x
          by_laid (inl z) =
              let same : g ≡ start_code 128 1 = start_only g (ap (slice_get functions) (sym z) ∙ at) in
              subst (λ k. IsInstruction p k x) (sym z) (start_in i x (ap (λ (h : Function). slice_get h.code i) (sym same) ∙ e))
          by_laid (inr l) = l.fine i x e p count (places_in f g at)

  laid_in : (f : ℕ) (g : Function) → (f ≡ 0 → ⊥) → slice_get functions f ≡ Some g → IsLaid n f sections g
  laid_in f g ne at = by_laid (built.laid f g at)
    where
      by_laid : (f ≡ 0) ⊎ IsLaid n f sections g → IsLaid n f sections g
      by_laid (inl z) = absurd (ne z)
      by_laid (inr l) = l

  function_in : (f : ℕ) (g : Function) → (f ≡ 0 → ⊥) → slice_get functions f ≡ Some g → IsFunction p g
  function_in f g ne at =
      let l = laid_in f g ne at in
      let offset = l.offset in
      let size = l.size in
      record { named = l.named; some = l.some; section = l.section; there = l.there; aligned = subst (λ k. k % 4 ≡ 0) (sym offset) refl; fits = omega (arith, offset, size) }

  apart_in : (f h : ℕ) (g k : Function) → (f ≡ 0 → ⊥) → (h ≡ 0 → ⊥) → (f ≡ h → ⊥) → slice_get functions f ≡ Some g → slice_get functions h ≡ Some k → AreApart g k
  apart_in f h g k nf nh ne ef eh = λ same.
      (let a = (laid_in f g nf ef).below in let b = (laid_in h k nh eh).below in absurd (ne (omega (arith, a, b, same))))

  places_between : (f : ℕ) → IsRising (taken_places p f) × ((i : ℕ) → Contains (taken_places p f) i → (i ≢ 0) × IsPlace p f i)
  places_between f = by_function (slice_get functions f) refl
    where
      by_function : (o : Option Function) → slice_get functions f ≡ o → IsRising (taken_in o) × ((i : ℕ) → Contains (taken_in o) i → (i ≢ 0) × IsPlace p f i)
      by_function None at = (tt, λ i c. absurd (none_in i c))
      by_function (Some g) at = by_laid (built.laid f g at)
        where
          by_laid : (f ≡ 0) ⊎ IsLaid n f sections g → IsRising g.taken × ((i : ℕ) → Contains g.taken i → (i ≢ 0) × IsPlace p f i)
          by_laid (inl z) =
              let none : g.taken ≡ [] = ap (λ (h : Function). h.taken) (start_only g (ap (slice_get functions) (sym z) ∙ at)) in
              (subst IsRising (sym none) tt, λ i c. absurd (none_in i (subst (λ l. Contains l i) none c)))
          by_laid (inr l) = (l.taken.rising, λ i c. (let both = All-contains (λ n. (0 < n) × (n < length g.code)) g.taken i l.taken.inside c in let lo = both.0 in ((λ e. omega (arith, e, lo)), places_in f g at i both.1)))

  formed : IsRising taken → All (λ g. (0 < g) × (g < n)) taken → IsWellFormed p
  formed rising inside = record {
    functions = omega (arith, count, few);
    sections = (let both = built.count in omega (arith, count, few, both));
    small = built.small;
    filled = built.filled;
    few_globals = lit≤ tt;
    start = built.start;
    entry = callee;
    each = function_in;
    apart = apart_in;
    instructions = instruction_in;
    taken = λ g c. (let both = All-contains (λ h. (0 < h) × (h < n)) taken g inside c in let lo = both.0 in let hi = both.1 in ((λ e. omega (arith, e, lo)), omega (arith, hi, count)));
    taken_rising = rising;
    places = λ f i c. (places_between f).1 i c;
    places_rising = λ f. (places_between f).0;
    data_aligned = refl;
    data_end = lit≤ tt;
    ordered = lit≤ tt;
    parts = λ part c. absurd (none_in part c);
    globals = λ g c. absurd (none_in g c);
    distinct = λ i j g h eg eh same. (let far = slice_get_within [] i g eg in absurd (omega (arith, far)));
    ears = λ ear c. absurd (none_in ear c);
    ears_are_global = tt;
  }

  pub formed_as : (parts : List Part) (ears : List Ear) (globals : List Global_) (end : ℕ) → parts ≡ [] → ears ≡ [] → globals ≡ [] → end ≡ 128
      → IsRising taken → All (λ g. (0 < g) × (g < n)) taken
      → IsWellFormed (record { functions = functions; code = sections; parts = parts; taken = taken; entry = 1; ears = ears; globals = globals; data_end = end })
  formed_as parts ears globals end ps es gs at rising inside =
      let is : p ≡ record { functions = functions; code = sections; parts = parts; taken = taken; entry = 1; ears = ears; globals = globals; data_end = end } = cc in
      subst IsWellFormed is (formed rising inside)

pub some_from : (n : ℕ) (b : Bool) → b ≡ (n == 0) → b ≡ false → 1 ≤ n
some_from n b is off = grind (arith, nat_tests)

-- ---- numbers that are taken

pub rising_more : (least n : ℕ) (ns : List ℕ) → IsRising ns → All (λ m. m < least) ns → least ≤ n → IsRising (ns ++ n ∷ [])
rising_more least n [] r below le = tt
rising_more least n (x ∷ []) r below le = let lt = All-head (λ m. m < least) x [] below in (omega (arith, lt, le), tt)
rising_more least n (x ∷ y ∷ ns) r below le = (r.0, rising_more least n (y ∷ ns) r.1 (All-tail (λ m. m < least) x (y ∷ ns) below) le)

pub below_more : (least n : ℕ) (ns : List ℕ) → All (λ m. m < least) ns → least ≤ n → All (λ m. m < n + 1) (ns ++ n ∷ [])
below_more least n ns below le = All-append (λ m. m < n + 1) ns (n ∷ []) (λ k d lt. (let old = below k d lt in omega (arith, old, le))) (All-cons (λ m. m < n + 1) n [] (omega arith) (All-nil (λ m. m < n + 1)))

pub inside_more : (end n : ℕ) (ns : List ℕ) → All (λ m. (0 < m) × (m < end)) ns → 0 < n → n < end → All (λ m. (0 < m) × (m < end)) (ns ++ n ∷ [])
inside_more end n ns inside lo hi = All-append (λ m. (0 < m) × (m < end)) ns (n ∷ []) inside (All-cons (λ m. (0 < m) × (m < end)) n [] (lo, hi) (All-nil (λ m. (0 < m) × (m < end))))
