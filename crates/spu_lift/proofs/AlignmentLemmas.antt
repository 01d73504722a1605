-- The passes over sections, functions and quadwords of named areas: what is misaligned in an object.
use Rattle.std.proofs.Common.{◌≡◌, ◌≢◌, ℕ, ◌+◌, ◌%◌, ◌<◌, ◌≤◌, ◌⊎◌, true, false, ◌&&◌, if◌then◌else◌, List, [], ◌∷◌, length, Option, Some, None, IsSome, IfSome, is_some, slice_get, refl, sym, ap, subst, ◌∙◌, inl, inr, arith, true≢false}
use Rattle.std.specs.Option.{option_and_then, option_map, option_map_or}
use Rattle.std.proofs.lemmas.Bool.{cases_Bool}
use Rattle.std.proofs.lemmas.Option.{none-some, same_Some}
use Rattle.spu_word.specs.declared.limits.TheConstants.{QUAD_SIZE, WORD_SIZE}
use Rattle.spu_elf.specs.declared.objects.Section.{Section}
use Rattle.spu_elf.specs.declared.objects.SymPlace.{SymPlace}
use Rattle.spu_elf.specs.declared.objects.SymPlace.TheVariants as places
use Rattle.spu_elf.specs.declared.objects.Symbol.{Symbol}
use Rattle.spu_elf.specs.declared.objects.Object.{Object}
use Rattle.spu_lift.specs.declared.fault.LiftKind.TheVariants.{Misaligned}
use Rattle.spu_lift.specs.declared.fault.LiftFault.{LiftFault}
use Rattle.spu_lift.specs.declared.fault.LiftFault.TheVariants as faults
use Rattle.spu_lift.specs.Tables.{DataPlace, data_place, holds_data, section_at, sections_of, symbol_at}
use Rattle.spu_lift.specs.Extents.{Extent, IsEarlier, IsFunctionSymbol}
use Rattle.spu_lift.specs.Lifted.{ear_place, is_ear_name}
use Rattle.spu_lift.specs.LiftFaults.{IsMisalignedSection, Shows}
use Rattle.spu_lift.specs.Checks.{IsAnswer, IsFirstIn, IsMisalignedEar, IsMisalignedFunction, IsNoneIn, IsNowhere, IsNowhereBelow, IsSectionTold, IsShownFirst, IsSymbolTold, data_section, function_section, if_data, is_ear, is_toe, section_by, within}
use Rattle.spu_lift.proofs.ExtentFacts.{IsObjectAt, both_true, covered, covering_so, in_code, object_at, object_of_symbol, section_of_code, section_of_object}
use Rattle.spu_lift.proofs.FirstPlaces.{Begins, Shown, answer_climbs, none_below, nowhere_past, one_more, told_first}

-- ---- one list of an object

-- what is shown at the indices of a list is such there
abbrev pub IsList : {X : Type 0} → Shown → (ℕ → X → Type 0) → List X → Type 0
IsList {X} shown bad xs = (rest : List ℕ) (fault : LiftFault) → shown rest fault → (k : ℕ) × (x : X) × (rest ≡ k ∷ []) × (slice_get xs k ≡ Some x) × bad k x

list_passed : {X : Type 0} (shown : Shown) (bad : ℕ → X → Type 0) (xs : List X) → IsList shown bad xs → IsNoneIn bad xs → IsNowhere shown
list_passed shown bad xs lists none rest fault here = let is = lists rest fault here in none is.0 is.1 is.3 is.4

list_first : {X : Type 0} (shown : Shown) (bad : ℕ → X → Type 0) (xs : List X) (k : ℕ) (x : X) (fault : LiftFault) → IsList shown bad xs → IsFirstIn bad xs k x → shown (k ∷ []) fault → IsShownFirst shown fault
list_first {X} shown bad xs k x fault lists first here = record {
  place = k ∷ [];
  here = here;
  first = λ q other earlier shows. let is = lists q other shows in before is.0 is.1 (subst (λ (p : List ℕ). IsEarlier p (k ∷ [])) is.2 earlier) is.3 is.4;
}
  where
    before : (j : ℕ) (y : X) → (j < k) ⊎ ((j ≡ k) × ⊥) → slice_get xs j ≡ Some y → bad j y → ⊥
    before j y (inl less) there such = first.before j y less there such
    before j y (inr (same, none)) there such = none

-- ---- functions

-- a symbol of a function is misaligned where its extent is
pub function_shown : (os : List Object) (x : Extent) (j : ℕ) (s : Symbol) (t : Section) → IsFunctionSymbol os x j s t → (x.offset % WORD_SIZE ≢ 0) ⊎ (x.size % WORD_SIZE ≢ 0) → IsMisalignedFunction (sections_of os x.object) s
function_shown os x j s t is bad =
    let says = covered x s is.covers in
    let size = says.size in
    let some = is.some in
    let found : function_section (sections_of os x.object) s ≡ Some x.section = section_of_code (sections_of os x.object) s x.section t says.place says.function (omega arith) is.section is.code in
    (ap is_some found, aligned says.value says.size bad)
  where
    aligned : s.value ≡ x.offset → s.size ≡ x.size → (x.offset % WORD_SIZE ≢ 0) ⊎ (x.size % WORD_SIZE ≢ 0) → (s.value % WORD_SIZE ≢ 0) ⊎ (s.size % WORD_SIZE ≢ 0)
    aligned value size (inl bad) = inl (subst (λ v. v % WORD_SIZE ≢ 0) (sym value) bad)
    aligned value size (inr bad) = inr (subst (λ v. v % WORD_SIZE ≢ 0) (sym size) bad)

-- ---- quadwords of named areas

sections_agree : (os : List Object) (n : ℕ) (s : Symbol) → option_map (λ (d : DataPlace). d.section) (data_place os n s) ≡ data_section (sections_of os n) s
sections_agree os n s = by s.place refl
  where
    in_section : (k : ℕ) (t : Option Section) → section_at os n k ≡ t → s.place ≡ places.Inside k → option_map (λ (d : DataPlace). d.section) (data_place os n s) ≡ data_section (sections_of os n) s
    in_section k None at is = rw (is, at) refl
    in_section k (Some t) at is = elim (cases_Bool (holds_data t)) [
      | inl holds ↦ rw (is, at, holds) refl
      | inr not ↦ rw (is, at, not) refl
    ]

    by : (place : SymPlace) → s.place ≡ place → option_map (λ (d : DataPlace). d.section) (data_place os n s) ≡ data_section (sections_of os n) s
    by (places.Inside k) is = in_section k (section_at os n k) refl is
    by places.Undefined is = rw is refl
    by places.Absolute is = rw is refl

pick : DataPlace → Option DataPlace
pick d = if is_toe d.section then Some d else None

-- the quadword of a named area lies in the section of data that its symbol is in
pub ear_found : (os : List Object) (n : ℕ) (s : Symbol) (lies : DataPlace) → ear_place os n s ≡ Some lies → (is_ear (sections_of os n) s ≡ true) × (data_section (sections_of os n) s ≡ Some lies.section)
unfolding pick
ear_found os n s lies at = elim (cases_Bool (s.global && is_ear_name s.name)) [
  | inl named ↦ let found : option_and_then pick (data_place os n s) ≡ Some lies = rw named at at in in_data (data_place os n s) refl found named
  | inr not ↦ absurd (let bad : None ≡ Some lies = rw not at at in cc)
]
  where
    in_data : (d : Option DataPlace) → data_place os n s ≡ d → option_and_then pick d ≡ Some lies → (s.global && is_ear_name s.name) ≡ true → (is_ear (sections_of os n) s ≡ true) × (data_section (sections_of os n) s ≡ Some lies.section)
    in_data None is found named = absurd (let bad : None ≡ Some lies = found in cc)
    in_data (Some d) is found named =
        let there : data_section (sections_of os n) s ≡ Some d.section = sym (sections_agree os n s) ∙ ap (option_map (λ (x : DataPlace). x.section)) is in
        elim (cases_Bool (is_toe d.section)) [
          | inl toe ↦
              let same : d ≡ lies = same_Some d lies (rw toe at found) in
              (rw (named, there, toe) refl, there ∙ ap (λ (x : DataPlace). Some x.section) same)
          | inr other ↦ absurd (let bad : None ≡ Some lies = rw other at found in cc)
        ]

pub ear_there : (os : List Object) (n : ℕ) (s : Symbol) → is_ear (sections_of os n) s ≡ true → (d : DataPlace) × (ear_place os n s ≡ Some d) × (data_section (sections_of os n) s ≡ Some d.section)
ear_there os n s is =
    let parts = both_true (s.global && is_ear_name s.name) (option_map_or is_toe (data_section (sections_of os n) s) false) is in
    in_data (data_place os n s) refl parts.0 parts.1
  where
    in_data : (d : Option DataPlace) → data_place os n s ≡ d → (s.global && is_ear_name s.name) ≡ true → option_map_or is_toe (data_section (sections_of os n) s) false ≡ true
        → (x : DataPlace) × (ear_place os n s ≡ Some x) × (data_section (sections_of os n) s ≡ Some x.section)
    in_data None at named toe =
        let none : data_section (sections_of os n) s ≡ None = sym (sections_agree os n s) ∙ ap (option_map (λ (x : DataPlace). x.section)) at in
        absurd (true≢false (sym (rw none at toe)))
    in_data (Some d) at named toe =
        let there : data_section (sections_of os n) s ≡ Some d.section = sym (sections_agree os n s) ∙ ap (option_map (λ (x : DataPlace). x.section)) at in
        let its : is_toe d.section ≡ true = rw there at toe in
        (d, rw (named, at, its) refl, there)

-- ---- the three lists

-- of object n: sections, functions, quadwords
abbrev pub ShowsIn : List Object → ℕ → ℕ → Shown
ShowsIn os n stage = within stage (within n (Shows Misaligned os ([])))

behind : (n m : ℕ) (xs ys : List ℕ) → n ∷ xs ≡ m ∷ ys → xs ≡ ys
behind n m xs ys is = cc

three : (a b c d e : ℕ) (xs : List ℕ) → a ∷ b ∷ xs ≡ c ∷ d ∷ e ∷ [] → (a ≡ c) × (b ≡ d) × (xs ≡ e ∷ [])
three a b c d e xs is = (cc, cc, cc)

sections_are : (os : List Object) (n : ℕ) (o : Object) → IsObjectAt os n o → IsList (ShowsIn os n 0) (λ i y. IsMisalignedSection y) o.sections
sections_are os n o object rest fault (inl x) =
    let is = three n 0 x.n 0 x.k rest x.at in
    let there : slice_get o.sections x.k ≡ Some x.section = ap (λ ts. slice_get ts x.k) (sym object.sections) ∙ ap (λ m. section_at os m x.k) is.0 ∙ x.there in
    (x.k, x.section, is.2, there, x.bad)
sections_are os n o object rest fault (inr (inl f)) = let is = three n 0 f.x.object 1 f.j rest f.at in absurd (let e : 0 ≡ 1 = is.1 in omega (arith, e))
sections_are os n o object rest fault (inr (inr e)) = let is = three n 0 e.n 2 e.j rest e.at in absurd (let e : 0 ≡ 2 = is.1 in omega (arith, e))

functions_are : (os : List Object) (n : ℕ) (o : Object) → IsObjectAt os n o → IsList (ShowsIn os n 1) (λ i y. IsMisalignedFunction o.sections y) o.symbols
functions_are os n o object rest fault (inl x) = let is = three n 1 x.n 0 x.k rest x.at in absurd (let e : 1 ≡ 0 = is.1 in omega (arith, e))
functions_are os n o object rest fault (inr (inl f)) =
    let is = three n 1 f.x.object 1 f.j rest f.at in
    let there : slice_get o.symbols f.j ≡ Some f.symbol = ap (λ ss. slice_get ss f.j) (sym object.symbols) ∙ ap (λ m. symbol_at os m f.j) is.0 ∙ f.there.symbol in
    let sections : sections_of os f.x.object ≡ o.sections = ap (sections_of os) (sym is.0) ∙ object.sections in
    (f.j, f.symbol, is.2, there, subst (λ (ts : List Section). IsMisalignedFunction ts f.symbol) sections (function_shown os f.x f.j f.symbol f.section f.there f.bad))
functions_are os n o object rest fault (inr (inr e)) = let is = three n 1 e.n 2 e.j rest e.at in absurd (let e : 1 ≡ 2 = is.1 in omega (arith, e))

ears_are : (os : List Object) (n : ℕ) (o : Object) → IsObjectAt os n o → IsList (ShowsIn os n 2) (λ i y. IsMisalignedEar o.sections y) o.symbols
ears_are os n o object rest fault (inl x) = let is = three n 2 x.n 0 x.k rest x.at in absurd (let e : 2 ≡ 0 = is.1 in omega (arith, e))
ears_are os n o object rest fault (inr (inl f)) = let is = three n 2 f.x.object 1 f.j rest f.at in absurd (let e : 2 ≡ 1 = is.1 in omega (arith, e))
ears_are os n o object rest fault (inr (inr e)) =
    let is = three n 2 e.n 2 e.j rest e.at in
    let there : slice_get o.symbols e.j ≡ Some e.symbol = ap (λ ss. slice_get ss e.j) (sym object.symbols) ∙ ap (λ m. symbol_at os m e.j) is.0 ∙ e.there in
    let sections : sections_of os e.n ≡ o.sections = ap (sections_of os) (sym is.0) ∙ object.sections in
    let found = ear_found os e.n e.symbol e.lies e.ear in
    let bad : IsMisalignedEar (sections_of os e.n) e.symbol = (found.0, subst (λ (t : Option Section). IfSome t (λ u. (e.symbol.value % QUAD_SIZE ≢ 0) ⊎ (u.size < e.symbol.value + QUAD_SIZE))) (sym found.1) e.bad) in
    (e.j, e.symbol, is.2, there, subst (λ (ts : List Section). IsMisalignedEar ts e.symbol) sections bad)

-- a section of data is the section
data_in : (t : Option Section) (u : Section) → option_and_then if_data t ≡ Some u → t ≡ Some u
data_in None u is = absurd (none-some u is)
data_in (Some t) u is = elim (cases_Bool (holds_data t)) [
  | inl holds ↦ rw holds at is
  | inr not ↦ absurd (none-some u (rw not at is))
]

-- ---- what is told of them

pub section_told : (os : List Object) (n : ℕ) (o : Object) (told : LiftFault) → slice_get os n ≡ Some o → IsSectionTold n o told → IsAnswer (within n (Shows Misaligned os ([]))) told
section_told os n o told there (k, t, first, tells) =
    let object = object_at os n o there in
    let at : section_at os n k ≡ Some t = ap (λ ts. slice_get ts k) object.sections ∙ first.there in
    let fault : LiftFault = faults.Site Misaligned n t.name 0 in
    let here : ShowsIn os n 0 (k ∷ []) (faults.Site Misaligned n t.name 0) = inl (record { n = n; k = k; section = t; there = at; bad = first.such; at = refl; told = refl }) in
    answer_climbs (within n (Shows Misaligned os ([]))) 0 told (none_below (within n (Shows Misaligned os ([]))))
    (told_first (ShowsIn os n 0) told (faults.Site Misaligned n t.name 0) tells (list_first (ShowsIn os n 0) (λ i y. IsMisalignedSection y) o.sections k t (faults.Site Misaligned n t.name 0) (sections_are os n o object) first here))

sections_before : (os : List Object) (n : ℕ) (o : Object) → IsObjectAt os n o → IsNoneIn (λ i y. IsMisalignedSection y) o.sections → IsNowhereBelow (within n (Shows Misaligned os ([]))) 1
sections_before os n o object good =
    one_more (within n (Shows Misaligned os ([]))) 0 (none_below (within n (Shows Misaligned os ([])))) (list_passed (ShowsIn os n 0) (λ i y. IsMisalignedSection y) o.sections (sections_are os n o object) good)

functions_before : (os : List Object) (n : ℕ) (o : Object) → IsObjectAt os n o → IsNoneIn (λ i y. IsMisalignedSection y) o.sections → IsNoneIn (λ i y. IsMisalignedFunction o.sections y) o.symbols
    → IsNowhereBelow (within n (Shows Misaligned os ([]))) 2
functions_before os n o object good fine =
    one_more (within n (Shows Misaligned os ([]))) 1 (sections_before os n o object good) (list_passed (ShowsIn os n 1) (λ i y. IsMisalignedFunction o.sections y) o.symbols (functions_are os n o object) fine)

pub function_told : (os : List Object) (n : ℕ) (o : Object) (told : LiftFault) → slice_get os n ≡ Some o → IsNoneIn (λ i y. IsMisalignedSection y) o.sections → IsSymbolTold IsMisalignedFunction n o told
    → IsAnswer (within n (Shows Misaligned os ([]))) told
function_told os n o told there good (j, s, first, t, is, tells) =
    let object = object_at os n o there in
    answer_climbs (within n (Shows Misaligned os ([]))) 1 told (sections_before os n o object good)
    (told_first (ShowsIn os n 1) told (faults.Site Misaligned n t.name s.value) tells
    (list_first (ShowsIn os n 1) (λ i y. IsMisalignedFunction o.sections y) o.symbols j s (faults.Site Misaligned n t.name s.value) (functions_are os n o object) first (here object (function_section o.sections s) refl first.such.0)))
  where
    here : IsObjectAt os n o → (k : Option ℕ) → function_section o.sections s ≡ k → IsSome k → ShowsIn os n 1 (j ∷ []) (faults.Site Misaligned n t.name s.value)
    here object None none some = absurd (true≢false (sym some))
    here object (Some k) found some =
        let code = in_code o.sections s s.place k found in
        let placed : slice_get o.sections k ≡ Some t = sym (ap (section_by o.sections) code.inside) ∙ is in
        let same : code.t ≡ t = same_Some code.t t (sym code.there ∙ placed) in
        let x : Extent = record { object = n; section = k; offset = s.value; size = s.size } in
        inr (inl (record {
          x = record { object = n; section = k; offset = s.value; size = s.size };
          j = j;
          symbol = s;
          section = t;
          there = record {
            symbol = ap (λ ss. slice_get ss j) object.symbols ∙ first.there;
            covers = covering_so (record { object = n; section = k; offset = s.value; size = s.size }) s (record { function = code.function; place = code.inside; value = refl; size = refl });
            some = code.some;
            section = ap (λ ts. slice_get ts k) object.sections ∙ placed;
            code = ap (λ (u : Section). u.kind) (sym same) ∙ code.code;
          };
          bad = first.such.1;
          at = refl;
          told = refl;
        }))

pub ear_told : (os : List Object) (n : ℕ) (o : Object) (told : LiftFault) → slice_get os n ≡ Some o → IsNoneIn (λ i y. IsMisalignedSection y) o.sections → IsNoneIn (λ i y. IsMisalignedFunction o.sections y) o.symbols
    → IsSymbolTold IsMisalignedEar n o told → IsAnswer (within n (Shows Misaligned os ([]))) told
ear_told os n o told there good fine (j, s, first, t, is, tells) =
    let object = object_at os n o there in
    answer_climbs (within n (Shows Misaligned os ([]))) 2 told (functions_before os n o object good fine)
    (told_first (ShowsIn os n 2) told (faults.Site Misaligned n t.name s.value) tells
    (list_first (ShowsIn os n 2) (λ i y. IsMisalignedEar o.sections y) o.symbols j s (faults.Site Misaligned n t.name s.value) (ears_are os n o object) first (here object)))
  where
    here : IsObjectAt os n o → ShowsIn os n 2 (j ∷ []) (faults.Site Misaligned n t.name s.value)
    here object =
        let bad : IsMisalignedEar (sections_of os n) s = subst (λ (ts : List Section). IsMisalignedEar ts s) (sym object.sections) first.such in
        let ear = ear_there os n s bad.0 in
        let inside : section_by o.sections s.place ≡ Some ear.0.section = ap (λ ts. section_by ts s.place) (sym object.sections) ∙ data_in (section_by (sections_of os n) s.place) ear.0.section ear.2 in
        let same : ear.0.section ≡ t = same_Some ear.0.section t (sym inside ∙ is) in
        inr (inr (record {
          n = n;
          j = j;
          symbol = s;
          there = ap (λ ss. slice_get ss j) object.symbols ∙ first.there;
          lies = ear.0;
          ear = ear.1;
          bad = subst (λ (u : Option Section). IfSome u (λ v. (s.value % QUAD_SIZE ≢ 0) ⊎ (v.size < s.value + QUAD_SIZE))) ear.2 bad.1;
          at = refl;
          told = ap (λ (u : Section). faults.Site Misaligned n u.name s.value) (sym same);
        }))

-- ---- one object more

pub object_aligned : (os : List Object) (n : ℕ) (o : Object) → slice_get os n ≡ Some o → IsNoneIn (λ i y. IsMisalignedSection y) o.sections → IsNoneIn (λ i y. IsMisalignedFunction o.sections y) o.symbols
    → IsNoneIn (λ i y. IsMisalignedEar o.sections y) o.symbols → IsNowhere (within n (Shows Misaligned os ([])))
object_aligned os n o there good fine well =
    let object = object_at os n o there in
    nowhere_past (within n (Shows Misaligned os ([]))) 3 3 (omega arith) begins
    (one_more (within n (Shows Misaligned os ([]))) 2 (functions_before os n o object good fine) (list_passed (ShowsIn os n 2) (λ i y. IsMisalignedEar o.sections y) o.symbols (ears_are os n o object) well))
  where
    begins : (rest : List ℕ) (fault : LiftFault) → within n (Shows Misaligned os ([])) rest fault → Begins 3 rest
    begins rest fault (inl x) = let e : rest ≡ 0 ∷ x.k ∷ [] = behind n x.n rest (0 ∷ x.k ∷ []) x.at in subst (Begins 3) (sym e) (omega arith)
    begins rest fault (inr (inl f)) = let e : rest ≡ 1 ∷ f.j ∷ [] = behind n f.x.object rest (1 ∷ f.j ∷ []) f.at in subst (Begins 3) (sym e) (omega arith)
    begins rest fault (inr (inr x)) = let e : rest ≡ 2 ∷ x.j ∷ [] = behind n x.n rest (2 ∷ x.j ∷ []) x.at in subst (Begins 3) (sym e) (omega arith)

pub all_aligned : (os : List Object) (i : ℕ) → length os ≤ i → IsNowhereBelow (Shows Misaligned os ([])) i → IsNowhere (Shows Misaligned os ([]))
all_aligned os i all below = nowhere_past (Shows Misaligned os ([])) (length os) i all begins below
  where
    begins : (place : List ℕ) (fault : LiftFault) → Shows Misaligned os ([]) place fault → Begins (length os) place
    begins place fault (inl x) = subst (Begins (length os)) (sym x.at) (section_of_object os x.n x.k x.section x.there)
    begins place fault (inr (inl f)) = subst (Begins (length os)) (sym f.at) (object_of_symbol os f.x.object f.j f.symbol f.there.symbol).1.within
    begins place fault (inr (inr x)) = subst (Begins (length os)) (sym x.at) (object_of_symbol os x.n x.j x.symbol x.there).1.within
