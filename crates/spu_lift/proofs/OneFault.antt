-- Objects have one least fault: the order of places tells any two of a kind apart, and a fault is told by its place.
use Rattle.std.proofs.Common.{◌≡◌, ℕ, ◌+◌, ◌*◌, ◌<◌, ◌⊎◌, ◌==◌, if◌then◌else◌, true, List, [], ◌∷◌, length, Some, refl, sym, ap, subst, ◌∙◌, inl, inr, arith, lit<}
use Rattle.std.specs.Prelude.{All}
use Rattle.std.proofs.lemmas.Bool.{cases_order}
use Rattle.spu_word.specs.declared.limits.TheConstants.{WORD_SIZE}
use Rattle.spu_elf.specs.declared.objects.Section.{Section}
use Rattle.spu_elf.specs.declared.objects.Symbol.{Symbol}
use Rattle.spu_elf.specs.declared.objects.Reloc.{Reloc}
use Rattle.spu_elf.specs.declared.objects.Object.{Object}
use Rattle.spu_elf.specs.WellFormed.{IsWellFormed}
use Rattle.spu_lift.specs.declared.fault.LiftKind.{LiftKind}
use Rattle.spu_lift.specs.declared.fault.LiftKind.TheVariants.{DuplicateSymbol, UndefinedSymbol, ReservedName, NoEntry, Misaligned, CodeOutsideFunction, FunctionOverlap, UnknownInstruction, BadRelocation, BadTarget, CodeAddend, LinkRegister, ReadsCode}
use Rattle.spu_lift.specs.declared.fault.LiftFault.{LiftFault}
use Rattle.spu_lift.specs.declared.fault.LiftFault.TheVariants as faults
use Rattle.spu_lift.specs.Tables.{DataPlace, reloc_at, section_at, symbol_at}
use Rattle.spu_lift.specs.Extents.{Extent, IsEarlier, covers, extent_name}
use Rattle.spu_lift.specs.Lifted.{ear_place}
use Rattle.spu_lift.specs.LiftFaults.{IsAbsent, IsFirst, IsLeastFault, OfCode, OfEar, OfFunction, OfReloc, OfSection, OfSymbol, OfWord, Shows, TellsSite, TellsSymbol, kind_number}
use Rattle.spu_lift.proofs.OneExtent.{AreApart, at_one, one_covered, one_extent}

-- ---- the order of kinds and of places

abbrev kind_of : ℕ → LiftKind
kind_of n = if n == 1 then DuplicateSymbol else (if n == 2 then UndefinedSymbol else (if n == 3 then ReservedName else (if n == 4 then NoEntry else (if n == 5 then Misaligned else (if n == 6 then CodeOutsideFunction else (if n == 7 then FunctionOverlap else (if n == 8 then UnknownInstruction else (if n == 9 then BadRelocation else (if n == 10 then BadTarget else (if n == 11 then CodeAddend else (if n == 12 then LinkRegister else (ReadsCode))))))))))))

kind_back : (kind : LiftKind) → kind_of (kind_number kind) ≡ kind
kind_back DuplicateSymbol = refl
kind_back UndefinedSymbol = refl
kind_back ReservedName = refl
kind_back NoEntry = refl
kind_back Misaligned = refl
kind_back CodeOutsideFunction = refl
kind_back FunctionOverlap = refl
kind_back UnknownInstruction = refl
kind_back BadRelocation = refl
kind_back BadTarget = refl
kind_back CodeAddend = refl
kind_back LinkRegister = refl
kind_back ReadsCode = refl

pub kind_same : (a b : LiftKind) → kind_number a ≡ kind_number b → a ≡ b
kind_same a b e = sym (kind_back a) ∙ ap kind_of e ∙ kind_back b

heads : (x y : ℕ) (xs ys : List ℕ) → x ∷ xs ≡ y ∷ ys → (x ≡ y) × (xs ≡ ys)
heads x y xs ys e = (cc, cc)

joined : (x y : ℕ) (xs ys : List ℕ) → x ≡ y → xs ≡ ys → x ∷ xs ≡ y ∷ ys
joined x y xs ys a b = cc

-- one of two places of the same length is the earlier one, or they are the same
ordered : (a b : List ℕ) → length a ≡ length b → IsEarlier a b ⊎ ((a ≡ b) ⊎ IsEarlier b a)
ordered [] [] e = inr (inl refl)
ordered [] (y ∷ ys) e = absurd (omega (arith, e))
ordered (x ∷ xs) [] e = absurd (omega (arith, e))
ordered (x ∷ xs) (y ∷ ys) e = elim (cases_order x y) [
  | inl same ↦ behind same (ordered xs ys (omega (arith, e)))
  | inr apart ↦ elim apart [ inl less ↦ inl (inl less) | inr more ↦ inr (inr (inl more)) ]
]
  where
    behind : x ≡ y → IsEarlier xs ys ⊎ ((xs ≡ ys) ⊎ IsEarlier ys xs) → IsEarlier (x ∷ xs) (y ∷ ys) ⊎ (((x ∷ xs) ≡ (y ∷ ys)) ⊎ IsEarlier (y ∷ ys) (x ∷ xs))
    behind same (inl before) = inl (inr (same, before))
    behind same (inr (inl all)) = inr (inl (joined x y xs ys same all))
    behind same (inr (inr after)) = inr (inr (inr (sym same, after)))

-- the places of a kind have one length
abbrev place_size : LiftKind → ℕ
place_size DuplicateSymbol = 2
place_size UndefinedSymbol = 4
place_size ReservedName = 2
place_size NoEntry = 0
place_size Misaligned = 3
place_size CodeOutsideFunction = 3
place_size FunctionOverlap = 3
place_size UnknownInstruction = 3
place_size BadRelocation = 4
place_size BadTarget = 3
place_size CodeAddend = 4
place_size LinkRegister = 3
place_size ReadsCode = 3

sized : (kind : LiftKind) (os : List Object) (entry place : List ℕ) (fault : LiftFault) → Shows kind os entry place fault → length place ≡ place_size kind
sized DuplicateSymbol os entry place fault s = ap length s.at
sized UndefinedSymbol os entry place fault s = ap length s.at
sized ReservedName os entry place fault s = ap length s.at
sized NoEntry os entry place fault s = ap length s.at
sized Misaligned os entry place fault (inl s) = ap length s.at
sized Misaligned os entry place fault (inr (inl s)) = ap length s.at
sized Misaligned os entry place fault (inr (inr s)) = ap length s.at
sized CodeOutsideFunction os entry place fault s = ap length s.at
sized FunctionOverlap os entry place fault s = ap length s.at
sized UnknownInstruction os entry place fault s = ap length s.at
sized BadRelocation os entry place fault s = ap length s.at
sized BadTarget os entry place fault s = ap length s.at
sized CodeAddend os entry place fault s = ap length s.at
sized LinkRegister os entry place fault s = ap length s.at
sized ReadsCode os entry place fault s = ap length s.at

-- ---- a fault is told by its place

of_symbol : (os : List Object) (kind : LiftKind) (faulty : ℕ → ℕ → Symbol → Type 0) (place : List ℕ) (a b : LiftFault) → OfSymbol os kind faulty place a → OfSymbol os kind faulty place b → a ≡ b
of_symbol os kind faulty place a b x y =
    let one = heads x.n y.n (x.j ∷ []) (y.j ∷ []) (sym x.at ∙ y.at) in
    let two = heads x.j y.j [] [] one.1 in
    let there : symbol_at os x.n x.j ≡ Some y.symbol = ap (λ n. symbol_at os n x.j) one.0 ∙ ap (λ j. symbol_at os y.n j) two.0 ∙ y.there in
    let symbol : x.symbol ≡ y.symbol = at_one (symbol_at os x.n x.j) x.symbol y.symbol x.there there in
    x.told ∙ ap (λ (s : Symbol). faults.Symbol kind s.name) symbol ∙ sym y.told

abbrev AreOne : (ℕ → Reloc → Section → LiftFault → Type 0) → Type 0
AreOne tells = (n : ℕ) (r : Reloc) (t : Section) (f g : LiftFault) → tells n r t f → tells n r t g → f ≡ g

site_once : (kind : LiftKind) → AreOne (TellsSite kind)
site_once kind n r t f g x y = x ∙ sym y

symbol_once : (os : List Object) (kind : LiftKind) → AreOne (TellsSymbol os kind)
symbol_once os kind n r t f g (s, there, told) (u, here, other) = told ∙ ap (λ (v : Symbol). faults.Symbol kind v.name) (at_one (symbol_at os n r.symbol) s u there here) ∙ sym other

of_reloc : (os : List Object) (faulty : ℕ → ℕ → Reloc → Section → Type 0) (tells : ℕ → Reloc → Section → LiftFault → Type 0) (place : List ℕ) (a b : LiftFault) → AreOne tells
    → OfReloc os faulty tells place a → OfReloc os faulty tells place b → a ≡ b
of_reloc os faulty tells place a b once x y =
    let one = heads x.n y.n (x.reloc.section ∷ x.reloc.offset ∷ x.i ∷ []) (y.reloc.section ∷ y.reloc.offset ∷ y.i ∷ []) (sym x.at ∙ y.at) in
    let two = heads x.reloc.section y.reloc.section (x.reloc.offset ∷ x.i ∷ []) (y.reloc.offset ∷ y.i ∷ []) one.1 in
    let three = heads x.reloc.offset y.reloc.offset (x.i ∷ []) (y.i ∷ []) two.1 in
    let four = heads x.i y.i [] [] three.1 in
    let there : reloc_at os x.n x.i ≡ Some y.reloc = ap (λ n. reloc_at os n x.i) one.0 ∙ ap (λ i. reloc_at os y.n i) four.0 ∙ y.there in
    let reloc : x.reloc ≡ y.reloc = at_one (reloc_at os x.n x.i) x.reloc y.reloc x.there there in
    let within : section_at os x.n x.reloc.section ≡ Some y.section = ap (λ n. section_at os n x.reloc.section) one.0 ∙ ap (λ k. section_at os y.n k) two.0 ∙ y.in_section in
    let section : x.section ≡ y.section = at_one (section_at os x.n x.reloc.section) x.section y.section x.in_section within in
    let told : tells y.n y.reloc y.section a =
    subst (λ (t : Section). tells y.n y.reloc t a) section (subst (λ (r : Reloc). tells y.n r x.section a) reloc (subst (λ n. tells n x.reloc x.section a) one.0 x.told)) in
    once y.n y.reloc y.section a b told y.told

abbrev site : LiftKind → ℕ → Section → ℕ → LiftFault
site kind n t offset = faults.Site kind n t.name offset

sites_same : (kind : LiftKind) (m n : ℕ) (t u : Section) (a b : ℕ) → m ≡ n → t ≡ u → a ≡ b → site kind m t a ≡ site kind n u b
sites_same kind m n t u a b one two three = ap (λ x. site kind x t a) one ∙ ap (λ (x : Section). site kind n x a) two ∙ ap (site kind n u) three

of_section : (os : List Object) (place : List ℕ) (a b : LiftFault) → OfSection os place a → OfSection os place b → a ≡ b
of_section os place a b x y =
    let one = heads x.n y.n (0 ∷ x.k ∷ []) (0 ∷ y.k ∷ []) (sym x.at ∙ y.at) in
    let two = heads 0 0 (x.k ∷ []) (y.k ∷ []) one.1 in
    let three = heads x.k y.k [] [] two.1 in
    let there : section_at os x.n x.k ≡ Some y.section = ap (λ n. section_at os n x.k) one.0 ∙ ap (λ k. section_at os y.n k) three.0 ∙ y.there in
    let section : x.section ≡ y.section = at_one (section_at os x.n x.k) x.section y.section x.there there in
    x.told ∙ sites_same Misaligned x.n y.n x.section y.section 0 0 one.0 section refl ∙ sym y.told

of_function : (os : List Object) (place : List ℕ) (a b : LiftFault) → OfFunction os place a → OfFunction os place b → a ≡ b
of_function os place a b x y =
    let one = heads x.x.object y.x.object (1 ∷ x.j ∷ []) (1 ∷ y.j ∷ []) (sym x.at ∙ y.at) in
    let two = heads 1 1 (x.j ∷ []) (y.j ∷ []) one.1 in
    let three = heads x.j y.j [] [] two.1 in
    let there : symbol_at os x.x.object x.j ≡ Some y.symbol = ap (λ n. symbol_at os n x.j) one.0 ∙ ap (λ j. symbol_at os y.x.object j) three.0 ∙ y.there.symbol in
    let symbol : x.symbol ≡ y.symbol = at_one (symbol_at os x.x.object x.j) x.symbol y.symbol x.there.symbol there in
    let extent : x.x ≡ y.x = one_covered x.x y.x y.symbol one.0 (subst (λ (s : Symbol). covers x.x s ≡ true) symbol x.there.covers) y.there.covers in
    let within : section_at os x.x.object x.x.section ≡ Some y.section = ap (λ (e : Extent). section_at os e.object e.section) extent ∙ y.there.section in
    let section : x.section ≡ y.section = at_one (section_at os x.x.object x.x.section) x.section y.section x.there.section within in
    x.told ∙ sites_same Misaligned x.x.object y.x.object x.section y.section x.x.offset y.x.offset one.0 section (ap (λ (e : Extent). e.offset) extent) ∙ sym y.told

of_ear : (os : List Object) (place : List ℕ) (a b : LiftFault) → OfEar os place a → OfEar os place b → a ≡ b
of_ear os place a b x y =
    let one = heads x.n y.n (2 ∷ x.j ∷ []) (2 ∷ y.j ∷ []) (sym x.at ∙ y.at) in
    let two = heads 2 2 (x.j ∷ []) (y.j ∷ []) one.1 in
    let three = heads x.j y.j [] [] two.1 in
    let there : symbol_at os x.n x.j ≡ Some y.symbol = ap (λ n. symbol_at os n x.j) one.0 ∙ ap (λ j. symbol_at os y.n j) three.0 ∙ y.there in
    let symbol : x.symbol ≡ y.symbol = at_one (symbol_at os x.n x.j) x.symbol y.symbol x.there there in
    let ear : ear_place os x.n x.symbol ≡ Some y.lies = ap (λ n. ear_place os n x.symbol) one.0 ∙ ap (λ (s : Symbol). ear_place os y.n s) symbol ∙ y.ear in
    let lies : x.lies ≡ y.lies = at_one (ear_place os x.n x.symbol) x.lies y.lies x.ear ear in
    x.told ∙ sites_same Misaligned x.n y.n x.lies.section y.lies.section x.symbol.value y.symbol.value one.0 (ap (λ (d : DataPlace). d.section) lies) (ap (λ (s : Symbol). s.value) symbol) ∙ sym y.told

-- sections, functions and quadwords have different places
apart : (m n i j s t : ℕ) → (s ≡ t → ⊥) → m ∷ s ∷ i ∷ [] ≡ n ∷ t ∷ j ∷ [] → ⊥
apart m n i j s t ne e = ne ((heads s t (i ∷ []) (j ∷ []) (heads m n (s ∷ i ∷ []) (t ∷ j ∷ []) e).1).0)

of_alignment : (os : List Object) (place : List ℕ) (a b : LiftFault) → OfSection os place a ⊎ (OfFunction os place a ⊎ OfEar os place a) → OfSection os place b ⊎ (OfFunction os place b ⊎ OfEar os place b) → a ≡ b
of_alignment os place a b (inl x) (inl y) = of_section os place a b x y
of_alignment os place a b (inl x) (inr (inl y)) = absurd (apart x.n y.x.object x.k y.j 0 1 (λ e. omega (arith, e)) (sym x.at ∙ y.at))
of_alignment os place a b (inl x) (inr (inr y)) = absurd (apart x.n y.n x.k y.j 0 2 (λ e. omega (arith, e)) (sym x.at ∙ y.at))
of_alignment os place a b (inr (inl x)) (inl y) = absurd (apart x.x.object y.n x.j y.k 1 0 (λ e. omega (arith, e)) (sym x.at ∙ y.at))
of_alignment os place a b (inr (inl x)) (inr (inl y)) = of_function os place a b x y
of_alignment os place a b (inr (inl x)) (inr (inr y)) = absurd (apart x.x.object y.n x.j y.j 1 2 (λ e. omega (arith, e)) (sym x.at ∙ y.at))
of_alignment os place a b (inr (inr x)) (inl y) = absurd (apart x.n y.n x.j y.k 2 0 (λ e. omega (arith, e)) (sym x.at ∙ y.at))
of_alignment os place a b (inr (inr x)) (inr (inl y)) = absurd (apart x.n y.x.object x.j y.j 2 1 (λ e. omega (arith, e)) (sym x.at ∙ y.at))
of_alignment os place a b (inr (inr x)) (inr (inr y)) = of_ear os place a b x y

of_code : (os : List Object) (kind : LiftKind) (faulty : ℕ → ℕ → ℕ → ℕ → Type 0) (place : List ℕ) (a b : LiftFault) → OfCode os kind faulty place a → OfCode os kind faulty place b → a ≡ b
of_code os kind faulty place a b x y =
    let one = heads x.n y.n (x.k ∷ (WORD_SIZE * x.i) ∷ []) (y.k ∷ (WORD_SIZE * y.i) ∷ []) (sym x.at ∙ y.at) in
    let two = heads x.k y.k ((WORD_SIZE * x.i) ∷ []) ((WORD_SIZE * y.i) ∷ []) one.1 in
    let three = heads (WORD_SIZE * x.i) (WORD_SIZE * y.i) [] [] two.1 in
    let there : section_at os x.n x.k ≡ Some y.section = ap (λ n. section_at os n x.k) one.0 ∙ ap (λ k. section_at os y.n k) two.0 ∙ y.there in
    let section : x.section ≡ y.section = at_one (section_at os x.n x.k) x.section y.section x.there there in
    x.told ∙ sites_same kind x.n y.n x.section y.section (WORD_SIZE * x.i) (WORD_SIZE * y.i) one.0 section three.0 ∙ sym y.told

-- no two functions hold the word
of_word : (os : List Object) (entry : List ℕ) (kind : LiftKind) (faulty : Extent → ℕ → ℕ → Type 0) (place : List ℕ) (a b : LiftFault) → AreApart os entry → OfWord os kind faulty place a → OfWord os kind faulty place b → a ≡ b
of_word os entry kind faulty place a b alone x y =
    let one = heads x.x.object y.x.object (x.x.section ∷ (x.x.offset + WORD_SIZE * x.j) ∷ []) (y.x.section ∷ (y.x.offset + WORD_SIZE * y.j) ∷ []) (sym x.at ∙ y.at) in
    let two = heads x.x.section y.x.section ((x.x.offset + WORD_SIZE * x.j) ∷ []) ((y.x.offset + WORD_SIZE * y.j) ∷ []) one.1 in
    let sum : x.x.offset + WORD_SIZE * x.j ≡ y.x.offset + WORD_SIZE * y.j = (heads (x.x.offset + WORD_SIZE * x.j) (y.x.offset + WORD_SIZE * y.j) [] [] two.1).0 in
    let first = x.inside in
    let second = y.inside in
    let extent : x.x ≡ y.x = one_extent os entry x.x y.x x.x.object x.x.section (x.x.offset + WORD_SIZE * x.j) alone x.extent y.extent
    (record { object = refl; section = refl; from = omega arith; to = omega arith })
    (record { object = sym one.0; section = sym two.0; from = omega arith; to = omega arith }) in
    let offsets : x.x.offset ≡ y.x.offset = ap (λ (e : Extent). e.offset) extent in
    let words : WORD_SIZE * x.j ≡ WORD_SIZE * y.j = omega arith in
    x.told ∙ ap (λ (e : Extent). faults.Word kind (extent_name os e) (WORD_SIZE * x.j)) extent ∙ ap (faults.Word kind (extent_name os y.x)) words ∙ sym y.told

-- lesser kinds are shown nowhere
abbrev pub AreAbsentBelow : LiftKind → List Object → List ℕ → Type 0
AreAbsentBelow kind os entry = (less : LiftKind) → kind_number less < kind_number kind → IsAbsent less os entry

alone_below : (kind : LiftKind) (os : List Object) (entry : List ℕ) → All IsWellFormed os → AreAbsentBelow kind os entry → 7 < kind_number kind → AreApart os entry
alone_below kind os entry formed absent more = record { formed = formed; aligned = absent Misaligned (omega (arith, more)); overlaps = absent FunctionOverlap (omega (arith, more)) }

told_once : (kind : LiftKind) (os : List Object) (entry place : List ℕ) (a b : LiftFault) → All IsWellFormed os → AreAbsentBelow kind os entry → Shows kind os entry place a → Shows kind os entry place b → a ≡ b
told_once DuplicateSymbol os entry place a b formed absent x y = of_symbol os DuplicateSymbol _ place a b x y
told_once UndefinedSymbol os entry place a b formed absent x y = of_reloc os _ (TellsSymbol os UndefinedSymbol) place a b (symbol_once os UndefinedSymbol) x y
told_once ReservedName os entry place a b formed absent x y = of_symbol os ReservedName _ place a b x y
told_once NoEntry os entry place a b formed absent x y = x.told ∙ sym y.told
told_once Misaligned os entry place a b formed absent x y = of_alignment os place a b x y
told_once CodeOutsideFunction os entry place a b formed absent x y = of_code os CodeOutsideFunction _ place a b x y
told_once FunctionOverlap os entry place a b formed absent x y = of_code os FunctionOverlap _ place a b x y
told_once UnknownInstruction os entry place a b formed absent x y = of_word os entry UnknownInstruction _ place a b (alone_below UnknownInstruction os entry formed absent (lit< tt)) x y
told_once BadRelocation os entry place a b formed absent x y = of_reloc os _ (TellsSite BadRelocation) place a b (site_once BadRelocation) x y
told_once BadTarget os entry place a b formed absent x y = of_word os entry BadTarget _ place a b (alone_below BadTarget os entry formed absent (lit< tt)) x y
told_once CodeAddend os entry place a b formed absent x y = of_reloc os _ (TellsSite CodeAddend) place a b (site_once CodeAddend) x y
told_once LinkRegister os entry place a b formed absent x y = of_word os entry LinkRegister _ place a b (alone_below LinkRegister os entry formed absent (lit< tt)) x y
told_once ReadsCode os entry place a b formed absent x y = of_word os entry ReadsCode _ place a b (alone_below ReadsCode os entry formed absent (lit< tt)) x y

-- ---- one least fault

first_once : (kind : LiftKind) (os : List Object) (entry : List ℕ) (a b : LiftFault) → All IsWellFormed os → AreAbsentBelow kind os entry → IsFirst kind os entry a → IsFirst kind os entry b → a ≡ b
first_once kind os entry a b formed absent x y = elim (ordered x.place y.place (sized kind os entry x.place a x.here ∙ sym (sized kind os entry y.place b y.here))) [
  | inl before ↦ absurd (y.first x.place a before x.here)
  | inr more ↦ elim more [
    | inl same ↦ told_once kind os entry y.place a b formed absent (subst (λ (q : List ℕ). Shows kind os entry q a) same x.here) y.here
    | inr after ↦ absurd (x.first y.place b after y.here)
  ]
]

pub one_fault : (os : List Object) (entry : List ℕ) (a b : LiftFault) → All IsWellFormed os → IsLeastFault os entry a → IsLeastFault os entry b → a ≡ b
one_fault os entry a b formed x y = elim (cases_order (kind_number x.kind) (kind_number y.kind)) [
  | inl same ↦
      let kinds : x.kind ≡ y.kind = kind_same x.kind y.kind same in
      first_once y.kind os entry a b formed y.least (subst (λ (kind : LiftKind). IsFirst kind os entry a) kinds x.here) y.here
  | inr differ ↦ elim differ [
    | inl less ↦ absurd (y.least x.kind less x.here.place a x.here.here)
    | inr more ↦ absurd (x.least y.kind more y.here.place b y.here.here)
  ]
]
