-- The order of lists of numbers, and of symbols of functions by their keys.
use Rattle.std.proofs.Common.{◌≡◌, ℕ, ◌<◌, ◌≤◌, ◌⊎◌, Bool, true, false, ◌==◌, nat_lt, List, [], ◌∷◌, ◌++◌, length, get_or, Some, slice_get, refl, sym, ap, subst, ◌∙◌, inl, inr, arith}
use Rattle.std.specs.Ordering.{bool_cmp, is_lt, nat_cmp, ordering_then}
use Rattle.std.specs.declared.cmp.Ordering.{Ordering}
use Rattle.std.specs.declared.cmp.Ordering.TheVariants.{Equal, Less}
use Rattle.std.specs.List.Sorted.{IsSorted}
use Rattle.std.proofs.lemmas.List.Sorted.{ranks_by, sorted_far}
use Rattle.std.proofs.lemmas.Option.{get_or_from_slice_get, slice_get_within}
use Rattle.std.proofs.lemmas.Bool.{cases_lt}
use Rattle.std.proofs.lemmas.Bool.Decides.{nat_tests}
use Rattle.spu_lift.specs.declared.functions.FunctionSymbol.{FunctionSymbol}
use Rattle.spu_lift.specs.contracts.functions.FunctionSymbolOrd.TheImpl.Laws.{total-law}
use Rattle.spu_lift.specs.Extents.{Extent, IsEarlier}
use Rattle.spu_lift.specs.FunctionTables.{AreSorted, extent_in, extent_key, is_same, rank_of, symbol_key}

-- ---- lists of numbers

pub earlier_along : (ks ms ns : List ℕ) → IsEarlier ks ms → IsEarlier ms ns → IsEarlier ks ns
earlier_along (k ∷ ks) (m ∷ ms) (n ∷ ns) (inl a) (inl b) = inl (omega arith)
earlier_along (k ∷ ks) (m ∷ ms) (n ∷ ns) (inl a) (inr b) = let same = b.0 in inl (omega arith)
earlier_along (k ∷ ks) (m ∷ ms) (n ∷ ns) (inr a) (inl b) = let same = a.0 in inl (omega arith)
earlier_along (k ∷ ks) (m ∷ ms) (n ∷ ns) (inr a) (inr b) = inr (a.0 ∙ b.0, earlier_along ks ms ns a.1 b.1)
earlier_along (k ∷ ks) (m ∷ ms) [] a b = absurd b
earlier_along (k ∷ ks) [] ns a b = absurd a
earlier_along [] ms ns a b = absurd a

pub not_itself : (ks : List ℕ) → IsEarlier ks ks → ⊥
not_itself [] a = a
not_itself (k ∷ ks) (inl a) = absurd (omega arith)
not_itself (k ∷ ks) (inr a) = not_itself ks a.1

pub earlier_cases : (ms ns : List ℕ) → length ms ≡ length ns → IsEarlier ms ns ⊎ ((ms ≡ ns) ⊎ IsEarlier ns ms)
earlier_cases [] [] e = inr (inl refl)
earlier_cases [] (n ∷ ns) e = absurd (omega arith)
earlier_cases (m ∷ ms) [] e = absurd (omega arith)
earlier_cases (m ∷ ms) (n ∷ ns) e =
    elim (cases_lt m n) [
      | inl less ↦ inl (inl less)
      | inr more ↦ elim (cases_lt n m) [
        | inl behind ↦ inr (inr (inl behind))
        | inr even ↦
            let same : m ≡ n = omega arith in
            elim (earlier_cases ms ns (omega arith)) [
              | inl less ↦ inl (inr (same, less))
              | inr rest ↦ elim rest [
                | inl equal ↦ inr (inl (ap (λ k. k ∷ ms) same ∙ ap (λ ks. n ∷ ks) equal))
                | inr greater ↦ inr (inr (inr (sym same, greater)))
              ]
            ]
      ]
    ]

pub earlier_front : (ms ns xs ys : List ℕ) → IsEarlier ms ns → IsEarlier (ms ++ xs) (ns ++ ys)
earlier_front [] ns xs ys a = absurd a
earlier_front (m ∷ ms) [] xs ys a = absurd a
earlier_front (m ∷ ms) (n ∷ ns) xs ys (inl a) = inl a
earlier_front (m ∷ ms) (n ∷ ns) xs ys (inr a) = inr (a.0, earlier_front ms ns xs ys a.1)

pub earlier_behind : (ms xs ys : List ℕ) → IsEarlier xs ys → IsEarlier (ms ++ xs) (ms ++ ys)
earlier_behind [] xs ys a = a
earlier_behind (m ∷ ms) xs ys a = inr (refl, earlier_behind ms xs ys a)

-- ---- symbols

abbrev pub extent_numbers : Extent → List ℕ
extent_numbers x = x.object ∷ x.section ∷ x.offset ∷ x.size ∷ []

abbrev pub behind_extent : FunctionSymbol → List ℕ
behind_extent f = rank_of f.local ∷ f.symbol ∷ []

pub same_key : (f g : FunctionSymbol) → extent_in f ≡ extent_in g → extent_key f ≡ extent_key g
same_key f g e = ap extent_numbers e

same_extent : (n k o s m l p t : ℕ) → ◌≡◌ {A = List ℕ} (n ∷ k ∷ o ∷ s ∷ []) (m ∷ l ∷ p ∷ t ∷ []) → ◌≡◌ {A = Extent} (record { object = n; section = k; offset = o; size = s }) (record { object = m; section = l; offset = p; size = t })
same_extent n k o s m l p t e =
    let a : n ≡ m = cc in
    let b : k ≡ l = cc in
    let c : o ≡ p = cc in
    let d : s ≡ t = cc in
    let P : ℕ → ℕ → ℕ → ℕ → Extent = λ u v w x. record { object = u; section = v; offset = w; size = x } in
    ap (λ u. P u k o s) a ∙ ap (λ v. P m v o s) b ∙ ap (λ w. P m l w s) c ∙ ap (λ x. P m l p x) d

pub same_extents : (f g : FunctionSymbol) → extent_key f ≡ extent_key g → extent_in f ≡ extent_in g
same_extents f g e = same_extent f.object f.section f.offset f.size g.object g.section g.offset g.size e

pub tested_same : (f g : FunctionSymbol) → is_same f g ≡ true → extent_in f ≡ extent_in g
tested_same f g is = same_extents f g keys
  where
    object : f.object ≡ g.object
    object = grind (arith, nat_tests)

    section : f.section ≡ g.section
    section = grind (arith, nat_tests)

    offset : f.offset ≡ g.offset
    offset = grind (arith, nat_tests)

    size : f.size ≡ g.size
    size = grind (arith, nat_tests)

    keys : extent_key f ≡ extent_key g
    keys = ap (λ n. n ∷ f.section ∷ f.offset ∷ f.size ∷ []) object ∙ ap (λ n. g.object ∷ n ∷ f.offset ∷ f.size ∷ []) section ∙ ap (λ n. g.object ∷ g.section ∷ n ∷ f.size ∷ []) offset
        ∙ ap (λ n. g.object ∷ g.section ∷ g.offset ∷ n ∷ []) size

pub same_tested : (f g : FunctionSymbol) → extent_in f ≡ extent_in g → is_same f g ≡ true
same_tested f g e =
    let object : f.object ≡ g.object = ap (λ (x : Extent). x.object) e in
    let section : f.section ≡ g.section = ap (λ (x : Extent). x.section) e in
    let offset : f.offset ≡ g.offset = ap (λ (x : Extent). x.offset) e in
    let size : f.size ≡ g.size = ap (λ (x : Extent). x.size) e in
    grind (arith, nat_tests)

-- in a sorted list, a place and size do not fall
pub not_before : (fs : List FunctionSymbol) (i j : ℕ) (f g : FunctionSymbol) → AreSorted fs → i ≤ j → slice_get fs i ≡ Some f → slice_get fs j ≡ Some g → IsEarlier (extent_key g) (extent_key f) → ⊥
not_before fs i j f g sorted le one two less = sorted i j f g le one two (earlier_front (extent_key g) (extent_key f) (behind_extent g) (behind_extent f) less)

-- and of one extent, global symbols come before local ones, and earlier ones before later ones
pub not_before_within : (fs : List FunctionSymbol) (i j : ℕ) (f g : FunctionSymbol) → AreSorted fs → i ≤ j → slice_get fs i ≡ Some f → slice_get fs j ≡ Some g → extent_in g ≡ extent_in f
    → IsEarlier (behind_extent g) (behind_extent f) → ⊥
not_before_within fs i j f g sorted le one two same less =
    let keys : extent_key g ≡ extent_key f = same_key g f same in
    let behind : IsEarlier (extent_key g ++ behind_extent g) (extent_key g ++ behind_extent f) = earlier_behind (extent_key g) (behind_extent g) (behind_extent f) less in
    sorted i j f g le one two (subst (λ ks. IsEarlier (extent_key g ++ behind_extent g) (ks ++ behind_extent f)) keys behind)

-- whether one is before the other, of the same extent, or behind it
pub extent_cases : (f g : FunctionSymbol) → IsEarlier (extent_key f) (extent_key g) ⊎ ((extent_in f ≡ extent_in g) ⊎ IsEarlier (extent_key g) (extent_key f))
extent_cases f g = elim (earlier_cases (extent_key f) (extent_key g) refl) [
  | inl less ↦ inl less
  | inr rest ↦ elim rest [
    | inl equal ↦ inr (inl (same_extents f g equal))
    | inr greater ↦ inr (inr greater)
  ]
]

-- ---- the order of a sort

less_cmp : (m n : ℕ) → m < n → nat_cmp m n ≡ Less
less_cmp m n less = let test : nat_lt m n ≡ true = grind (arith, nat_tests) in rw test refl

same_cmp : (m n : ℕ) → m ≡ n → nat_cmp m n ≡ Equal
same_cmp m n same =
    let more : nat_lt m n ≡ false = grind (arith, nat_tests) in
    let test : (m == n) ≡ true = grind (arith, nat_tests) in
    rw (more, test) refl

less_first : (m n : ℕ) (o : Ordering) → m < n → is_lt (ordering_then (nat_cmp m n) o) ≡ true
less_first m n o less = ap (λ p. is_lt (ordering_then p o)) (less_cmp m n less)

less_next : (m n : ℕ) (o : Ordering) → m ≡ n → is_lt o ≡ true → is_lt (ordering_then (nat_cmp m n) o) ≡ true
less_next m n o same less = ap (λ p. is_lt (ordering_then p o)) (same_cmp m n same) ∙ less

rank_first : (b c : Bool) (o : Ordering) → rank_of b < rank_of c → is_lt (ordering_then (bool_cmp b c) o) ≡ true
rank_first true true o less = absurd (omega arith)
rank_first true false o less = absurd (omega arith)
rank_first false true o less = refl
rank_first false false o less = absurd (omega arith)

rank_next : (b c : Bool) (o : Ordering) → rank_of b ≡ rank_of c → is_lt o ≡ true → is_lt (ordering_then (bool_cmp b c) o) ≡ true
rank_next true true o same less = less
rank_next true false o same less = absurd (omega arith)
rank_next false true o same less = absurd (omega arith)
rank_next false false o same less = less

abbrev pub symbol_cmp : FunctionSymbol → FunctionSymbol → Ordering
symbol_cmp f g =
    ordering_then (nat_cmp f.object g.object) (ordering_then (nat_cmp f.section g.section) (ordering_then (nat_cmp f.offset g.offset) (ordering_then (nat_cmp f.size g.size)
    (ordering_then (bool_cmp f.local g.local) (nat_cmp f.symbol g.symbol)))))

less_from_key : (f g : FunctionSymbol) → IsEarlier (symbol_key f) (symbol_key g) → is_lt (symbol_cmp f g) ≡ true
less_from_key f g (inl less) = less_first f.object g.object (ordering_then (nat_cmp f.section g.section) (ordering_then (nat_cmp f.offset g.offset) (ordering_then (nat_cmp f.size g.size) (ordering_then (bool_cmp f.local g.local) (nat_cmp f.symbol g.symbol))))) less
less_from_key f g (inr (same, rest)) = less_next f.object g.object (ordering_then (nat_cmp f.section g.section) (ordering_then (nat_cmp f.offset g.offset) (ordering_then (nat_cmp f.size g.size) (ordering_then (bool_cmp f.local g.local) (nat_cmp f.symbol g.symbol))))) same (sections rest)
  where
    symbols : IsEarlier (f.symbol ∷ []) (g.symbol ∷ []) → is_lt (nat_cmp f.symbol g.symbol) ≡ true
    symbols (inl less) = ap is_lt (less_cmp f.symbol g.symbol less)
    symbols (inr none) = absurd none.1

    ranks : IsEarlier (rank_of f.local ∷ f.symbol ∷ []) (rank_of g.local ∷ g.symbol ∷ []) → is_lt (ordering_then (bool_cmp f.local g.local) (nat_cmp f.symbol g.symbol)) ≡ true
    ranks (inl less) = rank_first f.local g.local (nat_cmp f.symbol g.symbol) less
    ranks (inr (same, rest)) = rank_next f.local g.local (nat_cmp f.symbol g.symbol) same (symbols rest)

    sizes : IsEarlier (f.size ∷ rank_of f.local ∷ f.symbol ∷ []) (g.size ∷ rank_of g.local ∷ g.symbol ∷ []) → is_lt (ordering_then (nat_cmp f.size g.size) (ordering_then (bool_cmp f.local g.local) (nat_cmp f.symbol g.symbol))) ≡ true
    sizes (inl less) = less_first f.size g.size (ordering_then (bool_cmp f.local g.local) (nat_cmp f.symbol g.symbol)) less
    sizes (inr (same, rest)) = less_next f.size g.size (ordering_then (bool_cmp f.local g.local) (nat_cmp f.symbol g.symbol)) same (ranks rest)

    offsets : IsEarlier (f.offset ∷ f.size ∷ rank_of f.local ∷ f.symbol ∷ []) (g.offset ∷ g.size ∷ rank_of g.local ∷ g.symbol ∷ [])
        → is_lt (ordering_then (nat_cmp f.offset g.offset) (ordering_then (nat_cmp f.size g.size) (ordering_then (bool_cmp f.local g.local) (nat_cmp f.symbol g.symbol)))) ≡ true
    offsets (inl less) = less_first f.offset g.offset (ordering_then (nat_cmp f.size g.size) (ordering_then (bool_cmp f.local g.local) (nat_cmp f.symbol g.symbol))) less
    offsets (inr (same, rest)) = less_next f.offset g.offset (ordering_then (nat_cmp f.size g.size) (ordering_then (bool_cmp f.local g.local) (nat_cmp f.symbol g.symbol))) same (sizes rest)

    sections : IsEarlier (f.section ∷ f.offset ∷ f.size ∷ rank_of f.local ∷ f.symbol ∷ []) (g.section ∷ g.offset ∷ g.size ∷ rank_of g.local ∷ g.symbol ∷ [])
        → is_lt (ordering_then (nat_cmp f.section g.section) (ordering_then (nat_cmp f.offset g.offset) (ordering_then (nat_cmp f.size g.size) (ordering_then (bool_cmp f.local g.local) (nat_cmp f.symbol g.symbol))))) ≡ true
    sections (inl less) = less_first f.section g.section (ordering_then (nat_cmp f.offset g.offset) (ordering_then (nat_cmp f.size g.size) (ordering_then (bool_cmp f.local g.local) (nat_cmp f.symbol g.symbol)))) less
    sections (inr (same, rest)) = less_next f.section g.section (ordering_then (nat_cmp f.offset g.offset) (ordering_then (nat_cmp f.size g.size) (ordering_then (bool_cmp f.local g.local) (nat_cmp f.symbol g.symbol)))) same (offsets rest)

pub sorted_by_key : (fs : List FunctionSymbol) → IsSorted symbol_cmp fs → AreSorted fs
sorted_by_key fs up i j f g le one two less =
    let within : j < length fs = slice_get_within fs j g two in
    let no : is_lt (symbol_cmp (get_or fs j f) (get_or fs i f)) ≡ false = sorted_far (λ (x y : FunctionSymbol). is_lt (symbol_cmp x y)) (ranks_by total-law (λ (x : FunctionSymbol). x)) fs up i j f le within in
    let these : get_or fs j f ≡ g = get_or_from_slice_get fs j g f two in
    let those : get_or fs i f ≡ f = get_or_from_slice_get fs i f f one in
    let here : is_lt (symbol_cmp g f) ≡ false = ap (λ (x : FunctionSymbol). is_lt (symbol_cmp x f)) (sym these) ∙ ap (λ (x : FunctionSymbol). is_lt (symbol_cmp (get_or fs j f) x)) (sym those) ∙ no in
    let yes : is_lt (symbol_cmp g f) ≡ true = less_from_key g f less in
    absurd (cc)
