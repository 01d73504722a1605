-- Each list of symbols of functions has an order in which it is sorted.
use Rattle.std.proofs.Common.{◌≡◌, ℕ, zero, suc, ◌⊎◌, List, [], ◌∷◌, Some, slice_get, refl, sym, subst, inl, inr, arith}
use Rattle.std.specs.List.Sorted.{IsPermutation}
use Rattle.std.proofs.lemmas.Option.{none-some, same_Some}
use Rattle.std.proofs.lemmas.List.Sorted.{IsPermutation-cons, IsPermutation-middle, IsPermutation-refl, IsPermutation-trans}
use Rattle.spu_lift.specs.declared.functions.FunctionSymbol.{FunctionSymbol}
use Rattle.spu_lift.specs.Extents.{IsEarlier}
use Rattle.spu_lift.specs.FunctionTables.{AreSorted, symbol_key}
use Rattle.spu_lift.proofs.SymbolOrder.{earlier_along, earlier_cases, not_itself}

-- ---- one symbol put in

-- the elements of one list are the symbol and those of another
abbrev IsAmong : FunctionSymbol → List FunctionSymbol → FunctionSymbol → Type 0
IsAmong f ss g = (g ≡ f) ⊎ ((i : ℕ) × (slice_get ss i ≡ Some g))

record IsPutIn (f : FunctionSymbol) (ss new : List FunctionSymbol) : Type 0 where
  pub moved : IsPermutation (f ∷ ss) new
  pub sorted : AreSorted new
  pub among : (j : ℕ) (g : FunctionSymbol) → slice_get new j ≡ Some g → IsAmong f ss g

-- none of the list is before the symbol
abbrev Leads : FunctionSymbol → List FunctionSymbol → Type 0
Leads f ss = (j : ℕ) (g : FunctionSymbol) → slice_get ss j ≡ Some g → IsEarlier (symbol_key g) (symbol_key f) → ⊥

in_front : (f : FunctionSymbol) (ss : List FunctionSymbol) → Leads f ss → AreSorted ss → AreSorted (f ∷ ss)
in_front f ss leads sorted zero zero g h less one two =
    let a : f ≡ g = same_Some f g one in
    let b : f ≡ h = same_Some f h two in
    subst (λ (x : FunctionSymbol). IsEarlier (symbol_key x) (symbol_key g) → ⊥) b (subst (λ (x : FunctionSymbol). IsEarlier (symbol_key f) (symbol_key x) → ⊥) a (not_itself (symbol_key f)))
in_front f ss leads sorted zero (suc j) g h less one two =
    let a : f ≡ g = same_Some f g one in
    subst (λ (x : FunctionSymbol). IsEarlier (symbol_key h) (symbol_key x) → ⊥) a (leads j h two)
in_front f ss leads sorted (suc i) zero g h less one two = absurd (omega (arith, less))
in_front f ss leads sorted (suc i) (suc j) g h less one two = sorted i j g h (omega (arith, less)) one two

tail_sorted : (f : FunctionSymbol) (ss : List FunctionSymbol) → AreSorted (f ∷ ss) → AreSorted ss
tail_sorted f ss sorted i j g h less one two = sorted (suc i) (suc j) g h (omega (arith, less)) one two

leads_rest : (f : FunctionSymbol) (ss : List FunctionSymbol) → AreSorted (f ∷ ss) → Leads f ss
leads_rest f ss sorted j g at = sorted zero (suc j) f g (omega arith) refl at

-- what isn't behind the first leads the list
leads_all : (f g : FunctionSymbol) (ss : List FunctionSymbol) → (IsEarlier (symbol_key g) (symbol_key f) → ⊥) → AreSorted (g ∷ ss) → Leads f (g ∷ ss)
leads_all f g ss unless sorted zero h at before = unless (subst (λ (x : FunctionSymbol). IsEarlier (symbol_key x) (symbol_key f)) (sym (same_Some g h at)) before)
leads_all f g ss unless sorted (suc j) h at before = elim (earlier_cases (symbol_key f) (symbol_key g) refl) [
  | inl less ↦ leads_rest g ss sorted j h at (earlier_along (symbol_key h) (symbol_key f) (symbol_key g) before less)
  | inr rest ↦ elim rest [
    | inl same ↦ leads_rest g ss sorted j h at (subst (IsEarlier (symbol_key h)) same before)
    | inr more ↦ unless more
  ]
]

put_in : (f : FunctionSymbol) (ss : List FunctionSymbol) → AreSorted ss → (new : List FunctionSymbol) × IsPutIn f ss new
put_in f [] sorted = (
  f ∷ [],
  record {
    moved = IsPermutation-refl (f ∷ []);
    sorted = in_front f [] (λ j g at. absurd (none-some g at)) sorted;
    among = one;
  },
)
  where
    one : (j : ℕ) (g : FunctionSymbol) → slice_get (f ∷ []) j ≡ Some g → IsAmong f [] g
    one zero g at = inl (sym (same_Some f g at))
    one (suc j) g at = absurd (none-some g at)
put_in f (g ∷ ss) sorted = elim (earlier_cases (symbol_key g) (symbol_key f) refl) [
  | inl less ↦ behind less (put_in f ss (tail_sorted g ss sorted))
  | inr rest ↦ before (λ less. elim rest [
    | inl same ↦ not_itself (symbol_key f) (subst (λ ks. IsEarlier ks (symbol_key f)) same less)
    | inr more ↦ not_itself (symbol_key f) (earlier_along (symbol_key f) (symbol_key g) (symbol_key f) more less)
  ])
]
  where
    before : (IsEarlier (symbol_key g) (symbol_key f) → ⊥) → (new : List FunctionSymbol) × IsPutIn f (g ∷ ss) new
    before unless = (f ∷ g ∷ ss, record { moved = IsPermutation-refl (f ∷ g ∷ ss); sorted = in_front f (g ∷ ss) (leads_all f g ss unless sorted) sorted; among = all })
      where
        all : (j : ℕ) (h : FunctionSymbol) → slice_get (f ∷ g ∷ ss) j ≡ Some h → IsAmong f (g ∷ ss) h
        all zero h at = inl (sym (same_Some f h at))
        all (suc j) h at = inr (j, at)

    behind : IsEarlier (symbol_key g) (symbol_key f) → (new : List FunctionSymbol) × IsPutIn f ss new → (new : List FunctionSymbol) × IsPutIn f (g ∷ ss) new
    behind less (new, is) = (
      g ∷ new,
      record {
        moved = IsPermutation-trans (f ∷ g ∷ ss) (g ∷ f ∷ ss) (g ∷ new) (IsPermutation-middle (f ∷ []) g ss) (IsPermutation-cons g (f ∷ ss) new is.moved);
        sorted = in_front g new leads is.sorted;
        among = all;
      },
    )
      where
        by : (h : FunctionSymbol) → IsAmong f ss h → IsEarlier (symbol_key h) (symbol_key g) → ⊥
        by h (inl same) earlier = not_itself (symbol_key g) (earlier_along (symbol_key g) (symbol_key f) (symbol_key g) less (subst (λ (x : FunctionSymbol). IsEarlier (symbol_key x) (symbol_key g)) same earlier))
        by h (inr (i, at)) earlier = leads_rest g ss sorted i h at earlier

        leads : Leads g new
        leads j h at = by h (is.among j h at)

        more : (h : FunctionSymbol) → IsAmong f ss h → IsAmong f (g ∷ ss) h
        more h (inl same) = inl same
        more h (inr (i, at)) = inr (suc i, at)

        all : (j : ℕ) (h : FunctionSymbol) → slice_get (g ∷ new) j ≡ Some h → IsAmong f (g ∷ ss) h
        all zero h at = inr (zero, at)
        all (suc j) h at = more h (is.among j h at)

-- ---- all of them

pub record IsOrderOf (ss new : List FunctionSymbol) : Type 0 where
  pub moved : IsPermutation ss new
  pub sorted : AreSorted new

pub in_order : (ss : List FunctionSymbol) → (new : List FunctionSymbol) × IsOrderOf ss new
in_order [] = ([], record { moved = IsPermutation-refl ([]); sorted = λ i j f g less one two. absurd (none-some f one) })
in_order (f ∷ ss) = by (in_order ss)
  where
    by : (new : List FunctionSymbol) × IsOrderOf ss new → (new : List FunctionSymbol) × IsOrderOf (f ∷ ss) new
    by (new, is) =
        let put = put_in f new is.sorted in
        (put.0, record { moved = IsPermutation-trans (f ∷ ss) (f ∷ new) put.0 (IsPermutation-cons f ss new is.moved) put.1.moved; sorted = put.1.sorted })
