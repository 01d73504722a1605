-- What can be decided: it holds or it doesn't.
use Rattle.std.proofs.Common.{◌≡◌, ◌≢◌, ℕ, zero, suc, ◌<◌, ◌≤◌, ◌⊎◌, Bool, true, Option, Some, None, refl, sym, subst, inl, inr, arith, false}
use Rattle.std.proofs.lemmas.Bool.{cases_lt, false≢true}
use Rattle.std.proofs.lemmas.Option.{none-some, same_Some}
use Rattle.spu_word.proofs.Places.{nat_equal}

abbrev pub Decided : Type 0 → Type 0
Decided P = P ⊎ (P → ⊥)

pub decided_by : (P Q : Type 0) → (P → Q) → (Q → P) → Decided P → Decided Q
decided_by P Q so back (inl p) = inl (so p)
decided_by P Q so back (inr fails) = inr (λ q. fails (back q))

pub decided_both : (P Q : Type 0) → Decided P → Decided Q → Decided (P × Q)
decided_both P Q (inl p) (inl q) = inl (p, q)
decided_both P Q (inl p) (inr fails) = inr (λ h. fails h.1)
decided_both P Q (inr fails) d = inr (λ h. fails h.0)

pub decided_either : (P Q : Type 0) → Decided P → Decided Q → Decided (P ⊎ Q)
decided_either P Q (inl p) d = inl (inl p)
decided_either P Q (inr fails) (inl q) = inl (inr q)
decided_either P Q (inr fails) (inr none) = inr (neither P Q fails none)
  where
    neither : (P Q : Type 0) → (P → ⊥) → (Q → ⊥) → P ⊎ Q → ⊥
    neither P Q fails none (inl p) = fails p
    neither P Q fails none (inr q) = none q

pub decided_not : (P : Type 0) → Decided P → Decided (P → ⊥)
decided_not P (inl p) = inr (λ fails. fails p)
decided_not P (inr fails) = inl fails

pub never : (P : Type 0) → (P → ⊥) → Decided P
never P fails = inr fails

pub always : (P : Type 0) → P → Decided P
always P p = inl p

-- ---- of tests and numbers

pub decided_true : (b : Bool) → Decided (b ≡ true)
decided_true true = inl refl
decided_true false = inr false≢true

pub decided_less : (m n : ℕ) → Decided (m < n)
decided_less m n = elim (cases_lt m n) [
  | inl less ↦ inl less
  | inr more ↦ inr (λ less. omega arith)
]

pub decided_at_most : (m n : ℕ) → Decided (m ≤ n)
decided_at_most m n = elim (cases_lt n m) [
  | inl less ↦ inr (λ most. omega arith)
  | inr more ↦ inl more
]

pub decided_unequal : (m n : ℕ) → Decided (m ≢ n)
decided_unequal m n = decided_not (m ≡ n) (nat_equal m n)

-- ---- of what there is

-- an element that is such
abbrev pub IsSomeOf : {X : Type 0} → Option X → (X → Type 0) → Type 0
IsSomeOf {X} o P = (x : X) × (o ≡ Some x) × P x

pub decided_some : {X : Type 0} (o : Option X) (P : X → Type 0) → ((x : X) → o ≡ Some x → Decided (P x)) → Decided (IsSomeOf o P)
decided_some None P each = inr (λ h. none-some h.0 h.1)
decided_some (Some x) P each = elim (each x refl) [
  | inl is ↦ inl (x, refl, is)
  | inr fails ↦ inr (λ h. fails (subst P (sym (same_Some x h.0 h.1)) h.2))
]

-- a number below another that is such
abbrev pub IsBelow : ℕ → (ℕ → Type 0) → Type 0
IsBelow count P = (n : ℕ) × (n < count) × P n

pub decided_below : (P : ℕ → Type 0) → ((n : ℕ) → Decided (P n)) → (count : ℕ) → Decided (IsBelow count P)
decided_below P each zero = inr (λ h. absurd (omega (arith, h.1)))
decided_below P each (suc count) = elim (each count) [
  | inl is ↦ inl (count, omega arith, is)
  | inr fails ↦ elim (decided_below P each count) [
    | inl below ↦ inl (below.0, (let less = below.1 in omega (arith, less)), below.2)
    | inr none ↦ inr (λ h. absurd (elim (cases_lt h.0 count) [
      | inl less ↦ none (h.0, less, h.2)
      | inr more ↦
          let less = h.1 in
          let same : h.0 ≡ count = omega (arith, less, more) in
          fails (subst P same h.2)
    ]))
  ]
]
