-- Places of areas whose names differ.
use Rattle.std.proofs.Common.{◌≡◌, ℕ, zero, suc, ◌⊎◌, Bool, true, false, List, [], ◌∷◌, ◌++◌, length, Some, refl, sym, ap, ◌∙◌, inl, inr}
use Rattle.std.specs.Prelude.{slice_get, not, ◌||◌}
use Rattle.std.specs.Str.{bytes_eq}
use Rattle.std.proofs.lemmas.Slice.Eq.{bytes_eq-Decides}
use Rattle.spu_tool.specs.declared.areas.AreaPlace.{AreaPlace}
use Rattle.spu_tool.specs.Areas.{ArePlaced, is_placed}

pub not_true : (b : Bool) → not b ≡ true → b ≡ false
not_true true e = sym e
not_true false e = refl

-- what stands in a list with one more element
last_or : (places : List AreaPlace) (p : AreaPlace) (i : ℕ) (x : AreaPlace) → slice_get (places ++ p ∷ []) i ≡ Some x → (slice_get places i ≡ Some x) ⊎ ((i ≡ length places) × (x ≡ p))
last_or [] p zero x e = inr (refl, (cc))
last_or [] p (suc i) x e = absurd (cc)
last_or (a ∷ places) p zero x e = inl e
last_or (a ∷ places) p (suc i) x e = elim (last_or places p i x e) [ inl h ↦ inl h | inr h ↦ inr (ap suc h.0, h.1) ]

or_false : (a b : Bool) → (a || b) ≡ false → (a ≡ false) × (b ≡ false)
or_false true b e = absurd (cc)
or_false false b e = (refl, e)

none_named : (places : List AreaPlace) (name : List ℕ) (i : ℕ) (x : AreaPlace) → is_placed places name ≡ false → slice_get places i ≡ Some x → x.name ≡ name → ⊥
none_named [] name i x none at same = cc
none_named (a ∷ places) name zero x none at same =
    let is : a ≡ x = cc in
    let h = or_false (bytes_eq a.name name) (is_placed places name) none in
    let yes : bytes_eq a.name name ≡ true = (bytes_eq-Decides a.name name).1 (ap (λ (p : AreaPlace). p.name) is ∙ same) in
    cc
none_named (a ∷ places) name (suc i) x none at same = none_named places name i x (or_false (bytes_eq a.name name) (is_placed places name) none).1 at same

pub one_more : (places : List AreaPlace) (p : AreaPlace) → ArePlaced places → is_placed places p.name ≡ false → ArePlaced (places ++ p ∷ [])
one_more places p placed none i j x y a b same = elim (last_or places p i x a) [
  | inl h ↦ elim (last_or places p j y b) [
    | inl k ↦ placed i j x y h k same
    | inr k ↦ absurd (none_named places p.name i x none h (same ∙ ap (λ (q : AreaPlace). q.name) k.1))
  ]
  | inr h ↦ elim (last_or places p j y b) [
    | inl k ↦ absurd (none_named places p.name j y none k (sym same ∙ ap (λ (q : AreaPlace). q.name) h.1))
    | inr k ↦ h.0 ∙ sym k.0
  ]
]
