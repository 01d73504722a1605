-- The bytes of regions, section by section.
use Rattle.std.proofs.Common.{◌≡◌, ℕ, zero, suc, ◌+◌, ◌≤◌, ◌<◌, Bool, true, false, eqb, List, [], ◌∷◌, ◌++◌, length, take, get_or, set, replicate, refl, sym, ap, ◌∙◌, ⊎_elim, subst, arith}
use Rattle.std.specs.Prelude.{if◌then◌else◌, slice_index}
use Rattle.std.specs.List.{flat_map}
use Rattle.std.proofs.lemmas.Bool.{eq-eqb, ne_eqb, cases_lt}
use Rattle.std.proofs.lemmas.Grind.{flat_map-append}
use Rattle.std.proofs.lemmas.List.{append-nil, length-replicate, length-set, get_or-set_same, get_or-set_other}
use Rattle.spu_plan.specs.declared.plan.Plan.{Plan}
use Rattle.spu_image.specs.Images.{bytes_of_words}
use Rattle.spu_image.specs.Overlays.{in_region}
use Rattle.spu_image.specs.OverlayFilling.{AreRegionBytes}

abbrev nothing : List ℕ
nothing = []

none_at : (n r : ℕ) → get_or (replicate n nothing) r nothing ≡ nothing
none_at zero r = refl
none_at (suc n) zero = refl
none_at (suc n) (suc r) = none_at n r

pub none_so_far : (plan : Plan) (sections all : List (List ℕ)) → all ≡ replicate (plan.regions + 1) nothing → AreRegionBytes plan sections 0 all
none_so_far plan sections all is = record {
  count = ap length is ∙ length-replicate (plan.regions + 1) nothing;
  each = λ r lt. ap (λ (xs : List (List ℕ)). get_or xs r nothing) is ∙ none_at (plan.regions + 1) r;
}

-- one more section
with_more : (v : Bool) (words : List ℕ) (rest extra : List (List ℕ)) → (if v then words ∷ (rest ++ extra) else rest ++ extra) ≡ (if v then words ∷ rest else rest) ++ extra
with_more true words rest extra = refl
with_more false words rest extra = refl

abbrev own : Bool → List ℕ → List (List ℕ)
own v words = if v then words ∷ [] else []

in_more : (r : ℕ) (ss : List ℕ) (ws : List (List ℕ)) (k : ℕ) → k < length ss → k < length ws
    → in_region r (take (suc k) ss) (take (suc k) ws) ≡ in_region r (take k ss) (take k ws) ++ own (eqb (get_or ss k 0) r) (get_or ws k nothing)
in_more r [] ws k a b = absurd (omega arith)
in_more r (s ∷ ss) [] k a b = absurd (omega arith)
in_more r (s ∷ ss) (w ∷ ws) zero a b = refl
in_more r (s ∷ ss) (w ∷ ws) (suc k) a b =
    ap (λ (xs : List (List ℕ)). if eqb s r then w ∷ xs else xs) (in_more r ss ws k (omega arith) (omega arith))
    ∙ with_more (eqb s r) w (in_region r (take k ss) (take k ws)) (own (eqb (get_or ss k 0) r) (get_or ws k nothing))

bytes_more : (xs : List (List ℕ)) (words : List ℕ) → flat_map bytes_of_words (xs ++ words ∷ []) ≡ flat_map bytes_of_words xs ++ bytes_of_words words
bytes_more xs words = flat_map-append bytes_of_words xs (words ∷ []) ∙ ap (λ bs. flat_map bytes_of_words xs ++ bs) (append-nil (bytes_of_words words))

module _ (plan : Plan) (sections : List (List ℕ)) (k : ℕ) (a : k < length plan.region_of) (b : k < length sections) where
  abbrev so_far : ℕ → List (List ℕ)
  so_far r = in_region r (take k plan.region_of) (take k sections)

  next : suc k ≡ k + 1
  next = omega arith

  in_own : in_region (slice_index plan.region_of k) (take (k + 1) plan.region_of) (take (k + 1) sections) ≡ so_far (slice_index plan.region_of k) ++ get_or sections k nothing ∷ []
  in_own =
      ap (λ n. in_region (slice_index plan.region_of k) (take n plan.region_of) (take n sections)) (sym next)
      ∙ (in_more (slice_index plan.region_of k) plan.region_of sections k a b
      ∙ ap (λ v. so_far (slice_index plan.region_of k) ++ own v (get_or sections k nothing)) (eq-eqb (slice_index plan.region_of k) (slice_index plan.region_of k) refl))

  in_other : (r : ℕ) → (slice_index plan.region_of k ≡ r → ⊥) → in_region r (take (k + 1) plan.region_of) (take (k + 1) sections) ≡ so_far r
  in_other r ne =
      ap (λ n. in_region r (take n plan.region_of) (take n sections)) (sym next)
      ∙ (in_more r plan.region_of sections k a b
      ∙ (ap (λ v. so_far r ++ own v (get_or sections k nothing)) (ne_eqb (slice_index plan.region_of k) r ne) ∙ append-nil (so_far r)))

  pub region_grown : (all : List (List ℕ)) → AreRegionBytes plan sections k all → slice_index plan.region_of k ≤ plan.regions → (new words : List ℕ) → words ≡ get_or sections k nothing
      → new ≡ get_or all (slice_index plan.region_of k) nothing ++ bytes_of_words words → AreRegionBytes plan sections (k + 1) (set all (slice_index plan.region_of k) new)
  region_grown all are low new words is made = record { count = length-set all (slice_index plan.region_of k) new ∙ are.count; each = each }
    where
      others : (r : ℕ) → r ≤ plan.regions → (slice_index plan.region_of k ≡ r → ⊥) → get_or (set all (slice_index plan.region_of k) new) r nothing ≡ flat_map bytes_of_words (in_region r (take (k + 1) plan.region_of) (take (k + 1) sections))
      others r lt ne =
          get_or-set_other all (slice_index plan.region_of k) r new nothing (λ e. ne (sym e))
          ∙ (are.each r lt ∙ ap (flat_map bytes_of_words) (sym (in_other r ne)))

      its : get_or (set all (slice_index plan.region_of k) new) (slice_index plan.region_of k) nothing
          ≡ flat_map bytes_of_words (in_region (slice_index plan.region_of k) (take (k + 1) plan.region_of) (take (k + 1) sections))
      its =
          let long = are.count in
          get_or-set_same all (slice_index plan.region_of k) new nothing (omega (arith, low, long))
          ∙ (made ∙ (ap (λ bs. bs ++ bytes_of_words words) (are.each (slice_index plan.region_of k) low)
          ∙ (ap (λ (w : List ℕ). flat_map bytes_of_words (so_far (slice_index plan.region_of k)) ++ bytes_of_words w) is
          ∙ (sym (bytes_more (so_far (slice_index plan.region_of k)) (get_or sections k nothing)) ∙ ap (flat_map bytes_of_words) (sym in_own)))))

      each : (r : ℕ) → r ≤ plan.regions → get_or (set all (slice_index plan.region_of k) new) r nothing ≡ flat_map bytes_of_words (in_region r (take (k + 1) plan.region_of) (take (k + 1) sections))
      each r lt =
          ⊎_elim (λ (q : slice_index plan.region_of k < r). others r lt (λ e. absurd (omega (arith, q, e))))
          (λ (q : r ≤ slice_index plan.region_of k). ⊎_elim (λ (s : r < slice_index plan.region_of k). others r lt (λ e. absurd (omega (arith, s, e))))
          (λ (s : slice_index plan.region_of k ≤ r). (let e : slice_index plan.region_of k ≡ r = omega (arith, q, s) in
          subst (λ m. get_or (set all (slice_index plan.region_of k) new) m nothing ≡ flat_map bytes_of_words (in_region m (take (k + 1) plan.region_of) (take (k + 1) sections))) e its))
          (cases_lt r (slice_index plan.region_of k)))
          (cases_lt (slice_index plan.region_of k) r)

-- a list within has its item at any default
pub at_any : (xs : List (List ℕ)) (k : ℕ) (d e : List ℕ) → k < length xs → get_or xs k d ≡ get_or xs k e
at_any [] k d e lt = absurd (omega arith)
at_any (x ∷ xs) zero d e lt = refl
at_any (x ∷ xs) (suc k) d e lt = at_any xs k d e (omega arith)
