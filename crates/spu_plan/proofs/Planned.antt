-- What is made is a plan, or a fault.
use Rattle.std.proofs.Common.{◌≡◌, ℕ, ◌≤◌, ◌<◌, min, true, List, refl, sym, inl, inr, ⊎_elim, subst, arith}
use Rattle.spu_plan.specs.declared.plan.Plan.{Plan}
use Rattle.spu_plan.specs.declared.input.Mode.{Mode}
use Rattle.spu_plan.specs.declared.input.Mode.TheVariants.{Auto, Always, Never}
use Rattle.spu_plan.specs.declared.input.PlanInput.{PlanInput}
use Rattle.spu_plan.specs.Plans.{flat_plan}
use Rattle.spu_plan.specs.Cuts.{AreCut}
use Rattle.spu_plan.specs.Choices.{PermitsFlat, PermitsOverlays, IsEnd, flat, overlays, flat_end_of, IsPlan, IsTooLarge}
use Rattle.spu_plan.specs.Choosing.{IsGreatest, IsLeast, IsLeastEnd}
use Rattle.spu_plan.proofs.Greedy.{cases_le}

module _ (input : PlanInput) where
  pub flat_is : PermitsFlat input.mode → flat_end_of input ≤ input.room → (plan : Plan) → plan ≡ flat_plan input.data_end input.sizes → IsPlan input plan
  flat_is permitted fits plan is = inl (record { permitted = permitted; fits = fits; is = is })

  pub overlays_are : PermitsOverlays input.mode → (PermitsFlat input.mode → input.room < flat_end_of input) → (b end : ℕ) → IsGreatest input b end
      → (region_of : List ℕ) (regions : ℕ) → AreCut b input.sizes input.rooted region_of regions
      → IsPlan input (record { overlay = true; buffer = b; regions = regions; region_of = region_of; end = end; buffers = input.buffers })
  overlays_are permitted needed b end g region_of regions cut =
      inr (record { permitted = permitted; needed = needed; overlay = refl; buffers = refl; asked = g.asked; end = g.is; fits = g.fits; greatest = g.greatest; cut = cut })

  -- where overlays are not permitted
  flat_only : (m : Mode) → (PermitsOverlays m → ⊥) → PermitsFlat m
  flat_only Auto h = absurd (h tt)
  flat_only Always h = absurd (h tt)
  flat_only Never h = tt

  at_least_flat : (PermitsOverlays input.mode → ⊥) → (end : ℕ) → IsEnd input end → flat_end_of input ≤ end
  at_least_flat h end (flat p e) = omega (arith, e)
  at_least_flat h end (overlays p b a e) = absurd (h p)

  pub flat_is_too_large : (PermitsOverlays input.mode → ⊥) → (PermitsFlat input.mode → input.room < flat_end_of input) → IsTooLarge input (flat_end_of input)
  flat_is_too_large h over = record { end = flat (flat_only input.mode h) refl; lowest = at_least_flat h; over = over (flat_only input.mode h) }

  module _ (permitted : PermitsOverlays input.mode) (needed : PermitsFlat input.mode → input.room < flat_end_of input) (overlay : ℕ) (low : IsLeast input overlay) where
    overlay_ends : IsEnd input overlay
    overlay_ends = overlays permitted low.buffer low.asked low.is

    -- where flat images are permitted
    both_lowest : (least : ℕ) → least ≡ min (flat_end_of input) overlay → (end : ℕ) → IsEnd input end → least ≤ end
    both_lowest least is end (flat p e) = omega (arith, is, e)
    both_lowest least is end (overlays p b a e) = (let l = low.lowest b a in omega (arith, is, e, l))

    both : PermitsFlat input.mode → (least : ℕ) → least ≡ min (flat_end_of input) overlay → IsTooLarge input least
    both p least is =
        let over_flat = needed p in
        let over = low.over in
        ⊎_elim (λ (h : flat_end_of input ≤ overlay). record { end = flat p (omega (arith, is, h)); lowest = both_lowest least is; over = omega (arith, is, over_flat, over) })
        (λ (h : overlay < flat_end_of input). record { end = (let same : least ≡ overlay = omega (arith, is, h) in subst (IsEnd input) (sym same) overlay_ends); lowest = both_lowest least is; over = omega (arith, is, over_flat, over) })
        (cases_le (flat_end_of input) overlay)

    alone_lowest : (PermitsFlat input.mode → ⊥) → (end : ℕ) → IsEnd input end → overlay ≤ end
    alone_lowest h end (flat p e) = absurd (h p)
    alone_lowest h end (overlays p b a e) = (let l = low.lowest b a in omega (arith, e, l))

    alone : (PermitsFlat input.mode → ⊥) → (least : ℕ) → least ≡ overlay → IsTooLarge input least
    alone h least is = subst (IsTooLarge input) (sym is) (record { end = overlay_ends; lowest = alone_lowest h; over = low.over })

    by_mode : (m : Mode) → input.mode ≡ m → (least : ℕ) → IsLeastEnd m (flat_end_of input) overlay least → IsTooLarge input least
    by_mode Auto e least is = both (subst PermitsFlat (sym e) tt) least is
    by_mode Always e least is = alone (λ p. subst PermitsFlat e p) least is
    by_mode Never e least is = both (subst PermitsFlat (sym e) tt) least is

    pub are_too_large : (least : ℕ) → IsLeastEnd input.mode (flat_end_of input) overlay least → IsTooLarge input least
    are_too_large least is = by_mode input.mode refl least is
