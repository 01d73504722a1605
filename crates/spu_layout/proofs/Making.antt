-- The layout that is made of the starts of sections.
use Rattle.std.proofs.Common.{◌≡◌, ◌≢◌, ℕ, zero, suc, ◌+◌, ◌-◌, ◌*◌, ◌≤◌, ◌⊎◌, Bool, true, false, List, [], ◌∷◌, length, drop, All, Option, Some, None, refl, sym, ap, ap₂, ◌∙◌, ⊎_elim, inl, inr, subst, arith}
use Rattle.std.proofs.Math.Path.{fun_ext}
use Rattle.std.specs.Prelude.{slice_get, slice_index, map, if◌then◌else◌}
use Rattle.std.proofs.lemmas.List.{length-replicate}
use Rattle.std.proofs.lemmas.Option.{slice_get_within, slice_get-get_or}
use Rattle.spu_word.specs.declared.limits.TheConstants.{DATA_START, QUAD_SIZE, STACK_TOP, STORE_SIZE, WORD_SIZE}
use Rattle.spu_lift.specs.declared.program.Function.{Function}
use Rattle.spu_lift.specs.declared.program.Prog.{Prog}
use Rattle.spu_lift.specs.StartCode.{start_code}
use Rattle.spu_lift.specs.WellFormed.{IsWellFormed}
use Rattle.spu_plan.specs.declared.plan.Plan.{Plan}
use Rattle.spu_plan.specs.Choices.{IsFlatPlan, IsOverlayPlan}
use Rattle.spu_layout.specs.declared.layout.Areas.{Areas}
use Rattle.spu_layout.specs.declared.layout.Layout as held
use Rattle.spu_layout.specs.declared.layout.Span.{Span}
use Rattle.spu_layout.specs.declared.layout.Spot.{Spot}
use Rattle.spu_layout.specs.declared.layout.Tail.{Tail}
use Rattle.spu_layout.specs.Layouts.{Layout, IsLaid, AreDisjoint, areas, span}
use Rattle.spu_layout.specs.Placing.{sizes_of, section_start, function_start, region_of_function, region_size, region_start, region, root_end, table_end, buffers_start, at, flat_layout, overlay_layout, layout_of, FitsFlat}
use Rattle.spu_layout.specs.Planned.{IsPlanned, Fits}
use Rattle.spu_layout.specs.Views.{AreStarts, LiesIn, LieInStore, start_at, region_at, start_in, spot_in, layout_in, flat_tail, overlay_tail, tail_of}
use Rattle.spu_layout.proofs.Flats.{planned, long, end_of, none_zero, flat_is_laid}
use Rattle.spu_layout.proofs.Overlaid.{in_store, table_low, end_is, flat_fits, planned_is_laid}
use Rattle.spu_layout.proofs.Ends.{end_low}

-- ---- the functions behind the first one

behind : (p : Prog) → IsWellFormed p → (f : ℕ) → slice_get p.functions (suc f) ≡ slice_get (drop 1 p.functions) f
behind p well f = of p.functions well.start
  where
    of : (fs : List Function) → slice_get fs 0 ≡ Some (start_code p.data_end p.entry) → slice_get fs (suc f) ≡ slice_get (drop 1 fs) f
    of [] h = cc
    of (g ∷ gs) h = refl

-- ---- either plan

-- what a plan is, by its flag
pub record IsFlatShape (p : Prog) (plan : Plan) : Type 0 where
  pub overlay : plan.overlay ≡ false
  pub end : root_end p plan ≡ plan.end
  pub none : plan.buffer * plan.buffers ≡ 0
  pub root : (k : ℕ) → slice_index plan.region_of k ≡ 0

pub record IsOverlayShape (p : Prog) (plan : Plan) : Type 0 where
  pub overlay : plan.overlay ≡ true
  pub buffers : buffers_start p plan + plan.buffer * plan.buffers ≡ plan.end
  pub table : table_end p plan ≤ STORE_SIZE

pub record IsShaped (p : Prog) (plan : Plan) (limit : ℕ) : Type 0 where
  pub store : LieInStore p plan
  pub shape : IsFlatShape p plan ⊎ IsOverlayShape p plan
  pub laid : IsLaid p limit (layout_of p plan limit)

flat_low : (p : Prog) (limit : ℕ) → (planned p).end ≤ STACK_TOP - limit → (r : ℕ) → r ≤ 0 → region_start p (planned p) r + region_size p (planned p) r ≤ STORE_SIZE
flat_low p limit below zero lt = (let e = end_of p in omega (arith, e, below))
flat_low p limit below (suc r) lt = absurd (omega arith)

flat_store : (p : Prog) (limit : ℕ) → (planned p).end ≤ STACK_TOP - limit → LieInStore p (planned p)
flat_store p limit below =
    record {
      count = length-replicate (length (sizes_of p)) 0 ∙ long p;
      known = λ k lt. (let z = none_zero k (length (sizes_of p)) in omega (arith, z));
      low = flat_low p limit below;
      end = omega (arith, below);
      behind = omega arith;
      some = λ q. absurd (omega (arith, q));
      buffers = λ q. absurd (omega (arith, q));
    }

flat_shape : (p : Prog) → IsFlatShape p (planned p)
flat_shape p = record { overlay = refl; end = end_of p; none = refl; root = λ k. none_zero k (length (sizes_of p)) }

by_flat : (p : Prog) (plan : Plan) (limit : ℕ) → IsWellFormed p → FitsFlat p plan limit → IsShaped p plan limit
by_flat p plan limit well fits =
    let below : (planned p).end ≤ STACK_TOP - limit = subst (λ (q : Plan). q.end ≤ STACK_TOP - limit) fits.planned fits.below in
    record {
      store = subst (LieInStore p) (sym fits.planned) (flat_store p limit below);
      shape = inl (subst (IsFlatShape p) (sym fits.planned) (flat_shape p));
      laid = flat_is_laid p plan limit well fits;
    }

by_planned : (p : Prog) (plan : Plan) (limit : ℕ) → IsWellFormed p → IsPlanned p plan limit → IsShaped p plan limit
by_planned p plan limit well asked =
    ⊎_elim (λ (flat : IsFlatPlan asked.input plan). by_flat p plan limit well (flat_fits p plan limit asked.input asked.of flat))
    (λ (made : IsOverlayPlan asked.input plan). record {
      store = in_store p plan limit well asked.input asked.allowed asked.of made;
      shape = inr (record {
        overlay = made.overlay;
        buffers = end_is p plan limit well asked.input asked.allowed asked.of made;
        table = table_low p plan limit well asked.input asked.allowed asked.of made;
      });
      laid = planned_is_laid p plan limit well asked;
    })
    asked.is

pub shaped : (p : Prog) (plan : Plan) (limit : ℕ) → IsWellFormed p → Fits p plan limit → IsShaped p plan limit
shaped p plan limit well fits = ⊎_elim (by_flat p plan limit well) (by_planned p plan limit well) fits

pub table_inside : (p : Prog) (plan : Plan) (limit : ℕ) → IsShaped p plan limit → plan.overlay ≡ true → table_end p plan ≤ STORE_SIZE
table_inside p plan limit is flag = ⊎_elim (λ (flat : IsFlatShape p plan). absurd (let no = flat.overlay in cc)) (λ (over : IsOverlayShape p plan). over.table) is.shape

-- ---- functions

module _ (p : Prog) (plan : Plan) (well : IsWellFormed p) (lie : LieInStore p plan) (sections : List ℕ) (starts : AreStarts p plan (length p.code) sections) where
  section_is : (f : ℕ) (g : Function) → f ≢ 0 → slice_get p.functions f ≡ Some g → slice_index sections g.section ≡ section_start p plan g.section
  section_is f g ne e =
      let is = well.each f g ne e in
      starts.each g.section (slice_get_within p.code g.section is.section is.there)

  lies : (f : ℕ) (g : Function) → f ≢ 0 → slice_get p.functions f ≡ Some g → LiesIn sections plan.region_of g
  lies f g ne e =
      let is = well.each f g ne e in
      let few = slice_get_within p.code g.section is.section is.there in
      let count = starts.count in
      let regions = lie.count in
      let here = section_is f g ne e in
      let room = is.fits in
      let low = end_low p plan lie g.section is.section is.there in
      record { placed = omega (arith, few, count); known = omega (arith, few, regions); inside = omega (arith, here, room, low) }

  pub all_lie : All (LiesIn sections plan.region_of) (drop 1 p.functions)
  all_lie k d lt =
      let e = slice_get-get_or (drop 1 p.functions) k d lt in
      lies (suc k) _ (λ q. omega arith) (behind p well k ∙ e)

  spots_at : (fs : List Function) (f : ℕ) → ((g : Function) → slice_get fs f ≡ Some g → start_in sections g ≡ function_start p plan (Some g))
      → start_at (slice_get (map (spot_in sections plan.region_of) fs) f) ≡ function_start p plan (slice_get fs f)
  spots_at [] zero h = refl
  spots_at [] (suc f) h = refl
  spots_at (g ∷ gs) zero h = h g refl
  spots_at (g ∷ gs) (suc f) h = spots_at gs f h

  regions_at : (fs : List Function) (f : ℕ) → region_at (slice_get (map (spot_in sections plan.region_of) fs) f) ≡ region_of_function plan (slice_get fs f)
  regions_at [] zero = refl
  regions_at [] (suc f) = refl
  regions_at (g ∷ gs) zero = refl
  regions_at (g ∷ gs) (suc f) = regions_at gs f

  abbrev pub spots : List Spot
  spots = record { start = p.data_end + QUAD_SIZE; region = 0 } ∷ map (spot_in sections plan.region_of) (drop 1 p.functions)

  start_is : (f : ℕ) → start_at (slice_get spots (suc f)) ≡ function_start p plan (slice_get p.functions (suc f))
  start_is f =
      spots_at (drop 1 p.functions) f (λ g e. ap (λ n. n + g.offset) (section_is (suc f) g (λ q. omega arith) (behind p well f ∙ e)))
      ∙ ap (function_start p plan) (sym (behind p well f))

  place_is : (f i : ℕ) → start_at (slice_get spots f) + WORD_SIZE * i ≡ at p plan f i
  place_is zero i = refl
  place_is (suc f) i = ap (λ n. n + WORD_SIZE * i) (start_is f)

  pub places_are : ◌≡◌ {A = ℕ → ℕ → ℕ} (λ f i. start_at (slice_get spots f) + WORD_SIZE * i) (at p plan)
  places_are = fun_ext (λ f. fun_ext (λ i. place_is f i))

  region_is : (f : ℕ) → region_at (slice_get spots f) ≡ region p plan f
  region_is zero = refl
  region_is (suc f) = regions_at (drop 1 p.functions) f ∙ ap (region_of_function plan) (sym (behind p well f))

  pub regions_are : ◌≡◌ {A = ℕ → ℕ} (λ f. region_at (slice_get spots f)) (region p plan)
  regions_are = fun_ext region_is

  pub first_are : ◌≡◌ {A = ℕ → ℕ} (λ f. start_at (slice_get spots f)) (λ f. at p plan f 0)
  first_are = fun_ext (λ f. (let e = place_is f 0 in omega (arith, e)))

  -- in a flat plan they are all in the root
  none_in : ((k : ℕ) → slice_index plan.region_of k ≡ 0) → (o : Option Function) → region_of_function plan o ≡ 0
  none_in root None = refl
  none_in root (Some g) = root g.section

  none_of : ((k : ℕ) → slice_index plan.region_of k ≡ 0) → (f : ℕ) → region p plan f ≡ 0
  none_of root zero = refl
  none_of root (suc f) = none_in root (slice_get p.functions (suc f))

  pub no_regions : ((k : ℕ) → slice_index plan.region_of k ≡ 0) → ◌≡◌ {A = ℕ → ℕ} (λ f. region_at (slice_get spots f)) (λ f. 0)
  no_regions root = fun_ext (λ f. region_is f ∙ none_of root f)

-- ---- layouts

abbrev areas_by : Prog → Plan → ℕ → Tail → Areas
areas_by p plan limit tail = record {
  data_area = span DATA_START p.data_end;
  code = span p.data_end tail.end;
  buffer = span (plan.end - plan.buffer * plan.buffers) plan.end;
  stack = span (STACK_TOP - limit) STORE_SIZE;
}

-- the layout of these places, regions and entries
abbrev layout_by : (ℕ → ℕ → ℕ) → (ℕ → ℕ) → (ℕ → ℕ) → Tail → Areas → Layout
layout_by places regions entries tail areas = record {
  at = places;
  region = regions;
  entry = entries;
  return_entry = tail.return_entry;
  passage = tail.passage;
  slots = tail.slots;
  data_area = areas.data_area;
  code_area = areas.code;
  buffers = areas.buffer;
  stack = areas.stack;
}

abbrev pub laid_by : Prog → Plan → ℕ → List Spot → Tail → held.Layout
laid_by p plan limit spots tail = record { functions = spots; overlay = plan.overlay; tail = tail; areas = areas_by p plan limit tail }

abbrev in_flag : Prog → Plan → ℕ → List Spot → Bool → Tail → Layout
in_flag p plan limit spots flag tail = layout_in (record { functions = spots; overlay = flag; tail = tail; areas = areas_by p plan limit tail })

module _ (p : Prog) (plan : Plan) (limit : ℕ) (well : IsWellFormed p) (lie : LieInStore p plan) (sections : List ℕ) (starts : AreStarts p plan (length p.code) sections) where
  abbrev all : List Spot
  all = spots p plan well lie sections starts

  buffer_span : (from to : ℕ) → plan.end - plan.buffer * plan.buffers ≡ from → plan.end ≡ to → span (plan.end - plan.buffer * plan.buffers) plan.end ≡ span from to
  buffer_span from to a b = ap₂ span a b

  flat_is : IsFlatShape p plan → in_flag p plan limit all false (flat_tail (root_end p plan)) ≡ flat_layout p plan limit
  flat_is flat =
      let end = flat.end in
      let none = flat.none in
      let regions = no_regions p plan well lie sections starts flat.root in
      ap (λ (a : ℕ → ℕ → ℕ). layout_by a (λ f. region_at (slice_get all f)) (λ f. start_at (slice_get all f)) (flat_tail (root_end p plan)) (areas_by p plan limit (flat_tail (root_end p plan)))) (places_are p plan well lie sections starts)
      ∙ (ap (λ (r : ℕ → ℕ). layout_by (at p plan) r (λ f. start_at (slice_get all f)) (flat_tail (root_end p plan)) (areas_by p plan limit (flat_tail (root_end p plan)))) regions
      ∙ (ap (λ (e : ℕ → ℕ). layout_by (at p plan) (λ f. 0) e (flat_tail (root_end p plan)) (areas_by p plan limit (flat_tail (root_end p plan)))) (first_are p plan well lie sections starts)
      ∙ ap (λ s. layout_by (at p plan) (λ f. 0) (λ f. at p plan f 0) (flat_tail (root_end p plan)) (record (areas_by p plan limit (flat_tail (root_end p plan))) { buffer = s })) (buffer_span (root_end p plan) (root_end p plan) (omega (arith, end, none)) (omega (arith, end)))))

  overlay_is : IsOverlayShape p plan → in_flag p plan limit all true (overlay_tail p plan) ≡ overlay_layout p plan limit
  overlay_is over =
      let end = over.buffers in
      ap (λ (a : ℕ → ℕ → ℕ). layout_by a (λ f. region_at (slice_get all f)) (in_flag p plan limit all true (overlay_tail p plan)).entry (overlay_tail p plan) (areas_by p plan limit (overlay_tail p plan))) (places_are p plan well lie sections starts)
      ∙ (ap (λ (r : ℕ → ℕ). layout_by (at p plan) r (in_flag p plan limit all true (overlay_tail p plan)).entry (overlay_tail p plan) (areas_by p plan limit (overlay_tail p plan))) (regions_are p plan well lie sections starts)
      ∙ ap (λ s. layout_by (at p plan) (region p plan) (in_flag p plan limit all true (overlay_tail p plan)).entry (overlay_tail p plan) (record (areas_by p plan limit (overlay_tail p plan)) { buffer = s }))
      (buffer_span (buffers_start p plan) (buffers_start p plan + plan.buffer * plan.buffers) (omega (arith, end)) (sym end)))

  abbrev by_flag : Bool → Layout
  by_flag flag = if flag then overlay_layout p plan limit else flat_layout p plan limit

  abbrev made_by : Bool → Layout
  made_by flag = in_flag p plan limit all flag (if flag then overlay_tail p plan else flat_tail (root_end p plan))

  made_is : IsFlatShape p plan ⊎ IsOverlayShape p plan → made_by plan.overlay ≡ by_flag plan.overlay
  made_is shape =
      ⊎_elim (λ (flat : IsFlatShape p plan). ap made_by flat.overlay ∙ (flat_is flat ∙ ap by_flag (sym flat.overlay)))
      (λ (over : IsOverlayShape p plan). ap made_by over.overlay ∙ (overlay_is over ∙ ap by_flag (sym over.overlay))) shape

  pub layout_is : IsFlatShape p plan ⊎ IsOverlayShape p plan → (held : List Spot) → held ≡ all → (tail : Tail) → tail ≡ tail_of p plan → layout_in (laid_by p plan limit held tail) ≡ layout_of p plan limit
  layout_is shape held same tail is =
      ap (λ t. layout_in (laid_by p plan limit held t)) is ∙ (ap (λ s. layout_in (laid_by p plan limit s (tail_of p plan))) same ∙ made_is shape)

-- ---- of what the code has: the starts of sections, the functions behind the first, and the regions of sections

abbrev held_by : Prog → Plan → ℕ → List Spot → Tail → Span → held.Layout
held_by p plan limit spots tail buffer = record { functions = spots; overlay = plan.overlay; tail = tail; areas = record (areas_by p plan limit tail) { buffer = buffer } }

module _ (p : Prog) (plan : Plan) (limit : ℕ) (well : IsWellFormed p) (fits : Fits p plan limit) (sections : List ℕ) (starts : AreStarts p plan (length p.code) sections) (others : List Function) (same_others : others ≡ drop 1 p.functions)
    (held : List ℕ) (same_held : held ≡ sections) (regions : List ℕ) (same_regions : regions ≡ plan.region_of) where
  is_shaped : IsShaped p plan limit
  is_shaped = shaped p plan limit well fits

  pub others_lie : All (LiesIn held regions) others
  others_lie =
      subst (λ r. All (LiesIn held r) others) (sym same_regions)
      (subst (λ h. All (LiesIn h plan.region_of) others) (sym same_held) (subst (All (LiesIn sections plan.region_of)) (sym same_others) (all_lie p plan well is_shaped.store sections starts)))

  abbrev first : Spot
  first = record { start = p.data_end + QUAD_SIZE; region = 0 }

  spots_are : (given : List Spot) → given ≡ first ∷ map (spot_in held regions) others → given ≡ spots p plan well is_shaped.store sections starts
  spots_are given is =
      is ∙ (ap (λ fs. first ∷ map (spot_in held regions) fs) same_others
      ∙ (ap (λ h. first ∷ map (spot_in h regions) (drop 1 p.functions)) same_held ∙ ap (λ r. first ∷ map (spot_in sections r) (drop 1 p.functions)) same_regions))

  pub made_layout : (given : List Spot) → given ≡ first ∷ map (spot_in held regions) others → (tail : Tail) → tail ≡ tail_of p plan → (buffer : Span) → buffer ≡ span (plan.end - plan.buffer * plan.buffers) plan.end
      → layout_in (held_by p plan limit given tail buffer) ≡ layout_of p plan limit
  made_layout given is tail is_tail buffer is_buffer =
      ap (λ b. layout_in (held_by p plan limit given tail b)) is_buffer ∙ layout_is p plan limit well is_shaped.store sections starts is_shaped.shape given (spots_are given is) tail is_tail

  pub apart : (given : List Spot) → given ≡ first ∷ map (spot_in held regions) others → (tail : Tail) → tail ≡ tail_of p plan → (buffer : Span) → buffer ≡ span (plan.end - plan.buffer * plan.buffers) plan.end
      → AreDisjoint DATA_START (areas (layout_in (held_by p plan limit given tail buffer))) STORE_SIZE
  apart given is tail is_tail buffer is_buffer =
      subst (λ (l : Layout). AreDisjoint DATA_START (areas l) STORE_SIZE) (sym (made_layout given is tail is_tail buffer is_buffer)) is_shaped.laid.apart
