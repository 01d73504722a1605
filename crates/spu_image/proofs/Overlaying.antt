-- What the code that makes an overlay image takes of a plan with overlays that is made for a program.
use Rattle.std.proofs.Common.{◌≡◌, ℕ, zero, suc, ◌+◌, ◌*◌, ◌/◌, ◌^◌, ◌<◌, ◌≤◌, List, [], ◌∷◌, length, get_or, Option, Some, None, inl, inr, refl, sym, ap, ◌∙◌, ⊎_elim, subst, lit≤, arith}
use Rattle.std.specs.Prelude.{slice_get, Contains, if◌then◌else◌}
use Rattle.std.specs.List.{AllByRecursion}
use Rattle.std.proofs.Math.Nat.{mul-le-mul_left}
use Rattle.std.proofs.lemmas.Option.{slice_get_within}
use Rattle.spu_word.specs.declared.limits.TheConstants.{BUFFER_COUNTS, BUFFER_SIZES, MAX_BUFFER_SIZE, STACK_TOP, STORE_SIZE}
use Rattle.spu_lift.specs.declared.program.Function.{Function}
use Rattle.spu_lift.specs.declared.program.Prog.{Prog}
use Rattle.spu_plan.specs.declared.constants.TheConstants.{LOADER_SIZE}
use Rattle.spu_plan.specs.declared.plan.Plan.{Plan}
use Rattle.spu_plan.specs.Choices.{IsFlatPlan, IsOverlayPlan}
use Rattle.spu_layout.specs.declared.layout.Layout as held
use Rattle.spu_layout.specs.declared.layout.Span.{Span}
use Rattle.spu_layout.specs.Layouts.{Layout}
use Rattle.spu_layout.specs.Placing.{buffers_start, flat_layout, loader_start, overlay_layout, region, region_of_function, slots_start, table_end}
use Rattle.spu_layout.specs.Views.{LieInStore, layout_in}
use Rattle.spu_layout.proofs.Overlaid.{below, few, in_store, some}
use Rattle.spu_loader.specs.Code.{IsBufferCount, IsBufferSize}
use Rattle.spu_image.specs.Filling.{IsLaidOut}
use Rattle.spu_image.specs.Overlays.{IsOverlaid}
use Rattle.spu_image.specs.OverlayFilling.{HasStubs}
use Rattle.spu_image.proofs.Laid.{laid_by}
use Rattle.spu_image.proofs.Promised.{entered}

-- ---- what holds of each of a list holds of one of them

each : (P : ℕ → Type 0) (xs : List ℕ) → AllByRecursion P xs → (k d : ℕ) → k < length xs → P (get_or xs k d)
each P [] h k d lt = absurd (omega arith)
each P (x ∷ xs) h zero d lt = h.0
each P (x ∷ xs) h (suc k) d lt = each P xs h.1 k d (omega arith)

contained : (P : ℕ → Type 0) (xs : List ℕ) → AllByRecursion P xs → (x : ℕ) → Contains xs x → P x
contained P xs h x c = subst P c.2 (each P xs h c.0 x c.1)

abbrev IsSmall : ℕ → Type 0
IsSmall n = (1024 ≤ n) × (n ≤ MAX_BUFFER_SIZE)

abbrev IsFew : ℕ → Type 0
IsFew n = n ≤ 8

sizes_are : AllByRecursion IsBufferSize BUFFER_SIZES
sizes_are = (
  (16, (lit≤ tt, lit≤ tt), refl),
  (
    (15, (lit≤ tt, lit≤ tt), refl),
    (
      (14, (lit≤ tt, lit≤ tt), refl),
      (
        (13, (lit≤ tt, lit≤ tt), refl),
        ((12, (lit≤ tt, lit≤ tt), refl), ((11, (lit≤ tt, lit≤ tt), refl), ((10, (lit≤ tt, lit≤ tt), refl), tt))),
      ),
    ),
  ),
)

sizes_small : AllByRecursion IsSmall BUFFER_SIZES
sizes_small = ((lit≤ tt, lit≤ tt), ((lit≤ tt, lit≤ tt), ((lit≤ tt, lit≤ tt), ((lit≤ tt, lit≤ tt), ((lit≤ tt, lit≤ tt), ((lit≤ tt, lit≤ tt), ((lit≤ tt, lit≤ tt), tt)))))))

counts_are : AllByRecursion IsBufferCount BUFFER_COUNTS
counts_are = (inl refl, (inr (inl refl), (inr (inr (inl refl)), (inr (inr (inr refl)), tt))))

counts_few : AllByRecursion IsFew BUFFER_COUNTS
counts_few = (lit≤ tt, (lit≤ tt, (lit≤ tt, (lit≤ tt, tt))))

aligned_behind : (n : ℕ) → n ≤ (n + 127) / 128 * 128
aligned_behind n = omega arith

-- ---- the plan

module _ (p : Prog) (plan : Plan) (layout : held.Layout) (out : IsOverlaid p plan layout) where
  pub made : IsOverlayPlan out.planned.input plan
  made =
      ⊎_elim (λ (flat : IsFlatPlan out.planned.input plan). absurd (let no = ap (λ (q : Plan). q.overlay) flat.is in let yes = out.overlay in cc))
      (λ (over : IsOverlayPlan out.planned.input plan). over) out.planned.is

  pub laid_out : IsLaidOut p layout
  laid_out = record {
    plan = plan;
    limit = out.limit;
    well = out.well;
    fits = inr out.planned;
    is = out.is ∙ ap (λ v. if v then overlay_layout p plan out.limit else flat_layout p plan out.limit) (sym out.overlay);
    functions = out.functions;
  }

  pub store : LieInStore p plan
  store = in_store p plan out.limit out.well out.planned.input out.planned.allowed out.planned.of made

  pub some_buffers : 1 ≤ plan.buffers
  some_buffers = some p plan out.limit out.well out.planned.input out.planned.allowed out.planned.of made

  counted : Contains BUFFER_COUNTS plan.buffers
  counted = subst (Contains BUFFER_COUNTS) (sym made.buffers) out.planned.allowed.buffers

  pub buffer_size : IsBufferSize plan.buffer
  buffer_size = contained IsBufferSize BUFFER_SIZES sizes_are plan.buffer made.asked.size

  pub buffer_small : (1024 ≤ plan.buffer) × (plan.buffer ≤ MAX_BUFFER_SIZE)
  buffer_small = contained IsSmall BUFFER_SIZES sizes_small plan.buffer made.asked.size

  pub buffer_count : IsBufferCount plan.buffers
  buffer_count = contained IsBufferCount BUFFER_COUNTS counts_are plan.buffers counted

  pub few_buffers : plan.buffers ≤ 8
  few_buffers = contained IsFew BUFFER_COUNTS counts_few plan.buffers counted

  pub few_regions : plan.regions ≤ length p.code
  few_regions = few p plan out.limit out.well out.planned.input out.planned.allowed out.planned.of made

  -- ---- in numbers

  pub ends : buffers_start p plan + plan.buffer * plan.buffers ≤ STACK_TOP
  ends = (let low = below p plan out.limit out.well out.planned.input out.planned.allowed out.planned.of made in omega (arith, low))

  pub starts : table_end p plan ≤ buffers_start p plan
  starts = aligned_behind (table_end p plan)

  pub room : buffers_start p plan + 1024 ≤ STACK_TOP
  room =
      let all = mul-le-mul_left {m = 1} {n = plan.buffers} plan.buffer some_buffers in
      let own = buffer_small.0 in
      let end = ends in
      omega (arith, all, own, end)

  pub short : length p.code < 2 ^ 14
  short = (let low = starts in let end = room in omega (arith, low, end))

  -- ---- the parts of the layout

  slots_from : (layout_in layout).slots.from ≡ slots_start p plan
  slots_from = ap (λ (l : Layout). l.slots.from) out.is

  pub slots_to : (layout_in layout).slots.to ≡ slots_start p plan + 16 * plan.buffers
  slots_to = ap (λ (l : Layout). l.slots.to) out.is

  pub code_to : (layout_in layout).code_area.to ≡ table_end p plan
  code_to = ap (λ (l : Layout). l.code_area.to) out.is

  pub buffers_from : (layout_in layout).buffers.from ≡ buffers_start p plan
  buffers_from = ap (λ (l : Layout). l.buffers.from) out.is

  pub slots_behind : LOADER_SIZE ≤ (layout_in layout).slots.from
  slots_behind = (let from = slots_from in omega (arith, from))

  pub slots_inside : (layout_in layout).slots.to ≤ STORE_SIZE
  slots_inside = (let to = slots_to in let low = starts in let end = room in omega (arith, to, low, end))

  pub loader_is : (loader : ℕ) → loader + LOADER_SIZE ≡ (layout_in layout).slots.from → loader ≡ loader_start p plan
  loader_is loader e = (let from = slots_from in omega (arith, e, from))

  -- ---- stubs

  region_low : (f : ℕ) → region p plan f ≤ plan.regions
  region_low zero = omega arith
  region_low (suc f) = by (slice_get p.functions (suc f)) refl
    where
      by : (o : Option Function) → slice_get p.functions (suc f) ≡ o → region_of_function plan o ≤ plan.regions
      by None e = omega arith
      by (Some g) e = (let lies = out.well.each (suc f) g (λ q. omega arith) e in store.known g.section (slice_get_within p.code g.section lies.section lies.there))

  pub has_stubs : (loader : ℕ) → loader ≡ loader_start p plan → HasStubs p (layout_in layout) loader
  has_stubs loader is = record {
    before = λ f callee. (let e = ap (λ (l : Layout). l.entry f) out.is in let some = callee.0 in let lt = callee.1 in omega (arith, e, some, lt, is));
    inside = (let low = starts in let end = room in omega (arith, low, end, is));
    regions = λ f callee. (let e = ap (λ (l : Layout). l.region f) out.is in let low = region_low f in let n = few_regions in let m = short in omega (arith, e, low, n, m));
    places = λ f callee. (let low = (laid_by p layout laid_out).below f 0 (entered p out.well f callee) in let stack = ap (λ (s : Span). s.from) (laid_by p layout laid_out).stack in omega (arith, low, stack));
  }

  -- ---- the loader

  pub loader_room : (loader : ℕ) → loader ≡ loader_start p plan → loader + 512 < STORE_SIZE
  loader_room loader is = (let low = starts in let end = room in omega (arith, low, end, is))
