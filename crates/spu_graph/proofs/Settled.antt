-- A function that is settled keeps what holds while functions are peeled.
use Rattle.std.proofs.Common.{◌≡◌, ℕ, suc, ◌+◌, ◌*◌, ◌<◌, ◌≤◌, ◌⊎◌, inl, inr, Bool, true, false, List, [], ◌∷◌, ◌++◌, length, set, Option, Some, None, refl, sym, ap, ◌∙◌, subst, arith}
use Rattle.std.specs.Prelude.{slice_get, slice_index, ◌||◌, ◌==◌, max}
use Rattle.std.specs.List.{Contains, All}
use Rattle.std.proofs.lemmas.Bool.{eqb-true}
use Rattle.std.proofs.lemmas.List.{length-set}
use Rattle.std.proofs.lemmas.Option.{slice_get-get_or, get_or_from_slice_get}
use Rattle.spu_word.specs.Lists.{stands_on}
use Rattle.spu_word.proofs.Places.{nat_equal, less_or, get_set_same, get_set_other, get_within, get_more_before, get_more_last, length_more, stands_place}
use Rattle.spu_word.proofs.Links.{some_number}
use Rattle.spu_word.specs.declared.limits.TheConstants.{MAX_STACK_LIMIT}
use Rattle.spu_graph.specs.declared.graph.Edge.{Edge}
use Rattle.spu_graph.specs.Paths.{IsNeed, weight_if}
use Rattle.spu_graph.specs.Edges.{leaving, rest_of}
use Rattle.spu_graph.specs.Peeling.{IsOpen, IsClosed, known, taken_by, greatest_on, IsSettled, IsDue, Waits, IsPeeling}
use Rattle.spu_graph.proofs.Numbers.{leaving_edge, edge_leaves}
use Rattle.spu_graph.proofs.Firsts.{Takes, need_is}

pub contains_place : (edges : List Edge) (x : Edge) → Contains edges x → (k : ℕ) × (slice_get edges k ≡ Some x)
contains_place edges x (k, lt, is) = (k, slice_get-get_or edges k x lt ∙ ap Some is)

pub place_contains : (edges : List Edge) (k : ℕ) (x : Edge) → slice_get edges k ≡ Some x → Contains edges x
place_contains edges k x at = (k, get_within edges k x at, get_or_from_slice_get edges k x x at)

some_edge : (x y : Edge) → Some x ≡ Some y → x ≡ y
some_edge x y e = cc

some_need : (v w : ℕ) → Some (Some v) ≡ Some (Some w) → v ≡ w
some_need v w e = cc

two_needs : (o : Option (Option ℕ)) (v : ℕ) → o ≡ Some None → o ≡ Some (Some v) → ⊥
two_needs o v a b = cc

stands_cases : (x : ℕ) (xs : List ℕ) (k : ℕ) → stands_on (x ∷ xs) k ≡ true → (x ≡ k) ⊎ (stands_on xs k ≡ true)
stands_cases x xs k on = by_test (x == k) refl on
  where
    by_test : (b : Bool) → (x == k) ≡ b → (b || stands_on xs k) ≡ true → (x ≡ k) ⊎ (stands_on xs k ≡ true)
    by_test true t on = inl (eqb-true x k t)
    by_test false t on = inr on

stands_later : (x : ℕ) (xs : List ℕ) (k : ℕ) → stands_on xs k ≡ true → stands_on (x ∷ xs) k ≡ true
stands_later x xs k on = elim (x == k) as (λ b. (b || stands_on xs k) ≡ true) [ true ↦ refl | false ↦ on ]

stands_first : (x : ℕ) (xs : List ℕ) → stands_on (x ∷ xs) x ≡ true
stands_first x xs = stands_place (x ∷ xs) 0 x refl

member : (frames : List ℕ) (needs : List (Option ℕ)) (edges : List Edge) (xs : List ℕ) (k : ℕ) → stands_on xs k ≡ true → taken_by frames needs (slice_get edges k) ≤ greatest_on frames needs edges xs
member frames needs edges [] k on = absurd (cc)
member frames needs edges (x ∷ xs) k on = by_first (stands_cases x xs k on) (λ h. member frames needs edges xs k h)
  where
    by_first : (x ≡ k) ⊎ (stands_on xs k ≡ true) → (stands_on xs k ≡ true → taken_by frames needs (slice_get edges k) ≤ greatest_on frames needs edges xs) → taken_by frames needs (slice_get edges k) ≤ max (taken_by frames needs (slice_get edges x)) (greatest_on frames needs edges xs)
    by_first (inl e) more = let same = ap (λ i. taken_by frames needs (slice_get edges i)) e in omega (arith, same)
    by_first (inr on) more = let le = more on in omega (arith, le)

attained : (frames : List ℕ) (needs : List (Option ℕ)) (edges : List Edge) (xs : List ℕ) → (greatest_on frames needs edges xs ≡ 0) ⊎ ((k : ℕ) × (stands_on xs k ≡ true) × (taken_by frames needs (slice_get edges k) ≡ greatest_on frames needs edges xs))
attained frames needs edges [] = inl refl
attained frames needs edges (x ∷ xs) = by_greater (less_or (greatest_on frames needs edges xs) (taken_by frames needs (slice_get edges x))) (attained frames needs edges xs)
  where
    by_rest : greatest_on frames needs edges xs ≡ greatest_on frames needs edges (x ∷ xs) → (greatest_on frames needs edges xs ≡ 0) ⊎ ((k : ℕ) × (stands_on xs k ≡ true) × (taken_by frames needs (slice_get edges k) ≡ greatest_on frames needs edges xs))
        → (greatest_on frames needs edges (x ∷ xs) ≡ 0) ⊎ ((k : ℕ) × (stands_on (x ∷ xs) k ≡ true) × (taken_by frames needs (slice_get edges k) ≡ greatest_on frames needs edges (x ∷ xs)))
    by_rest same (inl e) = inl (sym same ∙ e)
    by_rest same (inr (k, on, e)) = inr (k, stands_later x xs k on, e ∙ same)

    by_greater : (greatest_on frames needs edges xs < taken_by frames needs (slice_get edges x)) ⊎ (taken_by frames needs (slice_get edges x) ≤ greatest_on frames needs edges xs) → (greatest_on frames needs edges xs ≡ 0) ⊎ ((k : ℕ) × (stands_on xs k ≡ true) × (taken_by frames needs (slice_get edges k) ≡ greatest_on frames needs edges xs))
        → (greatest_on frames needs edges (x ∷ xs) ≡ 0) ⊎ ((k : ℕ) × (stands_on (x ∷ xs) k ≡ true) × (taken_by frames needs (slice_get edges k) ≡ greatest_on frames needs edges (x ∷ xs)))
    by_greater (inl lt) rest = inr (x, stands_first x xs, omega (arith, lt))
    by_greater (inr le) rest = by_rest (omega (arith, le)) rest

module _ (frames : List ℕ) (low : All (λ n. n ≤ MAX_STACK_LIMIT) frames) (edges : List Edge) (needs waits : List (Option ℕ)) (order : List ℕ) (begun f told g : ℕ) (left : List ℕ)
    (p : IsPeeling frames edges needs waits order begun (Some f) told g left) (within : f < length frames) (undone : slice_get needs f ≡ Some None)
    (from : Option ℕ) (prior : (k : ℕ) → stands_on (leaving edges f) k ≡ true → IsClosed edges needs k ⊎ (stands_on (rest_of (leaving edges f) from) k ≡ true)) where
  frame_low : slice_index frames f ≤ MAX_STACK_LIMIT
  frame_low = low f 0 within

  -- ---- f waits

  stays : (e : ℕ) → IsOpen edges needs e → stands_on (leaving edges f) e ≡ true → ((k : ℕ) → stands_on (rest_of (leaving edges f) from) k ≡ true → IsClosed edges needs k ⊎ (stands_on (rest_of (leaving edges f) (Some e)) k ≡ true))
      → IsPeeling frames edges needs (set waits f (Some e)) order begun None told g left
  stays e is_open on passed = record {
    needs_all = p.needs_all;
    waits_all = length-set waits f (Some e) ∙ p.waits_all;
    done = p.done;
    small = p.small;
    later = p.later;
    ordered = p.ordered;
    placed = p.placed;
    once = p.once;
    falls = p.falls;
    waiting = λ h lt ne none. by_f h lt none (nat_equal h f);
    told_within = p.told_within;
  }
    where
      both : (k : ℕ) → IsClosed edges needs k ⊎ (stands_on (rest_of (leaving edges f) from) k ≡ true) → IsClosed edges needs k ⊎ (stands_on (rest_of (leaving edges f) (Some e)) k ≡ true)
      both k (inl closed) = inl closed
      both k (inr there) = passed k there

      own : Waits edges needs (set waits f (Some e)) order told g left f
      own = record { e = e; at = (let all = p.waits_all in get_set_same waits f (Some e) (omega (arith, all, within))); on = on; passed = λ k there. both k (prior k there); state = inl is_open }

      by_f : (h : ℕ) → h < begun → slice_get needs h ≡ Some None → (h ≡ f) ⊎ (h ≡ f → ⊥) → Waits edges needs (set waits f (Some e)) order told g left h
      by_f h lt none (inl same) = subst (λ v. Waits edges needs (set waits f (Some e)) order told g left v) (sym same) own
      by_f h lt none (inr ne) =
          let w = p.waiting h lt (λ q. ne (sym (some_number f h q))) none in
          record { e = w.e; at = get_set_other waits f h (Some e) ne ∙ w.at; on = w.on; passed = w.passed; state = w.state }

  -- ---- f is done

  v : ℕ
  v = max (slice_index frames f) (greatest_on frames needs edges (leaving edges f))

  more_needs : List (Option ℕ)
  unfolding v
  more_needs = set needs f (Some v)

  here_needs : slice_get more_needs f ≡ Some (Some v)
  unfolding v more_needs
  here_needs = let all = p.needs_all in get_set_same needs f (Some v) (omega (arith, all, within))

  other_needs : (h : ℕ) → (h ≡ f → ⊥) → slice_get more_needs h ≡ slice_get needs h
  unfolding v more_needs
  other_needs h ne = get_set_other needs f h (Some v) ne

  not_f : (h w : ℕ) → slice_get needs h ≡ Some (Some w) → h ≡ f → ⊥
  not_f h w at e = two_needs (slice_get needs h) w (ap (slice_get needs) e ∙ undone) at

  grown : (h w : ℕ) → slice_get needs h ≡ Some (Some w) → slice_get more_needs h ≡ Some (Some w)
  grown h w at = other_needs h (not_f h w at) ∙ at

  old_or_own : (h w : ℕ) → slice_get more_needs h ≡ Some (Some w) → (slice_get needs h ≡ Some (Some w)) ⊎ ((h ≡ f) × (w ≡ v))
  old_or_own h w at = elim (nat_equal h f) as (λ s. (slice_get needs h ≡ Some (Some w)) ⊎ ((h ≡ f) × (w ≡ v))) [
    | inl e ↦ inr (e, some_need w v (sym at ∙ ap (slice_get more_needs) e ∙ here_needs))
    | inr ne ↦ inl (sym (other_needs h ne) ∙ at)
  ]

  module _ (closed : (k : ℕ) → stands_on (rest_of (leaving edges f) from) k ≡ true → IsClosed edges needs k) where
    all_closed : (k : ℕ) → stands_on (leaving edges f) k ≡ true → IsClosed edges needs k
    all_closed k on = elim (prior k on) as (λ s. IsClosed edges needs k) [ inl c ↦ c | inr there ↦ closed k there ]

    edge_total : (k : ℕ) (on : stands_on (leaving edges f) k ≡ true) → weight_if (all_closed k on).x.call (slice_index frames (all_closed k on).x.from) + (all_closed k on).v ≡ taken_by frames needs (slice_get edges k)
    edge_total k on = let c = all_closed k on in sym (ap (taken_by frames needs) c.here ∙ ap (λ o. weight_if c.x.call (slice_index frames c.x.from) + known o) c.some)

    edge_source : (k : ℕ) (on : stands_on (leaving edges f) k ≡ true) → (all_closed k on).x.from ≡ f
    edge_source k on =
        let c = all_closed k on in
        let x = leaving_edge edges f k on in
        let same : x.0 ≡ c.x = some_edge _ _ (sym x.1 ∙ c.here) in
        ap (λ (y : Edge). y.from) (sym same) ∙ x.2

    edge_takes : (k : ℕ) (on : stands_on (leaving edges f) k ≡ true) → Takes (Contains edges) (slice_index frames) f v (all_closed k on).x (taken_by frames needs (slice_get edges k))
    edge_takes k on =
        let c = all_closed k on in
        record { edge = place_contains edges k c.x c.here; from = edge_source k on; n = c.v; need = p.done c.x.to c.v c.some; total = edge_total k on }

    edge_small : (k : ℕ) (on : stands_on (leaving edges f) k ≡ true) → taken_by frames needs (slice_get edges k) ≤ MAX_STACK_LIMIT * suc (length order)
    edge_small k on =
        let c = all_closed k on in
        let total = edge_total k on in
        let small = p.small c.x.to c.v c.some in
        let frame = frame_low in
        let weight = weight_low c.x.call (slice_index frames c.x.from) in
        let at = ap (slice_index frames) (edge_source k on) in
        omega (arith, total, small, frame, weight, at)
      where
        weight_low : (b : Bool) (n : ℕ) → weight_if b n ≤ n
        weight_low true n = omega arith
        weight_low false n = omega arith

    own_need : IsNeed (Contains edges) (slice_index frames) f v
    unfolding v
    own_need = need_is (Contains edges) (slice_index frames) f v (omega arith)
        (λ x edge source. each x (contains_place edges x edge) source)
        (by_greater (less_or (slice_index frames f) (greatest_on frames needs edges (leaving edges f))) (attained frames needs edges (leaving edges f)))
      where
        each : (x : Edge) → (k : ℕ) × (slice_get edges k ≡ Some x) → x.from ≡ f → (sum : ℕ) × Takes (Contains edges) (slice_index frames) f (max (slice_index frames f) (greatest_on frames needs edges (leaving edges f))) x sum × (sum ≤ max (slice_index frames f) (greatest_on frames needs edges (leaving edges f)))
        each x (k, at) source =
            let on : stands_on (leaving edges f) k ≡ true = subst (λ s. stands_on (leaving edges s) k ≡ true) source (edge_leaves edges k x at) in
            let below = member frames needs edges (leaving edges f) k on in
            let same : (all_closed k on).x ≡ x = some_edge _ _ (sym (all_closed k on).here ∙ at) in
            (taken_by frames needs (slice_get edges k), subst (λ y. Takes (Contains edges) (slice_index frames) f v y (taken_by frames needs (slice_get edges k))) same (edge_takes k on), omega (arith, below))

        by_greater : (slice_index frames f < greatest_on frames needs edges (leaving edges f)) ⊎ (greatest_on frames needs edges (leaving edges f) ≤ slice_index frames f)
            → (greatest_on frames needs edges (leaving edges f) ≡ 0) ⊎ ((k : ℕ) × (stands_on (leaving edges f) k ≡ true) × (taken_by frames needs (slice_get edges k) ≡ greatest_on frames needs edges (leaving edges f)))
            → (slice_index frames f ≡ max (slice_index frames f) (greatest_on frames needs edges (leaving edges f))) ⊎ ((x : Edge) × Takes (Contains edges) (slice_index frames) f (max (slice_index frames f) (greatest_on frames needs edges (leaving edges f))) x (max (slice_index frames f) (greatest_on frames needs edges (leaving edges f))))
        by_greater (inr le) some = inl (omega (arith, le))
        by_greater (inl lt) (inl e) = absurd (omega (arith, lt, e))
        by_greater (inl lt) (inr (k, on, e)) =
            let sum : taken_by frames needs (slice_get edges k) ≡ max (slice_index frames f) (greatest_on frames needs edges (leaving edges f)) = omega (arith, e, lt) in
            inr ((all_closed k on).x, subst (λ s. Takes (Contains edges) (slice_index frames) f v (all_closed k on).x s) sum (edge_takes k on))

    own_small : v ≤ MAX_STACK_LIMIT * suc (length order)
    unfolding v
    own_small =
        let frame = frame_low in
        elim (attained frames needs edges (leaving edges f)) as (λ s. max (slice_index frames f) (greatest_on frames needs edges (leaving edges f)) ≤ MAX_STACK_LIMIT * suc (length order)) [
          | inl none ↦ omega (arith, none, frame)
          | inr some ↦ (let below = edge_small some.0 some.1 in let is = some.2 in omega (arith, frame, below, is))
        ]

    more_order : List ℕ
    more_order = order ++ f ∷ []

    new_or_old : (i h : ℕ) → slice_get (order ++ f ∷ []) i ≡ Some h → (slice_get order i ≡ Some h) ⊎ ((i ≡ length order) × (h ≡ f))
    new_or_old i h at = by_place (less_or i (length order))
      where
        by_place : (i < length order) ⊎ (length order ≤ i) → (slice_get order i ≡ Some h) ⊎ ((i ≡ length order) × (h ≡ f))
        by_place (inl lt) = inl (sym (get_more_before order f i lt) ∙ at)
        by_place (inr le) =
            let inside = get_within (order ++ f ∷ []) i h at in
            let one = length_more order f in
            let here : i ≡ length order = omega (arith, le, inside, one) in
            inr (here, some_number h f (sym at ∙ get_more_last order f i here))

    kept_place : (i h : ℕ) → slice_get order i ≡ Some h → slice_get (order ++ f ∷ []) i ≡ Some h
    kept_place i h at = get_more_before order f i (get_within order i h at) ∙ at

    last_place : slice_get (order ++ f ∷ []) (length order) ≡ Some f
    last_place = get_more_last order f (length order) refl

    not_placed : (i : ℕ) → slice_get order i ≡ Some f → ⊥
    not_placed i at = let d = p.ordered i f at in two_needs (slice_get needs f) d.0 undone d.1

    grown_closed : (k : ℕ) → IsClosed edges needs k → IsClosed edges more_needs k
    grown_closed k c = record { x = c.x; here = c.here; v = c.v; some = grown c.x.to c.v c.some }

    still_waits : (h : ℕ) → (h ≡ f → ⊥) → Waits edges needs waits order told g left h → Waits edges more_needs waits (order ++ f ∷ []) told g left h
    still_waits h ne w = record {
      e = w.e;
      at = w.at;
      on = w.on;
      passed = λ k there. elim (w.passed k there) as (λ s. IsClosed edges more_needs k ⊎ (stands_on (rest_of (leaving edges h) (Some w.e)) k ≡ true)) [ inl c ↦ inl (grown_closed k c) | inr rest ↦ inr rest ];
      state = by_state w.state;
    }
      where
        by_callee : (o : IsOpen edges needs w.e) → (o.x.to ≡ f) ⊎ (o.x.to ≡ f → ⊥) → IsOpen edges more_needs w.e ⊎ IsDue edges (order ++ f ∷ []) told g left w.e
        by_callee o (inl same) = inr (record { x = o.x; here = o.here; due = inl (length order, p.told_within, last_place ∙ ap Some (sym same)) })
        by_callee o (inr other) = inl (record { x = o.x; here = o.here; none = other_needs o.x.to other ∙ o.none })

        by_due : (d : IsDue edges order told g left w.e) → ((j : ℕ) × (told ≤ j) × (slice_get order j ≡ Some d.x.to)) ⊎ ((d.x.to ≡ g) × (stands_on left w.e ≡ true)) → IsDue edges (order ++ f ∷ []) told g left w.e
        by_due d (inl (j, le, at)) = record { x = d.x; here = d.here; due = inl (j, le, kept_place j d.x.to at) }
        by_due d (inr left_there) = record { x = d.x; here = d.here; due = inr left_there }

        by_state : IsOpen edges needs w.e ⊎ IsDue edges order told g left w.e → IsOpen edges more_needs w.e ⊎ IsDue edges (order ++ f ∷ []) told g left w.e
        by_state (inl o) = by_callee o (nat_equal o.x.to f)
        by_state (inr d) = inr (by_due d d.due)

    finishes : (began : f < begun) → IsPeeling frames edges more_needs waits (order ++ f ∷ []) begun None told g left
    unfolding more_needs
    finishes began = record {
      needs_all = length-set needs f (Some v) ∙ p.needs_all;
      waits_all = p.waits_all;
      done = λ h w at. elim (old_or_own h w at) as (λ s. IsNeed (Contains edges) (slice_index frames) h w) [
        | inl old ↦ p.done h w old
        | inr own ↦ subst (λ n. IsNeed (Contains edges) (slice_index frames) h n) (sym own.1) (subst (λ n. IsNeed (Contains edges) (slice_index frames) n v) (sym own.0) own_need)
      ];
      small = λ h w at. small_now h w (old_or_own h w at);
      later = λ h le lt. other_needs h (λ e. omega (arith, e, le, began)) ∙ p.later h le lt;
      ordered = λ i h at. elim (new_or_old i h at) as (λ s. (w : ℕ) × (slice_get more_needs h ≡ Some (Some w))) [
        | inl old ↦ (let d = p.ordered i h old in (d.0, grown h d.0 d.1))
        | inr own ↦ (v, ap (slice_get more_needs) own.1 ∙ here_needs)
      ];
      placed = λ h w at. elim (old_or_own h w at) as (λ s. (i : ℕ) × (slice_get (order ++ f ∷ []) i ≡ Some h)) [
        | inl old ↦ (let d = p.placed h w old in (d.0, kept_place d.0 h d.1))
        | inr own ↦ (length order, last_place ∙ ap Some (sym own.0))
      ];
      once = λ i j h a b. once_now i j h (new_or_old i h a) (new_or_old j h b);
      falls = λ i k x at here. falls_now i k x at (new_or_old i x.from here);
      waiting = λ h lt but none. waits_now h lt none (nat_equal h f);
      told_within = let told_in = p.told_within in let one = length_more order f in omega (arith, told_in, one);
    }
      where
        small_now : (h w : ℕ) → (slice_get needs h ≡ Some (Some w)) ⊎ ((h ≡ f) × (w ≡ v)) → w ≤ MAX_STACK_LIMIT * length (order ++ f ∷ [])
        small_now h w (inl old) = let s = p.small h w old in let one = length_more order f in omega (arith, s, one)
        small_now h w (inr own) = let s = own_small in let one = length_more order f in let e = own.1 in omega (arith, s, one, e)

        once_now : (i j h : ℕ) → (slice_get order i ≡ Some h) ⊎ ((i ≡ length order) × (h ≡ f)) → (slice_get order j ≡ Some h) ⊎ ((j ≡ length order) × (h ≡ f)) → i ≡ j
        once_now i j h (inl a) (inl b) = p.once i j h a b
        once_now i j h (inl a) (inr b) = absurd (not_placed i (a ∙ ap Some b.1))
        once_now i j h (inr a) (inl b) = absurd (not_placed j (b ∙ ap Some a.1))
        once_now i j h (inr a) (inr b) = a.0 ∙ sym b.0

        falls_now : (i k : ℕ) (x : Edge) → slice_get edges k ≡ Some x → (slice_get order i ≡ Some x.from) ⊎ ((i ≡ length order) × (x.from ≡ f)) → (j : ℕ) × (j < i) × (slice_get (order ++ f ∷ []) j ≡ Some x.to)
        falls_now i k x at (inl old) = let d = p.falls i k x at old in (d.0, d.1, kept_place d.0 x.to d.2)
        falls_now i k x at (inr own) =
            let c = all_closed k (subst (λ s. stands_on (leaving edges s) k ≡ true) own.1 (edge_leaves edges k x at)) in
            let same : c.x.to ≡ x.to = ap (λ (y : Edge). y.to) (some_edge _ _ (sym c.here ∙ at)) in
            let d = p.placed c.x.to c.v c.some in
            let lt = get_within order d.0 c.x.to d.1 in
            let here = own.0 in
            (d.0, omega (arith, lt, here), kept_place d.0 c.x.to d.1 ∙ ap Some same)

        waits_now : (h : ℕ) → h < begun → slice_get more_needs h ≡ Some None → (h ≡ f) ⊎ (h ≡ f → ⊥) → Waits edges more_needs waits (order ++ f ∷ []) told g left h
        waits_now h lt none (inl same) = absurd (two_needs (slice_get more_needs h) v none (ap (slice_get more_needs) same ∙ here_needs))
        waits_now h lt none (inr ne) = still_waits h ne (p.waiting h lt (λ q. ne (sym (some_number f h q))) (sym (other_needs h ne) ∙ none))

  -- ---- either

  pub settled : f < begun → (new_needs new_waits : List (Option ℕ)) (new_order : List ℕ) → IsSettled frames edges f from needs waits order new_needs new_waits new_order → IsPeeling frames edges new_needs new_waits new_order begun None told g left
  unfolding v more_needs
  settled began new_needs new_waits new_order (inl s) =
      subst (λ z. IsPeeling frames edges z new_waits new_order begun None told g left) (sym s.needs_same)
      (subst (λ z. IsPeeling frames edges needs z new_order begun None told g left) (sym s.waits_so)
      (subst (λ (z : List ℕ). IsPeeling frames edges needs (set waits f (Some s.e)) z begun None told g left) (sym s.order_same) (stays s.e s.open_edge s.on s.passed)))
  settled began new_needs new_waits new_order (inr s) =
      subst (λ z. IsPeeling frames edges z new_waits new_order begun None told g left) (sym s.needs_so)
      (subst (λ z. IsPeeling frames edges (set needs f (Some (max (slice_index frames f) (greatest_on frames needs edges (leaving edges f))))) z new_order begun None told g left) (sym s.waits_same)
      (subst (λ (z : List ℕ). IsPeeling frames edges (set needs f (Some (max (slice_index frames f) (greatest_on frames needs edges (leaving edges f))))) waits z begun None told g left) (sym s.order_so) (finishes s.closed began)))
