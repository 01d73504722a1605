-- The peel from its start, through its turns, to its end.
use Rattle.std.proofs.Common.{◌≡◌, ℕ, zero, suc, ◌^◌, ◌<◌, ◌≤◌, ◌⊎◌, inl, inr, Bool, true, false, List, [], ◌∷◌, length, replicate, Option, Some, None, refl, sym, ap, ◌∙◌, subst, arith}
use Rattle.std.specs.Prelude.{slice_get, ◌||◌, ◌==◌}
use Rattle.std.proofs.lemmas.Bool.{eqb-true}
use Rattle.std.proofs.lemmas.List.{length-replicate}
use Rattle.std.proofs.lemmas.Map.Steps.{length-le_from_distinct_below}
use Rattle.spu_word.specs.Lists.{stands_on}
use Rattle.spu_word.proofs.Places.{nat_equal, get_within, distinct_places, below_places}
use Rattle.spu_word.proofs.Links.{some_number}
use Rattle.spu_graph.specs.declared.graph.Edge.{Edge}
use Rattle.spu_graph.specs.Edges.{leaving, entering, rest_of}
use Rattle.spu_graph.specs.Peeling.{IsOpen, IsClosed, IsDue, Waits, IsPeeling, IsPeeled}
use Rattle.spu_graph.proofs.Numbers.{leaving_edge, edge_enters}

some_edge : (x y : Edge) → Some x ≡ Some y → x ≡ y
some_edge x y e = cc

some_wait : (v w : ℕ) → Some (Some v) ≡ Some (Some w) → v ≡ w
some_wait v w e = cc

abbrev the_none : Option ℕ
the_none = None

get_replicate : (n i : ℕ) → i < n → slice_get (replicate n the_none) i ≡ Some None
get_replicate zero i lt = absurd (omega arith)
get_replicate (suc n) zero lt = refl
get_replicate (suc n) (suc i) lt = get_replicate n i (omega arith)

replicate_some : (n i v : ℕ) → slice_get (replicate n the_none) i ≡ Some (Some v) → ⊥
replicate_some zero i v e = cc
replicate_some (suc n) zero v e = cc
replicate_some (suc n) (suc i) v e = replicate_some n i v e

starts : (frames : List ℕ) (edges : List Edge) (n : ℕ) → n ≡ length frames → IsPeeling frames edges (replicate n None) (replicate n None) [] 0 None 0 0 []
starts frames edges n same = record {
  needs_all = length-replicate n None ∙ same;
  waits_all = length-replicate n None ∙ same;
  done = λ f v at. absurd (replicate_some n f v at);
  small = λ f v at. absurd (replicate_some n f v at);
  later = λ f le lt. get_replicate n f (omega (arith, lt, same));
  ordered = λ i f at. absurd (cc);
  placed = λ f v at. absurd (replicate_some n f v at);
  once = λ i j f a b. absurd (cc);
  falls = λ i k x at here. absurd (cc);
  waiting = λ f lt but none. absurd (omega (arith, lt));
  told_within = omega arith;
}

pub starts_with : (frames : List ℕ) (edges : List Edge) (n : ℕ) → n ≡ length frames → (needs waits : List (Option ℕ)) (order : List ℕ) → needs ≡ replicate n None → waits ≡ replicate n None → order ≡ []
    → IsPeeling frames edges needs waits order 0 None 0 0 []
starts_with frames edges n same needs waits order no_needs no_waits no_order =
    subst (λ z. IsPeeling frames edges z waits order 0 None 0 0 []) (sym no_needs)
    (subst (λ z. IsPeeling frames edges (replicate n None) z order 0 None 0 0 []) (sym no_waits)
    (subst (λ (z : List ℕ). IsPeeling frames edges (replicate n None) (replicate n None) z 0 None 0 0 []) (sym no_order) (starts frames edges n same)))

module _ (frames : List ℕ) (edges : List Edge) (needs waits : List (Option ℕ)) (order : List ℕ) where
  -- the order has no more functions than there are
  pub order_short : (begun : ℕ) (but : Option ℕ) (told g : ℕ) (left : List ℕ) → IsPeeling frames edges needs waits order begun but told g left → length order ≤ length frames
  order_short begun but told g left p = length-le_from_distinct_below order (length frames) (distinct_places order p.once)
      (below_places order (length frames) (λ i f at. (let d = p.ordered i f at in let lt = get_within needs f (Some d.0) d.1 in let all = p.needs_all in omega (arith, lt, all))))

  pub needs_small : (begun : ℕ) (but : Option ℕ) (told g : ℕ) (left : List ℕ) → IsPeeling frames edges needs waits order begun but told g left → length frames < 2 ^ 32 → (f v : ℕ) → slice_get needs f ≡ Some (Some v) → v < 2 ^ 63
  needs_small begun but told g left p few f v at =
      let short = order_short begun but told g left p in
      let small = p.small f v at in
      omega (arith, short, small, few)

  -- one more function begins
  pub begins : (begun told g : ℕ) (left : List ℕ) → IsPeeling frames edges needs waits order begun None told g left → IsPeeling frames edges needs waits order (suc begun) (Some begun) told g left
  begins begun told g left p = record {
    needs_all = p.needs_all;
    waits_all = p.waits_all;
    done = p.done;
    small = p.small;
    later = λ f le lt. p.later f (omega (arith, le)) lt;
    ordered = p.ordered;
    placed = p.placed;
    once = p.once;
    falls = p.falls;
    waiting = λ f lt but none. p.waiting f (let ne : f ≡ begun → ⊥ = λ e. but (ap Some (sym e)) in by_place f lt ne (nat_equal f begun)) (λ e. cc) none;
    told_within = p.told_within;
  }
    where
      by_place : (f : ℕ) → f < suc begun → (f ≡ begun → ⊥) → (f ≡ begun) ⊎ (f ≡ begun → ⊥) → f < begun
      by_place f lt ne (inl e) = absurd (ne e)
      by_place f lt ne (inr other) = omega (arith, lt, other)

  -- a turn of the function at a place of the order
  pub turn : (begun i g h : ℕ) → IsPeeling frames edges needs waits order begun None i h [] → slice_get order i ≡ Some g → IsPeeling frames edges needs waits order begun None (suc i) g (entering edges g)
  turn begun i g h p at = record {
    needs_all = p.needs_all;
    waits_all = p.waits_all;
    done = p.done;
    small = p.small;
    later = p.later;
    ordered = p.ordered;
    placed = p.placed;
    once = p.once;
    falls = p.falls;
    waiting = λ f lt but none. turned f (p.waiting f lt but none);
    told_within = (let lt = get_within order i g at in omega (arith, lt));
  }
    where
      by_place : (e : ℕ) (d : IsDue edges order i h [] e) (j : ℕ) → i ≤ j → slice_get order j ≡ Some d.x.to → (j ≡ i) ⊎ (j ≡ i → ⊥) → IsDue edges order (suc i) g (entering edges g) e
      by_place e d j le there (inl same) =
          let is : d.x.to ≡ g = some_number d.x.to g (sym there ∙ ap (slice_get order) same ∙ at) in
          record { x = d.x; here = d.here; due = inr (is, subst (λ v. stands_on (entering edges v) e ≡ true) is (edge_enters edges e d.x d.here)) }
      by_place e d j le there (inr other) = record { x = d.x; here = d.here; due = inl (j, omega (arith, le, other), there) }

      by_due : (e : ℕ) (d : IsDue edges order i h [] e) → ((j : ℕ) × (i ≤ j) × (slice_get order j ≡ Some d.x.to)) ⊎ ((d.x.to ≡ h) × (stands_on [] e ≡ true)) → IsDue edges order (suc i) g (entering edges g) e
      by_due e d (inl (j, le, there)) = by_place e d j le there (nat_equal j i)
      by_due e d (inr (is, on)) = absurd (cc)

      by_state : (e : ℕ) → IsOpen edges needs e ⊎ IsDue edges order i h [] e → IsOpen edges needs e ⊎ IsDue edges order (suc i) g (entering edges g) e
      by_state e (inl o) = inl o
      by_state e (inr d) = inr (by_due e d d.due)

      turned : (f : ℕ) → Waits edges needs waits order i h [] f → Waits edges needs waits order (suc i) g (entering edges g) f
      turned f w = record { e = w.e; at = w.at; on = w.on; passed = w.passed; state = by_state w.e w.state }

  -- one edge is told: its caller alone may have waited at it
  module _ (begun told g e : ℕ) (rest : List ℕ) (x : Edge) (here : slice_get edges e ≡ Some x) (p : IsPeeling frames edges needs waits order begun None told g (e ∷ rest)) where
    narrowed : (f : ℕ) (w : Waits edges needs waits order told g (e ∷ rest) f) → (w.e ≡ e → ⊥) → Waits edges needs waits order told g rest f
    narrowed f w ne = record { e = w.e; at = w.at; on = w.on; passed = w.passed; state = by_state w.state }
      where
        by_first : (d : IsDue edges order told g (e ∷ rest) w.e) → d.x.to ≡ g → (b : Bool) → (e == w.e) ≡ b → (b || stands_on rest w.e) ≡ true → IsDue edges order told g rest w.e
        by_first d is true t on = absurd (ne (sym (eqb-true e w.e t)))
        by_first d is false t on = record { x = d.x; here = d.here; due = inr (is, on) }

        by_due : (d : IsDue edges order told g (e ∷ rest) w.e) → ((j : ℕ) × (told ≤ j) × (slice_get order j ≡ Some d.x.to)) ⊎ ((d.x.to ≡ g) × (stands_on (e ∷ rest) w.e ≡ true)) → IsDue edges order told g rest w.e
        by_due d (inl later) = record { x = d.x; here = d.here; due = inl later }
        by_due d (inr (is, on)) = by_first d is (e == w.e) refl on

        by_state : IsOpen edges needs w.e ⊎ IsDue edges order told g (e ∷ rest) w.e → IsOpen edges needs w.e ⊎ IsDue edges order told g rest w.e
        by_state (inl o) = inl o
        by_state (inr d) = inr (by_due d d.due)

    caller_is : (f : ℕ) → stands_on (leaving edges f) e ≡ true → x.from ≡ f
    caller_is f on = let y = leaving_edge edges f e on in ap (λ (z : Edge). z.from) (some_edge _ _ (sym here ∙ y.1)) ∙ y.2

    pub told_but : IsPeeling frames edges needs waits order begun (Some x.from) told g rest
    told_but = record {
      needs_all = p.needs_all;
      waits_all = p.waits_all;
      done = p.done;
      small = p.small;
      later = p.later;
      ordered = p.ordered;
      placed = p.placed;
      once = p.once;
      falls = p.falls;
      waiting = λ f lt but none. (let w = p.waiting f lt (λ q. cc) none in narrowed f w (λ same. but (ap Some (caller_is f (subst (λ v. stands_on (leaving edges f) v ≡ true) same w.on)))));
      told_within = p.told_within;
    }

    pub told_none : ((slice_get needs x.from ≡ Some None) → slice_get waits x.from ≡ Some (Some e) → ⊥) → IsPeeling frames edges needs waits order begun None told g rest
    told_none not_waiting = record {
      needs_all = p.needs_all;
      waits_all = p.waits_all;
      done = p.done;
      small = p.small;
      later = p.later;
      ordered = p.ordered;
      placed = p.placed;
      once = p.once;
      falls = p.falls;
      waiting = λ f lt but none. (let w = p.waiting f lt (λ q. cc) none in narrowed f w (λ same. (let is = caller_is f (subst (λ v. stands_on (leaving edges f) v ≡ true) same w.on) in not_waiting (ap (slice_get needs) is ∙ none) (ap (slice_get waits) is ∙ w.at ∙ ap (λ v. Some (Some v)) same))));
      told_within = p.told_within;
    }

    -- what the caller has passed, if it waits at the edge
    pub passed_by : x.from < begun → slice_get needs x.from ≡ Some None → slice_get waits x.from ≡ Some (Some e) → (k : ℕ) → stands_on (leaving edges x.from) k ≡ true → IsClosed edges needs k ⊎ (stands_on (rest_of (leaving edges x.from) (Some e)) k ≡ true)
    passed_by began none at =
        let w = p.waiting x.from began (λ q. cc) none in
        let same : w.e ≡ e = some_wait w.e e (sym w.at ∙ at) in
        subst (λ v. (k : ℕ) → stands_on (leaving edges x.from) k ≡ true → IsClosed edges needs k ⊎ (stands_on (rest_of (leaving edges x.from) (Some v)) k ≡ true)) same w.passed

  -- at the end every edge has been told
  pub ends : (told g : ℕ) → IsPeeling frames edges needs waits order (length frames) None told g [] → length order ≤ told → IsPeeled frames edges needs
  ends told g p over = record {
    all = p.needs_all;
    done = p.done;
    order = order;
    ordered = p.ordered;
    placed = p.placed;
    once = p.once;
    falls = p.falls;
    others = λ f none. (let w = p.waiting f (let lt = get_within needs f None none in let all = p.needs_all in omega (arith, lt, all)) (λ q. cc) none in (w.e, w.on, by_state w.e w.state));
  }
    where
      by_due : (e : ℕ) (d : IsDue edges order told g [] e) → ((j : ℕ) × (told ≤ j) × (slice_get order j ≡ Some d.x.to)) ⊎ ((d.x.to ≡ g) × (stands_on [] e ≡ true)) → IsOpen edges needs e
      by_due e d (inl (j, le, at)) = let lt = get_within order j d.x.to at in absurd (omega (arith, lt, le, over))
      by_due e d (inr (is, on)) = absurd (cc)

      by_state : (e : ℕ) → IsOpen edges needs e ⊎ IsDue edges order told g [] e → IsOpen edges needs e
      by_state e (inl o) = o
      by_state e (inr d) = by_due e d d.due
