-- Marks spread over the functions that paths from an entry reach.
use Rattle.std.proofs.Common.{◌≡◌, ℕ, zero, suc, ◌<◌, ◌≤◌, ◌⊎◌, inl, inr, Bool, true, false, List, [], ◌∷◌, ◌++◌, length, replicate, set, Option, Some, refl, sym, ap, ◌∙◌, subst, arith}
use Rattle.std.specs.Prelude.{slice_get, ◌||◌, ◌==◌}
use Rattle.std.specs.List.{Contains}
use Rattle.std.proofs.lemmas.Bool.{eqb-true}
use Rattle.std.proofs.lemmas.List.{length-set, length-replicate}
use Rattle.std.proofs.lemmas.Map.Steps.{length-le_from_distinct_below}
use Rattle.spu_word.specs.Lists.{stands_on}
use Rattle.spu_word.proofs.Places.{nat_equal, less_or, get_set_same, get_set_other, get_within, get_more_before, get_more_last, length_more, distinct_places, below_places}
use Rattle.spu_word.proofs.Links.{some_number}
use Rattle.spu_graph.specs.declared.graph.Edge.{Edge}
use Rattle.spu_graph.specs.Paths.{IsPath}
use Rattle.spu_graph.specs.Edges.{leaving}
use Rattle.spu_graph.specs.Reaching.{IsReaching, IsVisited, AreReached}
use Rattle.spu_graph.proofs.Numbers.{edge_leaves}
use Rattle.spu_graph.proofs.Settled.{contains_place, place_contains}

some_edge : (x y : Edge) → Some x ≡ Some y → x ≡ y
some_edge x y e = cc

two_marks : (o : Option Bool) → o ≡ Some true → o ≡ Some false → ⊥
two_marks o a b = cc

marked_path : (n : ℕ) (edges : List Edge) (entry : ℕ) (marks : List Bool) → slice_get marks entry ≡ Some true → ((x : Edge) → Contains edges x → slice_get marks x.from ≡ Some true → slice_get marks x.to ≡ Some true)
    → (f : ℕ) (xs : List Edge) → IsPath (Contains edges) entry f xs → slice_get marks f ≡ Some true
unfolding IsPath
marked_path n edges entry marks begins step f [] path = ap (slice_get marks) (sym path) ∙ begins
marked_path n edges entry marks begins step f (x ∷ xs) (edge, to, path) = ap (slice_get marks) (sym to) ∙ step x edge (marked_path n edges entry marks begins step x.from xs path)

get_replicate : (n i : ℕ) (b : Bool) → slice_get (replicate n false) i ≡ Some b → b ≡ false
get_replicate zero i b e = absurd (cc)
get_replicate (suc n) zero b e = cc
get_replicate (suc n) (suc i) b e = get_replicate n i b e

replicate_at : (n i : ℕ) → i < n → slice_get (replicate n false) i ≡ Some false
replicate_at zero i lt = absurd (omega arith)
replicate_at (suc n) zero lt = refl
replicate_at (suc n) (suc i) lt = replicate_at n i (omega arith)

module _ (n : ℕ) (edges : List Edge) (entry : ℕ) (marks : List Bool) (order : List ℕ) where
  pub reach_short : (told : ℕ) (left : List ℕ) → IsReaching n edges entry marks order told left → length order ≤ n
  reach_short told left p = length-le_from_distinct_below order n (distinct_places order p.once)
      (below_places order n (λ i f at. (let lt = get_within marks f true (p.ordered i f at) in let all = p.all in omega (arith, lt, all))))

  -- a step of the function at a place of the order
  pub stepped : (i g : ℕ) → IsReaching n edges entry marks order i [] → slice_get order i ≡ Some g → IsReaching n edges entry marks order (suc i) (leaving edges g)
  stepped i g p at = record {
    all = p.all;
    begins = p.begins;
    ordered = p.ordered;
    placed = p.placed;
    once = p.once;
    paths = p.paths;
    leads = λ j k x here there. by_lead j k x here there (p.leads j k x here there);
    told_within = (let lt = get_within order i g at in omega (arith, lt));
  }
    where
      by_place : (j k : ℕ) (x : Edge) → slice_get edges k ≡ Some x → slice_get order j ≡ Some x.from → i ≤ j → (j ≡ i) ⊎ (j ≡ i → ⊥) → (slice_get marks x.to ≡ Some true) ⊎ ((suc i ≤ j) ⊎ (stands_on (leaving edges g) k ≡ true))
      by_place j k x here there le (inl same) =
          let is : x.from ≡ g = some_number x.from g (sym there ∙ ap (slice_get order) same ∙ at) in
          inr (inr (subst (λ v. stands_on (leaving edges v) k ≡ true) is (edge_leaves edges k x here)))
      by_place j k x here there le (inr ne) = inr (inl (omega (arith, le, ne)))

      by_lead : (j k : ℕ) (x : Edge) → slice_get edges k ≡ Some x → slice_get order j ≡ Some x.from → (slice_get marks x.to ≡ Some true) ⊎ ((i ≤ j) ⊎ (stands_on [] k ≡ true)) → (slice_get marks x.to ≡ Some true) ⊎ ((suc i ≤ j) ⊎ (stands_on (leaving edges g) k ≡ true))
      by_lead j k x here there (inl marked) = inl marked
      by_lead j k x here there (inr (inl le)) = by_place j k x here there le (nat_equal j i)
      by_lead j k x here there (inr (inr on)) = absurd (cc)

  -- an edge that is left, whose callee is marked
  module _ (told e : ℕ) (rest : List ℕ) (y : Edge) (edge : slice_get edges e ≡ Some y) (p : IsReaching n edges entry marks order told (e ∷ rest)) where
    passed_lead : (new_marks : List Bool) → (slice_get new_marks y.to ≡ Some true) → ((f : ℕ) → slice_get marks f ≡ Some true → slice_get new_marks f ≡ Some true) → (i k : ℕ) (x : Edge) → slice_get edges k ≡ Some x
        → (slice_get marks x.to ≡ Some true) ⊎ ((told ≤ i) ⊎ (stands_on (e ∷ rest) k ≡ true)) → (slice_get new_marks x.to ≡ Some true) ⊎ ((told ≤ i) ⊎ (stands_on rest k ≡ true))
    passed_lead new_marks marked more i k x here (inl old) = inl (more x.to old)
    passed_lead new_marks marked more i k x here (inr (inl le)) = inr (inl le)
    passed_lead new_marks marked more i k x here (inr (inr on)) = by_first (e == k) refl on
      where
        by_first : (b : Bool) → (e == k) ≡ b → (b || stands_on rest k) ≡ true → (slice_get new_marks x.to ≡ Some true) ⊎ ((told ≤ i) ⊎ (stands_on rest k ≡ true))
        by_first true t on =
            let same : y ≡ x = some_edge _ _ (sym edge ∙ ap (slice_get edges) (eqb-true e k t) ∙ here) in
            inl (ap (λ (z : Edge). slice_get new_marks z.to) (sym same) ∙ marked)
        by_first false t on = inr (inr on)

    old_visit : slice_get marks y.to ≡ Some true → IsReaching n edges entry marks order told rest
    old_visit marked = record {
      all = p.all;
      begins = p.begins;
      ordered = p.ordered;
      placed = p.placed;
      once = p.once;
      paths = p.paths;
      leads = λ i k x here there. passed_lead marks marked (λ f m. m) i k x here (p.leads i k x here there);
      told_within = p.told_within;
    }

    -- its caller is marked, where its place was told
    module _ (source : slice_get marks y.from ≡ Some true) (inside : y.to < n) (off : slice_get marks y.to ≡ Some false) where
      here_mark : slice_get (set marks y.to true) y.to ≡ Some true
      here_mark = let all = p.all in get_set_same marks y.to true (omega (arith, all, inside))

      more_marks : (f : ℕ) → slice_get marks f ≡ Some true → slice_get (set marks y.to true) f ≡ Some true
      more_marks f m = get_set_other marks y.to f true (λ e. two_marks (slice_get marks f) m (ap (slice_get marks) e ∙ off)) ∙ m

      old_or_new : (f : ℕ) → slice_get (set marks y.to true) f ≡ Some true → (slice_get marks f ≡ Some true) ⊎ (f ≡ y.to)
      old_or_new f m = elim (nat_equal f y.to) as (λ s. (slice_get marks f ≡ Some true) ⊎ (f ≡ y.to)) [ inl e ↦ inr e | inr ne ↦ inl (sym (get_set_other marks y.to f true ne) ∙ m) ]

      place_cases : (i f : ℕ) → slice_get (order ++ y.to ∷ []) i ≡ Some f → (slice_get order i ≡ Some f) ⊎ ((i ≡ length order) × (f ≡ y.to))
      place_cases i f at = by_place (less_or i (length order))
        where
          by_place : (i < length order) ⊎ (length order ≤ i) → (slice_get order i ≡ Some f) ⊎ ((i ≡ length order) × (f ≡ y.to))
          by_place (inl lt) = inl (sym (get_more_before order y.to i lt) ∙ at)
          by_place (inr le) =
              let within = get_within (order ++ y.to ∷ []) i f at in
              let one = length_more order y.to in
              let is : i ≡ length order = omega (arith, le, within, one) in
              inr (is, some_number f y.to (sym at ∙ get_more_last order y.to i is))

      not_placed : (i : ℕ) → slice_get order i ≡ Some y.to → ⊥
      not_placed i at = two_marks (slice_get marks y.to) (p.ordered i y.to at) off

      new_path : (xs : List Edge) × IsPath (Contains edges) entry y.from xs → (xs : List Edge) × IsPath (Contains edges) entry y.to xs
      unfolding IsPath
      new_path (xs, path) = (y ∷ xs, (place_contains edges e y edge, refl, path))

      new_visit : IsReaching n edges entry (set marks y.to true) (order ++ y.to ∷ []) told rest
      new_visit = record {
        all = length-set marks y.to true ∙ p.all;
        begins = more_marks entry p.begins;
        ordered = λ i f at. elim (place_cases i f at) as (λ s. slice_get (set marks y.to true) f ≡ Some true) [ inl old ↦ more_marks f (p.ordered i f old) | inr own ↦ ap (slice_get (set marks y.to true)) own.1 ∙ here_mark ];
        placed = λ f m. elim (old_or_new f m) as (λ s. (i : ℕ) × (slice_get (order ++ y.to ∷ []) i ≡ Some f)) [
          | inl old ↦ (let d = p.placed f old in (d.0, get_more_before order y.to d.0 (get_within order d.0 f d.1) ∙ d.1))
          | inr own ↦ (length order, get_more_last order y.to (length order) refl ∙ ap Some (sym own))
        ];
        once = λ i j f a b. once_now i j f (place_cases i f a) (place_cases j f b);
        paths = λ f m. elim (old_or_new f m) as (λ s. (xs : List Edge) × IsPath (Contains edges) entry f xs) [
          | inl old ↦ p.paths f old
          | inr own ↦ subst (λ v. (xs : List Edge) × IsPath (Contains edges) entry v xs) (sym own) (new_path (p.paths y.from source))
        ];
        leads = λ i k x here there. leads_now i k x here (place_cases i x.from there);
        told_within = (let told_in = p.told_within in let one = length_more order y.to in omega (arith, told_in, one));
      }
        where
          once_now : (i j f : ℕ) → (slice_get order i ≡ Some f) ⊎ ((i ≡ length order) × (f ≡ y.to)) → (slice_get order j ≡ Some f) ⊎ ((j ≡ length order) × (f ≡ y.to)) → i ≡ j
          once_now i j f (inl a) (inl b) = p.once i j f a b
          once_now i j f (inl a) (inr b) = absurd (not_placed i (a ∙ ap Some b.1))
          once_now i j f (inr a) (inl b) = absurd (not_placed j (b ∙ ap Some a.1))
          once_now i j f (inr a) (inr b) = a.0 ∙ sym b.0

          leads_now : (i k : ℕ) (x : Edge) → slice_get edges k ≡ Some x → (slice_get order i ≡ Some x.from) ⊎ ((i ≡ length order) × (x.from ≡ y.to)) → (slice_get (set marks y.to true) x.to ≡ Some true) ⊎ ((told ≤ i) ⊎ (stands_on rest k ≡ true))
          leads_now i k x here (inl old) = passed_lead (set marks y.to true) here_mark more_marks i k x here (p.leads i k x here old)
          leads_now i k x here (inr own) = let told_in = p.told_within in let is = own.0 in inr (inl (omega (arith, told_in, is)))

    pub visited : slice_get marks y.from ≡ Some true → y.to < n → (new_marks : List Bool) (new_order : List ℕ) → IsVisited marks order y.to new_marks new_order → IsReaching n edges entry new_marks new_order told rest
    visited source inside new_marks new_order (inl (on, m, o)) = subst (λ z. IsReaching n edges entry z new_order told rest) (sym m) (subst (λ (z : List ℕ). IsReaching n edges entry marks z told rest) (sym o) (old_visit on))
    visited source inside new_marks new_order (inr (off, m, o)) = subst (λ z. IsReaching n edges entry z new_order told rest) (sym m) (subst (λ (z : List ℕ). IsReaching n edges entry (set marks y.to true) z told rest) (sym o) (new_visit source inside off))

  -- at the end
  pub reached : (told : ℕ) → IsReaching n edges entry marks order told [] → length order ≤ told → AreReached n edges entry marks
  reached told p over = record { all = p.all; some = p.paths; each = each }
    where
      by_lead : (i k : ℕ) (x : Edge) → slice_get order i ≡ Some x.from → (slice_get marks x.to ≡ Some true) ⊎ ((told ≤ i) ⊎ (stands_on [] k ≡ true)) → slice_get marks x.to ≡ Some true
      by_lead i k x there (inl marked) = marked
      by_lead i k x there (inr (inl le)) = let lt = get_within order i x.from there in absurd (omega (arith, lt, le, over))
      by_lead i k x there (inr (inr on)) = absurd (cc)

      each : (f : ℕ) (xs : List Edge) → IsPath (Contains edges) entry f xs → slice_get marks f ≡ Some true
      each f xs path = marked_path n edges entry marks p.begins (λ x edge m. (let at = contains_place edges x edge in let d = p.placed x.from m in by_lead d.0 at.0 x d.1 (p.leads d.0 at.0 x at.1 d.1))) f xs path

no_path : (edges : List Edge) (entry : ℕ) → (xs : List Edge) × IsPath (Contains edges) entry entry xs
unfolding IsPath
no_path edges entry = ([], refl)

pub starts_at : (n : ℕ) (edges : List Edge) (entry : ℕ) → entry < n → (marks : List Bool) (order : List ℕ) → IsVisited (replicate n false) [] entry marks order → IsReaching n edges entry marks order 0 []
starts_at n edges entry lt marks order (inl (on, m, o)) = absurd (two_marks (slice_get (replicate n false) entry) on (replicate_at n entry lt))
starts_at n edges entry lt marks order (inr (off, m, o)) = subst (λ z. IsReaching n edges entry z order 0 []) (sym m) (subst (λ (z : List ℕ). IsReaching n edges entry (set (replicate n false) entry true) z 0 []) (sym o) first)
  where
    first_mark : slice_get (set (replicate n false) entry true) entry ≡ Some true
    first_mark = let size = length-replicate n false in get_set_same (replicate n false) entry true (omega (arith, size, lt))

    only : (f : ℕ) → slice_get (set (replicate n false) entry true) f ≡ Some true → f ≡ entry
    only f m = elim (nat_equal f entry) as (λ s. f ≡ entry) [ inl e ↦ e | inr ne ↦ (let is = get_replicate n f true (sym (get_set_other (replicate n false) entry f true ne) ∙ m) in absurd (cc)) ]

    lone : (i f : ℕ) → slice_get (entry ∷ []) i ≡ Some f → (i ≡ 0) × (f ≡ entry)
    lone zero f at = (refl, some_number f entry (sym at))
    lone (suc i) f at = absurd (cc)

    own_path : (xs : List Edge) × IsPath (Contains edges) entry entry xs
    own_path = no_path edges entry

    first : IsReaching n edges entry (set (replicate n false) entry true) (entry ∷ []) 0 []
    first = record {
      all = length-set (replicate n false) entry true ∙ length-replicate n false;
      begins = first_mark;
      ordered = λ i f at. ap (slice_get (set (replicate n false) entry true)) (lone i f at).1 ∙ first_mark;
      placed = λ f m. (0, ap Some (sym (only f m)));
      once = λ i j f a b. (lone i f a).0 ∙ sym (lone j f b).0;
      paths = λ f m. subst (λ v. (xs : List Edge) × IsPath (Contains edges) entry v xs) (sym (only f m)) own_path;
      leads = λ i k x here there. inr (inl (omega arith));
      told_within = omega arith;
    }

pub visit_keeps : (marks new_marks : List Bool) (order new_order : List ℕ) (f g : ℕ) → IsVisited marks order f new_marks new_order → slice_get marks g ≡ Some true → slice_get new_marks g ≡ Some true
visit_keeps marks new_marks order new_order f g (inl (on, m, o)) at = ap (λ z. slice_get z g) m ∙ at
visit_keeps marks new_marks order new_order f g (inr (off, m, o)) at = ap (λ z. slice_get z g) m ∙ get_set_other marks f g true (λ e. two_marks (slice_get marks g) at (ap (slice_get marks) e ∙ off)) ∙ at
