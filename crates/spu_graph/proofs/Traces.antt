-- A walk over functions that are not done: its steps, and the cycle that it comes to.
use Rattle.std.proofs.Common.{◌≡◌, ℕ, zero, suc, ◌-◌, ◌<◌, ◌≤◌, ◌⊎◌, inl, inr, true, List, [], ◌∷◌, ◌++◌, length, drop, set, replicate, Option, Some, None, Result, Ok, Err, IfOk, refl, sym, ap, ◌∙◌, subst, arith}
use Rattle.std.specs.Prelude.{slice_get}
use Rattle.std.specs.List.{Contains}
use Rattle.std.proofs.lemmas.List.{length-set, drop-append-le}
use Rattle.std.proofs.lemmas.Map.Steps.{length-le_from_distinct_below}
use Rattle.spu_word.specs.Lists.{stands_on}
use Rattle.spu_word.proofs.Places.{nat_equal, get_set_same, get_set_other, get_within, get_more_before, get_more_last, length_more, drop_get, distinct_places, below_places}
use Rattle.spu_word.proofs.Adding.{more_places}
use Rattle.spu_graph.specs.declared.graph.Edge.{Edge}
use Rattle.spu_graph.specs.Edges.{leaving, rest_of}
use Rattle.spu_graph.specs.Paths.{IsPath}
use Rattle.spu_graph.specs.Peeling.{IsOpen, IsClosed, IsPeeled}
use Rattle.spu_graph.specs.Cycles.{Leads, IsChain, IsCycle}
use Rattle.spu_graph.specs.Tracing.{IsTrace}
use Rattle.spu_graph.proofs.Numbers.{leaving_edge}
use Rattle.spu_graph.proofs.Settled.{place_contains}
use Rattle.spu_graph.proofs.Cycles.{chain_more, chain_drop, chain_path}

-- ---- the next function

some_edge : (x y : Edge) → Some x ≡ Some y → x ≡ y
some_edge x y e = cc

pub open_leads : (edges : List Edge) (needs : List (Option ℕ)) (f e : ℕ) (x : Edge) → slice_get edges e ≡ Some x → stands_on (leaving edges f) e ≡ true → Leads (Contains edges) f x.to
open_leads edges needs f e x here on =
    let own = leaving_edge edges f e on in
    let same : own.0 ≡ x = some_edge _ _ (sym own.1 ∙ here) in
    record { edge = x; is = place_contains edges e x here; from = ap (λ y. y.from) (sym same) ∙ own.2; to = refl }

pub open_undone : (edges : List Edge) (needs : List (Option ℕ)) (e : ℕ) (x : Edge) → slice_get edges e ≡ Some x → IsOpen edges needs e → slice_get needs x.to ≡ Some None
open_undone edges needs e x here open_edge =
    let same : open_edge.x ≡ x = some_edge _ _ (sym open_edge.here ∙ here) in
    ap (λ y. slice_get needs y.to) (sym same) ∙ open_edge.none

not_both : (edges : List Edge) (needs : List (Option ℕ)) (e : ℕ) → IsOpen edges needs e → IsClosed edges needs e → ⊥
not_both edges needs e a b =
    let same : a.x ≡ b.x = some_edge _ _ (sym a.here ∙ b.here) in
    let none : slice_get needs b.x.to ≡ Some None = ap (λ y. slice_get needs y.to) (sym same) ∙ a.none in
    let some = b.some in
    cc

-- one that isn't done has an edge to another one, so not all of its edges are closed
pub never_closed : (frames : List ℕ) (edges : List Edge) (needs : List (Option ℕ)) (f : ℕ) (from : Option ℕ) → IsPeeled frames edges needs → slice_get needs f ≡ Some None → rest_of (leaving edges f) from ≡ leaving edges f → ((k : ℕ) → stands_on (rest_of (leaving edges f) from) k ≡ true → IsClosed edges needs k ⊎ (stands_on (rest_of (leaving edges f) None) k ≡ true)) → ⊥
never_closed frames edges needs f from p undone all passed =
    let other = p.others f undone in
    by_edge other.0 other.2 (passed other.0 (ap (λ (z : List ℕ). stands_on z other.0) all ∙ other.1))
  where
    by_edge : (e : ℕ) → IsOpen edges needs e → IsClosed edges needs e ⊎ (stands_on (rest_of (leaving edges f) None) e ≡ true) → ⊥
    by_edge e open_edge (inl closed) = not_both edges needs e open_edge closed
    by_edge e open_edge (inr on) = cc

-- ---- the steps

pub get_replicate : (n i : ℕ) (x : Option ℕ) → i < n → slice_get (replicate n x) i ≡ Some x
get_replicate zero i x lt = absurd (omega arith)
get_replicate (suc n) zero x lt = refl
get_replicate (suc n) (suc i) x lt = get_replicate n i x (omega arith)

none_there : (n g i : ℕ) → slice_get (replicate n None) g ≡ Some (Some i) → ⊥
none_there zero g i e = cc
none_there (suc n) zero i e = cc
none_there (suc n) (suc g) i e = none_there n g i e

length_replicate : (n : ℕ) (x : Option ℕ) → length (replicate n x) ≡ n
length_replicate zero x = refl
length_replicate (suc n) x = ap suc (length_replicate n x)

some_some : (i j : ℕ) (o : Option (Option ℕ)) → o ≡ Some (Some i) → o ≡ Some (Some j) → i ≡ j
some_some i j o a b = cc

module _ (frames : List ℕ) (edges : List Edge) (needs : List (Option ℕ)) (entry : ℕ) where
  pub begins : (n : ℕ) → n ≡ length frames → slice_get needs entry ≡ Some None → IsTrace frames edges needs entry [] (replicate n None) entry
  begins n count undone = record {
    all = length_replicate n None ∙ count;
    begins = refl;
    joined = tt;
    undone = λ i g at. first i g at;
    marked = λ i g at. absurd (cc);
    found = λ g i at. absurd (none_there n g i at);
  }
    where
      first : (i g : ℕ) → slice_get (entry ∷ []) i ≡ Some g → slice_get needs g ≡ Some None
      first zero g at = (let same : entry ≡ g = cc in subst (λ h. slice_get needs h ≡ Some None) same undone)
      first (suc i) g at = absurd (cc)

  pub begins_so : (n : ℕ) (path : List ℕ) (indices : List (Option ℕ)) → n ≡ length frames → slice_get needs entry ≡ Some None → path ≡ [] → indices ≡ replicate n None → IsTrace frames edges needs entry path indices entry
  begins_so n path indices count undone is are =
      subst (λ (z : List ℕ). IsTrace frames edges needs entry z indices entry) (sym is)
      (subst (λ (z : List (Option ℕ)). IsTrace frames edges needs entry [] z entry) (sym are) (begins n count undone))

  module _ (path : List ℕ) (indices : List (Option ℕ)) (f : ℕ) (t : IsTrace frames edges needs entry path indices f) where
    pub here : slice_get needs f ≡ Some None
    here = t.undone (length path) f (get_more_last path f (length path) refl)

    pub within : length needs ≡ length frames → f < length indices
    within all =
        let lt = get_within needs f _ here in
        let same = t.all in
        omega (arith, lt, all, same)

    pub step : (g : ℕ) → length needs ≡ length frames → slice_get indices f ≡ Some None → slice_get needs g ≡ Some None → Leads (Contains edges) f g → IsTrace frames edges needs entry (path ++ f ∷ []) (set indices f (Some (length path))) g
    step g all new undone leads = record {
      all = length-set indices f _ ∙ t.all;
      begins = get_more_before (path ++ f ∷ []) g 0 (let one = length_more path f in omega (arith, one)) ∙ t.begins;
      joined = chain_more (Contains edges) path f g t.joined leads;
      undone = λ i h at. by_undone i h (more_places (path ++ f ∷ []) g i h at);
      marked = λ i h at. by_marked i h (more_places path f i h at);
      found = λ h i at. by_found h i (nat_equal h f) at;
    }
      where
        by_undone : (i h : ℕ) → (slice_get (path ++ f ∷ []) i ≡ Some h) ⊎ ((i ≡ length (path ++ f ∷ [])) × (h ≡ g)) → slice_get needs h ≡ Some None
        by_undone i h (inl old) = t.undone i h old
        by_undone i h (inr last) = ap (slice_get needs) last.1 ∙ undone

        by_marked : (i h : ℕ) → (slice_get path i ≡ Some h) ⊎ ((i ≡ length path) × (h ≡ f)) → slice_get (set indices f (Some (length path))) h ≡ Some (Some i)
        by_marked i h (inl old) =
            let is = t.marked i h old in
            get_set_other indices f h _ (λ e. (let one : slice_get indices h ≡ Some None = ap (slice_get indices) e ∙ new in cc)) ∙ is
        by_marked i h (inr last) =
            ap (slice_get (set indices f (Some (length path)))) last.1 ∙ get_set_same indices f _ (within all) ∙ ap (λ n. Some (Some n)) (sym last.0)

        by_found : (h i : ℕ) → (h ≡ f) ⊎ (h ≡ f → ⊥) → slice_get (set indices f (Some (length path))) h ≡ Some (Some i) → slice_get (path ++ f ∷ []) i ≡ Some h
        by_found h i (inl same) at =
            let index : length path ≡ i = some_some (length path) i _ (ap (slice_get (set indices f (Some (length path)))) same ∙ get_set_same indices f _ (within all)) at in
            get_more_last path f i (sym index) ∙ ap Some (sym same)
        by_found h i (inr other) at =
            let old = t.found h i (sym (get_set_other indices f h _ other) ∙ at) in
            get_more_before path f i (get_within path i h old) ∙ old

    pub steps : (g : ℕ) (next : List ℕ) (next_indices : List (Option ℕ)) → length needs ≡ length frames → slice_get indices f ≡ Some None → slice_get needs g ≡ Some None → Leads (Contains edges) f g
        → next ≡ path ++ f ∷ [] → next_indices ≡ set indices f (Some (length path)) → IsTrace frames edges needs entry next next_indices g
    steps g next next_indices all new undone leads is are =
        subst (λ (z : List ℕ). IsTrace frames edges needs entry z next_indices g) (sym is)
        (subst (λ (z : List (Option ℕ)). IsTrace frames edges needs entry (path ++ f ∷ []) z g) (sym are) (step g all new undone leads))

    pub found_within : (i : ℕ) → slice_get indices f ≡ Some (Some i) → i ≤ length path
    found_within i at = let lt = get_within path i f (t.found f i at) in omega (arith, lt)

    -- no function stands twice on the walk, so it is no longer than there are functions
    pub short : length needs ≡ length frames → length path ≤ length frames
    short all = length-le_from_distinct_below path (length frames)
        (distinct_places path (λ i j s a b. some_some i j _ (t.marked i s a) (t.marked j s b)))
        (below_places path (length frames) (λ k s at. (let lt = get_within needs s _ (t.undone k s (get_more_before path f k (get_within path k s at) ∙ at)) in omega (arith, lt, all))))

    pub cycle : (i : ℕ) → slice_get indices f ≡ Some (Some i) → IsCycle (Contains edges) entry (drop i path)
    cycle i at = by_first (drop_get path i f (t.found f i at))
      where
        lt : i < length path
        lt = get_within path i f (t.found f i at)

        by_path : (all : List ℕ) → all ≡ path ++ f ∷ [] → slice_get all 0 ≡ Some entry → (xs : List Edge) × IsPath (Contains edges) entry f xs
        by_path [] is first = absurd (cc)
        by_path (x ∷ xs) is first =
            let same : x ≡ entry = cc in
            let chain : IsChain (Contains edges) (entry ∷ xs) = subst (λ h. IsChain (Contains edges) (h ∷ xs)) same (subst (IsChain (Contains edges)) (sym is) t.joined) in
            let there : slice_get (entry ∷ xs) i ≡ Some f = ap (λ h. slice_get (h ∷ xs) i) (sym same) ∙ ap (λ (z : List ℕ). slice_get z i) is ∙ get_more_before path f i lt ∙ t.found f i at in
            let path = chain_path (Contains edges) entry xs i f chain there in
            (path.edges, path.path)

        by_first : drop i path ≡ f ∷ drop (suc i) path → IsCycle (Contains edges) entry (drop i path)
        by_first is =
            let around = subst (IsChain (Contains edges)) (drop-append-le i path (f ∷ []) (omega (arith, lt))) (chain_drop (Contains edges) i (path ++ f ∷ []) t.joined) in
            subst (IsCycle (Contains edges) entry) (sym is) (subst (λ (z : List ℕ). IsChain (Contains edges) (z ++ f ∷ [])) is around, by_path (path ++ f ∷ []) refl t.begins)

-- the walk gets longer, and never longer than there are functions
pub nearer : (frames : List ℕ) (edges : List Edge) (needs : List (Option ℕ)) (entry : ℕ) (path : List ℕ) (f : ℕ) (next : List ℕ) (indices : List (Option ℕ)) (g : ℕ) → next ≡ path ++ f ∷ [] → IsTrace frames edges needs entry next indices g → length needs ≡ length frames → length frames - length next < length frames - length path
nearer frames edges needs entry path f next indices g is t all =
    let le = short frames edges needs entry next indices g t all in
    let one : length next ≡ suc (length path) = ap length is ∙ length_more path f in
    omega (arith, le, one)

-- what was copied is a cycle
pub cycle_if : {X : Type 0} (E : Edge → Type 0) (e : ℕ) (members : List ℕ) (r : Result (List ℕ) X) → IfOk r (λ m. m ≡ members) → IsCycle E e members → IfOk r (IsCycle E e)
cycle_if E e members (Ok m) is cycle = subst (IsCycle E e) (sym is) cycle
cycle_if E e members (Err f) is cycle = tt
