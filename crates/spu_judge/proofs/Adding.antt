-- The edges of a graph as it grows.
use Rattle.std.proofs.Common.{◌≡◌, ℕ, zero, suc, ◌+◌, ◌<◌, ◌≤◌, ◌⊎◌, inl, inr, false, List, [], ◌∷◌, ◌++◌, length, Option, Some, None, refl, sym, ap, ◌∙◌, subst, arith, ℤ}
use Rattle.std.specs.Prelude.{slice_get, slice_index, All, pos, ◌≤ℤ◌}
use Rattle.std.specs.List.{Contains}
use Rattle.std.proofs.lemmas.Bool.{cases_lt}
use Rattle.std.proofs.lemmas.Int.{ints}
use Rattle.std.proofs.lemmas.Option.{slice_get_within}
use Rattle.std.proofs.lemmas.List.{length-append}
use Rattle.std.proofs.lemmas.List.Elements.{All-nil, All-cons, All-append, Contains-append_left, Contains-append_right, Contains-append_cases}
use Rattle.spu_word.specs.declared.limits.TheConstants.{MAX_STACK_LIMIT}
use Rattle.spu_lift.specs.declared.program.SymInst.{SymInst}
use Rattle.spu_lift.specs.declared.program.Prog.{Prog}
use Rattle.spu_lift.specs.Places.{instruction_at}
use Rattle.spu_frame.specs.Walks.{Reaches}
use Rattle.spu_frame.specs.Frames.{IsDepthInRange, AreDepths}
use Rattle.spu_frame.specs.declared.depths.Depths.{Depths}
use Rattle.spu_frame.specs.declared.survey.FunctionDepths.{FunctionDepths}
use Rattle.spu_frame.specs.Found.{frame_within, frame_at, function_count}
use Rattle.spu_frame.specs.Functions.{code_of}
use Rattle.spu_frame.proofs.Formed.{place_within, contains_place, contains_at}
use Rattle.spu_graph.specs.declared.graph.Edge.{Edge}
use Rattle.spu_judge.specs.Building.{pointer_node, edge_between, edge_of, IsOut, IsIn, IsMade, IsEdgeOf, listed, AreMore, jumps_to}
use Rattle.spu_judge.proofs.Instructions.{function_within}

-- ---- the edge of a place

in_listed : (o : Option Edge) (e : Edge) → Contains (listed o) e → o ≡ Some e
in_listed None e c = let place = contains_place [] e c in absurd (let no : None ≡ Some e = place.1 in cc)
in_listed (Some x) e c = let place = contains_place (x ∷ []) e c in by_number place.0 place.1
  where
    by_number : (k : ℕ) → slice_get (x ∷ []) k ≡ Some e → Some x ≡ Some e
    by_number zero at = at
    by_number (suc k) at = absurd (cc)

listed_in : (o : Option Edge) (e : Edge) → o ≡ Some e → Contains (listed o) e
listed_in None e is = absurd (cc)
listed_in (Some x) e is = contains_at (x ∷ []) 0 e is

edge_known : (p : Prog) (f i : ℕ) (o : Option Edge) (e : Edge) → IsEdgeOf p f i o → IsOut p f i e → o ≡ Some e
edge_known p f i None e h out = absurd (h e out)
edge_known p f i (Some x) e h out = ap Some (sym (h.1 e out))

edge_out : (p : Prog) (f i : ℕ) (o : Option Edge) (e : Edge) → IsEdgeOf p f i o → o ≡ Some e → IsOut p f i e
edge_out p f i None e h is = absurd (cc)
edge_out p f i (Some x) e h is = let same : x ≡ e = cc in subst (IsOut p f i) same h.0

same_instruction : (x y : SymInst) → Some x ≡ Some y → x ≡ y
same_instruction x y e = cc

pub place_edge : (p : Prog) (f i : ℕ) (x : SymInst) (depth : ℤ) → Reaches p f i depth → instruction_at p f i ≡ Some x → (o : Option Edge) → o ≡ edge_of p f x → IsEdgeOf p f i o
place_edge p f i x depth reached here None is = λ e out. (let same = same_instruction out.x x (sym out.here ∙ here) in let at = ap (edge_of p f) same in let leads = out.leads in cc)
place_edge p f i x depth reached here (Some e) is = (
  record { depth = depth; reached = reached; x = x; here = here; leads = sym is },
  λ d out. (let same = same_instruction out.x x (sym out.here ∙ here) in let at = ap (edge_of p f) same in let leads = out.leads in cc),
)

-- ---- the edges of a function

-- of its places below i
abbrev pub IsOutBelow : Prog → ℕ → ℕ → Edge → Type 0
IsOutBelow p f i e = (j : ℕ) × (j < i) × IsOut p f j e

below_or_here : (j i : ℕ) → j < i + 1 → (j < i) ⊎ (j ≡ i)
below_or_here j i lt = grind arith

pub none_more : (p : Prog) (f : ℕ) (edges : List Edge) → AreMore (IsOutBelow p f 0) edges edges
none_more p f edges = record {
  kept = λ e c. c;
  each = λ e (j, lt, out). absurd (omega (arith, lt));
  no_other = λ e c. inl c;
}

pub place_more : (p : Prog) (f i : ℕ) (o : Option Edge) (before edges new : List Edge) → new ≡ edges ++ listed o → IsEdgeOf p f i o
    → AreMore (IsOutBelow p f i) before edges → AreMore (IsOutBelow p f (i + 1)) before new
place_more p f i o before edges new is known m = subst (AreMore (IsOutBelow p f (i + 1)) before) (sym is) (record {
  kept = λ e c. Contains-append_left edges (listed o) e (m.kept e c);
  each = each;
  no_other = λ e c. by_part e (Contains-append_cases edges (listed o) e c);
})
  where
    each : (e : Edge) → IsOutBelow p f (i + 1) e → Contains (edges ++ listed o) e
    each e (j, lt, out) = elim (below_or_here j i lt) [
      | inl below ↦ Contains-append_left edges (listed o) e (m.each e (j, below, out))
      | inr at ↦ Contains-append_right edges (listed o) e (listed_in o e (edge_known p f i o e known (subst (λ k. IsOut p f k e) at out)))
    ]

    by_part : (e : Edge) → Contains edges e ⊎ Contains (listed o) e → Contains before e ⊎ IsOutBelow p f (i + 1) e
    by_part e (inl c) = elim (m.no_other e c) [ inl old ↦ inl old | inr (j, lt, out) ↦ inr (j, omega (arith, lt), out) ]
    by_part e (inr c) = inr (i, omega arith, edge_out p f i o e known (in_listed o e c))

pub function_done : (p : Prog) (f n : ℕ) (before edges : List Edge) → length (code_of p f) ≤ n → AreMore (IsOutBelow p f n) before edges → AreMore (λ e. (i : ℕ) × IsOut p f i e) before edges
function_done p f n before edges all m = record {
  kept = m.kept;
  each = λ e (i, out). (let lt = place_within p f i out.x out.here in m.each e (i, omega (arith, lt, all), out));
  no_other = λ e c. elim (m.no_other e c) [ inl old ↦ inl old | inr (i, lt, out) ↦ inr (i, out) ];
}

-- ---- the edges of all functions

-- of those below f
abbrev pub IsOutOf : Prog → ℕ → Edge → Type 0
IsOutOf p f e = (g : ℕ) × (g < f) × ((i : ℕ) × IsOut p g i e)

pub no_function : (p : Prog) → AreMore (IsOutOf p 0) [] []
no_function p = record {
  kept = λ e c. c;
  each = λ e (g, lt, out). absurd (omega (arith, lt));
  no_other = λ e c. inl c;
}

pub function_more : (p : Prog) (f : ℕ) (edges new : List Edge) → AreMore (IsOutOf p f) [] edges → AreMore (λ e. (i : ℕ) × IsOut p f i e) edges new → AreMore (IsOutOf p (f + 1)) [] new
function_more p f edges new m n = record {
  kept = λ e c. n.kept e (m.kept e c);
  each = λ e (g, lt, out). (elim (below_or_here g f lt) [
    | inl below ↦ n.kept e (m.each e (g, below, out))
    | inr at ↦ n.each e (out.0, subst (λ k. IsOut p k out.0 e) at out.1)
  ]);
  no_other = λ e c. by_part e (n.no_other e c);
}
  where
    by_part : (e : Edge) → Contains edges e ⊎ ((i : ℕ) × IsOut p f i e) → Contains [] e ⊎ IsOutOf p (f + 1) e
    by_part e (inl c) = elim (m.no_other e c) [ inl old ↦ inl old | inr (g, lt, out) ↦ inr (g, omega (arith, lt), out) ]
    by_part e (inr out) = inr (f, omega arith, out)

-- ---- the jumps to the taken functions

abbrev IsJumpTo : Prog → List ℕ → Edge → Type 0
IsJumpTo p gs e = (e.from ≡ pointer_node p) × (e.call ≡ false) × ((j : ℕ) × (slice_get gs j ≡ Some e.to))

jump_in : (p : Prog) (gs : List ℕ) (k : ℕ) (e : Edge) → slice_get (jumps_to p gs) k ≡ Some e → IsJumpTo p gs e
jump_in p [] k e at = absurd (cc)
jump_in p (g ∷ gs) zero e at = let same : edge_between (pointer_node p) g false ≡ e = cc in subst (IsJumpTo p (g ∷ gs)) same (refl, refl, (0, refl))
jump_in p (g ∷ gs) (suc k) e at = let rest = jump_in p gs k e at in (rest.0, rest.1, (suc rest.2.0, rest.2.1))

in_jump : (p : Prog) (gs : List ℕ) (k g : ℕ) → slice_get gs k ≡ Some g → slice_get (jumps_to p gs) k ≡ Some (edge_between (pointer_node p) g false)
in_jump p [] k g at = absurd (cc)
in_jump p (x ∷ gs) zero g at = ap (λ n. Some (edge_between (pointer_node p) n false)) (let same : x ≡ g = cc in same)
in_jump p (x ∷ gs) (suc k) g at = in_jump p gs k g at

same_jump : (p : Prog) (e : Edge) → e.from ≡ pointer_node p → e.call ≡ false → edge_between (pointer_node p) e.to false ≡ e
same_jump p e from is = ap (λ g. edge_between g e.to false) (sym from) ∙ ap (λ b. edge_between e.from e.to b) (sym is)

pub jumps_are_in : (p : Prog) (e : Edge) → Contains (jumps_to p p.taken) e → IsIn p e
jumps_are_in p e c =
    let place = contains_place (jumps_to p p.taken) e c in
    let jump = jump_in p p.taken place.0 e place.1 in
    (jump.0, jump.1, contains_at p.taken jump.2.0 e.to jump.2.1)

pub in_are_jumps : (p : Prog) (e : Edge) → IsIn p e → Contains (jumps_to p p.taken) e
in_are_jumps p e (from, call, taken) =
    let place = contains_place p.taken e.to taken in
    contains_at (jumps_to p p.taken) place.0 e (in_jump p p.taken place.0 e.to place.1 ∙ ap Some (same_jump p e from call))

-- ---- the whole graph

pub all_made : (p : Prog) (n : ℕ) (edges new : List Edge) → AreMore (IsOutOf p n) [] edges → new ≡ edges ++ jumps_to p p.taken → (e : Edge) → Contains new e → IsMade p e
all_made p n edges new m is e c = by_part (Contains-append_cases edges (jumps_to p p.taken) e (subst (λ es. Contains es e) is c))
  where
    by_part : Contains edges e ⊎ Contains (jumps_to p p.taken) e → IsMade p e
    by_part (inl old) = by_old (m.no_other e old)
      where
        by_old : Contains [] e ⊎ IsOutOf p n e → IsMade p e
        by_old (inl none) = absurd (let place = contains_place [] e none in let no : None ≡ Some e = place.1 in cc)
        by_old (inr (g, lt, out)) = inl (g, out.0, out.1)
    by_part (inr jump) = inr (jumps_are_in p e jump)

pub each_made : (p : Prog) (n : ℕ) (edges new : List Edge) → length p.functions ≤ n → AreMore (IsOutOf p n) [] edges → new ≡ edges ++ jumps_to p p.taken → (e : Edge) → IsMade p e → Contains new e
each_made p n edges new all m is e made = subst (λ es. Contains es e) (sym is) (by_kind made)
  where
    by_kind : IsMade p e → Contains (edges ++ jumps_to p p.taken) e
    by_kind (inl (f, at, out)) = (let lt = function_within p f at out.x out.here in Contains-append_left edges (jumps_to p p.taken) e (m.each e (f, omega (arith, lt, all), (at, out))))
    by_kind (inr into) = Contains-append_right edges (jumps_to p p.taken) e (in_are_jumps p e into)

-- ---- frames

pub frame_low : (p : Prog) (depth : ℕ → ℕ → Option ℕ) (frames : ℕ → ℕ) → AreDepths p depth frames → (f : ℕ) → f < length p.functions → frames f ≤ MAX_STACK_LIMIT
frame_low p depth frames d f lt =
    let frame = d.greatest f lt in
    let range : IsDepthInRange (pos (frames f)) = d.good.range f frame.at (pos (frames f)) frame.some in
    let high : pos (frames f) ≤ℤ pos MAX_STACK_LIMIT = range.1 in
    omega (arith, ints, high)

pub record AreFrames (frames : List ℕ) (n : ℕ) (frame : ℕ → ℕ) : Type 0 where
  pub count : length frames ≡ n
  pub each : (g : ℕ) → g < n → slice_index frames g ≡ frame g
  pub low : All (λ m. m ≤ MAX_STACK_LIMIT) frames

index_push : (xs : List ℕ) (v k : ℕ) → k ≡ length xs → slice_index (xs ++ v ∷ []) k ≡ v
index_push [] v k is = ap (slice_index (v ∷ [])) (let z : k ≡ 0 = omega (arith, is) in z)
index_push (x ∷ xs) v zero is = absurd (omega (arith, is))
index_push (x ∷ xs) v (suc k) is = index_push xs v k (omega (arith, is))

index_before : (xs : List ℕ) (v k : ℕ) → k < length xs → slice_index (xs ++ v ∷ []) k ≡ slice_index xs k
index_before [] v k lt = absurd (omega (arith, lt))
index_before (x ∷ xs) v zero lt = refl
index_before (x ∷ xs) v (suc k) lt = index_before xs v k (omega (arith, lt))

index_behind : (xs : List ℕ) (k : ℕ) → length xs ≤ k → slice_index xs k ≡ 0
index_behind [] zero le = refl
index_behind [] (suc k) le = refl
index_behind (x ∷ xs) zero le = absurd (omega (arith, le))
index_behind (x ∷ xs) (suc k) le = index_behind xs k (omega (arith, le))

pub frames_start : (frame : ℕ → ℕ) → AreFrames [] 0 frame
frames_start frame = record { count = refl; each = λ g lt. absurd (omega (arith, lt)); low = All-nil (λ m. m ≤ MAX_STACK_LIMIT) }

pub frames_more : (frames : List ℕ) (f v : ℕ) (frame : ℕ → ℕ) → AreFrames frames f frame → v ≡ frame f → v ≤ MAX_STACK_LIMIT → AreFrames (frames ++ v ∷ []) (f + 1) frame
frames_more frames f v frame all is low = record {
  count = (let long = length-append frames (v ∷ []) in let count = all.count in omega (arith, long, count));
  each = λ g lt. elim (below_or_here g f lt) as (λ s. slice_index (frames ++ v ∷ []) g ≡ frame g) [
    | inl below ↦ (let count = all.count in index_before frames v g (omega (arith, below, count)) ∙ all.each g below)
    | inr at ↦ (let count = all.count in index_push frames v g (omega (arith, at, count)) ∙ is ∙ ap frame (sym at))
  ];
  low = All-append (λ m. m ≤ MAX_STACK_LIMIT) frames (v ∷ []) all.low (All-cons (λ m. m ≤ MAX_STACK_LIMIT) v [] low (All-nil (λ m. m ≤ MAX_STACK_LIMIT)));
}

-- the frames of all functions, and a node of no frame behind them
pub frames_whole : (frames : List ℕ) (f : ℕ) (frame : ℕ → ℕ) → AreFrames frames f frame → ((g : ℕ) → f ≤ g → frame g ≡ 0) → (g : ℕ) → slice_index (frames ++ 0 ∷ []) g ≡ frame g
frames_whole frames f frame all none g = by_place (below_or_behind g f)
  where
    by_place : (g < f) ⊎ (f ≤ g) → slice_index (frames ++ 0 ∷ []) g ≡ frame g
    by_place (inl below) = (let count = all.count in index_before frames 0 g (omega (arith, below, count)) ∙ all.each g below)
    by_place (inr behind) = by_node (below_or_here f g (omega (arith, behind)))
      where
        by_node : (f < g) ⊎ (f ≡ g) → slice_index (frames ++ 0 ∷ []) g ≡ frame g
        by_node (inl past) = (let count = all.count in let long = length-append frames (0 ∷ []) in index_behind (frames ++ 0 ∷ []) g (omega (arith, past, count, long)) ∙ sym (none g behind))
        by_node (inr at) = (let count = all.count in index_push frames 0 g (omega (arith, at, count)) ∙ sym (none g behind))

    below_or_behind : (g f : ℕ) → (g < f) ⊎ (f ≤ g)
    below_or_behind g f = cases_lt g f

-- a program has no frames beyond its functions
pub no_frame : (d : Depths) (n g : ℕ) → function_count d ≡ n → n ≤ g → frame_at d g ≡ 0
no_frame d n g count le = by_function (slice_get d.functions g) refl
  where
    by_function : (o : Option FunctionDepths) → slice_get d.functions g ≡ o → frame_within o ≡ 0
    by_function None is = refl
    by_function (Some h) is = let lt = slice_get_within d.functions g h is in absurd (omega (arith, lt, count, le))
