-- The numbers of the edges at a function, and lists walked from an element on.
use Rattle.std.proofs.Common.{◌≡◌, ℕ, zero, suc, ◌+◌, ◌<◌, ◌≤◌, ◌⊎◌, inl, inr, Bool, true, false, List, [], ◌∷◌, ◌++◌, length, drop, Option, Some, None, IfSome, refl, sym, ap, ◌∙◌, subst, arith}
use Rattle.std.specs.Prelude.{slice_get, if◌then◌else◌, ◌==◌, ◌||◌}
use Rattle.std.proofs.lemmas.Bool.{ne_eqb, eqb-true, eq-eqb, cond-false, cond-true}
use Rattle.std.proofs.lemmas.List.{drop_all}
use Rattle.spu_word.specs.declared.linked.Chains.{Chains}
use Rattle.spu_word.specs.Lists.{stands_on}
use Rattle.spu_word.specs.Chains.{lists_of}
use Rattle.spu_word.proofs.Places.{get_within, get_none, get_more_before, get_more_last, drop_get, length_more, stands_place, place_stands, absent_place, less_or}
use Rattle.spu_word.proofs.Links.{once}
use Rattle.spu_graph.specs.declared.graph.Edge.{Edge}
use Rattle.spu_graph.specs.Edges.{source, target, numbers, leaving, entering, rest_from, rest_of, IsGraph}

-- ---- numbers of edges

numbers_more : (end : Edge → ℕ) (f k : ℕ) (xs : List Edge) (x : Edge) → numbers end f k (xs ++ x ∷ []) ≡ (if end x == f then numbers end f k xs ++ (k + length xs) ∷ [] else numbers end f k xs)
numbers_more end f k [] x = let same : k ≡ k + 0 = omega arith in elim (end x == f) as (λ b. (if b then k ∷ [] else []) ≡ (if b then (k + 0) ∷ [] else [])) [ true ↦ ap (λ n. n ∷ []) same | false ↦ refl ]
numbers_more end f k (y ∷ xs) x =
    let rest = numbers_more end f (suc k) xs x in
    let same : suc k + length xs ≡ k + suc (length xs) = omega arith in
    let one = rest ∙ ap (λ n. if end x == f then numbers end f (suc k) xs ++ n ∷ [] else numbers end f (suc k) xs) same in
    ap (λ (z : List ℕ). if end y == f then k ∷ z else z) one ∙ by_tests (end y == f) (end x == f)
  where
    by_tests : (a b : Bool) → (if a then k ∷ (if b then numbers end f (suc k) xs ++ (k + suc (length xs)) ∷ [] else numbers end f (suc k) xs) else (if b then numbers end f (suc k) xs ++ (k + suc (length xs)) ∷ [] else numbers end f (suc k) xs))
        ≡ (if b then (if a then k ∷ numbers end f (suc k) xs else numbers end f (suc k) xs) ++ (k + suc (length xs)) ∷ [] else (if a then k ∷ numbers end f (suc k) xs else numbers end f (suc k) xs))
    by_tests true true = refl
    by_tests true false = refl
    by_tests false true = refl
    by_tests false false = refl

record IsNumber (end : Edge → ℕ) (f k e : ℕ) (xs : List Edge) : Type 0 where
  j : ℕ
  place : e ≡ k + j
  x : Edge
  here : slice_get xs j ≡ Some x
  ends : end x ≡ f

numbers_are : (end : Edge → ℕ) (f k e : ℕ) (xs : List Edge) → stands_on (numbers end f k xs) e ≡ true → IsNumber end f k e xs
numbers_are end f k e [] on = absurd (cc)
numbers_are end f k e (y ∷ xs) on = by_test (end y == f) refl on (λ h. later (numbers_are end f (suc k) e xs h))
  where
    later : IsNumber end f (suc k) e xs → IsNumber end f k e (y ∷ xs)
    later n = let p = n.place in record { j = suc n.j; place = omega (arith, p); x = n.x; here = n.here; ends = n.ends }

    by_first : (b : Bool) → (k == e) ≡ b → end y ≡ f → (b || stands_on (numbers end f (suc k) xs) e) ≡ true → (stands_on (numbers end f (suc k) xs) e ≡ true → IsNumber end f k e (y ∷ xs)) → IsNumber end f k e (y ∷ xs)
    by_first true t is on more = let same = eqb-true k e t in record { j = 0; place = omega (arith, same); x = y; here = refl; ends = is }
    by_first false t is on more = more on

    by_test : (b : Bool) → (end y == f) ≡ b → stands_on (if b then k ∷ numbers end f (suc k) xs else numbers end f (suc k) xs) e ≡ true → (stands_on (numbers end f (suc k) xs) e ≡ true → IsNumber end f k e (y ∷ xs)) → IsNumber end f k e (y ∷ xs)
    by_test true t on more = by_first (k == e) refl (eqb-true _ _ t) on more
    by_test false t on more = more on

are_numbers : (end : Edge → ℕ) (f k j : ℕ) (xs : List Edge) (x : Edge) → slice_get xs j ≡ Some x → end x ≡ f → stands_on (numbers end f k xs) (k + j) ≡ true
are_numbers end f k j [] x here is = absurd (cc)
are_numbers end f k zero (y ∷ xs) x here is =
    let same : end y ≡ f = (let e : y ≡ x = cc in ap end e ∙ is) in
    let t : (k == (k + 0)) ≡ true = eq-eqb _ _ (omega arith) in
    ap (λ b. stands_on (if b then k ∷ numbers end f (suc k) xs else numbers end f (suc k) xs) (k + 0)) (eq-eqb _ _ same) ∙ ap (λ b. b || stands_on (numbers end f (suc k) xs) (k + 0)) t
are_numbers end f k (suc j) (y ∷ xs) x here is =
    let rest = are_numbers end f (suc k) j xs x here is in
    let same : suc k + j ≡ k + suc j = omega arith in
    let moved : stands_on (numbers end f (suc k) xs) (k + suc j) ≡ true = ap (stands_on (numbers end f (suc k) xs)) (sym same) ∙ rest in
    by_test (end y == f) moved
  where
    by_first : (b : Bool) → stands_on (numbers end f (suc k) xs) (k + suc j) ≡ true → (b || stands_on (numbers end f (suc k) xs) (k + suc j)) ≡ true
    by_first true on = refl
    by_first false on = on

    by_test : (b : Bool) → stands_on (numbers end f (suc k) xs) (k + suc j) ≡ true → stands_on (if b then k ∷ numbers end f (suc k) xs else numbers end f (suc k) xs) (k + suc j) ≡ true
    by_test true on = by_first (k == (k + suc j)) on
    by_test false on = on

-- an edge that leaves a function, and one that enters it
pub leaving_edge : (edges : List Edge) (f e : ℕ) → stands_on (leaving edges f) e ≡ true → (x : Edge) × (slice_get edges e ≡ Some x) × (x.from ≡ f)
unfolding leaving
leaving_edge edges f e on = let n = numbers_are source f 0 e edges on in let same : n.j ≡ e = (let p = n.place in omega (arith, p)) in (n.x, ap (slice_get edges) (sym same) ∙ n.here, n.ends)

pub entering_edge : (edges : List Edge) (f e : ℕ) → stands_on (entering edges f) e ≡ true → (x : Edge) × (slice_get edges e ≡ Some x) × (x.to ≡ f)
unfolding entering
entering_edge edges f e on = let n = numbers_are target f 0 e edges on in let same : n.j ≡ e = (let p = n.place in omega (arith, p)) in (n.x, ap (slice_get edges) (sym same) ∙ n.here, n.ends)

pub edge_leaves : (edges : List Edge) (e : ℕ) (x : Edge) → slice_get edges e ≡ Some x → stands_on (leaving edges x.from) e ≡ true
unfolding leaving
edge_leaves edges e x here = ap (stands_on (numbers source x.from 0 edges)) (omega arith) ∙ are_numbers source x.from 0 e edges x here refl

pub edge_enters : (edges : List Edge) (e : ℕ) (x : Edge) → slice_get edges e ≡ Some x → stands_on (entering edges x.to) e ≡ true
unfolding entering
edge_enters edges e x here = ap (stands_on (numbers target x.to 0 edges)) (omega arith) ∙ are_numbers target x.to 0 e edges x here refl

-- one edge more is the last of those whose end is its own
end_more : (end : Edge → ℕ) (edges : List Edge) (x : Edge) (f : ℕ) → numbers end f 0 (edges ++ x ∷ []) ≡ (if f == end x then numbers end f 0 edges ++ length edges ∷ [] else numbers end f 0 edges)
end_more end edges x f = numbers_more end f 0 edges x ∙ turned (end x == f) (f == end x) (swap (end x) f)
  where
    swap : (m n : ℕ) → (m == n) ≡ (n == m)
    swap m n = by_test (m == n) refl
      where
        by_test : (b : Bool) → (m == n) ≡ b → b ≡ (n == m)
        by_test true e = sym (eq-eqb n m (sym (eqb-true m n e)))
        by_test false e = sym (ne_eqb n m (λ q. (let z = eq-eqb m n (sym q) in cc)))

    turned : (a b : Bool) → a ≡ b → (if a then numbers end f 0 edges ++ (0 + length edges) ∷ [] else numbers end f 0 edges) ≡ (if b then numbers end f 0 edges ++ length edges ∷ [] else numbers end f 0 edges)
    turned a b e = let same : 0 + length edges ≡ length edges = omega arith in ap (λ c. if c then numbers end f 0 edges ++ (0 + length edges) ∷ [] else numbers end f 0 edges) e ∙ ap (λ n. if b then numbers end f 0 edges ++ n ∷ [] else numbers end f 0 edges) same

pub leaving_more : (edges : List Edge) (x : Edge) (f : ℕ) → leaving (edges ++ x ∷ []) f ≡ (if f == x.from then leaving edges f ++ length edges ∷ [] else leaving edges f)
unfolding leaving
leaving_more edges x f = end_more source edges x f

pub entering_more : (edges : List Edge) (x : Edge) (f : ℕ) → entering (edges ++ x ∷ []) f ≡ (if f == x.to then entering edges f ++ length edges ∷ [] else entering edges f)
unfolding entering
entering_more edges x f = end_more target edges x f

pub leaving_none : (f : ℕ) → leaving [] f ≡ []
unfolding leaving
leaving_none f = refl

pub entering_none : (f : ℕ) → entering [] f ≡ []
unfolding entering
entering_none f = refl

pub leaving_free : (edges : List Edge) (f : ℕ) → stands_on (leaving edges f) (length edges) ≡ false
leaving_free edges f = absent_place (leaving edges f) (length edges) (λ k at. (let x = leaving_edge edges f (length edges) (stands_place (leaving edges f) k (length edges) at) in let lt = get_within edges (length edges) x.0 x.1 in omega (arith, lt)))

pub entering_free : (edges : List Edge) (f : ℕ) → stands_on (entering edges f) (length edges) ≡ false
entering_free edges f = absent_place (entering edges f) (length edges) (λ k at. (let x = entering_edge edges f (length edges) (stands_place (entering edges f) k (length edges) at) in let lt = get_within edges (length edges) x.0 x.1 in omega (arith, lt)))

-- one edge more keeps the graph
pub graph_more : (n : ℕ) (edges : List Edge) (calls callers more_calls more_callers : ℕ → List ℕ) (x : Edge) → IsGraph n edges calls callers → x.from < n → x.to < n
    → ((f : ℕ) → more_calls f ≡ (if f == x.from then calls f ++ length edges ∷ [] else calls f)) → ((f : ℕ) → more_callers f ≡ (if f == x.to then callers f ++ length edges ∷ [] else callers f))
    → IsGraph n (edges ++ x ∷ []) more_calls more_callers
graph_more n edges calls callers more_calls more_callers x g from to leave enter = record {
  from = λ k y at. elim (old_or_new k y at (less_or k (length edges))) as (λ q. y.from < n) [ inl old ↦ g.from k y old | inr e ↦ (let same = ap (λ (z : Edge). z.from) e in omega (arith, same, from)) ];
  to = λ k y at. elim (old_or_new k y at (less_or k (length edges))) as (λ q. y.to < n) [ inl old ↦ g.to k y old | inr e ↦ (let same = ap (λ (z : Edge). z.to) e in omega (arith, same, to)) ];
  leave = λ f. leave f ∙ ap (λ (z : List ℕ). if f == x.from then z ++ length edges ∷ [] else z) (g.leave f) ∙ sym (leaving_more edges x f);
  enter = λ f. enter f ∙ ap (λ (z : List ℕ). if f == x.to then z ++ length edges ∷ [] else z) (g.enter f) ∙ sym (entering_more edges x f);
}
  where
    some_edge : (y z : Edge) → Some y ≡ Some z → y ≡ z
    some_edge y z e = cc

    length_one : (xs : List Edge) (y : Edge) → length (xs ++ y ∷ []) ≡ suc (length xs)
    length_one xs y = length_more xs y

    old_or_new : (k : ℕ) (y : Edge) → slice_get (edges ++ x ∷ []) k ≡ Some y → (k < length edges) ⊎ (length edges ≤ k) → (slice_get edges k ≡ Some y) ⊎ (y ≡ x)
    old_or_new k y at (inl lt) = inl (sym (get_more_before edges x k lt) ∙ at)
    old_or_new k y at (inr le) =
        let within = get_within (edges ++ x ∷ []) k y at in
        let one = length_one edges x in
        inr (some_edge y x (sym at ∙ get_more_last edges x k (omega (arith, within, one, le))))

pub graph_none : (n : ℕ) (calls callers : ℕ → List ℕ) → ((f : ℕ) → calls f ≡ []) → ((f : ℕ) → callers f ≡ []) → IsGraph n [] calls callers
graph_none n calls callers a b = record {
  from = λ k x at. absurd (cc);
  to = λ k x at. absurd (cc);
  leave = λ f. a f ∙ sym (leaving_none f);
  enter = λ f. b f ∙ sym (entering_none f);
}

-- ---- walking a list

pub rest_first : (xs : List ℕ) → rest_of xs (slice_get xs 0) ≡ xs
rest_first [] = refl
rest_first (x ∷ xs) = cond-true _ _ _ (eq-eqb x x refl)

first_on : (xs : List ℕ) → IfSome (slice_get xs 0) (λ e. stands_on xs e ≡ true)
first_on [] = tt
first_on (x ∷ xs) = ap (λ b. b || stands_on xs x) (eq-eqb x x refl)

rest_drop : (xs : List ℕ) (k e : ℕ) → slice_get xs k ≡ Some e → ((i : ℕ) → slice_get xs i ≡ Some e → i ≡ k) → rest_from xs e ≡ drop k xs
rest_drop [] k e at one = absurd (cc)
rest_drop (x ∷ xs) zero e at one = cond-true _ _ _ (eq-eqb x e (cc))
rest_drop (x ∷ xs) (suc k) e at one =
    cond-false _ _ _ (ne_eqb x e (λ q. (let z = one 0 (ap Some q) in omega (arith, z)))) ∙ rest_drop xs k e at (λ i there. (let z = one (suc i) there in omega (arith, z)))

rest_after : (xs : List ℕ) → ((i j s : ℕ) → slice_get xs i ≡ Some s → slice_get xs j ≡ Some s → i ≡ j) → (k : ℕ) (o : Option ℕ) → slice_get xs k ≡ o → rest_of xs o ≡ drop k xs
rest_after xs apart k None e = sym (drop_all k xs (get_none xs k e))
rest_after xs apart k (Some s) e = rest_drop xs k s e (λ i there. apart i k s there e)

next_on : (xs : List ℕ) (k : ℕ) (o : Option ℕ) → slice_get xs k ≡ o → IfSome o (λ r. stands_on xs r ≡ true)
next_on xs k None e = tt
next_on xs k (Some s) e = stands_place xs k s e

pub record IsRest (xs : List ℕ) (e : ℕ) (r : Option ℕ) : Type 0 where
  pub rest : rest_of xs (Some e) ≡ e ∷ rest_of xs r
  pub on : IfSome r (λ q. stands_on xs q ≡ true)

rest_next : (c : Chains) (f e : ℕ) → stands_on (lists_of c f) e ≡ true → (r : Option ℕ) → ((l k : ℕ) → slice_get (lists_of c l) k ≡ Some e → r ≡ slice_get (lists_of c l) (k + 1)) → IsRest (lists_of c f) e r
rest_next c f e on r next =
    let at = place_stands (lists_of c f) e on in
    let apart : (i j s : ℕ) → slice_get (lists_of c f) i ≡ Some s → slice_get (lists_of c f) j ≡ Some s → i ≡ j = λ i j s a b. once _ _ (lists_of c) c.linked f i j s a b in
    let is = next f at.0 at.1 in
    let more : drop (suc at.0) (lists_of c f) ≡ drop (at.0 + 1) (lists_of c f) = (let one : suc at.0 ≡ at.0 + 1 = omega arith in ap (λ n. drop n (lists_of c f)) one) in
    record {
      rest = rest_drop (lists_of c f) at.0 e at.1 (λ i there. apart i at.0 e there at.1) ∙ drop_get (lists_of c f) at.0 e at.1
          ∙ ap (λ (z : List ℕ). e ∷ z) (more ∙ sym (rest_after (lists_of c f) apart (at.0 + 1) r (sym is)));
      on = next_on (lists_of c f) (at.0 + 1) r (sym is);
    }

pub chain_next : (c : Chains) (xs : List ℕ) (f e : ℕ) → lists_of c f ≡ xs → stands_on xs e ≡ true → (r : Option ℕ) → ((l k : ℕ) → slice_get (lists_of c l) k ≡ Some e → r ≡ slice_get (lists_of c l) (k + 1)) → IsRest xs e r
chain_next c xs f e is on r next = subst (λ (z : List ℕ). IsRest z e r) is (rest_next c f e (ap (λ (z : List ℕ). stands_on z e) is ∙ on) r next)

pub chain_first : (xs ys : List ℕ) → ys ≡ xs → (r : Option ℕ) → r ≡ slice_get ys 0 → (rest_of xs r ≡ xs) × IfSome r (λ e. stands_on xs e ≡ true)
chain_first xs ys is r e =
    let now : r ≡ slice_get xs 0 = e ∙ ap (λ (z : List ℕ). slice_get z 0) is in
    subst (λ (o : Option ℕ). (rest_of xs o ≡ xs) × IfSome o (λ q. stands_on xs q ≡ true)) (sym now) (rest_first xs, first_on xs)

pub leaving_off : (edges : List Edge) (calls : List ℕ) (f slot : ℕ) → calls ≡ leaving edges f → slot ≡ length edges → stands_on calls slot ≡ false
leaving_off edges calls f slot is e = ap (λ (z : List ℕ). stands_on z slot) is ∙ ap (stands_on (leaving edges f)) e ∙ leaving_free edges f

pub leaving_within : (edges : List Edge) (f e : ℕ) → stands_on (leaving edges f) e ≡ true → e < length edges
leaving_within edges f e on = let x = leaving_edge edges f e on in get_within edges e x.0 x.1

pub if_some : (o : Option ℕ) (e : ℕ) (P : ℕ → Type 0) → o ≡ Some e → IfSome o P → P e
if_some o e P is h = subst (λ (q : Option ℕ). IfSome q P) is h

pub entering_within : (edges : List Edge) (f e : ℕ) → stands_on (entering edges f) e ≡ true → e < length edges
entering_within edges f e on = let x = entering_edge edges f e on in get_within edges e x.0 x.1
