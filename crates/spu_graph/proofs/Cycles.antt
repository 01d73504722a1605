-- Chains of functions are paths, and a cycle that a path leads to is recursion.
use Rattle.std.proofs.Common.{◌≡◌, ℕ, zero, suc, List, [], ◌∷◌, ◌++◌, map, length, drop, Some, refl, sym, ap, subst, arith}
use Rattle.std.specs.Prelude.{slice_get, slice_index}
use Rattle.std.proofs.lemmas.List.{length-append}
use Rattle.spu_word.proofs.Places.{get_more_last}
use Rattle.spu_graph.specs.declared.graph.Edge.{Edge}
use Rattle.spu_graph.specs.Paths.{IsPath, IsRecursive}
use Rattle.spu_graph.specs.Cycles.{Leads, IsChain, IsCycle}
use Rattle.spu_graph.proofs.Firsts.{path_behind}

some_same : (x y : ℕ) → Some x ≡ Some y → x ≡ y
some_same x y e = cc

-- ---- chains

-- one function more
pub chain_more : (E : Edge → Type 0) (xs : List ℕ) (f g : ℕ) → IsChain E (xs ++ f ∷ []) → Leads E f g → IsChain E ((xs ++ f ∷ []) ++ g ∷ [])
chain_more E [] f g chain leads = (leads, tt)
chain_more E (x ∷ []) f g chain leads = (chain.0, (leads, tt))
chain_more E (x ∷ y ∷ ys) f g chain leads = (chain.0, chain_more E (y ∷ ys) f g chain.1 leads)

-- without its first functions
pub chain_drop : (E : Edge → Type 0) (n : ℕ) (xs : List ℕ) → IsChain E xs → IsChain E (drop n xs)
chain_drop E zero xs chain = chain
chain_drop E (suc n) [] chain = tt
chain_drop E (suc n) (x ∷ []) chain = chain_drop E n [] tt
chain_drop E (suc n) (x ∷ y ∷ ys) chain = chain_drop E n (y ∷ ys) chain.1

-- a path from one function to another, of this many edges
pub record Joined (E : Edge → Type 0) (e f n : ℕ) : Type 0 where
  pub edges : List Edge
  pub path : IsPath E e f edges
  pub count : length edges ≡ n

joined_none : (E : Edge → Type 0) (e f : ℕ) → e ≡ f → Joined E e f 0
unfolding IsPath
joined_none E e f same = record { edges = []; path = same; count = refl }

joined_more : (E : Edge → Type 0) (e g f n : ℕ) → Leads E e g → Joined E g f n → Joined E e f (suc n)
joined_more E e g f n leads rest =
    let from_target : IsPath E leads.edge.to f rest.edges = subst (λ h. IsPath E h f rest.edges) (sym leads.to) rest.path in
    let path = path_behind E (λ n. n) leads.edge f rest.edges leads.is from_target in
    let long = length-append rest.edges (leads.edge ∷ []) in
    record {
      edges = rest.edges ++ leads.edge ∷ [];
      path = subst (λ h. IsPath E h f (rest.edges ++ leads.edge ∷ [])) leads.from path;
      count = omega (arith, long, rest.count);
    }

pub chain_path : (E : Edge → Type 0) (e : ℕ) (xs : List ℕ) (i f : ℕ) → IsChain E (e ∷ xs) → slice_get (e ∷ xs) i ≡ Some f → Joined E e f i
chain_path E e xs zero f chain at = joined_none E e f (some_same e f at)
chain_path E e [] (suc i) f chain at = absurd (cc)
chain_path E e (x ∷ xs) (suc i) f chain at = joined_more E e x f i chain.0 (chain_path E x xs i f chain.1 at)

-- ---- two paths, one behind the other

pub path_on : (E : Edge → Type 0) (e a g : ℕ) (xs ys : List Edge) → IsPath E e a xs → IsPath E a g ys → IsPath E e g (ys ++ xs)
unfolding IsPath
path_on E e a g xs [] first second = subst (λ h. IsPath E e h xs) second first
path_on E e a g xs (y ∷ ys) first second = (second.0, second.1, path_on E e a y.from xs ys first second.2)

-- the function where the second begins stands on them
begins_there : (E : Edge → Type 0) (a g k : ℕ) (xs ys : List Edge) → IsPath E a g ys → length ys ≡ suc k → slice_index (map (λ x. x.from) (ys ++ xs)) k ≡ a
unfolding IsPath
begins_there E a g k xs [] path long = absurd (omega (arith, long))
begins_there E a g zero xs (y ∷ []) path long = sym path.2
begins_there E a g (suc k) xs (y ∷ []) path long = absurd (omega (arith, long))
begins_there E a g zero xs (y ∷ z ∷ ys) path long = absurd (omega (arith, long))
begins_there E a g (suc k) xs (y ∷ z ∷ ys) path long = begins_there E a y.from k xs (z ∷ ys) path.2 (omega (arith, long))

length_from : (xs : List Edge) → length (map (λ x. x.from) xs) ≡ length xs
length_from [] = refl
length_from (x ∷ xs) = ap suc (length_from xs)

pub round_recursive : (E : Edge → Type 0) (e f k : ℕ) (xs : List Edge) → IsPath E e f xs → Joined E f f (suc k) → IsRecursive E e
round_recursive E e f k xs first round =
    let long = length-append round.edges xs in
    let count = length_from (round.edges ++ xs) in
    record {
      last = f;
      edges = round.edges ++ xs;
      path = path_on E e f f xs round.edges first round.path;
      i = 0;
      j = suc k;
      apart = omega arith;
      within = omega (arith, long, count, round.count);
      same = sym (begins_there E f f k xs round.edges round.path round.count);
    }

pub cycle_recursive : (E : Edge → Type 0) (e : ℕ) (members : List ℕ) → IsCycle E e members → IsRecursive E e
cycle_recursive E e [] cycle = absurd cycle
cycle_recursive E e (f ∷ fs) cycle =
    round_recursive E e f (length fs) cycle.1.0 cycle.1.1 (chain_path E f (fs ++ f ∷ []) (suc (length fs)) f cycle.0 (get_more_last fs f (length fs) refl))
