-- Depths that are handed along the ways from one node.
use Rattle.std.proofs.Common.{◌≡◌, ℕ, ◌+◌, ◌<◌, ◌≤◌, ◌⊎◌, inl, inr, List, length, get_or, Option, Some, sym, ap, ◌∙◌, subst, arith, ℤ}
use Rattle.std.specs.Prelude.{slice_get}
use Rattle.std.specs.List.{Contains}
use Rattle.std.proofs.lemmas.Bool.{cases_lt}
use Rattle.std.proofs.lemmas.Option.{slice_get-get_or}
use Rattle.spu_lift.specs.WellFormed.{IsWellFormed}
use Rattle.spu_word.proofs.Places.{get_past, get_within}
use Rattle.spu_lift.specs.declared.program.Operand.TheVariants as operand
use Rattle.spu_lift.specs.declared.program.SymInst.{SymInst}
use Rattle.spu_lift.specs.declared.program.Prog.{Prog}
use Rattle.spu_lift.specs.Places.{instruction_at, taken_places}
use Rattle.spu_frame.specs.declared.met.Met.{Met}
use Rattle.spu_frame.specs.Walks.{GoesOn, Branches}
use Rattle.spu_frame.specs.Functions.{code_of}
use Rattle.spu_frame.specs.Walks.{IsPointerBranch}
use Rattle.spu_frame.specs.Surveys.{met_at, met_behind, amount_in, behind_node, Hands, PointsAt, IsWay}
use Rattle.spu_frame.proofs.Walks.{same_instruction}
use Rattle.spu_frame.proofs.Formed.{place_within, taken_within, contains_at, contains_place}
use Rattle.spu_frame.proofs.Handing.{no_hands, hands_then, hands_to}

-- to no node
pub hands_nowhere : (To : ℕ → Type 0) (given : Met) (met : List Met) (waiting : List ℕ) → ((k : ℕ) → To k → ⊥) → Hands To given met waiting met waiting
hands_nowhere To given met waiting none = hands_to (λ k. ⊥) To given met met waiting waiting (λ k h. absurd h) none (no_hands given met waiting)

-- to one node
pub hands_one : (To : ℕ → Type 0) (j : ℕ) (given : Met) (met new_met : List Met) (waiting new_waiting : List ℕ) → To j → ((k : ℕ) → To k → k ≡ j) → Hands (λ k. k ≡ j) given met waiting new_met new_waiting → Hands To given met waiting new_met new_waiting
hands_one To j given met new_met waiting new_waiting there only h = hands_to (λ k. k ≡ j) To given met new_met waiting new_waiting (λ k e. subst To (sym e) there) only h

-- ---- to the next place, to a target, to the node behind the places

module _ (p : Prog) (f i : ℕ) where
  pub next_one : (k : ℕ) → GoesOn p f i k → k ≡ i + 1
  next_one k g = g.next

  pub next_none : (GoesOn p f i (i + 1) → ⊥) → (k : ℕ) → GoesOn p f i k → ⊥
  next_none none k g = none (subst (GoesOn p f i) g.next g)

  pub target_one : (x : SymInst) (j : ℕ) → instruction_at p f i ≡ Some x → x.operand ≡ operand.Branch j → (k : ℕ) → Branches p f i k → k ≡ j
  target_one x j here to k b =
      let same = same_instruction _ _ _ b.here here in
      let both : operand.Branch k ≡ operand.Branch j = sym b.to ∙ ap (λ (y : SymInst). y.operand) same ∙ to in
      cc

  pub target_none : (x : SymInst) → instruction_at p f i ≡ Some x → ((j : ℕ) → x.operand ≡ operand.Branch j → ⊥) → (k : ℕ) → Branches p f i k → ⊥
  target_none x here none k b = none k (sym (ap (λ (y : SymInst). y.operand) (same_instruction _ _ _ b.here here)) ∙ b.to)

  pub pointer_one : (k : ℕ) → PointsAt p f i k → k ≡ length (code_of p f)
  pointer_one k q = q.last

  pub pointer_none : (x : SymInst) → instruction_at p f i ≡ Some x → (IsPointerBranch x → ⊥) → (k : ℕ) → PointsAt p f i k → ⊥
  pointer_none x here none k q = none (subst IsPointerBranch (same_instruction _ _ _ q.here here) q.branch)

-- ---- to all that a place leads to, and to the taken places

pub hands_on : (p : Prog) (f i : ℕ) (given : Met) (met met1 met2 met3 : List Met) (waiting waiting1 waiting2 waiting3 : List ℕ) → i < length (code_of p f)
    → Hands (GoesOn p f i) given met waiting met1 waiting1 → Hands (Branches p f i) given met1 waiting1 met2 waiting2 → Hands (PointsAt p f i) given met2 waiting2 met3 waiting3 → Hands (IsWay p f i) given met waiting met3 waiting3
hands_on p f i given met met1 met2 met3 waiting waiting1 waiting2 waiting3 lt a b c =
    hands_to (λ k. (GoesOn p f i k ⊎ Branches p f i k) ⊎ PointsAt p f i k) (IsWay p f i) given met met3 waiting waiting3 there back
    (hands_then (λ k. GoesOn p f i k ⊎ Branches p f i k) (PointsAt p f i) given met met2 met3 waiting waiting2 waiting3 (hands_then (GoesOn p f i) (Branches p f i) given met met1 met2 waiting waiting1 waiting2 a b) c)
  where
    there : (k : ℕ) → (GoesOn p f i k ⊎ Branches p f i k) ⊎ PointsAt p f i k → IsWay p f i k
    there k (inl h) = inl h
    there k (inr h) = inr (inl h)

    back : (k : ℕ) → IsWay p f i k → (GoesOn p f i k ⊎ Branches p f i k) ⊎ PointsAt p f i k
    back k (inl h) = inl h
    back k (inr (inl h)) = inr h
    back k (inr (inr (e, t))) = absurd (omega (arith, lt, e))

pub hands_taken : (p : Prog) (f i : ℕ) (known : List (Option ℤ)) (met met1 : List Met) (waiting waiting1 : List ℕ) → i ≡ length (code_of p f) → length known ≡ length (code_of p f)
    → Hands (Contains (taken_places p f)) (met_at met i) met waiting met1 waiting1 → Hands (IsWay p f i) (behind_node known met i) met waiting met1 waiting1
hands_taken p f i known met met1 waiting waiting1 e count h =
    subst (λ (m : Met). Hands (IsWay p f i) m met waiting met1 waiting1) (sym given)
    (hands_to (Contains (taken_places p f)) (IsWay p f i) (met_at met i) met met1 waiting waiting1 (λ k t. inr (inr (e, t))) back h)
  where
    given : behind_node known met i ≡ met_at met i
    given = ap (λ o. met_behind (met_at met i) (amount_in o)) (get_past known i (omega (arith, e, count)))

    outside : (x : SymInst) → instruction_at p f i ≡ Some x → ⊥
    outside x here = let lt = place_within p f i x here in omega (arith, lt, e)

    back : (k : ℕ) → IsWay p f i k → Contains (taken_places p f) k
    back k (inl (inl g)) = absurd (outside g.x g.here)
    back k (inl (inr b)) = absurd (outside b.x b.here)
    back k (inr (inl q)) = absurd (outside q.x q.here)
    back k (inr (inr (e, t))) = t

-- the first n of a list
pub record IsAmong (xs : List ℕ) (n k : ℕ) : Type 0 where
  pub at : ℕ
  pub below : at < n
  pub is : slice_get xs at ≡ Some k

pub among_none : (xs : List ℕ) (k : ℕ) → IsAmong xs 0 k → ⊥
among_none xs k a = let lt = a.below in omega (arith, lt)

pub among_more : (xs : List ℕ) (n j : ℕ) (given : Met) (met met1 met2 : List Met) (waiting waiting1 waiting2 : List ℕ) → slice_get xs n ≡ Some j
    → Hands (IsAmong xs n) given met waiting met1 waiting1 → Hands (λ k. k ≡ j) given met1 waiting1 met2 waiting2 → Hands (IsAmong xs (n + 1)) given met waiting met2 waiting2
among_more xs n j given met met1 met2 waiting waiting1 waiting2 at a b =
    hands_to (λ k. IsAmong xs n k ⊎ (k ≡ j)) (IsAmong xs (n + 1)) given met met2 waiting waiting2 there back (hands_then (IsAmong xs n) (λ k. k ≡ j) given met met1 met2 waiting waiting1 waiting2 a b)
  where
    there : (k : ℕ) → IsAmong xs n k ⊎ (k ≡ j) → IsAmong xs (n + 1) k
    there k (inl h) = record { at = h.at; below = (let lt = h.below in omega (arith, lt)); is = h.is }
    there k (inr e) = record { at = n; below = omega arith; is = at ∙ ap Some (sym e) }

    back : (k : ℕ) → IsAmong xs (n + 1) k → IsAmong xs n k ⊎ (k ≡ j)
    back k h = by_place (cases_lt h.at n)
      where
        by_place : (h.at < n) ⊎ (n ≤ h.at) → IsAmong xs n k ⊎ (k ≡ j)
        by_place (inl lt) = inl (record { at = h.at; below = lt; is = h.is })
        by_place (inr le) =
            let below = h.below in
            let e : h.at ≡ n = omega (arith, le, below) in
            let there = sym (ap (slice_get xs) e) ∙ h.is in
            inr (cc)

pub among_all : (xs : List ℕ) (n : ℕ) (given : Met) (met new_met : List Met) (waiting new_waiting : List ℕ) → length xs ≤ n → Hands (IsAmong xs n) given met waiting new_met new_waiting → Hands (Contains xs) given met waiting new_met new_waiting
among_all xs n given met new_met waiting new_waiting all h =
    hands_to (IsAmong xs n) (Contains xs) given met new_met waiting new_waiting (λ k a. contains_at xs a.at k a.is)
    (λ k c. (let at = contains_place xs k c in let lt = get_within xs at.0 k at.1 in record { at = at.0; below = omega (arith, lt, all); is = at.1 })) h

-- a taken place, read from the list
pub taken_at : (p : Prog) (f : ℕ) (taken : List ℕ) (i d : ℕ) → taken ≡ taken_places p f → i < length taken → slice_get (taken_places p f) i ≡ Some (get_or taken i d)
taken_at p f taken i d e lt = ap (λ (xs : List ℕ). slice_get xs i) (sym e) ∙ slice_get-get_or taken i d lt

pub taken_in : (p : Prog) → IsWellFormed p → (f : ℕ) (taken : List ℕ) (i d : ℕ) → taken ≡ taken_places p f → i < length taken → get_or taken i d < length (code_of p f)
taken_in p formed f taken i d e lt = taken_within p formed f (get_or taken i d) (contains_at (taken_places p f) i (get_or taken i d) (taken_at p f taken i d e lt))
