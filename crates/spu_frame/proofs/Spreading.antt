-- Depths spread along ways, from the first place on, until each of them has been handed on.
use Rattle.std.proofs.Common.{◌≡◌, ℕ, zero, suc, ◌+◌, ◌*◌, ◌^◌, ◌<◌, ◌≤◌, ◌⊎◌, inl, inr, Bool, true, false, List, [], ◌∷◌, length, Option, Some, None, replicate, refl, sym, ap, ◌∙◌, subst, arith, ℤ, pos}
use Rattle.std.specs.Prelude.{slice_get, ◌+ℤ◌, ◌-ℤ◌}
use Rattle.std.proofs.lemmas.Int.{ints}
use Rattle.spu_word.specs.Lists.{stands_on, without}
use Rattle.spu_word.proofs.Places.{nat_equal, get_some, get_within, stands_without}
use Rattle.spu_lift.specs.declared.program.SymInst.{SymInst}
use Rattle.spu_lift.specs.declared.program.Prog.{Prog}
use Rattle.spu_lift.specs.Places.{instruction_at}
use Rattle.spu_lift.specs.WellFormed.{IsWellFormed}
use Rattle.spu_frame.specs.declared.met.Met.{Met}
use Rattle.spu_frame.specs.declared.met.Met.TheVariants.{Never, Once, Twice}
use Rattle.spu_frame.specs.Walks.{Follows, Adds, IsWalk, IsDepth, Reaches}
use Rattle.spu_frame.specs.Functions.{code_of}
use Rattle.spu_frame.specs.Walks.{IsPointerBranch}
use Rattle.spu_frame.specs.Surveys.{AreKnown, met_at, Keeps, IsTwice, Covers, met_behind, amount_in, behind_node, room, Hands, IsWay, IsPointed, Comes, farthest, IsWithin, IsSpread, AreMet}
use Rattle.spu_frame.proofs.Walks.{reaches_next, reaches_start, adds_none}
use Rattle.spu_frame.proofs.Additions.{adds_one}
use Rattle.spu_frame.proofs.Formed.{place_within, place_at, branch_within, taken_within, code_some, code_small, known_small}

-- ---- depths behind an instruction

abbrev pub behind_of : Option ℤ → ℤ → ℤ
behind_of None m = m
behind_of (Some a) m = m -ℤ a

pub behind_keeps : (mt : Met) (o : Option ℤ) (m : ℤ) → Keeps mt m → Keeps (met_behind mt o) (behind_of o m)
behind_keeps mt None m keeps = keeps
behind_keeps Never (Some a) m keeps = keeps
behind_keeps (Once d) (Some a) m keeps = ap (λ z. z -ℤ a) keeps
behind_keeps (Twice d e) (Some a) m (inl is) = inl (ap (λ z. z -ℤ a) is)
behind_keeps (Twice d e) (Some a) m (inr is) = inr (ap (λ z. z -ℤ a) is)

pub keeps_behind : (mt : Met) (o : Option ℤ) (n : ℤ) → Keeps (met_behind mt o) n → (m : ℤ) × Keeps mt m × (behind_of o m ≡ n)
keeps_behind mt None n keeps = (n, keeps, refl)
keeps_behind Never (Some a) n keeps = absurd keeps
keeps_behind (Once d) (Some a) n keeps = (d, refl, keeps)
keeps_behind (Twice d e) (Some a) n (inl is) = (d, inl refl, is)
keeps_behind (Twice d e) (Some a) n (inr is) = (e, inr refl, is)

within_more : (n : ℤ) (a b : ℕ) → IsWithin n a → a ≤ b → IsWithin n b
within_more n a b (low, high) le = (omega (arith, ints, low, le), omega (arith, ints, high, le))

within_less : (m k n : ℤ) (a b c : ℕ) → IsWithin m a → IsWithin k b → m -ℤ k ≡ n → a + b ≤ c → IsWithin n c
within_less m k n a b c (low, high) (lower, higher) e le = (omega (arith, ints, low, high, lower, higher, e, le), omega (arith, ints, low, high, lower, higher, e, le))

room_most : (met : List Met) → room met ≤ 2 * length met
room_most [] = omega arith
room_most (Never ∷ ms) = let r = room_most ms in omega (arith, r)
room_most (Once d ∷ ms) = let r = room_most ms in omega (arith, r)
room_most (Twice d e ∷ ms) = let r = room_most ms in omega (arith, r)

never_all : (n k : ℕ) → met_at (replicate n Never) k ≡ Never
never_all zero zero = refl
never_all zero (suc k) = refl
never_all (suc n) zero = refl
never_all (suc n) (suc k) = never_all n k

count_never : (n : ℕ) → length (replicate n Never) ≡ n
count_never zero = refl
count_never (suc n) = let e = count_never n in omega (arith, e)

no_place : {X : Type 0} (xs : List X) (x : X) (i : ℕ) → i ≡ length xs → slice_get xs i ≡ Some x → ⊥
no_place xs x i e at = let lt = get_within xs i x at in omega (arith, lt, e)

module _ (p : Prog) (formed : IsWellFormed p) (f : ℕ) (inside : f < length p.functions) (known : List (Option ℤ)) (are : AreKnown p f known) where
  abbrev amount : ℕ → Option ℤ
  amount i = amount_in (slice_get known i)

  known_cases : (i : ℕ) → i < length (code_of p f) → (o : Option ℤ) × (slice_get known i ≡ Some o)
  known_cases i lt = let count = are.count in get_some known i (omega (arith, lt, count))

  amount_small : (i : ℕ) (k : ℤ) → amount i ≡ Some k → IsWithin k (2 ^ 15)
  amount_small i k e = by_known (slice_get known i) refl e
    where
      by_known : (o : Option (Option ℤ)) → slice_get known i ≡ o → amount_in o ≡ Some k → IsWithin k (2 ^ 15)
      by_known None at e = absurd (cc)
      by_known (Some o) at e = known_small p formed f i k (are.some i k (at ∙ ap Some e))

  -- what an instruction adds is what is known of it
  pub adds_known : (i : ℕ) → i < length (code_of p f) → (c : ℤ) × Adds p f i c × ((m : ℤ) → behind_of (amount i) m ≡ m +ℤ c)
  adds_known i lt = by_known (known_cases i lt).0 (known_cases i lt).1
    where
      by_known : (o : Option ℤ) → slice_get known i ≡ Some o → (c : ℤ) × Adds p f i c × ((m : ℤ) → behind_of (amount i) m ≡ m +ℤ c)
      by_known (Some a) at = (pos 0 -ℤ a, inl (a, are.some i a at, refl), λ m. ap (λ o. behind_of (amount_in o) m) at ∙ omega (arith, ints))
      by_known None at = (pos 0, inr ((λ k w. are.none i k at w), refl), λ m. ap (λ o. behind_of (amount_in o) m) at ∙ omega (arith, ints))

  pub behind_adds : (i : ℕ) (c m : ℤ) → i < length (code_of p f) → Adds p f i c → behind_of (amount i) m ≡ m +ℤ c
  behind_adds i c m lt adds = let known = adds_known i lt in known.2 m ∙ ap (λ z. m +ℤ z) (adds_one p f i known.0 c known.1 adds)

  -- an indirect branch adds nothing
  pointer_adds : (i : ℕ) (x : SymInst) → instruction_at p f i ≡ Some x → IsPointerBranch x → Adds p f i (pos 0)
  pointer_adds i x here branch = adds_none p f i x here (λ e. (let k = branch.0 in cc))

  pointer_behind : (i : ℕ) (x : SymInst) (m : ℤ) → instruction_at p f i ≡ Some x → IsPointerBranch x → behind_of (amount i) m ≡ m
  pointer_behind i x m here branch = behind_adds i (pos 0) m (place_within p f i x here) (pointer_adds i x here branch) ∙ omega (arith, ints)

  last_behind : (i : ℕ) (m : ℤ) → i ≡ length (code_of p f) → behind_of (amount i) m ≡ m
  last_behind i m e = by_known (slice_get known i) refl
    where
      by_known : (o : Option (Option ℤ)) → slice_get known i ≡ o → behind_of (amount_in o) m ≡ m
      by_known None at = refl
      by_known (Some o) at = absurd (no_place known o i (let count = are.count in omega (arith, e, count)) at)

  -- ---- what comes goes on

  come_place : (i : ℕ) (m : ℤ) (x : SymInst) → instruction_at p f i ≡ Some x → Comes p f i m → Reaches p f i m
  come_place i m x here (inl r) = r
  come_place i m x here (inr (e, pointed)) = let lt = place_within p f i x here in absurd (omega (arith, lt, e))

  come_last : (i : ℕ) (m : ℤ) → i ≡ length (code_of p f) → Comes p f i m → IsPointed p f m
  come_last i m e (inl r) = let lt = place_within p f i r.here.0 r.here.1 in absurd (omega (arith, lt, e))
  come_last i m e (inr h) = h.1

  come_next : (i j : ℕ) (m : ℤ) (x : SymInst) → instruction_at p f i ≡ Some x → Follows p f i j → j < length (code_of p f) → Comes p f i m → Comes p f j (behind_of (amount i) m)
  come_next i j m x here follows lt comes =
      let adds = adds_known i (place_within p f i x here) in
      inl (subst (Reaches p f j) (sym (adds.2 m)) (reaches_next p f i j m adds.0 (come_place i m x here comes) follows adds.1 (place_at p f j lt)))

  come_on : (i j : ℕ) (m : ℤ) → IsWay p f i j → Comes p f i m → Comes p f j (behind_of (amount i) m)
  come_on i j m (inl (inl g)) comes = come_next i j m g.x g.here (inl g) (place_within p f j g.y g.there) comes
  come_on i j m (inl (inr b)) comes = come_next i j m b.x b.here (inr (inl b)) (branch_within p formed f i j b.x b.here b.to) comes
  come_on i j m (inr (inl q)) comes =
      subst (Comes p f j) (sym (pointer_behind i q.x m q.here q.branch)) (inr (q.last, record { at = i; reached = come_place i m q.x q.here comes; x = q.x; here = q.here; branch = q.branch }))
  come_on i j m (inr (inr (e, taken))) comes =
      let q = come_last i m e comes in
      let points : Follows p f q.at j = inr (inr (record { x = q.x; here = q.here; branch = q.branch; taken = taken })) in
      let place = place_at p f j (taken_within p formed f j taken) in
      let same : m +ℤ pos 0 ≡ m = omega (arith, ints) in
      subst (Comes p f j) (same ∙ sym (last_behind i m e)) (inl (reaches_next p f q.at j m (pos 0) q.reached points (pointer_adds q.at q.x q.here q.branch) place))

  -- ---- the spread

  never_behind : (i : ℕ) (met : List Met) (n : ℤ) → met_at met i ≡ Never → Keeps (behind_node known met i) n → ⊥
  never_behind i met n e keeps = let before = keeps_behind (met_at met i) (amount i) n keeps in subst (λ (m : Met). Keeps m before.0) e before.1

  pub spread_starts : (nodes : ℕ) (met : List Met) (waiting : List ℕ) → nodes ≡ suc (length (code_of p f)) → Hands (λ k. k ≡ 0) (Once (pos 0)) (replicate nodes Never) [] met waiting → IsSpread p f known met waiting
  spread_starts nodes met waiting e h = record {
    count = h.count ∙ count_never nodes ∙ e;
    come = λ i n keeps. by_source i n (h.source i n keeps);
    begins = h.there 0 (pos 0) refl refl;
    closed = λ i j n off way keeps. absurd (never_behind i met n ((h.still i off).1 ∙ never_all nodes i) keeps);
    apart = λ i d e two. by_apart i d e (h.apart i d e two);
    small = λ i n keeps. by_small i n (h.source i n keeps);
  }
    where
      first : Reaches p f 0 (pos 0)
      first = reaches_start p f (place_at p f 0 (let some = code_some p formed f inside in omega (arith, some)))

      by_source : (i : ℕ) (n : ℤ) → Keeps (met_at (replicate nodes Never) i) n ⊎ ((i ≡ 0) × (pos 0 ≡ n) × (room met < room (replicate nodes Never))) → Comes p f i n
      by_source i n (inl old) = absurd (subst (λ (m : Met). Keeps m n) (never_all nodes i) old)
      by_source i n (inr (is, depth, lt)) = inl (subst (λ v. Reaches p f v n) (sym is) (subst (Reaches p f 0) depth first))

      by_apart : (i : ℕ) (d e : ℤ) → (met_at (replicate nodes Never) i ≡ Twice d e) ⊎ (d ≡ e → ⊥) → d ≡ e → ⊥
      by_apart i d e (inl old) same = let none = never_all nodes i in cc
      by_apart i d e (inr ne) same = ne same

      by_small : (i : ℕ) (n : ℤ) → Keeps (met_at (replicate nodes Never) i) n ⊎ ((i ≡ 0) × (pos 0 ≡ n) × (room met < room (replicate nodes Never))) → IsWithin n (farthest met)
      by_small i n (inl old) = absurd (subst (λ (m : Met). Keeps m n) (never_all nodes i) old)
      by_small i n (inr (is, depth, lt)) = subst (λ (z : ℤ). IsWithin z (farthest met)) depth (zero_within (farthest met))
        where
          zero_within : (a : ℕ) → IsWithin (pos 0) a
          zero_within a = (omega (arith, ints), omega (arith, ints))

  -- a node is taken off the list, and hands on what it has
  module _ (met met2 : List Met) (waiting waiting2 : List ℕ) (s : ℕ) (spread : IsSpread p f known met waiting) (h : Hands (IsWay p f s) (behind_node known met s) met (without s waiting) met2 waiting2) where
    waited : (i : ℕ) → (i ≡ s → ⊥) → stands_on (without s waiting) i ≡ false → stands_on waiting i ≡ false
    waited i ne off = by_stand (stands_on waiting i) refl
      where
        by_stand : (b : Bool) → stands_on waiting i ≡ b → stands_on waiting i ≡ false
        by_stand false e = e
        by_stand true e = let on = stands_without waiting s i ne e in absurd (cc)

    behind_still : (i : ℕ) → met_at met2 i ≡ met_at met i → behind_node known met2 i ≡ behind_node known met i
    behind_still i e = ap (λ (m : Met). met_behind m (amount i)) e

    closed_by : (i j : ℕ) (n : ℤ) → (i ≡ s) ⊎ (i ≡ s → ⊥) → (stands_on (without s waiting) i ≡ false) × (met_at met2 i ≡ met_at met i) → IsWay p f i j → Keeps (behind_node known met2 i) n → Covers (met_at met2 j) n
    closed_by i j n (inl e) still way keeps =
        let same : Keeps (behind_node known met i) n = subst (λ (m : Met). Keeps m n) (behind_still i still.1) keeps in
        h.there j n (subst (λ v. IsWay p f v j) e way) (subst (λ v. Keeps (behind_node known met v) n) e same)
    closed_by i j n (inr ne) still way keeps =
        h.covers j n (spread.closed i j n (waited i ne still.0) way (subst (λ (m : Met). Keeps m n) (behind_still i still.1) keeps))

    come_by : (i : ℕ) (n : ℤ) → Keeps (met_at met i) n ⊎ (IsWay p f s i × Keeps (behind_node known met s) n × (room met2 < room met)) → Comes p f i n
    come_by i n (inl old) = spread.come i n old
    come_by i n (inr (way, keeps, lt)) =
        let before = keeps_behind (met_at met s) (amount s) n keeps in
        subst (Comes p f i) before.2 (come_on s i before.0 way (spread.come s before.0 before.1))

    apart_by : (i : ℕ) (d e : ℤ) → (met_at met i ≡ Twice d e) ⊎ (d ≡ e → ⊥) → d ≡ e → ⊥
    apart_by i d e (inl old) same = spread.apart i d e old same
    apart_by i d e (inr ne) same = ne same

    farther : farthest met ≤ farthest met2
    farther = let c = h.count in let r = h.fewer in omega (arith, c, r)

    farther_by : room met2 < room met → farthest met + 2 ^ 15 ≤ farthest met2
    farther_by lt = let c = h.count in let most = room_most met in omega (arith, c, lt, most)

    small_behind : (o : Option ℤ) (m n : ℤ) → amount s ≡ o → behind_of o m ≡ n → IsWithin m (farthest met) → room met2 < room met → IsWithin n (farthest met2)
    small_behind None m n at e w lt = subst (λ (z : ℤ). IsWithin z (farthest met2)) e (within_more m (farthest met) (farthest met2) w farther)
    small_behind (Some a) m n at e w lt = within_less m a n (farthest met) (2 ^ 15) (farthest met2) w (amount_small s a at) e (farther_by lt)

    small_by : (i : ℕ) (n : ℤ) → Keeps (met_at met i) n ⊎ (IsWay p f s i × Keeps (behind_node known met s) n × (room met2 < room met)) → IsWithin n (farthest met2)
    small_by i n (inl old) = within_more n (farthest met) (farthest met2) (spread.small i n old) farther
    small_by i n (inr (way, keeps, lt)) =
        let before = keeps_behind (met_at met s) (amount s) n keeps in
        small_behind (amount s) before.0 n refl before.2 (spread.small s before.0 before.1) lt

    pub spread_goes : IsSpread p f known met2 waiting2
    spread_goes = record {
      count = h.count ∙ spread.count;
      come = λ i n keeps. come_by i n (h.source i n keeps);
      begins = h.covers 0 (pos 0) spread.begins;
      closed = λ i j n off way keeps. closed_by i j n (nat_equal i s) (h.still i off) way keeps;
      apart = λ i d e two. apart_by i d e (h.apart i d e two);
      small = λ i n keeps. small_by i n (h.source i n keeps);
    }

  -- ---- its end

  pub spread_small : (met : List Met) (waiting : List ℕ) → IsSpread p f known met waiting → (i : ℕ) (n : ℤ) → Keeps (met_at met i) n → IsWithin n (2 ^ 40)
  spread_small met waiting spread i n keeps =
      within_more n (farthest met) (2 ^ 40) (spread.small i n keeps) (let c = spread.count in let small = code_small p formed f inside in omega (arith, c, small))

  module _ (met : List Met) (spread : IsSpread p f known met []) where
    -- what covers a node covers those that it leads to
    cover_on : (i j : ℕ) (m : ℤ) → IsWay p f i j → Covers (met_at met i) m → Covers (met_at met j) (behind_of (amount i) m)
    cover_on i j m way (inl keeps) = spread.closed i j (behind_of (amount i) m) refl way (behind_keeps (met_at met i) (amount i) m keeps)
    cover_on i j m way (inr two) = by_two (met_at met i) refl two
      where
        apart_behind : (o : Option ℤ) (d e : ℤ) → behind_of o d ≡ behind_of o e → d ≡ e
        apart_behind None d e is = is
        apart_behind (Some a) d e is = omega (arith, ints, is)

        both : (mt : Met) (d e n : ℤ) → (d ≡ e → ⊥) → Covers mt d → Covers mt e → Covers mt n
        both mt d e n ne (inr two) other = inr two
        both mt d e n ne (inl keeps) (inr two) = inr two
        both Never d e n ne (inl keeps) (inl other) = absurd keeps
        both (Once x) d e n ne (inl keeps) (inl other) = absurd (ne (sym keeps ∙ other))
        both (Twice x y) d e n ne (inl keeps) (inl other) = inr tt

        given : (d : ℤ) (mt : Met) → met_at met i ≡ mt → Keeps mt d → Covers (met_at met j) (behind_of (amount i) d)
        given d mt is keeps = spread.closed i j (behind_of (amount i) d) refl way (behind_keeps (met_at met i) (amount i) d (subst (λ (m : Met). Keeps m d) (sym is) keeps))

        by_two : (mt : Met) → met_at met i ≡ mt → IsTwice mt → Covers (met_at met j) (behind_of (amount i) m)
        by_two Never is two = absurd two
        by_two (Once d) is two = absurd two
        by_two (Twice d e) is two =
            both (met_at met j) (behind_of (amount i) d) (behind_of (amount i) e) (behind_of (amount i) m) (λ same. spread.apart i d e is (apart_behind (amount i) d e same)) (given d (Twice d e) is (inl refl)) (given e (Twice d e) is (inr refl))

    cover_next : (i j : ℕ) (m c n : ℤ) → Follows p f i j → Adds p f i c → n ≡ m +ℤ c → Covers (met_at met i) m → Covers (met_at met j) n
    cover_next i j m c n (inl g) adds e covers =
        subst (Covers (met_at met j)) (behind_adds i c m (place_within p f i g.x g.here) adds ∙ sym e) (cover_on i j m (inl (inl g)) covers)
    cover_next i j m c n (inr (inl b)) adds e covers =
        subst (Covers (met_at met j)) (behind_adds i c m (place_within p f i b.x b.here) adds ∙ sym e) (cover_on i j m (inl (inr b)) covers)
    cover_next i j m c n (inr (inr q)) adds e covers =
        let branch : IsPointerBranch q.x = q.branch in
        let last = length (code_of p f) in
        let same : behind_of (amount i) m ≡ n = behind_adds i c m (place_within p f i q.x q.here) adds ∙ sym e in
        let there : Covers (met_at met last) n = subst (Covers (met_at met last)) same (cover_on i last m (inr (inl (record { x = q.x; here = q.here; branch = branch; last = refl }))) covers) in
        subst (Covers (met_at met j)) (last_behind last n refl) (cover_on last j n (inr (inr (refl, q.taken))) there)

    covered : (left : List ℕ) (i : ℕ) (n : ℤ) → IsWalk p f i left → IsDepth p f left n → Covers (met_at met i) n
    unfolding IsWalk IsDepth
    covered [] i n walk depth = subst (Covers (met_at met i)) (sym depth) (subst (λ v. Covers (met_at met v) (pos 0)) (sym walk) spread.begins)
    covered (j ∷ js) i n (follows, walk) (m, dm, c, adds, e) = cover_next j i m c n follows adds e (covered js j m walk dm)

    pub spread_ends : AreMet p f met
    spread_ends = record {
      count = spread.count;
      come = λ i n lt keeps. (let x = place_at p f i lt in come_place i n x.0 x.1 (spread.come i n keeps));
      all = λ i n r. covered r.left i n r.walk r.depth;
      apart = spread.apart;
      small = spread_small met [] spread;
    }
