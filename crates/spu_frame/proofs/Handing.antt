-- Depths that are handed to nodes.
use Rattle.std.proofs.Common.{◌≡◌, ℕ, zero, suc, ◌+◌, ◌<◌, ◌≤◌, ◌⊎◌, inl, inr, true, false, List, [], ◌∷◌, length, refl, sym, ap, ◌∙◌, subst, arith, ℤ}
use Rattle.std.specs.Prelude.{slice_set}
use Rattle.std.proofs.lemmas.List.{length-set}
use Rattle.spu_word.specs.Lists.{stands_on}
use Rattle.spu_word.proofs.Places.{nat_equal, get_set_same, get_set_other}
use Rattle.spu_frame.specs.declared.met.Met.{Met}
use Rattle.spu_frame.specs.declared.met.Met.TheVariants.{Never, Once, Twice}
use Rattle.spu_frame.specs.Surveys.{met_in, met_at, Keeps, Covers, room_of, room, Hands}

-- ---- one node with other depths

pub met_set_same : (met : List Met) (i : ℕ) (m : Met) → i < length met → met_at (slice_set met i m) i ≡ m
met_set_same met i m lt = ap met_in (get_set_same met i m lt)

pub met_set_other : (met : List Met) (i j : ℕ) (m : Met) → (j ≡ i → ⊥) → met_at (slice_set met i m) j ≡ met_at met j
met_set_other met i j m ne = ap met_in (get_set_other met i j m ne)

pub room_set : (met : List Met) (i : ℕ) (m : Met) → i < length met → room (slice_set met i m) + room_of (met_at met i) ≡ room met + room_of m
room_set [] i m lt = absurd (omega (arith, lt))
room_set (x ∷ xs) zero m lt = omega arith
room_set (x ∷ xs) (suc i) m lt = let e = room_set xs i m (omega (arith, lt)) in omega (arith, e)

-- ---- handing

pub no_hands : (given : Met) (met : List Met) (waiting : List ℕ) → Hands (λ k. ⊥) given met waiting met waiting
no_hands given met waiting = record {
  count = refl;
  there = λ k n to. absurd to;
  covers = λ k n c. c;
  source = λ k n c. inl c;
  still = λ k off. (off, refl);
  apart = λ k d e is. inl is;
  work = omega arith;
  fewer = omega arith;
}

pub hands_then : (A B : ℕ → Type 0) (given : Met) (met met1 met2 : List Met) (waiting waiting1 waiting2 : List ℕ) → Hands A given met waiting met1 waiting1 → Hands B given met1 waiting1 met2 waiting2
    → Hands (λ k. A k ⊎ B k) given met waiting met2 waiting2
hands_then A B given met met1 met2 waiting waiting1 waiting2 a b = record {
  count = b.count ∙ a.count;
  there = λ k n to keeps. elim to as (λ s. Covers (met_at met2 k) n) [ inl h ↦ b.covers k n (a.there k n h keeps) | inr h ↦ b.there k n h keeps ];
  covers = λ k n c. b.covers k n (a.covers k n c);
  source = λ k n c. elim (b.source k n c) as (λ s. Keeps (met_at met k) n ⊎ ((A k ⊎ B k) × Keeps given n × (room met2 < room met))) [
    | inl old ↦ elim (a.source k n old) as (λ s. Keeps (met_at met k) n ⊎ ((A k ⊎ B k) × Keeps given n × (room met2 < room met))) [
      | inl older ↦ inl older
      | inr new ↦ inr (inl new.0, new.1, (let lt = new.2 in let le = b.fewer in omega (arith, lt, le)))
    ]
    | inr new ↦ inr (inr new.0, new.1, (let lt = new.2 in let le = a.fewer in omega (arith, lt, le)))
  ];
  still = λ k off. (let last = b.still k off in let first = a.still k last.0 in (first.0, last.1 ∙ first.1));
  apart = λ k d e is. elim (b.apart k d e is) as (λ s. (met_at met k ≡ Twice d e) ⊎ (d ≡ e → ⊥)) [ inl old ↦ a.apart k d e old | inr ne ↦ inr ne ];
  work = (let x = a.work in let y = b.work in omega (arith, x, y));
  fewer = (let x = a.fewer in let y = b.fewer in omega (arith, x, y));
}

pub hands_to : (A B : ℕ → Type 0) (given : Met) (met new_met : List Met) (waiting new_waiting : List ℕ) → ((k : ℕ) → A k → B k) → ((k : ℕ) → B k → A k) → Hands A given met waiting new_met new_waiting → Hands B given met waiting new_met new_waiting
hands_to A B given met new_met waiting new_waiting to back h = record {
  count = h.count;
  there = λ k n b keeps. h.there k n (back k b) keeps;
  covers = λ k n c. h.covers k n c;
  source = λ k n c. elim (h.source k n c) as (λ s. Keeps (met_at met k) n ⊎ (B k × Keeps given n × (room new_met < room met))) [ inl old ↦ inl old | inr new ↦ inr (to k new.0, new.1, new.2) ];
  still = λ k off. h.still k off;
  apart = λ k d e is. h.apart k d e is;
  work = h.work;
  fewer = h.fewer;
}

-- ---- one depth

module _ (node : ℕ) (depth : ℤ) (met : List Met) (waiting : List ℕ) (lt : node < length met) where
  -- nothing changes where the node covers the depth
  pub covered : Covers (met_at met node) depth → Hands (λ k. k ≡ node) (Once depth) met waiting met waiting
  covered c = record {
    count = refl;
    there = λ k n to is. subst (λ (v : ℤ). Covers (met_at met k) v) is (subst (λ v. Covers (met_at met v) depth) (sym to) c);
    covers = λ k n h. h;
    source = λ k n h. inl h;
    still = λ k off. (off, refl);
    apart = λ k d e is. inl is;
    work = omega arith;
    fewer = omega arith;
  }

  -- the node takes the depth
  module _ (now : Met) (new_waiting : List ℕ) (takes : Covers now depth) (keeps : (n : ℤ) → Covers (met_at met node) n → Covers now n) (source : (n : ℤ) → Keeps now n → Keeps (met_at met node) n ⊎ (depth ≡ n))
      (twice : (d e : ℤ) → now ≡ Twice d e → d ≡ e → ⊥) (fuller : room_of now < room_of (met_at met node))
      (on : stands_on new_waiting node ≡ true) (stay : (k : ℕ) → stands_on new_waiting k ≡ false → stands_on waiting k ≡ false) (longer : length new_waiting ≤ length waiting + 1) where
    fewer : suc (room (slice_set met node now)) ≤ room met
    fewer = let e = room_set met node now lt in omega (arith, e, fuller)

    mine : (k : ℕ) → k ≡ node → met_at (slice_set met node now) k ≡ now
    mine k e = ap (met_at (slice_set met node now)) e ∙ met_set_same met node now lt

    others : (k : ℕ) → (k ≡ node → ⊥) → met_at (slice_set met node now) k ≡ met_at met k
    others k ne = met_set_other met node k now ne

    covers_by : (k : ℕ) (n : ℤ) → (k ≡ node) ⊎ (k ≡ node → ⊥) → Covers (met_at met k) n → Covers (met_at (slice_set met node now) k) n
    covers_by k n (inl e) c = subst (λ (m : Met). Covers m n) (sym (mine k e)) (keeps n (subst (λ v. Covers (met_at met v) n) e c))
    covers_by k n (inr ne) c = subst (λ (m : Met). Covers m n) (sym (others k ne)) c

    source_by : (k : ℕ) (n : ℤ) → (k ≡ node) ⊎ (k ≡ node → ⊥) → Keeps (met_at (slice_set met node now) k) n → Keeps (met_at met k) n ⊎ ((k ≡ node) × (depth ≡ n) × (room (slice_set met node now) < room met))
    source_by k n (inl e) c = elim (source n (subst (λ (m : Met). Keeps m n) (mine k e) c)) as (λ s. Keeps (met_at met k) n ⊎ ((k ≡ node) × (depth ≡ n) × (room (slice_set met node now) < room met))) [
      | inl old ↦ inl (subst (λ v. Keeps (met_at met v) n) (sym e) old)
      | inr new ↦ inr (e, new, (let f = fewer in omega (arith, f)))
    ]
    source_by k n (inr ne) c = inl (subst (λ (m : Met). Keeps m n) (others k ne) c)

    still_by : (k : ℕ) → (k ≡ node) ⊎ (k ≡ node → ⊥) → stands_on new_waiting k ≡ false → (stands_on waiting k ≡ false) × (met_at (slice_set met node now) k ≡ met_at met k)
    still_by k (inl e) off = let there = ap (stands_on new_waiting) e ∙ on in absurd (cc)
    still_by k (inr ne) off = (stay k off, others k ne)

    apart_by : (k : ℕ) (d e : ℤ) → (k ≡ node) ⊎ (k ≡ node → ⊥) → met_at (slice_set met node now) k ≡ Twice d e → (met_at met k ≡ Twice d e) ⊎ (d ≡ e → ⊥)
    apart_by k d e (inl is) two = inr (λ same. twice d e (sym (mine k is) ∙ two) same)
    apart_by k d e (inr ne) two = inl (sym (others k ne) ∙ two)

    pub taken : Hands (λ k. k ≡ node) (Once depth) met waiting (slice_set met node now) new_waiting
    taken = record {
      count = length-set met node now;
      there = λ k n to is. subst (λ (v : ℤ). Covers (met_at (slice_set met node now) k) v) is (subst (λ (m : Met). Covers m depth) (sym (mine k to)) takes);
      covers = λ k n c. covers_by k n (nat_equal k node) c;
      source = λ k n c. source_by k n (nat_equal k node) c;
      still = λ k off. still_by k (nat_equal k node) off;
      apart = λ k d e is. apart_by k d e (nat_equal k node) is;
      work = (let f = fewer in omega (arith, f, longer));
      fewer = (let f = fewer in omega (arith, f));
    }

  module _ (new_waiting : List ℕ) (on : stands_on new_waiting node ≡ true) (stay : (k : ℕ) → stands_on new_waiting k ≡ false → stands_on waiting k ≡ false) (longer : length new_waiting ≤ length waiting + 1) where
    none_covers : (m : Met) (n : ℤ) → m ≡ Never → Covers m n → ⊥
    none_covers m n e c = subst (λ (x : Met). Covers x n → ⊥) (sym e) none c
      where
        none : Covers Never n → ⊥
        none (inl h) = h
        none (inr h) = h

    -- it had none
    pub taken_first : met_at met node ≡ Never → Hands (λ k. k ≡ node) (Once depth) met waiting (slice_set met node (Once depth)) new_waiting
    taken_first e = taken (Once depth) new_waiting (inl refl) (λ n c. absurd (none_covers (met_at met node) n e c)) (λ n is. inr is) (λ d f two. absurd (cc)) (let r = ap room_of e in omega (arith, r)) on stay longer

    -- it had another one
    pub taken_second : (d : ℤ) → met_at met node ≡ Once d → (d ≡ depth → ⊥) → Hands (λ k. k ≡ node) (Once depth) met waiting (slice_set met node (Twice d depth)) new_waiting
    taken_second d e ne = taken (Twice d depth) new_waiting (inr tt) (λ n c. inr tt) source (λ a b two same. ne (let x : d ≡ a = cc in let y : depth ≡ b = cc in x ∙ same ∙ sym y)) (let r = ap room_of e in omega (arith, r)) on stay longer
      where
        source : (n : ℤ) → Keeps (Twice d depth) n → Keeps (met_at met node) n ⊎ (depth ≡ n)
        source n (inl is) = inl (subst (λ (x : Met). Keeps x n) (sym e) is)
        source n (inr is) = inr is

-- ---- several depths

pub hands_never : (To : ℕ → Type 0) (met : List Met) (waiting : List ℕ) → Hands To Never met waiting met waiting
hands_never To met waiting = record {
  count = refl;
  there = λ k n to keeps. absurd keeps;
  covers = λ k n c. c;
  source = λ k n c. inl c;
  still = λ k off. (off, refl);
  apart = λ k d e is. inl is;
  work = omega arith;
  fewer = omega arith;
}

pub hands_both : (To : ℕ → Type 0) (d e : ℤ) (met met1 met2 : List Met) (waiting waiting1 waiting2 : List ℕ) → Hands To (Once d) met waiting met1 waiting1 → Hands To (Once e) met1 waiting1 met2 waiting2
    → Hands To (Twice d e) met waiting met2 waiting2
hands_both To d e met met1 met2 waiting waiting1 waiting2 a b = record {
  count = b.count ∙ a.count;
  there = λ k n to keeps. elim keeps as (λ s. Covers (met_at met2 k) n) [ inl h ↦ b.covers k n (a.there k n to h) | inr h ↦ b.there k n to h ];
  covers = λ k n c. b.covers k n (a.covers k n c);
  source = λ k n c. elim (b.source k n c) as (λ s. Keeps (met_at met k) n ⊎ (To k × ((d ≡ n) ⊎ (e ≡ n)) × (room met2 < room met))) [
    | inl old ↦ elim (a.source k n old) as (λ s. Keeps (met_at met k) n ⊎ (To k × ((d ≡ n) ⊎ (e ≡ n)) × (room met2 < room met))) [
      | inl older ↦ inl older
      | inr new ↦ inr (new.0, inl new.1, (let lt = new.2 in let le = b.fewer in omega (arith, lt, le)))
    ]
    | inr new ↦ inr (new.0, inr new.1, (let lt = new.2 in let le = a.fewer in omega (arith, lt, le)))
  ];
  still = λ k off. (let last = b.still k off in let first = a.still k last.0 in (first.0, last.1 ∙ first.1));
  apart = λ k x y is. elim (b.apart k x y is) as (λ s. (met_at met k ≡ Twice x y) ⊎ (x ≡ y → ⊥)) [ inl old ↦ a.apart k x y old | inr ne ↦ inr ne ];
  work = (let x = a.work in let y = b.work in omega (arith, x, y));
  fewer = (let x = a.fewer in let y = b.fewer in omega (arith, x, y));
}
