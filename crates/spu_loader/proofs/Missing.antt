-- A run of the loader loads a region exactly where its buffer holds another or none, and then once.
use Rattle.std.proofs.Common.{◌≡◌, ◌≢◌, ℕ, zero, suc, ◌+◌, ◌-◌, ◌*◌, ◌<◌, ◌≤◌, ◌^◌, List, get_or, refl, sym, ap, ap₂, ◌∙◌, arith, inl, inr, Bool, true, false, not}
use Rattle.std.specs.Prelude.{◌==◌, ◌&&◌, if◌then◌else◌}
use Rattle.std.proofs.lemmas.Bool.{cases_lt, cases_Bool, eqb-true, eqb-false, eq-eqb, ne_eqb}
use Rattle.std.proofs.lemmas.Bool.Decides.{nat_tests}
use Rattle.spu_word.specs.Bytes.{quad_of}
use Rattle.spu_ls.specs.Stores.{Store, load, fetch, bytes_from}
use Rattle.spu_ls.specs.Machine.{State, step, steps}
use Rattle.spu_ls.specs.Loads.{is_load, load_count}
use Rattle.spu_loader.specs.Code.{mapped_at}
use Rattle.spu_loader.specs.Overlays.{Overlay, buffer_of, slot_of, IsLaid}
use Rattle.spu_loader.specs.Entries.{KeepsSlots, Arrives, is_missed, LoadsAsMissed}
use Rattle.spu_loader.proofs.Stores.{fetch_agree}
use Rattle.spu_loader.proofs.Joining.{next_step}
use Rattle.spu_loader.proofs.Ready.{below_buffers, facts, region}
use Rattle.spu_loader.proofs.Counting.{kept_word, no_load, one_load, none_load, one_loads}

-- step k keeps the mapped quadwords
abbrev KeepsAt : Overlay → State → ℕ → Type 0
KeepsAt o s k = KeepsSlots o (steps k s) (step (steps k s))

byte_of : (m : Store) (a n i : ℕ) → i < n → get_or (bytes_from m a n) i 0 ≡ m (a + i)
byte_of m a zero i h = absurd (omega arith)
byte_of m a (suc n) zero h = let e : a ≡ a + 0 = omega arith in ap m e
byte_of m a (suc n) (suc i) h = byte_of m (a + 1) n i (omega arith) ∙ (let e : a + 1 + i ≡ a + suc i = omega arith in ap m e)

byte_loaded : (m : Store) (a i : ℕ) → i < 16 → get_or (load m a) i 0 ≡ m (a + i)
unfolding load
byte_loaded m a i h = byte_of m a 16 i h

-- word 0 of a quad
word_zero : (m : Store) (a r : ℕ) → r < 2 ^ 32 → load m a ≡ quad_of r 0 0 0 → fetch m a ≡ r
unfolding fetch
word_zero m a r small e =
    let e0 : a ≡ a + 0 = omega arith in
    let b0 = ap m e0 ∙ sym (byte_loaded m a 0 (omega arith)) ∙ ap (λ q. get_or q 0 0) e in
    let b1 = sym (byte_loaded m a 1 (omega arith)) ∙ ap (λ q. get_or q 1 0) e in
    let b2 = sym (byte_loaded m a 2 (omega arith)) ∙ ap (λ q. get_or q 2 0) e in
    let b3 = sym (byte_loaded m a 3 (omega arith)) ∙ ap (λ q. get_or q 3 0) e in
    omega (arith, b0, b1, b2, b3)

-- what two tests of equal numbers say
same_test : (q r w : ℕ) → ((r == q) && not (w == q)) ≡ ((q == r) && not (w == r))
same_test q r w = elim (cases_Bool (q == r)) [
  | inl e ↦ (let i : q ≡ r = eqb-true q r e in ap (λ n. (r == n) && not (w == n)) i ∙ ap (λ n. (n == r) && not (w == r)) (sym i))
  | inr e ↦ ap (λ b. b && not (w == q)) (ne_eqb r q (λ i. eqb-false q r e (sym i))) ∙ ap (λ b. b && not (w == r)) (sym e)
]

module _ (o : Overlay) (laid : IsLaid o) (s : State) where
  -- the mapped quadwords, from the first one on
  slot_at : ℕ → ℕ
  slot_at k = mapped_at o.loader 0 + 16 * k

  -- a state whose slots are kept has the same words there
  slot_kept : (t u : State) (k : ℕ) → k < o.loader.buffers → KeepsSlots o t u → fetch u.store (slot_at k) ≡ fetch t.store (slot_at k)
  unfolding slot_at
  slot_kept t u k few h = fetch_agree u.store t.store (slot_at k) (λ j lo hi. h j (grind (arith, nat_tests)))

  before : (n at : ℕ) → ((k : ℕ) → k < n → k ≢ at → KeepsAt o s k) → (j : ℕ) → j ≤ at → j ≤ n → KeepsSlots o s (steps j s)
  unfolding steps
  before n at h zero le few k e = refl
  before n at h (suc j) le few k e =
      let i : steps (suc j) s ≡ step (steps j s) = (let e1 : suc j ≡ j + 1 = omega arith in ap (λ i. steps i s) e1 ∙ sym (next_step j s)) in
      ap (λ (v : State). v.store k) i ∙ h j (omega arith) (λ e2. omega arith) k e ∙ before n at h j (omega arith) (omega arith) k e

  later : (n at : ℕ) → ((k : ℕ) → k < n → k ≢ at → KeepsAt o s k) → (j : ℕ) → at + 1 + j ≤ n → KeepsSlots o (steps (at + 1) s) (steps (at + 1 + j) s)
  later n at h zero few k e = let i : at + 1 + 0 ≡ at + 1 = omega arith in ap (λ i. (steps i s).store k) i
  later n at h (suc j) few k e =
      let i : steps (at + 1 + suc j) s ≡ step (steps (at + 1 + j) s) = (let e1 : at + 1 + suc j ≡ at + 1 + j + 1 = omega arith in ap (λ i. steps i s) e1 ∙ sym (next_step (at + 1 + j) s)) in
      ap (λ (v : State). v.store k) i ∙ h (at + 1 + j) (omega arith) (λ e2. omega arith) k e ∙ later n at h j (omega arith) k e

  -- the one step, and the end
  after_it : (n at : ℕ) → ((k : ℕ) → k < n → k ≢ at → KeepsAt o s k) → at < n → KeepsSlots o (step (steps at s)) (steps n s)
  after_it n at h lt k e =
      let i : at + 1 + (n - (at + 1)) ≡ n = omega arith in
      ap (λ i. (steps i s).store k) (sym i) ∙ later n at h (n - (at + 1)) (omega arith) k e ∙ ap (λ (v : State). v.store k) (sym (next_step at s))

  module _ (p r a : ℕ) (link : List ℕ) (named : r ≤ o.regions) (x : Arrives o p r a link s) where
    -- the words at the end
    end_own : 1 ≤ r → fetch (steps x.count s).store (slot_at (buffer_of o r)) ≡ r
    unfolding slot_at
    end_own some =
        let f4 = (facts o laid).below in
        let f6 = (facts o laid).fits in
        let e : slot_at (buffer_of o r) ≡ slot_of o r = omega arith in
        ap (fetch (steps x.count s).store) e ∙ word_zero (steps x.count s).store (slot_of o r) r (omega arith) (x.arrived.mapped some).quad

    end_other : (k : ℕ) → k < o.loader.buffers → k ≢ buffer_of o r → fetch (steps x.count s).store (slot_at k) ≡ fetch s.store (slot_at k)
    unfolding slot_at
    end_other k few ne =
        let f3 = (facts o laid).order in
        let f4 = (facts o laid).below in
        let g = (region o laid r).low in
        fetch_agree (steps x.count s).store s.store (slot_at k)
        (λ j lo hi. x.arrived.kept j (elim (cases_lt k (buffer_of o r)) [ inl l ↦ grind (arith, nat_tests) | inr l ↦ (let n : buffer_of o r < k = omega arith in grind (arith, nat_tests)) ]))

    end_root : (k : ℕ) → r ≡ 0 → fetch (steps x.count s).store (slot_at k) ≡ fetch s.store (slot_at k)
    end_root k e = ap (λ (m : Store). fetch m (slot_at k)) (x.arrived.root e)

    -- all steps but one load nothing
    quiet : (q j : ℕ) → j < x.count → j ≢ x.once.0 → is_load (mapped_at o.loader 0) o.loader.buffers q (steps j s) ≡ false
    unfolding slot_at
    quiet q j lt ne = no_load (mapped_at o.loader 0) o.loader.buffers q (steps j s) (λ k few. kept_word (slot_at k) q (steps j s) (slot_kept (steps j s) (step (steps j s)) k few (x.once.1 j lt ne)))

    -- before that one step, and after it
    first_word : (k : ℕ) → k < o.loader.buffers → x.once.0 < x.count → fetch (steps x.once.0 s).store (slot_at k) ≡ fetch s.store (slot_at k)
    first_word k few l = slot_kept s (steps x.once.0 s) k few (before x.count x.once.0 x.once.1 x.once.0 (omega arith) (omega arith))

    last_word : (k : ℕ) → k < o.loader.buffers → x.once.0 < x.count → fetch (step (steps x.once.0 s)).store (slot_at k) ≡ fetch (steps x.count s).store (slot_at k)
    last_word k few l = sym (slot_kept (step (steps x.once.0 s)) (steps x.count s) k few (after_it x.count x.once.0 x.once.1 l))

    none_missed : (q : ℕ) → 1 ≤ q → r ≡ 0 → is_missed o r q s ≡ false
    none_missed q some e = ap (λ b. b && not (fetch s.store (slot_of o r) == r)) (ne_eqb q r (λ i. omega arith))

    own_word : fetch s.store (slot_at (buffer_of o r)) ≡ fetch s.store (slot_of o r)
    unfolding slot_at
    own_word = let e : slot_at (buffer_of o r) ≡ slot_of o r = omega arith in ap (fetch s.store) e

    -- what it loads
    at_it : (q : ℕ) → 1 ≤ q → x.once.0 < x.count → is_load (mapped_at o.loader 0) o.loader.buffers q (steps x.once.0 s) ≡ is_missed o r q s
    unfolding slot_at
    at_it q positive l = elim (cases_lt r 1) [
      | inl none ↦
          no_load (mapped_at o.loader 0) o.loader.buffers q (steps x.once.0 s) (λ k few. kept_word (slot_at k) q (steps x.once.0 s) (last_word k few l ∙ end_root k (omega arith) ∙ sym (first_word k few l)))
          ∙ sym (none_missed q positive (omega arith))
      | inr some ↦
          let few = (below_buffers o.loader r laid.loader).0 in
          one_load (mapped_at o.loader 0) o.loader.buffers q (buffer_of o r) (steps x.once.0 s) few (λ k l2 ne. kept_word (slot_at k) q (steps x.once.0 s) (last_word k l2 l ∙ end_other k l2 ne ∙ sym (first_word k l2 l)))
          ∙ ap₂ (λ v w. (v == q) && not (w == q)) (last_word (buffer_of o r) few l ∙ end_own some) (first_word (buffer_of o r) few l ∙ own_word)
          ∙ same_test q r (fetch s.store (slot_of o r))
    ]

    -- where no step changes a mapped quadword, none is missed
    still : (q : ℕ) → 1 ≤ q → x.count ≤ x.once.0 → is_missed o r q s ≡ false
    still q positive m = elim (cases_lt r 1) [
      | inl none ↦ none_missed q positive (omega arith)
      | inr some ↦
          let few = (below_buffers o.loader r laid.loader).0 in
          let w : fetch s.store (slot_of o r) ≡ r = sym own_word ∙ sym (slot_kept s (steps x.count s) (buffer_of o r) few (before x.count x.once.0 x.once.1 x.count m (omega arith))) ∙ end_own some in
          ap (λ b. (q == r) && not b) (eq-eqb _ _ w) ∙ and_false (q == r)
    ]
      where
        and_false : (b : Bool) → (b && false) ≡ false
        and_false true = refl
        and_false false = refl

    counted : (q : ℕ) → 1 ≤ q → load_count (mapped_at o.loader 0) o.loader.buffers q x.count s ≡ (if is_missed o r q s then 1 else 0)
    counted q positive = elim (cases_lt x.once.0 x.count) [
      | inl l ↦ one_loads (mapped_at o.loader 0) o.loader.buffers q x.count x.once.0 s l (quiet q) ∙ ap (λ b. if b then 1 else 0) (at_it q positive l)
      | inr m ↦ none_load (mapped_at o.loader 0) o.loader.buffers q x.count s (λ j l. quiet q j l (λ e. omega arith)) ∙ ap (λ b. if b then 1 else 0) (sym (still q positive m))
    ]

pub loads_as_missed : LoadsAsMissed
loads_as_missed o p r a link s laid named x q positive = counted o laid s p r a link named x q positive
