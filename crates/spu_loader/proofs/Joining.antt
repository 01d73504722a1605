-- Pieces one after another, and the steps that change some bytes.
use Rattle.std.proofs.Common.{◌≡◌, ◌≢◌, ℕ, suc, ◌+◌, ◌-◌, ◌*◌, ◌<◌, ◌≤◌, List, [], ◌∷◌, ◌++◌, length, None, refl, sym, ap, ◌∙◌, subst, arith, inl, inr, Bool, true, false}
use Rattle.std.specs.Prelude.{◌==◌, ◌&&◌, ◌||◌, slice_get}
use Rattle.std.proofs.lemmas.Bool.{and_parts, or_from, ne_eqb, cases_lt}
use Rattle.spu_isa.specs.declared.instruction.Inst.{Inst}
use Rattle.spu_isa.specs.Decoding.{decoded}
use Rattle.spu_ls.specs.Stores.{Store, fetch}
use Rattle.spu_ls.specs.Machine.{State, step, steps}
use Rattle.spu_loader.specs.Forms.{HasCode}
use Rattle.spu_loader.proofs.Stores.{fetch_agree}
use Rattle.spu_loader.proofs.Blocks.{Stands, Leads, May, Only, In, steps_add}

abbrev pub one_of : List ℕ → ℕ → Bool
one_of [] r = false
one_of (x ∷ xs) r = (r == x) || one_of xs r

abbrev pub none : ℕ → Bool
none n = false

-- only some registers may change
abbrev pub only_regs : List ℕ → May
only_regs rs = record { regs = one_of rs; bytes = none; channels = none; update = false; queue = false; areas = false }

pub only_start : (m : May) (s : State) → s.ended ≡ None → Only m s s
only_start m s g = record { running = g; regs = λ r h. refl; store = λ k h. refl; channels = λ n h. refl; update = λ h. refl; queue = λ h. refl; areas = λ h. refl; image = refl; mail = refl; output = refl }

-- what is false in the larger set is false in the smaller one
abbrev pub Below : (ℕ → Bool) → (ℕ → Bool) → Type 0
Below small large = (k : ℕ) → large k ≡ false → small k ≡ false

pub record Less (small large : May) : Type 0 where
  pub regs : Below small.regs large.regs
  pub bytes : Below small.bytes large.bytes
  pub channels : Below small.channels large.channels
  pub update : large.update ≡ false → small.update ≡ false
  pub queue : large.queue ≡ false → small.queue ≡ false
  pub areas : large.areas ≡ false → small.areas ≡ false

abbrev pub all_in : List ℕ → List ℕ → Bool
all_in [] ys = true
all_in (x ∷ xs) ys = one_of ys x && all_in xs ys

apart : (ys : List ℕ) (x r : ℕ) → one_of ys x ≡ true → one_of ys r ≡ false → (r == x) ≡ false
apart ys x r h n = ne_eqb r x (λ e. (let c = sym (ap (one_of ys) e ∙ h) ∙ n in cc))

pub below_lists : (xs ys : List ℕ) → all_in xs ys ≡ true → Below (one_of xs) (one_of ys)
below_lists [] ys h k n = refl
below_lists (x ∷ xs) ys h k n = let p = and_parts (one_of ys x) (all_in xs ys) h in or_from (k == x) (one_of xs k) (apart ys x k p.0 n) (below_lists xs ys p.1 k n)

pub only_then : (small large : May) (s0 s t : State) → Less small large → Only large s0 s → Only small s t → Only large s0 t
only_then small large s0 s t l o p = record {
  running = p.running;
  regs = λ r h. p.regs r (l.regs r h) ∙ o.regs r h;
  store = λ k h. p.store k (l.bytes k h) ∙ o.store k h;
  channels = λ n h. p.channels n (l.channels n h) ∙ o.channels n h;
  update = λ h. p.update (l.update h) ∙ o.update h;
  queue = λ h. p.queue (l.queue h) ∙ o.queue h;
  areas = λ h. p.areas (l.areas h) ∙ o.areas h;
  image = p.image ∙ o.image;
  mail = p.mail ∙ o.mail;
  output = p.output ∙ o.output;
}

pub leads_map : {P Q : State → Type 0} {n : ℕ} {s u : State} → ((t : State) → P t → Q t) → Leads P n s u → Leads Q n s u
leads_map f l = record { along = λ k h. f _ (l.along k h); to = l.to }

-- a piece inside of a larger stretch of code
pub widen : (small large : May) (from to lo hi : ℕ) (s0 s u : State) (n : ℕ) → Less small large → Only large s0 s → from ≤ lo → hi ≤ to → Leads (In small lo hi s) n s u → Leads (In large from to s0) n s u
widen small large from to lo hi s0 s u n b o l h p = leads_map (λ t i. record { only = only_then small large s0 s t b o i.only; low = (let x = i.low in omega arith); high = (let x = i.high in omega arith) }) p

-- the code of a later piece, seen from its own place, in a later state
pub piece_at : (free : ℕ → Bool) (m n : Store) (from to b : ℕ) → ((k : ℕ) → free k ≡ false → m k ≡ n k) → ((k : ℕ) → from ≤ k → k < to → free k ≡ false) → (xs : List Inst) (k j : ℕ) → from ≤ b + (k + j) → b + (k + j) + 4 * length xs ≤ to → Stands xs n b (k + j) → Stands xs m (b + k) j
piece_at free m n from to b same fixed [] k j lo hi h = tt
piece_at free m n from to b same fixed (x ∷ xs) k j lo hi h =
    let e : b + k + j ≡ b + (k + j) = omega arith in
    let e4 : k + j + 4 ≡ k + (j + 4) = omega arith in (
      ap (λ a. decoded (fetch m a)) e ∙ ap decoded (fetch_agree m n (b + (k + j)) (λ i l u. same i (fixed i (omega arith) (omega arith)))) ∙ h.0,
      piece_at free m n from to b same fixed xs k (j + 4) (omega arith) (omega arith) (subst (Stands xs n b) e4 h.1),
    )

-- the rest of some code
pub stands_after : (xs ys : List Inst) (m : Store) (b k : ℕ) → Stands (xs ++ ys) m b k → Stands ys m b (k + 4 * length xs)
stands_after [] ys m b k h = (let e : k ≡ k + 4 * 0 = omega arith in subst (Stands ys m b) e h)
stands_after (x ∷ xs) ys m b k h = (let e : k + 4 + 4 * length xs ≡ k + 4 * length (x ∷ xs) = omega arith in subst (Stands ys m b) e (stands_after xs ys m b (k + 4) h.1))

pub stands_front : (xs ys : List Inst) (m : Store) (b k : ℕ) → Stands (xs ++ ys) m b k → Stands xs m b k
stands_front [] ys m b k h = tt
stands_front (x ∷ xs) ys m b k h = (h.0, stands_front xs ys m b (k + 4) h.1)

-- code that a store has stands there
pub stands_code : (xs : List Inst) (m : Store) (b k : ℕ) → ((n : ℕ) → n < length xs → decoded (fetch m (b + (k + 4 * n))) ≡ slice_get xs n) → Stands xs m b k
stands_code [] m b k h = tt
stands_code (x ∷ xs) m b k h = (
  (let e : b + k ≡ b + (k + 4 * 0) = omega arith in ap (λ p. decoded (fetch m p)) e ∙ h 0 (omega arith)),
  stands_code xs m b (k + 4) (λ n l. (let e : b + (k + 4 + 4 * n) ≡ b + (k + 4 * suc n) = omega arith in ap (λ p. decoded (fetch m p)) e ∙ h (suc n) (omega arith))),
)

pub stands_from : (xs : List Inst) (m : Store) (b : ℕ) → HasCode xs b m → Stands xs m b 0
stands_from xs m b h = stands_code xs m b 0 (λ n l. (let e : b + (0 + 4 * n) ≡ b + 4 * n = omega arith in ap (λ p. decoded (fetch m p)) e ∙ h n l))

-- ---- the steps that change some bytes

abbrev pub Keeps : (ℕ → Bool) → State → State → Type 0
Keeps q s t = (k : ℕ) → q k ≡ true → t.store k ≡ s.store k

-- none of n steps changes these bytes
abbrev pub Steady : (ℕ → Bool) → ℕ → State → Type 0
Steady q n s = (k : ℕ) → k < n → Keeps q (steps k s) (step (steps k s))

-- at most one of n steps does
abbrev pub Once : (ℕ → Bool) → ℕ → State → Type 0
Once q n s = (at : ℕ) × ((k : ℕ) → k < n → k ≢ at → Keeps q (steps k s) (step (steps k s)))

step_is : (s : State) → steps 1 s ≡ step s
unfolding steps
step_is s = refl

start_is : (s : State) → steps 0 s ≡ s
unfolding steps
start_is s = refl

pub next_step : (k : ℕ) (s : State) → step (steps k s) ≡ steps (k + 1) s
next_step k s = sym (steps_add k 1 s ∙ step_is (steps k s))

-- these bytes are no byte that may change
abbrev pub Apart : (ℕ → Bool) → May → Type 0
Apart q m = (k : ℕ) → q k ≡ true → m.bytes k ≡ false

pub steady_of : (q : ℕ → Bool) (m : May) (from to n : ℕ) (s0 s u : State) → Apart q m → Leads (In m from to s0) n s u → Only m s0 u → Steady q n s
steady_of q m from to n s0 s u a l o k h j e =
    let before : Only m s0 (steps k s) = (l.along k h).only in
    let next : Only m s0 (step (steps k s)) = elim (cases_lt (k + 1) n) [
      | inl low ↦ subst (Only m s0) (sym (next_step k s)) (l.along (k + 1) low).only
      | inr high ↦ (let e : n ≡ k + 1 = omega arith in subst (Only m s0) (sym (next_step k s ∙ ap (λ i. steps i s) (sym e) ∙ l.to)) o)
    ] in
    next.store j (a j e) ∙ sym (before.store j (a j e))

later_step : (n k : ℕ) (s t : State) → steps n s ≡ t → n ≤ k → steps k s ≡ steps (k - n) t
later_step n k s t e h = let i : k ≡ n + (k - n) = omega arith in ap (λ j. steps j s) i ∙ steps_add n (k - n) s ∙ ap (steps (k - n)) e

pub steady_once : (q : ℕ → Bool) (n : ℕ) (s : State) → Steady q n s → Once q n s
steady_once q n s h = (0, λ k l ne. h k l)

pub steady_then : (q : ℕ → Bool) (n j : ℕ) (s t : State) → Steady q n s → steps n s ≡ t → Steady q j t → Steady q (n + j) s
steady_then q n j s t h e g k l = elim (cases_lt k n) [
  | inl low ↦ h k low
  | inr high ↦ subst (λ v. Keeps q v (step v)) (sym (later_step n k s t e high)) (g (k - n) (omega arith))
]

pub steady_then_once : (q : ℕ → Bool) (n j : ℕ) (s t : State) → Steady q n s → steps n s ≡ t → Once q j t → Once q (n + j) s
steady_then_once q n j s t h e g = (
  n + g.0,
  λ k l ne. elim (cases_lt k n) [
    | inl low ↦ h k low
    | inr high ↦ subst (λ v. Keeps q v (step v)) (sym (later_step n k s t e high)) (g.1 (k - n) (omega arith) (λ i. ne (omega arith)))
  ],
)

pub once_then_steady : (q : ℕ → Bool) (n j : ℕ) (s t : State) → Once q n s → steps n s ≡ t → Steady q j t → Once q (n + j) s
once_then_steady q n j s t h e g = (
  h.0,
  λ k l ne. elim (cases_lt k n) [
    | inl low ↦ h.1 k low ne
    | inr high ↦ subst (λ v. Keeps q v (step v)) (sym (later_step n k s t e high)) (g (k - n) (omega arith))
  ],
)

-- one step, whatever it changes
pub any_step : (q : ℕ → Bool) (s : State) → Once q 1 s
any_step q s = (0, λ k l ne. absurd (ne (omega arith)))
