-- The pieces test and fetch.
use Rattle.std.proofs.Common.{◌≡◌, ℕ, ◌+◌, ◌-◌, ◌*◌, ◌%◌, ◌<◌, ◌≤◌, ◌^◌, ◌⊎◌, List, [], ◌∷◌, None, refl, sym, ap, ap₂, ◌∙◌, subst, arith, inl, inr, Bool, true, false, not, pos, negsuc}
use Rattle.std.specs.Prelude.{◌==◌, ◌&&◌, nat_le, nat_lt, if◌then◌else◌}
use Rattle.std.proofs.lemmas.Bool.{eq-eqb, ne_eqb, cases_lt}
use Rattle.std.proofs.lemmas.Bool.Decides.{nat_tests}
use Rattle.spu_isa.specs.declared.operation.Op.TheVariants as op
use Rattle.spu_exec.specs.Places.{code_mask, quad_mask}
use Rattle.spu_exec.specs.Values.{HasBytes}
use Rattle.spu_ls.specs.Stores.{load, save}
use Rattle.spu_ls.specs.Machine.{State, goes, saves}
use Rattle.spu_plan.specs.declared.constants.TheConstants.{LOADER_SIZE}
use Rattle.spu_loader.specs.declared.table.Loader.{Loader}
use Rattle.spu_loader.specs.Forms.{rr, ri, wide}
use Rattle.spu_loader.specs.Code.{test_code, fetch_code}
use Rattle.spu_loader.proofs.Opaque.{wd, quad, val, loc, jumps, loc-lqd, loc-stqd, loc-brz, loc-brnz, jumps-brz, jumps-brnz, ones_test, val-ceq, val-ila, val-less, val-andi, val-shli, val-a}
use Rattle.spu_loader.proofs.Formulas.{masked}
use Rattle.spu_loader.proofs.Stores.{save_other, load-save_apart}
use Rattle.spu_loader.proofs.Blocks.{Stands, Leads, May, Only, In, straight, turning, then_one, then_leads}
use Rattle.spu_loader.proofs.Joining.{one_of, none, only_regs, only_start, Less, only_then, widen, piece_at, Once, steady_of, any_step, steady_then_once, once_then_steady}

-- ---- test: goes to L2 where $78 names no region, or the one that its buffer holds

abbrev pub test_may : May
test_may = only_regs (76 ∷ 77 ∷ [])

pub record Tests (s u : State) (next : ℕ) : Type 0 where
  pub only : Only test_may s u
  pub at : u.pc ≡ next

-- what is known of a test on region r, where slot is the mapped quadword of its buffer
pub record Found (s u : State) (slot r l2 next : ℕ) : Type 0 where
  pub only : Only test_may s u
  pub at : u.pc ≡ (if wd (load s.store slot) 0 == r then l2 else next)
  pub slot_is : wd (u.regs 76) 0 ≡ slot

not_not : (t : Bool) → not (not t) ≡ t
not_not true = refl
not_not false = refl

module _ (l : Loader) (s : State) (b l2 : ℕ) (g : s.ended ≡ None) (at : s.pc ≡ b + 0) (al : b % 4 ≡ 0) (fit : b + 36 < 262144) (code : Stands (test_code l) s.store b 0) (to_l2 : code_mask (b + 0 + 4 * 47) ≡ l2) where
  pub test_none : wd (s.regs 78) 0 ≡ 0 → (u : State) × Leads (In test_may b (b + 36) s) 1 s u × Tests s u l2
  test_none nought =
      let t = turning test_may s b (b + 36) b fit (λ k l h. refl) al [] (wide op.Brz 78 (pos 47)) 0 l2 s refl (omega arith) (omega arith) at (only_start _ s g) tt tt code.0
      (λ u e p. ap (λ t. if t then goes (loc (wide op.Brz 78 (pos 47)) u.pc (u.regs 0) (u.regs 0)) u else goes (b + 4) u)
      (ap (λ (v : State). jumps (wide op.Brz 78 (pos 47)) (v.regs 78)) e ∙ jumps-brz 78 (pos 47) (s.regs 78) ∙ eq-eqb _ _ nought)
      ∙ ap (λ q. goes q u) (loc-brz 78 (pos 47) u.pc (u.regs 0) (u.regs 0) ∙ ap (λ x. code_mask (x + 4 * 47)) p ∙ to_l2)) in
      (_, t.0, record { only = t.1; at = refl })

  module _ (r k : ℕ) (is_r : wd (s.regs 78) 0 ≡ r) (some : 1 ≤ r) (fits_r : r < 2 ^ 32) (buffers : (l.buffers ≡ 1) ⊎ (l.buffers ≡ 2) ⊎ (l.buffers ≡ 4) ⊎ (l.buffers ≡ 8)) (is_k : (r - 1) % l.buffers ≡ k) (few : k < 8)
      (q0_al : (l.base + LOADER_SIZE) % 16 ≡ 0) (q0_fit : l.base + LOADER_SIZE + 16 * k + 16 ≤ 262144) where
    -- the mapped quadword of the region's buffer
    slot_of : (x76 x77 : List ℕ) → (let x0 = s.regs 0 in let j1 = val (ri op.Ai 76 78 (negsuc 0)) (s.regs 78) x0 x0 x76 in let j2 = val (ri op.Andi 76 76 (pos (l.buffers - 1))) j1 x0 x0 j1 in let j3 = val (ri op.Shli 76 76 (pos 4)) j2 x0 x0 j2 in let j4 = val (wide op.Ila 77 (pos (l.base + LOADER_SIZE))) x0 x0 x0 x77 in
        wd (val (rr op.A 76 76 77) j3 j4 x0 j3) 0) ≡ l.base + LOADER_SIZE + 16 * k
    slot_of x76 x77 =
        let x0 : List ℕ = s.regs 0 in
        let j1 : List ℕ = val (ri op.Ai 76 78 (negsuc 0)) (s.regs 78) x0 x0 x76 in
        let j2 : List ℕ = val (ri op.Andi 76 76 (pos (l.buffers - 1))) j1 x0 x0 j1 in
        let j3 : List ℕ = val (ri op.Shli 76 76 (pos 4)) j2 x0 x0 j2 in
        let j4 : List ℕ = val (wide op.Ila 77 (pos (l.base + LOADER_SIZE))) x0 x0 x0 x77 in
        let w1 : wd j1 0 ≡ r - 1 = val-less 76 78 (s.regs 78) x0 x0 x76 (omega (arith, is_r)) (omega (arith, is_r)) ∙ ap (λ x. x - 1) is_r in
        let w2 : wd j2 0 ≡ k = val-andi 76 76 l.buffers j1 x0 x0 j1 (omega (arith, w1)) buffers ∙ ap (λ x. x % l.buffers) w1 ∙ is_k in
        let w3 : wd j3 0 ≡ k * 16 = val-shli 76 76 j2 x0 x0 j2 (omega (arith, w2)) ∙ ap (λ x. x * 16) w2 in
        let w4 : wd j4 0 ≡ l.base + LOADER_SIZE = val-ila 77 (l.base + LOADER_SIZE) x0 x0 x0 x77 (omega arith) in
        val-a 76 76 77 0 j3 j4 x0 j3 (omega arith) ∙ ap₂ (λ x y. (x + y) % 2 ^ 32) w3 w4 ∙ omega arith

    pub test_some : (to_l2' : code_mask (b + 32 + 4 * 39) ≡ l2) → (u : State) × Leads (In test_may b (b + 36) s) 9 s u × Found s u (l.base + LOADER_SIZE + 16 * k) r l2 (b + 36)
    test_some to_l2' =
        let t = turning test_may s b (b + 36) b fit (λ k l h. refl) al [] (wide op.Brz 78 (pos 47)) 0 (b + 4) s refl (omega arith) (omega arith) at (only_start _ s g) tt tt code.0
        (λ u e p. ap (λ t. if t then goes (loc (wide op.Brz 78 (pos 47)) u.pc (u.regs 0) (u.regs 0)) u else goes (b + 4) u)
        (ap (λ (v : State). jumps (wide op.Brz 78 (pos 47)) (v.regs 78)) e ∙ jumps-brz 78 (pos 47) (s.regs 78) ∙ ne_eqb _ _ (λ z. let e1 = is_r in omega arith))) in
        let at_slot : quad_mask (wd _ 0) ≡ l.base + LOADER_SIZE + 16 * k = ap quad_mask (slot_of (s.regs 76) (s.regs 77)) ∙ omega arith in
        let q = load s.store (l.base + LOADER_SIZE + 16 * k) in
        let t2 = turning test_may s b (b + 36) b fit (λ k l h. refl) al
        (ri op.Ai 76 78 (negsuc 0) ∷ ri op.Andi 76 76 (pos (l.buffers - 1)) ∷ ri op.Shli 76 76 (pos 4)
        ∷ wide op.Ila 77 (pos (l.base + LOADER_SIZE)) ∷ rr op.A 76 76 77 ∷ ri op.Lqd 77 76 (pos 0) ∷ rr op.Ceq 77 77 78 ∷ [])
        (wide op.Brnz 77 (pos 39)) 4 (if wd q 0 == r then l2 else b + 36) _ refl (omega arith) (omega arith) refl t.1
        (code.1.0, (code.1.1.0, (code.1.1.1.0, (code.1.1.1.1.0, (code.1.1.1.1.1.0, (code.1.1.1.1.1.1.0, (code.1.1.1.1.1.1.1.0, tt)))))))
        (refl, (refl, (refl, (refl, (refl, (refl, (refl, tt))))))) code.1.1.1.1.1.1.1.1.0
        (λ u e p. ap (λ t. if t then goes (loc (wide op.Brnz 77 (pos 39)) u.pc (u.regs 0) (u.regs 0)) u else goes (b + 36) u)
        (ap (λ (v : State). jumps (wide op.Brnz 77 (pos 39)) (v.regs 77)) e ∙ jumps-brnz 77 (pos 39) _
        ∙ ap (λ w. not (w == 0)) (val-ceq 77 77 78 _ (s.regs 78) _ _)
        ∙ ap not (ones_test _) ∙ not_not _
        ∙ ap₂ (λ x y. wd x 0 == y) (ap (load s.store) (loc-lqd 77 76 _ _ _ ∙ at_slot)) is_r)
        ∙ ap (λ x. if wd q 0 == r then goes x u else goes (b + 36) u) (loc-brnz 77 (pos 39) u.pc (u.regs 0) (u.regs 0) ∙ ap (λ x. code_mask (x + 4 * 39)) p ∙ to_l2')
        ∙ by_test (wd q 0 == r) u) in
        (_, then_leads t.0 t2.0, record { only = t2.1; at = refl; slot_is = slot_of (s.regs 76) (s.regs 77) })
      where
        by_test : (t : Bool) (u : State) → (if t then goes l2 u else goes (b + 36) u) ≡ goes (if t then l2 else b + 36) u
        by_test true u = refl
        by_test false u = refl

-- ---- fetch: region r is mapped, and $77 is its entry of the table

abbrev pub quad_at : ℕ → ℕ → Bool
quad_at q k = nat_le q k && nat_lt k (q + 16)

pub outside_quad : (q k : ℕ) → (k < q) ⊎ (q + 16 ≤ k) → quad_at q k ≡ false
outside_quad q k (inl h) = grind (arith, nat_tests)
outside_quad q k (inr h) = grind (arith, nat_tests)

abbrev pub fetch_may : ℕ → May
fetch_may slot = record { regs = one_of (75 ∷ 76 ∷ 77 ∷ []); bytes = quad_at slot; channels = none; update = false; queue = false; areas = false }

abbrev pub load_may : May
load_may = only_regs (75 ∷ 76 ∷ 77 ∷ [])

load_less : (slot : ℕ) → Less load_may (fetch_may slot)
load_less slot = record { regs = λ k h. h; bytes = λ k h. refl; channels = λ k h. h; update = λ h. h; queue = λ h. h; areas = λ h. h }

pub record Fetches (s u : State) (slot r entry next : ℕ) : Type 0 where
  pub only : Only (fetch_may slot) s u
  pub at : u.pc ≡ next
  pub mapped : u.store ≡ save s.store slot (quad r 0 0 0)
  pub entry_is : u.regs 77 ≡ load s.store entry

saved_only : (slot p : ℕ) (s t : State) → Only load_may s t → Only (fetch_may slot) s (saves slot 75 p t)
saved_only slot p s t o = record {
  running = o.running;
  regs = o.regs;
  channels = o.channels;
  update = o.update;
  queue = o.queue;
  areas = o.areas;
  image = o.image;
  mail = o.mail;
  output = o.output;
  store = λ k j. save_other t.store slot (t.regs 75) k (by_cases k j) ∙ o.store k refl;
}
  where
    by_cases : (k : ℕ) → quad_at slot k ≡ false → (k < slot) ⊎ (slot + 16 ≤ k)
    by_cases k h = elim (cases_lt k slot) [ inl l ↦ inl l | inr l ↦ elim (cases_lt k (slot + 16)) [ inl u ↦ absurd (let t : quad_at slot k ≡ true = grind (arith, nat_tests) in let c = sym t ∙ h in cc) | inr u ↦ inr u ] ]

module _ (l : Loader) (s : State) (b slot r entry : ℕ) (g : s.ended ≡ None) (at : s.pc ≡ b + 0) (al : b % 4 ≡ 0) (fit : b + 28 < 262144) (code : Stands (fetch_code l) s.store b 0)
    (is_slot : wd (s.regs 76) 0 ≡ slot) (slot_al : slot % 16 ≡ 0) (slot_fit : slot + 16 ≤ 262144) (apart : (b + 28 ≤ slot) ⊎ (slot + 16 ≤ b))
    (is_r : wd (s.regs 78) 0 ≡ r) (bytes : HasBytes (s.regs 78)) (table : l.table < 262144) (is_entry : l.table + 16 * r ≡ entry) (entry_al : entry % 16 ≡ 0) (entry_fit : entry + 16 ≤ 262144) (apart2 : (entry + 16 ≤ slot) ⊎ (slot + 16 ≤ entry)) where
  entry_of : (x0 x76 x77 r78 : List ℕ) → wd r78 0 ≡ r → (let g1 = val (ri op.Shli 76 78 (pos 4)) r78 x0 x0 x76 in let g2 = val (wide op.Ila 77 (pos l.table)) x0 x0 x0 x77 in wd (val (rr op.A 76 76 77) g1 g2 x0 g1) 0) ≡ entry
  entry_of x0 x76 x77 r78 e =
      let g1 : List ℕ = val (ri op.Shli 76 78 (pos 4)) r78 x0 x0 x76 in
      let g2 : List ℕ = val (wide op.Ila 77 (pos l.table)) x0 x0 x0 x77 in
      let w1 : wd g1 0 ≡ r * 16 = val-shli 76 78 r78 x0 x0 x76 (omega (arith, e)) ∙ ap (λ x. x * 16) e in
      let w2 : wd g2 0 ≡ l.table = val-ila 77 l.table x0 x0 x0 x77 table in
      val-a 76 76 77 0 g1 g2 x0 g1 (omega arith) ∙ ap₂ (λ x y. (x + y) % 2 ^ 32) w1 w2 ∙ omega arith

  fixed : (k : ℕ) → b ≤ k → k < b + 28 → quad_at slot k ≡ false
  fixed k lo hi = outside_quad slot k (elim apart [ inl x ↦ inl (omega arith) | inr x ↦ inr (omega arith) ])

  -- the two words before the store
  first_part : (t : State) × Leads (In load_may b (b + 28) s) 2 s t × Only load_may s t × (t.pc ≡ b + 8) × (t.regs 75 ≡ quad r 0 0 0) × (t.regs 76 ≡ s.regs 76) × (t.store ≡ s.store)
  first_part =
      let t = straight load_may s b (b + 28) b fit (λ k l h. refl) al (wide op.Fsmbi 75 (negsuc 4095) ∷ rr op.And 75 78 75 ∷ []) 0 s refl (omega arith) (omega arith) at (only_start _ s g) (code.0, (code.1.0, tt)) (refl, (refl, tt)) in
      (_, t.0, t.1, t.2, masked 75 78 (s.regs 78) _ _ _ _ _ _ bytes ∙ ap (λ x. quad x 0 0 0) is_r, refl, refl)

  -- the four words after it
  last_part : (v : State) → Only (fetch_may slot) s v → v.pc ≡ b + 12 → v.store ≡ save s.store slot (quad r 0 0 0)
      → (u : State) × Leads (In load_may b (b + 28) v) 4 v u × Only load_may v u × Fetches s u slot r entry (b + 28)
  last_part v o pc mapped =
      let stands : Stands (fetch_code l) v.store b 0 =
      (let e : b ≡ b + 0 = omega arith in subst (λ i. Stands (fetch_code l) v.store i 0) (sym e) (piece_at (quad_at slot) v.store s.store b (b + 28) b o.store fixed (fetch_code l) 0 0 (omega arith) (omega arith) code)) in
      let t = straight load_may v b (b + 28) b fit (λ k l h. refl) al (ri op.Shli 76 78 (pos 4) ∷ wide op.Ila 77 (pos l.table) ∷ rr op.A 76 76 77 ∷ ri op.Lqd 77 76 (pos 0) ∷ []) 12 v refl (omega arith) (omega arith) pc (only_start _ v o.running) stands.1.1.1 (refl, (refl, (refl, (refl, tt)))) in (
        _,
        t.0,
        t.1,
        record {
          only = only_then load_may (fetch_may slot) s v _ (load_less slot) o t.1;
          at = t.2;
          mapped = mapped;
          entry_is = ap (load v.store) (loc-lqd 77 76 _ _ _ ∙ ap quad_mask (entry_of (v.regs 0) (v.regs 76) (v.regs 77) (v.regs 78) (ap (λ q. wd q 0) (o.regs 78 refl) ∙ is_r)) ∙ omega arith)
              ∙ ap (λ m. load m entry) mapped ∙ load-save_apart s.store slot entry (quad r 0 0 0) apart2;
        },
      )

  pub fetch_piece : (q : ℕ → Bool) → (u : State) × Leads (In (fetch_may slot) b (b + 28) s) 7 s u × Once q 7 s × Fetches s u slot r entry (b + 28)
  fetch_piece q =
      let x = first_part in
      let t = x.0 in
      let v : State = saves slot 75 (b + 12) t in
      let o = saved_only slot (b + 12) s t x.2 in
      let y = last_part v o refl (ap₂ (λ m z. save m slot z) x.6 x.4) in
      let at_slot : loc (ri op.Stqd 75 76 (pos 0)) t.pc (t.regs 76) (t.regs 0) ≡ slot = loc-stqd 75 76 t.pc (t.regs 76) (t.regs 0) ∙ ap quad_mask (ap (λ z. wd z 0) x.5 ∙ is_slot) ∙ omega arith in
      let step3 = then_one (fetch_may slot) s b (b + 28) b fit fixed al t v (ri op.Stqd 75 76 (pos 0)) 8 refl (omega arith) (omega arith) x.3 (only_then load_may (fetch_may slot) s s t (load_less slot) (only_start _ s g) x.2) code.1.1.0 (ap (λ a. saves a 75 (b + 12) t) at_slot) in (
        y.0,
        then_leads (widen load_may (fetch_may slot) b (b + 28) b (b + 28) s s t 2 (load_less slot) (only_start _ s g) (omega arith) (omega arith) x.1)
            (then_leads step3 (widen load_may (fetch_may slot) b (b + 28) b (b + 28) s v y.0 4 (load_less slot) o (omega arith) (omega arith) y.1)),
        steady_then_once q 2 5 s t (steady_of q load_may b (b + 28) 2 s s t (λ k h. refl) x.1 x.2) x.1.to
            (once_then_steady q 1 4 t v (any_step q t) step3.to (steady_of q load_may b (b + 28) 4 v v y.0 (λ k h. refl) y.1 y.2)),
        y.3,
      )
