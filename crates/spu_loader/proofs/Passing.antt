-- Stretches of the loader's run from the test on: what they may change, and how they join.
use Rattle.std.proofs.Common.{◌≡◌, ℕ, ◌+◌, ◌*◌, ◌%◌, ◌<◌, ◌≤◌, List, [], ◌∷◌, length, refl, sym, ap, ◌∙◌, subst, arith, true, false}
use Rattle.std.proofs.lemmas.Bool.Decides.{nat_tests}
use Rattle.std.proofs.Math.Path.{fun_ext}
use Rattle.spu_isa.specs.declared.instruction.Inst.{Inst}
use Rattle.spu_exec.specs.Places.{code_mask}
use Rattle.spu_ls.specs.Stores.{Store}
use Rattle.spu_ls.specs.Machine.{State}
use Rattle.spu_plan.specs.declared.constants.TheConstants.{LOADER_CODE_SIZE}
use Rattle.spu_loader.specs.Code.{exit_code}
use Rattle.spu_loader.specs.Overlays.{Overlay, IsLaid, IsMapped, IsReady}
use Rattle.spu_loader.specs.Entries.{is_slot, is_loaded}
use Rattle.spu_loader.proofs.Places.{exit_from}
use Rattle.spu_loader.proofs.Opaque.{wd}
use Rattle.spu_loader.proofs.Blocks.{Stands, Leads, May, Only, In, then_leads}
use Rattle.spu_loader.proofs.Joining.{one_of, only_regs, Below, Less, only_then, widen, piece_at, Steady, Once, steady_of, steady_then, steady_then_once, once_then_steady}
use Rattle.spu_loader.proofs.Pieces.{exit_piece}
use Rattle.spu_loader.proofs.Ready.{facts, region, exit_stands}

-- what the tail may change
abbrev pub tail_may : Overlay → ℕ → May
tail_may o r = record { regs = one_of (75 ∷ 76 ∷ 77 ∷ 78 ∷ 79 ∷ []); bytes = is_loaded o r; channels = one_of (16 ∷ 17 ∷ 18 ∷ 19 ∷ 20 ∷ 22 ∷ []); update = true; queue = true; areas = false }

pub record Done (o : Overlay) (r a : ℕ) (s u : State) : Type 0 where
  pub only : Only (tail_may o r) s u
  pub pc_is : u.pc ≡ a
  pub mask : u.channels 22 ≡ s.channels 22
  pub queue_is : u.queue ≡ s.queue
  pub mapped : 1 ≤ r → IsMapped o r u.store u.image
  pub root : r ≡ 0 → u.store ≡ s.store

-- n steps lead from t to u within the loader, and none changes a mapped quadword
pub record Passes (o : Overlay) (r n : ℕ) (s t u : State) : Type 0 where
  pub leads : Leads (In (tail_may o r) o.loader.base (o.loader.base + LOADER_CODE_SIZE) s) n t u
  pub steady : Steady (is_slot o) n t

-- the same, where one step may
pub record PassesOnce (o : Overlay) (r n : ℕ) (s t u : State) : Type 0 where
  pub leads : Leads (In (tail_may o r) o.loader.base (o.loader.base + LOADER_CODE_SIZE) s) n t u
  pub once : Once (is_slot o) n t

pub passes_then : (o : Overlay) (r n k : ℕ) (s t u v : State) → Passes o r n s t u → Passes o r k s u v → Passes o r (n + k) s t v
passes_then o r n k s t u v p q = record { leads = then_leads p.leads q.leads; steady = steady_then (is_slot o) n k t u p.steady p.leads.to q.steady }

pub passes_once : (o : Overlay) (r n k : ℕ) (s t u v : State) → Passes o r n s t u → PassesOnce o r k s u v → PassesOnce o r (n + k) s t v
passes_once o r n k s t u v p q = record { leads = then_leads p.leads q.leads; once = steady_then_once (is_slot o) n k t u p.steady p.leads.to q.once }

pub once_passes : (o : Overlay) (r n k : ℕ) (s t u v : State) → PassesOnce o r n s t u → Passes o r k s u v → PassesOnce o r (n + k) s t v
once_passes o r n k s t u v p q = record { leads = then_leads p.leads q.leads; once = once_then_steady (is_slot o) n k t u p.once p.leads.to q.steady }

pub regs_less : (o : Overlay) (r : ℕ) (rs : List ℕ) → Below (one_of rs) (one_of (75 ∷ 76 ∷ 77 ∷ 78 ∷ 79 ∷ [])) → Less (only_regs rs) (tail_may o r)
regs_less o r rs b = record { regs = b; bytes = λ k h. refl; channels = λ k h. refl; update = λ h. refl; queue = λ h. refl; areas = λ h. refl }

module _ (o : Overlay) (laid : IsLaid o) (r : ℕ) (s : State) (ready : IsReady o s) where
  -- the loader's code isn't changed
  pub fixed : (k : ℕ) → o.loader.base ≤ k → k < o.loader.base + LOADER_CODE_SIZE → is_loaded o r k ≡ false
  fixed k l h =
      let f = facts o laid in
      let f1 = f.order in
      let f2 = f.below in
      let g = region o laid r in
      let g1 = g.slot_low in
      let g2 = g.low in
      grind (arith, nat_tests)

  -- the code of a piece, in a later state
  pub code_at : (t : State) → Only (tail_may o r) s t → (xs : List Inst) (n : ℕ) → n + 4 * length xs ≤ LOADER_CODE_SIZE → Stands xs s.store o.loader.base n → Stands xs t.store (o.loader.base + n) 0
  code_at t p xs n l h =
      let e : n ≡ n + 0 = omega arith in
      piece_at (is_loaded o r) t.store s.store o.loader.base (o.loader.base + LOADER_CODE_SIZE) o.loader.base p.store fixed xs n 0 (omega arith) (omega arith) (subst (Stands xs s.store o.loader.base) e h)

  -- a piece that changes registers alone
  pub passes_regs : (rs : List ℕ) (lo hi n : ℕ) (t u : State) → Below (one_of rs) (one_of (75 ∷ 76 ∷ 77 ∷ 78 ∷ 79 ∷ [])) → o.loader.base ≤ lo → hi ≤ o.loader.base + LOADER_CODE_SIZE → Only (tail_may o r) s t → Leads (In (only_regs rs) lo hi t) n t u → Only (only_regs rs) t u → Passes o r n s t u
  passes_regs rs lo hi n t u b l h p leads only = record {
    leads = widen (only_regs rs) (tail_may o r) o.loader.base (o.loader.base + LOADER_CODE_SIZE) lo hi s t u n (regs_less o r rs b) p l h leads;
    steady = steady_of (is_slot o) (only_regs rs) lo hi n t t u (λ k e. refl) leads only;
  }

  module _ (a : ℕ) (target : (a % 4 ≡ 0) × (a < 262144)) where
    -- the last step
    pub exits : (t : State) → Only (tail_may o r) s t → t.pc ≡ o.loader.base + exit_from → wd (t.regs 79) 0 ≡ a → (u : State) × Passes o r 1 s t u × Only (tail_may o r) s u × Only (only_regs []) t u × (u.pc ≡ a)
    exits t p pc w =
        let f = facts o laid in
        let f1 = f.base in
        let f2 = f.low in
        let x = exit_piece t (o.loader.base + exit_from) p.running (pc ∙ omega arith) (omega arith) (omega arith) (code_at t p exit_code exit_from (omega arith) (exit_stands o laid s ready)) in
        let b : Below (one_of []) (one_of (75 ∷ 76 ∷ 77 ∷ 78 ∷ 79 ∷ [])) = λ k e. refl in
        let t0 = target.0 in
        let t1 = target.1 in (
          x.0,
          passes_regs [] (o.loader.base + exit_from) (o.loader.base + exit_from + 4) 1 t x.0 b (omega arith) (omega arith) p x.1 x.2.only,
          only_then (only_regs []) (tail_may o r) s t x.0 (regs_less o r [] b) p x.2.only,
          x.2.only,
          x.2.at ∙ ap code_mask w ∙ omega arith,
        )

    -- mapped in a state with the same store
    pub mapped_from_same : (t u : State) → u.store ≡ t.store → u.image ≡ t.image → IsMapped o r t.store t.image → IsMapped o r u.store u.image
    mapped_from_same t u st im m = subst (λ i. IsMapped o r u.store i) (sym im) (subst (λ (x : Store). IsMapped o r x t.image) (sym st) m)

    pub same_bytes : (rs : List ℕ) (t u : State) → Only (only_regs rs) t u → u.store ≡ t.store
    same_bytes rs t u p = fun_ext (λ k. p.store k refl)
