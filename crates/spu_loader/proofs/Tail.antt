-- From the test on: region r is mapped, and pc goes to the place in $79.
use Rattle.std.proofs.Common.{◌≡◌, ℕ, ◌+◌, ◌%◌, ◌<◌, ◌≤◌, [], ◌∷◌, refl, sym, ap, ◌∙◌, subst, arith, inl, inr}
use Rattle.std.specs.Prelude.{◌==◌}
use Rattle.std.proofs.lemmas.Bool.{cond-true, cond-false, eqb-true, cases_Bool, cases_lt}
use Rattle.spu_exec.specs.Values.{HasBytes}
use Rattle.spu_ls.specs.Stores.{load}
use Rattle.spu_ls.specs.Machine.{State}
use Rattle.spu_loader.specs.Code.{mapped_at, test_code}
use Rattle.spu_loader.specs.Overlays.{Overlay, buffer_of, slot_of, IsRegion, IsLaid, IsMapped, IsReady}
use Rattle.spu_loader.specs.Entries.{is_slot}
use Rattle.spu_loader.proofs.Places.{exit_from, test_from}
use Rattle.spu_loader.proofs.Opaque.{wd, wd-quad_0}
use Rattle.spu_loader.proofs.Blocks.{Leads, Only, In}
use Rattle.spu_loader.proofs.Joining.{one_of, none, only_start, Below, below_lists, only_then, steady_once}
use Rattle.spu_loader.proofs.Fetching.{test_may, test_none, test_some}
use Rattle.spu_loader.proofs.Ready.{below_buffers, opaque_quad, facts, region, test_stands}
use Rattle.spu_loader.proofs.Passing.{tail_may, Done, Passes, PassesOnce, passes_then, passes_once, regs_less, code_at, passes_regs, exits, mapped_from_same, same_bytes}
use Rattle.spu_loader.proofs.Loading.{loading}

module _ (o : Overlay) (laid : IsLaid o) (r : ℕ) (s : State) (ready : IsReady o s) (a : ℕ) (target : (a % 4 ≡ 0) × (a < 262144)) where
  -- straight to the exit
  at_once : (n : ℕ) (t : State) → Leads (In test_may (o.loader.base + test_from) (o.loader.base + test_from + 36) s) n s t → Only test_may s t → t.pc ≡ o.loader.base + exit_from → wd (s.regs 79) 0 ≡ a → (1 ≤ r → IsMapped o r s.store s.image)
      → (u : State) × Passes o r (n + 1) s s u × Done o r a s u
  at_once n t leads only pc r79 is =
      let small : Below (one_of (76 ∷ 77 ∷ [])) (one_of (75 ∷ 76 ∷ 77 ∷ 78 ∷ 79 ∷ [])) = below_lists (76 ∷ 77 ∷ []) (75 ∷ 76 ∷ 77 ∷ 78 ∷ 79 ∷ []) refl in
      let start = only_start (tail_may o r) s ready.running in
      let p = only_then test_may (tail_may o r) s s t (regs_less o r (76 ∷ 77 ∷ []) small) start only in
      let y = exits o laid r s ready a target t p pc (ap (λ q. wd q 0) (only.regs 79 refl) ∙ r79) in
      let st : y.0.store ≡ s.store = same_bytes o laid r s ready a target [] t y.0 y.3 ∙ same_bytes o laid r s ready a target (76 ∷ 77 ∷ []) s t only in (
        y.0,
        passes_then o r n 1 s s t y.0 (passes_regs o laid r s ready (76 ∷ 77 ∷ []) (o.loader.base + test_from) (o.loader.base + test_from + 36) n s t small (omega arith) (omega arith) start leads only) y.1,
        record {
          only = y.2;
          pc_is = y.4;
          mask = y.3.channels 22 refl ∙ only.channels 22 refl;
          queue_is = y.3.queue refl ∙ only.queue refl;
          mapped = λ some. mapped_from_same o laid r s ready a target s y.0 st (y.3.image ∙ only.image) (is some);
          root = λ e. st;
        },
      )

  -- a buffer whose quadword names the region holds it
  holds_region : IsRegion o r → wd (load s.store (slot_of o r)) 0 ≡ r → IsMapped o r s.store s.image
  holds_region is_r e =
      let n = below_buffers o.loader r laid.loader in
      let f = facts o laid in
      let f4 = f.below in
      let f6 = f.fits in
      let some = is_r.0 in
      elim (ready.buffers (buffer_of o r) n.0) [
        | inl none ↦ absurd (let w : wd (load s.store (slot_of o r)) 0 ≡ 0 = ap (λ q. wd q 0) (none ∙ opaque_quad 0 0 0 0) ∙ wd-quad_0 0 0 0 0 (omega arith) in omega arith)
        | inr x ↦
            let m = x.0 in
            let few = x.1.1 in
            let at : slot_of o m ≡ slot_of o r = ap (mapped_at o.loader) x.2 in
            let w : wd (load s.store (slot_of o r)) 0 ≡ m = ap (λ p. wd (load s.store p) 0) (sym at) ∙ ap (λ q. wd q 0) (x.3.quad ∙ opaque_quad m 0 0 0) ∙ wd-quad_0 m 0 0 0 (omega arith) in
            subst (λ k. IsMapped o k s.store s.image) (sym w ∙ e) x.3
      ]

  pub record Tails : Type 0 where
    pub count : ℕ
    pub end : State
    pub within : count ≤ 117
    pub passes : PassesOnce o r count s s end
    pub done : Done o r a s end

  module _ (at : s.pc ≡ o.loader.base + test_from) (named : r ≤ o.regions) (r78 : wd (s.regs 78) 0 ≡ r) (bytes : HasBytes (s.regs 78)) (r79 : wd (s.regs 79) 0 ≡ a) where
    no_region : r ≡ 0 → Tails
    no_region e =
        let f = facts o laid in
        let f1 = f.base in
        let f2 = f.low in
        let x = test_none o.loader s (o.loader.base + test_from) (o.loader.base + exit_from) ready.running (at ∙ omega arith) (omega arith) (omega arith)
        (let i : o.loader.base + test_from ≡ o.loader.base + test_from + 0 = omega arith in code_at o laid r s ready s (only_start (tail_may o r) s ready.running) (test_code o.loader) test_from (omega arith) (test_stands o laid s ready)) (omega arith) (r78 ∙ e) in
        let y = at_once 1 x.0 x.1 x.2.only x.2.at r79 (λ some. absurd (omega arith)) in
        record { count = 2; end = y.0; within = omega arith; passes = record { leads = y.1.leads; once = steady_once (is_slot o) 2 s y.1.steady }; done = y.2 }

    some_region : IsRegion o r → Tails
    some_region is_r =
        let f = facts o laid in
        let f1 = f.base in
        let f2 = f.low in
        let f3 = f.order in
        let f4 = f.below in
        let f6 = f.fits in
        let g = region o laid r in
        let g1 = g.slot_high in
        let start = only_start (tail_may o r) s ready.running in
        let x = test_some o.loader s (o.loader.base + test_from) (o.loader.base + exit_from) ready.running (at ∙ omega arith) (omega arith) (omega arith) (code_at o laid r s ready s start (test_code o.loader) test_from (omega arith) (test_stands o laid s ready)) (omega arith)
        r (buffer_of o r) r78 is_r.0 (omega arith) laid.loader.buffers refl g.index (omega arith) (omega arith) (omega arith) in
        let t = x.0 in
        let only = x.2.only in
        elim (cases_Bool (wd (load s.store (slot_of o r)) 0 == r)) [
          | inl e ↦
              let y = at_once 9 t x.1 only (x.2.at ∙ cond-true (wd (load s.store (slot_of o r)) 0 == r) (o.loader.base + exit_from) (o.loader.base + test_from + 36) e) r79 (λ some. holds_region is_r (eqb-true _ _ e)) in
              record { count = 10; end = y.0; within = omega arith; passes = record { leads = y.1.leads; once = steady_once (is_slot o) 10 s y.1.steady }; done = y.2 }
          | inr e ↦
              let small : Below (one_of (76 ∷ 77 ∷ [])) (one_of (75 ∷ 76 ∷ 77 ∷ 78 ∷ 79 ∷ [])) = below_lists (76 ∷ 77 ∷ []) (75 ∷ 76 ∷ 77 ∷ 78 ∷ 79 ∷ []) refl in
              let p = only_then test_may (tail_may o r) s s t (regs_less o r (76 ∷ 77 ∷ []) small) start only in
              let y = loading o laid r s ready a target is_r t p (x.2.at ∙ cond-false (wd (load s.store (slot_of o r)) 0 == r) (o.loader.base + exit_from) (o.loader.base + test_from + 36) e ∙ omega arith) (same_bytes o laid r s ready a target (76 ∷ 77 ∷ []) s t only) (only.queue refl) (only.channels 22 refl) x.2.slot_is
              (ap (λ q. wd q 0) (only.regs 78 refl) ∙ r78) (subst HasBytes (sym (only.regs 78 refl)) bytes) (ap (λ q. wd q 0) (only.regs 79 refl) ∙ r79) in
              record {
                count = 9 + y.0;
                end = y.1;
                within = (let le = y.2 in omega arith);
                passes = passes_once o r 9 y.0 s s t y.1 (passes_regs o laid r s ready (76 ∷ 77 ∷ []) (o.loader.base + test_from) (o.loader.base + test_from + 36) 9 s t small (omega arith) (omega arith) start x.1 only) y.3;
                done = y.4;
              }
        ]

    pub tail : Tails
    tail = elim (cases_lt r 1) [ inl none ↦ no_region (omega arith) | inr some ↦ some_region (some, named) ]
