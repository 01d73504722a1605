-- The pieces of the loader but the command and the wait, at places that are parameters.
use Rattle.std.proofs.Common.{◌≡◌, ℕ, ◌+◌, ◌-◌, ◌*◌, ◌/◌, ◌%◌, ◌<◌, ◌≤◌, ◌^◌, List, [], ◌∷◌, None, refl, ap, ap₂, ◌∙◌, arith, not, pos, negsuc}
use Rattle.std.specs.Prelude.{◌==◌, nat_lt, if◌then◌else◌}
use Rattle.std.proofs.lemmas.Bool.{lt-ltb, le-ltb}
use Rattle.spu_isa.specs.declared.operation.Op.TheVariants as op
use Rattle.spu_exec.specs.Lanes.{ones_where}
use Rattle.spu_exec.specs.Places.{code_mask, quad_mask}
use Rattle.spu_ls.specs.Stores.{load}
use Rattle.spu_ls.specs.Machine.{State, goes}
use Rattle.spu_plan.specs.declared.constants.TheConstants.{LOADER_SIZE}
use Rattle.spu_loader.specs.declared.table.Loader.{Loader}
use Rattle.spu_loader.specs.Forms.{rr, ri, wide}
use Rattle.spu_loader.specs.Code.{return_quad, words_ahead, relink_code, exit_code, return_code}
use Rattle.spu_loader.proofs.Opaque.{wd, quad, val, loc, jumps, wd-quad_0, val-sf, val-shli, val-a, val-turned_4, val-turned_8, loc-lqd, loc-lqr, loc-bi, loc-br, loc-brz, jumps-brz, jumps-br, jumps-bi, ones_test, val-clgt, val-ila}
use Rattle.spu_loader.proofs.Formulas.{relinked_by}
use Rattle.spu_loader.proofs.Shifts.{val-shift}
use Rattle.spu_loader.proofs.Blocks.{Stands, Leads, May, Only, In, straight, turning, then_leads}
use Rattle.spu_loader.proofs.Joining.{only_regs, only_start}

-- ---- return: words 1 and 2 of $0 go to $78 and $79, and pc to L1

pub record Returns (s u : State) (l1 : ℕ) : Type 0 where
  pub only : Only (only_regs (78 ∷ 79 ∷ [])) s u
  pub at : u.pc ≡ l1
  pub region : wd (u.regs 78) 0 ≡ wd (s.regs 0) 1
  pub target : wd (u.regs 79) 0 ≡ wd (s.regs 0) 2
  pub turned : u.regs 78 ≡ val (ri op.Rotqbyi 78 0 (pos 4)) (s.regs 0) (s.regs 0) (s.regs 0) (s.regs 78)

pub return_piece : (s : State) (b l1 : ℕ) → s.ended ≡ None → s.pc ≡ b + 0 → b % 4 ≡ 0 → b + 12 < 262144 → Stands return_code s.store b 0 → code_mask (b + 8 + 4 * (2 ^ 32 - 50)) ≡ l1
    → (u : State) × Leads (In (only_regs (78 ∷ 79 ∷ [])) b (b + 12) s) 3 s u × Returns s u l1
return_piece s b l1 g at al fit code to =
    let t = turning (only_regs (78 ∷ 79 ∷ [])) s b (b + 12) b fit (λ k l h. refl) al (ri op.Rotqbyi 78 0 (pos 4) ∷ ri op.Rotqbyi 79 0 (pos 8) ∷ []) (wide op.Br 0 (negsuc 49)) 0 l1 s refl (omega arith) (omega arith) at (only_start _ s g) (code.0, (code.1.0, tt)) (refl, (refl, tt)) code.1.1.0
    (λ u e p. ap (λ t. if t then goes (loc (wide op.Br 0 (negsuc 49)) u.pc (u.regs 0) (u.regs 0)) u else goes (b + 12) u) (jumps-br (negsuc 49) (u.regs 0))
    ∙ ap (λ q. goes q u) (loc-br (negsuc 49) u.pc (u.regs 0) (u.regs 0) ∙ ap (λ x. code_mask (x + 4 * (2 ^ 32 - 50))) p ∙ to)) in
    (_, t.0, record { only = t.1; at = refl; region = val-turned_4 78 0 (s.regs 0) (s.regs 0) (s.regs 0) (s.regs 78); target = val-turned_8 79 0 (s.regs 0) (s.regs 0) (s.regs 0) (s.regs 79); turned = refl })

-- ---- exit: goes to $79

pub record Exits (s u : State) : Type 0 where
  pub only : Only (only_regs []) s u
  pub at : u.pc ≡ code_mask (wd (s.regs 79) 0)

pub exit_piece : (s : State) (b : ℕ) → s.ended ≡ None → s.pc ≡ b + 0 → b % 4 ≡ 0 → b + 4 < 262144 → Stands exit_code s.store b 0 → (u : State) × Leads (In (only_regs []) b (b + 4) s) 1 s u × Exits s u
exit_piece s b g at al fit code =
    let t = turning (only_regs []) s b (b + 4) b fit (λ k l h. refl) al [] (rr op.Bi 0 79 0) 0 (code_mask (wd (s.regs 79) 0)) s refl (omega arith) (omega arith) at (only_start _ s g) tt tt code.0
    (λ u e p. ap (λ t. if t then goes (loc (rr op.Bi 0 79 0) u.pc (u.regs 79) (u.regs 0)) u else goes (b + 4) u) (jumps-bi 79 (u.regs 0))
    ∙ ap (λ q. goes q u) (loc-bi 79 u.pc (u.regs 79) (u.regs 0) ∙ ap (λ (v : State). code_mask (wd (v.regs 79) 0)) e)) in
    (_, t.0, record { only = t.1; at = refl })

-- ---- relink: a direct link into a buffer becomes a link by the return entry

abbrev pub relink_may : May
relink_may = only_regs (0 ∷ 75 ∷ 76 ∷ 77 ∷ [])

pub record Relinks (s u : State) (to : List ℕ) (next : ℕ) : Type 0 where
  pub only : Only relink_may s u
  pub at : u.pc ≡ next
  pub link : u.regs 0 ≡ to

-- whether the test says that the caller lies in no buffer
outside_test : (l : Loader) (s : State) (x0 x76 : List ℕ) → l.buffer + 4 < 262144
    → jumps (wide op.Brz 75 (pos 13)) (val (rr op.Clgt 75 0 76) x0 (val (wide op.Ila 76 (pos (l.buffer - 1))) x0 x0 x0 x76) x0 (s.regs 75)) ≡ not (nat_lt (l.buffer - 1) (wd x0 0))
outside_test l s x0 x76 h =
    jumps-brz 75 (pos 13) _
    ∙ ap (λ w. w == 0) (val-clgt 75 0 76 x0 (val (wide op.Ila 76 (pos (l.buffer - 1))) x0 x0 x0 x76) x0 (s.regs 75) ∙ ap (λ w. ones_where 4 (nat_lt w (wd x0 0)) % 2 ^ 32) (val-ila 76 (l.buffer - 1) x0 x0 x0 x76 (omega arith)))
    ∙ ones_test (nat_lt (l.buffer - 1) (wd x0 0))

module _ (l : Loader) (s : State) (b : ℕ) (g : s.ended ≡ None) (at : s.pc ≡ b + 0) (al : b % 4 ≡ 0) (fit : b + 60 < 262144) (code : Stands (relink_code l) s.store b 0) (small : l.buffer + 4 < 262144) where
  pub relink_other : wd (s.regs 0) 0 < l.buffer → (u : State) × Leads (In relink_may b (b + 60) s) 3 s u × Relinks s u (s.regs 0) (b + 60)
  relink_other out =
      let t = turning relink_may s b (b + 60) b fit (λ k l h. refl) al (wide op.Ila 76 (pos (l.buffer - 1)) ∷ rr op.Clgt 75 0 76 ∷ []) (wide op.Brz 75 (pos 13)) 0 (b + 60) s refl (omega arith) (omega arith) at (only_start _ s g) (code.0, (code.1.0, tt)) (refl, (refl, tt)) code.1.1.0
      (λ u e p. ap (λ t. if t then goes (loc (wide op.Brz 75 (pos 13)) u.pc (u.regs 0) (u.regs 0)) u else goes (b + 12) u)
      (ap (λ (v : State). jumps (wide op.Brz 75 (pos 13)) (v.regs 75)) e ∙ outside_test l s (s.regs 0) (s.regs 76) small ∙ ap not (le-ltb _ _ (let h = out in omega arith)))
      ∙ ap (λ q. goes q u) (loc-brz 75 (pos 13) u.pc (u.regs 0) (u.regs 0) ∙ ap (λ x. code_mask (x + 4 * 13)) p ∙ omega arith)) in
      (_, t.0, record { only = t.1; at = refl; link = refl })

  module _ (shift : (10 ≤ l.shift) × (l.shift ≤ 16)) (a m ret k q1 : ℕ) (direct : s.regs 0 ≡ quad a 0 0 0) (above : l.buffer + 4 ≤ a) (below : a ≤ 262144) (is_k : (a - (l.buffer + 4)) / 2 ^ l.shift ≡ k)
      (q0_al : (l.base + LOADER_SIZE) % 16 ≡ 0) (q0_fit : l.base + LOADER_SIZE + 16 * k + 16 ≤ 262144) (few : l.buffers ≤ 8) (to_q1 : quad_mask (b + 48 + 4 * (words_ahead l 12 (return_quad l))) ≡ q1)
      (mapped : load s.store (l.base + LOADER_SIZE + 16 * k) ≡ quad m 0 0 0) (returns : load s.store q1 ≡ quad ret 0 0 0) where
    word_a : wd (s.regs 0) 0 ≡ a
    word_a = ap (λ q. wd q 0) direct ∙ wd-quad_0 a 0 0 0 (omega arith)

    -- the mapped quadword of the caller's buffer
    slot_of : (x75 x76 x77 : List ℕ) → (let x0 = s.regs 0 in let i1 = val (wide op.Ila 77 (pos (l.buffer + 4))) x0 x0 x0 x77 in let i2 = val (rr op.Sf 77 77 0) i1 x0 x0 i1 in let i3 = val (ri op.Rotmi 77 77 (negsuc (l.shift - 1))) i2 x0 x0 i2 in let i4 = val (ri op.Shli 77 77 (pos 4)) i3 x0 x0 i3 in let i5 = val (wide op.Ila 76 (pos (l.base + LOADER_SIZE))) x0 x0 x0 x76 in
        wd (val (rr op.A 76 76 77) i5 i4 x0 i5) 0) ≡ l.base + LOADER_SIZE + 16 * k
    slot_of x75 x76 x77 =
        let x0 : List ℕ = s.regs 0 in
        let i1 : List ℕ = val (wide op.Ila 77 (pos (l.buffer + 4))) x0 x0 x0 x77 in
        let i2 : List ℕ = val (rr op.Sf 77 77 0) i1 x0 x0 i1 in
        let i3 : List ℕ = val (ri op.Rotmi 77 77 (negsuc (l.shift - 1))) i2 x0 x0 i2 in
        let i4 : List ℕ = val (ri op.Shli 77 77 (pos 4)) i3 x0 x0 i3 in
        let i5 : List ℕ = val (wide op.Ila 76 (pos (l.base + LOADER_SIZE))) x0 x0 x0 x76 in
        let w1 : wd i1 0 ≡ l.buffer + 4 = val-ila 77 (l.buffer + 4) x0 x0 x0 x77 small in
        let w2 : wd i2 0 ≡ a - (l.buffer + 4) = val-sf 77 77 0 i1 x0 x0 i1 ∙ ap₂ (λ x y. (x + 2 ^ 32 - y) % 2 ^ 32) word_a w1 ∙ omega arith in
        let w3 : wd i3 0 ≡ k = val-shift l.shift i2 x0 x0 i2 shift.0 shift.1 (omega (arith, w2)) ∙ ap (λ x. x / 2 ^ l.shift) w2 ∙ is_k in
        let w4 : wd i4 0 ≡ k * 16 = val-shli 77 77 i3 x0 x0 i3 (omega (arith, w3)) ∙ ap (λ x. x * 16) w3 in
        let w5 : wd i5 0 ≡ l.base + LOADER_SIZE = val-ila 76 (l.base + LOADER_SIZE) x0 x0 x0 x76 (omega arith) in
        val-a 76 76 77 0 i5 i4 x0 i5 (omega arith) ∙ ap₂ (λ x y. (x + y) % 2 ^ 32) w5 w4 ∙ omega arith

    pub relink_direct : (u : State) × Leads (In relink_may b (b + 60) s) 15 s u × Relinks s u (quad ret m a 0) (b + 60)
    relink_direct =
        let t = turning relink_may s b (b + 60) b fit (λ k l h. refl) al (wide op.Ila 76 (pos (l.buffer - 1)) ∷ rr op.Clgt 75 0 76 ∷ []) (wide op.Brz 75 (pos 13)) 0 (b + 12) s refl (omega arith) (omega arith) at (only_start _ s g) (code.0, (code.1.0, tt)) (refl, (refl, tt)) code.1.1.0
        (λ u e p. ap (λ t. if t then goes (loc (wide op.Brz 75 (pos 13)) u.pc (u.regs 0) (u.regs 0)) u else goes (b + 12) u)
        (ap (λ (v : State). jumps (wide op.Brz 75 (pos 13)) (v.regs 75)) e ∙ outside_test l s (s.regs 0) (s.regs 76) small ∙ ap not (lt-ltb _ _ (let h = above in let w = word_a in omega arith)))) in
        let r = straight relink_may s b (b + 60) b fit (λ k l h. refl) al
        (wide op.Ila 77 (pos (l.buffer + 4)) ∷ rr op.Sf 77 77 0 ∷ ri op.Rotmi 77 77 (negsuc (l.shift - 1)) ∷ ri op.Shli 77 77 (pos 4)
        ∷ wide op.Ila 76 (pos (l.base + LOADER_SIZE)) ∷ rr op.A 76 76 77 ∷ ri op.Lqd 77 76 (pos 0)
        ∷ ri op.Rotqmbyi 0 0 (negsuc 7) ∷ ri op.Rotqmbyi 77 77 (negsuc 3) ∷ wide op.Lqr 76 (pos (words_ahead l 12 (return_quad l)))
        ∷ rr op.Or 0 0 77 ∷ rr op.Or 0 0 76 ∷ []) 12 _ refl (omega arith) (omega arith) refl t.1 code.1.1.1
        (refl, (refl, (refl, (refl, (refl, (refl, (refl, (refl, (refl, (refl, (refl, (refl, tt)))))))))))) in (
          _,
          then_leads t.0 r.0,
          record {
            only = r.1;
            at = r.2;
            link = relinked_by a m ret _ _ _ _ _ _ _ _ _ _ _ _ _ direct
                (ap (load s.store) (loc-lqd 77 76 (b + 36) _ (s.regs 0) ∙ ap quad_mask (slot_of (s.regs 75) _ (s.regs 77)) ∙ omega arith) ∙ mapped)
                (ap (load s.store) (loc-lqr 76 (words_ahead l 12 (return_quad l)) (b + 48) _ _ (omega arith) ∙ to_q1) ∙ returns);
          },
        )
