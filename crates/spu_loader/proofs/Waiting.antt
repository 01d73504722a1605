-- The wait: the transfers with the loader's tag land, and all else is as before.
use Rattle.std.proofs.Common.{◌≡◌, ℕ, ◌+◌, ◌%◌, ◌<◌, ◌≤◌, ◌^◌, [], ◌∷◌, Some, None, refl, ap, ◌∙◌, arith, Bool, true, false, pos, negsuc}
use Rattle.spu_word.specs.Bytes.{quad_of}
use Rattle.spu_isa.specs.declared.operation.Op.TheVariants as op
use Rattle.spu_ls.specs.Landing.{Memory, land}
use Rattle.spu_exec.specs.Tags.{is_landing, with_tags, without_tags}
use Rattle.spu_ls.specs.Machine.{State, updates, answers_by}
use Rattle.spu_loader.specs.Forms.{rr, wide, channel}
use Rattle.spu_loader.specs.Code.{wait_code}
use Rattle.spu_loader.proofs.Opaque.{wd, val-il, val-ilhu, wd-quad_of}
use Rattle.spu_loader.proofs.Blocks.{Stands, Leads, May, Only, In, after, straight, then_one, then_leads, put_other, only_set, only_sends}
use Rattle.spu_loader.proofs.Joining.{one_of, only_start}
use Rattle.spu_loader.proofs.Landing.{is_31, landing_31}

abbrev pub memory_of : State → Memory
memory_of s = record { store = s.store; areas = s.areas }

-- what the transfers with the loader's tag leave
abbrev pub landed : State → Memory
landed s = land s.image (with_tags is_31 s.queue) (memory_of s)

abbrev pub wait_may : (ℕ → Bool) → Bool → May
wait_may free puts = record { regs = one_of (76 ∷ 78 ∷ []); bytes = free; channels = one_of (22 ∷ []); update = true; queue = true; areas = puts }

-- they change only these bytes, and areas only where some of them are PUTs
pub record LandsIn (free : ℕ → Bool) (puts : Bool) (s : State) : Type 0 where
  pub bytes : (k : ℕ) → free k ≡ false → (landed s).store k ≡ s.store k
  pub areas_same : puts ≡ false → (landed s).areas ≡ s.areas

pub record Waits (free : ℕ → Bool) (puts : Bool) (s u : State) (next : ℕ) : Type 0 where
  pub only : Only (wait_may free puts) s u
  pub pc_is : u.pc ≡ next
  pub mask : u.channels 22 ≡ s.channels 22
  pub update_none : u.update ≡ None
  pub queue_is : u.queue ≡ without_tags is_31 s.queue
  pub store_is : u.store ≡ (landed s).store
  pub areas_are : u.areas ≡ (landed s).areas

pub wait_piece : (free : ℕ → Bool) (puts : Bool) (s : State) (b : ℕ) → s.ended ≡ None → s.pc ≡ b + 0 → b % 4 ≡ 0 → b + 32 < 262144 → Stands wait_code s.store b 0
    → s.channels 22 < 2 ^ 32 → ((k : ℕ) → b ≤ k → k < b + 32 → free k ≡ false) → LandsIn free puts s
    → (u : State) × Leads (In (wait_may free puts) b (b + 32) s) 8 s u × Waits free puts s u (b + 32)
wait_piece free puts s b g at al fit code fits fixed lands =
    let m : May = wait_may free puts in
    let set = λ (n t : ℕ) (h : m.channels n ≡ true) (p : ℕ) (s0 s : State). only_sends m n (wd (s.regs t) 0) p h s0 s in
    let t1 = straight m s b (b + 32) b fit fixed al (channel op.Rdch 12 78 ∷ wide op.Ilhu 76 (negsuc 32767) ∷ channel op.Wrch 22 76 ∷ wide op.Il 76 (pos 2) ∷ []) 0 s refl (omega arith) (omega arith) at (only_start _ s g)
    (code.0, (code.1.0, (code.1.1.0, (code.1.1.1.0, tt)))) ((λ p s0 s o. (only_set m 78 p (quad_of (s.channels 22) 0 0 0) refl s0 s o, refl)), (refl, (set 22 76 refl, (refl, tt)))) in
    let u1 : State = after (channel op.Rdch 12 78 ∷ wide op.Ilhu 76 (negsuc 32767) ∷ channel op.Wrch 22 76 ∷ wide op.Il 76 (pos 2) ∷ []) b 0 s in
    let o1 = t1.1 in
    let w2 : wd (u1.regs 76) 0 ≡ 2 = val-il 76 2 _ _ _ _ (omega arith) in
    let u2 : State = record u1 { update = Some 2; pc = b + 20; steps = u1.steps + 1 } in
    let l2 = then_one m s b (b + 32) b fit fixed al u1 u2 (channel op.Wrch 23 76) 16 refl (omega arith) (omega arith) t1.2 o1 code.1.1.1.1.0
    (ap (λ w. updates w (b + 20) u1) w2) in
    let o2 : Only m s u2 = record { running = o1.running; regs = o1.regs; store = o1.store; channels = o1.channels; update = λ h. absurd (let c = h in cc); queue = o1.queue; areas = o1.areas; image = o1.image; mail = o1.mail; output = o1.output } in
    let mask : u2.channels 22 ≡ 2 ^ 31 = val-ilhu 76 _ _ _ _ in
    let u3 : State = answers_by is_31 76 (b + 24) u2 in
    let l3 = then_one m s b (b + 32) b fit fixed al u2 u3 (channel op.Rdch 24 76) 20 refl (omega arith) (omega arith) refl o2 code.1.1.1.1.1.0
    (ap (λ test. answers_by test 76 (b + 24) u2) (ap (λ w. is_landing 2 w s.queue) mask ∙ landing_31 s.queue)) in
    let o3 : Only m s u3 = record {
      running = o1.running;
      regs = λ r j. put_other m.regs 76 r _ u2.regs refl j ∙ o2.regs r j;
      store = lands.bytes;
      channels = o1.channels;
      update = λ h. absurd (let c = h in cc);
      queue = λ h. absurd (let c = h in cc);
      areas = lands.areas_same;
      image = o1.image;
      mail = o1.mail;
      output = o1.output;
    } in
    let t4 = straight m s b (b + 32) b fit fixed al (channel op.Wrch 22 78 ∷ rr op.Sync 0 0 0 ∷ []) 24 u3 refl (omega arith) (omega arith) refl o3 (code.1.1.1.1.1.1.0, (code.1.1.1.1.1.1.1.0, tt)) (set 22 78 refl, (tt, tt)) in (
      _,
      then_leads t1.0 (then_leads l2 (then_leads l3 t4.0)),
      record { only = t4.1; pc_is = t4.2; mask = wd-quad_of (s.channels 22) 0 0 0 fits; update_none = refl; queue_is = refl; store_is = refl; areas_are = refl },
    )
