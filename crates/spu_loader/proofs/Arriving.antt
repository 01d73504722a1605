-- The two entries: from the return entry, and from a function's stub.
use Rattle.std.proofs.Common.{◌≡◌, ◌≢◌, ℕ, ◌+◌, ◌-◌, ◌*◌, ◌/◌, ◌%◌, ◌<◌, ◌≤◌, ◌^◌, List, [], ◌∷◌, None, refl, sym, ap, ◌∙◌, subst, arith, inl, inr, false, pos}
use Rattle.std.specs.Prelude.{◌==◌, if◌then◌else◌}
use Rattle.std.proofs.lemmas.Bool.{eqb-true, eqb-false, cases_Bool}
use Rattle.std.proofs.lemmas.Bool.Decides.{nat_tests}
use Rattle.spu_word.specs.Bytes.{word_of}
use Rattle.spu_isa.specs.declared.operation.Op.TheVariants as op
use Rattle.spu_isa.specs.Table.{signed}
use Rattle.spu_exec.specs.Lanes.{immediate}
use Rattle.spu_exec.specs.Places.{code_mask}
use Rattle.spu_exec.specs.Values.{HasBytes}
use Rattle.spu_ls.specs.Stores.{Store, load}
use Rattle.spu_ls.specs.Machine.{State, goes}
use Rattle.spu_plan.specs.declared.constants.TheConstants.{RETURN_OFFSET, LOADER_CODE_SIZE}
use Rattle.spu_loader.specs.Forms.{rr, wide}
use Rattle.spu_loader.specs.Code.{return_quad, return_code, stub_code}
use Rattle.spu_loader.specs.Overlays.{Overlay, buffer_of, slot_of, IsLaid, IsReady, IsStub, IsLink, Direct, Kept}
use Rattle.spu_loader.specs.Entries.{is_slot, IsUnderway, is_scratch, is_transfer, Arrived, Arrives, LoadEntry, ReturnEntry}
use Rattle.spu_loader.proofs.Places.{test_from}
use Rattle.spu_loader.proofs.Opaque.{wd, quad, loc, loc-br, jumps-br, val-ila, wd-quad_1, wd-quad_2, bytes_quad, bytes_turned, bytes_words}
use Rattle.spu_loader.proofs.Blocks.{Stands, Leads, May, Only, In, turning, then_leads}
use Rattle.spu_loader.proofs.Joining.{one_of, none, only_regs, only_start, leads_map, piece_at, stands_from, Steady, steady_of, steady_then, steady_then_once}
use Rattle.spu_loader.proofs.Pieces.{return_piece, relink_may, Relinks, relink_other, relink_direct}
use Rattle.spu_loader.proofs.Shifts.{by_shift}
use Rattle.spu_loader.proofs.Wrapping.{branch_leads}
use Rattle.spu_loader.proofs.Ready.{opaque_quad, ready_after, same_store, facts, region, relink_stands, return_stands}
use Rattle.spu_loader.proofs.Passing.{tail_may, Done}
use Rattle.spu_loader.proofs.Tail.{Tails, tail}

-- a state inside a piece is underway
underway_of : (o : Overlay) (p : ℕ) (m : May) (lo hi : ℕ) (s t x : State) → m.regs 1 ≡ false → t.regs 1 ≡ s.regs 1 → o.loader.base ≤ lo → hi ≤ o.loader.base + LOADER_CODE_SIZE → In m lo hi t x → IsUnderway o p s x
underway_of o p m lo hi s t x h e l u i = record { running = i.only.running; inside = inr (let a = i.low in omega arith, let a = i.high in omega arith); pointer = i.only.regs 1 h ∙ e }

scratch_out : (k : ℕ) → is_scratch k ≡ false → one_of (75 ∷ 76 ∷ 77 ∷ 78 ∷ 79 ∷ []) k ≡ false
scratch_out k h = grind (arith, nat_tests)

transfer_out : (n : ℕ) → is_transfer n ≡ false → n ≢ 22 → one_of (16 ∷ 17 ∷ 18 ∷ 19 ∷ 20 ∷ 22 ∷ []) n ≡ false
transfer_out n h ne = grind (arith, nat_tests)

-- what the way to L1 leaves
pub record Comes (link : List ℕ) (s t : State) : Type 0 where
  pub link_is : t.regs 0 ≡ link
  pub regs : (k : ℕ) → is_scratch k ≡ false → t.regs k ≡ s.regs k
  pub store : t.store ≡ s.store
  pub channels : (n : ℕ) → t.channels n ≡ s.channels n
  pub queue : t.queue ≡ s.queue
  pub areas : t.areas ≡ s.areas
  pub image : t.image ≡ s.image
  pub mail : t.mail ≡ s.mail
  pub output : t.output ≡ s.output

arrived_of : (o : Overlay) (r a : ℕ) (link : List ℕ) (s t u : State) → Comes link s t → Done o r a t u → Arrived o r a link s u
arrived_of o r a link s t u c d =
    let p = d.only in
    record {
      running = p.running;
      pc_is = d.pc_is;
      link_is = p.regs 0 refl ∙ c.link_is;
      regs = λ k h. p.regs k (scratch_out k h) ∙ c.regs k h;
      mapped = d.mapped;
      kept = λ k h. p.store k h ∙ ap (λ (m : Store). m k) c.store;
      root = λ e. d.root e ∙ c.store;
      channels = λ n h. elim (cases_Bool (n == 22)) [
        | inl e ↦ (let i : n ≡ 22 = eqb-true n 22 e in ap u.channels i ∙ d.mask ∙ ap t.channels (sym i) ∙ c.channels n)
        | inr e ↦ p.channels n (transfer_out n h (eqb-false n 22 e)) ∙ c.channels n
      ];
      queue = d.queue_is ∙ c.queue;
      areas = p.areas refl ∙ c.areas;
      image = p.image ∙ c.image;
      mail = p.mail ∙ c.mail;
      output = p.output ∙ c.output;
    }

-- the way to L1, and on from there
joined : (o : Overlay) (laid : IsLaid o) (p r a : ℕ) (link : List ℕ) (s t : State) (ready : IsReady o t) (target : (a % 4 ≡ 0) × (a < 262144)) (n : ℕ) → n ≤ 100 → Leads (IsUnderway o p s) n s t → Steady (is_slot o) n s → Comes link s t → t.regs 1 ≡ s.regs 1 → Tails o laid r t ready a target → Arrives o p r a link s
joined o laid p r a link s t ready target n few leads steady comes pointer x =
    let all = then_leads leads (leads_map (λ y i. underway_of o p (tail_may o r) o.loader.base (o.loader.base + LOADER_CODE_SIZE) s t y refl pointer (omega arith) (omega arith) i) x.passes.leads) in
    let once = steady_then_once (is_slot o) n x.count s t steady leads.to x.passes.once in
    record {
      count = n + x.count;
      within = (let w = x.within in omega arith);
      underway = all.along;
      once = once;
      arrived = subst (Arrived o r a link s) (sym all.to) (arrived_of o r a link s t x.end comes x.done);
    }

pub return_entry : ReturnEntry
return_entry o r a s laid ready is_r target pc link =
    let f = facts o laid in
    let f1 = f.base in
    let f2 = f.low in
    let f4 = f.below in
    let f6 = f.fits in
    let r1 = is_r.1 in
    let even = target.0 in
    let fits = target.1 in
    let e : o.loader.base + RETURN_OFFSET ≡ o.loader.base + RETURN_OFFSET + 0 = omega arith in
    let stands : Stands return_code s.store (o.loader.base + RETURN_OFFSET) 0 = piece_at none s.store s.store o.loader.base (o.loader.base + LOADER_CODE_SIZE) o.loader.base (λ k h. refl) (λ k l h. refl) return_code RETURN_OFFSET 0 (omega arith) (omega arith) (return_stands o laid s ready) in
    let x = return_piece s (o.loader.base + RETURN_OFFSET) (o.loader.base + test_from) ready.running (pc ∙ e) (omega arith) (omega arith) stands (omega arith) in
    let t = x.0 in
    let only = x.2.only in
    let ready_t = ready_after o (78 ∷ 79 ∷ []) s t only ready in
    let q : s.regs 0 ≡ quad (o.loader.base + RETURN_OFFSET) r a 0 = link ∙ opaque_quad (o.loader.base + RETURN_OFFSET) r a 0 in
    let w1 : wd (t.regs 78) 0 ≡ r = x.2.region ∙ ap (λ q. wd q 1) q ∙ wd-quad_1 (o.loader.base + RETURN_OFFSET) r a 0 (omega arith) in
    let w2 : wd (t.regs 79) 0 ≡ a = x.2.target ∙ ap (λ q. wd q 2) q ∙ wd-quad_2 (o.loader.base + RETURN_OFFSET) r a 0 (omega arith) in
    let bytes : HasBytes (t.regs 78) = subst HasBytes (sym x.2.turned) (bytes_turned 78 0 (pos 4) (s.regs 0) (s.regs 0) (s.regs 0) (s.regs 78) (subst HasBytes (sym q) (bytes_quad (o.loader.base + RETURN_OFFSET) r a 0))) in
    joined o laid o.loader.base r a (s.regs 0) s t ready_t target 3 (omega arith)
    (leads_map (λ y i. underway_of o o.loader.base (only_regs (78 ∷ 79 ∷ [])) (o.loader.base + RETURN_OFFSET) (o.loader.base + RETURN_OFFSET + 12) s s y refl refl (omega arith) (omega arith) i) x.1)
    (steady_of (is_slot o) (only_regs (78 ∷ 79 ∷ [])) (o.loader.base + RETURN_OFFSET) (o.loader.base + RETURN_OFFSET + 12) 3 s s t (λ k e. refl) x.1 only)
    (record { link_is = only.regs 0 refl; regs = λ k h. only.regs k (scratch_pair k h); store = same_store (78 ∷ 79 ∷ []) s t only; channels = λ n. only.channels n refl; queue = only.queue refl; areas = only.areas refl; image = only.image; mail = only.mail; output = only.output })
    (only.regs 1 refl)
    (tail o laid r t ready_t a target x.2.at (is_r.1) w1 bytes w2)
  where
    scratch_pair : (k : ℕ) → is_scratch k ≡ false → one_of (78 ∷ 79 ∷ []) k ≡ false
    scratch_pair k h = grind (arith, nat_tests)

-- ---- the stub

stub_may : May
stub_may = only_regs (78 ∷ 79 ∷ [])

pub record Stubbed (o : Overlay) (p r a : ℕ) (s t : State) : Type 0 where
  pub only : Only (only_regs (78 ∷ 79 ∷ [])) s t
  pub pc_is : t.pc ≡ o.loader.base
  pub region_is : wd (t.regs 78) 0 ≡ r
  pub bytes : HasBytes (t.regs 78)
  pub target_is : wd (t.regs 79) 0 ≡ a

stub_piece : (o : Overlay) (laid : IsLaid o) (p r a : ℕ) (s : State) → IsStub o p r a s.store → s.ended ≡ None → s.pc ≡ p → (t : State) × Leads (In (only_regs (78 ∷ 79 ∷ [])) p (p + 16) s) 4 s t × Stubbed o p r a s t
stub_piece o laid p r a s stub g pc =
    let f = facts o laid in
    let f1 = f.low in
    let f4 = f.below in
    let f6 = f.fits in
    let b = stub.before in
    let n = stub.region in
    let e0 : p + 0 ≡ p = omega arith in
    let code = stands_from (stub_code o.loader.base p r a) s.store p stub.code in
    let n : ℕ = (o.loader.base - (p + 12)) / 4 in
    let there : code_mask (p + 12 + 4 * immediate 4 (signed 16 n)) ≡ o.loader.base = branch_leads n (p + 12) o.loader.base (omega arith) (let al = stub.aligned in omega arith) (let i = f.base in let al = stub.aligned in omega arith) (omega arith) in
    let t = turning (only_regs (78 ∷ 79 ∷ [])) s p (p + 16) p (omega arith) (λ k l h. refl) stub.aligned (wide op.Ila 78 (pos r) ∷ rr op.Lnop 0 0 0 ∷ wide op.Ila 79 (pos a) ∷ []) (wide op.Br 0 (signed 16 n)) 0 o.loader.base s refl (omega arith) (omega arith) (pc ∙ sym e0) (only_start _ s g)
    (code.0, (code.1.0, (code.1.1.0, tt))) (refl, (tt, (refl, tt))) code.1.1.1.0
    (λ u e q. ap (λ t. if t then goes (loc (wide op.Br 0 (signed 16 n)) u.pc (u.regs 0) (u.regs 0)) u else goes (p + 16) u) (jumps-br (signed 16 n) (u.regs 0))
    ∙ ap (λ i. goes i u) (loc-br (signed 16 n) u.pc (u.regs 0) (u.regs 0) ∙ ap (λ i. code_mask (i + 4 * immediate 4 (signed 16 n))) q ∙ there)) in
    (_, t.0, record { only = t.1; pc_is = refl; region_is = val-ila 78 r _ _ _ _ (omega arith); bytes = bytes_words (wide op.Ila 78 (pos r)) _ _ _ _ refl; target_is = val-ila 79 a _ _ _ _ (stub.target.1) })

-- ---- relink

-- the buffer in which a return address lies, which may be the first byte of the next one
buffer_index : (buffer k a s : ℕ) → 10 ≤ s → s ≤ 16 → buffer + 2 ^ s * k + 4 ≤ a → a ≤ buffer + 2 ^ s * k + 2 ^ s → (a - (buffer + 4)) / 2 ^ s ≡ k
buffer_index buffer k a s low high =
    by_shift (λ s. buffer + 2 ^ s * k + 4 ≤ a → a ≤ buffer + 2 ^ s * k + 2 ^ s → (a - (buffer + 4)) / 2 ^ s ≡ k)
    (λ h l. omega arith) (λ h l. omega arith) (λ h l. omega arith) (λ h l. omega arith) (λ h l. omega arith) (λ h l. omega arith) (λ h l. omega arith) s low high

pub record Relinked (o : Overlay) (link : List ℕ) (t : State) : Type 0 where
  pub count : ℕ
  pub end : State
  pub within : count ≤ 15
  pub leads : Leads (In relink_may o.loader.base (o.loader.base + test_from) t) count t end
  pub does : Relinks t end link (o.loader.base + test_from)

opaque_word : (q : List ℕ) (n : ℕ) → word_of q 0 < n → wd q 0 < n
unfolding wd
opaque_word q n h = h

relinked : (o : Overlay) (laid : IsLaid o) (s t : State) (link : List ℕ) → IsReady o t → t.pc ≡ o.loader.base → t.regs 0 ≡ s.regs 0 → t.store ≡ s.store → t.image ≡ s.image → IsLink o s link → Relinked o link t
relinked o laid s t link ready pc r0 st im (Kept below) =
    let f = facts o laid in
    let f1 = f.base in
    let f2 = f.low in
    let e0 : o.loader.base ≡ o.loader.base + 0 = omega arith in
    let x = relink_other o.loader t o.loader.base ready.running (pc ∙ e0) (omega arith) (omega arith) (relink_stands o laid t ready) laid.loader.buffer (subst (λ q. wd q 0 < o.loader.buffer) (sym r0) (opaque_word (s.regs 0) o.loader.buffer below)) in
    record { count = 3; end = x.0; within = omega arith; leads = x.1; does = record { only = x.2.only; at = x.2.at; link = x.2.link ∙ r0 } }
relinked o laid s t link ready pc r0 st im (Direct r a is_r mapped low high direct) =
    let f = facts o laid in
    let f1 = f.base in
    let f2 = f.low in
    let f3 = f.order in
    let f4 = f.below in
    let f5 = f.few in
    let f6 = f.fits in
    let g = region o laid r in
    let g1 = g.slot_high in
    let g2 = g.high in
    let g3 = g.low in
    let small = (laid.each r is_r).small in
    let e0 : o.loader.base ≡ o.loader.base + 0 = omega arith in
    let x = relink_direct o.loader t o.loader.base ready.running (pc ∙ e0) (omega arith) (omega arith) (relink_stands o laid t ready) laid.loader.buffer laid.loader.shift
    a r (o.loader.base + RETURN_OFFSET) (buffer_of o r) (return_quad o.loader) (r0 ∙ direct ∙ opaque_quad a 0 0 0) (omega arith) (omega arith)
    (buffer_index o.loader.buffer (buffer_of o r) a o.loader.shift laid.loader.shift.0 laid.loader.shift.1 low (omega arith)) (omega arith) (omega arith) f5 (omega arith)
    (ap (λ (m : Store). load m (slot_of o r)) st ∙ mapped.quad ∙ opaque_quad r 0 0 0) (ready.holds.returns ∙ opaque_quad (o.loader.base + RETURN_OFFSET) 0 0 0) in
    record { count = 15; end = x.0; within = omega arith; leads = x.1; does = record { only = x.2.only; at = x.2.at; link = x.2.link ∙ sym (opaque_quad (o.loader.base + RETURN_OFFSET) r a 0) } }

-- ---- the load entry

pub load_entry : LoadEntry
load_entry o p r a link s laid ready stub pc is_link =
    let f = facts o laid in
    let x = stub_piece o laid p r a s stub ready.running pc in
    let t = x.0 in
    let only = x.2.only in
    let ready_t = ready_after o (78 ∷ 79 ∷ []) s t only ready in
    let st = same_store (78 ∷ 79 ∷ []) s t only in
    let y = relinked o laid s t link ready_t x.2.pc_is (only.regs 0 refl) st only.image is_link in
    let u = y.end in
    let next = y.does.only in
    let ready_u = ready_after o (0 ∷ 75 ∷ 76 ∷ 77 ∷ []) t u next ready_t in
    let leads = then_leads (leads_map (λ z i. in_stub o p s z i) x.1) (leads_map (λ z i. underway_of o p relink_may o.loader.base (o.loader.base + test_from) s t z refl (only.regs 1 refl) (omega arith) (omega arith) i) y.leads) in
    joined o laid p r a link s u ready_u stub.target (4 + y.count) (let w = y.within in omega arith) leads
    (steady_then (is_slot o) 4 y.count s t (steady_of (is_slot o) (only_regs (78 ∷ 79 ∷ [])) p (p + 16) 4 s s t (λ k e. refl) x.1 only) x.1.to
    (steady_of (is_slot o) relink_may o.loader.base (o.loader.base + test_from) y.count t t u (λ k e. refl) y.leads next))
    (record {
      link_is = y.does.link;
      regs = λ k h. next.regs k (relink_out k h) ∙ only.regs k (stub_out k h);
      store = same_store (0 ∷ 75 ∷ 76 ∷ 77 ∷ []) t u next ∙ st;
      channels = λ n. next.channels n refl ∙ only.channels n refl;
      queue = next.queue refl ∙ only.queue refl;
      areas = next.areas refl ∙ only.areas refl;
      image = next.image ∙ only.image;
      mail = next.mail ∙ only.mail;
      output = next.output ∙ only.output;
    })
    (next.regs 1 refl ∙ only.regs 1 refl)
    (tail o laid r u ready_u a stub.target y.does.at stub.region (ap (λ q. wd q 0) (next.regs 78 refl) ∙ x.2.region_is) (subst HasBytes (sym (next.regs 78 refl)) x.2.bytes) (ap (λ q. wd q 0) (next.regs 79 refl) ∙ x.2.target_is))
  where
    stub_out : (k : ℕ) → is_scratch k ≡ false → one_of (78 ∷ 79 ∷ []) k ≡ false
    stub_out k h = grind (arith, nat_tests)

    relink_out : (k : ℕ) → is_scratch k ≡ false → one_of (0 ∷ 75 ∷ 76 ∷ 77 ∷ []) k ≡ false
    relink_out k h = grind (arith, nat_tests)

    in_stub : (o : Overlay) (p : ℕ) (s z : State) → In (only_regs (78 ∷ 79 ∷ [])) p (p + 16) s z → IsUnderway o p s z
    in_stub o p s z i = record { running = i.only.running; inside = inl (i.low, i.high); pointer = i.only.regs 1 refl }
