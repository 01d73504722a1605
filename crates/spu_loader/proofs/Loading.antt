-- From the fetch to the exit: a region is loaded.
use Rattle.std.proofs.Common.{◌≡◌, ℕ, ◌+◌, ◌-◌, ◌*◌, ◌%◌, ◌<◌, ◌≤◌, ◌^◌, ◌⊎◌, List, [], ◌∷◌, ◌++◌, length, refl, sym, ap, ap₂, ◌∙◌, subst, arith, inl, inr, Bool, true, false}
use Rattle.std.specs.Prelude.{◌&&◌, nat_le, nat_lt, slice_index}
use Rattle.std.proofs.lemmas.Bool.{cases_lt, or_parts, and_parts, ltb-true}
use Rattle.std.proofs.lemmas.Bool.Decides.{nat_tests}
use Rattle.std.proofs.Math.Path.{fun_ext}
use Rattle.spu_word.specs.Bytes.{quad_of}
use Rattle.spu_exec.specs.Values.{HasBytes}
use Rattle.spu_ls.specs.Stores.{Store, load}
use Rattle.spu_exec.specs.declared.transfers.Transfer.{Transfer}
use Rattle.spu_exec.specs.Transfers.{Stretch}
use Rattle.spu_ls.specs.Landing.{land}
use Rattle.spu_exec.specs.Tags.{with_tags, without_tags}
use Rattle.spu_ls.specs.Machine.{State}
use Rattle.spu_plan.specs.declared.constants.TheConstants.{LOADER_SIZE, LOADER_CODE_SIZE}
use Rattle.spu_loader.specs.Code.{image_quad, step_quad, fetch_code, command_code, wait_code}
use Rattle.spu_loader.specs.Overlays.{Overlay, buffer_of, place_of, entry_of, slot_of, IsRegion, IsLaid, IsReady}
use Rattle.spu_loader.specs.Entries.{is_within, is_slot}
use Rattle.spu_loader.proofs.Places.{command_from, fetch_from, wait_from}
use Rattle.spu_loader.proofs.Opaque.{wd, quad, wd-quad_0, wd-quad_1, wd-quad_2, bytes_quad}
use Rattle.spu_loader.proofs.Stores.{load_agree, load-save_same}
use Rattle.spu_loader.proofs.Blocks.{Only}
use Rattle.spu_loader.proofs.Joining.{Less, below_lists, only_then, widen, steady_of}
use Rattle.spu_loader.proofs.Fetching.{fetch_may, Fetches, fetch_piece}
use Rattle.spu_loader.proofs.Commands.{command_may, parts, IsImage, IsPart, Orders, command_piece}
use Rattle.spu_loader.proofs.Landing.{is_31, Landed, land_parts, with_31, without_31}
use Rattle.spu_loader.proofs.Waiting.{memory_of, landed, wait_may, Waits, wait_piece}
use Rattle.spu_loader.proofs.Ready.{power_small, opaque_quad, facts, region, fetch_stands, command_stands, wait_stands, image_of, part_of_region}
use Rattle.spu_loader.proofs.Passing.{tail_may, Done, Passes, PassesOnce, passes_then, once_passes, code_at, exits, same_bytes}

module _ (o : Overlay) (laid : IsLaid o) (r : ℕ) (s : State) (ready : IsReady o s) (a : ℕ) (target : (a % 4 ≡ 0) × (a < 262144)) (is_r : IsRegion o r) where
  buffer_bytes : ℕ → Bool
  buffer_bytes = is_within (place_of o r) (o.size r)

  -- the transfers of the region, as they wait
  abbrev waiting_parts : List Transfer
  waiting_parts = parts 4 (place_of o r) (o.size r) (s.image.ea + o.offset r)

  landed_is : (t : State) → t.image ≡ s.image → t.queue ≡ s.queue ++ waiting_parts → Landed s.image (place_of o r) (o.size r) (o.offset r) (memory_of t) (landed t)
  landed_is t im qu =
      let h = (laid.each r is_r).small in
      let few : 2 ^ o.loader.shift ≤ 65536 = power_small o.loader.shift laid.loader.shift.0 laid.loader.shift.1 in
      let e : land t.image (with_tags is_31 t.queue) (memory_of t) ≡ land s.image waiting_parts (memory_of t) =
      ap₂ (λ i q. land i (with_tags is_31 q) (memory_of t)) im qu ∙ ap (λ ts. land s.image ts (memory_of t)) (with_31 s.queue 4 (place_of o r) (o.size r) (s.image.ea + o.offset r) ready.untagged) in
      subst (Landed s.image (place_of o r) (o.size r) (o.offset r) (memory_of t)) (sym e) (land_parts 4 s.image (place_of o r) (o.size r) (o.offset r) (memory_of t) (ready.file.regions r is_r) (omega arith) (laid.each r is_r).some)

  -- where the region's bytes lie
  apart_from : (k : ℕ) → k < o.loader.base + 272 + 16 * o.loader.buffers → buffer_bytes k ≡ false
  unfolding buffer_bytes
  apart_from k h =
      let f = facts o laid in
      let f1 = f.order in
      let f2 = f.below in
      let g = (region o laid r).low in
      grind (arith, nat_tests)

  out_of_buffer : (k : ℕ) → buffer_bytes k ≡ false → (k < place_of o r) ⊎ (place_of o r + o.size r ≤ k)
  unfolding buffer_bytes
  out_of_buffer k h = elim (cases_lt k (place_of o r)) [
    | inl l ↦ inl l
    | inr l ↦ elim (cases_lt k (place_of o r + o.size r)) [ inl u ↦ absurd (let t : is_within (place_of o r) (o.size r) k ≡ true = grind (arith, nat_tests) in let c = sym t ∙ h in cc) | inr u ↦ inr u ]
  ]

  slot_below : (k : ℕ) → is_slot o k ≡ true → buffer_bytes k ≡ false
  slot_below k h = apart_from k (ltb-true _ _ (and_parts (nat_le (o.loader.base + LOADER_SIZE) k) (nat_lt k (o.loader.base + LOADER_SIZE + 16 * o.loader.buffers)) h).1)

  buffer_less : Less (wait_may buffer_bytes false) (tail_may o r)
  unfolding buffer_bytes
  buffer_less = record {
    regs = below_lists (76 ∷ 78 ∷ []) (75 ∷ 76 ∷ 77 ∷ 78 ∷ 79 ∷ []) refl;
    bytes = λ k h. (or_parts (nat_le (slot_of o r) k && nat_lt k (slot_of o r + 16)) (is_within (place_of o r) (o.size r) k) h).1;
    channels = below_lists (22 ∷ []) (16 ∷ 17 ∷ 18 ∷ 19 ∷ 20 ∷ 22 ∷ []) refl;
    update = λ h. h;
    queue = λ h. h;
    areas = λ h. refl;
  }

  -- what a state at the wait, or before, has
  record Loading (t : State) : Type 0 where
    pub only : Only (tail_may o r) s t
    pub target_is : wd (t.regs 79) 0 ≡ a
    pub mask : t.channels 22 ≡ s.channels 22
    pub quad_is : load t.store (slot_of o r) ≡ quad_of r 0 0 0

  -- the wait
  waited : (t : State) → Loading t → t.pc ≡ o.loader.base + wait_from → t.queue ≡ s.queue ++ waiting_parts
      → (u : State) × Passes o r 8 s t u × Only (wait_may buffer_bytes false) t u × Waits buffer_bytes false t u (o.loader.base + wait_from + 32)
  waited t h pc qu =
      let f = facts o laid in
      let f1 = f.base in
      let f2 = f.low in
      let f3 = f.order in
      let is = landed_is t h.only.image qu in
      let x = wait_piece buffer_bytes false t (o.loader.base + wait_from) h.only.running (pc ∙ omega arith) (omega arith) (omega arith) (code_at o laid r s ready t h.only wait_code wait_from (omega arith) (wait_stands o laid s ready))
      (subst (λ w. w < 2 ^ 32) (sym h.mask) ready.mask) (λ k lo hi. apart_from k (omega arith)) (record { bytes = λ k e. is.outside k (out_of_buffer k e); areas_same = λ e. is.areas }) in (
        x.0,
        record {
          leads = widen (wait_may buffer_bytes false) (tail_may o r) o.loader.base (o.loader.base + LOADER_CODE_SIZE) (o.loader.base + wait_from) (o.loader.base + wait_from + 32) s t x.0 8 buffer_less h.only (omega arith) (omega arith) x.1;
          steady = steady_of (is_slot o) (wait_may buffer_bytes false) (o.loader.base + wait_from) (o.loader.base + wait_from + 32) 8 t t x.0 slot_below x.1 x.2.only;
        },
        x.2.only,
        x.2,
      )

  -- the wait, and the exit
  waiting : (t : State) → Loading t → t.pc ≡ o.loader.base + wait_from → t.queue ≡ s.queue ++ waiting_parts → (u : State) × Passes o r 9 s t u × Done o r a s u
  waiting t h pc qu =
      let x = waited t h pc qu in
      let u = x.0 in
      let p = only_then (wait_may buffer_bytes false) (tail_may o r) s t u buffer_less h.only x.2 in
      let y = exits o laid r s ready a target u p (x.3.pc_is ∙ omega arith) (ap (λ q. wd q 0) (x.2.regs 79 refl) ∙ h.target_is) in
      let is = landed_is t h.only.image qu in
      let st : y.0.store ≡ (landed t).store = same_bytes o laid r s ready a target [] u y.0 y.3 ∙ x.3.store_is in
      let im : y.0.image ≡ s.image = y.3.image ∙ x.2.image ∙ h.only.image in
      let f = facts o laid in
      let g = region o laid r in
      let g1 = g.slot_high in (
        y.0,
        passes_then o r 8 1 s t u y.0 x.1 y.1,
        record {
          only = y.2;
          pc_is = y.4;
          mask = y.3.channels 22 refl ∙ x.3.mask ∙ h.mask;
          queue_is = y.3.queue refl ∙ x.3.queue_is ∙ ap (without_tags is_31) qu ∙ without_31 s.queue 4 (place_of o r) (o.size r) (s.image.ea + o.offset r) ready.untagged;
          mapped = λ some. record {
            quad = ap (λ (m : Store). load m (slot_of o r)) st ∙ load_agree (landed t).store t.store (slot_of o r) (λ k lo hi. is.outside k (out_of_buffer k (apart_from k (omega arith)))) ∙ h.quad_is;
            bytes = λ k lt. ap (λ (m : Store). m (place_of o r + k)) st ∙ is.inside k lt ∙ ap (λ (i : Stretch). slice_index i.bytes (o.offset r + k)) (sym im);
          };
          root = λ e. absurd (let i = is_r.0 in omega arith);
        },
      )

  command_less : Less command_may (tail_may o r)
  command_less = record {
    regs = below_lists (75 ∷ 76 ∷ 77 ∷ 78 ∷ []) (75 ∷ 76 ∷ 77 ∷ 78 ∷ 79 ∷ []) refl;
    bytes = λ k h. refl;
    channels = below_lists (16 ∷ 17 ∷ 18 ∷ 19 ∷ 20 ∷ []) (16 ∷ 17 ∷ 18 ∷ 19 ∷ 20 ∷ 22 ∷ []) refl;
    update = λ h. refl;
    queue = λ h. h;
    areas = λ h. refl;
  }

  -- what lies apart from the mapped quadword and the buffer is read as before
  kept_quad : (t : State) (p : ℕ) → Only (tail_may o r) s t → (p + 16 ≤ slot_of o r) ⊎ (slot_of o r + 16 ≤ p) → p + 16 ≤ place_of o r → load t.store p ≡ load s.store p
  kept_quad t p h apart l = load_agree t.store s.store p (λ k x y. h.store k (elim apart [ inl z ↦ grind (arith, nat_tests) | inr z ↦ grind (arith, nat_tests) ]))

  -- the commands
  commanded : (t : State) → Loading t → t.pc ≡ o.loader.base + command_from → t.queue ≡ s.queue → t.regs 77 ≡ quad (place_of o r) (o.size r) (o.offset r) (buffer_of o r + 1)
      → (k : ℕ) × (u : State) × (k ≤ 92) × Passes o r k s t u × Only command_may t u × Orders t u (place_of o r) (o.size r) (o.offset r) 4 (o.loader.base + command_from + 92)
  commanded t h pc qu entry =
      let f = facts o laid in
      let f1 = f.base in
      let f2 = f.low in
      let f3 = f.order in
      let f4 = f.below in
      let f5 = f.few in
      let g = region o laid r in
      let g1 = g.slot_high in
      let g2 = g.low in
      let g3 = g.high in
      let q2 : load t.store (image_quad o.loader) ≡ load s.store (image_quad o.loader) = kept_quad t (image_quad o.loader) h.only (inr (omega arith)) (omega arith) in
      let q3 : load t.store (step_quad o.loader) ≡ load s.store (step_quad o.loader) = kept_quad t (step_quad o.loader) h.only (inr (omega arith)) (omega arith) in
      let size_small = (laid.each r is_r).small in
      let size_some = (laid.each r is_r).some in
      let word = (laid.each r is_r).word in
      let few : 2 ^ o.loader.shift ≤ 65536 = power_small o.loader.shift laid.loader.shift.0 laid.loader.shift.1 in
      let whole = ready.file.regions r is_r in
      let queue_length : length t.queue ≡ length s.queue = ap length qu in
      let queue_few = ready.few in
      let x = command_piece o.loader (o.loader.base + command_from) (image_quad o.loader) (step_quad o.loader) (omega arith) (omega arith) f.few (omega arith) (omega arith)
      4 t (place_of o r) (o.size r) (o.offset r) h.only.running (pc ∙ omega arith) (code_at o laid r s ready t h.only (command_code o.loader) command_from (omega arith) (command_stands o laid s ready))
      (subst (λ (i : Stretch). IsImage i (load t.store (image_quad o.loader))) (sym h.only.image) (subst (IsImage s.image) (sym q2) (image_of o laid s ready r is_r)))
      (q3 ∙ ready.holds.step_is ∙ opaque_quad 16384 (2 ^ 32 - 16384) 16384 0)
      (record {
        place = ap (λ q. wd q 0) entry ∙ wd-quad_0 (place_of o r) (o.size r) (o.offset r) (buffer_of o r + 1) (omega arith);
        size_is = ap (λ q. wd q 1) entry ∙ wd-quad_1 (place_of o r) (o.size r) (o.offset r) (buffer_of o r + 1) (omega arith);
        offset = ap (λ q. wd q 2) entry ∙ wd-quad_2 (place_of o r) (o.size r) (o.offset r) (buffer_of o r + 1) (omega arith);
        bytes = subst HasBytes (sym entry) (bytes_quad (place_of o r) (o.size r) (o.offset r) (buffer_of o r + 1));
      })
      (subst (λ (i : Stretch). IsPart i (place_of o r) (o.size r) (o.offset r)) (sym h.only.image) (part_of_region o laid s ready r is_r)) (omega arith) (omega arith) in (
        x.0,
        x.1,
        x.2,
        record {
          leads = widen command_may (tail_may o r) o.loader.base (o.loader.base + LOADER_CODE_SIZE) (o.loader.base + command_from) (o.loader.base + command_from + 92) s t x.1 x.0 command_less h.only (omega arith) (omega arith) x.3;
          steady = steady_of (is_slot o) command_may (o.loader.base + command_from) (o.loader.base + command_from + 92) x.0 t t x.1 (λ k e. refl) x.3 x.4.only;
        },
        x.4.only,
        x.4,
      )

  -- the commands, the wait, and the exit
  commanding : (t : State) → Loading t → t.pc ≡ o.loader.base + command_from → t.queue ≡ s.queue → t.regs 77 ≡ quad (place_of o r) (o.size r) (o.offset r) (buffer_of o r + 1)
      → (k : ℕ) × (u : State) × (k ≤ 101) × Passes o r k s t u × Done o r a s u
  commanding t h pc qu entry =
      let x = commanded t h pc qu entry in
      let u = x.1 in
      let only = x.4 in
      let st : u.store ≡ t.store = fun_ext (λ k. only.store k refl) in
      let queue : u.queue ≡ s.queue ++ waiting_parts = x.5.queue_is ∙ ap₂ (λ q (i : Stretch). q ++ parts 4 (place_of o r) (o.size r) (i.ea + o.offset r)) qu h.only.image in
      let h1 : Loading u = record {
        only = only_then command_may (tail_may o r) s t u command_less h.only only;
        target_is = ap (λ q. wd q 0) (only.regs 79 refl) ∙ h.target_is;
        mask = only.channels 22 refl ∙ h.mask;
        quad_is = ap (λ (m : Store). load m (slot_of o r)) st ∙ h.quad_is;
      } in
      let y = waiting u h1 (x.5.pc_is ∙ omega arith) queue in
      (x.0 + 9, y.0, (let le = x.2 in omega arith), passes_then o r x.0 9 s t u y.0 x.3 y.1, y.2)

  fetch_less : Less (fetch_may (slot_of o r)) (tail_may o r)
  fetch_less = record {
    regs = below_lists (75 ∷ 76 ∷ 77 ∷ []) (75 ∷ 76 ∷ 77 ∷ 78 ∷ 79 ∷ []) refl;
    bytes = λ k h. (or_parts (nat_le (slot_of o r) k && nat_lt k (slot_of o r + 16)) (is_within (place_of o r) (o.size r) k) h).0;
    channels = λ k h. refl;
    update = λ h. refl;
    queue = λ h. refl;
    areas = λ h. refl;
  }

  -- the fetch
  fetched : (t : State) → Only (tail_may o r) s t → t.pc ≡ o.loader.base + fetch_from → t.store ≡ s.store → wd (t.regs 76) 0 ≡ slot_of o r → wd (t.regs 78) 0 ≡ r → HasBytes (t.regs 78)
      → (u : State) × PassesOnce o r 7 s t u × Fetches t u (slot_of o r) r (entry_of o r) (o.loader.base + fetch_from + 28)
  fetched t p pc st r76 r78 bytes =
      let f = facts o laid in
      let f1 = f.base in
      let f2 = f.low in
      let f3 = f.order in
      let f4 = f.below in
      let f5 = f.few in
      let f6 = f.fits in
      let f7 = laid.table in
      let f8 = is_r.1 in
      let g = region o laid r in
      let g1 = g.slot_high in
      let g2 = g.slot_low in
      let x = fetch_piece o.loader t (o.loader.base + fetch_from) (slot_of o r) r (entry_of o r) p.running (pc ∙ omega arith) (omega arith) (omega arith) (code_at o laid r s ready t p (fetch_code o.loader) fetch_from (omega arith) (fetch_stands o laid s ready))
      r76 (omega arith) (omega arith) (inl (omega arith)) r78 bytes (omega arith) refl (omega arith) (omega arith) (inr (omega arith)) (is_slot o) in (
        x.0,
        record {
          leads = widen (fetch_may (slot_of o r)) (tail_may o r) o.loader.base (o.loader.base + LOADER_CODE_SIZE) (o.loader.base + fetch_from) (o.loader.base + fetch_from + 28) s t x.0 7 fetch_less p (omega arith) (omega arith) x.1;
          once = x.2;
        },
        x.3,
      )

  -- all that loads
  pub loading : (t : State) → Only (tail_may o r) s t → t.pc ≡ o.loader.base + fetch_from → t.store ≡ s.store → t.queue ≡ s.queue → t.channels 22 ≡ s.channels 22 → wd (t.regs 76) 0 ≡ slot_of o r → wd (t.regs 78) 0 ≡ r → HasBytes (t.regs 78) → wd (t.regs 79) 0 ≡ a
      → (k : ℕ) × (u : State) × (k ≤ 108) × PassesOnce o r k s t u × Done o r a s u
  loading t p pc st qu mask r76 r78 bytes r79 =
      let x = fetched t p pc st r76 r78 bytes in
      let u = x.0 in
      let only = x.2.only in
      let h : Loading u = record {
        only = only_then (fetch_may (slot_of o r)) (tail_may o r) s t u fetch_less p only;
        target_is = ap (λ q. wd q 0) (only.regs 79 refl) ∙ r79;
        mask = only.channels 22 refl ∙ mask;
        quad_is = ap (λ (m : Store). load m (slot_of o r)) x.2.mapped ∙ load-save_same t.store (slot_of o r) r 0 0 0 ∙ sym (opaque_quad r 0 0 0);
      } in
      let entry : u.regs 77 ≡ quad (place_of o r) (o.size r) (o.offset r) (buffer_of o r + 1) = x.2.entry_is ∙ ap (λ (m : Store). load m (entry_of o r)) st ∙ ready.holds.table r is_r ∙ opaque_quad (place_of o r) (o.size r) (o.offset r) (buffer_of o r + 1) in
      let y = commanding u h (x.2.at ∙ omega arith) (only.queue refl ∙ qu) entry in
      (7 + y.0, y.1, (let le = y.2 in omega arith), once_passes o r 7 y.0 s t u y.1 x.1 y.3, y.4)
