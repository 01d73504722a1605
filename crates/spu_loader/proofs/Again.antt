-- After the loader has run, it can run again: the quadwords, the table and the words stand, and each buffer holds nothing or one
-- of its regions.
use Rattle.std.proofs.Common.{◌≡◌, ◌≢◌, ℕ, ◌+◌, ◌*◌, ◌/◌, ◌%◌, ◌<◌, ◌≤◌, ◌^◌, ◌⊎◌, length, refl, sym, ap, ◌∙◌, subst, arith, inl, inr, false}
use Rattle.std.specs.Prelude.{◌==◌, slice_index}
use Rattle.std.proofs.lemmas.Bool.{cases_lt, eqb-true, eqb-false, cases_Bool}
use Rattle.std.proofs.lemmas.Bool.Decides.{nat_tests}
use Rattle.spu_word.specs.Bytes.{quad_of}
use Rattle.spu_isa.specs.Decoding.{decoded}
use Rattle.spu_ls.specs.Stores.{Store, load}
use Rattle.spu_exec.specs.Transfers.{Stretch}
use Rattle.spu_exec.specs.Tags.{waits}
use Rattle.spu_ls.specs.Machine.{State}
use Rattle.spu_loader.specs.Code.{mapped_at, return_quad, image_quad, step_quad}
use Rattle.spu_loader.specs.Overlays.{Overlay, buffer_of, place_of, entry_of, slot_of, IsRegion, IsLaid, Holds, HoldsFile, HasBuffer}
use Rattle.spu_loader.specs.Entries.{is_loaded, ReadyAgain, KeepsBelow}
use Rattle.spu_loader.proofs.Stores.{load_agree, fetch_agree}
use Rattle.spu_loader.proofs.Ready.{facts, region}

-- two buffers don't touch
buffers_apart : (size j k : ℕ) → j < k → size * j + size ≤ size * k
buffers_apart size j k h = grind arith

module _ (o : Overlay) (laid : IsLaid o) (r : ℕ) (s u : State) (st : (k : ℕ) → is_loaded o r k ≡ false → u.store k ≡ s.store k) where
  -- what lies below the buffers and apart from the quadword is read as before
  low_quad : (p : ℕ) → (p + 16 ≤ slot_of o r) ⊎ (slot_of o r + 16 ≤ p) → p + 16 ≤ o.loader.buffer → load u.store p ≡ load s.store p
  low_quad p apart l =
      let g = (region o laid r).low in
      load_agree u.store s.store p (λ k x y. st k (elim apart [ inl z ↦ grind (arith, nat_tests) | inr z ↦ grind (arith, nat_tests) ]))

  holds_again : u.image ≡ s.image → Holds o s.store s.image → Holds o u.store u.image
  holds_again im h =
      let f = facts o laid in
      let f1 = f.base in
      let f3 = f.order in
      let f4 = f.below in
      let g = region o laid r in
      let g1 = g.slot_low in
      let g2 = g.slot_high in
      let g3 = g.low in
      record {
        code = λ n l. ap decoded (fetch_agree u.store s.store (o.loader.base + 4 * n) (λ k x y. st k (grind (arith, nat_tests)))) ∙ h.code n l;
        returns = low_quad (return_quad o.loader) (inr (omega arith)) (omega arith) ∙ h.returns;
        image_is = low_quad (image_quad o.loader) (inr (omega arith)) (omega arith) ∙ h.image_is ∙ ap (λ (i : Stretch). quad_of (i.ea / 2 ^ 32) (i.ea % 2 ^ 32) 0 0) (sym im);
        step_is = low_quad (step_quad o.loader) (inr (omega arith)) (omega arith) ∙ h.step_is;
        table = λ m i. (let i1 = i.1 in low_quad (entry_of o m) (inr (omega arith)) (omega arith)) ∙ h.table m i;
      }

  -- another buffer holds what it held
  other_buffer : (k : ℕ) → k < o.loader.buffers → k ≢ buffer_of o r → u.image ≡ s.image → IsRegion o r → HasBuffer o k s.store s.image → HasBuffer o k u.store u.image
  other_buffer k few ne im is_r (inl none) =
      let f = facts o laid in
      let f3 = f.order in
      let f4 = f.below in
      inl (low_quad (mapped_at o.loader k) (elim (cases_lt k (buffer_of o r)) [ inl l ↦ inl (omega arith) | inr l ↦ inr (omega arith) ]) (omega arith) ∙ none)
  other_buffer k few ne im is_r (inr x) =
      let f = facts o laid in
      let f3 = f.order in
      let f4 = f.below in
      let m = x.0 in
      let at : buffer_of o m ≡ k = x.2 in
      let small = (laid.each m x.1).small in
      let small_r = (laid.each r is_r).small in
      let slot : (slot_of o m + 16 ≤ slot_of o r) ⊎ (slot_of o r + 16 ≤ slot_of o m) = elim (cases_lt k (buffer_of o r)) [ inl l ↦ inl (omega arith) | inr l ↦ inr (omega arith) ] in
      let place : (place_of o m + o.size m ≤ place_of o r) ⊎ (place_of o r + o.size r ≤ place_of o m) =
      elim (cases_lt k (buffer_of o r)) [
        | inl l ↦ inl (let b = buffers_apart (2 ^ o.loader.shift) (buffer_of o m) (buffer_of o r) (omega arith) in omega arith)
        | inr l ↦ inr (let b = buffers_apart (2 ^ o.loader.shift) (buffer_of o r) (buffer_of o m) (omega arith) in omega arith)
      ] in
      let g = region o laid r in
      let g1 = g.slot_high in
      let gm = (region o laid m).low in
      inr (
        m,
        x.1,
        x.2,
        record {
          quad = low_quad (slot_of o m) slot (omega arith) ∙ x.3.quad;
          bytes = λ j l. st (place_of o m + j) (elim place [ inl z ↦ grind (arith, nat_tests) | inr z ↦ grind (arith, nat_tests) ]) ∙ x.3.bytes j l ∙ ap (λ (i : Stretch). slice_index i.bytes (o.offset m + j)) (sym im);
        },
      )

pub ready_again : ReadyAgain
ready_again o r a link s u laid ready named c = record {
  running = c.running;
  holds = holds_again o laid r s u c.kept c.image ready.holds;
  file = subst (HoldsFile o) (sym c.image) ready.file;
  buffers = λ k few. elim (cases_lt r 1) [
    | inl none ↦ subst (λ i. HasBuffer o k u.store i) (sym c.image) (subst (λ (m : Store). HasBuffer o k m s.image) (sym (c.root (omega arith))) (ready.buffers k few))
    | inr some ↦ elim (cases_Bool (k == buffer_of o r)) [
      | inl e ↦ inr (r, (some, named), sym (eqb-true k (buffer_of o r) e), c.mapped some)
      | inr e ↦ other_buffer o laid r s u c.kept k few (eqb-false k (buffer_of o r) e) c.image (some, named) (ready.buffers k few)
    ]
  ];
  few = subst (λ q. length q + 4 ≤ 16) (sym c.queue) ready.few;
  untagged = subst (λ q. waits q 31 ≡ false) (sym c.queue) ready.untagged;
  mask = subst (λ w. w < 2 ^ 32) (sym (c.channels 22 refl)) ready.mask;
}

pub keeps_below : KeepsBelow
keeps_below o r a link s u laid c k low out =
    let f = facts o laid in
    let f1 = f.order in
    let f2 = f.below in
    let g = region o laid r in
    let g1 = g.slot_low in
    let g2 = g.slot_high in
    let g3 = g.low in
    c.kept k (grind (arith, nat_tests))
