-- A state in which the loader can run: its code by pieces, and what it reads.
use Rattle.std.proofs.Common.{◌≡◌, ℕ, ◌+◌, ◌-◌, ◌*◌, ◌/◌, ◌%◌, ◌<◌, ◌≤◌, ◌^◌, List, ◌++◌, length, None, refl, sym, ap, ap₂, ◌∙◌, subst, arith, inl, inr, false}
use Rattle.std.proofs.Math.Path.{fun_ext}
use Rattle.spu_word.specs.Bytes.{quad_of}
use Rattle.spu_isa.specs.declared.instruction.Inst.{Inst}
use Rattle.spu_ls.specs.Stores.{load}
use Rattle.spu_exec.specs.Tags.{waits}
use Rattle.spu_ls.specs.Machine.{State}
use Rattle.spu_plan.specs.declared.constants.TheConstants.{RETURN_OFFSET, LOADER_CODE_SIZE}
use Rattle.spu_loader.specs.declared.table.Loader.{Loader}
use Rattle.spu_loader.specs.Code.{image_quad, relink_code, test_code, fetch_code, command_code, wait_code, exit_code, return_code, loader_code, IsLoader}
use Rattle.spu_loader.specs.Overlays.{Overlay, buffer_of, place_of, slot_of, IsRegion, IsLaid, Holds, HoldsFile, HasBuffer, IsReady}
use Rattle.spu_loader.proofs.Places.{command_from, exit_from, fetch_from, test_from, wait_from}
use Rattle.spu_loader.proofs.Opaque.{wd, quad, wd-quad_0, wd-quad_1}
use Rattle.spu_loader.proofs.Blocks.{Stands, Only}
use Rattle.spu_loader.proofs.Shifts.{by_shift}
use Rattle.spu_loader.proofs.Joining.{only_regs, stands_after, stands_front, stands_from}
use Rattle.spu_loader.proofs.Commands.{IsImage, IsPart}

pub opaque_quad : (a b c d : ℕ) → quad_of a b c d ≡ quad a b c d
unfolding quad
opaque_quad a b c d = refl

-- the remainder by the number of buffers
pub below_buffers : (l : Loader) (r : ℕ) → IsLoader l → ((r - 1) % l.buffers < l.buffers) × (l.buffers ≤ 8) × (1 ≤ l.buffers)
below_buffers l r h = elim h.buffers [
  | inl e ↦ (omega (arith, e), omega arith, omega arith)
  | inr b ↦ elim b [
    | inl e ↦ (subst (λ n. (r - 1) % n < n) (sym e) (omega arith), omega arith, omega arith)
    | inr c ↦ elim c [
      | inl e ↦ (subst (λ n. (r - 1) % n < n) (sym e) (omega arith), omega arith, omega arith)
      | inr e ↦ (subst (λ n. (r - 1) % n < n) (sym e) (omega arith), omega arith, omega arith)
    ]
  ]
]

-- where a region's buffer lies
pub buffer_bounds : (size k n : ℕ) → k < n → size * k + size ≤ size * n
buffer_bounds size k n h = grind arith

-- the same is ready where only registers have changed, or what readiness doesn't speak of
pub ready_from : (o : Overlay) (s u : State) → u.ended ≡ None → u.store ≡ s.store → u.image ≡ s.image → u.queue ≡ s.queue → u.channels 22 ≡ s.channels 22 → IsReady o s → IsReady o u
ready_from o s u g st im qu ch r = record {
  running = g;
  holds = subst (λ i. Holds o u.store i) (sym im) (subst (λ m. Holds o m s.image) (sym st) r.holds);
  file = subst (HoldsFile o) (sym im) r.file;
  buffers = λ k h. subst (λ i. HasBuffer o k u.store i) (sym im) (subst (λ m. HasBuffer o k m s.image) (sym st) (r.buffers k h));
  few = subst (λ q. length q + 4 ≤ 16) (sym qu) r.few;
  untagged = subst (λ q. waits q 31 ≡ false) (sym qu) r.untagged;
  mask = subst (λ w. w < 2 ^ 32) (sym ch) r.mask;
}

pub same_store : (rs : List ℕ) (s u : State) → Only (only_regs rs) s u → u.store ≡ s.store
same_store rs s u o = fun_ext (λ k. o.store k refl)

pub ready_after : (o : Overlay) (rs : List ℕ) (s u : State) → Only (only_regs rs) s u → IsReady o s → IsReady o u
ready_after o rs s u p r = ready_from o s u p.running (same_store rs s u p) p.image (p.queue refl) (p.channels 22 refl) r

-- the code from a piece on
abbrev pub from_exit : List Inst
from_exit = exit_code ++ return_code

abbrev pub from_wait : List Inst
from_wait = wait_code ++ from_exit

abbrev pub from_command : Loader → List Inst
from_command l = command_code l ++ from_wait

abbrev pub from_fetch : Loader → List Inst
from_fetch l = fetch_code l ++ from_command l

abbrev pub from_test : Loader → List Inst
from_test l = test_code l ++ from_fetch l

pub power_small : (s : ℕ) → 10 ≤ s → s ≤ 16 → 2 ^ s ≤ 65536
power_small s low high = by_shift (λ s. 2 ^ s ≤ 65536) (omega arith) (omega arith) (omega arith) (omega arith) (omega arith) (omega arith) (omega arith) s low high

even_power : (s k : ℕ) → 10 ≤ s → s ≤ 16 → 2 ^ s * k % 16 ≡ 0
even_power s k low high = by_shift (λ s. 2 ^ s * k % 16 ≡ 0) (omega arith) (omega arith) (omega arith) (omega arith) (omega arith) (omega arith) (omega arith) s low high

module _ (o : Overlay) (laid : IsLaid o) where
  -- numbers of the layout that every stage needs
  pub record Facts : Type 0 where
    pub base : o.loader.base % 16 ≡ 0
    pub low : o.loader.base + LOADER_CODE_SIZE < 262144
    pub few : o.loader.buffers ≤ 8
    pub some : 1 ≤ o.loader.buffers
    pub order : o.loader.base + 320 + 16 * o.loader.buffers ≤ o.loader.table
    pub below : o.loader.table + 16 * (o.regions + 1) ≤ o.loader.buffer
    pub fits : o.loader.buffer < 262144

  pub facts : Facts
  facts =
      let n = below_buffers o.loader 1 laid.loader in
      let h1 = laid.loader.base in
      let h2 = laid.before in
      let h3 = laid.loader.buffer in
      record { base = laid.base; low = omega arith; few = n.1; some = n.2; order = omega arith; below = laid.below; fits = omega arith }

  -- the buffer of a region lies behind the table, and in the store
  pub record Region (r : ℕ) : Type 0 where
    pub slot_low : o.loader.base + 272 ≤ slot_of o r
    pub slot_high : slot_of o r + 16 ≤ o.loader.base + 272 + 16 * o.loader.buffers
    pub low : o.loader.buffer ≤ place_of o r
    pub high : place_of o r + 2 ^ o.loader.shift ≤ 262144
    pub even : place_of o r % 16 ≡ 0
    pub index : buffer_of o r < 8

  pub region : (r : ℕ) → Region r
  region r =
      let n = below_buffers o.loader r laid.loader in
      let m = n.0 in
      let n1 = n.1 in
      let h = laid.fits in
      let p = buffer_bounds (2 ^ o.loader.shift) (buffer_of o r) o.loader.buffers m in
      let e : 2 ^ o.loader.shift * buffer_of o r % 16 ≡ 0 = even_power o.loader.shift (buffer_of o r) laid.loader.shift.0 laid.loader.shift.1 in
      let b = laid.buffer in
      record { slot_low = omega arith; slot_high = omega arith; low = omega arith; high = omega arith; even = omega arith; index = omega arith }

  module _ (s : State) (ready : IsReady o s) where
    pub code : Stands (loader_code o.loader) s.store o.loader.base 0
    code = stands_from (loader_code o.loader) s.store o.loader.base ready.holds.code

    pub relink_stands : Stands (relink_code o.loader) s.store o.loader.base 0
    relink_stands = stands_front (relink_code o.loader) (from_test o.loader) s.store o.loader.base 0 code

    after_relink : Stands (from_test o.loader) s.store o.loader.base test_from
    after_relink = stands_after (relink_code o.loader) (from_test o.loader) s.store o.loader.base 0 code

    pub test_stands : Stands (test_code o.loader) s.store o.loader.base test_from
    test_stands = stands_front (test_code o.loader) (from_fetch o.loader) s.store o.loader.base test_from after_relink

    after_test : Stands (from_fetch o.loader) s.store o.loader.base fetch_from
    after_test = stands_after (test_code o.loader) (from_fetch o.loader) s.store o.loader.base test_from after_relink

    pub fetch_stands : Stands (fetch_code o.loader) s.store o.loader.base fetch_from
    fetch_stands = stands_front (fetch_code o.loader) (from_command o.loader) s.store o.loader.base fetch_from after_test

    after_fetch : Stands (from_command o.loader) s.store o.loader.base command_from
    after_fetch = stands_after (fetch_code o.loader) (from_command o.loader) s.store o.loader.base fetch_from after_test

    pub command_stands : Stands (command_code o.loader) s.store o.loader.base command_from
    command_stands = stands_front (command_code o.loader) from_wait s.store o.loader.base command_from after_fetch

    after_command : Stands from_wait s.store o.loader.base wait_from
    after_command = stands_after (command_code o.loader) from_wait s.store o.loader.base command_from after_fetch

    pub wait_stands : Stands wait_code s.store o.loader.base wait_from
    wait_stands = stands_front wait_code from_exit s.store o.loader.base wait_from after_command

    after_wait : Stands from_exit s.store o.loader.base exit_from
    after_wait = stands_after wait_code from_exit s.store o.loader.base wait_from after_command

    pub exit_stands : Stands exit_code s.store o.loader.base exit_from
    exit_stands = stands_front exit_code return_code s.store o.loader.base exit_from after_wait

    pub return_stands : Stands return_code s.store o.loader.base RETURN_OFFSET
    return_stands = stands_after exit_code return_code s.store o.loader.base exit_from after_wait

    -- the image as the command needs it
    pub image_of : (r : ℕ) → IsRegion o r → IsImage s.image (load s.store (image_quad o.loader))
    image_of r is_r =
        let q : load s.store (image_quad o.loader) ≡ quad (s.image.ea / 2 ^ 32) (s.image.ea % 2 ^ 32) 0 0 = ready.holds.image_is ∙ opaque_quad (s.image.ea / 2 ^ 32) (s.image.ea % 2 ^ 32) 0 0 in
        let some = (laid.each r is_r).some in
        let whole = ready.file.regions r is_r in
        let fits = ready.file.fits in
        let a = ready.file.aligned in
        let w0 : wd (load s.store (image_quad o.loader)) 0 ≡ s.image.ea / 2 ^ 32 = ap (λ q. wd q 0) q ∙ wd-quad_0 (s.image.ea / 2 ^ 32) (s.image.ea % 2 ^ 32) 0 0 (omega arith) in
        let w1 : wd (load s.store (image_quad o.loader)) 1 ≡ s.image.ea % 2 ^ 32 = ap (λ q. wd q 1) q ∙ wd-quad_1 (s.image.ea / 2 ^ 32) (s.image.ea % 2 ^ 32) 0 0 (omega arith) in
        record { address = ap₂ (λ x y. x * 2 ^ 32 + y) w0 w1 ∙ omega arith; high = omega (arith, w0); low = omega (arith, w1); aligned = omega arith; fits = fits }

    -- a region as a part of the image
    pub part_of_region : (r : ℕ) → IsRegion o r → IsPart s.image (place_of o r) (o.size r) (o.offset r)
    part_of_region r h =
        let b = region r in
        let b1 = b.high in
        let e = laid.each r h in
        let s1 = e.small in
        record { place = b.even; quads = e.quads; offset = e.offset; some = e.some; fits = omega arith; whole = ready.file.regions r h; word = e.word }
