-- The command: one turn of the loop appends one transfer.
use Rattle.std.proofs.Common.{◌≡◌, ℕ, zero, suc, ◌+◌, ◌-◌, ◌*◌, ◌%◌, ◌<◌, ◌≤◌, ◌^◌, List, [], ◌∷◌, ◌++◌, length, None, refl, sym, ap, ap₂, ◌∙◌, subst, arith, inl, inr, Bool, true, false, not, pos, negsuc}
use Rattle.std.specs.Prelude.{◌==◌, nat_le, nat_lt, int_lt, min, take, drop, if◌then◌else◌}
use Rattle.std.specs.Int.{w32, cast_signed}
use Rattle.std.proofs.lemmas.Bool.{cond-true, cond-false, lt-ltb, le-ltb, eq-eqb, ne_eqb, cases_lt}
use Rattle.std.proofs.lemmas.List.{length-append}
use Rattle.std.proofs.Math.Path.{fun_ext}
use Rattle.std.proofs.Common.{append_assoc}
use Rattle.std.proofs.lemmas.Bool.Decides.{nat_tests}
use Rattle.spu_isa.specs.declared.operation.Op.TheVariants as op
use Rattle.spu_exec.specs.Lanes.{ones_where}
use Rattle.spu_exec.specs.Places.{code_mask, quad_mask}
use Rattle.spu_exec.specs.Values.{HasBytes}
use Rattle.spu_ls.specs.Stores.{load}
use Rattle.spu_exec.specs.declared.transfers.Form.TheVariants.{Get}
use Rattle.spu_exec.specs.declared.transfers.Transfer.{Transfer}
use Rattle.spu_exec.specs.Transfers.{Stretch, is_size, is_taken, described, form_of}
use Rattle.spu_ls.specs.Machine.{State, put_word, goes, waits_last, commands, lands}
use Rattle.spu_loader.specs.declared.table.Loader.{Loader}
use Rattle.spu_loader.specs.Forms.{rr, ri, wide, channel}
use Rattle.spu_loader.specs.Code.{image_quad, step_quad, words_ahead, describe_code, step_code, loop_code, command_code}
use Rattle.spu_loader.proofs.Opaque.{wd, quad, val, loc, jumps, loc-lqr, loc-brnz, jumps-brnz, ones_test, val-cgti, val-clgt, val-il, val-sf, val-a, val-turned_4, val-turned_8, bytes_turned, bytes_words, word_small, wd-quad_0, wd-quad_1, wd-quad_2}
use Rattle.spu_loader.proofs.Formulas.{val-select}
use Rattle.spu_loader.proofs.Blocks.{Stands, Leads, May, Only, In, after, straight, turning, then_one, then_leads, only_sends}
use Rattle.spu_loader.proofs.Joining.{stands_after, stands_front, one_of, none, only_start, Less, only_then, widen}

-- the smaller of a size and the step of a transfer
abbrev pub part_of : ℕ → ℕ
part_of size = if nat_lt 16384 size then 16384 else size

-- a GET with the loader's tag
abbrev pub get_of : ℕ → ℕ → ℕ → Transfer
get_of at size ea = record { form = Get; local = at; ea = ea; size = size; tag = 31 }

abbrev pub command_may : May
command_may = record { regs = one_of (75 ∷ 76 ∷ 77 ∷ 78 ∷ []); bytes = none; channels = one_of (16 ∷ 17 ∷ 18 ∷ 19 ∷ 20 ∷ []); update = false; queue = true; areas = false }

-- $77 says what is to be loaded: the place, the size, and the offset in the image
pub record Asks (q : List ℕ) (at size off : ℕ) : Type 0 where
  pub place : wd q 0 ≡ at
  pub size_is : wd q 1 ≡ size
  pub offset : wd q 2 ≡ off
  pub bytes : HasBytes q

-- it is a part of the image
pub record IsPart (image : Stretch) (at size off : ℕ) : Type 0 where
  pub place : at % 16 ≡ 0
  pub quads : size % 16 ≡ 0
  pub offset : off % 16 ≡ 0
  pub some : 0 < size
  pub fits : at + size ≤ 262144
  pub whole : off + size ≤ length image.bytes
  pub word : off + size ≤ 2 ^ 32

-- the image's address as the loader reads it
pub record IsImage (image : Stretch) (q : List ℕ) : Type 0 where
  pub address : wd q 0 * 2 ^ 32 + wd q 1 ≡ image.ea
  pub high : wd q 0 < 2 ^ 32
  pub low : wd q 1 < 2 ^ 32
  pub aligned : image.ea % 16 ≡ 0
  pub fits : image.ea + length image.bytes ≤ 2 ^ 64

part_small : (size : ℕ) → 0 < size → size % 16 ≡ 0 → (is_size (part_of size) ≡ true) × (part_of size ≤ size) × (16 ≤ part_of size)
part_small size some al = elim (cases_lt 16384 size) [
  | inl big ↦ (let e : part_of size ≡ 16384 = cond-true (nat_lt 16384 size) 16384 size (lt-ltb _ _ big) in (ap is_size e, omega (arith, e), omega (arith, e)))
  | inr small ↦ (let e : part_of size ≡ size = cond-false (nat_lt 16384 size) 16384 size (le-ltb _ _ small) in (ap is_size e ∙ grind (arith, nat_tests), omega (arith, e), omega (arith, e)))
]

-- such a command is taken
taken : (s : State) (at size off : ℕ) → IsPart s.image at size off → s.image.ea % 16 ≡ 0 → is_taken s.image s.areas (get_of at (part_of size) (s.image.ea + off)) ≡ true
taken s at size off p al =
    let n = part_small size p.some p.quads in
    let n1 = n.1 in
    let n2 = n.2 in
    let h1 = p.place in
    let h2 = p.offset in
    let h3 = p.fits in
    let h4 = p.whole in
    let m : min (part_of size) 16 ≡ 16 = omega arith in
    let t1 : is_size (part_of size) ≡ true = n.0 in
    let t2 : (at % 16 == (s.image.ea + off) % 16) ≡ true = eq-eqb _ _ (omega arith) in
    let t3 : (at % min (part_of size) 16 == 0) ≡ true = eq-eqb _ _ (ap (λ i. at % i) m ∙ p.place) in
    let t4 : nat_le (at + part_of size) 262144 ≡ true = grind (arith, nat_tests) in
    let t5 : nat_le s.image.ea (s.image.ea + off) ≡ true = grind (arith, nat_tests) in
    let t6 : nat_le (s.image.ea + off + part_of size) (s.image.ea + length s.image.bytes) ≡ true = grind (arith, nat_tests) in
    simp (t1, t2, t3, t4, t5, t6)

-- the sum of two addresses, by words
sum_of_words : (h l o : ℕ) → h < 2 ^ 32 → l < 2 ^ 32 → o < 2 ^ 32 → h * 2 ^ 32 + l + o < 2 ^ 64
    → (h + 2 ^ 32 - ones_where 4 (nat_lt ((l + o) % 2 ^ 32) l) % 2 ^ 32) % 2 ^ 32 * 2 ^ 32 + (l + o) % 2 ^ 32 ≡ h * 2 ^ 32 + l + o
sum_of_words h l o x y z w =
    elim (cases_lt (l + o) (2 ^ 32)) [
      | inl low ↦ (let e : nat_lt ((l + o) % 2 ^ 32) l ≡ false = le-ltb _ _ (omega arith) in ap (λ t. (h + 2 ^ 32 - ones_where 4 t % 2 ^ 32) % 2 ^ 32 * 2 ^ 32 + (l + o) % 2 ^ 32) e ∙ omega arith)
      | inr high ↦ (let e : nat_lt ((l + o) % 2 ^ 32) l ≡ true = lt-ltb _ _ (omega arith) in ap (λ t. (h + 2 ^ 32 - ones_where 4 t % 2 ^ 32) % 2 ^ 32 * 2 ^ 32 + (l + o) % 2 ^ 32) e ∙ omega arith)
    ]

signed_big : (v : ℕ) → 0 < v → v < 2 ^ 31 → int_lt (pos 0) (cast_signed w32 v) ≡ true
signed_big v some small = ap (int_lt (pos 0)) (cond-true (nat_lt v (2 ^ 31)) (pos v) (negsuc (2 ^ 32 - suc v)) (lt-ltb _ _ small)) ∙ lt-ltb 0 v some

signed_none : (v : ℕ) → v ≡ 0 → int_lt (pos 0) (cast_signed w32 v) ≡ false
signed_none v e = ap (λ v. int_lt (pos 0) (cast_signed w32 v)) e

signed_less : (v : ℕ) → 2 ^ 31 ≤ v → int_lt (pos 0) (cast_signed w32 v) ≡ false
signed_less v big = ap (int_lt (pos 0)) (cond-false (nat_lt v (2 ^ 31)) (pos v) (negsuc (2 ^ 32 - suc v)) (le-ltb _ _ big))

-- whether there is more
more_test : (size : ℕ) → size ≤ 262144 → int_lt (pos 0) (cast_signed w32 ((size + (2 ^ 32 - 16384)) % 2 ^ 32)) ≡ nat_lt 16384 size
more_test size fits = elim (cases_lt 16384 size) [
  | inl big ↦ signed_big ((size + (2 ^ 32 - 16384)) % 2 ^ 32) (omega arith) (omega arith) ∙ sym (lt-ltb _ _ big)
  | inr small ↦ elim (cases_lt size 16384) [
    | inl less ↦ signed_less ((size + (2 ^ 32 - 16384)) % 2 ^ 32) (omega arith) ∙ sym (le-ltb _ _ small)
    | inr same ↦ signed_none ((size + (2 ^ 32 - 16384)) % 2 ^ 32) (omega arith) ∙ sym (le-ltb _ _ small)
  ]
]

same_transfer : (a a' e e' z z' t t' : ℕ) → a ≡ a' → e ≡ e' → z ≡ z' → t ≡ t' → (let x : Transfer = record { form = Get; local = a; ea = e; size = z; tag = t } in x) ≡ (let x : Transfer = record { form = Get; local = a'; ea = e'; size = z'; tag = t' } in x)
same_transfer a a' e e' z z' t t' p q r s = cc

-- a command that is taken, where there is room
commanded : (u : State) (t : Transfer) (p w : ℕ) → w ≡ 64 → described Get u.channels ≡ t → is_taken u.image u.areas t ≡ true → length u.queue < 16 → commands (form_of w) p u ≡ goes p (waits_last t u)
commanded u t p w e d taken room =
    ap (λ w. commands (form_of w) p u) e
    ∙ cond-true (is_taken u.image u.areas (described Get u.channels)) _ _ (ap (is_taken u.image u.areas) d ∙ taken)
    ∙ ap₂ (λ t v. goes p (waits_last t v)) d (cond-false (length u.queue == 16) (lands (take 1 u.queue) (record u { queue = drop 1 u.queue })) u (ne_eqb _ _ (λ e. omega arith)))

only_waits : (t : Transfer) (p : ℕ) (s u : State) → Only command_may s u → Only command_may s (goes p (waits_last t u))
only_waits t p s u o = record { running = o.running; regs = o.regs; store = o.store; channels = o.channels; update = o.update; queue = λ h. absurd (let c = h in cc); areas = o.areas; image = o.image; mail = o.mail; output = o.output }

pub record Turns (s u : State) (at size off b : ℕ) : Type 0 where
  pub only : Only command_may s u
  pub pc_is : u.pc ≡ (if nat_lt 16384 size then b else b + 92)
  pub queue_is : u.queue ≡ s.queue ++ get_of at (part_of size) (s.image.ea + off) ∷ []
  pub asks : Asks (u.regs 77) ((at + 16384) % 2 ^ 32) ((size + (2 ^ 32 - 16384)) % 2 ^ 32) ((off + 16384) % 2 ^ 32)

module _ (l : Loader) (s : State) (b q2 q3 at size off : ℕ) (g : s.ended ≡ None) (pc : s.pc ≡ b + 0) (al : b % 4 ≡ 0) (fit : b + 92 < 262144) (code : Stands (command_code l) s.store b 0) (few : l.buffers ≤ 8)
    (to_q2 : quad_mask (b + 28 + 4 * (words_ahead l 38 (image_quad l))) ≡ q2) (to_q3 : quad_mask (b + 72 + 4 * (words_ahead l 49 (step_quad l))) ≡ q3)
    (image : IsImage s.image (load s.store q2)) (step_is : load s.store q3 ≡ quad 16384 (2 ^ 32 - 16384) 16384 0)
    (asks : Asks (s.regs 77) at size off) (part : IsPart s.image at size off) (room : length s.queue < 16) where
  -- the channels before the command
  effective : (h7 h3 h4 x0 : List ℕ) → h7 ≡ load s.store q2 → (let h6 = val (ri op.Rotqbyi 76 77 (pos 8)) (s.regs 77) x0 x0 h4 in let h8 = val (ri op.Rotqbyi 78 75 (pos 4)) h7 x0 x0 h3 in let h9 = val (rr op.A 76 78 76) h8 h6 x0 h6 in let h11 = val (rr op.Clgt 78 78 76) h8 h9 x0 h8 in let h12 = val (rr op.Sf 75 78 75) h11 h7 x0 h7 in
      wd h12 0 * 2 ^ 32 + wd h9 0) ≡ s.image.ea + off
  effective h7 h3 h4 x0 e7 =
      let h6 : List ℕ = val (ri op.Rotqbyi 76 77 (pos 8)) (s.regs 77) x0 x0 h4 in
      let h8 : List ℕ = val (ri op.Rotqbyi 78 75 (pos 4)) h7 x0 x0 h3 in
      let h9 : List ℕ = val (rr op.A 76 78 76) h8 h6 x0 h6 in
      let h11 : List ℕ = val (rr op.Clgt 78 78 76) h8 h9 x0 h8 in
      let w6 : wd h6 0 ≡ off = val-turned_8 76 77 (s.regs 77) x0 x0 h4 ∙ asks.offset in
      let w8 : wd h8 0 ≡ wd h7 1 = val-turned_4 78 75 h7 x0 x0 h3 in
      let w9 : wd h9 0 ≡ (wd h7 1 + off) % 2 ^ 32 = val-a 76 78 76 0 h8 h6 x0 h6 (omega arith) ∙ ap₂ (λ x y. (x + y) % 2 ^ 32) w8 w6 in
      let w11 : wd h11 0 ≡ ones_where 4 (nat_lt ((wd h7 1 + off) % 2 ^ 32) (wd h7 1)) % 2 ^ 32 = val-clgt 78 78 76 h8 h9 x0 h8 ∙ ap₂ (λ x y. ones_where 4 (nat_lt x y) % 2 ^ 32) w9 w8 in
      let off_small : wd (s.regs 77) 2 < 2 ^ 32 = word_small (s.regs 77) 2 (omega arith) asks.bytes in
      let e1 = asks.offset in
      let e2 = part.whole in
      let e3 = part.some in
      let e4 = image.fits in
      let image7 : IsImage s.image h7 = subst (IsImage s.image) (sym e7) image in
      let e5 = image7.address in
      ap₂ (λ x y. x * 2 ^ 32 + y) (val-sf 75 78 75 h11 h7 x0 h7 ∙ ap (λ x. (wd h7 0 + 2 ^ 32 - x) % 2 ^ 32) w11) w9
      ∙ sum_of_words (wd h7 0) (wd h7 1) off image7.high image7.low (omega arith) (omega arith) ∙ ap (λ x. x + off) e5

  sends : (n t : ℕ) → command_may.channels n ≡ true → (p : ℕ) (s0 s : State) → Only command_may s0 s → Only command_may s0 (record s { channels = put_word n (wd (s.regs t) 0) s.channels; pc = p; steps = s.steps + 1 }) × (p ≡ p)
  sends n t h p s0 s = only_sends command_may n (wd (s.regs t) 0) p h s0 s

  after_describe : Stands (channel op.Wrch 21 76 ∷ (step_code l ++ loop_code)) s.store b 68
  after_describe = stands_after (describe_code l) (channel op.Wrch 21 76 ∷ (step_code l ++ loop_code)) s.store b 0 code

  ordered : (u : State) × Leads (In command_may b (b + 92) s) 18 s u × Only command_may s u × (u.pc ≡ b + 72) × (u.queue ≡ s.queue ++ get_of at (part_of size) (s.image.ea + off) ∷ []) × (u.regs 77 ≡ s.regs 77) × (u.store ≡ s.store)
  ordered =
      let t = straight command_may s b (b + 92) b fit (λ k l h. refl) al (describe_code l) 0 s refl (omega arith) (omega arith) pc (only_start _ s g)
      (stands_front (describe_code l) (channel op.Wrch 21 76 ∷ (step_code l ++ loop_code)) s.store b 0 code)
      (sends 16 77 refl, (refl, (refl, (refl, (refl, (sends 19 76 refl, (refl, (refl, (refl, (refl, (sends 18 76 refl, (refl, (refl, (sends 17 75 refl, (refl, (sends 20 76 refl, (refl, tt))))))))))))))))) in
      let u : State = after (describe_code l) b 0 s in
      let at_q2 : loc (wide op.Lqr 75 (pos (words_ahead l 38 (image_quad l)))) (b + 28) (s.regs 0) (s.regs 0) ≡ q2 = loc-lqr 75 (words_ahead l 38 (image_quad l)) (b + 28) (s.regs 0) (s.regs 0) (omega arith) ∙ to_q2 in
      let c16 : u.channels 16 ≡ at = asks.place in
      let size_word : wd (val (ri op.Rotqbyi 76 77 (pos 4)) (s.regs 77) (s.regs 0) (s.regs 0) (s.regs 76)) 0 ≡ size = val-turned_4 76 77 _ _ _ _ ∙ asks.size_is in
      let step_word : wd (val (wide op.Il 75 (pos 16384)) (s.regs 0) (s.regs 0) (s.regs 0) (s.regs 75)) 0 ≡ 16384 = val-il 75 16384 _ _ _ _ (omega arith) in
      let c19 : u.channels 19 ≡ part_of size = val-select _ _ _ _ _ [] (bytes_turned 76 77 (pos 4) _ _ _ _ asks.bytes) (bytes_words (wide op.Il 75 (pos 16384)) _ _ _ _ refl) ∙ ap₂ (λ x y. if nat_lt x y then x else y) step_word size_word in
      let c20 : u.channels 20 ≡ 31 = val-il 76 31 _ _ _ _ (omega arith) in
      let ea : u.channels 17 * 2 ^ 32 + u.channels 18 ≡ s.image.ea + off = effective (load s.store (loc (wide op.Lqr 75 (pos (words_ahead l 38 (image_quad l)))) (b + 28) (s.regs 0) (s.regs 0))) _ _ (s.regs 0) (ap (load s.store) at_q2) in
      let w64 : wd (u.regs 76) 0 ≡ 64 = val-il 76 64 _ _ _ _ (omega arith) in
      let is = commanded u (get_of at (part_of size) (s.image.ea + off)) (b + 72) _ w64 (same_transfer _ _ _ _ _ _ _ _ c16 ea c19 c20) (taken s at size off part image.aligned) room in
      let one_more = then_one command_may s b (b + 92) b fit (λ k l h. refl) al u (goes (b + 72) (waits_last (get_of at (part_of size) (s.image.ea + off)) u)) (channel op.Wrch 21 76) 68 refl (omega arith) (omega arith) t.2 t.1 after_describe.0 is in
      (_, then_leads t.0 one_more, only_waits _ (b + 72) s u t.1, refl, refl, refl, refl)

  -- the words after the command, which step on
  stepped : (u : State) → Only command_may s u → u.pc ≡ b + 72 → u.regs 77 ≡ s.regs 77 → u.store ≡ s.store → size ≤ 262144
      → (v : State) × Leads (In command_may b (b + 92) s) 5 u v × Only command_may s v × (v.pc ≡ (if nat_lt 16384 size then b else b + 92)) × (v.queue ≡ u.queue) × Asks (v.regs 77) ((at + 16384) % 2 ^ 32) ((size + (2 ^ 32 - 16384)) % 2 ^ 32) ((off + 16384) % 2 ^ 32)
  stepped u o at_u r77 same fits =
      let h18 : List ℕ = load u.store (loc (wide op.Lqr 76 (pos (words_ahead l 49 (step_quad l)))) u.pc (u.regs 0) (u.regs 0)) in
      let q3_is : h18 ≡ quad 16384 (2 ^ 32 - 16384) 16384 0 = ap₂ load same (loc-lqr 76 (words_ahead l 49 (step_quad l)) u.pc (u.regs 0) (u.regs 0) (omega arith) ∙ ap (λ p. quad_mask (p + 4 * (words_ahead l 49 (step_quad l)))) at_u ∙ to_q3) ∙ step_is in
      let h19 : List ℕ = val (rr op.A 77 77 76) (u.regs 77) h18 (u.regs 0) (u.regs 77) in
      let n0 : wd h19 0 ≡ (at + 16384) % 2 ^ 32 = val-a 77 77 76 0 (u.regs 77) h18 (u.regs 0) (u.regs 77) (omega arith) ∙ ap₂ (λ x y. (wd x 0 + wd y 0) % 2 ^ 32) r77 q3_is ∙ ap₂ (λ x y. (x + y) % 2 ^ 32) asks.place (wd-quad_0 16384 (2 ^ 32 - 16384) 16384 0 (omega arith)) in
      let n1 : wd h19 1 ≡ (size + (2 ^ 32 - 16384)) % 2 ^ 32 = val-a 77 77 76 1 (u.regs 77) h18 (u.regs 0) (u.regs 77) (omega arith) ∙ ap₂ (λ x y. (wd x 1 + wd y 1) % 2 ^ 32) r77 q3_is ∙ ap₂ (λ x y. (x + y) % 2 ^ 32) asks.size_is (wd-quad_1 16384 (2 ^ 32 - 16384) 16384 0 (omega arith)) in
      let n2 : wd h19 2 ≡ (off + 16384) % 2 ^ 32 = val-a 77 77 76 2 (u.regs 77) h18 (u.regs 0) (u.regs 77) (omega arith) ∙ ap₂ (λ x y. (wd x 2 + wd y 2) % 2 ^ 32) r77 q3_is ∙ ap₂ (λ x y. (x + y) % 2 ^ 32) asks.offset (wd-quad_2 16384 (2 ^ 32 - 16384) 16384 0 (omega arith)) in
      let t = turning command_may s b (b + 92) b fit (λ k l h. refl) al (step_code l) (wide op.Brnz 76 (negsuc 21)) 72 (if nat_lt 16384 size then b else b + 92) u refl (omega arith) (omega arith) at_u o
      (stands_front (step_code l) loop_code s.store b 72 after_describe.1) (refl, (refl, (refl, (refl, tt)))) (stands_after (step_code l) loop_code s.store b 72 after_describe.1).0
      (λ v e p. ap (λ t. if t then goes (loc (wide op.Brnz 76 (negsuc 21)) v.pc (v.regs 0) (v.regs 0)) v else goes (b + 92) v)
      (ap (λ (v : State). jumps (wide op.Brnz 76 (negsuc 21)) (v.regs 76)) e ∙ jumps-brnz 76 (negsuc 21) _
      ∙ ap (λ w. not (w == 0)) (val-cgti 76 76 _ _ _ _) ∙ ap not (ones_test _) ∙ not_not _
      ∙ ap (λ w. int_lt (pos 0) (cast_signed w32 w)) (val-turned_4 76 77 h19 _ _ _ ∙ n1) ∙ more_test size fits)
      ∙ ap (λ x. if nat_lt 16384 size then goes x v else goes (b + 92) v) (loc-brnz 76 (negsuc 21) v.pc (v.regs 0) (v.regs 0) ∙ ap (λ x. code_mask (x + 4 * (2 ^ 32 - 22))) p ∙ omega arith)
      ∙ by_test (nat_lt 16384 size) v) in
      (_, t.0, t.1, refl, refl, record { place = n0; size_is = n1; offset = n2; bytes = bytes_words (rr op.A 77 77 76) (u.regs 77) h18 (u.regs 0) (u.regs 77) refl })
    where
      not_not : (t : Bool) → not (not t) ≡ t
      not_not true = refl
      not_not false = refl

      by_test : (t : Bool) (v : State) → (if t then goes b v else goes (b + 92) v) ≡ goes (if t then b else b + 92) v
      by_test true v = refl
      by_test false v = refl

  pub turn_piece : (u : State) × Leads (In command_may b (b + 92) s) 23 s u × Turns s u at size off b
  turn_piece =
      let x = ordered in
      let f = part.fits in
      let y = stepped x.0 x.2 x.3 x.5 x.6 (omega arith) in
      (y.0, then_leads x.1 y.1, record { only = y.2; pc_is = y.3; queue_is = y.4 ∙ x.4; asks = y.5 })

-- ---- the loop

-- the transfers that load a part of the image, in at most n steps of 16,384 bytes
abbrev pub parts : ℕ → ℕ → ℕ → ℕ → List Transfer
parts zero at size ea = []
parts (suc n) at size ea = get_of at (part_of size) ea ∷ (if nat_lt 16384 size then parts n (at + 16384) (size - 16384) (ea + 16384) else [])

pub record Orders (s u : State) (at size off n next : ℕ) : Type 0 where
  pub only : Only command_may s u
  pub pc_is : u.pc ≡ next
  pub queue_is : u.queue ≡ s.queue ++ parts n at size (s.image.ea + off)

abbrev same_may : Less command_may command_may
same_may = record { regs = λ k h. h; bytes = λ k h. h; channels = λ k h. h; update = λ h. h; queue = λ h. h; areas = λ h. h }

-- the numbers of the next turn
next_asks : (q : List ℕ) (at size off : ℕ) → 16384 < size → at + size ≤ 262144 → off + size ≤ 2 ^ 32 → Asks q ((at + 16384) % 2 ^ 32) ((size + (2 ^ 32 - 16384)) % 2 ^ 32) ((off + 16384) % 2 ^ 32) → Asks q (at + 16384) (size - 16384) (off + 16384)
next_asks q at size off big f w a = record { place = a.place ∙ omega arith; size_is = a.size_is ∙ omega arith; offset = a.offset ∙ omega arith; bytes = a.bytes }

next_part : (image : Stretch) (at size off : ℕ) → 16384 < size → IsPart image at size off → IsPart image (at + 16384) (size - 16384) (off + 16384)
next_part image at size off big p =
    let h1 = p.place in
    let h2 = p.quads in
    let h3 = p.offset in
    let h4 = p.fits in
    let h5 = p.whole in
    let h6 = p.word in
    record { place = omega arith; quads = omega arith; offset = omega arith; some = omega arith; fits = omega arith; whole = omega arith; word = omega arith }

module _ (l : Loader) (b q2 q3 : ℕ) (al : b % 4 ≡ 0) (fit : b + 92 < 262144) (few : l.buffers ≤ 8)
    (to_q2 : quad_mask (b + 28 + 4 * (words_ahead l 38 (image_quad l))) ≡ q2) (to_q3 : quad_mask (b + 72 + 4 * (words_ahead l 49 (step_quad l))) ≡ q3) where
  pub command_piece : (n : ℕ) (s : State) (at size off : ℕ) → s.ended ≡ None → s.pc ≡ b + 0 → Stands (command_code l) s.store b 0
      → IsImage s.image (load s.store q2) → load s.store q3 ≡ quad 16384 (2 ^ 32 - 16384) 16384 0
      → Asks (s.regs 77) at size off → IsPart s.image at size off → length s.queue + n ≤ 16 → size ≤ 16384 * n
      → (k : ℕ) × (u : State) × (k ≤ 23 * n) × Leads (In command_may b (b + 92) s) k s u × Orders s u at size off n (b + 92)
  command_piece zero s at size off g pc code image step_is asks part room enough = absurd (let h = part.some in omega arith)
  command_piece (suc n) s at size off g pc code image step_is asks part room enough =
      let x = turn_piece l s b q2 q3 at size off g pc al fit code few to_q2 to_q3 image step_is asks part (omega arith) in
      elim (cases_lt 16384 size) [
        | inr small ↦ (
          23,
          x.0,
          omega arith,
          x.1,
          record {
            only = x.2.only;
            pc_is = x.2.pc_is ∙ cond-false (nat_lt 16384 size) b (b + 92) (le-ltb _ _ small);
            queue_is = x.2.queue_is ∙ ap (λ ts. s.queue ++ get_of at (part_of size) (s.image.ea + off) ∷ ts) (sym (cond-false (nat_lt 16384 size) (parts n (at + 16384) (size - 16384) (s.image.ea + off + 16384)) [] (le-ltb _ _ small)));
          },
        )
        | inl big ↦
            let u = x.0 in
            let o = x.2.only in
            let st : s.store ≡ u.store = fun_ext (λ k. sym (o.store k refl)) in
            let e1 = part.fits in
            let e2 = part.whole in
            let e3 = part.word in
            let queue_length : length u.queue ≡ length s.queue + 1 = ap length x.2.queue_is ∙ length-append s.queue _ in
            let y = command_piece n u (at + 16384) (size - 16384) (off + 16384) o.running (x.2.pc_is ∙ cond-true (nat_lt 16384 size) b (b + 92) (lt-ltb _ _ big) ∙ omega arith) (subst (λ m. Stands (command_code l) m b 0) st code)
            (subst (λ i. IsImage i (load u.store q2)) (sym o.image) (subst (λ m. IsImage s.image (load m q2)) st image)) (subst (λ m. load m q3 ≡ quad 16384 (2 ^ 32 - 16384) 16384 0) st step_is)
            (next_asks (u.regs 77) at size off big e1 (omega arith) x.2.asks) (subst (λ i. IsPart i (at + 16384) (size - 16384) (off + 16384)) (sym o.image) (next_part s.image at size off big part)) (omega (arith, queue_length)) (omega arith) in
            let ea : u.image.ea + (off + 16384) ≡ s.image.ea + off + 16384 = ap (λ (i : Stretch). i.ea + (off + 16384)) o.image ∙ omega arith in (
              23 + y.0,
              y.1,
              (let h = y.2 in omega arith),
              then_leads x.1 (widen command_may command_may b (b + 92) b (b + 92) s u y.1 y.0 same_may o (omega arith) (omega arith) y.3),
              record {
                only = only_then command_may command_may s u y.1 same_may o y.4.only;
                pc_is = y.4.pc_is;
                queue_is = y.4.queue_is ∙ ap₂ (λ q e. q ++ parts n (at + 16384) (size - 16384) e) x.2.queue_is ea
                    ∙ append_assoc s.queue _ _
                    ∙ ap (λ ts. s.queue ++ get_of at (part_of size) (s.image.ea + off) ∷ ts) (sym (cond-true (nat_lt 16384 size) (parts n (at + 16384) (size - 16384) (s.image.ea + off + 16384)) [] (lt-ltb _ _ big)));
              },
            )
      ]
