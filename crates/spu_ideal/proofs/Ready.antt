-- A computing instruction whose named sources are numbers gives the machine's value.
use Rattle.std.proofs.Common.{◌≡◌, ℕ, zero, suc, ◌<◌, List, [], ◌∷◌, Some, None, Option, Bool, true, false, not, refl, sym, subst, ap, ap₂, ◌∙◌, arith, bit_or}
use Rattle.std.specs.Prelude.{◌&&◌, ◌||◌, ◌==◌, if◌then◌else◌, map, slice_index}
use Rattle.std.specs.Int.Bits.{or_zero_l, or_zero_r}
use Rattle.std.proofs.lemmas.Bool.{and_parts, eqb-true, cond-true}
use Rattle.spu_word.specs.declared.big_endian.Quad.{Quad}
use Rattle.spu_isa.specs.declared.operation.Op.{Op}
use Rattle.spu_isa.specs.declared.operation.Op.TheVariants as op
use Rattle.spu_isa.specs.declared.instruction.Inst.{Inst}
use Rattle.spu_exec.specs.Lanes.{immediate}
use Rattle.spu_exec.specs.Moves.{moved}
use Rattle.spu_exec.specs.declared.sources.Source.{Source}
use Rattle.spu_exec.specs.declared.sources.Source.TheVariants.{FromRa, FromRb, FromRc, FromRt}
use Rattle.spu_exec.specs.Reads.{names, covers, extent, reads, AgreeIn}
use Rattle.spu_exec.specs.Values.{HasBytes, value}
use Rattle.spu_exec.proofs.Moves.{Keeps, moved_agrees}
use Rattle.spu_exec.proofs.Laws.{lane_law_lem}
use Rattle.spu_lift.specs.declared.symbolic.SymByte.{SymByte}
use Rattle.spu_lift.specs.declared.symbolic.SymByte.TheVariants.{Num}
use Rattle.spu_ideal.specs.Bytes.{sym_at, is_number, number_of, number_in, joined, sym_bytes, sixteen}
use Rattle.spu_ideal.specs.Results.{are_known, computed_byte, number_byte, or_else, symbolic_byte, symbolic_value}
use Rattle.spu_ideal.specs.declared.quads.SymQuad.{SymQuad}
use Rattle.spu_ideal.specs.declared.quads.SymQuad.TheVariants.{Numbers}
use Rattle.spu_ideal.specs.Quads.{quad_bytes, is_plain, plain_number}
use Rattle.spu_ideal.proofs.Listed.{plain_bytes, sixteen_same}

-- a source that is named is these numbers
abbrev IsReady : Op → Source → List SymByte → List ℕ → Type 0
IsReady o source s a = names o source ≡ true → (k : ℕ) → k < 16 → sym_at s k ≡ Num (slice_index a k)

-- ---- moves

joined_number : (v w : ℕ) (r : SymByte) → joined (Num v) (Num w) ≡ Some r → r ≡ Num (bit_or v w)
joined_number v w r e = by_first (v == 0) refl e
  where
    by_second : (b : Bool) → (w == 0) ≡ b → (if b then Some (Num v) else (if false then Some (Num v) else None)) ≡ Some r → r ≡ Num (bit_or v w)
    by_second true z h = let is : Num v ≡ r = cc in sym is ∙ ap Num (sym (ap (bit_or v) (eqb-true w 0 z) ∙ or_zero_r v))
    by_second false z h = absurd (cc)

    by_first : (b : Bool) → (v == 0) ≡ b → (if b then Some (Num w) else (if w == 0 then Some (Num v) else (if false then Some (Num v) else None))) ≡ Some r → r ≡ Num (bit_or v w)
    by_first true z h = let is : Num w ≡ r = cc in sym is ∙ ap Num (sym (ap (λ n. bit_or n w) (eqb-true v 0 z) ∙ or_zero_l w))
    by_first false z h = by_second (w == 0) refl h

keeps : Keeps SymByte sym_bytes (λ s v. s ≡ Num v)
keeps = record {
  constant = λ v. refl;
  number = λ s v n h e. (let f : number_in (Num v) ≡ Some n = subst (λ u. number_in u ≡ Some n) h e in cc);
  joined = λ s u r v w p q h j e. joined_number v w r (subst (λ y. joined (Num v) y ≡ Some r) j (subst (λ y. joined y u ≡ Some r) h e));
}

-- a source that isn't named may be anything
pick : Bool → (ℕ → SymByte) → List ℕ → ℕ → SymByte
pick b f a j = if b then f j else Num (slice_index a j)

picked : (b : Bool) (f : ℕ → SymByte) (a : List ℕ) → (b ≡ true → (j : ℕ) → j < 16 → f j ≡ Num (slice_index a j)) → (j : ℕ) → j < 16 → pick b f a j ≡ Num (slice_index a j)
unfolding pick
picked true f a h j lt = h refl j lt
picked false f a h j lt = refl

moved_named : (o : Op) (n : ℕ) (i fa fb fc ft : ℕ → SymByte) (a b c t : List ℕ) (k : ℕ)
    → moved sym_bytes o n i fa fb fc ft k ≡ moved sym_bytes o n i (pick (names o FromRa) fa a) (pick (names o FromRb) fb b) (pick (names o FromRc) fc c) (pick (names o FromRt) ft t) k
unfolding pick
moved_named op.Shufb n i fa fb fc ft a b c t k = refl
moved_named op.Selb n i fa fb fc ft a b c t k = refl
moved_named op.Rotqby n i fa fb fc ft a b c t k = refl
moved_named op.Rotqbyi n i fa fb fc ft a b c t k = refl
moved_named op.Rotqbybi n i fa fb fc ft a b c t k = refl
moved_named op.Shlqby n i fa fb fc ft a b c t k = refl
moved_named op.Shlqbyi n i fa fb fc ft a b c t k = refl
moved_named op.Shlqbybi n i fa fb fc ft a b c t k = refl
moved_named op.Rotqmby n i fa fb fc ft a b c t k = refl
moved_named op.Rotqmbyi n i fa fb fc ft a b c t k = refl
moved_named op.Or n i fa fb fc ft a b c t k = refl
moved_named op.Ori n i fa fb fc ft a b c t k = refl
moved_named op.Orhi n i fa fb fc ft a b c t k = refl
moved_named op.Orbi n i fa fb fc ft a b c t k = refl
moved_named op.Iohl n i fa fb fc ft a b c t k = refl
moved_named op.Ila n i fa fb fc ft a b c t k = refl
moved_named op.Ilhu n i fa fb fc ft a b c t k = refl
moved_named _ n i fa fb fc ft a b c t k = refl

-- ---- bytes that are computed

pub known_where : (f : ℕ → Bool) (q : List SymByte) (n : ℕ) → ((j : ℕ) → j < n → f j ≡ true → is_number (sym_at q j) ≡ true) → are_known f q n ≡ true
unfolding are_known
known_where f q zero h = refl
known_where f q (suc n) h = ap₂ (λ x y. x && y) (here (f n) refl) (known_where f q n (λ j lt. h j (omega arith)))
  where
    here : (b : Bool) → f n ≡ b → (if f n then is_number (sym_at q n) else true) ≡ true
    here true e = ap (λ r. if r then is_number (sym_at q n) else true) e ∙ h n (omega arith) e
    here false e = ap (λ r. if r then is_number (sym_at q n) else true) e

pub number_at : (s : List SymByte) (j : ℕ) → slice_index (map number_of s) j ≡ number_of (sym_at s j)
number_at [] j = refl
number_at (s ∷ ss) zero = refl
number_at (s ∷ ss) (suc j) = number_at ss j

read_named : (o : Op) (source : Source) (k j : ℕ) → reads o source k j ≡ true → names o source ≡ true
read_named o source k j e = (and_parts (names o source) (covers (extent o source) k j) e).0

module _ (x : Inst) (sa sb sc st : List SymByte) (a b c t : List ℕ)
    (ra : IsReady x.op FromRa sa a) (rb : IsReady x.op FromRb sb b) (rc : IsReady x.op FromRc sc c) (rt : IsReady x.op FromRt st t)
    (ha : HasBytes a) (hb : HasBytes b) (ht : HasBytes t) where
  known_all : (source : Source) (s : List SymByte) (q : List ℕ) → IsReady x.op source s q → (k : ℕ) → are_known (reads x.op source k) s 16 ≡ true
  known_all source s q ready k = known_where (reads x.op source k) s 16 (λ j lt e. ap is_number (ready (read_named x.op source k j e) j lt))

  agree : (source : Source) (s : List SymByte) (q : List ℕ) → IsReady x.op source s q → (k : ℕ) → AgreeIn (reads x.op source k) (map number_of s) q
  agree source s q ready k j lt e = number_at s j ∙ ap number_of (ready (read_named x.op source k j e) j lt)

  all_true : (p q r s : Bool) → p ≡ true → q ≡ true → r ≡ true → s ≡ true → (p && (q && (r && s))) ≡ true
  all_true p q r s e f g h = cc

  computed_is : (k : ℕ) → k < 16 → computed_byte x sa sb sc st k ≡ Num (slice_index (value x a b c t) k)
  unfolding computed_byte
  computed_is k lt =
      cond-true _ _ _ (all_true _ _ _ _ (known_all FromRa sa a ra k) (known_all FromRb sb b rb k) (known_all FromRc sc c rc k) (known_all FromRt st t rt k))
      ∙ ap Num (lane_law_lem x (map number_of sa) (map number_of sb) (map number_of sc) (map number_of st) a b c t k lt (agree FromRa sa a ra k) (agree FromRb sb b rb k) (agree FromRc sc c rc k) (agree FromRt st t rt k))

  moved_is : (k : ℕ) → k < 16 → (s : SymByte) → moved sym_bytes x.op (immediate 4 x.imm) (number_byte x) (sym_at sa) (sym_at sb) (sym_at sc) (sym_at st) k ≡ Some s → s ≡ Num (slice_index (value x a b c t) k)
  moved_is k lt s e =
      moved_agrees sym_bytes (λ s v. s ≡ Num v) keeps x.op x (number_byte x)
      (pick (names x.op FromRa) (sym_at sa) a) (pick (names x.op FromRb) (sym_at sb) b) (pick (names x.op FromRc) (sym_at sc) c) (pick (names x.op FromRt) (sym_at st) t) a b c t k lt
      (record {
        imm = λ j below. refl;
        ra = picked (names x.op FromRa) (sym_at sa) a ra;
        rb = picked (names x.op FromRb) (sym_at sb) b rb;
        rc = picked (names x.op FromRc) (sym_at sc) c rc;
        rt = picked (names x.op FromRt) (sym_at st) t rt;
        small_a = ha;
        small_b = hb;
        small_t = ht;
      })
      s (sym (moved_named x.op (immediate 4 x.imm) (number_byte x) (sym_at sa) (sym_at sb) (sym_at sc) (sym_at st) a b c t k) ∙ e)

  byte_is : (k : ℕ) → k < 16 → symbolic_byte x sa sb sc st k ≡ Num (slice_index (value x a b c t) k)
  unfolding symbolic_byte
  byte_is k lt = by_move (moved sym_bytes x.op (immediate 4 x.imm) (number_byte x) (sym_at sa) (sym_at sb) (sym_at sc) (sym_at st) k) refl
    where
      by_move : (o : Option SymByte) → moved sym_bytes x.op (immediate 4 x.imm) (number_byte x) (sym_at sa) (sym_at sb) (sym_at sc) (sym_at st) k ≡ o
          → or_else o (computed_byte x sa sb sc st k) ≡ Num (slice_index (value x a b c t) k)
      by_move None e = computed_is k lt
      by_move (Some s) e = moved_is k lt s e

  pub value_ready : symbolic_value x sa sb sc st ≡ sixteen (λ k. Num (slice_index (value x a b c t) k))
  value_ready = sixteen_same (symbolic_byte x sa sb sc st) (λ k. Num (slice_index (value x a b c t) k)) byte_is

-- ---- quads that are kept as numbers where they are named

plain_ready : (o : Op) (source : Source) (q : SymQuad) (a : List ℕ) → (is_plain q || not (names o source)) ≡ true → ((k : ℕ) → k < 16 → slice_index a k ≡ plain_number q k) → IsReady o source (quad_bytes q) a
plain_ready o source q a ready same named k lt = plain_bytes q k lt (plain (is_plain q) (names o source) ready named) ∙ ap Num (sym (same k lt))
  where
    plain : (p n : Bool) → (p || not n) ≡ true → n ≡ true → p ≡ true
    plain true n e f = refl
    plain false true e f = cc
    plain false false e f = cc

pub numbers_ready : (x : Inst) (qa qb qc qt : SymQuad) (a b c t r : Quad)
    → (is_plain qa || not (names x.op FromRa)) ≡ true → (is_plain qb || not (names x.op FromRb)) ≡ true → (is_plain qc || not (names x.op FromRc)) ≡ true → (is_plain qt || not (names x.op FromRt)) ≡ true
    → ((k : ℕ) → k < 16 → slice_index a.0 k ≡ plain_number qa k) → ((k : ℕ) → k < 16 → slice_index b.0 k ≡ plain_number qb k) → ((k : ℕ) → k < 16 → slice_index c.0 k ≡ plain_number qc k) → ((k : ℕ) → k < 16 → slice_index t.0 k ≡ plain_number qt k)
    → HasBytes a.0 → HasBytes b.0 → HasBytes t.0 → r.0 ≡ value x a.0 b.0 c.0 t.0
    → quad_bytes (Numbers r) ≡ symbolic_value x (quad_bytes qa) (quad_bytes qb) (quad_bytes qc) (quad_bytes qt)
unfolding quad_bytes
numbers_ready x qa qb qc qt a b c t r na nb nc nt ea eb ec et ha hb ht is =
    ap (λ (l : List ℕ). sixteen (λ k. Num (slice_index l k))) is
    ∙ sym (value_ready x (quad_bytes qa) (quad_bytes qb) (quad_bytes qc) (quad_bytes qt) a.0 b.0 c.0 t.0
    (plain_ready x.op FromRa qa a.0 na ea) (plain_ready x.op FromRb qb b.0 nb eb) (plain_ready x.op FromRc qc c.0 nc ec) (plain_ready x.op FromRt qt t.0 nt et) ha hb ht)
