-- What an instruction leaves of symbolic bytes agrees with what the machine computes.
use Rattle.std.proofs.Common.{◌≡◌, ℕ, ◌<◌, List, Option, Some, None, refl, sym, ap, ap₂, ◌∙◌, subst, Bool, true, false, cond}
use Rattle.std.specs.Prelude.{◌==◌, slice_index, bit_or}
use Rattle.std.specs.Int.Bits.{or_zero_l, or_zero_r, or_self}
use Rattle.std.proofs.lemmas.Bool.{and_parts, eqb-true}
use Rattle.spu_isa.specs.declared.instruction.Inst.{Inst}
use Rattle.spu_exec.specs.Lanes.{immediate}
use Rattle.spu_exec.specs.Values.{value}
use Rattle.spu_exec.specs.Moves.{moved}
use Rattle.spu_exec.proofs.Moves.{no_some, some_is, Keeps, moved_agrees}
use Rattle.spu_lift.specs.declared.program.Label.{Label}
use Rattle.spu_lift.specs.declared.symbolic.SymByte.{SymByte}
use Rattle.spu_lift.specs.declared.symbolic.SymByte.TheVariants.{Num, Part, Unknown}
use Rattle.spu_ideal.specs.Bytes.{sym_at, same_label, is_zero, same_part, joined, sym_bytes}
use Rattle.spu_ideal.specs.Results.{or_else, number_byte, computed_byte, symbolic_byte, symbolic_value}
use Rattle.spu_image.proofs.Agreeings.{Agreeing}
use Rattle.spu_image.specs.Agreeing.{Agrees, AgreesQuad}
use Rattle.spu_image.proofs.Agreement.{number_is, same_is, byte_agrees, agrees_sixteen}

-- ---- symbolic bytes keep agreeing as they move

-- the or of a byte with the number 0
left_zero : (c : Label → List ℕ) (u r : SymByte) (v w : ℕ) → v ≡ 0 → Agrees c u w → u ≡ r → Agrees c r (bit_or v w)
left_zero c u r v w z h e = subst (λ s. Agrees c s (bit_or v w)) e (subst (Agrees c u) (sym (ap (λ x. bit_or x w) z ∙ or_zero_l w)) h)

right_zero : (c : Label → List ℕ) (u r : SymByte) (v w : ℕ) → w ≡ 0 → Agrees c u v → u ≡ r → Agrees c r (bit_or v w)
right_zero c u r v w z h e = subst (λ s. Agrees c s (bit_or v w)) e (subst (Agrees c u) (sym (ap (bit_or v) z ∙ or_zero_r v)) h)

zero_is : (c : Label → List ℕ) (s : SymByte) (v : ℕ) → is_zero s ≡ true → Agrees c s v → v ≡ 0
zero_is c (Num n) v t h = h ∙ eqb-true n 0 t
zero_is c (Part l k) v t h = cc
zero_is c Unknown v t h = cc

-- the or of a part with itself
same_is_one : (c : Label → List ℕ) (s u : SymByte) (v w : ℕ) → same_part s u ≡ true → Agrees c s v → Agrees c u w → w ≡ v
same_is_one c (Part l k) (Part m j) v w t hv hw =
    let q = and_parts (same_label l m) (k == j) t in
    hw ∙ ap₂ (λ n i. slice_index (c n) i) (sym (same_is l m q.0)) (sym (eqb-true k j q.1)) ∙ sym hv
same_is_one c (Part l k) (Num n) v w t hv hw = cc
same_is_one c (Part l k) Unknown v w t hv hw = cc
same_is_one c (Num n) u v w t hv hw = cc
same_is_one c Unknown u v w t hv hw = cc

joined_agrees : (c : Label → List ℕ) (s u r : SymByte) (v w : ℕ) → Agrees c s v → Agrees c u w → joined s u ≡ Some r → Agrees c r (bit_or v w)
joined_agrees c s u r v w hv hw e =
    by_first (is_zero s) refl e
  where
    by_part : (b : Bool) → same_part s u ≡ b → cond b (Some s) None ≡ Some r → Agrees c r (bit_or v w)
    by_part true t e =
        subst (λ x. Agrees c x (bit_or v w)) (some_is s r e) (subst (Agrees c s) (sym (ap (bit_or v) (same_is_one c s u v w t hv hw) ∙ or_self v)) hv)
    by_part false t e = no_some r e

    by_second : (b : Bool) → is_zero u ≡ b → cond b (Some s) (cond (same_part s u) (Some s) None) ≡ Some r → Agrees c r (bit_or v w)
    by_second true t e = right_zero c s r v w (zero_is c u w t hw) hv (some_is s r e)
    by_second false t e = by_part (same_part s u) refl e

    by_first : (b : Bool) → is_zero s ≡ b → cond b (Some u) (cond (is_zero u) (Some s) (cond (same_part s u) (Some s) None)) ≡ Some r → Agrees c r (bit_or v w)
    by_first true t e = left_zero c u r v w (zero_is c s v t hv) hw (some_is u r e)
    by_first false t e = by_second (is_zero u) refl e

pub symbols_keep : (c : Label → List ℕ) → Keeps SymByte sym_bytes (Agrees c)
symbols_keep c = record {
  constant = λ v. refl;
  number = λ s v n h e. number_is c s v n h e;
  joined = λ s u r v w p q h j e. joined_agrees c s u r v w h j e;
}

-- ---- the one lemma

pub moved_or_computed : (c : Label → List ℕ) (o : Option SymByte) (other : SymByte) (v : ℕ) → ((s : SymByte) → o ≡ Some s → Agrees c s v) → Agrees c other v → Agrees c (or_else o other) v
moved_or_computed c None other v moves computed = computed
moved_or_computed c (Some s) other v moves computed = moves s refl

symbolic_byte_agrees : (c : Label → List ℕ) (x : Inst) (sa sb sc st : List SymByte) (a b e t : List ℕ) → Agreeing c sa sb sc st a b e t → (k : ℕ) → k < 16 → Agrees c (symbolic_byte x sa sb sc st k) (slice_index (value x a b e t) k)
unfolding symbolic_byte
symbolic_byte_agrees c x sa sb sc st a b e t h k lt =
    moved_or_computed c (moved sym_bytes x.op (immediate 4 x.imm) (number_byte x) (sym_at sa) (sym_at sb) (sym_at sc) (sym_at st) k) (computed_byte x sa sb sc st k) (slice_index (value x a b e t) k)
    (λ s is. moved_agrees sym_bytes (Agrees c) (symbols_keep c) x.op x (number_byte x) (sym_at sa) (sym_at sb) (sym_at sc) (sym_at st) a b e t k lt
    (record { imm = λ j below. refl; ra = h.ra; rb = h.rb; rc = h.rc; rt = h.rt; small_a = h.small_a; small_b = h.small_b; small_t = h.small_t }) s is)
    (byte_agrees c x sa sb sc st a b e t h.ra h.rb h.rc h.rt k lt)

pub result_agrees : (c : Label → List ℕ) (x : Inst) (sa sb sc st : List SymByte) (a b e t : List ℕ) → Agreeing c sa sb sc st a b e t → AgreesQuad c (symbolic_value x sa sb sc st) (value x a b e t)
result_agrees c x sa sb sc st a b e t h = agrees_sixteen c (symbolic_byte x sa sb sc st) (value x a b e t) (symbolic_byte_agrees c x sa sb sc st a b e t h)
