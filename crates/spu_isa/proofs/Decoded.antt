-- The function `decoded` gives the one instruction that a word is.
use Rattle.std.proofs.Common.{◌≡◌, ℕ, zero, suc, ◌+◌, ◌-◌, ◌*◌, ◌/◌, ◌^◌, ◌<◌, ◌≤◌, ◌⊎◌, List, [], ◌∷◌, length, get_or, refl, sym, ap, subst, ◌∙◌, arith, inl, inr, Bool, true, false, cond, Some, None}
use Rattle.std.specs.Prelude.{◌==◌, ◌&&◌, ◌||◌, nat_le, find}
use Rattle.std.specs.Option.{option_map}
use Rattle.std.specs.List.{AllByRecursion, list_all}
use Rattle.std.proofs.lemmas.Bool.{and_parts, eqb-true, eq-eqb, leb-true, cases_lt}
use denote.Enum.Declared.{tag_of}
use Rattle.spu_isa.specs.contracts.operation.Op.{the_type}
use Rattle.spu_isa.specs.declared.operation.Op.{Op}
use Rattle.spu_isa.specs.declared.operation.Op.TheVariants as op
use Rattle.spu_isa.specs.declared.instruction.Inst.{Inst}
use Rattle.spu_isa.specs.declared.operation.TheConstants.{OPCODE_BITS, WORD_BITS}
use Rattle.spu_isa.specs.Table.{Layout, Rr, Rrr, Ri7, Ri10, Ri16, Ri18, HintA, HintB, StopForm, Register, row_of, opcode_bits, opcode_of, HasOpcode, HasNoOtherBits, Decodes, bits_at, fields_of, reg_of}
use Rattle.spu_isa.specs.Decoding.{all_ops, read_as, no_other_bits, are_zero, is_word_of, decoded}
use Rattle.spu_isa.proofs.Agreement.{number_within}
use Rattle.spu_isa.proofs.Words.{front, op-fields_of}

-- ---- the first 11 bits of an operation's words: from least on, below past

least : Op → ℕ
least o = opcode_of o * 2 ^ (OPCODE_BITS - opcode_bits (row_of o).layout)

past : Op → ℕ
past o = (opcode_of o + 1) * 2 ^ (OPCODE_BITS - opcode_bits (row_of o).layout)

-- two operations have no prefix in common
abbrev are_apart : Op → Op → Bool
are_apart o p = nat_le (past o) (least p) || nat_le (past p) (least o)

abbrev all_apart : List Op → Bool
all_apart [] = true
all_apart (o ∷ os) = list_all (are_apart o) os && all_apart os

table_apart : all_apart all_ops ≡ true
unfolding least past
table_apart = refl

passes : (p : Op → Bool) (os : List Op) (d : Op) (j : ℕ) → list_all p os ≡ true → j < length os → p (get_or os j d) ≡ true
passes p [] d j all within = absurd (omega arith)
passes p (o ∷ os) d zero all within = (and_parts (p o) (list_all p os) all).0
passes p (o ∷ os) d (suc j) all within = passes p os d j (and_parts (p o) (list_all p os) all).1 (omega arith)

apart_at : (os : List Op) (d : Op) (i j : ℕ) → all_apart os ≡ true → i < j → j < length os → are_apart (get_or os i d) (get_or os j d) ≡ true
apart_at [] d i j apart lt within = absurd (omega arith)
apart_at (o ∷ os) d i zero apart lt within = absurd (omega arith)
apart_at (o ∷ os) d zero (suc j) apart lt within =
    passes (are_apart o) os d j (and_parts (list_all (are_apart o) os) (all_apart os) apart).0 (omega arith)
apart_at (o ∷ os) d (suc i) (suc j) apart lt within =
    apart_at os d i j (and_parts (list_all (are_apart o) os) (all_apart os) apart).1 (omega arith) (omega arith)

-- a number lies between its quotient's multiple and the next
between : (l : Layout) (n c : ℕ) → n / 2 ^ (OPCODE_BITS - opcode_bits l) ≡ c → (c * 2 ^ (OPCODE_BITS - opcode_bits l) ≤ n) × (n < (c + 1) * 2 ^ (OPCODE_BITS - opcode_bits l))
between Rr n c e = (omega arith, omega arith)
between Rrr n c e = (omega arith, omega arith)
between Ri7 n c e = (omega arith, omega arith)
between Ri10 n c e = (omega arith, omega arith)
between Ri16 n c e = (omega arith, omega arith)
between Ri18 n c e = (omega arith, omega arith)
between HintA n c e = (omega arith, omega arith)
between HintB n c e = (omega arith, omega arith)
between StopForm n c e = (omega arith, omega arith)

prefix_within : (w : ℕ) (o : Op) → HasOpcode w o → (least o ≤ w / 2 ^ 21) × (w / 2 ^ 21 < past o)
unfolding least past
prefix_within w o h = between (row_of o).layout (w / 2 ^ 21) (opcode_of o) (front (row_of o).layout w ∙ h)

op_at : (d o : Op) → get_or all_ops (tag_of the_type o) d ≡ o
op_at d op.A = refl
op_at d _ = refl

either : (a b : Bool) → (a || b) ≡ true → (a ≡ true) ⊎ (b ≡ true)
either true b e = inl refl
either false b e = inr e

not_apart : (n : ℕ) (o p : Op) → are_apart o p ≡ true → (least o ≤ n) × (n < past o) → (least p ≤ n) × (n < past p) → ⊥
not_apart n o p apart x y =
    elim (either (nat_le (past o) (least p)) (nat_le (past p) (least o)) apart) [
      | inl t ↦ let before : past o ≤ least p = leb-true (past o) (least p) t in omega arith
      | inr t ↦ let behind : past p ≤ least o = leb-true (past p) (least o) t in omega arith
    ]

apart_ops : (d x y : Op) → tag_of the_type x < tag_of the_type y → are_apart x y ≡ true
apart_ops d x y below =
    let apart = apart_at all_ops d (tag_of the_type x) (tag_of the_type y) table_apart below (number_within y) in
    subst (λ o. are_apart o y ≡ true) (op_at d x) (subst (λ o. are_apart (get_or all_ops (tag_of the_type x) d) o ≡ true) (op_at d y) apart)

-- a word has the opcode of one operation alone
pub one_op : (w : ℕ) (x y : Op) → HasOpcode w x → HasOpcode w y → x ≡ y
one_op w x y hx hy =
    let px = prefix_within w x hx in
    let py = prefix_within w y hy in
    elim (cases_lt (tag_of the_type x) (tag_of the_type y)) [
      | inl below ↦ absurd (not_apart (w / 2 ^ 21) x y (apart_ops x x y below) px py)
      | inr not_below ↦ elim (cases_lt (tag_of the_type y) (tag_of the_type x)) [
        | inl below ↦ absurd (not_apart (w / 2 ^ 21) y x (apart_ops x y x below) py px)
        | inr same ↦ let e : tag_of the_type x ≡ tag_of the_type y = omega arith in sym (op_at x x) ∙ ap (λ k. get_or all_ops k x) e ∙ op_at x y
      ]
    ]

-- a word is one instruction alone
pub one_instruction_lem : (w : ℕ) (x y : Inst) → Decodes w x → Decodes w y → x ≡ y
one_instruction_lem w x y dx dy = dx.fields ∙ ap (λ o. fields_of (row_of o).layout o w) (one_op w x.op y.op dx.opcode dy.opcode) ∙ sym dy.fields

-- ---- the tests of `decoded` say what the relation says

tests_bits : (l : Layout) (w : ℕ) → no_other_bits l w ≡ true → HasNoOtherBits l w
tests_bits Rr w t = tt
tests_bits Rrr w t = tt
tests_bits Ri7 w t = tt
tests_bits Ri10 w t = tt
tests_bits Ri16 w t = tt
tests_bits Ri18 w t = tt
tests_bits HintA w t = eqb-true (bits_at w 16 5) 0 t
tests_bits HintB w t = tt
tests_bits StopForm w t = eqb-true (bits_at w 14 7) 0 t

bits_test : (l : Layout) (w : ℕ) → HasNoOtherBits l w → no_other_bits l w ≡ true
bits_test Rr w h = refl
bits_test Rrr w h = refl
bits_test Ri7 w h = refl
bits_test Ri10 w h = refl
bits_test Ri16 w h = refl
bits_test Ri18 w h = refl
bits_test HintA w h = eq-eqb (bits_at w 16 5) 0 h
bits_test HintB w h = refl
bits_test StopForm w h = eq-eqb (bits_at w 14 7) 0 h

tests_zero : (rs : List Register) (x : Inst) → are_zero rs x ≡ true → AllByRecursion (λ f. reg_of x f ≡ 0) rs
tests_zero [] x t = tt
tests_zero (r ∷ rs) x t = let p = and_parts (reg_of x r == 0) (are_zero rs x) t in (eqb-true (reg_of x r) 0 p.0, tests_zero rs x p.1)

both : (a b : Bool) → a ≡ true → b ≡ true → (a && b) ≡ true
both a b p q = ap (λ c. c && b) p ∙ q

zero_test : (rs : List Register) (x : Inst) → AllByRecursion (λ f. reg_of x f ≡ 0) rs → are_zero rs x ≡ true
zero_test [] x h = refl
zero_test (r ∷ rs) x h = both (reg_of x r == 0) (are_zero rs x) (eq-eqb (reg_of x r) 0 h.0) (zero_test rs x h.1)

read_as_decodes : (w : ℕ) (o : Op) → is_word_of w o ≡ true → Decodes w (read_as w o)
read_as_decodes w o t =
    let p = and_parts (w / 2 ^ (WORD_BITS - opcode_bits (row_of o).layout) == opcode_of o) (no_other_bits (row_of o).layout w && are_zero (row_of o).zero_fields (read_as w o)) t in
    let q = and_parts (no_other_bits (row_of o).layout w) (are_zero (row_of o).zero_fields (read_as w o)) p.1 in
    let x : Inst = read_as w o in
    let same : x.op ≡ o = op-fields_of (row_of o).layout o w in
    let Parts : Op → Type 0 = λ k. HasOpcode w k × (x ≡ fields_of (row_of k).layout k w) × HasNoOtherBits (row_of k).layout w × AllByRecursion (λ f. reg_of x f ≡ 0) (row_of k).zero_fields in
    let there : Parts o = (eqb-true _ _ p.0, refl, tests_bits (row_of o).layout w q.0, tests_zero (row_of o).zero_fields x q.1) in
    let here : Parts x.op = subst Parts (sym same) there in
    record { opcode = here.0; fields = here.1; others = here.2; zeros = here.3 }

decodes_test : (w : ℕ) (x : Inst) → Decodes w x → is_word_of w x.op ≡ true
decodes_test w x d =
    both _ _ (eq-eqb _ _ d.opcode) (both _ _ (bits_test (row_of x.op).layout w d.others) (zero_test (row_of x.op).zero_fields (read_as w x.op) (subst (λ y. AllByRecursion (λ f. reg_of y f ≡ 0) (row_of x.op).zero_fields) d.fields d.zeros)))

-- ---- what a search finds

none_some : {A : Type 0} (a : A) → None ≡ Some a → ⊥
none_some a e = cc

found : (w : ℕ) (os : List Op) (x : Inst) → option_map (read_as w) (find (is_word_of w) os) ≡ Some x → Decodes w x
found w [] x e = absurd (none_some x e)
found w (o ∷ os) x e =
    elim (is_word_of w o) as (λ b. is_word_of w o ≡ b → option_map (read_as w) (cond b (Some o) (find (is_word_of w) os)) ≡ Some x → Decodes w x) [
      | true ↦ λ t f. let same : read_as w o ≡ x = cc in subst (Decodes w) same (read_as_decodes w o t)
      | false ↦ λ t f. found w os x f
    ] refl e

finds : (w : ℕ) (os : List Op) (d : Op) (i : ℕ) → i < length os → is_word_of w (get_or os i d) ≡ true → (y : Inst) × (option_map (read_as w) (find (is_word_of w) os) ≡ Some y)
finds w [] d i lt t = absurd (omega arith)
finds w (o ∷ os) d zero lt t = (read_as w o, ap (λ b. option_map (read_as w) (cond b (Some o) (find (is_word_of w) os))) t)
finds w (o ∷ os) d (suc i) lt t =
    elim (is_word_of w o) as (λ b. (y : Inst) × (option_map (read_as w) (cond b (Some o) (find (is_word_of w) os)) ≡ Some y)) [
      | true ↦ (read_as w o, refl)
      | false ↦ finds w os d i (omega arith) t
    ]

-- the function's answer is the relation's
pub decoded_decodes : (w : ℕ) (x : Inst) → decoded w ≡ Some x → Decodes w x
unfolding decoded
decoded_decodes w x e = found w all_ops x e

pub decodes_decoded : (w : ℕ) (x : Inst) → Decodes w x → decoded w ≡ Some x
unfolding decoded
decodes_decoded w x d =
    let test : is_word_of w (get_or all_ops (tag_of the_type x.op) x.op) ≡ true = ap (is_word_of w) (op_at x.op x.op) ∙ decodes_test w x d in
    let y = finds w all_ops x.op (tag_of the_type x.op) (number_within x.op) test in
    y.1 ∙ ap Some (one_instruction_lem w y.0 x (found w all_ops y.0 y.1) d)

pub none_decoded : (w : ℕ) → ((x : Inst) → Decodes w x → ⊥) → decoded w ≡ None
none_decoded w none =
    elim (decoded w) as (λ o. decoded w ≡ o → o ≡ None) [
      | None ↦ λ e. refl
      | Some x ↦ λ e. absurd (none x (decoded_decodes w x e))
    ] refl
