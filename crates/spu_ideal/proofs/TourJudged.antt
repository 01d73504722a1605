-- The sample program that has an instruction of each kind is judged: its frames are good, and its entry needs 32 bytes of stack.
use Rattle.std.proofs.Common.{◌≡◌, ◌≢◌, ℕ, zero, suc, ◌+◌, ◌<◌, ◌≤◌, ◌⊎◌, inl, inr, List, [], ◌∷◌, length, Some, refl, sym, ap, ap₂, subst, ◌∙◌, arith, lit≤, lit<, codes, Bool, true, false, ℤ, pos, negsuc}
use Rattle.std.specs.Prelude.{slice_get, ◌+ℤ◌, ◌-ℤ◌, ◌≤ℤ◌, ◌==◌, ◌&&◌, ◌%◌, nat_le, slice_index, if◌then◌else◌}
use Rattle.std.specs.List.{Contains}
use Rattle.std.proofs.lemmas.Bool.{cond_both}
use Rattle.std.proofs.lemmas.Int.{ints}
use Rattle.std.proofs.lemmas.Option.{slice_get_within}
use Rattle.std.proofs.lemmas.List.Elements.{All-nil, All-cons}
use Rattle.spu_word.specs.declared.limits.TheConstants.{MAX_SECTION_SIZE}
use Rattle.spu_isa.specs.declared.operation.Op.TheVariants as op
use Rattle.spu_isa.specs.declared.operation.Kind.{Kind}
use Rattle.spu_isa.specs.declared.operation.Kind.TheVariants as kind
use Rattle.spu_isa.specs.Table.{InRange, row_of}
use Rattle.spu_lift.specs.declared.program.CodeSection.{CodeSection}
use Rattle.spu_lift.specs.declared.program.Function.{Function}
use Rattle.spu_lift.specs.declared.program.Label.TheVariants.{Fun}
use Rattle.spu_lift.specs.declared.program.Operand.TheVariants as operand
use Rattle.spu_lift.specs.declared.program.Part.{Part}
use Rattle.spu_lift.specs.declared.program.SymInst.{SymInst}
use Rattle.spu_lift.specs.declared.program.WordLabel.{WordLabel}
use Rattle.spu_lift.specs.Places.{instruction_at, taken_places, kind_of, Writes}
use Rattle.spu_lift.specs.WellFormed.{IsRising, IsCallee, IsTakenTarget, needs_operand, IsOperand, IsInstruction, IsFunction, IsPart, AreApart, IsWellFormed}
use Rattle.spu_lift.proofs.StartFormed.{lqr_formed, brsl_formed, stop_formed}
use Rattle.spu_lift.proofs.WrittenNames.{name_written}
use Rattle.spu_frame.specs.Walks.{goes_on, Follows, IsKnownWrite, AddsImmediate, Adds, IsWalk, IsDepth, Reaches}
use Rattle.spu_frame.specs.Frames.{IsExit, IsDepthInRange, IsDepthAt, AreGood, IsFrame}
use Rattle.spu_frame.proofs.Walks.{same_instruction, reaches_next, reaches_start, adds_none}
use Rattle.spu_graph.specs.declared.graph.Edge.{Edge}
use Rattle.spu_graph.specs.Paths.{IsPath, weight_if, edges_weight, weight, functions_on, IsNeed, IsRecursive}
use Rattle.spu_ideal.specs.Edges.{Calls, Jumps, IsEdge}
use Rattle.spu_ideal.specs.Samples.{with_fields, with_operand, write_channel, go_back, tours, tour_frames}
use Rattle.spu_ideal.specs.States.{IsJudged}

-- ---- the depth at each place, and what the place adds

abbrev depth_at : ℕ → ℕ → ℤ
depth_at f i = if (f == 1) && (nat_le 2 i && nat_le i 11) then pos 32 else pos 0

abbrev added : ℕ → ℕ → ℤ
added f i = if (f == 1) && (i == 1) then pos 32 else (if (f == 1) && (i == 11) then negsuc 31 else pos 0)

abbrev InFrame : ℕ → ℤ → Type 0
InFrame f n = (pos 0 ≤ℤ n) × (n ≤ℤ pos (tour_frames f))

zero_in : (f : ℕ) → InFrame f (pos 0)
zero_in f = let some : 0 ≤ tour_frames f = omega arith in (omega (arith, ints), omega (arith, ints, some))

full_in : InFrame 1 (pos 32)
full_in = (omega (arith, ints), omega (arith, ints))

the_one : {A : Type 0} (x y : A) → Some x ≡ Some y → x ≡ y
the_one x y e = cc

-- where calls and jumps of a function lead
abbrev MayLead : ℕ → ℕ → Type 0
MayLead zero g = Unit {0}
MayLead (suc zero) g = g ≡ 2
MayLead (suc (suc f)) g = ⊥

-- what is shown of each place
record IsRight (f i : ℕ) (x : SymInst) : Type 0 where
  formed : IsInstruction tours f x
  adds : (c : ℤ) → Adds tours f i c → c ≡ added f i
  known : f ≢ 0 → Writes x 1 → (k : ℤ) × IsKnownWrite tours f i k
  next : goes_on (kind_of x) x.inst.op ≡ true → depth_at f (i + 1) ≡ depth_at f i +ℤ added f i
  branch : (j : ℕ) → x.operand ≡ operand.Branch j → depth_at f j ≡ depth_at f i +ℤ added f i
  before : InFrame f (depth_at f i)
  after : InFrame f (depth_at f i +ℤ added f i)
  level : IsExit tours f x → depth_at f i ≡ pos 0
  leads : (g : ℕ) → Calls tours x g ⊎ Jumps tours f x g → MayLead f g

-- ---- places

-- an instruction that is no addition to the stack pointer adds nothing
abbrev IsNoAddition : SymInst → Type 0
IsNoAddition x = ((x.inst.op ≡ op.Ai) ⊎ (x.inst.op ≡ op.A)) → x.inst.rt ≡ 1 → ⊥

none_known : (f i : ℕ) (x : SymInst) → instruction_at tours f i ≡ Some x → IsNoAddition x → (k : ℤ) → IsKnownWrite tours f i k → ⊥
none_known f i x here silent k w =
    let same : w.x ≡ x = same_instruction (instruction_at tours f i) w.x x w.here here in
    elim w.form [
      | inl a ↦ silent (inl (ap (λ y. y.inst.op) (sym same) ∙ a.ai)) (ap (λ y. y.inst.rt) (sym same) ∙ a.to)
      | inr a ↦ silent (inr (ap (λ y. y.inst.op) (sym same) ∙ a.a)) (ap (λ y. y.inst.rt) (sym same) ∙ a.to)
    ]

adds_nothing : (f i : ℕ) (x : SymInst) → instruction_at tours f i ≡ Some x → IsNoAddition x → (c : ℤ) → Adds tours f i c → c ≡ pos 0
adds_nothing f i x here silent c (inl (k, w, e)) = absurd (none_known f i x here silent k w)
adds_nothing f i x here silent c (inr (n, e)) = e

-- ai $1,$1,k adds -k
adds_k : (f i : ℕ) (x : SymInst) (k : ℤ) → instruction_at tours f i ≡ Some x → AddsImmediate x k → (c : ℤ) → Adds tours f i c → c ≡ pos 0 -ℤ k
adds_k f i x k here own c (inl (m, w, e)) =
    let same : w.x ≡ x = same_instruction (instruction_at tours f i) w.x x w.here here in
    let number : m ≡ k = elim w.form [
      | inl a ↦ sym a.number ∙ ap (λ y. y.inst.imm) same ∙ own.number
      | inr a ↦ absurd (let bad : op.Ai ≡ op.A = sym own.ai ∙ ap (λ y. y.inst.op) (sym same) ∙ a.a in cc)
    ] in
    e ∙ ap (λ m. pos 0 -ℤ m) number
adds_k f i x k here own c (inr (n, e)) = absurd (n k (record { x = x; here = here; form = inl own }))

same_sum : (n m : ℤ) → m ≡ pos 0 → n +ℤ m ≡ n
same_sum n m e = omega (arith, ints, e)

-- a place that adds nothing
still : (f i : ℕ) (x : SymInst) → instruction_at tours f i ≡ Some x → IsInstruction tours f x → IsNoAddition x → (f ≢ 0 → Writes x 1 → ⊥) → added f i ≡ pos 0
    → (goes_on (kind_of x) x.inst.op ≡ true → depth_at f (i + 1) ≡ depth_at f i) → ((j : ℕ) → x.operand ≡ operand.Branch j → depth_at f j ≡ depth_at f i) → InFrame f (depth_at f i)
    → (IsExit tours f x → depth_at f i ≡ pos 0) → ((g : ℕ) → Calls tours x g ⊎ Jumps tours f x g → MayLead f g) → IsRight f i x
still f i x here formed silent other none next branch in_frame level leads =
    let sum = same_sum (depth_at f i) (added f i) none in
    record {
      formed = formed;
      adds = λ c a. adds_nothing f i x here silent c a ∙ sym none;
      known = λ n w. absurd (other n w);
      next = λ e. next e ∙ sym sum;
      branch = λ j e. branch j e ∙ sym sum;
      before = in_frame;
      after = subst (InFrame f) (sym sum) in_frame;
      level = level;
      leads = leads;
    }

-- whether a kind calls no function and goes to no register's address
abbrev stays : Kind → Bool
stays kind.Call = false
stays kind.PointerCall = false
stays kind.Indirect = false
stays _ = true

not_staying : (k m : Kind) → stays k ≡ true → stays m ≡ false → k ≡ m → ⊥
not_staying k m a b e = let c : stays k ≡ stays m = ap stays e in cc

-- an instruction with its own fields that leads nowhere and has another target than the stack pointer
plain : (f i : ℕ) (x : SymInst) → instruction_at tours f i ≡ Some x → InRange x.inst → x.operand ≡ operand.Plain → needs_operand x.inst.op ≡ false → stays (kind_of x) ≡ true → (x.inst.rt ≡ 1 → ⊥)
    → added f i ≡ pos 0 → depth_at f (i + 1) ≡ depth_at f i → InFrame f (depth_at f i) → IsRight f i x
plain f i x here range own alone stay other none next in_frame =
    still f i x here
    (record {
      range = range;
      stands = subst (λ o. IsOperand tours f x o) (sym own) alone;
      empty = λ n. absurd (n own);
      call = λ e. absurd (not_staying _ _ stay refl e);
      pointer_call = λ e. absurd (not_staying _ _ stay refl e);
    })
    (λ h e. other e) (λ n w. other w.1) none (λ e. next) (λ j e. absurd (let e = sym own ∙ e in cc)) in_frame
    (λ e. elim e [
      | inl r ↦ absurd (not_staying _ _ stay refl r.0)
      | inr more ↦ elim more [ inl j ↦ absurd (let e = sym own ∙ j.1 in cc) | inr q ↦ absurd (not_staying _ _ stay refl q.0.0) ]
    ])
    (λ g l. elim l [
      | inl c ↦ elim c [ inl d ↦ absurd (not_staying _ _ stay refl d.0) | inr q ↦ absurd (not_staying _ _ stay refl q.0) ]
      | inr j ↦ elim j [ inl o ↦ absurd (let e = sym own ∙ o in cc) | inr q ↦ absurd (not_staying _ _ stay refl q.0.0.0) ]
    ])

-- ai $1,$1,k in main
moves_pointer : (i : ℕ) (x : SymInst) (k : ℤ) → instruction_at tours 1 i ≡ Some x → IsInstruction tours 1 x → AddsImmediate x k → added 1 i ≡ pos 0 -ℤ k → depth_at 1 (i + 1) ≡ depth_at 1 i +ℤ added 1 i
    → InFrame 1 (depth_at 1 i) → InFrame 1 (depth_at 1 i +ℤ added 1 i) → IsRight 1 i x
moves_pointer i x k here formed own is next before after =
    let quiet : kind_of x ≡ kind.Compute = ap (λ o. (row_of o).kind) own.ai in
    record {
      formed = formed;
      adds = λ c a. adds_k 1 i x k here own c a ∙ sym is;
      known = λ n w. (k, record { x = x; here = here; form = inl own });
      next = λ e. next;
      branch = λ j e. absurd (let e = sym own.plain ∙ e in cc);
      before = before;
      after = after;
      level = λ e. elim e [
        | inl r ↦ absurd (let e = sym quiet ∙ r.0 in cc)
        | inr more ↦ elim more [ inl j ↦ absurd (let e = sym own.plain ∙ j.1 in cc) | inr q ↦ absurd (let e = sym quiet ∙ q.0.0 in cc) ]
      ];
      leads = λ g l. elim l [
        | inl c ↦ elim c [ inl d ↦ absurd (let e = sym quiet ∙ d.0 in cc) | inr q ↦ absurd (let e = sym quiet ∙ q.0 in cc) ]
        | inr j ↦ elim j [ inl o ↦ absurd (let e = sym own.plain ∙ o in cc) | inr q ↦ absurd (let e = sym quiet ∙ q.0.0.0 in cc) ]
      ];
    }

-- what isn't a compute instruction is no addition
no_addition : (x : SymInst) → (kind_of x ≡ kind.Compute → ⊥) → IsNoAddition x
no_addition x ne h e = elim h [ inl o ↦ ne (ap (λ o. (row_of o).kind) o) | inr o ↦ ne (ap (λ o. (row_of o).kind) o) ]

-- ---- each place

helper_callee : IsCallee tours 2
helper_callee = ((λ e. omega (arith, e)), lit< tt)

main_callee : IsCallee tours 1
main_callee = ((λ e. omega (arith, e)), lit< tt)

taken_is : (g : ℕ) → Contains (2 ∷ []) g → g ≡ 2
taken_is g (zero, lt, e) = sym e
taken_is g (suc k, lt, e) = absurd (omega (arith, lt))

no_exit : (f : ℕ) (x : SymInst) (P : Type 0) → (kind_of x ≡ kind.Indirect → ⊥) → ((g : ℕ) → x.operand ≡ operand.Jump g → ⊥) → IsExit tours f x → P
no_exit f x P ne jump e = elim e [
  | inl r ↦ absurd (ne r.0)
  | inr more ↦ elim more [ inl j ↦ absurd (jump j.0 j.1) | inr q ↦ absurd (ne q.0.0) ]
]

-- the start code
start_right : (i : ℕ) (x : SymInst) → instruction_at tours 0 i ≡ Some x → IsRight 0 i x
start_right zero x e = (
    let is : with_operand op.Lqr 1 (operand.Number 144) ≡ x = cc in
    subst (IsRight 0 0) is
    (still 0 0 _ refl (lqr_formed tours 144 (lit< tt)) (no_addition (with_operand op.Lqr 1 (operand.Number 144)) (λ e. cc)) (λ n. absurd (n refl)) refl (λ e. refl) (λ j e. absurd cc) (zero_in 0) (λ e. refl) (λ g l. tt)))
start_right (suc zero) x e = (
    let is : with_operand op.Brsl 0 (operand.Call 1) ≡ x = cc in
    subst (IsRight 0 1) is
    (still 0 1 _ refl (brsl_formed tours 1 main_callee) (no_addition (with_operand op.Brsl 0 (operand.Call 1)) (λ e. cc)) (λ n. absurd (n refl)) refl (λ e. refl) (λ j e. absurd cc) (zero_in 0) (λ e. refl) (λ g l. tt)))
start_right (suc (suc zero)) x e = (
    let is : with_fields op.Stop 0 0 0 (pos 0x2000) ≡ x = cc in
    subst (IsRight 0 2) is
    (still 0 2 _ refl (stop_formed tours) (no_addition (with_fields op.Stop 0 0 0 (pos 0x2000)) (λ e. cc)) (λ n. absurd (n refl)) refl (λ e. refl) (λ j e. absurd cc) (zero_in 0) (λ e. refl) (λ g l. tt)))
start_right (suc (suc (suc i))) x e = absurd cc

-- helper
helper_right : (i : ℕ) (x : SymInst) → instruction_at tours 2 i ≡ Some x → IsRight 2 i x
helper_right zero x e = (
    let is : with_fields op.Ai 4 4 0 (pos 7) ≡ x = cc in
    subst (IsRight 2 0) is
    (plain 2 0 _ refl (record { layout = (lit< tt, lit< tt, refl, refl, omega (arith, ints), omega (arith, ints)); zeros = tt }) refl refl refl (λ e. omega (arith, e)) refl refl (zero_in 2)))
helper_right (suc zero) x e = (
    let is : go_back ≡ x = cc in
    subst (IsRight 2 1) is
    (still 2 1 _ refl
    (record { range = record { layout = (lit< tt, lit< tt, lit< tt, refl, refl); zeros = (refl, (refl, tt)) }; stands = refl; empty = λ e. absurd (e refl); call = λ e. absurd cc; pointer_call = λ e. absurd cc })
    (no_addition (go_back) (λ e. cc)) (λ n w. absurd (let e = w.1 in omega (arith, e))) refl (λ e. refl) (λ j e. absurd cc) (zero_in 2) (λ e. refl)
    (λ g l. elim l [
      | inl c ↦ elim c [ inl d ↦ absurd (let e = d.0 in cc) | inr q ↦ absurd (let e = q.0 in cc) ]
      | inr j ↦ elim j [ inl o ↦ absurd cc | inr q ↦ absurd (q.0.0.1 refl) ]
    ])))
helper_right (suc (suc i)) x e = absurd cc

-- main
main_0 : IsRight 1 0 (with_fields op.Stqd 0 1 0 (pos 1))
main_0 =
    plain 1 0 _ refl (record { layout = (lit< tt, lit< tt, refl, refl, omega (arith, ints), omega (arith, ints)); zeros = tt }) refl refl refl (λ e. omega (arith, e)) refl refl (zero_in 1)

main_1 : IsRight 1 1 (with_fields op.Ai 1 1 0 (negsuc 31))
main_1 =
    moves_pointer 1 _ (negsuc 31) refl (record { range = record { layout = (lit< tt, lit< tt, refl, refl, omega (arith, ints), omega (arith, ints)); zeros = tt }; stands = refl; empty = λ e. absurd (e refl); call = λ e. absurd cc; pointer_call = λ e. absurd cc }) (record { ai = refl; plain = refl; to = refl; from = refl; number = refl; aligned = refl }) refl refl (zero_in 1) full_in

main_2 : IsRight 1 2 (with_operand op.Lqa 3 (operand.Number 128))
main_2 =
    still 1 2 _ refl (record { range = record { layout = (lit< tt, refl, refl, refl, omega (arith, ints), omega (arith, ints)); zeros = tt }; stands = (refl, lit< tt); empty = λ e. refl; call = λ e. absurd cc; pointer_call = λ e. absurd cc }) (no_addition (with_operand op.Lqa 3 (operand.Number 128)) (λ e. cc)) (λ n w. absurd (let e = w.1 in omega (arith, e))) refl (λ e. refl) (λ j e. absurd cc) full_in (no_exit 1 (with_operand op.Lqa 3 (operand.Number 128)) _ (λ e. cc) (λ g e. cc)) (λ g l. elim l [
      | inl c ↦ elim c [ inl d ↦ absurd (let e = d.0 in cc) | inr q ↦ absurd (let e = q.0 in cc) ]
      | inr j ↦ elim j [ inl o ↦ absurd cc | inr q ↦ absurd (let e = q.0.0.0 in cc) ]
    ])

main_3 : IsRight 1 3 (with_fields op.Bisl 0 3 0 (pos 0))
main_3 =
    still 1 3 _ refl (record { range = record { layout = (lit< tt, lit< tt, lit< tt, refl, refl); zeros = (refl, tt) }; stands = refl; empty = λ e. absurd (e refl); call = λ e. absurd cc; pointer_call = λ e. refl }) (no_addition (with_fields op.Bisl 0 3 0 (pos 0)) (λ e. cc)) (λ n w. absurd (let e = w.1 in omega (arith, e))) refl (λ e. refl) (λ j e. absurd cc) full_in (no_exit 1 (with_fields op.Bisl 0 3 0 (pos 0)) _ (λ e. cc) (λ g e. cc)) (λ g l. elim l [
      | inl c ↦ elim c [ inl d ↦ absurd (let e = d.0 in cc) | inr q ↦ taken_is g q.1 ]
      | inr j ↦ elim j [ inl o ↦ absurd cc | inr q ↦ absurd (let e = q.0.0.0 in cc) ]
    ])

main_4 : IsRight 1 4 (with_operand op.Brsl 0 (operand.Call 2))
main_4 =
    still 1 4 _ refl (record { range = record { layout = (lit< tt, refl, refl, refl, omega (arith, ints), omega (arith, ints)); zeros = tt }; stands = (refl, helper_callee); empty = λ e. refl; call = λ e. refl; pointer_call = λ e. absurd cc }) (no_addition (with_operand op.Brsl 0 (operand.Call 2)) (λ e. cc)) (λ n w. absurd (let e = w.1 in omega (arith, e))) refl (λ e. refl) (λ j e. absurd cc) full_in (no_exit 1 (with_operand op.Brsl 0 (operand.Call 2)) _ (λ e. cc) (λ g e. cc)) (λ g l. elim l [
      | inl c ↦ elim c [ inl d ↦ (let e = d.1 in cc) | inr q ↦ absurd (let e = q.0 in cc) ]
      | inr j ↦ elim j [ inl o ↦ absurd cc | inr q ↦ absurd (let e = q.0.0.0 in cc) ]
    ])

main_5 : IsRight 1 5 (with_fields op.Rchcnt 5 28 0 (pos 0))
main_5 =
    plain 1 5 _ refl (record { layout = (lit< tt, lit< tt, lit< tt, refl, refl); zeros = (refl, tt) }) refl refl refl (λ e. omega (arith, e)) refl refl full_in

main_6 : IsRight 1 6 (with_operand op.Brz 5 (operand.Branch 8))
main_6 =
    still 1 6 _ refl (record { range = record { layout = (lit< tt, refl, refl, refl, omega (arith, ints), omega (arith, ints)); zeros = tt }; stands = (refl, (_, refl)); empty = λ e. refl; call = λ e. absurd cc; pointer_call = λ e. absurd cc }) (no_addition (with_operand op.Brz 5 (operand.Branch 8)) (λ e. cc)) (λ n w. absurd (let e = w.1 in omega (arith, e))) refl (λ e. refl) (λ j e. (let is : 8 ≡ j = cc in subst (λ j. depth_at 1 j ≡ pos 32) is refl)) full_in (no_exit 1 (with_operand op.Brz 5 (operand.Branch 8)) _ (λ e. cc) (λ g e. cc)) (λ g l. elim l [
      | inl c ↦ elim c [ inl d ↦ absurd (let e = d.0 in cc) | inr q ↦ absurd (let e = q.0 in cc) ]
      | inr j ↦ elim j [ inl o ↦ absurd cc | inr q ↦ absurd (let e = q.0.0.0 in cc) ]
    ])

main_7 : IsRight 1 7 (with_operand op.Br 0 (operand.Branch 9))
main_7 =
    still 1 7 _ refl (record { range = record { layout = (lit< tt, refl, refl, refl, omega (arith, ints), omega (arith, ints)); zeros = (refl, tt) }; stands = (refl, (_, refl)); empty = λ e. refl; call = λ e. absurd cc; pointer_call = λ e. absurd cc }) (no_addition (with_operand op.Br 0 (operand.Branch 9)) (λ e. cc)) (λ n w. absurd (let e = w.1 in omega (arith, e))) refl (λ e. refl) (λ j e. (let is : 9 ≡ j = cc in subst (λ j. depth_at 1 j ≡ pos 32) is refl)) full_in (no_exit 1 (with_operand op.Br 0 (operand.Branch 9)) _ (λ e. cc) (λ g e. cc)) (λ g l. elim l [
      | inl c ↦ elim c [ inl d ↦ absurd (let e = d.0 in cc) | inr q ↦ absurd (let e = q.0 in cc) ]
      | inr j ↦ elim j [ inl o ↦ absurd cc | inr q ↦ absurd (let e = q.0.0.0 in cc) ]
    ])

main_8 : IsRight 1 8 (with_fields op.Stop 0 0 0 (pos 1))
main_8 =
    plain 1 8 _ refl (record { layout = (refl, refl, refl, refl, omega (arith, ints), omega (arith, ints)); zeros = tt }) refl refl refl (λ e. omega (arith, e)) refl refl full_in

main_9 : IsRight 1 9 (with_fields op.Heqi 0 5 0 (pos 6))
main_9 =
    plain 1 9 _ refl (record { layout = (lit< tt, lit< tt, refl, refl, omega (arith, ints), omega (arith, ints)); zeros = tt }) refl refl refl (λ e. omega (arith, e)) refl refl full_in

main_10 : IsRight 1 10 (with_fields op.Nop 0 0 0 (pos 0))
main_10 =
    plain 1 10 _ refl (record { layout = (lit< tt, lit< tt, lit< tt, refl, refl); zeros = (refl, (refl, tt)) }) refl refl refl (λ e. omega (arith, e)) refl refl full_in

main_11 : IsRight 1 11 (with_fields op.Ai 1 1 0 (pos 32))
main_11 =
    moves_pointer 11 _ (pos 32) refl (record { range = record { layout = (lit< tt, lit< tt, refl, refl, omega (arith, ints), omega (arith, ints)); zeros = tt }; stands = refl; empty = λ e. absurd (e refl); call = λ e. absurd cc; pointer_call = λ e. absurd cc }) (record { ai = refl; plain = refl; to = refl; from = refl; number = refl; aligned = refl }) refl refl full_in (zero_in 1)

main_12 : IsRight 1 12 (with_fields op.Lqd 0 1 0 (pos 1))
main_12 =
    plain 1 12 _ refl (record { layout = (lit< tt, lit< tt, refl, refl, omega (arith, ints), omega (arith, ints)); zeros = tt }) refl refl refl (λ e. omega (arith, e)) refl refl (zero_in 1)

main_13 : IsRight 1 13 (write_channel 28 4)
main_13 =
    plain 1 13 _ refl (record { layout = (lit< tt, lit< tt, lit< tt, refl, refl); zeros = (refl, tt) }) refl refl refl (λ e. omega (arith, e)) refl refl (zero_in 1)

main_14 : IsRight 1 14 (write_channel 28 5)
main_14 =
    plain 1 14 _ refl (record { layout = (lit< tt, lit< tt, lit< tt, refl, refl); zeros = (refl, tt) }) refl refl refl (λ e. omega (arith, e)) refl refl (zero_in 1)

main_15 : IsRight 1 15 (with_operand op.Br 0 (operand.Jump 2))
main_15 =
    still 1 15 _ refl (record { range = record { layout = (lit< tt, refl, refl, refl, omega (arith, ints), omega (arith, ints)); zeros = (refl, tt) }; stands = (refl, helper_callee, λ e. omega (arith, e)); empty = λ e. refl; call = λ e. absurd cc; pointer_call = λ e. absurd cc }) (no_addition (with_operand op.Br 0 (operand.Jump 2)) (λ e. cc)) (λ n w. absurd (let e = w.1 in omega (arith, e))) refl (λ e. refl) (λ j e. absurd cc) (zero_in 1) (λ e. refl) (λ g l. elim l [
      | inl c ↦ elim c [ inl d ↦ absurd (let e = d.0 in cc) | inr q ↦ absurd (let e = q.0 in cc) ]
      | inr j ↦ elim j [ inl o ↦ cc | inr q ↦ absurd (let e = q.0.0.0 in cc) ]
    ])

main_right : (i : ℕ) (x : SymInst) → instruction_at tours 1 i ≡ Some x → IsRight 1 i x
main_right zero x e = subst (IsRight 1 0) (the_one _ x e) main_0
main_right (suc zero) x e = subst (IsRight 1 1) (the_one _ x e) main_1
main_right (suc (suc zero)) x e = subst (IsRight 1 2) (the_one _ x e) main_2
main_right (suc (suc (suc zero))) x e = subst (IsRight 1 3) (the_one _ x e) main_3
main_right (suc (suc (suc (suc zero)))) x e = subst (IsRight 1 4) (the_one _ x e) main_4
main_right (suc (suc (suc (suc (suc zero))))) x e = subst (IsRight 1 5) (the_one _ x e) main_5
main_right (suc (suc (suc (suc (suc (suc zero)))))) x e = subst (IsRight 1 6) (the_one _ x e) main_6
main_right (suc (suc (suc (suc (suc (suc (suc zero))))))) x e = subst (IsRight 1 7) (the_one _ x e) main_7
main_right (suc (suc (suc (suc (suc (suc (suc (suc zero)))))))) x e = subst (IsRight 1 8) (the_one _ x e) main_8
main_right (suc (suc (suc (suc (suc (suc (suc (suc (suc zero))))))))) x e = subst (IsRight 1 9) (the_one _ x e) main_9
main_right (suc (suc (suc (suc (suc (suc (suc (suc (suc (suc zero)))))))))) x e = subst (IsRight 1 10) (the_one _ x e) main_10
main_right (suc (suc (suc (suc (suc (suc (suc (suc (suc (suc (suc zero))))))))))) x e = subst (IsRight 1 11) (the_one _ x e) main_11
main_right (suc (suc (suc (suc (suc (suc (suc (suc (suc (suc (suc (suc zero)))))))))))) x e = subst (IsRight 1 12) (the_one _ x e) main_12
main_right (suc (suc (suc (suc (suc (suc (suc (suc (suc (suc (suc (suc (suc zero))))))))))))) x e = subst (IsRight 1 13) (the_one _ x e) main_13
main_right (suc (suc (suc (suc (suc (suc (suc (suc (suc (suc (suc (suc (suc (suc zero)))))))))))))) x e = subst (IsRight 1 14) (the_one _ x e) main_14
main_right (suc (suc (suc (suc (suc (suc (suc (suc (suc (suc (suc (suc (suc (suc (suc zero))))))))))))))) x e = subst (IsRight 1 15) (the_one _ x e) main_15
main_right (suc (suc (suc (suc (suc (suc (suc (suc (suc (suc (suc (suc (suc (suc (suc (suc i)))))))))))))))) x e = absurd cc

right : (f i : ℕ) (x : SymInst) → instruction_at tours f i ≡ Some x → IsRight f i x
right zero i x e = start_right i x e
right (suc zero) i x e = main_right i x e
right (suc (suc zero)) i x e = helper_right i x e
right (suc (suc (suc f))) i x e = absurd cc

-- ---- depths

no_taken : (f : ℕ) → taken_places tours f ≡ []
no_taken zero = refl
no_taken (suc zero) = refl
no_taken (suc (suc zero)) = refl
no_taken (suc (suc (suc f))) = refl

none_in : {A : Type 0} (x : A) → Contains [] x → ⊥
none_in x (k, lt, e) = omega (arith, lt)

start_depth : (f : ℕ) → depth_at f 0 ≡ pos 0
start_depth f = cases_start (f == 1)
  where
    cases_start : (b : Bool) → (if b && false then pos 32 else pos 0) ≡ pos 0
    cases_start true = refl
    cases_start false = refl

record Flows (f j i : ℕ) (c : ℤ) : Type 0 where
  adds : c ≡ added f j
  goes : depth_at f i ≡ depth_at f j +ℤ added f j

flows : (f j i : ℕ) (c : ℤ) → Follows tours f j i → Adds tours f j c → Flows f j i c
flows f j i c (inl on) a = (let r = right f j on.x on.here in record { adds = r.adds c a; goes = ap (depth_at f) on.next ∙ r.next on.on })
flows f j i c (inr (inl br)) a = (let r = right f j br.x br.here in record { adds = r.adds c a; goes = r.branch i br.to })
flows f j i c (inr (inr ps)) a = absurd (none_in i (subst (λ l. Contains l i) (no_taken f) ps.taken))

walked : (f : ℕ) (left : List ℕ) (i : ℕ) (n : ℤ) → IsWalk tours f i left → IsDepth tours f left n → n ≡ depth_at f i
unfolding IsWalk IsDepth
walked f [] i n walk d = d ∙ sym (start_depth f) ∙ ap (depth_at f) (sym walk)
walked f (j ∷ js) i n (follows, walk) (m, dm, c, a, e) =
    let flow = flows f j i c follows a in
    e ∙ ap₂ (λ u v. u +ℤ v) (walked f js j m walk dm) flow.adds ∙ sym flow.goes

depth_is : (f i : ℕ) (n : ℤ) → Reaches tours f i n → n ≡ depth_at f i
depth_is f i n r = walked f r.left i n r.walk r.depth

within : (f i : ℕ) (n : ℤ) → IsDepthAt tours f i n → InFrame f n
within f i n (inl r) = subst (InFrame f) (sym (depth_is f i n r)) (right f i r.here.0 r.here.1).before
within f i n (inr (m, c, r, a, e)) =
    let there = right f i r.here.0 r.here.1 in
    subst (InFrame f) (sym (e ∙ ap₂ (λ u v. u +ℤ v) (depth_is f i m r) (there.adds c a))) there.after

small_frames : (f : ℕ) → tour_frames f ≤ 32
small_frames f = cond_both (f == 1) _ _ (λ n. n ≤ 32) (λ is. lit≤ tt) (λ is. lit≤ tt)

in_range : (f : ℕ) (n : ℤ) → InFrame f n → IsDepthInRange n
in_range f n h =
    let low = h.0 in
    let up = h.1 in
    let few = small_frames f in
    (low, omega (arith, ints, up, few))

good : AreGood tours
good = record {
  known = λ f i x n here w. (right f i x here).known n w;
  agreed = λ f i n m a b. depth_is f i n a ∙ sym (depth_is f i m b);
  level = λ f i n x r here e. depth_is f i n r ∙ (right f i x here).level e;
  range = λ f i n d. in_range f n (within f i n d);
}

second_place : Reaches tours 1 1 (pos 0)
second_place =
    reaches_next tours 1 0 1 (pos 0) (pos 0) (reaches_start tours 1 (_, refl))
    (inl (record { x = with_fields op.Stqd 0 1 0 (pos 1); here = refl; on = refl; next = refl; y = with_fields op.Ai 1 1 0 (negsuc 31); there = refl }))
    (adds_none tours 1 0 (with_fields op.Stqd 0 1 0 (pos 1)) refl (λ e. cc)) (_, refl)

known_write : IsKnownWrite tours 1 1 (negsuc 31)
known_write = record { x = with_fields op.Ai 1 1 0 (negsuc 31); here = refl; form = inl (record { ai = refl; plain = refl; to = refl; from = refl; number = refl; aligned = refl }) }

frame : (f : ℕ) → f < 3 → IsFrame tours f (tour_frames f)
frame zero lt = record { at = 0; some = inl (reaches_start tours 0 (_, refl)); most = λ i n d. (within 0 i n d).1 }
frame (suc zero) lt = record { at = 1; some = inr (pos 0, pos 32, second_place, inl (negsuc 31, known_write, refl), refl); most = λ i n d. (within 1 i n d).1 }
frame (suc (suc zero)) lt = record { at = 0; some = inl (reaches_start tours 2 (_, refl)); most = λ i n d. (within 2 i n d).1 }
frame (suc (suc (suc f))) lt = absurd (omega (arith, lt))

-- ---- paths

lead : (e : Edge) → IsEdge tours e → MayLead e.from e.to
lead e edge = (right e.from edge.at edge.x edge.here).leads e.to (elim edge.leads [ inl c ↦ inl c.1 | inr j ↦ inr j.1 ])

-- a path from main ends there, or goes to helper in one step
abbrev IsShort : ℕ → List Edge → Type 0
IsShort g xs = ((xs ≡ []) × (g ≡ 1)) ⊎ ((x : Edge) × (xs ≡ x ∷ []) × (x.from ≡ 1) × (g ≡ 2))

short : (g : ℕ) (xs : List Edge) → IsPath (IsEdge tours) 1 g xs → IsShort g xs
unfolding IsPath
short g [] path = inl (refl, sym path)
short g (x ∷ xs) (edge, to, path) = by_rest (short x.from xs path)
  where
    by_rest : IsShort x.from xs → IsShort g (x ∷ xs)
    by_rest (inl (e, from)) = inr (x, ap (λ ys. x ∷ ys) e, from, sym to ∙ subst (λ f. MayLead f x.to) from (lead x edge))
    by_rest (inr (y, e, from, two)) = absurd (subst (λ f. MayLead f x.to) two (lead x edge))

light : (call : Bool) (n : ℕ) → weight_if call n ≤ n
light true n = omega arith
light false n = omega arith

weighs : (g : ℕ) (xs : List Edge) → IsShort g xs → weight tour_frames g xs ≤ 32
unfolding edges_weight
weighs g xs (inl (e, one)) = subst (λ ys. weight tour_frames g ys ≤ 32) (sym e) (subst (λ g. weight tour_frames g [] ≤ 32) (sym one) (lit≤ tt))
weighs g xs (inr (x, e, from, two)) =
    let one = light x.call (tour_frames x.from) in
    let few = small_frames x.from in
    subst (λ ys. weight tour_frames g ys ≤ 32) (sym e) (subst (λ g. weight tour_frames g (x ∷ []) ≤ 32) (sym two) (omega (arith, one, few)))

need : IsNeed (IsEdge tours) tour_frames 1 32
unfolding IsPath edges_weight
need = record { last = 1; edges = []; path = refl; reached = refl; most = λ g xs path. weighs g xs (short g xs path) }

apart_on : (fs : List ℕ) (i j : ℕ) → i < j → j < length fs → slice_index fs i ≡ slice_index fs j → (fs ≡ 1 ∷ []) ⊎ (fs ≡ 2 ∷ 1 ∷ []) → ⊥
apart_on fs i j lt le same (inl e) = (let few = subst (λ l. j < length l) e le in omega (arith, lt, few))
apart_on fs zero zero lt le same (inr e) = omega (arith, lt)
apart_on fs zero (suc zero) lt le same (inr e) = (let bad : 2 ≡ 1 = subst (λ l. slice_index l 0 ≡ slice_index l 1) e same in omega (arith, bad))
apart_on fs (suc i) (suc zero) lt le same (inr e) = omega (arith, lt)
apart_on fs i (suc (suc j)) lt le same (inr e) = (let few = subst (λ l. suc (suc j) < length l) e le in omega (arith, few))
apart_on fs (suc i) zero lt le same (inr e) = omega (arith, lt)

acyclic : IsRecursive (IsEdge tours) 1 → ⊥
acyclic r = apart_on (functions_on r.last r.edges) r.i r.j r.apart r.within r.same (by_length (short r.last r.edges r.path))
  where
    by_length : IsShort r.last r.edges → (functions_on r.last r.edges ≡ 1 ∷ []) ⊎ (functions_on r.last r.edges ≡ 2 ∷ 1 ∷ [])
    by_length (inl (e, one)) = inl (ap₂ (λ g es. functions_on g es) one e)
    by_length (inr (x, e, from, two)) = inr (ap₂ (λ g es. functions_on g es) two e ∙ ap (λ n. 2 ∷ n ∷ []) from)

-- ---- the program is well formed

abbrev text : CodeSection
text = record { name = codes ".text"; size = 72 }

function_in : (f : ℕ) (g : Function) → f ≢ 0 → slice_get tours.functions f ≡ Some g → IsFunction tours g
function_in zero g n e = absurd (n refl)
function_in (suc zero) g n e = subst (IsFunction tours) (the_one _ g e) (record { named = name_written (codes "main") (lit< tt) (lit< tt) refl; some = lit≤ tt; section = text; there = refl; aligned = refl; fits = lit≤ tt })
function_in (suc (suc zero)) g n e = subst (IsFunction tours) (the_one _ g e) (record { named = name_written (codes "helper") (lit< tt) (lit< tt) refl; some = lit≤ tt; section = text; there = refl; aligned = refl; fits = lit≤ tt })
function_in (suc (suc (suc f))) g n e = absurd cc

apart_two : (g h g' h' : Function) → g ≡ g' → h ≡ h' → AreApart g h → AreApart g' h'
apart_two g h g' h' e q a = subst (λ g. AreApart g h') e (subst (AreApart g) q a)

apart_in : (f h : ℕ) (g k : Function) → f ≢ 0 → h ≢ 0 → f ≢ h → slice_get tours.functions f ≡ Some g → slice_get tours.functions h ≡ Some k → AreApart g k
apart_in zero h g k nf nh ne eg ek = absurd (nf refl)
apart_in f zero g k nf nh ne eg ek = absurd (nh refl)
apart_in (suc zero) (suc zero) g k nf nh ne eg ek = absurd (ne refl)
apart_in (suc zero) (suc (suc zero)) g k nf nh ne eg ek = apart_two _ _ g k (the_one _ g eg) (the_one _ k ek) (λ e. inl (lit≤ tt))
apart_in (suc (suc zero)) (suc zero) g k nf nh ne eg ek = apart_two _ _ g k (the_one _ g eg) (the_one _ k ek) (λ e. inr (lit≤ tt))
apart_in (suc (suc zero)) (suc (suc zero)) g k nf nh ne eg ek = absurd (ne refl)
apart_in (suc (suc (suc f))) h g k nf nh ne eg ek = absurd cc
apart_in (suc zero) (suc (suc (suc h))) g k nf nh ne eg ek = absurd cc
apart_in (suc (suc zero)) (suc (suc (suc h))) g k nf nh ne eg ek = absurd cc

abbrev word : WordLabel
word = record { offset = 0; label = Fun 2 }

only : {A : Type 0} (x y : A) → Contains (x ∷ []) y → x ≡ y
only x y (zero, lt, e) = e
only x y (suc k, lt, e) = absurd (omega (arith, lt))

abbrev data_part : Part
data_part = record { address = 128; size = 16; bytes = []; labels = word ∷ [] }

part_in : IsPart tours data_part
part_in = record {
  filled = inr refl;
  rising = λ k l m a b. (let far = slice_get_within (word ∷ []) (k + 1) m b in absurd (omega (arith, far)));
  aligned = λ l c. subst (λ (l : WordLabel). l.offset % 4 ≡ 0) (only word l c) refl;
  inside = λ l c. subst (λ (l : WordLabel). l.offset + 4 ≤ 16) (only word l c) (lit≤ tt);
  taken = λ l c. subst (λ (l : WordLabel). IsTakenTarget tours l.label) (only word l c) (0, lit< tt, refl);
}

formed : IsWellFormed tours
formed = record {
  functions = lit≤ tt;
  sections = lit≤ tt;
  small = All-cons (λ (c : CodeSection). c.size ≤ MAX_SECTION_SIZE) text [] (lit≤ tt) (All-nil _);
  filled = All-cons (λ (c : CodeSection). 1 ≤ c.size) text [] (lit≤ tt) (All-nil _);
  few_globals = lit≤ tt;
  start = refl;
  entry = main_callee;
  each = function_in;
  apart = apart_in;
  instructions = λ f i x here. (right f i x here).formed;
  taken = λ g c. subst (IsCallee tours) (sym (taken_is g c)) helper_callee;
  taken_rising = tt;
  places = λ f i c. absurd (none_in i (subst (λ l. Contains l i) (no_taken f) c));
  places_rising = λ f. subst IsRising (sym (no_taken f)) tt;
  data_aligned = refl;
  data_end = lit≤ tt;
  ordered = (lit≤ tt, lit≤ tt);
  parts = λ part c. subst (IsPart tours) (only data_part part c) part_in;
  globals = λ g c. absurd (none_in g c);
  distinct = λ i j g h eg eh same. (let far = slice_get_within [] i g eg in absurd (omega (arith, far)));
  ears = λ ear c. absurd (none_in ear c);
  ears_are_global = tt;
}

pub tour_judged : IsJudged tours tour_frames 32
tour_judged = record { formed = formed; good = good; greatest = frame; heaviest = need; acyclic = acyclic; limit = lit≤ tt }
