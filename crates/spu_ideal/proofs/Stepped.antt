-- What a step of a state of a program rests on, and that it gives another one.
use Rattle.std.proofs.Common.{◌≡◌, ◌≢◌, ℕ, zero, suc, ◌+◌, ◌-◌, ◌<◌, ◌≤◌, ◌^◌, inl, inr, length, reverse, vec_len, Option, Some, None, refl, sym, ap, ◌∙◌, subst, arith, Bool, true, false}
use Rattle.std.specs.Prelude.{◌==◌, ◌||◌, slice_get}
use Rattle.std.proofs.lemmas.Bool.{eqb-true}
use Rattle.std.proofs.lemmas.Bool.Decides.{nat_tests}
use Rattle.std.proofs.lemmas.List.{length-reverse}
use Rattle.std.proofs.lemmas.List.Elements.{All-get_or}
use Rattle.std.proofs.lemmas.Option.{slice_get_within, get_or_from_slice_get}
use Rattle.spu_word.specs.declared.limits.TheConstants.{MAX_SECTION_SIZE}
use Rattle.spu_isa.specs.declared.instruction.Inst.{Inst}
use Rattle.spu_isa.specs.declared.operation.Layout.{Layout}
use Rattle.spu_isa.specs.declared.operation.Layout.TheVariants.{Rr, Rrr, Ri7, Ri10, Ri16, Ri18, HintA, HintB, StopForm}
use Rattle.spu_isa.specs.Table.{InLayout, InRange, row_of}
use Rattle.spu_lift.specs.declared.program.CodeSection.{CodeSection}
use Rattle.spu_lift.specs.declared.program.Function.{Function}
use Rattle.spu_lift.specs.declared.program.SymInst.{SymInst}
use Rattle.spu_lift.specs.declared.program.Prog.{Prog}
use Rattle.spu_lift.specs.Places.{instruction_at, place_in}
use Rattle.spu_lift.specs.StartCode.{start_code}
use Rattle.spu_lift.specs.WellFormed.{IsWellFormed}
use Rattle.spu_frame.specs.declared.depths.Depths.{Depths}
use Rattle.spu_frame.specs.Found.{frame_at, function_count}
use Rattle.spu_ideal.specs.declared.ending.IdealEnd.{IdealEnd}
use Rattle.spu_ideal.specs.declared.ideal.Ideal.{Ideal}
use Rattle.spu_ideal.specs.State.{Sym}
use Rattle.spu_ideal.specs.Accesses.{entry_pointer, is_data, is_stack, is_allowed}
use Rattle.spu_word.specs.declared.load.Inputs.{Inputs}
use Rattle.spu_ideal.specs.Machine.{obeys, unless_ended, step, start, run}
use Rattle.spu_ideal.specs.States.{IsOf, IsJudged}
use Rattle.spu_ideal.specs.Promises.{IsReached, AreWaiting}
use Rattle.spu_ideal.specs.View.{HasRegisters, IsStateOf, StaysHigh, state_of, steps}
use Rattle.spu_ideal.proofs.Heights.{pointer_high}
use Rattle.spu_ideal.proofs.Lifted.{function_within}
use Rattle.spu_ideal.proofs.Opens.{opens_few}
use Rattle.spu_ideal.proofs.Runs.{stack_inside}
use Rattle.spu_ideal.proofs.Steps.{step_keeps}
use Rattle.spu_ideal.proofs.Waiting.{waiting_kept}

-- ---- register fields

registers_in : (l : Layout) (x : Inst) → InLayout l x → HasRegisters x
registers_in Rr x h = record { rt = h.0; ra = h.1; rb = h.2; rc = omega (arith, h.3) }
registers_in Rrr x h = record { rt = h.0; ra = h.1; rb = h.2; rc = h.3 }
registers_in Ri7 x h = record { rt = h.0; ra = h.1; rb = omega (arith, h.2); rc = omega (arith, h.3) }
registers_in Ri10 x h = record { rt = h.0; ra = h.1; rb = omega (arith, h.2); rc = omega (arith, h.3) }
registers_in Ri16 x h = record { rt = h.0; ra = omega (arith, h.1); rb = omega (arith, h.2); rc = omega (arith, h.3) }
registers_in Ri18 x h = record { rt = h.0; ra = omega (arith, h.1); rb = omega (arith, h.2); rc = omega (arith, h.3) }
registers_in HintA x h = record { rt = h.0; ra = h.1; rb = omega (arith, h.2); rc = omega (arith, h.3) }
registers_in HintB x h = record { rt = h.0; ra = omega (arith, h.1); rb = omega (arith, h.2); rc = omega (arith, h.3) }
registers_in StopForm x h = record { rt = omega (arith, h.0); ra = omega (arith, h.1); rb = omega (arith, h.2); rc = omega (arith, h.3) }

has_registers : (x : Inst) → InRange x → HasRegisters x
has_registers x h = registers_in (row_of x.op).layout x h.layout

-- ---- how long functions are

place_within : (g : Function) (i : ℕ) (x : SymInst) → place_in (Some g) i ≡ Some x → i < length g.code
place_within g i x e = slice_get_within g.code i x e

section_small : (p : Prog) → IsWellFormed p → (n : ℕ) (c : CodeSection) → slice_get p.code n ≡ Some c → c.size ≤ MAX_SECTION_SIZE
section_small p formed n c e =
    subst (λ (s : CodeSection). s.size ≤ MAX_SECTION_SIZE) (get_or_from_slice_get p.code n c c e)
    (All-get_or (λ (s : CodeSection). s.size ≤ MAX_SECTION_SIZE) p.code n c (slice_get_within p.code n c e) formed.small)

function_short : (p : Prog) → IsWellFormed p → (f i : ℕ) (x : SymInst) (g : Function) → slice_get p.functions f ≡ Some g → place_in (Some g) i ≡ Some x → i < MAX_SECTION_SIZE
function_short p formed f i x g e here = by_start (f == 0) refl
  where
    by_start : (b : Bool) → (f == 0) ≡ b → i < MAX_SECTION_SIZE
    by_start true z =
        let first : Some g ≡ Some (start_code p.data_end p.entry) = sym e ∙ ap (slice_get p.functions) (eqb-true f 0 z) ∙ formed.start in
        let is : g ≡ start_code p.data_end p.entry = cc in
        let lt : i < length g.code = place_within g i x here in
        let len : length g.code ≡ 3 = ap (λ (h : Function). length h.code) is in
        omega (arith, lt, len)
    by_start false z =
        let other : f ≢ 0 = grind (arith, nat_tests) in
        let good = formed.each f g other e in
        let lt : i < length g.code = place_within g i x here in
        let fits = good.fits in
        let small : good.section.size ≤ MAX_SECTION_SIZE = section_small p formed g.section good.section good.there in
        omega (arith, lt, fits, small)

pub place_short : (p : Prog) → IsWellFormed p → (f i : ℕ) (x : SymInst) → instruction_at p f i ≡ Some x → i < MAX_SECTION_SIZE
place_short p formed f i x here = by_function (slice_get p.functions f) refl here
  where
    by_function : (o : Option Function) → slice_get p.functions f ≡ o → place_in o i ≡ Some x → i < MAX_SECTION_SIZE
    by_function None e h = absurd (cc)
    by_function (Some g) e h = function_short p formed f i x g e h

-- ---- what a step of a state rests on

pub judged : (p : Prog) (d : Depths) (m : Ideal) (h : IsStateOf p d m) → IsJudged p (frame_at d) h.need
judged p d m h = record {
  formed = h.formed;
  good = h.depths.good;
  greatest = h.depths.greatest;
  heaviest = h.heaviest;
  acyclic = h.acyclic;
  limit = h.most;
}

-- of an instruction that stands at its place
pub record CanAct (p : Prog) (d : Depths) (m : Ideal) (x : SymInst) : Type 0 where
  pub fields : HasRegisters x.inst
  pub frame : m.f < function_count d
  pub near : m.i + 1 < 2 ^ 32
  pub open_calls : vec_len m.calls < m.most_calls

pub can_act : (p : Prog) (d : Depths) (m : Ideal) (x : SymInst) → IsStateOf p d m → instruction_at p m.f m.i ≡ Some x → CanAct p d m x
can_act p d m x h here =
    let few : length (reverse m.calls.items) ≤ length p.functions = opens_few p (frame_at d) h.need (judged p d m h) (state_of m) h.state in
    let len : length (reverse m.calls.items) ≡ length m.calls.items = length-reverse m.calls.items in
    let room = h.room in
    let count = h.count in
    let lt : m.f < length p.functions = function_within p m.f m.i x here in
    let short : m.i < MAX_SECTION_SIZE = place_short p h.formed m.f m.i x here in
    record {
      fields = has_registers x.inst (h.formed.instructions m.f m.i x here).range;
      frame = omega (arith, count, lt);
      near = omega (arith, short);
      open_calls = omega (arith, few, len, room);
    }

-- ---- a step gives another state

reached_by : (p : Prog) (frames : ℕ → ℕ) (need : ℕ) → IsJudged p frames need → (limit : ℕ) → need ≤ limit → (s : Sym) → IsOf p s → (a size : ℕ) → is_allowed p frames s a size ≡ true → IsReached p limit a size
reached_by p frames need good limit least s inv a size t = by_data (is_data p a size) refl
  where
    by_data : (b : Bool) → is_data p a size ≡ b → IsReached p limit a size
    by_data true e = inl (grind (arith, nat_tests))
    by_data false e = inr (stack_inside p frames need good s inv limit least a size (subst (λ b. (b || is_stack (entry_pointer s.calls) (frames s.f) a size) ≡ true) e t))

pub stays_high : (p : Prog) (d : Depths) (m : Ideal) → IsStateOf p d m → StaysHigh p d (state_of m)
stays_high p d m h =
    let good : IsJudged p (frame_at d) h.need = judged p d m h in
    let high = pointer_high p (frame_at d) h.need good (state_of m) h.state in
    record {
      need = h.need;
      heaviest = h.heaviest;
      word = h.state.word;
      pointer = h.state.pointer;
      high = omega (arith, high);
      allowed = reached_by p (frame_at d) h.need good h.need (omega arith) (state_of m) h.state;
    }

pub kept : (p : Prog) (d : Depths) (m n : Ideal) → IsStateOf p d m → state_of n ≡ step p (frame_at d) (state_of m) → n.most_calls ≡ m.most_calls → IsStateOf p d n
kept p d m n h e room = record {
  formed = h.formed;
  depths = h.depths;
  count = h.count;
  need = h.need;
  heaviest = h.heaviest;
  acyclic = h.acyclic;
  most = h.most;
  apart = h.apart;
  state = subst (IsOf p) (sym e) (step_keeps p (frame_at d) h.need (judged p d m h) (state_of m) h.state);
  waiting = subst (λ (s : Sym). AreWaiting p h.need s.areas s.queue) (sym e)
      (waiting_kept p h.need (frame_at d) (state_of m) (reached_by p (frame_at d) h.need (judged p d m h) h.need (omega arith) (state_of m) h.state) h.waiting);
  room = subst (λ k. length p.functions < k) (sym room) h.room;
}

-- ---- steps

pub runs : (p : Prog) (frames : ℕ → ℕ) (s : Sym) (o : Option SymInst) → s.ended ≡ None → o ≡ instruction_at p s.f s.i → step p frames s ≡ obeys o p frames s
unfolding step
runs p frames s o going e = ap (λ n. unless_ended n s (obeys (instruction_at p s.f s.i) p frames s)) going ∙ ap (λ q. obeys q p frames s) (sym e)

pub step_ended : (p : Prog) (frames : ℕ → ℕ) (s : Sym) (e : IdealEnd) → s.ended ≡ Some e → step p frames s ≡ s
unfolding step
step_ended p frames s e over = ap (λ n. unless_ended n s (obeys (instruction_at p s.f s.i) p frames s)) over

pub steps_ended : (p : Prog) (frames : ℕ → ℕ) (n : ℕ) (s : Sym) (e : IdealEnd) → s.ended ≡ Some e → steps p frames n s ≡ s
unfolding steps
steps_ended p frames zero s e over = refl
steps_ended p frames (suc n) s e over = ap (steps p frames n) (step_ended p frames s e over) ∙ steps_ended p frames n s e over

-- of so many steps one is made
pub steps_left : (p : Prog) (frames : ℕ → ℕ) (b c : ℕ) (s t : Sym) → c < b → t ≡ step p frames s → steps p frames (b - (c + 1)) t ≡ steps p frames (b - c) s
unfolding steps
steps_left p frames b c s t l e =
    let n : b - c ≡ suc (b - (c + 1)) = omega arith in
    ap (steps p frames (b - (c + 1))) e ∙ sym (ap (λ k. steps p frames k s) n)

pub steps_none : (p : Prog) (frames : ℕ → ℕ) (n : ℕ) (s : Sym) → n ≡ 0 → steps p frames n s ≡ s
unfolding steps
steps_none p frames n s e = ap (λ k. steps p frames k s) e

-- ---- the run of so many steps

step_first : (p : Prog) (frames : ℕ → ℕ) (n : ℕ) (s : Sym) → steps p frames n (step p frames s) ≡ step p frames (steps p frames n s)
unfolding steps
step_first p frames zero s = refl
step_first p frames (suc n) s = step_first p frames n (step p frames s)

pub steps_run : (p : Prog) (frames : ℕ → ℕ) (limit : ℕ) (inputs : Inputs) (n : ℕ) → steps p frames n (start p limit inputs) ≡ run p frames limit inputs n
unfolding steps run
steps_run p frames limit inputs zero = refl
steps_run p frames limit inputs (suc n) = step_first p frames n (start p limit inputs) ∙ ap (step p frames) (steps_run p frames limit inputs n)
