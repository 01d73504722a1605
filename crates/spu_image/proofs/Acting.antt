-- One step, whatever the instruction: one case for each kind.
use Rattle.std.proofs.Common.{◌≡◌, ℕ, zero, suc, ◌+◌, ◌-◌, ◌<◌, ◌⊎◌, ◌^◌, Some, None, refl, sym, ap, ◌∙◌, subst, arith, inl, inr, Bool, true, false, cond}
use Rattle.std.specs.Prelude.{◌==◌, ◌&&◌, ◌||◌, slice_index}
use Rattle.std.specs.Int.{w32, cast_unsigned, byte_at}
use Rattle.std.proofs.lemmas.Bool.{cond_both}
use Rattle.spu_word.specs.Bytes.{word_of, quad_of}
use Rattle.spu_isa.specs.declared.operation.Op.{Op}
use Rattle.spu_isa.specs.declared.operation.Op.TheVariants as op
use Rattle.spu_isa.specs.declared.operation.Kind.{Kind}
use Rattle.spu_isa.specs.declared.operation.Kind.TheVariants as kind
use Rattle.spu_isa.specs.declared.instruction.Inst.{Inst}
use Rattle.spu_isa.specs.Table.{row_of}
use Rattle.spu_reloc.specs.Fields.{kind_on, relocated}
use Rattle.spu_reloc.specs.Meanings.{reached}
use Rattle.spu_exec.specs.Lanes.{immediate}
use Rattle.spu_exec.specs.Values.{value}
use Rattle.spu_exec.specs.Places.{code_mask, quad_mask, taken, holds, place, place_of}
use Rattle.spu_exec.proofs.Moves.{no_some, some_is}
use Rattle.spu_lift.specs.declared.program.Label.{Label}
use Rattle.spu_lift.specs.declared.program.Label.TheVariants.{Fun, Place, Link}
use Rattle.spu_lift.specs.declared.program.Operand.{Operand}
use Rattle.spu_lift.specs.declared.program.Operand.TheVariants as operand
use Rattle.spu_lift.specs.declared.program.SymInst.{SymInst}
use Rattle.spu_lift.specs.declared.program.Prog.{Prog}
use Rattle.spu_lift.specs.Places.{instruction_at}
use Rattle.spu_ls.specs.Stores.{fetch}
use Rattle.spu_ls.specs.Machine.{State}
use Rattle.spu_ls.specs.Machine as machine
use Rattle.spu_ls.specs.declared.ending.RunEnd.TheVariants as ending
use Rattle.spu_ideal.specs.declared.ending.IdealEnd.TheVariants as ideal
use Rattle.spu_ideal.specs.State.{Sym}
use Rattle.spu_ideal.specs.Tested.{can_address, can_test, can_halt, symbolic_place, symbolic_taken, symbolic_holds}
use Rattle.spu_ideal.specs.Accesses.{is_relative, address_by, address}
use Rattle.spu_ideal.specs.Machine.{leaves, branches, calls_direct, goes_indirect, where_taken, acts}
use Rattle.spu_layout.specs.Layouts.{Layout, IsLaid}
use Rattle.spu_image.proofs.Agreeings.{IsAddress}
use Rattle.spu_image.specs.Agreeing.{AgreesQuad}
use Rattle.spu_layout.specs.Labels.{code, address_of, call_target, jump_target, link_address, link_by}
use Rattle.spu_image.proofs.Instructions.{instruction_by, instruction, HasAddress}
use Rattle.spu_image.specs.Words.{IsPatched, IsWordBy, IsWord}
use Rattle.spu_image.proofs.Sound.{IsBounded}
use Rattle.spu_image.specs.Matching.{Matches}
use Rattle.spu_ideal.specs.Promises.{IsHigh}
use Rattle.spu_image.proofs.Promised.{IsPlaced, IsLinkable, Inside, Stepped}
use Rattle.spu_image.proofs.Operands.{leaves_agrees}
use Rattle.spu_image.proofs.Tested.{taken_agrees, holds_agrees, place_agrees}
use Rattle.spu_image.proofs.Choosing.{choose_by, unless_outside}
use Rattle.spu_image.proofs.Fields.{field_by, other_field, has_field, plain_by, fits_too, reaches_by, patched_reaches}
use Rattle.spu_image.proofs.Steps.{below, masked, sets_hop, goes_hop, advances_hop, ends_hop, loads_hop, stores_hop}
use Rattle.spu_image.proofs.Leaving.{masked_entry, IsWay, Ways, jumps_hop, pointer_hop, indirect_hop}
use Rattle.spu_image.proofs.Commanding.{channel_hop}

-- ---- labels of operands

-- a quad begins with the address in its word 0
begins_with : (v b c d j : ℕ) → j < 4 → slice_index (quad_of v b c d) j ≡ byte_at (3 - j) v
begins_with v b c d zero lt = refl
begins_with v b c d (suc zero) lt = refl
begins_with v b c d (suc (suc zero)) lt = refl
begins_with v b c d (suc (suc (suc zero))) lt = omega arith
begins_with v b c d (suc (suc (suc (suc j)))) lt = absurd (omega arith)

link_begins : (l : Layout) (r a : ℕ) → link_address l r a < 2 ^ 18 → IsAddress (link_by l r a) (link_address l r a)
link_begins l zero a small = record { digits = begins_with a 0 0 0; small = small }
link_begins l (suc r) a small = record { digits = begins_with l.return_entry (suc r) a 0; small = small }

label_begins : (l : Layout) (n : Label) → address_of l n < 2 ^ 18 → IsAddress (code l n) (address_of l n)
label_begins l (Fun f) small = record { digits = begins_with (l.entry f) 0 0 0; small = small }
label_begins l (Link f i) small = link_begins l (l.region f) (l.at f i) small
label_begins l (Place f i) small = record { digits = begins_with (l.at f i) 0 0 0; small = small }

-- ---- where instructions lead

indirect_place : (o : Op) → (row_of o).kind ≡ kind.Indirect → (i pc a b : ℕ) → place_of o i pc a b ≡ code_mask a
indirect_place op.Bi k i pc a b = refl
indirect_place op.Biz k i pc a b = refl
indirect_place op.Binz k i pc a b = refl
indirect_place op.Bihz k i pc a b = refl
indirect_place op.Bihnz k i pc a b = refl
indirect_place _ k i pc a b = cc

pointer_place : (o : Op) → (row_of o).kind ≡ kind.PointerCall → (i pc a b : ℕ) → place_of o i pc a b ≡ code_mask a
pointer_place op.Bisl k i pc a b = refl
pointer_place _ k i pc a b = cc

-- the place of an instruction whose own field isn't relative
anywhere : (o : Op) → (k : reaches_by (row_of o).kind ≡ true) → (row_of o).kind ≡ kind.Load ⊎ (row_of o).kind ≡ kind.Store → is_relative o ≡ false → (i pc a b : ℕ) → place_of o i pc a b ≡ place_of o i 0 a b
anywhere op.Lqr k h e i pc a b = cc
anywhere op.Stqr k h e i pc a b = cc
anywhere op.Lqd k h e i pc a b = refl
anywhere op.Lqx k h e i pc a b = refl
anywhere op.Lqa k h e i pc a b = refl
anywhere op.Stqd k h e i pc a b = refl
anywhere op.Stqx k h e i pc a b = refl
anywhere op.Stqa k h e i pc a b = refl
anywhere op.Br k h e i pc a b = elim h [ inl q ↦ cc | inr q ↦ cc ]
anywhere op.Brsl k h e i pc a b = elim h [ inl q ↦ cc | inr q ↦ cc ]
anywhere op.Brz k h e i pc a b = elim h [ inl q ↦ cc | inr q ↦ cc ]
anywhere op.Brnz k h e i pc a b = elim h [ inl q ↦ cc | inr q ↦ cc ]
anywhere op.Brhz k h e i pc a b = elim h [ inl q ↦ cc | inr q ↦ cc ]
anywhere op.Brhnz k h e i pc a b = elim h [ inl q ↦ cc | inr q ↦ cc ]
anywhere _ k h e i pc a b = refl

reached_load : (k : Kind) (v : ℕ) → k ≡ kind.Load ⊎ k ≡ kind.Store → reached k v ≡ quad_mask v
reached_load k v h = elim h [ inl e ↦ ap (λ q. reached q v) e | inr e ↦ ap (λ q. reached q v) e ]

module _ (p : Prog) (limit : ℕ) (l : Layout) (laid : IsLaid p limit l) (linkable : IsLinkable p) (frames : ℕ → ℕ) where
  label_small : (n : Label) → IsPlaced p n → address_of l n < 2 ^ 18
  label_small (Fun f) (y, e) = let a = laid.entries f (y, e) in let b = ap (λ s. s.from) laid.stack in omega arith
  label_small (Link f i) h = absurd h
  label_small (Place f i) (y, e) = let a = below p limit l laid frames f i y e in omega arith

  masked_call : (f g : ℕ) (y : SymInst) → instruction_at p g 0 ≡ Some y → code_mask (call_target l f g) ≡ call_target l f g
  masked_call f g y e = cond_both ((l.region f == 0) && (l.region g == 0)) _ _ (λ a. code_mask a ≡ a) (λ t. masked p limit l laid frames g 0 y e) (λ t. masked_entry p limit l laid frames g y e)

  masked_jump : (f g : ℕ) (y : SymInst) → instruction_at p g 0 ≡ Some y → code_mask (jump_target l f g) ≡ jump_target l f g
  masked_jump f g y e = cond_both ((l.region g == 0) || (l.region g == l.region f)) _ _ (λ a. code_mask a ≡ a) (λ t. masked p limit l laid frames g 0 y e) (λ t. masked_entry p limit l laid frames g y e)

  module _ (s : Sym) (m : State) (matched : Matches l s m) (sound : IsBounded m) (high : IsHigh p frames limit s) (x : SymInst) (here : instruction_at p s.f s.i ≡ Some x) (word : IsWord l s.f s.i x (fetch m.store m.pc)) (Q : Sym → State → Type 0) (ways : Ways p l s m Q) where
    abbrev next : ℕ
    next = code_mask (m.pc + 4)

    abbrev z : Inst
    z = instruction l s.f s.i x

    abbrev zf : Inst
    zf = record x.inst { imm = field_by x.operand l s.f s.i x.inst }

    z_is : z ≡ zf
    z_is = other_field x.operand l s.f s.i x.inst

    at_small : l.at s.f s.i < 2 ^ 32
    at_small = let a = below p limit l laid frames s.f s.i x here in omega arith

    has_address : (o : Operand) → x.operand ≡ o → IsWordBy o l s.f s.i x (fetch m.store m.pc) → HasAddress l o x.inst.op
    has_address operand.Plain e w = tt
    has_address (operand.Number n) e w = tt
    has_address (operand.Address n) e w = (fits_too x _ _ _ w, label_begins l n (label_small n (linkable.labels s.f s.i x n here e)))
    has_address (operand.Call g) e w = tt
    has_address (operand.Jump g) e w = tt
    has_address (operand.Branch j) e w = tt

    compute_hop : (row_of x.inst.op).kind ≡ kind.Compute → Inside (acts kind.Compute p frames x s) → Stepped l s.f m (acts kind.Compute p frames x s) (machine.acts kind.Compute z next m)
    compute_hop k inside =
        subst (λ y. Stepped l s.f m (acts kind.Compute p frames x s) (machine.acts kind.Compute y next m)) (sym z_is)
        (sets_hop p limit l laid frames s m matched sound high x here x.inst.rt _ (value zf (m.regs x.inst.ra) (m.regs x.inst.rb) (m.regs x.inst.rc) (m.regs x.inst.rt))
        (subst (λ y. AgreesQuad (code l) (leaves x.operand x.inst (s.regs x.inst.ra) (s.regs x.inst.rb) (s.regs x.inst.rc) (s.regs x.inst.rt)) (value y (m.regs x.inst.ra) (m.regs x.inst.rb) (m.regs x.inst.rc) (m.regs x.inst.rt))) z_is
        (leaves_agrees l s.f s.i x.operand x.inst k (has_address x.operand refl word) _ _ _ _ _ _ _ _
        (record { ra = matched.regs x.inst.ra; rb = matched.regs x.inst.rb; rc = matched.regs x.inst.rc; rt = matched.regs x.inst.rt; small_a = sound.regs x.inst.ra; small_b = sound.regs x.inst.rb; small_t = sound.regs x.inst.rt }))) inside)

    -- the address of a load or store
    address_is : (row_of x.inst.op).kind ≡ kind.Load ⊎ (row_of x.inst.op).kind ≡ kind.Store → reaches_by (row_of x.inst.op).kind ≡ true → (o : Operand) → IsWordBy o l s.f s.i x (fetch m.store m.pc)
        → (n : ℕ) → address o x.inst s ≡ Some n → place (instruction_by o l s.f s.i x.inst) m.pc (m.regs x.inst.ra) (m.regs x.inst.rb) ≡ n
    address_is k r operand.Plain w n e =
        by_relative (is_relative x.inst.op) refl e
      where
        by_known : (b : Bool) → can_address x.inst (s.regs x.inst.ra) (s.regs x.inst.rb) ≡ b → is_relative x.inst.op ≡ false → cond b (Some (symbolic_place x.inst 0 (s.regs x.inst.ra) (s.regs x.inst.rb))) None ≡ Some n
            → place x.inst m.pc (m.regs x.inst.ra) (m.regs x.inst.rb) ≡ n
        by_known true t u e =
            anywhere x.inst.op r k u (immediate 4 x.inst.imm) m.pc (word_of (m.regs x.inst.ra) 0) (word_of (m.regs x.inst.rb) 0)
            ∙ place_agrees (code l) x.inst 0 (s.regs x.inst.ra) (s.regs x.inst.rb) (m.regs x.inst.ra) (m.regs x.inst.rb) (matched.regs x.inst.ra) (matched.regs x.inst.rb) t
            ∙ some_is _ n e
        by_known false t u e = no_some n e

        by_relative : (b : Bool) → is_relative x.inst.op ≡ b → address_by b x.inst (s.regs x.inst.ra) (s.regs x.inst.rb) ≡ Some n → place x.inst m.pc (m.regs x.inst.ra) (m.regs x.inst.rb) ≡ n
        by_relative true t e = no_some n e
        by_relative false t e = by_known (can_address x.inst (s.regs x.inst.ra) (s.regs x.inst.rb)) refl t e
    address_is k r (operand.Number v) w n e =
        ap (λ pc. place (relocated (kind_on x.inst.op) v (l.at s.f s.i) x.inst) pc (m.regs x.inst.ra) (m.regs x.inst.rb)) matched.place
        ∙ patched_reaches x v (l.at s.f s.i) _ r w at_small (laid.aligned s.f s.i (x, here)) (m.regs x.inst.ra) (m.regs x.inst.rb)
        ∙ reached_load (row_of x.inst.op).kind v k ∙ some_is _ n e
    address_is k r (operand.Address v) w n e = no_some n e
    address_is k r (operand.Call v) w n e = no_some n e
    address_is k r (operand.Jump v) w n e = no_some n e
    address_is k r (operand.Branch v) w n e = no_some n e

    address_too : (row_of x.inst.op).kind ≡ kind.Load ⊎ (row_of x.inst.op).kind ≡ kind.Store → reaches_by (row_of x.inst.op).kind ≡ true
        → (n : ℕ) → address x.operand x.inst s ≡ Some n → place zf m.pc (m.regs x.inst.ra) (m.regs x.inst.rb) ≡ n
    address_too k r n e = ap (λ y. place y m.pc (m.regs x.inst.ra) (m.regs x.inst.rb)) (sym z_is) ∙ address_is k r x.operand word n e

    load_hop : (row_of x.inst.op).kind ≡ kind.Load → Inside (acts kind.Load p frames x s) → Stepped l s.f m (acts kind.Load p frames x s) (machine.acts kind.Load z next m)
    load_hop k inside =
        subst (λ y. Stepped l s.f m (acts kind.Load p frames x s) (machine.acts kind.Load y next m)) (sym z_is)
        (loads_hop p limit l laid frames s m matched sound high x here (address x.operand x.inst s) _ x.inst.rt (address_too (inl k) (ap reaches_by k)) inside)

    store_hop : (row_of x.inst.op).kind ≡ kind.Store → Inside (acts kind.Store p frames x s) → Stepped l s.f m (acts kind.Store p frames x s) (machine.acts kind.Store z next m)
    store_hop k inside =
        subst (λ y. Stepped l s.f m (acts kind.Store p frames x s) (machine.acts kind.Store y next m)) (sym z_is)
        (stores_hop p limit l laid frames s m matched sound high x here (address x.operand x.inst s) _ x.inst.rt (address_too (inr k) (ap reaches_by k)) inside)

    -- ---- branches

    tested_hop : (t : Sym) (a : ℕ) → (Inside t → Q t (machine.goes a m))
        → Inside (where_taken x.inst p s t) → Q (where_taken x.inst p s t) (cond (taken x.inst (m.regs x.inst.rt)) (machine.goes a m) (machine.goes next m))
    tested_hop t a there inside =
        unless_outside Q (can_test x.inst (s.regs x.inst.rt)) _ _ _ tt
        (λ known ins. choose_by Q (symbolic_taken x.inst (s.regs x.inst.rt)) (taken x.inst (m.regs x.inst.rt)) _ _ _ _
        (taken_agrees (code l) x.inst (s.regs x.inst.rt) (m.regs x.inst.rt) (matched.regs x.inst.rt) known)
        (λ is. there) (λ is h. ways.stay _ _ (advances_hop p limit l laid frames s m matched sound high x here h)) ins) inside

    -- the target of a branch
    target_is : (row_of x.inst.op).kind ≡ kind.Branch ⊎ (row_of x.inst.op).kind ≡ kind.Call → reaches_by (row_of x.inst.op).kind ≡ true → (v : ℕ) → IsPatched x v (l.at s.f s.i) (fetch m.store m.pc)
        → place (relocated (kind_on x.inst.op) v (l.at s.f s.i) x.inst) m.pc (m.regs x.inst.ra) (m.regs x.inst.rb) ≡ code_mask v
    target_is k r v w =
        ap (λ pc. place (relocated (kind_on x.inst.op) v (l.at s.f s.i) x.inst) pc (m.regs x.inst.ra) (m.regs x.inst.rb)) matched.place
        ∙ patched_reaches x v (l.at s.f s.i) _ r w at_small (laid.aligned s.f s.i (x, here)) (m.regs x.inst.ra) (m.regs x.inst.rb)
        ∙ elim k [ inl e ↦ ap (λ q. reached q v) e | inr e ↦ ap (λ q. reached q v) e ]

    branches_hop : (row_of x.inst.op).kind ≡ kind.Branch → (o : Operand) → IsWordBy o l s.f s.i x (fetch m.store m.pc)
        → Inside (branches o p s) → Q (branches o p s) (machine.goes (place (instruction_by o l s.f s.i x.inst) m.pc (m.regs x.inst.ra) (m.regs x.inst.rb)) m)
    unfolding IsWay
    branches_hop k operand.Plain w inside = absurd (inside tt)
    branches_hop k (operand.Number n) w inside = absurd (inside tt)
    branches_hop k (operand.Address n) w inside = absurd (inside tt)
    branches_hop k (operand.Call g) w inside = absurd (inside tt)
    branches_hop k (operand.Jump g) w inside =
        jumps_hop p limit l laid frames s m matched Q ways g _ s.calls
        (λ y e. inl (target_is (inl k) (ap reaches_by k) (jump_target l s.f g) w ∙ masked_jump s.f g y e)) inside
    branches_hop k (operand.Branch j) w inside =
        ways.stay _ _ (goes_hop p limit l laid frames s m matched sound high x here j _
        (λ y e. target_is (inl k) (ap reaches_by k) (l.at s.f j) w ∙ masked p limit l laid frames s.f j y e) inside)

    branch_hop : (row_of x.inst.op).kind ≡ kind.Branch → Inside (acts kind.Branch p frames x s) → Q (acts kind.Branch p frames x s) (machine.acts kind.Branch z next m)
    branch_hop k inside =
        subst (λ y. Q (acts kind.Branch p frames x s) (machine.acts kind.Branch y next m)) (sym z_is)
        (tested_hop (branches x.operand p s) (place zf m.pc (m.regs x.inst.ra) (m.regs x.inst.rb))
        (λ ins. subst (λ y. Q (branches x.operand p s) (machine.goes (place y m.pc (m.regs x.inst.ra) (m.regs x.inst.rb)) m)) z_is (branches_hop k x.operand word ins)) inside)

    -- ---- calls

    direct_hop : (row_of x.inst.op).kind ≡ kind.Call → (o : Operand) → IsWordBy o l s.f s.i x (fetch m.store m.pc)
        → Inside (calls_direct o p s) → Q (calls_direct o p s) (machine.sets 0 (quad_of next 0 0 0) (place (instruction_by o l s.f s.i x.inst) m.pc (m.regs x.inst.ra) (m.regs x.inst.rb)) m)
    unfolding IsWay
    direct_hop k operand.Plain w inside = absurd (inside tt)
    direct_hop k (operand.Number n) w inside = absurd (inside tt)
    direct_hop k (operand.Address n) w inside = absurd (inside tt)
    direct_hop k (operand.Jump g) w inside = absurd (inside tt)
    direct_hop k (operand.Branch j) w inside = absurd (inside tt)
    direct_hop k (operand.Call g) w inside =
        ways.call g _ (λ y e. inl (target_is (inr k) (ap reaches_by k) (call_target l s.f g) w ∙ masked_call s.f g y e)) inside

    call_hop : (row_of x.inst.op).kind ≡ kind.Call → Inside (acts kind.Call p frames x s) → Q (acts kind.Call p frames x s) (machine.acts kind.Call z next m)
    call_hop k inside =
        subst (λ y. Q (acts kind.Call p frames x s) (machine.acts kind.Call y next m)) (sym z_is)
        (subst (λ t. Q (calls_direct x.operand p s) (machine.sets t (quad_of next 0 0 0) (place zf m.pc (m.regs x.inst.ra) (m.regs x.inst.rb)) m)) (sym (linkable.calls s.f s.i x here k))
        (subst (λ y. Q (calls_direct x.operand p s) (machine.sets 0 (quad_of next 0 0 0) (place y m.pc (m.regs x.inst.ra) (m.regs x.inst.rb)) m)) z_is (direct_hop k x.operand word inside)))

    -- ---- instructions without a field for an operand

    plain_is : has_field (row_of x.inst.op).kind ≡ false → z ≡ x.inst
    plain_is n = plain_by x.operand l s.f s.i x _ n word

    indirect_kind_hop : (row_of x.inst.op).kind ≡ kind.Indirect → Inside (acts kind.Indirect p frames x s) → Q (acts kind.Indirect p frames x s) (machine.acts kind.Indirect z next m)
    indirect_kind_hop k inside =
        subst (λ y. Q (acts kind.Indirect p frames x s) (machine.acts kind.Indirect y next m)) (sym (plain_is (ap has_field k)))
        (tested_hop (goes_indirect x.inst.ra p s) (place x.inst m.pc (m.regs x.inst.ra) (m.regs x.inst.rb))
        (λ ins. subst (λ a. Q (goes_indirect x.inst.ra p s) (machine.goes a m)) (sym (indirect_place x.inst.op k (immediate 4 x.inst.imm) m.pc (word_of (m.regs x.inst.ra) 0) (word_of (m.regs x.inst.rb) 0)))
        (indirect_hop p limit l laid frames s m matched Q ways x.inst.ra ins)) inside)

    pointer_call_hop : (row_of x.inst.op).kind ≡ kind.PointerCall → Inside (acts kind.PointerCall p frames x s) → Q (acts kind.PointerCall p frames x s) (machine.acts kind.PointerCall z next m)
    pointer_call_hop k inside =
        subst (λ y. Q (acts kind.PointerCall p frames x s) (machine.acts kind.PointerCall y next m)) (sym (plain_is (ap has_field k)))
        (subst (λ t. Q (acts kind.PointerCall p frames x s) (machine.sets t (quad_of next 0 0 0) (place x.inst m.pc (m.regs x.inst.ra) (m.regs x.inst.rb)) m)) (sym (linkable.pointers s.f s.i x here k))
        (subst (λ a. Q (acts kind.PointerCall p frames x s) (machine.sets 0 (quad_of next 0 0 0) a m)) (sym (pointer_place x.inst.op k (immediate 4 x.inst.imm) m.pc (word_of (m.regs x.inst.ra) 0) (word_of (m.regs x.inst.rb) 0)))
        (pointer_hop p limit l laid frames s m matched Q ways _ x.inst.ra refl inside)))

    halt_hop : (row_of x.inst.op).kind ≡ kind.HaltTest → Inside (acts kind.HaltTest p frames x s) → Q (acts kind.HaltTest p frames x s) (machine.acts kind.HaltTest z next m)
    halt_hop k inside =
        subst (λ y. Q (acts kind.HaltTest p frames x s) (machine.acts kind.HaltTest y next m)) (sym (plain_is (ap has_field k)))
        (unless_outside Q (can_halt x.inst (s.regs x.inst.ra) (s.regs x.inst.rb)) _ _ _ tt
        (λ known ins. choose_by Q (symbolic_holds x.inst (s.regs x.inst.ra) (s.regs x.inst.rb)) (holds x.inst (m.regs x.inst.ra) (m.regs x.inst.rb)) _ _ _ _
        (holds_agrees (code l) x.inst (s.regs x.inst.ra) (s.regs x.inst.rb) (m.regs x.inst.ra) (m.regs x.inst.rb) (matched.regs x.inst.ra) (matched.regs x.inst.rb) known)
        (λ is h. ways.stay _ _ (ends_hop p limit l laid frames s m matched sound high x here (ideal.Halt s.f s.i) (ending.Halt m.pc) (ap (λ a. Some (ending.Halt a)) matched.place)))
        (λ is h. ways.stay _ _ (advances_hop p limit l laid frames s m matched sound high x here h)) ins) inside)

    stop_hop : (row_of x.inst.op).kind ≡ kind.StopOp → Q (acts kind.StopOp p frames x s) (machine.acts kind.StopOp z next m)
    stop_hop k =
        subst (λ y. Q (acts kind.StopOp p frames x s) (machine.acts kind.StopOp y next m)) (sym (plain_is (ap has_field k)))
        (ways.stay _ _ (ends_hop p limit l laid frames s m matched sound high x here (ideal.Stop (cast_unsigned w32 x.inst.imm)) (ending.Stop (cast_unsigned w32 x.inst.imm)) refl))

    chan_hop : (row_of x.inst.op).kind ≡ kind.ChannelOp → Inside (acts kind.ChannelOp p frames x s) → Q (acts kind.ChannelOp p frames x s) (machine.acts kind.ChannelOp z next m)
    chan_hop k inside =
        subst (λ y. Q (acts kind.ChannelOp p frames x s) (machine.acts kind.ChannelOp y next m)) (sym (plain_is (ap has_field k)))
        (ways.stay _ _ (channel_hop p limit l laid frames s m matched sound high x here x.inst.op x.inst inside))

    pub acts_hop : (k : Kind) → (row_of x.inst.op).kind ≡ k → Inside (acts k p frames x s) → Q (acts k p frames x s) (machine.acts k z next m)
    acts_hop kind.Compute k inside = ways.stay _ _ (compute_hop k inside)
    acts_hop kind.Load k inside = ways.stay _ _ (load_hop k inside)
    acts_hop kind.Store k inside = ways.stay _ _ (store_hop k inside)
    acts_hop kind.Branch k inside = branch_hop k inside
    acts_hop kind.Call k inside = call_hop k inside
    acts_hop kind.Indirect k inside = indirect_kind_hop k inside
    acts_hop kind.PointerCall k inside = pointer_call_hop k inside
    acts_hop kind.HaltTest k inside = halt_hop k inside
    acts_hop kind.ChannelOp k inside = chan_hop k inside
    acts_hop kind.StopOp k inside = stop_hop k
    acts_hop kind.Nothing k inside = ways.stay _ _ (advances_hop p limit l laid frames s m matched sound high x here inside)
