-- What the code that makes an image takes of a program and its layout.
use Rattle.std.proofs.Common.{◌≡◌, ℕ, ◌%◌, ◌^◌, ◌<◌, ◌≤◌, refl, sym, ap, subst, arith, true, pos}
use Rattle.std.specs.Prelude.{◌==◌, ◌&&◌, ◌||◌}
use Rattle.std.proofs.lemmas.Bool.{cond_both}
use Rattle.spu_word.specs.declared.limits.TheConstants.{STORE_SIZE}
use Rattle.spu_isa.specs.declared.operation.Op.{Op}
use Rattle.spu_isa.specs.declared.operation.Op.TheVariants as op
use Rattle.spu_isa.specs.declared.operation.Kind.TheVariants as kind
use Rattle.spu_isa.specs.Table.{row_of}
use Rattle.spu_reloc.specs.Fields.{fits_on, kind_on}
use Rattle.spu_lift.specs.declared.program.Label.{Label}
use Rattle.spu_lift.specs.declared.program.Label.TheVariants.{Fun, Place, Link}
use Rattle.spu_lift.specs.declared.program.Operand.{Operand}
use Rattle.spu_lift.specs.declared.program.Operand.TheVariants as operand
use Rattle.spu_lift.specs.declared.program.SymInst.{SymInst}
use Rattle.spu_lift.specs.declared.program.Prog.{Prog}
use Rattle.spu_lift.specs.Places.{place_in, IsPlace}
use Rattle.spu_lift.specs.StartCode.{of_register, symbolic}
use Rattle.spu_lift.specs.WellFormed.{IsCallee, IsWellFormed, IsOperand, IsTakenTarget, takes_number, takes_label}
use Rattle.spu_layout.specs.declared.layout.Layout as held
use Rattle.spu_layout.specs.declared.layout.Span.{Span}
use Rattle.spu_layout.specs.Layouts.{Layout, IsLaid}
use Rattle.spu_layout.specs.Labels.{address_of, call_target, jump_target, label_function}
use Rattle.spu_layout.specs.Views.{function_count, layout_in}
use Rattle.spu_layout.proofs.Making.{shaped}
use Rattle.spu_ideal.proofs.Lifted.{function_within}
use Rattle.spu_image.specs.Words.{IsPatched, IsWordBy, value_of}
use Rattle.spu_image.specs.Filling.{IsLaidOut}
use Rattle.spu_image.proofs.Promised.{entered, label_placed, IsPlaced}

module _ (p : Prog) (layout : held.Layout) (out : IsLaidOut p layout) where
  pub laid_by : IsLaid p out.limit (layout_in layout)
  laid_by = subst (IsLaid p out.limit) (sym out.is) (shaped p out.plan out.limit out.well out.fits).laid

  -- data ends in the local store
  pub data_low : p.data_end ≤ STORE_SIZE
  data_low = let d = laid_by.apart in let e = ap (λ (s : Span). s.to) laid_by.data_area in omega (arith, d, e)

  -- places lie in the local store, and so does what labels lead to
  pub inside : (f i : ℕ) → IsPlace p f i → (layout_in layout).at f i ≤ STORE_SIZE
  inside f i place =
      let low = laid_by.below f i place in
      let stack = ap (λ (s : Span). s.from) laid_by.stack in
      omega (arith, low, stack)

  pub callee_inside : (g : ℕ) → IsCallee p g → (layout_in layout).at g 0 ≤ STORE_SIZE
  callee_inside g callee = inside g 0 (entered p out.well g callee)

  -- so do stubs, and so what calls and jumps lead to
  entry_inside : (g : ℕ) → IsCallee p g → (layout_in layout).entry g ≤ STORE_SIZE
  entry_inside g callee =
      let low = laid_by.entries g (entered p out.well g callee) in
      let stack = ap (λ (s : Span). s.from) laid_by.stack in
      omega (arith, low, stack)

  pub call_inside : (f g : ℕ) → IsCallee p g → call_target (layout_in layout) f g ≤ STORE_SIZE
  call_inside f g callee =
      cond_both (((layout_in layout).region f == 0) && ((layout_in layout).region g == 0)) ((layout_in layout).at g 0) ((layout_in layout).entry g) (λ a. a ≤ STORE_SIZE) (λ t. callee_inside g callee) (λ t. entry_inside g callee)

  pub jump_inside : (f g : ℕ) → IsCallee p g → jump_target (layout_in layout) f g ≤ STORE_SIZE
  jump_inside f g callee =
      cond_both (((layout_in layout).region g == 0) || ((layout_in layout).region g == (layout_in layout).region f)) ((layout_in layout).at g 0) ((layout_in layout).entry g) (λ a. a ≤ STORE_SIZE) (λ t. callee_inside g callee) (λ t. entry_inside g callee)

  pub known : (f i : ℕ) → IsPlace p f i → f < function_count layout
  known f i place = let lt = function_within p f i place.0 place.1 in let e = out.functions in omega (arith, lt, e)

  pub callee_known : (g : ℕ) → IsCallee p g → g < function_count layout
  callee_known g callee = let lt = callee.1 in let e = out.functions in omega (arith, lt, e)

  by_label_known : (m : Label) → IsPlaced p m → label_function m < function_count layout
  by_label_known (Fun f) place = known f 0 place
  by_label_known (Place f i) place = known f i place
  by_label_known (Link f i) place = absurd place

  pub label_known : (m : Label) → IsTakenTarget p m → label_function m < function_count layout
  label_known m taken = by_label_known m (label_placed p out.well m taken)

  by_label_inside : (m : Label) → IsPlaced p m → address_of (layout_in layout) m ≤ STORE_SIZE
  by_label_inside (Fun f) place = let low = laid_by.entries f place in let stack = ap (λ (s : Span). s.from) laid_by.stack in omega (arith, low, stack)
  by_label_inside (Place f i) place = inside f i place
  by_label_inside (Link f i) place = absurd place

  pub label_inside : (m : Label) → IsTakenTarget p m → address_of (layout_in layout) m ≤ STORE_SIZE
  label_inside m taken = by_label_inside m (label_placed p out.well m taken)

-- ---- operands that aren't plain stand on instructions that have a field for them

label_fits : (o : Op) → takes_label o ≡ true → fits_on (kind_on o) o ≡ true
label_fits op.Ila h = refl
label_fits op.Ilhu h = refl
label_fits op.Iohl h = refl
label_fits _ h = cc

number_fits : (o : Op) → takes_number o ≡ true → fits_on (kind_on o) o ≡ true
number_fits op.Lqa h = refl
number_fits op.Stqa h = refl
number_fits op.Lqr h = refl
number_fits op.Stqr h = refl
number_fits op.Ila h = refl
number_fits op.Ilhu h = refl
number_fits op.Iohl h = refl
number_fits _ h = cc

call_fits : (o : Op) → (row_of o).kind ≡ kind.Call → fits_on (kind_on o) o ≡ true
call_fits op.Brsl h = refl
call_fits op.Brasl h = refl
call_fits _ h = cc

branch_fits : (o : Op) → (row_of o).kind ≡ kind.Branch → fits_on (kind_on o) o ≡ true
branch_fits op.Br h = refl
branch_fits op.Bra h = refl
branch_fits op.Brz h = refl
branch_fits op.Brnz h = refl
branch_fits op.Brhz h = refl
branch_fits op.Brhnz h = refl
branch_fits _ h = cc

pub operand_fits : (p : Prog) (f : ℕ) (x : SymInst) (o : Operand) → IsOperand p f x o → (o ≡ operand.Plain → ⊥) → fits_on (kind_on x.inst.op) x.inst.op ≡ true
operand_fits p f x operand.Plain h other = absurd (other refl)
operand_fits p f x (operand.Number n) h other = number_fits x.inst.op h.0
operand_fits p f x (operand.Address m) h other = label_fits x.inst.op h.0
operand_fits p f x (operand.Call g) h other = call_fits x.inst.op h.0
operand_fits p f x (operand.Jump g) h other = branch_fits x.inst.op h.0
operand_fits p f x (operand.Branch i) h other = branch_fits x.inst.op h.0

-- the word of an instruction whose operand isn't plain
pub word_by : (l : Layout) (f i : ℕ) (x : SymInst) (o : Operand) (w : ℕ) → (o ≡ operand.Plain → ⊥) → IsPatched x (value_of l f o) (l.at f i) w → IsWordBy o l f i x w
word_by l f i x operand.Plain w other h = absurd (other refl)
word_by l f i x (operand.Number n) w other h = h
word_by l f i x (operand.Address m) w other h = h
word_by l f i x (operand.Call g) w other h = h
word_by l f i x (operand.Jump g) w other h = h
word_by l f i x (operand.Branch j) w other h = h

-- the start code is there
pub start_there : (p : Prog) → IsWellFormed p → IsPlace p 0 0
start_there p well = (symbolic (of_register op.Lqr 1 (pos 0)) (operand.Number (p.data_end % 2 ^ 32)), ap (λ o. place_in o 0) well.start)
