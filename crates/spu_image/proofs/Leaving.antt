-- Calls, returns and jumps, by the ways that lead to functions and places in a layout.
use Rattle.std.proofs.Common.{◌≡◌, ℕ, zero, suc, ◌+◌, ◌<◌, ◌⊎◌, ◌^◌, List, [], ◌∷◌, Option, Some, None, refl, ap, ◌∙◌, subst, arith, inr, Bool, true, false, cond}
use Rattle.std.specs.Prelude.{◌==◌, ◌&&◌, slice_index}
use Rattle.std.proofs.lemmas.Bool.{and_parts, eqb-true}
use Rattle.spu_word.specs.Bytes.{word_of, quad_of}
use Rattle.spu_exec.specs.Places.{code_mask}
use Rattle.spu_exec.proofs.Moves.{no_some, some_is}
use Rattle.spu_lift.specs.declared.program.SymInst.{SymInst}
use Rattle.spu_lift.specs.declared.program.Prog.{Prog}
use Rattle.spu_lift.specs.Places.{instruction_at, taken_places}
use Rattle.spu_ls.specs.Machine.{State}
use Rattle.spu_ls.specs.Machine as machine
use Rattle.spu_lift.specs.declared.program.Label.{Label}
use Rattle.spu_lift.specs.declared.program.Label.TheVariants.{Fun, Place, Link}
use Rattle.spu_lift.specs.declared.symbolic.SymByte.{SymByte}
use Rattle.spu_lift.specs.declared.symbolic.SymByte.TheVariants.{Num, Part, Unknown}
use Rattle.spu_ideal.specs.Bytes.{sym_at, is_part, is_link}
use Rattle.spu_ideal.specs.declared.state.OpenCall.{OpenCall}
use Rattle.spu_ideal.specs.State.{Sym, forgets, goes}
use Rattle.spu_ideal.specs.Machine.{calls, returns, jumps, label_of, word_label, calls_pointer, points, goes_indirect}
use Rattle.spu_layout.specs.Layouts.{Layout, IsLaid}
use Rattle.spu_image.specs.Agreeing.{Agrees, AgreesQuad}
use Rattle.spu_layout.specs.Labels.{code, call_target, jump_target}
use Rattle.spu_image.specs.Matching.{Matches}
use Rattle.spu_image.proofs.Promised.{Inside, Stepped}
use Rattle.spu_image.proofs.Agreement.{part_is}
use Rattle.spu_image.proofs.Choosing.{unless_outside}
use Rattle.spu_image.proofs.Steps.{stack_is, below, masked}

-- the label in word 0 of a quad
parts_label : (a b c d : SymByte) (m : Label) → label_of a b c d ≡ Some m → (a ≡ Part m 0) × (b ≡ Part m 1) × (c ≡ Part m 2) × (d ≡ Part m 3)
parts_label (Num v) b c d m e = no_some m e
parts_label Unknown b c d m e = no_some m e
parts_label (Part n (suc k)) b c d m e = no_some m e
parts_label (Part n zero) b c d m e =
    by_parts (is_part n 1 b && (is_part n 2 c && is_part n 3 d)) refl e
  where
    by_parts : (t : Bool) → (is_part n 1 b && (is_part n 2 c && is_part n 3 d)) ≡ t → cond t (Some n) None ≡ Some m → (Part n 0 ≡ Part m 0) × (b ≡ Part m 1) × (c ≡ Part m 2) × (d ≡ Part m 3)
    by_parts false t e = no_some m e
    by_parts true t e =
        let is : n ≡ m = some_is n m e in
        let one = and_parts (is_part n 1 b) (is_part n 2 c && is_part n 3 d) t in
        let two = and_parts (is_part n 2 c) (is_part n 3 d) one.1 in
        (ap (λ x. Part x 0) is, part_is n 1 b one.0 ∙ ap (λ x. Part x 1) is, part_is n 2 c two.0 ∙ ap (λ x. Part x 2) is, part_is n 3 d two.1 ∙ ap (λ x. Part x 3) is)

-- word 0 is the label's
pub label_leads : (c : Label → List ℕ) (m : Label) (s : List SymByte) (q : List ℕ) → word_label s ≡ Some m → AgreesQuad c s q → word_of q 0 ≡ word_of (c m) 0
label_leads c m s q e h =
    let is = parts_label (sym_at s 0) (sym_at s 1) (sym_at s 2) (sym_at s 3) m e in
    let b0 : slice_index q 0 ≡ slice_index (c m) 0 = subst (λ u. Agrees c u (slice_index q 0)) is.0 (h 0 (omega arith)) in
    let b1 : slice_index q 1 ≡ slice_index (c m) 1 = subst (λ u. Agrees c u (slice_index q 1)) is.1 (h 1 (omega arith)) in
    let b2 : slice_index q 2 ≡ slice_index (c m) 2 = subst (λ u. Agrees c u (slice_index q 2)) is.2 (h 2 (omega arith)) in
    let b3 : slice_index q 3 ≡ slice_index (c m) 3 = subst (λ u. Agrees c u (slice_index q 3)) is.3 (h 3 (omega arith)) in
    rw (b0, b1, b2, b3) refl

pub first_word : (a b c d : ℕ) → a < 2 ^ 32 → word_of (quad_of a b c d) 0 ≡ a
first_word a b c d lt = omega arith

-- ---- ways

-- how the machine comes to a function: by the address that an operand stands for, or by its label's
unfoldable pub IsWay : Prog → Layout → ℕ → ℕ → ℕ → Type 0
IsWay p l g target a = (y : SymInst) → instruction_at p g 0 ≡ Some y → (a ≡ target) ⊎ (a ≡ l.entry g)

-- what is promised of both machines after a step: Q, where the step stays in the function, returns, jumps, or calls
pub record Ways (p : Prog) (l : Layout) (s : Sym) (m : State) (Q : Sym → State → Type 0) : Type 0 where
  pub stay : (t : Sym) (n : State) → Stepped l s.f m t n → Q t n
  pub place : (i a : ℕ) → ((y : SymInst) → instruction_at p s.f i ≡ Some y → a ≡ l.at s.f i) → Inside (goes p s.f i s s) → Q (goes p s.f i s s) (machine.goes a m)
  pub return : (cs : List OpenCall) (f i : ℕ) → is_link f i (s.regs 0) ≡ true → Inside (goes p f i s (forgets (record s { calls = cs })))
      → Q (goes p f i s (forgets (record s { calls = cs }))) (machine.goes (code_mask (word_of (m.regs 0) 0)) m)
  pub jump : (f i g a : ℕ) → is_link f i (s.regs 0) ≡ true → IsWay p l g (jump_target l s.f g) a → Inside (goes p g 0 s (forgets s)) → Q (goes p g 0 s (forgets s)) (machine.goes a m)
  pub call : (g a : ℕ) → IsWay p l g (call_target l s.f g) a → Inside (calls p g s) → Q (calls p g s) (machine.sets 0 (quad_of (code_mask (m.pc + 4)) 0 0 0) a m)

module _ (p : Prog) (limit : ℕ) (l : Layout) (laid : IsLaid p limit l) (frames : ℕ → ℕ) where
  -- a word that is the address of a place, or of what a label leads to
  pub leads_to : (f i w : ℕ) (y : SymInst) → instruction_at p f i ≡ Some y → w ≡ word_of (quad_of (l.at f i) 0 0 0) 0 → code_mask w ≡ l.at f i
  leads_to f i w y e is =
      let a = below p limit l laid frames f i y e in
      ap code_mask (is ∙ first_word (l.at f i) 0 0 0 (omega (arith, a))) ∙ masked p limit l laid frames f i y e

  pub masked_entry : (f : ℕ) (y : SymInst) → instruction_at p f 0 ≡ Some y → code_mask (l.entry f) ≡ l.entry f
  masked_entry f y e = let a = laid.entries f (y, e) in let b = laid.entries_aligned f (y, e) in let c = stack_is p limit l laid frames in omega (arith, a, b, c)

  pub leads_in : (f w : ℕ) (y : SymInst) → instruction_at p f 0 ≡ Some y → w ≡ word_of (quad_of (l.entry f) 0 0 0) 0 → code_mask w ≡ l.entry f
  leads_in f w y e is =
      let a = laid.entries f (y, e) in
      let c = stack_is p limit l laid frames in
      ap code_mask (is ∙ first_word (l.entry f) 0 0 0 (omega (arith, a, c))) ∙ masked_entry f y e

  module _ (s : Sym) (m : State) (matched : Matches l s m) (Q : Sym → State → Type 0) (ways : Ways p l s m Q) where
    abbrev at_next : ℕ
    at_next = code_mask (m.pc + 4)

    pointed : (r g : ℕ) (target : ℕ) → word_label (s.regs r) ≡ Some (Fun g) → IsWay p l g target (code_mask (word_of (m.regs r) 0))
    unfolding IsWay
    pointed r g target is y e = inr (leads_in g (word_of (m.regs r) 0) y e (label_leads (code l) (Fun g) (s.regs r) (m.regs r) is (matched.regs r)))

    -- by a register that holds a function's label
    pub pointer_hop : (o : Option Label) (r : ℕ) → word_label (s.regs r) ≡ o
        → Inside (calls_pointer o p s) → Q (calls_pointer o p s) (machine.sets 0 (quad_of at_next 0 0 0) (code_mask (word_of (m.regs r) 0)) m)
    pointer_hop None r is inside = absurd (inside tt)
    pointer_hop (Some (Place f i)) r is inside = absurd (inside tt)
    pointer_hop (Some (Link f i)) r is inside = absurd (inside tt)
    pointer_hop (Some (Fun g)) r is inside = ways.call g (code_mask (word_of (m.regs r) 0)) (pointed r g (call_target l s.f g) is) inside

    pub returns_hop : (cs : List OpenCall) → Inside (returns p cs s) → Q (returns p cs s) (machine.goes (code_mask (word_of (m.regs 0) 0)) m)
    returns_hop [] inside = absurd (inside tt)
    returns_hop (c ∷ cs) inside = unless_outside Q (is_link c.f c.i (s.regs 0)) _ _ _ tt (λ link ins. ways.return cs c.f c.i link ins) inside

    pub jumps_hop : (g a : ℕ) (cs : List OpenCall) → IsWay p l g (jump_target l s.f g) a → Inside (jumps p g cs s) → Q (jumps p g cs s) (machine.goes a m)
    jumps_hop g a [] way inside = absurd (inside tt)
    jumps_hop g a (c ∷ cs) way inside = unless_outside Q (is_link c.f c.i (s.regs 0)) _ _ _ tt (λ link ins. ways.jump c.f c.i g a link way ins) inside

    points_hop : (ts : List ℕ) (o : Option Label) (r : ℕ) → word_label (s.regs r) ≡ o
        → Inside (points ts o p s) → Q (points ts o p s) (machine.goes (code_mask (word_of (m.regs r) 0)) m)
    points_hop [] None r is inside = absurd (inside tt)
    points_hop [] (Some (Place f i)) r is inside = absurd (inside tt)
    points_hop [] (Some (Link f i)) r is inside = absurd (inside tt)
    points_hop [] (Some (Fun g)) r is inside = jumps_hop g (code_mask (word_of (m.regs r) 0)) s.calls (pointed r g (jump_target l s.f g) is) inside
    points_hop (t ∷ ts) None r is inside = absurd (inside tt)
    points_hop (t ∷ ts) (Some (Fun g)) r is inside = absurd (inside tt)
    points_hop (t ∷ ts) (Some (Link f i)) r is inside = absurd (inside tt)
    points_hop (t ∷ ts) (Some (Place f i)) r is inside =
        unless_outside Q (f == s.f) _ _ _ tt
        (λ same ins. ways.place i (code_mask (word_of (m.regs r) 0))
        (λ y e. leads_to s.f i (word_of (m.regs r) 0) y e
        (label_leads (code l) (Place f i) (s.regs r) (m.regs r) is (matched.regs r) ∙ ap (λ g. word_of (quad_of (l.at g i) 0 0 0) 0) (eqb-true f s.f same))) ins) inside

    pub indirect_hop : (r : ℕ) → Inside (goes_indirect r p s) → Q (goes_indirect r p s) (machine.goes (code_mask (word_of (m.regs r) 0)) m)
    indirect_hop zero inside = returns_hop s.calls inside
    indirect_hop (suc r) inside = points_hop (taken_places p s.f) (word_label (s.regs (suc r))) (suc r) refl inside
