-- The edge of an instruction in the graph that is made, against the edges of the program.
use Rattle.std.proofs.Common.{◌≡◌, ℕ, ◌<◌, ◌⊎◌, inl, inr, Bool, true, false, List, [], ◌∷◌, length, Option, Some, None, refl, sym, ap, ◌∙◌, subst}
use Rattle.std.specs.Prelude.{slice_get, if◌then◌else◌, ◌==◌}
use Rattle.std.specs.List.{Contains}
use Rattle.std.proofs.lemmas.Bool.{ne_eqb}
use Rattle.std.proofs.lemmas.Option.{slice_get_within}
use Rattle.spu_isa.specs.declared.operation.Kind.{Kind}
use Rattle.spu_isa.specs.declared.operation.Kind.TheVariants as kind
use Rattle.spu_lift.specs.declared.program.Operand.{Operand}
use Rattle.spu_lift.specs.declared.program.Operand.TheVariants as operand
use Rattle.spu_lift.specs.declared.program.SymInst.{SymInst}
use Rattle.spu_lift.specs.declared.program.Function.{Function}
use Rattle.spu_lift.specs.declared.program.Prog.{Prog}
use Rattle.spu_lift.specs.Places.{place_in, instruction_at, taken_places, kind_of, link_register}
use Rattle.spu_lift.specs.WellFormed.{IsOperand, IsWellFormed}
use Rattle.spu_frame.specs.Frames.{IsPointerJump}
use Rattle.spu_graph.specs.declared.graph.Edge.{Edge}
use Rattle.spu_judge.specs.Edges.{Leads}
use Rattle.spu_judge.specs.Building.{pointer_node, edge_between, call_edge, jump_edge, pointer_edge, edge_by, edge_of}

pub function_within : (p : Prog) (f i : ℕ) (x : SymInst) → instruction_at p f i ≡ Some x → f < length p.functions
function_within p f i x = by_function (slice_get p.functions f) refl
  where
    by_function : (o : Option Function) → slice_get p.functions f ≡ o → place_in o i ≡ Some x → f < length p.functions
    by_function None e here = absurd (cc)
    by_function (Some g) e here = slice_get_within p.functions f g e

some_edge : (d e : Edge) → Some d ≡ Some e → d ≡ e
some_edge d e h = cc

-- an instruction of f calls or jumps by a pointer
abbrev pub Points : Prog → ℕ → SymInst → Bool → Type 0
Points p f x call = ((call ≡ true) × (kind_of x ≡ kind.PointerCall)) ⊎ ((call ≡ false) × IsPointerJump p f x)

-- ---- from the edge that is made to the program's

abbrev pub LeadsOut : Prog → ℕ → SymInst → Edge → Type 0
LeadsOut p f x e = (e.from ≡ f) × (Leads p x e ⊎ ((e.to ≡ pointer_node p) × Points p f x e.call))

module _ (p : Prog) (f : ℕ) (x : SymInst) (e : Edge) where
  by_call : (o : Operand) → x.operand ≡ o → kind_of x ≡ kind.Call → call_edge f o ≡ Some e → LeadsOut p f x e
  by_call operand.Plain is k at = absurd (cc)
  by_call (operand.Number n) is k at = absurd (cc)
  by_call (operand.Address l) is k at = absurd (cc)
  by_call (operand.Call g) is k at = subst (LeadsOut p f x) (some_edge (edge_between f g true) e at) (refl, inl (inl (refl, inl (k, is))))
  by_call (operand.Jump g) is k at = absurd (cc)
  by_call (operand.Branch j) is k at = absurd (cc)

  by_jump : (o : Operand) → x.operand ≡ o → jump_edge f o ≡ Some e → LeadsOut p f x e
  by_jump operand.Plain is at = absurd (cc)
  by_jump (operand.Number n) is at = absurd (cc)
  by_jump (operand.Address l) is at = absurd (cc)
  by_jump (operand.Call g) is at = absurd (cc)
  by_jump (operand.Jump g) is at = subst (LeadsOut p f x) (some_edge (edge_between f g false) e at) (refl, inl (inr (refl, inl is)))
  by_jump (operand.Branch j) is at = absurd (cc)

  by_pointer : (taken : List ℕ) → taken_places p f ≡ taken → kind_of x ≡ kind.Indirect → pointer_edge p f x.inst.ra taken ≡ Some e → LeadsOut p f x e
  by_pointer (j ∷ js) is k at = absurd (cc)
  by_pointer [] is k at = by_register (x.inst.ra == link_register) refl at
    where
      by_register : (b : Bool) → (x.inst.ra == link_register) ≡ b → (if b then None else Some (edge_between f (pointer_node p) false)) ≡ Some e → LeadsOut p f x e
      by_register true t h = absurd (cc)
      by_register false t h = subst (LeadsOut p f x) (some_edge (edge_between f (pointer_node p) false) e h) (refl, inr (refl, inr (refl, ((k, other), is))))
        where
          other : x.inst.ra ≡ 0 → ⊥
          other z = let yes : (0 == link_register) ≡ false = subst (λ n. (n == link_register) ≡ false) z t in cc

  by_kind : (k : Kind) → kind_of x ≡ k → edge_by k p f x ≡ Some e → LeadsOut p f x e
  by_kind kind.Call is at = by_call x.operand refl is at
  by_kind kind.Branch is at = by_jump x.operand refl at
  by_kind kind.PointerCall is at = subst (LeadsOut p f x) (some_edge (edge_between f (pointer_node p) true) e at) (refl, inr (refl, inl (refl, is)))
  by_kind kind.Indirect is at = by_pointer (taken_places p f) refl is at
  by_kind _ is at = absurd (cc)

  pub leads_out : edge_of p f x ≡ Some e → LeadsOut p f x e
  leads_out at = by_kind (kind_of x) refl at

-- ---- and back

pub same_edge : (e : Edge) (f : ℕ) (call : Bool) → e.from ≡ f → e.call ≡ call → edge_between f e.to call ≡ e
same_edge e f call from is = ap (λ g. edge_between g e.to call) (sym from) ∙ ap (λ b. edge_between e.from e.to b) (sym is)

-- the edge is made, or one to the node of pointers is, and its callee is taken
abbrev pub IsLed : Prog → ℕ → SymInst → Edge → Type 0
IsLed p f x e = (edge_of p f x ≡ Some e) ⊎ ((edge_of p f x ≡ Some (edge_between f (pointer_node p) e.call)) × Contains p.taken e.to)

module _ (p : Prog) (formed : IsWellFormed p) (f i : ℕ) (x : SymInst) (here : instruction_at p f i ≡ Some x) (e : Edge) (from : e.from ≡ f) where
  jump_branch : (g : ℕ) → x.operand ≡ operand.Jump g → kind_of x ≡ kind.Branch
  jump_branch g is = let stands : IsOperand p f x (operand.Jump g) = subst (λ (o : Operand). IsOperand p f x o) is (formed.instructions f i x here).stands in stands.0

  register_other : (x.inst.ra ≡ 0 → ⊥) → (x.inst.ra == link_register) ≡ false
  register_other ne = ne_eqb x.inst.ra 0 ne

  pub led : Leads p x e → IsLed p f x e
  led (inl (call, inl (k, is))) = inl (ap (λ k. edge_by k p f x) k ∙ ap (call_edge f) is ∙ ap Some (same_edge e f true from call))
  led (inl (call, inr (k, taken))) = inr (ap (λ k. edge_by k p f x) k ∙ ap (λ b. Some (edge_between f (pointer_node p) b)) (sym call), taken)
  led (inr (jump, inl is)) = inl (ap (λ k. edge_by k p f x) (jump_branch e.to is) ∙ ap (jump_edge f) is ∙ ap Some (same_edge e f false from jump))
  led (inr (jump, inr (((k, other), none), taken))) =
      let none_here : taken_places p f ≡ [] = ap (taken_places p) (sym from) ∙ none in
      let register = register_other other in
      inr (
        ap (λ k. edge_by k p f x) k ∙ ap (pointer_edge p f x.inst.ra) none_here
            ∙ ap (λ (b : Bool). if b then None else Some (edge_between f (pointer_node p) false)) register
            ∙ ap (λ b. Some (edge_between f (pointer_node p) b)) (sym jump),
        taken,
      )
