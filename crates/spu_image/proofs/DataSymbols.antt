-- The symbols of data: which of them are those of named areas, as a walk over both finds.
use Rattle.std.proofs.Common.{◌≡◌, ℕ, suc, ◌+◌, ◌<◌, ◌≤◌, Bool, true, false, List, [], ◌∷◌, ◌++◌, length, take, drop, map, get_or, Some, refl, sym, ap, ◌∙◌, subst, append_assoc, arith, inl, inr, codes}
use Rattle.std.specs.Prelude.{slice_get}
use Rattle.std.specs.Str.{bytes_eq}
use Rattle.std.proofs.lemmas.Bool.{cases_Bool}
use Rattle.std.proofs.lemmas.List.{drop_more, map-append, take_more}
use Rattle.std.proofs.lemmas.Slice.Eq.{bytes_eq-Decides}
use Rattle.std.specs.List.{Contains}
use Rattle.spu_elf.specs.declared.objects.Symbol.{Symbol}
use Rattle.spu_elf.specs.declared.objects.SymKind.{SymKind}
use Rattle.spu_lift.specs.declared.program.Ear.{Ear}
use Rattle.spu_lift.specs.declared.program.Global_.{Global_}
use Rattle.spu_lift.specs.declared.program.Prog.{Prog}
use Rattle.spu_word.specs.declared.limits.TheConstants.{DATA_START}
use Rattle.spu_lift.specs.WellFormed.{AreDistinct, AreEars, IsWellFormed}
use Rattle.spu_image.specs.Images.{data_symbol, is_ear, kind_of_data}
use Rattle.spu_image.specs.Filling.{has_first, symbol_as, without_first}
use Rattle.spu_image.proofs.FlatImages.{part_at}
use Rattle.spu_image.proofs.GlobalSymbols.{Names, named_by, owner, tail, no_ears, unnamed}

-- these are the global symbols and the named areas that are left
pub record AreLeft (p : Prog) (gs : List Global_) (es : List Ear) : Type 0 where
  pub distinct : AreDistinct gs
  pub ears : AreEars gs es
  pub up : (name : List ℕ) → Names name es → Names name p.ears
  pub down : (j : ℕ) (h : Global_) → slice_get gs j ≡ Some h → Names h.name p.ears → Names h.name es

pub all_left : (p : Prog) → IsWellFormed p → AreLeft p p.globals p.ears
all_left p well = record { distinct = well.distinct; ears = well.ears_are_global; up = λ n h. h; down = λ j g there h. h }

module _ (p : Prog) (g : Global_) (gs : List Global_) where
  none_own : AreLeft p (g ∷ gs) [] → (has_first [] g ≡ is_ear p g) × AreLeft p gs (without_first [] (has_first [] g))
  none_own left = (
    sym (unnamed p g gs [] left.distinct (no_ears gs) (left.down 0 g refl)),
    record { distinct = tail g gs left.distinct; ears = no_ears gs; up = left.up; down = λ j. left.down (suc j) },
  )

  module _ (e : Ear) (es : List Ear) (left : AreLeft p (g ∷ gs) (e ∷ es)) where
    abbrev own : Bool
    own = bytes_eq g.name (codes "_EAR_" ++ e.name)

    -- the areas behind, where the first one is this symbol's
    ears_behind : g.name ≡ codes "_EAR_" ++ e.name → AreEars gs es
    ears_behind is = elim left.ears [
      | inl two ↦ two.1
      | inr rest ↦ absurd (let o = owner g.name gs (e ∷ es) rest (inl is) in let q = left.distinct (suc o.at) 0 o.g g o.there refl o.named in omega (arith, q))
    ]

    -- the areas behind, where it isn't
    ears_here : (g.name ≡ codes "_EAR_" ++ e.name → ⊥) → AreEars gs (e ∷ es)
    ears_here other = elim left.ears [ inl two ↦ absurd (other two.0.name) | inr rest ↦ rest ]

    first_own : own ≡ true → (own ≡ is_ear p g) × AreLeft p gs (without_first (e ∷ es) own)
    first_own is =
        let name : g.name ≡ codes "_EAR_" ++ e.name = (bytes_eq-Decides g.name (codes "_EAR_" ++ e.name)).0 is in (
          is ∙ sym (named_by g.name p.ears (left.up g.name (inl name))),
          subst (λ b. AreLeft p gs (without_first (e ∷ es) b)) (sym is) (record {
            distinct = tail g gs left.distinct;
            ears = ears_behind name;
            up = λ n x. left.up n (inr x);
            down = λ j k ek n. elim (left.down (suc j) k ek n) [
              | inl same ↦ (let q = left.distinct (suc j) 0 k g ek refl (same ∙ sym name) in absurd (omega (arith, q)))
              | inr more ↦ more
            ];
          }),
        )

    first_other : own ≡ false → (own ≡ is_ear p g) × AreLeft p gs (without_first (e ∷ es) own)
    first_other other =
        let name : g.name ≡ codes "_EAR_" ++ e.name → ⊥ = λ q. true_false (sym ((bytes_eq-Decides g.name (codes "_EAR_" ++ e.name)).1 q) ∙ other) in
        let here : AreEars gs (e ∷ es) = ears_here name in (
          other ∙ sym (unnamed p g gs (e ∷ es) left.distinct here (left.down 0 g refl)),
          subst (λ b. AreLeft p gs (without_first (e ∷ es) b)) (sym other) (record { distinct = tail g gs left.distinct; ears = here; up = left.up; down = λ j. left.down (suc j) }),
        )
      where
        true_false : true ≡ false → ⊥
        true_false e = cc

  pub one_left : (es : List Ear) → AreLeft p (g ∷ gs) es → (has_first es g ≡ is_ear p g) × AreLeft p gs (without_first es (has_first es g))
  one_left [] left = none_own left
  one_left (e ∷ es) left = elim (cases_Bool (bytes_eq g.name (codes "_EAR_" ++ e.name))) [ inl is ↦ first_own e es left is | inr other ↦ first_other e es left other ]

-- ---- what the loop has

-- where a global symbol lies
pub global_low : (p : Prog) → IsWellFormed p → (g : Global_) → Contains p.globals g → g.address + g.size ≤ p.data_end
global_low p well g there =
    let is = well.globals g there in
    let part = part_at DATA_START p.parts p.data_end well.ordered is.there.0 is.part is.there.1 is.there.2 in
    let up = part.1 in
    let to = is.to in
    omega (arith, up, to)

pub item_low : (p : Prog) → IsWellFormed p → (items : List Global_) → items ≡ p.globals → (k : ℕ) → k < length items → (g : Global_) → g ≡ get_or items k g → g.address + g.size ≤ p.data_end
item_low p well items same k lt g is = global_low p well g (k, (let n = ap (λ (gs : List Global_). length gs) same in omega (arith, n, lt)), ap (λ gs. get_or gs k g) (sym same) ∙ sym is)

pub symbol_next : (p : Prog) (items : List Global_) (k : ℕ) → k < length items → (g : Global_) → g ≡ get_or items k g → (ears behind : List Ear) → (first : Bool) (kind : SymKind) (s : Symbol) (old now new : List Symbol)
    → now ≡ old ++ map (data_symbol p) (take k items) → AreLeft p (drop k items) ears → first ≡ has_first ears g → kind ≡ kind_of_data g.name first → s ≡ symbol_as kind g → new ≡ now ++ s ∷ [] → behind ≡ without_first ears first
    → (new ≡ old ++ map (data_symbol p) (take (k + 1) items)) × AreLeft p (drop (k + 1) items) behind
symbol_next p items k lt g is ears behind first kind s old now new a left b c d e f =
    let here : AreLeft p (g ∷ drop (k + 1) items) ears = subst (λ gs. AreLeft p gs ears) (drop_more items k g lt ∙ ap (λ h. h ∷ drop (k + 1) items) (sym is)) left in
    let step = one_left p g (drop (k + 1) items) ears here in
    let symbol : s ≡ data_symbol p g = d ∙ ap (λ q. symbol_as q g) (c ∙ ap (kind_of_data g.name) (b ∙ step.0)) in
    let more : map (data_symbol p) (take (k + 1) items) ≡ map (data_symbol p) (take k items) ++ data_symbol p g ∷ [] =
    ap (map (data_symbol p)) (take_more items k g lt ∙ ap (λ h. take k items ++ h ∷ []) (sym is)) ∙ map-append (data_symbol p) (take k items) (g ∷ []) in (
      e ∙ ap (λ q. now ++ q ∷ []) symbol ∙ ap (λ ss. ss ++ data_symbol p g ∷ []) a ∙ append_assoc old (map (data_symbol p) (take k items)) (data_symbol p g ∷ []) ∙ ap (λ ss. old ++ ss) (sym more),
      subst (AreLeft p (drop (k + 1) items)) (sym (f ∙ ap (without_first ears) b)) step.1,
    )
