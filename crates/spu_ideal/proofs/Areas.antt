-- What a transfer reaches stays the same where bytes are written to an area.
use Rattle.std.proofs.Common.{◌≡◌, ℕ, zero, suc, ◌+◌, ◌-◌, ◌≤◌, ◌⊎◌, List, [], ◌∷◌, ◌++◌, length, take, drop, map, get_or, refl, ap, ◌∙◌, arith, inl, inr, Bool, true, false, Option, Some, None}
use Rattle.std.proofs.Math.ListN.{set}
use Rattle.std.specs.Prelude.{◌&&◌, ◌||◌}
use Rattle.std.proofs.lemmas.Bool.{and_parts}
use Rattle.std.proofs.lemmas.Bool.Decides.{nat_tests}
use Rattle.std.proofs.lemmas.List.{length-append, length-take-le, length-drop}
use Rattle.std.proofs.lemmas.List.Quantifiers.{position-Some}
use Rattle.spu_word.specs.declared.load.Area.{Area}
use Rattle.spu_exec.specs.declared.transfers.Form.{Form}
use Rattle.spu_exec.specs.declared.transfers.Form.TheVariants.{Put, Get}
use Rattle.spu_exec.specs.declared.transfers.Transfer.{Transfer}
use Rattle.spu_exec.specs.Transfers.{Stretch, stretch_of, is_size, is_shaped, holds_range, some_holds, reached, is_taken}
use Rattle.spu_exec.specs.Areas.{with_bytes, first_holding, area_with, written_in, written}
use Rattle.spu_ideal.specs.Channels.{no_image}

length_with : (at : ℕ) (bytes old : List ℕ) → at + length bytes ≤ length old → length (with_bytes at bytes old) ≡ length old
length_with at bytes old le =
    length-append (take at old) (bytes ++ drop (at + length bytes) old) ∙
    (let a = length-take-le at old (omega arith) in
    let b = length-append bytes (drop (at + length bytes) old) in
    let c = length-drop (at + length bytes) old in
    omega (arith, a, b, c))

pub or_true : (b c : Bool) → (b || c) ≡ true → (b ≡ true) ⊎ (c ≡ true)
or_true true c e = inl refl
or_true false c e = inr e

some_size : (n : ℕ) → is_size n ≡ true → 1 ≤ n
some_size zero e = cc
some_size (suc n) e = omega arith

pub taken_some : (areas : List Area) (t : Transfer) → is_taken no_image areas t ≡ true → 1 ≤ t.size
taken_some areas t e =
    let a = and_parts (is_shaped t) _ e in
    let b = and_parts (is_size t.size) _ a.0 in
    some_size t.size b.0

held : (ea n : ℕ) (x : Stretch) → holds_range ea n x ≡ true → (x.ea ≤ ea) × (ea + n ≤ x.ea + length x.bytes)
held ea n x e = (grind (arith, nat_tests), grind (arith, nat_tests))

-- an area that is as long at the same place changes no test of what areas hold
same_held : (ea n : ℕ) (a b : Area) → b.ea ≡ a.ea → length b.bytes ≡ length a.bytes → holds_range ea n (stretch_of b) ≡ holds_range ea n (stretch_of a)
same_held ea n a b e l = rw (e, l) refl

set_held : (areas : List Area) (i : ℕ) (b d : Area) (ea n : ℕ) → b.ea ≡ (get_or areas i d).ea → length b.bytes ≡ length (get_or areas i d).bytes
    → some_holds ea n (map stretch_of (set areas i b)) ≡ some_holds ea n (map stretch_of areas)
set_held [] i b d ea n e l = refl
set_held (a ∷ areas) zero b d ea n e l = ap (λ c. c || some_holds ea n (map stretch_of areas)) (same_held ea n a b e l)
set_held (a ∷ areas) (suc i) b d ea n e l = ap (λ c. holds_range ea n (stretch_of a) || c) (set_held areas i b d ea n e l)

pub same_some : (ea : ℕ) (bytes : List ℕ) (areas : List Area) (e n : ℕ) → some_holds e n (map stretch_of (written ea bytes areas)) ≡ some_holds e n (map stretch_of areas)
same_some ea bytes areas e n = by_first (first_holding ea (length bytes) areas) refl
  where
    none : Area
    none = record { name = []; ea = 0; bytes = [] }

    by_first : (o : Option ℕ) → first_holding ea (length bytes) areas ≡ o → some_holds e n (map stretch_of (written_in o ea bytes areas)) ≡ some_holds e n (map stretch_of areas)
    by_first None is = refl
    by_first (Some i) is =
        let found = position-Some (λ (a : Area). holds_range ea (length bytes) (stretch_of a)) areas i none is in
        let a : Area = get_or areas i none in
        let h = held ea (length bytes) (stretch_of a) found.1 in
        let low = h.0 in
        let up = h.1 in
        set_held areas i (area_with ea bytes a) none e n refl (length_with (ea - a.ea) bytes a.bytes (omega (arith, low, up)))

same_reach : (form : Form) (ea : ℕ) (bytes : List ℕ) (areas : List Area) (e n : ℕ) → some_holds e n (reached form no_image (written ea bytes areas)) ≡ some_holds e n (reached form no_image areas)
same_reach Put ea bytes areas e n = same_some ea bytes areas e n
same_reach Get ea bytes areas e n = ap (λ b. holds_range e n no_image || b) (same_some ea bytes areas e n)

pub same_taken : (ea : ℕ) (bytes : List ℕ) (areas : List Area) (t : Transfer) → is_taken no_image areas t ≡ true → is_taken no_image (written ea bytes areas) t ≡ true
same_taken ea bytes areas t h = ap (λ b. is_shaped t && b) (same_reach t.form ea bytes areas t.ea t.size) ∙ h
