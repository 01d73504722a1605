-- What a run of a judged program promises of each of its states.
use Rattle.std.proofs.Common.{◌≡◌, ℕ, zero, suc, ◌<◌, ◌≤◌, ◌⊎◌, inl, inr, List, refl, sym, ap₂, subst, arith, true}
use Rattle.std.specs.Prelude.{◌==◌}
use Rattle.std.proofs.lemmas.Bool.{and_parts, eqb-true}
use Rattle.spu_word.specs.declared.load.Inputs.{Inputs}
use Rattle.spu_lift.specs.declared.program.Prog.{Prog}
use Rattle.spu_lift.specs.declared.program.Label.{Label}
use Rattle.spu_lift.specs.declared.program.Label.TheVariants.{Fun, Place, Link}
use Rattle.spu_lift.specs.declared.symbolic.SymByte.{SymByte}
use Rattle.spu_lift.specs.declared.symbolic.SymByte.TheVariants.{Num, Part, Unknown}
use Rattle.spu_ideal.specs.Bytes.{sym_at, same_label, is_part, are_parts, is_link}
use Rattle.spu_ideal.specs.State.{Sym}
use Rattle.spu_ideal.specs.Machine.{start, run}
use Rattle.spu_ideal.specs.States.{IsAfter, IsTaken, IsOf, IsJudged}
use Rattle.spu_ideal.specs.Promises.{AreWaiting, IsHigh}
use Rattle.spu_ideal.proofs.Runs.{run_keeps, allowed_inside}
use Rattle.spu_ideal.proofs.Waiting.{waiting_kept}

label_is : (l m : Label) → same_label l m ≡ true → m ≡ l
label_is (Fun f) (Fun g) e = ap₂ (λ a b. Fun a) (sym (eqb-true f g e)) (sym (eqb-true f g e))
label_is (Place f i) (Place g j) e = let p = and_parts (f == g) (i == j) e in ap₂ (λ a b. Place a b) (sym (eqb-true f g p.0)) (sym (eqb-true i j p.1))
label_is (Link f i) (Link g j) e = let p = and_parts (f == g) (i == j) e in ap₂ (λ a b. Link a b) (sym (eqb-true f g p.0)) (sym (eqb-true i j p.1))
label_is (Fun f) (Place g j) e = absurd (cc)
label_is (Fun f) (Link g j) e = absurd (cc)
label_is (Place f i) (Fun g) e = absurd (cc)
label_is (Place f i) (Link g j) e = absurd (cc)
label_is (Link f i) (Fun g) e = absurd (cc)
label_is (Link f i) (Place g j) e = absurd (cc)

part_is : (l : Label) (k : ℕ) (s : SymByte) → is_part l k s ≡ true → s ≡ Part l k
part_is l k (Num v) e = absurd (cc)
part_is l k Unknown e = absurd (cc)
part_is l k (Part m j) e = let p = and_parts (same_label l m) (k == j) e in ap₂ (λ a b. Part a b) (label_is l m p.0) (sym (eqb-true k j p.1))

last_or_below : (j n : ℕ) → j < suc n → (j ≡ n) ⊎ (j < n)
last_or_below j n lt = grind arith

-- each byte of what is a label is a part of it
pub parts_true : (l : Label) (s : List SymByte) (n j : ℕ) → are_parts l s n ≡ true → j < n → sym_at s j ≡ Part l j
unfolding are_parts
parts_true l s zero j t lt = absurd (omega arith)
parts_true l s (suc n) j t lt =
    let p = and_parts (is_part l n (sym_at s n)) (are_parts l s n) t in
    elim (last_or_below j n lt) [
      | inl is ↦ subst (λ i. sym_at s i ≡ Part l i) (sym is) (part_is l n (sym_at s n) p.0)
      | inr below ↦ parts_true l s n j p.1 below
    ]

module _ (p : Prog) (frames : ℕ → ℕ) (need : ℕ) (judged : IsJudged p frames need) (limit : ℕ) (least : need ≤ limit) (inputs : Inputs) where
  waiting : (n : ℕ) → AreWaiting p limit (run p frames limit inputs n).areas (run p frames limit inputs n).queue
  unfolding run start
  waiting zero = record { safe = tt; few = omega arith; untagged = refl }
  waiting (suc n) = waiting_kept p limit frames (run p frames limit inputs n) (λ a size t. allowed_inside p frames need judged limit inputs n a size least t) (waiting n)

  -- a link in the link register is of a place behind another
  behind : (s : Sym) → IsOf p s → (f i : ℕ) → is_link f i (s.regs 0) ≡ true → IsAfter p f i
  behind s inv f i t = (subst (IsTaken p) (parts_true (Link f i) (s.regs 0) 16 0 t (omega arith)) ((inv.labels 0).taken 0 (omega arith))).0

  pub high : (n : ℕ) → IsHigh p frames limit (run p frames limit inputs n)
  high n =
      let inv = run_keeps p frames need judged limit inputs n in
      record {
        placed = inv.placed;
        begun = inv.begun;
        after = behind (run p frames limit inputs n) inv;
        allowed = λ a size t. allowed_inside p frames need judged limit inputs n a size least t;
        waiting = waiting n;
      }
