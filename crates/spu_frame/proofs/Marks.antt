-- Marks of the targets of a function.
use Rattle.std.proofs.Common.{◌≡◌, ℕ, zero, suc, ◌+◌, ◌<◌, ◌≤◌, ◌⊎◌, inl, inr, Bool, true, false, List, length, Some, replicate, refl, sym, ap, ◌∙◌, subst, arith}
use Rattle.std.specs.Prelude.{slice_get, slice_set}
use Rattle.std.proofs.lemmas.Bool.{cases_lt}
use Rattle.std.proofs.lemmas.List.{length-set}
use Rattle.spu_word.proofs.Places.{nat_equal, get_within, get_set_same, get_set_other}
use Rattle.spu_lift.specs.declared.program.Operand.{Operand}
use Rattle.spu_lift.specs.declared.program.Operand.TheVariants as operand
use Rattle.spu_lift.specs.declared.program.SymInst.{SymInst}
use Rattle.spu_lift.specs.declared.program.Prog.{Prog}
use Rattle.spu_lift.specs.Places.{taken_places, IsTarget}
use Rattle.spu_frame.specs.Functions.{code_of}
use Rattle.spu_frame.specs.Surveys.{with_target, AreTargets}
use Rattle.spu_frame.proofs.Formed.{code_is, contains_at, contains_place}

-- what is marked once the first n instructions and the first m taken places are
abbrev pub IsMarked : List SymInst → ℕ → List ℕ → ℕ → ℕ → Type 0
IsMarked code n taken m j = ((i : ℕ) × (x : SymInst) × (i < n) × (slice_get code i ≡ Some x) × (x.operand ≡ operand.Branch j)) ⊎ ((i : ℕ) × (i < m) × (slice_get taken i ≡ Some j))

pub record AreMarks (code : List SymInst) (n : ℕ) (taken : List ℕ) (m : ℕ) (marks : List Bool) : Type 0 where
  pub count : length marks ≡ length code
  pub yes : (j : ℕ) → slice_get marks j ≡ Some true → IsMarked code n taken m j
  pub no : (j : ℕ) → slice_get marks j ≡ Some false → IsMarked code n taken m j → ⊥

all_false : (n j : ℕ) (b : Bool) → slice_get (replicate n false) j ≡ Some b → b ≡ false
all_false zero j b e = absurd (cc)
all_false (suc n) zero b e = cc
all_false (suc n) (suc j) b e = all_false n j b e

count_false : (n : ℕ) → length (replicate n false) ≡ n
count_false zero = refl
count_false (suc n) = let e = count_false n in omega (arith, e)

pub marks_start : (code : List SymInst) (taken : List ℕ) (n : ℕ) → n ≡ length code → AreMarks code 0 taken 0 (replicate n false)
marks_start code taken n e = record {
  count = count_false n ∙ e;
  yes = λ j at. (let b = all_false n j true at in absurd (cc));
  no = λ j at m. none j m;
}
  where
    none : (j : ℕ) → IsMarked code 0 taken 0 j → ⊥
    none j (inl (i, x, lt, at, to)) = omega (arith, lt)
    none j (inr (i, lt, at)) = omega (arith, lt)

module _ (code : List SymInst) (n : ℕ) (taken : List ℕ) (m : ℕ) (marks : List Bool) (are : AreMarks code n taken m marks) where
  -- one more mark
  module _ (code' : ℕ) (taken' : ℕ) (t : ℕ) (lt : t < length marks) (mine : IsMarked code code' taken taken' t) (more : (j : ℕ) → IsMarked code n taken m j → IsMarked code code' taken taken' j)
      (only : (j : ℕ) → IsMarked code code' taken taken' j → IsMarked code n taken m j ⊎ (j ≡ t)) where
    pub one_more : AreMarks code code' taken taken' (slice_set marks t true)
    one_more = record {
      count = length-set marks t true ∙ are.count;
      yes = λ j at. by_place j (nat_equal j t) at;
      no = λ j at h. by_mark j at (only j h);
    }
      where
        by_place : (j : ℕ) → (j ≡ t) ⊎ (j ≡ t → ⊥) → slice_get (slice_set marks t true) j ≡ Some true → IsMarked code code' taken taken' j
        by_place j (inl e) at = subst (IsMarked code code' taken taken') (sym e) mine
        by_place j (inr ne) at = more j (are.yes j (sym (get_set_other marks t j true ne) ∙ at))

        by_mark : (j : ℕ) → slice_get (slice_set marks t true) j ≡ Some false → IsMarked code n taken m j ⊎ (j ≡ t) → ⊥
        by_mark j at (inl old) = by_same j at old (nat_equal j t)
          where
            by_same : (j : ℕ) → slice_get (slice_set marks t true) j ≡ Some false → IsMarked code n taken m j → (j ≡ t) ⊎ (j ≡ t → ⊥) → ⊥
            by_same j at old (inl e) = let new = ap (slice_get (slice_set marks t true)) e ∙ get_set_same marks t true lt in cc
            by_same j at old (inr ne) = are.no j (sym (get_set_other marks t j true ne) ∙ at) old
        by_mark j at (inr e) = let new = ap (slice_get (slice_set marks t true)) e ∙ get_set_same marks t true lt in cc

  pub more_code : (j : ℕ) → IsMarked code n taken m j → IsMarked code (n + 1) taken m j
  more_code j (inl (i, x, lt, at, to)) = inl (i, x, omega (arith, lt), at, to)
  more_code j (inr t) = inr t

  until_next : (n i : ℕ) → i < n + 1 → (i < n) ⊎ (i ≡ n)
  until_next n i lt = elim (cases_lt i n) as (λ s. (i < n) ⊎ (i ≡ n)) [ inl a ↦ inl a | inr b ↦ inr (omega (arith, lt, b)) ]

  same_code : (x : SymInst) → slice_get code n ≡ Some x → (i : ℕ) (y : SymInst) → i ≡ n → slice_get code i ≡ Some y → y ≡ x
  same_code x at i y e here = let there = sym (ap (slice_get code) e) ∙ here in cc

  -- without a branch here nothing more is marked
  plain : (x : SymInst) → slice_get code n ≡ Some x → (o : Operand) → x.operand ≡ o → ((j : ℕ) → o ≡ operand.Branch j → ⊥) → AreMarks code (n + 1) taken m marks
  plain x at o is none = record { count = are.count; yes = λ j mark. more_code j (are.yes j mark); no = λ j mark h. are.no j mark (back j h) }
    where
      back : (j : ℕ) → IsMarked code (n + 1) taken m j → IsMarked code n taken m j
      back j (inl (i, y, lt, here, to)) = by_last (until_next n i lt)
        where
          by_last : (i < n) ⊎ (i ≡ n) → IsMarked code n taken m j
          by_last (inl below) = inl (i, y, below, here, to)
          by_last (inr e) = absurd (none j (sym is ∙ sym (ap (λ (z : SymInst). z.operand) (same_code x at i y e here)) ∙ to))
      back j (inr t) = inr t

  pub mark_branch : (x : SymInst) → slice_get code n ≡ Some x → ((j : ℕ) → x.operand ≡ operand.Branch j → j < length marks) → AreMarks code (n + 1) taken m (with_target marks x.operand)
  mark_branch x at within = by_operand x.operand refl
    where
      by_operand : (o : Operand) → x.operand ≡ o → AreMarks code (n + 1) taken m (with_target marks o)
      by_operand (operand.Branch t) is = one_more (n + 1) m t (within t is) (inl (n, x, omega arith, at, is)) more_code only
        where
          only : (j : ℕ) → IsMarked code (n + 1) taken m j → IsMarked code n taken m j ⊎ (j ≡ t)
          only j (inl (i, y, lt, here, to)) = by_last (until_next n i lt)
            where
              by_last : (i < n) ⊎ (i ≡ n) → IsMarked code n taken m j ⊎ (j ≡ t)
              by_last (inl below) = inl (inl (i, y, below, here, to))
              by_last (inr e) = let both : operand.Branch j ≡ operand.Branch t = sym to ∙ ap (λ (z : SymInst). z.operand) (same_code x at i y e here) ∙ is in inr (cc)
          only j (inr h) = inl (inr h)
      by_operand operand.Plain is = plain x at operand.Plain is (λ j e. absurd (cc))
      by_operand (operand.Number k) is = plain x at (operand.Number k) is (λ j e. absurd (cc))
      by_operand (operand.Address l) is = plain x at (operand.Address l) is (λ j e. absurd (cc))
      by_operand (operand.Call g) is = plain x at (operand.Call g) is (λ j e. absurd (cc))
      by_operand (operand.Jump g) is = plain x at (operand.Jump g) is (λ j e. absurd (cc))

  pub mark_taken : (t : ℕ) → slice_get taken m ≡ Some t → t < length marks → AreMarks code n taken (m + 1) (slice_set marks t true)
  mark_taken t at lt = one_more n (m + 1) t lt (inr (m, omega arith, at)) more only
    where
      more : (j : ℕ) → IsMarked code n taken m j → IsMarked code n taken (m + 1) j
      more j (inl h) = inl h
      more j (inr (i, lt, here)) = inr (i, omega (arith, lt), here)

      only : (j : ℕ) → IsMarked code n taken (m + 1) j → IsMarked code n taken m j ⊎ (j ≡ t)
      only j (inl h) = inl (inl h)
      only j (inr (i, lt, here)) = by_last (until_next m i lt)
        where
          by_last : (i < m) ⊎ (i ≡ m) → IsMarked code n taken m j ⊎ (j ≡ t)
          by_last (inl below) = inl (inr (i, below, here))
          by_last (inr e) = let there = sym (ap (slice_get taken) e) ∙ here in inr (cc)

-- with all of them marked
pub marks_all : (p : Prog) (f n m : ℕ) (marks : List Bool) → length (code_of p f) ≤ n → length (taken_places p f) ≤ m → AreMarks (code_of p f) n (taken_places p f) m marks → AreTargets p f marks
marks_all p f n m marks all whole are = record {
  count = are.count;
  yes = λ j at. target j (are.yes j at);
  no = λ j at t. are.no j at (marked j t);
}
  where
    target : (j : ℕ) → IsMarked (code_of p f) n (taken_places p f) m j → IsTarget p f j
    target j (inl (i, x, lt, at, to)) = inl (record { from = i; x = x; here = code_is p f i ∙ at; to = to })
    target j (inr (i, lt, at)) = inr (contains_at (taken_places p f) i j at)

    marked : (j : ℕ) → IsTarget p f j → IsMarked (code_of p f) n (taken_places p f) m j
    marked j (inl b) =
        let here = sym (code_is p f b.from) ∙ b.here in
        let lt = get_within (code_of p f) b.from b.x here in
        inl (b.from, b.x, omega (arith, lt, all), here, b.to)
    marked j (inr t) = let place = contains_place (taken_places p f) j t in let lt = get_within (taken_places p f) place.0 j place.1 in inr (place.0, omega (arith, lt, whole), place.1)
