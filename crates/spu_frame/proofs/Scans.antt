-- One forward pass finds the known writes of a function.
use Rattle.std.proofs.Common.{◌≡◌, ℕ, zero, suc, ◌+◌, ◌<◌, ◌≤◌, ◌⊎◌, inl, inr, Bool, true, false, List, [], ◌∷◌, ◌++◌, length, Option, Some, None, IfSome, replicate, refl, sym, ap, ◌∙◌, subst, arith, ℤ}
use Rattle.std.specs.Prelude.{slice_get, slice_set}
use Rattle.std.proofs.lemmas.Bool.{cases_lt}
use Rattle.spu_word.proofs.Places.{nat_equal, get_some, get_within, get_set_same, get_set_other, get_more_before, get_more_last, length_more}
use Rattle.spu_word.specs.declared.limits.TheConstants.{REGISTER_COUNT}
use Rattle.std.proofs.lemmas.List.{length-set}
use Rattle.spu_isa.specs.Table.{row_of}
use Rattle.spu_lift.specs.declared.program.SymInst.{SymInst}
use Rattle.spu_lift.specs.declared.program.Prog.{Prog}
use Rattle.spu_lift.specs.Places.{instruction_at, kind_of, Writes, IsTarget}
use Rattle.spu_lift.specs.WellFormed.{IsWellFormed}
use Rattle.spu_frame.specs.Walks.{leads_away, Holds, AddsImmediate, AddsRegister, IsKnownWrite}
use Rattle.spu_frame.specs.Functions.{code_of}
use Rattle.spu_frame.specs.Surveys.{AreTargets, IsLoaded, IsRegisterAddition, IsLoadAdded, IsScan}
use Rattle.spu_frame.proofs.Walks.{same_instruction}
use Rattle.spu_frame.proofs.Additions.{place_cases}
use Rattle.spu_frame.proofs.Formed.{code_is, target_within}

-- ---- an `il` that holds is the last write of its register

module _ (p : Prog) (f i : ℕ) (writers : List (Option ℕ)) (straight : ℕ) (scan : IsScan p f writers straight i) where
  pub loaded_holds : (r : ℕ) (w : Option ℕ) (k : ℤ) → slice_get writers r ≡ Some w → IsLoaded (code_of p f) w straight k → (h : ℕ) × Holds p f h r k i
  loaded_holds r w k at l = (
    l.at,
    record {
      before = lt.0;
      x = l.x;
      here = here;
      il = l.il;
      plain = l.load.plain;
      register = (let same = same_instruction _ _ _ lt.1.1 here in ap (λ (y : SymInst). y.inst.rt) (sym same) ∙ lt.1.2.1);
      number = l.load.number;
      aligned = l.load.aligned;
      kept = λ j y a b e. scan.kept r l.at j y there a b e;
      straight = λ j y a b e. scan.straight_on j y (let late = l.late in omega (arith, late, a)) b e;
      alone = λ j a b. scan.alone j (let late = l.late in omega (arith, late, a)) b;
    },
  )
    where
      there : slice_get writers r ≡ Some (Some l.at)
      there = at ∙ ap Some l.last

      lt : (l.at < i) × ((x : SymInst) × (instruction_at p f l.at ≡ Some x) × Writes x r)
      lt = scan.wrote r l.at there

      here : instruction_at p f l.at ≡ Some l.x
      here = code_is p f l.at ∙ l.here

  holds_late : (h r : ℕ) (k : ℤ) → Holds p f h r k i → straight ≤ h
  holds_late h r k held = elim (cases_lt h straight) as (λ s. straight ≤ h) [ inl lt ↦ absurd (scan.over h r k lt held) | inr le ↦ le ]

  il_writes : (h r : ℕ) (k : ℤ) (held : Holds p f h r k i) → Writes held.x r
  il_writes h r k held = (ap (λ o. (row_of o).writes) held.il, held.register)

  holds_writer : (h r : ℕ) (k : ℤ) → Holds p f h r k i → (w : Option ℕ) → slice_get writers r ≡ Some w → w ≡ Some h
  holds_writer h r k held None at = absurd (scan.never r h held.x at held.before held.here (il_writes h r k held))
  holds_writer h r k held (Some g) at = by_place (place_cases g h) (scan.wrote r g at)
    where
      by_place : (g < h) ⊎ ((h < g) ⊎ (g ≡ h)) → (g < i) × ((x : SymInst) × (instruction_at p f g ≡ Some x) × Writes x r) → Some g ≡ Some h
      by_place (inl lt) wrote = absurd (scan.kept r g h held.x at lt held.before held.here (il_writes h r k held))
      by_place (inr (inl gt)) wrote = absurd (held.kept g wrote.1.0 gt wrote.0 wrote.1.1 wrote.1.2)
      by_place (inr (inr e)) wrote = ap Some e

  pub holds_loaded : (h r : ℕ) (k : ℤ) (w : Option ℕ) → Holds p f h r k i → slice_get writers r ≡ Some w → IsLoaded (code_of p f) w straight k
  holds_loaded h r k w held at = record {
    at = h;
    last = holds_writer h r k held w at;
    late = holds_late h r k held;
    x = held.x;
    here = sym (code_is p f h) ∙ held.here;
    il = held.il;
    load = record { plain = held.plain; number = held.number; aligned = held.aligned };
  }

-- what is found is what the definition asks for
module _ (p : Prog) (f i : ℕ) (writers : List (Option ℕ)) (straight : ℕ) (scan : IsScan p f writers straight i) (x : SymInst) (here : instruction_at p f i ≡ Some x) where
  pub immediate_known : (k : ℤ) → AddsImmediate x k → IsKnownWrite p f i k
  immediate_known k a = record { x = x; here = here; form = inl a }

  pub register_known : (k : ℤ) → IsLoadAdded (code_of p f) writers straight x k → IsKnownWrite p f i k
  register_known k a = let held = loaded_holds p f i writers straight scan x.inst.rb a.writer k a.wrote a.load in
      record { x = x; here = here; form = inr (record { a = a.is.a; plain = a.is.plain; to = a.is.to; from = a.is.from; not_link = a.is.not_link; not_pointer = a.is.not_pointer; at = held.0; held = held.1 }) }

  pub known_found : (IsRegisterAddition x → x.inst.rb < length writers) → (k : ℤ) → IsKnownWrite p f i k → AddsImmediate x k ⊎ IsLoadAdded (code_of p f) writers straight x k
  known_found small k w = by_form (subst (λ (y : SymInst). AddsImmediate y k ⊎ AddsRegister p f i y k) (same_instruction _ _ _ w.here here) w.form)
    where
      by_form : AddsImmediate x k ⊎ AddsRegister p f i x k → AddsImmediate x k ⊎ IsLoadAdded (code_of p f) writers straight x k
      by_form (inl a) = inl a
      by_form (inr a) =
          let is : IsRegisterAddition x = record { a = a.a; to = a.to; from = a.from; plain = a.plain; not_link = a.not_link; not_pointer = a.not_pointer } in
          let writer = get_some writers x.inst.rb (small is) in
          inr (record { is = is; writer = writer.0; wrote = writer.1; load = holds_loaded p f i writers straight scan a.at x.inst.rb k writer.0 a.held writer.1 })

-- ---- the pass

none_of : (n r : ℕ) (o : Option ℕ) → slice_get (replicate n None) r ≡ Some o → o ≡ None
none_of zero r o e = absurd (cc)
none_of (suc n) zero o e = cc
none_of (suc n) (suc r) o e = none_of n r o e

count_none : (n : ℕ) → length (replicate n (let o : Option ℕ = None in o)) ≡ n
count_none zero = refl
count_none (suc n) = let e = count_none n in omega (arith, e)

pub scan_starts : (p : Prog) (f : ℕ) → IsScan p f (replicate REGISTER_COUNT None) 0 0
scan_starts p f = record {
  count = count_none REGISTER_COUNT;
  before = omega arith;
  wrote = λ r h e. (let n = none_of REGISTER_COUNT r (Some h) e in absurd (cc));
  kept = λ r h j y e a b. absurd (omega (arith, b));
  never = λ r j y e b. absurd (omega (arith, b));
  straight_on = λ j y a b. absurd (omega (arith, b));
  alone = λ j a b. absurd (omega (arith, a, b));
  over = λ h r k lt. absurd (omega (arith, lt));
}

-- an `il` that holds up to the next place holds up to this one
shorter : (p : Prog) (f h r i : ℕ) (k : ℤ) → Holds p f h r k (suc i) → h < i → Holds p f h r k i
shorter p f h r i k held lt = record {
  before = lt;
  x = held.x;
  here = held.here;
  il = held.il;
  plain = held.plain;
  register = held.register;
  number = held.number;
  aligned = held.aligned;
  kept = λ j y a b at w. held.kept j y a (omega (arith, b)) at w;
  straight = λ j y a b at. held.straight j y a (omega (arith, b)) at;
  alone = λ j a b t. held.alone j a (omega (arith, b)) t;
}

module _ (p : Prog) (formed : IsWellFormed p) (f i : ℕ) (marks : List Bool) (targets : AreTargets p f marks) (x : SymInst) (here : instruction_at p f i ≡ Some x) (writers : List (Option ℕ)) (straight : ℕ) (scan : IsScan p f writers straight i) where
  same : (y : SymInst) (j : ℕ) → j ≡ i → instruction_at p f j ≡ Some y → y ≡ x
  same y j e at = same_instruction _ _ _ (subst (λ v. instruction_at p f v ≡ Some y) e at) here

  last : (j : ℕ) → j < suc i → (j < i) ⊎ (j ≡ i)
  last j lt = elim (cases_lt j i) as (λ s. (j < i) ⊎ (j ≡ i)) [ inl a ↦ inl a | inr b ↦ inr (omega (arith, lt, b)) ]

  -- the registers
  abbrev Noted : List (Option ℕ) → Type 0
  Noted now = (Writes x x.inst.rt × (now ≡ slice_set writers x.inst.rt (Some i))) ⊎ ((Writes x x.inst.rt → ⊥) × (now ≡ writers))

  abbrev IsLast : List (Option ℕ) → Type 0
  IsLast now =
      ((r h : ℕ) → slice_get now r ≡ Some (Some h) → (h < suc i) × ((y : SymInst) × (instruction_at p f h ≡ Some y) × Writes y r))
      × ((r h j : ℕ) (y : SymInst) → slice_get now r ≡ Some (Some h) → h < j → j < suc i → instruction_at p f j ≡ Some y → Writes y r → ⊥)
      × ((r j : ℕ) (y : SymInst) → slice_get now r ≡ Some None → j < suc i → instruction_at p f j ≡ Some y → Writes y r → ⊥)

  -- a register that this place doesn't write
  unwritten : (r : ℕ) → (Writes x r → ⊥) → (slice_get writers r ≡ slice_get writers r) × ((h : ℕ) → slice_get writers r ≡ Some (Some h) → (h < suc i) × ((y : SymInst) × (instruction_at p f h ≡ Some y) × Writes y r))
      × ((h j : ℕ) (y : SymInst) → slice_get writers r ≡ Some (Some h) → h < j → j < suc i → instruction_at p f j ≡ Some y → Writes y r → ⊥)
      × ((j : ℕ) (y : SymInst) → slice_get writers r ≡ Some None → j < suc i → instruction_at p f j ≡ Some y → Writes y r → ⊥)
  unwritten r clear = (
    refl,
    (λ h at. (let old = scan.wrote r h at in (omega (arith, old.0), old.1))),
    (λ h j y at lt le e w. by_place y j e w (last j le) (λ below. scan.kept r h j y at lt below e w)),
    (λ j y at le e w. by_place y j e w (last j le) (λ below. scan.never r j y at below e w)),
  )
    where
      by_place : (y : SymInst) (j : ℕ) → instruction_at p f j ≡ Some y → Writes y r → (j < i) ⊎ (j ≡ i) → (j < i → ⊥) → ⊥
      by_place y j e w (inl below) before = before below
      by_place y j e w (inr is) before = clear (subst (λ (z : SymInst). Writes z r) (same y j is e) w)

  -- the register that this place writes
  written : (r : ℕ) → Writes x r → ((h : ℕ) → h ≡ i → (h < suc i) × ((y : SymInst) × (instruction_at p f h ≡ Some y) × Writes y r)) × ((h j : ℕ) → h ≡ i → h < j → j < suc i → ⊥)
  written r w = ((λ h e. (omega (arith, e), (x, subst (λ v. instruction_at p f v ≡ Some x) (sym e) here, w))), (λ h j e a b. omega (arith, e, a, b)))

  noted : (now : List (Option ℕ)) → x.inst.rt < length writers → Noted now → IsLast now
  noted now lt (inr (clear, e)) = subst IsLast (sym e) (
    (λ r h at. (unwritten r (off r)).1 h at),
    (λ r h j y at. (unwritten r (off r)).2 h j y at),
    (λ r j y at. (unwritten r (off r)).3 j y at),
  )
    where
      off : (r : ℕ) → Writes x r → ⊥
      off r w = clear (w.0, refl)
  noted now lt (inl (w, e)) = subst IsLast (sym e) (
    (λ r h at. by_register r (nat_equal r x.inst.rt) (λ is. (written r (mine r is)).0 h (place_is r h is at)) (λ ne. (unwritten r (other r ne)).1 h (kept_at r ne (Some h) at))),
    (λ r h j y at a b c d. by_register r (nat_equal r x.inst.rt) (λ is. (written r (mine r is)).1 h j (place_is r h is at) a b) (λ ne. (unwritten r (other r ne)).2 h j y (kept_at r ne (Some h) at) a b c d)),
    (λ r j y at b c d. by_register r (nat_equal r x.inst.rt) (λ is. none_is r is at) (λ ne. (unwritten r (other r ne)).3 j y (kept_at r ne None at) b c d)),
  )
    where
      by_register : {A : Type 0} (r : ℕ) → (r ≡ x.inst.rt) ⊎ (r ≡ x.inst.rt → ⊥) → (r ≡ x.inst.rt → A) → ((r ≡ x.inst.rt → ⊥) → A) → A
      by_register r (inl is) here other = here is
      by_register r (inr ne) here other = other ne

      mine : (r : ℕ) → r ≡ x.inst.rt → Writes x r
      mine r is = (w.0, sym is)

      other : (r : ℕ) → (r ≡ x.inst.rt → ⊥) → Writes x r → ⊥
      other r ne v = ne (sym v.1)

      kept_at : (r : ℕ) → (r ≡ x.inst.rt → ⊥) → (o : Option ℕ) → slice_get (slice_set writers x.inst.rt (Some i)) r ≡ Some o → slice_get writers r ≡ Some o
      kept_at r ne o at = sym (get_set_other writers x.inst.rt r (Some i) ne) ∙ at

      at_mine : (r : ℕ) → r ≡ x.inst.rt → slice_get (slice_set writers x.inst.rt (Some i)) r ≡ Some (Some i)
      at_mine r is = ap (slice_get (slice_set writers x.inst.rt (Some i))) is ∙ get_set_same writers x.inst.rt (Some i) lt

      place_is : (r h : ℕ) → r ≡ x.inst.rt → slice_get (slice_set writers x.inst.rt (Some i)) r ≡ Some (Some h) → h ≡ i
      place_is r h is at = let both = at_mine r is in cc

      none_is : (r : ℕ) → r ≡ x.inst.rt → slice_get (slice_set writers x.inst.rt (Some i)) r ≡ Some None → ⊥
      none_is r is at = let both = at_mine r is in cc

  -- the first place whose `il` can hold
  abbrev Moved : ℕ → Type 0
  Moved now = ((now ≡ i + 1) × ((leads_away (kind_of x) ≡ true) ⊎ (slice_get marks (i + 1) ≡ Some true)))
      ⊎ ((now ≡ straight) × (leads_away (kind_of x) ≡ false) × (slice_get marks (i + 1) ≡ Some true → ⊥))

  abbrev IsStraight : ℕ → Type 0
  IsStraight now = (now ≤ suc i) × ((j : ℕ) (y : SymInst) → now < j → j < suc i → instruction_at p f j ≡ Some y → leads_away (kind_of y) ≡ false)
      × ((j : ℕ) → now < j → j ≤ suc i → IsTarget p f j → ⊥) × ((h r : ℕ) (k : ℤ) → h < now → Holds p f h r k (suc i) → ⊥)

  il_stays : (h r : ℕ) (k : ℤ) → Holds p f h r k (suc i) → h ≡ i → leads_away (kind_of x) ≡ true → ⊥
  il_stays h r k held e away =
      let is : held.x ≡ x = same held.x h e held.here in
      let il : leads_away (kind_of x) ≡ false = ap (λ (y : SymInst). leads_away (kind_of y)) (sym is) ∙ ap (λ o. leads_away (row_of o).kind) held.il in
      cc

  marked : (j : ℕ) → slice_get marks j ≡ Some true → IsTarget p f j
  marked j at = targets.yes j at

  unmarked : (j : ℕ) → (slice_get marks j ≡ Some true → ⊥) → IsTarget p f j → ⊥
  unmarked j clear t =
      let lt = target_within p formed f j t in
      let count = targets.count in
      by_mark (get_mark j (omega (arith, lt, count)))
    where
      get_mark : (j : ℕ) → j < length marks → (b : Bool) × (slice_get marks j ≡ Some b)
      get_mark j lt = some_mark marks j lt
        where
          some_mark : (ms : List Bool) (j : ℕ) → j < length ms → (b : Bool) × (slice_get ms j ≡ Some b)
          some_mark ms j lt = get_some ms j lt

      by_mark : (b : Bool) × (slice_get marks j ≡ Some b) → ⊥
      by_mark (true, at) = clear at
      by_mark (false, at) = targets.no j at t

  moved : (now : ℕ) → Moved now → IsStraight now
  moved now (inl (e, why)) = (
    omega (arith, e),
    (λ j y a b. absurd (omega (arith, e, a, b))),
    (λ j a b. absurd (omega (arith, e, a, b))),
    (λ h r k lt held. by_why h r k held (last h (let b = held.before in b)) why),
  )
    where
      by_why : (h r : ℕ) (k : ℤ) (held : Holds p f h r k (suc i)) → (h < i) ⊎ (h ≡ i) → (leads_away (kind_of x) ≡ true) ⊎ (slice_get marks (i + 1) ≡ Some true) → ⊥
      by_why h r k held (inl lt) (inl away) = let no = held.straight i x lt (omega arith) here in cc
      by_why h r k held (inr is) (inl away) = il_stays h r k held is away
      by_why h r k held at (inr mark) = held.alone (i + 1) (let b = held.before in omega (arith, b)) (omega arith) (marked (i + 1) mark)
  moved now (inr (e, on, free)) = subst IsStraight (sym e) (
    (let b = scan.before in omega (arith, b)),
    (λ j y a b at. by_place j y a at (last j b)),
    (λ j a b t. by_end j a t (until j b)),
    (λ h r k lt held. scan.over h r k lt (shorter p f h r i k held (let b = scan.before in omega (arith, b, lt)))),
  )
    where
      by_place : (j : ℕ) (y : SymInst) → straight < j → instruction_at p f j ≡ Some y → (j < i) ⊎ (j ≡ i) → leads_away (kind_of y) ≡ false
      by_place j y a at (inl lt) = scan.straight_on j y a lt at
      by_place j y a at (inr is) = ap (λ (z : SymInst). leads_away (kind_of z)) (same y j is at) ∙ on

      until : (j : ℕ) → j ≤ suc i → (j ≤ i) ⊎ (j ≡ i + 1)
      until j le = elim (cases_lt i j) as (λ s. (j ≤ i) ⊎ (j ≡ i + 1)) [ inl a ↦ inr (omega (arith, le, a)) | inr b ↦ inl b ]

      by_end : (j : ℕ) → straight < j → IsTarget p f j → (j ≤ i) ⊎ (j ≡ i + 1) → ⊥
      by_end j a t (inl le) = scan.alone j a le t
      by_end j a t (inr is) = unmarked (i + 1) free (subst (IsTarget p f) is t)

  pub scan_next : (now : List (Option ℕ)) (next : ℕ) → x.inst.rt < length writers → Noted now → Moved next → IsScan p f now next (i + 1)
  scan_next now next lt note move =
      let l = noted now lt note in
      let m = moved next move in
      let e : suc i ≡ i + 1 = omega arith in
      subst (IsScan p f now next) e (record {
        count = counted now note;
        before = m.0;
        wrote = λ r h at. l.0 r h at;
        kept = λ r h j y at a b c d. l.1 r h j y at a b c d;
        never = λ r j y at b c d. l.2 r j y at b c d;
        straight_on = λ j y a b at. m.1 j y a b at;
        alone = λ j a b t. m.2 j a b t;
        over = λ h r k a held. m.3 h r k a held;
      })
    where
      counted : (now : List (Option ℕ)) → Noted now → length now ≡ REGISTER_COUNT
      counted now (inl (w, e)) = ap length e ∙ length-set writers x.inst.rt (Some i) ∙ scan.count
      counted now (inr (w, e)) = ap length e ∙ scan.count

-- ---- what is known of the first n places

pub record AreKnownTo (p : Prog) (f n : ℕ) (known : List (Option ℤ)) : Type 0 where
  pub count : length known ≡ n
  pub some : (j : ℕ) (k : ℤ) → slice_get known j ≡ Some (Some k) → IsKnownWrite p f j k
  pub none : (j : ℕ) (k : ℤ) → slice_get known j ≡ Some None → IsKnownWrite p f j k → ⊥

pub known_starts : (p : Prog) (f : ℕ) (known : List (Option ℤ)) → known ≡ [] → AreKnownTo p f 0 known
known_starts p f known e = subst (AreKnownTo p f 0) (sym e) (record { count = refl; some = λ j k at. absurd (cc); none = λ j k at. absurd (cc) })

pub known_more : (p : Prog) (f n : ℕ) (known new : List (Option ℤ)) (v : Option ℤ) → AreKnownTo p f n known → new ≡ known ++ v ∷ [] → IfSome v (IsKnownWrite p f n) → (v ≡ None → (k : ℤ) → IsKnownWrite p f n k → ⊥) → AreKnownTo p f (n + 1) new
known_more p f n known new v are e is not_known = subst (AreKnownTo p f (n + 1)) (sym e) (record {
  count = (let more = length_more known v in let count = are.count in omega (arith, more, count));
  some = λ j k at. by_place j k (cases_lt j n) at;
  none = λ j k at w. by_none j k (cases_lt j n) at w;
})
  where
    before : (j : ℕ) (o : Option ℤ) → j < n → slice_get (known ++ v ∷ []) j ≡ Some o → slice_get known j ≡ Some o
    before j o lt at = sym (get_more_before known v j (let count = are.count in omega (arith, count, lt))) ∙ at

    last : (j : ℕ) (o : Option ℤ) → n ≤ j → slice_get (known ++ v ∷ []) j ≡ Some o → (j ≡ n) × (v ≡ o)
    last j o le at =
        let within = get_within (known ++ v ∷ []) j o at in
        let more = length_more known v in
        let count = are.count in
        let same : j ≡ length known = omega (arith, within, more, count, le) in
        let there = sym (get_more_last known v j same) ∙ at in
        (same ∙ count, (cc))

    of_some : (k : ℤ) (o : Option ℤ) → o ≡ Some k → IfSome o (IsKnownWrite p f n) → IsKnownWrite p f n k
    of_some k None e h = absurd (cc)
    of_some k (Some m) e h = let same : m ≡ k = cc in subst (IsKnownWrite p f n) same h

    by_place : (j : ℕ) (k : ℤ) → (j < n) ⊎ (n ≤ j) → slice_get (known ++ v ∷ []) j ≡ Some (Some k) → IsKnownWrite p f j k
    by_place j k (inl lt) at = are.some j k (before j (Some k) lt at)
    by_place j k (inr le) at = let there = last j (Some k) le at in subst (λ i. IsKnownWrite p f i k) (sym there.0) (of_some k v there.1 is)

    by_none : (j : ℕ) (k : ℤ) → (j < n) ⊎ (n ≤ j) → slice_get (known ++ v ∷ []) j ≡ Some None → IsKnownWrite p f j k → ⊥
    by_none j k (inl lt) at w = are.none j k (before j None lt at) w
    by_none j k (inr le) at w = let there = last j None le at in not_known there.1 k (subst (λ i. IsKnownWrite p f i k) there.0 w)
