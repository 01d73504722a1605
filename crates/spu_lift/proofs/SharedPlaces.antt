-- The first place that functions of two extents share: where the first two neighbours meet.
use Rattle.std.proofs.Common.{◌≡◌, ℕ, zero, suc, ◌+◌, ◌-◌, ◌<◌, ◌≤◌, ◌⊎◌, true, false, List, [], ◌∷◌, length, get_or, Some, slice_get, refl, sym, ap, subst, ◌∙◌, inl, inr, arith}
use Rattle.std.proofs.lemmas.Bool.{cases_Bool, cases_lt}
use Rattle.std.proofs.lemmas.Bool.Decides.{nat_tests}
use Rattle.std.proofs.lemmas.Option.{same_Some, slice_get-get_or, slice_get_within}
use Rattle.spu_elf.specs.declared.objects.Object.{Object}
use Rattle.spu_lift.specs.declared.relocations.Spot.{Spot}
use Rattle.spu_lift.specs.declared.functions.FunctionSymbol.{FunctionSymbol}
use Rattle.spu_lift.specs.Extents.{Extent, Holds, IsEarlier}
use Rattle.spu_lift.specs.LiftFaults.{IsShared}
use Rattle.spu_lift.specs.FunctionTables.{AreSorted, AreSymbolsOf, IsFirstShared, extent_in, extent_key, function_symbol, is_in, is_same, meets, start_of}
use Rattle.spu_lift.proofs.SymbolOrder.{not_before, same_tested, tested_same}

-- ---- neighbours

meets_by : (f g : FunctionSymbol) → is_in g f.object f.section ≡ true → g.offset < f.offset + f.size → is_same f g ≡ false → meets f g ≡ true
meets_by f g inside less other = rw (inside, other) (grind (arith, nat_tests))

record AreMeeting (f g : FunctionSymbol) : Type 0 where
  pub object : g.object ≡ f.object
  pub section : g.section ≡ f.section
  pub less : g.offset < f.offset + f.size
  pub other : is_same f g ≡ false

meets_parts : (f g : FunctionSymbol) → meets f g ≡ true → AreMeeting f g
meets_parts f g is = record {
  object = grind (arith, nat_tests);
  section = grind (arith, nat_tests);
  less = grind (arith, nat_tests);
  other = elim (cases_Bool (is_same f g)) [ inl same ↦ absurd (grind (arith, nat_tests)) | inr other ↦ other ];
}

-- one between two of a section lies in the section, and begins where the last does or before it
between : (f h g : FunctionSymbol) → (IsEarlier (extent_key h) (extent_key f) → ⊥) → (IsEarlier (extent_key g) (extent_key h) → ⊥) → g.object ≡ f.object → g.section ≡ f.section
    → (h.object ≡ f.object) × (h.section ≡ f.section) × (h.offset ≤ g.offset)
between f h g one two object section = by (cases_lt h.object f.object) (cases_lt f.object h.object) (cases_lt h.section f.section) (cases_lt f.section h.section) (cases_lt g.offset h.offset)
  where
    by : (h.object < f.object) ⊎ (f.object ≤ h.object) → (f.object < h.object) ⊎ (h.object ≤ f.object) → (h.section < f.section) ⊎ (f.section ≤ h.section) → (f.section < h.section) ⊎ (h.section ≤ f.section)
        → (g.offset < h.offset) ⊎ (h.offset ≤ g.offset) → (h.object ≡ f.object) × (h.section ≡ f.section) × (h.offset ≤ g.offset)
    by (inl less) b c d e = absurd (one (inl less))
    by (inr from) (inl more) c d e = absurd (two (inl (omega arith)))
    by (inr from) (inr to) (inl less) d e = absurd (one (inr (omega arith, inl less)))
    by (inr from) (inr to) (inr low) (inl more) e = absurd (two (inr (omega arith, inl (omega arith))))
    by (inr from) (inr to) (inr low) (inr high) (inl behind) = absurd (two (inr (omega arith, inr (omega arith, inl behind))))
    by (inr from) (inr to) (inr low) (inr high) (inr at) = (omega arith, omega arith, at)

record HasMeeting (fs : List FunctionSymbol) (low high : ℕ) : Type 0 where
  pub j : ℕ
  pub from : low < j
  pub to : j ≤ high
  pub e : FunctionSymbol
  pub h : FunctionSymbol
  pub one : slice_get fs (j - 1) ≡ Some e
  pub two : slice_get fs j ≡ Some h
  pub meet : meets e h ≡ true

next_symbol : (fs : List FunctionSymbol) (a m : ℕ) (g d : FunctionSymbol) → slice_get fs (a + suc m) ≡ Some g → (h : FunctionSymbol) × (slice_get fs (a + 1) ≡ Some h)
next_symbol fs a m g d two =
    let within : a + suc m < length fs = slice_get_within fs (a + suc m) g two in
    (get_or fs (a + 1) d, slice_get-get_or fs (a + 1) d (omega arith))

nearer : (f h g : FunctionSymbol) → extent_in f ≡ extent_in h → g.offset < f.offset + f.size → g.offset < h.offset + h.size
nearer f h g extents less =
    let size : f.size ≡ h.size = ap (λ (x : Extent). x.size) extents in
    let offset : f.offset ≡ h.offset = ap (λ (x : Extent). x.offset) extents in
    omega arith

-- a symbol and the next one meet, or the next has its extent
step : (fs : List FunctionSymbol) (a m : ℕ) (f h g : FunctionSymbol) → slice_get fs a ≡ Some f → slice_get fs (a + 1) ≡ Some h → (h.object ≡ f.object) × (h.section ≡ f.section) × (h.offset ≤ g.offset) → g.offset < f.offset + f.size
    → (extent_in f ≡ extent_in h → HasMeeting fs (a + 1) ((a + 1) + m)) → HasMeeting fs a (a + suc m)
step fs a m f h g one two place less further = by (cases_Bool (is_same f h))
  where
    inside : is_in h f.object f.section ≡ true
    inside = let object = place.0 in let section = place.1 in grind (arith, nat_tests)

    by : (is_same f h ≡ true) ⊎ (is_same f h ≡ false) → HasMeeting fs a (a + suc m)
    by (inr other) =
        let at = place.2 in
        let index : (a + 1) - 1 ≡ a = omega arith in
        record { j = a + 1; from = omega arith; to = omega arith; e = f; h = h; one = ap (slice_get fs) index ∙ one; two = two; meet = meets_by f h inside (omega arith) other }
    by (inl same) =
        let rest = further (tested_same f h same) in
        let from = rest.from in
        let to = rest.to in
        record { j = rest.j; from = omega arith; to = omega arith; e = rest.e; h = rest.h; one = rest.one; two = rest.two; meet = rest.meet }

-- between two extents that share a byte neighbours meet
meeting : (fs : List FunctionSymbol) (a m : ℕ) (f g : FunctionSymbol) → AreSorted fs → slice_get fs a ≡ Some f → slice_get fs (a + m) ≡ Some g → (extent_in f ≡ extent_in g → ⊥)
    → g.object ≡ f.object → g.section ≡ f.section → g.offset < f.offset + f.size → HasMeeting fs a (a + m)
meeting fs a zero f g sorted one two apart object section less =
    let index : a + 0 ≡ a = omega arith in
    let same : f ≡ g = same_Some f g (sym one ∙ ap (slice_get fs) (sym index) ∙ two) in
    absurd (apart (ap extent_in same))
meeting fs a (suc m) f g sorted one two apart object section less =
    let next = next_symbol fs a m g f two in
    let place = between f next.0 g (not_before fs a (a + 1) f next.0 sorted (omega arith) one next.1) (not_before fs (a + 1) (a + suc m) next.0 g sorted (omega arith) next.1 two) object section in
    step fs a m f next.0 g one next.1 place less (λ extents.
    let index : (a + 1) + m ≡ a + suc m = omega arith in
    meeting fs (a + 1) m next.0 g sorted next.1 (ap (slice_get fs) index ∙ two) (λ e. apart (extents ∙ e)) (object ∙ sym place.0) (section ∙ sym place.1) (nearer f next.0 g extents less))

-- ---- shared places

-- a function that begins by a shared place, behind neighbours that meet
record IsBehindMeeting (fs : List FunctionSymbol) (n k offset : ℕ) : Type 0 where
  pub i : ℕ
  pub g : FunctionSymbol
  pub there : slice_get fs i ≡ Some g
  pub object : g.object ≡ n
  pub section : g.section ≡ k
  pub at : g.offset ≤ offset
  pub meet : HasMeeting fs 0 i

two_meet : (fs : List FunctionSymbol) (n k offset a b : ℕ) (f g : FunctionSymbol) → AreSorted fs → slice_get fs a ≡ Some f → slice_get fs b ≡ Some g → a < b → (extent_in f ≡ extent_in g → ⊥) → Holds (extent_in f) n k offset → Holds (extent_in g) n k offset
    → IsBehindMeeting fs n k offset
two_meet fs n k offset a b f g sorted one two less apart in_one in_two =
    let index : a + (b - a) ≡ b = omega arith in
    let from = in_two.from in
    let to = in_one.to in
    let meet = meeting fs a (b - a) f g sorted one (ap (slice_get fs) index ∙ two) apart (in_two.object ∙ sym in_one.object) (in_two.section ∙ sym in_one.section) (omega arith) in
    let behind = meet.from in
    let within = meet.to in
    record {
      i = b;
      g = g;
      there = two;
      object = in_two.object;
      section = in_two.section;
      at = from;
      meet = record { j = meet.j; from = omega arith; to = omega arith; e = meet.e; h = meet.h; one = meet.one; two = meet.two; meet = meet.meet };
    }

any_meet : (fs : List FunctionSymbol) (n k offset a b : ℕ) (f g : FunctionSymbol) → AreSorted fs → slice_get fs a ≡ Some f → slice_get fs b ≡ Some g → (extent_in f ≡ extent_in g → ⊥) → Holds (extent_in f) n k offset → Holds (extent_in g) n k offset
    → IsBehindMeeting fs n k offset
any_meet fs n k offset a b f g sorted one two apart in_one in_two = by (cases_lt a b) (cases_lt b a)
  where
    by : (a < b) ⊎ (b ≤ a) → (b < a) ⊎ (a ≤ b) → IsBehindMeeting fs n k offset
    by (inl less) other = two_meet fs n k offset a b f g sorted one two less apart in_one in_two
    by (inr from) (inl less) = two_meet fs n k offset b a g f sorted two one less (λ e. apart (sym e)) in_two in_one
    by (inr from) (inr to) =
        let index : a ≡ b = omega arith in
        let same : f ≡ g = same_Some f g (sym one ∙ ap (slice_get fs) index ∙ two) in
        absurd (apart (ap extent_in same))

shared_meet : (os : List Object) (fs : List FunctionSymbol) (n k offset w : ℕ) → AreSymbolsOf os fs → IsShared os n k offset w → IsBehindMeeting fs n k offset
shared_meet os fs n k offset w symbols shared =
    let one = symbols.all shared.x shared.one.0 shared.one.1 shared.one.2 shared.one.3 in
    let two = symbols.all shared.y shared.other.0 shared.other.1 shared.other.2 shared.other.3 in
    any_meet fs n k offset one.0 two.0 (function_symbol shared.x shared.one.0 shared.one.1) (function_symbol shared.y shared.other.0 shared.other.1) symbols.sorted one.1 two.1 shared.apart shared.in_one shared.in_other

-- no neighbours before an index meet
abbrev pub NoneMeet : List FunctionSymbol → ℕ → Type 0
NoneMeet fs i = (j : ℕ) (e h : FunctionSymbol) → 1 ≤ j → j < i → slice_get fs (j - 1) ≡ Some e → slice_get fs j ≡ Some h → meets e h ≡ false

pub none_meet_more : (fs : List FunctionSymbol) (i : ℕ) (f g : FunctionSymbol) → slice_get fs (i - 1) ≡ Some f → slice_get fs i ≡ Some g → meets f g ≡ false → NoneMeet fs i → NoneMeet fs (i + 1)
none_meet_more fs i f g one two apart none j e h from less at next = elim (cases_lt j i) [
  | inl before ↦ none j e h from before at next
  | inr here ↦
      let index : j ≡ i = omega arith in
      let back : j - 1 ≡ i - 1 = omega arith in
      let first : e ≡ f = same_Some e f (sym at ∙ ap (slice_get fs) back ∙ one) in
      let second : h ≡ g = same_Some h g (sym next ∙ ap (slice_get fs) index ∙ two) in
      ap (λ (x : FunctionSymbol). meets x h) first ∙ ap (meets f) second ∙ apart
]

pub none_shared : (fs : List FunctionSymbol) (n : ℕ) → length fs ≤ n → NoneMeet fs n → (os : List Object) → AreSymbolsOf os fs → (m k offset w : ℕ) → IsShared os m k offset w → ⊥
none_shared fs n all none os symbols m k offset w shared =
    let behind = shared_meet os fs m k offset w symbols shared in
    let meet = behind.meet in
    let to = meet.to in
    let from = meet.from in
    let within : behind.i < length fs = slice_get_within fs behind.i behind.g behind.there in
    let no : meets meet.e meet.h ≡ false = none meet.j meet.e meet.h (omega arith) (omega arith) meet.one meet.two in
    let yes = meet.meet in
    absurd (cc)

pub first_shared_is : (fs : List FunctionSymbol) (i : ℕ) (f g : FunctionSymbol) → 1 ≤ i → slice_get fs (i - 1) ≡ Some f → slice_get fs i ≡ Some g → meets f g ≡ true → NoneMeet fs i → (q : Spot) → q ≡ start_of g
    → (os : List Object) → AreSymbolsOf os fs → IsFirstShared os q
first_shared_is fs i f g some one two meet none q is os symbols = subst (IsFirstShared os) (sym is) (record { shared = shared; first = first })
  where
    parts : AreMeeting f g
    parts = meets_parts f g meet

    shared : (w : ℕ) → IsShared os g.object g.section g.offset w
    shared w =
        let has = symbols.each (i - 1) f one in
        let also = symbols.each i g two in
        let positive = also.is.function.some in
        let in_order = between f g g (not_before fs (i - 1) i f g symbols.sorted (omega arith) one two) (not_before fs i i g g symbols.sorted (omega arith) two two) parts.object parts.section in
        record {
          x = extent_in f;
          y = extent_in g;
          one = (f.symbol, has.s, has.t, has.is.function);
          other = (g.symbol, also.s, also.t, also.is.function);
          in_one = record { object = sym parts.object; section = sym parts.section; from = low; to = parts.less };
          in_other = record { object = refl; section = refl; from = omega arith; to = omega arith };
          apart = λ e. let same : is_same f g ≡ true = same_tested f g e in let other = parts.other in absurd (cc);
        }
      where
        low : f.offset ≤ g.offset
        low = elim (cases_lt g.offset f.offset) [
          | inl less ↦ absurd (not_before fs (i - 1) i f g symbols.sorted (omega arith) one two (inr (parts.object, inr (parts.section, inl less))))
          | inr at ↦ at
        ]

    first : (n k offset w : ℕ) → IsEarlier (n ∷ k ∷ offset ∷ []) (g.object ∷ g.section ∷ g.offset ∷ []) → IsShared os n k offset w → ⊥
    first n k offset w before also =
        let behind = shared_meet os fs n k offset w symbols also in
        let meeting = behind.meet in
        let from = meeting.from in
        let to = meeting.to in
        elim (cases_lt meeting.j i) [
          | inl less ↦
              let no : meets meeting.e meeting.h ≡ false = none meeting.j meeting.e meeting.h (omega arith) less meeting.one meeting.two in
              let yes = meeting.meet in
              absurd (cc)
          | inr more ↦ not_before fs i behind.i g behind.g symbols.sorted (omega arith) two behind.there (earlier behind.g behind.object behind.section behind.at before)
        ]
      where
        earlier : (h : FunctionSymbol) → h.object ≡ n → h.section ≡ k → h.offset ≤ offset → IsEarlier (n ∷ k ∷ offset ∷ []) (g.object ∷ g.section ∷ g.offset ∷ []) → IsEarlier (extent_key h) (extent_key g)
        earlier h object section at (inl less) = inl (omega arith)
        earlier h object section at (inr rest) = inr (object ∙ rest.0, further rest.1)
          where
            further : IsEarlier (k ∷ offset ∷ []) (g.section ∷ g.offset ∷ []) → IsEarlier (h.section ∷ h.offset ∷ h.size ∷ []) (g.section ∷ g.offset ∷ g.size ∷ [])
            further (inl less) = inl (omega arith)
            further (inr last) = inr (section ∙ last.0, nearest last.1)
              where
                nearest : IsEarlier (offset ∷ []) (g.offset ∷ []) → IsEarlier (h.offset ∷ h.size ∷ []) (g.offset ∷ g.size ∷ [])
                nearest (inl less) = inl (omega arith)
                nearest (inr none) = absurd none.1
