-- Transfers that land one after another, and leave the queue.
use Rattle.std.proofs.Common.{◌≡◌, ℕ, suc, ◌+◌, ◌<◌, ◌≤◌, Bool, true, false, List, [], ◌∷◌, ◌++◌, length, get_or, take, drop, map, refl, sym, ap, ap₂, ◌∙◌, subst, arith, append_assoc, Option, Some, None, length-take, drop-cons, add-one}
use Rattle.std.specs.Prelude.{is_some, if◌then◌else◌}
use Rattle.std.specs.List.{remove}
use Rattle.std.proofs.Math.ListN.{set}
use Rattle.std.proofs.Math.Seq.{take-append_seam, drop-append_seam}
use Rattle.std.proofs.lemmas.Bool.{and_parts, leb-true}
use Rattle.std.proofs.lemmas.List.{get_or_default, take_more, drop_all, take_all, append-nil}
use Rattle.std.proofs.lemmas.List.Quantifiers.{position-Some}
use Rattle.std.proofs.lemmas.List.Elements.{All-head, All-tail}
use Rattle.std.specs.Prelude.{nat_le}
use Rattle.spu_word.specs.Bytes.{quad_of}
use Rattle.spu_word.specs.declared.load.Area.{Area}
use Rattle.spu_exec.specs.declared.channels.TheConstants.{TAG_COUNT}
use Rattle.spu_exec.specs.declared.transfers.Form.{Form}
use Rattle.spu_exec.specs.declared.transfers.Form.TheVariants.{Put, Get}
use Rattle.spu_exec.specs.declared.transfers.Transfer.{Transfer}
use Rattle.spu_exec.specs.Transfers.{stretch_of, holds_range}
use Rattle.spu_exec.specs.Areas.{bytes_at, first_holding, area_with, written_in, written}
use Rattle.spu_exec.specs.Tags.{with_tags, without_tags, IsWaiting, AllWaiting, status}
use Rattle.spu_lift.specs.declared.program.Prog.{Prog}
use Rattle.spu_ideal.specs.Channels.{Contents, puts, placed, numbers_from, land_by, land_all, answered, answers_by}
use Rattle.spu_ideal.specs.declared.state.Update.TheVariants.{NoUpdate}
use Rattle.spu_lift.specs.declared.program.SymInst.{SymInst}
use Rattle.spu_lift.specs.declared.symbolic.SymByte.{SymByte}
use Rattle.spu_lift.specs.Places.{instruction_at}
use Rattle.spu_ideal.specs.declared.ending.Reason.TheVariants as reason
use Rattle.spu_ideal.specs.Bytes.{numbers}
use Rattle.spu_ideal.specs.State.{Sym, goes_to, outside, put}
use Rattle.spu_ideal.specs.Landing.{all_land}
use Rattle.spu_ideal.specs.declared.quads.SymQuad.{SymQuad}
use Rattle.spu_ideal.specs.View.{contents_of, store_of}

-- ---- areas

-- an area that holds a range
pub holds_from : (ea size : ℕ) (a : Area) → holds_range ea size (stretch_of a) ≡ true → (a.ea ≤ ea) × (ea + size ≤ a.ea + length a.bytes)
holds_from ea size a e =
    let both = and_parts (nat_le a.ea ea) (nat_le (ea + size) (a.ea + length a.bytes)) e in
    (leb-true a.ea ea both.0, leb-true (ea + size) (a.ea + length a.bytes) both.1)

-- what the search found
pub found : (areas : List Area) (ea size i : ℕ) (r : Option ℕ) (d : Area) → r ≡ first_holding ea size areas → r ≡ Some i → ((get_or areas i d).ea ≤ ea) × (ea + size ≤ (get_or areas i d).ea + length (get_or areas i d).bytes)
found areas ea size i r d e is = holds_from ea size (get_or areas i d) (position-Some (λ (a : Area). holds_range ea size (stretch_of a)) areas i d (sym e ∙ is)).1

-- bytes written where the first area that holds them stands
pub written_there : (areas : List Area) (ea : ℕ) (bytes : List ℕ) (i : ℕ) (d : Area) → first_holding ea (length bytes) areas ≡ Some i
    → set areas i (area_with ea bytes (get_or areas i d)) ≡ written ea bytes areas
written_there areas ea bytes i d e =
    let lt : i < length areas = (position-Some (λ (a : Area). holds_range ea (length bytes) (stretch_of a)) areas i d e).0 in
    ap (λ (a : Area). set areas i (area_with ea bytes a)) (get_or_default areas i d (record { name = []; ea = 0; bytes = [] }) lt)
    ∙ sym (ap (λ (o : Option ℕ). written_in o ea bytes areas) e)

pub written_nowhere : (areas : List Area) (ea : ℕ) (bytes : List ℕ) → first_holding ea (length bytes) areas ≡ None → areas ≡ written ea bytes areas
written_nowhere areas ea bytes e = sym (ap (λ (o : Option ℕ). written_in o ea bytes areas) e)

-- ---- one transfer

some_contents : (c d : Contents) → Some c ≡ Some d → c ≡ d
some_contents c d e = cc

pub get_is : (t : Transfer) (c m : Contents) → t.form ≡ Get → land_by t.form t c ≡ Some m → record c { store = placed t.local (bytes_at (map stretch_of c.areas) t.ea t.size) c.store } ≡ m
get_is t c m form e = some_contents _ m (ap (λ (f : Form). land_by f t c) (sym form) ∙ e)

pub put_is : (t : Transfer) (c m : Contents) → t.form ≡ Put → land_by t.form t c ≡ Some m → (numbers : List ℕ) × (numbers_from c.store t.local t.size ≡ Some numbers) × (record c { areas = written t.ea numbers c.areas } ≡ m)
put_is t c m form e = by_numbers (numbers_from c.store t.local t.size) refl (ap (λ (f : Form). land_by f t c) (sym form) ∙ e)
  where
    by_numbers : (o : Option (List ℕ)) → numbers_from c.store t.local t.size ≡ o → puts o t.ea c ≡ Some m → (numbers : List ℕ) × (numbers_from c.store t.local t.size ≡ Some numbers) × (record c { areas = written t.ea numbers c.areas } ≡ m)
    by_numbers None is h = absurd (cc)
    by_numbers (Some numbers) is h = (numbers, is, some_contents _ m h)

-- ---- one after another

land_none : (ts : List Transfer) → land_all ts None ≡ None
unfolding land_all
land_none [] = refl
land_none (u ∷ us) = refl

pub land_first : (t : Transfer) (ts : List Transfer) (c m : Contents) → land_all (t ∷ ts) (Some c) ≡ Some m → (n : Contents) × (land_by t.form t c ≡ Some n) × (land_all ts (Some n) ≡ Some m)
unfolding land_all
land_first t ts c m e = by_first (land_by t.form t c) refl e
  where
    by_first : (o : Option Contents) → land_by t.form t c ≡ o → land_all ts o ≡ Some m → (n : Contents) × (land_by t.form t c ≡ Some n) × (land_all ts (Some n) ≡ Some m)
    by_first None is h = absurd (let e = land_none ts in cc)
    by_first (Some n) is h = (n, is, h)

pub land_nothing : (ts : List Transfer) (c m : Contents) → ts ≡ [] → land_all ts (Some c) ≡ Some m → c ≡ m
unfolding land_all
land_nothing ts c m e h = some_contents c m (sym (ap (λ (us : List Transfer). land_all us (Some c)) e) ∙ h)

-- whether there is one
pub some_is : (o : Option Contents) → is_some o ≡ true → (m : Contents) × (o ≡ Some m)
some_is None e = absurd (cc)
some_is (Some m) e = (m, refl)

none_is : (o : Option Contents) → is_some o ≡ false → o ≡ None
none_is None e = refl
none_is (Some m) e = absurd (cc)

-- ---- queues

take_front : (n : ℕ) (xs ys : List Transfer) → length xs ≡ n → take n (xs ++ ys) ≡ xs
take_front n xs ys e = ap (λ (k : ℕ). take k (xs ++ ys)) (sym e) ∙ take-append_seam xs ys

drop_front : (n : ℕ) (xs ys : List Transfer) → length xs ≡ n → drop n (xs ++ ys) ≡ ys
drop_front n xs ys e = ap (λ (k : ℕ). drop k (xs ++ ys)) (sym e) ∙ drop-append_seam xs ys

-- the transfers that are left to judge begin with the one at i
pub judged_first : (queue : List Transfer) (i : ℕ) (t : Transfer) → i < length queue → t ≡ get_or queue i t → drop i queue ≡ t ∷ drop (i + 1) queue
judged_first queue i t lt is = drop-cons queue i t lt ∙ ap₂ (λ (u : Transfer) (us : List Transfer). u ∷ us) (sym is) (ap (λ n. drop n queue) (sym (add-one i)))

-- where it leaves the queue, those before and behind it stay
pub left_front : (queue : List Transfer) (i : ℕ) → i < length queue → take i (remove queue i) ≡ take i queue
left_front queue i lt = (let front : length (take i queue) ≡ i = omega (arith, length-take i queue) in take_front i (take i queue) (drop (suc i) queue) front)

pub left_rest : (queue : List Transfer) (i : ℕ) → i < length queue → drop i (remove queue i) ≡ drop (i + 1) queue
left_rest queue i lt = (let front : length (take i queue) ≡ i = omega (arith, length-take i queue) in drop_front i (take i queue) (drop (suc i) queue) front ∙ ap (λ n. drop n queue) (sym (add-one i)))

pub with_first : (test : ℕ → Bool) (t : Transfer) (ts : List Transfer) → test t.tag ≡ true → with_tags test (t ∷ ts) ≡ t ∷ with_tags test ts
with_first test t ts e = ap (λ b. if b then t ∷ with_tags test ts else with_tags test ts) e

pub with_other : (test : ℕ → Bool) (t : Transfer) (ts : List Transfer) → test t.tag ≡ false → with_tags test (t ∷ ts) ≡ with_tags test ts
with_other test t ts e = ap (λ b. if b then t ∷ with_tags test ts else with_tags test ts) e

pub without_first : (test : ℕ → Bool) (t : Transfer) (ts : List Transfer) → test t.tag ≡ true → without_tags test (t ∷ ts) ≡ without_tags test ts
without_first test t ts e = rw e refl

pub without_other : (test : ℕ → Bool) (t : Transfer) (ts : List Transfer) → test t.tag ≡ false → without_tags test (t ∷ ts) ≡ t ∷ without_tags test ts
without_other test t ts e = rw e refl

-- tests that agree on the tags that there are land the same
with_same : (f g : ℕ → Bool) (queue : List Transfer) → AllWaiting queue → ((tag : ℕ) → tag < TAG_COUNT → f tag ≡ g tag) → with_tags f queue ≡ with_tags g queue
with_same f g [] all same = refl
with_same f g (t ∷ ts) all same =
    let h : f t.tag ≡ g t.tag = same t.tag (All-head IsWaiting t ts all).tag in
    let rest : with_tags f ts ≡ with_tags g ts = with_same f g ts (All-tail IsWaiting t ts all) same in
    rw (h, rest) refl

without_same : (f g : ℕ → Bool) (queue : List Transfer) → AllWaiting queue → ((tag : ℕ) → tag < TAG_COUNT → f tag ≡ g tag) → without_tags f queue ≡ without_tags g queue
without_same f g [] all same = refl
without_same f g (t ∷ ts) all same =
    let h : f t.tag ≡ g t.tag = same t.tag (All-head IsWaiting t ts all).tag in
    let rest : without_tags f ts ≡ without_tags g ts = without_same f g ts (All-tail IsWaiting t ts all) same in
    rw (h, rest) refl

pub answers_same : (f g : ℕ → Bool) (r : ℕ) (p : Prog) (s : Sym) → AllWaiting s.queue → ((tag : ℕ) → tag < TAG_COUNT → f tag ≡ g tag) → answers_by f r p s ≡ answers_by g r p s
answers_same f g r p s all same =
    ap₂ (λ (ts us : List Transfer). answered (land_all ts (Some (contents_of s))) us r p s) (with_same f g s.queue all same) (without_same f g s.queue all same)

-- ---- the landing by tags, where the first i transfers of the queue stay

-- what is left to land gives m, and nothing but store, areas and queue has changed
abbrev pub IsLanding : (ℕ → Bool) → ℕ → Sym → Sym → Contents → Type 0
IsLanding test i s0 s m = (land_all (with_tags test (drop i s.queue)) (Some (contents_of s)) ≡ Some m) × (s ≡ record s0 { store = s.store; areas = s.areas; queue = s.queue })

pub landing_lands : (test : ℕ → Bool) (i : ℕ) (t : Transfer) (s0 s s2 : Sym) (queue : List Transfer) → i < length s.queue → t ≡ get_or s.queue i t → queue ≡ remove s.queue i → test t.tag ≡ true
    → ((n : Contents) → land_by t.form t (contents_of s) ≡ Some n → s2 ≡ record s { store = n.store; areas = n.areas; queue = queue })
    → (m : Contents) → IsLanding test i s0 s m → IsLanding test i s0 s2 m
landing_lands test i t s0 s s2 queue lt is gone pass lands m h =
    let first : land_all (t ∷ with_tags test (drop (i + 1) s.queue)) (Some (contents_of s)) ≡ Some m =
    sym (ap (λ (ts : List Transfer). land_all ts (Some (contents_of s))) (ap (with_tags test) (judged_first s.queue i t lt is) ∙ with_first test t (drop (i + 1) s.queue) pass)) ∙ h.0 in
    let parts = land_first t (with_tags test (drop (i + 1) s.queue)) (contents_of s) m first in
    let n : Contents = parts.0 in
    let rest : drop i queue ≡ drop (i + 1) s.queue = ap (drop i) gone ∙ left_rest s.queue i lt in
    subst (λ (u : Sym). IsLanding test i s0 u m) (sym (lands n parts.1)) (
      ap (λ (ts : List Transfer). land_all (with_tags test ts) (Some n)) rest ∙ parts.2,
      ap (λ (u : Sym). record u { store = n.store; areas = n.areas; queue = queue }) h.1,
    )

pub landing_stays : (test : ℕ → Bool) (i : ℕ) (t : Transfer) (s0 s : Sym) → i < length s.queue → t ≡ get_or s.queue i t → test t.tag ≡ false → (m : Contents) → IsLanding test i s0 s m → IsLanding test (i + 1) s0 s m
landing_stays test i t s0 s lt is stays m h =
    (sym (ap (λ (ts : List Transfer). land_all ts (Some (contents_of s))) (ap (with_tags test) (judged_first s.queue i t lt is) ∙ with_other test t (drop (i + 1) s.queue) stays)) ∙ h.0, h.1)

pub queue_lands : (test : ℕ → Bool) (i : ℕ) (t : Transfer) (old queue : List Transfer) → i < length old → t ≡ get_or old i t → queue ≡ remove old i → test t.tag ≡ true
    → take i queue ++ without_tags test (drop i queue) ≡ take i old ++ without_tags test (drop i old)
queue_lands test i t old queue lt is gone pass =
    ap₂ (λ (xs ys : List Transfer). xs ++ without_tags test ys) (ap (take i) gone ∙ left_front old i lt) (ap (drop i) gone ∙ left_rest old i lt)
    ∙ ap (λ (ys : List Transfer). take i old ++ ys) (sym (ap (without_tags test) (judged_first old i t lt is) ∙ without_first test t (drop (i + 1) old) pass))

pub queue_stays : (test : ℕ → Bool) (i : ℕ) (t : Transfer) (old : List Transfer) → i < length old → t ≡ get_or old i t → test t.tag ≡ false
    → take (i + 1) old ++ without_tags test (drop (i + 1) old) ≡ take i old ++ without_tags test (drop i old)
queue_stays test i t old lt is stays =
    ap (λ (xs : List Transfer). xs ++ without_tags test (drop (i + 1) old)) (take_more old i t lt ∙ ap (λ (u : Transfer). take i old ++ u ∷ []) (sym is))
    ∙ append_assoc (take i old) (t ∷ []) (without_tags test (drop (i + 1) old))
    ∙ ap (λ (ys : List Transfer). take i old ++ ys) (sym (ap (without_tags test) (judged_first old i t lt is) ∙ without_other test t (drop (i + 1) old) stays))

pub landing_ends : (test : ℕ → Bool) (i : ℕ) (s0 s : Sym) (m : Contents) → length s.queue ≤ i → take i s.queue ++ without_tags test (drop i s.queue) ≡ without_tags test s0.queue → IsLanding test i s0 s m
    → s ≡ record s0 { store = m.store; areas = m.areas; queue = without_tags test s0.queue }
landing_ends test i s0 s m le left h =
    let none : drop i s.queue ≡ [] = drop_all i s.queue le in
    let all : s.queue ≡ without_tags test s0.queue =
    sym (ap₂ (λ (xs ys : List Transfer). xs ++ without_tags test ys) (take_all i s.queue le) none ∙ append-nil s.queue) ∙ left in
    let is : contents_of s ≡ m = land_nothing (with_tags test (drop i s.queue)) (contents_of s) m (ap (with_tags test) none) h.0 in
    h.1 ∙ ap₂ (λ (c : Contents) (q : List Transfer). record s0 { store = c.store; areas = c.areas; queue = q }) is all

-- ---- a status that is read after the landing

pub answered_is : (test : ℕ → Bool) (r : ℕ) (p : Prog) (s s1 : Sym) (m : Contents) (x : SymInst) (quad : List SymByte)
    → land_all (with_tags test s.queue) (Some (contents_of s)) ≡ Some m → s1 ≡ record s { store = m.store; areas = m.areas; queue = without_tags test s.queue }
    → instruction_at p s.f (s.i + 1) ≡ Some x → quad ≡ numbers (quad_of (status s1.mask s1.queue) 0 0 0)
    → record s1 { regs = put r quad s1.regs; update = NoUpdate; f = s.f; i = s.i + 1; steps = s1.steps + 1 } ≡ answers_by test r p s
answered_is test r p s s1 m x quad lands is here stands =
    ap (λ (q : List SymByte). record s1 { regs = put r q s1.regs; update = NoUpdate; f = s.f; i = s.i + 1; steps = s1.steps + 1 }) stands
    ∙ ap (λ (u : Sym). record u { regs = put r (numbers (quad_of (status u.mask u.queue) 0 0 0)) u.regs; update = NoUpdate; f = s.f; i = s.i + 1; steps = u.steps + 1 }) is
    ∙ sym (ap (λ (o : Option Contents). answered o (without_tags test s.queue) r p s) lands
    ∙ ap (λ (o : Option SymInst). goes_to o s.f (s.i + 1) s (record s {
      store = m.store;
      areas = m.areas;
      queue = without_tags test s.queue;
      regs = put r (numbers (quad_of (status s.mask (without_tags test s.queue)) 0 0 0)) s.regs;
      update = NoUpdate;
    })) here)

pub answered_end : (test : ℕ → Bool) (r : ℕ) (p : Prog) (s : Sym) (m : Contents) → land_all (with_tags test s.queue) (Some (contents_of s)) ≡ Some m → instruction_at p s.f (s.i + 1) ≡ None
    → outside reason.EndOfCode s ≡ answers_by test r p s
answered_end test r p s m lands here =
    sym (ap (λ (o : Option Contents). answered o (without_tags test s.queue) r p s) lands
    ∙ ap (λ (o : Option SymInst). goes_to o s.f (s.i + 1) s (record s {
      store = m.store;
      areas = m.areas;
      queue = without_tags test s.queue;
      regs = put r (numbers (quad_of (status s.mask (without_tags test s.queue)) 0 0 0)) s.regs;
      update = NoUpdate;
    })) here)

pub answered_none : (test : ℕ → Bool) (r : ℕ) (p : Prog) (s : Sym) → is_some (land_all (with_tags test s.queue) (Some (contents_of s))) ≡ false → outside reason.NotNumber s ≡ answers_by test r p s
answered_none test r p s e = sym (ap (λ (o : Option Contents). answered o (without_tags test s.queue) r p s) (none_is _ e))

pub same_land : (test : ℕ → Bool) (l k : List SymQuad) (a b : List Area) (q r : List Transfer) → l ≡ k → a ≡ b → q ≡ r → all_land (store_of l) test a [] q ≡ all_land (store_of k) test b [] r
same_land test l k a b q r d e f = ap₂ (λ (x : List SymQuad) (y : List Area). all_land (store_of x) test y [] q) d e ∙ ap (all_land (store_of k) test b []) f
