-- Transfers that land one by one.
use Rattle.std.proofs.Common.{◌≡◌, ℕ, suc, ◌+◌, ◌<◌, ◌≤◌, Bool, true, false, List, [], ◌∷◌, ◌++◌, length, get_or, take, drop, refl, sym, ap, ap₂, ◌∙◌, arith, append_assoc, Option, Some, None, length-append, length-take, drop-cons, add-one}
use Rattle.std.proofs.Math.ListN.{set}
use Rattle.std.proofs.Math.Seq.{set-append_seam, take-append_seam, drop-append_seam}
use Rattle.std.proofs.lemmas.List.Quantifiers.{position-Some}
use Rattle.std.proofs.lemmas.Bool.{and_parts, leb-true}
use Rattle.std.specs.Prelude.{nat_le}
use Rattle.std.proofs.lemmas.List.{get_or_default, take_more, drop_all, take_all, append-nil}
use Rattle.std.specs.List.{remove}
use Rattle.spu_word.specs.declared.load.Area.{Area}
use Rattle.spu_exec.specs.declared.transfers.Form.{Form}
use Rattle.spu_exec.specs.declared.transfers.Form.TheVariants.{Put, Get}
use Rattle.spu_exec.specs.declared.transfers.Transfer.{Transfer}
use Rattle.spu_exec.specs.Transfers.{stretch_of, reached, holds_range}
use Rattle.spu_word.specs.Bytes.{quad_of}
use Rattle.spu_exec.specs.declared.channels.TheConstants.{MFC_WR_TAG_MASK, TAG_COUNT}
use Rattle.spu_exec.specs.Tags.{with_tags, without_tags, is_landing, status, IsWaiting, AllWaiting}
use Rattle.std.proofs.lemmas.List.Elements.{All-head, All-tail}
use Rattle.spu_ls.specs.Stores.{bytes_from, placed}
use Rattle.spu_exec.specs.Areas.{bytes_at, with_bytes, first_holding, area_with, written_in, written}
use Rattle.spu_ls.specs.Landing.{land_by, land}
use Rattle.spu_ls.specs.Machine.{State, put, lands, lands_tags, answers}

-- a PUT alone, and a GET alone
pub lands_put : (s : State) (t : Transfer) → t.form ≡ Put → lands (t ∷ []) s ≡ record s { areas = written t.ea (bytes_from s.store t.local t.size) s.areas }
unfolding land
lands_put s t e = ap (λ (f : Form). record s { store = (land_by f s.image t (record { store = s.store; areas = s.areas })).store; areas = (land_by f s.image t (record { store = s.store; areas = s.areas })).areas }) e

pub lands_get : (s : State) (t : Transfer) → t.form ≡ Get → lands (t ∷ []) s ≡ record s { store = placed t.local (bytes_at (reached Get s.image s.areas) t.ea t.size) s.store }
unfolding land
lands_get s t e = ap (λ (f : Form). record s { store = (land_by f s.image t (record { store = s.store; areas = s.areas })).store; areas = (land_by f s.image t (record { store = s.store; areas = s.areas })).areas }) e

-- one after another
pub lands_cons : (t : Transfer) (ts : List Transfer) (s : State) → lands (t ∷ ts) s ≡ lands ts (lands (t ∷ []) s)
unfolding land
lands_cons t ts s = refl

pub lands_none : (s : State) → lands [] s ≡ s
unfolding land
lands_none s = refl

-- what is left of a landing by tags where these stay, and those are still to be judged
abbrev pub left_of : (ℕ → Bool) → List Transfer → List Transfer → State → State
left_of test front rest s = record (lands (with_tags test rest) s) { queue = front ++ without_tags test rest }

-- the first of those lands, or stays
left_lands : (test : ℕ → Bool) (front rest : List Transfer) (t : Transfer) (s : State) → test t.tag ≡ true → left_of test front rest (lands (t ∷ []) s) ≡ left_of test front (t ∷ rest) s
unfolding land
left_lands test front rest t s e = rw e

left_stays : (test : ℕ → Bool) (front rest : List Transfer) (t : Transfer) (s : State) → test t.tag ≡ false → left_of test (front ++ t ∷ []) rest s ≡ left_of test front (t ∷ rest) s
unfolding land
left_stays test front rest t s e = rw e (ap (λ (ts : List Transfer). record (lands (with_tags test rest) s) { queue = ts }) (append_assoc front (t ∷ []) (without_tags test rest)))

-- the same where the first i transfers of the queue stay
abbrev pub lands_rest : (ℕ → Bool) → ℕ → State → State
lands_rest test i s = left_of test (take i s.queue) (drop i s.queue) s

-- what is left where all stay
pub rest_none : (test : ℕ → Bool) (i : ℕ) (s : State) → length s.queue ≤ i → lands_rest test i s ≡ s
rest_none test i s le =
    ap (λ (ts : List Transfer). left_of test (take i s.queue) ts s) (drop_all i s.queue le)
    ∙ ap (λ (u : State). record u { queue = take i s.queue ++ [] }) (lands_none s)
    ∙ ap (λ (ts : List Transfer). record s { queue = ts }) (append-nil (take i s.queue) ∙ take_all i s.queue le)

take_front : (n : ℕ) (xs ys : List Transfer) → length xs ≡ n → take n (xs ++ ys) ≡ xs
take_front n xs ys e = ap (λ (k : ℕ). take k (xs ++ ys)) (sym e) ∙ take-append_seam xs ys

drop_front : (n : ℕ) (xs ys : List Transfer) → length xs ≡ n → drop n (xs ++ ys) ≡ ys
drop_front n xs ys e = ap (λ (k : ℕ). drop k (xs ++ ys)) (sym e) ∙ drop-append_seam xs ys

-- the transfer at i leaves the queue and lands
pub rest_lands : (test : ℕ → Bool) (i : ℕ) (t : Transfer) (s : State) (queue : List Transfer) → i < length s.queue → t ≡ get_or s.queue i t → queue ≡ remove s.queue i → test t.tag ≡ true
    → lands_rest test i (lands (t ∷ []) (record s { queue = queue })) ≡ lands_rest test i s
rest_lands test i t s queue lt is gone e =
    let front : length (take i s.queue) ≡ i = omega (arith, length-take i s.queue) in
    let kept : take i queue ≡ take i s.queue = ap (take i) gone ∙ take_front i (take i s.queue) (drop (suc i) s.queue) front in
    let next : drop i queue ≡ drop (suc i) s.queue = ap (drop i) gone ∙ drop_front i (take i s.queue) (drop (suc i) s.queue) front in
    let here : drop i s.queue ≡ t ∷ drop (suc i) s.queue = drop-cons s.queue i t lt ∙ ap (λ (u : Transfer). u ∷ drop (suc i) s.queue) (sym is) in
    ap₂ (λ (ys zs : List Transfer). left_of test ys zs (lands (t ∷ []) s)) kept next
    ∙ left_lands test (take i s.queue) (drop (suc i) s.queue) t s e
    ∙ ap (λ (zs : List Transfer). left_of test (take i s.queue) zs s) (sym here)

-- the transfer at i stays
pub rest_stays : (test : ℕ → Bool) (i : ℕ) (t : Transfer) (s : State) → i < length s.queue → t ≡ get_or s.queue i t → test t.tag ≡ false → lands_rest test (i + 1) s ≡ lands_rest test i s
rest_stays test i t s lt is e =
    let here : drop i s.queue ≡ t ∷ drop (suc i) s.queue = drop-cons s.queue i t lt ∙ ap (λ (u : Transfer). u ∷ drop (suc i) s.queue) (sym is) in
    let more : take (i + 1) s.queue ≡ take i s.queue ++ t ∷ [] = take_more s.queue i t lt ∙ ap (λ (u : Transfer). take i s.queue ++ u ∷ []) (sym is) in
    ap₂ (λ (ys zs : List Transfer). left_of test ys zs s) more (ap (λ (n : ℕ). drop n s.queue) (add-one i))
    ∙ left_stays test (take i s.queue) (drop (suc i) s.queue) t s e
    ∙ ap (λ (zs : List Transfer). left_of test (take i s.queue) zs s) (sym here)

-- an element where two lists meet
seam : (xs ys zs : List ℕ) (m n x v : ℕ) → length xs ≡ m → length ys ≡ n → set (xs ++ (ys ++ x ∷ zs)) (m + n) v ≡ xs ++ ((ys ++ v ∷ []) ++ zs)
seam xs ys zs m n x v p q =
    let at : m + n ≡ length (xs ++ ys) = omega (arith, length-append xs ys) in
    ap (λ (l : List ℕ). set l (m + n) v) (sym (append_assoc xs ys (x ∷ zs)))
    ∙ ap (λ (k : ℕ). set ((xs ++ ys) ++ x ∷ zs) k v) at
    ∙ set-append_seam (xs ++ ys) x zs v
    ∙ append_assoc xs ys (v ∷ zs)
    ∙ ap (λ (l : List ℕ). xs ++ l) (sym (append_assoc ys (v ∷ []) zs))

-- one byte more of those that are written over others
pub with_more : (at k : ℕ) (bytes old : List ℕ) → k < length bytes → at + length bytes ≤ length old → set (with_bytes at (take k bytes) old) (at + k) (get_or bytes k 0) ≡ with_bytes at (take (k + 1) bytes) old
with_more at k bytes old lt fits =
    let front : length (take at old) ≡ at = omega (arith, length-take at old) in
    let done : length (take k bytes) ≡ k = omega (arith, length-take k bytes) in
    let more : take (k + 1) bytes ≡ take k bytes ++ get_or bytes k 0 ∷ [] = take_more bytes k 0 lt in
    let made : length (take (k + 1) bytes) ≡ k + 1 = omega (arith, length-take (k + 1) bytes) in
    let left : drop (at + k) old ≡ get_or old (at + k) 0 ∷ drop (suc (at + k)) old = drop-cons old (at + k) 0 (omega arith) in
    let next : suc (at + k) ≡ at + (k + 1) = omega arith in
    ap (λ (n : ℕ). set (take at old ++ (take k bytes ++ drop (at + n) old)) (at + k) (get_or bytes k 0)) done
    ∙ ap (λ (l : List ℕ). set (take at old ++ (take k bytes ++ l)) (at + k) (get_or bytes k 0)) left
    ∙ seam (take at old) (take k bytes) (drop (suc (at + k)) old) at k (get_or old (at + k) 0) (get_or bytes k 0) front done
    ∙ ap (λ (l : List ℕ). take at old ++ (l ++ drop (suc (at + k)) old)) (sym more)
    ∙ ap (λ (n : ℕ). take at old ++ (take (k + 1) bytes ++ drop n old)) (next ∙ ap (λ (n : ℕ). at + n) (sym made))

-- an area that holds a range
pub holds_from : (ea size : ℕ) (a : Area) → holds_range ea size (stretch_of a) ≡ true → (a.ea ≤ ea) × (ea + size ≤ a.ea + length a.bytes)
holds_from ea size a e =
    let both = and_parts (nat_le a.ea ea) (nat_le (ea + size) (a.ea + length a.bytes)) e in
    (leb-true a.ea ea both.0, leb-true (ea + size) (a.ea + length a.bytes) both.1)

-- bytes written where the first area that holds them stands
pub written_there : (areas : List Area) (ea : ℕ) (bytes : List ℕ) (i : ℕ) (d : Area) → first_holding ea (length bytes) areas ≡ Some i
    → set areas i (area_with ea bytes (get_or areas i d)) ≡ written ea bytes areas
written_there areas ea bytes i d e =
    let lt : i < length areas = (position-Some (λ (a : Area). holds_range ea (length bytes) (stretch_of a)) areas i d e).0 in
    ap (λ (a : Area). set areas i (area_with ea bytes a)) (get_or_default areas i d (record { name = []; ea = 0; bytes = [] }) lt)
    ∙ sym (ap (λ (o : Option ℕ). written_in o ea bytes areas) e)

-- tests that agree on the tags that there are land the same
with_same : (f g : ℕ → Bool) (queue : List Transfer) → AllWaiting queue → ((tag : ℕ) → tag < TAG_COUNT → f tag ≡ g tag) → with_tags f queue ≡ with_tags g queue
with_same f g [] all same = refl
with_same f g (t ∷ ts) all same =
    let h : f t.tag ≡ g t.tag = same t.tag (All-head IsWaiting t ts all).tag in
    let rest : with_tags f ts ≡ with_tags g ts = with_same f g ts (All-tail IsWaiting t ts all) same in
    rw (h, rest) refl

without_same : (f g : ℕ → Bool) (queue : List Transfer) → AllWaiting queue → ((tag : ℕ) → tag < TAG_COUNT → f tag ≡ g tag) → without_tags f queue ≡ without_tags g queue
without_same f g [] all same = refl
without_same f g (t ∷ ts) all same =
    let h : f t.tag ≡ g t.tag = same t.tag (All-head IsWaiting t ts all).tag in
    let rest : without_tags f ts ≡ without_tags g ts = without_same f g ts (All-tail IsWaiting t ts all) same in
    rw (h, rest) refl

tags_same : (f g : ℕ → Bool) (s : State) → AllWaiting s.queue → ((tag : ℕ) → tag < TAG_COUNT → f tag ≡ g tag) → lands_tags f s ≡ lands_tags g s
tags_same f g s all same = ap₂ (λ (ts us : List Transfer). record (lands ts s) { queue = us }) (with_same f g s.queue all same) (without_same f g s.queue all same)

-- a status that is read after the landing
pub answered : (s s1 : State) (f : ℕ → Bool) (update r p : ℕ) (quad : List ℕ) → AllWaiting s.queue → ((tag : ℕ) → tag < TAG_COUNT → f tag ≡ is_landing update (s.channels MFC_WR_TAG_MASK) s.queue tag) → s1 ≡ lands_tags f s
    → quad ≡ quad_of (status (s.channels MFC_WR_TAG_MASK) s1.queue) 0 0 0 → s.update ≡ Some update → record s1 { regs = put r quad s1.regs; update = None; pc = p; steps = s1.steps + 1 } ≡ answers s.update r p s
answered s s1 f update r p quad all same landed is asked =
    let e : s1 ≡ lands_tags (is_landing update (s.channels MFC_WR_TAG_MASK) s.queue) s = landed ∙ tags_same f (is_landing update (s.channels MFC_WR_TAG_MASK) s.queue) s all same in
    ap (λ (q : List ℕ). record s1 { regs = put r q s1.regs; update = None; pc = p; steps = s1.steps + 1 }) is
    ∙ ap (λ (u : State). record u { regs = put r (quad_of (status (s.channels MFC_WR_TAG_MASK) u.queue) 0 0 0) u.regs; update = None; pc = p; steps = u.steps + 1 }) e
    ∙ sym (ap (λ (o : Option ℕ). answers o r p s) asked)
