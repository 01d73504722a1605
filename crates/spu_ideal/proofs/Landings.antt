-- Transfers can land exactly where each byte that they put is a number by then.
use Rattle.std.proofs.Common.{◌≡◌, ℕ, zero, suc, ◌+◌, ◌-◌, ◌≤◌, List, [], ◌∷◌, ◌++◌, length, map, Option, Some, None, Bool, true, false, not, refl, sym, ap, ap₂, ◌∙◌, arith}
use Rattle.std.specs.Prelude.{◌&&◌, ◌||◌, if◌then◌else◌, is_some, nat_le, nat_lt, slice_index, take, drop}
use Rattle.std.proofs.lemmas.Bool.{cond_both}
use Rattle.std.proofs.lemmas.Bool.Decides.{nat_tests}
use Rattle.std.proofs.lemmas.List.{length-take-le, length-drop}
use Rattle.spu_word.specs.declared.load.Area.{Area}
use Rattle.spu_exec.specs.declared.transfers.Form.{Form}
use Rattle.spu_exec.specs.declared.transfers.Form.TheVariants.{Put, Get}
use Rattle.spu_exec.specs.declared.transfers.Transfer.{Transfer}
use Rattle.spu_exec.specs.Transfers.{Stretch, stretch_of, holds_range, some_holds}
use Rattle.spu_exec.specs.Areas.{bytes_at, written}
use Rattle.spu_exec.specs.Tags.{with_tags}
use Rattle.spu_lift.specs.declared.symbolic.SymByte.{SymByte}
use Rattle.spu_lift.specs.declared.symbolic.SymByte.TheVariants.{Num, Part, Unknown}
use Rattle.spu_ideal.specs.Bytes.{is_number, number_in}
use Rattle.spu_ideal.specs.Channels.{Contents, before, numbers_from, placed, puts, land_by, land_all}
use Rattle.spu_ideal.specs.Landing.{fills_by, fills, some_fills, is_readable, lands_by, all_land}
use Rattle.spu_ideal.proofs.Areas.{same_some}

-- ---- how many bytes a range has

held_length : (ea size : ℕ) (x : Stretch) → holds_range ea size x ≡ true → length (take size (drop (ea - x.ea) x.bytes)) ≡ size
held_length ea size x e =
    let low : x.ea ≤ ea = grind (arith, nat_tests) in
    let up : ea + size ≤ x.ea + length x.bytes = grind (arith, nat_tests) in
    let len : length (drop (ea - x.ea) x.bytes) ≡ length x.bytes - (ea - x.ea) = length-drop (ea - x.ea) x.bytes in
    length-take-le size (drop (ea - x.ea) x.bytes) (omega (arith, len, low, up))

reach_length : (xs : List Stretch) (ea size : ℕ) → length (bytes_at xs ea size) ≡ (if some_holds ea size xs then size else 0)
reach_length [] ea size = refl
reach_length (x ∷ xs) ea size = by_first (holds_range ea size x) refl (reach_length xs ea size)
  where
    by_first : (b : Bool) → holds_range ea size x ≡ b → length (bytes_at xs ea size) ≡ (if some_holds ea size xs then size else 0)
        → length (if b then take size (drop (ea - x.ea) x.bytes) else bytes_at xs ea size) ≡ (if (b || some_holds ea size xs) then size else 0)
    by_first true e rest = held_length ea size x e
    by_first false e rest = rest

same_length : (ea : ℕ) (bytes : List ℕ) (areas : List Area) (e n : ℕ) → length (bytes_at (map stretch_of (written ea bytes areas)) e n) ≡ length (bytes_at (map stretch_of areas) e n)
same_length ea bytes areas e n =
    reach_length (map stretch_of (written ea bytes areas)) e n ∙ ap (λ b. if b then n else 0) (same_some ea bytes areas e n) ∙ sym (reach_length (map stretch_of areas) e n)

-- ---- which bytes are numbers after some have landed

record IsAfter (store : ℕ → SymByte) (test : ℕ → Bool) (areas : List Area) (front : List Transfer) (m : Contents) : Type 0 where
  numbers : (k : ℕ) → is_number (m.store k) ≡ (is_number (store k) || some_fills test areas front k)
  reach : (e n : ℕ) → length (bytes_at (map stretch_of m.areas) e n) ≡ length (bytes_at (map stretch_of areas) e n)

module _ (store : ℕ → SymByte) (test : ℕ → Bool) (areas : List Area) where
  abbrev After : List Transfer → Contents → Type 0
  After front m = IsAfter store test areas front m

  or_false : (b : Bool) → (b || false) ≡ b
  or_false true = refl
  or_false false = refl

  or_all : (a b c : Bool) → ((a || b) || c) ≡ (a || (b || c))
  or_all true b c = refl
  or_all false b c = refl

  or_swap : (a b c : Bool) → (c || (a || b)) ≡ (a || (b || c))
  or_swap true true true = refl
  or_swap true true false = refl
  or_swap true false true = refl
  or_swap true false false = refl
  or_swap false true true = refl
  or_swap false true false = refl
  or_swap false false true = refl
  or_swap false false false = refl

  fills_more : (front : List Transfer) (t : Transfer) (k : ℕ) → some_fills test areas (front ++ t ∷ []) k ≡ (some_fills test areas front k || fills test areas t k)
  fills_more [] t k = or_false (fills test areas t k)
  fills_more (u ∷ us) t k = ap (λ b. fills test areas u k || b) (fills_more us t k) ∙ sym (or_all (fills test areas u k) (some_fills test areas us k) (fills test areas t k))

  -- one that fills nothing
  after_none : (front : List Transfer) (t : Transfer) (m : Contents) → ((k : ℕ) → fills test areas t k ≡ false) → After front m → After (front ++ t ∷ []) m
  after_none front t m none h = record {
    numbers = λ k. h.numbers k ∙ ap (λ b. is_number (store k) || b) (sym (fills_more front t k ∙ ap (λ b. some_fills test areas front k || b) (none k) ∙ or_false (some_fills test areas front k)));
    reach = h.reach;
  }

  number_placed : (a : ℕ) (bytes : List ℕ) (n : ℕ) (s : ℕ → SymByte) (k : ℕ) → length bytes ≡ n → is_number (placed a bytes s k) ≡ ((nat_le a k && nat_lt k (a + n)) || is_number (s k))
  number_placed a bytes n s k e =
      cond_both (nat_le a k && nat_lt k (a + length bytes)) (Num (slice_index bytes (k - a))) (s k) (λ u. is_number u ≡ ((nat_le a k && nat_lt k (a + n)) || is_number (s k)))
      (λ is. sym (ap (λ b. b || is_number (s k)) (within ∙ is)))
      (λ is. sym (ap (λ b. b || is_number (s k)) (within ∙ is)))
    where
      within : (nat_le a k && nat_lt k (a + n)) ≡ (nat_le a k && nat_lt k (a + length bytes))
      within = ap (λ l. nat_le a k && nat_lt k (a + l)) (sym e)

  after_get : (front : List Transfer) (t : Transfer) (m : Contents) → t.form ≡ Get → test t.tag ≡ true → After front m
      → After (front ++ t ∷ []) (record m { store = placed t.local (bytes_at (map stretch_of m.areas) t.ea t.size) m.store })
  after_get front t m form pass h = record {
    numbers = λ k.
        number_placed t.local (bytes_at (map stretch_of m.areas) t.ea t.size) (length (bytes_at (map stretch_of areas) t.ea t.size)) m.store k (h.reach t.ea t.size)
        ∙ ap₂ (λ b c. b || c) (sym (filled k)) (h.numbers k)
        ∙ or_swap (is_number (store k)) (some_fills test areas front k) (fills test areas t k)
        ∙ ap (λ b. is_number (store k) || b) (sym (fills_more front t k));
    reach = h.reach;
  }
    where
      filled : (k : ℕ) → fills test areas t k ≡ (nat_le t.local k && nat_lt k (t.local + length (bytes_at (map stretch_of areas) t.ea t.size)))
      filled k = ap (λ (f : Form). fills_by f test areas t k) form ∙ ap (λ b. b && (nat_le t.local k && nat_lt k (t.local + length (bytes_at (map stretch_of areas) t.ea t.size)))) pass

  -- ---- what a PUT reads

  before_some : (o : Option ℕ) (p : Option (List ℕ)) → is_some (before o p) ≡ (is_some o && is_some p)
  before_some None p = refl
  before_some (Some v) None = refl
  before_some (Some v) (Some vs) = refl

  number_some : (s : SymByte) → is_some (number_in s) ≡ is_number s
  number_some (Num v) = refl
  number_some (Part l k) = refl
  number_some Unknown = refl

  readable : (front : List Transfer) (m : Contents) → After front m → (a n : ℕ) → is_some (numbers_from m.store a n) ≡ is_readable store test areas front a n
  unfolding numbers_from is_readable
  readable front m h a zero = refl
  readable front m h a (suc n) =
      before_some (number_in (m.store a)) (numbers_from m.store (a + 1) n)
      ∙ ap₂ (λ b c. b && c) (number_some (m.store a) ∙ h.numbers a) (readable front m h (a + 1) n)

  land_none : (ts : List Transfer) → is_some (land_all ts None) ≡ false
  unfolding land_all
  land_none [] = refl
  land_none (t ∷ ts) = refl

  -- ---- all of them

  -- what is left to land behind one more
  abbrev Again : List Transfer → Transfer → List Transfer → Type 0
  Again front t ts = (m : Contents) → After (front ++ t ∷ []) m → all_land store test areas (front ++ t ∷ []) ts ≡ is_some (land_all (with_tags test ts) (Some m))

  lands_put : (front ts : List Transfer) (t : Transfer) (m : Contents) → t.form ≡ Put → After front m → Again front t ts → (o : Option (List ℕ))
      → (is_some o && all_land store test areas (front ++ t ∷ []) ts) ≡ is_some (land_all (with_tags test ts) (puts o t.ea m))
  lands_put front ts t m is h again None = sym (land_none (with_tags test ts))
  lands_put front ts t m is h again (Some bytes) =
      let kept = after_none front t m (λ k. ap (λ (f : Form). fills_by f test areas t k) is) h in
      again (record m { areas = written t.ea bytes m.areas }) (record { numbers = kept.numbers; reach = λ e n. same_length t.ea bytes m.areas e n ∙ h.reach e n })

  lands_now : (front ts : List Transfer) (t : Transfer) (m : Contents) (f : Form) → t.form ≡ f → test t.tag ≡ true → After front m → Again front t ts
      → (lands_by f store test areas front t && all_land store test areas (front ++ t ∷ []) ts) ≡ is_some (land_all (with_tags test ts) (land_by f t m))
  lands_now front ts t m Get is e h again = again (record m { store = placed t.local (bytes_at (map stretch_of m.areas) t.ea t.size) m.store }) (after_get front t m is e h)
  lands_now front ts t m Put is e h again =
      ap (λ b. b && all_land store test areas (front ++ t ∷ []) ts) (ap (λ b. not b || is_readable store test areas front t.local t.size) e ∙ sym (readable front m h t.local t.size))
      ∙ lands_put front ts t m is h again (numbers_from m.store t.local t.size)

  idle : (front : List Transfer) (t : Transfer) → test t.tag ≡ false → (f : Form) → lands_by f store test areas front t ≡ true
  idle front t e Put = ap (λ b. not b || is_readable store test areas front t.local t.size) e
  idle front t e Get = refl

  stays : (t : Transfer) → test t.tag ≡ false → (f : Form) → t.form ≡ f → (k : ℕ) → fills test areas t k ≡ false
  stays t e Put is k = ap (λ (f : Form). fills_by f test areas t k) is
  stays t e Get is k = ap (λ (f : Form). fills_by f test areas t k) is ∙ ap (λ b. b && (nat_le t.local k && nat_lt k (t.local + length (bytes_at (map stretch_of areas) t.ea t.size)))) e

  lands_one : (front ts : List Transfer) (t : Transfer) (m : Contents) (b : Bool) → test t.tag ≡ b → After front m → Again front t ts
      → (lands_by t.form store test areas front t && all_land store test areas (front ++ t ∷ []) ts) ≡ is_some (land_all (if b then t ∷ with_tags test ts else with_tags test ts) (Some m))
  unfolding land_all
  lands_one front ts t m true e h again = lands_now front ts t m t.form refl e h again
  lands_one front ts t m false e h again =
      ap (λ b. b && all_land store test areas (front ++ t ∷ []) ts) (idle front t e t.form) ∙ again m (after_none front t m (stays t e t.form refl) h)

  lands_from : (front ts : List Transfer) (m : Contents) → After front m → all_land store test areas front ts ≡ is_some (land_all (with_tags test ts) (Some m))
  unfolding all_land land_all
  lands_from front [] m h = refl
  lands_from front (t ∷ ts) m h = lands_one front ts t m (test t.tag) refl h (λ n k. lands_from (front ++ t ∷ []) ts n k)

  pub all_land_is : (queue : List Transfer) → all_land store test areas [] queue ≡ is_some (land_all (with_tags test queue) (Some (record { store = store; areas = areas })))
  all_land_is queue = lands_from [] queue (record { store = store; areas = areas }) (record { numbers = λ k. sym (or_false (is_number (store k))); reach = λ e n. refl })
