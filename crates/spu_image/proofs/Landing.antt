-- Transfers land alike on both machines.
use Rattle.std.proofs.Common.{◌≡◌, ℕ, zero, suc, ◌+◌, ◌-◌, ◌<◌, ◌≤◌, List, [], ◌∷◌, length, map, Option, Some, None, refl, sym, ap, ap₂, ◌∙◌, subst, arith, inl, inr, Bool, true, false, cond}
use Rattle.std.specs.Prelude.{◌&&◌, nat_le, nat_lt, slice_index}
use Rattle.std.specs.List.{AllByRecursion}
use Rattle.std.proofs.lemmas.Bool.{cond_both, cond-false}
use Rattle.std.proofs.lemmas.Bool.Decides.{nat_tests}
use Rattle.spu_word.specs.declared.load.Area.{Area}
use Rattle.spu_exec.specs.declared.transfers.Form.{Form}
use Rattle.spu_exec.specs.declared.transfers.Form.TheVariants.{Put, Get}
use Rattle.spu_exec.specs.declared.transfers.Transfer.{Transfer}
use Rattle.spu_exec.specs.Transfers.{Stretch, stretch_of, holds_range}
use Rattle.spu_exec.specs.Areas.{bytes_at, written}
use Rattle.spu_lift.specs.declared.program.Prog.{Prog}
use Rattle.spu_ls.specs.Stores.{Store, bytes_from}
use Rattle.spu_ls.specs.Stores as stores
use Rattle.spu_ls.specs.Landing.{Memory}
use Rattle.spu_ls.specs.Landing as machine
use Rattle.spu_lift.specs.declared.program.Label.{Label}
use Rattle.spu_lift.specs.declared.symbolic.SymByte.{SymByte}
use Rattle.spu_lift.specs.declared.symbolic.SymByte.TheVariants.{Num}
use Rattle.spu_ideal.specs.Bytes.{number_in}
use Rattle.spu_ideal.specs.Channels.{Contents, before, numbers_from, placed, puts, land_by, land_all}
use Rattle.spu_layout.specs.declared.layout.Span.{Span}
use Rattle.spu_layout.specs.Layouts.{Layout, Lies, IsShared, IsLaid}
use Rattle.spu_image.specs.Agreeing.{Agrees}
use Rattle.spu_layout.specs.Labels.{code}
use Rattle.spu_image.proofs.Sound.{IsApartFrom, apart_areas}
use Rattle.spu_ideal.specs.Promises.{IsReached, IsSafe}
use Rattle.spu_image.proofs.Agreement.{number_is}
use Rattle.spu_ideal.proofs.Areas.{same_taken}
use Rattle.spu_ls.specs.Sound.{IsSoundMemory}
use Rattle.spu_ls.proofs.Memories.{land_sound}
use Rattle.spu_image.proofs.Areas.{taken_parts, not_image, read_length}

-- ---- bytes that are numbers

record Parts (o : Option ℕ) (os : Option (List ℕ)) (bytes : List ℕ) : Type 0 where
  first : ℕ
  rest : List ℕ
  number : o ≡ Some first
  others : os ≡ Some rest
  is : bytes ≡ first ∷ rest

parts : (o : Option ℕ) (os : Option (List ℕ)) (bytes : List ℕ) → before o os ≡ Some bytes → Parts o os bytes
parts (Some v) (Some vs) bytes e = record { first = v; rest = vs; number = refl; others = refl; is = sym (some_list (v ∷ vs) bytes e) }
  where
    some_list : (q r : List ℕ) → Some q ≡ Some r → q ≡ r
    some_list q r e = cc
parts (Some v) None bytes e = cc
parts None os bytes e = cc

same_bytes : (c : Label → List ℕ) (m : ℕ → SymByte) (g : Store) (n a : ℕ) (bytes : List ℕ) → ((k : ℕ) → k < n → Agrees c (m (a + k)) (g (a + k))) → numbers_from m a n ≡ Some bytes → bytes_from g a n ≡ bytes
unfolding numbers_from
same_bytes c m g zero a bytes h e = cc
same_bytes c m g (suc n) a bytes h e =
    let q = parts (number_in (m a)) (numbers_from m (a + 1) n) bytes e in
    let here : Agrees c (m a) (g a) = (let z : a + 0 ≡ a = omega arith in subst (λ i. Agrees c (m i) (g i)) z (h 0 (omega arith))) in
    let v : g a ≡ q.first = number_is c (m a) (g a) q.first here q.number in
    let r : bytes_from g (a + 1) n ≡ q.rest = same_bytes c m g n (a + 1) q.rest (λ k lt. let z : a + suc k ≡ a + 1 + k = omega arith in subst (λ i. Agrees c (m i) (g i)) z (h (suc k) (omega arith))) q.others in
    ap₂ (λ w ws. w ∷ ws) v r ∙ sym q.is

-- ---- one transfer

-- the contents of both machines are alike
pub record Alike (l : Layout) (c : Contents) (g : Memory) : Type 0 where
  pub areas : g.areas ≡ c.areas
  pub store : (a : ℕ) → IsShared l a → Agrees (code l) (c.store a) (g.store a)

-- they are alike again, and only shared bytes have changed
pub record Landed (l : Layout) (g : Memory) (c : Contents) (h : Memory) : Type 0 where
  pub alike : Alike l c h
  pub kept : (a : ℕ) → (IsShared l a → ⊥) → h.store a ≡ g.store a

-- what can be carried out in these areas can be in others
unfoldable pub AreAsSafe : Prog → ℕ → List Area → List Area → Type 0
AreAsSafe p limit areas others = (t : Transfer) → IsSafe p limit areas t → IsSafe p limit others t

pub agrees_placed : (c : Label → List ℕ) (b : Bool) (s : SymByte) (v w : ℕ) → (b ≡ false → Agrees c s w) → Agrees c (cond b (Num v) s) (cond b v w)
agrees_placed c true s v w h = refl
agrees_placed c false s v w h = h refl

module _ (p : Prog) (limit : ℕ) (l : Layout) (laid : IsLaid p limit l) (image : Stretch) where
  pub reached_shared : (a n k : ℕ) → IsReached p limit a n → k < n → IsShared l (a + k)
  reached_shared a n k h lt = elim h [
    | inl h ↦ inl (let low = h.0 in let up = h.1 in subst (λ (d : Span). Lies (a + k) d) (sym laid.data_area) (omega arith, omega arith))
    | inr h ↦ inr (let low = h.0 in let up = h.1 in subst (λ (d : Span). Lies (a + k) d) (sym laid.stack) (omega arith, omega arith))
  ]

  put_lands : (t : Transfer) (c d : Contents) (g : Memory) → Alike l c g → IsSafe p limit c.areas t → land_by Put t c ≡ Some d → Landed l g d (machine.land_by Put image t g) × AreAsSafe p limit c.areas d.areas
  unfolding AreAsSafe
  put_lands t c d g alike safe e = by_bytes (numbers_from c.store t.local t.size) refl e
    where
      by_bytes : (o : Option (List ℕ)) → numbers_from c.store t.local t.size ≡ o → puts o t.ea c ≡ Some d → Landed l g d (machine.land_by Put image t g) × AreAsSafe p limit c.areas d.areas
      by_bytes None n e = absurd (no_contents d e)
        where
          no_contents : (d : Contents) → None ≡ Some d → ⊥
          no_contents d e = cc
      by_bytes (Some bytes) n e =
          let is : record c { areas = written t.ea bytes c.areas } ≡ d = some_contents (record c { areas = written t.ea bytes c.areas }) d e in
          let same : bytes_from g.store t.local t.size ≡ bytes = same_bytes (code l) c.store g.store t.size t.local bytes (λ k lt. alike.store (t.local + k) (reached_shared t.local t.size k safe.reached lt)) n in
          subst (λ d. Landed l g d (machine.land_by Put image t g) × AreAsSafe p limit c.areas d.areas) is (
            record {
              alike = record {
                areas = ap₂ (λ bs as_. written t.ea bs as_) same alike.areas;
                store = alike.store;
              };
              kept = λ a h. refl;
            },
            λ u h. record { taken = same_taken t.ea bytes c.areas u h.taken; reached = h.reached },
          )
        where
          some_contents : (c d : Contents) → Some c ≡ Some d → c ≡ d
          some_contents c d e = cc

  placed_alike : (t : Transfer) (c : Contents) (g : Memory) → Alike l c g → IsSafe p limit c.areas t → (bytes : List ℕ) → length bytes ≤ t.size → Landed l g (record c { store = placed t.local bytes c.store }) (record g { store = stores.placed t.local bytes g.store })
  unfolding stores.placed
  placed_alike t c g alike safe bytes few = record {
    alike = record {
      areas = alike.areas;
      store = λ a h. agrees_placed (code l) (nat_le t.local a && nat_lt a (t.local + length bytes)) (c.store a) (slice_index bytes (a - t.local)) (g.store a) (λ is. alike.store a h);
    };
    kept = λ a out. cond_both (nat_le t.local a && nat_lt a (t.local + length bytes)) (slice_index bytes (a - t.local)) (g.store a) (λ v. v ≡ g.store a)
        (λ is.
        let low : t.local ≤ a = grind (arith, nat_tests) in
        let up : a < t.local + length bytes = grind (arith, nat_tests) in
        let e : t.local + (a - t.local) ≡ a = omega arith in
        absurd (out (subst (IsShared l) e (reached_shared t.local t.size (a - t.local) safe.reached (omega arith)))))
        (λ is. refl);
  }

  get_lands : (t : Transfer) (c : Contents) (g : Memory) → Alike l c g → AllByRecursion (IsApartFrom image) g.areas → IsSafe p limit c.areas t
      → Landed l g (record c { store = placed t.local (bytes_at (map stretch_of c.areas) t.ea t.size) c.store }) (machine.land_by Get image t g)
  get_lands t c g alike away safe =
      let taken = taken_parts c.areas t safe.taken in
      let apart : AllByRecursion (IsApartFrom image) c.areas = subst (AllByRecursion (IsApartFrom image)) alike.areas away in
      let read : bytes_at (image ∷ map stretch_of g.areas) t.ea t.size ≡ bytes_at (map stretch_of c.areas) t.ea t.size =
      cond-false (holds_range t.ea t.size image) _ _ (not_image image c.areas t.ea t.size apart taken.some taken.held) ∙ ap (λ xs. bytes_at (map stretch_of xs) t.ea t.size) alike.areas in
      let bytes = bytes_at (map stretch_of c.areas) t.ea t.size in
      let few = read_length (map stretch_of c.areas) t.ea t.size in
      subst (λ bs. Landed l g (record c { store = placed t.local bytes c.store }) (record g { store = stores.placed t.local bs g.store })) (sym read)
      (placed_alike t c g alike safe bytes few)

  -- ---- all of them

  one_lands : (form : Form) (t : Transfer) (c d : Contents) (g : Memory) → Alike l c g → AllByRecursion (IsApartFrom image) g.areas → IsSafe p limit c.areas t → land_by form t c ≡ Some d → Landed l g d (machine.land_by form image t g) × AreAsSafe p limit c.areas d.areas
  unfolding AreAsSafe
  one_lands Put t c d g alike away safe e = put_lands t c d g alike safe e
  one_lands Get t c d g alike away safe e =
      let is : record c { store = placed t.local (bytes_at (map stretch_of c.areas) t.ea t.size) c.store } ≡ d = some_contents _ d e in
      subst (λ d. Landed l g d (machine.land_by Get image t g) × AreAsSafe p limit c.areas d.areas) is (get_lands t c g alike away safe, λ u h. h)
    where
      some_contents : (c d : Contents) → Some c ≡ Some d → c ≡ d
      some_contents c d e = cc

  pub still_safe : (areas others : List Area) (ts : List Transfer) → AreAsSafe p limit areas others → AllByRecursion (IsSafe p limit areas) ts → AllByRecursion (IsSafe p limit others) ts
  unfolding AreAsSafe
  still_safe areas others [] h q = tt
  still_safe areas others (t ∷ ts) h q = (h t q.0, still_safe areas others ts h q.1)

  land_none : (ts : List Transfer) (d : Contents) → land_all ts None ≡ Some d → ⊥
  unfolding land_all
  land_none [] d e = cc
  land_none (t ∷ ts) d e = cc

  -- a transfer that lands leaves a sound memory
  one_sound : (t : Transfer) (g : Memory) → IsSoundMemory image g → IsSoundMemory image (machine.land_by t.form image t g)
  unfolding machine.land
  one_sound t g sound = land_sound image (t ∷ []) g sound

  pub all_land : (ts : List Transfer) (c d : Contents) (g : Memory) → Alike l c g → IsSoundMemory image g → AllByRecursion (IsSafe p limit c.areas) ts → land_all ts (Some c) ≡ Some d → Landed l g d (machine.land image ts g)
  unfolding land_all machine.land
  all_land [] c d g alike sound safe e =
      let is : c ≡ d = some_contents c d e in
      record { alike = subst (λ d. Alike l d g) is alike; kept = λ a h. refl }
    where
      some_contents : (c d : Contents) → Some c ≡ Some d → c ≡ d
      some_contents c d e = cc
  all_land (t ∷ ts) c d g alike sound safe e =
      by_first (land_by t.form t c) (λ b a q r. all_land ts b d (machine.land_by t.form image t g) a (one_sound t g sound) q r) refl e
    where
      by_first : (o : Option Contents) → ((b : Contents) → Alike l b (machine.land_by t.form image t g) → AllByRecursion (IsSafe p limit b.areas) ts → land_all ts (Some b) ≡ Some d → Landed l (machine.land_by t.form image t g) d (machine.land image ts (machine.land_by t.form image t g)))
          → land_by t.form t c ≡ o → land_all ts o ≡ Some d → Landed l g d (machine.land image ts (machine.land_by t.form image t g))
      by_first None again is e = absurd (land_none ts d e)
      by_first (Some b) again is e =
          let one = one_lands t.form t c b g alike (apart_areas image [] g.areas sound.apart) safe.0 is in
          let rest = again b one.0.alike (still_safe c.areas b.areas ts one.1 safe.1) e in
          record { alike = rest.alike; kept = λ a h. rest.kept a h ∙ one.0.kept a h }
