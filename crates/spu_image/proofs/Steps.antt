-- One step within a function, by the kind of the instruction: the machine's state matches the symbolic one again.
use Rattle.std.proofs.Common.{◌≡◌, ℕ, zero, suc, ◌+◌, ◌-◌, ◌<◌, ◌≤◌, List, get_or, Option, Some, None, refl, sym, ap, ◌∙◌, subst, arith, inl, inr, Bool, true, false, cond}
use Rattle.std.specs.Prelude.{◌==◌, ◌&&◌, nat_le, nat_lt, slice_index}
use Rattle.std.proofs.lemmas.Bool.{cond_both}
use Rattle.std.proofs.lemmas.Bool.Decides.{nat_tests}
use Rattle.spu_exec.specs.Places.{code_mask}
use Rattle.spu_lift.specs.declared.program.SymInst.{SymInst}
use Rattle.spu_lift.specs.declared.program.Prog.{Prog}
use Rattle.spu_lift.specs.Places.{instruction_at}
use Rattle.spu_ls.specs.Stores.{Store, load, save}
use Rattle.spu_ls.specs.Machine.{State}
use Rattle.spu_ls.specs.Machine as machine
use Rattle.spu_ls.specs.declared.ending.RunEnd.{RunEnd}
use Rattle.spu_ideal.specs.declared.ending.IdealEnd.{IdealEnd}
use Rattle.spu_lift.specs.declared.program.Label.{Label}
use Rattle.spu_lift.specs.declared.symbolic.SymByte.{SymByte}
use Rattle.spu_ideal.specs.Bytes.{sym_at}
use Rattle.spu_ideal.specs.State.{Sym, put, ends, goes_to, goes, advances, sets}
use Rattle.spu_ideal.specs.Accesses.{is_allowed, loaded, saved, loads, stores}
use Rattle.spu_layout.specs.declared.layout.Span.{Span}
use Rattle.spu_layout.specs.Layouts.{Layout, Lies, IsShared, IsLaid}
use Rattle.spu_image.specs.Agreeing.{Agrees, AgreesQuad}
use Rattle.spu_layout.specs.Labels.{code}
use Rattle.spu_image.proofs.Sound.{IsBounded}
use Rattle.spu_image.specs.Matching.{SameEnd, Matches}
use Rattle.spu_ideal.specs.Promises.{IsHigh}
use Rattle.spu_image.proofs.Promised.{Inside, Stepped}
use Rattle.spu_image.proofs.Agreement.{agrees_cond, agrees_sixteen}
use Rattle.spu_image.proofs.Choosing.{unless_outside}

-- ---- bytes of a store

pub load_byte : (m : Store) (a k : ℕ) → k < 16 → get_or (load m a) k 0 ≡ m (a + k)
unfolding load
load_byte m a zero lt = ap m (omega arith)
load_byte m a (suc zero) lt = ap m (omega arith)
load_byte m a (suc (suc zero)) lt = ap m (omega arith)
load_byte m a (suc (suc (suc zero))) lt = ap m (omega arith)
load_byte m a (suc (suc (suc (suc zero)))) lt = ap m (omega arith)
load_byte m a (suc (suc (suc (suc (suc zero))))) lt = ap m (omega arith)
load_byte m a (suc (suc (suc (suc (suc (suc zero)))))) lt = ap m (omega arith)
load_byte m a (suc (suc (suc (suc (suc (suc (suc zero))))))) lt = ap m (omega arith)
load_byte m a (suc (suc (suc (suc (suc (suc (suc (suc zero)))))))) lt = ap m (omega arith)
load_byte m a (suc (suc (suc (suc (suc (suc (suc (suc (suc zero))))))))) lt = ap m (omega arith)
load_byte m a (suc (suc (suc (suc (suc (suc (suc (suc (suc (suc zero)))))))))) lt = ap m (omega arith)
load_byte m a (suc (suc (suc (suc (suc (suc (suc (suc (suc (suc (suc zero))))))))))) lt = ap m (omega arith)
load_byte m a (suc (suc (suc (suc (suc (suc (suc (suc (suc (suc (suc (suc zero)))))))))))) lt = ap m (omega arith)
load_byte m a (suc (suc (suc (suc (suc (suc (suc (suc (suc (suc (suc (suc (suc zero))))))))))))) lt = ap m (omega arith)
load_byte m a (suc (suc (suc (suc (suc (suc (suc (suc (suc (suc (suc (suc (suc (suc zero)))))))))))))) lt = ap m (omega arith)
load_byte m a (suc (suc (suc (suc (suc (suc (suc (suc (suc (suc (suc (suc (suc (suc (suc zero))))))))))))))) lt = ap m (omega arith)
load_byte m a (suc (suc (suc (suc (suc (suc (suc (suc (suc (suc (suc (suc (suc (suc (suc (suc k)))))))))))))))) lt = absurd (omega arith)

agrees_one : (c : Label → List ℕ) (b : Bool) (s t : SymByte) (v w : ℕ) → (b ≡ true → Agrees c s v) → (b ≡ false → Agrees c t w) → Agrees c (cond b s t) (cond b v w)
agrees_one c true s t v w h j = h refl
agrees_one c false s t v w h j = j refl

module _ (p : Prog) (limit : ℕ) (l : Layout) (laid : IsLaid p limit l) (frames : ℕ → ℕ) where
  -- ---- places

  pub stack_is : l.stack.from ≡ 262112 - limit
  stack_is = ap (λ (s : Span). s.from) laid.stack

  pub below : (f i : ℕ) (y : SymInst) → instruction_at p f i ≡ Some y → l.at f i + 4 ≤ 262112
  below f i y e = let a = laid.below f i (y, e) in omega (arith, a, stack_is)

  pub masked : (f i : ℕ) (y : SymInst) → instruction_at p f i ≡ Some y → code_mask (l.at f i) ≡ l.at f i
  masked f i y e = let a = below f i y e in let b = laid.aligned f i (y, e) in omega (arith, a, b)

  -- ---- what may be loaded and stored

  pub shared : (s : Sym) → IsHigh p frames limit s → (a n k : ℕ) → is_allowed p frames s a n ≡ true → k < n → IsShared l (a + k)
  shared s high a n k t lt = elim (high.allowed a n t) [
    | inl h ↦ inl (let low = h.0 in let up = h.1 in subst (λ (d : Span). Lies (a + k) d) (sym laid.data_area) (omega arith, omega arith))
    | inr h ↦ inr (let low = h.0 in let up = h.1 in subst (λ (d : Span). Lies (a + k) d) (sym laid.stack) (omega arith, omega arith))
  ]

  module _ (s : Sym) (m : State) (matched : Matches l s m) (sound : IsBounded m) (high : IsHigh p frames limit s) (x : SymInst) (here : instruction_at p s.f s.i ≡ Some x) where
    pub next_is : code_mask (m.pc + 4) ≡ l.at s.f (s.i + 1)
    next_is =
        let a : m.pc ≡ l.at s.f s.i = matched.place in
        let b = below s.f s.i x here in
        let c = laid.aligned s.f s.i (x, here) in
        let d : code_mask (m.pc + 4) ≡ l.at s.f s.i + 4 = omega (arith, a, b, c) in
        d ∙ sym (laid.next s.f s.i)

    -- on to a place, unless the code ends before it
    pub going : (new : Sym) (n : State) (f i : ℕ) (o : Option SymInst) → instruction_at p f i ≡ o
        → ((y : SymInst) → instruction_at p f i ≡ Some y → Stepped l f m (record new { f = f; i = i; steps = s.steps + 1 }) n)
        → Inside (goes_to o f i s new) → Stepped l f m (goes_to o f i s new) n
    going new n f i None e go inside = absurd (inside tt)
    going new n f i (Some y) e go inside = go y e

    pub sets_hop : (t : ℕ) (symbols : List SymByte) (quad : List ℕ) → AgreesQuad (code l) symbols quad
        → Inside (sets p t symbols s) → Stepped l s.f m (sets p t symbols s) (machine.sets t quad (code_mask (m.pc + 4)) m)
    sets_hop t symbols quad a = going (record s { regs = put t symbols s.regs }) _ s.f (s.i + 1) (instruction_at p s.f (s.i + 1)) refl (λ y e. record {
      function = refl;
      matched = record {
        place = next_is;
        regs = λ r. agrees_cond (code l) (r == t) symbols (s.regs r) quad (m.regs r) a (matched.regs r);
        store = matched.store;
        channels = matched.channels;
        mask = matched.mask;
        update = matched.update;
        queue = matched.queue;
        areas = matched.areas;
        mail = matched.mail;
        output = matched.output;
        ended = matched.ended;
      };
      kept = λ k h. refl;
      image = refl;
    })

    -- on to a place of the function, with nothing changed
    pub goes_hop : (i a : ℕ) → ((y : SymInst) → instruction_at p s.f i ≡ Some y → a ≡ l.at s.f i) → Inside (goes p s.f i s s) → Stepped l s.f m (goes p s.f i s s) (machine.goes a m)
    goes_hop i a is = going s _ s.f i (instruction_at p s.f i) refl (λ y e. record {
      function = refl;
      matched = record {
        place = is y e;
        regs = matched.regs;
        store = matched.store;
        channels = matched.channels;
        mask = matched.mask;
        update = matched.update;
        queue = matched.queue;
        areas = matched.areas;
        mail = matched.mail;
        output = matched.output;
        ended = matched.ended;
      };
      kept = λ k h. refl;
      image = refl;
    })

    pub advances_hop : Inside (advances p s s) → Stepped l s.f m (advances p s s) (machine.goes (code_mask (m.pc + 4)) m)
    advances_hop = goes_hop (s.i + 1) (code_mask (m.pc + 4)) (λ y e. next_is)

    pub ends_hop : (e : IdealEnd) (d : RunEnd) → SameEnd l (Some e) (Some d) → Stepped l s.f m (ends e s) (machine.ends d m)
    ends_hop e d same = record {
      function = refl;
      matched = record {
        place = matched.place;
        regs = matched.regs;
        store = matched.store;
        channels = matched.channels;
        mask = matched.mask;
        update = matched.update;
        queue = matched.queue;
        areas = matched.areas;
        mail = matched.mail;
        output = matched.output;
        ended = same;
      };
      kept = λ k h. refl;
      image = refl;
    }

    -- ---- loads and stores

    loaded_agrees : (a : ℕ) → is_allowed p frames s a 16 ≡ true → AgreesQuad (code l) (loaded a s.store) (load m.store a)
    loaded_agrees a t = agrees_sixteen (code l) (λ k. s.store (a + k)) (load m.store a)
        (λ k lt. subst (Agrees (code l) (s.store (a + k))) (sym (load_byte m.store a k lt)) (matched.store (a + k) (shared s high a 16 k t lt)))

    pub loads_hop : (o : Option ℕ) (a t : ℕ) → ((n : ℕ) → o ≡ Some n → a ≡ n)
        → Inside (loads o p frames t s) → Stepped l s.f m (loads o p frames t s) (machine.sets t (load m.store a) (code_mask (m.pc + 4)) m)
    loads_hop None a t is inside = absurd (inside tt)
    loads_hop (Some n) a t is inside =
        subst (λ b. Stepped l s.f m (loads (Some n) p frames t s) (machine.sets t (load m.store b) (code_mask (m.pc + 4)) m)) (sym (is n refl))
        (unless_outside (Stepped l s.f m) (is_allowed p frames s n 16) _ _ _ tt
        (λ ok ins. sets_hop t (loaded n s.store) (load m.store n) (loaded_agrees n ok) ins) inside)

    stored_agrees : (n t : ℕ) (a : ℕ) → IsShared l a → Agrees (code l) (saved n (s.regs t) s.store a) (save m.store n (m.regs t) a)
    unfolding save
    stored_agrees n t a h =
        agrees_one (code l) (nat_le n a && nat_lt a (n + 16)) (sym_at (s.regs t) (a - n)) (s.store a) (slice_index (m.regs t) (a - n)) (m.store a)
        (λ is. matched.regs t (a - n) (grind (arith, nat_tests))) (λ is. matched.store a h)

    stored_kept : (n t : ℕ) → is_allowed p frames s n 16 ≡ true → (a : ℕ) → (IsShared l a → ⊥) → save m.store n (m.regs t) a ≡ m.store a
    unfolding save
    stored_kept n t ok a out =
        cond_both (nat_le n a && nat_lt a (n + 16)) (slice_index (m.regs t) (a - n)) (m.store a) (λ v. v ≡ m.store a)
        (λ is.
        let low : n ≤ a = grind (arith, nat_tests) in
        let up : a < n + 16 = grind (arith, nat_tests) in
        let e : n + (a - n) ≡ a = omega arith in
        absurd (out (subst (IsShared l) e (shared s high n 16 (a - n) ok (omega arith)))))
        (λ is. refl)

    pub stores_hop : (o : Option ℕ) (a t : ℕ) → ((n : ℕ) → o ≡ Some n → a ≡ n)
        → Inside (stores o p frames t s) → Stepped l s.f m (stores o p frames t s) (machine.saves a t (code_mask (m.pc + 4)) m)
    stores_hop None a t is inside = absurd (inside tt)
    stores_hop (Some n) a t is inside =
        subst (λ b. Stepped l s.f m (stores (Some n) p frames t s) (machine.saves b t (code_mask (m.pc + 4)) m)) (sym (is n refl))
        (unless_outside (Stepped l s.f m) (is_allowed p frames s n 16) _ _ _ tt (λ ok ins.
        going (record s { store = saved n (s.regs t) s.store }) _ s.f (s.i + 1) (instruction_at p s.f (s.i + 1)) refl (λ y e. record {
          function = refl;
          matched = record {
            place = next_is;
            regs = matched.regs;
            store = stored_agrees n t;
            channels = matched.channels;
            mask = matched.mask;
            update = matched.update;
            queue = matched.queue;
            areas = matched.areas;
            mail = matched.mail;
            output = matched.output;
            ended = matched.ended;
          };
          kept = stored_kept n t ok;
          image = refl;
        }) ins) inside)
