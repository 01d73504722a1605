-- Channels, but for commands and the tag status: what they give and take is the same on both machines.
use Rattle.std.proofs.Common.{◌≡◌, ℕ, ◌+◌, ◌-◌, List, [], ◌∷◌, ◌++◌, length, Option, Some, None, refl, sym, ap, ap₂, ◌∙◌, subst, arith, Bool, true, false, cond}
use Rattle.std.specs.Prelude.{◌==◌}
use Rattle.std.proofs.lemmas.Bool.{cond_both, cond-false, ne_eqb, eqb-true}
use Rattle.std.proofs.lemmas.Bool.Decides.{nat_tests}
use Rattle.spu_word.specs.Bytes.{quad_of}
use Rattle.spu_exec.specs.Places.{code_mask}
use Rattle.spu_exec.specs.Channels.{is_written, is_counted, is_update}
use Rattle.spu_exec.specs.Channels.{count_of}
use Rattle.spu_lift.specs.declared.program.SymInst.{SymInst}
use Rattle.spu_lift.specs.declared.program.Prog.{Prog}
use Rattle.spu_lift.specs.Places.{instruction_at}
use Rattle.spu_ls.specs.Machine.{State}
use Rattle.spu_ls.specs.Machine as machine
use Rattle.spu_ls.specs.declared.ending.RunEnd.TheVariants as ending
use Rattle.spu_ideal.specs.declared.ending.IdealEnd.TheVariants as ideal
use Rattle.spu_ideal.specs.Bytes.{numbers}
use Rattle.spu_ideal.specs.declared.state.Update.{Update}
use Rattle.spu_ideal.specs.declared.state.Update.TheVariants.{NoUpdate, Pending, UnknownUpdate}
use Rattle.spu_ideal.specs.State.{Sym, put, put_word, advances}
use Rattle.spu_ideal.specs.Channels.{sends, updates, takes, counted, unless_last, counts_by, counts}
use Rattle.spu_layout.specs.Layouts.{Layout, IsLaid}
use Rattle.spu_image.specs.Agreeing.{AgreesQuad}
use Rattle.spu_layout.specs.Labels.{code}
use Rattle.spu_image.proofs.Sound.{IsBounded}
use Rattle.spu_image.specs.Matching.{Matches}
use Rattle.spu_image.specs.Agreeing.{AgreesWord, AgreesUpdate}
use Rattle.spu_ideal.specs.Promises.{IsHigh}
use Rattle.spu_image.proofs.Promised.{Inside, Stepped}
use Rattle.spu_image.proofs.Agreement.{agrees_cond, agrees_numbers}
use Rattle.spu_image.proofs.Choosing.{choose, choose_by}
use Rattle.spu_image.proofs.Steps.{next_is, going, sets_hop, ends_hop}

-- a channel that isn't written
pub not_written : (n w a : ℕ) (m : State) → is_written n ≡ false → machine.writes n w a m ≡ machine.ends (ending.BadChannel n) m
not_written n w a m h =
    cond_both (n == 28) _ _ (λ q. q ≡ machine.ends (ending.BadChannel n) m) (λ e. wrong n 28 e h refl)
    (λ e. cond_both (n == 23) _ _ (λ q. q ≡ machine.ends (ending.BadChannel n) m) (λ e. wrong n 23 e h refl)
    (λ e. cond_both (n == 21) _ _ (λ q. q ≡ machine.ends (ending.BadChannel n) m) (λ e. wrong n 21 e h refl)
    (λ e. cond-false (is_written n) _ _ h)))
  where
    wrong : (n k : ℕ) {A : Type 0} → (n == k) ≡ true → is_written n ≡ false → is_written k ≡ true → A
    wrong n k e h t = absurd (clash (sym t ∙ ap is_written (sym (eqb-true n k e)) ∙ h))
      where
        clash : true ≡ false → ⊥
        clash q = cc

-- a count of another channel than 24 asks nothing of the update
other_count : (n : ℕ) (b c : Bool) (waiting left : ℕ) → (n == 24) ≡ false → count_of n b waiting left ≡ count_of n c waiting left
other_count n b c waiting left e = ap (λ q. cond (n == 21) (16 - waiting) q) (cond-false (n == 24) _ _ e ∙ sym (cond-false (n == 24) _ _ e))

module _ (p : Prog) (limit : ℕ) (l : Layout) (laid : IsLaid p limit l) (frames : ℕ → ℕ) where
  module _ (s : Sym) (m : State) (matched : Matches l s m) (sound : IsBounded m) (high : IsHigh p frames limit s) (x : SymInst) (here : instruction_at p s.f s.i ≡ Some x) where
    abbrev next : ℕ
    next = code_mask (m.pc + 4)

    pub sends_hop : (v w : ℕ) → w ≡ v → Inside (sends v p s) → Stepped l s.f m (sends v p s) (machine.sends w next m)
    sends_hop v w e =
        choose_by (Stepped l s.f m) (length s.output == 65536) (length m.output == 65536) _ _ _ _ (ap (λ ws. length ws == 65536) matched.output)
        (λ t ins. ends_hop p limit l laid frames s m matched sound high x here ideal.OutboxFull ending.OutboxFull refl)
        (λ t. going p limit l laid frames s m matched sound high x here (record s { output = s.output ++ v ∷ [] }) _ s.f (s.i + 1) (instruction_at p s.f (s.i + 1)) refl (λ y h. record {
          function = refl;
          matched = record {
            place = next_is p limit l laid frames s m matched sound high x here;
            regs = matched.regs;
            store = matched.store;
            channels = matched.channels;
            mask = matched.mask;
            update = matched.update;
            queue = matched.queue;
            areas = matched.areas;
            mail = matched.mail;
            output = ap₂ (λ ws u. ws ++ u ∷ []) matched.output e;
            ended = matched.ended;
          };
          kept = λ k h. refl;
          image = refl;
        }))

    pub updates_hop : (v w : ℕ) → w ≡ v → Inside (updates v p s) → Stepped l s.f m (updates v p s) (machine.updates w next m)
    updates_hop v w e =
        choose_by (Stepped l s.f m) (is_update v) (is_update w) _ _ _ _ (ap is_update e)
        (λ t. going p limit l laid frames s m matched sound high x here (record s { update = Pending v }) _ s.f (s.i + 1) (instruction_at p s.f (s.i + 1)) refl (λ y h. record {
          function = refl;
          matched = record {
            place = next_is p limit l laid frames s m matched sound high x here;
            regs = matched.regs;
            store = matched.store;
            channels = matched.channels;
            mask = matched.mask;
            update = ap Some e;
            queue = matched.queue;
            areas = matched.areas;
            mail = matched.mail;
            output = matched.output;
            ended = matched.ended;
          };
          kept = λ k h. refl;
          image = refl;
        }))
        (λ t ins. ends_hop p limit l laid frames s m matched sound high x here (ideal.BadChannel 23) (ending.BadChannel 23) refl)

    -- the tag mask
    pub masks_hop : (v w : ℕ) → w ≡ v → Inside (advances p s (record s { mask = v }))
        → Stepped l s.f m (advances p s (record s { mask = v })) (record m { channels = machine.put_word 22 w m.channels; pc = next; steps = m.steps + 1 })
    masks_hop v w e = going p limit l laid frames s m matched sound high x here (record s { mask = v }) _ s.f (s.i + 1) (instruction_at p s.f (s.i + 1)) refl (λ y h. record {
      function = refl;
      matched = record {
        place = next_is p limit l laid frames s m matched sound high x here;
        regs = matched.regs;
        store = matched.store;
        channels = λ k low up. subst (AgreesWord (s.channels k)) (sym (cond-false (k == 22) w (m.channels k) (ne_eqb k 22 (λ q. absurd (omega arith))))) (matched.channels k low up);
        mask = e;
        update = matched.update;
        queue = matched.queue;
        areas = matched.areas;
        mail = matched.mail;
        output = matched.output;
        ended = matched.ended;
      };
      kept = λ k h. refl;
      image = refl;
    })

    one_channel : (n v w k : ℕ) → w ≡ v → AgreesWord (s.channels k) (m.channels k) → AgreesWord (put_word n v s.channels k) (machine.put_word n w m.channels k)
    one_channel n v w k e h = by_same (k == n)
      where
        by_same : (b : Bool) → AgreesWord (cond b (Some v) (s.channels k)) (cond b w (m.channels k))
        by_same true = e
        by_same false = h

    pub puts_hop : (n v w : ℕ) → w ≡ v → (n == 22) ≡ false → Inside (advances p s (record s { channels = put_word n v s.channels }))
        → Stepped l s.f m (advances p s (record s { channels = put_word n v s.channels })) (record m { channels = machine.put_word n w m.channels; pc = next; steps = m.steps + 1 })
    puts_hop n v w e other = going p limit l laid frames s m matched sound high x here (record s { channels = put_word n v s.channels }) _ s.f (s.i + 1) (instruction_at p s.f (s.i + 1)) refl (λ y h. record {
      function = refl;
      matched = record {
        place = next_is p limit l laid frames s m matched sound high x here;
        regs = matched.regs;
        store = matched.store;
        channels = λ k low up. one_channel n v w k e (matched.channels k low up);
        mask = cond-false (22 == n) w (m.channels 22) (grind (arith, nat_tests)) ∙ matched.mask;
        update = matched.update;
        queue = matched.queue;
        areas = matched.areas;
        mail = matched.mail;
        output = matched.output;
        ended = matched.ended;
      };
      kept = λ k h. refl;
      image = refl;
    })

    -- ---- mail

    pub takes_hop : (mail : List ℕ) (t : ℕ) → Inside (takes mail t p s) → Stepped l s.f m (takes mail t p s) (machine.takes mail t next m)
    takes_hop [] t inside = ends_hop p limit l laid frames s m matched sound high x here ideal.Starved ending.Starved refl
    takes_hop (v ∷ mail) t inside = going p limit l laid frames s m matched sound high x here (record s { regs = put t (numbers (quad_of v 0 0 0)) s.regs; mail = mail }) _ s.f (s.i + 1) (instruction_at p s.f (s.i + 1)) refl (λ y h. record {
      function = refl;
      matched = record {
        place = next_is p limit l laid frames s m matched sound high x here;
        regs = λ r. agrees_cond (code l) (r == t) _ _ _ _ (agrees_numbers (code l) (quad_of v 0 0 0)) (matched.regs r);
        store = matched.store;
        channels = matched.channels;
        mask = matched.mask;
        update = matched.update;
        queue = matched.queue;
        areas = matched.areas;
        mail = refl;
        output = matched.output;
        ended = matched.ended;
      };
      kept = λ k h. refl;
      image = refl;
    }) inside

    -- ---- numbers into a register

    pub known_hop : (t v w : ℕ) → w ≡ v → (new : Sym) → new ≡ advances p s (record s { regs = put t (numbers (quad_of v 0 0 0)) s.regs }) → Inside new
        → Stepped l s.f m new (machine.sets t (quad_of w 0 0 0) next m)
    known_hop t v w e new is inside =
        subst (λ u. Stepped l s.f m u (machine.sets t (quad_of w 0 0 0) next m)) (sym is)
        (sets_hop p limit l laid frames s m matched sound high x here t (numbers (quad_of v 0 0 0)) (quad_of w 0 0 0)
        (subst (λ u. AgreesQuad (code l) (numbers (quad_of v 0 0 0)) (quad_of u 0 0 0)) (sym e) (agrees_numbers (code l) (quad_of v 0 0 0))) (subst Inside is inside))

    counted_hop : (n t : ℕ) (b c : Bool) → ((waiting left : ℕ) → count_of n c waiting left ≡ count_of n b waiting left) → Inside (counted n b t p s)
        → Stepped l s.f m (counted n b t p s) (machine.sets t (quad_of (count_of n c (length m.queue) (length m.mail)) 0 0 0) next m)
    counted_hop n t b c same =
        known_hop t _ _ (same (length m.queue) (length m.mail) ∙ ap₂ (λ q r. count_of n b (length q) (length r)) matched.queue matched.mail) (counted n b t p s) refl

    abbrev counts_real : ℕ → ℕ → Option ℕ → State
    counts_real n t u = machine.sets t (quad_of (count_of n (machine.is_pending u) (length m.queue) (length m.mail)) 0 0 0) next m

    outside_there : (o : Option SymInst) (n : State) → Inside (unless_last o s) → Stepped l s.f m (unless_last o s) n
    outside_there None n inside = absurd (inside tt)
    outside_there (Some y) n inside = absurd (inside tt)

    counts_by_hop : (u : Update) (n t : ℕ) → AgreesUpdate u m.update → Inside (counts_by u n t p s) → Stepped l s.f m (counts_by u n t p s) (counts_real n t m.update)
    counts_by_hop NoUpdate n t e inside = subst (λ u. Stepped l s.f m (counted n false t p s) (counts_real n t u)) (sym e) (counted_hop n t false false (λ q r. refl) inside)
    counts_by_hop (Pending v) n t e inside = subst (λ u. Stepped l s.f m (counted n true t p s) (counts_real n t u)) (sym e) (counted_hop n t true true (λ q r. refl) inside)
    counts_by_hop UnknownUpdate n t e inside =
        by_status (n == 24) refl inside
      where
        by_status : (b : Bool) → (n == 24) ≡ b → Inside (cond b (unless_last (instruction_at p s.f (s.i + 1)) s) (counted n false t p s))
            → Stepped l s.f m (cond b (unless_last (instruction_at p s.f (s.i + 1)) s) (counted n false t p s)) (counts_real n t m.update)
        by_status true is ins = outside_there (instruction_at p s.f (s.i + 1)) _ ins
        by_status false is ins = counted_hop n t false (machine.is_pending m.update) (λ q r. other_count n (machine.is_pending m.update) false q r is) ins

    pub counts_hop : (n t : ℕ) → Inside (counts n t p s) → Stepped l s.f m (counts n t p s) (machine.counts n t next m)
    counts_hop n t =
        choose (Stepped l s.f m) (is_counted n) _ _ _ _
        (λ is. counts_by_hop s.update n t matched.update)
        (λ is ins. ends_hop p limit l laid frames s m matched sound high x here (ideal.BadChannel n) (ending.BadChannel n) refl)
