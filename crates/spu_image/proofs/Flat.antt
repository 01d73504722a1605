-- Calls, returns and jumps in a flat layout: one step of the machine leads to the place that is meant, with the link that is meant.
use Rattle.std.proofs.Common.{◌≡◌, ℕ, ◌+◌, List, Some, refl, sym, ap, ap₂, ◌∙◌, subst, inl, inr, cond}
use Rattle.std.specs.Prelude.{◌==◌, ◌&&◌, ◌||◌}
use Rattle.spu_word.specs.Bytes.{word_of, quad_of}
use Rattle.spu_exec.specs.Places.{code_mask}
use Rattle.spu_lift.specs.declared.program.SymInst.{SymInst}
use Rattle.spu_lift.specs.declared.program.Prog.{Prog}
use Rattle.spu_lift.specs.Places.{instruction_at}
use Rattle.spu_ls.specs.Machine.{State}
use Rattle.spu_ls.specs.Machine as machine
use Rattle.spu_lift.specs.declared.program.Label.TheVariants.{Link}
use Rattle.spu_ideal.specs.Bytes.{link_of}
use Rattle.spu_ideal.specs.declared.state.OpenCall.{OpenCall}
use Rattle.spu_ideal.specs.State.{Sym, forgets, goes}
use Rattle.spu_ideal.specs.Machine.{opens, calls}
use Rattle.spu_layout.specs.Layouts.{Layout, IsLaid, IsFlat}
use Rattle.spu_image.specs.Agreeing.{AgreesQuad}
use Rattle.spu_layout.specs.Labels.{link_by, code, call_target, jump_target}
use Rattle.spu_image.proofs.Sound.{IsBounded}
use Rattle.spu_image.specs.Matching.{Matches}
use Rattle.spu_ideal.specs.Promises.{IsHigh}
use Rattle.spu_image.proofs.Promised.{Inside, Stepped}
use Rattle.spu_image.proofs.Agreement.{agrees_cond, agrees_link, agrees_forgotten, words_forgotten, link_leads}
use Rattle.spu_image.proofs.Leaving.{leads_to, IsWay, Ways}
use Rattle.spu_image.proofs.Steps.{next_is, going, goes_hop}

module _ (p : Prog) (limit : ℕ) (l : Layout) (laid : IsLaid p limit l) (flat : IsFlat l) (frames : ℕ → ℕ) where
  link_is : (f i : ℕ) → code l (Link f i) ≡ quad_of (l.at f i) 0 0 0
  link_is f i = ap (λ r. link_by l r (l.at f i)) (flat.region f)

  flat_call : (f g : ℕ) → call_target l f g ≡ l.at g 0
  flat_call f g = ap₂ (λ r q. cond ((r == 0) && (q == 0)) (l.at g 0) (l.entry g)) (flat.region f) (flat.region g)

  flat_jump : (f g : ℕ) → jump_target l f g ≡ l.at g 0
  flat_jump f g = ap (λ q. cond ((q == 0) || (q == l.region f)) (l.at g 0) (l.entry g)) (flat.region g)

  module _ (s : Sym) (m : State) (matched : Matches l s m) (sound : IsBounded m) (high : IsHigh p frames limit s) (x : SymInst) (here : instruction_at p s.f s.i ≡ Some x) where
    abbrev at_next : ℕ
    at_next = code_mask (m.pc + 4)

    -- a return or a jump: what calls are open is the symbolic machine's alone
    pub leaves_hop : (cs : List OpenCall) (f i a : ℕ) → ((y : SymInst) → instruction_at p f i ≡ Some y → a ≡ l.at f i)
        → Inside (goes p f i s (forgets (record s { calls = cs }))) → Stepped l f m (goes p f i s (forgets (record s { calls = cs }))) (machine.goes a m)
    leaves_hop cs f i a is = going p limit l laid frames s m matched sound high x here (forgets (record s { calls = cs })) _ f i (instruction_at p f i) refl (λ y e. record {
      function = refl;
      matched = record {
        place = is y e;
        regs = agrees_forgotten (code l) s.regs m.regs matched.regs;
        store = matched.store;
        channels = words_forgotten s.channels m.channels matched.channels;
        mask = matched.mask;
        update = tt;
        queue = matched.queue;
        areas = matched.areas;
        mail = matched.mail;
        output = matched.output;
        ended = matched.ended;
      };
      kept = λ k h. refl;
      image = refl;
    })

    link_agrees : AgreesQuad (code l) (link_of s.f (s.i + 1)) (quad_of at_next 0 0 0)
    link_agrees =
        subst (AgreesQuad (code l) (link_of s.f (s.i + 1)))
        (link_is s.f (s.i + 1) ∙ ap (λ a. quad_of a 0 0 0) (sym (next_is p limit l laid frames s m matched sound high x here)))
        (agrees_link (code l) s.f (s.i + 1))

    pub calls_hop : (g a : ℕ) → ((y : SymInst) → instruction_at p g 0 ≡ Some y → a ≡ l.at g 0)
        → Inside (calls p g s) → Stepped l g m (calls p g s) (machine.sets 0 (quad_of at_next 0 0 0) a m)
    calls_hop g a is = going p limit l laid frames s m matched sound high x here (forgets (opens s)) _ g 0 (instruction_at p g 0) refl (λ y e. record {
      function = refl;
      matched = record {
        place = is y e;
        regs = agrees_forgotten (code l) _ _ (λ r. agrees_cond (code l) (r == 0) _ _ _ _ link_agrees (matched.regs r));
        store = matched.store;
        channels = words_forgotten s.channels m.channels matched.channels;
        mask = matched.mask;
        update = tt;
        queue = matched.queue;
        areas = matched.areas;
        mail = matched.mail;
        output = matched.output;
        ended = matched.ended;
      };
      kept = λ k h. refl;
      image = refl;
    })

    own : (f : ℕ) (t : Sym) (n : State) → Stepped l f m t n → Stepped l t.f m t n
    own f t n h = record { function = refl; matched = h.matched; kept = h.kept; image = h.image }

    pub flat_ways : Ways p l s m (λ t n. Stepped l t.f m t n)
    unfolding IsWay
    flat_ways = record {
      stay = λ t n h. record { function = refl; matched = h.matched; kept = h.kept; image = h.image };
      place = λ i a is ins. own _ _ _ (goes_hop p limit l laid frames s m matched sound high x here i a is ins);
      return = λ cs f i link ins. own _ _ _ (leaves_hop cs f i (code_mask (word_of (m.regs 0) 0))
          (λ y e. leads_to p limit l laid frames f i (word_of (m.regs 0) 0) y e (link_leads (code l) f i (s.regs 0) (m.regs 0) link (matched.regs 0) ∙ ap (λ q. word_of q 0) (link_is f i))) ins);
      jump = λ f i g a link way ins. own _ _ _ (leaves_hop s.calls g 0 a (λ y e. elim (way y e) [ inl h ↦ h ∙ flat_jump s.f g | inr h ↦ h ∙ flat.entry g ]) ins);
      call = λ g a way ins. own _ _ _ (calls_hop g a (λ y e. elim (way y e) [ inl h ↦ h ∙ flat_call s.f g | inr h ↦ h ∙ flat.entry g ]) ins);
    }
