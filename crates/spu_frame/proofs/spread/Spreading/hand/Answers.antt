use Rattle.std.proofs.Common.{◌≡◌, List, inl, inr, sym, ap, ◌∙◌, subst, arith, rules, ℤ, FitsSigned, w64, to_z, of_z}
use Rattle.std.proofs.lemmas.Int.{ints}
use Rattle.spu_word.specs.Chains.{lists_of}
use Rattle.spu_frame.specs.declared.met.Met.{Met}
use Rattle.spu_frame.specs.declared.met.Met.TheVariants.{Once, Twice}
use Rattle.spu_frame.specs.Surveys.{Hands, Covers, met_at}
use Rattle.std.specs.Prelude.{slice_set}
use Rattle.spu_frame.proofs.Handing.{covered, taken_first, taken_second}
use Rattle.spu_frame.proofs.spread.Spreading.hand.Goals as goal

as_bits : (d : ℤ) → FitsSigned w64 d → to_z w64 (of_z w64 d) ≡ d
as_bits d f = omega (arith, ints, f)

pub returns-in-Never : goal.returns-in-Never
returns-in-Never c =
    let old = c.args.self.now in
    let at = ap (λ (ms : List Met). met_at ms c.args.node) (sym c.deref.ensures.value) ∙ sym c.in-Never.ensures in
    let g : FitsSigned w64 c.args.depth = search rules in
    subst (λ (ms : List Met). Hands (λ k. k ≡ c.args.node) (Once c.args.depth) old.met.items (lists_of old.waiting 0) ms (lists_of c.set.new.self.waiting 0)) (sym (c.set.ensures.met ∙ ap (λ z. slice_set old.met.items c.args.node (Once z)) (as_bits c.args.depth g)))
    (taken_first c.args.node c.args.depth old.met.items (lists_of old.waiting 0) c.requires (lists_of c.set.new.self.waiting 0) c.set.ensures.on c.set.ensures.stay c.set.ensures.longer at)

pub returns-then-d-depth : goal.returns-then-d-depth
returns-then-d-depth c =
    let old = c.args.self.now in
    let set = c.set-then-d-depth in
    let at = ap (λ (ms : List Met). met_at ms c.args.node) (sym c.deref.ensures.value) ∙ sym c.in-Once.ensures in
    let f : FitsSigned w64 c.in-Once.d = search rules in
    let g : FitsSigned w64 c.args.depth = search rules in
    subst (λ (ms : List Met). Hands (λ k. k ≡ c.args.node) (Once c.args.depth) old.met.items (lists_of old.waiting 0) ms (lists_of set.new.self.waiting 0)) (sym (set.ensures.met ∙ ap (λ z. slice_set old.met.items c.args.node (Twice z (to_z w64 (of_z w64 c.args.depth)))) (as_bits c.in-Once.d f) ∙ ap (λ z. slice_set old.met.items c.args.node (Twice c.in-Once.d z)) (as_bits c.args.depth g)))
    (taken_second c.args.node c.args.depth old.met.items (lists_of old.waiting 0) c.requires (lists_of set.new.self.waiting 0) set.ensures.on set.ensures.stay set.ensures.longer c.in-Once.d at (λ e. c.if-d-depth.true (ap (of_z w64) e)))

same_bits : (d e : ℤ) → FitsSigned w64 d → FitsSigned w64 e → of_z w64 d ≡ of_z w64 e → d ≡ e
same_bits d e f g h = omega (arith, ints, f, g, ap (to_z w64) h)

pub returns-else-d-depth : goal.returns-else-d-depth
returns-else-d-depth c =
    let old = c.args.self.now in
    let at = ap (λ (ms : List Met). met_at ms c.args.node) (sym c.deref.ensures.value) ∙ sym c.in-Once.ensures in
    let f : FitsSigned w64 c.in-Once.d = search rules in
    let g : FitsSigned w64 c.args.depth = search rules in
    covered c.args.node c.args.depth old.met.items (lists_of old.waiting 0) c.requires (subst (λ (m : Met). Covers m c.args.depth) (sym at) (inl (same_bits c.in-Once.d c.args.depth f g c.if-d-depth.false)))

pub returns-in-Twice : goal.returns-in-Twice
returns-in-Twice c =
    let old = c.args.self.now in
    let at = ap (λ (ms : List Met). met_at ms c.args.node) (sym c.deref.ensures.value) ∙ sym c.in-Twice.ensures in
    covered c.args.node c.args.depth old.met.items (lists_of old.waiting 0) c.requires (subst (λ (m : Met). Covers m c.args.depth) (sym at) (inr tt))
