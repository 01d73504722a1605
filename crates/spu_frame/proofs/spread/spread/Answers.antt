use Rattle.std.proofs.Common.{◌≡◌, ◌+◌, ℕ, List, [], Option, Some, None, IfNone, length, replicate, refl, sym, ap, subst, arith, pos}
use Rattle.spu_word.specs.Chains.{lists_of}
use Rattle.spu_lift.specs.declared.program.SymInst.{SymInst}
use Rattle.spu_frame.specs.declared.met.Met.{Met}
use Rattle.spu_frame.specs.declared.met.Met.TheVariants.{Never, Once}
use Rattle.spu_frame.specs.Surveys.{Keeps, met_at, behind_node, Hands, IsWay, IsSpread}
use Rattle.spu_frame.proofs.Spreading.{spread_starts, spread_goes, spread_small, spread_ends}
use Rattle.spu_frame.proofs.spread.spread.Goals as goal

pub loop-node-init : goal.loop-node-init
loop-node-init c =
    let s = c.in_ok-spread.spread in
    let new = c.hand.new.self in
    let n = length c.code_of.result.now + 1 in
    let whole = ap (λ (cs : List SymInst). length cs) c.code_of.ensures in
    spread_starts c.args.p.now c.requires.formed c.args.f c.requires.f c.args.known.now c.requires.known n new.met.items (lists_of new.waiting 0) (omega (arith, whole))
    (subst (λ (ws : List ℕ). Hands (λ k. k ≡ 0) (Once (pos 0)) (replicate n Never) ws new.met.items (lists_of new.waiting 0)) c.in_ok-spread.ensures.waiting
    (subst (λ (ms : List Met). Hands (λ k. k ≡ 0) (Once (pos 0)) ms (lists_of s.waiting 0) new.met.items (lists_of new.waiting 0)) c.in_ok-spread.ensures.met c.hand.ensures))

pub lead-requires-clause-small : goal.lead-requires-clause-small
lead-requires-clause-small c = λ n keeps.
    spread_small c.args.p.now c.requires.formed c.args.f c.requires.f c.args.known.now c.requires.known c.loop-node.spread.met.items (lists_of c.loop-node.spread.waiting 0) c.loop-node.invariant c.in-Some.node n
    (subst (λ (ms : List Met). Keeps (met_at ms c.in-Some.node) n) c.take.ensures.met keeps)

pub loop-node-preserved : goal.loop-node-preserved
loop-node-preserved c =
    let p = c.args.p.now in
    let f = c.args.f in
    let known = c.args.known.now in
    let old = c.loop-node.spread in
    let taken = c.take.new.self in
    let new = c.lead.new.self in
    let node = c.in-Some.node in
    spread_goes p c.requires.formed f c.requires.f known c.requires.known old.met.items new.met.items (lists_of old.waiting 0) (lists_of new.waiting 0) node c.loop-node.invariant
    (subst (λ (ws : List ℕ). Hands (IsWay p f node) (behind_node known old.met.items node) old.met.items ws new.met.items (lists_of new.waiting 0)) c.in-Some.ensures.waiting
    (subst (λ (ms : List Met). Hands (IsWay p f node) (behind_node known ms node) ms (lists_of taken.waiting 0) new.met.items (lists_of new.waiting 0)) c.take.ensures.met c.lead.ensures))

if_none : (o : Option ℕ) (P : Type 0) → ((k : ℕ) → o ≡ Some k → ⊥) → IfNone o P → P
if_none None P none h = h
if_none (Some k) P none h = absurd (none k refl)

pub returns : goal.returns
returns c =
    let p = c.args.p.now in
    let f = c.args.f in
    let known = c.args.known.now in
    let old = c.loop-node.spread in
    let over = if_none c.take.result (lists_of old.waiting 0 ≡ []) c.in_default.not-Some c.take.ensures.none in
    spread_ends p c.requires.formed f c.requires.f known c.requires.known c.take.new.self.met.items
    (subst (λ (ms : List Met). IsSpread p f known ms []) (sym c.take.ensures.met) (subst (λ (ws : List ℕ). IsSpread p f known old.met.items ws) over c.loop-node.invariant))
