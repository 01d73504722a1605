use Rattle.std.proofs.Common.{◌≡◌, ℕ, List, length, get_or, ap, subst, arith}
use Rattle.std.specs.List.{Contains}
use Rattle.spu_word.specs.Chains.{lists_of}
use Rattle.spu_lift.specs.Places.{taken_places}
use Rattle.spu_frame.specs.declared.met.Met.{Met}
use Rattle.spu_frame.specs.Functions.{code_of}
use Rattle.spu_frame.specs.Surveys.{Hands, met_at}
use Rattle.spu_frame.proofs.Ways.{taken_in, taken_at, among_more, among_all}
use Rattle.spu_frame.proofs.spread.Spreading.lead_to_taken.Goals as goal

pub hand_all-requires : goal.hand_all-requires
hand_all-requires c =
    let lt = taken_in c.args.p.now c.requires.formed c.args.f c.taken_of-j-items.result.now c.loop-j.j-index 0 c.taken_of-j-items.ensures (omega arith) in
    let nodes = c.requires.nodes in
    let count = c.loop-j.invariant.count in
    omega (arith, lt, nodes, count)

pub loop-j-preserved : goal.loop-j-preserved
loop-j-preserved c =
    let taken = c.taken_of-j-items.result.now in
    among_more (taken_places c.args.p.now c.args.f) c.loop-j.j-index (get_or taken c.loop-j.j-index 0) c.met_at-met.result c.args.self.now.met.items c.loop-j.self.met.items c.hand_all.new.self.met.items
    (lists_of c.args.self.now.waiting 0) (lists_of c.loop-j.self.waiting 0) (lists_of c.hand_all.new.self.waiting 0) (taken_at c.args.p.now c.args.f taken c.loop-j.j-index 0 c.taken_of-j-items.ensures (omega arith)) c.loop-j.invariant c.hand_all.ensures

pub returns : goal.returns
returns c =
    let old = c.args.self.now in
    let all = ap (λ (xs : List ℕ). length xs) c.taken_of-j-items.ensures in
    let given : c.met_at-met.result ≡ met_at old.met.items (length (code_of c.args.p.now c.args.f)) = (let a = c.met_at-met.ensures in let b = c.deref.ensures.value in let d = c.code_of.ensures in cc) in
    subst (λ (m : Met). Hands (Contains (taken_places c.args.p.now c.args.f)) m old.met.items (lists_of old.waiting 0) c.loop-j.self.met.items (lists_of c.loop-j.self.waiting 0)) given
    (among_all (taken_places c.args.p.now c.args.f) c.loop-j.j-index c.met_at-met.result old.met.items c.loop-j.self.met.items (lists_of old.waiting 0) (lists_of c.loop-j.self.waiting 0) (omega (arith, all)) c.loop-j.invariant)
