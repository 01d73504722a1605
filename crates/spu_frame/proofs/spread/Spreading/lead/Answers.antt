use Rattle.std.proofs.Common.{◌≡◌, List, length, sym, ap, subst, arith}
use Rattle.std.specs.List.{Contains}
use Rattle.spu_word.specs.Chains.{lists_of}
use Rattle.spu_lift.specs.declared.program.SymInst.{SymInst}
use Rattle.spu_lift.specs.Places.{taken_places}
use Rattle.spu_frame.specs.Functions.{code_of}
use Rattle.spu_frame.specs.Surveys.{Hands, met_at}
use Rattle.spu_frame.proofs.Ways.{hands_taken}
use Rattle.spu_frame.proofs.spread.Spreading.lead.Goals as goal

pub returns-else-node-code_of : goal.returns-else-node-code_of
returns-else-node-code_of c =
    let p = c.args.p.now in
    let f = c.args.f in
    let old = c.args.self.now in
    let new = c.lead_to_taken.new.self in
    let whole = ap (λ (cs : List SymInst). length cs) c.code_of.ensures in
    let test = c.if-node-code_of.false in
    let nodes = c.requires.nodes in
    let node = c.requires.node in
    let last : c.args.node ≡ length (code_of p f) = omega (arith, whole, test, nodes, node) in
    hands_taken p f c.args.node c.args.known.now old.met.items new.met.items (lists_of old.waiting 0) (lists_of new.waiting 0) last c.requires.known
    (subst (λ v. Hands (Contains (taken_places p f)) (met_at old.met.items v) old.met.items (lists_of old.waiting 0) new.met.items (lists_of new.waiting 0)) (sym last) c.lead_to_taken.ensures)
