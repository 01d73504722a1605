use Rattle.std.proofs.Common.{◌≡◌, ℕ, List, Option, Some, ◌+◌, length, sym, ap, ◌∙◌, subst, arith, ℤ}
use Rattle.std.specs.Prelude.{slice_get}
use Rattle.spu_lift.specs.declared.program.SymInst.{SymInst}
use Rattle.spu_frame.specs.declared.met.Met.{Met}
use Rattle.spu_frame.specs.Surveys.{IsMetInRange, IsDepthOf, met_at, met_behind, amount_in, behind_node, deeper}
use Rattle.spu_frame.proofs.Findings.{AreDepthsTo, met_in_range, behind_in_range, depths_start, depths_more, depths_end}
use Rattle.spu_frame.proofs.survey.depths.Goals as goal

pub loop-i-init : goal.loop-i-init
loop-i-init c = depths_start c.args.p.now c.requires.formed c.args.f c.requires.f c.args.met.now c.new-depths.result c.new-depths.ensures

pub depth_of-before-requires : goal.depth_of-before-requires
depth_of-before-requires c =
    let whole = ap (λ (cs : List SymInst). length cs) c.code_of-i-end.ensures in
    subst IsMetInRange (sym c.met_at.ensures) (met_in_range c.args.p.now c.args.f c.args.met.now c.requires.met c.requires.single c.requires.formed c.requires.f c.args.known.now c.requires.known c.requires.range c.loop-i.i (omega (arith, whole)))

behind_is : (known : List (Option ℤ)) (met : List Met) (i : ℕ) (mt behind : Met) (o : Option ℤ) → mt ≡ met_at met i → slice_get known i ≡ Some o → behind ≡ met_behind mt o → behind ≡ behind_node known met i
behind_is known met i mt behind o e at is = is ∙ ap (λ (m : Met). met_behind m o) e ∙ ap (λ q. met_behind (met_at met i) (amount_in q)) (sym at)

pub depth_of-after-requires : goal.depth_of-after-requires
depth_of-after-requires c =
    let whole = ap (λ (cs : List SymInst). length cs) c.code_of-i-end.ensures in
    let given = behind_is c.args.known.now c.args.met.now c.loop-i.i c.met_at-in-loop-i.result c.behind.result c.amount.result c.met_at-in-loop-i.ensures c.amount.ensures c.behind.ensures in
    subst IsMetInRange (sym given) (behind_in_range c.args.p.now c.args.f c.args.met.now c.requires.met c.requires.single c.requires.formed c.requires.f c.args.known.now c.requires.known c.requires.range c.loop-i.i (omega (arith, whole)))

pub loop-i-preserved : goal.loop-i-preserved
loop-i-preserved c =
    let p = c.args.p.now in
    let f = c.args.f in
    let met = c.args.met.now in
    let known = c.args.known.now in
    let r = c.requires in
    let i = c.loop-i.i in
    let whole = ap (λ (cs : List SymInst). length cs) c.code_of-i-end.ensures in
    let given = behind_is known met i c.met_at-in-loop-i.result c.behind.result c.amount.result c.met_at-in-loop-i.ensures c.amount.ensures c.behind.ensures in
    let frame = c.deeper-frame.ensures ∙ ap (λ n. deeper n c.depth_of-after.result) c.deeper.ensures in
    subst (λ n. AreDepthsTo p f met (i + 1) c.push.new.self n) (sym frame)
    (depths_more p f met r.met r.single r.formed r.f known r.known i c.loop-i.depths c.push.new.self c.loop-i.frame c.depth_of-before.result c.depth_of-after.result (omega (arith, whole)) c.loop-i.invariant c.in_ok-push.ensures.ok
    (subst (λ (m : Met). IsDepthOf m c.depth_of-before.result) c.met_at.ensures c.depth_of-before.ensures) (subst (λ (m : Met). IsDepthOf m c.depth_of-after.result) given c.depth_of-after.ensures))

pub returns : goal.returns
returns c =
    let r = c.requires in
    let whole = ap (λ (cs : List SymInst). length cs) c.code_of-i-end.ensures in
    depths_end c.args.p.now c.args.f c.args.met.now r.met r.single r.formed r.f c.args.known.now r.known c.loop-i.i c.loop-i.depths c.loop-i.frame (omega (arith, whole)) c.loop-i.invariant r.writes r.level r.range
