use Rattle.std.proofs.Common.{ℕ, List, ◌<◌, length, ap, ◌∙◌, arith}
use Rattle.spu_ls.specs.Machine.{put, goes}
use Rattle.spu_ls.specs.View.{state_of}
use Rattle.spu_ls.proofs.Registers.{registers_set, value_at}
use Rattle.spu_ls.proofs.stepping.Machine.compute.Goals as goal

pub returns-clause-exact : goal.returns-clause-exact
returns-clause-exact c =
    let lt : c.args.x.now.rt < length c.args.self.now.regs.items = omega (arith, c.requires.fields.rt) in
    c.go.ensures.exact
    ∙ ap (λ (regs : ℕ → List ℕ). goes c.args.next (record (state_of c.args.self.now) { regs = regs }))
    (registers_set c.args.self.now.regs.items c.args.x.now.rt c.apply_to.new.t lt
    ∙ ap (λ (q : List ℕ). put c.args.x.now.rt q (state_of c.args.self.now).regs)
    (c.apply_to.ensures ∙ value_at c.args.x.now c.args.self.now.regs.items c.quad.result.now c.quad-2.result.now c.quad-3.result.now c.index_mut.result.now c.index_mut.result.now lt c.quad.ensures c.quad-2.ensures c.quad-3.ensures c.index_mut.ensures.value))
