use Rattle.std.proofs.Common.{List, ℕ, ◌++◌, ap, ◌∙◌, arith}
use Rattle.spu_map.specs.Stacks.{function_line, stack_text}
use Rattle.spu_map.proofs.Lines.{one_line_more}
use Rattle.spu_map.proofs.stack.stack_text.Goals as goal

pub loop-f-preserved : goal.loop-f-preserved
loop-f-preserved c =
    one_line_more (function_line c.args.p.now c.args.d.now c.args.n.now) c.loop-f.text _ (stack_text c.args.p.now c.args.d.now c.args.n.now) c.loop-f.f c.len-count.result c.loop-f.invariant (omega arith)
    (c.in_ok-extend.ensures.ok ∙ ap (λ (t : List ℕ). c.loop-f.text ++ t) (c.as_slice.ensures ∙ c.in_ok-function_line.ensures))
