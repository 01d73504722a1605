use Rattle.std.proofs.Common.{◌≡◌, ◌+◌, ◌≤◌, ◌<◌, ℕ, List, [], ◌∷◌, ap, length, arith, length-append}
use Rattle.std.specs.Prelude.{All}
use Rattle.spu_lift.specs.declared.program.Function.{Function}
use Rattle.spu_lift.specs.WellFormed.{IsRising}
use Rattle.spu_samples.proofs.Formed.{built_more, formed_as, some_from}
use Rattle.spu_samples.proofs.programs.program.Goals as goal

pub loop-body-preserved : goal.loop-body-preserved
loop-body-preserved c =
    let words = c.in-Some.words in
    let places = c.in-Some-2.places in
    let inv = c.loop-body.invariant in
    let count = inv.count in
    let new = ap (λ (gs : List Function). length gs) c.in_ok-push-in-Some-2-2.ensures.ok in
    let long = length-append c.loop-body.functions (c.in_ok-function_of-in-Some-2.field-0 ∷ []) in
    record {
      count = omega (arith, new, long, count);
      built = built_more _ _ _ _ _ _ _ words places c.in_ok-function_of-in-Some-2.field-0 c.len-f.result _ inv.built
          c.in_ok-push-in-Some-2.ensures.ok c.in_ok-push-in-Some-2-2.ensures.ok c.in_ok-function_of-in-Some-2.ensures c.len-f.ensures.value
          (c.is_name.ensures.0 c.if-is_name.true)
          (some_from _ _ c.is_empty-in-loop-body.ensures c.if-is_empty-2.false) c.if-body-gt65536.false
          (rw c.in-Some.is at c.in_ok-words.ensures.count) (omega arith)
          (rw c.in-Some.is at c.in_ok-words.ensures.fine)
          (rw c.in-Some-2.is at c.in_ok-places-in-Some.ensures.rising)
          (rw c.in-Some-2.is at c.in_ok-places-in-Some.ensures.inside);
    }

pub returns-in-Some-3 : goal.returns-in-Some-3
returns-in-Some-3 c =
    let inv = c.loop-body.invariant in
    let count = inv.count in
    let some : 1 ≤ length c.args.bodies.now = some_from (length c.args.bodies.now) c.is_empty.result c.is_empty.ensures c.if-is_empty.false in
    let all = c.in-Some-3.all in
    formed_as (length c.args.bodies.now + 1) c.loop-body.functions c.loop-body.code all inv.built (omega arith) (omega (arith, some)) (omega arith)
    c.new.result c.new-in-Some-3.result c.new-in-Some-3-2.result c.from.result c.new.ensures c.new-in-Some-3.ensures c.new-in-Some-3-2.ensures c.from.ensures
    (rw c.in-Some-3.is at c.in_ok-all.ensures.rising)
    (rw c.in-Some-3.is at c.in_ok-all.ensures.inside)
