use Rattle.std.proofs.Common.{◌∙◌}
use Rattle.spu_cesof.proofs.NameParts.{listed_more}
use Rattle.spu_cesof.proofs.naming.names_in.Goals as goal

pub loop-k-preserved : goal.loop-k-preserved
loop-k-preserved c =
    listed_more c.loop-k.all c.push.new.self c.in_ok-copied.field-0 c.after_name-rest.result.now c.loop-k.rest.now c.args.names.now c.args.count c.loop-k._k
    c.loop-k-test.true c.in_ok-push.ensures.ok (c.in_ok-copied.ensures ∙ c.first_name.ensures) c.after_name-rest.ensures c.loop-k.invariant
