use Rattle.spu_ls_tests.proofs.Trials.{lettered_more}
use Rattle.spu_ls_tests.proofs.running.areas_of.Goals as goal

pub loop-k-preserved : goal.loop-k-preserved
loop-k-preserved c = lettered_more 97 c.loop-k.k c.loop-k.areas c.push.new.self _ c.loop-k.invariant c.in_ok-copied.ensures c.in_ok-push.ensures.ok
