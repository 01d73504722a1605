use Rattle.spu_asm.proofs.QuoteLemmas.{text_step}
use Rattle.spu_asm.proofs.quotes.text_of.Goals as goal

pub loop-rest-preserved : goal.loop-rest-preserved
loop-rest-preserved c = text_step c.loop-rest.text c.push.new.self c.loop-rest.rest.now c.split_at.result.1.now c.in-Some.byte c.in-Some.size _ c.loop-rest.invariant c.in-len1-up.len_at_least c.in-Some.ensures.value c.split_at.ensures.back c.in_ok-push.ensures.ok
