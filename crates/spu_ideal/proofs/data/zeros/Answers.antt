use Rattle.spu_word.specs.declared.limits.TheConstants.{QUAD_SIZE, STORE_SIZE}
use Rattle.std.proofs.Common.{◌/◌}
use Rattle.spu_ideal.proofs.Filling.{zero_store}
use Rattle.spu_ideal.proofs.data.zeros.Goals as goal

pub returns-clause-value : goal.returns-clause-value
returns-clause-value c = zero_store c.in_ok-store.store.items (STORE_SIZE / QUAD_SIZE) (c.in_ok-store.ensures.items_if_clones_equal (λ y e. e))
