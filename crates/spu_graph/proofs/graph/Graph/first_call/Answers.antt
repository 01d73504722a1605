use Rattle.spu_graph.proofs.Numbers.{chain_first}
use Rattle.spu_graph.proofs.graph.Graph.first_call.Goals as goal

pub returns-clause-all : goal.returns-clause-all
returns-clause-all c = (chain_first _ _ (c.args.self.now.graph.leave c.args.f) c.first.result c.first.ensures.first).0

pub returns-clause-on : goal.returns-clause-on
returns-clause-on c = (chain_first _ _ (c.args.self.now.graph.leave c.args.f) c.first.result c.first.ensures.first).1
