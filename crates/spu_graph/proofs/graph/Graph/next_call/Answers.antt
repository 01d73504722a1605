use Rattle.spu_graph.proofs.Numbers.{chain_next}
use Rattle.spu_graph.proofs.graph.Graph.next_call.Goals as goal

pub returns-clause-rest : goal.returns-clause-rest
returns-clause-rest c = λ f on. (chain_next c.args.self.now.calls _ f c.args.e (c.args.self.now.graph.leave f) on c.next.result c.next.ensures.next).rest

pub returns-clause-on : goal.returns-clause-on
returns-clause-on c = λ f on. (chain_next c.args.self.now.calls _ f c.args.e (c.args.self.now.graph.leave f) on c.next.result c.next.ensures.next).on
