use Rattle.std.proofs.Common.{ap, ◌∙◌, sym}
use Rattle.spu_lift.proofs.DefinedLemmas.{added, its, Entries}
use Rattle.std.specs.Map.{lookup}
use Rattle.spu_lift.proofs.definitions.Definitions.define.Goals as goal

pub returns-in_ok-insert-in-None : goal.returns-in_ok-insert-in-None
returns-in_ok-insert-in-None c = λ q.
    ap (λ (es : Entries). lookup (its q) es) c.in_ok-insert-in-None.ensures.entries ∙ added c.args.self.now.by_name.entries c.args.name c.args.id (sym c.in-None.ensures) q
