use Rattle.std.proofs.Common.{rules, of_calls, ◌≡◌, true, false, List, subst, sym}
use Rattle.std.specs.List.Sorted.{IsPartitionPoint, IsPartitionedBy}
use Rattle.std.proofs.lemmas.List.Sorted.{IsPartitionPoint-from_clause}
use Rattle.spu_lift.specs.declared.functions.FunctionSymbol.{FunctionSymbol}
use Rattle.spu_lift.specs.FunctionTables.{begins_by}
use Rattle.spu_lift.proofs.functions.Functions.count_by.Goals as goal

pub returns-clause-splits : goal.returns-clause-splits
returns-clause-splits c =
    let P : List FunctionSymbol → Type 0 = λ l. IsPartitionPoint (λ (f : FunctionSymbol). begins_by f c.args.spot ≡ true) (λ (f : FunctionSymbol). begins_by f c.args.spot ≡ false) l c.partition_point.result in
    let parts = subst (IsPartitionedBy (λ (f : FunctionSymbol). begins_by f c.args.spot)) (sym c.as_slice.ensures.value) c.requires in
    subst P c.as_slice.ensures.value (IsPartitionPoint-from_clause (λ (f : FunctionSymbol). begins_by f c.args.spot) _ _ c.partition_point.ensures.partitioned parts (λ a r q k. search (rules, of_calls)))
