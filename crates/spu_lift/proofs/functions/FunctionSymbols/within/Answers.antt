use Rattle.std.proofs.Common.{◌≡◌, ◌-◌, ◌≤◌, true, false, List, length, take, drop, filter, sym, ap, subst, ◌∙◌, arith, rules, of_calls}
use Rattle.std.specs.List.Sorted.{IsPartitionPoint, IsPartitionedBy}
use Rattle.std.proofs.lemmas.List.{length-drop, take_all}
use Rattle.std.proofs.lemmas.List.Sorted.{IsPartitionPoint-from_clause}
use Rattle.spu_lift.specs.declared.functions.FunctionSymbol.{FunctionSymbol}
use Rattle.spu_lift.specs.FunctionTables.{AreSorted, is_before, is_in}
use Rattle.spu_lift.proofs.SectionRuns.{befores_first, ins_first, within_is}
use Rattle.spu_lift.proofs.functions.FunctionSymbols.within.Goals as goal

pub returns : goal.returns
returns c =
    let all = c.as_slice-all.result.now in
    let n = c.args.object in
    let k = c.args.section in
    let a = c.partition_point-from.result in
    let m = c.partition_point-count.result in
    let sorted : AreSorted all = subst AreSorted (sym c.as_slice-all.ensures.value) c.requires in
    let low : a ≤ length all = c.partition_point-from.ensures.bound in
    let size : length (drop a all) ≡ length all - a = length-drop a all in
    let whole : take (length all - a) (drop a all) ≡ drop a all = take_all (length all - a) (drop a all) (omega arith) in
    let befores : IsPartitionPoint (λ (f : FunctionSymbol). is_before f n k ≡ true) (λ (f : FunctionSymbol). is_before f n k ≡ false) all a =
    IsPartitionPoint-from_clause (λ (f : FunctionSymbol). is_before f n k) _ _ c.partition_point-from.ensures.partitioned (befores_first all n k sorted) (λ x r q j. search (rules, of_calls)) in
    let parts : IsPartitionedBy (λ (f : FunctionSymbol). is_in f n k) (take (length all - a) (drop a all)) = subst (IsPartitionedBy (λ (f : FunctionSymbol). is_in f n k)) (sym whole) (ins_first all n k a sorted low befores) in
    let ins : IsPartitionPoint (λ (f : FunctionSymbol). is_in f n k ≡ true) (λ (f : FunctionSymbol). is_in f n k ≡ false) (take (length all - a) (drop a all)) m =
    IsPartitionPoint-from_clause (λ (f : FunctionSymbol). is_in f n k) _ _ c.partition_point-count.ensures.partitioned parts (λ x r q j. search (rules, of_calls)) in
    let rest : IsPartitionPoint (λ (f : FunctionSymbol). is_in f n k ≡ true) (λ (f : FunctionSymbol). is_in f n k ≡ false) (drop a all) m =
    subst (λ (l : List FunctionSymbol). IsPartitionPoint (λ (f : FunctionSymbol). is_in f n k ≡ true) (λ (f : FunctionSymbol). is_in f n k ≡ false) l m) whole ins in
    let most : m ≤ length (drop a all) = subst (λ (l : List FunctionSymbol). m ≤ length l) whole c.partition_point-count.ensures.bound in
    ap (take m) whole ∙ within_is all n k a m low most befores rest ∙ ap (filter (λ (f : FunctionSymbol). is_in f n k)) c.as_slice-all.ensures.value
