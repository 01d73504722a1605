-- What is made of the files of objects and those of areas behind them is what is made of all.
use Rattle.std.proofs.Common.{◌≡◌, ℕ, ◌-◌, List, Bor, Result, IfOk, length, take, drop, sym, subst, ap, ◌∙◌, arith}
use Rattle.std.proofs.lemmas.List.{take-map}
use Rattle.spu_word.specs.declared.sequence.OutOfMemory.{OutOfMemory}
use Rattle.spu_tool.specs.declared.made.Made.{Made}
use Rattle.spu_tool.specs.declared.options.CheckOptions.{CheckOptions}
use Rattle.spu_tool.specs.declared.request.Action.{Action}
use Rattle.spu_tool.specs.declared.request.Action.TheVariants as action
use Rattle.spu_tool.specs.Arguments.{texts_of}
use Rattle.spu_tool.specs.Makes.{MakesBy, MakesCheck}

pub makes_check : (wanted : Action) (o : CheckOptions) (names fronts : List (Bor (List ℕ))) (files objects areas : List (List ℕ)) (last : ℕ) (a : Result Made OutOfMemory)
    → wanted ≡ action.Check o → length names ≡ length files → last ≡ length o.run.places → fronts ≡ take (length names - last) names
    → objects ≡ take (length files - last) files → areas ≡ drop (length files - last) files
    → IfOk a (MakesCheck o (texts_of fronts) objects areas) → IfOk a (MakesBy wanted (texts_of names) files)
makes_check wanted o names fronts files objects areas last a is many few front first rest h =
    let n = length files - length o.run.places in
    let at : length files - last ≡ n = omega (arith, few) in
    let same : length names - last ≡ n = omega (arith, few, many) in
    let texts : texts_of fronts ≡ take n (texts_of names) = ap texts_of (front ∙ ap (λ k. take k names) same) ∙ sym (take-map (λ (x : Bor (List ℕ)). x.now) n names) in
    let one = subst (λ ns. IfOk a (MakesCheck o ns objects areas)) texts h in
    let two = subst (λ fs. IfOk a (MakesCheck o (take n (texts_of names)) fs areas)) (first ∙ ap (λ k. take k files) at) one in
    let three = subst (λ fs. IfOk a (MakesCheck o (take n (texts_of names)) (take n files) fs)) (rest ∙ ap (λ k. drop k files) at) two in
    subst (λ x. IfOk a (MakesBy x (texts_of names) files)) (sym is) three
