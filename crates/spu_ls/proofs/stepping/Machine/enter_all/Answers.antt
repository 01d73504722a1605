use Rattle.std.proofs.Common.{List, ap, sym, ◌∙◌}
use Rattle.std.proofs.lemmas.List.{drop_all}
use Rattle.spu_elf.specs.declared.objects.Symbol.{Symbol}
use Rattle.spu_ls.specs.Machine.{State}
use Rattle.spu_ls.specs.View.{state_of, enters_all}
use Rattle.spu_ls.proofs.Starting.{entries_step, entries_none}
use Rattle.spu_ls.proofs.stepping.Machine.enter_all.Goals as goal

pub loop-k-preserved : goal.loop-k-preserved
loop-k-preserved c = record {
  rest = entries_step c.args.symbols.now c.loop-k.k c.index-symbols-k.result (state_of c.loop-k.self) (state_of c.enter.new.self) c.loop-k-test.true c.index-symbols-k.is c.enter.ensures ∙ c.loop-k.invariant.rest;
  areas = ap (λ (s : State). s.areas) c.enter.ensures ∙ c.loop-k.invariant.areas;
}

pub returns : goal.returns
returns c =
    sym (ap (λ (xs : List Symbol). enters_all xs (state_of c.loop-k.self)) (drop_all c.loop-k.k c.args.symbols.now c.loop-k-test.false) ∙ entries_none (state_of c.loop-k.self))
    ∙ c.loop-k.invariant.rest
