use Rattle.std.proofs.Common.{◌≡◌, List, sym, subst}
use Rattle.spu_elf.specs.declared.objects.Object.{Object}
use Rattle.spu_lift.specs.FunctionTables.{AreFunctions, AreSymbolsOf}
use Rattle.spu_lift.proofs.lifting.Lifting.of.Goals as goal

pub returns-clause-lifting : goal.returns-clause-lifting
returns-clause-lifting c =
    let same = sym c.in_ok-of.ensures.objects in
    record {
      tables = c.in_ok-of.ensures.tables;
      symbols = subst (λ (os : List Object). AreSymbolsOf os c.in_ok-symbols.symbols.sorted.items) same c.in_ok-symbols.ensures;
      functions = subst (λ (os : List Object). AreFunctions os c.in_ok-functions.functions.sorted.items) same (c.in_ok-functions.ensures c.args.objects.now c.in_ok-symbols.ensures);
    }
