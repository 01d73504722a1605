use Rattle.std.proofs.Common.{rules}
use Rattle.spu_lift.proofs.SymbolPasses.{symbol_found, symbol_passed, symbols_passed}
use Rattle.spu_lift.proofs.tables.Tables.check_symbols_in.Goals as goal

pub returns-then-is_bad_symbol-clause-err : goal.returns-then-is_bad_symbol-clause-err
returns-then-is_bad_symbol-clause-err c =
    let is = rw c.as_slice-symbol-items.ensures at c.symbol-item.is in
    let within = rw c.as_slice-symbol-items.ensures at c.loop-number-test.true in
    let kind = rw c.kind.ensures at c.of_symbol.ensures in
    symbol_found c.args.check c.args.self.now.objects.now c.args.object c.loop-number.number c.args.o.now c.symbol-item.result c.of_symbol.result c.requires.there within is
    (c.is_bad_symbol.ensures.0 (search rules)) kind c.loop-number.invariant

pub loop-number-preserved : goal.loop-number-preserved
loop-number-preserved c =
    let is = rw c.as_slice-symbol-items.ensures at c.symbol-item.is in
    let within = rw c.as_slice-symbol-items.ensures at c.loop-number-test.true in
    symbol_passed c.args.check c.args.self.now.objects.now c.args.object c.loop-number.number c.args.o.now c.symbol-item.result c.requires.there within is
    (λ bad. let yes = c.is_bad_symbol.ensures.1 bad in absurd (search rules)) c.loop-number.invariant

pub returns-clause-ok : goal.returns-clause-ok
returns-clause-ok c =
    let all = rw c.as_slice-symbol-items.ensures at c.loop-number-test.false in
    symbols_passed c.args.check c.args.self.now.objects.now c.args.object c.loop-number.number c.args.o.now c.requires.there all c.loop-number.invariant
