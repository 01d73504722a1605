use Rattle.std.proofs.Common.{◌+◌, ◌*◌, sym, arith}
use Rattle.spu_asm.proofs.NameLemmas.{next_digit, too_large}
use Rattle.spu_asm.proofs.names.number_below_128.Goals as goal

pub returns-then-n-ge128 : goal.returns-then-n-ge128
returns-then-n-ge128 c =
    let value = next_digit c.args.digits.now c.loop-c.c-index c.loop-c.n c.digit.result c.loop-c.invariant.told c.loop-c-test.true c.loop-c.invariant.value c.digit.ensures.value in
    record { value = sym (too_large c.args.digits.now (c.loop-c.c-index + 1) (c.loop-c.n * 10 + c.digit.result) value c.if-n-ge128.true) }

pub loop-c-preserved : goal.loop-c-preserved
loop-c-preserved c = record {
  told = c.loop-c.invariant.told;
  value = next_digit c.args.digits.now c.loop-c.c-index c.loop-c.n c.digit.result c.loop-c.invariant.told c.loop-c-test.true c.loop-c.invariant.value c.digit.ensures.value;
  small = omega (arith, c.if-n-ge128.false);
}
