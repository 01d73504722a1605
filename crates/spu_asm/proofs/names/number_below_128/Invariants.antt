use Rattle.std.proofs.Common.{◌≡◌, ◌<◌, true, take}
use Rattle.std.specs.Str.Parse.{digits_value}
use Rattle.spu_asm.specs.Names.{is_decimal}
use Rattle.spu_asm.proofs.names.number_below_128.Given as goal

abbrev pub invariant-loop-c : goal.invariant-loop-c
invariant-loop-c l = record {
  told : is_decimal l.digits ≡ true;
  value : l.n ≡ digits_value 10 (take l.c-index l.digits);
  small : l.n < 128;
}
