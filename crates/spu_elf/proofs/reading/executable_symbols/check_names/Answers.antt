use Rattle.std.proofs.Common.{sym, ◌∙◌, arith}
use Rattle.std.proofs.lemmas.Grind.{common_steps}
use Rattle.spu_elf.proofs.ExecutableLoops.{each_name_from, passed}
use Rattle.spu_elf.proofs.reading.executable_symbols.check_names.Goals as goal

pub loop-symbol-preserved : goal.loop-symbol-preserved
loop-symbol-preserved c =
    let step = each_name_from c.loop-symbol.at c.loop-symbol.rest.now c.args.listed.now c.loop-symbol._symbol-index (record { place = 0; name = 0; value = 0; size = 0; info = 0; shndx = 0 }) c.loop-symbol-test.true in
    record { checks = rw (c.name_len.ensures.value, c.after_name-rest.ensures) (passed _ _ _ (rw (← c.first_name.ensures) c.in_ok-check_name.ensures) (sym step ∙ c.loop-symbol.invariant.checks)); near = grind (arith, common_steps) }
