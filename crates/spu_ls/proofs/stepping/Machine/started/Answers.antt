use Rattle.std.proofs.Common.{List, ap, ◌∙◌}
use Rattle.spu_elf.specs.declared.objects.Symbol.{Symbol}
use Rattle.spu_ls.specs.Entries.{image_place}
use Rattle.spu_ls.specs.View.{state_of, enters_all}
use Rattle.spu_ls.proofs.Starting.{started_is}
use Rattle.spu_ls.proofs.stepping.Machine.started.Goals as goal

pub returns : goal.returns
returns c =
    started_is c.args.x.now c.args.file.now c.args.inputs.now c.image_place.result (state_of c.in_ok-machine.machine) (state_of c.enter_all.new.self) (state_of c.enter_image.new.self)
    c.in_ok-machine.ensures
    (c.enter_all.ensures ∙ ap (λ (xs : List Symbol). enters_all xs (state_of c.in_ok-machine.machine)) c.as_slice.ensures)
    (c.image_place.ensures ∙ ap image_place c.as_slice-2.ensures)
    c.enter_image.ensures
