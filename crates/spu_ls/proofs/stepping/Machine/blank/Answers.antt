use Rattle.std.proofs.Common.{◌∙◌}
use Rattle.spu_word.specs.declared.limits.TheConstants.{REGISTER_COUNT, STORE_SIZE}
use Rattle.spu_ls.proofs.Blank.{blank_store, blank_regs, blank_is}
use Rattle.spu_ls.proofs.stepping.Machine.blank.Goals as goal

pub returns : goal.returns
returns c =
    blank_is c.args.entry c.args.file.now c.args.inputs.now _ _ _ _ _ _ _ _ _
    (blank_store c.in_ok-store.store.items STORE_SIZE (c.in_ok-store.ensures.items_if_clones_equal (λ y e. e)))
    (blank_regs c.in_ok-regs.regs.items REGISTER_COUNT _ (c.in_ok-regs.ensures.items_if_clones_equal (λ y e. e)))
    c.code_word.ensures.value c.zero.ensures (c.in_ok-areas.ensures ∙ c.as_slice.ensures) c.in_ok-image.ensures.items (c.in_ok-mail.ensures.items ∙ c.as_slice-2.ensures)
    c.in_ok-queue.ensures.items c.in_ok-output.ensures.items
