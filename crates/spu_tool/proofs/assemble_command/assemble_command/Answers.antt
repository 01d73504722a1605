use Rattle.spu_tool.proofs.assemble_command.assemble_command.Goals as goal

pub write_object-requires : goal.write_object-requires
write_object-requires c = c.in-Ok.ensures.answers.valid
