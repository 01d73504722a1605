use Rattle.spu_elf.proofs.ExtentLemmas.{spelled_len}
use Rattle.spu_elf.proofs.objects.Object.file_len.Goals as goal

pub returns : goal.returns
returns c = spelled_len c.object_len.result c.args.self.now c.object_len.ensures
