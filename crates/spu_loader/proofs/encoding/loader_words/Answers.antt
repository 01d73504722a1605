use Rattle.std.proofs.Common.{map, subst, sym, ap, ◌∙◌, Some}
use Rattle.spu_loader.specs.Code.{loader_code, IsShift}
use Rattle.spu_loader.proofs.Shifts.{same_power}
use Rattle.spu_loader.proofs.encoding.loader_words.Goals as goal

pub words-requires : goal.words-requires
words-requires c =
    let size = c.requires.size in
    let shift = same_power c.args.size c.ilog2.result size.0 c.ilog2.ensures.power_le c.ilog2.ensures.next_power_gt size.2 in
    record {
      base = c.requires.places.0;
      some = c.requires.places.1;
      buffer = c.requires.places.2;
      table = c.requires.places.3;
      shift = subst IsShift (sym shift) size.1;
      buffers = c.requires.buffers;
    }

pub returns : goal.returns
returns c = λ shift size.
    let same = same_power c.args.size c.ilog2.result shift c.ilog2.ensures.power_le c.ilog2.ensures.next_power_gt size in
    c.words.ensures ∙ ap (λ s. map Some (loader_code (record { base = c.args.base; buffer = c.args.buffer; shift = s; buffers = c.args.buffers; table = c.args.table }))) same
