use Rattle.std.proofs.Common.{◌≡◌, subst, sym, rules}
use Rattle.spu_elf.specs.Bounds.{IsWithin}
use Rattle.spu_elf.specs.Reading.{symbols_header}
use Rattle.spu_elf.proofs.Headers.{symbols_within}
use Rattle.spu_elf.proofs.reading.object.symbols_header.Goals as goal

pub returns-clause-within : goal.returns-clause-within
returns-clause-within c =
    let e : c.header_or.result ≡ symbols_header c.args.headers.now = search rules in
    subst (IsWithin c.args.len) (sym e) (symbols_within c.args.len c.args.headers.now c.requires)
