use Rattle.std.proofs.Common.{◌≡◌, map, take}
use Rattle.spu_asm.specs.Statements.{address_relocation}
use Rattle.spu_asm.specs.Histories.{relocation_names}
use Rattle.spu_asm.specs.Cursors.{sightings, told_all}
use Rattle.spu_asm.proofs.symbols.Table+SymbolDraft.mention_values.Given as goal

abbrev pub invariant-loop-address : goal.invariant-loop-address
invariant-loop-address l = sightings l.self ≡ told_all (sightings l.fn.self) (relocation_names (map address_relocation (take l.address-index l.addresses))) (λ s. s)
