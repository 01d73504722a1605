use Rattle.std.proofs.Common.{◌≡◌, ◌<◌, Some, length, sym, ◌∙◌, ap, get_or, slice_get, arith}
use Rattle.std.proofs.lemmas.Bool.{false≢true}
use Rattle.std.proofs.lemmas.Option.{slice_get-get_or}
use Rattle.spu_elf.specs.WellFormed.{IsWellFormed}
use Rattle.spu_elf.specs.declared.objects.Reloc.{Reloc}
use Rattle.spu_lift.specs.Checks.{IsShownBy}
use Rattle.spu_lift.proofs.FirstPlaces.{all_at}
use Rattle.spu_lift.proofs.RelocPasses.{first_begins, first_goes_on, first_of_all, first_skips, sound_reloc, zero_reloc}
use Rattle.spu_lift.proofs.lifting.Lifting.first_relocation.Goals as goal
use Rattle.spu_lift.proofs.lifting.Lifting.first_relocation.Goals.{then-shows_relocation+in-Some, then-shows_relocation+in-None, else-shows_relocation}

pub shows_relocation-requires-clause-sound : goal.shows_relocation-requires-clause-sound
shows_relocation-requires-clause-sound c =
    let os = c.args.self.now.tables.objects.now in
    let o = c.args.o.now in
    let formed = all_at IsWellFormed os c.args.object o c.requires.lifting.tables.formed c.requires.there in
    let within = rw c.as_slice-r-items.ensures at c.loop-index-test.true in
    rw c.as_slice-r-items.ensures (sound_reloc os c.args.object c.loop-index.index o _ formed c.requires.there (slice_get-get_or o.relocs c.loop-index.index _ within))

pub loop-index-preserved : goal.loop-index-preserved
loop-index-preserved c =
    let os = c.args.self.now.tables.objects.now in
    let rs = c.args.o.now.relocs in
    let i = c.loop-index.index in
    let r : Reloc = get_or c.args.o.now.relocs c.loop-index.index zero_reloc in
    let bad = IsShownBy c.args.check os c.args.object in
    let within : i < length rs = rw c.as_slice-r-items.ensures at c.loop-index-test.true in
    let there : slice_get rs i ≡ Some r = slice_get-get_or rs i zero_reloc within in
    let tells = rw c.as_slice-r-items.ensures at c.shows_relocation.ensures in
    elim c.if-shows_relocation.branch [
      | then-shows_relocation+in-Some w ↦
          let two = rw c.as_slice-r-items.ensures at w.first_of_two.ensures in
          let first = rw w.in-Some.is at c.loop-index.invariant in
          rw w.first-is (first_goes_on bad rs i r w.in-Some.other w.first_of_two.result there (tells.0 w.if-shows_relocation.true) first two)
      | then-shows_relocation+in-None w ↦
          let none = rw w.in-None.is at c.loop-index.invariant in
          rw (w.first-is, c.as_slice-r-items.ensures) (first_begins bad rs i r there (tells.0 w.if-shows_relocation.true) none)
      | else-shows_relocation w ↦
          rw w.first-is (first_skips bad rs i r c.loop-index.first there (λ is. absurd (false≢true (sym w.if-shows_relocation.false ∙ tells.1 is))) c.loop-index.invariant)
    ]

pub returns : goal.returns
returns c =
    let rs = c.args.o.now.relocs in
    let all : c.loop-index.index ≡ length rs = omega (arith, ap length c.as_slice-r-items.ensures) in
    first_of_all (IsShownBy c.args.check c.args.self.now.tables.objects.now c.args.object) rs c.loop-index.index c.loop-index.first all c.loop-index.invariant
