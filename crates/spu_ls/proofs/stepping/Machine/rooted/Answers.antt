use Rattle.std.proofs.Common.{ap, sym, ◌∙◌, List, ℕ}
use Rattle.std.specs.Option.{option_copied}
use Rattle.spu_ls.specs.View.{state_of, places}
use Rattle.spu_ls.proofs.Misfits.{first_fits}
use Rattle.spu_ls.proofs.Starting.{rooted_with, rooted_without}
use Rattle.spu_ls.proofs.stepping.Machine.rooted.Goals.{in-Some, in_default}
use Rattle.spu_ls.proofs.stepping.Machine.rooted.Goals as goal

pub place-requires : goal.place-requires
place-requires c = first_fits c.args.x.now.segments c.in-Some.root.now _ c.requires (sym c.get.ensures ∙ ap option_copied c.in-Some.is) c.as_slice.ensures

pub returns : goal.returns
returns c = elim c.match-get.branch [
  | in-Some w ↦
      ap state_of w.machine-is
      ∙ rooted_with c.args.x.now c.args.file.now c.args.inputs.now w.in-Some.root.now (state_of c.in_ok-machine.machine) _ c.in_ok-machine.ensures (sym c.get.ensures ∙ ap option_copied w.in-Some.is) (w.place.ensures ∙ ap (λ (b : List ℕ). places w.in-Some.root.now.address b (state_of c.in_ok-machine.machine)) w.as_slice.ensures)
  | in_default w ↦ ap state_of w.machine-is ∙ rooted_without c.args.x.now c.args.file.now c.args.inputs.now (state_of c.in_ok-machine.machine) c.in_ok-machine.ensures (sym c.get.ensures ∙ ap option_copied w.in_default.is)
]
