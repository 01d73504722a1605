use Rattle.std.proofs.Common.{sym, subst}
use Rattle.std.specs.Prelude.{IfSome}
use Rattle.spu_asm.specs.Statements.{effect_of}
use Rattle.spu_asm.specs.Histories.{needs, target_of}
use Rattle.spu_asm.specs.Tables.{value_in}
use Rattle.spu_asm.specs.Summaries.{Cursor}
use Rattle.spu_asm.specs.Cursors.{Fits, opened_headings, cursor_of}
use Rattle.spu_asm.proofs.FitLemmas.{room}
use Rattle.spu_asm.proofs.accumulating.Assembler.accept_action.Goals as goal

pub obey-requires : goal.obey-requires
obey-requires c =
    let e = effect_of c.args.action.now in
    subst (λ (k : Cursor). IfSome (value_in (opened_headings k.sections (needs k.current e)) (target_of e k.current)) (Fits e)) (sym c.in_ok-define.ensures) (room (cursor_of c.args.self.now) _ e c.requires)
