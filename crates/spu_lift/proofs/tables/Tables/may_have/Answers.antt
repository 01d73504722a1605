use Rattle.std.proofs.Common.{◌≡◌, true, sym, ◌∙◌, rules}
use Rattle.spu_lift.proofs.RelocFits.{code_there, may_have_none, may_have_some}
use Rattle.spu_lift.proofs.tables.Tables.may_have.Goals as goal

pub returns-in-Some : goal.returns-in-Some
returns-in-Some c = λ t there.
    let code : c.is_code.result ≡ true = search rules in
    may_have_some c.args.self.now.objects.now c.args.spot t c.in-Some.x c.args.kind c.fits.result there (code_there c.args.self.now.objects.now c.args.spot.object c.args.spot.section t there (sym c.is_code.ensures ∙ code))
    c.in-Some.ensures.some c.fits.ensures

pub returns-in-None : goal.returns-in-None
returns-in-None c = λ t there.
    let code : c.is_code.result ≡ true = search rules in
    may_have_none c.args.self.now.objects.now c.args.spot t c.args.kind there (code_there c.args.self.now.objects.now c.args.spot.object c.args.spot.section t there (sym c.is_code.ensures ∙ code)) c.requires c.in-None.ensures.none
