use Rattle.std.proofs.Common.{◌≡◌, ℕ, ◌+◌, ◌≤◌, List, Option, Some, length, get_or, ap, sym, ◌∙◌, arith}
use Rattle.std.proofs.Math.ListN.{set}
use Rattle.std.proofs.lemmas.List.Quantifiers.{position-Some}
use Rattle.spu_word.specs.declared.load.Area.{Area}
use Rattle.spu_exec.specs.Transfers.{holds_range, stretch_of}
use Rattle.spu_exec.specs.Areas.{first_holding}
use Rattle.spu_ls.proofs.Landed.{holds_from, written_there}
use Rattle.spu_ls.proofs.landing.write.Goals as goal

-- what the search found
found : (areas : List Area) (ea size i : ℕ) (r : Option ℕ) (d : Area) → r ≡ first_holding ea size areas → r ≡ Some i → ((get_or areas i d).ea ≤ ea) × (ea + size ≤ (get_or areas i d).ea + length (get_or areas i d).bytes)
found areas ea size i r d e is = holds_from ea size (get_or areas i d) (position-Some (λ (a : Area). holds_range ea size (stretch_of a)) areas i d (sym e ∙ is)).1

pub overflow_sub-ea : goal.overflow_sub-ea
overflow_sub-ea c = (found c.args.areas.now c.args.ea (length c.args.bytes.now) c.in-Some.i c.first_holding.result c.index-areas-i.result c.first_holding.ensures c.in-Some.is).0

pub overwrite-requires : goal.overwrite-requires
overwrite-requires c =
    let h = found c.args.areas.now c.args.ea (length c.args.bytes.now) c.in-Some.i c.first_holding.result c.index-areas-i.result c.first_holding.ensures c.in-Some.is in
    omega (arith, h)

pub returns-in-Some : goal.returns-in-Some
returns-in-Some c =
    ap (λ (bytes : List ℕ). set c.args.areas.now c.in-Some.i (record (get_or c.args.areas.now c.in-Some.i c.index-areas-i.result) { bytes = bytes })) c.overwrite.ensures
    ∙ written_there c.args.areas.now c.args.ea c.args.bytes.now c.in-Some.i c.index-areas-i.result (sym c.first_holding.ensures ∙ c.in-Some.is)
