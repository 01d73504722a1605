use Rattle.std.proofs.Common.{◌≡◌, ◌+◌, ◌-◌, length, take, drop, sym, arith}
use Rattle.std.proofs.lemmas.List.{take_all, length-drop}
use Rattle.spu_tool.proofs.Members.{cut_at}
use Rattle.spu_tool.proofs.lists.first_member.Goals as goal

pub returns-in-Some-clause-members : goal.returns-in-Some-clause-members
returns-in-Some-clause-members c =
    let list = c.args.list.now in
    let i = c.in-Some.i in
    let rest : take (length list - (i + 1)) (drop (i + 1) list) ≡ drop (i + 1) list = take_all (length list - (i + 1)) (drop (i + 1) list) (omega (arith, length-drop (i + 1) list)) in
    rw rest (cut_at list i (sym c.in-Some.ensures.place))
