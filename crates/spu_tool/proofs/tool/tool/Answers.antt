use Rattle.std.proofs.Common.{◌≡◌, subst, map, string_bytes, Ok}
use Rattle.spu_tool.specs.Arguments.{asked, asked_of}
use Rattle.spu_tool.proofs.Sound.{complete}
use Rattle.spu_tool.proofs.Seeing.{by_words}
use Rattle.spu_tool.proofs.tool.tool.Goals as goal

pub carry_out-requires : goal.carry_out-requires
carry_out-requires g c = complete (map string_bytes c.deref.result.now) (asked_of c.in-Ok.request) c.in-Ok.ensures.ok

pub returns-in-Ok : goal.returns-in-Ok
returns-in-Ok g c =
    by_words _ (Ok (asked_of c.in-Ok.request)) c.carry_out.result _ _
    (subst (λ ws. asked (map string_bytes ws) ≡ Ok (asked_of c.in-Ok.request)) c.deref.ensures.value c.in-Ok.ensures.ok) c.carry_out.ensures
