use Rattle.std.proofs.Common.{◌≡◌, ◌-◌, ◌∙◌, ap, drop}
use Rattle.std.specs.Int.{bytes_high_first}
use Rattle.spu_asm.proofs.ContentLemmas.{low_bytes}
use Rattle.spu_asm.proofs.contents.push_low_bytes.Goals as goal

pub returns : goal.returns
returns c =
    let low : drop (16 - c.args.width) c.to_be_bytes-all.result ≡ bytes_high_first c.args.width c.args.number = ap (drop (16 - c.args.width)) c.to_be_bytes-all.ensures ∙ low_bytes c.args.width c.args.number c.requires in
    let cut = c.split_at.ensures.back ∙ low in
    let added = c.extend.ensures.ok in
    rw cut at added
