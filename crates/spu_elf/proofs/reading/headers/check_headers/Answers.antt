use Rattle.std.proofs.Common.{◌≡◌, List, drop, length, subst, sym, ◌∙◌}
use Rattle.std.specs.List.{All}
use Rattle.std.proofs.lemmas.List.{take_rest}
use Rattle.std.proofs.lemmas.List.Elements.{All-same}
use Rattle.spu_elf.specs.declared.reading.entries.Header.{Header}
use Rattle.spu_elf.specs.Bounds.{Lies}
use Rattle.spu_elf.specs.Reading.{headers}
use Rattle.spu_elf.proofs.Headers.{all_lie}
use Rattle.spu_elf.proofs.reading.headers.check_headers.Goals as goal

pub returns-clause-lie : goal.returns-clause-lie
returns-clause-lie c =
    let len = length c.args.bytes.now in
    let same : c.as_slice.result.now ≡ headers c.args.bytes.now = c.as_slice.ensures ∙ c.in_ok-headers.ensures.value in
    let lie : All (Lies len) (drop 1 c.as_slice.result.now) = All-same (Lies len) _ _ (sym (take_rest c.as_slice.result.now 1)) c.in_ok-check_sections.ensures.lie in
    All-same (Lies len) c.in_ok-headers.headers (headers c.args.bytes.now) c.in_ok-headers.ensures.value (all_lie c.args.bytes.now len (subst (λ (hs : List Header). All (Lies len) (drop 1 hs)) same lie))
