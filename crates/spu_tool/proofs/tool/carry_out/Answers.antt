use Rattle.std.proofs.Common.{List, ℕ, Bor, map, length, ◌∙◌, refl, sym, subst, ap}
use Rattle.std.proofs.lemmas.List.{length-map}
use Rattle.spu_tool.specs.Makes.{IsComplete}
use Rattle.spu_tool.specs.Arguments.{asked_of}
use Rattle.spu_tool.specs.Outcomes.{AreRead, concluded}
use Rattle.spu_tool.proofs.FileLists.{as_many}
use Rattle.spu_tool.proofs.Seeing.{same_start, makes_same}
use Rattle.spu_tool.proofs.tool.carry_out.Goals as goal

abbrev texts : List (Bor (List ℕ)) → List (List ℕ)
texts names = map (λ n. n.now) names

pub make-requires-clause-complete : goal.make-requires-clause-complete
make-requires-clause-complete g c =
    let held = g.F.Files.held c.args.files.now in
    let read = subst (λ ns. AreRead held (texts ns) c.in-Ok.contents) c.as_slice-names.ensures.value c.in-Ok.ensures.read in
    let many = as_many held (asked_of c.args.request).inputs c.in-Ok.contents read ∙ ap length (sym c.as_slice.ensures) in
    subst (IsComplete c.args.request.action) many c.requires

pub make-requires-clause-named : goal.make-requires-clause-named
make-requires-clause-named g c =
    sym (length-map c.as_slice-names.result.now (λ n. n.now))
    ∙ as_many (g.F.Files.held c.args.files.now) (texts c.as_slice-names.result.now) c.in-Ok.contents c.in-Ok.ensures.read ∙ ap length (sym c.as_slice.ensures)

pub returns-in-Ok-make : goal.returns-in-Ok-make
returns-in-Ok-make g c =
    let held = g.F.Files.held c.args.files.now in
    concluded c.in-Ok-make.made
    (record {
      files = c.in-Ok.contents;
      read = subst (λ ns. AreRead held (texts ns) c.in-Ok.contents) c.as_slice-names.ensures.value c.in-Ok.ensures.read;
      made = makes_same c.args.request.action c.args.request.action _ _ _ _ _ refl (ap texts c.as_slice-names.ensures.value) c.as_slice.ensures c.in-Ok-make.ensures;
    })
    (same_start c.in-Ok-make.made _ _ c.conclude.result _ _ _ _ _ _ _ _ _ refl c.in-Ok.ensures.held c.in-Ok.ensures.counted.0 c.in-Ok.ensures.counted.1 c.conclude.ensures)
