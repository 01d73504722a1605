use Rattle.std.proofs.Common.{◌∙◌, subst, sym, [], get_or}
use Rattle.spu_io.specs.Outside.{ReadOf}
use Rattle.spu_tool.specs.Outcomes.{AreRead}
use Rattle.spu_tool.proofs.FileLists.{read_more}
use Rattle.spu_tool.proofs.reading.read_all.Goals as goal

pub loop-name-preserved : goal.loop-name-preserved
loop-name-preserved g c =
    let held = g.F.Files.held c.args.files.now in
    let names = c.args.names.now in
    let before = c.loop-name.invariant in
    record {
      read = subst (AreRead held _) (sym c.in_ok-push.ensures.ok)
          (read_more held (λ n. n.now) names c.loop-name.name-index (record { ref_ptr = (0, 0); now = [] }) c.loop-name.contents c.in_ok-bytes.bytes c.loop-name-test.true before.read
          (subst (λ h. ReadOf h (get_or names c.loop-name.name-index (record { ref_ptr = (0, 0); now = [] })).now c.in_ok-bytes.bytes) before.held c.in_ok-bytes.ensures.bytes));
      held = c.in_ok-bytes.ensures.held ∙ before.held;
      faults = c.in_ok-bytes.ensures.counted.0 ∙ before.faults;
      last = c.in_ok-bytes.ensures.counted.1 ∙ before.last;
    }
