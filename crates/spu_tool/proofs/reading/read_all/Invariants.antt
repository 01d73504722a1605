use Rattle.std.proofs.Common.{◌≡◌, map, take}
use Rattle.spu_tool.specs.Outcomes.{AreRead}
use Rattle.spu_tool.proofs.reading.read_all.Given as goal

abbrev pub invariant-loop-name : goal.invariant-loop-name
invariant-loop-name g l =
    record {
      read : AreRead (g.F.Files.held l.fn.files) (map (λ n. n.now) (take l.name-index l.names)) l.contents;
      held : g.F.Files.held l.files ≡ g.F.Files.held l.fn.files;
      faults : g.F.Files.faults l.files ≡ g.F.Files.faults l.fn.files;
      last : g.F.Files.last l.files ≡ g.F.Files.last l.fn.files;
    }
