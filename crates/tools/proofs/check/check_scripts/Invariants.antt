use Rattle.std.proofs.Common.{◌≡◌, Some, map, string_bytes, take}
use Rattle.std.specs.Prelude.{IfSome}
use Rattle.tools.proofs.ReportLemmas.{AreVerdicts}
use Rattle.tools.proofs.check.check_scripts.Given as goal

abbrev pub invariant-loop-name : goal.invariant-loop-name
invariant-loop-name g l = record {
  held : g.F.Folder.held l.folder ≡ g.F.Folder.held l.fn.folder;
  faults : g.F.Folder.faults l.folder ≡ g.F.Folder.faults l.fn.folder;
  listed : g.F.Folder.listed l.folder ≡ Some (map string_bytes l.listed.items);
  verdicts : IfSome (g.F.Folder.held l.fn.folder) (λ files. AreVerdicts files (map string_bytes (take l.name-index l.name-items)) l.verdicts.items);
}
