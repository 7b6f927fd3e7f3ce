use Rattle.std.proofs.Common.{◌≡◌, Some, map, string_bytes, take}
use Rattle.std.specs.Prelude.{IfSome}
use Rattle.sk_ports.specs.Files.{files_of}
use Rattle.runner.specs.Scripts.{KeepsScripts}
use Rattle.runner.proofs.scripts.read_scripts.Given as goal

abbrev pub invariant-loop-name : goal.invariant-loop-name
invariant-loop-name g l = record {
  listed : g.F.Folder.listed l.folder ≡ Some (map string_bytes l.name-items);
  held : g.F.Folder.held l.folder ≡ g.F.Folder.held l.fn.folder;
  faults : g.F.Folder.faults l.folder ≡ g.F.Folder.faults l.fn.folder;
  kept : IfSome (g.F.Folder.held l.fn.folder) (KeepsScripts (map string_bytes (take l.name-index l.name-items)) (files_of l.scripts.items));
}
