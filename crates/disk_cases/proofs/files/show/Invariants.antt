use Rattle.std.proofs.Common.{◌≡◌, Some, map, string_bytes}
use Rattle.disk_cases.proofs.files.show.Given as goal

abbrev pub invariant-loop-name : goal.invariant-loop-name
invariant-loop-name g l = g.F.Folder.listed l.folder ≡ Some (map string_bytes l.name-items)
