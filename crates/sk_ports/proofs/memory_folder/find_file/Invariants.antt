use Rattle.std.proofs.Common.{◌≡◌, take, None}
use Rattle.sk_ports.specs.Files.{file, files_of}
use Rattle.sk_ports.proofs.memory_folder.find_file.Given as goal

abbrev pub invariant-loop-other : goal.invariant-loop-other
invariant-loop-other l = file (files_of (take l.other-index l.files)) l.name ≡ None
