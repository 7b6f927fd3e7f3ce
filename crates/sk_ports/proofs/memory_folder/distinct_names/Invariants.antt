use Rattle.std.proofs.Common.{◌≡◌, take, map, string_bytes}
use Rattle.sk_ports.specs.Files.{files_of, names_of}
use Rattle.sk_ports.proofs.memory_folder.distinct_names.Given as goal

abbrev pub invariant-loop-name : goal.invariant-loop-name
invariant-loop-name l = map string_bytes l.names.items ≡ names_of (files_of (take l.name-index l.files))
