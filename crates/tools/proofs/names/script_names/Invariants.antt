use Rattle.std.proofs.Common.{map, string_bytes, take}
use Rattle.std.specs.BTreeSet.{contains_text}
use Rattle.tools.proofs.NamesLemmas.{Has}
use Rattle.tools.proofs.names.script_names.Given as goal

abbrev pub invariant-loop-name : goal.invariant-loop-name
invariant-loop-name l = Has (contains_text l.names) (map string_bytes (take l.name-index l.listed))
