use Rattle.std.proofs.Common.{◌≡◌, drop, map}
use Rattle.lua_tree.specs.View.{target_of, targets_of}
use Rattle.lua_meaning.specs.Statements.{variables}
use Rattle.lua_compile.specs.Parts.{with_front}
use Rattle.lua_compile.proofs.assign.names_of.Given as goal

abbrev pub invariant-loop-target : goal.invariant-loop-target
invariant-loop-target l =
    with_front l.names.items (variables (targets_of (map target_of (drop l.target-index l.targets)))) ≡ variables (targets_of (map target_of l.targets))
