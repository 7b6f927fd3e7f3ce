-- The code of a chunk.
use Rattle.std.specs.Prelude.{List, [], Bool, if◌then◌else◌}
use Rattle.lua_tree.specs.Source.{Block}
use Rattle.lua_steps.specs.Machine.{Code}
use Rattle.lua_compile.specs.Written.{chunk_written}

-- the locals with these flags go to cells, and where something has no code so, all locals do
abbrev pub compiled : List Bool → Block → Code
compiled flags b = if (chunk_written flags b).lost then (chunk_written [] b).made else (chunk_written flags b).made
