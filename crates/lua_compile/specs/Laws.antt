-- What is true of all compiled code: it serves its chunk (manual, chapter 3), and it is valid.
use Rattle.std.specs.Prelude.{◌≡◌, Bool, false, List, []}
use Rattle.lua_tree.specs.Source.{Block}
use Rattle.lua_code.specs.Valid.{IsValid}
use Rattle.lua_steps.specs.Serves.{Serves}
use Rattle.lua_compile.specs.HasCode.{HasCode}
use Rattle.lua_compile.specs.Written.{chunk_written}

-- whichever locals go to cells, the code of a chunk serves it, if nothing in it was without code
abbrev pub CompiledCodeServes : Type 0
CompiledCodeServes = (flags : List Bool) (b : Block) → (chunk_written flags b).lost ≡ false → Serves (chunk_written flags b).made b

-- and it is code that a machine can run without a test of its own
abbrev pub CompiledCodeIsValid : Type 0
CompiledCodeIsValid = (flags : List Bool) (b : Block) → (chunk_written flags b).lost ≡ false → IsValid (chunk_written flags b).made

-- where each local goes to a cell, the terms without code are those that make or read a table or name what no local has
abbrev pub ChunksHaveCode : Type 0
ChunksHaveCode = (b : Block) → HasCode b → (chunk_written [] b).lost ≡ false
