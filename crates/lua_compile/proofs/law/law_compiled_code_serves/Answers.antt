use Rattle.lua_compile.proofs.Chunk.{chunk_serves}
use Rattle.lua_compile.proofs.law.law_compiled_code_serves.Goals as goal

pub returns : goal.returns
returns c = chunk_serves
