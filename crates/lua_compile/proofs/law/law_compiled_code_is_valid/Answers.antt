use Rattle.lua_compile.proofs.Chunk.{chunk_valid}
use Rattle.lua_compile.proofs.law.law_compiled_code_is_valid.Goals as goal

pub returns : goal.returns
returns c = chunk_valid
