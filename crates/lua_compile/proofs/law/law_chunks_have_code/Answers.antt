use Rattle.lua_compile.proofs.FoundTerms.{chunk_found}
use Rattle.lua_compile.proofs.law.law_chunks_have_code.Goals as goal

pub returns : goal.returns
returns c = chunk_found
