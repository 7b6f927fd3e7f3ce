use Rattle.lua_grammar.proofs.Read.{one_chunk_law}
use Rattle.lua_grammar.proofs.laws.one_chunk.Goals as goal

pub returns : goal.returns
returns c = one_chunk_law
