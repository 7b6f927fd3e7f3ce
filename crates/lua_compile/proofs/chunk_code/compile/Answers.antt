use Rattle.lua_tree.specs.View.{block_of}
use Rattle.lua_compile.proofs.CodeLemmas.{valid_code, serving_code}
use Rattle.lua_compile.proofs.chunk_code.compile.Goals as goal

pub returns-clause-valid : goal.returns-clause-valid
returns-clause-valid c =
    valid_code c.captured.result.now (block_of c.args.chunk.now) c.in_ok-code.code c.in_ok-code.lost c.in_ok-code.ensures.code c.in_ok-code.ensures.lost c.if-lost.false

pub returns-clause-serves : goal.returns-clause-serves
returns-clause-serves c =
    serving_code c.captured.result.now (block_of c.args.chunk.now) c.in_ok-code.code c.in_ok-code.lost c.in_ok-code.ensures.code c.in_ok-code.ensures.lost c.if-lost.false
