use Rattle.std.proofs.Common.{◌≡◌, ap, [], rules}
use Rattle.lua_tree.specs.View.{block_of}
use Rattle.lua_steps.specs.Scope.{Scope}
use Rattle.lua_compile.proofs.CodeLemmas.{chunk_made}
use Rattle.lua_compile.proofs.chunk_code.write_chunk.Goals as goal

pub returns-clause-code : goal.returns-clause-code
returns-clause-code c =
    let none : c.as_slice.result.now ≡ [] = search rules in
    chunk_made c.args.flags.now (block_of c.args.block.now) c.as_slice.result.now c.new-outside.result c.in_ok-w.w c.write_body.new.outer c.resume.new.self c.in_ok-chunk.chunk c.into_parts.result.0 c.in_ok-w.ensures none (ap (λ (s : Scope). s.names) c.new-outside.ensures) c.in_ok-chunk.ensures.inner c.in_ok-resume.ensures.outer c.into_parts.ensures.code
