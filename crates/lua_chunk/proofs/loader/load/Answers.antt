use Rattle.std.proofs.Common.{◌≡◌, rules}
use Rattle.std.specs.Prelude.{Err}
use Rattle.lua_chunk.proofs.LoadLemmas.{begins_of, memory_of}
use Rattle.lua_chunk.proofs.loader.load.Goals as goal

pub returns-in_err-chunk-clause-succeeds : goal.returns-in_err-chunk-clause-succeeds
returns-in_err-chunk-clause-succeeds c chunk reads has =
    let is : c.from_residual.result ≡ Err c.in_err-chunk.field-0.0 = search rules in
    rw is (c.in_err-chunk.ensures.succeeds chunk reads)

pub returns-in_err-code-clause-succeeds : goal.returns-in_err-code-clause-succeeds
returns-in_err-code-clause-succeeds c chunk reads has =
    let is : c.from_residual-in_err-code.result ≡ Err c.in_err-code.field-0.0 = search rules in
    let same = c.law_one_reading.ensures.one c.args.text.now chunk c.in_ok-chunk.chunk reads c.in_ok-chunk.ensures.reads in
    let memory = memory_of chunk c.in_ok-chunk.chunk c.in_err-code.field-0.0 same c.in_err-code.ensures.cause has in
    rw (is, memory) tt

pub returns-clause-begins : goal.returns-clause-begins
returns-clause-begins c = λ chunk reads.
    let same = c.law_one_reading.ensures.one c.args.text.now chunk c.in_ok-chunk.chunk reads c.in_ok-chunk.ensures.reads in
    begins_of c.args.name c.args.budget c.args.units chunk c.in_ok-chunk.chunk c.in_ok-code.code c.in_ok-machine.machine same c.in_ok-machine.ensures.machine
    c.in_ok-code.ensures.serves c.in_ok-machine.ensures.opens
