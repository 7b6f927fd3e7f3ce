use Rattle.std.proofs.Common.{subst}
use Rattle.lua_grammar.specs.Faults.{opening}
use Rattle.lua_grammar.specs.Lexeme.{lexemes_of}
use Rattle.lua_grammar.specs.Reading.{reading}
use Rattle.lua_parser.specs.Verdicts.{Reads}
use Rattle.lua_parser.proofs.Answer.{found, only, no_fault, no_chunk, fault, refused}
use Rattle.lua_parser.proofs.parser.parse_tokens.Goals as goal

pub returns-in-Ok-clause-found : goal.returns-in-Ok-clause-found
returns-in-Ok-clause-found c =
    let ts = lexemes_of c.args.tokens.now in
    let h = subst (λ r. Reads (reading c.args.end_line opening ts) r) c.in-Ok.is c.read.ensures in
    found c.args.end_line ts c.in-Ok.reader.trees c.block.result h c.block.ensures.value

pub returns-in-Ok-clause-only : goal.returns-in-Ok-clause-only
returns-in-Ok-clause-only c = λ chunk d.
    let ts = lexemes_of c.args.tokens.now in
    let h = subst (λ r. Reads (reading c.args.end_line opening ts) r) c.in-Ok.is c.read.ensures in
    only c.args.end_line ts c.in-Ok.reader.trees c.block.result h c.block.ensures.value chunk d.0 d.1

pub returns-in-Ok-clause-refused : goal.returns-in-Ok-clause-refused
returns-in-Ok-clause-refused c = λ f d.
    let ts = lexemes_of c.args.tokens.now in
    let h = subst (λ r. Reads (reading c.args.end_line opening ts) r) c.in-Ok.is c.read.ensures in
    no_fault c.args.end_line ts c.in-Ok.reader.trees h f d

pub returns-in-Err-clause-only : goal.returns-in-Err-clause-only
returns-in-Err-clause-only c = λ chunk d.
    let ts = lexemes_of c.args.tokens.now in
    let h = subst (λ r. Reads (reading c.args.end_line opening ts) r) c.in-Err.is c.read.ensures in
    no_chunk c.args.end_line ts c.in-Err.error h chunk d.0 d.1

pub returns-in-Err-clause-fault : goal.returns-in-Err-clause-fault
returns-in-Err-clause-fault c = λ f e.
    let ts = lexemes_of c.args.tokens.now in
    let h = subst (λ r. Reads (reading c.args.end_line opening ts) r) c.in-Err.is c.read.ensures in
    fault c.args.end_line ts c.in-Err.error h f (let i = e in cc)

pub returns-in-Err-clause-refused : goal.returns-in-Err-clause-refused
returns-in-Err-clause-refused c = λ f d.
    let ts = lexemes_of c.args.tokens.now in
    let h = subst (λ r. Reads (reading c.args.end_line opening ts) r) c.in-Err.is c.read.ensures in
    refused c.args.end_line ts c.in-Err.error h f d
