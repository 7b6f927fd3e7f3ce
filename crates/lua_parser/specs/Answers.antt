-- What the answer of the parser says of the tokens.
use Rattle.std.specs.Prelude.{◌≡◌, Result, Ok, Err}
use Rattle.sk_types.specs.declared.fault.SyntaxFault.{SyntaxFault}
use Rattle.lua_tree.specs.declared.tree.Chunk.{Chunk}
use Rattle.lua_parser.specs.declared.error.ParseError.{ParseError}
use Rattle.lua_parser.specs.declared.error.ParseError.TheVariants.{Memory, Fault}

-- the answer is this chunk, unless memory is wanting
abbrev pub Gives : Chunk → Result Chunk ParseError → Type 0
Gives chunk (Ok given) = given ≡ chunk
Gives chunk (Err Memory) = Unit {0}
Gives chunk (Err (Fault f)) = ⊥

-- the answer is this fault, unless memory is wanting
abbrev pub Faults : SyntaxFault → Result Chunk ParseError → Type 0
Faults f (Ok chunk) = ⊥
Faults f (Err Memory) = Unit {0}
Faults f (Err (Fault g)) = g ≡ f
