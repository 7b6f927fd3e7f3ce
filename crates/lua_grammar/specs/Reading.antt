-- The reading as a function: the parts that are made, or the first fault.
use Rattle.std.specs.Prelude.{ℕ, [], ◌∷◌, Option, Some, None, Result, Ok, Err}
use Rattle.sk_types.specs.declared.fault.SyntaxKind.{SyntaxKind}
use Rattle.sk_types.specs.declared.fault.SyntaxKind.TheVariants as bad
use Rattle.sk_types.specs.declared.fault.SyntaxFault.{SyntaxFault}
use Rattle.lua_grammar.specs.Lexeme.{Lexeme, Lexemes}
use Rattle.lua_grammar.specs.Parts.{Parts}
use Rattle.lua_grammar.specs.Machine.{State, feed, finish}
use Rattle.lua_grammar.specs.Faults.{verdict}

abbrev pub judged_by : Option SyntaxKind → Option State → Result State SyntaxKind
judged_by (Some kind) after = Err kind
judged_by None (Some after) = Ok after
judged_by None None = Err bad.Unexpected

-- the state after one lexeme, or what is wrong with it
abbrev pub judged : State → Lexeme → Result State SyntaxKind
judged state t = judged_by (verdict state t) (feed state.stack state.parts t)

abbrev pub ended : ℕ → Option Parts → Result Parts SyntaxFault
ended end (Some w) = Ok w
ended end None = Err (record { line = end; kind = bad.Unexpected })

abbrev pub going_on : Result State SyntaxKind → (State → Result Parts SyntaxFault) → ℕ → Result Parts SyntaxFault
going_on (Ok state) go_on line = go_on state
going_on (Err kind) go_on line = Err (record { line = line; kind = kind })

-- the parts at the end of a text that ends on the given line, or the first fault
abbrev pub reading : ℕ → State → Lexemes → Result Parts SyntaxFault
reading end state [] = ended end (finish state.stack state.parts)
reading end state (t ∷ ts) = going_on (judged state t) (λ after. reading end after ts) t.line
