-- What a text reads as, and its first fault (Lua 5.4 manual, sections 3 and 9).
use Rattle.std.specs.Prelude.{◌≡◌, ℕ, ◌+◌, List, [], ◌∷◌, Result, Ok, Err}
use Rattle.sk_types.specs.declared.fault.SyntaxFault.{SyntaxFault}
use Rattle.lua_tree.specs.declared.token.Token.{Token}
use Rattle.lua_tree.specs.declared.tree.Chunk.{Chunk}
use Rattle.lua_token.specs.Characters.{Text, line_ends}
use Rattle.lua_token.specs.Spells.{IsSpelling, IsLexicalFault}
use Rattle.lua_grammar.specs.Lexeme.{Lexemes}
use Rattle.lua_grammar.specs.Faults.{ReadsAs, IsTokenFault}
use Rattle.lua_parser.specs.declared.error.ParseError.{ParseError}
use Rattle.lua_parser.specs.declared.error.ParseError.TheVariants.{Memory, Fault}

-- the line of the end of a text: one more than the number of its ends of line
abbrev pub end_line : Text → ℕ
end_line bytes = line_ends bytes + 1

-- the text reads as the chunk: its tokens are one by the grammar, within the bounds
abbrev pub Reads : Text → Chunk → Type 0
Reads bytes chunk = (ts : List Token) × IsSpelling bytes ts × ReadsAs ts chunk

-- The first fault of a text that reads as no chunk. One that is lexical goes before the others.
pub data IsFault : Text → SyntaxFault → Type 0 where
  lexical : {bytes : Text} {f : SyntaxFault} → IsLexicalFault bytes f → IsFault bytes f
  of_tokens : {bytes : Text} {ts : List Token} {f : SyntaxFault} → IsSpelling bytes ts → IsTokenFault (end_line bytes) ts f → IsFault bytes f

-- a fault is answered only where it is the text's first
abbrev pub HasFault : Text → ParseError → Type 0
HasFault bytes Memory = Unit {0}
HasFault bytes (Fault f) = IsFault bytes f

-- this chunk is the answer, unless memory was wanting
abbrev pub Gives : Chunk → Result Chunk ParseError → Type 0
Gives chunk (Ok c) = c ≡ chunk
Gives chunk (Err Memory) = Unit {0}
Gives chunk (Err (Fault f)) = ⊥

-- this fault is the answer, unless memory was wanting
abbrev pub Refuses : SyntaxFault → Result Chunk ParseError → Type 0
Refuses f (Ok c) = ⊥
Refuses f (Err Memory) = Unit {0}
Refuses f (Err (Fault g)) = g ≡ f

-- the line of a lexeme that a fault stands at, or of the text's end
abbrev pub line_at : ℕ → Lexemes → ℕ
line_at end [] = end
line_at end (t ∷ ts) = t.line
