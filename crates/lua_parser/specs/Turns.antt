-- What a symbol does at a token, as the code does it: the entry of the table, or others in place of the symbol.
use Rattle.std.specs.Prelude.{◌≡◌, ◌++◌, List, Option, Some, None}
use Rattle.lua_grammar.specs.declared.symbol.Symbol.{Symbol}
use Rattle.lua_grammar.specs.declared.symbol.Effect.{Effect}
use Rattle.lua_grammar.specs.Lexeme.{Lexeme}
use Rattle.lua_grammar.specs.Table.{Act, shift, pop, refuse, Others}
use Rattle.lua_grammar.specs.Parts.{Parts, effects_of}
use Rattle.lua_grammar.specs.Machine.{State}
use Rattle.lua_parser.specs.declared.reader.Reader.{Reader}
use Rattle.lua_parser.specs.declared.reader.Turn.{Turn}
use Rattle.lua_parser.specs.declared.reader.Turn.TheVariants.{Taken, Gone, Replaced, Refused}

-- what a reader expects, and the parts that it has
abbrev pub state_of : Reader → State
state_of r = record { stack = r.expected; parts = r.trees }

abbrev pub with_both : List Symbol → Parts → State
with_both s v = record { stack = s; parts = v }

-- the token is taken, and others come in the symbol's place
abbrev pub Takes : List Effect → List Symbol → Lexeme → State → Turn → State → Type 0
Takes effects new t old Taken now = now ≡ with_both (new ++ old.stack) (effects_of (Some t) effects old.parts)
Takes effects new t old _ now = ⊥

-- the symbol goes, and the token stays
abbrev pub Leaves : List Effect → State → Turn → State → Type 0
Leaves effects old Gone now = now ≡ with_both old.stack (effects_of None effects old.parts)
Leaves effects old _ now = ⊥

-- others come in the symbol's place, and the token stays
abbrev pub Becomes : List Effect → List Symbol → State → Turn → State → Type 0
Becomes effects new old Replaced now = now ≡ with_both (new ++ old.stack) (effects_of None effects old.parts)
Becomes effects new old _ now = ⊥

abbrev pub Refuses : Turn → Type 0
Refuses Refused = Unit {0}
Refuses _ = ⊥

-- what the symbol's entry of the table says
abbrev pub Acts : Act → Lexeme → State → Turn → State → Type 0
Acts (shift effects new) t old turn now = Takes effects new t old turn now
Acts (pop effects) t old turn now = Leaves effects old turn now
Acts refuse t old turn now = Refuses turn

abbrev pub Turned : Option Others → Act → Lexeme → State → Turn → State → Type 0
Turned (Some o) act t old turn now = Becomes o.effects o.symbols old turn now
Turned None act t old turn now = Acts act t old turn now

-- What a symbol does at the end of the text: it goes, or more is expected.
abbrev pub Ends : Act → State → Turn → State → Type 0
Ends (shift effects new) old turn now = Refuses turn
Ends (pop effects) old turn now = Leaves effects old turn now
Ends refuse old turn now = Refuses turn
