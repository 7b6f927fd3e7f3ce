-- The reading from left to right: a stack of what is expected, the parts so far, one token at a time.
use Rattle.std.specs.Prelude.{List, [], ◌∷◌, ◌++◌, Result, Ok, Err, Option, Some, None, option_and_then}
use Rattle.lua_grammar.specs.declared.symbol.Symbol.{Symbol}
use Rattle.lua_grammar.specs.Lexeme.{Lexeme, Lexemes}
use Rattle.lua_grammar.specs.Table.{Act, shift, pop, refuse, Step, next, last_of}
use Rattle.lua_grammar.specs.Parts.{Parts, effects_of}

pub record State : Type 0 where
  pub stack : List Symbol
  pub parts : Parts

abbrev pub fed : Act → (Parts → Option State) → List Symbol → Parts → Lexeme → Option State
fed (shift effects new) go_on s v t = Some (record { stack = new ++ s; parts = effects_of (Some t) effects v })
fed (pop effects) go_on s v t = go_on (effects_of None effects v)
fed refuse go_on s v t = None

abbrev pub taken : Step → (Parts → Option State) → List Symbol → Parts → Lexeme → Option State
taken step go_on s v t = fed step.act go_on s (effects_of None step.first v) t

-- what one token does, where it fits
abbrev pub feed : List Symbol → Parts → Lexeme → Option State
feed [] v t = None
feed (x ∷ s) v t = taken (next x t.kind) (λ u. feed s u t) s v t

abbrev pub closing : Act → (Parts → Option Parts) → Parts → Option Parts
closing (shift effects new) go_on v = None
closing (pop effects) go_on v = go_on (effects_of None effects v)
closing refuse go_on v = None

-- the parts at the end of the text, where nothing more need come
abbrev pub finish : List Symbol → Parts → Option Parts
finish [] v = Some v
finish (x ∷ s) v = closing (last_of x) (finish s) v

abbrev pub ending : Option Parts → Result Parts Lexemes
ending (Some w) = Ok w
ending None = Err []

abbrev pub going : Option State → (State → Result Parts Lexemes) → Lexemes → Result Parts Lexemes
going (Some state) go_on ts = go_on state
going None go_on ts = Err ts

-- the parts at the end, or the lexemes from the first one that does not fit
abbrev pub run : List Symbol → Parts → Lexemes → Result Parts Lexemes
run s v [] = ending (finish s v)
run s v (t ∷ ts) = going (feed s v t) (λ state. run state.stack state.parts ts) (t ∷ ts)

-- the stack and the parts after some lexemes, where each fits
abbrev pub drive : List Symbol → Parts → Lexemes → Option State
drive s v [] = Some (record { stack = s; parts = v })
drive s v (t ∷ ts) = option_and_then (λ state. drive state.stack state.parts ts) (feed s v t)
