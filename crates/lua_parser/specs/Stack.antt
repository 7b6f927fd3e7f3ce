-- A stack, the top first.
use Rattle.std.specs.Prelude.{◌≡◌, List, ◌∷◌}
use Rattle.lua_grammar.specs.declared.symbol.Symbol.{Symbol}

-- this symbol is expected first
abbrev pub IsTop : Symbol → List Symbol → Type 0
IsTop x s = (below : List Symbol) × (s ≡ x ∷ below)
