-- Small chunks, and what their names mean (Lua 5.4 manual, section 3.5).
use Rattle.std.specs.Prelude.{◌≡◌, false, List, [], ◌∷◌, codes, pos}
use Rattle.lua_tree.specs.Source.{Text, Block, Plain, Returns, Stats, NoStat, MoreStats, Stat, Assign, Do, Repeat, Numeric, Local, LocalFunction, NoTarget, MoreTargets, Variable, Exp, Int, Function, Name, Exps, NoExp, MoreExps, Body, body}
use Rattle.lua_scope.specs.declared.usage.Use.{Use}
use Rattle.lua_scope.specs.declared.usage.Use.TheVariants as usage
use Rattle.lua_scope.specs.Walk.{chunk_read}

abbrev pub x : Text
x = codes "x"

abbrev pub y : Text
y = codes "y"

abbrev pub one : Exp → Exps
one e = MoreExps e NoExp

abbrev pub seq : List Stat → Stats
seq [] = NoStat
seq (t ∷ ts) = MoreStats t (seq ts)

abbrev pub local : Text → Exp → Stat
local n e = Local (n ∷ []) (one e)

abbrev pub set : Text → Exp → Stat
set n e = Assign (MoreTargets (Variable n) NoTarget) (one e)

abbrev pub int : Exp
int = Int (pos 1)

abbrev pub uses_of : Block → List Use
uses_of b = (chunk_read b).uses

-- local x = x  local x = x  return x
abbrev pub after_its_statement : Block
after_its_statement = Returns (seq (local x (Name x) ∷ local x (Name x) ∷ [])) (one (Name x))

-- local x = 1  do local x = x end  return x
abbrev pub out_of_its_block : Block
out_of_its_block = Returns (seq (local x int ∷ Do (Plain (seq (local x (Name x) ∷ []))) ∷ [])) (one (Name x))

-- local x = 1  repeat local x = 1 until x  return x
abbrev pub seen_by_until : Block
seen_by_until = Returns (seq (local x int ∷ Repeat (Plain (seq (local x int ∷ []))) (Name x) ∷ [])) (one (Name x))

-- for x = x, x do x = x end  return x
abbrev pub seen_by_the_body : Block
seen_by_the_body = Returns (seq (Numeric x (Name x) (Name x) (Plain (seq (set x (Name x) ∷ []))) 1 ∷ [])) (one (Name x))

-- local function x() return x end
abbrev pub seen_by_itself : Block
seen_by_itself = Plain (seq (LocalFunction x (body [] false (Returns NoStat (one (Name x)))) ∷ []))

-- local x = function() return x end
abbrev pub not_seen_by_itself : Block
not_seen_by_itself = Plain (seq (local x (Function (body [] false (Returns NoStat (one (Name x))))) ∷ []))

-- local x = 1  local y = function(y) return function() x = y end end  return y
abbrev pub through_functions : Block
through_functions =
    let inner : Body = body [] false (Plain (seq (set x (Name y) ∷ []))) in
    let outer : Body = body (y ∷ []) false (Returns NoStat (one (Function inner))) in
    Returns (seq (local x int ∷ local y (Function outer) ∷ [])) (one (Name y))

pub record ScopesAreAsInLua : Type 0 where
  pub begins_after : uses_of after_its_statement ≡ usage.Global ∷ usage.Local 0 ∷ usage.Local 1 ∷ []
  pub ends_with_block : uses_of out_of_its_block ≡ usage.Local 0 ∷ usage.Local 0 ∷ []
  pub until_sees : uses_of seen_by_until ≡ usage.Local 1 ∷ usage.Local 0 ∷ []
  pub body_sees : uses_of seen_by_the_body ≡ usage.Global ∷ usage.Global ∷ usage.Local 0 ∷ usage.Local 0 ∷ usage.Global ∷ []
  pub function_sees : uses_of seen_by_itself ≡ usage.Upvalue 0 ∷ []
  pub local_does_not : uses_of not_seen_by_itself ≡ usage.Global ∷ []
  pub outer_before_global : uses_of through_functions ≡ usage.Upvalue 0 ∷ usage.Upvalue 1 ∷ usage.Local 2 ∷ []
