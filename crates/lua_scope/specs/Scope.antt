-- What a name means where it is used (Lua 5.4 manual, section 3.5).
use Rattle.std.specs.Prelude.{ℕ, ◌+◌, ◌++◌, ◌==◌, Bool, false, List, [], ◌∷◌, length, take, drop, reverse, find, Option, Some, None, nat_eq}
use Rattle.std.specs.List.{list_any}
use Rattle.std.specs.Cmp.Lexicographic.{pointwise}
use Rattle.lua_tree.specs.Source.{Text}
use Rattle.lua_scope.specs.declared.usage.Use.{Use}
use Rattle.lua_scope.specs.declared.usage.Use.TheVariants as usage
use Rattle.lua_scope.specs.declared.usage.Seen.{Seen}

-- how far the text was read
pub record Walk : Type 0 where
  -- the names in scope, the outermost first, and how many of them stand outside the function
  pub scope : List Seen
  pub outside : ℕ
  -- what each use of a name means, in the order of the text, and how many locals were declared
  pub uses : List Use
  pub locals : ℕ

abbrev pub is_named : Text → Seen → Bool
is_named x n = pointwise nat_eq n.name x

abbrev pub local_of : Option Seen → Option ℕ
local_of None = None
local_of (Some n) = Some n.local

-- the local of the innermost of this name
abbrev pub innermost : List Seen → Text → Option ℕ
innermost names x = local_of (find (is_named x) (reverse names))

-- a local of the function goes before one of a function outside; a name that is neither is global
abbrev pub meant : Option ℕ → Option ℕ → Use
meant (Some k) outer = usage.Local k
meant None (Some k) = usage.Upvalue k
meant None None = usage.Global

abbrev pub meaning_of : Walk → Text → Use
meaning_of w x = meant (innermost (drop w.outside w.scope) x) (innermost (take w.outside w.scope) x)

abbrev pub used : Text → Walk → Walk
used x w = record w { uses = w.uses ++ meaning_of w x ∷ [] }

-- a local is in scope from here on
abbrev pub declared : Text → Walk → Walk
declared x w = record w { scope = w.scope ++ record { name = x; local = w.locals } ∷ []; locals = w.locals + 1 }

abbrev pub all_declared : List Text → Walk → Walk
all_declared [] w = w
all_declared (x ∷ xs) w = all_declared xs (declared x w)

-- the names that were declared since then go out of scope
abbrev pub closed : Walk → Walk → Walk
closed before w = record w { scope = take (length before.scope) w.scope; outside = before.outside }

-- a function begins: all names in scope stand outside it
abbrev pub entered : Walk → Walk
entered w = record w { outside = length w.scope }

-- a use of this local stands in a function inside the one that declares it
abbrev pub is_captured_by : ℕ → Use → Bool
is_captured_by k (usage.Upvalue j) = j == k
is_captured_by k _ = false

abbrev pub is_captured : List Use → ℕ → Bool
is_captured uses k = list_any (is_captured_by k) uses
