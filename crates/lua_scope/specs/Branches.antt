-- The parts of an `if` and of a numeric `for`, as the tree has them.
use Rattle.std.specs.Prelude.{List, [], ◌∷◌, Option, Some, None}
use Rattle.lua_tree.specs.Source.{Block, Exp}
use Rattle.lua_tree.specs.View.{Guarded}
use Rattle.lua_scope.specs.Scope.{Walk, closed}
use Rattle.lua_scope.specs.Walk.{exp_read, block_read}

abbrev pub branch_read : Guarded → Walk → Walk
branch_read g w = closed (exp_read g.0 w) (block_read g.1 (exp_read g.0 w))

abbrev pub guarded_read : List Guarded → Walk → Walk
guarded_read [] w = w
guarded_read (g ∷ gs) w = guarded_read gs (branch_read g w)

abbrev pub else_read : Option Block → Walk → Walk
else_read None w = w
else_read (Some b) w = closed w (block_read b w)

abbrev pub step_read : Option Exp → Walk → Walk
step_read None w = w
step_read (Some e) w = exp_read e w
