-- The branches of an `if`, one after another.
use Rattle.std.proofs.Common.{◌≡◌, ◌≢◌, refl, ap, ◌∙◌, List, [], ◌∷◌, Option, Some, None, map, option_map}
use Rattle.lua_tree.specs.Source.{Block}
use Rattle.lua_tree.specs.View.{Guarded, branches_of, else_of, stat_of, branch_of, block_of}
use Rattle.lua_tree.proofs.Views.{if_seen}
use Rattle.lua_tree.specs.declared.tree.Branch.{Branch}
use Rattle.lua_tree.specs.declared.tree.Block.{Block as TreeBlock}
use Rattle.lua_tree.specs.declared.tree.Stat.TheVariants as stat
use Rattle.lua_scope.specs.Scope.{Walk}
use Rattle.lua_scope.specs.Walk.{stat_read, branches_read}
use Rattle.lua_scope.specs.Branches.{branch_read, guarded_read, else_read}

else-read : (o : Option Block) (w : Walk) → branches_read (else_of o) w ≡ else_read o w
else-read None w = refl
else-read (Some b) w = refl

branches-read : (gs : List Guarded) (o : Option Block) (w : Walk) → branches_read (branches_of gs (else_of o)) w ≡ else_read o (guarded_read gs w)
branches-read [] o w = else-read o w
branches-read (g ∷ gs) o w = branches-read gs o (branch_read g w)

-- an `if` with one branch at least is read branch by branch
pub if-read : (bs : List Branch) (o : Option TreeBlock) (w : Walk) → bs ≢ [] → stat_read (stat_of (stat.If bs o)) w ≡ else_read (option_map block_of o) (guarded_read (map branch_of bs) w)
if-read [] o w h = absurd (h refl)
if-read (b ∷ bs) o w h =
    ap (λ t. stat_read t w) (if_seen (b ∷ bs) o)
    ∙ branches-read (map branch_of bs) (option_map block_of o) (branch_read (branch_of b) w)
