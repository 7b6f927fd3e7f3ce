-- Parts of blocks, loops and scopes, as the tree and the code have them (manual, sections 3.3.4, 3.3.5 and 3.5).
use Rattle.std.specs.Prelude.{◌≡◌, ℕ, Bool, if◌then◌else◌, List, [], ◌++◌, length, Option, Some, None, pos}
use Rattle.lua_tree.specs.Source as source
use Rattle.lua_tree.specs.Source.{Text, Exp, Exps, Stat}
use Rattle.lua_model.specs.Texts.{same_bytes}
use Rattle.lua_steps.specs.declared.scope.Place.{Place}
use Rattle.lua_steps.specs.declared.scope.Known.{Known}
use Rattle.lua_code.specs.declared.op.Op.TheVariants as op
use Rattle.lua_steps.specs.Scope.{Scope}
use Rattle.lua_steps.specs.Stand.{from_slots, from_items}
use Rattle.lua_compile.specs.declared.aim.Aim.{Aim}
use Rattle.lua_compile.specs.declared.aim.Aim.TheVariants.{Into, Anywhere}
use Rattle.lua_compile.specs.declared.aim.Want.{Want}
use Rattle.lua_compile.specs.declared.aim.Room.TheVariants.{Nothing}
use Rattle.lua_compile.specs.Writer.{Writer, put}
use Rattle.lua_compile.specs.Forms.{int_written, is_tail, is_only, slots_fit, count, on_slot, only_shown, where_none, targets_fit, only_slot, only_direct, directly, stores_written}
use Rattle.lua_compile.specs.Written.{exp_written, suffixes_written, stat_written, tail_written, only_written, fixed_written, values_written, list_written}

-- what a block returns
abbrev pub returned : Exps → Scope → Writer → Writer
returned es sc w =
    if is_tail es then tail_written es sc sc.free w
    else if is_only es
    then on_slot (only_shown es sc.names sc.free (Anywhere Nothing)) (only_written es sc sc.free (Anywhere Nothing) w)
    (λ x. put (op.Return x 1) (only_written es sc sc.free (Anywhere Nothing) w))
    else if slots_fit es then put (op.Return sc.free (count es)) (fixed_written es sc sc.free w)
    else put op.ReturnList (list_written es sc sc.free (put op.Begin w))

-- the step of a numeric `for`
abbrev pub step_written : Option Exp → Scope → ℕ → Writer → Writer
step_written None sc r w = int_written r (pos 1) w
step_written (Some e) sc r w = exp_written e sc r (Into r) w

-- the innermost of the names that are these bytes
abbrev pub is_known : Text → Known → Bool
is_known x n = same_bytes n.name x

abbrev pub place_in : Option Known → Option Place
place_in None = None
place_in (Some n) = Some n.place

-- ---- one kind of term each; any other is left alone
abbrev pub suffixed_written : Exp → Scope → ℕ → Want → Writer → Writer
suffixed_written (source.Suffixed e ss) sc d a w = where_none ss a d (suffixes_written ss sc d a (exp_written e sc d (Into d) w))
suffixed_written _ sc d a w = w

abbrev pub chain_written : Exp → Scope → ℕ → Aim → Writer → Writer
chain_written (source.Chain e os) sc d aim w = exp_written (source.Chain e os) sc d aim w
chain_written _ sc d aim w = w

abbrev pub while_written : Stat → Scope → ℕ → Writer → Writer
while_written (source.While e p) sc k w = stat_written (source.While e p) sc k None w
while_written _ sc k w = w

abbrev pub repeat_written : Stat → Scope → ℕ → Writer → Writer
repeat_written (source.Repeat p e) sc k w = stat_written (source.Repeat p e) sc k None w
repeat_written _ sc k w = w

-- ---- assignments
-- the value is made in this slot, or it is not
pub record IsDirectTo (slot : ℕ) (only : Option ℕ) (direct : Bool) : Type 0 where
  pub is : (w : Writer) (go : ℕ → Writer) → directly only direct w go ≡ go slot

pub record IsNotDirect (only : Option ℕ) (direct : Bool) : Type 0 where
  pub is : (w : Writer) (go : ℕ → Writer) → directly only direct w go ≡ w

-- the names of targets, and those after them
abbrev pub with_front : List Text → Option (List Text) → Option (List Text)
with_front xs None = None
with_front xs (Some ys) = Some (xs ++ ys)

-- the values go to the names
abbrev pub assigned : List Text → Exps → Scope → Writer → Writer
assigned xs es sc w =
    if targets_fit xs
    then directly (only_slot xs sc.names) (only_direct es)
    (stores_written (from_slots xs sc.free []) sc.free sc.names (values_written es (length xs) sc sc.free w))
    (λ s. only_written es sc sc.free (Into s) w)
    else put (op.Spread sc.free 0) (stores_written (from_items xs 0 []) sc.free sc.names (list_written es sc sc.free (put op.Begin w)))
