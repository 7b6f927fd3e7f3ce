-- Statements (Lua 5.4 manual, section 3.3). Each costs a tick; `return` costs none.
use Rattle.std.specs.Prelude.{ℕ, Bool, true, false, List, [], ◌∷◌, ◌++◌, length, drop, Option, Some, None, slice_set}
use Rattle.lua_tree.specs.Source as source
use Rattle.lua_tree.specs.Source.{Text, Block, Plain, Returns, NoStat, MoreStats, Stat, Exp, Exps, NoExp, MoreExps, Branches, NoElse, Else, Elseif, Targets, NoTarget, MoreTargets, Variable, Element, Body}
use Rattle.lua_value.specs.declared.value.Value.{Value}
use Rattle.lua_value.specs.declared.value.Value.TheVariants as value
use Rattle.lua_value.specs.Lists.{first}
use Rattle.lua_meaning.specs.State.{Env, Write, Result, Eval, All, Items, Run, Declares, Stores, Context, SuffixK, IfK, WhileK, ForK, StoreK, LocalK, AssignK, DropK, ReturnK, GenericK, BlockK, WhileLoopK, RepeatLoopK, NumericLoopK, GenericLoopK, State, NoRule, Step, Next, Halt}
use Rattle.lua_meaning.specs.Moves.{location_of, bound, goes, ticked, paid}

-- ---- locals and assignment

-- the locals are made from left to right, each at a new location (section 3.3.7)
abbrev pub declares : List Text → List Value → Block → Env → State → List Context → Step
declares [] vs b env s ks = goes s (Run b env) ks
declares (x ∷ xs) vs b env s ks =
    Next (record s { focus = Declares xs (drop 1 vs) b (bound x (length s.store) env); ks = ks; store = s.store ++ first vs ∷ [] })

abbrev pub stores_at : Option ℕ → Value → List Write → Block → Env → State → List Context → Step
stores_at None v todo b env s ks = Halt NoRule s
stores_at (Some l) v todo b env s ks = Next (record s { focus = Stores todo b env; ks = ks; store = slice_set s.store l v })

abbrev pub stores : List Write → Block → Env → State → List Context → Step
stores [] b env s ks = goes s (Run b env) ks
stores (w ∷ todo) b env s ks = stores_at (location_of env.locals w.name) w.value todo b env s ks

-- the writes of an assignment, the last target first (section 3.3.3)
abbrev pub pending : List Text → List Value → List Write → List Write
pending [] vs todo = todo
pending (x ∷ xs) vs todo = pending xs (drop 1 vs) (record { name = x; value = first vs } ∷ todo)

-- the names of targets that are variables; none where one is an element of a table
abbrev pub named : Option (List Text) → Text → Option (List Text)
named None x = None
named (Some xs) x = Some (x ∷ xs)

abbrev pub variables : Targets → Option (List Text)
variables NoTarget = Some []
variables (MoreTargets (Variable x) ts) = named (variables ts) x
variables (MoreTargets (Element a b line) ts) = None

abbrev pub assigns : Option (List Text) → Exps → Block → Env → State → List Context → Step
assigns None es rest env s ks = Halt NoRule s
assigns (Some xs) es rest env s ks = ticked s.left s (Items es env []) (AssignK xs rest env ∷ ks)

-- ---- choice (section 3.3.4)

abbrev pub otherwise : Branches → Block → Env → State → List Context → Step
otherwise NoElse rest env s ks = goes s (Run rest env) ks
otherwise (Else p) rest env s ks = goes s (Run p env) (BlockK rest env ∷ ks)
otherwise (Elseif e p others) rest env s ks = goes s (Eval e env) (IfK p others rest env ∷ ks)

abbrev pub chosen : Bool → Block → Branches → Block → Env → State → List Context → Step
chosen true p others rest env s ks = goes s (Run p env) (BlockK rest env ∷ ks)
chosen false p others rest env s ks = otherwise others rest env s ks

-- ---- break (section 3.3.4)

-- what follows the innermost loop
pub record Exit : Type 0 where
  pub rest : Block
  pub env : Env
  pub ks : List Context

abbrev pub out_of_loop : List Context → Option Exit
out_of_loop [] = None
out_of_loop (BlockK rest env ∷ ks) = out_of_loop ks
out_of_loop (WhileLoopK e body rest env ∷ ks) = Some (record { rest = rest; env = env; ks = ks })
out_of_loop (RepeatLoopK body e rest env ∷ ks) = Some (record { rest = rest; env = env; ks = ks })
out_of_loop (NumericLoopK n at step x body rest env ∷ ks) = Some (record { rest = rest; env = env; ks = ks })
out_of_loop (GenericLoopK f state control xs body line rest env ∷ ks) = Some (record { rest = rest; env = env; ks = ks })
out_of_loop (_ ∷ ks) = None

abbrev pub breaks : Option Exit → State → Step
breaks None s = Halt NoRule s
breaks (Some x) s = ticked s.left s (Run x.rest x.env) x.ks

-- ---- a statement, and what follows it

-- the name of a local function is in scope in its body (section 3.4.11)
abbrev pub local_function : Text → Body → Block → Env → State → List Context → Step
local_function x f rest env s ks =
    let inside = bound x (length s.store) env in
    ticked s.left (record s { store = s.store ++ value.Nil ∷ [] }) (Eval (source.Function f) inside) (StoreK x rest inside ∷ ks)

abbrev pub stat : Stat → Block → Env → State → List Context → Step
stat (source.Assign ts es) rest env s ks = assigns (variables ts) es rest env s ks
stat (source.Invoke e) rest env s ks = ticked s.left s (All e env) (DropK rest env ∷ ks)
stat source.Break rest env s ks = breaks (out_of_loop ks) s
stat (source.Do b) rest env s ks = ticked s.left s (Run b env) (BlockK rest env ∷ ks)
stat (source.While e b) rest env s ks = ticked s.left s (Eval e env) (WhileK e b rest env ∷ ks)
stat (source.Repeat b e) rest env s ks = paid 2 s (λ t. goes t (Run b env) (RepeatLoopK b e rest env ∷ ks))
stat (source.If e p others) rest env s ks = ticked s.left s (Eval e env) (IfK p others rest env ∷ ks)
stat (source.Numeric x a b body line) rest env s ks =
    ticked s.left s (Eval a env) (ForK (MoreExps b NoExp) [] x body line rest env ∷ ks)
stat (source.NumericBy x a b c body line) rest env s ks =
    ticked s.left s (Eval a env) (ForK (MoreExps b (MoreExps c NoExp)) [] x body line rest env ∷ ks)
stat (source.Generic xs es body line) rest env s ks = ticked s.left s (Items es env []) (GenericK xs body line rest env ∷ ks)
stat (source.Local xs es) rest env s ks = ticked s.left s (Items es env []) (LocalK xs rest env ∷ ks)
stat (source.LocalFunction x f) rest env s ks = local_function x f rest env s ks

-- `return` of one call is a tail call (section 3.4.10)
abbrev pub returns : Exps → Env → State → List Context → Step
returns (MoreExps (source.Suffixed e ss) NoExp) env s ks = goes s (Eval e env) (SuffixK ss Result env ∷ ReturnK ∷ ks)
returns es env s ks = goes s (Items es env []) (ReturnK ∷ ks)
