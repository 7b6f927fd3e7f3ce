-- One small step: the next state, by the form of what is worked on.
use Rattle.std.specs.Prelude.{List, [], ◌∷◌, ◌++◌, None}
use Rattle.lua_tree.specs.Source.{Block, Plain, Returns, NoStat, MoreStats}
use Rattle.lua_value.specs.declared.value.Value.{Value}
use Rattle.lua_value.specs.Same.{is_true, is_nil}
use Rattle.lua_value.specs.Lists.{first}
use Rattle.lua_model.specs.Integer as lua
use Rattle.lua_model.specs.Operators.{binary, unary}
use Rattle.lua_meaning.specs.State.{Env, Focus, Eval, All, Items, Gives, Lists, Raises, Run, Declares, Stores, Context, UnaryK, ChainK, OperandK, SuffixK, OneK, ItemK, IfK, WhileK, UntilK, ForK, StoreK, CutK, SpreadK, ArgsK, AfterK, LocalK, AssignK, DropK, ReturnK, GenericK, TurnK, BeginK, BlockK, WhileLoopK, RepeatLoopK, NumericLoopK, GenericLoopK, CallK, State, NoRule, Step, Halt}
use Rattle.lua_meaning.specs.Moves.{goes, answered, finish}
use Rattle.lua_meaning.specs.Values.{eval, all, items, chained, suffixed, after_call}
use Rattle.lua_meaning.specs.Calls.{calls, applied, hand, raised}
use Rattle.lua_meaning.specs.Statements.{declares, stores, pending, chosen, stat, returns}
use Rattle.lua_meaning.specs.Loops.{while_turn, repeat_turn, numeric_turn, numeric_value, generic_call, generic_begin, generic_turn}

-- one value for the first context
abbrev pub take : Context → Value → State → List Context → Step
take (UnaryK op line) v s ks = answered (unary s.aside.heap.texts op v) line s ks
take (ChainK os env) v s ks = chained os env v s ks
take (OperandK op line u os env) v s ks = answered (binary s.aside.heap.texts op u v) line s (ChainK os env ∷ ks)
take (SuffixK ss how env) v s ks = suffixed ss how env v s ks
take OneK v s ks = goes s (Lists (v ∷ [])) ks
take (ItemK es env us) v s ks = goes s (Items es env (us ++ v ∷ [])) ks
take (IfK p others rest env) v s ks = chosen (is_true v) p others rest env s ks
take (WhileK e body rest env) v s ks = while_turn (is_true v) e body rest env s ks
take (UntilK body e rest env) v s ks = repeat_turn (is_true v) body e rest env s ks
take (ForK es us x body line rest env) v s ks = numeric_value es (us ++ v ∷ []) x body line rest env s ks
take (StoreK x rest env) v s ks = goes s (Stores (record { name = x; value = v } ∷ []) rest env) ks
take _ v s ks = Halt NoRule s

-- a list for the first context
abbrev pub take_all : Context → List Value → State → List Context → Step
take_all CutK vs s ks = goes s (Gives (first vs)) ks
take_all (SpreadK us) vs s ks = goes s (Lists (us ++ vs)) ks
take_all (ArgsK f line ss how env) vs s ks = applied f line ss how env vs s ks
take_all (AfterK ss how env) vs s ks = after_call ss how env vs s ks
take_all (LocalK xs rest env) vs s ks = goes s (Declares xs vs rest env) ks
take_all (AssignK xs rest env) vs s ks = goes s (Stores (pending xs vs []) rest env) ks
take_all (DropK rest env) vs s ks = goes s (Run rest env) ks
take_all ReturnK vs s ks = hand ks vs s
take_all (GenericK xs body line rest env) vs s ks = generic_begin vs xs body line rest env s ks
take_all (TurnK f state xs body line rest env) vs s ks = generic_turn (is_nil (first vs)) vs f state xs body line rest env s ks
take_all (BeginK f) vs s ks = calls None f vs s ks
take_all _ vs s ks = Halt NoRule s

-- a block has ended in the scope env; the condition of a `repeat` sees its locals
abbrev pub leave : List Context → Env → State → Step
leave [] env s = finish s.aside.resumers [] s
leave (BlockK rest outside ∷ ks) env s = goes s (Run rest outside) ks
leave (WhileLoopK e body rest outside ∷ ks) env s = goes s (Eval e outside) (WhileK e body rest outside ∷ ks)
leave (RepeatLoopK body e rest outside ∷ ks) env s = goes s (Eval e env) (UntilK body e rest outside ∷ ks)
leave (NumericLoopK n at step x body rest outside ∷ ks) env s = numeric_turn n (lua.add at step) step x body rest outside s ks
leave (GenericLoopK f state control xs body line rest outside ∷ ks) env s = generic_call f state control xs body line rest outside s ks
leave (CallK line ∷ ks) env s = goes s (Lists []) ks
leave (_ ∷ ks) env s = Halt NoRule s

abbrev pub run : Block → Env → State → List Context → Step
run (Plain NoStat) env s ks = leave ks env s
run (Plain (MoreStats t ts)) env s ks = stat t (Plain ts) env s ks
run (Returns NoStat es) env s ks = returns es env s ks
run (Returns (MoreStats t ts) es) env s ks = stat t (Returns ts es) env s ks

abbrev pub give : List Context → Value → State → Step
give [] v s = finish s.aside.resumers (v ∷ []) s
give (k ∷ ks) v s = take k v s ks

abbrev pub give_all : List Context → List Value → State → Step
give_all [] vs s = finish s.aside.resumers vs s
give_all (k ∷ ks) vs s = take_all k vs s ks

abbrev pub act : Focus → State → Step
act (Eval e env) s = eval e env s s.ks
act (All e env) s = all e env s s.ks
act (Items es env us) s = items es env us s s.ks
act (Gives v) s = give s.ks v s
act (Lists vs) s = give_all s.ks vs s
act (Raises v) s = raised s.ks v s
act (Run b env) s = run b env s s.ks
act (Declares xs vs b env) s = declares xs vs b env s s.ks
act (Stores todo b env) s = stores todo b env s s.ks

-- the next state, or a stop
abbrev pub reduce : State → Step
reduce s = act s.focus s
