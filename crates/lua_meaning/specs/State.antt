-- The states that a chunk goes through: a term that is worked on, what waits for it, and what it has stored.
use Rattle.std.specs.Prelude.{ℕ, ℤ, List, Option}
use Rattle.lua_tree.specs.Source.{Text, Block, Exp, Exps, Operands, Suffixes, Branches, Body}
use Rattle.lua_value.specs.declared.value.Value.{Value}
use Rattle.lua_model.specs.declared.operator.Binary.{Binary}
use Rattle.lua_model.specs.declared.operator.Unary.{Unary}
use Rattle.lua_model.specs.Heap as model

-- a name and the location that it stands for
pub record Named : Type 0 where
  pub name : Text
  pub location : ℕ

-- what a term sees: the locals in scope, the innermost first, and the further arguments of its function
pub record Env : Type 0 where
  pub locals : List Named
  pub dots : List Value

-- a value for a name
pub record Write : Type 0 where
  pub name : Text
  pub value : Value

-- whether the call that comes last in a term is the function's result itself
pub data Wanted : Type 0 where
  Result : Wanted
  Values : Wanted

-- what is worked on
pub data Focus : Type 0 where
  -- an expression, of which one value is wanted, or all
  Eval : (e : Exp) (env : Env) → Focus
  All : (e : Exp) (env : Env) → Focus
  -- a list of expressions, with the values so far
  Items : (es : Exps) (env : Env) (us : List Value) → Focus
  -- one value, or a list, for the first context
  Gives : (v : Value) → Focus
  Lists : (vs : List Value) → Focus
  -- an error on its way out
  Raises : (v : Value) → Focus
  Run : (b : Block) (env : Env) → Focus
  -- locals of these values are made, and then the block runs
  Declares : (xs : List Text) (vs : List Value) (b : Block) (env : Env) → Focus
  -- variables are assigned, and then the block runs
  Stores : (todo : List Write) (b : Block) (env : Env) → Focus

-- A context is a term with one hole. `rest` is what follows a statement in its block, in the scope env.
pub data Context : Type 0 where
  -- ---- these wait for one value
  UnaryK : (op : Unary) (line : ℕ) → Context
  -- the operands that are still to come
  ChainK : (os : Operands) (env : Env) → Context
  OperandK : (op : Binary) (line : ℕ) (u : Value) (os : Operands) (env : Env) → Context
  -- the suffixes that are still to come
  SuffixK : (ss : Suffixes) (how : Wanted) (env : Env) → Context
  -- the value becomes a list
  OneK : Context
  ItemK : (es : Exps) (env : Env) (us : List Value) → Context
  IfK : (p : Block) (others : Branches) (rest : Block) (env : Env) → Context
  WhileK : (e : Exp) (body rest : Block) (env : Env) → Context
  UntilK : (body : Block) (e : Exp) (rest : Block) (env : Env) → Context
  -- the values of a numeric `for`, one after another
  ForK : (es : Exps) (us : List Value) (x : Text) (body : Block) (line : ℕ) (rest : Block) (env : Env) → Context
  StoreK : (x : Text) (rest : Block) (env : Env) → Context
  -- ---- these wait for a list
  -- the first of the list
  CutK : Context
  -- the list goes after these values
  SpreadK : (us : List Value) → Context
  -- the arguments of a call
  ArgsK : (f : Value) (line : ℕ) (ss : Suffixes) (how : Wanted) (env : Env) → Context
  -- the results of a call, to which suffixes are applied
  AfterK : (ss : Suffixes) (how : Wanted) (env : Env) → Context
  LocalK : (xs : List Text) (rest : Block) (env : Env) → Context
  AssignK : (xs : List Text) (rest : Block) (env : Env) → Context
  DropK : (rest : Block) (env : Env) → Context
  ReturnK : Context
  -- the three values of a generic `for`
  GenericK : (xs : List Text) (body : Block) (line : ℕ) (rest : Block) (env : Env) → Context
  -- the results of its iterator
  TurnK : (f state : Value) (xs : List Text) (body : Block) (line : ℕ) (rest : Block) (env : Env) → Context
  -- a thread begins by the call of this value
  BeginK : (f : Value) → Context
  -- ---- these stand round a block
  BlockK : (rest : Block) (env : Env) → Context
  WhileLoopK : (e : Exp) (body rest : Block) (env : Env) → Context
  RepeatLoopK : (body : Block) (e : Exp) (rest : Block) (env : Env) → Context
  -- the turns still to come, this turn's value, and the step
  NumericLoopK : (n : ℕ) (at step : ℤ) (x : Text) (body rest : Block) (env : Env) → Context
  GenericLoopK : (f state control : Value) (xs : List Text) (body : Block) (line : ℕ) (rest : Block) (env : Env) → Context
  -- a function's body, with the line of its call where a script makes it
  CallK : (line : Option ℕ) → Context

-- a function of the chunk, with the locations that its names had where it was made
pub record Closure : Type 0 where
  pub body : Body
  pub env : Env

-- a thread that does not run
pub data Thread : Type 0 where
  -- it waits for a list
  Asleep : (ks : List Context) → Thread
  -- it runs, or it has resumed another
  Busy : Thread
  Dead : Thread

-- a thread that has resumed another, and the contexts in which it waits
pub record Resumer : Type 0 where
  pub thread : ℕ
  pub ks : List Context

-- what most reductions leave as it is
pub record Aside : Type 0 where
  -- the script's name
  pub name : List ℕ
  -- strings and units
  pub heap : model.Heap
  -- the thread that runs, those that resumed it, the last first, and all threads by their numbers
  pub running : ℕ
  pub resumers : List Resumer
  pub threads : List Thread

pub record State : Type 0 where
  pub focus : Focus
  -- the contexts of the running thread, the innermost first
  pub ks : List Context
  -- the value at each location
  pub store : List Value
  -- the functions that were made, by their numbers
  pub closures : List Closure
  -- the ticks that are left for this message
  pub left : ℕ
  pub aside : Aside

-- a call of a function that the host has
pub record NativeCall : Type 0 where
  pub called : Value
  pub args : List Value

pub data Stop : Type 0 where
  -- the thread that was entered ends with these values, or with an error
  Return : (vs : List Value) → Stop
  Raise : (v : Value) → Stop
  -- the next ticks pass the budget
  Budget : Stop
  -- the next units pass the heap
  HeapFull : Stop
  -- a term that has no rule yet: it makes or reads a table; or a state that no chunk comes to
  NoRule : Stop

-- the next state, a stop, or a call of the host for whose results the state waits
pub data Step : Type 0 where
  Next : (s : State) → Step
  Halt : (x : Stop) (s : State) → Step
  Pause : (call : NativeCall) (s : State) → Step
