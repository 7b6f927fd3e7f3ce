-- How much of a state is unfinished.
use Rattle.std.specs.Prelude.{ℕ, ◌+◌, List, [], ◌∷◌, length}
use Rattle.lua_tree.specs.Source.{Exp, Nil, False, True, Int, Str, Dots, Function, Name, Paren, Table, Suffixed, Unary, Chain, Exps, NoExp, MoreExps, Operands, NoOperand, MoreOperands, Suffixes, NoSuffix, MoreSuffixes, Suffix, Index, Call, Method, Block, Plain, Returns, Stats, NoStat, MoreStats, Branches, NoElse, Else, Elseif}
use Rattle.lua_meaning.specs.State.{Focus, Eval, All, Items, Gives, Lists, Raises, Run, Declares, Stores, Context, UnaryK, ChainK, OperandK, SuffixK, OneK, ItemK, IfK, WhileK, UntilK, ForK, StoreK, CutK, SpreadK, ArgsK, AfterK, LocalK, AssignK, DropK, ReturnK, GenericK, TurnK, BeginK, BlockK, WhileLoopK, RepeatLoopK, NumericLoopK, GenericLoopK, CallK, Resumer, State}

-- a function is a value, whatever its body is
abbrev mutual
  pub exp_size : Exp → ℕ
  exp_size Nil = 2
  exp_size False = 2
  exp_size True = 2
  exp_size (Int n) = 2
  exp_size (Str t) = 2
  exp_size Dots = 2
  exp_size (Function f) = 2
  exp_size (Name x) = 2
  exp_size (Paren e) = exp_size e + 1
  exp_size (Table fs) = 2
  exp_size (Suffixed e ss) = exp_size e + suffixes_size ss + 2
  exp_size (Unary op line e) = exp_size e + 2
  exp_size (Chain e os) = exp_size e + operands_size os + 1

  pub exps_size : Exps → ℕ
  exps_size NoExp = 2
  exps_size (MoreExps e es) = exp_size e + exps_size es + 2

  pub operands_size : Operands → ℕ
  operands_size NoOperand = 1
  operands_size (MoreOperands op line e os) = exp_size e + operands_size os + 2

  pub suffixes_size : Suffixes → ℕ
  suffixes_size NoSuffix = 1
  suffixes_size (MoreSuffixes x ss) = suffix_size x + suffixes_size ss + 3

  pub suffix_size : Suffix → ℕ
  suffix_size (Index e line) = exp_size e
  suffix_size (Call es line) = exps_size es
  suffix_size (Method x at es line) = exps_size es

-- a statement pays a tick before anything in it is worked on, so that one counts as one
abbrev pub stats_size : Stats → ℕ
stats_size NoStat = 1
stats_size (MoreStats t ts) = stats_size ts + 1

abbrev pub block_size : Block → ℕ
block_size (Plain ts) = stats_size ts
block_size (Returns ts es) = stats_size ts + exps_size es + 1

abbrev pub branches_size : Branches → ℕ
branches_size NoElse = 0
branches_size (Else b) = block_size b + 1
branches_size (Elseif e b others) = exp_size e + block_size b + branches_size others + 3

abbrev pub context_size : Context → ℕ
context_size (UnaryK op line) = 1
context_size (ChainK os env) = operands_size os
context_size (OperandK op line u os env) = operands_size os + 1
context_size (SuffixK ss how env) = suffixes_size ss
context_size OneK = 1
context_size (ItemK es env us) = exps_size es
context_size (IfK p others rest env) = block_size p + branches_size others + block_size rest + 2
context_size (WhileK e body rest env) = block_size rest + 1
context_size (UntilK body e rest env) = block_size rest + 1
context_size (ForK es us x body line rest env) = exps_size es + block_size rest + 1
context_size (StoreK x rest env) = block_size rest + 2
context_size CutK = 1
context_size (SpreadK us) = 1
context_size (ArgsK f line ss how env) = suffixes_size ss + 1
context_size (AfterK ss how env) = suffixes_size ss + 1
context_size (LocalK xs rest env) = block_size rest + length xs + 1
context_size (AssignK xs rest env) = block_size rest + length xs + 1
context_size (DropK rest env) = block_size rest + 1
context_size ReturnK = 1
context_size (GenericK xs body line rest env) = block_size rest + 1
context_size (TurnK f state xs body line rest env) = block_size rest + 1
context_size (BeginK f) = 1
context_size (BlockK rest env) = block_size rest + 1
context_size (WhileLoopK e body rest env) = exp_size e + block_size rest + 2
context_size (RepeatLoopK body e rest env) = exp_size e + block_size rest + 2
context_size (NumericLoopK n at step x body rest env) = block_size rest + 1
context_size (GenericLoopK f state control xs body line rest env) = block_size rest + 1
context_size (CallK line) = 1

abbrev pub contexts_size : List Context → ℕ
contexts_size [] = 0
contexts_size (k ∷ ks) = context_size k + contexts_size ks

abbrev pub focus_size : Focus → ℕ
focus_size (Eval e env) = exp_size e
focus_size (All e env) = exp_size e + 2
focus_size (Items es env us) = exps_size es
focus_size (Gives v) = 1
focus_size (Lists vs) = 1
focus_size (Raises v) = 0
focus_size (Run b env) = block_size b
focus_size (Declares xs vs b env) = block_size b + length xs + 1
focus_size (Stores todo b env) = block_size b + length todo + 1

abbrev pub resumers_size : List Resumer → ℕ
resumers_size [] = 0
resumers_size (r ∷ rs) = contexts_size r.ks + 2 + resumers_size rs

-- the terms of the running thread, and of those that wait for it
abbrev pub size : State → ℕ
size s = focus_size s.focus + contexts_size s.ks + resumers_size s.aside.resumers
