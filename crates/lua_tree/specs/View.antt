-- A tree as plain data.
use Rattle.std.specs.Prelude.{ℕ, List, [], ◌∷◌, Option, Some, None}
use Rattle.lua_tree.specs.Source as s
use Rattle.lua_tree.specs.declared.tree.BinaryOp.{BinaryOp}
use Rattle.lua_tree.specs.declared.tree.Chunk.{Chunk}
use Rattle.lua_tree.specs.declared.tree.Expr.{Expr, fold-Expr}
use Rattle.lua_tree.specs.declared.tree.Field.{Field, fold-Field}
use Rattle.lua_tree.specs.declared.tree.Stat.{Stat, fold-Stat}
use Rattle.lua_tree.specs.declared.tree.Suffix.{Suffix, fold-Suffix}
use Rattle.lua_tree.specs.declared.tree.Target.{Target, fold-Target}
use Rattle.lua_tree.specs.declared.tree.Block.{Block, fold-Block}
use Rattle.lua_tree.specs.declared.tree.Body.{Body, fold-Body}
use Rattle.lua_tree.specs.declared.tree.Branch.{Branch, fold-Branch}
use Rattle.lua_tree.specs.declared.tree.GenericFor.{GenericFor, fold-GenericFor}
use Rattle.lua_tree.specs.declared.tree.NumericFor.{NumericFor, fold-NumericFor}
use Rattle.lua_tree.specs.declared.tree.Operand.{Operand, fold-Operand}
use Rattle.lua_tree.specs.declared.tree.Expr.TheOpen.{Expr-F, Field-F, Stat-F, Suffix-F, Target-F, Block-F, Body-F, Branch-F, GenericFor-F, NumericFor-F, Operand-F}

abbrev pub exps_of : List s.Exp → s.Exps
exps_of [] = s.NoExp
exps_of (e ∷ es) = s.MoreExps e (exps_of es)

abbrev pub stats_of : List s.Stat → s.Stats
stats_of [] = s.NoStat
stats_of (x ∷ xs) = s.MoreStats x (stats_of xs)

abbrev pub targets_of : List s.Target → s.Targets
targets_of [] = s.NoTarget
targets_of (x ∷ xs) = s.MoreTargets x (targets_of xs)

abbrev pub suffixes_of : List s.Suffix → s.Suffixes
suffixes_of [] = s.NoSuffix
suffixes_of (x ∷ xs) = s.MoreSuffixes x (suffixes_of xs)

abbrev pub fields_of : List s.Field → s.Fields
fields_of [] = s.NoField
fields_of (x ∷ xs) = s.MoreFields x (fields_of xs)

-- an operator, its line and its right operand
abbrev pub Applied : Type 0
Applied = BinaryOp × ℕ × s.Exp

abbrev pub operands_of : List Applied → s.Operands
operands_of [] = s.NoOperand
operands_of (x ∷ xs) = s.MoreOperands x.0 x.1 x.2 (operands_of xs)

-- a test and what is done where it holds
abbrev pub Guarded : Type 0
Guarded = s.Exp × s.Block

abbrev pub else_of : Option s.Block → s.Branches
else_of None = s.NoElse
else_of (Some b) = s.Else b

abbrev pub branches_of : List Guarded → s.Branches → s.Branches
branches_of [] other = other
branches_of (x ∷ xs) other = s.Elseif x.0 x.1 (branches_of xs other)

-- A tree has an `if` with its branches, of which there is one at least.
abbrev pub if_of : List Guarded → s.Branches → s.Stat
if_of [] other = s.Do (s.Plain s.NoStat)
if_of (x ∷ xs) other = s.If x.0 x.1 (branches_of xs other)

abbrev pub block_with : s.Stats → Option (List s.Exp) → s.Block
block_with stats None = s.Plain stats
block_with stats (Some es) = s.Returns stats (exps_of es)

-- ---- one level, with what is inside already seen

abbrev pub exp_step : Expr-F s.Exp s.Field s.Stat s.Suffix s.Target s.Block s.Body Guarded s.Stat s.Stat Applied → s.Exp
exp_step Expr-F.Nil = s.Nil
exp_step Expr-F.False = s.False
exp_step Expr-F.True = s.True
exp_step (Expr-F.Int n) = s.Int n
exp_step (Expr-F.Text t) = s.Str t
exp_step Expr-F.Dots = s.Dots
exp_step (Expr-F.Function b) = s.Function b
exp_step (Expr-F.Name x) = s.Name x
exp_step (Expr-F.Paren e) = s.Paren e
exp_step (Expr-F.Table fs) = s.Table (fields_of fs)
exp_step (Expr-F.Suffixed e ss) = s.Suffixed e (suffixes_of ss)
exp_step (Expr-F.Unary op line e) = s.Unary op line e
exp_step (Expr-F.Chain e os) = s.Chain e (operands_of os)

abbrev pub field_step : Field-F s.Exp s.Field s.Stat s.Suffix s.Target s.Block s.Body Guarded s.Stat s.Stat Applied → s.Field
field_step (Field-F.Key a b) = s.KeyField a b
field_step (Field-F.Item a) = s.ItemField a

abbrev pub stat_step : Stat-F s.Exp s.Field s.Stat s.Suffix s.Target s.Block s.Body Guarded s.Stat s.Stat Applied → s.Stat
stat_step (Stat-F.Assign ts es) = s.Assign (targets_of ts) (exps_of es)
stat_step (Stat-F.Invoke e) = s.Invoke e
stat_step Stat-F.Break = s.Break
stat_step (Stat-F.Do b) = s.Do b
stat_step (Stat-F.While e b) = s.While e b
stat_step (Stat-F.Repeat b e) = s.Repeat b e
stat_step (Stat-F.If bs other) = if_of bs (else_of other)
stat_step (Stat-F.Numeric x) = x
stat_step (Stat-F.Generic x) = x
stat_step (Stat-F.Local xs es) = s.Local xs (exps_of es)
stat_step (Stat-F.LocalFunction x b) = s.LocalFunction x b

abbrev pub suffix_step : Suffix-F s.Exp s.Field s.Stat s.Suffix s.Target s.Block s.Body Guarded s.Stat s.Stat Applied → s.Suffix
suffix_step (Suffix-F.Index e line) = s.Index e line
suffix_step (Suffix-F.Call es line) = s.Call (exps_of es) line
suffix_step (Suffix-F.Method x at es line) = s.Method x at (exps_of es) line

abbrev pub target_step : Target-F s.Exp s.Field s.Stat s.Suffix s.Target s.Block s.Body Guarded s.Stat s.Stat Applied → s.Target
target_step (Target-F.Variable x) = s.Variable x
target_step (Target-F.Element a b line) = s.Element a b line

abbrev pub block_step : Block-F s.Exp s.Field s.Stat s.Suffix s.Target s.Block s.Body Guarded s.Stat s.Stat Applied → s.Block
block_step b = block_with (stats_of b.stats) b.result

abbrev pub body_step : Body-F s.Exp s.Field s.Stat s.Suffix s.Target s.Block s.Body Guarded s.Stat s.Stat Applied → s.Body
body_step b = s.body b.names b.has_dots b.block

abbrev pub branch_step : Branch-F s.Exp s.Field s.Stat s.Suffix s.Target s.Block s.Body Guarded s.Stat s.Stat Applied → Guarded
branch_step b = (b.test, b.block)

abbrev pub generic_step : GenericFor-F s.Exp s.Field s.Stat s.Suffix s.Target s.Block s.Body Guarded s.Stat s.Stat Applied → s.Stat
generic_step f = s.Generic f.names (exps_of f.values) f.block f.line

abbrev pub numeric_with : s.Text → s.Exp → s.Exp → Option s.Exp → s.Block → ℕ → s.Stat
numeric_with x first limit None b line = s.Numeric x first limit b line
numeric_with x first limit (Some step) b line = s.NumericBy x first limit step b line

abbrev pub numeric_step : NumericFor-F s.Exp s.Field s.Stat s.Suffix s.Target s.Block s.Body Guarded s.Stat s.Stat Applied → s.Stat
numeric_step f = numeric_with f.name f.first f.limit f.step f.block f.line

abbrev pub operand_step : Operand-F s.Exp s.Field s.Stat s.Suffix s.Target s.Block s.Body Guarded s.Stat s.Stat Applied → Applied
operand_step o = (o.op, o.line, o.value)

-- ---- whole trees

abbrev pub exp_of : Expr → s.Exp
exp_of = fold-Expr s.Exp s.Field s.Stat s.Suffix s.Target s.Block s.Body Guarded s.Stat s.Stat Applied exp_step field_step stat_step suffix_step target_step block_step body_step branch_step generic_step numeric_step operand_step

abbrev pub field_of : Field → s.Field
field_of = fold-Field s.Exp s.Field s.Stat s.Suffix s.Target s.Block s.Body Guarded s.Stat s.Stat Applied exp_step field_step stat_step suffix_step target_step block_step body_step branch_step generic_step numeric_step operand_step

abbrev pub stat_of : Stat → s.Stat
stat_of = fold-Stat s.Exp s.Field s.Stat s.Suffix s.Target s.Block s.Body Guarded s.Stat s.Stat Applied exp_step field_step stat_step suffix_step target_step block_step body_step branch_step generic_step numeric_step operand_step

abbrev pub suffix_of : Suffix → s.Suffix
suffix_of = fold-Suffix s.Exp s.Field s.Stat s.Suffix s.Target s.Block s.Body Guarded s.Stat s.Stat Applied exp_step field_step stat_step suffix_step target_step block_step body_step branch_step generic_step numeric_step operand_step

abbrev pub target_of : Target → s.Target
target_of = fold-Target s.Exp s.Field s.Stat s.Suffix s.Target s.Block s.Body Guarded s.Stat s.Stat Applied exp_step field_step stat_step suffix_step target_step block_step body_step branch_step generic_step numeric_step operand_step

abbrev pub block_of : Block → s.Block
block_of = fold-Block s.Exp s.Field s.Stat s.Suffix s.Target s.Block s.Body Guarded s.Stat s.Stat Applied exp_step field_step stat_step suffix_step target_step block_step body_step branch_step generic_step numeric_step operand_step

abbrev pub body_of : Body → s.Body
body_of = fold-Body s.Exp s.Field s.Stat s.Suffix s.Target s.Block s.Body Guarded s.Stat s.Stat Applied exp_step field_step stat_step suffix_step target_step block_step body_step branch_step generic_step numeric_step operand_step

abbrev pub branch_of : Branch → Guarded
branch_of = fold-Branch s.Exp s.Field s.Stat s.Suffix s.Target s.Block s.Body Guarded s.Stat s.Stat Applied exp_step field_step stat_step suffix_step target_step block_step body_step branch_step generic_step numeric_step operand_step

abbrev pub generic_of : GenericFor → s.Stat
generic_of = fold-GenericFor s.Exp s.Field s.Stat s.Suffix s.Target s.Block s.Body Guarded s.Stat s.Stat Applied exp_step field_step stat_step suffix_step target_step block_step body_step branch_step generic_step numeric_step operand_step

abbrev pub numeric_of : NumericFor → s.Stat
numeric_of = fold-NumericFor s.Exp s.Field s.Stat s.Suffix s.Target s.Block s.Body Guarded s.Stat s.Stat Applied exp_step field_step stat_step suffix_step target_step block_step body_step branch_step generic_step numeric_step operand_step

abbrev pub operand_of : Operand → Applied
operand_of = fold-Operand s.Exp s.Field s.Stat s.Suffix s.Target s.Block s.Body Guarded s.Stat s.Stat Applied exp_step field_step stat_step suffix_step target_step block_step body_step branch_step generic_step numeric_step operand_step

abbrev pub chunk_of : Chunk → s.Block
chunk_of c = block_of c.block
