-- What each tree is seen as.
use Rattle.std.proofs.Common.{◌≡◌, ℕ, ℤ, refl, List, map, Bool, Option, option_map, Some, None}
use Rattle.lua_tree.specs.Source as s
use Rattle.lua_tree.specs.View.{exps_of, stats_of, targets_of, suffixes_of, fields_of, operands_of, else_of, if_of, block_with, numeric_with, exp_of, field_of, stat_of, suffix_of, target_of, block_of, body_of, branch_of, generic_of, numeric_of, operand_of, Applied, Guarded, exp_step, field_step, stat_step, suffix_step, target_step, block_step, body_step, branch_step, generic_step, numeric_step, operand_step}
use Rattle.lua_tree.specs.declared.tree.UnaryOp.{UnaryOp}
use Rattle.lua_tree.specs.declared.tree.BinaryOp.{BinaryOp}
use Rattle.lua_tree.specs.declared.tree.Expr.{Expr}
use Rattle.lua_tree.specs.declared.tree.Field.{Field}
use Rattle.lua_tree.specs.declared.tree.Stat.{Stat}
use Rattle.lua_tree.specs.declared.tree.Suffix.{Suffix}
use Rattle.lua_tree.specs.declared.tree.Target.{Target}
use Rattle.lua_tree.specs.declared.tree.Block.{Block, roll-Block}
use Rattle.lua_tree.specs.declared.tree.Body.{Body, roll-Body}
use Rattle.lua_tree.specs.declared.tree.Branch.{Branch, roll-Branch}
use Rattle.lua_tree.specs.declared.tree.GenericFor.{GenericFor, roll-GenericFor}
use Rattle.lua_tree.specs.declared.tree.NumericFor.{NumericFor, roll-NumericFor}
use Rattle.lua_tree.specs.declared.tree.Operand.{Operand, roll-Operand}
use Rattle.lua_tree.specs.declared.tree.Expr.TheVariants as e
use Rattle.lua_tree.specs.declared.tree.Expr.TheVariants.{outs-Nil, outs-False, outs-True, outs-Dots, outs-Int, outs-Text, outs-Name, outs-Function, outs-Paren, outs-Table, outs-Suffixed, outs-Unary, outs-Chain}
use Rattle.lua_tree.specs.declared.tree.Field.TheVariants as field
use Rattle.lua_tree.specs.declared.tree.Field.TheVariants.{outs-Key, outs-Item}
use Rattle.lua_tree.specs.declared.tree.Stat.TheVariants as stat
use Rattle.lua_tree.specs.declared.tree.Stat.TheVariants.{outs-Assign, outs-Invoke, outs-Break, outs-Do, outs-While, outs-Repeat, outs-If, outs-Numeric, outs-Generic, outs-Local, outs-LocalFunction}
use Rattle.lua_tree.specs.declared.tree.Suffix.TheVariants as suffix
use Rattle.lua_tree.specs.declared.tree.Suffix.TheVariants.{outs-Index, outs-Call, outs-Method}
use Rattle.lua_tree.specs.declared.tree.Target.TheVariants as target
use Rattle.lua_tree.specs.declared.tree.Target.TheVariants.{outs-Variable, outs-Element}
use Rattle.lua_tree.specs.declared.tree.Expr.TheFolds.{fold_out-Expr}
use Rattle.lua_tree.specs.declared.tree.Expr.TheFolds.{fold_out-Field}
use Rattle.lua_tree.specs.declared.tree.Expr.TheFolds.{fold_out-Stat}
use Rattle.lua_tree.specs.declared.tree.Expr.TheFolds.{fold_out-Suffix}
use Rattle.lua_tree.specs.declared.tree.Expr.TheFolds.{fold_out-Target}
use Rattle.lua_tree.specs.declared.tree.Expr.TheFolds.{fold-roll-Block}
use Rattle.lua_tree.specs.declared.tree.Expr.TheFolds.{fold-roll-Body}
use Rattle.lua_tree.specs.declared.tree.Expr.TheFolds.{fold-roll-Branch}
use Rattle.lua_tree.specs.declared.tree.Expr.TheFolds.{fold-roll-GenericFor}
use Rattle.lua_tree.specs.declared.tree.Expr.TheFolds.{fold-roll-NumericFor}
use Rattle.lua_tree.specs.declared.tree.Expr.TheFolds.{fold-roll-Operand}

pub nil_seen : exp_of e.Nil ≡ s.Nil
nil_seen = rw (fold_out-Expr s.Exp s.Field s.Stat s.Suffix s.Target s.Block s.Body Guarded s.Stat s.Stat Applied exp_step field_step stat_step suffix_step target_step block_step body_step branch_step generic_step numeric_step operand_step e.Nil) (rw (outs-Nil) refl)

pub false_seen : exp_of e.False ≡ s.False
false_seen = rw (fold_out-Expr s.Exp s.Field s.Stat s.Suffix s.Target s.Block s.Body Guarded s.Stat s.Stat Applied exp_step field_step stat_step suffix_step target_step block_step body_step branch_step generic_step numeric_step operand_step e.False) (rw (outs-False) refl)

pub true_seen : exp_of e.True ≡ s.True
true_seen = rw (fold_out-Expr s.Exp s.Field s.Stat s.Suffix s.Target s.Block s.Body Guarded s.Stat s.Stat Applied exp_step field_step stat_step suffix_step target_step block_step body_step branch_step generic_step numeric_step operand_step e.True) (rw (outs-True) refl)

pub dots_seen : exp_of e.Dots ≡ s.Dots
dots_seen = rw (fold_out-Expr s.Exp s.Field s.Stat s.Suffix s.Target s.Block s.Body Guarded s.Stat s.Stat Applied exp_step field_step stat_step suffix_step target_step block_step body_step branch_step generic_step numeric_step operand_step e.Dots) (rw (outs-Dots) refl)

pub int_seen : (n : ℤ) → exp_of (e.Int n) ≡ s.Int n
int_seen n = rw (fold_out-Expr s.Exp s.Field s.Stat s.Suffix s.Target s.Block s.Body Guarded s.Stat s.Stat Applied exp_step field_step stat_step suffix_step target_step block_step body_step branch_step generic_step numeric_step operand_step (e.Int n)) (rw (outs-Int n) refl)

pub text_seen : (t : s.Text) → exp_of (e.Text t) ≡ s.Str t
text_seen t = rw (fold_out-Expr s.Exp s.Field s.Stat s.Suffix s.Target s.Block s.Body Guarded s.Stat s.Stat Applied exp_step field_step stat_step suffix_step target_step block_step body_step branch_step generic_step numeric_step operand_step (e.Text t)) (rw (outs-Text t) refl)

pub name_seen : (x : s.Text) → exp_of (e.Name x) ≡ s.Name x
name_seen x = rw (fold_out-Expr s.Exp s.Field s.Stat s.Suffix s.Target s.Block s.Body Guarded s.Stat s.Stat Applied exp_step field_step stat_step suffix_step target_step block_step body_step branch_step generic_step numeric_step operand_step (e.Name x)) (rw (outs-Name x) refl)

pub function_seen : (b : Body) → exp_of (e.Function b) ≡ s.Function (body_of b)
function_seen b = rw (fold_out-Expr s.Exp s.Field s.Stat s.Suffix s.Target s.Block s.Body Guarded s.Stat s.Stat Applied exp_step field_step stat_step suffix_step target_step block_step body_step branch_step generic_step numeric_step operand_step (e.Function b)) (rw (outs-Function b) refl)

pub paren_seen : (a : Expr) → exp_of (e.Paren a) ≡ s.Paren (exp_of a)
paren_seen a = rw (fold_out-Expr s.Exp s.Field s.Stat s.Suffix s.Target s.Block s.Body Guarded s.Stat s.Stat Applied exp_step field_step stat_step suffix_step target_step block_step body_step branch_step generic_step numeric_step operand_step (e.Paren a)) (rw (outs-Paren a) refl)

pub table_seen : (fs : List Field) → exp_of (e.Table fs) ≡ s.Table (fields_of (map field_of fs))
table_seen fs = rw (fold_out-Expr s.Exp s.Field s.Stat s.Suffix s.Target s.Block s.Body Guarded s.Stat s.Stat Applied exp_step field_step stat_step suffix_step target_step block_step body_step branch_step generic_step numeric_step operand_step (e.Table fs)) (rw (outs-Table fs) refl)

pub suffixed_seen : (a : Expr) (ss : List Suffix) → exp_of (e.Suffixed a ss) ≡ s.Suffixed (exp_of a) (suffixes_of (map suffix_of ss))
suffixed_seen a ss = rw (fold_out-Expr s.Exp s.Field s.Stat s.Suffix s.Target s.Block s.Body Guarded s.Stat s.Stat Applied exp_step field_step stat_step suffix_step target_step block_step body_step branch_step generic_step numeric_step operand_step (e.Suffixed a ss)) (rw (outs-Suffixed a ss) refl)

pub unary_seen : (op : UnaryOp) (n : ℕ) (a : Expr) → exp_of (e.Unary op n a) ≡ s.Unary op n (exp_of a)
unary_seen op n a = rw (fold_out-Expr s.Exp s.Field s.Stat s.Suffix s.Target s.Block s.Body Guarded s.Stat s.Stat Applied exp_step field_step stat_step suffix_step target_step block_step body_step branch_step generic_step numeric_step operand_step (e.Unary op n a)) (rw (outs-Unary op n a) refl)

pub chain_seen : (a : Expr) (os : List Operand) → exp_of (e.Chain a os) ≡ s.Chain (exp_of a) (operands_of (map operand_of os))
chain_seen a os = rw (fold_out-Expr s.Exp s.Field s.Stat s.Suffix s.Target s.Block s.Body Guarded s.Stat s.Stat Applied exp_step field_step stat_step suffix_step target_step block_step body_step branch_step generic_step numeric_step operand_step (e.Chain a os)) (rw (outs-Chain a os) refl)

pub key_seen : (a b : Expr) → field_of (field.Key a b) ≡ s.KeyField (exp_of a) (exp_of b)
key_seen a b = rw (fold_out-Field s.Exp s.Field s.Stat s.Suffix s.Target s.Block s.Body Guarded s.Stat s.Stat Applied exp_step field_step stat_step suffix_step target_step block_step body_step branch_step generic_step numeric_step operand_step (field.Key a b)) (rw (outs-Key a b) refl)

pub item_seen : (a : Expr) → field_of (field.Item a) ≡ s.ItemField (exp_of a)
item_seen a = rw (fold_out-Field s.Exp s.Field s.Stat s.Suffix s.Target s.Block s.Body Guarded s.Stat s.Stat Applied exp_step field_step stat_step suffix_step target_step block_step body_step branch_step generic_step numeric_step operand_step (field.Item a)) (rw (outs-Item a) refl)

pub index_seen : (a : Expr) (n : ℕ) → suffix_of (suffix.Index a n) ≡ s.Index (exp_of a) n
index_seen a n = rw (fold_out-Suffix s.Exp s.Field s.Stat s.Suffix s.Target s.Block s.Body Guarded s.Stat s.Stat Applied exp_step field_step stat_step suffix_step target_step block_step body_step branch_step generic_step numeric_step operand_step (suffix.Index a n)) (rw (outs-Index a n) refl)

pub call_seen : (es : List Expr) (n : ℕ) → suffix_of (suffix.Call es n) ≡ s.Call (exps_of (map exp_of es)) n
call_seen es n = rw (fold_out-Suffix s.Exp s.Field s.Stat s.Suffix s.Target s.Block s.Body Guarded s.Stat s.Stat Applied exp_step field_step stat_step suffix_step target_step block_step body_step branch_step generic_step numeric_step operand_step (suffix.Call es n)) (rw (outs-Call es n) refl)

pub method_seen : (x : s.Text) (m : ℕ) (es : List Expr) (n : ℕ) → suffix_of (suffix.Method x m es n) ≡ s.Method x m (exps_of (map exp_of es)) n
method_seen x m es n = rw (fold_out-Suffix s.Exp s.Field s.Stat s.Suffix s.Target s.Block s.Body Guarded s.Stat s.Stat Applied exp_step field_step stat_step suffix_step target_step block_step body_step branch_step generic_step numeric_step operand_step (suffix.Method x m es n)) (rw (outs-Method x m es n) refl)

pub variable_seen : (x : s.Text) → target_of (target.Variable x) ≡ s.Variable x
variable_seen x = rw (fold_out-Target s.Exp s.Field s.Stat s.Suffix s.Target s.Block s.Body Guarded s.Stat s.Stat Applied exp_step field_step stat_step suffix_step target_step block_step body_step branch_step generic_step numeric_step operand_step (target.Variable x)) (rw (outs-Variable x) refl)

pub element_seen : (a b : Expr) (n : ℕ) → target_of (target.Element a b n) ≡ s.Element (exp_of a) (exp_of b) n
element_seen a b n = rw (fold_out-Target s.Exp s.Field s.Stat s.Suffix s.Target s.Block s.Body Guarded s.Stat s.Stat Applied exp_step field_step stat_step suffix_step target_step block_step body_step branch_step generic_step numeric_step operand_step (target.Element a b n)) (rw (outs-Element a b n) refl)

pub assign_seen : (ts : List Target) (es : List Expr) → stat_of (stat.Assign ts es) ≡ s.Assign (targets_of (map target_of ts)) (exps_of (map exp_of es))
assign_seen ts es = rw (fold_out-Stat s.Exp s.Field s.Stat s.Suffix s.Target s.Block s.Body Guarded s.Stat s.Stat Applied exp_step field_step stat_step suffix_step target_step block_step body_step branch_step generic_step numeric_step operand_step (stat.Assign ts es)) (rw (outs-Assign ts es) refl)

pub invoke_seen : (a : Expr) → stat_of (stat.Invoke a) ≡ s.Invoke (exp_of a)
invoke_seen a = rw (fold_out-Stat s.Exp s.Field s.Stat s.Suffix s.Target s.Block s.Body Guarded s.Stat s.Stat Applied exp_step field_step stat_step suffix_step target_step block_step body_step branch_step generic_step numeric_step operand_step (stat.Invoke a)) (rw (outs-Invoke a) refl)

pub break_seen : stat_of stat.Break ≡ s.Break
break_seen = rw (fold_out-Stat s.Exp s.Field s.Stat s.Suffix s.Target s.Block s.Body Guarded s.Stat s.Stat Applied exp_step field_step stat_step suffix_step target_step block_step body_step branch_step generic_step numeric_step operand_step stat.Break) (rw (outs-Break) refl)

pub do_seen : (b : Block) → stat_of (stat.Do b) ≡ s.Do (block_of b)
do_seen b = rw (fold_out-Stat s.Exp s.Field s.Stat s.Suffix s.Target s.Block s.Body Guarded s.Stat s.Stat Applied exp_step field_step stat_step suffix_step target_step block_step body_step branch_step generic_step numeric_step operand_step (stat.Do b)) (rw (outs-Do b) refl)

pub while_seen : (a : Expr) (b : Block) → stat_of (stat.While a b) ≡ s.While (exp_of a) (block_of b)
while_seen a b = rw (fold_out-Stat s.Exp s.Field s.Stat s.Suffix s.Target s.Block s.Body Guarded s.Stat s.Stat Applied exp_step field_step stat_step suffix_step target_step block_step body_step branch_step generic_step numeric_step operand_step (stat.While a b)) (rw (outs-While a b) refl)

pub repeat_seen : (b : Block) (a : Expr) → stat_of (stat.Repeat b a) ≡ s.Repeat (block_of b) (exp_of a)
repeat_seen b a = rw (fold_out-Stat s.Exp s.Field s.Stat s.Suffix s.Target s.Block s.Body Guarded s.Stat s.Stat Applied exp_step field_step stat_step suffix_step target_step block_step body_step branch_step generic_step numeric_step operand_step (stat.Repeat b a)) (rw (outs-Repeat b a) refl)

pub if_seen : (bs : List Branch) (other : Option Block) → stat_of (stat.If bs other) ≡ if_of (map branch_of bs) (else_of (option_map block_of other))
if_seen bs None = rw (fold_out-Stat s.Exp s.Field s.Stat s.Suffix s.Target s.Block s.Body Guarded s.Stat s.Stat Applied exp_step field_step stat_step suffix_step target_step block_step body_step branch_step generic_step numeric_step operand_step (stat.If bs None)) (rw (outs-If bs None) refl)
if_seen bs (Some made) = rw (fold_out-Stat s.Exp s.Field s.Stat s.Suffix s.Target s.Block s.Body Guarded s.Stat s.Stat Applied exp_step field_step stat_step suffix_step target_step block_step body_step branch_step generic_step numeric_step operand_step (stat.If bs (Some made))) (rw (outs-If bs (Some made)) refl)

pub numeric_for_seen : (f : NumericFor) → stat_of (stat.Numeric f) ≡ numeric_of f
numeric_for_seen f = rw (fold_out-Stat s.Exp s.Field s.Stat s.Suffix s.Target s.Block s.Body Guarded s.Stat s.Stat Applied exp_step field_step stat_step suffix_step target_step block_step body_step branch_step generic_step numeric_step operand_step (stat.Numeric f)) (rw (outs-Numeric f) refl)

pub generic_for_seen : (f : GenericFor) → stat_of (stat.Generic f) ≡ generic_of f
generic_for_seen f = rw (fold_out-Stat s.Exp s.Field s.Stat s.Suffix s.Target s.Block s.Body Guarded s.Stat s.Stat Applied exp_step field_step stat_step suffix_step target_step block_step body_step branch_step generic_step numeric_step operand_step (stat.Generic f)) (rw (outs-Generic f) refl)

pub local_seen : (xs : List s.Text) (es : List Expr) → stat_of (stat.Local xs es) ≡ s.Local xs (exps_of (map exp_of es))
local_seen xs es = rw (fold_out-Stat s.Exp s.Field s.Stat s.Suffix s.Target s.Block s.Body Guarded s.Stat s.Stat Applied exp_step field_step stat_step suffix_step target_step block_step body_step branch_step generic_step numeric_step operand_step (stat.Local xs es)) (rw (outs-Local xs es) refl)

pub local_function_seen : (x : s.Text) (b : Body) → stat_of (stat.LocalFunction x b) ≡ s.LocalFunction x (body_of b)
local_function_seen x b = rw (fold_out-Stat s.Exp s.Field s.Stat s.Suffix s.Target s.Block s.Body Guarded s.Stat s.Stat Applied exp_step field_step stat_step suffix_step target_step block_step body_step branch_step generic_step numeric_step operand_step (stat.LocalFunction x b)) (rw (outs-LocalFunction x b) refl)

pub block_seen : (ss : List Stat) (result : Option (List Expr)) → block_of (roll-Block (record { stats = ss; result = result })) ≡ block_with (stats_of (map stat_of ss)) (option_map (map exp_of) result)
block_seen ss None = fold-roll-Block s.Exp s.Field s.Stat s.Suffix s.Target s.Block s.Body Guarded s.Stat s.Stat Applied exp_step field_step stat_step suffix_step target_step block_step body_step branch_step generic_step numeric_step operand_step (record { stats = ss; result = None })
block_seen ss (Some made) = fold-roll-Block s.Exp s.Field s.Stat s.Suffix s.Target s.Block s.Body Guarded s.Stat s.Stat Applied exp_step field_step stat_step suffix_step target_step block_step body_step branch_step generic_step numeric_step operand_step (record { stats = ss; result = (Some made) })

pub body_seen : (xs : List s.Text) (d : Bool) (b : Block) → body_of (roll-Body (record { names = xs; has_dots = d; block = b })) ≡ s.body xs d (block_of b)
body_seen xs d b = fold-roll-Body s.Exp s.Field s.Stat s.Suffix s.Target s.Block s.Body Guarded s.Stat s.Stat Applied exp_step field_step stat_step suffix_step target_step block_step body_step branch_step generic_step numeric_step operand_step (record { names = xs; has_dots = d; block = b })

pub branch_seen : (a : Expr) (b : Block) → branch_of (roll-Branch (record { test = a; block = b })) ≡ (exp_of a, block_of b)
branch_seen a b = fold-roll-Branch s.Exp s.Field s.Stat s.Suffix s.Target s.Block s.Body Guarded s.Stat s.Stat Applied exp_step field_step stat_step suffix_step target_step block_step body_step branch_step generic_step numeric_step operand_step (record { test = a; block = b })

pub generic_seen : (xs : List s.Text) (es : List Expr) (b : Block) (n : ℕ) → generic_of (roll-GenericFor (record { names = xs; values = es; block = b; line = n })) ≡ s.Generic xs (exps_of (map exp_of es)) (block_of b) n
generic_seen xs es b n = fold-roll-GenericFor s.Exp s.Field s.Stat s.Suffix s.Target s.Block s.Body Guarded s.Stat s.Stat Applied exp_step field_step stat_step suffix_step target_step block_step body_step branch_step generic_step numeric_step operand_step (record { names = xs; values = es; block = b; line = n })

pub numeric_seen : (x : s.Text) (a b : Expr) (c : Option Expr) (body : Block) (n : ℕ) → numeric_of (roll-NumericFor (record { name = x; first = a; limit = b; step = c; block = body; line = n })) ≡ numeric_with x (exp_of a) (exp_of b) (option_map exp_of c) (block_of body) n
numeric_seen x a b None body n = fold-roll-NumericFor s.Exp s.Field s.Stat s.Suffix s.Target s.Block s.Body Guarded s.Stat s.Stat Applied exp_step field_step stat_step suffix_step target_step block_step body_step branch_step generic_step numeric_step operand_step (record { name = x; first = a; limit = b; step = None; block = body; line = n })
numeric_seen x a b (Some made) body n = fold-roll-NumericFor s.Exp s.Field s.Stat s.Suffix s.Target s.Block s.Body Guarded s.Stat s.Stat Applied exp_step field_step stat_step suffix_step target_step block_step body_step branch_step generic_step numeric_step operand_step (record { name = x; first = a; limit = b; step = (Some made); block = body; line = n })

pub operand_seen : (op : BinaryOp) (n : ℕ) (a : Expr) → operand_of (roll-Operand (record { op = op; line = n; value = a })) ≡ (op, n, exp_of a)
operand_seen op n a = fold-roll-Operand s.Exp s.Field s.Stat s.Suffix s.Target s.Block s.Body Guarded s.Stat s.Stat Applied exp_step field_step stat_step suffix_step target_step block_step body_step branch_step generic_step numeric_step operand_step (record { op = op; line = n; value = a })
