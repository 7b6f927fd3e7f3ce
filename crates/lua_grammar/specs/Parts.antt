-- What each effect does to the parts of trees that are being made, the newest first. A part that is not there is empty.
use Rattle.std.specs.Prelude.{ℕ, List, [], ◌∷◌, ◌++◌, false, Option, Some, None, reverse}
use Rattle.lua_tree.specs.declared.token.Word.TheVariants as word
use Rattle.lua_tree.specs.declared.token.Sign.TheVariants as sign
use Rattle.lua_tree.specs.declared.token.TokenKind.{TokenKind}
use Rattle.lua_tree.specs.declared.token.TokenKind.TheVariants as k
use Rattle.lua_tree.specs.declared.tree.Expr.{Expr, out-Expr}
use Rattle.lua_tree.specs.declared.tree.Expr.TheVariants as e
use Rattle.lua_tree.specs.declared.tree.Expr.TheOpen.{Expr-F, Suffix-F}
use Rattle.lua_tree.specs.declared.tree.Operand.{Operand}
use Rattle.lua_tree.specs.declared.tree.Suffix.{Suffix, out-Suffix}
use Rattle.lua_tree.specs.declared.tree.Suffix.TheVariants as suffix
use Rattle.lua_tree.specs.declared.tree.Field.{Field}
use Rattle.lua_tree.specs.declared.tree.Field.TheVariants as field
use Rattle.lua_tree.specs.declared.tree.Body.{Body}
use Rattle.lua_tree.specs.declared.tree.Block.{Block}
use Rattle.lua_tree.specs.declared.tree.Branch.{Branch}
use Rattle.lua_tree.specs.declared.tree.NumericFor.{NumericFor}
use Rattle.lua_tree.specs.declared.tree.GenericFor.{GenericFor}
use Rattle.lua_tree.specs.declared.tree.Target.{Target}
use Rattle.lua_tree.specs.declared.tree.Target.TheVariants as target
use Rattle.lua_tree.specs.declared.tree.Stat.{Stat}
use Rattle.lua_tree.specs.declared.tree.Stat.TheVariants as stat
use Rattle.lua_grammar.specs.declared.tree.Part.{Part}
use Rattle.lua_grammar.specs.declared.tree.Part.TheVariants as p
use Rattle.lua_grammar.specs.declared.symbol.Effect.{Effect}
use Rattle.lua_grammar.specs.declared.symbol.Effect.TheVariants as act
use Rattle.lua_grammar.specs.Lexeme.{Text, Lexeme}
use Rattle.lua_grammar.specs.Grammar.{operand_of, body_of, block_of, branch_of, numeric_of, generic_of, suffixed, self}

abbrev pub Parts : Type 0
Parts = List Part

-- ---- the newest part, by what it is to be

abbrev pub below : Parts → Parts
below [] = []
below (x ∷ more) = more

abbrev pub line : Parts → ℕ
line (p.Line n ∷ v) = n
line _ = 0

abbrev pub name : Parts → Text
name (p.Name x ∷ v) = x
name _ = []

abbrev pub names : Parts → List Text
names (p.Names xs ∷ v) = xs
names _ = []

abbrev pub expr : Parts → Expr
expr (p.Expr a ∷ v) = a
expr _ = e.Nil

abbrev pub exprs : Parts → List Expr
exprs (p.Exprs es ∷ v) = es
exprs _ = []

abbrev pub suffixes : Parts → List Suffix
suffixes (p.Suffixes xs ∷ v) = xs
suffixes _ = []

abbrev pub operands : Parts → List Operand
operands (p.Operands os ∷ v) = os
operands _ = []

abbrev pub fields : Parts → List Field
fields (p.Fields fs ∷ v) = fs
fields _ = []

abbrev pub targets : Parts → List Target
targets (p.Targets ts ∷ v) = ts
targets _ = []

abbrev pub branches : Parts → List Branch
branches (p.Branches bs ∷ v) = bs
branches _ = []

abbrev pub stats : Parts → List Stat
stats (p.Stats ss ∷ v) = ss
stats _ = []

abbrev pub block : Parts → Block
block (p.Block b ∷ v) = b
block _ = block_of [] None

abbrev pub body : Parts → Body
body (p.Body b ∷ v) = b
body _ = body_of [] false (block_of [] None)

abbrev pub first : List Text → Text
first [] = []
first (x ∷ xs) = x

-- ---- what a token gives

abbrev pub literal : TokenKind → Expr
literal (k.Int i) = e.Int i
literal (k.Text t) = e.Text t
literal (k.Word word.False) = e.False
literal (k.Word word.True) = e.True
literal (k.Sign sign.Dots) = e.Dots
literal _ = e.Nil

abbrev pub text_of : TokenKind → Text
text_of (k.Name x) = x
text_of _ = []

abbrev pub line_at : Option Lexeme → ℕ
line_at (Some t) = t.line
line_at None = 0

abbrev pub literal_at : Option Lexeme → Expr
literal_at (Some t) = literal t.kind
literal_at None = e.Nil

abbrev pub text_at : Option Lexeme → Text
text_at (Some t) = text_of t.kind
text_at None = []

-- ---- the target that a prefix is, where its last suffix is an index, or where it is a name

abbrev pub variable_of : Expr → Expr-F Expr Field Stat Suffix Target Block Body Branch GenericFor NumericFor Operand → Target
variable_of a (Expr-F.Name x) = target.Variable x
variable_of a _ = target.Variable []

abbrev pub element_of : Expr → Suffix-F Expr Field Stat Suffix Target Block Body Branch GenericFor NumericFor Operand → Target
element_of a (Suffix-F.Index b n) = target.Element a b n
element_of a _ = target.Variable []

-- the suffixes from the last to the first
abbrev pub target_from : Expr → List Suffix → Target
target_from a [] = variable_of a (out-Expr a)
target_from a (x ∷ xs) = element_of (suffixed a (reverse xs)) (out-Suffix x)

unfoldable pub target_of : Expr → List Suffix → Target
target_of a xs = target_from a (reverse xs)

-- ---- the effects

abbrev pub add_stat : Stat → Parts → Parts
add_stat a v = p.Stats (stats v ++ a ∷ []) ∷ below v

abbrev pub add_suffix : Suffix → Parts → Parts
add_suffix x v = p.Suffixes (suffixes v ++ x ∷ []) ∷ below v

-- the newest expression
abbrev pub effect_of : Option Lexeme → Effect → Parts → Parts
effect_of t act.Line v = p.Line (line_at t) ∷ v
effect_of t act.Literal v = p.Expr (literal_at t) ∷ v
effect_of t act.Variable v = p.Suffixes [] ∷ p.Expr (e.Name (text_at t)) ∷ v
effect_of t act.Name v = p.Name (text_at t) ∷ v
effect_of t act.FirstName v = p.Names (text_at t ∷ []) ∷ v
effect_of t act.NextName v = p.Names (names v ++ text_at t ∷ []) ∷ below v
effect_of t act.OpenExprs v = p.Exprs [] ∷ v
effect_of t act.OpenOperands v = p.Operands [] ∷ v
effect_of t act.OpenFields v = p.Fields [] ∷ v
effect_of t act.OpenNames v = p.Names [] ∷ v
effect_of t act.OpenSelf v = p.Names (self ∷ []) ∷ v
effect_of t act.OpenBranches v = p.Branches [] ∷ v
effect_of t act.OpenBlock v = p.Stats [] ∷ v
effect_of t act.AddExpr v = p.Exprs (exprs (below v) ++ expr v ∷ []) ∷ below (below v)
effect_of t act.OnlyExpr v = p.Exprs (expr v ∷ []) ∷ below v
effect_of t act.Enclose v = p.Suffixes [] ∷ p.Expr (e.Paren (expr v)) ∷ below v
effect_of t act.AddDot v = add_suffix (suffix.Index (e.Text (text_at t)) (line v)) (below v)
effect_of t act.AddIndex v = add_suffix (suffix.Index (expr v) (line (below v))) (below (below v))
effect_of t act.AddCall v = add_suffix (suffix.Call (exprs v) (line (below v))) (below (below v))
effect_of t act.AddMethod v =
    add_suffix (suffix.Method (name (below (below v))) (line (below (below (below v)))) (exprs v) (line (below v))) (below (below (below (below v))))
effect_of t act.EndSuffixes v = p.Expr (suffixed (expr (below v)) (suffixes v)) ∷ below (below v)
effect_of t (act.Unary o) v = p.Expr (e.Unary o (line (below v)) (expr v)) ∷ below (below v)
effect_of t (act.AddOperand o) v = p.Operands (operands (below (below v)) ++ operand_of o (line (below v)) (expr v) ∷ []) ∷ below (below (below v))
effect_of t act.EndChain v = p.Expr (e.Chain (expr (below v)) (operands v)) ∷ below (below v)
effect_of t act.TextKey v = p.Expr (e.Text (name v)) ∷ below v
effect_of t act.NameVariable v = p.Suffixes [] ∷ p.Expr (e.Name (name v)) ∷ below v
effect_of t act.KeyField v = p.Fields (fields (below (below v)) ++ field.Key (expr (below v)) (expr v) ∷ []) ∷ below (below (below v))
effect_of t act.ItemField v = p.Fields (fields (below v) ++ field.Item (expr v) ∷ []) ∷ below (below v)
effect_of t act.Table v = p.Expr (e.Table (fields v)) ∷ below v
effect_of t (act.Body dots) v = p.Body (body_of (names (below v)) dots (block v)) ∷ below (below v)
effect_of t act.Function v = p.Expr (e.Function (body v)) ∷ below v
effect_of t act.FirstTarget v = p.Targets (target_of (expr (below v)) (suffixes v) ∷ []) ∷ below (below v)
effect_of t act.NextTarget v = p.Targets (targets (below (below v)) ++ target_of (expr (below v)) (suffixes v) ∷ []) ∷ below (below (below v))
effect_of t act.Assign v = add_stat (stat.Assign (targets (below v)) (exprs v)) (below (below v))
effect_of t act.AssignFunction v = add_stat (stat.Assign (targets (below v)) (e.Function (body v) ∷ [])) (below (below v))
effect_of t act.Invoke v = add_stat (stat.Invoke (expr v)) (below v)
effect_of t act.Break v = add_stat stat.Break v
effect_of t act.Do v = add_stat (stat.Do (block v)) (below v)
effect_of t act.While v = add_stat (stat.While (expr (below v)) (block v)) (below (below v))
effect_of t act.Repeat v = add_stat (stat.Repeat (block (below v)) (expr v)) (below (below v))
effect_of t act.AddBranch v = p.Branches (branches (below (below v)) ++ branch_of (expr (below v)) (block v) ∷ []) ∷ below (below (below v))
effect_of t act.If v = add_stat (stat.If (branches v) None) (below v)
effect_of t act.IfElse v = add_stat (stat.If (branches (below v)) (Some (block v))) (below (below v))
effect_of t act.Numeric v =
    add_stat (stat.Numeric (numeric_of (first (names (below (below (below v))))) (expr (below (below v))) (expr (below v)) None (block v) (line (below (below (below (below v)))))))
    (below (below (below (below (below v)))))
effect_of t act.NumericBy v =
    add_stat
    (stat.Numeric (numeric_of (first (names (below (below (below (below v)))))) (expr (below (below (below v)))) (expr (below (below v))) (Some (expr (below v))) (block v)
    (line (below (below (below (below (below v))))))))
    (below (below (below (below (below (below v))))))
effect_of t act.Generic v =
    add_stat (stat.Generic (generic_of (names (below (below v))) (exprs (below v)) (block v) (line (below (below (below v)))))) (below (below (below (below v))))
effect_of t act.LocalAlone v = add_stat (stat.Local (names v) []) (below v)
effect_of t act.Local v = add_stat (stat.Local (names (below v)) (exprs v)) (below (below v))
effect_of t act.LocalFunction v = add_stat (stat.LocalFunction (name (below v)) (body v)) (below (below v))
effect_of t act.EndBlock v = p.Block (block_of (stats v) None) ∷ below v
effect_of t act.Return v = p.Block (block_of (stats (below v)) (Some (exprs v))) ∷ below (below v)

-- the effects in order
abbrev pub effects_of : Option Lexeme → List Effect → Parts → Parts
effects_of t [] v = v
effects_of t (effect ∷ more) v = effects_of t more (effect_of t effect v)
