-- Expressions (Lua 5.4 manual, section 3.4).
use Rattle.std.specs.Prelude.{ℕ, true, false, if◌then◌else◌, List, [], ◌∷◌, ◌++◌, length, Option, Some, None, slice_get}
use Rattle.lua_tree.specs.declared.tree.BinaryOp.{BinaryOp}
use Rattle.lua_tree.specs.declared.tree.BinaryOp.TheVariants as sign
use Rattle.lua_tree.specs.declared.tree.UnaryOp.{UnaryOp}
use Rattle.lua_tree.specs.declared.tree.UnaryOp.TheVariants as mark
use Rattle.lua_tree.specs.Source as source
use Rattle.lua_tree.specs.Source.{Text, Exp, Exps, NoExp, MoreExps, Operands, NoOperand, MoreOperands, Suffixes, NoSuffix, MoreSuffixes, Body}
use Rattle.lua_value.specs.declared.value.Value.{Value}
use Rattle.lua_value.specs.declared.value.Value.TheVariants as value
use Rattle.lua_value.specs.Same.{is_true}
use Rattle.lua_value.specs.Lists.{first, or_nil}
use Rattle.lua_model.specs.declared.operator.Binary.{Binary}
use Rattle.lua_model.specs.declared.operator.Binary.TheVariants as binary
use Rattle.lua_model.specs.declared.operator.Unary.{Unary}
use Rattle.lua_model.specs.declared.operator.Unary.TheVariants as unary
use Rattle.lua_model.specs.Heap as heap
use Rattle.lua_meaning.specs.State.{Env, Wanted, Values, Eval, All, Items, Gives, Lists, Context, UnaryK, ChainK, OperandK, SuffixK, OneK, ItemK, CutK, SpreadK, ArgsK, State, HeapFull, NoRule, Step, Next, Halt}
use Rattle.lua_meaning.specs.Moves.{location_of, goes}

-- ---- operators

-- `and` and `or` take their second operand only where the first does not decide
pub data Link : Type 0 where
  Both : Link
  Either : Link
  Strict : (op : Binary) → Link

abbrev pub link_of : BinaryOp → Link
link_of sign.Or = Either
link_of sign.And = Both
link_of sign.Less = Strict binary.Less
link_of sign.Greater = Strict binary.Greater
link_of sign.LessEqual = Strict binary.LessEqual
link_of sign.GreaterEqual = Strict binary.GreaterEqual
link_of sign.NotEqual = Strict binary.NotEqual
link_of sign.Equal = Strict binary.Equal
link_of sign.BitOr = Strict binary.BitOr
link_of sign.BitXor = Strict binary.BitXor
link_of sign.BitAnd = Strict binary.BitAnd
link_of sign.ShiftLeft = Strict binary.ShiftLeft
link_of sign.ShiftRight = Strict binary.ShiftRight
link_of sign.Concat = Strict binary.Concat
link_of sign.Add = Strict binary.Add
link_of sign.Subtract = Strict binary.Sub
link_of sign.Multiply = Strict binary.Mul
link_of sign.Divide = Strict binary.FloorDiv
link_of sign.Remainder = Strict binary.Mod

abbrev pub unary_of : UnaryOp → Unary
unary_of mark.Not = unary.Not
unary_of mark.Length = unary.Length
unary_of mark.Negate = unary.Minus
unary_of mark.BitNot = unary.BitNot

-- ---- terms

abbrev pub at_location : List Value → Option ℕ → State → List Context → Step
at_location store None s ks = Halt NoRule s
at_location store (Some l) s ks = goes s (Gives (or_nil (slice_get store l))) ks

-- a function costs a unit
abbrev pub closed : Option heap.Heap → Body → Env → State → List Context → Step
closed None f env s ks = Halt HeapFull s
closed (Some h) f env s ks =
    Next (record s { focus = Gives (value.Func (length s.closures)); ks = ks; closures = s.closures ++ record { body = f; env = env } ∷ []; aside = record s.aside { heap = h } })

-- a string of the source is no new string
abbrev pub constant : Text → State → List Context → Step
constant bytes s ks =
    Next (record s { focus = Gives (heap.text_value bytes s.aside.heap); ks = ks; aside = record s.aside { heap = heap.holding bytes s.aside.heap } })

abbrev pub eval : Exp → Env → State → List Context → Step
eval source.Nil env s ks = goes s (Gives value.Nil) ks
eval source.False env s ks = goes s (Gives (value.Bool false)) ks
eval source.True env s ks = goes s (Gives (value.Bool true)) ks
eval (source.Int n) env s ks = goes s (Gives (value.Int n)) ks
eval (source.Str bytes) env s ks = constant bytes s ks
eval source.Dots env s ks = goes s (Gives (first env.dots)) ks
eval (source.Function f) env s ks = closed (heap.charged heap.closure_units s.aside.heap) f env s ks
eval (source.Name x) env s ks = at_location s.store (location_of env.locals x) s ks
eval (source.Paren e) env s ks = goes s (Eval e env) ks
eval (source.Table fs) env s ks = Halt NoRule s
eval (source.Suffixed e ss) env s ks = goes s (Eval e env) (SuffixK ss Values env ∷ CutK ∷ ks)
eval (source.Unary op line e) env s ks = goes s (Eval e env) (UnaryK (unary_of op) line ∷ ks)
eval (source.Chain e os) env s ks = goes s (Eval e env) (ChainK os env ∷ ks)

-- only calls and `...` give more values than one
abbrev pub all : Exp → Env → State → List Context → Step
all source.Dots env s ks = goes s (Lists env.dots) ks
all (source.Suffixed e ss) env s ks = goes s (Eval e env) (SuffixK ss Values env ∷ ks)
all e env s ks = goes s (Eval e env) (OneK ∷ ks)

-- of a list of expressions the last gives all its values (manual, section 3.4.12)
abbrev pub items : Exps → Env → List Value → State → List Context → Step
items NoExp env us s ks = goes s (Lists us) ks
items (MoreExps e NoExp) env us s ks = goes s (All e env) (SpreadK us ∷ ks)
items (MoreExps e (MoreExps f es)) env us s ks = goes s (Eval e env) (ItemK (MoreExps f es) env us ∷ ks)

-- ---- the operand or the suffix that comes next

abbrev pub linked : Link → ℕ → Exp → Operands → Env → Value → State → List Context → Step
linked Both line e os env v s ks =
    if is_true v then goes s (Eval e env) (ChainK os env ∷ ks) else goes s (Gives v) (ChainK os env ∷ ks)
linked Either line e os env v s ks =
    if is_true v then goes s (Gives v) (ChainK os env ∷ ks) else goes s (Eval e env) (ChainK os env ∷ ks)
linked (Strict op) line e os env v s ks = goes s (Eval e env) (OperandK op line v os env ∷ ks)

abbrev pub chained : Operands → Env → Value → State → List Context → Step
chained NoOperand env v s ks = goes s (Gives v) ks
chained (MoreOperands op line e os) env v s ks = linked (link_of op) line e os env v s ks

abbrev pub suffixed : Suffixes → Wanted → Env → Value → State → List Context → Step
suffixed NoSuffix how env v s ks = goes s (Lists (v ∷ [])) ks
suffixed (MoreSuffixes (source.Call es line) ss) how env v s ks = goes s (Items es env []) (ArgsK v line ss how env ∷ ks)
suffixed (MoreSuffixes (source.Index e line) ss) how env v s ks = Halt NoRule s
suffixed (MoreSuffixes (source.Method x at es line) ss) how env v s ks = Halt NoRule s

abbrev pub after_call : Suffixes → Wanted → Env → List Value → State → List Context → Step
after_call NoSuffix how env vs s ks = goes s (Lists vs) ks
after_call (MoreSuffixes x ss) how env vs s ks = goes s (Gives (first vs)) (SuffixK (MoreSuffixes x ss) how env ∷ ks)
