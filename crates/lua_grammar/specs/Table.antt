-- The table: what a symbol that is expected does at a token, with one token of look-ahead.
use Rattle.std.specs.Prelude.{ℕ, ◌+◌, List, [], ◌∷◌, ◌++◌, Bool, true, false, not, nat_le, nat_lt, ◌==◌, if◌then◌else◌, Option, Some, None}
use Rattle.lua_tree.specs.declared.token.Word.TheVariants as word
use Rattle.lua_tree.specs.declared.token.Sign.TheVariants as sign
use Rattle.lua_tree.specs.declared.token.TokenKind.{TokenKind}
use Rattle.lua_tree.specs.declared.token.TokenKind.TheVariants as k
use Rattle.lua_tree.specs.declared.tree.UnaryOp.{UnaryOp}
use Rattle.lua_tree.specs.declared.tree.BinaryOp.{BinaryOp}
use Rattle.lua_grammar.specs.declared.symbol.Phrase.{Phrase}
use Rattle.lua_grammar.specs.declared.symbol.Phrase.TheVariants as phrase
use Rattle.lua_grammar.specs.declared.symbol.Place.{Place}
use Rattle.lua_grammar.specs.declared.symbol.Place.TheVariants as place
use Rattle.lua_grammar.specs.declared.symbol.Scope.{Scope}
use Rattle.lua_grammar.specs.declared.symbol.Effect.{Effect}
use Rattle.lua_grammar.specs.declared.symbol.Effect.TheVariants as act
use Rattle.lua_grammar.specs.declared.symbol.Symbol.{Symbol}
use Rattle.lua_grammar.specs.declared.symbol.Symbol.TheVariants as x
use Rattle.lua_grammar.specs.Lexeme.{operator, unary_operator, level, groups_left, right_least, begins_expr}

-- A symbol takes the token and others come in its place; or it goes and leaves the token; or the token does not fit.
pub data Act : Type 0 where
  shift : List Effect → List Symbol → Act
  pop : List Effect → Act
  refuse : Act

-- no function has more locals in scope: at the name of one more the reading stops, so they are not counted
abbrev pub max_locals : ℕ
max_locals = 200

abbrev pub one_more : ℕ → ℕ
one_more n = if nat_lt n 200 then n + 1 else n

abbrev pub with_one : Scope → Scope
with_one c = record c { locals = one_more c.locals }

abbrev pub in_loop : Scope → Scope
in_loop c = record c { in_loop = true }

abbrev pub of_function : ℕ → Bool → Scope
of_function n dots = record { locals = n; in_loop = false; has_dots = dots }

-- ---- expressions

abbrev pub at_unary : ℕ → Option UnaryOp → Act
at_unary p (Some o) = shift (act.Line ∷ []) (x.Expr 11 ∷ x.Make (act.Unary o) ∷ x.Tail p 11 ∷ [])
at_unary p None = refuse

abbrev pub at_expr : ℕ → TokenKind → Act
at_expr p (k.Int n) = shift (act.Literal ∷ []) (x.Tail p 12 ∷ [])
at_expr p (k.Text t) = shift (act.Literal ∷ []) (x.Tail p 12 ∷ [])
at_expr p (k.Name t) = shift (act.Variable ∷ []) (x.Suffix place.Expression phrase.Var ∷ x.Tail p 12 ∷ [])
at_expr p (k.Word word.Nil) = shift (act.Literal ∷ []) (x.Tail p 12 ∷ [])
at_expr p (k.Word word.False) = shift (act.Literal ∷ []) (x.Tail p 12 ∷ [])
at_expr p (k.Word word.True) = shift (act.Literal ∷ []) (x.Tail p 12 ∷ [])
at_expr p (k.Word word.Function) = shift [] (x.Parameters ∷ x.Make act.Function ∷ x.Tail p 12 ∷ [])
at_expr p (k.Sign sign.Dots) = shift (act.Literal ∷ []) (x.Tail p 12 ∷ [])
at_expr p (k.Sign sign.OpenParen) = shift [] (x.Expr 1 ∷ x.CloseParen ∷ x.Suffix place.Expression phrase.Enclosed ∷ x.Tail p 12 ∷ [])
at_expr p (k.Sign sign.OpenBrace) = shift (act.OpenFields ∷ []) (x.Fields ∷ x.Make act.Table ∷ x.Tail p 12 ∷ [])
at_expr p kind = at_unary p (unary_operator kind)

-- a right operand, and what may come after it
abbrev pub operand : BinaryOp → List Symbol
operand o = x.Expr (right_least o) ∷ x.Make (act.AddOperand o) ∷ x.Chained (level o) ∷ []

-- after an operand of level q, where an operator of level p or a higher one goes on with it
abbrev pub at_tail : ℕ → ℕ → Option BinaryOp → Act
at_tail p q (Some o) =
    if nat_le p (level o) then
    (if nat_lt (level o) q then shift (act.OpenOperands ∷ act.Line ∷ []) (operand o ++ x.Tail p (level o) ∷ []) else refuse)
    else pop []
at_tail p q None = pop []

abbrev pub at_chained : ℕ → Option BinaryOp → Act
at_chained l (Some o) =
    if level o == l then
    (if groups_left o then shift (act.Line ∷ []) (operand o) else refuse)
    else pop (act.EndChain ∷ [])
at_chained l None = pop (act.EndChain ∷ [])

-- where no suffix goes on with a prefix
abbrev pub at_phrase : Place → Phrase → TokenKind → Act
at_phrase place.Expression p kind = pop (act.EndSuffixes ∷ [])
at_phrase place.Statement phrase.Call kind = pop (act.EndSuffixes ∷ act.Invoke ∷ [])
at_phrase place.Statement phrase.Var (k.Sign sign.Comma) = shift (act.FirstTarget ∷ []) (x.Target ∷ [])
at_phrase place.Statement phrase.Var (k.Sign sign.Assign) = shift (act.FirstTarget ∷ act.OpenExprs ∷ []) (x.Expr 1 ∷ x.MoreExprs ∷ x.Make act.Assign ∷ [])
at_phrase place.Target phrase.Var (k.Sign sign.Comma) = shift (act.NextTarget ∷ []) (x.Target ∷ [])
at_phrase place.Target phrase.Var (k.Sign sign.Assign) = shift (act.NextTarget ∷ act.OpenExprs ∷ []) (x.Expr 1 ∷ x.MoreExprs ∷ x.Make act.Assign ∷ [])
at_phrase _ _ _ = refuse

abbrev pub at_suffix : Place → Phrase → TokenKind → Act
at_suffix at p (k.Sign sign.Dot) = shift (act.Line ∷ []) (x.DotName ∷ x.Suffix at phrase.Var ∷ [])
at_suffix at p (k.Sign sign.OpenBracket) = shift (act.Line ∷ []) (x.Expr 1 ∷ x.CloseIndex ∷ x.Suffix at phrase.Var ∷ [])
at_suffix at p (k.Sign sign.Colon) = shift (act.Line ∷ []) (x.MethodName ∷ x.Suffix at phrase.Call ∷ [])
at_suffix at p (k.Sign sign.OpenParen) = shift (act.Line ∷ act.OpenExprs ∷ []) (x.Arguments ∷ x.Make act.AddCall ∷ x.Suffix at phrase.Call ∷ [])
at_suffix at p (k.Sign sign.OpenBrace) = shift (act.Line ∷ act.OpenFields ∷ []) (x.Fields ∷ x.Make act.Table ∷ x.Make act.OnlyExpr ∷ x.Make act.AddCall ∷ x.Suffix at phrase.Call ∷ [])
at_suffix at p (k.Text t) = shift (act.Line ∷ act.Literal ∷ act.OnlyExpr ∷ act.AddCall ∷ []) (x.Suffix at phrase.Call ∷ [])
at_suffix at p kind = at_phrase at p kind

abbrev pub at_method_arguments : TokenKind → Act
at_method_arguments (k.Sign sign.OpenParen) = shift (act.Line ∷ act.OpenExprs ∷ []) (x.Arguments ∷ x.Make act.AddMethod ∷ [])
at_method_arguments (k.Sign sign.OpenBrace) = shift (act.Line ∷ act.OpenFields ∷ []) (x.Fields ∷ x.Make act.Table ∷ x.Make act.OnlyExpr ∷ x.Make act.AddMethod ∷ [])
at_method_arguments (k.Text t) = shift (act.Line ∷ act.Literal ∷ act.OnlyExpr ∷ act.AddMethod ∷ []) []
at_method_arguments _ = refuse

abbrev pub at_more_arguments : TokenKind → Act
at_more_arguments (k.Sign sign.Comma) = shift (act.AddExpr ∷ []) (x.Expr 1 ∷ x.MoreArguments ∷ [])
at_more_arguments (k.Sign sign.CloseParen) = shift (act.AddExpr ∷ []) []
at_more_arguments _ = refuse

abbrev pub at_arguments : TokenKind → Act
at_arguments (k.Sign sign.CloseParen) = shift [] []
at_arguments _ = refuse

abbrev pub at_fields : TokenKind → Act
at_fields (k.Sign sign.CloseBrace) = shift [] []
at_fields (k.Name t) = shift (act.Name ∷ []) (x.NameField ∷ [])
at_fields (k.Sign sign.OpenBracket) = shift [] (x.Expr 1 ∷ x.CloseKey ∷ x.Assign ∷ x.Expr 1 ∷ x.Make act.KeyField ∷ x.MoreFields ∷ [])
at_fields _ = refuse

abbrev pub at_more_fields : TokenKind → Act
at_more_fields (k.Sign sign.Comma) = shift [] (x.Fields ∷ [])
at_more_fields (k.Sign sign.Semicolon) = shift [] (x.Fields ∷ [])
at_more_fields (k.Sign sign.CloseBrace) = shift [] []
at_more_fields _ = refuse

-- after a name that is a key, or begins an expression
abbrev pub at_name_field : TokenKind → Act
at_name_field (k.Sign sign.Assign) = shift (act.TextKey ∷ []) (x.Expr 1 ∷ x.Make act.KeyField ∷ x.MoreFields ∷ [])
at_name_field _ = refuse

-- ---- one token

abbrev pub at_name : List Effect → List Symbol → TokenKind → Act
at_name effects new (k.Name t) = shift effects new
at_name effects new _ = refuse

abbrev pub at_sign : (TokenKind → Bool) → List Effect → List Symbol → TokenKind → Act
at_sign test effects new kind = if test kind then shift effects new else refuse

-- ---- statements

abbrev pub at_block : Scope → TokenKind → Act
at_block c (k.Sign sign.Semicolon) = shift [] (x.Block c ∷ [])
at_block c (k.Name t) = shift (act.Variable ∷ []) (x.Suffix place.Statement phrase.Var ∷ x.Block c ∷ [])
at_block c (k.Sign sign.OpenParen) = shift [] (x.Expr 1 ∷ x.CloseParen ∷ x.Suffix place.Statement phrase.Enclosed ∷ x.Block c ∷ [])
at_block c (k.Word word.Break) = shift (act.Break ∷ []) (x.Block c ∷ [])
at_block c (k.Word word.Do) = shift (act.OpenBlock ∷ []) (x.Block c ∷ x.End ∷ x.Make act.Do ∷ x.Block c ∷ [])
at_block c (k.Word word.While) = shift [] (x.Expr 1 ∷ x.Do c ∷ x.Make act.While ∷ x.Block c ∷ [])
at_block c (k.Word word.Repeat) = shift (act.OpenBlock ∷ []) (x.Block (in_loop c) ∷ x.Until ∷ x.Expr 1 ∷ x.Make act.Repeat ∷ x.Block c ∷ [])
at_block c (k.Word word.If) = shift (act.OpenBranches ∷ []) (x.Expr 1 ∷ x.Then c ∷ x.Else c ∷ x.Block c ∷ [])
at_block c (k.Word word.For) = shift (act.Line ∷ []) (x.For c ∷ x.Block c ∷ [])
at_block c (k.Word word.Function) = shift [] (x.FunctionName ∷ x.Make act.AssignFunction ∷ x.Block c ∷ [])
at_block c (k.Word word.Local) = shift [] (x.Local c ∷ [])
at_block c (k.Word word.Return) = shift (act.OpenExprs ∷ []) (x.ReturnExprs ∷ x.OptionalSemicolon c ∷ x.Make act.Return ∷ [])
at_block c _ = pop (act.EndBlock ∷ [])

abbrev pub at_more_exprs : TokenKind → Act
at_more_exprs (k.Sign sign.Comma) = shift (act.AddExpr ∷ []) (x.Expr 1 ∷ x.MoreExprs ∷ [])
at_more_exprs _ = pop (act.AddExpr ∷ [])

abbrev pub at_semicolon : TokenKind → Act
at_semicolon (k.Sign sign.Semicolon) = shift [] []
at_semicolon _ = pop []

abbrev pub at_target : TokenKind → Act
at_target (k.Name t) = shift (act.Variable ∷ []) (x.Suffix place.Target phrase.Var ∷ [])
at_target (k.Sign sign.OpenParen) = shift [] (x.Expr 1 ∷ x.CloseParen ∷ x.Suffix place.Target phrase.Enclosed ∷ [])
at_target _ = refuse

abbrev pub at_then : Scope → TokenKind → Act
at_then c (k.Word word.Then) = shift (act.OpenBlock ∷ []) (x.Block c ∷ [])
at_then c _ = refuse

abbrev pub at_else : Scope → TokenKind → Act
at_else c (k.Word word.Elseif) = shift (act.AddBranch ∷ []) (x.Expr 1 ∷ x.Then c ∷ x.Else c ∷ [])
at_else c (k.Word word.Else) = shift (act.AddBranch ∷ act.OpenBlock ∷ []) (x.Block c ∷ x.End ∷ x.Make act.IfElse ∷ [])
at_else c (k.Word word.End) = shift (act.AddBranch ∷ act.If ∷ []) []
at_else c _ = refuse

abbrev pub at_do : List Symbol → Scope → TokenKind → Act
at_do after c (k.Word word.Do) = shift (act.OpenBlock ∷ []) (x.Block (in_loop c) ∷ x.End ∷ after)
at_do after c _ = refuse

abbrev pub at_for_names : Scope → TokenKind → Act
at_for_names c (k.Sign sign.Comma) = shift [] (x.ForName c ∷ [])
at_for_names c (k.Word word.In) = shift (act.OpenExprs ∷ []) (x.Expr 1 ∷ x.MoreExprs ∷ x.Do c ∷ x.Make act.Generic ∷ [])
at_for_names c _ = refuse

abbrev pub at_for_first : Scope → TokenKind → Act
at_for_first c (k.Sign sign.Assign) = shift [] (x.Expr 1 ∷ x.Comma ∷ x.Expr 1 ∷ x.ForStep c ∷ [])
at_for_first c kind = at_for_names c kind

abbrev pub at_for_step : Scope → TokenKind → Act
at_for_step c (k.Sign sign.Comma) = shift [] (x.Expr 1 ∷ x.Do c ∷ x.Make act.NumericBy ∷ [])
at_for_step c kind = at_do (x.Make act.Numeric ∷ []) c kind

abbrev pub at_local : Scope → TokenKind → Act
at_local c (k.Word word.Function) = shift [] (x.LocalFunction c ∷ [])
at_local c kind = at_name (act.FirstName ∷ []) (x.LocalMore (with_one c) ∷ []) kind

abbrev pub at_local_more : Scope → TokenKind → Act
at_local_more c (k.Sign sign.Comma) = shift [] (x.LocalName c ∷ [])
at_local_more c (k.Sign sign.Assign) = shift (act.OpenExprs ∷ []) (x.Expr 1 ∷ x.MoreExprs ∷ x.Make act.Local ∷ x.Block c ∷ [])
at_local_more c _ = refuse

-- ---- functions

-- a function's block, its `end` and what is made of them
abbrev pub function_block : ℕ → Bool → List Symbol
function_block n dots = x.Block (of_function n dots) ∷ x.End ∷ x.Make (act.Body dots) ∷ []

abbrev pub at_function_path : TokenKind → Act
at_function_path (k.Sign sign.Dot) = shift (act.Line ∷ []) (x.DotName ∷ x.FunctionPath ∷ [])
at_function_path (k.Sign sign.Colon) = shift (act.Line ∷ []) (x.DotName ∷ x.MethodParameters ∷ [])
at_function_path (k.Sign sign.OpenParen) = shift (act.FirstTarget ∷ act.OpenNames ∷ []) (x.FirstParameter 0 ∷ [])
at_function_path _ = refuse

abbrev pub at_parameters : TokenKind → Act
at_parameters (k.Sign sign.OpenParen) = shift (act.OpenNames ∷ []) (x.FirstParameter 0 ∷ [])
at_parameters _ = refuse

abbrev pub at_method_parameters : TokenKind → Act
at_method_parameters (k.Sign sign.OpenParen) = shift (act.FirstTarget ∷ act.OpenSelf ∷ []) (x.FirstParameter 1 ∷ [])
at_method_parameters _ = refuse

abbrev pub at_next_parameter : ℕ → TokenKind → Act
at_next_parameter n (k.Sign sign.Dots) = shift [] (x.CloseDots n ∷ [])
at_next_parameter n kind = at_name (act.NextName ∷ []) (x.MoreParameters (one_more n) ∷ []) kind

abbrev pub at_first_parameter : ℕ → TokenKind → Act
at_first_parameter n (k.Sign sign.CloseParen) = shift (act.OpenBlock ∷ []) (function_block n false)
at_first_parameter n kind = at_next_parameter n kind

abbrev pub at_more_parameters : ℕ → TokenKind → Act
at_more_parameters n (k.Sign sign.Comma) = shift [] (x.NextParameter n ∷ [])
at_more_parameters n (k.Sign sign.CloseParen) = shift (act.OpenBlock ∷ []) (function_block n false)
at_more_parameters n _ = refuse

abbrev pub at_close_dots : ℕ → TokenKind → Act
at_close_dots n (k.Sign sign.CloseParen) = shift (act.OpenBlock ∷ []) (function_block n true)
at_close_dots n _ = refuse

-- ---- one token of its own

abbrev pub at_close_index : TokenKind → Act
at_close_index (k.Sign sign.CloseBracket) = shift (act.AddIndex ∷ []) []
at_close_index _ = refuse

abbrev pub at_close_paren : TokenKind → Act
at_close_paren (k.Sign sign.CloseParen) = shift (act.Enclose ∷ []) []
at_close_paren _ = refuse

abbrev pub at_close_key : TokenKind → Act
at_close_key (k.Sign sign.CloseBracket) = shift [] []
at_close_key _ = refuse

abbrev pub at_assign : TokenKind → Act
at_assign (k.Sign sign.Assign) = shift [] []
at_assign _ = refuse

abbrev pub at_comma : TokenKind → Act
at_comma (k.Sign sign.Comma) = shift [] []
at_comma _ = refuse

abbrev pub at_until : TokenKind → Act
at_until (k.Word word.Until) = shift [] []
at_until _ = refuse

abbrev pub at_end : TokenKind → Act
at_end (k.Word word.End) = shift [] []
at_end _ = refuse

abbrev pub act_of : Symbol → TokenKind → Act
act_of (x.Make effect) t = pop (effect ∷ [])
act_of (x.Expr p) t = at_expr p t
act_of (x.Tail p q) t = at_tail p q (operator t)
act_of (x.Chained l) t = at_chained l (operator t)
act_of x.MoreExprs t = at_more_exprs t
act_of (x.Suffix at p) t = at_suffix at p t
act_of x.DotName t = at_name (act.AddDot ∷ []) [] t
act_of x.MethodName t = at_name (act.Name ∷ []) (x.MethodArguments ∷ []) t
act_of x.MethodArguments t = at_method_arguments t
act_of x.Arguments t = at_arguments t
act_of x.MoreArguments t = at_more_arguments t
act_of x.CloseIndex t = at_close_index t
act_of x.CloseParen t = at_close_paren t
act_of x.Fields t = at_fields t
act_of x.MoreFields t = at_more_fields t
act_of x.NameField t = at_name_field t
act_of x.CloseKey t = at_close_key t
act_of x.Assign t = at_assign t
act_of (x.Block c) t = at_block c t
act_of x.ReturnExprs t = pop []
act_of (x.OptionalSemicolon c) t = at_semicolon t
act_of x.Target t = at_target t
act_of x.Comma t = at_comma t
act_of (x.Then c) t = at_then c t
act_of (x.Else c) t = at_else c t
act_of (x.Do c) t = at_do [] c t
act_of x.Until t = at_until t
act_of x.End t = at_end t
act_of (x.For c) t = at_name (act.FirstName ∷ []) (x.ForFirst (with_one c) ∷ []) t
act_of (x.ForName c) t = at_name (act.NextName ∷ []) (x.ForMore (with_one c) ∷ []) t
act_of (x.ForFirst c) t = at_for_first c t
act_of (x.ForMore c) t = at_for_names c t
act_of (x.ForStep c) t = at_for_step c t
act_of (x.Local c) t = at_local c t
act_of (x.LocalName c) t = at_name (act.NextName ∷ []) (x.LocalMore (with_one c) ∷ []) t
act_of (x.LocalMore c) t = at_local_more c t
act_of (x.LocalFunction c) t = at_name (act.Name ∷ []) (x.Parameters ∷ x.Make act.LocalFunction ∷ x.Block (with_one c) ∷ []) t
act_of x.FunctionName t = at_name (act.Variable ∷ []) (x.FunctionPath ∷ []) t
act_of x.FunctionPath t = at_function_path t
act_of x.MethodParameters t = at_method_parameters t
act_of x.Parameters t = at_parameters t
act_of (x.FirstParameter n) t = at_first_parameter n t
act_of (x.NextParameter n) t = at_next_parameter n t
act_of (x.MoreParameters n) t = at_more_parameters n t
act_of (x.CloseDots n) t = at_close_dots n t

-- ---- symbols that become others before the token is looked at

pub record Others : Type 0 where
  pub effects : List Effect
  pub symbols : List Symbol

abbrev pub becomes_unless : Bool → List Effect → List Symbol → Option Others
becomes_unless true effects symbols = None
becomes_unless false effects symbols = Some (record { effects = effects; symbols = symbols })

abbrev pub is_close : TokenKind → Bool
is_close (k.Sign sign.CloseParen) = true
is_close _ = false

abbrev pub begins_field : TokenKind → Bool
begins_field (k.Sign sign.CloseBrace) = true
begins_field (k.Sign sign.OpenBracket) = true
begins_field (k.Name t) = true
begins_field _ = false

abbrev pub is_assign_sign : TokenKind → Bool
is_assign_sign (k.Sign sign.Assign) = true
is_assign_sign _ = false

abbrev pub goes_on_with_names : TokenKind → Bool
goes_on_with_names (k.Sign sign.Comma) = true
goes_on_with_names (k.Sign sign.Assign) = true
goes_on_with_names _ = false

abbrev pub others : Symbol → TokenKind → Option Others
others x.Arguments t = becomes_unless (is_close t) [] (x.Expr 1 ∷ x.MoreArguments ∷ [])
others x.Fields t = becomes_unless (begins_field t) [] (x.Expr 1 ∷ x.Make act.ItemField ∷ x.MoreFields ∷ [])
others x.NameField t = becomes_unless (is_assign_sign t) (act.NameVariable ∷ []) (x.Suffix place.Expression phrase.Var ∷ x.Tail 1 12 ∷ x.Make act.ItemField ∷ x.MoreFields ∷ [])
others x.ReturnExprs t = becomes_unless (not (begins_expr t)) [] (x.Expr 1 ∷ x.MoreExprs ∷ [])
others (x.LocalMore c) t = becomes_unless (goes_on_with_names t) (act.LocalAlone ∷ []) (x.Block c ∷ [])
others _ t = None

-- effects that come first, and what is done at the token
pub record Step : Type 0 where
  pub first : List Effect
  pub act : Act

abbrev pub plain : Act → Step
plain a = record { first = []; act = a }

abbrev pub after_effects : List Effect → Step → Step
after_effects effects step = record { first = effects ++ step.first; act = step.act }

abbrev pub over : Act → List Symbol → Step → Step
over (shift effects new) below later = plain (shift effects (new ++ below))
over (pop effects) below later = after_effects effects later
over refuse below later = plain refuse

-- what several symbols do at a token
abbrev pub acts_of : List Symbol → TokenKind → Step
acts_of [] t = plain (pop [])
acts_of (x ∷ below) t = over (act_of x t) below (acts_of below t)

abbrev pub next_with : Option Others → Symbol → TokenKind → Step
next_with None x t = plain (act_of x t)
next_with (Some others) x t = after_effects others.effects (acts_of others.symbols t)

-- what a symbol does at a token
abbrev pub next : Symbol → TokenKind → Step
next x t = next_with (others x t) x t

-- ---- the end of the text

-- what a symbol that need not be there does at the end of the text
abbrev pub last_of : Symbol → Act
last_of (x.Make effect) = pop (effect ∷ [])
last_of (x.Tail p q) = pop []
last_of (x.Chained l) = pop (act.EndChain ∷ [])
last_of x.MoreExprs = pop (act.AddExpr ∷ [])
last_of (x.Suffix place.Expression p) = pop (act.EndSuffixes ∷ [])
last_of (x.Suffix place.Statement phrase.Call) = pop (act.EndSuffixes ∷ act.Invoke ∷ [])
last_of (x.Block c) = pop (act.EndBlock ∷ [])
last_of x.ReturnExprs = pop []
last_of (x.OptionalSemicolon c) = pop []
last_of (x.LocalMore c) = pop (act.LocalAlone ∷ act.EndBlock ∷ [])
last_of _ = refuse
