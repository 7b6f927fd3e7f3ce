-- What is read is in the grammar. Each entry of the table is a rule of it.
use Rattle.std.proofs.Common.{◌≡◌, ℕ, ◌<◌, ◌≤◌, List, [], ◌∷◌, ◌++◌, append_assoc, Bool, true, false, not, nat_le, nat_lt, ◌==◌, if◌then◌else◌, refl, sym, ap, ◌∙◌, arith, subst, Ok, Err, Result, Option, Some, None, is_some}
use Rattle.std.specs.Bool.{⊤}
use Rattle.std.proofs.lemmas.List.{append-nil}
use Rattle.std.proofs.lemmas.Bool.Decides.{nat_tests}
use Rattle.lua_tree.specs.declared.token.Word.TheVariants as word
use Rattle.lua_tree.specs.declared.token.Sign.TheVariants as sign
use Rattle.lua_tree.specs.declared.token.TokenKind.{TokenKind}
use Rattle.lua_tree.specs.declared.token.TokenKind.TheVariants as k
use Rattle.lua_tree.specs.declared.tree.UnaryOp.{UnaryOp}
use Rattle.lua_tree.specs.declared.tree.BinaryOp.{BinaryOp}
use Rattle.lua_tree.specs.declared.tree.Expr.{Expr}
use Rattle.lua_tree.specs.declared.tree.Expr.TheVariants as e
use Rattle.lua_tree.specs.declared.tree.Expr.TheVariants.{outs-Name}
use Rattle.lua_tree.specs.declared.tree.Operand.{Operand}
use Rattle.lua_tree.specs.declared.tree.Suffix.{Suffix}
use Rattle.lua_tree.specs.declared.tree.Suffix.TheVariants as suffix
use Rattle.lua_tree.specs.declared.tree.Suffix.TheVariants.{outs-Index}
use Rattle.lua_tree.specs.declared.tree.Field.{Field}
use Rattle.lua_tree.specs.declared.tree.Field.TheVariants as field
use Rattle.lua_tree.specs.declared.tree.Body.{Body}
use Rattle.lua_tree.specs.declared.tree.Block.{Block}
use Rattle.lua_tree.specs.declared.tree.Branch.{Branch}
use Rattle.lua_tree.specs.declared.tree.Target.{Target}
use Rattle.lua_tree.specs.declared.tree.Target.TheVariants as target
use Rattle.lua_tree.specs.declared.tree.Stat.{Stat}
use Rattle.lua_tree.specs.declared.tree.Stat.TheVariants as stat
use Rattle.lua_grammar.specs.declared.tree.Part.TheVariants as part
use Rattle.lua_grammar.specs.declared.symbol.Phrase.{Phrase}
use Rattle.lua_grammar.specs.declared.symbol.Phrase.TheVariants as phrase
use Rattle.lua_grammar.specs.declared.symbol.Place.{Place}
use Rattle.lua_grammar.specs.declared.symbol.Place.TheVariants as place
use Rattle.lua_grammar.specs.declared.symbol.Scope.{Scope}
use Rattle.lua_grammar.specs.declared.symbol.Effect.{Effect}
use Rattle.lua_grammar.specs.declared.symbol.Effect.TheVariants as act
use Rattle.lua_grammar.specs.declared.symbol.Symbol.{Symbol}
use Rattle.lua_grammar.specs.declared.symbol.Symbol.TheVariants as x
use Rattle.lua_grammar.specs.Lexeme.{Text, Lexeme, at, Lexemes, operator, unary_operator, level, groups_left, is_operator, is_suffix, is_comma, is_separator, is_assign, begins_expr, Not}
use Rattle.lua_grammar.specs.Grammar.{operand_of, body_of, block_of, branch_of, numeric_of, generic_of, suffixed, self, IsExpr, nil, false_word, true_word, int, text, dots, function, table, prefix, unary_of, chain, IsOperands, no_operand, operand as next_operand, Whole, whole, IsExprs, last, more, IsPrefix, prefixed, name, enclosed, IsSuffixes, no_suffix, next_suffix, IsSuffix, index, call, method, IsIndex, bracket, dot, IsArguments, no_argument, arguments, of_table, of_text, IsFields, no_field, last_field, next_field, IsField, key, named, item, IsBody, body, IsParameters, no_parameter, names_only, dots_only, names_dots, IsNames, last_name, next_name, IsTarget, variable, element, IsTargets, last_target, next_target, IsPath, alone, path, IsDots, no_dot, next_dot, IsElses, end_if, else_block, elseif, branch, IsDo, do_end, IsStat, assign, call_stat, break, do_stat, while, repeat, if_stat, numeric, numeric_by, generic, function_stat, method_stat, local_function, local_alone, local, IsBlock, block, IsStats, end_block, semicolon, statement, return, IsResult, no_value, values, IsEnd, plain_end, semicolon_end}
use Rattle.lua_grammar.specs.Table.{Act, shift, pop, refuse, next_with, act_of, last_of, Others, others, becomes_unless, operand, with_one, function_block, is_close, begins_field, is_assign_sign, goes_on_with_names, at_expr, at_tail, at_chained, at_suffix, at_phrase, at_block, at_more_exprs, at_semicolon, at_more_fields, at_fields, at_name_field, at_arguments, at_more_arguments, at_method_arguments, at_name, at_target, at_then, at_else, at_do, at_for_names, at_for_first, at_for_step, at_local, at_local_more, at_function_path, at_parameters, at_method_parameters, at_next_parameter, at_first_parameter, at_more_parameters, at_close_dots, at_close_index, at_close_paren, at_close_key, at_assign, at_comma, at_until, at_end}
use Rattle.lua_grammar.specs.Parts.{Parts, effect_of, effects_of, target_of, add_stat, add_suffix, below, line, name as name_at, names, expr, exprs, suffixes, operands, fields, targets, branches, stats, block as block_at, first}
use Rattle.lua_grammar.specs.Machine.{State, fed, taken, feed, closing, finish, ending, going, run}
use Rattle.lua_grammar.proofs.Steps.{below_at, Below, level_bounds, Flat, feed_becomes}
use Rattle.lua_grammar.proofs.Complete.{element_target, variable_target, at_start, chunk_scope}

-- ---- levels

level_none : (o : Option BinaryOp) → below_at 1 o → is_some o ≡ false
level_none (Some o) h = absurd (omega (arith, h, (level_bounds o).0))
level_none None h = refl

no_operator : (r : Lexemes) → Below 1 r → Not is_operator r
no_operator [] h = tt
no_operator (t ∷ ts) h = level_none (operator t.kind) h

le_of : (m n : ℕ) → nat_le m n ≡ true → m ≤ n
le_of m n h = grind (arith, nat_tests)

lt_of_not : (m n : ℕ) → nat_le m n ≡ false → n < m
lt_of_not m n h = grind (arith, nat_tests)

lt_of : (m n : ℕ) → nat_lt m n ≡ true → m < n
lt_of m n h = grind (arith, nat_tests)

eq_of : (m n : ℕ) → (m == n) ≡ true → m ≡ n
eq_of m n h = grind (arith, nat_tests)

-- ---- parts of rules, from a symbol on

-- what follows an expression of a list
data IsRest : List Expr → Lexemes → Lexemes → Type 0 where
  end_list : {r : Lexemes} → Not is_comma r → IsRest [] r r
  comma : {n : ℕ} {es : List Expr} {ts r : Lexemes} → IsExprs es ts r → IsRest es (at (k.Sign sign.Comma) n ∷ ts) r

joined : {a : Expr} {es : List Expr} {ts mid r : Lexemes} → Whole a ts mid → IsRest es mid r → IsExprs (a ∷ es) ts r
joined w (end_list n) = last w n
joined w (comma d) = more w d

-- what follows an argument
data IsMoreArguments : List Expr → Lexemes → Lexemes → Type 0 where
  close : {n : ℕ} {r : Lexemes} → IsMoreArguments [] (at (k.Sign sign.CloseParen) n ∷ r) r
  next_argument : {m n : ℕ} {es : List Expr} {ts r : Lexemes} → IsExprs es ts (at (k.Sign sign.CloseParen) m ∷ r) → IsMoreArguments es (at (k.Sign sign.Comma) n ∷ ts) r

-- what follows the opening parenthesis
data InParens : List Expr → Lexemes → Lexemes → Type 0 where
  empty : {n : ℕ} {r : Lexemes} → InParens [] (at (k.Sign sign.CloseParen) n ∷ r) r
  filled : {n : ℕ} {es : List Expr} {ts r : Lexemes} → IsExprs es ts (at (k.Sign sign.CloseParen) n ∷ r) → InParens es ts r

parens : {es : List Expr} {n : ℕ} {ts r : Lexemes} → InParens es ts r → IsArguments es n (at (k.Sign sign.OpenParen) n ∷ ts) r
parens empty = no_argument
parens (filled d) = arguments d

in_parens : {a : Expr} {es : List Expr} {ts mid r : Lexemes} → Whole a ts mid → IsMoreArguments es mid r → InParens (a ∷ es) ts r
in_parens w close = filled (last w refl)
in_parens w (next_argument d) = filled (more w d)

more_arguments : {a : Expr} {es : List Expr} {n : ℕ} {ts mid r : Lexemes} → Whole a ts mid → IsMoreArguments es mid r → IsMoreArguments (a ∷ es) (at (k.Sign sign.Comma) n ∷ ts) r
more_arguments w close = next_argument (last w refl)
more_arguments w (next_argument d) = next_argument (more w d)

-- what follows a field
data IsMoreFields : List Field → Lexemes → Lexemes → Type 0 where
  close_fields : {n : ℕ} {r : Lexemes} → IsMoreFields [] (at (k.Sign sign.CloseBrace) n ∷ r) r
  separator : {n : ℕ} {kind : TokenKind} {fs : List Field} {ts r : Lexemes} → is_separator kind ≡ true → IsFields fs ts r → IsMoreFields fs (at kind n ∷ ts) r

fielded : {a : Field} {fs : List Field} {ts mid r : Lexemes} → IsField a ts mid → IsMoreFields fs mid r → IsFields (a ∷ fs) ts r
fielded d close_fields = last_field d
fielded d (separator h f) = next_field h d f

-- what follows a name of a list
data IsMoreNames : List Text → Lexemes → Lexemes → Type 0 where
  no_more : {r : Lexemes} → IsMoreNames [] r r
  comma_names : {n : ℕ} {xs : List Text} {ts r : Lexemes} → IsNames xs ts r → IsMoreNames xs (at (k.Sign sign.Comma) n ∷ ts) r

named_list : {y : Text} {n : ℕ} {xs : List Text} {ts r : Lexemes} → IsMoreNames xs ts r → IsNames (y ∷ xs) (at (k.Name y) n ∷ ts) r
named_list no_more = last_name
named_list (comma_names d) = next_name d

-- what follows the names of `local`
data IsLocalEnd : List Expr → Lexemes → Lexemes → Type 0 where
  no_values : {r : Lexemes} → Not is_comma r → Not is_assign r → IsLocalEnd [] r r
  local_values : {n : ℕ} {es : List Expr} {ts r : Lexemes} → IsExprs es ts r → IsLocalEnd es (at (k.Sign sign.Assign) n ∷ ts) r

localised : {xs : List Text} {es : List Expr} {n : ℕ} {ts mid r : Lexemes} → IsNames xs ts mid → IsLocalEnd es mid r → IsStat (stat.Local xs es) (at (k.Word word.Local) n ∷ ts) r
localised d (no_values n m) = local_alone d n m
localised d (local_values f) = local d f

-- what follows the limit of a numeric `for`
data IsSteps : Option Expr → Block → Lexemes → Lexemes → Type 0 where
  no_step : {b : Block} {ts r : Lexemes} → IsDo b ts r → IsSteps None b ts r
  by_step : {n : ℕ} {c : Expr} {b : Block} {ts mid r : Lexemes} → Whole c ts mid → IsDo b mid r → IsSteps (Some c) b (at (k.Sign sign.Comma) n ∷ ts) r

stepped : {l m n h : ℕ} {y : Text} {a b : Expr} {c : Option Expr} {inner : Block} {ts mid end r : Lexemes} → Whole a ts (at (k.Sign sign.Comma) l ∷ mid) → Whole b mid end → IsSteps c inner end r
    → IsStat (stat.Numeric (numeric_of y a b c inner h)) (at (k.Word word.For) h ∷ at (k.Name y) m ∷ at (k.Sign sign.Assign) n ∷ ts) r
stepped d f (no_step g) = numeric d f g
stepped d f (by_step i g) = numeric_by d f i g

-- a parameter and what follows it
data IsNext : List Text → Bool → Lexemes → Lexemes → Type 0 where
  names_end : {n : ℕ} {xs : List Text} {ts r : Lexemes} → IsNames xs ts (at (k.Sign sign.CloseParen) n ∷ r) → IsNext xs false ts r
  dots_end : {m n : ℕ} {r : Lexemes} → IsNext [] true (at (k.Sign sign.Dots) m ∷ at (k.Sign sign.CloseParen) n ∷ r) r
  names_dots_end : {l m n : ℕ} {xs : List Text} {ts r : Lexemes} → IsNames xs ts (at (k.Sign sign.Comma) l ∷ at (k.Sign sign.Dots) m ∷ at (k.Sign sign.CloseParen) n ∷ r) → IsNext xs true ts r

data IsMoreParameters : List Text → Bool → Lexemes → Lexemes → Type 0 where
  close_parameters : {n : ℕ} {r : Lexemes} → IsMoreParameters [] false (at (k.Sign sign.CloseParen) n ∷ r) r
  comma_parameters : {n : ℕ} {xs : List Text} {d : Bool} {ts r : Lexemes} → IsNext xs d ts r → IsMoreParameters xs d (at (k.Sign sign.Comma) n ∷ ts) r

data IsOpened : List Text → Bool → Lexemes → Lexemes → Type 0 where
  none_opened : {n : ℕ} {r : Lexemes} → IsOpened [] false (at (k.Sign sign.CloseParen) n ∷ r) r
  some_opened : {xs : List Text} {d : Bool} {ts r : Lexemes} → IsNext xs d ts r → IsOpened xs d ts r

one_parameter : {y : Text} {n : ℕ} {xs : List Text} {d : Bool} {ts r : Lexemes} → IsMoreParameters xs d ts r → IsNext (y ∷ xs) d (at (k.Name y) n ∷ ts) r
one_parameter close_parameters = names_end last_name
one_parameter (comma_parameters (names_end d)) = names_end (next_name d)
one_parameter (comma_parameters dots_end) = names_dots_end last_name
one_parameter (comma_parameters (names_dots_end d)) = names_dots_end (next_name d)

opened : {n : ℕ} {xs : List Text} {d : Bool} {ts r : Lexemes} → IsOpened xs d ts r → IsParameters xs d (at (k.Sign sign.OpenParen) n ∷ ts) r
opened none_opened = no_parameter
opened (some_opened (names_end d)) = names_only d
opened (some_opened dots_end) = dots_only
opened (some_opened (names_dots_end d)) = names_dots d

-- the name of a `function` statement, and its function
data IsNamed : Target → Body → Lexemes → Lexemes → Type 0 where
  plain_name : {t : Target} {b : Body} {ts mid r : Lexemes} → IsPath t ts mid → IsBody [] b mid r → IsNamed t b ts r
  method_name : {l m o : ℕ} {y z : Text} {xs : List Suffix} {b : Body} {ts mid r : Lexemes} → IsDots xs ts (at (k.Sign sign.Colon) l ∷ at (k.Name y) m ∷ mid) → IsBody (self ∷ []) b mid r
      → IsNamed (target.Element (suffixed (e.Name z) xs) (e.Text y) l) b (at (k.Name z) o ∷ ts) r

named_function : {n : ℕ} {t : Target} {b : Body} {ts r : Lexemes} → IsNamed t b ts r → IsStat (stat.Assign (t ∷ []) (e.Function b ∷ [])) (at (k.Word word.Function) n ∷ ts) r
named_function (plain_name d f) = function_stat d f
named_function (method_name d f) = method_stat d f

suffixes_snoc : {p q o : Phrase} {xs : List Suffix} {y : Suffix} {ts mid r : Lexemes} → IsSuffixes p q xs ts mid → IsSuffix o y mid r → IsSuffixes p o (xs ++ y ∷ []) ts r
suffixes_snoc no_suffix f = next_suffix f no_suffix
suffixes_snoc (next_suffix d g) f = next_suffix d (suffixes_snoc g f)

snoc : {q o : Phrase} {a : Expr} {xs : List Suffix} {y : Suffix} {ts mid r : Lexemes} → IsPrefix q a xs ts mid → IsSuffix o y mid r → IsPrefix o a (xs ++ y ∷ []) ts r
snoc (prefixed d g) f = prefixed d (suffixes_snoc g f)

dots_snoc : {m n : ℕ} {y : Text} {xs : List Suffix} {ts r : Lexemes} → IsDots xs ts (at (k.Sign sign.Dot) n ∷ at (k.Name y) m ∷ r) → IsDots (xs ++ suffix.Index (e.Text y) n ∷ []) ts r
dots_snoc no_dot = next_dot no_dot
dots_snoc (next_dot d) = next_dot (dots_snoc d)

-- ---- what symbols stand for

-- what the parts and the lexemes from here have to be, for what comes after a symbol
abbrev After : Type 1
After = Parts → Lexemes → Type 0

-- an expression that was read since t0, as it goes on
abbrev GoesOn : ℕ → After → Lexemes → Parts → Type 0
GoesOn p after t0 u = (l : ℕ) × (b : Expr) × (r : Lexemes) × IsExpr l b t0 r × (p ≤ 11 → p ≤ l) × Below p r × after (part.Expr b ∷ u) r

-- one token
abbrev Takes : TokenKind → After → After
Takes kind after v ts = (n : ℕ) × (r : Lexemes) × (ts ≡ at kind n ∷ r) × after v r

-- targets, `=` and expressions
abbrev Assigns : After → Lexemes → Parts → Type 0
Assigns after t0 u = (vs : List Target) × (es : List Expr) × (n : ℕ) × (mid : Lexemes) × (r : Lexemes) × IsTargets vs t0 (at (k.Sign sign.Assign) n ∷ mid) × IsExprs es mid r
    × after (add_stat (stat.Assign (targets u ++ vs) es) (below u)) r

abbrev States : After → Lexemes → Parts → Type 0
States after t0 u = (a : Stat) × (r : Lexemes) × IsStat a t0 r × after (add_stat a u) r

-- what a prefix becomes
abbrev Becomes : Place → After → Lexemes → Parts → Type 0
Becomes place.Expression after t0 u = (q : Phrase) × (b : Expr) × (ys : List Suffix) × (r : Lexemes) × IsPrefix q b ys t0 r × Not is_suffix r × after (part.Expr (suffixed b ys) ∷ u) r
Becomes place.Statement after t0 u = States after t0 u
Becomes place.Target after t0 u = Assigns after t0 u

-- a variable is a target
abbrev Marks : Phrase → Expr → List Suffix → Lexemes → Lexemes → Type 0
Marks phrase.Var a xs t0 ts = (t : Target) × IsTarget t t0 ts × (target_of a xs ≡ t)
Marks _ a xs t0 ts = ⊤

abbrev Statements : After → After
Statements after v ts = (ss : List Stat) × (result : Option (List Expr)) × (r : Lexemes) × IsStats ss result ts r × after (part.Block (block_of (stats v ++ ss) result) ∷ below v) r

abbrev Locals : After → Parts → (List Text → Lexemes → Type 0) → Type 0
Locals after v are = (xs : List Text) × (es : List Expr) × (mid : Lexemes) × (far : Lexemes) × (ss : List Stat) × (result : Option (List Expr)) × (r : Lexemes)
    × are xs mid × IsLocalEnd es mid far × IsStats ss result far r
    × after (part.Block (block_of (stats (below v) ++ stat.Local (names v ++ xs) es ∷ ss) result) ∷ below (below v)) r

abbrev Loops : After → Parts → (List Text → Lexemes → Type 0) → Type 0
Loops after v are = (xs : List Text) × (es : List Expr) × (b : Block) × (n : ℕ) × (mid : Lexemes) × (end : Lexemes) × (r : Lexemes)
    × are xs (at (k.Word word.In) n ∷ mid) × IsExprs es mid end × IsDo b end r
    × after (add_stat (stat.Generic (generic_of (names v ++ xs) es b (line (below v)))) (below (below v))) r

abbrev Bodies : After → Parts → (List Text → Bool → Lexemes → Type 0) → Type 0
Bodies after v are = (xs : List Text) × (d : Bool) × (mid : Lexemes) × (b : Block) × (n : ℕ) × (r : Lexemes)
    × are xs d mid × IsBlock b mid (at (k.Word word.End) n ∷ r) × after (part.Body (body_of (names v ++ xs) d b) ∷ below v) r

abbrev Means : Symbol → After → After
Means (x.Make effect) after v ts = after (effect_of None effect v) ts
Means (x.Expr p) after v ts = GoesOn p after ts v
Means (x.Tail p q) after v ts = (a : Expr) (u : Parts) (t0 : Lexemes) → v ≡ part.Expr a ∷ u → IsExpr q a t0 ts → (p ≤ 11 → p ≤ q) → GoesOn p after t0 u
Means (x.Chained l) after v ts = (os : List Operand) × (r : Lexemes) × IsOperands l os ts r × after (part.Expr (e.Chain (expr (below v)) (operands v ++ os)) ∷ below (below v)) r
Means x.MoreExprs after v ts = (es : List Expr) × (r : Lexemes) × IsRest es ts r × after (part.Exprs (exprs (below v) ++ expr v ∷ es) ∷ below (below v)) r
Means (x.Suffix at p) after v ts = (a : Expr) (xs : List Suffix) (u : Parts) (t0 : Lexemes) → v ≡ part.Suffixes xs ∷ part.Expr a ∷ u → IsPrefix p a xs t0 ts → Marks p a xs t0 ts → Becomes at after t0 u
Means x.DotName after v ts = (y : Text) × (m : ℕ) × (r : Lexemes) × (ts ≡ at (k.Name y) m ∷ r) × after (add_suffix (suffix.Index (e.Text y) (line v)) (below v)) r
Means x.MethodName after v ts = (y : Text) × (m : ℕ) × (mid : Lexemes) × (es : List Expr) × (n : ℕ) × (r : Lexemes) × (ts ≡ at (k.Name y) m ∷ mid) × IsArguments es n mid r
    × after (add_suffix (suffix.Method y (line v) es n) (below v)) r
Means x.MethodArguments after v ts = (es : List Expr) × (n : ℕ) × (r : Lexemes) × IsArguments es n ts r × after (effect_of None act.AddMethod (part.Exprs es ∷ part.Line n ∷ v)) r
Means x.Arguments after v ts = (xs : List Expr) (u : Parts) → v ≡ part.Exprs xs ∷ u → (es : List Expr) × (r : Lexemes) × InParens es ts r × after (part.Exprs (xs ++ es) ∷ u) r
Means x.MoreArguments after v ts = (es : List Expr) × (r : Lexemes) × IsMoreArguments es ts r × after (part.Exprs (exprs (below v) ++ expr v ∷ es) ∷ below (below v)) r
Means x.CloseIndex after v ts = Takes (k.Sign sign.CloseBracket) (λ v. after (effect_of None act.AddIndex v)) v ts
Means x.CloseParen after v ts = Takes (k.Sign sign.CloseParen) (λ v. after (effect_of None act.Enclose v)) v ts
Means x.Fields after v ts = (xs : List Field) (u : Parts) → v ≡ part.Fields xs ∷ u → (fs : List Field) × (r : Lexemes) × IsFields fs ts r × after (part.Fields (xs ++ fs) ∷ u) r
Means x.MoreFields after v ts = (xs : List Field) (u : Parts) → v ≡ part.Fields xs ∷ u → (fs : List Field) × (r : Lexemes) × IsMoreFields fs ts r × after (part.Fields (xs ++ fs) ∷ u) r
Means x.NameField after v ts = (y : Text) (xs : List Field) (u : Parts) (n : ℕ) → v ≡ part.Name y ∷ part.Fields xs ∷ u
    → (f : Field) × (fs : List Field) × (mid : Lexemes) × (r : Lexemes) × IsField f (at (k.Name y) n ∷ ts) mid × IsMoreFields fs mid r × after (part.Fields (xs ++ f ∷ fs) ∷ u) r
Means x.CloseKey after v ts = Takes (k.Sign sign.CloseBracket) after v ts
Means x.Assign after v ts = Takes (k.Sign sign.Assign) after v ts
Means (x.Block c) after v ts = Statements after v ts
Means x.ReturnExprs after v ts = (xs : List Expr) (u : Parts) → v ≡ part.Exprs xs ∷ u → (es : List Expr) × (r : Lexemes) × IsResult es ts r × after (part.Exprs (xs ++ es) ∷ u) r
Means (x.OptionalSemicolon c) after v ts = (r : Lexemes) × IsEnd ts r × after v r
Means x.Target after v ts = Assigns after ts v
Means x.Comma after v ts = Takes (k.Sign sign.Comma) after v ts
Means (x.Then c) after v ts = (m : ℕ) × (mid : Lexemes) × (b : Block) × (r : Lexemes) × (ts ≡ at (k.Word word.Then) m ∷ mid) × IsBlock b mid r × after (part.Block b ∷ v) r
Means (x.Else c) after v ts = (bs : List Branch) × (other : Option Block) × (r : Lexemes) × IsElses bs other ts r
    × after (add_stat (stat.If (branches (below (below v)) ++ branch_of (expr (below v)) (block_at v) ∷ bs) other) (below (below (below v)))) r
Means (x.Do c) after v ts = (b : Block) × (r : Lexemes) × IsDo b ts r × after (part.Block b ∷ v) r
Means x.Until after v ts = Takes (k.Word word.Until) after v ts
Means x.End after v ts = Takes (k.Word word.End) after v ts
Means (x.For c) after v ts = (a : Stat) × (r : Lexemes) × IsStat a (at (k.Word word.For) (line v) ∷ ts) r × after (add_stat a (below v)) r
Means (x.ForFirst c) after v ts = (y : Text) (u : Parts) (m : ℕ) → v ≡ part.Names (y ∷ []) ∷ u
    → (a : Stat) × (r : Lexemes) × IsStat a (at (k.Word word.For) (line u) ∷ at (k.Name y) m ∷ ts) r × after (add_stat a (below u)) r
Means (x.ForName c) after v ts = Loops after v (λ xs r. IsNames xs ts r)
Means (x.ForMore c) after v ts = Loops after v (λ xs r. IsMoreNames xs ts r)
Means (x.ForStep c) after v ts = (c : Option Expr) × (b : Block) × (r : Lexemes) × IsSteps c b ts r
    × after (add_stat (stat.Numeric (numeric_of (first (names (below (below v)))) (expr (below v)) (expr v) c b (line (below (below (below v)))))) (below (below (below (below v))))) r
Means (x.Local c) after v ts = (n : ℕ) → Statements after v (at (k.Word word.Local) n ∷ ts)
Means (x.LocalName c) after v ts = Locals after v (λ xs r. IsNames xs ts r)
Means (x.LocalMore c) after v ts = Locals after v (λ xs r. IsMoreNames xs ts r)
Means (x.LocalFunction c) after v ts = (n m : ℕ) → Statements after v (at (k.Word word.Local) n ∷ at (k.Word word.Function) m ∷ ts)
Means x.FunctionName after v ts = (t : Target) × (b : Body) × (r : Lexemes) × IsNamed t b ts r × after (part.Body b ∷ part.Targets (t ∷ []) ∷ v) r
Means x.FunctionPath after v ts = (y : Text) (xs : List Suffix) (u : Parts) (t0 : Lexemes) (n : ℕ) → v ≡ part.Suffixes xs ∷ part.Expr (e.Name y) ∷ u → IsDots xs t0 ts
    → (t : Target) × IsPath t (at (k.Name y) n ∷ t0) ts × (target_of (e.Name y) xs ≡ t)
    → (t : Target) × (b : Body) × (r : Lexemes) × IsNamed t b (at (k.Name y) n ∷ t0) r × after (part.Body b ∷ part.Targets (t ∷ []) ∷ u) r
Means x.MethodParameters after v ts = (b : Body) × (r : Lexemes) × IsBody (self ∷ []) b ts r × after (part.Body b ∷ part.Targets (target_of (expr (below v)) (suffixes v) ∷ []) ∷ below (below v)) r
Means x.Parameters after v ts = (b : Body) × (r : Lexemes) × IsBody [] b ts r × after (part.Body b ∷ v) r
Means (x.FirstParameter n) after v ts = Bodies after v (λ xs d r. IsOpened xs d ts r)
Means (x.NextParameter n) after v ts = Bodies after v (λ xs d r. IsNext xs d ts r)
Means (x.MoreParameters n) after v ts = Bodies after v (λ xs d r. IsMoreParameters xs d ts r)
Means (x.CloseDots n) after v ts = Bodies after v (λ xs d r. (m : ℕ) × (xs ≡ []) × (d ≡ true) × (ts ≡ at (k.Sign sign.CloseParen) m ∷ r))

abbrev MeanAll : List Symbol → After → After
MeanAll [] after = after
MeanAll (x ∷ s) after = Means x (MeanAll s after)

-- an entry of the table leads back to what its symbol stands for
abbrev Leads : Act → (After → After) → TokenKind → Type 1
Leads (shift effects new) m kind = (n : ℕ) (after : After) (v : Parts) (ts : Lexemes) → MeanAll new after (effects_of (Some (at kind n)) effects v) ts → m after v (at kind n ∷ ts)
Leads (pop effects) m kind = (n : ℕ) (after : After) (v : Parts) (ts : Lexemes) → after (effects_of None effects v) (at kind n ∷ ts) → m after v (at kind n ∷ ts)
Leads refuse m kind = Unit {1}

-- ---- expressions

-- the whole expression that begins here, from what is known of it
ended : {a : Expr} {l : ℕ} {ts r : Lexemes} → IsExpr l a ts r → Below 1 r → Whole a ts r
ended {r = r} d h = whole d (no_operator r h)

block_ended : {ss : List Stat} {result : Option (List Expr)} {ts mid r : Lexemes} {n : ℕ} → IsStats ss result ts mid → mid ≡ at (k.Word word.End) n ∷ r → IsBlock (block_of ss result) ts (at (k.Word word.End) n ∷ r)
block_ended {ss = ss} {result = result} {ts = ts} d h = subst (λ r. IsBlock (block_of ss result) ts r) h (block d)

enclosed_ended : {l : ℕ} {a : Expr} {m n : ℕ} {ts mid r : Lexemes} → IsExpr l a ts mid → Below 1 mid → mid ≡ at (k.Sign sign.CloseParen) m ∷ r → IsPrefix phrase.Enclosed (e.Paren a) [] (at (k.Sign sign.OpenParen) n ∷ ts) r
enclosed_ended {a = a} {ts = ts} d h i = prefixed (enclosed (subst (λ r. Whole a ts r) i (ended d h))) no_suffix

name_marks : (t : Text) (n : ℕ) (ts : Lexemes) → Marks phrase.Var (e.Name t) [] (at (k.Name t) n ∷ ts) ts
name_marks t n ts = (target.Variable t, variable, variable_target t)

back_unary : (p : ℕ) (kind : TokenKind) (o : UnaryOp) → unary_operator kind ≡ Some o
    → Leads (shift (act.Line ∷ []) (x.Expr 11 ∷ x.Make (act.Unary o) ∷ x.Tail p 11 ∷ [])) (Means (x.Expr p)) kind
back_unary p kind o h = λ n after v ts m. m.6 (e.Unary o n m.1) v (at kind n ∷ ts) refl (unary_of h m.3 (m.4 (omega arith))) (λ i. i)

back_expr : (p : ℕ) (kind : TokenKind) → Leads (at_expr p kind) (Means (x.Expr p)) kind
back_expr p (k.Int i) = λ n after v ts m. m (e.Int i) v (at (k.Int i) n ∷ ts) refl int (λ h. omega arith)
back_expr p (k.Text t) = λ n after v ts m. m (e.Text t) v (at (k.Text t) n ∷ ts) refl text (λ h. omega arith)
back_expr p (k.Name t) = λ n after v ts m.
    let g = m (e.Name t) [] v (at (k.Name t) n ∷ ts) refl (prefixed name no_suffix) (name_marks t n ts) in
    g.6 (suffixed g.1 g.2) v (at (k.Name t) n ∷ ts) refl (prefix g.4 g.5) (λ h. omega arith)
back_expr p (k.Word word.Nil) = λ n after v ts m. m e.Nil v (at (k.Word word.Nil) n ∷ ts) refl nil (λ h. omega arith)
back_expr p (k.Word word.False) = λ n after v ts m. m e.False v (at (k.Word word.False) n ∷ ts) refl false_word (λ h. omega arith)
back_expr p (k.Word word.True) = λ n after v ts m. m e.True v (at (k.Word word.True) n ∷ ts) refl true_word (λ h. omega arith)
back_expr p (k.Word word.Function) = λ n after v ts m. m.3 (e.Function m.0) v (at (k.Word word.Function) n ∷ ts) refl (function m.2) (λ h. omega arith)
back_expr p (k.Sign sign.Dots) = λ n after v ts m. m e.Dots v (at (k.Sign sign.Dots) n ∷ ts) refl dots (λ h. omega arith)
back_expr p (k.Sign sign.OpenParen) = λ n after v ts m.
    let g = m.6.3 (e.Paren m.1) [] v (at (k.Sign sign.OpenParen) n ∷ ts) refl (enclosed_ended m.3 m.5 m.6.2) tt in
    g.6 (suffixed g.1 g.2) v (at (k.Sign sign.OpenParen) n ∷ ts) refl (prefix g.4 g.5) (λ h. omega arith)
back_expr p (k.Sign sign.OpenBrace) = λ n after v ts m.
    let g = m [] v refl in
    g.3 (e.Table g.0) v (at (k.Sign sign.OpenBrace) n ∷ ts) refl (table g.2) (λ h. omega arith)
back_expr p (k.Word word.Not) = back_unary p (k.Word word.Not) _ refl
back_expr p (k.Sign sign.Hash) = back_unary p (k.Sign sign.Hash) _ refl
back_expr p (k.Sign sign.Minus) = back_unary p (k.Sign sign.Minus) _ refl
back_expr p (k.Sign sign.Tilde) = back_unary p (k.Sign sign.Tilde) _ refl
back_expr p _ = tt

back_operator : (p q : ℕ) (kind : TokenKind) (o : BinaryOp) (b c : Bool) → operator kind ≡ Some o → nat_le p (level o) ≡ b → nat_lt (level o) q ≡ c
    → Leads (if b then (if c then shift (act.OpenOperands ∷ act.Line ∷ []) (operand o ++ x.Tail p (level o) ∷ []) else refuse) else pop []) (Means (x.Tail p q)) kind
back_operator p q kind o true true f h i = λ n after v ts m a u t0 ev d le.
    m.6.3 (e.Chain a (operand_of o n m.1 ∷ m.6.0)) u t0 (ap (λ (v : Parts). part.Expr (e.Chain (expr v) (operand_of o n m.1 ∷ m.6.0)) ∷ below v) ev)
    (chain f d (lt_of (level o) q i) m.3 (m.4 (level_bounds o).4) m.6.2) (λ j. le_of p (level o) h)
back_operator p q kind o true false f h i = tt
back_operator p q kind o false c f h i = λ n after v ts m a u t0 ev d le.
    (q, a, at kind n ∷ ts, d, le, subst (below_at p) (sym f) (lt_of_not p (level o) h), subst (λ v. after v (at kind n ∷ ts)) ev m)

back_tail : (p q : ℕ) (kind : TokenKind) (o : Option BinaryOp) → operator kind ≡ o → Leads (at_tail p q o) (Means (x.Tail p q)) kind
back_tail p q kind (Some o) h = back_operator p q kind o (nat_le p (level o)) (nat_lt (level o) q) h refl refl
back_tail p q kind None h = λ n after v ts m a u t0 ev d le. (q, a, at kind n ∷ ts, d, le, subst (below_at p) (sym h) tt, subst (λ v. after v (at kind n ∷ ts)) ev m)

chained_end : (after : After) (v : Parts) (r : Lexemes) → after (effect_of None act.EndChain v) r → after (part.Expr (e.Chain (expr (below v)) (operands v ++ [])) ∷ below (below v)) r
chained_end after v r m = subst (λ os. after (part.Expr (e.Chain (expr (below v)) os) ∷ below (below v)) r) (sym (append-nil (operands v))) m

back_chain : (l : ℕ) (kind : TokenKind) (o : BinaryOp) (b c : Bool) → operator kind ≡ Some o → (level o == l) ≡ b → groups_left o ≡ c
    → Leads (if b then (if c then shift (act.Line ∷ []) (operand o) else refuse) else pop (act.EndChain ∷ [])) (Means (x.Chained l)) kind
back_chain l kind o true true f h i = λ n after v ts m. (
  operand_of o n m.1 ∷ m.6.0,
  m.6.1,
  subst (λ l. IsOperands l (operand_of o n m.1 ∷ m.6.0) (at kind n ∷ ts) m.6.1) (eq_of (level o) l h) (next_operand f i m.3 (m.4 (level_bounds o).4) m.6.2),
  subst (λ os. after (part.Expr (e.Chain (expr (below v)) os) ∷ below (below v)) m.6.1) (append_assoc (operands v) (operand_of o n m.1 ∷ []) m.6.0) m.6.3,
)
back_chain l kind o true false f h i = tt
back_chain l kind o false c f h i = λ n after v ts m. ([], at kind n ∷ ts, no_operand, chained_end after v (at kind n ∷ ts) m)

back_chained : (l : ℕ) (kind : TokenKind) (o : Option BinaryOp) → operator kind ≡ o → Leads (at_chained l o) (Means (x.Chained l)) kind
back_chained l kind (Some o) h = back_chain l kind o (level o == l) (groups_left o) h refl refl
back_chained l kind None h = λ n after v ts m. ([], at kind n ∷ ts, no_operand, chained_end after v (at kind n ∷ ts) m)

-- ---- prefixes

back_call : (w_ : Place) (p : Phrase) (after : After) (v : Parts) (es : List Expr) (n : ℕ) (ts r : Lexemes) → IsArguments es n ts r
    → Means (x.Suffix w_ phrase.Call) after (add_suffix (suffix.Call es n) v) r → Means (x.Suffix w_ p) after v ts
back_call w_ p after v es n ts r i m = λ a xs u t0 ev d mark. m a (xs ++ suffix.Call es n ∷ []) u t0 (ap (add_suffix (suffix.Call es n)) ev) (snoc d (call i)) tt

assigned : {a : Stat} (after : After) (v u : Parts) (t0 r : Lexemes) → IsStat a t0 r → after (add_stat a u) r → States after t0 u
assigned {a = a} after v u t0 r d m = (a, r, d, m)

back_phrase : (w_ : Place) (p : Phrase) (kind : TokenKind) → is_suffix kind ≡ false → Leads (at_phrase w_ p kind) (Means (x.Suffix w_ p)) kind
back_phrase place.Expression p kind h = λ n after v ts m a xs u t0 ev d mark.
    (p, a, xs, at kind n ∷ ts, d, h, subst (λ (v : Parts). after (effect_of None act.EndSuffixes v) (at kind n ∷ ts)) ev m)
back_phrase place.Statement phrase.Call kind h = λ n after v ts m a xs u t0 ev d mark.
    (stat.Invoke (suffixed a xs), at kind n ∷ ts, call_stat d h, subst (λ (v : Parts). after (effects_of None (act.EndSuffixes ∷ act.Invoke ∷ []) v) (at kind n ∷ ts)) ev m)
back_phrase place.Statement phrase.Var (k.Sign sign.Comma) h = λ n after v ts m a xs u t0 ev d mark.
    let end : Parts → Target → Type 0 = λ v t. after (add_stat (stat.Assign (t ∷ m.0) m.1) (below (below v))) m.4 in
    (stat.Assign (mark.0 ∷ m.0) m.1, m.4, assign (next_target mark.1 m.5) m.6, subst (end (part.Suffixes xs ∷ part.Expr a ∷ u)) mark.2 (subst (λ (v : Parts). end v (target_of (expr (below v)) (suffixes v))) ev m.7))
back_phrase place.Statement phrase.Var (k.Sign sign.Assign) h = λ n after v ts m a xs u t0 ev d mark.
    let end : Parts → Target → Type 0 = λ v t. after (add_stat (stat.Assign (t ∷ []) (m.1 ∷ m.6.0)) (below (below v))) m.6.1 in (
      stat.Assign (mark.0 ∷ []) (m.1 ∷ m.6.0),
      m.6.1,
      assign (last_target mark.1) (joined (ended m.3 m.5) m.6.2),
      subst (end (part.Suffixes xs ∷ part.Expr a ∷ u)) mark.2 (subst (λ (v : Parts). end v (target_of (expr (below v)) (suffixes v))) ev m.6.3),
    )
back_phrase place.Target phrase.Var (k.Sign sign.Comma) h = λ n after v ts m a xs u t0 ev d mark.
    let end : Parts → Target → Type 0 = λ v t. after (add_stat (stat.Assign ((targets (below (below v)) ++ t ∷ []) ++ m.0) m.1) (below (below (below v)))) m.4 in (
      mark.0 ∷ m.0,
      m.1,
      m.2,
      m.3,
      m.4,
      next_target mark.1 m.5,
      m.6,
      subst (λ ts. after (add_stat (stat.Assign ts m.1) (below u)) m.4) (append_assoc (targets u) (mark.0 ∷ []) m.0)
          (subst (end (part.Suffixes xs ∷ part.Expr a ∷ u)) mark.2 (subst (λ (v : Parts). end v (target_of (expr (below v)) (suffixes v))) ev m.7)),
    )
back_phrase place.Target phrase.Var (k.Sign sign.Assign) h = λ n after v ts m a xs u t0 ev d mark.
    let end : Parts → Target → Type 0 = λ v t. after (add_stat (stat.Assign (targets (below (below v)) ++ t ∷ []) (m.1 ∷ m.6.0)) (below (below (below v)))) m.6.1 in (
      mark.0 ∷ [],
      m.1 ∷ m.6.0,
      n,
      ts,
      m.6.1,
      last_target mark.1,
      joined (ended m.3 m.5) m.6.2,
      subst (end (part.Suffixes xs ∷ part.Expr a ∷ u)) mark.2 (subst (λ (v : Parts). end v (target_of (expr (below v)) (suffixes v))) ev m.6.3),
    )
back_phrase _ _ _ h = tt

back_index : (w_ : Place) (p : Phrase) (after : After) (v : Parts) (b : Expr) (n : ℕ) (ts r : Lexemes) → IsIndex b n ts r
    → Means (x.Suffix w_ phrase.Var) after (add_suffix (suffix.Index b n) v) r → Means (x.Suffix w_ p) after v ts
back_index w_ p after v b n ts r i m = λ a xs u t0 ev d mark.
    m a (xs ++ suffix.Index b n ∷ []) u t0 (ap (add_suffix (suffix.Index b n)) ev) (snoc d (index i)) (target.Element (suffixed a xs) b n, element d i, element_target a b n xs)

back_suffix : (w_ : Place) (p : Phrase) (kind : TokenKind) → Leads (at_suffix w_ p kind) (Means (x.Suffix w_ p)) kind
back_suffix w_ p (k.Sign sign.Dot) = λ n after v ts m.
    back_index w_ p after v (e.Text m.0) n (at (k.Sign sign.Dot) n ∷ ts) m.2 (subst (λ ts. IsIndex (e.Text m.0) n (at (k.Sign sign.Dot) n ∷ ts) m.2) (sym m.3) dot) m.4
back_suffix w_ p (k.Sign sign.OpenBracket) = λ n after v ts m.
    back_index w_ p after v m.1 n (at (k.Sign sign.OpenBracket) n ∷ ts) m.6.1 (bracket (subst (λ r. Whole m.1 ts r) m.6.2 (ended m.3 m.5))) m.6.3
back_suffix w_ p (k.Sign sign.Colon) = λ n after v ts m a xs u t0 ev d mark.
    let i = subst (λ ts. IsSuffix phrase.Call (suffix.Method m.0 n m.3 m.4) (at (k.Sign sign.Colon) n ∷ ts) m.5) (sym m.6) (method m.7) in
    m.8 a (xs ++ suffix.Method m.0 n m.3 m.4 ∷ []) u t0 (ap (add_suffix (suffix.Method m.0 n m.3 m.4)) ev) (snoc d i) tt
back_suffix w_ p (k.Sign sign.OpenParen) = λ n after v ts m.
    let g = m [] (part.Line n ∷ v) refl in
    back_call w_ p after v g.0 n (at (k.Sign sign.OpenParen) n ∷ ts) g.1 (parens g.2) g.3
back_suffix w_ p (k.Sign sign.OpenBrace) = λ n after v ts m.
    let g = m [] (part.Line n ∷ v) refl in
    back_call w_ p after v (e.Table g.0 ∷ []) n (at (k.Sign sign.OpenBrace) n ∷ ts) g.1 (of_table g.2) g.3
back_suffix w_ p (k.Text t) = λ n after v ts m. back_call w_ p after v (e.Text t ∷ []) n (at (k.Text t) n ∷ ts) ts of_text m
back_suffix w_ p kind = back_phrase w_ p kind refl

-- ---- lists of expressions and fields

back_more_exprs : (kind : TokenKind) → Leads (at_more_exprs kind) (Means x.MoreExprs) kind
back_more_exprs (k.Sign sign.Comma) = λ n after v ts m. (
  m.1 ∷ m.6.0,
  m.6.1,
  comma (joined (ended m.3 m.5) m.6.2),
  subst (λ es. after (part.Exprs es ∷ below (below v)) m.6.1) (append_assoc (exprs (below v)) (expr v ∷ []) (m.1 ∷ m.6.0)) m.6.3,
)
back_more_exprs kind = λ n after v ts m. ([], at kind n ∷ ts, end_list refl, m)

back_more_arguments : (kind : TokenKind) → Leads (at_more_arguments kind) (Means x.MoreArguments) kind
back_more_arguments (k.Sign sign.Comma) = λ n after v ts m. (
  m.1 ∷ m.6.0,
  m.6.1,
  more_arguments (ended m.3 m.5) m.6.2,
  subst (λ es. after (part.Exprs es ∷ below (below v)) m.6.1) (append_assoc (exprs (below v)) (expr v ∷ []) (m.1 ∷ m.6.0)) m.6.3,
)
back_more_arguments (k.Sign sign.CloseParen) = λ n after v ts m. ([], ts, close, m)
back_more_arguments _ = tt

back_arguments : (kind : TokenKind) → Leads (at_arguments kind) (Means x.Arguments) kind
back_arguments (k.Sign sign.CloseParen) = λ n after v ts m xs u ev.
    ([], ts, empty, subst (λ es. after (part.Exprs es ∷ u) ts) (sym (append-nil xs)) (subst (λ v. after v ts) ev m))
back_arguments _ = tt

back_method_arguments : (kind : TokenKind) → Leads (at_method_arguments kind) (Means x.MethodArguments) kind
back_method_arguments (k.Sign sign.OpenParen) = λ n after v ts m.
    let g = m [] (part.Line n ∷ v) refl in
    (g.0, n, g.1, parens g.2, g.3)
back_method_arguments (k.Sign sign.OpenBrace) = λ n after v ts m.
    let g = m [] (part.Line n ∷ v) refl in
    (e.Table g.0 ∷ [], n, g.1, of_table g.2, g.3)
back_method_arguments (k.Text t) = λ n after v ts m. (e.Text t ∷ [], n, ts, of_text, m)
back_method_arguments _ = tt

back_dot : (kind : TokenKind) → Leads (at_name (act.AddDot ∷ []) [] kind) (Means x.DotName) kind
back_dot (k.Name t) = λ n after v ts m. (t, n, ts, refl, m)
back_dot _ = tt

back_method_name : (kind : TokenKind) → Leads (at_name (act.Name ∷ []) (x.MethodArguments ∷ []) kind) (Means x.MethodName) kind
back_method_name (k.Name t) = λ n after v ts m. (t, n, ts, m.0, m.1, m.2, refl, m.3, m.4)
back_method_name _ = tt

key_field : {l i n : ℕ} {a b : Expr} {ts r1 r2 r3 r4 : Lexemes} {j o : ℕ} → IsExpr l a ts r1 → Below 1 r1 → r1 ≡ at (k.Sign sign.CloseBracket) j ∷ r2 → r2 ≡ at (k.Sign sign.Assign) o ∷ r3 → IsExpr i b r3 r4 → Below 1 r4
    → IsField (field.Key a b) (at (k.Sign sign.OpenBracket) n ∷ ts) r4
key_field {a = a} {ts = ts} {j = j} d h e f g i = key (subst (λ (r : Lexemes). Whole a ts (at (k.Sign sign.CloseBracket) j ∷ r)) f (subst (λ r. Whole a ts r) e (ended d h))) (ended g i)

no_fields : (after : After) (v : Parts) (ts : Lexemes) (xs : List Field) (u : Parts) → v ≡ part.Fields xs ∷ u → after v ts → after (part.Fields (xs ++ []) ∷ u) ts
no_fields after v ts xs u ev m = subst (λ fs. after (part.Fields fs ∷ u) ts) (sym (append-nil xs)) (subst (λ v. after v ts) ev m)

-- a field that was added, and those after it
added : (after : After) (v : Parts) (ts : Lexemes) (xs : List Field) (u : Parts) (f : Field) → v ≡ part.Fields xs ∷ u → Means x.MoreFields after (part.Fields (fields v ++ f ∷ []) ∷ below v) ts
    → (fs : List Field) × (r : Lexemes) × IsMoreFields fs ts r × after (part.Fields (xs ++ f ∷ fs) ∷ u) r
added after v ts xs u f ev m =
    let g = m (fields v ++ f ∷ []) (below v) refl in
    let end : Parts → Type 0 = λ v. after (part.Fields (fields v ++ f ∷ g.0) ∷ below v) g.1 in
    (g.0, g.1, g.2, subst end ev (subst (λ fs. after (part.Fields fs ∷ below v) g.1) (append_assoc (fields v) (f ∷ []) g.0) g.3))

back_fields : (kind : TokenKind) → Leads (at_fields kind) (Means x.Fields) kind
back_fields (k.Sign sign.CloseBrace) = λ n after v ts m xs u ev. ([], ts, no_field, no_fields after v ts xs u ev m)
back_fields (k.Name t) = λ n after v ts m xs u ev.
    let g = m t xs u n (ap {A = Parts} {B = Parts} (λ v. part.Name t ∷ v) ev) in
    (g.0 ∷ g.1, g.3, fielded g.4 g.5, g.6)
back_fields (k.Sign sign.OpenBracket) = λ n after v ts m xs u ev.
    let g = m.6.3.3 in
    let f = field.Key m.1 g.1 in
    let h = added after v g.2 xs u f ev g.6 in
    (f ∷ h.0, h.1, fielded (key_field m.3 m.5 m.6.2 m.6.3.2 g.3 g.5) h.2, h.3)
back_fields _ = tt

back_more_fields : (kind : TokenKind) → Leads (at_more_fields kind) (Means x.MoreFields) kind
back_more_fields (k.Sign sign.Comma) = λ n after v ts m xs u ev.
    let g = m xs u ev in
    (g.0, g.1, separator refl g.2, g.3)
back_more_fields (k.Sign sign.Semicolon) = λ n after v ts m xs u ev.
    let g = m xs u ev in
    (g.0, g.1, separator refl g.2, g.3)
back_more_fields (k.Sign sign.CloseBrace) = λ n after v ts m xs u ev. ([], ts, close_fields, no_fields after v ts xs u ev m)
back_more_fields _ = tt

back_name_field : (kind : TokenKind) → Leads (at_name_field kind) (Means x.NameField) kind
back_name_field (k.Sign sign.Assign) = λ n after v ts m y xs u i ev.
    let f : Parts → Field = λ v. field.Key (e.Text (name_at v)) m.1 in
    let g = m.6 (fields (below v) ++ f v ∷ []) (below (below v)) refl in
    let end : Parts → Type 0 = λ v. after (part.Fields (fields (below v) ++ f v ∷ g.0) ∷ below (below v)) g.1 in (
      field.Key (e.Text y) m.1,
      g.0,
      m.2,
      g.1,
      named (ended m.3 m.5),
      g.2,
      subst end ev (subst (λ fs. after (part.Fields fs ∷ below (below v)) g.1) (append_assoc (fields (below v)) (f v ∷ []) g.0) g.3),
    )
back_name_field _ = tt

-- ---- one token

back_close_index : (kind : TokenKind) → Leads (at_close_index kind) (Means x.CloseIndex) kind
back_close_index (k.Sign sign.CloseBracket) = λ n after v ts m. (n, ts, refl, m)
back_close_index _ = tt

back_close_paren : (kind : TokenKind) → Leads (at_close_paren kind) (Means x.CloseParen) kind
back_close_paren (k.Sign sign.CloseParen) = λ n after v ts m. (n, ts, refl, m)
back_close_paren _ = tt

back_close_key : (kind : TokenKind) → Leads (at_close_key kind) (Means x.CloseKey) kind
back_close_key (k.Sign sign.CloseBracket) = λ n after v ts m. (n, ts, refl, m)
back_close_key _ = tt

back_assign : (kind : TokenKind) → Leads (at_assign kind) (Means x.Assign) kind
back_assign (k.Sign sign.Assign) = λ n after v ts m. (n, ts, refl, m)
back_assign _ = tt

back_comma : (kind : TokenKind) → Leads (at_comma kind) (Means x.Comma) kind
back_comma (k.Sign sign.Comma) = λ n after v ts m. (n, ts, refl, m)
back_comma _ = tt

back_until : (kind : TokenKind) → Leads (at_until kind) (Means x.Until) kind
back_until (k.Word word.Until) = λ n after v ts m. (n, ts, refl, m)
back_until _ = tt

back_end : (kind : TokenKind) → Leads (at_end kind) (Means x.End) kind
back_end (k.Word word.End) = λ n after v ts m. (n, ts, refl, m)
back_end _ = tt

-- ---- statements

-- a statement, and the block after it
stated : (after : After) (v : Parts) (t0 : Lexemes) → States (Statements after) t0 v → Statements after v t0
stated after v t0 g = (
  g.0 ∷ g.3.0,
  g.3.1,
  g.3.2,
  statement g.2 g.3.3,
  subst (λ ss. after (part.Block (block_of ss g.3.1) ∷ below v) g.3.2) (append_assoc (stats v) (g.0 ∷ []) g.3.0) g.3.4,
)

back_block : (c : Scope) (kind : TokenKind) → Leads (at_block c kind) (Means (x.Block c)) kind
back_block c (k.Sign sign.Semicolon) = λ n after v ts m. (m.0, m.1, m.2, semicolon m.3, m.4)
back_block c (k.Name t) = λ n after v ts m. stated after v (at (k.Name t) n ∷ ts) (m (e.Name t) [] v (at (k.Name t) n ∷ ts) refl (prefixed name no_suffix) (name_marks t n ts))
back_block c (k.Sign sign.OpenParen) = λ n after v ts m.
    stated after v (at (k.Sign sign.OpenParen) n ∷ ts) (m.6.3 (e.Paren m.1) [] v (at (k.Sign sign.OpenParen) n ∷ ts) refl (enclosed_ended m.3 m.5 m.6.2) tt)
back_block c (k.Word word.Break) = λ n after v ts m. stated after v (at (k.Word word.Break) n ∷ ts) (stat.Break, ts, break, m)
back_block c (k.Word word.Do) = λ n after v ts m. stated after v (at (k.Word word.Do) n ∷ ts) (stat.Do (block_of m.0 m.1), m.4.1, do_stat (do_end (block_ended m.3 m.4.2)), m.4.3)
back_block c (k.Word word.While) = λ n after v ts m. stated after v (at (k.Word word.While) n ∷ ts) (stat.While m.1 m.6.0, m.6.1, while (ended m.3 m.5) m.6.2, m.6.3)
back_block c (k.Word word.Repeat) = λ n after v ts m.
    let b = block_of m.0 m.1 in
    let g = m.4.3 in
    stated after v (at (k.Word word.Repeat) n ∷ ts) (stat.Repeat b g.1, g.2, repeat (subst (λ r. IsBlock b ts r) m.4.2 (block m.3)) (ended g.3 g.5), g.6)
back_block c (k.Word word.If) = λ n after v ts m.
    let g = m.6.6 in
    let h = branch (subst (λ r. Whole m.1 ts r) m.6.4 (ended m.3 m.5)) m.6.5 in
    stated after v (at (k.Word word.If) n ∷ ts) (stat.If (branch_of m.1 m.6.2 ∷ g.0) g.1, g.2, if_stat h g.3, g.4)
back_block c (k.Word word.For) = λ n after v ts m. stated after v (at (k.Word word.For) n ∷ ts) m
back_block c (k.Word word.Function) = λ n after v ts m. stated after v (at (k.Word word.Function) n ∷ ts) (stat.Assign (m.0 ∷ []) (e.Function m.1 ∷ []), m.2, named_function m.3, m.4)
back_block c (k.Word word.Local) = λ n after v ts m. m n
back_block c (k.Word word.Return) = λ n after v ts m.
    let g = m [] v refl in (
      [],
      Some g.0,
      g.3.0,
      return g.2 g.3.1,
      subst (λ ss. after (part.Block (block_of ss (Some g.0)) ∷ below v) g.3.0) (sym (append-nil (stats v))) g.3.2,
    )
back_block c kind = λ n after v ts m. (
  [],
  None,
  at kind n ∷ ts,
  end_block refl,
  subst (λ ss. after (part.Block (block_of ss None) ∷ below v) (at kind n ∷ ts)) (sym (append-nil (stats v))) m,
)

back_semicolon : (c : Scope) (kind : TokenKind) → Leads (at_semicolon kind) (Means (x.OptionalSemicolon c)) kind
back_semicolon c (k.Sign sign.Semicolon) = λ n after v ts m. (ts, semicolon_end, m)
back_semicolon c kind = λ n after v ts m. (at kind n ∷ ts, plain_end refl, m)

back_target : (kind : TokenKind) → Leads (at_target kind) (Means x.Target) kind
back_target (k.Name t) = λ n after v ts m. m (e.Name t) [] v (at (k.Name t) n ∷ ts) refl (prefixed name no_suffix) (name_marks t n ts)
back_target (k.Sign sign.OpenParen) = λ n after v ts m. m.6.3 (e.Paren m.1) [] v (at (k.Sign sign.OpenParen) n ∷ ts) refl (enclosed_ended m.3 m.5 m.6.2) tt
back_target _ = tt

back_then : (c : Scope) (kind : TokenKind) → Leads (at_then c kind) (Means (x.Then c)) kind
back_then c (k.Word word.Then) = λ n after v ts m. (n, ts, block_of m.0 m.1, m.2, refl, block m.3, m.4)
back_then c _ = tt

back_else : (c : Scope) (kind : TokenKind) → Leads (at_else c kind) (Means (x.Else c)) kind
back_else c (k.Word word.Elseif) = λ n after v ts m.
    let g = m.6.6 in
    let h = branch (subst (λ r. Whole m.1 ts r) m.6.4 (ended m.3 m.5)) m.6.5 in
    let first = branch_of (expr (below v)) (block_at v) in (
      branch_of m.1 m.6.2 ∷ g.0,
      g.1,
      g.2,
      elseif h g.3,
      subst (λ bs. after (add_stat (stat.If bs g.1) (below (below (below v)))) g.2) (append_assoc (branches (below (below v))) (first ∷ []) (branch_of m.1 m.6.2 ∷ g.0)) g.4,
    )
back_else c (k.Word word.Else) = λ n after v ts m. ([], Some (block_of m.0 m.1), m.4.1, else_block (block_ended m.3 m.4.2), m.4.3)
back_else c (k.Word word.End) = λ n after v ts m. ([], None, ts, end_if, m)
back_else c _ = tt

back_do : (c : Scope) (kind : TokenKind) → Leads (at_do [] c kind) (Means (x.Do c)) kind
back_do c (k.Word word.Do) = λ n after v ts m. (block_of m.0 m.1, m.4.1, do_end (block_ended m.3 m.4.2), m.4.3)
back_do c _ = tt

back_for : (c : Scope) (kind : TokenKind) → Leads (at_name (act.FirstName ∷ []) (x.ForFirst (with_one c) ∷ []) kind) (Means (x.For c)) kind
back_for c (k.Name t) = λ n after v ts m. m t v n refl
back_for c _ = tt

looped : (after : After) (v : Parts) (t : Text) (n : ℕ) (ts : Lexemes)
    → Loops after (part.Names (names v ++ t ∷ []) ∷ below v) (λ xs r. IsMoreNames xs ts r) → Loops after v (λ xs r. IsNames xs (at (k.Name t) n ∷ ts) r)
looped after v t n ts m = (
  t ∷ m.0,
  m.1,
  m.2,
  m.3,
  m.4,
  m.5,
  m.6,
  named_list m.7,
  m.8,
  m.9,
  subst (λ xs. after (add_stat (stat.Generic (generic_of xs m.1 m.2 (line (below v)))) (below (below v))) m.6) (append_assoc (names v) (t ∷ []) m.0) m.10,
)

back_for_name : (c : Scope) (kind : TokenKind) → Leads (at_name (act.NextName ∷ []) (x.ForMore (with_one c) ∷ []) kind) (Means (x.ForName c)) kind
back_for_name c (k.Name t) = λ n after v ts m. looped after v t n ts m
back_for_name c _ = tt

in_loops : (after : After) (v : Parts) (c : Scope) (n : ℕ) (ts : Lexemes) → MeanAll (x.Expr 1 ∷ x.MoreExprs ∷ x.Do c ∷ x.Make act.Generic ∷ []) after (part.Exprs [] ∷ v) ts
    → Loops after v (λ xs r. IsMoreNames xs (at (k.Word word.In) n ∷ ts) r)
in_loops after v c n ts m =
    let g = m.6.3 in (
      [],
      m.1 ∷ m.6.0,
      g.0,
      n,
      ts,
      m.6.1,
      g.1,
      no_more,
      joined (ended m.3 m.5) m.6.2,
      g.2,
      subst (λ xs. after (add_stat (stat.Generic (generic_of xs (m.1 ∷ m.6.0) g.0 (line (below v)))) (below (below v))) g.1) (sym (append-nil (names v))) g.3,
    )

back_for_names : (c : Scope) (kind : TokenKind) → Leads (at_for_names c kind) (Means (x.ForMore c)) kind
back_for_names c (k.Sign sign.Comma) = λ n after v ts m. (m.0, m.1, m.2, m.3, m.4, m.5, m.6, comma_names m.7, m.8, m.9, m.10)
back_for_names c (k.Word word.In) = λ n after v ts m. in_loops after v c n ts m
back_for_names c _ = tt

first_looped : (after : After) (v : Parts) (ts : Lexemes) → Loops after v (λ xs r. IsMoreNames xs ts r) → (y : Text) (u : Parts) (m : ℕ) → v ≡ part.Names (y ∷ []) ∷ u
    → (a : Stat) × (r : Lexemes) × IsStat a (at (k.Word word.For) (line u) ∷ at (k.Name y) m ∷ ts) r × after (add_stat a (below u)) r
first_looped after v ts m y u i ev = (
  stat.Generic (generic_of (y ∷ m.0) m.1 m.2 (line u)),
  m.6,
  generic (named_list m.7) m.8 m.9,
  subst (λ (v : Parts). after (add_stat (stat.Generic (generic_of (names v ++ m.0) m.1 m.2 (line (below v)))) (below (below v))) m.6) ev m.10,
)

back_for_first : (c : Scope) (kind : TokenKind) → Leads (at_for_first c kind) (Means (x.ForFirst c)) kind
back_for_first c (k.Sign sign.Assign) = λ n after v ts m y u i ev.
    let g = m.6.3 in
    let h = g.6 in (
      stat.Numeric (numeric_of y m.1 g.1 h.0 h.1 (line u)),
      h.2,
      stepped (subst (λ r. Whole m.1 ts r) m.6.2 (ended m.3 m.5)) (ended g.3 g.5) h.3,
      subst (λ (v : Parts). after (add_stat (stat.Numeric (numeric_of (first (names v)) m.1 g.1 h.0 h.1 (line (below v)))) (below (below v))) h.2) ev h.4,
    )
back_for_first c (k.Sign sign.Comma) = λ n after v ts m. first_looped after v (at (k.Sign sign.Comma) n ∷ ts) (back_for_names c (k.Sign sign.Comma) n after v ts m)
back_for_first c (k.Word word.In) = λ n after v ts m. first_looped after v (at (k.Word word.In) n ∷ ts) (back_for_names c (k.Word word.In) n after v ts m)
back_for_first c _ = tt

back_for_step : (c : Scope) (kind : TokenKind) → Leads (at_for_step c kind) (Means (x.ForStep c)) kind
back_for_step c (k.Sign sign.Comma) = λ n after v ts m. (Some m.1, m.6.0, m.6.1, by_step (ended m.3 m.5) m.6.2, m.6.3)
back_for_step c (k.Word word.Do) = λ n after v ts m. (None, block_of m.0 m.1, m.4.1, no_step (do_end (block_ended m.3 m.4.2)), m.4.3)
back_for_step c _ = tt

-- ---- locals

localed : (after : After) (v : Parts) (t : Text) (n : ℕ) (ts : Lexemes)
    → Locals after (part.Names (names v ++ t ∷ []) ∷ below v) (λ xs r. IsMoreNames xs ts r) → Locals after v (λ xs r. IsNames xs (at (k.Name t) n ∷ ts) r)
localed after v t n ts m = (
  t ∷ m.0,
  m.1,
  m.2,
  m.3,
  m.4,
  m.5,
  m.6,
  named_list m.7,
  m.8,
  m.9,
  subst (λ xs. after (part.Block (block_of (stats (below v) ++ stat.Local xs m.1 ∷ m.4) m.5) ∷ below (below v)) m.6) (append_assoc (names v) (t ∷ []) m.0) m.10,
)

back_local : (c : Scope) (kind : TokenKind) → Leads (at_local c kind) (Means (x.Local c)) kind
back_local c (k.Word word.Function) = λ n after v ts m l. m l n
back_local c (k.Name t) = λ n after v ts m l. (stat.Local (t ∷ m.0) m.1 ∷ m.4, m.5, m.6, statement (localised (named_list m.7) m.8) m.9, m.10)
back_local c _ = tt

back_local_name : (c : Scope) (kind : TokenKind) → Leads (at_name (act.NextName ∷ []) (x.LocalMore (with_one c) ∷ []) kind) (Means (x.LocalName c)) kind
back_local_name c (k.Name t) = λ n after v ts m. localed after v t n ts m
back_local_name c _ = tt

back_local_more : (c : Scope) (kind : TokenKind) → Leads (at_local_more c kind) (Means (x.LocalMore c)) kind
back_local_more c (k.Sign sign.Comma) = λ n after v ts m. (m.0, m.1, m.2, m.3, m.4, m.5, m.6, comma_names m.7, m.8, m.9, m.10)
back_local_more c (k.Sign sign.Assign) = λ n after v ts m.
    let g = m.6.3 in
    let es = m.1 ∷ m.6.0 in (
      [],
      es,
      at (k.Sign sign.Assign) n ∷ ts,
      m.6.1,
      g.0,
      g.1,
      g.2,
      no_more,
      local_values (joined (ended m.3 m.5) m.6.2),
      g.3,
      subst (λ xs. after (part.Block (block_of (stats (below v) ++ stat.Local xs es ∷ g.0) g.1) ∷ below (below v)) g.2) (sym (append-nil (names v)))
          (subst (λ ss. after (part.Block (block_of ss g.1) ∷ below (below v)) g.2) (append_assoc (stats (below v)) (stat.Local (names v) es ∷ []) g.0) g.4),
    )
back_local_more c _ = tt

back_local_function : (c : Scope) (kind : TokenKind) → Leads (at_name (act.Name ∷ []) (x.Parameters ∷ x.Make act.LocalFunction ∷ x.Block (with_one c) ∷ []) kind) (Means (x.LocalFunction c)) kind
back_local_function c (k.Name t) = λ n after v ts m i j.
    stated after v (at (k.Word word.Local) i ∷ at (k.Word word.Function) j ∷ at (k.Name t) n ∷ ts) (stat.LocalFunction t m.0, m.1, local_function m.2, m.3)
back_local_function c _ = tt

-- ---- functions

back_function_name : (kind : TokenKind) → Leads (at_name (act.Variable ∷ []) (x.FunctionPath ∷ []) kind) (Means x.FunctionName) kind
back_function_name (k.Name t) = λ n after v ts m. m t [] v ts n refl no_dot (target.Variable t, alone, variable_target t)
back_function_name _ = tt

back_function_path : (kind : TokenKind) → Leads (at_function_path kind) (Means x.FunctionPath) kind
back_function_path (k.Sign sign.Dot) = λ n after v ts m y xs u t0 i ev d mark.
    let d' = subst (λ ts. IsDots xs t0 (at (k.Sign sign.Dot) n ∷ ts)) m.3 d in
    m.4 y (xs ++ suffix.Index (e.Text m.0) n ∷ []) u t0 i (ap (add_suffix (suffix.Index (e.Text m.0) n)) ev) (dots_snoc d')
    (target.Element (suffixed (e.Name y) xs) (e.Text m.0) n, path d', element_target (e.Name y) (e.Text m.0) n xs)
back_function_path (k.Sign sign.Colon) = λ n after v ts m y xs u t0 i ev d mark.
    let d' = subst (λ ts. IsDots xs t0 (at (k.Sign sign.Colon) n ∷ ts)) m.3 d in
    let t = target.Element (suffixed (e.Name y) xs) (e.Text m.0) n in
    let end : Parts → Type 0 = λ v. after (part.Body m.4.0 ∷ part.Targets (target_of (expr (below v)) (suffixes v) ∷ []) ∷ below (below v)) m.4.1 in (
      t,
      m.4.0,
      m.4.1,
      method_name d' m.4.2,
      subst (λ t. after (part.Body m.4.0 ∷ part.Targets (t ∷ []) ∷ u) m.4.1) (element_target (e.Name y) (e.Text m.0) n xs)
          (subst end (ap (add_suffix (suffix.Index (e.Text m.0) n)) ev) m.4.3),
    )
back_function_path (k.Sign sign.OpenParen) = λ n after v ts m y xs u t0 i ev d mark.
    let b = body_of m.0 m.1 m.3 in
    let end : Parts → Type 0 = λ v. after (part.Body b ∷ part.Targets (target_of (expr (below v)) (suffixes v) ∷ []) ∷ below (below v)) m.5 in (
      mark.0,
      b,
      m.5,
      plain_name mark.1 (body (opened m.6) m.7),
      subst (λ t. after (part.Body b ∷ part.Targets (t ∷ []) ∷ u) m.5) mark.2 (subst end ev m.8),
    )
back_function_path _ = tt

back_parameters : (kind : TokenKind) → Leads (at_parameters kind) (Means x.Parameters) kind
back_parameters (k.Sign sign.OpenParen) = λ n after v ts m. (body_of m.0 m.1 m.3, m.5, body (opened m.6) m.7, m.8)
back_parameters _ = tt

back_method_parameters : (kind : TokenKind) → Leads (at_method_parameters kind) (Means x.MethodParameters) kind
back_method_parameters (k.Sign sign.OpenParen) = λ n after v ts m. (body_of (self ∷ m.0) m.1 m.3, m.5, body (opened m.6) m.7, m.8)
back_method_parameters _ = tt

-- the block of a function, after its parameters
bodied : (n : ℕ) (d : Bool) (after : After) (v : Parts) (ts : Lexemes) → MeanAll (function_block n d) after (part.Stats [] ∷ v) ts
    → (b : Block) × (m : ℕ) × (r : Lexemes) × IsBlock b ts (at (k.Word word.End) m ∷ r) × after (part.Body (body_of (names v ++ []) d b) ∷ below v) r
bodied n d after v ts m =
    (block_of m.0 m.1, m.4.0, m.4.1, block_ended m.3 m.4.2, subst (λ xs. after (part.Body (body_of xs d (block_of m.0 m.1)) ∷ below v) m.4.1) (sym (append-nil (names v))) m.4.3)

parametered : (after : After) (v : Parts) (t : Text) (n : ℕ) (ts : Lexemes)
    → Bodies after (part.Names (names v ++ t ∷ []) ∷ below v) (λ xs d r. IsMoreParameters xs d ts r) → Bodies after v (λ xs d r. IsNext xs d (at (k.Name t) n ∷ ts) r)
parametered after v t n ts m = (
  t ∷ m.0,
  m.1,
  m.2,
  m.3,
  m.4,
  m.5,
  one_parameter m.6,
  m.7,
  subst (λ xs. after (part.Body (body_of xs m.1 m.3) ∷ below v) m.5) (append_assoc (names v) (t ∷ []) m.0) m.8,
)

close_dots : {xs : List Text} {d : Bool} {m n : ℕ} {ts r : Lexemes} → xs ≡ [] → d ≡ true → ts ≡ at (k.Sign sign.CloseParen) m ∷ r → IsNext xs d (at (k.Sign sign.Dots) n ∷ ts) r
close_dots {xs = xs} {d = d} {m = m} {n = n} {ts = ts} {r = r} e f g =
    subst (λ ts. IsNext xs d (at (k.Sign sign.Dots) n ∷ ts) r) (sym g) (subst (λ d. IsNext xs d (at (k.Sign sign.Dots) n ∷ at (k.Sign sign.CloseParen) m ∷ r) r) (sym f)
    (subst (λ xs. IsNext xs true (at (k.Sign sign.Dots) n ∷ at (k.Sign sign.CloseParen) m ∷ r) r) (sym e) dots_end))

back_next_parameter : (n : ℕ) (kind : TokenKind) → Leads (at_next_parameter n kind) (Means (x.NextParameter n)) kind
back_next_parameter n (k.Sign sign.Dots) = λ i after v ts m. (m.0, m.1, m.2, m.3, m.4, m.5, close_dots m.6.1 m.6.2 m.6.3, m.7, m.8)
back_next_parameter n (k.Name t) = λ i after v ts m. parametered after v t i ts m
back_next_parameter n _ = tt

back_first_parameter : (n : ℕ) (kind : TokenKind) → Leads (at_first_parameter n kind) (Means (x.FirstParameter n)) kind
back_first_parameter n (k.Sign sign.CloseParen) = λ i after v ts m.
    let g = bodied n false after v ts m in
    ([], false, ts, g.0, g.1, g.2, none_opened, g.3, g.4)
back_first_parameter n (k.Sign sign.Dots) = λ i after v ts m. (m.0, m.1, m.2, m.3, m.4, m.5, some_opened (close_dots m.6.1 m.6.2 m.6.3), m.7, m.8)
back_first_parameter n (k.Name t) = λ i after v ts m.
    let g = parametered after v t i ts m in
    (g.0, g.1, g.2, g.3, g.4, g.5, some_opened g.6, g.7, g.8)
back_first_parameter n _ = tt

back_more_parameters : (n : ℕ) (kind : TokenKind) → Leads (at_more_parameters n kind) (Means (x.MoreParameters n)) kind
back_more_parameters n (k.Sign sign.Comma) = λ i after v ts m. (m.0, m.1, m.2, m.3, m.4, m.5, comma_parameters m.6, m.7, m.8)
back_more_parameters n (k.Sign sign.CloseParen) = λ i after v ts m.
    let g = bodied n false after v ts m in
    ([], false, ts, g.0, g.1, g.2, close_parameters, g.3, g.4)
back_more_parameters n _ = tt

back_close_dots : (n : ℕ) (kind : TokenKind) → Leads (at_close_dots n kind) (Means (x.CloseDots n)) kind
back_close_dots n (k.Sign sign.CloseParen) = λ i after v ts m.
    let g = bodied n true after v ts m in
    ([], true, ts, g.0, g.1, g.2, (i, refl, refl, refl), g.3, g.4)
back_close_dots n _ = tt

-- ---- a symbol

pub none_some : {A : Type 0} {a : A} → None ≡ Some a → ⊥
none_some h = cc

not_false : (b : Bool) → (es : List Effect) (new : List Symbol) → becomes_unless (not b) es new ≡ None → b ≡ false
not_false true es new h = cc
not_false false es new h = refl

back_result : (kind : TokenKind) → begins_expr kind ≡ false → Leads (pop []) (Means x.ReturnExprs) kind
back_result kind h = λ n after v ts m xs u ev.
    ([], at kind n ∷ ts, no_value h, subst (λ es. after (part.Exprs es ∷ u) (at kind n ∷ ts)) (sym (append-nil xs)) (subst (λ v. after v (at kind n ∷ ts)) ev m))

back : (y : Symbol) (kind : TokenKind) → others y kind ≡ None → Leads (act_of y kind) (Means y) kind
back (x.Make effect) kind h = λ n after v ts m. m
back (x.Expr p) kind h = back_expr p kind
back (x.Tail p q) kind h = back_tail p q kind (operator kind) refl
back (x.Chained l) kind h = back_chained l kind (operator kind) refl
back x.MoreExprs kind h = back_more_exprs kind
back (x.Suffix w_ p) kind h = back_suffix w_ p kind
back x.DotName kind h = back_dot kind
back x.MethodName kind h = back_method_name kind
back x.MethodArguments kind h = back_method_arguments kind
back x.Arguments kind h = back_arguments kind
back x.MoreArguments kind h = back_more_arguments kind
back x.CloseIndex kind h = back_close_index kind
back x.CloseParen kind h = back_close_paren kind
back x.Fields kind h = back_fields kind
back x.MoreFields kind h = back_more_fields kind
back x.NameField kind h = back_name_field kind
back x.CloseKey kind h = back_close_key kind
back x.Assign kind h = back_assign kind
back (x.Block c) kind h = back_block c kind
back x.ReturnExprs kind h = back_result kind (not_false (begins_expr kind) [] (x.Expr 1 ∷ x.MoreExprs ∷ []) h)
back (x.OptionalSemicolon c) kind h = back_semicolon c kind
back x.Target kind h = back_target kind
back x.Comma kind h = back_comma kind
back (x.Then c) kind h = back_then c kind
back (x.Else c) kind h = back_else c kind
back (x.Do c) kind h = back_do c kind
back x.Until kind h = back_until kind
back x.End kind h = back_end kind
back (x.For c) kind h = back_for c kind
back (x.ForName c) kind h = back_for_name c kind
back (x.ForFirst c) kind h = back_for_first c kind
back (x.ForMore c) kind h = back_for_names c kind
back (x.ForStep c) kind h = back_for_step c kind
back (x.Local c) kind h = back_local c kind
back (x.LocalName c) kind h = back_local_name c kind
back (x.LocalMore c) kind h = back_local_more c kind
back (x.LocalFunction c) kind h = back_local_function c kind
back x.FunctionName kind h = back_function_name kind
back x.FunctionPath kind h = back_function_path kind
back x.MethodParameters kind h = back_method_parameters kind
back x.Parameters kind h = back_parameters kind
back (x.FirstParameter n) kind h = back_first_parameter n kind
back (x.NextParameter n) kind h = back_next_parameter n kind
back (x.MoreParameters n) kind h = back_more_parameters n kind
back (x.CloseDots n) kind h = back_close_dots n kind

local_end : (after : After) (v : Parts) (ss : List Stat) (result : Option (List Expr)) (r : Lexemes)
    → after (part.Block (block_of ((stats (below v) ++ stat.Local (names v) [] ∷ []) ++ ss) result) ∷ below (below v)) r
    → after (part.Block (block_of (stats (below v) ++ stat.Local (names v ++ []) [] ∷ ss) result) ∷ below (below v)) r
local_end after v ss result r m =
    subst (λ xs. after (part.Block (block_of (stats (below v) ++ stat.Local xs [] ∷ ss) result) ∷ below (below v)) r) (sym (append-nil (names v)))
    (subst (λ all. after (part.Block (block_of all result) ∷ below (below v)) r) (append_assoc (stats (below v)) (stat.Local (names v) [] ∷ []) ss) m)

-- ---- a symbol that becomes others

pub others_are : (b : Bool) (es : List Effect) (new : List Symbol) (o : Others) → becomes_unless b es new ≡ Some o → (b ≡ false) × (record { effects = es; symbols = new } ≡ o)
others_are true es new o h = absurd (none_some h)
others_are false es new o h = (refl, cc)

separator_ends : (kind : TokenKind) → is_separator kind ≡ true → is_assign kind ≡ false
separator_ends (k.Sign sign.Assign) h = cc
separator_ends _ h = refl

fields_end : {fs : List Field} {ts r : Lexemes} → IsMoreFields fs ts r → Not is_assign ts
fields_end close_fields = refl
fields_end (separator {kind = kind} h d) = separator_ends kind h

list_ends : (kind : TokenKind) → goes_on_with_names kind ≡ false → (is_comma kind ≡ false) × (is_assign kind ≡ false)
list_ends (k.Sign sign.Comma) h = cc
list_ends (k.Sign sign.Assign) h = cc
list_ends _ h = (refl, refl)

abbrev Stand : Symbol → List Effect → List Symbol → TokenKind → Type 1
Stand y es new kind = (n : ℕ) (after : After) (v : Parts) (ts : Lexemes) → MeanAll new after (effects_of None es v) (at kind n ∷ ts) → Means y after v (at kind n ∷ ts)

stand : (y : Symbol) (kind : TokenKind) (es : List Effect) (new : List Symbol) (o : Others) → record { effects = es; symbols = new } ≡ o → Stand y es new kind → Stand y o.effects o.symbols kind
stand y kind es new o e h = subst (λ (o : Others). Stand y o.effects o.symbols kind) e h

back_others : (y : Symbol) (kind : TokenKind) (o : Others) → others y kind ≡ Some o → Stand y o.effects o.symbols kind
back_others x.Arguments kind o h =
    stand x.Arguments kind _ _ o (others_are (is_close kind) _ _ o h).1
    (λ n after v ts m xs u ev.
    (m.1 ∷ m.6.0, m.6.1, in_parens (ended m.3 m.5) m.6.2, subst (λ (v : Parts). after (part.Exprs (exprs v ++ m.1 ∷ m.6.0) ∷ below v) m.6.1) ev m.6.3))
back_others x.Fields kind o h =
    stand x.Fields kind _ _ o (others_are (begins_field kind) _ _ o h).1
    (λ n after v ts m xs u ev.
    let f = field.Item m.1 in
    let g = added after v m.2 xs u f ev m.6 in
    (f ∷ g.0, g.1, fielded (item (ended m.3 m.5) (fields_end g.2)) g.2, g.3))
back_others x.NameField kind o h =
    stand x.NameField kind _ _ o (others_are (is_assign_sign kind) _ _ o h).1
    (λ n after v ts m y xs u i ev.
    let t0 = at (k.Name y) i ∷ at kind n ∷ ts in
    let g = m (e.Name y) [] (part.Fields xs ∷ u) t0 (ap (λ (v : Parts). part.Suffixes [] ∷ part.Expr (e.Name (name_at v)) ∷ below v) ev) (prefixed name no_suffix) (name_marks y i (at kind n ∷ ts)) in
    let a = g.6 (suffixed g.1 g.2) (part.Fields xs ∷ u) t0 refl (prefix g.4 g.5) (λ h. omega arith) in
    let f = field.Item a.1 in
    let fs = a.6 (xs ++ f ∷ []) u refl in (
      f,
      fs.0,
      a.2,
      fs.1,
      item (ended a.3 a.5) (fields_end fs.2),
      fs.2,
      subst (λ all. after (part.Fields all ∷ u) fs.1) (append_assoc xs (f ∷ []) fs.0) fs.3,
    ))
back_others x.ReturnExprs kind o h =
    stand x.ReturnExprs kind _ _ o (others_are (not (begins_expr kind)) _ _ o h).1
    (λ n after v ts m xs u ev.
    (m.1 ∷ m.6.0, m.6.1, values (joined (ended m.3 m.5) m.6.2), subst (λ (v : Parts). after (part.Exprs (exprs v ++ m.1 ∷ m.6.0) ∷ below v) m.6.1) ev m.6.3))
back_others (x.LocalMore c) kind o h =
    let b = others_are (goes_on_with_names kind) _ _ o h in
    let ends = list_ends kind b.0 in
    stand (x.LocalMore c) kind _ _ o b.1
    (λ n after v ts m. (
      [],
      [],
      at kind n ∷ ts,
      at kind n ∷ ts,
      m.0,
      m.1,
      m.2,
      no_more,
      no_values ends.0 ends.1,
      m.3,
      local_end after v m.0 m.1 m.2 m.4,
    ))
back_others y kind o h = absurd (none_some h)

-- ---- the end of the text

abbrev Closes : Act → (After → After) → Type 1
Closes (shift effects new) m = Unit {1}
Closes (pop effects) m = (after : After) (v : Parts) → after (effects_of None effects v) [] → m after v []
Closes refuse m = Unit {1}

back_last_suffix : (w_ : Place) (p : Phrase) → Closes (last_of (x.Suffix w_ p)) (Means (x.Suffix w_ p))
back_last_suffix place.Expression p = λ after v m a xs u t0 ev d mark. (p, a, xs, [], d, tt, subst (λ (v : Parts). after (effect_of None act.EndSuffixes v) []) ev m)
back_last_suffix place.Statement phrase.Call = λ after v m a xs u t0 ev d mark.
    (stat.Invoke (suffixed a xs), [], call_stat d tt, subst (λ (v : Parts). after (effects_of None (act.EndSuffixes ∷ act.Invoke ∷ []) v) []) ev m)
back_last_suffix _ _ = tt

back_last : (y : Symbol) → Closes (last_of y) (Means y)
back_last (x.Make effect) = λ after v m. m
back_last (x.Tail p q) = λ after v m a u t0 ev d le. (q, a, [], d, le, tt, subst (λ v. after v []) ev m)
back_last (x.Chained l) = λ after v m. ([], [], no_operand, chained_end after v [] m)
back_last x.MoreExprs = λ after v m. ([], [], end_list tt, m)
back_last (x.Suffix w_ p) = back_last_suffix w_ p
back_last (x.Block c) = λ after v m. ([], None, [], end_block tt, subst (λ ss. after (part.Block (block_of ss None) ∷ below v) []) (sym (append-nil (stats v))) m)
back_last x.ReturnExprs = λ after v m xs u ev.
    ([], [], no_value tt, subst (λ es. after (part.Exprs es ∷ u) []) (sym (append-nil xs)) (subst (λ v. after v []) ev m))
back_last (x.OptionalSemicolon c) = λ after v m. ([], plain_end tt, m)
back_last (x.LocalMore c) = λ after v m. (
  [],
  [],
  [],
  [],
  [],
  None,
  [],
  no_more,
  no_values tt tt,
  end_block tt,
  subst (λ xs. after (part.Block (block_of (stats (below v) ++ stat.Local xs [] ∷ []) None) ∷ below (below v)) []) (sym (append-nil (names v))) m,
)
back_last _ = tt

-- ---- a whole stack

abbrev Ended : Parts → After
Ended w v ts = (ts ≡ []) × (v ≡ w)

mean_append : (new s : List Symbol) (after : After) → MeanAll (new ++ s) after ≡ MeanAll new (MeanAll s after)
mean_append [] s after = refl
mean_append (y ∷ new) s after = ap (Means y) (mean_append new s after)

abbrev state_or : State → Option State → State
state_or d (Some state) = state
state_or d None = d

-- that a token leads back over a stack
abbrev Backs : List Symbol → Lexeme → Lexemes → Parts → State → Type 0
Backs s t ts w state = (v : Parts) → feed s v t ≡ Some state → MeanAll state.stack (Ended w) state.parts ts → MeanAll s (Ended w) v (t ∷ ts)

fed_back : (a : Act) (y : Symbol) (s : List Symbol) (v : Parts) (t : Lexeme) (ts : Lexemes) (w : Parts) (state : State) → Leads a (Means y) t.kind → Backs s t ts w state
    → fed a (λ u. feed s u t) s v t ≡ Some state → MeanAll state.stack (Ended w) state.parts ts → Means y (MeanAll s (Ended w)) v (t ∷ ts)
fed_back (shift effects new) y s v t ts w state lead down h m =
    let n : MeanAll (new ++ s) (Ended w) (effects_of (Some t) effects v) ts = subst (λ (st : State). MeanAll st.stack (Ended w) st.parts ts) (sym (ap (state_or state) h)) m in
    lead t.line (MeanAll s (Ended w)) v ts (subst (λ (f : After). f (effects_of (Some t) effects v) ts) (mean_append new s (Ended w)) n)
fed_back (pop effects) y s v t ts w state lead down h m = lead t.line (MeanAll s (Ended w)) v ts (down (effects_of None effects v) h m)
fed_back refuse y s v t ts w state lead down h m = cc

simple_back : (y : Symbol) (s : List Symbol) (t : Lexeme) (ts : Lexemes) (w : Parts) (state : State) → others y t.kind ≡ None → Backs s t ts w state → Backs (y ∷ s) t ts w state
simple_back y s t ts w state none down v h m =
    let i = subst (λ (o : Option Others). taken (next_with o y t.kind) (λ u. feed s u t) s v t ≡ Some state) none h in
    fed_back (act_of y t.kind) y s v t ts w state (back y t.kind none) down i m

flat_back : (new s : List Symbol) (t : Lexeme) (ts : Lexemes) (w : Parts) (state : State) → Flat new t.kind → Backs s t ts w state → Backs (new ++ s) t ts w state
flat_back [] s t ts w state flat down = down
flat_back (y ∷ new) s t ts w state flat down = simple_back y (new ++ s) t ts w state flat.0 (flat_back new s t ts w state flat.1 down)

pub others_flat : (y : Symbol) (kind : TokenKind) (o : Others) → others y kind ≡ Some o → Flat o.symbols kind
others_flat x.Arguments kind o h = subst (λ (o : Others). Flat o.symbols kind) (others_are (is_close kind) _ _ o h).1 (refl, (refl, tt))
others_flat x.Fields kind o h = subst (λ (o : Others). Flat o.symbols kind) (others_are (begins_field kind) _ _ o h).1 (refl, (refl, (refl, tt)))
others_flat x.NameField kind o h = subst (λ (o : Others). Flat o.symbols kind) (others_are (is_assign_sign kind) _ _ o h).1 (refl, (refl, (refl, (refl, tt))))
others_flat x.ReturnExprs kind o h = subst (λ (o : Others). Flat o.symbols kind) (others_are (not (begins_expr kind)) _ _ o h).1 (refl, (refl, tt))
others_flat (x.LocalMore c) kind o h = subst (λ (o : Others). Flat o.symbols kind) (others_are (goes_on_with_names kind) _ _ o h).1 (refl, tt)
others_flat y kind o h = absurd (none_some h)

one_back : (y : Symbol) (s : List Symbol) (t : Lexeme) (ts : Lexemes) (w : Parts) (state : State) (o : Option Others) → others y t.kind ≡ o → Backs s t ts w state → Backs (y ∷ s) t ts w state
one_back y s t ts w state None e down = simple_back y s t ts w state e down
one_back y s t ts w state (Some o) e down = λ v h m.
    let flat = others_flat y t.kind o e in
    let i = sym (feed_becomes y o s v t e flat) ∙ h in
    let g = flat_back o.symbols s t ts w state flat down (effects_of None o.effects v) i m in
    back_others y t.kind o e t.line (MeanAll s (Ended w)) v ts (subst (λ (f : After). f (effects_of None o.effects v) (t ∷ ts)) (mean_append o.symbols s (Ended w)) g)

feed_back : (s : List Symbol) (t : Lexeme) (ts : Lexemes) (w : Parts) (state : State) → Backs s t ts w state
feed_back [] t ts w state v h m = cc
feed_back (y ∷ s) t ts w state v h m = one_back y s t ts w state (others y t.kind) refl (feed_back s t ts w state) v h m

closed_back : (a : Act) (y : Symbol) (s : List Symbol) (v w : Parts) → Closes a (Means y)
    → ((u : Parts) → finish s u ≡ Some w → MeanAll s (Ended w) u []) → closing a (finish s) v ≡ Some w → Means y (MeanAll s (Ended w)) v []
closed_back (shift effects new) y s v w lead down h = cc
closed_back (pop effects) y s v w lead down h = lead (MeanAll s (Ended w)) v (down (effects_of None effects v) h)
closed_back refuse y s v w lead down h = cc

abbrev parts_or : Parts → Option Parts → Parts
parts_or d (Some w) = w
parts_or d None = d

finish_back : (s : List Symbol) (v w : Parts) → finish s v ≡ Some w → MeanAll s (Ended w) v []
finish_back [] v w h = (refl, ap (parts_or v) h)
finish_back (y ∷ s) v w h = closed_back (last_of y) y s v w (back_last y) (λ u. finish_back s u w) h

abbrev result_or : Parts → Result Parts Lexemes → Parts
result_or d (Ok w) = w
result_or d (Err r) = d

run_end : (o : Option Parts) (w : Parts) → ending o ≡ Ok w → o ≡ Some w
run_end (Some u) w h = ap (λ r. Some (result_or u r)) h
run_end None w h = cc

step_back : (ts : Lexemes) (s : List Symbol) (v : Parts) (t : Lexeme) (w : Parts) (o : Option State) → feed s v t ≡ o
    → ((state : State) → run state.stack state.parts ts ≡ Ok w → MeanAll state.stack (Ended w) state.parts ts)
    → going o (λ state. run state.stack state.parts ts) (t ∷ ts) ≡ Ok w → MeanAll s (Ended w) v (t ∷ ts)
step_back ts s v t w (Some state) e down h = feed_back s t ts w state v e (down state h)
step_back ts s v t w None e down h = cc

run_back : (ts : Lexemes) (s : List Symbol) (v w : Parts) → run s v ts ≡ Ok w → MeanAll s (Ended w) v ts
run_back [] s v w h = finish_back s v w (run_end (finish s v) w h)
run_back (t ∷ ts) s v w h = step_back ts s v t w (feed s v t) refl (λ state. run_back ts state.stack state.parts w) h

-- what is read is a block
pub run_block : (ts : Lexemes) (w : Parts) → run (x.Block chunk_scope ∷ []) at_start ts ≡ Ok w → (b : Block) × IsBlock b ts [] × (w ≡ part.Block b ∷ [])
run_block ts w h =
    let m = run_back ts (x.Block chunk_scope ∷ []) at_start w h in
    let b = block_of m.0 m.1 in
    (b, subst (λ r. IsBlock b ts r) m.4.0 (block m.3), sym m.4.1)
