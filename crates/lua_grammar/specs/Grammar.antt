-- The grammar of the Lua profile: what spells what, from a list of lexemes to what is left of it. (The Lua 5.4 manual, sections 3.3, 3.4 and 9.)
use Rattle.std.specs.Prelude.{◌≡◌, ℕ, ◌<◌, ◌≤◌, ℤ, List, [], ◌∷◌, ◌++◌, Bool, true, false, Option, Some, None, codes}
use Rattle.lua_tree.specs.declared.token.Word.TheVariants as word
use Rattle.lua_tree.specs.declared.token.Sign.TheVariants as sign
use Rattle.lua_tree.specs.declared.token.TokenKind.{TokenKind}
use Rattle.lua_tree.specs.declared.token.TokenKind.TheVariants as k
use Rattle.lua_tree.specs.declared.tree.UnaryOp.{UnaryOp}
use Rattle.lua_tree.specs.declared.tree.BinaryOp.{BinaryOp}
use Rattle.lua_tree.specs.declared.tree.Expr.{Expr}
use Rattle.lua_tree.specs.declared.tree.Expr.TheVariants as e
use Rattle.lua_tree.specs.declared.tree.Operand.{Operand, roll-Operand}
use Rattle.lua_tree.specs.declared.tree.Suffix.{Suffix}
use Rattle.lua_tree.specs.declared.tree.Suffix.TheVariants as suffix
use Rattle.lua_tree.specs.declared.tree.Field.{Field}
use Rattle.lua_tree.specs.declared.tree.Field.TheVariants as field
use Rattle.lua_tree.specs.declared.tree.Body.{Body, roll-Body}
use Rattle.lua_tree.specs.declared.tree.Block.{Block, roll-Block}
use Rattle.lua_tree.specs.declared.tree.Branch.{Branch, roll-Branch}
use Rattle.lua_tree.specs.declared.tree.NumericFor.{NumericFor, roll-NumericFor}
use Rattle.lua_tree.specs.declared.tree.GenericFor.{GenericFor, roll-GenericFor}
use Rattle.lua_tree.specs.declared.tree.Target.{Target}
use Rattle.lua_tree.specs.declared.tree.Target.TheVariants as target
use Rattle.lua_tree.specs.declared.tree.Stat.{Stat}
use Rattle.lua_tree.specs.declared.tree.Stat.TheVariants as stat
use Rattle.lua_tree.specs.declared.tree.Chunk.{Chunk}
use Rattle.lua_grammar.specs.declared.symbol.Phrase.{Phrase}
use Rattle.lua_grammar.specs.declared.symbol.Phrase.TheVariants as phrase
use Rattle.lua_grammar.specs.Lexeme.{Text, Lexeme, at, Lexemes, operator, unary_operator, level, groups_left, right_least, is_operator, is_suffix, is_comma, is_separator, is_semicolon, is_assign, begins_statement, begins_expr, Not}

-- ---- short names of trees

abbrev pub operand_of : BinaryOp → ℕ → Expr → Operand
operand_of o n a = roll-Operand (record { op = o; line = n; value = a })

abbrev pub body_of : List Text → Bool → Block → Body
body_of xs has_dots b = roll-Body (record { names = xs; has_dots = has_dots; block = b })

abbrev pub block_of : List Stat → Option (List Expr) → Block
block_of ss result = roll-Block (record { stats = ss; result = result })

abbrev pub branch_of : Expr → Block → Branch
branch_of a b = roll-Branch (record { test = a; block = b })

abbrev pub numeric_of : Text → Expr → Expr → Option Expr → Block → ℕ → NumericFor
numeric_of x a b c body n = roll-NumericFor (record { name = x; first = a; limit = b; step = c; block = body; line = n })

abbrev pub generic_of : List Text → List Expr → Block → ℕ → GenericFor
generic_of xs es body n = roll-GenericFor (record { names = xs; values = es; block = body; line = n })

-- a base with its suffixes, where it has any
abbrev pub suffixed : Expr → List Suffix → Expr
suffixed a [] = a
suffixed a (x ∷ xs) = e.Suffixed a (x ∷ xs)

-- the first parameter of a method
abbrev pub self : Text
self = codes "self"

-- ---- the grammar

mutual
  -- an expression whose loosest operator has this level
  pub data IsExpr : ℕ → Expr → Lexemes → Lexemes → Type 0 where
    nil : {n : ℕ} {r : Lexemes} → IsExpr 12 e.Nil (at (k.Word word.Nil) n ∷ r) r
    false_word : {n : ℕ} {r : Lexemes} → IsExpr 12 e.False (at (k.Word word.False) n ∷ r) r
    true_word : {n : ℕ} {r : Lexemes} → IsExpr 12 e.True (at (k.Word word.True) n ∷ r) r
    int : {n : ℕ} {i : ℤ} {r : Lexemes} → IsExpr 12 (e.Int i) (at (k.Int i) n ∷ r) r
    text : {n : ℕ} {t : Text} {r : Lexemes} → IsExpr 12 (e.Text t) (at (k.Text t) n ∷ r) r
    dots : {n : ℕ} {r : Lexemes} → IsExpr 12 e.Dots (at (k.Sign sign.Dots) n ∷ r) r
    function : {n : ℕ} {b : Body} {ts r : Lexemes} → IsBody [] b ts r → IsExpr 12 (e.Function b) (at (k.Word word.Function) n ∷ ts) r
    table : {n : ℕ} {fs : List Field} {ts r : Lexemes} → IsFields fs ts r → IsExpr 12 (e.Table fs) (at (k.Sign sign.OpenBrace) n ∷ ts) r
    -- An expression that could be a call's continuation is one.
    prefix : {p : Phrase} {a : Expr} {xs : List Suffix} {ts r : Lexemes} → IsPrefix p a xs ts r → Not is_suffix r → IsExpr 12 (suffixed a xs) ts r
    unary_of : {l n : ℕ} {kind : TokenKind} {o : UnaryOp} {a : Expr} {ts r : Lexemes} → unary_operator kind ≡ Some o → IsExpr l a ts r → 11 ≤ l
        → IsExpr 11 (e.Unary o n a) (at kind n ∷ ts) r
    -- an operand, and operators of one level with their right operands
    chain : {la lb n : ℕ} {kind : TokenKind} {o : BinaryOp} {a b : Expr} {more : List Operand} {ts mid end r : Lexemes} → operator kind ≡ Some o
        → IsExpr la a ts (at kind n ∷ mid) → level o < la → IsExpr lb b mid end → right_least o ≤ lb → IsOperands (level o) more end r
        → IsExpr (level o) (e.Chain a (operand_of o n b ∷ more)) ts r

  -- further operators of one level, which group to the left
  pub data IsOperands : ℕ → List Operand → Lexemes → Lexemes → Type 0 where
    no_operand : {l : ℕ} {r : Lexemes} → IsOperands l [] r r
    operand : {lb n : ℕ} {kind : TokenKind} {o : BinaryOp} {b : Expr} {more : List Operand} {mid end r : Lexemes} → operator kind ≡ Some o → groups_left o ≡ true
        → IsExpr lb b mid end → right_least o ≤ lb → IsOperands (level o) more end r → IsOperands (level o) (operand_of o n b ∷ more) (at kind n ∷ mid) r

  -- an expression that is read as far as it goes
  pub data Whole : Expr → Lexemes → Lexemes → Type 0 where
    whole : {l : ℕ} {a : Expr} {ts r : Lexemes} → IsExpr l a ts r → Not is_operator r → Whole a ts r

  -- a list of expressions that is read as far as it goes
  pub data IsExprs : List Expr → Lexemes → Lexemes → Type 0 where
    last : {a : Expr} {ts r : Lexemes} → Whole a ts r → Not is_comma r → IsExprs (a ∷ []) ts r
    more : {n : ℕ} {a : Expr} {es : List Expr} {ts mid r : Lexemes} → Whole a ts (at (k.Sign sign.Comma) n ∷ mid) → IsExprs es mid r → IsExprs (a ∷ es) ts r

  -- a base and its suffixes; the phrase tells what it is as a whole
  pub data IsPrefix : Phrase → Expr → List Suffix → Lexemes → Lexemes → Type 0 where
    prefixed : {p q : Phrase} {a : Expr} {xs : List Suffix} {ts mid r : Lexemes} → IsBase p a ts mid → IsSuffixes p q xs mid r → IsPrefix q a xs ts r

  pub data IsBase : Phrase → Expr → Lexemes → Lexemes → Type 0 where
    name : {n : ℕ} {x : Text} {r : Lexemes} → IsBase phrase.Var (e.Name x) (at (k.Name x) n ∷ r) r
    enclosed : {m n : ℕ} {a : Expr} {ts r : Lexemes} → Whole a ts (at (k.Sign sign.CloseParen) m ∷ r) → IsBase phrase.Enclosed (e.Paren a) (at (k.Sign sign.OpenParen) n ∷ ts) r

  -- suffixes that make a prefix of the second phrase of one of the first
  pub data IsSuffixes : Phrase → Phrase → List Suffix → Lexemes → Lexemes → Type 0 where
    no_suffix : {p : Phrase} {r : Lexemes} → IsSuffixes p p [] r r
    next_suffix : {p q o : Phrase} {x : Suffix} {xs : List Suffix} {ts mid r : Lexemes} → IsSuffix o x ts mid → IsSuffixes o q xs mid r → IsSuffixes p q (x ∷ xs) ts r

  pub data IsSuffix : Phrase → Suffix → Lexemes → Lexemes → Type 0 where
    index : {n : ℕ} {a : Expr} {ts r : Lexemes} → IsIndex a n ts r → IsSuffix phrase.Var (suffix.Index a n) ts r
    call : {n : ℕ} {es : List Expr} {ts r : Lexemes} → IsArguments es n ts r → IsSuffix phrase.Call (suffix.Call es n) ts r
    method : {l m n : ℕ} {x : Text} {es : List Expr} {ts r : Lexemes} → IsArguments es n ts r → IsSuffix phrase.Call (suffix.Method x l es n) (at (k.Sign sign.Colon) l ∷ at (k.Name x) m ∷ ts) r

  -- a key and the line of its sign
  pub data IsIndex : Expr → ℕ → Lexemes → Lexemes → Type 0 where
    bracket : {m n : ℕ} {a : Expr} {ts r : Lexemes} → Whole a ts (at (k.Sign sign.CloseBracket) m ∷ r) → IsIndex a n (at (k.Sign sign.OpenBracket) n ∷ ts) r
    dot : {m n : ℕ} {x : Text} {r : Lexemes} → IsIndex (e.Text x) n (at (k.Sign sign.Dot) n ∷ at (k.Name x) m ∷ r) r

  -- the arguments of a call, and the line of their first token
  pub data IsArguments : List Expr → ℕ → Lexemes → Lexemes → Type 0 where
    no_argument : {m n : ℕ} {r : Lexemes} → IsArguments [] n (at (k.Sign sign.OpenParen) n ∷ at (k.Sign sign.CloseParen) m ∷ r) r
    arguments : {m n : ℕ} {es : List Expr} {ts r : Lexemes} → IsExprs es ts (at (k.Sign sign.CloseParen) m ∷ r) → IsArguments es n (at (k.Sign sign.OpenParen) n ∷ ts) r
    of_table : {n : ℕ} {fs : List Field} {ts r : Lexemes} → IsFields fs ts r → IsArguments (e.Table fs ∷ []) n (at (k.Sign sign.OpenBrace) n ∷ ts) r
    of_text : {n : ℕ} {t : Text} {r : Lexemes} → IsArguments (e.Text t ∷ []) n (at (k.Text t) n ∷ r) r

  -- after the opening brace
  pub data IsFields : List Field → Lexemes → Lexemes → Type 0 where
    no_field : {n : ℕ} {r : Lexemes} → IsFields [] (at (k.Sign sign.CloseBrace) n ∷ r) r
    last_field : {n : ℕ} {f : Field} {ts r : Lexemes} → IsField f ts (at (k.Sign sign.CloseBrace) n ∷ r) → IsFields (f ∷ []) ts r
    next_field : {n : ℕ} {kind : TokenKind} {f : Field} {fs : List Field} {ts mid r : Lexemes} → is_separator kind ≡ true → IsField f ts (at kind n ∷ mid) → IsFields fs mid r
        → IsFields (f ∷ fs) ts r

  pub data IsField : Field → Lexemes → Lexemes → Type 0 where
    key : {l m n : ℕ} {a b : Expr} {ts mid r : Lexemes} → Whole a ts (at (k.Sign sign.CloseBracket) m ∷ at (k.Sign sign.Assign) l ∷ mid) → Whole b mid r
        → IsField (field.Key a b) (at (k.Sign sign.OpenBracket) n ∷ ts) r
    named : {m n : ℕ} {x : Text} {b : Expr} {ts r : Lexemes} → Whole b ts r → IsField (field.Key (e.Text x) b) (at (k.Name x) n ∷ at (k.Sign sign.Assign) m ∷ ts) r
    item : {a : Expr} {ts r : Lexemes} → Whole a ts r → Not is_assign r → IsField (field.Item a) ts r

  -- The parameters, the block and `end`. Names that stand before the parameters are parameters too.
  pub data IsBody : List Text → Body → Lexemes → Lexemes → Type 0 where
    body : {n : ℕ} {before xs : List Text} {has_dots : Bool} {b : Block} {ts mid r : Lexemes} → IsParameters xs has_dots ts mid → IsBlock b mid (at (k.Word word.End) n ∷ r)
        → IsBody before (body_of (before ++ xs) has_dots b) ts r

  pub data IsParameters : List Text → Bool → Lexemes → Lexemes → Type 0 where
    no_parameter : {m n : ℕ} {r : Lexemes} → IsParameters [] false (at (k.Sign sign.OpenParen) m ∷ at (k.Sign sign.CloseParen) n ∷ r) r
    names_only : {m n : ℕ} {xs : List Text} {ts r : Lexemes} → IsNames xs ts (at (k.Sign sign.CloseParen) n ∷ r) → IsParameters xs false (at (k.Sign sign.OpenParen) m ∷ ts) r
    dots_only : {l m n : ℕ} {r : Lexemes} → IsParameters [] true (at (k.Sign sign.OpenParen) l ∷ at (k.Sign sign.Dots) m ∷ at (k.Sign sign.CloseParen) n ∷ r) r
    names_dots : {h l m n : ℕ} {xs : List Text} {ts r : Lexemes} → IsNames xs ts (at (k.Sign sign.Comma) l ∷ at (k.Sign sign.Dots) m ∷ at (k.Sign sign.CloseParen) n ∷ r)
        → IsParameters xs true (at (k.Sign sign.OpenParen) h ∷ ts) r

  pub data IsNames : List Text → Lexemes → Lexemes → Type 0 where
    last_name : {n : ℕ} {x : Text} {r : Lexemes} → IsNames (x ∷ []) (at (k.Name x) n ∷ r) r
    next_name : {m n : ℕ} {x : Text} {xs : List Text} {ts r : Lexemes} → IsNames xs ts r → IsNames (x ∷ xs) (at (k.Name x) m ∷ at (k.Sign sign.Comma) n ∷ ts) r

  pub data IsTarget : Target → Lexemes → Lexemes → Type 0 where
    variable : {n : ℕ} {x : Text} {r : Lexemes} → IsTarget (target.Variable x) (at (k.Name x) n ∷ r) r
    element : {p : Phrase} {n : ℕ} {a b : Expr} {xs : List Suffix} {ts mid r : Lexemes} → IsPrefix p a xs ts mid → IsIndex b n mid r → IsTarget (target.Element (suffixed a xs) b n) ts r

  pub data IsTargets : List Target → Lexemes → Lexemes → Type 0 where
    last_target : {a : Target} {ts r : Lexemes} → IsTarget a ts r → IsTargets (a ∷ []) ts r
    next_target : {n : ℕ} {a : Target} {others : List Target} {ts mid r : Lexemes} → IsTarget a ts (at (k.Sign sign.Comma) n ∷ mid) → IsTargets others mid r → IsTargets (a ∷ others) ts r

  -- the name of a `function` statement
  pub data IsPath : Target → Lexemes → Lexemes → Type 0 where
    alone : {n : ℕ} {x : Text} {r : Lexemes} → IsPath (target.Variable x) (at (k.Name x) n ∷ r) r
    path : {l m n : ℕ} {x y : Text} {xs : List Suffix} {ts r : Lexemes} → IsDots xs ts (at (k.Sign sign.Dot) m ∷ at (k.Name y) n ∷ r)
        → IsPath (target.Element (suffixed (e.Name x) xs) (e.Text y) m) (at (k.Name x) l ∷ ts) r

  -- names after full stops
  pub data IsDots : List Suffix → Lexemes → Lexemes → Type 0 where
    no_dot : {r : Lexemes} → IsDots [] r r
    next_dot : {m n : ℕ} {x : Text} {xs : List Suffix} {ts r : Lexemes} → IsDots xs ts r → IsDots (suffix.Index (e.Text x) n ∷ xs) (at (k.Sign sign.Dot) n ∷ at (k.Name x) m ∷ ts) r

  -- what follows the block of an `if`
  pub data IsElses : List Branch → Option Block → Lexemes → Lexemes → Type 0 where
    end_if : {n : ℕ} {r : Lexemes} → IsElses [] None (at (k.Word word.End) n ∷ r) r
    else_block : {m n : ℕ} {b : Block} {ts r : Lexemes} → IsBlock b ts (at (k.Word word.End) n ∷ r) → IsElses [] (Some b) (at (k.Word word.Else) m ∷ ts) r
    elseif : {n : ℕ} {b : Branch} {bs : List Branch} {other : Option Block} {ts mid r : Lexemes} → IsBranch b ts mid → IsElses bs other mid r
        → IsElses (b ∷ bs) other (at (k.Word word.Elseif) n ∷ ts) r

  pub data IsBranch : Branch → Lexemes → Lexemes → Type 0 where
    branch : {n : ℕ} {a : Expr} {b : Block} {ts mid r : Lexemes} → Whole a ts (at (k.Word word.Then) n ∷ mid) → IsBlock b mid r → IsBranch (branch_of a b) ts r

  -- `do`, a block and `end`
  pub data IsDo : Block → Lexemes → Lexemes → Type 0 where
    do_end : {m n : ℕ} {b : Block} {ts r : Lexemes} → IsBlock b ts (at (k.Word word.End) n ∷ r) → IsDo b (at (k.Word word.Do) m ∷ ts) r

  -- a statement that is not empty
  pub data IsStat : Stat → Lexemes → Lexemes → Type 0 where
    assign : {n : ℕ} {vs : List Target} {es : List Expr} {ts mid r : Lexemes} → IsTargets vs ts (at (k.Sign sign.Assign) n ∷ mid) → IsExprs es mid r → IsStat (stat.Assign vs es) ts r
    call_stat : {a : Expr} {xs : List Suffix} {ts r : Lexemes} → IsPrefix phrase.Call a xs ts r → Not is_suffix r → IsStat (stat.Invoke (suffixed a xs)) ts r
    break : {n : ℕ} {r : Lexemes} → IsStat stat.Break (at (k.Word word.Break) n ∷ r) r
    do_stat : {b : Block} {ts r : Lexemes} → IsDo b ts r → IsStat (stat.Do b) ts r
    while : {n : ℕ} {a : Expr} {b : Block} {ts mid r : Lexemes} → Whole a ts mid → IsDo b mid r → IsStat (stat.While a b) (at (k.Word word.While) n ∷ ts) r
    repeat : {m n : ℕ} {a : Expr} {b : Block} {ts mid r : Lexemes} → IsBlock b ts (at (k.Word word.Until) n ∷ mid) → Whole a mid r → IsStat (stat.Repeat b a) (at (k.Word word.Repeat) m ∷ ts) r
    if_stat : {n : ℕ} {b : Branch} {bs : List Branch} {other : Option Block} {ts mid r : Lexemes} → IsBranch b ts mid → IsElses bs other mid r
        → IsStat (stat.If (b ∷ bs) other) (at (k.Word word.If) n ∷ ts) r
    numeric : {l m n h : ℕ} {x : Text} {a b : Expr} {body : Block} {ts mid end r : Lexemes} → Whole a ts (at (k.Sign sign.Comma) l ∷ mid) → Whole b mid end → IsDo body end r
        → IsStat (stat.Numeric (numeric_of x a b None body h)) (at (k.Word word.For) h ∷ at (k.Name x) m ∷ at (k.Sign sign.Assign) n ∷ ts) r
    numeric_by : {l m n o h : ℕ} {x : Text} {a b c : Expr} {body : Block} {ts mid far end r : Lexemes}
        → Whole a ts (at (k.Sign sign.Comma) l ∷ mid) → Whole b mid (at (k.Sign sign.Comma) o ∷ far) → Whole c far end → IsDo body end r
        → IsStat (stat.Numeric (numeric_of x a b (Some c) body h)) (at (k.Word word.For) h ∷ at (k.Name x) m ∷ at (k.Sign sign.Assign) n ∷ ts) r
    generic : {n h : ℕ} {xs : List Text} {es : List Expr} {body : Block} {ts mid end r : Lexemes} → IsNames xs ts (at (k.Word word.In) n ∷ mid) → IsExprs es mid end → IsDo body end r
        → IsStat (stat.Generic (generic_of xs es body h)) (at (k.Word word.For) h ∷ ts) r
    -- It assigns the function. A method's function has the parameter `self` first. (The manual, section 3.4.11.)
    function_stat : {n : ℕ} {v : Target} {b : Body} {ts mid r : Lexemes} → IsPath v ts mid → IsBody [] b mid r → IsStat (stat.Assign (v ∷ []) (e.Function b ∷ [])) (at (k.Word word.Function) n ∷ ts) r
    method_stat : {l m n o : ℕ} {x y : Text} {xs : List Suffix} {b : Body} {ts mid r : Lexemes} → IsDots xs ts (at (k.Sign sign.Colon) l ∷ at (k.Name y) m ∷ mid) → IsBody (self ∷ []) b mid r
        → IsStat (stat.Assign (target.Element (suffixed (e.Name x) xs) (e.Text y) l ∷ []) (e.Function b ∷ [])) (at (k.Word word.Function) n ∷ at (k.Name x) o ∷ ts) r
    local_function : {l m n : ℕ} {x : Text} {b : Body} {ts r : Lexemes} → IsBody [] b ts r → IsStat (stat.LocalFunction x b) (at (k.Word word.Local) l ∷ at (k.Word word.Function) m ∷ at (k.Name x) n ∷ ts) r
    local_alone : {n : ℕ} {xs : List Text} {ts r : Lexemes} → IsNames xs ts r → Not is_comma r → Not is_assign r → IsStat (stat.Local xs []) (at (k.Word word.Local) n ∷ ts) r
    local : {m n : ℕ} {xs : List Text} {es : List Expr} {ts mid r : Lexemes} → IsNames xs ts (at (k.Sign sign.Assign) m ∷ mid) → IsExprs es mid r → IsStat (stat.Local xs es) (at (k.Word word.Local) n ∷ ts) r

  pub data IsBlock : Block → Lexemes → Lexemes → Type 0 where
    block : {ss : List Stat} {result : Option (List Expr)} {ts r : Lexemes} → IsStats ss result ts r → IsBlock (block_of ss result) ts r

  -- the statements of a block, and what it returns
  pub data IsStats : List Stat → Option (List Expr) → Lexemes → Lexemes → Type 0 where
    end_block : {r : Lexemes} → Not begins_statement r → IsStats [] None r r
    semicolon : {n : ℕ} {ss : List Stat} {result : Option (List Expr)} {ts r : Lexemes} → IsStats ss result ts r → IsStats ss result (at (k.Sign sign.Semicolon) n ∷ ts) r
    statement : {a : Stat} {ss : List Stat} {result : Option (List Expr)} {ts mid r : Lexemes} → IsStat a ts mid → IsStats ss result mid r → IsStats (a ∷ ss) result ts r
    return : {n : ℕ} {es : List Expr} {ts mid r : Lexemes} → IsResult es ts mid → IsEnd mid r → IsStats [] (Some es) (at (k.Word word.Return) n ∷ ts) r

  pub data IsResult : List Expr → Lexemes → Lexemes → Type 0 where
    no_value : {r : Lexemes} → Not begins_expr r → IsResult [] r r
    values : {es : List Expr} {ts r : Lexemes} → IsExprs es ts r → IsResult es ts r

  -- a semicolon, where one stands
  pub data IsEnd : Lexemes → Lexemes → Type 0 where
    plain_end : {r : Lexemes} → Not is_semicolon r → IsEnd r r
    semicolon_end : {n : ℕ} {r : Lexemes} → IsEnd (at (k.Sign sign.Semicolon) n ∷ r) r

-- the lexemes of a chunk
abbrev pub IsChunk : Chunk → Lexemes → Type 0
IsChunk c ts = IsBlock c.block ts []

-- Some chunk begins with these.
abbrev pub IsViable : Lexemes → Type 0
IsViable ts = (later : Lexemes) × (c : Chunk) × IsChunk c (ts ++ later)

-- What is left from the first lexeme that no chunk has after those before it. Nothing is left where more is missing.
pub record IsFirstBad (ts r : Lexemes) : Type 0 where
  pub before : Lexemes
  pub split : ts ≡ before ++ r
  pub viable : IsViable before
  pub none : (c : Chunk) → IsChunk c ts → ⊥
  pub dead : (t : Lexeme) (later : Lexemes) → r ≡ t ∷ later → IsViable (before ++ t ∷ []) → ⊥
