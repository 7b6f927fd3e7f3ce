-- Tokens as the grammar sees them: what each is, and its line. (The Lua 5.4 manual, sections 3.1 and 3.4.8.)
use Rattle.std.specs.Prelude.{◌≡◌, ℕ, ◌+◌, List, [], ◌∷◌, Bool, true, false, ⊤, Option, Some, None, is_some, map}
use Rattle.lua_tree.specs.declared.token.Word.TheVariants as word
use Rattle.lua_tree.specs.declared.token.Sign.TheVariants as sign
use Rattle.lua_tree.specs.declared.token.Token.{Token}
use Rattle.lua_tree.specs.declared.token.TokenKind.{TokenKind}
use Rattle.lua_tree.specs.declared.token.TokenKind.TheVariants as k
use Rattle.lua_tree.specs.declared.tree.UnaryOp.{UnaryOp}
use Rattle.lua_tree.specs.declared.tree.UnaryOp.TheVariants as unary
use Rattle.lua_tree.specs.declared.tree.BinaryOp.{BinaryOp}
use Rattle.lua_tree.specs.declared.tree.BinaryOp.TheVariants as binary

abbrev pub Text : Type 0
Text = List ℕ

-- what a token is, and its line
pub record Lexeme : Type 0 where
  pub kind : TokenKind
  pub line : ℕ

abbrev pub at : TokenKind → ℕ → Lexeme
at kind n = record { kind = kind; line = n }

abbrev pub Lexemes : Type 0
Lexemes = List Lexeme

abbrev pub lexeme_of : Token → Lexeme
lexeme_of t = at t.kind t.line

abbrev pub lexemes_of : List Token → Lexemes
lexemes_of = map lexeme_of

-- ---- operators

abbrev pub operator : TokenKind → Option BinaryOp
operator (k.Word word.Or) = Some binary.Or
operator (k.Word word.And) = Some binary.And
operator (k.Sign sign.Less) = Some binary.Less
operator (k.Sign sign.Greater) = Some binary.Greater
operator (k.Sign sign.LessEqual) = Some binary.LessEqual
operator (k.Sign sign.GreaterEqual) = Some binary.GreaterEqual
operator (k.Sign sign.NotEqual) = Some binary.NotEqual
operator (k.Sign sign.Equal) = Some binary.Equal
operator (k.Sign sign.Bar) = Some binary.BitOr
operator (k.Sign sign.Tilde) = Some binary.BitXor
operator (k.Sign sign.Ampersand) = Some binary.BitAnd
operator (k.Sign sign.ShiftLeft) = Some binary.ShiftLeft
operator (k.Sign sign.ShiftRight) = Some binary.ShiftRight
operator (k.Sign sign.Concat) = Some binary.Concat
operator (k.Sign sign.Plus) = Some binary.Add
operator (k.Sign sign.Minus) = Some binary.Subtract
operator (k.Sign sign.Star) = Some binary.Multiply
operator (k.Sign sign.DoubleSlash) = Some binary.Divide
operator (k.Sign sign.Percent) = Some binary.Remainder
operator _ = None

abbrev pub unary_operator : TokenKind → Option UnaryOp
unary_operator (k.Word word.Not) = Some unary.Not
unary_operator (k.Sign sign.Hash) = Some unary.Length
unary_operator (k.Sign sign.Minus) = Some unary.Negate
unary_operator (k.Sign sign.Tilde) = Some unary.BitNot
unary_operator _ = None

-- how tightly an operator binds; 11 is the unary ones, 12 what has none
abbrev pub level : BinaryOp → ℕ
level binary.Or = 1
level binary.And = 2
level binary.Less = 3
level binary.Greater = 3
level binary.LessEqual = 3
level binary.GreaterEqual = 3
level binary.NotEqual = 3
level binary.Equal = 3
level binary.BitOr = 4
level binary.BitXor = 5
level binary.BitAnd = 6
level binary.ShiftLeft = 7
level binary.ShiftRight = 7
level binary.Concat = 8
level binary.Add = 9
level binary.Subtract = 9
level binary.Multiply = 10
level binary.Divide = 10
level binary.Remainder = 10

-- `..` groups to the right, and the others to the left
abbrev pub groups_left : BinaryOp → Bool
groups_left binary.Concat = false
groups_left _ = true

-- the least level of a right operand
abbrev pub right_least : BinaryOp → ℕ
right_least binary.Concat = 8
right_least o = level o + 1

-- ---- tests of a token

abbrev pub is_operator : TokenKind → Bool
is_operator kind = is_some (operator kind)

-- what goes on with a prefix
abbrev pub is_suffix : TokenKind → Bool
is_suffix (k.Sign sign.Dot) = true
is_suffix (k.Sign sign.OpenBracket) = true
is_suffix (k.Sign sign.Colon) = true
is_suffix (k.Sign sign.OpenParen) = true
is_suffix (k.Sign sign.OpenBrace) = true
is_suffix (k.Text text) = true
is_suffix _ = false

abbrev pub is_comma : TokenKind → Bool
is_comma (k.Sign sign.Comma) = true
is_comma _ = false

abbrev pub is_separator : TokenKind → Bool
is_separator (k.Sign sign.Comma) = true
is_separator (k.Sign sign.Semicolon) = true
is_separator _ = false

abbrev pub is_semicolon : TokenKind → Bool
is_semicolon (k.Sign sign.Semicolon) = true
is_semicolon _ = false

abbrev pub is_assign : TokenKind → Bool
is_assign (k.Sign sign.Assign) = true
is_assign _ = false

-- what begins a statement, or a `return`
abbrev pub begins_statement : TokenKind → Bool
begins_statement (k.Sign sign.Semicolon) = true
begins_statement (k.Name x) = true
begins_statement (k.Sign sign.OpenParen) = true
begins_statement (k.Word word.Break) = true
begins_statement (k.Word word.Do) = true
begins_statement (k.Word word.While) = true
begins_statement (k.Word word.Repeat) = true
begins_statement (k.Word word.If) = true
begins_statement (k.Word word.For) = true
begins_statement (k.Word word.Function) = true
begins_statement (k.Word word.Local) = true
begins_statement (k.Word word.Return) = true
begins_statement _ = false

abbrev pub begins_expr : TokenKind → Bool
begins_expr (k.Int i) = true
begins_expr (k.Text t) = true
begins_expr (k.Name x) = true
begins_expr (k.Word word.Nil) = true
begins_expr (k.Word word.False) = true
begins_expr (k.Word word.True) = true
begins_expr (k.Word word.Function) = true
begins_expr (k.Word word.Not) = true
begins_expr (k.Sign sign.Dots) = true
begins_expr (k.Sign sign.OpenParen) = true
begins_expr (k.Sign sign.OpenBrace) = true
begins_expr (k.Sign sign.Hash) = true
begins_expr (k.Sign sign.Minus) = true
begins_expr (k.Sign sign.Tilde) = true
begins_expr _ = false

-- The first lexeme, where there is one, is none of these.
abbrev pub Not : (TokenKind → Bool) → Lexemes → Type 0
Not test [] = ⊤
Not test (t ∷ ts) = test t.kind ≡ false
