-- The first fault of a list of lexemes, and what a list without one reads as.
use Rattle.std.specs.Prelude.{◌≡◌, ℕ, ◌+◌, ◌&&◌, not, Bool, true, false, List, [], ◌∷◌, ◌++◌, nat_lt, nat_le, if◌then◌else◌, Option, Some, None, codes}
use Rattle.std.specs.Str.{bytes_eq}
use Rattle.lua_tree.specs.declared.token.Word.TheVariants as word
use Rattle.lua_tree.specs.declared.token.Sign.TheVariants as sign
use Rattle.lua_tree.specs.declared.token.Token.{Token}
use Rattle.lua_tree.specs.declared.token.TokenKind.{TokenKind}
use Rattle.lua_tree.specs.declared.token.TokenKind.TheVariants as k
use Rattle.lua_tree.specs.declared.tree.Chunk.{Chunk}
use Rattle.lua_grammar.specs.declared.symbol.Scope.{Scope}
use Rattle.lua_grammar.specs.declared.symbol.Effect.TheVariants as act
use Rattle.lua_grammar.specs.declared.symbol.Symbol.{Symbol}
use Rattle.lua_grammar.specs.declared.symbol.Symbol.TheVariants as x
use Rattle.lua_grammar.specs.declared.tree.Part.TheVariants as part
use Rattle.sk_types.specs.declared.fault.SyntaxKind.{SyntaxKind}
use Rattle.sk_types.specs.declared.fault.SyntaxKind.TheVariants as bad
use Rattle.sk_types.specs.declared.fault.SyntaxFault.{SyntaxFault}
use Rattle.lua_grammar.specs.Lexeme.{Lexeme, Lexemes, lexemes_of}
use Rattle.lua_grammar.specs.Grammar.{IsChunk}
use Rattle.lua_grammar.specs.Table.{of_function}
use Rattle.lua_grammar.specs.Machine.{State, feed, finish}

-- ---- how much is open

-- How many things a symbol ends. These are: the block that begins at `do`, `while`, `repeat`, `if`, `for` or `function`; a bracket; an operator whose operand is not finished.
abbrev pub weight : Symbol → ℕ
weight (x.Make (act.Unary o)) = 1
weight (x.Make (act.AddOperand o)) = 1
weight (x.Make act.Repeat) = 1
weight x.Arguments = 1
weight x.MoreArguments = 1
weight x.CloseIndex = 1
weight x.CloseParen = 1
weight x.Fields = 1
weight x.MoreFields = 1
weight x.NameField = 1
weight x.CloseKey = 1
weight (x.Else c) = 1
weight (x.Do c) = 1
weight x.End = 1
weight (x.For c) = 1
weight (x.ForName c) = 1
weight (x.ForFirst c) = 1
weight (x.ForMore c) = 1
weight (x.ForStep c) = 1
weight x.FunctionName = 1
weight x.FunctionPath = 1
weight x.MethodParameters = 1
weight x.Parameters = 1
weight (x.LocalFunction c) = 1
weight (x.FirstParameter n) = 2
weight (x.NextParameter n) = 2
weight (x.MoreParameters n) = 2
weight (x.CloseDots n) = 2
weight _ = 0

abbrev pub level_of : List Symbol → ℕ
level_of [] = 0
level_of (x ∷ more) = weight x + level_of more

abbrev pub max_level : ℕ
max_level = 200

-- ---- what is in scope

-- how many locals there are, where a name that comes here would be one more
abbrev pub names_before : Symbol → Option ℕ
names_before (x.Local c) = Some c.locals
names_before (x.LocalName c) = Some c.locals
names_before (x.LocalFunction c) = Some c.locals
names_before (x.For c) = Some c.locals
names_before (x.ForName c) = Some c.locals
names_before (x.FirstParameter n) = Some n
names_before (x.NextParameter n) = Some n
names_before _ = None

abbrev pub scope_at : Symbol → Option Scope
scope_at (x.Block c) = Some c
scope_at (x.LocalMore c) = Some c
scope_at (x.OptionalSemicolon c) = Some c
scope_at (x.Else c) = Some c
scope_at (x.Do c) = Some c
scope_at (x.ForStep c) = Some c
scope_at _ = None

-- the scope of the chunk, which is a function with `...`
abbrev pub chunk_scope : Scope
chunk_scope = of_function 0 true

abbrev pub or_scope : Option Scope → Scope → Scope
or_scope (Some c) outer = c
or_scope None outer = outer

-- the scope of the innermost block
abbrev pub scope_of : List Symbol → Scope
scope_of [] = chunk_scope
scope_of (x ∷ more) = or_scope (scope_at x) (scope_of more)

abbrev pub is_parameter : Symbol → Bool
is_parameter (x.FirstParameter n) = true
is_parameter (x.NextParameter n) = true
is_parameter _ = false

abbrev pub is_local_more : Symbol → Bool
is_local_more (x.LocalMore c) = true
is_local_more _ = false

abbrev pub top_is : (Symbol → Bool) → List Symbol → Bool
top_is test [] = false
top_is test (x ∷ more) = test x

abbrev pub top_names : List Symbol → Option ℕ
top_names [] = None
top_names (x ∷ more) = names_before x

-- ---- what is wrong with a token, after what is expected

abbrev pub is_float : TokenKind → Bool
is_float (k.Sign sign.Slash) = true
is_float (k.Sign sign.Caret) = true
is_float _ = false

-- the name `_ENV`, `goto`, a label, an attribute of a local
abbrev pub is_unsupported : List Symbol → TokenKind → Bool
is_unsupported st (k.Name t) = bytes_eq t (codes "_ENV")
is_unsupported st (k.Word word.Goto) = true
is_unsupported st (k.Sign sign.DoubleColon) = true
is_unsupported st (k.Sign sign.Less) = top_is is_local_more st
is_unsupported st _ = false

-- a name that would be one local too many
abbrev pub is_over : Option ℕ → TokenKind → Bool
is_over (Some n) (k.Name t) = nat_le 200 n
is_over _ _ = false

abbrev pub is_stray_break : List Symbol → TokenKind → Bool
is_stray_break st (k.Word word.Break) = not (scope_of st).in_loop
is_stray_break st _ = false

abbrev pub is_stray_dots : List Symbol → TokenKind → Bool
is_stray_dots st (k.Sign sign.Dots) = not (scope_of st).has_dots && not (top_is is_parameter st)
is_stray_dots st _ = false

-- what is wrong with a token that fits
abbrev pub bound : List Symbol → TokenKind → List Symbol → Option SyntaxKind
bound before t after =
    if nat_lt 200 (level_of after) then Some bad.Nesting
    else (if is_over (top_names before) t then Some bad.Locals
    else (if is_stray_break before t then Some bad.Break
    else (if is_stray_dots before t then Some bad.Vararg
    else None)))

abbrev pub fits : List Symbol → TokenKind → Option State → Option SyntaxKind
fits before t None = Some bad.Unexpected
fits before t (Some after) = bound before t after.stack

abbrev pub verdict_on : List Symbol → TokenKind → Option State → Option SyntaxKind
verdict_on before t after =
    if is_float t then Some bad.Float
    else (if is_unsupported before t then Some bad.Unsupported
    else fits before t after)

-- what is wrong with a token, where something is
abbrev pub verdict : State → Lexeme → Option SyntaxKind
verdict state t = verdict_on state.stack t.kind (feed state.stack state.parts t)

-- ---- lists of lexemes

-- what is expected before the first lexeme
abbrev pub opening : State
opening = record { stack = x.Block chunk_scope ∷ []; parts = part.Stats [] ∷ [] }

-- the state after some lexemes, with nothing wrong with any
pub data Passes : State → Lexemes → State → Type 0 where
  none_passed : {state : State} → Passes state [] state
  one_passed : {state mid last : State} {t : Lexeme} {ts : Lexemes} → verdict state t ≡ None → feed state.stack state.parts t ≡ Some mid → Passes mid ts last → Passes state (t ∷ ts) last

-- Nothing is wrong with any of the lexemes.
abbrev pub Keeps : Lexemes → Type 0
Keeps ts = (state : State) × Passes opening ts state

-- The first fault, where the text ends on the given line.
pub data IsFault : ℕ → Lexemes → SyntaxFault → Type 0 where
  at_token : {end : ℕ} {state : State} {kind : SyntaxKind} (before : Lexemes) (t : Lexeme) (later : Lexemes) → Passes opening before state → verdict state t ≡ Some kind
      → IsFault end (before ++ t ∷ later) (record { line = t.line; kind = kind })
  at_end : {end : ℕ} {state : State} {ts : Lexemes} → Passes opening ts state → finish state.stack state.parts ≡ None → IsFault end ts (record { line = end; kind = bad.Unexpected })

-- ---- lists of tokens

-- a list of tokens reads as a chunk: it is one by the grammar, and keeps the bounds
abbrev pub ReadsAs : List Token → Chunk → Type 0
ReadsAs ts c = IsChunk c (lexemes_of ts) × Keeps (lexemes_of ts)

-- the first fault of the tokens of a text that ends on the given line
abbrev pub IsTokenFault : ℕ → List Token → SyntaxFault → Type 0
IsTokenFault end ts f = IsFault end (lexemes_of ts) f

-- a bound: its fault stands at a token that fits
abbrev pub is_bound : SyntaxKind → Bool
is_bound bad.Nesting = true
is_bound bad.Locals = true
is_bound bad.Break = true
is_bound bad.Vararg = true
is_bound _ = false
