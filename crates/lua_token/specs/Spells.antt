-- The tokens of a text, and its first lexical fault.
use Rattle.std.specs.Prelude.{◌≡◌, ℕ, ◌+◌, ◌==◌, List, [], ◌∷◌, drop, length, take_while, ◌<◌, ◌≤◌, if◌then◌else◌, Result, Ok, Err}
use Rattle.sk_types.specs.declared.fault.SyntaxKind.{SyntaxKind}
use Rattle.sk_types.specs.declared.fault.SyntaxKind.TheVariants.{TooLong}
use Rattle.sk_types.specs.declared.fault.SyntaxFault.{SyntaxFault}
use Rattle.lua_tree.specs.declared.token.TokenKind.{TokenKind}
use Rattle.lua_tree.specs.declared.token.Token.{Token}
use Rattle.lua_token.specs.declared.lexer.LexError.{LexError}
use Rattle.lua_token.specs.declared.lexer.LexError.TheVariants.{Memory, Fault}
use Rattle.lua_token.specs.declared.front.Front.TheVariants.{End, Gap, Item, Bad}
use Rattle.lua_token.specs.Characters.{Text, first_is, is_no_end}
use Rattle.lua_token.specs.Front.{front}

-- The tokens that spell what is left of a text, from a byte and a line on.
pub data Spells : ℕ → ℕ → Text → List Token → Type 0 where
  done : {at line : ℕ} {bytes : Text} → front bytes ≡ End → Spells at line bytes []
  gap : {at line n lines : ℕ} {bytes : Text} {ts : List Token} → front bytes ≡ Gap n lines
      → Spells (at + n) (line + lines) (drop n bytes) ts → Spells at line bytes ts
  item : {at line n lines : ℕ} {kind : TokenKind} {bytes : Text} {ts : List Token} → front bytes ≡ Item kind n lines
      → Spells (at + n) (line + lines) (drop n bytes) ts
      → Spells at line bytes (record { kind = kind; line = line; from = at; to = at + n } ∷ ts)

-- The first fault of what is left of a text: tokens spell what is before it. Its line is where its token begins.
pub data Faulty : ℕ → ℕ → Text → SyntaxFault → Type 0 where
  here : {at line : ℕ} {kind : SyntaxKind} {bytes : Text} → front bytes ≡ Bad kind → Faulty at line bytes (record { line = line; kind = kind })
  after_gap : {at line n lines : ℕ} {bytes : Text} {f : SyntaxFault} → front bytes ≡ Gap n lines
      → Faulty (at + n) (line + lines) (drop n bytes) f → Faulty at line bytes f
  after_item : {at line n lines : ℕ} {kind : TokenKind} {bytes : Text} {f : SyntaxFault} → front bytes ≡ Item kind n lines
      → Faulty (at + n) (line + lines) (drop n bytes) f → Faulty at line bytes f

-- the greatest length of a script, in bytes
abbrev pub max_len : ℕ
max_len = 1048576

-- the bytes of a first line that begins with `#`, which is skipped
abbrev pub hash_line : Text → ℕ
hash_line bytes = if first_is (λ b. b == 35) bytes then length (take_while is_no_end bytes) else 0

-- the tokens that spell a text
abbrev pub IsSpelling : Text → List Token → Type 0
IsSpelling bytes ts = (length bytes ≤ max_len) × Spells (hash_line bytes) 1 (drop (hash_line bytes) bytes) ts

-- the first lexical fault of a text
pub data IsLexicalFault : Text → SyntaxFault → Type 0 where
  too_long : {bytes : Text} → max_len < length bytes → IsLexicalFault bytes (record { line = 1; kind = TooLong })
  faulty : {bytes : Text} {f : SyntaxFault} → length bytes ≤ max_len
      → Faulty (hash_line bytes) 1 (drop (hash_line bytes) bytes) f → IsLexicalFault bytes f

-- what a lexer answers, unless memory is wanting
abbrev pub Lexed : Text → Result (List Token) LexError → Type 0
Lexed bytes (Ok ts) = IsSpelling bytes ts
Lexed bytes (Err (Fault f)) = IsLexicalFault bytes f
Lexed bytes (Err Memory) = Unit {0}
