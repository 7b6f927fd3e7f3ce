-- Signs (Lua 5.4 manual, section 3.1): the longest that stands first is taken.
use Rattle.std.specs.Prelude.{if◌then◌else◌, Option, Some, None, codes}
use Rattle.std.specs.Str.{bytes_eq}
use Rattle.lua_tree.specs.declared.token.Sign.{Sign}
use Rattle.lua_tree.specs.declared.token.Sign.TheVariants as sign
use Rattle.lua_token.specs.Characters.{Text}

-- signs of three bytes
abbrev pub sign_of_three : Text → Option Sign
sign_of_three text =
    if bytes_eq text (codes "...") then Some sign.Dots
    else None

-- signs of two bytes
abbrev pub sign_of_two : Text → Option Sign
sign_of_two text =
    if bytes_eq text (codes "//") then Some sign.DoubleSlash
    else (if bytes_eq text (codes "<<") then Some sign.ShiftLeft
    else (if bytes_eq text (codes ">>") then Some sign.ShiftRight
    else (if bytes_eq text (codes "==") then Some sign.Equal
    else (if bytes_eq text (codes "~=") then Some sign.NotEqual
    else (if bytes_eq text (codes "<=") then Some sign.LessEqual
    else (if bytes_eq text (codes ">=") then Some sign.GreaterEqual
    else (if bytes_eq text (codes "::") then Some sign.DoubleColon
    else (if bytes_eq text (codes "..") then Some sign.Concat
    else None))))))))

-- signs of one byte
abbrev pub sign_of_one : Text → Option Sign
sign_of_one text =
    if bytes_eq text (codes "+") then Some sign.Plus
    else (if bytes_eq text (codes "-") then Some sign.Minus
    else (if bytes_eq text (codes "*") then Some sign.Star
    else (if bytes_eq text (codes "/") then Some sign.Slash
    else (if bytes_eq text (codes "%") then Some sign.Percent
    else (if bytes_eq text (codes "^") then Some sign.Caret
    else (if bytes_eq text (codes "#") then Some sign.Hash
    else (if bytes_eq text (codes "&") then Some sign.Ampersand
    else (if bytes_eq text (codes "~") then Some sign.Tilde
    else (if bytes_eq text (codes "|") then Some sign.Bar
    else (if bytes_eq text (codes "<") then Some sign.Less
    else (if bytes_eq text (codes ">") then Some sign.Greater
    else (if bytes_eq text (codes "=") then Some sign.Assign
    else (if bytes_eq text (codes "(") then Some sign.OpenParen
    else (if bytes_eq text (codes ")") then Some sign.CloseParen
    else (if bytes_eq text (codes "{") then Some sign.OpenBrace
    else (if bytes_eq text (codes "}") then Some sign.CloseBrace
    else (if bytes_eq text (codes "[") then Some sign.OpenBracket
    else (if bytes_eq text (codes "]") then Some sign.CloseBracket
    else (if bytes_eq text (codes ";") then Some sign.Semicolon
    else (if bytes_eq text (codes ":") then Some sign.Colon
    else (if bytes_eq text (codes ",") then Some sign.Comma
    else (if bytes_eq text (codes ".") then Some sign.Dot
    else None))))))))))))))))))))))
