-- Names and reserved words (Lua 5.4 manual, section 3.1).
use Rattle.std.specs.Prelude.{if◌then◌else◌, Option, Some, None, codes}
use Rattle.std.specs.Str.{bytes_eq}
use Rattle.lua_tree.specs.declared.token.Word.{Word}
use Rattle.lua_tree.specs.declared.token.Word.TheVariants as word
use Rattle.lua_tree.specs.declared.token.TokenKind.{TokenKind}
use Rattle.lua_tree.specs.declared.token.TokenKind.TheVariants as kind
use Rattle.lua_token.specs.Characters.{Text}

-- reserved words of up to four letters
abbrev pub short_word : Text → Option Word
short_word text =
    if bytes_eq text (codes "and") then Some word.And
    else (if bytes_eq text (codes "do") then Some word.Do
    else (if bytes_eq text (codes "else") then Some word.Else
    else (if bytes_eq text (codes "end") then Some word.End
    else (if bytes_eq text (codes "for") then Some word.For
    else (if bytes_eq text (codes "goto") then Some word.Goto
    else (if bytes_eq text (codes "if") then Some word.If
    else (if bytes_eq text (codes "in") then Some word.In
    else (if bytes_eq text (codes "nil") then Some word.Nil
    else (if bytes_eq text (codes "not") then Some word.Not
    else (if bytes_eq text (codes "or") then Some word.Or
    else (if bytes_eq text (codes "then") then Some word.Then
    else (if bytes_eq text (codes "true") then Some word.True
    else None))))))))))))

-- those of five letters
abbrev pub long_word : Text → Option Word
long_word text =
    if bytes_eq text (codes "break") then Some word.Break
    else (if bytes_eq text (codes "false") then Some word.False
    else (if bytes_eq text (codes "local") then Some word.Local
    else (if bytes_eq text (codes "until") then Some word.Until
    else (if bytes_eq text (codes "while") then Some word.While
    else None))))

-- the longer ones
abbrev pub longest_word : Text → Option Word
longest_word text =
    if bytes_eq text (codes "elseif") then Some word.Elseif
    else (if bytes_eq text (codes "function") then Some word.Function
    else (if bytes_eq text (codes "repeat") then Some word.Repeat
    else (if bytes_eq text (codes "return") then Some word.Return
    else None)))

abbrev pub word_or : Option Word → Option Word → Option Word
word_or (Some w) other = Some w
word_or None other = other

abbrev pub word_of : Text → Option Word
word_of text = word_or (short_word text) (word_or (long_word text) (longest_word text))

abbrev pub name_or : Option Word → Text → TokenKind
name_or (Some w) text = kind.Word w
name_or None text = kind.Name text

-- a reserved word, or else a name
abbrev pub named : Text → TokenKind
named text = name_or (word_of text) text
