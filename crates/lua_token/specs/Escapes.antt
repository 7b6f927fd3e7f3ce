-- Escapes of short strings (Lua 5.4 manual, section 3.1): what stands after the backslash.
use Rattle.std.specs.Prelude.{ℕ, ◌+◌, ◌/◌, ◌%◌, ◌==◌, ◌&&◌, [], ◌∷◌, take, drop, length, take_while, nat_le, nat_lt, ◌≤◌, if◌then◌else◌, Option, Some, None}
use Rattle.lua_token.specs.declared.escape.Escape.{Escape}
use Rattle.lua_token.specs.declared.escape.Stands.{Stands}
use Rattle.lua_token.specs.declared.escape.Stands.TheVariants.{Nothing, Byte, Char}
use Rattle.lua_token.specs.Characters.{Text, end_len, first_is, is_digit, is_end, is_hex_digit, is_space, line_ends}
use Rattle.lua_token.specs.Numerals.{decimal_value, hex_value}

-- a character's code in UTF-8, in one to four bytes
abbrev pub utf8 : ℕ → Text
utf8 c =
    if nat_lt c 128 then c ∷ []
    else (if nat_lt c 2048 then (192 + c / 64) ∷ ((128 + c % 64) ∷ [])
    else (if nat_lt c 65536 then (224 + c / 4096) ∷ ((128 + c / 64 % 64) ∷ ((128 + c % 64) ∷ []))
    else (240 + c / 262144) ∷ ((128 + c / 4096 % 64) ∷ ((128 + c / 64 % 64) ∷ ((128 + c % 64) ∷ [])))))

-- the bytes that an escape stands for
abbrev pub bytes_of : Stands → Text
bytes_of Nothing = []
bytes_of (Byte b) = b ∷ []
bytes_of (Char c) = utf8 c

-- a character's code is at most 10FFFF
abbrev pub IsInRange : Stands → Type 0
IsInRange (Char c) = c ≤ 1114111
IsInRange _ = Unit {0}

abbrev pub escape_of : Stands → ℕ → ℕ → Escape
escape_of stands len lines = record { stands = stands; len = len; lines = lines }

-- an escape of one letter or sign
abbrev pub sign_escape : ℕ → Option ℕ
sign_escape b =
    if b == 97 then Some 7 else (if b == 98 then Some 8 else (if b == 102 then Some 12
    else (if b == 110 then Some 10 else (if b == 114 then Some 13 else (if b == 116 then Some 9
    else (if b == 118 then Some 11 else (if b == 92 then Some 92 else (if b == 34 then Some 34
    else (if b == 39 then Some 39 else None)))))))))

-- \z and the white space after it stand for nothing
abbrev pub space_escape : Text → Escape
space_escape bs = escape_of Nothing (1 + length (take_while is_space bs)) (line_ends (take_while is_space bs))

-- \x and two hexadecimal digits
abbrev pub hex_escape : Text → Option Escape
hex_escape (a ∷ (b ∷ bs)) = if is_hex_digit a && is_hex_digit b then Some (escape_of (Byte (hex_value (a ∷ (b ∷ [])))) 3 0) else None
hex_escape _ = None

-- one to three decimal digits, up to 255
abbrev pub decimal_escape : Text → Option Escape
decimal_escape digits = if nat_le (decimal_value digits) 255 then Some (escape_of (Byte (decimal_value digits)) (length digits) 0) else None

-- the digits of \u{..}, where the brace is closed and the value is at most 10FFFF
abbrev pub char_digits : Text → Text → Option Escape
char_digits digits after =
    if first_is (λ b. b == 125) after && (nat_lt 0 (length digits) && nat_le (hex_value digits) 1114111)
    then Some (escape_of (Char (hex_value digits)) (length digits + 3) 0) else None

abbrev pub char_escape : Text → Option Escape
char_escape [] = None
char_escape (b ∷ bs) = if b == 123 then char_digits (take_while is_hex_digit bs) (drop (length (take_while is_hex_digit bs)) bs) else None

abbrev pub sign_or : Option ℕ → Option Escape → Option Escape
sign_or (Some b) other = Some (escape_of (Byte b) 1 0)
sign_or None other = other

abbrev pub digit_escape : ℕ → Text → Option Escape
digit_escape b bs = if is_digit b then decimal_escape (take 3 (take_while is_digit (b ∷ bs))) else None

abbrev pub letter_escape : ℕ → Text → Option Escape
letter_escape b bs =
    if b == 122 then Some (space_escape bs)
    else (if b == 120 then hex_escape bs
    else (if b == 117 then char_escape bs
    else digit_escape b bs))

-- an end of line stands for a line feed
abbrev pub other_escape : ℕ → Text → Option Escape
other_escape b bs = if is_end b then Some (escape_of (Byte 10) (end_len b bs) 1) else letter_escape b bs

-- what stands after a backslash; there is none where it is no escape
abbrev pub escape : Text → Option Escape
escape [] = None
escape (b ∷ bs) = sign_or (sign_escape b) (other_escape b bs)
