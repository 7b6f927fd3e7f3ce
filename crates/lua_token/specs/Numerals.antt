-- Numerals: integers in decimal that fit 63 bits, and in hexadecimal modulo 2 ^ 64 (Lua 5.4 manual, section 3.1).
use Rattle.std.specs.Prelude.{ℕ, ℤ, pos, ◌+◌, ◌-◌, ◌*◌, ◌%◌, ◌^◌, ◌==◌, ◌||◌, ◌&&◌, Bool, false, [], ◌∷◌, fold, nat_le, nat_lt, if◌then◌else◌, Option, Some, None}
use Rattle.std.specs.List.{list_all}
use Rattle.std.specs.Int.{w64, cast_signed}
use Rattle.lua_token.specs.Characters.{Text, is_digit, is_hex_digit}

-- the number that decimal digits spell
abbrev pub decimal_value : Text → ℕ
decimal_value text = fold (λ n b. 10 * n + (b - 48)) 0 text

-- what a hexadecimal digit is worth
abbrev pub hex_digit_value : ℕ → ℕ
hex_digit_value b = if nat_le b 57 then b - 48 else (if nat_le b 70 then b - 55 else b - 87)

-- the number that hexadecimal digits spell
abbrev pub hex_value : Text → ℕ
hex_value text = fold (λ n b. 16 * n + hex_digit_value b) 0 text

abbrev pub decimal : Text → Option ℤ
decimal text = if list_all is_digit text && nat_lt (decimal_value text) (2 ^ 63) then Some (pos (decimal_value text)) else None

abbrev pub is_some_hex : Text → Bool
is_some_hex [] = false
is_some_hex (b ∷ bs) = list_all is_hex_digit (b ∷ bs)

abbrev pub hexadecimal : Text → Option ℤ
hexadecimal digits = if is_some_hex digits then Some (cast_signed w64 (hex_value digits % 2 ^ 64)) else None

-- the integer that a numeral spells
abbrev pub integer_of : Text → Option ℤ
integer_of (a ∷ (b ∷ digits)) = if a == 48 && (b == 120 || b == 88) then hexadecimal digits else decimal (a ∷ (b ∷ digits))
integer_of text = decimal text
