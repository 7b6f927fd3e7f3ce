-- Kinds of bytes, and ends of lines (Lua 5.4 manual, section 3.1).
use Rattle.std.specs.Prelude.{ℕ, zero, suc, ◌+◌, ◌==◌, ◌||◌, ◌&&◌, not, Bool, false, List, [], ◌∷◌, nat_le, if◌then◌else◌}

abbrev pub Text : Type 0
Text = List ℕ

abbrev pub is_blank : ℕ → Bool
is_blank b = b == 32 || (b == 9 || (b == 11 || b == 12))

abbrev pub is_end : ℕ → Bool
is_end b = b == 10 || b == 13

abbrev pub is_space : ℕ → Bool
is_space b = is_blank b || is_end b

abbrev pub is_digit : ℕ → Bool
is_digit b = nat_le 48 b && nat_le b 57

abbrev pub is_hex_digit : ℕ → Bool
is_hex_digit b = is_digit b || ((nat_le 65 b && nat_le b 70) || (nat_le 97 b && nat_le b 102))

-- a letter or an underscore
abbrev pub is_letter : ℕ → Bool
is_letter b = (nat_le 65 b && nat_le b 90) || ((nat_le 97 b && nat_le b 122) || b == 95)

abbrev pub is_name_byte : ℕ → Bool
is_name_byte b = is_letter b || is_digit b

abbrev pub is_numeral_byte : ℕ → Bool
is_numeral_byte b = is_name_byte b || b == 46

abbrev pub is_no_end : ℕ → Bool
is_no_end b = not (is_end b)

abbrev pub is_equals : ℕ → Bool
is_equals b = b == 61

-- the text begins with a byte of this kind
abbrev pub first_is : (ℕ → Bool) → Text → Bool
first_is kind [] = false
first_is kind (b ∷ bs) = kind b

-- after an end of line the other end of line belongs to it
abbrev pub is_other_end : ℕ → ℕ → Bool
is_other_end a b = is_end b && not (a == b)

-- the bytes of an end of line that begins with this byte: one, or two that differ
abbrev pub end_len : ℕ → Text → ℕ
end_len a bs = if first_is (is_other_end a) bs then 2 else 1

-- how many ends of line the text has, where these first bytes belong to the one before
abbrev pub line_ends_from : ℕ → Text → ℕ
line_ends_from skip [] = 0
line_ends_from (suc k) (b ∷ bs) = line_ends_from k bs
line_ends_from zero (b ∷ bs) =
    if is_end b then 1 + line_ends_from (if first_is (is_other_end b) bs then 1 else 0) bs
    else line_ends_from 0 bs

abbrev pub line_ends : Text → ℕ
line_ends text = line_ends_from 0 text
