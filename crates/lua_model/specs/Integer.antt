-- Arithmetic and bits of integers (Lua 5.4 manual, sections 3.4.1 and 3.4.2).
-- An integer is of 64 bits; what an operation gives is taken modulo 2 ^ 64, as a signed number.
use Rattle.std.specs.Prelude.{ℕ, zero, suc, ◌/◌, ◌^◌, ltb, if◌then◌else◌, pos, negsuc, ◌+ℤ◌, ◌-ℤ◌, ◌*ℤ◌, neg_ℤ, ℤ}
use Rattle.std.specs.Int.{w64, cast_signed, cast_unsigned, int_wrap, int_bit_and, int_bit_or, int_bit_xor, int_bit_not, int_shl}

-- the integer of 64 bits that differs by a multiple of 2 ^ 64
abbrev pub wrap : ℤ → ℤ
wrap z = int_wrap w64 z

abbrev pub add : ℤ → ℤ → ℤ
add a b = wrap (a +ℤ b)

abbrev pub sub : ℤ → ℤ → ℤ
sub a b = wrap (a -ℤ b)

abbrev pub mul : ℤ → ℤ → ℤ
mul a b = wrap (a *ℤ b)

abbrev pub minus : ℤ → ℤ
minus a = wrap (neg_ℤ a)

-- the quotient rounded to minus infinity, for a divisor that is not 0
abbrev pub floor : ℤ → ℤ → ℤ
floor (pos a) (pos b) = pos (a / b)
floor (negsuc a) (pos b) = negsuc (a / b)
floor (pos zero) (negsuc b) = pos zero
floor (pos (suc a)) (negsuc b) = negsuc (a / suc b)
floor (negsuc a) (negsuc b) = pos (suc a / suc b)

abbrev pub floor_div : ℤ → ℤ → ℤ
floor_div a b = wrap (floor a b)

-- what the rounded quotient leaves
abbrev pub modulo : ℤ → ℤ → ℤ
modulo a b = a -ℤ (b *ℤ floor a b)

abbrev pub bit_and : ℤ → ℤ → ℤ
bit_and a b = int_bit_and w64 a b

abbrev pub bit_or : ℤ → ℤ → ℤ
bit_or a b = int_bit_or w64 a b

abbrev pub bit_xor : ℤ → ℤ → ℤ
bit_xor a b = int_bit_xor w64 a b

abbrev pub bit_not : ℤ → ℤ
bit_not a = int_bit_not w64 a

-- logical shifts; by 64 places or more nothing is left
abbrev pub left_by : ℤ → ℕ → ℤ
left_by a n = if ltb n 64 then int_shl w64 a n else pos 0

abbrev pub right_by : ℤ → ℕ → ℤ
right_by a n = if ltb n 64 then cast_signed w64 (cast_unsigned w64 a / 2 ^ n) else pos 0

-- by a negative number they go the other way
abbrev pub shift_left : ℤ → ℤ → ℤ
shift_left a (pos n) = left_by a n
shift_left a (negsuc n) = right_by a (suc n)

abbrev pub shift_right : ℤ → ℤ → ℤ
shift_right a (pos n) = right_by a n
shift_right a (negsuc n) = left_by a (suc n)
