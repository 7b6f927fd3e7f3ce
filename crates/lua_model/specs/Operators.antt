-- The operators (Lua 5.4 manual, section 3.4), on values that are no tables.
-- Arithmetic and bits take integers alone; a string is never taken for a number.
use Rattle.std.specs.Prelude.{ℕ, zero, suc, not, List, ◌++◌, length, Option, Some, None, pos, negsuc, ℤ, int_lt}
use Rattle.std.specs.Ordering.{is_lt, is_le, nat_cmp}
use Rattle.std.specs.Cmp.Lexicographic.{slice_cmp}
use Rattle.lua_value.specs.declared.value.Value.{Value}
use Rattle.lua_value.specs.declared.value.Value.TheVariants as value
use Rattle.lua_value.specs.Same.{same, is_true}
use Rattle.lua_model.specs.declared.operator.Binary.{Binary}
use Rattle.lua_model.specs.declared.operator.Binary.TheVariants as op
use Rattle.lua_model.specs.declared.operator.Unary.{Unary}
use Rattle.lua_model.specs.declared.operator.Unary.TheVariants as un
use Rattle.lua_model.specs.declared.refusal.Refusal.{Refusal}
use Rattle.lua_model.specs.declared.refusal.Refusal.TheVariants as refusal
use Rattle.lua_model.specs.Integer as lua
use Rattle.lua_model.specs.Texts.{Texts, bytes_at, spelled}
use Rattle.lua_model.specs.Answer.{Answer, Plain, Fresh, Refused, truth}

-- both operands are integers; else the first that is none is named
abbrev pub on_integers : (Value → Refusal) → (ℤ → ℤ → Answer) → Value → Value → Answer
on_integers why go (value.Int a) (value.Int b) = go a b
on_integers why go (value.Int a) v = Refused (why v)
on_integers why go u v = Refused (why u)

abbrev pub on_integer : (Value → Refusal) → (ℤ → ℤ) → Value → Answer
on_integer why go (value.Int a) = Plain (value.Int (go a))
on_integer why go v = Refused (why v)

abbrev pub arithmetic : (ℤ → ℤ → ℤ) → Value → Value → Answer
arithmetic go u v = on_integers (λ w. refusal.Arithmetic w) (λ a b. Plain (value.Int (go a b))) u v

abbrev pub bitwise : (ℤ → ℤ → ℤ) → Value → Value → Answer
bitwise go u v = on_integers (λ w. refusal.Bitwise w) (λ a b. Plain (value.Int (go a b))) u v

-- a divisor 0 is refused
abbrev pub by_divisor : (ℤ → ℤ → ℤ) → ℤ → ℤ → Answer
by_divisor go a (pos zero) = Refused refusal.DivideByZero
by_divisor go a (pos (suc b)) = Plain (value.Int (go a (pos (suc b))))
by_divisor go a (negsuc b) = Plain (value.Int (go a (negsuc b)))

abbrev pub division : (ℤ → ℤ → ℤ) → Value → Value → Answer
division go u v = on_integers (λ w. refusal.Arithmetic w) (by_divisor go) u v

abbrev pub joined : Option (List ℕ) → Option (List ℕ) → Value → Value → Answer
joined None b u v = Refused (refusal.Concatenate u)
joined (Some a) None u v = Refused (refusal.Concatenate v)
joined (Some a) (Some b) u v = Fresh (a ++ b)

abbrev pub concat : Texts → Value → Value → Answer
concat texts u v = joined (spelled texts u) (spelled texts v) u v

-- integers by value, and strings byte by byte
abbrev pub less : Texts → Value → Value → Answer
less texts (value.Int a) (value.Int b) = truth (int_lt a b)
less texts (value.Text j) (value.Text k) = truth (is_lt (slice_cmp nat_cmp (bytes_at texts j) (bytes_at texts k)))
less texts u v = Refused (refusal.Compare u v)

abbrev pub less_equal : Texts → Value → Value → Answer
less_equal texts (value.Int a) (value.Int b) = truth (not (int_lt b a))
less_equal texts (value.Text j) (value.Text k) = truth (is_le (slice_cmp nat_cmp (bytes_at texts j) (bytes_at texts k)))
less_equal texts u v = Refused (refusal.Compare u v)

-- `a > b` is `b < a`
abbrev pub binary : Texts → Binary → Value → Value → Answer
binary texts op.Add u v = arithmetic lua.add u v
binary texts op.Sub u v = arithmetic lua.sub u v
binary texts op.Mul u v = arithmetic lua.mul u v
binary texts op.FloorDiv u v = division lua.floor_div u v
binary texts op.Mod u v = division lua.modulo u v
binary texts op.BitAnd u v = bitwise lua.bit_and u v
binary texts op.BitOr u v = bitwise lua.bit_or u v
binary texts op.BitXor u v = bitwise lua.bit_xor u v
binary texts op.ShiftLeft u v = bitwise lua.shift_left u v
binary texts op.ShiftRight u v = bitwise lua.shift_right u v
binary texts op.Concat u v = concat texts u v
binary texts op.Equal u v = truth (same u v)
binary texts op.NotEqual u v = truth (not (same u v))
binary texts op.Less u v = less texts u v
binary texts op.LessEqual u v = less_equal texts u v
binary texts op.Greater u v = less texts v u
binary texts op.GreaterEqual u v = less_equal texts v u

abbrev pub length_of : Texts → Value → Answer
length_of texts (value.Text k) = Plain (value.Int (pos (length (bytes_at texts k))))
length_of texts v = Refused (refusal.Length v)

abbrev pub unary : Texts → Unary → Value → Answer
unary texts un.Minus v = on_integer (λ w. refusal.Arithmetic w) lua.minus v
unary texts un.BitNot v = on_integer (λ w. refusal.Bitwise w) lua.bit_not v
unary texts un.Not v = truth (not (is_true v))
unary texts un.Length v = length_of texts v
