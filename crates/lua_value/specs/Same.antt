-- Equality and truth of values (Lua 5.4 manual, sections 3.4.4 and 3.3.4).
use Rattle.std.specs.Prelude.{◌==◌, Bool, true, false, not}
use Rattle.std.specs.Ordering.{int_eq}
use Rattle.lua_value.specs.declared.value.Value.{Value}
use Rattle.lua_value.specs.declared.value.Value.TheVariants as value

abbrev pub same_bool : Bool → Bool → Bool
same_bool true b = b
same_bool false b = not b

-- two values are the same: of one type, and equal there
abbrev pub same : Value → Value → Bool
same value.Nil value.Nil = true
same (value.Bool a) (value.Bool b) = same_bool a b
same (value.Int a) (value.Int b) = int_eq a b
same (value.Text a) (value.Text b) = a == b
same (value.Table a) (value.Table b) = a == b
same (value.Func a) (value.Func b) = a == b
same (value.Native a) (value.Native b) = a == b
same (value.Thread a) (value.Thread b) = a == b
same (value.Packed a) (value.Packed b) = a == b
same _ _ = false

abbrev pub is_nil : Value → Bool
is_nil value.Nil = true
is_nil _ = false

-- only nil and false are false
abbrev pub is_true : Value → Bool
is_true value.Nil = false
is_true (value.Bool b) = b
is_true _ = true
