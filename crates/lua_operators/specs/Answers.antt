-- The answers of operations, as contracts see them (manual, section 3.4).
use Rattle.std.specs.Prelude.{ℤ}
use Rattle.lua_value.specs.declared.value.Value.{Value}
use Rattle.lua_value.specs.declared.value.Value.TheVariants.{Int}
use Rattle.lua_model.specs.Answer as model
use Rattle.lua_operators.specs.declared.answer.Answer.{Answer}
use Rattle.lua_operators.specs.declared.answer.Answer.TheVariants.{Plain, Fresh, Refused}

abbrev pub told : Answer → model.Answer
told (Plain v) = model.Plain v
told (Fresh bytes) = model.Fresh bytes
told (Refused why) = model.Refused why

-- one of the two is no integer
abbrev pub NotBothIntegers : Value → Value → Type 0
NotBothIntegers (Int a) (Int b) = ⊥
NotBothIntegers _ _ = Unit {0}
