-- Lists of values: what stands past the end is nil (Lua 5.4 manual, section 3.3.3).
use Rattle.std.specs.Prelude.{ℕ, zero, suc, List, [], ◌∷◌, Option, Some, None, slice_get}
use Rattle.lua_value.specs.declared.value.Value.{Value}
use Rattle.lua_value.specs.declared.value.Value.TheVariants as value

abbrev pub or_nil : Option Value → Value
or_nil None = value.Nil
or_nil (Some v) = v

abbrev pub value_at : List Value → ℕ → Value
value_at vs place = or_nil (slice_get vs place)

-- the first value, or nil
abbrev pub first : List Value → Value
first [] = value.Nil
first (v ∷ vs) = v

-- cut or filled with nil to a length
abbrev pub adjusted : ℕ → List Value → List Value
adjusted zero vs = []
adjusted (suc n) [] = value.Nil ∷ adjusted n []
adjusted (suc n) (v ∷ vs) = v ∷ adjusted n vs
