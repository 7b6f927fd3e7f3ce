-- What an operation on values answers.
use Rattle.std.specs.Prelude.{ℕ, List, Bool}
use Rattle.lua_value.specs.declared.value.Value.{Value}
use Rattle.lua_value.specs.declared.value.Value.TheVariants as value
use Rattle.lua_model.specs.declared.refusal.Refusal.{Refusal}

pub data Answer : Type 0 where
  -- this value, and nothing is made
  Plain : (v : Value) → Answer
  -- a new string of these bytes
  Fresh : (bytes : List ℕ) → Answer
  -- an error
  Refused : (why : Refusal) → Answer

abbrev pub truth : Bool → Answer
truth b = Plain (value.Bool b)
