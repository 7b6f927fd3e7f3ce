-- The texts of errors that operations raise.
use Rattle.std.specs.Prelude.{ℕ, List, ◌++◌, codes, decimal}
use Rattle.lua_value.specs.declared.value.Value.{Value}
use Rattle.lua_value.specs.TypeName.{type_name}
use Rattle.lua_model.specs.declared.refusal.Refusal.{Refusal}
use Rattle.lua_model.specs.declared.refusal.Refusal.TheVariants as refusal

abbrev pub on_value : List ℕ → Value → List ℕ
on_value start v = start ++ type_name v ++ codes " value"

abbrev pub compare_text : Value → Value → List ℕ
compare_text u v = codes "attempt to compare " ++ type_name u ++ codes " with " ++ type_name v

abbrev pub refusal_text : Refusal → List ℕ
refusal_text (refusal.Arithmetic v) = on_value (codes "attempt to perform arithmetic on a ") v
refusal_text (refusal.Bitwise v) = on_value (codes "attempt to perform bitwise operation on a ") v
refusal_text (refusal.Concatenate v) = on_value (codes "attempt to concatenate a ") v
refusal_text (refusal.Length v) = on_value (codes "attempt to get length of a ") v
refusal_text (refusal.Compare u v) = compare_text u v
refusal_text (refusal.Index v) = on_value (codes "attempt to index a ") v
refusal_text (refusal.Call v) = on_value (codes "attempt to call a ") v
refusal_text refusal.DivideByZero = codes "attempt to divide by zero"
refusal_text refusal.ForValues = codes "for values must be integers"
refusal_text refusal.ForStep = codes "for step is zero"
refusal_text refusal.NilIndex = codes "index is nil"
refusal_text refusal.StackOverflow = codes "stack overflow"
refusal_text refusal.ChainTooLong = codes "metamethod chain too long"

-- `name.lua:line: `, which stands before the text
abbrev pub position_text : List ℕ → ℕ → List ℕ
position_text name line = name ++ codes ".lua:" ++ decimal line ++ codes ": "
