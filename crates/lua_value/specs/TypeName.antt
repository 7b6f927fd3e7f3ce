-- The name of a value's type (Lua 5.4 manual, section 6.1, `type`).
use Rattle.std.specs.Prelude.{List, ℕ, codes}
use Rattle.lua_value.specs.declared.value.Value.{Value}
use Rattle.lua_value.specs.declared.value.Value.TheVariants as value

abbrev pub type_name : Value → List ℕ
type_name value.Nil = codes "nil"
type_name (value.Bool b) = codes "boolean"
type_name (value.Int z) = codes "number"
type_name (value.Text k) = codes "string"
type_name (value.Table k) = codes "table"
type_name (value.Func k) = codes "function"
type_name (value.Native k) = codes "function"
type_name (value.Thread k) = codes "thread"
type_name (value.Packed k) = codes "userdata"
