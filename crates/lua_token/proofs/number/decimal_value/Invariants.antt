use Rattle.std.proofs.Common.{◌≡◌, ◌^◌, min, take}
use Rattle.lua_token.specs.Numerals.{decimal_value}
use Rattle.lua_token.proofs.number.decimal_value.Given as goal

abbrev pub invariant-loop-b : goal.invariant-loop-b
invariant-loop-b l = l.value ≡ min (decimal_value (take l.b-index l.text)) (2 ^ 63)
