use Rattle.std.proofs.Common.{◌≡◌, ◌^◌, ◌%◌, take}
use Rattle.lua_token.specs.Numerals.{hex_value}
use Rattle.lua_token.proofs.number.wrapped_hex_value.Given as goal

abbrev pub invariant-loop-b : goal.invariant-loop-b
invariant-loop-b l = l.value ≡ hex_value (take l.b-index l.text) % 2 ^ 64
