use Rattle.std.proofs.lemmas.Int.{wrapping_add_is}
use Rattle.std.proofs.Common.{rules, ◌≡◌, ◌≢◌, pos, ℕ, ◌+◌, ◌-◌, ◌*◌, ◌<◌, ◌≤◌, length, ◌/◌, ◌%◌, Bool, true, false, nat_eq, nat_lt, List, [], ◌∷◌, ◌++◌, slice_index_or, slice_set, bit_and, bit_or, Fits, w8, w32, w64, Bor, MutBor, ℤ, ◌+ℤ◌, ◌-ℤ◌, ◌*ℤ◌, ◌≤ℤ◌, ◌<ℤ◌, FitsSigned, to_z, of_z}
use Rattle.lua_model.specs.Integer as lua
use Rattle.lua_operators.proofs.integer.add.Goals as goal

-- src/integer.rt:6:1
pub returns : goal.returns
returns c = wrapping_add_is w64 c.args.a c.args.b c.ranges.a c.ranges.b
