use Rattle.std.proofs.lemmas.Int.{wrapping_sub_is}
use Rattle.std.proofs.Common.{rules, ◌≡◌, ◌≢◌, pos, ℕ, ◌+◌, ◌-◌, ◌*◌, ◌<◌, ◌≤◌, length, ◌/◌, ◌%◌, Bool, true, false, nat_eq, nat_lt, List, [], ◌∷◌, ◌++◌, slice_index_or, slice_set, bit_and, bit_or, Fits, w8, w32, w64, Bor, MutBor, ℤ, ◌+ℤ◌, ◌-ℤ◌, ◌*ℤ◌, ◌≤ℤ◌, ◌<ℤ◌, FitsSigned, to_z, of_z}
use Rattle.lua_model.specs.Integer as lua
use Rattle.lua_operators.proofs.integer.sub.Goals as goal

-- src/integer.rt:12:1
pub returns : goal.returns
returns c = wrapping_sub_is w64 c.args.a c.args.b c.ranges.a c.ranges.b
