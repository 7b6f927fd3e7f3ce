use Rattle.std.proofs.Common.{ap, ◌∙◌}
use Rattle.std.specs.Int.{int_wrapping_neg}
use Rattle.std.proofs.lemmas.Int.{to_z-of_z, wrapping_neg_is}
use Rattle.std.proofs.Common.{rules, ◌≡◌, ◌≢◌, pos, ℕ, ◌+◌, ◌-◌, ◌*◌, ◌<◌, ◌≤◌, length, ◌/◌, ◌%◌, Bool, true, false, nat_eq, nat_lt, List, [], ◌∷◌, ◌++◌, slice_index_or, slice_set, bit_and, bit_or, Fits, w8, w32, w64, Bor, MutBor, ℤ, ◌+ℤ◌, ◌-ℤ◌, ◌*ℤ◌, ◌≤ℤ◌, ◌<ℤ◌, FitsSigned, to_z, of_z}
use Rattle.lua_model.specs.Integer as lua
use Rattle.lua_operators.proofs.integer.minus.Goals as goal

-- src/integer.rt:24:1
pub returns : goal.returns
returns c =
    to_z-of_z w64 c.wrapping_neg.result (record { sfits = c.wrapping_neg.type_inv }) ∙ c.wrapping_neg.ensures ∙ ap (int_wrapping_neg w64) (to_z-of_z w64 c.args.a c.ranges.a)
    ∙ wrapping_neg_is w64 c.args.a c.ranges.a
