use Rattle.std.proofs.Common.{◌∙◌}
use Rattle.std.proofs.lemmas.Int.{to_z-of_z}
use Rattle.lua_operators.proofs.Integers.{modulo_is}
use Rattle.std.proofs.Common.{rules, ◌≡◌, ◌≢◌, pos, ℕ, ◌+◌, ◌-◌, ◌*◌, ◌<◌, ◌≤◌, length, ◌/◌, ◌%◌, Bool, true, false, nat_eq, nat_lt, List, [], ◌∷◌, ◌++◌, slice_index_or, slice_set, bit_and, bit_or, Fits, w8, w32, w64, Bor, MutBor, ℤ, ◌+ℤ◌, ◌-ℤ◌, ◌*ℤ◌, ◌≤ℤ◌, ◌<ℤ◌, FitsSigned, to_z, of_z}
use Rattle.lua_model.specs.Integer as lua
use Rattle.lua_operators.proofs.integer.modulo.Goals as goal

-- src/integer.rt:47:1
pub returns : goal.returns
returns c =
    let r : c.floor_div.result ≡ lua.floor_div c.args.a c.args.b =
    c.floor_div.ensures ∙ (λ i. lua.floor_div (to_z-of_z w64 c.args.a c.ranges.a i) (to_z-of_z w64 c.args.b c.ranges.b i)) in
    modulo_is c.args.a c.args.b c.floor_div.result c.ranges.a c.ranges.b (record { sfits = c.floor_div.type_inv }) c.requires r
