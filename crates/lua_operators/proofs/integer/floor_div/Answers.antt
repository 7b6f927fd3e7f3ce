use Rattle.std.proofs.Common.{ap, subst, ◌∙◌, arith}
use Rattle.std.specs.Prelude.{unsigned_abs, int_lt}
use Rattle.std.proofs.Math.Nat.{div-le_self}
use Rattle.std.proofs.lemmas.Int.{to_z-of_z}
use Rattle.lua_operators.proofs.Integers.{floor_of_negatives}
use Rattle.std.proofs.Common.{rules, ◌≡◌, ◌≢◌, pos, ℕ, ◌+◌, ◌-◌, ◌*◌, ◌<◌, ◌≤◌, length, ◌/◌, ◌%◌, Bool, true, false, nat_eq, nat_lt, List, [], ◌∷◌, ◌++◌, slice_index_or, slice_set, bit_and, bit_or, Fits, w8, w32, w64, Bor, MutBor, ℤ, ◌+ℤ◌, ◌-ℤ◌, ◌*ℤ◌, ◌≤ℤ◌, ◌<ℤ◌, FitsSigned, to_z, of_z}
use Rattle.lua_model.specs.Integer as lua
use Rattle.lua_operators.proofs.integer.floor_div.Goals as goal

-- src/integer.rt:31:1
pub returns-else-a-gt0 : goal.returns-else-a-gt0
returns-else-a-gt0 c =
    let n = c.unsigned_abs-else-a-gt0.result in
    let m = c.unsigned_abs-by.result in
    let a : n ≡ unsigned_abs c.args.a = c.unsigned_abs-else-a-gt0.ensures.value ∙ ap unsigned_abs (to_z-of_z w64 c.args.a c.ranges.a) in
    let b : m ≡ unsigned_abs c.args.b = c.unsigned_abs-by.ensures.value ∙ ap unsigned_abs (to_z-of_z w64 c.args.b c.ranges.b) in
    let quotient : n / m ≡ unsigned_abs c.args.a / unsigned_abs c.args.b = (λ i. a i / b i) in
    let small : n / m < 18446744073709551616 = omega (arith, div-le_self n m, c.unsigned_abs-else-a-gt0.type_inv) in
    let na = subst (λ z. int_lt (pos 0) z ≡ false) (to_z-of_z w64 c.args.a c.ranges.a) c.if-a-gt0.false in
    let nb = subst (λ z. int_lt (pos 0) z ≡ false) (to_z-of_z w64 c.args.b c.ranges.b) c.if-b-gt0.false in
    to_z-of_z w64 c.cast_signed-else-a-gt0.result (record { sfits = c.cast_signed-else-a-gt0.type_inv }) ∙ c.cast_signed-else-a-gt0.ensures ∙ ap (to_z w64) quotient
    ∙ floor_of_negatives c.args.a c.args.b c.requires na nb (subst (λ k. k < 18446744073709551616) quotient small)
