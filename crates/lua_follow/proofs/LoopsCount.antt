-- How many turns a numeric `for` makes (manual, section 3.3.5).
use Rattle.std.proofs.Common.{◌≡◌, ℕ, suc, ◌/◌, ◌<◌, refl, sym, ap, ◌∙◌, arith, false, true, ℤ, pos, negsuc, ◌-ℤ◌, ◌≤ℤ◌, FitsSigned, w64}
use Rattle.std.specs.Prelude.{Bool, int_lt, unsigned_abs, if◌then◌else◌}
use Rattle.std.specs.Int.{cast_signed, cast_unsigned}
use Rattle.std.proofs.Math.Nat.{div-le_self}
use Rattle.std.proofs.lemmas.Int.{ints, of_z-to_z}
use Rattle.lua_meaning.specs.Loops.{turns_of}
use Rattle.lua_follow.specs.Kept.{Counted}

at_least : (z : ℤ) → FitsSigned w64 z → negsuc 9223372036854775807 ≤ℤ z
at_least (pos n) f = omega (arith, ints)
at_least (negsuc n) f = let s = f.sfits in omega (arith, ints, s)

at_most : (z : ℤ) → FitsSigned w64 z → z ≤ℤ pos 9223372036854775807
at_most (pos n) f = let s = f.sfits in omega (arith, ints, s)
at_most (negsuc n) f = omega (arith, ints)

suc_is : (a b : ℕ) → suc a ≡ suc b → a ≡ b
suc_is a b e = omega (arith, e)

pub turns_up : (n c : ℕ) (a b : ℤ) → FitsSigned w64 a → FitsSigned w64 b → turns_of a b (pos (suc c)) ≡ suc n → Counted n
turns_up n c a b fa fb e = go (int_lt b a) refl
  where
    go : (t : Bool) → int_lt b a ≡ t → Counted n
    go true lt = (let is : 0 ≡ suc n = sym (ap (λ x. if x then 0 else suc (unsigned_abs (b -ℤ a) / suc c)) lt) ∙ e in absurd (omega (arith, is)))
    go false lt =
        let is : suc (unsigned_abs (b -ℤ a) / suc c) ≡ suc n = sym (ap (λ x. if x then 0 else suc (unsigned_abs (b -ℤ a) / suc c)) lt) ∙ e in
        let many : unsigned_abs (b -ℤ a) / suc c ≡ n = suc_is (unsigned_abs (b -ℤ a) / suc c) n is in
        let low = at_least a fa in
        let high = at_most b fb in
        let few : unsigned_abs (b -ℤ a) < 18446744073709551616 = omega (arith, ints, lt, low, high) in
        let less = div-le_self (unsigned_abs (b -ℤ a)) (suc c) in
        omega (arith, less, few, many)

pub turns_down : (n c : ℕ) (a b : ℤ) → FitsSigned w64 a → FitsSigned w64 b → turns_of a b (negsuc c) ≡ suc n → Counted n
turns_down n c a b fa fb e = go (int_lt a b) refl
  where
    go : (t : Bool) → int_lt a b ≡ t → Counted n
    go true lt = (let is : 0 ≡ suc n = sym (ap (λ x. if x then 0 else suc (unsigned_abs (a -ℤ b) / suc c)) lt) ∙ e in absurd (omega (arith, is)))
    go false lt =
        let is : suc (unsigned_abs (a -ℤ b) / suc c) ≡ suc n = sym (ap (λ x. if x then 0 else suc (unsigned_abs (a -ℤ b) / suc c)) lt) ∙ e in
        let many : unsigned_abs (a -ℤ b) / suc c ≡ n = suc_is (unsigned_abs (a -ℤ b) / suc c) n is in
        let low = at_least b fb in
        let high = at_most a fa in
        let few : unsigned_abs (a -ℤ b) < 18446744073709551616 = omega (arith, ints, lt, low, high) in
        let less = div-le_self (unsigned_abs (a -ℤ b)) (suc c) in
        omega (arith, less, few, many)

-- one turn less
pub counted_less : (n : ℕ) → Counted (suc n) → Counted n
counted_less n h = omega (arith, h)

-- ---- the count in a slot
pub counted_back : (n : ℕ) → Counted n → cast_unsigned w64 (cast_signed w64 n) ≡ n
counted_back n h = of_z-to_z w64 n h
