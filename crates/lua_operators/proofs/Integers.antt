-- The rounded quotient and what it leaves, of integers of 64 bits.
use Rattle.std.proofs.Common.{◌≡◌, ◌≢◌, ℕ, zero, suc, ◌+◌, ◌-◌, ◌*◌, ◌/◌, ◌%◌, ◌<◌, ◌≤◌, refl, sym, ap, ◌∙◌, subst, arith, false, true, ℤ, pos, negsuc, ◌+ℤ◌, ◌-ℤ◌, ◌*ℤ◌, FitsSigned, w64, to_z, of_z}
use Rattle.std.specs.Prelude.{neg_ℤ, unsigned_abs, int_lt}
use Rattle.std.specs.Int.{int_wrap}
use Rattle.std.proofs.Math.Nat.{mod-eq_of_lt, mod-lt, div-eq_of_lt}
use Rattle.std.proofs.lemmas.Nat.{div-add-mod'}
use Rattle.std.proofs.lemmas.Int.{ints, int_wrap_fits, int_wrap-mul_right, int_wrap-sub_right, SFits-int_wrap, wrapping_sub_is, wrapping_mul_is, of_z-to_z}
use Rattle.lua_model.specs.Integer as lua

pub wrap_natural : (k : ℕ) → k < 18446744073709551616 → int_wrap w64 (pos k) ≡ to_z w64 k
unfolding int_wrap
wrap_natural k h = ap (to_z w64) (mod-eq_of_lt h)

-- a divisor below 0, and a dividend that is not above it
pub floor_of_negatives : (a b : ℤ) → b ≢ pos 0 → int_lt (pos 0) a ≡ false → int_lt (pos 0) b ≡ false → unsigned_abs a / unsigned_abs b < 18446744073709551616
    → to_z w64 (unsigned_abs a / unsigned_abs b) ≡ lua.floor_div a b
floor_of_negatives a (pos zero) some na nb h = absurd (some refl)
floor_of_negatives a (pos (suc b)) some na nb h = absurd (omega (arith, ints, nb))
floor_of_negatives (pos zero) (negsuc b) some na nb h = (let e : zero / suc b ≡ zero = div-eq_of_lt (omega arith) in ap (to_z w64) e ∙ sym (wrap_natural zero (omega arith)))
floor_of_negatives (pos (suc a)) (negsuc b) some na nb h = absurd (omega (arith, ints, na))
floor_of_negatives (negsuc a) (negsuc b) some na nb h = sym (wrap_natural _ h)

-- ---- what the quotient leaves
fits_natural : (x : ℕ) → x < 9223372036854775808 → FitsSigned w64 (pos x)
fits_natural x h = record { sfits = h }

fits_negative : (x : ℕ) → x < 9223372036854775808 → FitsSigned w64 (neg_ℤ (pos x))
fits_negative zero h = record { sfits = h }
fits_negative (suc x) h = record { sfits = omega (arith, h) }

rest_pos_pos : (a b : ℕ) → pos a -ℤ (pos (suc b) *ℤ pos (a / suc b)) ≡ pos (a % suc b)
rest_pos_pos a b = (let e = div-add-mod' a (suc b) in omega (arith, ints, e))

rest_neg_pos : (a b : ℕ) → negsuc a -ℤ (pos (suc b) *ℤ negsuc (a / suc b)) ≡ pos (b - a % suc b)
rest_neg_pos a b = (let e = div-add-mod' a (suc b) in let l : a % suc b < suc b = mod-lt a (omega arith) in omega (arith, ints, e, l))

rest_zero : (b : ℕ) → pos 0 -ℤ (negsuc b *ℤ pos 0) ≡ pos 0
rest_zero b = omega (arith, ints)

rest_pos_neg : (a b : ℕ) → pos (suc a) -ℤ (negsuc b *ℤ negsuc (a / suc b)) ≡ neg_ℤ (pos (b - a % suc b))
rest_pos_neg a b = (let e = div-add-mod' a (suc b) in let l : a % suc b < suc b = mod-lt a (omega arith) in omega (arith, ints, e, l))

rest_neg_neg : (a b : ℕ) → negsuc a -ℤ (negsuc b *ℤ pos (suc a / suc b)) ≡ neg_ℤ (pos (suc a % suc b))
rest_neg_neg a b = (let e = div-add-mod' (suc a) (suc b) in omega (arith, ints, e))

pub modulo_fits : (a b : ℤ) → FitsSigned w64 b → b ≢ pos 0 → FitsSigned w64 (lua.modulo a b)
modulo_fits a (pos zero) g some = absurd (some refl)
modulo_fits (pos a) (pos (suc b)) g some =
    let l : a % suc b < suc b = mod-lt a (omega arith) in
    subst (λ z. FitsSigned w64 z) (sym (rest_pos_pos a b)) (fits_natural (a % suc b) (omega (arith, l, g.sfits)))
modulo_fits (negsuc a) (pos (suc b)) g some =
    subst (λ z. FitsSigned w64 z) (sym (rest_neg_pos a b)) (fits_natural (b - a % suc b) (omega (arith, g.sfits)))
modulo_fits (pos zero) (negsuc b) g some = subst (λ z. FitsSigned w64 z) (sym (rest_zero b)) (fits_natural 0 (omega arith))
modulo_fits (pos (suc a)) (negsuc b) g some =
    subst (λ z. FitsSigned w64 z) (sym (rest_pos_neg a b)) (fits_negative (b - a % suc b) (omega (arith, g.sfits)))
modulo_fits (negsuc a) (negsuc b) g some =
    let l : suc a % suc b < suc b = mod-lt (suc a) (omega arith) in
    subst (λ z. FitsSigned w64 z) (sym (rest_neg_neg a b)) (fits_negative (suc a % suc b) (omega (arith, l, g.sfits)))

pub modulo_is : (a b : ℤ) (f : ℤ) → FitsSigned w64 a → FitsSigned w64 b → FitsSigned w64 f → b ≢ pos 0 → f ≡ lua.floor_div a b
    → to_z w64 ((of_z w64 a + (18446744073709551616 - (of_z w64 b * of_z w64 f) % 18446744073709551616)) % 18446744073709551616) ≡ lua.modulo a b
modulo_is a b f fa fb ff some e =
    let n = (of_z w64 b * of_z w64 f) % 18446744073709551616 in
    let y = to_z w64 n in
    let q = lua.floor a b in
    let back : of_z w64 y ≡ n = of_z-to_z w64 n (mod-lt (of_z w64 b * of_z w64 f) (omega arith)) in
    let product : y ≡ int_wrap w64 (b *ℤ f) = wrapping_mul_is w64 b f fb ff in
    let fits : FitsSigned w64 y = subst (λ z. FitsSigned w64 z) (sym product) (SFits-int_wrap w64 (b *ℤ f)) in
    let whole : y ≡ int_wrap w64 (b *ℤ q) = product ∙ ap (λ z. int_wrap w64 (b *ℤ z)) e ∙ int_wrap-mul_right w64 b q in
    ap (λ k. to_z w64 ((of_z w64 a + (18446744073709551616 - k)) % 18446744073709551616)) (sym back) ∙ wrapping_sub_is w64 a y fa fits
    ∙ ap (λ z. int_wrap w64 (a -ℤ z)) whole ∙ int_wrap-sub_right w64 a (b *ℤ q) ∙ int_wrap_fits w64 (lua.modulo a b) (modulo_fits a b fb some)
