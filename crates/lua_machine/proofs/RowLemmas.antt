-- A row of values is read and written one value after another.
use Rattle.std.proofs.Common.{◌≡◌, ℕ, zero, suc, ◌+◌, ◌-◌, ◌<◌, List, [], ◌∷◌, ◌++◌, drop, refl, sym, ap, ◌∙◌, arith, append_assoc}
use Rattle.std.specs.Prelude.{slice_set}
use Rattle.lua_value.specs.declared.value.Value.{Value}
use Rattle.lua_value.specs.Lists.{value_at, adjusted}
use Rattle.lua_steps.specs.Moves.{written, values_from}
use Rattle.lua_follow.proofs.Lists.{value_other}

pub from_next : (row : List Value) (s n i : ℕ) → i < n → values_from row (s + i) (n - i) ≡ value_at row (s + i) ∷ values_from row (s + (i + 1)) (n - (i + 1))
from_next row s n i lt =
    let e : n - i ≡ suc (n - (i + 1)) = omega arith in
    let p : s + i + 1 ≡ s + (i + 1) = omega arith in
    ap (values_from row (s + i)) e ∙ ap (λ (j : ℕ). value_at row (s + i) ∷ values_from row j (n - (i + 1))) p

pub from_more : (row xs all : List Value) (s n i : ℕ) → i < n → xs ++ values_from row (s + i) (n - i) ≡ all → (xs ++ value_at row (s + i) ∷ []) ++ values_from row (s + (i + 1)) (n - (i + 1)) ≡ all
from_more row xs all s n i lt e = append_assoc xs (value_at row (s + i) ∷ []) (values_from row (s + (i + 1)) (n - (i + 1))) ∙ ap (λ (ys : List Value). xs ++ ys) (sym (from_next row s n i lt)) ∙ e

adjusted_drop : (k i : ℕ) (vs : List Value) → adjusted (suc k) (drop i vs) ≡ value_at vs i ∷ adjusted k (drop (suc i) vs)
adjusted_drop k zero [] = refl
adjusted_drop k zero (v ∷ vs) = refl
adjusted_drop k (suc i) [] = refl
adjusted_drop k (suc i) (v ∷ vs) = adjusted_drop k i vs

pub adjusted_next : (n i : ℕ) (vs : List Value) → i < n → adjusted (n - i) (drop i vs) ≡ value_at vs i ∷ adjusted (n - (i + 1)) (drop (i + 1) vs)
adjusted_next n i vs lt =
    let e : n - i ≡ suc (n - (i + 1)) = omega arith in
    let p : suc i ≡ i + 1 = omega arith in
    ap (λ (k : ℕ). adjusted k (drop i vs)) e ∙ adjusted_drop (n - (i + 1)) i vs ∙ ap (λ (j : ℕ). value_at vs i ∷ adjusted (n - (i + 1)) (drop j vs)) p

pub written_next : (row all : List Value) (vs : List Value) (s n i : ℕ) → i < n → written row (s + i) (adjusted (n - i) (drop i vs)) ≡ all
    → written (slice_set row (s + i) (value_at vs i)) (s + (i + 1)) (adjusted (n - (i + 1)) (drop (i + 1) vs)) ≡ all
written_next row all vs s n i lt e =
    let p : s + (i + 1) ≡ s + i + 1 = omega arith in
    ap (λ (j : ℕ). written (slice_set row (s + i) (value_at vs i)) j (adjusted (n - (i + 1)) (drop (i + 1) vs))) p ∙ ap (λ (us : List Value). written row (s + i) us) (sym (adjusted_next n i vs lt)) ∙ e

-- a value that is written where it stands changes nothing
pub kept_set : (row : List Value) (i : ℕ) → slice_set row i (value_at row i) ≡ row
kept_set [] i = refl
kept_set (u ∷ row) zero = refl
kept_set (u ∷ row) (suc i) = ap (λ (r : List Value). u ∷ r) (kept_set row i)

-- the third of four values stands already
pub third_stays : (row : List Value) (i : ℕ) (u v w : Value) → slice_set (slice_set (slice_set row i u) (i + 1) v) (i + 3) w ≡ written row i (u ∷ v ∷ value_at row (i + 2) ∷ w ∷ [])
third_stays row i u v w =
    let r = slice_set (slice_set row i u) (i + 1) v in
    let two : i + 1 + 1 ≡ i + 2 = omega arith in
    let three : i + 3 ≡ i + 1 + 1 + 1 = omega arith in
    let held : value_at r (i + 1 + 1) ≡ value_at row (i + 2) =
    value_other (slice_set row i u) (i + 1) (i + 1 + 1) v (λ e. omega (arith, e)) ∙ value_other row i (i + 1 + 1) u (λ e. omega (arith, e)) ∙ ap (λ (k : ℕ). value_at row k) two in
    ap (λ (k : ℕ). slice_set r k w) three
    ∙ ap (λ (q : List Value). slice_set q (i + 1 + 1 + 1) w) (sym (kept_set r (i + 1 + 1)) ∙ ap (λ (x : Value). slice_set r (i + 1 + 1) x) held)
