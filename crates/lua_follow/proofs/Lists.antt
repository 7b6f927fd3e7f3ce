-- Lists of values, and what a write leaves.
use Rattle.std.proofs.Common.{◌≡◌, ℕ, zero, suc, ◌+◌, ◌<◌, ◌≤◌, ◌⊎◌, inl, inr, List, [], ◌∷◌, ◌++◌, length, Some, refl, ap, ◌∙◌, arith}
use Rattle.std.specs.Prelude.{slice_get, slice_set}
use Rattle.lua_value.specs.declared.value.Value.{Value}
use Rattle.lua_value.specs.Lists.{or_nil, value_at, adjusted}
use Rattle.lua_steps.specs.Moves.{written, values_from}

-- ---- any list
pub get_at_end : {A : Type 0} (xs : List A) (x : A) → slice_get (xs ++ x ∷ []) (length xs) ≡ Some x
get_at_end [] x = refl
get_at_end (y ∷ xs) x = get_at_end xs x

pub get_before : {A : Type 0} (xs ys : List A) (i : ℕ) (x : A) → slice_get xs i ≡ Some x → slice_get (xs ++ ys) i ≡ Some x
get_before [] ys i x e = absurd (cc)
get_before (y ∷ xs) ys zero x e = e
get_before (y ∷ xs) ys (suc i) x e = get_before xs ys i x e

pub length_set : {A : Type 0} (xs : List A) (i : ℕ) (x : A) → length (slice_set xs i x) ≡ length xs
length_set [] i x = refl
length_set (y ∷ xs) zero x = refl
length_set (y ∷ xs) (suc i) x = ap (λ n. suc n) (length_set xs i x)

pub get_set : {A : Type 0} (xs : List A) (i : ℕ) (x : A) → i < length xs → slice_get (slice_set xs i x) i ≡ Some x
get_set [] i x lt = absurd (omega arith)
get_set (y ∷ xs) zero x lt = refl
get_set (y ∷ xs) (suc i) x lt = get_set xs i x (omega arith)

pub get_other : {A : Type 0} (xs : List A) (i j : ℕ) (x : A) → (i ≡ j → ⊥) → slice_get (slice_set xs i x) j ≡ slice_get xs j
get_other [] i j x ne = refl
get_other (y ∷ xs) zero zero x ne = absurd (ne refl)
get_other (y ∷ xs) zero (suc j) x ne = refl
get_other (y ∷ xs) (suc i) zero x ne = refl
get_other (y ∷ xs) (suc i) (suc j) x ne = get_other xs i j x (λ e. ne (ap (λ n. suc n) e))

pub within : {A : Type 0} (xs : List A) (i : ℕ) (x : A) → slice_get xs i ≡ Some x → i < length xs
within [] i x e = absurd (cc)
within (y ∷ xs) zero x e = omega arith
within (y ∷ xs) (suc i) x e = let lt = within xs i x e in omega arith

-- ---- values
pub value_set : (xs : List Value) (i : ℕ) (v : Value) → i < length xs → value_at (slice_set xs i v) i ≡ v
value_set xs i v lt = ap or_nil (get_set xs i v lt)

pub value_other : (xs : List Value) (i j : ℕ) (v : Value) → (i ≡ j → ⊥) → value_at (slice_set xs i v) j ≡ value_at xs j
value_other xs i j v ne = ap or_nil (get_other xs i j v ne)

pub value_before : (xs ys : List Value) (i : ℕ) → i < length xs → value_at (xs ++ ys) i ≡ value_at xs i
value_before [] ys i lt = absurd (omega arith)
value_before (x ∷ xs) ys zero lt = refl
value_before (x ∷ xs) ys (suc i) lt = value_before xs ys i (omega arith)

pub value_at_end : (xs : List Value) (v : Value) → value_at (xs ++ v ∷ []) (length xs) ≡ v
value_at_end xs v = ap or_nil (get_at_end xs v)

-- ---- several values
pub values_same : (xs ys : List Value) (n i : ℕ) → ((p : ℕ) → i ≤ p → p < i + n → value_at ys p ≡ value_at xs p) → values_from ys i n ≡ values_from xs i n
values_same xs ys zero i h = refl
values_same xs ys (suc n) i h =
    let one : value_at ys i ≡ value_at xs i = h i (omega arith) (omega arith) in
    let more : values_from ys (i + 1) n ≡ values_from xs (i + 1) n = values_same xs ys n (i + 1) (λ p le lt. h p (omega arith) (omega arith)) in
    ap (λ v. v ∷ values_from ys (i + 1) n) one ∙ ap (λ vs. value_at xs i ∷ vs) more

pub length_written : (vs xs : List Value) (i : ℕ) → length (written xs i vs) ≡ length xs
length_written [] xs i = refl
length_written (v ∷ vs) xs i = length_written vs (slice_set xs i v) (i + 1) ∙ length_set xs i v

pub written_other : (vs xs : List Value) (i j : ℕ) → (j < i) ⊎ (i + length vs ≤ j) → value_at (written xs i vs) j ≡ value_at xs j
written_other [] xs i j o = refl
written_other (v ∷ vs) xs i j (inl lt) = written_other vs (slice_set xs i v) (i + 1) j (inl (omega arith)) ∙ value_other xs i j v (λ e. omega (arith, e))
written_other (v ∷ vs) xs i j (inr le) = written_other vs (slice_set xs i v) (i + 1) j (inr (omega arith)) ∙ value_other xs i j v (λ e. omega (arith, e))

pub written_same : (vs xs : List Value) (i : ℕ) → i + length vs ≤ length xs → values_from (written xs i vs) i (length vs) ≡ vs
written_same [] xs i le = refl
written_same (v ∷ vs) xs i le =
    let rest : values_from (written (slice_set xs i v) (i + 1) vs) (i + 1) (length vs) ≡ vs =
    written_same vs (slice_set xs i v) (i + 1) (let e = length_set xs i v in omega (arith, e)) in
    let one : value_at (written (slice_set xs i v) (i + 1) vs) i ≡ v =
    written_other vs (slice_set xs i v) (i + 1) i (inl (omega arith)) ∙ value_set xs i v (omega arith) in
    ap (λ w. w ∷ values_from (written (slice_set xs i v) (i + 1) vs) (i + 1) (length vs)) one ∙ ap (λ ws. v ∷ ws) rest

pub length_adjusted : (n : ℕ) (vs : List Value) → length (adjusted n vs) ≡ n
length_adjusted zero vs = refl
length_adjusted (suc n) [] = ap (λ k. suc k) (length_adjusted n [])
length_adjusted (suc n) (v ∷ vs) = ap (λ k. suc k) (length_adjusted n vs)
