-- How far two texts are the same.
use Rattle.std.proofs.Common.{◌≡◌, ◌≢◌, ◌∙◌, ◌+◌, ◌≤◌, ◌<◌, ◌==◌, Bool, true, false, ℕ, suc, zero, List, [], ◌∷◌, ◌++◌, ap, ap₂, refl, arith, length, min, take, drop, get_or, drop-cons, length-drop, if◌then◌else◌, eqb-true, eq-eqb}
use Rattle.std.proofs.lemmas.Bool.{ne_eqb}
use Rattle.journal.specs.Common.{common}

abbrev one_on : Bool → ℕ → ℕ
one_on same n = if same then suc n else 0

one_on-le : (same : Bool) (n m : ℕ) → n ≤ m → one_on same n ≤ suc m
one_on-le true n m h = omega arith
one_on-le false n m h = omega arith

pub common-le : (a b : List ℕ) → (common a b ≤ length a) × (common a b ≤ length b)
common-le [] b = (omega arith, omega arith)
common-le (x ∷ a) [] = (omega arith, omega arith)
common-le (x ∷ a) (y ∷ b) =
    let below = common-le a b in
    (one_on-le (x == y) (common a b) (length a) below.0, one_on-le (x == y) (common a b) (length b) below.1)

take_one_on : (same : Bool) (x y n : ℕ) (a b : List ℕ) → (same ≡ true → x ≡ y) → take n a ≡ take n b → take (one_on same n) (x ∷ a) ≡ take (one_on same n) (y ∷ b)
take_one_on true x y n a b head e = let first : x ≡ y = head refl in rw (first, e) refl
take_one_on false x y n a b head e = refl

pub take_common : (a b : List ℕ) → take (common a b) a ≡ take (common a b) b
take_common [] [] = refl
take_common [] (y ∷ b) = refl
take_common (x ∷ a) [] = refl
take_common (x ∷ a) (y ∷ b) = take_one_on (x == y) x y (common a b) a b (eqb-true x y) (take_common a b)

-- one byte on, where both have it
common_at : (a b : List ℕ) (n : ℕ) → n < length a → n < length b
    → common (drop n a) (drop n b) ≡ one_on (get_or a n 0 == get_or b n 0) (common (drop (suc n) a) (drop (suc n) b))
common_at a b n h k = ap₂ common (drop-cons a n 0 h) (drop-cons b n 0 k)

pub common_more : (a b : List ℕ) (n : ℕ) → n < length a → n < length b → get_or a n 0 ≡ get_or b n 0 → common a b ≡ n + common (drop n a) (drop n b)
    → common a b ≡ (n + 1) + common (drop (n + 1) a) (drop (n + 1) b)
common_more a b n h k same e =
    let step : common (drop n a) (drop n b) ≡ suc (common (drop (suc n) a) (drop (suc n) b)) =
    common_at a b n h k ∙ ap (λ (t : Bool). one_on t (common (drop (suc n) a) (drop (suc n) b))) (eq-eqb _ _ same) in
    let next : common (drop (suc n) a) (drop (suc n) b) ≡ common (drop (n + 1) a) (drop (n + 1) b) = ap (λ (j : ℕ). common (drop j a) (drop j b)) {x = suc n} {y = n + 1} (omega arith) in
    omega (arith, e, step, next)

pub common_stops : (a b : List ℕ) (n : ℕ) → n < length a → n < length b → get_or a n 0 ≢ get_or b n 0 → common a b ≡ n + common (drop n a) (drop n b) → common a b ≡ n
common_stops a b n h k other e =
    let step : common (drop n a) (drop n b) ≡ 0 =
    common_at a b n h k ∙ ap (λ (t : Bool). one_on t (common (drop (suc n) a) (drop (suc n) b))) (ne_eqb _ _ other) in
    omega (arith, e, step)

pub common_ends : (a b : List ℕ) (m n : ℕ) → m ≡ min (length a) (length b) → m ≤ n → n ≤ m → common a b ≡ n + common (drop n a) (drop n b) → m ≡ common a b
common_ends a b m n is low high e =
    let below = common-le (drop n a) (drop n b) in
    omega (arith, is, low, high, e, below.0, below.1, length-drop n a, length-drop n b)

-- no longer part of one goes on to the other
pub common_longest : (a b r z : List ℕ) (n : ℕ) → common a b < n → n ≤ length a → take n a ++ r ≡ b ++ z → (length b ≤ common a b → z ≡ []) → ⊥
common_longest [] b r z n more small e whole = omega arith
common_longest (x ∷ a) b r z zero more small e whole = omega arith
common_longest (x ∷ a) [] r z (suc n) more small e whole =
    let empty : z ≡ [] = whole (omega arith) in absurd (cc)
common_longest (x ∷ a) (y ∷ b) r z (suc n) more small e whole =
    let head : x ≡ y = cc in
    let is : common (x ∷ a) (y ∷ b) ≡ suc (common a b) = ap (λ (same : Bool). if same then suc (common a b) else 0) (eq-eqb x y head) in
    common_longest a b r z n (omega arith) (omega arith) (cc) (λ h. whole (omega arith))

pub common-append : (b z : List ℕ) → common (b ++ z) b ≡ length b
common-append [] [] = refl
common-append [] (y ∷ z) = refl
common-append (x ∷ b) z =
    ap (λ (same : Bool). if same then suc (common (b ++ z) b) else 0) (eq-eqb x x refl) ∙ ap suc (common-append b z)
