-- The longest run, as a part of the text.
use Rattle.std.proofs.Common.{◌≡◌, ℕ, Bool, List, [], ◌∷◌, length, take, zero, suc, refl, ap, sym, ◌∙◌, ◌≤◌, ◌<◌, ◌⊎◌, inl, inr, min, arith}
use Rattle.std.proofs.lemmas.Bool.{cases_order}
use Rattle.std.proofs.lemmas.List.{take-take, take_all}
use Rattle.std.specs.List.{prefix_len, take_while}

take_length : {X : Type 0} (n : ℕ) (xs : List X) → take (length (take n xs)) xs ≡ take n xs
take_length zero xs = refl
take_length (suc n) [] = refl
take_length {X = X} (suc n) (x ∷ xs) = ap (λ (l : List X). x ∷ l) (take_length n xs)

pub run_take : {X : Type 0} (p : X → Bool) (xs : List X) → take (length (take_while p xs)) xs ≡ take_while p xs
run_take p xs = take_length (prefix_len p xs) xs

-- at most three of a run
pub take_three : (p : ℕ → Bool) (xs : List ℕ) (m : ℕ) → m ≡ min (length (take_while p xs)) 3 → take m xs ≡ take 3 (take_while p xs)
take_three p xs m e = go (cases_order (length (take_while p xs)) 3)
  where
    long : 3 ≤ length (take_while p xs) → take m xs ≡ take 3 (take_while p xs)
    long h =
        let three : m ≡ 3 = omega (arith, e) in
        ap (λ (n : ℕ). take n xs) three ∙ sym (take-take 3 (length (take_while p xs)) xs h) ∙ ap (take 3) (run_take p xs)

    short : length (take_while p xs) < 3 → take m xs ≡ take 3 (take_while p xs)
    short h =
        let all : m ≡ length (take_while p xs) = omega (arith, e) in
        ap (λ (n : ℕ). take n xs) all ∙ run_take p xs ∙ sym (take_all 3 (take_while p xs) (omega arith))

    go : (length (take_while p xs) ≡ 3) ⊎ ((length (take_while p xs) < 3) ⊎ (3 < length (take_while p xs))) → take m xs ≡ take 3 (take_while p xs)
    go (inl h) = long (omega arith)
    go (inr (inl h)) = short h
    go (inr (inr h)) = long (omega arith)
