-- A number in decimal: its first digit, and digits that go on from there.
use Rattle.std.proofs.Common.{◌≡◌, ◌∙◌, ◌+◌, ◌-◌, ◌*◌, ◌/◌, ◌%◌, ◌^◌, ◌≤◌, ◌<◌, ℕ, List, [], ◌∷◌, ◌++◌, ap, refl, arith, decimal}
use Rattle.std.proofs.lemmas.Fmt.{decimal_by_steps}
use Rattle.journal.specs.Tails.{GoesOn, value}

pub grows : (n : ℕ) (bytes : List ℕ) → n ≤ value n bytes
grows n [] = omega arith
grows n (byte ∷ bytes) = omega (arith, grows (n * 10 + (byte - 48)) bytes)

goes_on-append : (n : ℕ) (bytes : List ℕ) (byte : ℕ) → GoesOn n bytes → 0 < value n bytes → 48 ≤ byte → byte ≤ 57 → GoesOn n (bytes ++ byte ∷ [])
goes_on-append n [] byte g some low high = (some, low, high, tt)
goes_on-append n (b ∷ bytes) byte g some low high =
    (g.0, g.1, g.2, goes_on-append (n * 10 + (b - 48)) bytes byte g.3 some low high)

value-append : (n : ℕ) (bytes : List ℕ) (byte : ℕ) → value n (bytes ++ byte ∷ []) ≡ value n bytes * 10 + (byte - 48)
value-append n [] byte = refl
value-append n (b ∷ bytes) byte = value-append (n * 10 + (b - 48)) bytes byte

-- the first digit of a number's text, and those that go on from it
pub record Starts (n : ℕ) (text : List ℕ) : Type 0 where
  pub first : ℕ
  pub digits : List ℕ
  pub is : text ≡ first ∷ digits
  pub low : 48 ≤ first
  pub high : first ≤ 57
  pub goes_on : GoesOn (first - 48) digits
  pub worth : value (first - 48) digits ≡ n

one : (n : ℕ) → n < 10 → Starts n ((48 + n) ∷ [])
one n small = record { first = 48 + n; digits = []; is = refl; low = omega arith; high = omega arith; goes_on = tt; worth = omega arith }

one_more : (n : ℕ) (text : List ℕ) → 10 ≤ n → Starts (n / 10) text → Starts n (text ++ ((48 + n % 10) ∷ []))
one_more n text large s = record {
  first = s.first;
  digits = s.digits ++ (48 + n % 10) ∷ [];
  is = ap (λ (t : List ℕ). t ++ (48 + n % 10) ∷ []) s.is;
  low = s.low;
  high = s.high;
  goes_on = goes_on-append (s.first - 48) s.digits (48 + n % 10) s.goes_on (omega (arith, s.worth)) (omega arith) (omega arith);
  worth = value-append (s.first - 48) s.digits (48 + n % 10) ∙ omega (arith, s.worth);
}

pub decimal_starts : (n : ℕ) → n < 2 ^ 64 → Starts n (decimal n)
decimal_starts n small = decimal_by_steps Starts one one_more n small
