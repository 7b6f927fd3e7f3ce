-- No table has more filled places than pairs, so the least border is no greater than their number.
use Rattle.std.proofs.Common.{◌≡◌, ◌∙◌, ◌+◌, ◌<◌, ◌≤◌, ap, refl, sym, ℕ, zero, suc, Bool, true, false, [], ◌∷◌, Option, Some, None, length, arith, if◌then◌else◌, ℤ, pos, add-one, true≢false, ⊎_elim, ◌⊎◌, inl, inr, ◌^◌, to_z, w64}
use Rattle.std.proofs.lemmas.Int.{to_z_pos}
use Rattle.std.specs.Prelude.{is_some, unwrap_or, unsigned_abs}
use Rattle.std.specs.Ordering.{int_eq}
use Rattle.std.proofs.lemmas.Bool.Decides.{Decides-int_eq}
use Rattle.std.specs.Map.{lookup}
use Rattle.lua_value.specs.declared.value.Value.{Value}
use Rattle.lua_value.specs.declared.value.Value.TheVariants as value
use Rattle.lua_value.specs.Same.{same, is_nil}
use Rattle.lua_table.specs.Pairs.{Pairs, IsBorder, IsFilled, IsLeastBorder, value_of}

-- the key 1 more than i, which is that of a place
abbrev place : ℕ → Value
place i = value.Int (pos (suc i))

abbrev has : Pairs → ℕ → Bool
has ps i = is_some (lookup (same (place i)) ps)

-- the pairs without the first at a place
abbrev without : Pairs → ℕ → Pairs
without [] k = []
without (p ∷ ps) k = if same (place k) p.0 then ps else p ∷ without ps k

length_by : (b : Bool) (ps : Pairs) (p : Value × Value) (k : ℕ) → (is_some (lookup (same (place k)) ps) ≡ true → length ps ≡ suc (length (without ps k)))
    → is_some (if b then Some p.1 else lookup (same (place k)) ps) ≡ true → suc (length ps) ≡ suc (length (if b then ps else p ∷ without ps k))
length_by true ps p k rest h = refl
length_by false ps p k rest h = ap suc (rest h)

without_length : (ps : Pairs) (k : ℕ) → has ps k ≡ true → length ps ≡ suc (length (without ps k))
without_length [] k h = absurd (true≢false (sym h))
without_length (p ∷ ps) k h = length_by (same (place k) p.0) ps p k (without_length ps k) h

-- two places are apart
apart_by : (i k : ℕ) (z : ℤ) (b : Bool) → i < k → int_eq (pos (suc k)) z ≡ true → int_eq (pos (suc i)) z ≡ b → b ≡ false
apart_by i k z true less h g =
    let e : suc i ≡ suc k = ap unsigned_abs ((Decides-int_eq (pos (suc i)) z).0 g ∙ sym ((Decides-int_eq (pos (suc k)) z).0 h)) in
    absurd (omega (arith, less, e))
apart_by i k z false less h g = refl

apart : (i k : ℕ) (key : Value) → i < k → same (place k) key ≡ true → same (place i) key ≡ false
apart i k (value.Int z) less h = apart_by i k z (int_eq (pos (suc i)) z) less h refl
apart i k key less h = refl

other_by : (b a : Bool) (ps : Pairs) (p : Value × Value) (i k : ℕ) → (b ≡ true → a ≡ false) → (is_some (lookup (same (place i)) ps) ≡ true → has (without ps k) i ≡ true)
    → same (place i) p.0 ≡ a → is_some (if a then Some p.1 else lookup (same (place i)) ps) ≡ true → has (if b then ps else p ∷ without ps k) i ≡ true
other_by true true ps p i k far rest is h = absurd (true≢false (far refl))
other_by true false ps p i k far rest is h = h
other_by false true ps p i k far rest is h = rw is refl
other_by false false ps p i k far rest is h = rw is (rest h)

without_other : (ps : Pairs) (i k : ℕ) → i < k → has ps i ≡ true → has (without ps k) i ≡ true
without_other [] i k less h = absurd (true≢false (sym h))
without_other (p ∷ ps) i k less h = other_by (same (place k) p.0) (same (place i) p.0) ps p i k (apart i k p.0 less) (without_other ps i k less) refl h

pub few : (ps : Pairs) (n : ℕ) → ((i : ℕ) → i < n → has ps i ≡ true) → n ≤ length ps
few ps zero all = omega arith
few ps (suc n) all =
    let rest = few (without ps n) n (λ i h. without_other ps i n h (all i (omega (arith, h)))) in
    let one = without_length ps n (all n (omega arith)) in
    omega (arith, rest, one)

at_or_before : (i n : ℕ) → i < suc n → (i < n) ⊎ (i ≡ n)
at_or_before zero zero h = inr refl
at_or_before zero (suc n) h = inl (omega arith)
at_or_before (suc i) zero h = absurd (omega (arith, h))
at_or_before (suc i) (suc n) h = ⊎_elim (λ (l : i < n). inl (omega (arith, l))) (λ (e : i ≡ n). inr (ap suc e)) (at_or_before i n (omega (arith, h)))

filled_by : (o : Option Value) → is_nil (unwrap_or o value.Nil) ≡ false → is_some o ≡ true
filled_by None h = absurd (true≢false h)
filled_by (Some v) h = refl

-- a filled place has a pair
pub has_filled : (ps : Pairs) (i : ℕ) → IsFilled ps i → has ps i ≡ true
has_filled ps i h = filled_by (lookup (same (place i)) ps) (rw add-one at h)

ends_by : (ps : Pairs) (b : Bool) → ((i : ℕ) → i < length ps → IsFilled ps i) → is_nil (value_of ps (value.Int (pos (length ps + 1)))) ≡ b → b ≡ true
ends_by ps true filled is = refl
ends_by ps false filled is =
    let all : (i : ℕ) → i < suc (length ps) → has ps i ≡ true = λ i h. has_filled ps i (⊎_elim (λ (l : i < length ps). filled i l) (λ (e : i ≡ length ps). rw e is) (at_or_before i (length ps) h)) in
    absurd (omega (arith, few ps (suc (length ps)) all))

-- where as many places are filled as there are pairs, the border stands after them
pub whole : (ps : Pairs) → ((i : ℕ) → i < length ps → IsFilled ps i) → IsLeastBorder ps (length ps)
whole ps filled = record { filled = filled; ends = ends_by ps (is_nil (value_of ps (value.Int (pos (length ps + 1))))) filled refl }

-- so it does with the number of pairs as an integer of 64 bits
pub whole_at : (ps : Pairs) (n len : ℕ) → len ≡ length ps → len < 2 ^ 63 → len ≤ n → n ≤ len → ((i : ℕ) → i < n → IsFilled ps i) → IsBorder ps (to_z w64 len)
whole_at ps n len is small low high filled =
    let last : IsLeastBorder ps len = rw is (whole ps (λ i h. filled i (omega (arith, h, is, low)))) in
    rw (to_z_pos w64 len small) last
