-- Lists whose places count from 1.
use Rattle.std.proofs.Common.{◌⊎◌, inl, inr, ◌≡◌, ℕ, zero, suc, ◌<◌, ◌≤◌, ◌+◌, ◌-◌, ◌==◌, Bool, true, false, List, [], ◌∷◌, ◌++◌, length, map, Option, Some, None, slice_get, slice_set, if◌then◌else◌, refl, ap, sym, ◌∙◌, subst, arith, length-append}
use Rattle.std.specs.Prelude.{MatchOption}
use Rattle.std.proofs.lemmas.Bool.Decides.{nat_tests}
use Rattle.message.specs.Registries.{at, set_at}

get_set : {X : Type 0} (xs : List X) (i j : ℕ) (x y : X) → slice_get (slice_set xs i x) j ≡ Some y → ((j ≡ i) × (y ≡ x)) ⊎ (slice_get xs j ≡ Some y)
get_set [] i j x y e = absurd (cc)
get_set (z ∷ xs) zero zero x y e = inl (refl, cc)
get_set (z ∷ xs) zero (suc j) x y e = inr e
get_set (z ∷ xs) (suc i) zero x y e = inr e
get_set (z ∷ xs) (suc i) (suc j) x y e = go (get_set xs i j x y e) where
  go : (((j ≡ i) × (y ≡ x)) ⊎ (slice_get xs j ≡ Some y)) → ((suc j ≡ suc i) × (y ≡ x)) ⊎ (slice_get xs j ≡ Some y)
  go (inl p) = inl (ap suc p.0, p.1)
  go (inr p) = inr p

get_push : {X : Type 0} (xs : List X) (j : ℕ) (x y : X) → slice_get (xs ++ x ∷ []) j ≡ Some y → ((j ≡ length xs) × (y ≡ x)) ⊎ (slice_get xs j ≡ Some y)
get_push [] zero x y e = inl (refl, cc)
get_push [] (suc j) x y e = absurd (cc)
get_push (z ∷ xs) zero x y e = inr e
get_push (z ∷ xs) (suc j) x y e = go (get_push xs j x y e) where
  go : (((j ≡ length xs) × (y ≡ x)) ⊎ (slice_get xs j ≡ Some y)) → ((suc j ≡ suc (length xs)) × (y ≡ x)) ⊎ (slice_get xs j ≡ Some y)
  go (inl p) = inl (ap suc p.0, p.1)
  go (inr p) = inr p

pub map_len : {A B : Type 0} (F : A → B) (xs : List A) → length (map F xs) ≡ length xs
map_len F [] = refl
map_len F (x ∷ xs) = ap suc (map_len F xs)

pub map_within : {A B : Type 0} (F : A → B) (xs : List A) (h : ℕ) → h ≤ length xs → h ≤ length (map F xs)
map_within F xs h e = subst (λ n. h ≤ n) (sym (map_len F xs)) e

pub pushed_len : {X : Type 0} (xs ys zs : List X) (x : X) → zs ≡ ys ++ x ∷ [] → ys ≡ xs → length zs ≡ length xs + 1
pushed_len xs ys zs x e e2 = ap length e ∙ (length-append ys (x ∷ []) ∙ ap (λ l. length l + 1) e2)

pub at_is : {X : Type 0} (xs : List X) (h : ℕ) (x : X) (b : Bool) → (h == 0) ≡ b → (if b then None else slice_get xs (h - 1)) ≡ Some x → (0 < h) × (slice_get xs (h - 1) ≡ Some x)
at_is xs h x true e p = absurd (cc)
at_is xs h x false e p = (grind (arith, nat_tests), p)

pub at_back : {X : Type 0} (xs : List X) (h : ℕ) (x : X) → 0 < h → slice_get xs (h - 1) ≡ Some x → at xs h ≡ Some x
at_back xs h x big e = let ne : (h == 0) ≡ false = grind (arith, nat_tests) in rw ne e

-- what stands there after one place was set
pub at_set : {X : Type 0} (xs : List X) (h g : ℕ) (x y : X) → 0 < h → at (set_at xs h x) g ≡ Some y → ((g ≡ h) × (y ≡ x)) ⊎ (at xs g ≡ Some y)
at_set xs h g x y big e = go (get_set xs (h - 1) (g - 1) x y there.1) where
  there : (0 < g) × (slice_get (set_at xs h x) (g - 1) ≡ Some y)
  there = at_is (set_at xs h x) g y (g == 0) refl e

  go : (((g - 1 ≡ h - 1) × (y ≡ x)) ⊎ (slice_get xs (g - 1) ≡ Some y)) → ((g ≡ h) × (y ≡ x)) ⊎ (at xs g ≡ Some y)
  go (inl p) = let big2 : 0 < g = there.0 in inl (omega (arith, p.0), p.1)
  go (inr p) = inr (at_back xs g y there.0 p)

pub at_push : {X : Type 0} (xs : List X) (g : ℕ) (x y : X) → at (xs ++ x ∷ []) g ≡ Some y → ((g ≡ length xs + 1) × (y ≡ x)) ⊎ (at xs g ≡ Some y)
at_push xs g x y e = go (get_push xs (g - 1) x y there.1) where
  there : (0 < g) × (slice_get (xs ++ x ∷ []) (g - 1) ≡ Some y)
  there = at_is (xs ++ x ∷ []) g y (g == 0) refl e

  go : (((g - 1 ≡ length xs) × (y ≡ x)) ⊎ (slice_get xs (g - 1) ≡ Some y)) → ((g ≡ length xs + 1) × (y ≡ x)) ⊎ (at xs g ≡ Some y)
  go (inl p) = let big2 : 0 < g = there.0 in inl (omega (arith, p.0), p.1)
  go (inr p) = inr (at_back xs g y there.0 p)

-- what is known of what was found
pub found_some : {X : Type 0} (P : Type 0) (Q : X → Type 0) (q : Option X) (s t : X) → q ≡ Some s → s ≡ t → MatchOption q P Q → Q t
found_some P Q None s t e e2 m = absurd (cc)
found_some P Q (Some x) s t e e2 m = let same : x ≡ s = cc in subst Q (same ∙ e2) m
