-- Lists whose places count from 1, and sums over them.
use Rattle.std.proofs.Common.{◌⊎◌, inl, inr, ◌≡◌, ℕ, zero, suc, ◌<◌, ◌≤◌, ◌+◌, ◌-◌, ◌==◌, Bool, true, false, List, [], ◌∷◌, ◌++◌, length, Some, None, slice_get, slice_set, if◌then◌else◌, refl, ap, sym, ◌∙◌, subst, arith}
use Rattle.std.proofs.lemmas.Bool.Decides.{nat_tests}
use Rattle.message.specs.Registries.{at, set_at}
use Rattle.sk_types.specs.declared.number.Handle.{Handle}
use Rattle.call_fates.specs.Calls.{total}

pub handle_is : (g h : Handle) → g.0 ≡ h.0 → g ≡ h
handle_is g h e = let F : ℕ → Handle = λ k. record { 0 = k } in ap F e

get_set : {X : Type 0} (xs : List X) (i j : ℕ) (x y : X) → slice_get (slice_set xs i x) j ≡ Some y → ((j ≡ i) × (y ≡ x)) ⊎ (slice_get xs j ≡ Some y)
get_set [] i j x y e = absurd (cc)
get_set (z ∷ xs) zero zero x y e = inl (refl, cc)
get_set (z ∷ xs) zero (suc j) x y e = inr e
get_set (z ∷ xs) (suc i) zero x y e = inr e
get_set (z ∷ xs) (suc i) (suc j) x y e = go (get_set xs i j x y e) where
  go : (((j ≡ i) × (y ≡ x)) ⊎ (slice_get xs j ≡ Some y)) → ((suc j ≡ suc i) × (y ≡ x)) ⊎ (slice_get xs j ≡ Some y)
  go (inl p) = inl (ap suc p.0, p.1)
  go (inr p) = inr p

get_push : {X : Type 0} (xs : List X) (j : ℕ) (x y : X) → slice_get (xs ++ x ∷ []) j ≡ Some y → ((j ≡ length xs) × (y ≡ x)) ⊎ (slice_get xs j ≡ Some y)
get_push [] zero x y e = inl (refl, cc)
get_push [] (suc j) x y e = absurd (cc)
get_push (z ∷ xs) zero x y e = inr e
get_push (z ∷ xs) (suc j) x y e = go (get_push xs j x y e) where
  go : (((j ≡ length xs) × (y ≡ x)) ⊎ (slice_get xs j ≡ Some y)) → ((suc j ≡ suc (length xs)) × (y ≡ x)) ⊎ (slice_get xs j ≡ Some y)
  go (inl p) = inl (ap suc p.0, p.1)
  go (inr p) = inr p

at_if : {X : Type 0} (xs : List X) (h : ℕ) (x : X) (b : Bool) → (h == 0) ≡ b → (if b then None else slice_get xs (h - 1)) ≡ Some x → (0 < h) × (slice_get xs (h - 1) ≡ Some x)
at_if xs h x true e p = absurd (cc)
at_if xs h x false e p = (grind (arith, nat_tests), p)

pub at_is : {X : Type 0} (xs : List X) (h : ℕ) (x : X) → at xs h ≡ Some x → (0 < h) × (slice_get xs (h - 1) ≡ Some x)
at_is xs h x e = at_if xs h x (h == 0) refl e

pub at_back : {X : Type 0} (xs : List X) (h : ℕ) (x : X) → 0 < h → slice_get xs (h - 1) ≡ Some x → at xs h ≡ Some x
at_back xs h x big e = let ne : (h == 0) ≡ false = grind (arith, nat_tests) in rw ne e

-- what stands there after one place was set
pub at_set : {X : Type 0} (xs : List X) (h g : ℕ) (x y : X) → 0 < h → at (set_at xs h x) g ≡ Some y → ((g ≡ h) × (y ≡ x)) ⊎ (at xs g ≡ Some y)
at_set xs h g x y big e = go (get_set xs (h - 1) (g - 1) x y there.1) where
  there : (0 < g) × (slice_get (set_at xs h x) (g - 1) ≡ Some y)
  there = at_is (set_at xs h x) g y e

  go : (((g - 1 ≡ h - 1) × (y ≡ x)) ⊎ (slice_get xs (g - 1) ≡ Some y)) → ((g ≡ h) × (y ≡ x)) ⊎ (at xs g ≡ Some y)
  go (inl p) = let big2 : 0 < g = there.0 in inl (omega (arith, p.0), p.1)
  go (inr p) = inr (at_back xs g y there.0 p)

pub at_push : {X : Type 0} (xs : List X) (g : ℕ) (x y : X) → at (xs ++ x ∷ []) g ≡ Some y → ((g ≡ length xs + 1) × (y ≡ x)) ⊎ (at xs g ≡ Some y)
at_push xs g x y e = go (get_push xs (g - 1) x y there.1) where
  there : (0 < g) × (slice_get (xs ++ x ∷ []) (g - 1) ≡ Some y)
  there = at_is (xs ++ x ∷ []) g y e

  go : (((g - 1 ≡ length xs) × (y ≡ x)) ⊎ (slice_get xs (g - 1) ≡ Some y)) → ((g ≡ length xs + 1) × (y ≡ x)) ⊎ (at xs g ≡ Some y)
  go (inl p) = let big2 : 0 < g = there.0 in inl (omega (arith, p.0), p.1)
  go (inr p) = inr (at_back xs g y there.0 p)

get_front : {X : Type 0} (xs ys : List X) (i : ℕ) (x : X) → slice_get xs i ≡ Some x → slice_get (xs ++ ys) i ≡ Some x
get_front [] ys i x e = absurd (cc)
get_front (z ∷ xs) ys zero x e = e
get_front (z ∷ xs) ys (suc i) x e = get_front xs ys i x e

-- what stood there still does after a growth
pub at_front : {X : Type 0} (xs ys : List X) (g : ℕ) (x : X) → at xs g ≡ Some x → at (xs ++ ys) g ≡ Some x
at_front xs ys g x e = let there = at_is xs g x e in at_back (xs ++ ys) g x there.0 (get_front xs ys (g - 1) x there.1)

get_kept : {X : Type 0} (xs : List X) (i j : ℕ) (x y : X) → slice_get xs j ≡ Some y → (slice_get (slice_set xs i x) j ≡ Some y) ⊎ ((j ≡ i) × (slice_get (slice_set xs i x) j ≡ Some x))
get_kept [] i j x y e = absurd (cc)
get_kept (z ∷ xs) zero zero x y e = inr (refl, refl)
get_kept (z ∷ xs) zero (suc j) x y e = inl e
get_kept (z ∷ xs) (suc i) zero x y e = inl e
get_kept (z ∷ xs) (suc i) (suc j) x y e = go (get_kept xs i j x y e) where
  go : ((slice_get (slice_set xs i x) j ≡ Some y) ⊎ ((j ≡ i) × (slice_get (slice_set xs i x) j ≡ Some x))) → (slice_get (slice_set xs i x) j ≡ Some y) ⊎ ((suc j ≡ suc i) × (slice_get (slice_set xs i x) j ≡ Some x))
  go (inl p) = inl p
  go (inr p) = inr (ap suc p.0, p.1)

-- or is what it was set to
pub at_kept : {X : Type 0} (xs : List X) (h g : ℕ) (x y : X) → 0 < h → at xs g ≡ Some y → (at (set_at xs h x) g ≡ Some y) ⊎ ((g ≡ h) × (at (set_at xs h x) g ≡ Some x))
at_kept xs h g x y big e = go (get_kept xs (h - 1) (g - 1) x y there.1) where
  there : (0 < g) × (slice_get xs (g - 1) ≡ Some y)
  there = at_is xs g y e

  go : ((slice_get (set_at xs h x) (g - 1) ≡ Some y) ⊎ ((g - 1 ≡ h - 1) × (slice_get (set_at xs h x) (g - 1) ≡ Some x))) → (at (set_at xs h x) g ≡ Some y) ⊎ ((g ≡ h) × (at (set_at xs h x) g ≡ Some x))
  go (inl p) = inl (at_back (set_at xs h x) g y there.0 p)
  go (inr p) = let big2 : 0 < g = there.0 in inr (omega (arith, p.0), at_back (set_at xs h x) g x there.0 p.1)

get_here : {X : Type 0} (xs : List X) (i : ℕ) (x y : X) → slice_get xs i ≡ Some y → slice_get (slice_set xs i x) i ≡ Some x
get_here [] i x y e = absurd (cc)
get_here (z ∷ xs) zero x y e = refl
get_here (z ∷ xs) (suc i) x y e = get_here xs i x y e

pub at_here : {X : Type 0} (xs : List X) (h : ℕ) (x y : X) → at xs h ≡ Some y → at (set_at xs h x) h ≡ Some x
at_here xs h x y e = let there = at_is xs h y e in at_back (set_at xs h x) h x there.0 (get_here xs (h - 1) x y there.1)

get_last : {X : Type 0} (xs : List X) (x : X) → slice_get (xs ++ x ∷ []) (length xs) ≡ Some x
get_last [] x = refl
get_last (z ∷ xs) x = get_last xs x

pub at_last : {X : Type 0} (xs : List X) (h : ℕ) (x : X) → h ≡ length xs + 1 → at (xs ++ x ∷ []) h ≡ Some x
at_last xs h x e =
    let big : 0 < h = omega (arith, e) in
    let n : h - 1 ≡ length xs = omega (arith, e) in
    at_back (xs ++ x ∷ []) h x big (ap (slice_get (xs ++ x ∷ [])) n ∙ get_last xs x)

get_some : {X : Type 0} (xs : List X) (i : ℕ) → i < length xs → (x : X) × (slice_get xs i ≡ Some x)
get_some [] i l = absurd (omega (arith, l))
get_some (x ∷ xs) zero l = (x, refl)
get_some (x ∷ xs) (suc i) l = get_some xs i (omega (arith, l))

-- something stands there
pub at_some : {X : Type 0} (xs : List X) (h : ℕ) → 0 < h → h ≤ length xs → (x : X) × (at xs h ≡ Some x)
at_some xs h big l = let there = get_some xs (h - 1) (omega (arith, big, l)) in (there.0, at_back xs h there.0 big there.1)

get_within : {X : Type 0} (xs : List X) (i : ℕ) (x : X) → slice_get xs i ≡ Some x → i < length xs
get_within [] i x e = absurd (cc)
get_within (z ∷ xs) zero x e = omega arith
get_within (z ∷ xs) (suc i) x e = let l = get_within xs i x e in omega (arith, l)

pub at_within : {X : Type 0} (xs : List X) (h : ℕ) (x : X) → at xs h ≡ Some x → h ≤ length xs
at_within xs h x e = let there = at_is xs h x e in let l = get_within xs (h - 1) x there.1 in let big = there.0 in omega (arith, l, big)

-- SUMS

total_get : {X : Type 0} (f : ℕ → X → ℕ) (h : ℕ) (xs : List X) (j : ℕ) (x y : X) → slice_get xs j ≡ Some x → total f h (slice_set xs j y) + f (h + j) x ≡ total f h xs + f (h + j) y
total_get f h [] j x y e = absurd (cc)
total_get f h (z ∷ xs) zero x y e = let same : z ≡ x = cc in let n : h + 0 ≡ h = omega arith in rw (← same, n) (omega arith)
total_get f h (z ∷ xs) (suc j) x y e =
    let n : (h + 1) + j ≡ h + suc j = omega arith in
    let e2 : slice_get xs j ≡ Some x = e in
    let p = total_get f (h + 1) xs j x y e2 in
    omega (arith, p, ap (λ m. f m x) n, ap (λ m. f m y) n)

-- one place is set
pub total_set : {X : Type 0} (f : ℕ → X → ℕ) (xs : List X) (h : ℕ) (x y : X) → at xs h ≡ Some x → total f 1 (set_at xs h y) + f h x ≡ total f 1 xs + f h y
total_set f xs h x y e =
    let there = at_is xs h x e in
    let big : 0 < h = there.0 in
    let n : 1 + (h - 1) ≡ h = omega arith in
    let p = total_get f 1 xs (h - 1) x y there.1 in
    omega (arith, p, ap (λ m. f m x) n, ap (λ m. f m y) n)

-- one place more
pub total_push : {X : Type 0} (f : ℕ → X → ℕ) (h : ℕ) (xs : List X) (x : X) → total f h (xs ++ x ∷ []) ≡ total f h xs + f (h + length xs) x
total_push f h [] x = let n : h + 0 ≡ h = omega arith in rw n (omega arith)
total_push f h (z ∷ xs) x =
    let n : (h + 1) + length xs ≡ h + suc (length xs) = omega arith in
    omega (arith, total_push f (h + 1) xs x, ap (λ m. f m x) n)

get_le : {X : Type 0} (f : ℕ → X → ℕ) (h : ℕ) (xs : List X) (j : ℕ) (x : X) → slice_get xs j ≡ Some x → f (h + j) x ≤ total f h xs
get_le f h [] j x e = absurd (cc)
get_le f h (z ∷ xs) zero x e = let same : z ≡ x = cc in let n : h + 0 ≡ h = omega arith in rw (← same, n) (omega arith)
get_le f h (z ∷ xs) (suc j) x e =
    let n : (h + 1) + j ≡ h + suc j = omega arith in
    let e2 : slice_get xs j ≡ Some x = e in
    let p = get_le f (h + 1) xs j x e2 in
    omega (arith, p, ap (λ m. f m x) n)

-- a part is not above the sum
pub total_le : {X : Type 0} (f : ℕ → X → ℕ) (xs : List X) (h : ℕ) (x : X) → at xs h ≡ Some x → f h x ≤ total f 1 xs
total_le f xs h x e =
    let there = at_is xs h x e in
    let big : 0 < h = there.0 in
    let n : 1 + (h - 1) ≡ h = omega arith in
    let p = get_le f 1 xs (h - 1) x there.1 in
    omega (arith, p, ap (λ m. f m x) n)

abbrev pub Somewhere : {X : Type 0} → (ℕ → X → ℕ) → ℕ → List X → Type 0
Somewhere {X} f h xs = (j : ℕ) × (x : X) × (slice_get xs j ≡ Some x) × (0 < f (h + j) x)

later : {X : Type 0} (f : ℕ → X → ℕ) (h : ℕ) (z : X) (xs : List X) → Somewhere f (h + 1) xs → Somewhere f h (z ∷ xs)
later f h z xs more = let n : (h + 1) + more.0 ≡ h + suc (more.0) = omega arith in (suc (more.0), more.1, more.2, subst (λ m. 0 < f m more.1) n more.3)

sooner : {X : Type 0} (f : ℕ → X → ℕ) (h : ℕ) (z : X) (xs : List X) → 0 < f h z → Somewhere f h (z ∷ xs)
sooner f h z xs p = let m : h + 0 ≡ h = omega arith in (zero, z, refl, subst (λ k. 0 < f k z) (sym m) p)

total_in : {X : Type 0} (f : ℕ → X → ℕ) (h : ℕ) (xs : List X) → 0 < total f h xs → Somewhere f h xs
total_in f h [] p = absurd (omega (arith, p))
total_in {X = X} f h (z ∷ xs) p = go (λ q. total_in f (h + 1) xs q) (f h z) refl where
  go : (0 < total f (h + 1) xs → Somewhere f (h + 1) xs) → (n : ℕ) → f h z ≡ n → Somewhere f h (z ∷ xs)
  go rec zero e = later f h z xs (rec (omega (arith, p, e)))
  go rec (suc n) e = sooner f h z xs (omega (arith, e))

-- where the sum is not 0, one of its parts is not
pub total_some : {X : Type 0} (f : ℕ → X → ℕ) (xs : List X) → 0 < total f 1 xs → (h : ℕ) × (x : X) × (at xs h ≡ Some x) × (0 < f h x)
total_some f xs p =
    let there = total_in f 1 xs p in
    let n : (1 + there.0) - 1 ≡ there.0 = omega arith in
    (1 + there.0, there.1, at_back xs (1 + there.0) there.1 (omega arith) (ap (slice_get xs) n ∙ there.2), there.3)
