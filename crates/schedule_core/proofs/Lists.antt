-- Lists whose places count from 1.
use Rattle.std.proofs.Common.{◌⊎◌, inl, inr, ℕ, zero, suc, ◌≡◌, ◌≢◌, ◌<◌, ◌≤◌, ◌+◌, ◌-◌, ◌==◌, Bool, true, false, List, [], ◌∷◌, ◌++◌, length, Option, Some, None, slice_get, slice_set, get_or, refl, ap, sym, ◌∙◌, subst, arith}
use Rattle.std.proofs.lemmas.Option.{slice_get-get_or}
use Rattle.std.proofs.lemmas.Bool.Decides.{nat_tests}
use Rattle.message.specs.Registries.{at, set_at}
use Rattle.call_fates.proofs.Lists.{at_is, at_some, at_within}

pub same_or : (g h : ℕ) → (g ≡ h) ⊎ (g ≢ h)
same_or g h = go (g == h) refl where
  go : (b : Bool) → (g == h) ≡ b → (g ≡ h) ⊎ (g ≢ h)
  go true e = inl (grind (arith, nat_tests))
  go false e = inr (grind (arith, nat_tests))

pub get_other : {X : Type 0} (xs : List X) (i j : ℕ) (x : X) → j ≢ i → slice_get (slice_set xs i x) j ≡ slice_get xs j
get_other [] i j x ne = refl
get_other (z ∷ xs) zero zero x ne = absurd (ne refl)
get_other (z ∷ xs) zero (suc j) x ne = refl
get_other (z ∷ xs) (suc i) zero x ne = refl
get_other (z ∷ xs) (suc i) (suc j) x ne = get_other xs i j x (λ e. ne (ap suc e))

pub get_same : {X : Type 0} (xs : List X) (i : ℕ) (x y : X) → slice_get xs i ≡ Some y → slice_get (slice_set xs i x) i ≡ Some x
get_same [] i x y e = absurd (cc)
get_same (z ∷ xs) zero x y e = refl
get_same (z ∷ xs) (suc i) x y e = get_same xs i x y e

pub set_twice : {X : Type 0} (xs : List X) (i : ℕ) (x y : X) → slice_set (slice_set xs i x) i y ≡ slice_set xs i y
set_twice [] i x y = refl
set_twice (z ∷ xs) zero x y = refl
set_twice (z ∷ xs) (suc i) x y = ap (λ zs. z ∷ zs) (set_twice xs i x y)

get_pushed : {X : Type 0} (xs : List X) (j : ℕ) (x : X) → j ≢ length xs → slice_get (xs ++ x ∷ []) j ≡ slice_get xs j
get_pushed [] zero x ne = absurd (ne refl)
get_pushed [] (suc j) x ne = refl
get_pushed (z ∷ xs) zero x ne = refl
get_pushed (z ∷ xs) (suc j) x ne = get_pushed xs j x (λ e. ne (ap suc e))

some_none : {X : Type 0} (x : X) → Some x ≢ None
some_none x e = cc

-- another place stays when one is set
pub at_other : {X : Type 0} (xs : List X) (h g : ℕ) (x : X) → 0 < h → g ≢ h → at (set_at xs h x) g ≡ at xs g
at_other {X = X} xs h g x big ne = go (g == 0) refl where
  go : (b : Bool) → (g == 0) ≡ b → at (set_at xs h x) g ≡ at xs g
  go true e = rw e refl
  go false e =
      let some : 0 < g = grind (arith, nat_tests) in
      let apart : g - 1 ≢ h - 1 = λ same. ne (omega (arith, some, big, same)) in
      rw e (get_other xs (h - 1) (g - 1) x apart)

-- or one is added
pub at_pushed : {X : Type 0} (xs : List X) (g : ℕ) (x : X) → g ≢ length xs + 1 → at (xs ++ x ∷ []) g ≡ at xs g
at_pushed {X = X} xs g x ne = go (g == 0) refl where
  go : (b : Bool) → (g == 0) ≡ b → at (xs ++ x ∷ []) g ≡ at xs g
  go true e = rw e refl
  go false e =
      let some : 0 < g = grind (arith, nat_tests) in
      let apart : g - 1 ≢ length xs = λ same. ne (omega (arith, some, same)) in
      rw e (get_pushed xs (g - 1) x apart)

-- nothing stands in an empty list
pub at_nothing : {X : Type 0} (g : ℕ) → at {X = X} [] g ≡ None
at_nothing {X = X} g = go (g == 0) refl where
  go : (b : Bool) → (g == 0) ≡ b → at {X = X} [] g ≡ None
  go true e = rw e refl
  go false e = rw e refl

get_past : {X : Type 0} (xs : List X) (j : ℕ) → length xs ≤ j → slice_get xs j ≡ None
get_past [] j l = refl
get_past (z ∷ xs) zero l = absurd (omega (arith, l))
get_past (z ∷ xs) (suc j) l = get_past xs j (omega (arith, l))

-- nor past the end
pub at_past : {X : Type 0} (xs : List X) (g : ℕ) → length xs < g → at xs g ≡ None
at_past xs g l =
    let some : (g == 0) ≡ false = grind (arith, nat_tests) in
    rw some (get_past xs (g - 1) (omega (arith, l)))

-- lists of one length have something at the same places
pub at_both : {X Y : Type 0} (xs : List X) (ys : List Y) (g : ℕ) (x : X) → length xs ≡ length ys → at xs g ≡ Some x → (y : Y) × (at ys g ≡ Some y)
at_both xs ys g x e there = let l = at_within xs g x there in at_some ys g (at_is xs g x there).0 (omega (arith, l, e))

-- and nothing
pub at_neither : {X Y : Type 0} (xs : List X) (ys : List Y) (g : ℕ) → length xs ≡ length ys → at xs g ≡ None → at ys g ≡ None
at_neither {Y = Y} xs ys g e none = go (at ys g) refl where
  go : (q : Option Y) → at ys g ≡ q → at ys g ≡ None
  go None k = k
  go (Some y) k = let there = at_both ys xs g y (sym e) k in absurd (some_none there.0 (sym there.1 ∙ none))

-- what was found there
pub got_here : {X : Type 0} (xs ys : List X) (i : ℕ) (x y : X) → xs ≡ ys → i < length xs → x ≡ get_or xs i x → x ≡ y → slice_get ys i ≡ Some y
got_here xs ys i x y e l is same = subst (λ zs. slice_get zs i ≡ Some y) e (slice_get-get_or xs i x l ∙ ap Some (sym is ∙ same))

pub both_not : (b : Bool) → b ≡ true → b ≡ false → ⊥
both_not b e f = cc
