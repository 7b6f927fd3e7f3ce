-- The first item that passes, by its place.
use Rattle.std.proofs.Common.{◌≡◌, ℕ, suc, ◌+◌, ◌<◌, ◌≤◌, Bool, true, false, cond, not, List, [], ◌∷◌, length, Some, None, find, refl, sym, ap, ◌∙◌, subst, set, arith, nat_lt, zero}
use Rattle.std.specs.Prelude.{slice_index_or, slice_get}
use Rattle.std.specs.List.{position, position_or_len, prefix_len, remove}
use borrow.Author.Tests.{ltb-true, ltb-false}
use Rattle.std.proofs.lemmas.List.Folds.{find_at}
use Rattle.launcher.specs.Rows.{without, at_first}

without_at_head : {X : Type 0} (p : X → Bool) (x : X) (xs : List X) (b : Bool) → p x ≡ b → (prefix_len (λ y. not (p y)) xs < length xs → without p xs ≡ remove xs (prefix_len (λ y. not (p y)) xs)) → cond (not b) (1 + prefix_len (λ y. not (p y)) xs) 0 < suc (length xs) → cond b xs (x ∷ without p xs) ≡ remove (x ∷ xs) (cond (not b) (1 + prefix_len (λ y. not (p y)) xs) 0)
without_at_head p x xs true e ih h = refl
without_at_head p x xs false e ih h =
    let k = prefix_len (λ y. not (p y)) xs in
    let next : 1 + k ≡ suc k = omega arith in
    subst (λ n. x ∷ without p xs ≡ remove (x ∷ xs) n) (sym next) (ap (λ l. x ∷ l) (ih (omega arith)))

-- the first item that passes is taken out at its place
pub without_at : {X : Type 0} (p : X → Bool) (xs : List X) → position_or_len p xs < length xs → without p xs ≡ remove xs (position_or_len p xs)
without_at p [] h = absurd (omega arith)
without_at p (x ∷ xs) h = without_at_head p x xs (p x) refl (without_at p xs) h

without_none_head : {X : Type 0} (p : X → Bool) (x : X) (xs : List X) (b : Bool) → (length xs ≤ prefix_len (λ y. not (p y)) xs → without p xs ≡ xs) → suc (length xs) ≤ cond (not b) (1 + prefix_len (λ y. not (p y)) xs) 0 → cond b xs (x ∷ without p xs) ≡ x ∷ xs
without_none_head p x xs true ih h = absurd (omega arith)
without_none_head p x xs false ih h = ap (λ l. x ∷ l) (ih (omega arith))

pub without_none : {X : Type 0} (p : X → Bool) (xs : List X) → length xs ≤ position_or_len p xs → without p xs ≡ xs
without_none p [] h = refl
without_none p (x ∷ xs) h = without_none_head p x xs (p x) (without_none p xs) h

some_place : (b : Bool) (n i : ℕ) → cond b (Some n) None ≡ Some i → (n ≡ i) × (b ≡ true)
some_place true n i h = (cc, refl)
some_place false n i h = absurd (cc)

no_place : (b : Bool) (n : ℕ) → cond b (Some n) None ≡ None → b ≡ false
no_place true n h = absurd (cc)
no_place false n h = refl

-- what follows from the place that a search gave
pub place_is : {X : Type 0} (p : X → Bool) (xs : List X) (i : ℕ) → position p xs ≡ Some i → (position_or_len p xs ≡ i) × (position_or_len p xs < length xs)
place_is p xs i h =
    let s = some_place (nat_lt (position_or_len p xs) (length xs)) (position_or_len p xs) i h in
    (s.0, ltb-true _ _ s.1)

pub place_past : {X : Type 0} (p : X → Bool) (xs : List X) → position p xs ≡ None → length xs ≤ position_or_len p xs
place_past p xs h = ltb-false _ _ (no_place (nat_lt (position_or_len p xs) (length xs)) (position_or_len p xs) h)

pub find_none : {X : Type 0} (p : X → Bool) (xs : List X) → position p xs ≡ None → find p xs ≡ None
find_none p xs h = find_at p xs ∙ past xs (position_or_len p xs) (place_past p xs h)
  where
    past : {X : Type 0} (xs : List X) (n : ℕ) → length xs ≤ n → slice_get xs n ≡ None
    past [] n h = refl
    past (x ∷ xs) zero h = absurd (omega arith)
    past (x ∷ xs) (suc n) h = past xs n (omega arith)

pub without_same : {X : Type 0} (p : X → Bool) (xs : List X) → position p xs ≡ None → without p xs ≡ xs
without_same p xs h = without_none p xs (place_past p xs h)

get_at : {X : Type 0} (xs : List X) (i : ℕ) (x : X) → i < length xs → x ≡ slice_index_or xs i x → slice_get xs i ≡ Some x
get_at [] i x h e = absurd (omega arith)
get_at (y ∷ xs) zero x h e = ap Some (sym e)
get_at (y ∷ xs) (suc i) x h e = get_at xs i x (omega arith) e

pub find_some : {X : Type 0} (p : X → Bool) (xs : List X) (i : ℕ) (x : X) → position p xs ≡ Some i → x ≡ slice_index_or xs i x → Some x ≡ find p xs
find_some p xs i x h e =
    let s = place_is p xs i h in
    sym (find_at p xs ∙ ap (slice_get xs) s.0 ∙ get_at xs i x (subst (λ n. n < length xs) s.0 s.1) e)

pub without_removed : {X : Type 0} (p : X → Bool) (xs : List X) (i : ℕ) → position p xs ≡ Some i → remove xs i ≡ without p xs
without_removed p xs i h =
    let s = place_is p xs i h in
    sym (without_at p xs s.1 ∙ ap (remove xs) s.0)

-- a write at the first place that passes
set_at_head : {X : Type 0} (p : X → Bool) (f : X → X) (x : X) (xs : List X) (y : X) (b : Bool) → (prefix_len (λ z. not (p z)) xs < length xs → y ≡ f (slice_index_or xs (prefix_len (λ z. not (p z)) xs) x) → set xs (prefix_len (λ z. not (p z)) xs) y ≡ at_first p f xs) → cond (not b) (1 + prefix_len (λ z. not (p z)) xs) 0 < suc (length xs) → y ≡ f (slice_index_or (x ∷ xs) (cond (not b) (1 + prefix_len (λ z. not (p z)) xs) 0) x) → set (x ∷ xs) (cond (not b) (1 + prefix_len (λ z. not (p z)) xs) 0) y ≡ cond b (f x ∷ xs) (x ∷ at_first p f xs)
set_at_head p f x xs y true ih h e = ap (λ z. z ∷ xs) e
set_at_head p f x xs y false ih h e =
    let k = prefix_len (λ z. not (p z)) xs in
    let next : 1 + k ≡ suc k = omega arith in
    let e' : y ≡ f (slice_index_or xs k x) = subst (λ n. y ≡ f (slice_index_or (x ∷ xs) n x)) next e in
    subst (λ n. set (x ∷ xs) n y ≡ x ∷ at_first p f xs) (sym next) (ap (λ l. x ∷ l) (ih (omega arith) e'))

-- a place that is there is read alike whatever stands for the others
pub same_read : {X : Type 0} (xs : List X) (i : ℕ) (d e : X) → i < length xs → slice_index_or xs i d ≡ slice_index_or xs i e
same_read [] i d e h = absurd (omega arith)
same_read (x ∷ xs) zero d e h = refl
same_read (x ∷ xs) (suc i) d e h = same_read xs i d e (omega arith)

pub set_at_first : {X : Type 0} (p : X → Bool) (f : X → X) (xs : List X) (y d : X) → position_or_len p xs < length xs → y ≡ f (slice_index_or xs (position_or_len p xs) d) → set xs (position_or_len p xs) y ≡ at_first p f xs
set_at_first p f [] y d h e = absurd (omega arith)
set_at_first p f (x ∷ xs) y d h e = set_at_head p f x xs y (p x) (λ l g. set_at_first p f xs y x l g) h (e ∙ ap f (same_read (x ∷ xs) (position_or_len p (x ∷ xs)) d x h))

pub at_first_none : {X : Type 0} (p : X → Bool) (f : X → X) (xs : List X) → length xs ≤ position_or_len p xs → at_first p f xs ≡ xs
at_first_none p f [] h = refl
at_first_none p f (x ∷ xs) h = at_first_none_head p f x xs (p x) (at_first_none p f xs) h
  where
    at_first_none_head : {X : Type 0} (p : X → Bool) (f : X → X) (x : X) (xs : List X) (b : Bool) → (length xs ≤ prefix_len (λ y. not (p y)) xs → at_first p f xs ≡ xs) → suc (length xs) ≤ cond (not b) (1 + prefix_len (λ y. not (p y)) xs) 0 → cond b (f x ∷ xs) (x ∷ at_first p f xs) ≡ x ∷ xs
    at_first_none_head p f x xs true ih h = absurd (omega arith)
    at_first_none_head p f x xs false ih h = ap (λ l. x ∷ l) (ih (omega arith))

pub at_first_same : {X : Type 0} (p : X → Bool) (f : X → X) (xs : List X) → position p xs ≡ None → at_first p f xs ≡ xs
at_first_same p f xs h = at_first_none p f xs (place_past p xs h)

pub ruleset first_taken = (find_none, without_same, find_some, without_removed)
