-- How often a turn stands in the queue, and in hands.
use Rattle.std.proofs.Common.{◌⊎◌, inl, inr, ℕ, zero, suc, ◌≡◌, ◌≢◌, ◌<◌, ◌≤◌, ◌+◌, ◌==◌, true, false, List, [], ◌∷◌, ◌++◌, Option, Some, None, slice_get, slice_set, get_or, refl, ap, ◌∙◌, arith}
use Rattle.std.proofs.lemmas.Bool.Decides.{nat_tests}
use Rattle.std.proofs.lemmas.List.Sums.{sum_by-append, sum_by-cons, sum_by-set, get_or-le-sum_by}
use Rattle.std.proofs.lemmas.Option.{get_or_from_slice_get, slice_get_within}
use Rattle.sk_types.specs.declared.number.Handle.{Handle}
use Rattle.schedule_core.specs.declared.spot.Spot.{Spot}
use Rattle.schedule_core.specs.declared.spot.Spot.TheVariants.{Home, Queued, Hand, Spent}
use Rattle.schedule_core.specs.Turns.{one_if, one_in, queued, handed, in_queue, in_hand, AreEmpty}

pub one_same : (h : Handle) → one_if h h ≡ 1
one_same h = let e : (h.0 == h.0) ≡ true = grind (arith, nat_tests) in rw e refl

pub one_other : (g h : Handle) → g.0 ≢ h.0 → one_if g h ≡ 0
one_other g h ne = let e : (h.0 == g.0) ≡ false = grind (arith, nat_tests) in rw e refl

-- THE QUEUE

pub queued_first : (g h : Handle) (rest queue : List Handle) → queue ≡ h ∷ rest → queued g queue ≡ one_if g h + queued g rest
queued_first g h rest queue e = ap (queued g) e ∙ sum_by-cons (one_if g) h rest

pub queued_last : (g h : Handle) (queue : List Handle) → queued g (queue ++ h ∷ []) ≡ queued g queue + one_if g h
queued_last g h queue = omega (arith, sum_by-append (one_if g) queue (h ∷ []), sum_by-cons (one_if g) h [])

-- HANDS

none_some : (h : Handle) → ◌≡◌ {A = Option (Option Handle)} None (Some (Some h)) → ⊥
none_some h e = cc

some_none : (h : Handle) → Some h ≡ None → ⊥
some_none h e = cc

-- one hand is changed
pub hand_set : (g : Handle) (hands : List (Option Handle)) (i : ℕ) (was now : Option Handle) → slice_get hands i ≡ Some was → handed g (slice_set hands i now) + one_in g was ≡ handed g hands + one_in g now
hand_set g hands i was now e =
    let is : get_or hands i was ≡ was = get_or_from_slice_get hands i was was e in
    omega (arith, sum_by-set (one_in g) hands i now was (slice_get_within hands i was e), ap (one_in g) is)

-- what is in a hand is counted
pub hand_has : (h : Handle) (hands : List (Option Handle)) (i : ℕ) → slice_get hands i ≡ Some (Some h) → 0 < handed h hands
hand_has h hands i e =
    let is : get_or hands i (Some h) ≡ Some h = get_or_from_slice_get hands i (Some h) (Some h) e in
    omega (arith, get_or-le-sum_by (one_in h) hands i (Some h) (slice_get_within hands i (Some h) e), ap (one_in h) is, one_same h)

empty_rest : (x : Option Handle) (hands : List (Option Handle)) → AreEmpty (x ∷ hands) → AreEmpty hands
empty_rest x hands ok = record { each = λ i h e. ok.each (suc i) h e }

pub none_handed : (g : Handle) (hands : List (Option Handle)) → AreEmpty hands → handed g hands ≡ 0
none_handed g [] ok = refl
none_handed g (None ∷ hands) ok = omega (arith, sum_by-cons (one_in g) None hands, none_handed g hands (empty_rest None hands ok))
none_handed g (Some h ∷ hands) ok = absurd (ok.each 0 h refl)

pub empty_hands : AreEmpty []
empty_hands = record { each = λ i h e. none_some h e }

get_last : {X : Type 0} (xs : List X) (x y : X) (i : ℕ) → slice_get (xs ++ x ∷ []) i ≡ Some y → (y ≡ x) ⊎ (slice_get xs i ≡ Some y)
get_last [] x y zero e = inl cc
get_last [] x y (suc i) e = absurd (cc)
get_last (z ∷ xs) x y zero e = inr e
get_last (z ∷ xs) x y (suc i) e = get_last xs x y i e

-- one empty hand more
pub empty_more : (hands : List (Option Handle)) → AreEmpty hands → AreEmpty (hands ++ None ∷ [])
empty_more hands ok = record { each = λ i h e. go i h (get_last hands None (Some h) i e) } where
  go : (i : ℕ) (h : Handle) → ((Some h ≡ None) ⊎ (slice_get hands i ≡ Some (Some h))) → ⊥
  go i h (inl e) = some_none h e
  go i h (inr e) = ok.each i h e

-- SPOTS

pub spot_queued : (o : Option Spot) → 0 < in_queue o → o ≡ Some Queued
spot_queued None p = absurd (omega (arith, p))
spot_queued (Some Home) p = absurd (omega (arith, p))
spot_queued (Some Queued) p = refl
spot_queued (Some Hand) p = absurd (omega (arith, p))
spot_queued (Some Spent) p = absurd (omega (arith, p))

pub spot_in_hand : (o : Option Spot) → 0 < in_hand o → o ≡ Some Hand
spot_in_hand None p = absurd (omega (arith, p))
spot_in_hand (Some Home) p = absurd (omega (arith, p))
spot_in_hand (Some Queued) p = absurd (omega (arith, p))
spot_in_hand (Some Hand) p = refl
spot_in_hand (Some Spent) p = absurd (omega (arith, p))

pub in_hand_once : (o : Option Spot) → in_hand o ≤ 1
in_hand_once None = omega arith
in_hand_once (Some Home) = omega arith
in_hand_once (Some Queued) = omega arith
in_hand_once (Some Hand) = omega arith
in_hand_once (Some Spent) = omega arith
