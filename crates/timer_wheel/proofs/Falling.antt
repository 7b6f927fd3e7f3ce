-- Which timers are due: those at the front, and they stand there in the order of adding.
use Rattle.std.proofs.Common.{ℕ, ◌+◌, ◌≡◌, ◌<◌, ◌≤◌, Bool, true, false, cond, not, List, [], ◌∷◌, map, nat_le, nat_lt, refl, ap, ◌∙◌, arith, inl, inr}
use Rattle.std.proofs.lemmas.Bool.Decides.{nat_tests}
use Rattle.sk_types.specs.declared.number.Handle.{Handle}
use Rattle.sk_types.specs.declared.number.Session.{Session}
use Rattle.message.specs.Clocks.{due_at, later_than}
use Rattle.message.specs.declared.place.Timer.{Timer}
use Rattle.timer_wheel.specs.declared.timers.Slot.{Slot}
use Rattle.timer_wheel.specs.Slots.{put_by_number, by_number, in_order, due_first, after_due, IsBefore, IsBeforeAll, Waits, IsWheel}

abbrev Waiting : Type 0
Waiting = List (Slot × Timer)

abbrev timers : Waiting → List Timer
timers s = map (λ e. e.1) s

yes : (a n : ℕ) → a ≤ n → nat_le a n ≡ true
yes a n h = grind (arith, nat_tests)

upto : (a n : ℕ) → nat_le a n ≡ true → a ≤ n
upto a n h = grind (arith, nat_tests)

past : (a n : ℕ) → nat_le a n ≡ false → n < a
past a n h = grind (arith, nat_tests)

below : (a b : ℕ) → nat_lt a b ≡ false → a < b → true ≡ false
below a b h l = grind (arith, nat_tests)

not_due : (a t n : ℕ) → (a ≤ n → t ≤ n) → n < t → nat_le a n ≡ false
not_due a t n late h = go (nat_le a n) refl
  where
    go : (b : Bool) → nat_le a n ≡ b → b ≡ false
    go true e = absurd (omega (arith, late (upto a n e), h))
    go false e = refl

-- NONE IS DUE

abbrev NoneDue : ℕ → Waiting → Type 0
NoneDue n [] = Unit {0}
NoneDue n (e ∷ es) = (nat_le e.1.at n ≡ false) × NoneDue n es

none_put_head : (n : ℕ) (e x : Slot × Timer) (s : Waiting) (b : Bool) → nat_le e.1.at n ≡ false → NoneDue n (x ∷ s) → NoneDue n (put_by_number e s) → NoneDue n (cond b (e ∷ x ∷ s) (x ∷ put_by_number e s))
none_put_head n e x s true h d ih = (h, d)
none_put_head n e x s false h d ih = (d.0, ih)

none_put : (n : ℕ) (e : Slot × Timer) (s : Waiting) → nat_le e.1.at n ≡ false → NoneDue n s → NoneDue n (put_by_number e s)
none_put n e [] h d = (h, tt)
none_put n e (x ∷ s) h d = none_put_head n e x s (nat_lt e.0.number x.0.number) h d (none_put n e s h d.1)

none_sorted : (n : ℕ) (es : Waiting) → NoneDue n es → NoneDue n (by_number es)
none_sorted n [] d = tt
none_sorted n (e ∷ es) d = none_put n e (by_number es) d.0 (none_sorted n es d.1)

none_due : (n : ℕ) (s : Waiting) → NoneDue n s → due_at n (timers s) ≡ []
none_due n [] d = refl
none_due n (e ∷ s) d = rw d.0 (none_due n s d.1)

all_wait : (n : ℕ) (s : Waiting) → NoneDue n s → later_than n (timers s) ≡ timers s
all_wait n [] d = refl
all_wait n (e ∷ s) d = rw d.0 (ap (λ z. e.1 ∷ z) (all_wait n s d.1))

later_tick : (n : ℕ) (k q : Slot) → n < k.tick → IsBefore k q → n < q.tick
later_tick n k q h (inl l) = omega (arith, h, l)
later_tick n k q h (inr e) = omega (arith, h, e.0)

-- behind one that is not due none is
none_behind : (c m : ℕ) (k : Slot) (es : Waiting) → c + 1 < k.tick → IsBeforeAll k es → IsWheel c m es → NoneDue (c + 1) es
none_behind c m k [] h b w = tt
none_behind c m k (e ∷ es) h b w = (not_due e.1.at e.0.tick (c + 1) (w.0.not_late (c + 1) (omega arith)) (later_tick (c + 1) k e.0 h b.0), none_behind c m k es h b.1 w.2)

none_from : (c m : ℕ) (e : Slot × Timer) (es : Waiting) → c + 1 < e.0.tick → IsWheel c m (e ∷ es) → NoneDue (c + 1) (by_number (e ∷ es))
none_from c m e es h w = none_sorted (c + 1) (e ∷ es) (not_due e.1.at e.0.tick (c + 1) (w.0.not_late (c + 1) (omega arith)) h, none_behind c m e.0 es h w.1 w.2)

-- ONE IS DUE

later_put_head : (n : ℕ) (e x : Slot × Timer) (s : Waiting) (b : Bool) → nat_le e.1.at n ≡ true → later_than n (timers (put_by_number e s)) ≡ later_than n (timers s) → later_than n (timers (cond b (e ∷ x ∷ s) (x ∷ put_by_number e s))) ≡ later_than n (timers (x ∷ s))
later_put_head n e x s true h ih = rw h refl
later_put_head n e x s false h ih = ap (λ z. cond (not (nat_le x.1.at n)) (x.1 ∷ z) z) ih

later_put : (n : ℕ) (e : Slot × Timer) (s : Waiting) → nat_le e.1.at n ≡ true → later_than n (timers (put_by_number e s)) ≡ later_than n (timers s)
later_put n e [] h = rw h refl
later_put n e (x ∷ s) h = later_put_head n e x s (nat_lt e.0.number x.0.number) h (later_put n e s h)

-- those that are due have greater numbers
abbrev Behind : ℕ → ℕ → Waiting → Type 0
Behind n k [] = Unit {0}
Behind n k (e ∷ es) = (nat_le e.1.at n ≡ true → k < e.0.number) × Behind n k es

behind_put_head : (n k : ℕ) (e x : Slot × Timer) (s : Waiting) (b : Bool) → (nat_le e.1.at n ≡ true → k < e.0.number) → Behind n k (x ∷ s) → Behind n k (put_by_number e s) → Behind n k (cond b (e ∷ x ∷ s) (x ∷ put_by_number e s))
behind_put_head n k e x s true h d ih = (h, d)
behind_put_head n k e x s false h d ih = (d.0, ih)

behind_put : (n k : ℕ) (e : Slot × Timer) (s : Waiting) → (nat_le e.1.at n ≡ true → k < e.0.number) → Behind n k s → Behind n k (put_by_number e s)
behind_put n k e [] h d = (h, tt)
behind_put n k e (x ∷ s) h d = behind_put_head n k e x s (nat_lt e.0.number x.0.number) h d (behind_put n k e s h d.1)

behind_sorted : (n k : ℕ) (es : Waiting) → Behind n k es → Behind n k (by_number es)
behind_sorted n k [] d = tt
behind_sorted n k (e ∷ es) d = behind_put n k e (by_number es) d.0 (behind_sorted n k es d.1)

greater : (c : ℕ) (k q : Slot) → c < k.tick → IsBefore k q → q.tick ≤ c + 1 → k.number < q.number
greater c k q h (inl l) d = absurd (omega (arith, h, l, d))
greater c k q h (inr e) d = e.1

behind_first : (c m : ℕ) (k : Slot) (es : Waiting) → c < k.tick → IsBeforeAll k es → IsWheel c m es → Behind (c + 1) k.number es
behind_first c m k [] h b w = tt
behind_first c m k (e ∷ es) h b w =
    let one : nat_le e.1.at (c + 1) ≡ true → k.number < e.0.number = λ d. greater c k e.0 h b.0 (w.0.not_late (c + 1) (omega arith) (upto e.1.at (c + 1) d)) in
    (one, behind_first c m k es h b.1 w.2)

abbrev fired : Slot × Timer → Handle × Session
fired e = (e.1.handle, e.1.session)

skipped : (n : ℕ) (e x : Slot × Timer) (s : Waiting) (b : Bool) → nat_le x.1.at n ≡ b → (b ≡ true → true ≡ false) → due_at n (timers (put_by_number e s)) ≡ fired e ∷ due_at n (timers s) → due_at n (timers (x ∷ put_by_number e s)) ≡ fired e ∷ due_at n (timers (x ∷ s))
skipped n e x s true is h ih = absurd (cc (h refl))
skipped n e x s false is h ih = rw is ih

due_put_head : (n : ℕ) (e x : Slot × Timer) (s : Waiting) (b : Bool) → nat_lt e.0.number x.0.number ≡ b → nat_le e.1.at n ≡ true → (nat_le x.1.at n ≡ true → e.0.number < x.0.number) → due_at n (timers (put_by_number e s)) ≡ fired e ∷ due_at n (timers s) → due_at n (timers (cond b (e ∷ x ∷ s) (x ∷ put_by_number e s))) ≡ fired e ∷ due_at n (timers (x ∷ s))
due_put_head n e x s true is h d ih = rw h refl
due_put_head n e x s false is h d ih = skipped n e x s (nat_le x.1.at n) refl (λ t. below e.0.number x.0.number is (d t)) ih

-- one that is due fires before those of greater numbers
due_put : (n : ℕ) (e : Slot × Timer) (s : Waiting) → nat_le e.1.at n ≡ true → Behind n e.0.number s → due_at n (timers (put_by_number e s)) ≡ fired e ∷ due_at n (timers s)
due_put n e [] h b = rw h refl
due_put n e (x ∷ s) h b = due_put_head n e x s (nat_lt e.0.number x.0.number) refl h b.0 (due_put n e s h b.1)

-- A TICK

is_due : (c m : ℕ) (e : Slot × Timer) → Waits c m e → nat_le e.0.tick (c + 1) ≡ true → nat_le e.1.at (c + 1) ≡ true
is_due c m e w h = yes e.1.at (c + 1) (omega (arith, w.not_early, upto e.0.tick (c + 1) h))

falls_head : (c m : ℕ) (e : Slot × Timer) (es : Waiting) (b : Bool) → nat_le e.0.tick (c + 1) ≡ b → IsWheel c m (e ∷ es) → due_at (c + 1) (in_order es) ≡ due_first (c + 1) es → due_at (c + 1) (in_order (e ∷ es)) ≡ cond b (fired e ∷ due_first (c + 1) es) []
falls_head c m e es true is w ih =
    due_put (c + 1) e (by_number es) (is_due c m e w.0 is) (behind_sorted (c + 1) e.0.number es (behind_first c m e.0 es w.0.to_come w.1 w.2)) ∙ ap (λ z. fired e ∷ z) ih
falls_head c m e es false is w ih = none_due (c + 1) (by_number (e ∷ es)) (none_from c m e es (past e.0.tick (c + 1) is) w)

-- those at the front are the ones that are due, in the order of adding
pub falls : (c m : ℕ) (es : Waiting) → IsWheel c m es → due_at (c + 1) (in_order es) ≡ due_first (c + 1) es
falls c m [] w = refl
falls c m (e ∷ es) w = falls_head c m e es (nat_le e.0.tick (c + 1)) refl w (falls c m es w.2)

stays_head : (c m : ℕ) (e : Slot × Timer) (es : Waiting) (b : Bool) → nat_le e.0.tick (c + 1) ≡ b → IsWheel c m (e ∷ es) → later_than (c + 1) (in_order es) ≡ in_order (after_due (c + 1) es) → later_than (c + 1) (in_order (e ∷ es)) ≡ in_order (cond b (after_due (c + 1) es) (e ∷ es))
stays_head c m e es true is w ih = later_put (c + 1) e (by_number es) (is_due c m e w.0 is) ∙ ih
stays_head c m e es false is w ih = all_wait (c + 1) (by_number (e ∷ es)) (none_from c m e es (past e.0.tick (c + 1) is) w)

-- the others wait on
pub stays : (c m : ℕ) (es : Waiting) → IsWheel c m es → later_than (c + 1) (in_order es) ≡ in_order (after_due (c + 1) es)
stays c m [] w = refl
stays c m (e ∷ es) w = stays_head c m e es (nat_le e.0.tick (c + 1)) refl w (stays c m es w.2)

waits_on : (c m : ℕ) (e : Slot × Timer) → c + 1 < e.0.tick → Waits c m e → Waits (c + 1) m e
waits_on c m e h w = record { numbered = w.numbered; to_come = h; not_early = w.not_early; not_late = λ n l a. w.not_late n (omega (arith, l)) a }

wheel_behind : (c m : ℕ) (k : Slot) (es : Waiting) → c + 1 < k.tick → IsBeforeAll k es → IsWheel c m es → IsWheel (c + 1) m es
wheel_behind c m k [] h b w = tt
wheel_behind c m k (e ∷ es) h b w = (waits_on c m e (later_tick (c + 1) k e.0 h b.0) w.0, w.1, wheel_behind c m k es h b.1 w.2)

wheel_after_head : (c m : ℕ) (e : Slot × Timer) (es : Waiting) (b : Bool) → nat_le e.0.tick (c + 1) ≡ b → IsWheel c m (e ∷ es) → IsWheel (c + 1) m (after_due (c + 1) es) → IsWheel (c + 1) m (cond b (after_due (c + 1) es) (e ∷ es))
wheel_after_head c m e es true is w ih = ih
wheel_after_head c m e es false is w ih =
    let h = past e.0.tick (c + 1) is in
    (waits_on c m e h w.0, w.1, wheel_behind c m e.0 es h w.1 w.2)

pub wheel_after : (c m : ℕ) (es : Waiting) → IsWheel c m es → IsWheel (c + 1) m (after_due (c + 1) es)
wheel_after c m [] w = tt
wheel_after c m (e ∷ es) w = wheel_after_head c m e es (nat_le e.0.tick (c + 1)) refl w (wheel_after c m es w.2)
