-- The order of adding: a timer that is added is the last.
use Rattle.std.proofs.Common.{ℕ, suc, ◌+◌, ◌≡◌, ◌<◌, Bool, true, false, cond, List, [], ◌∷◌, ◌++◌, length, map, nat_lt, max, refl, sym, ap, subst, ◌∙◌, arith, ◌⊎◌, inl, inr}
use Rattle.std.specs.Prelude.{IsTrue, ◌↔◌, ◌==◌}
use Rattle.std.proofs.lemmas.Bool.Decides.{nat_tests}
use Rattle.std.proofs.lemmas.List.{map_push, length-map}
use Rattle.std.specs.declared.cmp.Ordering.{Ordering}
use Rattle.std.specs.declared.cmp.Ordering.TheVariants.{Less, Equal, Greater}
use Rattle.std.specs.Ordering.{nat_cmp, ordering_then, match_ordering}
use Rattle.std.specs.Cmp.{nat_cmp_is}
use Rattle.std.proofs.lemmas.Cmp.{ranked}
use Rattle.std.specs.BTreeMap.{insert_entry}
use Rattle.sk_types.specs.declared.number.Handle.{Handle}
use Rattle.sk_types.specs.declared.number.Session.{Session}
use Rattle.message.specs.declared.place.Timer.{Timer}
use Rattle.timer_wheel.specs.declared.timers.Slot.{Slot}
use Rattle.timer_wheel.specs.Slots.{put_by_number, by_number, in_order, IsBefore, IsBeforeAll, Waits, IsWheel}

abbrev pub slot_cmp : Slot → Slot → Ordering
slot_cmp a b = ordering_then (nat_cmp a.tick b.tick) (nat_cmp a.number b.number)

-- all have smaller numbers
abbrev Under : ℕ → List (Slot × Timer) → Type 0
Under n [] = Unit {0}
Under n (e ∷ es) = (e.0.number < n) × Under n es

wheel_under : (c n : ℕ) (es : List (Slot × Timer)) → IsWheel c n es → Under n es
wheel_under c n [] w = tt
wheel_under c n (e ∷ es) w = (w.0.numbered, wheel_under c n es w.2)

less : (a b : ℕ) → a < b → nat_lt a b ≡ true
less a b h = grind (arith, nat_tests)

not_less : (a b : ℕ) → b < a → nat_lt a b ≡ false
not_less a b h = grind (arith, nat_tests)

put_last : (e : Slot × Timer) (s : List (Slot × Timer)) → Under e.0.number s → put_by_number e s ≡ s ++ e ∷ []
put_last e [] u = refl
put_last e (x ∷ s) u = rw (not_less e.0.number x.0.number u.0) (ap (λ l. x ∷ l) (put_last e s u.1))

put_before_head : (e x y : Slot × Timer) (s : List (Slot × Timer)) (b : Bool) → put_by_number e (s ++ x ∷ []) ≡ put_by_number e s ++ x ∷ [] → cond b (e ∷ y ∷ (s ++ x ∷ [])) (y ∷ put_by_number e (s ++ x ∷ [])) ≡ cond b (e ∷ y ∷ s) (y ∷ put_by_number e s) ++ x ∷ []
put_before_head e x y s true ih = refl
put_before_head e x y s false ih = ap (λ l. y ∷ l) ih

put_before : (e x : Slot × Timer) (s : List (Slot × Timer)) → e.0.number < x.0.number → put_by_number e (s ++ x ∷ []) ≡ put_by_number e s ++ x ∷ []
put_before e x [] h = rw (less e.0.number x.0.number h) refl
put_before e x (y ∷ s) h = put_before_head e x y s (nat_lt e.0.number y.0.number) (put_before e x s h)

under_put_head : (n : ℕ) (e x : Slot × Timer) (s : List (Slot × Timer)) (b : Bool) → e.0.number < n → Under n (x ∷ s) → Under n (put_by_number e s) → Under n (cond b (e ∷ x ∷ s) (x ∷ put_by_number e s))
under_put_head n e x s true h u ih = (h, u)
under_put_head n e x s false h u ih = (u.0, ih)

under_put : (n : ℕ) (e : Slot × Timer) (s : List (Slot × Timer)) → e.0.number < n → Under n s → Under n (put_by_number e s)
under_put n e [] h u = (h, tt)
under_put n e (x ∷ s) h u = under_put_head n e x s (nat_lt e.0.number x.0.number) h u (under_put n e s h u.1)

under_sorted : (n : ℕ) (es : List (Slot × Timer)) → Under n es → Under n (by_number es)
under_sorted n [] u = tt
under_sorted n (e ∷ es) u = under_put n e (by_number es) u.0 (under_sorted n es u.1)

-- SLOTS

-- a slot with a greater number stands before a slot of a later tick, and behind all others
abbrev Stands : Slot → Slot → Type 0
Stands k q = ((slot_cmp k q ≡ Less) × (k.tick < q.tick)) ⊎ ((slot_cmp k q ≡ Greater) × IsBefore q k)

stands : (k q : Slot) → q.number < k.number → Stands k q
stands k q h = go (nat_cmp k.tick q.tick) refl
  where
    go : (t : Ordering) → nat_cmp k.tick q.tick ≡ t → Stands k q
    go Less e = inl (ap (λ o. ordering_then o (nat_cmp k.number q.number)) e, ranked k.tick q.tick Less (sym e))
    go Equal e = inr (ap (λ o. ordering_then o (nat_cmp k.number q.number)) e ∙ sym (nat_cmp_is k.number q.number Greater h), inr (sym (ranked k.tick q.tick Equal (sym e)), h))
    go Greater e = inr (ap (λ o. ordering_then o (nat_cmp k.number q.number)) e, inl (ranked k.tick q.tick Greater (sym e)))

module _ (k : Slot) (v : Timer) where
  insert_head : (e : Slot × Timer) (es : List (Slot × Timer)) → Under k.number (e ∷ es) → Stands k e.0 → by_number (insert_entry slot_cmp es k v) ≡ by_number es ++ (k, v) ∷ [] → by_number (insert_entry slot_cmp (e ∷ es) k v) ≡ by_number (e ∷ es) ++ (k, v) ∷ []
  insert_head e es u (inl p) ih =
      subst (λ o. by_number (match_ordering o ((k, v) ∷ e ∷ es) ((e.0, v) ∷ es) (e ∷ insert_entry slot_cmp es k v)) ≡ by_number (e ∷ es) ++ (k, v) ∷ []) (sym p.0) (put_last (k, v) (by_number (e ∷ es)) (under_sorted k.number (e ∷ es) u))
  insert_head e es u (inr p) ih =
      subst (λ o. by_number (match_ordering o ((k, v) ∷ e ∷ es) ((e.0, v) ∷ es) (e ∷ insert_entry slot_cmp es k v)) ≡ by_number (e ∷ es) ++ (k, v) ∷ []) (sym p.0) (ap (put_by_number e) ih ∙ put_before e (k, v) (by_number es) u.0)

  insert_by_number : (es : List (Slot × Timer)) → Under k.number es → by_number (insert_entry slot_cmp es k v) ≡ by_number es ++ (k, v) ∷ []
  insert_by_number [] u = refl
  insert_by_number (e ∷ es) u = insert_head e es u (stands k e.0 u.0) (insert_by_number es u.1)

-- a timer that is added is the last in the order of adding
pub added_last : (c : ℕ) (k : Slot) (v : Timer) (es : List (Slot × Timer)) → IsWheel c k.number es → in_order (insert_entry slot_cmp es k v) ≡ in_order es ++ v ∷ []
added_last c k v es w = ap (map (λ (e : Slot × Timer). e.1)) (insert_by_number k v es (wheel_under c k.number es w)) ∙ map_push (λ (e : Slot × Timer). e.1) (by_number es) (k, v)

-- THE WHEEL

waits_more : (c n : ℕ) (e : Slot × Timer) → Waits c n e → Waits c (n + 1) e
waits_more c n e w = record { numbered = omega (arith, w.numbered); to_come = w.to_come; not_early = w.not_early; not_late = w.not_late }

wheel_more : (c n : ℕ) (es : List (Slot × Timer)) → IsWheel c n es → IsWheel c (n + 1) es
wheel_more c n [] w = tt
wheel_more c n (e ∷ es) w = (waits_more c n e w.0, w.1, wheel_more c n es w.2)

before_later : (k q r : Slot) → k.tick < q.tick → IsBefore q r → IsBefore k r
before_later k q r h (inl l) = inl (omega (arith, h, l))
before_later k q r h (inr e) = inl (omega (arith, h, e.0))

before_all : (k q : Slot) (es : List (Slot × Timer)) → k.tick < q.tick → IsBeforeAll q es → IsBeforeAll k es
before_all k q [] h b = tt
before_all k q (x ∷ es) h b = (before_later k q x.0 h b.0, before_all k q es h b.1)

module _ (k : Slot) (v : Timer) where
  before_insert_head : (s : Slot) (x : Slot × Timer) (es : List (Slot × Timer)) (o : Ordering) → IsBefore s k → IsBeforeAll s (x ∷ es) → IsBeforeAll s (insert_entry slot_cmp es k v) → IsBeforeAll s (match_ordering o ((k, v) ∷ x ∷ es) ((x.0, v) ∷ es) (x ∷ insert_entry slot_cmp es k v))
  before_insert_head s x es Less b a ih = (b, a)
  before_insert_head s x es Equal b a ih = a
  before_insert_head s x es Greater b a ih = (a.0, ih)

  before_insert : (s : Slot) (es : List (Slot × Timer)) → IsBefore s k → IsBeforeAll s es → IsBeforeAll s (insert_entry slot_cmp es k v)
  before_insert s [] b a = (b, tt)
  before_insert s (x ∷ es) b a = before_insert_head s x es (slot_cmp k x.0) b a (before_insert s es b a.1)

  wheel_head : (c : ℕ) (e : Slot × Timer) (es : List (Slot × Timer)) → Waits c (k.number + 1) (k, v) → IsWheel c k.number (e ∷ es) → Stands k e.0 → IsWheel c (k.number + 1) (insert_entry slot_cmp es k v) → IsWheel c (k.number + 1) (insert_entry slot_cmp (e ∷ es) k v)
  wheel_head c e es n w (inl p) ih =
      subst (λ o. IsWheel c (k.number + 1) (match_ordering o ((k, v) ∷ e ∷ es) ((e.0, v) ∷ es) (e ∷ insert_entry slot_cmp es k v))) (sym p.0) (n, (inl p.1, before_all k e.0 es p.1 w.1), wheel_more c k.number (e ∷ es) w)
  wheel_head c e es n w (inr p) ih =
      subst (λ o. IsWheel c (k.number + 1) (match_ordering o ((k, v) ∷ e ∷ es) ((e.0, v) ∷ es) (e ∷ insert_entry slot_cmp es k v))) (sym p.0) (waits_more c k.number e w.0, before_insert e.0 es p.1 w.1, ih)

  pub added_wheel : (c : ℕ) (es : List (Slot × Timer)) → Waits c (k.number + 1) (k, v) → IsWheel c k.number es → IsWheel c (k.number + 1) (insert_entry slot_cmp es k v)
  added_wheel c [] n w = (n, tt, tt)
  added_wheel c (e ∷ es) n w = wheel_head c e es n w (stands k e.0 w.0.numbered) (added_wheel c es n w.2)

-- LENGTHS

length_put_head : (e x : Slot × Timer) (s : List (Slot × Timer)) (b : Bool) → length (put_by_number e s) ≡ suc (length s) → length (cond b (e ∷ x ∷ s) (x ∷ put_by_number e s)) ≡ suc (suc (length s))
length_put_head e x s true ih = refl
length_put_head e x s false ih = ap suc ih

length_put : (e : Slot × Timer) (s : List (Slot × Timer)) → length (put_by_number e s) ≡ suc (length s)
length_put e [] = refl
length_put e (x ∷ s) = length_put_head e x s (nat_lt e.0.number x.0.number) (length_put e s)

length_by_number : (es : List (Slot × Timer)) → length (by_number es) ≡ length es
length_by_number [] = refl
length_by_number (e ∷ es) = length_put e (by_number es) ∙ ap suc (length_by_number es)

pub length_in_order : (es : List (Slot × Timer)) → length (in_order es) ≡ length es
length_in_order es = length-map (by_number es) (λ (e : Slot × Timer). e.1) ∙ length_by_number es

-- a timer fires at its time, or at the next tick
pub waits : (c n t at : ℕ) (own : Handle) (session : Session) → t ≡ max at (c + 1) → Waits c (n + 1) (record { tick = t; number = n }, record { at = at; handle = own; session = session })
waits c n t at own session e =
    record {
      numbered = omega arith;
      to_come = grind (arith, e);
      not_early = grind (arith, e);
      not_late = λ m l a. grind (arith, e, l, a);
    }

pub is_none : (b : Bool) (n : ℕ) → (IsTrue b ↔ (n ≡ 0)) → b ≡ (n == 0)
is_none true n h = grind (arith, nat_tests, h.0 refl)
is_none false n h = go (n == 0) refl
  where
    go : (t : Bool) → (n == 0) ≡ t → false ≡ t
    go true e = absurd (cc (h.1 (grind (arith, nat_tests, e))))
    go false e = refl
