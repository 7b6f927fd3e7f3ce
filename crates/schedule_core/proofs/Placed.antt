-- What becomes of turns leaves each in one place, once.
use Rattle.std.proofs.Common.{◌⊎◌, inl, inr, ℕ, ◌≡◌, ◌≢◌, ◌<◌, ◌≤◌, ◌+◌, Bool, true, false, List, [], ◌∷◌, ◌++◌, length, Option, Some, None, slice_get, slice_set, refl, ap, sym, ◌∙◌, subst, arith}
use Rattle.std.proofs.lemmas.Option.{slice_get_within}
use Rattle.sk_types.specs.declared.number.Handle.{Handle}
use Rattle.message.specs.Registries.{at, set_at}
use Rattle.call_fates.proofs.Lists.{handle_is, at_is, at_here, at_last, at_within}
use Rattle.schedule_core.specs.declared.spot.Spot.{Spot}
use Rattle.schedule_core.specs.declared.spot.Spot.TheVariants.{Home, Queued, Hand, Spent}
use Rattle.schedule_core.specs.Turns.{Turns, queued, handed, in_queue, in_hand, ArePlaced, AreEmpty, AreOpening, Rests, laid, sent_last, is_home, woken, wake, joined, IsFetch, first_turns}
use Rattle.schedule_core.specs.Laws.{AreApart}
use Rattle.schedule_core.proofs.Lists.{same_or, get_other, get_same, at_other, at_pushed, at_nothing, at_past}
use Rattle.schedule_core.proofs.Counts.{one_same, one_other, queued_first, queued_last, hand_set, hand_has, none_handed, spot_queued, spot_in_hand, in_hand_once}

-- the first of the queue is queued
pub first_is : (t : Turns) (h : Handle) (rest : List Handle) → ArePlaced t → t.queue ≡ h ∷ rest → at t.spots h.0 ≡ Some Queued
first_is t h rest ok first = spot_queued (at t.spots h.0) (omega (arith, ok.queue h, queued_first h h rest t.queue first, one_same h))

-- what is in a hand is said to be
pub held_is : (t : Turns) (i : ℕ) (h : Handle) → ArePlaced t → slice_get t.hands i ≡ Some (Some h) → at t.spots h.0 ≡ Some Hand
held_is t i h ok has = spot_in_hand (at t.spots h.0) (omega (arith, ok.hands h, hand_has h t.hands i has))

-- no two hands have one service
pub apart : (t : Turns) → ArePlaced t → AreApart t
apart t ok = record { each = λ i j h one two. go i j h one two (same_or i j) } where
  go : (i j : ℕ) (h : Handle) → slice_get t.hands i ≡ Some (Some h) → slice_get t.hands j ≡ Some (Some h) → ((i ≡ j) ⊎ (i ≢ j)) → i ≡ j
  go i j h one two (inl e) = e
  go i j h one two (inr ne) =
      let other : slice_get (slice_set t.hands i None) j ≡ Some (Some h) = get_other t.hands i j None (λ e. ne (sym e)) ∙ two in
      absurd (omega (arith, ok.hands h, in_hand_once (at t.spots h.0), hand_set h t.hands i (Some h) None one, one_same h, hand_has h (slice_set t.hands i None) j other))

-- one turn goes from a place to another
placed_by : (t : Turns) (h : Handle) (was now : Spot) (queue : List Handle) (hands : List (Option Handle)) → ArePlaced t → at t.spots h.0 ≡ Some was
    → queued h queue ≡ in_queue (Some now) → handed h hands ≡ in_hand (Some now)
    → ((g : Handle) → g.0 ≢ h.0 → queued g queue ≡ queued g t.queue) → ((g : Handle) → g.0 ≢ h.0 → handed g hands ≡ handed g t.hands)
    → ArePlaced (record { spots = set_at t.spots h.0 now; queue = queue; hands = hands })
placed_by t h was now queue hands ok there q n q2 n2 = record {
  queue = λ g. by_queue g (same_or g.0 h.0);
  hands = λ g. by_hands g (same_or g.0 h.0);
} where
  big : 0 < h.0
  big = (at_is t.spots h.0 was there).0

  here : at (set_at t.spots h.0 now) h.0 ≡ Some now
  here = at_here t.spots h.0 now was there

  by_queue : (g : Handle) → ((g.0 ≡ h.0) ⊎ (g.0 ≢ h.0)) → queued g queue ≡ in_queue (at (set_at t.spots h.0 now) g.0)
  by_queue g (inl e) = subst (λ (k : Handle). queued k queue ≡ in_queue (at (set_at t.spots h.0 now) k.0)) (sym (handle_is g h e)) (q ∙ ap in_queue (sym here))
  by_queue g (inr ne) = q2 g ne ∙ (ok.queue g ∙ ap in_queue (sym (at_other t.spots h.0 g.0 now big ne)))

  by_hands : (g : Handle) → ((g.0 ≡ h.0) ⊎ (g.0 ≢ h.0)) → handed g hands ≡ in_hand (at (set_at t.spots h.0 now) g.0)
  by_hands g (inl e) = subst (λ (k : Handle). handed k hands ≡ in_hand (at (set_at t.spots h.0 now) k.0)) (sym (handle_is g h e)) (n ∙ ap in_hand (sym here))
  by_hands g (inr ne) = n2 g ne ∙ (ok.hands g ∙ ap in_hand (sym (at_other t.spots h.0 g.0 now big ne)))

pub fetch_placed : (t : Turns) (i : ℕ) (own : Handle) (t2 : Turns) → ArePlaced t → IsFetch t i own t2 → ArePlaced t2
fetch_placed t i own t2 ok x = subst ArePlaced (sym x.after) (placed_by t own Queued Hand x.rest (slice_set t.hands i (Some own)) ok there
    (omega (arith, ok.queue own, ap in_queue there, queued_first own own x.rest t.queue x.first, one_same own))
    (omega (arith, ok.hands own, ap in_hand there, hand_set own t.hands i None (Some own) x.empty, one_same own))
    (λ g ne. omega (arith, queued_first g own x.rest t.queue x.first, one_other g own ne))
    (λ g ne. omega (arith, hand_set g t.hands i None (Some own) x.empty, one_other g own ne))) where
      there : at t.spots own.0 ≡ Some Queued
      there = first_is t own x.rest ok x.first

none_queued : (spot : Spot) → Rests spot → (in_queue (Some spot) ≡ 0) × (in_hand (Some spot) ≡ 0)
none_queued Home r = (refl, refl)
none_queued Queued r = absurd r
none_queued Hand r = absurd r
none_queued Spent r = (refl, refl)

pub laid_placed : (t : Turns) (i : ℕ) (own : Handle) (spot : Spot) → ArePlaced t → slice_get t.hands i ≡ Some (Some own) → Rests spot → ArePlaced (laid t i own spot)
laid_placed t i own spot ok has r = placed_by t own Hand spot t.queue (slice_set t.hands i None) ok there
    (omega (arith, ok.queue own, ap in_queue there, (none_queued spot r).0))
    (omega (arith, ok.hands own, ap in_hand there, (none_queued spot r).1, hand_set own t.hands i (Some own) None has, one_same own))
    (λ g ne. refl)
    (λ g ne. omega (arith, hand_set g t.hands i (Some own) None has, one_other g own ne)) where
      there : at t.spots own.0 ≡ Some Hand
      there = held_is t i own ok has

pub sent_placed : (t : Turns) (i : ℕ) (own : Handle) → ArePlaced t → slice_get t.hands i ≡ Some (Some own) → ArePlaced (sent_last t i own)
sent_placed t i own ok has = placed_by t own Hand Queued (t.queue ++ own ∷ []) (slice_set t.hands i None) ok there
    (omega (arith, ok.queue own, ap in_queue there, queued_last own own t.queue, one_same own))
    (omega (arith, ok.hands own, ap in_hand there, hand_set own t.hands i (Some own) None has, one_same own))
    (λ g ne. omega (arith, queued_last g own t.queue, one_other g own ne))
    (λ g ne. omega (arith, hand_set g t.hands i (Some own) None has, one_other g own ne)) where
      there : at t.spots own.0 ≡ Some Hand
      there = held_is t i own ok has

pub wake_placed : (t : Turns) (h : Handle) → ArePlaced t → ArePlaced (wake t h)
wake_placed t h ok = go (at t.spots h.0) refl where
  go : (q : Option Spot) → at t.spots h.0 ≡ q → ArePlaced (woken q t h)
  go None e = ok
  go (Some Home) e = placed_by t h Home Queued (t.queue ++ h ∷ []) t.hands ok e
      (omega (arith, ok.queue h, ap in_queue e, queued_last h h t.queue, one_same h))
      (omega (arith, ok.hands h, ap in_hand e))
      (λ g ne. omega (arith, queued_last g h t.queue, one_other g h ne))
      (λ g ne. refl)
  go (Some Queued) e = ok
  go (Some Hand) e = ok
  go (Some Spent) e = ok

pub joined_placed : (t : Turns) (own : Handle) → ArePlaced t → own.0 ≡ length t.spots + 1 → ArePlaced (joined t own)
joined_placed t own ok next = record {
  queue = λ g. by_queue g (same_or g.0 own.0);
  hands = λ g. by_hands g (same_or g.0 own.0);
} where
  new : at t.spots own.0 ≡ None
  new = at_past t.spots own.0 (omega (arith, next))

  here : at (t.spots ++ Queued ∷ []) own.0 ≡ Some Queued
  here = at_last t.spots own.0 Queued next

  by_queue : (g : Handle) → ((g.0 ≡ own.0) ⊎ (g.0 ≢ own.0)) → queued g (t.queue ++ own ∷ []) ≡ in_queue (at (t.spots ++ Queued ∷ []) g.0)
  by_queue g (inl e) = subst (λ (k : Handle). queued k (t.queue ++ own ∷ []) ≡ in_queue (at (t.spots ++ Queued ∷ []) k.0)) (sym (handle_is g own e))
      (omega (arith, queued_last own own t.queue, ok.queue own, ap in_queue new, ap in_queue here, one_same own))
  by_queue g (inr ne) = omega (arith, queued_last g own t.queue, one_other g own ne, ok.queue g, ap in_queue (at_pushed t.spots g.0 Queued (λ e. ne (e ∙ sym next))))

  by_hands : (g : Handle) → ((g.0 ≡ own.0) ⊎ (g.0 ≢ own.0)) → handed g t.hands ≡ in_hand (at (t.spots ++ Queued ∷ []) g.0)
  by_hands g (inl e) = subst (λ (k : Handle). handed k t.hands ≡ in_hand (at (t.spots ++ Queued ∷ []) k.0)) (sym (handle_is g own e))
      (ok.hands own ∙ (ap in_hand new ∙ ap in_hand (sym here)))
  by_hands g (inr ne) = ok.hands g ∙ ap in_hand (sym (at_pushed t.spots g.0 Queued (λ e. ne (e ∙ sym next))))

-- no turns at all
pub none_placed : (hands : List (Option Handle)) → AreEmpty hands → ArePlaced (record { spots = []; queue = []; hands = hands })
none_placed hands empty = record {
  queue = λ h. ap in_queue (sym (at_nothing h.0));
  hands = λ h. none_handed h hands empty ∙ ap in_hand (sym (at_nothing h.0));
}

pub first_placed : (hands : List (Option Handle)) → AreEmpty hands → ArePlaced (record { spots = Queued ∷ Queued ∷ Queued ∷ []; queue = first_turns; hands = hands })
first_placed hands empty =
    let none : Turns = record { spots = []; queue = []; hands = hands } in
    let one : Turns = joined none (record { 0 = 1 }) in
    let two : Turns = joined one (record { 0 = 2 }) in
    joined_placed two (record { 0 = 3 }) (joined_placed one (record { 0 = 2 }) (joined_placed none (record { 0 = 1 }) (none_placed hands empty) refl) refl) refl

pub opening_placed : (t : Turns) → AreOpening t → ArePlaced t
opening_placed t o =
    let F : List Spot → List Handle → Turns = λ xs ys. record { spots = xs; queue = ys; hands = t.hands } in
    let e : F (Queued ∷ Queued ∷ Queued ∷ []) first_turns ≡ F t.spots t.queue = ap (λ xs. F xs first_turns) (sym o.spots) ∙ ap (F t.spots) (sym o.queue) in
    subst ArePlaced e (first_placed t.hands o.empty)

-- the turns of the queue and of the hands are those of handles that were given
pub queue_fits : (t : Turns) (own : Handle) (rest : List Handle) → ArePlaced t → t.queue ≡ own ∷ rest → (0 < own.0) × (own.0 ≤ length t.spots)
queue_fits t own rest ok first = let there = first_is t own rest ok first in ((at_is t.spots own.0 Queued there).0, at_within t.spots own.0 Queued there)

pub hand_fits : (t : Turns) (i : ℕ) (own : Handle) → ArePlaced t → slice_get t.hands i ≡ Some (Some own) → (0 < own.0) × (own.0 ≤ length t.spots) × (i < length t.hands)
hand_fits t i own ok has = let there = held_is t i own ok has in ((at_is t.spots own.0 Hand there).0, at_within t.spots own.0 Hand there, slice_get_within t.hands i (Some own) has)

-- a turn that is woken
home_is : (q : Option Spot) → is_home q ≡ true → q ≡ Some Home
home_is None e = absurd (cc)
home_is (Some Home) e = refl
home_is (Some Queued) e = absurd (cc)
home_is (Some Hand) e = absurd (cc)
home_is (Some Spent) e = absurd (cc)

pub home_there : (xs : List Spot) (h : Handle) (b : Bool) → b ≡ is_home (at xs h.0) → b ≡ true → at xs h.0 ≡ Some Home
home_there xs h b e f = home_is (at xs h.0) (sym e ∙ f)

pub woken_placed : (t : Turns) (h : Handle) → ArePlaced t → at t.spots h.0 ≡ Some Home → ArePlaced (record { spots = set_at t.spots h.0 Queued; queue = t.queue ++ h ∷ []; hands = t.hands })
woken_placed t h ok e = subst (λ q. ArePlaced (woken q t h)) e (wake_placed t h ok)

pub home_fits : (t : Turns) (h : Handle) → at t.spots h.0 ≡ Some Home → (0 < h.0) × (h.0 ≤ length t.spots)
home_fits t h there = ((at_is t.spots h.0 Home there).0, at_within t.spots h.0 Home there)

pub not_woken : (t : Turns) (h : Handle) → is_home (at t.spots h.0) ≡ false → wake t h ≡ t
not_woken t h e = go (at t.spots h.0) e where
  go : (q : Option Spot) → is_home q ≡ false → woken q t h ≡ t
  go None f = refl
  go (Some Home) f = absurd (cc)
  go (Some Queued) f = refl
  go (Some Hand) f = refl
  go (Some Spent) f = refl

-- the first of the queue is fetched, and there is one
pub exchanges : {Q : Type 0} (t t1 t2 : Turns) (i : ℕ) (own : Handle) (b : Bool) → slice_get t.hands i ≡ Some (Some own) → t.queue ≢ [] → t1 ≡ sent_last t i own
    → (b ≡ true → (new : Handle) × IsFetch t1 i new t2) → (b ≡ false → ((new : Handle) (t3 : Turns) → IsFetch t1 i new t3 → ⊥) × Q) → (new : Handle) × IsFetch (sent_last t i own) i new t2
exchanges t t1 t2 i own true has waits e done none = let x = done refl in (x.0, subst (λ (z : Turns). IsFetch z i x.0 t2) e x.1)
exchanges t t1 t2 i own false has waits e done none = absurd (go t.queue refl) where
  go : (q : List Handle) → t.queue ≡ q → ⊥
  go [] k = waits k
  go (h ∷ rest) k =
      let fetches : IsFetch (sent_last t i own) i h (record { spots = set_at (set_at t.spots own.0 Queued) h.0 Hand; queue = rest ++ own ∷ []; hands = slice_set (slice_set t.hands i None) i (Some h) }) =
      record { rest = rest ++ own ∷ []; empty = get_same t.hands i None (Some own) has; first = ap (λ hs. hs ++ own ∷ []) k; after = refl } in
      (none refl).0 h (record { spots = set_at (set_at t.spots own.0 Queued) h.0 Hand; queue = rest ++ own ∷ []; hands = slice_set (slice_set t.hands i None) i (Some h) })
      (subst (λ (z : Turns). IsFetch z i h (record { spots = set_at (set_at t.spots own.0 Queued) h.0 Hand; queue = rest ++ own ∷ []; hands = slice_set (slice_set t.hands i None) i (Some h) })) (sym e) fetches)
