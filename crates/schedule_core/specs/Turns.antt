-- The turns of services. A service acts by its turn alone, which is with its mailbox, waits in the global queue, is in the hand of a
-- worker, or is spent (skynet_mq.c, where in_global says that a mailbox is not at home, and skynet_context_message_dispatch in
-- skynet_server.c).
use Rattle.std.specs.Prelude.{ℕ, ◌≡◌, ◌==◌, cond, Bool, true, false, List, [], ◌∷◌, ◌++◌, Option, Some, None, slice_get, slice_set}
use Rattle.std.specs.List.{sum_by}
use Rattle.sk_types.specs.declared.number.Handle.{Handle}
use Rattle.message.specs.Registries.{at, set_at}
use Rattle.message.specs.declared.record.What.{What}
use Rattle.message.specs.declared.record.What.TheVariants as did
use Rattle.schedule_core.specs.declared.spot.Spot.{Spot}
use Rattle.schedule_core.specs.declared.spot.Spot.TheVariants.{Home, Queued, Hand, Spent}

-- where the turn of each handle is, from 1 on; the queue of turns; and the hand of each worker, from 0 on
pub record Turns : Type 0 where
  pub spots : List Spot
  pub queue : List Handle
  pub hands : List (Option Handle)

-- EACH IN ONE PLACE

abbrev pub one_if : Handle → Handle → ℕ
one_if h g = cond (g.0 == h.0) 1 0

abbrev pub one_in : Handle → Option Handle → ℕ
one_in h None = 0
one_in h (Some g) = one_if h g

-- how often the turn of h stands in the queue
abbrev pub queued : Handle → List Handle → ℕ
queued h queue = sum_by (one_if h) queue

-- and in hands
abbrev pub handed : Handle → List (Option Handle) → ℕ
handed h hands = sum_by (one_in h) hands

abbrev pub in_queue : Option Spot → ℕ
in_queue None = 0
in_queue (Some Home) = 0
in_queue (Some Queued) = 1
in_queue (Some Hand) = 0
in_queue (Some Spent) = 0

abbrev pub in_hand : Option Spot → ℕ
in_hand None = 0
in_hand (Some Home) = 0
in_hand (Some Queued) = 0
in_hand (Some Hand) = 1
in_hand (Some Spent) = 0

-- each turn is in one place, once: in the queue once where it is queued, in one hand once where it is in a hand, and else in none
pub record ArePlaced (t : Turns) : Type 0 where
  pub queue : (h : Handle) → queued h t.queue ≡ in_queue (at t.spots h.0)
  pub hands : (h : Handle) → handed h t.hands ≡ in_hand (at t.spots h.0)

-- WHAT BECOMES OF THEM

-- neither in the queue nor in a hand
abbrev pub Rests : Spot → Type 0
Rests Home = Unit {0}
Rests Queued = ⊥
Rests Hand = ⊥
Rests Spent = Unit {0}

-- the turn of own leaves hand i
abbrev pub laid : Turns → ℕ → Handle → Spot → Turns
laid t i own spot = record { spots = set_at t.spots own.0 spot; queue = t.queue; hands = slice_set t.hands i None }

-- and goes to the end of the queue
abbrev pub sent_last : Turns → ℕ → Handle → Turns
sent_last t i own = record { spots = set_at t.spots own.0 Queued; queue = t.queue ++ own ∷ []; hands = slice_set t.hands i None }

abbrev pub is_home : Option Spot → Bool
is_home None = false
is_home (Some Home) = true
is_home (Some Queued) = false
is_home (Some Hand) = false
is_home (Some Spent) = false

-- a turn at home goes to the end of the queue; any other stays
abbrev pub woken : Option Spot → Turns → Handle → Turns
woken None t h = t
woken (Some Home) t h = record { spots = set_at t.spots h.0 Queued; queue = t.queue ++ h ∷ []; hands = t.hands }
woken (Some Queued) t h = t
woken (Some Hand) t h = t
woken (Some Spent) t h = t

abbrev pub wake : Turns → Handle → Turns
wake t h = woken (at t.spots h.0) t h

-- the turn of a new service stands last in the queue
abbrev pub joined : Turns → Handle → Turns
joined t h = record { spots = t.spots ++ Queued ∷ []; queue = t.queue ++ h ∷ []; hands = t.hands }

-- after what an agent did: a message or a mark that came into an inbox wakes its turn, and a launched service brings one
abbrev pub turns_after : Turns → What → Turns
turns_after t (did.Put to m taken) = wake t to
turns_after t (did.Mark to) = wake t to
turns_after t (did.Fire to m taken) = wake t to
turns_after t (did.Launch name args (Some h)) = joined t h
turns_after t (did.Launch name args None) = t
turns_after t (did.Look dest found) = t
turns_after t (did.Name text h named) = t
turns_after t (did.Retire h retired) = t
turns_after t (did.Later n x) = t
turns_after t (did.Now n) = t
turns_after t (did.Take m left) = t
turns_after t (did.End ms) = t
turns_after t (did.Tick due) = t

-- the first turn of the queue, that of own, comes into the empty hand i
pub record IsFetch (t : Turns) (i : ℕ) (own : Handle) (t2 : Turns) : Type 0 where
  pub rest : List Handle
  pub empty : slice_get t.hands i ≡ Some None
  pub first : t.queue ≡ own ∷ rest
  pub after : t2 ≡ record { spots = set_at t.spots own.0 Hand; queue = rest; hands = slice_set t.hands i (Some own) }

-- no hand has a turn
pub record AreEmpty (hands : List (Option Handle)) : Type 0 where
  pub each : (i : ℕ) (h : Handle) → slice_get hands i ≡ Some (Some h) → ⊥

-- the turns of the first three services, in this order
abbrev pub first_turns : List Handle
first_turns = record { 0 = 1 } ∷ record { 0 = 2 } ∷ record { 0 = 3 } ∷ []

-- before the first act
pub record AreOpening (t : Turns) : Type 0 where
  pub spots : t.spots ≡ Queued ∷ Queued ∷ Queued ∷ []
  pub queue : t.queue ≡ first_turns
  pub empty : AreEmpty t.hands
