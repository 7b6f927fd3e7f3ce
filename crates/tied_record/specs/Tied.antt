-- Records of agents and of places, each with a half for every other end that stands in it.
use Rattle.std.specs.Prelude.{◌≡◌, ◌≢◌, ℕ, ◌==◌, List, [], ◌∷◌, ◌++◌, Bool, true, false, cond, Option, Some, None}
use Rattle.std.specs.Ordering.{nat_cmp}
use Rattle.std.specs.BTreeMap.{BTreeMap, get}
use Rattle.atomic_table.specs.Seated.{TableId}
use Rattle.message.specs.declared.record.Entry.{Entry}
use Rattle.message.specs.declared.place.Place.{Place}
use Rattle.message.specs.declared.place.Place.TheVariants as place
use Rattle.tie.specs.Rules.{Has, Piece, Mastered}

-- The number of a place: a mailbox has its handle, and the others have numbers above all handles.
abbrev pub number : Place → ℕ
number (place.Inbox h) = h.0
number place.Registry = 4294967296
number place.Clock = 4294967297

-- the other end of an entry, by its number: of a place's record the agent, of an agent's the place
abbrev pub other : Bool → Entry → ℕ
other true e = e.agent.0
other false e = number e.place

-- the entries with this other end
abbrev pub at : Bool → ℕ → List Entry → List Entry
at side key [] = []
at side key (e ∷ es) = cond (other side e == key) (e ∷ at side key es) (at side key es)

-- the half of the pair of these two ends, which knows these entries
abbrev pub mate : TableId → Bool → ℕ → ℕ → List Entry → Piece Entry
mate table true own key es = record { table = table; agent = key; place = own; side = true; entries = es }
mate table false own key es = record { table = table; agent = own; place = key; side = false; entries = es }

-- the half for an end that has these entries: there is none where there are no entries
abbrev pub half_for : TableId → Bool → ℕ → ℕ → List Entry → Option (Option (Piece Entry))
half_for table side own key [] = None
half_for table side own key (e ∷ es) = Some (Some (mate table side own key (e ∷ es)))

-- For each other end in the record there is a half, which knows the entries with that end; there is no other half.
pub record Tied (table : TableId) (side : Bool) (own : ℕ) (entries : List Entry) (halves : BTreeMap ℕ (Option (Piece Entry))) : Type 0 where
  pub each : (key : ℕ) → get nat_cmp halves key ≡ half_for table side own key (at side key entries)

-- what contracts see of a record: whose it is, and its entries
pub record Trail : Type 0 where
  pub own : ℕ
  pub entries : List Entry

-- the record has one entry more
abbrev pub entered : Entry → Trail → Trail
entered e t = record { own = t.own; entries = t.entries ++ e ∷ [] }

-- the master of the agent of this record: it was paired with the places in the record alone
pub record IsMaster (T : TableId) (t : Trail) (m : Mastered) : Type 0 where
  pub table : m.table ≡ T
  pub agent : m.agent ≡ t.own
  pub places : (key : ℕ) → Has m.places key → at false key t.entries ≢ []

-- the two records have the same entries of this agent at this place
abbrev pub Agree : Trail → Trail → Type 0
Agree agent place = at false place.own agent.entries ≡ at true agent.own place.entries

-- whether there are entries
abbrev pub meets : List Entry → Bool
meets [] = false
meets (e ∷ es) = true

-- one of the two records has entries of this agent at this place, and the other has none
abbrev pub IsTorn : Trail → Trail → Type 0
IsTorn agent place = meets (at false place.own agent.entries) ≢ meets (at true agent.own place.entries)
