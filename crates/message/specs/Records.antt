-- Records of what was done: one for each agent and one for each place. They are this project's own; skynet keeps none.
use Rattle.std.specs.Prelude.{ℕ, ◌≡◌, ◌<◌, List, [], ◌∷◌, Some}
use Rattle.message.specs.Actors.{Way}
use Rattle.message.specs.Steps.{Agent, PlaceState, IsOne, ops, op_of, place_of, agent_after, does}
use Rattle.sk_types.specs.declared.number.Handle.{Handle}
use Rattle.message.specs.declared.record.Entry.{Entry}
use Rattle.message.specs.declared.place.Place.{Place}

-- the stamps rise, each above the one before (Lamport's clocks)
abbrev pub Rises : ℕ → List Entry → Type 0
Rises last [] = Unit {0}
Rises last (e ∷ es) = (last < e.stamp.0) × Rises e.stamp.0 es

-- each entry is one that agent h may do, whatever the places hold, in the state in which the answers before left it
abbrev pub AgentRuns : {S : Type 0} → Way S → Handle → Agent S → List Entry → Type 0
AgentRuns way h a [] = Unit {0}
AgentRuns way h a (e ∷ es) = (e.agent ≡ h) × (e.place ≡ place_of h (op_of e.what)) × IsOne (op_of e.what) (ops way a) × AgentRuns way h (agent_after way a e.what) es

-- the agent after its record
abbrev pub agent_runs : {S : Type 0} → Way S → Agent S → List Entry → Agent S
agent_runs way a [] = a
agent_runs way a (e ∷ es) = agent_runs way (agent_after way a e.what) es

-- each entry has the answer that the place gives after the entries before it
abbrev pub PlaceRuns : {S : Type 0} → Way S → Place → PlaceState → List Entry → Type 0
PlaceRuns way p s [] = Unit {0}
PlaceRuns way p s (e ∷ es) = (s2 : PlaceState) × (e.place ≡ p) × (does way e.agent (op_of e.what) s ≡ Some (e.what, s2)) × PlaceRuns way p s2 es
