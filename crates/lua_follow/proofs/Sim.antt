-- What is to be shown of one reduction, and that it carries over to a whole run.
use Rattle.std.proofs.Common.{◌≡◌, ℕ, zero, suc, ◌+◌, ◌<◌, ◌⊎◌, inl, inr, List, arith}
use Rattle.lua_value.specs.declared.value.Value.{Value}
use Rattle.lua_meaning.specs.State as meaning
use Rattle.lua_meaning.specs.State.{State, Focus, Raises, Context, Step, Next, Halt, Pause}
use Rattle.lua_meaning.specs.Reduce.{reduce}
use Rattle.lua_steps.specs.Machine as machine
use Rattle.lua_steps.specs.Machine.{Code, Machine, Went, On, Off, Paused, Stuck}
use Rattle.lua_steps.specs.Run.{run}
use Rattle.lua_follow.specs.Spot.{Spot, contexts}
use Rattle.lua_follow.specs.Stands.{Stands}
use Rattle.lua_follow.specs.Follows.{Rests, Meets, Pauses}

abbrev pub Standing : Type 1
Standing = Machine → State → ℕ → Type 0

-- the budget is spent
abbrev pub Broke : Machine → Step → Type 0
Broke m r = (t : State) × (r ≡ Halt meaning.Budget t) × (m.aside.heap ≡ t.aside.heap)

-- The machine does n operations that pay nothing, and the state takes p of the ticks that were paid before.
abbrev pub Goes : Code → Standing → Machine → State → ℕ → Step → Type 0
Goes code P m s k r =
    (n : ℕ) × (to : Machine) × (run n code m ≡ On to) × (to.left ≡ m.left) × ((0 < k) → to.aside.heap ≡ m.aside.heap)
    × (p : ℕ) × (j : ℕ) × (k ≡ p + j) × ((s.left < p) → Broke to r)
    × ((l : ℕ) → s.left ≡ p + l → (t : State) × (r ≡ Next t) × (t.left ≡ l) × P to t j)

-- the machine goes on, or it has stopped where the state will
abbrev pub Outcome : Code → Standing → Machine → Step → Type 0
Outcome code P m (Next t) =
    ((n : ℕ) × (to : Machine) × (k : ℕ) × (run n code m ≡ On to) × (t.left ≡ to.left + k) × P to t k)
    ⊎ ((n : ℕ) × (to : Machine) × (v : Machine) × (k : ℕ) × (run n code m ≡ Off machine.Budget to) × (t.left < k) × (to.aside.heap ≡ v.aside.heap) × P v t k)
    ⊎ ((n : ℕ) × (to : Machine) × (u : Value) × (run n code m ≡ Off (machine.Raise u) to) × (t.focus ≡ Raises u) × Rests code to t)
Outcome code P m (Halt x t) = Meets code m x t
Outcome code P m (Pause c t) = Pauses code m c t

-- the machine acts
abbrev pub Acts : Code → Standing → Machine → State → ℕ → Step → Type 0
Acts code P m s k r = ((s.left < k) → Broke m r) × (s.left ≡ m.left + k → Outcome code P m r)

abbrev pub Row : Code → Standing → Machine → State → ℕ → Step → Type 0
Row code P m s k r = Goes code P m s k r ⊎ Acts code P m s k r

-- the machine stands for the state, or it is known how it follows its next i reductions
abbrev pub Near : Code → ℕ → Standing
Near code zero m s k = (ks : List Spot) × (s.ks ≡ contexts ks) × Stands code m s ks k
Near code (suc i) m s k = ((ks : List Spot) × (s.ks ≡ contexts ks) × Stands code m s ks k) ⊎ Row code (Near code i) m s k (reduce s)

abbrev pub Sim : Code → Standing
Sim code m s k = (i : ℕ) × Near code i m s k

-- ---- maps
pub outcome_map : (code : Code) (P Q : Standing) (m : Machine) (r : Step) → ((t : Machine) (s : State) (k : ℕ) → P t s k → Q t s k) → Outcome code P m r → Outcome code Q m r
outcome_map code P Q m (Next t) f (inl h) = inl (h.0, h.1, h.2, h.3, h.4, f h.1 t h.2 h.5)
outcome_map code P Q m (Next t) f (inr (inl h)) = inr (inl (h.0, h.1, h.2, h.3, h.4, h.5, h.6, f h.2 t h.3 h.7))
outcome_map code P Q m (Next t) f (inr (inr h)) = inr (inr h)
outcome_map code P Q m (Halt x t) f h = h
outcome_map code P Q m (Pause c t) f h = h

pub row_map : (code : Code) (P Q : Standing) (m : Machine) (s : State) (k : ℕ) (r : Step) → ((t : Machine) (s : State) (k : ℕ) → P t s k → Q t s k) → Row code P m s k r → Row code Q m s k r
row_map code P Q m s k r f (inl h) =
    inl (h.0, h.1, h.2, h.3, h.4, h.5, h.6, h.7, h.8, λ l e. (let x = h.9 l e in (x.0, x.1, x.2, f h.1 x.0 h.6 x.3)))
row_map code P Q m s k r f (inr h) = inr (h.0, λ e. outcome_map code P Q m r f (h.1 e))

-- ---- forms of rows
-- the machine does n operations that pay nothing, and no tick is due
pub quiet : (code : Code) (P : Standing) (m to : Machine) (s t : State) (k n : ℕ) (r : Step) → run n code m ≡ On to → to.left ≡ m.left → ((0 < k) → to.aside.heap ≡ m.aside.heap)
    → r ≡ Next t → t.left ≡ s.left → P to t k → Row code P m s k r
quiet code P m to s t k n r runs same heap is left h =
    inl (n, to, runs, same, heap, 0, k, omega arith, λ lt. absurd (omega arith), λ l e. (t, is, omega arith, h))

-- what is known of the next i reductions
pub near : (code : Code) (i : ℕ) (m : Machine) (s : State) (k : ℕ) (ks : List Spot) → s.ks ≡ contexts ks → Stands code m s ks k → Near code i m s k
near code zero m s k ks e h = (ks, e, h)
near code (suc i) m s k ks e h = inl (ks, e, h)

pub known : (code : Code) (i : ℕ) (m : Machine) (s : State) (k : ℕ) → Row code (Near code i) m s k (reduce s) → Near code (suc i) m s k
known code i m s k h = inr h

pub farther : (code : Code) (i : ℕ) (m : Machine) (s : State) (k : ℕ) → Near code i m s k → Near code (suc i) m s k
farther code zero m s k h = inl h
farther code (suc i) m s k (inl h) = inl h
farther code (suc i) m s k (inr h) = inr (row_map code (Near code i) (Near code (suc i)) m s k (reduce s) (λ t u j g. farther code i t u j g) h)

pub standing : (code : Code) (m : Machine) (s : State) (k : ℕ) (ks : List Spot) → s.ks ≡ contexts ks → Stands code m s ks k → Sim code m s k
standing code m s k ks e h = (0, (ks, e, h))

-- ---- whole runs
-- how the machine follows one reduction, of each state that it stands for
abbrev pub Rows : Code → Type 0
Rows code = (m : Machine) (s : State) (k : ℕ) (ks : List Spot) → s.ks ≡ contexts ks → Stands code m s ks k → Row code (Sim code) m s k (reduce s)

near_row : (code : Code) → Rows code → (i : ℕ) (m : Machine) (s : State) (k : ℕ) → Near code i m s k → Row code (Sim code) m s k (reduce s)
near_row code rows zero m s k h = rows m s k h.0 h.1 h.2
near_row code rows (suc i) m s k (inl h) = rows m s k h.0 h.1 h.2
near_row code rows (suc i) m s k (inr h) = row_map code (Near code i) (Sim code) m s k (reduce s) (λ t u j g. (i, g)) h

pub sim_row : (code : Code) → Rows code → (m : Machine) (s : State) (k : ℕ) → Sim code m s k → Row code (Sim code) m s k (reduce s)
sim_row code rows m s k h = near_row code rows h.0 m s k h.1
