-- Whole runs: where each reduction is followed, each stop is.
use Rattle.std.proofs.Common.{◌≡◌, ℕ, zero, suc, ◌+◌, ◌-◌, ◌<◌, ◌≤◌, ◌⊎◌, inl, inr, List, [], ◌∷◌, refl, sym, ap, ◌∙◌, subst, arith}
use Rattle.std.specs.Prelude.{ltb, Bool, true, false}
use Rattle.std.proofs.lemmas.Bool.{ltb-false, ltb-true}
use Rattle.lua_value.specs.declared.value.Value.{Value}
use Rattle.lua_meaning.specs.State as meaning
use Rattle.lua_meaning.specs.State.{State, Focus, Raises, Context, Step, Next, Halt, Pause}
use Rattle.lua_meaning.specs.Moves as meaning_moves
use Rattle.lua_meaning.specs.Calls as meaning_calls
use Rattle.lua_meaning.specs.Reduce.{reduce, act}
use Rattle.lua_meaning.specs.Until.{iterate, then_on}
use Rattle.lua_steps.specs.Machine as machine
use Rattle.lua_steps.specs.Machine.{Code, Machine, Went, On, Off, Paused, Stuck}
use Rattle.lua_steps.specs.Run.{run}
use Rattle.lua_follow.specs.Follows.{Rests, Stops, Meets, Pauses}
use Rattle.lua_follow.proofs.Runs.{runs_more}
use Rattle.lua_follow.proofs.Sim.{Goes, Outcome, Row, Sim, Rows, sim_row}

-- ---- a state that raises
raised_all : (ks : List Context) (v : Value) (s : State) → meaning_calls.raised ks v s ≡ meaning_moves.fail s.aside.resumers v s
raised_all [] v s = refl
raised_all (k ∷ ks) v s = raised_all ks v s

raises_at : (s : State) (v : Value) (f : Focus) → f ≡ Raises v → act f s ≡ meaning_calls.raised s.ks v s
raises_at s v f e = ap (λ g. act g s) e

pub raise_halts : (s : State) (v : Value) → s.focus ≡ Raises v → s.aside.resumers ≡ [] → reduce s ≡ Halt (meaning.Raise v) s
raise_halts s v e none = raises_at s v s.focus e ∙ raised_all s.ks v s ∙ ap (λ rs. meaning_moves.fail rs v s) none

-- ---- where a run of the state ends, the machine's ends so
abbrev pub Reaches : Code → Machine → Step → Type 0
Reaches code m (Next t) = Unit {0}
Reaches code m (Halt x t) = Meets code m x t
Reaches code m (Pause c t) = Pauses code m c t

stop_earlier : (code : Code) (n : ℕ) (m to : Machine) (x : meaning.Stop) (t : State) → run n code m ≡ On to → Stops code to x t → Stops code m x t
stop_earlier code n m to x t runs h = record { n = n + h.n; stop = h.stop; to = h.to; runs = runs_more code n h.n m to _ runs h.runs; same = h.same; rests = h.rests }

pub earlier_stop : (code : Code) (n : ℕ) (m to : Machine) (x : meaning.Stop) (t : State) → run n code m ≡ On to → Meets code to x t → Meets code m x t
earlier_stop code n m to meaning.NoRule t runs h = h
earlier_stop code n m to (meaning.Return vs) t runs h = stop_earlier code n m to (meaning.Return vs) t runs h
earlier_stop code n m to (meaning.Raise v) t runs h = stop_earlier code n m to (meaning.Raise v) t runs h
earlier_stop code n m to meaning.Budget t runs h = stop_earlier code n m to meaning.Budget t runs h
earlier_stop code n m to meaning.HeapFull t runs h = stop_earlier code n m to meaning.HeapFull t runs h

-- the machine does some operations before
earlier : (code : Code) (n : ℕ) (m to : Machine) (q : Step) → run n code m ≡ On to → Reaches code to q → Reaches code m q
earlier code n m to (Next t) runs h = tt
earlier code n m to (Halt x t) runs h = earlier_stop code n m to x t runs h
earlier code n m to (Pause c t) runs h = record { n = n + h.n; to = h.to; runs = runs_more code n h.n m to _ runs h.runs; waits = h.waits }

-- the state stops at once
at_once : (code : Code) (m : Machine) (n : ℕ) (r q p : Step) → r ≡ p → then_on p (iterate n) ≡ p → Reaches code m p → then_on r (iterate n) ≡ q → Reaches code m q
at_once code m n r q p is stays h e = subst (Reaches code m) (sym stays ∙ sym (ap (λ x. then_on x (iterate n)) is) ∙ e) h

either : (a p : ℕ) → (a < p) ⊎ ((l : ℕ) × (a ≡ p + l))
either a p = go (ltb a p) refl
  where
    go : (b : Bool) → ltb a p ≡ b → (a < p) ⊎ ((l : ℕ) × (a ≡ p + l))
    go true e = inl (ltb-true _ _ e)
    go false e = let le : p ≤ a = ltb-false _ _ e in inr (a - p, omega arith)

module _ (code : Code) (rows : Rows code) where
  spent : (m end : Machine) (i : ℕ) (t : State) → run i code m ≡ Off machine.Budget end → end.aside.heap ≡ t.aside.heap → Stops code m meaning.Budget t
  spent m end i t runs heap = record { n = i; stop = machine.Budget; to = end; runs = runs; same = tt; rests = heap }

  abbrev Doom : ℕ → Type 0
  Doom n =
      (m end v : Machine) (s : State) (i k : ℕ) (q : Step) → run i code m ≡ Off machine.Budget end → end.aside.heap ≡ v.aside.heap → Sim code v s k → s.left < k → iterate n s ≡ q
      → Reaches code m q

  doomed_goes : (n : ℕ) → Doom n → (m end v : Machine) (s : State) (i k : ℕ) (q : Step) → run i code m ≡ Off machine.Budget end → end.aside.heap ≡ v.aside.heap → s.left < k → iterate (suc n) s ≡ q
      → (h : Goes code (Sim code) v s k (reduce s)) → (s.left < h.5) ⊎ ((l : ℕ) × (s.left ≡ h.5 + l)) → Reaches code m q
  doomed_goes n rec m end v s i k q runs heap lt e h (inl less) =
      let b = h.8 less in
      at_once code m n (reduce s) q (Halt meaning.Budget b.0) b.1 refl (spent m end i b.0 runs (heap ∙ sym (h.4 (omega arith)) ∙ b.2)) e
  doomed_goes n rec m end v s i k q runs heap lt e h (inr g) =
      let t = h.9 g.0 g.1 in
      rec m end h.1 t.0 i h.6 q runs (heap ∙ sym (h.4 (omega arith))) t.3 (omega (arith, h.7, g.1, t.2)) (ap (λ r. then_on r (iterate n)) (sym t.1) ∙ e)

  doomed_row : (n : ℕ) → Doom n → (m end v : Machine) (s : State) (i k : ℕ) (q : Step) → run i code m ≡ Off machine.Budget end → end.aside.heap ≡ v.aside.heap → s.left < k → iterate (suc n) s ≡ q
      → Row code (Sim code) v s k (reduce s) → Reaches code m q
  doomed_row n rec m end v s i k q runs heap lt e (inl h) = doomed_goes n rec m end v s i k q runs heap lt e h (either s.left h.5)
  doomed_row n rec m end v s i k q runs heap lt e (inr h) =
      let b = h.0 lt in
      at_once code m n (reduce s) q (Halt meaning.Budget b.0) b.1 refl (spent m end i b.0 runs (heap ∙ b.2)) e

  -- the machine has stopped since the budget is spent, and v is what it would be
  doomed : (n : ℕ) → Doom n
  doomed zero m end v s i k q runs heap sim lt e = subst (Reaches code m) e tt
  doomed (suc n) m end v s i k q runs heap sim lt e =
      doomed_row n (doomed n) m end v s i k q runs heap lt e (sim_row code rows v s k sim)

  raising : (n : ℕ) (m end : Machine) (t : State) (u : Value) (i : ℕ) (q : Step) → run i code m ≡ Off (machine.Raise u) end → t.focus ≡ Raises u → Rests code end t → iterate n t ≡ q → Reaches code m q
  raising zero m end t u i q runs focus rests e = subst (Reaches code m) e tt
  raising (suc n) m end t u i q runs focus rests e =
      at_once code m n (reduce t) q (Halt (meaning.Raise u) t) (raise_halts t u focus rests.beside.lone) refl
      (record { n = i; stop = machine.Raise u; to = end; runs = runs; same = refl; rests = rests }) e

  abbrev Live : ℕ → Type 0
  Live n = (m : Machine) (s : State) (k : ℕ) (q : Step) → Sim code m s k → s.left ≡ m.left + k → iterate n s ≡ q → Reaches code m q

  live_outcome : (n : ℕ) → Live n → (m : Machine) (r q : Step) → Outcome code (Sim code) m r → then_on r (iterate n) ≡ q → Reaches code m q
  live_outcome n rec m (Next t) q (inl h) e =
      earlier code h.0 m h.1 q h.3 (rec h.1 t h.2 q h.5 h.4 e)
  live_outcome n rec m (Next t) q (inr (inl h)) e = doomed n m h.1 h.2 t h.0 h.3 q h.4 h.6 h.7 h.5 e
  live_outcome n rec m (Next t) q (inr (inr h)) e = raising n m h.1 t h.2 h.0 q h.3 h.4 h.5 e
  live_outcome n rec m (Halt x t) q h e = subst (Reaches code m) e h
  live_outcome n rec m (Pause c t) q h e = subst (Reaches code m) e h

  live_row : (n : ℕ) → Live n → (m : Machine) (s : State) (k : ℕ) (q : Step) → s.left ≡ m.left + k → iterate (suc n) s ≡ q → Row code (Sim code) m s k (reduce s) → Reaches code m q
  live_row n rec m s k q left e (inl h) =
      let t = h.9 (m.left + h.6) (omega (arith, left, h.7)) in
      earlier code h.0 m h.1 q h.2
      (rec h.1 t.0 h.6 q t.3 (omega (arith, t.2, h.3)) (ap (λ r. then_on r (iterate n)) (sym t.1) ∙ e))
  live_row n rec m s k q left e (inr h) = live_outcome n rec m (reduce s) q (h.1 left) e

  pub live : (n : ℕ) → Live n
  live zero m s k q sim left e = subst (Reaches code m) e tt
  live (suc n) m s k q sim left e = live_row n (live n) m s k q left e (sim_row code rows m s k sim)
