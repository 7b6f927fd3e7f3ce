-- What an operation comes to, where ticks or units may run out, or an error is raised.
use Rattle.std.proofs.Common.{◌≡◌, ℕ, ◌+◌, ◌-◌, ◌<◌, ◌≤◌, ◌⊎◌, inl, inr, List, ◌++◌, length, Option, Some, None, refl, sym, ap, ◌∙◌, subst, arith}
use Rattle.std.specs.Prelude.{if◌then◌else◌}
use Rattle.std.proofs.lemmas.Bool.{cases_lt, lt-ltb, le-ltb}
use Rattle.lua_value.specs.declared.value.Value.{Value}
use Rattle.lua_model.specs.declared.refusal.Refusal.{Refusal}
use Rattle.lua_model.specs.Refusal.{refusal_text}
use Rattle.lua_model.specs.Answer as answer
use Rattle.lua_model.specs.Answer.{Answer}
use Rattle.lua_model.specs.Heap as model
use Rattle.lua_meaning.specs.State as meaning
use Rattle.lua_meaning.specs.State.{Focus, Gives, Raises, State, Step, Next, Halt, Pause, Context}
use Rattle.lua_meaning.specs.Moves as meaning_moves
use Rattle.lua_steps.specs.Machine as machine
use Rattle.lua_steps.specs.Machine.{Code, Machine, Went, On, Off}
use Rattle.lua_steps.specs.Moves as moves
use Rattle.lua_steps.specs.Moves.{gives, fail, with_slot}
use Rattle.lua_steps.specs.Run.{run}
use Rattle.lua_steps.specs.Stand.{Reg, register}
use Rattle.lua_follow.specs.Spot.{Spot, contexts, free, target}
use Rattle.lua_follow.specs.Takes.{Takes}
use Rattle.lua_follow.specs.Memory.{Homes, Cells, ClosesAll}
use Rattle.lua_follow.specs.Stands.{Beside}
use Rattle.lua_follow.specs.Follows.{Rests}
use Rattle.lua_follow.proofs.Gives.{Steady, steady_beside, reg_stands}
use Rattle.lua_follow.proofs.Runs.{runs_more}
use Rattle.lua_follow.proofs.Sim.{Standing, Outcome, Row, Sim, standing}

-- where a run of the machine leads so, it is as with the reduction
abbrev pub Comes : Code → Standing → Machine → Went → Step → Type 0
Comes code P m w r = (n : ℕ) → run n code m ≡ w → Outcome code P m r

pub comes_same : (code : Code) (P : Standing) (m : Machine) (w v : Went) (r q : Step) → v ≡ w → q ≡ r → Comes code P m w r → Comes code P m v q
comes_same code P m w v r q e f h n runs = subst (Outcome code P m) (sym f) (h n (runs ∙ e))

-- the row of a machine that acts where no tick is paid in advance
pub acts : (code : Code) (P : Standing) (m : Machine) (s : State) (r : Step) → (s.left ≡ m.left → Outcome code P m r) → Row code P m s 0 r
acts code P m s r h = inr (λ lt. absurd (omega arith), λ e. h (omega (arith, e)))

-- the machine goes on and stands for the next state
pub goes_on : (code : Code) (P : Standing) (m to : Machine) (t : State) → t.left ≡ to.left → P to t 0 → Comes code P m (On to) (Next t)
goes_on code P m to t left h n runs = inl (n, to, 0, runs, omega (arith, left), h)

-- ---- ticks
pub paid_comes : (code : Code) (P : Standing) (m0 m : Machine) (s : State) (p : ℕ) (go : Machine → Went) (gs : State → Step) → s.left ≡ m.left → m.aside.heap ≡ s.aside.heap
    → ((l : ℕ) → Comes code P m0 (go (record m { left = l })) (gs (record s { left = l }))) → Comes code P m0 (moves.paid p m go) (meaning_moves.paid p s gs)
paid_comes code P m0 m s p go gs left heap h = by_cases (cases_lt m.left p)
  where
    by_cases : (m.left < p) ⊎ (p ≤ m.left) → Comes code P m0 (moves.paid p m go) (meaning_moves.paid p s gs)
    by_cases (inl lt) =
        comes_same code P m0 (Off machine.Budget m) (moves.paid p m go) (Halt meaning.Budget s) (meaning_moves.paid p s gs)
        (ap (λ b. if b then Off machine.Budget m else go (record m { left = m.left - p })) (lt-ltb m.left p lt))
        (ap (λ b. if b then Halt meaning.Budget s else gs (record s { left = s.left - p })) (lt-ltb s.left p (omega (arith, left))))
        (λ n runs. record { n = n; stop = machine.Budget; to = m; runs = runs; same = tt; rests = heap })
    by_cases (inr le) =
        comes_same code P m0 (go (record m { left = m.left - p })) (moves.paid p m go) (gs (record s { left = m.left - p })) (meaning_moves.paid p s gs)
        (ap (λ b. if b then Off machine.Budget m else go (record m { left = m.left - p })) (le-ltb m.left p le))
        (ap (λ b. if b then Halt meaning.Budget s else gs (record s { left = s.left - p })) (le-ltb s.left p (omega (arith, left))) ∙ ap (λ i. gs (record s { left = i - p })) left)
        (h (m.left - p))

-- ---- units
pub kept_comes : (code : Code) (P : Standing) (m0 m : Machine) (s : State) (a b : Option model.Heap) (go : Machine → Went) (f : Focus) (K : List Context) → a ≡ b → m.aside.heap ≡ s.aside.heap
    → ((h : model.Heap) → Comes code P m0 (go (record m { aside = record m.aside { heap = h } })) (Next (record s { focus = f; ks = K; aside = record s.aside { heap = h } })))
    → Comes code P m0 (moves.kept a m go) (meaning_moves.kept b s f K)
kept_comes code P m0 m s a b go f K e heap h =
    comes_same code P m0 (moves.kept b m go) (moves.kept a m go) (meaning_moves.kept b s f K) (meaning_moves.kept b s f K) (ap (λ o. moves.kept o m go) e) refl (by_option b)
  where
    by_option : (o : Option model.Heap) → Comes code P m0 (moves.kept o m go) (meaning_moves.kept o s f K)
    by_option None = λ n runs. record { n = n; stop = machine.HeapFull; to = m; runs = runs; same = tt; rests = heap }
    by_option (Some x) = h x

-- ---- strings
pub made_comes : (code : Code) (P : Standing) (m0 m : Machine) (s : State) (bytes : List ℕ) (go : Value → Machine → Went) (what : Value → Focus) (K : List Context) → s.left ≡ m.left → m.aside.heap ≡ s.aside.heap
    → ((v : Value) (h : model.Heap) (l : ℕ) → Comes code P m0 (go v (record m { left = l; aside = record m.aside { heap = h } })) (Next (record s { focus = what v; ks = K; left = l; aside = record s.aside { heap = h } })))
    → Comes code P m0 (moves.made bytes m go) (meaning_moves.made bytes what s K)
made_comes code P m0 m s bytes go what K left heap h =
    paid_comes code P m0 m s (model.text_ticks bytes)
    (λ t. moves.kept (model.charged (model.text_units bytes) (model.holding bytes t.aside.heap)) t (go (model.text_value bytes t.aside.heap)))
    (λ t. meaning_moves.kept (model.charged (model.text_units bytes) (model.holding bytes t.aside.heap)) t (what (model.text_value bytes t.aside.heap)) K) left heap
    (λ l. comes_same code P m0
    (moves.kept (model.charged (model.text_units bytes) (model.holding bytes m.aside.heap)) (record m { left = l }) (go (model.text_value bytes s.aside.heap))) _
    (meaning_moves.kept (model.charged (model.text_units bytes) (model.holding bytes s.aside.heap)) (record s { left = l }) (what (model.text_value bytes s.aside.heap)) K) _
    (ap (λ x. moves.kept (model.charged (model.text_units bytes) (model.holding bytes m.aside.heap)) (record m { left = l }) (go (model.text_value bytes x))) heap) refl
    (kept_comes code P m0 (record m { left = l }) (record s { left = l }) _ _ (go (model.text_value bytes s.aside.heap)) (what (model.text_value bytes s.aside.heap)) K
    (ap (λ x. model.charged (model.text_units bytes) (model.holding bytes x)) heap) heap (λ x. h (model.text_value bytes s.aside.heap) x l)))

-- ---- errors
pub rests_of : (code : Code) (m : Machine) (s : State) (ks : List Spot) (f : Focus) (K : List Context) → s.left ≡ m.left → Steady code m s ks → Rests code m (record s { focus = f; ks = K })
rests_of code m s ks f K left h = record { homes = h.homes; cells = h.memory.cells; closures = h.memory.closures; beside = h.beside; left = left }

-- what is left where nothing goes on
pub record Left (code : Code) (m : Machine) (s : State) : Type 0 where
  pub homes : Homes
  pub cells : Cells homes m.cells s.store
  pub closures : ClosesAll code homes m.closures s.closures
  pub beside : Beside m.aside s.aside

pub refused_left : (code : Code) (P : Standing) (m0 m : Machine) (s : State) (line : Option ℕ) (why : Refusal) (K : List Context) → s.left ≡ m.left → Left code m s
    → Comes code P m0 (moves.refused line why m) (meaning_moves.refused line why s K)
refused_left code P m0 m s line why K left h =
    comes_same code P m0 (moves.made (meaning_moves.place s.aside.name line ++ refusal_text why) m (λ v t. moves.raised v t)) (moves.refused line why m)
    (meaning_moves.refused line why s K) (meaning_moves.refused line why s K)
    (ap (λ p. moves.made (p ++ refusal_text why) m (λ v t. moves.raised v t)) (same_place line ∙ ap (λ x. meaning_moves.place x line) h.beside.name)) refl
    (made_comes code P m0 m s (meaning_moves.place s.aside.name line ++ refusal_text why) (λ v t. moves.raised v t) (λ v. Raises v) K left h.beside.heap
    (λ v x l n runs. raise v x l n (runs ∙ ap (λ rs. fail rs v (record m { left = l; aside = record m.aside { heap = x } })) h.beside.alone)))
  where
    same_place : (o : Option ℕ) → moves.place m.aside.name o ≡ meaning_moves.place m.aside.name o
    same_place None = refl
    same_place (Some i) = refl

    raise : (v : Value) (x : model.Heap) (l n : ℕ) → run n code m0 ≡ Off (machine.Raise v) (record m { left = l; aside = record m.aside { heap = x } })
        → Outcome code P m0 (Next (record s { focus = Raises v; ks = K; left = l; aside = record s.aside { heap = x } }))
    raise v x l n runs =
        inr (inr (
          n,
          record m { left = l; aside = record m.aside { heap = x } },
          v,
          runs,
          refl,
          record {
            homes = h.homes;
            cells = h.cells;
            closures = h.closures;
            beside = record { name = h.beside.name; heap = refl; alone = h.beside.alone; lone = h.beside.lone };
            left = refl;
          },
        ))

pub refused_comes : (code : Code) (P : Standing) (m0 m : Machine) (s : State) (ks : List Spot) (line : Option ℕ) (why : Refusal) (K : List Context) → s.left ≡ m.left → Steady code m s ks
    → Comes code P m0 (moves.refused line why m) (meaning_moves.refused line why s K)
refused_comes code P m0 m s ks line why K left h =
    refused_left code P m0 m s line why K left (record { homes = h.homes; cells = h.memory.cells; closures = h.memory.closures; beside = h.beside })

-- ---- the answer of an operator
-- what comes of a value in slot r
abbrev pub Into-slot : Standing → Machine → State → ℕ → List Context → Type 0
Into-slot P m s r K =
    (v : Value) (x y : model.Heap) (l : ℕ) → x ≡ y
    → P (record (with_slot r v m) { top = record m.top { at = m.top.at + 1 }; left = l; aside = record m.aside { heap = x } }) (record s { focus = Gives v; ks = K; left = l; aside = record s.aside { heap = y } }) 0

pub answered_into : (code : Code) (P : Standing) (m : Machine) (s : State) (ks : List Spot) (r : ℕ) (K : List Context) (a : Answer) (line : ℕ) → s.left ≡ m.left → Steady code m s ks → Into-slot P m s r K
    → Comes code P m (moves.answered a r line m) (meaning_moves.answered a line s K)
answered_into code P m s ks r K (answer.Plain v) line left h after =
    goes_on code P m _ (record s { focus = Gives v; ks = K }) left (subst (λ l. P (record (with_slot r v m) { top = record m.top { at = m.top.at + 1 } }) (record s { focus = Gives v; ks = K; left = l }) 0) (sym left) (after v m.aside.heap s.aside.heap m.left h.beside.heap))
answered_into code P m s ks r K (answer.Fresh bytes) line left h after =
    made_comes code P m m s bytes (λ v t. gives r v t) (λ v. Gives v) K left h.beside.heap (λ v x l. goes_on code P m _ _ refl (after v x x l refl))
answered_into code P m s ks r K (answer.Refused why) line left h after = refused_comes code P m m s ks (Some line) why K left h

pub answered_comes : (code : Code) (m : Machine) (s : State) (ks : List Spot) (a : Answer) (line : ℕ) → s.left ≡ m.left → Steady code m s ks
    → m.top.base + register (target ks) (free ks) < length m.row → Takes code m.top.function ks (m.top.at + 1) (Reg (register (target ks) (free ks)))
    → Comes code (Sim code) m (moves.answered a (register (target ks) (free ks)) line m) (meaning_moves.answered a line s (contexts ks))
answered_comes code m s ks a line left h inside takes =
    answered_into code (Sim code) m s ks (register (target ks) (free ks)) (contexts ks) a line left h
    (λ v x y l e. standing code _ _ 0 ks refl
    (reg_stands code (record m { left = l; aside = record m.aside { heap = x } }) (record s { left = l; aside = record s.aside { heap = y } }) ks (m.top.at + 1) _ v refl inside
    (steady_beside code m s ks (record m.aside { heap = x }) (record s.aside { heap = y }) l l
    (record { name = h.beside.name; heap = e; alone = h.beside.alone; lone = h.beside.lone }) h) takes))

-- ---- ticks paid in advance
-- the machine pays p ticks and then goes on to `to`, as the state goes on
pub pays_ahead : (code : Code) (P : Standing) (m0 m to : Machine) (t : State) (p n : ℕ) (go : Machine → Went) → run n code m0 ≡ moves.paid p m go → t.left ≡ m.left → m.aside.heap ≡ to.aside.heap
    → ((l : ℕ) → (j : ℕ) × (mid : Machine) × (go (record m { left = l }) ≡ On mid) × (run j code mid ≡ On (record to { left = l }))) → ((l : ℕ) → P (record to { left = l }) t p)
    → Outcome code P m0 (Next t)
pays_ahead code P m0 m to t p n go runs left heap on h = by_cases (cases_lt m.left p)
  where
    by_cases : (m.left < p) ⊎ (p ≤ m.left) → Outcome code P m0 (Next t)
    by_cases (inl lt) =
        inr (inl (
          n,
          m,
          record to { left = 0 },
          p,
          runs ∙ ap (λ b. if b then Off machine.Budget m else go (record m { left = m.left - p })) (lt-ltb m.left p lt),
          omega (arith, left),
          heap,
          h 0,
        ))
    by_cases (inr le) =
        let o = on (m.left - p) in
        inl (
          n + o.0,
          record to { left = m.left - p },
          p,
          runs_more code n o.0 m0 o.1 _ (runs ∙ ap (λ b. if b then Off machine.Budget m else go (record m { left = m.left - p })) (le-ltb m.left p le) ∙ o.2) o.3,
          omega (arith, left),
          h (m.left - p),
        )
