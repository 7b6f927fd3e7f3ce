-- A tick is paid: now, or by an operation before.
use Rattle.std.proofs.Common.{◌≡◌, ℕ, zero, suc, ◌+◌, ◌-◌, ◌<◌, ◌≤◌, ◌⊎◌, inl, inr, List, refl, sym, ap, ◌∙◌, arith}
use Rattle.std.specs.Prelude.{if◌then◌else◌}
use Rattle.std.proofs.lemmas.Bool.{cases_lt, lt-ltb, le-ltb}
use Rattle.lua_code.specs.declared.op.Op.TheVariants as op
use Rattle.lua_meaning.specs.State.{Focus, State, Next, Context}
use Rattle.lua_meaning.specs.Moves.{ticked}
use Rattle.lua_steps.specs.Machine as machine
use Rattle.lua_steps.specs.Machine.{Code, Machine, Went, On, Off}
use Rattle.lua_steps.specs.Moves.{paid, next, jump}
use Rattle.lua_steps.specs.Run.{run}
use Rattle.lua_steps.specs.Stand.{Ticks}
use Rattle.lua_follow.proofs.Runs.{runs_op, runs_more}
use Rattle.lua_follow.proofs.Branches.{put_at}
use Rattle.lua_follow.proofs.Comes.{acts}
use Rattle.lua_follow.proofs.Sim.{Standing, Outcome, Row}

-- an operation pays this tick and n more
pub ticked_comes : (code : Code) (P : Standing) (m0 m to : Machine) (s : State) (F : Focus) (K : List Context) (n i : ℕ) (go : Machine → Went) (now : ℕ) → run i code m0 ≡ paid (suc n) m go → now ≡ m.left → m.aside.heap ≡ s.aside.heap
    → m.aside.heap ≡ to.aside.heap → ((l : ℕ) → (j : ℕ) × (mid : Machine) × (go (record m { left = l }) ≡ On mid) × (run j code mid ≡ On (record to { left = l })))
    → ((l j : ℕ) → P (record to { left = l }) (record s { focus = F; ks = K; left = j }) n) → Outcome code P m0 (ticked now s F K)
ticked_comes code P m0 m to s F K n i go now runs left heap same on h = by_left now left
  where
    off : m.left < suc n → run i code m0 ≡ Off machine.Budget m
    off lt = runs ∙ ap (λ b. if b then Off machine.Budget m else go (record m { left = m.left - suc n })) (lt-ltb m.left (suc n) lt)

    by_more : (j : ℕ) → suc j ≡ m.left → (m.left < suc n) ⊎ (suc n ≤ m.left) → Outcome code P m0 (Next (record s { focus = F; ks = K; left = j }))
    by_more j e (inl lt) = inr (inl (i, m, record to { left = 0 }, n, off lt, omega (arith, e), same, h 0 j))
    by_more j e (inr le) =
        let o = on (m.left - suc n) in
        inl (
          i + o.0,
          record to { left = m.left - suc n },
          n,
          runs_more code i o.0 m0 o.1 _ (runs ∙ ap (λ b. if b then Off machine.Budget m else go (record m { left = m.left - suc n })) (le-ltb m.left (suc n) le) ∙ o.2) o.3,
          omega (arith, e),
          h (m.left - suc n) j,
        )

    by_left : (l : ℕ) → l ≡ m.left → Outcome code P m0 (ticked l s F K)
    by_left zero e = record { n = i; stop = machine.Budget; to = m; runs = off (omega (arith, e)); same = tt; rests = heap }
    by_left (suc j) e = by_more j e (cases_lt m.left (suc n))

-- a tick that is paid at this place, or was paid before
pub ticks_row : (code : Code) (P : Standing) (m : Machine) (s : State) (F : Focus) (K : List Context) (k : ℕ) (R : ℕ → ℕ → Type 0) → m.aside.heap ≡ s.aside.heap → Ticks code m.top.function k m.top.at R
    → ((j a l i : ℕ) → R j a → P (record (put_at a m) { left = l }) (record s { focus = F; ks = K; left = i }) j) → Row code P m s k (ticked s.left s F K)
ticks_row code P m s F K (suc j) R heap c h =
    inl (
      0,
      m,
      refl,
      refl,
      λ lt. refl,
      1,
      j,
      omega arith,
      λ lt. (s, ap (λ l. ticked l s F K) (none lt), heap),
      λ l e. (record s { focus = F; ks = K; left = l }, ap (λ i. ticked i s F K) (some l e), refl, h j m.top.at m.left l c),
    )
  where
    none : s.left < 1 → s.left ≡ 0
    none lt = omega arith

    some : (l : ℕ) → s.left ≡ 1 + l → s.left ≡ suc l
    some l e = omega (arith, e)
ticks_row code P m s F K zero R heap (inl c) h =
    acts code P m s _ (λ left.
    ticked_comes code P m m (put_at (m.top.at + 1) m) s F K c.0 1 (λ t. next t) s.left (runs_op code m (op.Tick (suc c.0)) _ c.1 refl) left heap refl
    (λ l. (0, record (put_at (m.top.at + 1) m) { left = l }, refl, refl)) (λ l j. h c.0 (m.top.at + 1) l j c.2))
ticks_row code P m s F K zero R heap (inr c) h =
    acts code P m s _ (λ left.
    ticked_comes code P m m (put_at c.1 m) s F K c.0 1 (λ t. jump c.1 t) s.left (runs_op code m (op.Loop (suc c.0) c.1) _ c.2 refl) left heap refl
    (λ l. (0, record (put_at c.1 m) { left = l }, refl, refl)) (λ l j. h c.0 c.1 l j c.3))

-- the machine goes on from a place without a tick
pub record Settled (code : Code) (P : Standing) (m : Machine) (s : State) (F : Focus) (K : List Context) (j a : ℕ) : Type 0 where
  pub n : ℕ
  pub to : Machine
  pub runs : (l : ℕ) → run n code (record (put_at a m) { left = l }) ≡ On (record to { left = l })
  pub heap : to.aside.heap ≡ m.aside.heap
  pub stands : (l i : ℕ) → P (record to { left = l }) (record s { focus = F; ks = K; left = i }) j

pub settled_row : (code : Code) (P : Standing) (m : Machine) (s : State) (F : Focus) (K : List Context) (k : ℕ) (R : ℕ → ℕ → Type 0) → m.aside.heap ≡ s.aside.heap → Ticks code m.top.function k m.top.at R
    → ((j a : ℕ) → R j a → Settled code P m s F K j a) → Row code P m s k (ticked s.left s F K)
settled_row code P m s F K (suc j) R heap c h =
    let t = h j m.top.at c in
    inl (
      t.n,
      record t.to { left = m.left },
      t.runs m.left,
      refl,
      λ lt. t.heap,
      1,
      j,
      omega arith,
      λ lt. (s, ap (λ l. ticked l s F K) (none lt), t.heap ∙ heap),
      λ l e. (record s { focus = F; ks = K; left = l }, ap (λ i. ticked i s F K) (some l e), refl, t.stands m.left l),
    )
  where
    none : s.left < 1 → s.left ≡ 0
    none lt = omega arith

    some : (l : ℕ) → s.left ≡ 1 + l → s.left ≡ suc l
    some l e = omega (arith, e)
settled_row code P m s F K zero R heap (inl c) h =
    let t = h c.0 (m.top.at + 1) c.2 in
    acts code P m s _ (λ left.
    ticked_comes code P m m t.to s F K c.0 1 (λ x. next x) s.left (runs_op code m (op.Tick (suc c.0)) _ c.1 refl) left heap (sym t.heap)
    (λ l. (t.n, record (put_at (m.top.at + 1) m) { left = l }, refl, t.runs l)) (λ l j. t.stands l j))
settled_row code P m s F K zero R heap (inr c) h =
    let t = h c.0 c.1 c.3 in
    acts code P m s _ (λ left.
    ticked_comes code P m m t.to s F K c.0 1 (λ x. jump c.1 x) s.left (runs_op code m (op.Loop (suc c.0) c.1) _ c.2 refl) left heap (sym t.heap)
    (λ l. (t.n, record (put_at c.1 m) { left = l }, refl, t.runs l)) (λ l j. t.stands l j))

-- nothing is done between
pub at_once : (code : Code) (P : Standing) (m : Machine) (s : State) (F : Focus) (K : List Context) (j a : ℕ) → ((l i : ℕ) → P (record (put_at a m) { left = l }) (record s { focus = F; ks = K; left = i }) j) → Settled code P m s F K j a
at_once code P m s F K j a h = record { n = 0; to = put_at a m; runs = λ l. refl; heap = refl; stands = h }
