-- Rows of `repeat` (manual, section 3.3.4).
use Rattle.std.proofs.Common.{◌≡◌, ℕ, zero, suc, ◌+◌, ◌-◌, ◌<◌, ◌≤◌, ◌⊎◌, inl, inr, List, ◌∷◌, refl, sym, ap, ◌∙◌, subst, arith}
use Rattle.std.specs.Prelude.{if◌then◌else◌}
use Rattle.std.proofs.lemmas.Bool.{cases_lt, lt-ltb, le-ltb}
use Rattle.lua_tree.specs.Source as source
use Rattle.lua_tree.specs.Source.{Block, Exp}
use Rattle.lua_value.specs.declared.value.Value.{Value}
use Rattle.lua_value.specs.Same.{is_true}
use Rattle.lua_code.specs.declared.op.Op.TheVariants as op
use Rattle.lua_meaning.specs.State as meaning
use Rattle.lua_meaning.specs.State.{Env, Focus, Eval, Gives, Run, State, Step, Next, Halt, Context, UntilK, RepeatLoopK}
use Rattle.lua_meaning.specs.Moves as meaning_moves
use Rattle.lua_meaning.specs.Statements.{stat}
use Rattle.lua_meaning.specs.Loops.{repeat_turn}
use Rattle.lua_meaning.specs.Reduce.{leave}
use Rattle.lua_steps.specs.Machine as machine
use Rattle.lua_steps.specs.Machine.{Code, Machine, Went, On, Off}
use Rattle.lua_steps.specs.Moves.{paid, next, jump}
use Rattle.lua_steps.specs.Run.{run}
use Rattle.lua_steps.specs.Scope.{Scope}
use Rattle.lua_steps.specs.Stand.{Leads, Ticks}
use Rattle.lua_steps.specs.Serves.{IsBlock, IsStat}
use Rattle.lua_follow.specs.Spot.{Spot, UntilS, RepeatLoopS, contexts}
use Rattle.lua_follow.specs.Takes.{Ends, Exits}
use Rattle.lua_follow.specs.Stands.{Stands, ahead}
use Rattle.lua_follow.proofs.Branches.{Branched, holds, fails, branched, put_at}
use Rattle.lua_follow.proofs.Gives.{Steady}
use Rattle.lua_follow.proofs.RowsEval.{eval_stands}
use Rattle.lua_follow.proofs.Runs.{runs_op, runs_more}
use Rattle.lua_follow.proofs.Scenes.{Scene, run_stands}
use Rattle.lua_follow.proofs.Prefix.{row_before}
use Rattle.lua_follow.proofs.Loops.{le_refl, scene_at, scene_inside, memory_lower, block_row}
use Rattle.lua_follow.proofs.TicksPaid.{settled_row}
use Rattle.lua_follow.proofs.Sim.{Standing, Outcome, Row, Sim, quiet, standing}

-- ---- two ticks at once
off : (p : ℕ) (m : Machine) (go : Machine → Went) → m.left < p → paid p m go ≡ Off machine.Budget m
off p m go lt = ap (λ b. if b then Off machine.Budget m else go (record m { left = m.left - p })) (lt-ltb m.left p lt)

on : (p : ℕ) (m : Machine) (go : Machine → Went) → p ≤ m.left → paid p m go ≡ go (record m { left = m.left - p })
on p m go le = ap (λ b. if b then Off machine.Budget m else go (record m { left = m.left - p })) (le-ltb m.left p le)

-- the machine pays q ticks that are due, and n in advance
pays_more : (code : Code) (P : Standing) (m0 m to : Machine) (t : State) (p q n i : ℕ) (go : Machine → Went) → run i code m0 ≡ paid p m go → p ≡ q + n → t.left + q ≡ m.left → m.aside.heap ≡ to.aside.heap
    → ((l : ℕ) → go (record m { left = l }) ≡ On (record to { left = l })) → ((l : ℕ) → P (record to { left = l }) t n) → Outcome code P m0 (Next t)
pays_more code P m0 m to t p q n i go runs all left heap goes h = by_cases (cases_lt m.left p)
  where
    by_cases : (m.left < p) ⊎ (p ≤ m.left) → Outcome code P m0 (Next t)
    by_cases (inl lt) = inr (inl (i, m, record to { left = 0 }, n, runs ∙ off p m go lt, omega (arith, left, all), heap, h 0))
    by_cases (inr le) = inl (i, record to { left = m.left - p }, n, runs ∙ on p m go le ∙ goes (m.left - p), omega (arith, left, all), h (m.left - p))

module _ (code : Code) (P : Standing) (m : Machine) (s : State) (F : Focus) (K : List Context) (R : ℕ → ℕ → Type 0) (heap : m.aside.heap ≡ s.aside.heap)
    (h : (j a l i : ℕ) → R j a → P (record (put_at a m) { left = l }) (record s { focus = F; ks = K; left = i }) j) where
  abbrev r : Step
  r = meaning_moves.paid 2 s (λ t. meaning_moves.goes t F K)

  abbrev mid : ℕ → ℕ → Machine
  mid a x = record (put_at a m) { left = x }

  short : s.left < 2 → r ≡ Halt meaning.Budget s
  short lt = ap (λ b. if b then Halt meaning.Budget s else meaning_moves.goes (record s { left = s.left - 2 }) F K) (lt-ltb s.left 2 lt)

  long : (l : ℕ) → s.left ≡ 2 + l → r ≡ Next (record s { focus = F; ks = K; left = l })
  long l e =
      let rest : s.left - 2 ≡ l = omega (arith, e) in
      ap (λ b. if b then Halt meaning.Budget s else meaning_moves.goes (record s { left = s.left - 2 }) F K) (le-ltb s.left 2 (omega (arith, e))) ∙ ap (λ i. meaning_moves.goes (record s { left = i }) F K) rest

  -- the machine stops, as the state does
  spent : (i : ℕ) (to : Machine) → run i code m ≡ Off machine.Budget to → to.aside.heap ≡ s.aside.heap → s.left < 2 → Outcome code P m r
  spent i to runs same lt = subst (Outcome code P m) (sym (short lt)) (record { n = i; stop = machine.Budget; to = to; runs = runs; same = tt; rests = same })

  -- one tick is due
  last_op : (a b x i n : ℕ) (go : Machine → Went) → run i code m ≡ paid (suc n) (mid a x) go → ((l : ℕ) → go (record (mid a x) { left = l }) ≡ On (mid b l)) → s.left ≡ x + 1 → R n b → Outcome code P m r
  last_op a b zero i n go runs goes left is = spent i (mid a 0) (runs ∙ off (suc n) (mid a 0) go (omega arith)) heap (omega (arith, left))
  last_op a b (suc x) i n go runs goes left is =
      let enough : s.left ≡ 2 + x = omega (arith, left) in
      let one : x + 1 ≡ suc x = omega arith in
      subst (Outcome code P m) (sym (long x enough)) (pays_more code P m (mid a (suc x)) (mid b x) (record s { focus = F; ks = K; left = x }) (suc n) 1 n i go runs (omega arith) one refl goes (λ l. h n b l x is))

  last_tick : (a x i : ℕ) → run i code m ≡ On (mid a x) → s.left ≡ x + 1 → Ticks code m.top.function 0 a R → Outcome code P m r
  last_tick a x i runs left (inl (n, is, next_is)) =
      last_op a (a + 1) x (i + 1) n (λ t. next t) (runs_more code i 1 m (mid a x) _ runs (runs_op code (mid a x) (op.Tick (suc n)) _ is refl)) (λ l. refl) left next_is
  last_tick a x i runs left (inr (n, j, is, next_is)) =
      last_op a j x (i + 1) n (λ t. jump j t) (runs_more code i 1 m (mid a x) _ runs (runs_op code (mid a x) (op.Loop (suc n) j) _ is refl)) (λ l. refl) left next_is

  -- the first tick is due too
  first_op : (b n : ℕ) (go : Machine → Went) → run 1 code m ≡ paid (suc n) m go → ((l : ℕ) → go (record m { left = l }) ≡ On (mid b l)) → s.left ≡ m.left → Ticks code m.top.function n b R → Outcome code P m r
  first_op b (suc n) go runs goes left is = by_cases (cases_lt m.left 2)
    where
      by_cases : (m.left < 2) ⊎ (2 ≤ m.left) → Outcome code P m r
      by_cases (inl lt) = spent 1 m (runs ∙ off (suc (suc n)) m go (omega arith)) heap (omega (arith, left))
      by_cases (inr le) =
          let enough : s.left ≡ 2 + (m.left - 2) = omega (arith, left) in
          let two : (m.left - 2) + 2 ≡ m.left = omega arith in
          subst (Outcome code P m) (sym (long (m.left - 2) enough)) (pays_more code P m m (mid b 0) (record s { focus = F; ks = K; left = m.left - 2 }) (suc (suc n)) 2 n 1 go runs (omega arith) two refl goes (λ l. h n b l (m.left - 2) is))
  first_op b zero go runs goes left is = by_cases (cases_lt m.left 1)
    where
      by_cases : (m.left < 1) ⊎ (1 ≤ m.left) → Outcome code P m r
      by_cases (inl lt) = spent 1 m (runs ∙ off 1 m go lt) heap (omega (arith, left))
      by_cases (inr le) = last_tick b (m.left - 1) 1 (runs ∙ on 1 m go le ∙ goes (m.left - 1)) (omega (arith, left)) is

  pub two_ticks : (k : ℕ) → Ticks code m.top.function k m.top.at (λ n b. Ticks code m.top.function n b R) → Row code P m s k r
  two_ticks (suc (suc j)) c =
      inl (0, m, refl, refl, λ lt. refl, 2, j, omega arith, λ lt. (s, short lt, heap), λ l e. (record s { focus = F; ks = K; left = l }, long l e, refl, h j m.top.at m.left l c))
  two_ticks (suc zero) c = inr ((λ lt. (s, short (omega arith), heap)), λ e. last_tick m.top.at m.left 0 refl e c)
  two_ticks zero (inl (n, is, next_is)) =
      inr ((λ lt. absurd (omega arith)), λ e. first_op (m.top.at + 1) n (λ t. next t) (runs_op code m (op.Tick (suc n)) _ is refl) (λ l. refl) (omega (arith, e)) next_is)
  two_ticks zero (inr (n, j, is, next_is)) =
      inr ((λ lt. absurd (omega arith)), λ e. first_op j n (λ t. jump j t) (runs_op code m (op.Loop (suc n) j) _ is refl) (λ l. refl) (omega (arith, e)) next_is)

-- ---- the rows
module _ (code : Code) (m : Machine) (s : State) (ks : List Spot) (body : Block) (e : Exp) (rest : Block) (env : Env) (sc : Scope) where
  abbrev After : ℕ → Type 0
  After y = IsBlock code m.top.function sc rest 0 y (Exits code m.top.function ks) (Ends code m.top.function ks)

  -- the body stands at b with j ticks paid
  abbrev Body : ℕ → ℕ → Type 0
  Body j b = IsBlock code m.top.function sc body j b (Exits code m.top.function (RepeatLoopS body e rest env sc j b ∷ ks)) (Ends code m.top.function (RepeatLoopS body e rest env sc j b ∷ ks))

  a_turn : (j a l i : ℕ) → Scene code m s ks sc env → Body j a → Sim code (record (put_at a m) { left = l }) (record s { focus = Run body env; ks = RepeatLoopK body e rest env ∷ contexts ks; left = i }) j
  a_turn j a l i h is =
      let g = scene_at code m s ks sc env a l i h in
      let inside = RepeatLoopS body e rest env sc j a ∷ ks in
      standing code _ _ j inside refl
      (run_stands code (record (put_at a m) { left = l }) (record s { left = i }) inside sc env body j
      (scene_inside code (record (put_at a m) { left = l }) (record s { left = i }) inside ks sc env g refl refl g.round (g.inner, g.round, is, g.kept) g.below refl) is)

  -- the statement
  pub repeat_row : (k : ℕ) → Scene code m s ks sc env
      → IsStat code m.top.function sc (source.Repeat body e) k m.top.at (Exits code m.top.function ks) (λ next b. IsBlock code m.top.function next rest 0 b (Exits code m.top.function ks) (Ends code m.top.function ks))
      → Row code (Sim code) m s k (stat (source.Repeat body e) rest env s (contexts ks))
  repeat_row k h c = two_ticks code (Sim code) m s (Run body env) (RepeatLoopK body e rest env ∷ contexts ks) Body h.beside.heap (λ j a l i is. a_turn j a l i h is) k c

  -- the end of a turn: the condition sees the locals of the body
  pub repeat_ends : (j b : ℕ) (low : Scope) (end : Env) → Scene code m s (RepeatLoopS body e rest env sc j b ∷ ks) low end → Ends code m.top.function (RepeatLoopS body e rest env sc j b ∷ ks) low m.top.at
      → Row code (Sim code) m s 0 (leave (contexts (RepeatLoopS body e rest env sc j b ∷ ks)) end s)
  repeat_ends j b low end h is =
      let inside = UntilS body e rest env sc low.free low.cells j b ∷ ks in
      let g : Steady code m s inside =
      record {
        homes = h.homes;
        owners = h.owners;
        memory = h.memory;
        kept = (h.kept.0, h.kept.1, h.inner.slots_out, h.inner.cells_out, h.kept.2, h.kept.3);
        below = h.below;
        room = h.room;
        lists = h.lists;
        beside = h.beside;
      } in
      quiet code (Sim code) m m s (record s { focus = Eval e end; ks = contexts inside }) 0 0 _ refl refl (λ lt. refl) refl refl
      (standing code _ _ 0 inside refl
      (eval_stands code m s inside e end low g is (record { sees = h.inner.sees; slots_in = le_refl low.free; cells_in = le_refl low.cells })))

  by_branch : (k j b : ℕ) (v : Value) → Scene code m s ks sc env → (p : _) → k ≡ ahead p → Body j b
      → Branched code m p v (λ n a. (n ≡ 0) × Leads code m.top.function a After) (λ z. Ticks code m.top.function 0 z (λ n a. (n ≡ j) × (a ≡ b)))
      → Row code (Sim code) m s k (repeat_turn (is_true v) body e rest env s (contexts ks))
  by_branch k j b v h p same is (holds n a t runs c) =
      block_row code m s ks sc env rest n a k _ h runs c.1 (same ∙ c.0) (ap (λ x. repeat_turn x body e rest env s (contexts ks)) t)
  by_branch k j b v h p same is (fails n a t runs none ticks) =
      subst (λ i. Row code (Sim code) m s i (repeat_turn (is_true v) body e rest env s (contexts ks))) (sym (same ∙ none))
      (subst (λ x. Row code (Sim code) m s 0 x) (sym (ap (λ x. repeat_turn x body e rest env s (contexts ks)) t))
      (row_before code (Sim code) m (put_at a m) s 0 n _ runs refl refl
      (settled_row code (Sim code) (put_at a m) s (Run body env) (RepeatLoopK body e rest env ∷ contexts ks) 0 _ h.beside.heap ticks
      (λ i y there.
      record {
        n = 0;
        to = put_at y m;
        runs = λ l. refl;
        heap = refl;
        stands = λ l x. subst (λ q. Sim code (record (put_at y m) { left = l }) (record s { focus = Run body env; ks = RepeatLoopK body e rest env ∷ contexts ks; left = x }) q) (sym there.0)
            (a_turn j y l x h (subst (λ q. IsBlock code m.top.function sc body j q (Exits code m.top.function (RepeatLoopS body e rest env sc j q ∷ ks)) (Ends code m.top.function (RepeatLoopS body e rest env sc j q ∷ ks))) (sym there.1) is));
      }))))

  pub until_gives : (d q j b : ℕ) (v : Value) (k : ℕ) → Stands code m (record s { focus = Gives v; ks = contexts (UntilS body e rest env sc d q j b ∷ ks) }) (UntilS body e rest env sc d q j b ∷ ks) k
      → Row code (Sim code) m s k (repeat_turn (is_true v) body e rest env s (contexts ks))
  until_gives d q j b v k h =
      by_branch k j b v
      (record {
        homes = h.homes;
        owners = h.owners;
        memory = memory_lower code h.homes h.owners m.row m.cells m.closures s.store s.closures m.top.base d sc.free h.kept.2 h.here.7;
        inner = h.kept.0;
        round = h.kept.1;
        kept = h.kept.5;
        below = h.below;
        room = h.room;
        lists = h.here.6;
        beside = h.beside;
      })
      h.here.0 h.here.5 h.kept.4 (branched code m v _ _ h.here.0 h.here.2 h.here.1)
