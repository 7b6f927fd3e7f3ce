-- The values of a numeric `for` come, one after another (manual, section 3.3.5).
use Rattle.std.proofs.Common.{◌≡◌, ℕ, ◌+◌, ◌<◌, inl, inr, List, [], ◌∷◌, ◌++◌, length, refl, sym, ap, ◌∙◌, subst, arith, pos}
use Rattle.std.specs.Prelude.{slice_set}
use Rattle.lua_tree.specs.Source.{Text, Block, Exp}
use Rattle.lua_value.specs.declared.value.Value.{Value}
use Rattle.lua_value.specs.declared.value.Value.TheVariants as value
use Rattle.lua_code.specs.declared.op.Op.TheVariants as op
use Rattle.lua_code.specs.Valid.{IsValid}
use Rattle.lua_meaning.specs.State.{Env, Eval, Gives, State, Next}
use Rattle.lua_meaning.specs.Loops.{numeric_value, numeric_from}
use Rattle.lua_steps.specs.Machine.{Code, Machine, On}
use Rattle.lua_steps.specs.Moves.{slot}
use Rattle.lua_steps.specs.Exec.{constant_value}
use Rattle.lua_steps.specs.Run.{run}
use Rattle.lua_steps.specs.Scope.{Scope}
use Rattle.lua_steps.specs.Stand.{IsInt, IsNumeric, Into}
use Rattle.lua_steps.specs.Serves.{IsExp, IsBlock}
use Rattle.lua_follow.specs.Spot.{Stage, First, Limit, FirstOf, LimitOf, StepOf, Spot, ForS, contexts, to_come, so_far_of, stage_place}
use Rattle.lua_follow.specs.Takes.{Takes, Ends, Exits, Turns}
use Rattle.lua_follow.specs.Memory.{view}
use Rattle.lua_follow.specs.Kept.{Shows, Staged}
use Rattle.lua_follow.specs.Stands.{Stands, ahead}
use Rattle.lua_follow.proofs.Lists.{length_set, value_set, value_other}
use Rattle.lua_follow.proofs.Comes.{acts}
use Rattle.lua_follow.proofs.Firm.{shifted}
use Rattle.lua_follow.proofs.Frames.{fits_at, slot_in}
use Rattle.lua_follow.proofs.Gives.{Steady}
use Rattle.lua_follow.proofs.RowsEval.{eval_stands}
use Rattle.lua_follow.proofs.RowsOne.{gives_steady}
use Rattle.lua_follow.proofs.Runs.{runs_op}
use Rattle.lua_follow.proofs.Scenes.{Scene}
use Rattle.lua_follow.proofs.Prefix.{outcome_before}
use Rattle.lua_follow.proofs.Loops.{steady_inside, scoped_inside}
use Rattle.lua_follow.proofs.RowsStores.{scene_shift}
use Rattle.lua_follow.proofs.LoopsNumeric.{begin_outcome}
use Rattle.lua_follow.proofs.Sim.{Row, Sim, quiet, standing}

module _ (code : Code) (valid : IsValid code) (m : Machine) (s : State) (ks : List Spot) (x : Text) (body : Block) (line : ℕ) (rest : Block) (env : Env) (sc : Scope) where
  abbrev After : ℕ → Type 0
  After y = IsBlock code m.top.function sc rest 0 y (Exits code m.top.function ks) (Ends code m.top.function ks)

  abbrev inside : Stage → List Spot
  inside stage = ForS stage x body line rest env sc ∷ ks

  abbrev Here-at : Stage → Value → ℕ → Type 0
  Here-at stage v k = Stands code m (record s { focus = Gives v; ks = contexts (inside stage) }) (inside stage) k

  abbrev Row-at : Stage → Value → ℕ → Type 0
  Row-at stage v k = Row code (Sim code) m s k (numeric_value (to_come stage) (so_far_of stage ++ v ∷ []) x body line rest env s (contexts ks))

  abbrev scene_of : (stage : Stage) → Steady code m s (inside stage) → Scene code m s ks sc env
  scene_of stage g =
      record { homes = g.homes; owners = g.owners; memory = g.memory; inner = g.kept.0; round = g.kept.1; kept = g.kept.3; below = g.below; room = g.room; lists = g.lists; beside = g.beside }

  -- no tick is paid for a value in its slot
  none_paid : (stage : Stage) (v : Value) (k : ℕ) → (h : Here-at stage v k) → k ≡ 0
  none_paid stage v k h = h.here.5 ∙ ap ahead h.here.3

  in_slot : (stage : Stage) (v : Value) (k : ℕ) → (h : Here-at stage v k) → slot m (stage_place stage sc.free) ≡ v
  in_slot stage v k h = subst (λ q. Shows (view m.top) m.row q v) h.here.3 h.here.2

  -- the next expression
  next_value : (stage : Stage) (e : Exp) (h : Scene code m s ks sc env) → Staged (view m.top) m.row sc.free stage → IsExp code m.top.function sc e m.top.at (stage_place stage sc.free) (Into (stage_place stage sc.free)) (Takes code m.top.function (inside stage))
      → Row code (Sim code) m s 0 (Next (record s { focus = Eval e env; ks = contexts (inside stage) }))
  next_value stage e h staged is =
      quiet code (Sim code) m m s (record s { focus = Eval e env; ks = contexts (inside stage) }) 0 0 _ refl refl (λ lt. refl) refl refl
      (standing code _ _ 0 (inside stage) refl
      (eval_stands code m s (inside stage) e env sc (steady_inside code m s (inside stage) ks sc env h refl (h.inner, h.round, staged, h.kept) h.below refl) is (scoped_inside code m s (inside stage) ks sc env h refl refl)))

  begins : (to : Machine) (n : ℕ) (u v w : Value) → run n code m ≡ On to → to.top.function ≡ m.top.function → to.left ≡ m.left → Scene code to s ks sc env
      → IsNumeric code to.top.function sc x line to.top.at (Turns code to.top.function body (λ y. IsBlock code to.top.function sc rest 0 y (Exits code to.top.function ks) (Ends code to.top.function ks)))
      (λ y. IsBlock code to.top.function sc rest 0 y (Exits code to.top.function ks) (Ends code to.top.function ks))
      → slot to sc.free ≡ u → slot to (sc.free + 1) ≡ v → slot to (sc.free + 2) ≡ w
      → Row code (Sim code) m s 0 (numeric_from u v w x body line rest env s (contexts ks))
  begins to n u v w runs same left h is eu ev ew =
      acts code (Sim code) m s _ (λ e.
      outcome_before code (Sim code) m to n _ runs
      (begin_outcome code valid ks x body rest env sc to s line u v w h (e ∙ sym left) is eu ev ew))

  first_gives : (limit : Exp) (v : Value) (k : ℕ) → Here-at (First limit) v k → Row-at (First limit) v k
  first_gives limit v k h =
      let g = gives_steady code m s (inside (First limit)) v k h (omega arith) in
      subst (λ i. Row-at (First limit) v i) (sym (none_paid (First limit) v k h)) (next_value (Limit v) limit (scene_of (First limit) g) (in_slot (First limit) v k h) h.here.1)

  first_of_gives : (limit step : Exp) (v : Value) (k : ℕ) → Here-at (FirstOf limit step) v k → Row-at (FirstOf limit step) v k
  first_of_gives limit step v k h =
      let g = gives_steady code m s (inside (FirstOf limit step)) v k h (omega arith) in
      subst (λ i. Row-at (FirstOf limit step) v i) (sym (none_paid (FirstOf limit step) v k h)) (next_value (LimitOf v step) limit (scene_of (FirstOf limit step) g) (in_slot (FirstOf limit step) v k h) h.here.1)

  limit_of_gives : (u : Value) (step : Exp) (v : Value) (k : ℕ) → Here-at (LimitOf u step) v k → Row-at (LimitOf u step) v k
  limit_of_gives u step v k h =
      let g = gives_steady code m s (inside (LimitOf u step)) v k h (omega arith) in
      subst (λ i. Row-at (LimitOf u step) v i) (sym (none_paid (LimitOf u step) v k h)) (next_value (StepOf u v) step (scene_of (LimitOf u step) g) (g.kept.2, in_slot (LimitOf u step) v k h) h.here.1)

  step_of_gives : (u v w : Value) (k : ℕ) → Here-at (StepOf u v) w k → Row-at (StepOf u v) w k
  step_of_gives u v w k h =
      let g = gives_steady code m s (inside (StepOf u v)) w k h (omega arith) in
      let none = none_paid (StepOf u v) w k h in
      subst (λ i. Row-at (StepOf u v) w i) (sym none) (begins m 0 u v w refl refl refl (scene_of (StepOf u v) g) h.here.1 g.kept.2.0 g.kept.2.1 (in_slot (StepOf u v) w k h))

  -- without a third value the step is 1
  abbrev line_of : List Value
  line_of = slice_set m.row (m.top.base + (sc.free + 2)) (value.Int (pos 1))

  one_runs : IsInt code m.top.function m.top.at (sc.free + 2) (pos 1) → run 1 code m ≡ On (shifted m (m.top.at + 1) m.top.lists line_of)
  one_runs (inl is) = runs_op code m (op.Int (sc.free + 2) (pos 1)) _ is refl
  one_runs (inr c) = runs_op code m (op.Constant (sc.free + 2) c.0) _ c.1 (ap (λ o. constant_value o (sc.free + 2) m) c.2)

  one_fits : (h : Scene code m s ks sc env) → IsInt code m.top.function m.top.at (sc.free + 2) (pos 1) → m.top.base + (sc.free + 2) < length m.row
  one_fits h (inl is) = slot_in code (view m.top) m.row h.room (sc.free + 2) ((fits_at code (view m.top) m.row h.room m.top.at (op.Int (sc.free + 2) (pos 1)) valid is).0)
  one_fits h (inr c) = slot_in code (view m.top) m.row h.room (sc.free + 2) ((fits_at code (view m.top) m.row h.room m.top.at (op.Constant (sc.free + 2) c.0) valid c.1).0)

  limit_gives : (u v : Value) (k : ℕ) → Here-at (Limit u) v k → Row-at (Limit u) v k
  limit_gives u v k h =
      let g = gives_steady code m s (inside (Limit u)) v k h (omega arith) in
      let none = none_paid (Limit u) v k h in
      let scene = scene_of (Limit u) g in
      let other = λ (p : ℕ) (ne : m.top.base + (sc.free + 2) ≡ p → ⊥). value_other m.row (m.top.base + (sc.free + 2)) p (value.Int (pos 1)) ne in
      subst (λ i. Row-at (Limit u) v i) (sym none)
      (begins (shifted m (m.top.at + 1) m.top.lists line_of) 1 u v (value.Int (pos 1)) (one_runs h.here.1.0) refl refl
      (scene_shift code m s ks sc env (m.top.at + 1) m.top.lists line_of (length_set m.row (m.top.base + (sc.free + 2)) (value.Int (pos 1))) (λ p lt. other p (λ e. omega (arith, e))) scene.lists scene) h.here.1.1
      (other (m.top.base + sc.free) (λ e. omega (arith, e)) ∙ g.kept.2) (other (m.top.base + (sc.free + 1)) (λ e. omega (arith, e)) ∙ in_slot (Limit u) v k h)
      (value_set m.row (m.top.base + (sc.free + 2)) (value.Int (pos 1)) (one_fits scene h.here.1.0)))

  pub for_gives : (stage : Stage) (v : Value) (k : ℕ) → Here-at stage v k → Row-at stage v k
  for_gives (First limit) v k h = first_gives limit v k h
  for_gives (Limit u) v k h = limit_gives u v k h
  for_gives (FirstOf limit step) v k h = first_of_gives limit step v k h
  for_gives (LimitOf u step) v k h = limit_of_gives u step v k h
  for_gives (StepOf u v) w k h = step_of_gives u v w k h
