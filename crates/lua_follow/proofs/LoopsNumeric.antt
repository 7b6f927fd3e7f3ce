-- Rows of the numeric `for` (manual, section 3.3.5).
use Rattle.std.proofs.Common.{◌≡◌, ℕ, zero, suc, ◌+◌, ◌<◌, ◌≤◌, inl, List, [], ◌∷◌, length, Some, refl, ap, ◌∙◌, arith, ℤ, pos, negsuc, FitsSigned, w64}
use Rattle.std.proofs.lemmas.Int.{SFits-int_wrap}
use Rattle.lua_tree.specs.Source.{Text, Block}
use Rattle.lua_value.specs.declared.value.Value.{Value}
use Rattle.lua_value.specs.declared.value.Value.TheVariants as value
use Rattle.lua_value.specs.Lists.{value_at}
use Rattle.lua_model.specs.declared.refusal.Refusal.TheVariants as refusal
use Rattle.lua_model.specs.Integer as lua
use Rattle.lua_code.specs.declared.op.Op.TheVariants as op
use Rattle.lua_code.specs.Valid.{IsValid}
use Rattle.lua_meaning.specs.State.{Env, Declares, State, NumericLoopK}
use Rattle.lua_meaning.specs.Loops as meaning_loops
use Rattle.lua_meaning.specs.Loops.{turns_of}
use Rattle.lua_meaning.specs.Reduce.{leave}
use Rattle.lua_steps.specs.Machine.{Code, Machine}
use Rattle.lua_steps.specs.Moves.{written, slot, next, jump}
use Rattle.lua_steps.specs.Loops as loops
use Rattle.lua_steps.specs.Loops.{counted, turn}
use Rattle.lua_steps.specs.Exec.{perform, line}
use Rattle.lua_steps.specs.Run.{run}
use Rattle.lua_steps.specs.Scope.{Scope, past}
use Rattle.lua_steps.specs.Stand.{At, AtLine, Leads, IsDeclares, IsNumeric}
use Rattle.lua_steps.specs.Serves.{IsBlock}
use Rattle.lua_follow.specs.Spot.{Spot, NumericLoopS, contexts}
use Rattle.lua_follow.specs.Takes.{Ends, Exits, Turns}
use Rattle.lua_follow.specs.Memory.{view}
use Rattle.lua_follow.specs.Kept.{Counted}
use Rattle.lua_follow.proofs.Lists.{length_written, written_other}
use Rattle.lua_follow.proofs.Branches.{put_at}
use Rattle.lua_follow.proofs.Comes.{acts, Left, refused_left}
use Rattle.lua_follow.proofs.Firm.{shifted}
use Rattle.lua_follow.proofs.Frames.{fits_at}
use Rattle.lua_follow.proofs.RowsDeclares.{declares_near}
use Rattle.lua_follow.proofs.RowsOperator.{line_is}
use Rattle.lua_follow.proofs.Runs.{runs_op, runs_more, way}
use Rattle.lua_follow.proofs.Scenes.{Scene, run_stands}
use Rattle.lua_follow.proofs.TicksPaid.{ticked_comes}
use Rattle.lua_follow.proofs.Prefix.{row_before}
use Rattle.lua_follow.proofs.Loops.{scene_at, scene_outside, block_row}
use Rattle.lua_follow.proofs.LoopsCount.{turns_up, turns_down, counted_less, counted_back}
use Rattle.lua_follow.proofs.LoopsTurn.{none_above, outside_now, inner_now, below_now, turn_scene, four_values}
use Rattle.lua_follow.proofs.Sim.{Outcome, Row, Sim, standing}

module _ (code : Code) (valid : IsValid code) (ks : List Spot) (x : Text) (body rest : Block) (env : Env) (sc : Scope) where
  abbrev After : ℕ → ℕ → Type 0
  After f y = IsBlock code f sc rest 0 y (Exits code f ks) (Ends code f ks)

  -- the body of the loop that begins at p
  abbrev Body : ℕ → ℕ → ℕ → Type 0
  Body f pay p =
      IsDeclares code f (past 3 sc) (x ∷ []) (p + 1) (λ inner j. IsBlock code f inner body pay j (λ z. Leads code f z (After f)) (λ end z.
      Leads code f z (λ l. At code f l (op.ForLoop (suc pay) sc.free (p + 1)) × Leads code f (l + 1) (After f))))

  abbrev line_of : Machine → ℕ → ℤ → ℤ → List Value
  line_of m n at step = written m.row (m.top.base + sc.free) (counted n ∷ value.Int at ∷ value.Int step ∷ value.Int at ∷ [])

  -- a turn with this value, after which n are to come
  turn_sim : (m : Machine) (s : State) (n : ℕ) (at step : ℤ) (pay p l i : ℕ) → (h : Scene code m s ks sc env) → Counted n → m.top.base + sc.free + 4 ≤ length m.row → Body m.top.function pay p
      → Sim code (record (shifted m (p + 1) m.top.lists (line_of m n at step)) { left = l }) (record s { focus = Declares (x ∷ []) (value.Int at ∷ []) body env; ks = NumericLoopK n at step x body rest env ∷ contexts ks; left = i }) pay
  turn_sim m s n at step pay p l i h count fit is =
      let row = line_of m n at step in
      let inside = NumericLoopS n at step x body rest env sc pay p ∷ ks in
      let long = length_written (counted n ∷ value.Int at ∷ value.Int step ∷ value.Int at ∷ []) m.row (m.top.base + sc.free) in
      let same = λ (q : ℕ) (lt : q < m.top.base + sc.free). written_other (counted n ∷ value.Int at ∷ value.Int step ∷ value.Int at ∷ []) m.row (m.top.base + sc.free) q (inl lt) in
      let four = four_values m.row (m.top.base + sc.free) (counted n) (value.Int at) (value.Int step) (value.Int at) fit in
      let one : m.top.base + (sc.free + 1) ≡ m.top.base + sc.free + 1 = omega arith in
      let two : m.top.base + (sc.free + 2) ≡ m.top.base + sc.free + 2 = omega arith in
      let three : m.top.base + (sc.free + 3) ≡ m.top.base + sc.free + 3 = omega arith in
      let none = none_above code m s ks sc env row long same h in (
        suc (length (x ∷ [])),
        declares_near code valid inside body pay (x ∷ []) (record (shifted m (p + 1) m.top.lists row) { left = l }) (record s { left = i }) (value.Int at ∷ []) (past 3 sc) env
            (turn_scene code m s ks sc env row long same h inside (p + 1) l i refl refl h.round (
              inner_now code m s ks sc env row long same h,
              h.round,
              count,
              (none sc.free (omega arith), four.0),
              (none (sc.free + 1) (omega arith), ap (value_at row) one ∙ four.1),
              (none (sc.free + 2) (omega arith), ap (value_at row) two ∙ four.2),
              is,
              outside_now code m s ks sc env row long same h,
            )
            (below_now code m s ks sc env row long same h) refl)
            is (ap (λ v. v ∷ []) (ap (value_at row) three ∙ four.3)),
      )

  -- ---- the beginning
  module _ (m : Machine) (s : State) (line : ℕ) (h : Scene code m s ks sc env) (left : s.left ≡ m.left) (pay z : ℕ) (is : AtLine code m.top.function m.top.at (op.ForPrep (suc pay) sc.free z) line) (bodies : Body m.top.function pay m.top.at)
      (leads : Leads code m.top.function z (After m.top.function)) where
    abbrev leaves : Left code m s
    leaves = record { homes = h.homes; cells = h.memory.cells; closures = h.memory.closures; beside = h.beside }

    first_outcome : (t : ℕ) (a step : ℤ) → ((n : ℕ) → t ≡ suc n → Counted n) → run 1 code m ≡ loops.first_turn t a step (suc pay) sc.free z m
        → Outcome code (Sim code) m (meaning_loops.numeric_turn t a step x body rest env s (contexts ks))
    first_outcome zero a step count runs =
        let w = way code m.top.function z _ leads in
        inl (
          1 + w.n,
          put_at w.at m,
          0,
          runs_more code 1 w.n m (put_at z m) _ runs (w.runs m refl),
          omega (arith, left),
          standing code _ _ 0 ks refl (run_stands code (put_at w.at m) s ks sc env rest 0 (scene_at code m s ks sc env w.at m.left s.left h) w.holds),
        )
    first_outcome (suc n) a step count runs =
        let fit = fits_at code (view m.top) m.row h.room m.top.at (op.ForPrep (suc pay) sc.free z) valid is.0 in
        let low = h.room.slots in
        ticked_comes code (Sim code) m m (shifted m (m.top.at + 1) m.top.lists (line_of m n a step)) s (Declares (x ∷ []) (value.Int a ∷ []) body env) (NumericLoopK n a step x body rest env ∷ contexts ks) pay 1
        (λ t. next (turn n a step sc.free t)) s.left runs left h.beside.heap refl (λ l. (0, _, refl, refl))
        (λ l i. turn_sim m s n a step pay m.top.at l i h (count n refl) (omega (arith, fit.0, low)) bodies)

    by_step : (a b c : ℤ) → FitsSigned w64 a → FitsSigned w64 b → run 1 code m ≡ loops.numeric_by a b c line (suc pay) sc.free z m
        → Outcome code (Sim code) m (meaning_loops.numeric_by a b c x body line rest env s (contexts ks))
    by_step a b (pos zero) na nb runs = refused_left code (Sim code) m m s (Some line) refusal.ForStep (contexts ks) left leaves 1 runs
    by_step a b (pos (suc c)) na nb runs = first_outcome (turns_of a b (pos (suc c))) a (pos (suc c)) (λ n e. turns_up n c a b na nb e) runs
    by_step a b (negsuc c) na nb runs = first_outcome (turns_of a b (negsuc c)) a (negsuc c) (λ n e. turns_down n c a b na nb e) runs

    by_values : (u v w : Value) → run 1 code m ≡ loops.numeric_from u v w line (suc pay) sc.free z m
        → Outcome code (Sim code) m (meaning_loops.numeric_from u v w x body line rest env s (contexts ks))
    by_values (value.Int a) (value.Int b) (value.Int c) runs = by_step (lua.wrap a) (lua.wrap b) (lua.wrap c) (SFits-int_wrap w64 a) (SFits-int_wrap w64 b) runs
    by_values u v w runs = refused_left code (Sim code) m m s (Some line) refusal.ForValues (contexts ks) left leaves 1 runs

  pub begin_outcome : (m : Machine) (s : State) (line : ℕ) (u v w : Value) → Scene code m s ks sc env → s.left ≡ m.left → IsNumeric code m.top.function sc x line m.top.at (Turns code m.top.function body (After m.top.function)) (After m.top.function)
      → slot m sc.free ≡ u → slot m (sc.free + 1) ≡ v → slot m (sc.free + 2) ≡ w
      → Outcome code (Sim code) m (meaning_loops.numeric_from u v w x body line rest env s (contexts ks))
  begin_outcome m s line u v w h left (pay, z, is, bodies, leads) eu ev ew =
      by_values m s line h left pay z is bodies leads u v w
      (runs_op code m (op.ForPrep (suc pay) sc.free z) _ is.0
      (ap (λ l. loops.numeric_from (slot m sc.free) (slot m (sc.free + 1)) (slot m (sc.free + 2)) l (suc pay) sc.free z m) (line_is code m line is.1)
      ∙ ap (λ a. loops.numeric_from a (slot m (sc.free + 1)) (slot m (sc.free + 2)) line (suc pay) sc.free z m) eu
      ∙ ap (λ b. loops.numeric_from u b (slot m (sc.free + 2)) line (suc pay) sc.free z m) ev
      ∙ ap (λ c. loops.numeric_from u v c line (suc pay) sc.free z m) ew))

  -- ---- the end of a turn
  next_row : (m : Machine) (s : State) (n : ℕ) (at step : ℤ) (pay p : ℕ) → Scene code m s ks sc env → Counted n → At code m.top.function m.top.at (op.ForLoop (suc pay) sc.free (p + 1)) → Body m.top.function pay p
      → Leads code m.top.function (m.top.at + 1) (After m.top.function) → perform code (op.ForLoop (suc pay) sc.free (p + 1)) m ≡ loops.next_turn n at step (suc pay) sc.free (p + 1) m
      → Row code (Sim code) m s 0 (meaning_loops.numeric_turn n (lua.add at step) step x body rest env s (contexts ks))
  next_row m s zero at step pay p h count is bodies leads does =
      block_row code m s ks sc env rest 1 (m.top.at + 1) 0 _ h (runs_op code m (op.ForLoop (suc pay) sc.free (p + 1)) _ is does) leads refl refl
  next_row m s (suc n) at step pay p h count is bodies leads does =
      let fit = fits_at code (view m.top) m.row h.room m.top.at (op.ForLoop (suc pay) sc.free (p + 1)) valid is in
      let low = h.room.slots in
      let more = lua.add at step in
      acts code (Sim code) m s _ (λ left.
      ticked_comes code (Sim code) m m (shifted m (p + 1) m.top.lists (line_of m n more step)) s (Declares (x ∷ []) (value.Int more ∷ []) body env) (NumericLoopK n more step x body rest env ∷ contexts ks) pay 1
      (λ t. jump (p + 1) (turn n more step sc.free t)) s.left
      (runs_op code m (op.ForLoop (suc pay) sc.free (p + 1)) _ is does) left h.beside.heap refl (λ l. (0, _, refl, refl))
      (λ l i. turn_sim m s n more step pay p l i h (counted_less n count) (omega (arith, fit.0, low)) bodies))

  pub numeric_ends : (m : Machine) (s : State) (n : ℕ) (at step : ℤ) (pay p : ℕ) (low : Scope) (end : Env) → Scene code m s (NumericLoopS n at step x body rest env sc pay p ∷ ks) low end
      → Ends code m.top.function (NumericLoopS n at step x body rest env sc pay p ∷ ks) low m.top.at → Row code (Sim code) m s 0 (leave (contexts (NumericLoopS n at step x body rest env sc pay p ∷ ks)) end s)
  numeric_ends m s n at step pay p low end h leads =
      let w = way code m.top.function m.top.at _ leads in
      let to = put_at w.at m in
      let g = scene_outside code m s (NumericLoopS n at step x body rest env sc pay p ∷ ks) ks low sc end env h h.kept.0 h.kept.1 h.kept.7 h.below refl (let up = h.inner.slots_out in omega (arith, up)) in
      row_before code (Sim code) m to s 0 w.n _ (w.runs m refl) refl refl
      (next_row to s n at step pay p (scene_at code m s ks sc env w.at m.left s.left g) h.kept.2 w.holds.0 h.kept.6 w.holds.1
      (ap (λ a. loops.numeric_next a (slot m (sc.free + 1)) (slot m (sc.free + 2)) (suc pay) sc.free (p + 1) to) h.kept.3.1
      ∙ ap (λ b. loops.numeric_next (counted n) b (slot m (sc.free + 2)) (suc pay) sc.free (p + 1) to) h.kept.4.1
      ∙ ap (λ c. loops.numeric_next (counted n) (value.Int at) c (suc pay) sc.free (p + 1) to) h.kept.5.1
      ∙ ap (λ i. loops.next_turn i at step (suc pay) sc.free (p + 1) to) (counted_back n h.kept.2)))
