-- Rows of the generic `for` (manual, section 3.3.5).
use Rattle.std.proofs.Common.{◌≡◌, ℕ, zero, suc, ◌+◌, ◌<◌, ◌≤◌, inl, inr, List, [], ◌∷◌, length, Some, refl, sym, ap, ◌∙◌, subst, arith}
use Rattle.std.specs.Prelude.{Bool, true, false, slice_set, drop}
use Rattle.lua_tree.specs.Source.{Text, Block}
use Rattle.lua_value.specs.declared.value.Value.{Value}
use Rattle.lua_value.specs.Same.{is_nil}
use Rattle.lua_value.specs.Lists.{value_at, adjusted, first}
use Rattle.lua_code.specs.declared.op.Op.TheVariants as op
use Rattle.lua_code.specs.Valid.{IsValid}
use Rattle.lua_meaning.specs.State.{Env, Lists, Declares, State, GenericLoopK}
use Rattle.lua_meaning.specs.Loops.{generic_call, generic_begin, generic_turn}
use Rattle.lua_meaning.specs.Reduce.{leave}
use Rattle.lua_steps.specs.Machine.{Code, Machine, InSlots, On}
use Rattle.lua_steps.specs.Moves.{values_from, written, slot, slots_from, with_lists, with_slot, with_slots, on_list, next, jump}
use Rattle.lua_steps.specs.Calls.{calls, waiting}
use Rattle.lua_steps.specs.Loops.{generic_next}
use Rattle.lua_steps.specs.Exec.{op_at, perform}
use Rattle.lua_steps.specs.Run.{run}
use Rattle.lua_steps.specs.Scope.{Scope, past}
use Rattle.lua_steps.specs.Stand.{At, Leads, IsGeneric}
use Rattle.lua_steps.specs.Serves.{IsBlock}
use Rattle.lua_follow.specs.Spot.{Spot, GenericS, TurnS, GenericLoopS, contexts, lists_of}
use Rattle.lua_follow.specs.Takes.{Ends, Exits, Turns, Iterates}
use Rattle.lua_follow.specs.Memory.{view, Memory}
use Rattle.lua_follow.specs.Stands.{Lies, Parked, Stands}
use Rattle.lua_follow.proofs.Lists.{length_set, value_set, value_other, values_same, length_written, written_same, written_other, length_adjusted}
use Rattle.lua_follow.proofs.Branches.{put_at}
use Rattle.lua_follow.proofs.Comes.{acts}
use Rattle.lua_follow.proofs.Firm.{shifted}
use Rattle.lua_follow.proofs.Frames.{fits_at}
use Rattle.lua_follow.proofs.RowsArgs.{calls_comes}
use Rattle.lua_follow.proofs.RowsDeclares.{declares_near}
use Rattle.lua_follow.proofs.RowsOperator.{line_is}
use Rattle.lua_follow.proofs.RowsStores.{scene_shift}
use Rattle.lua_follow.proofs.Runs.{runs_op, runs_more, way}
use Rattle.lua_follow.proofs.Scenes.{Scene, adjusted_first, head_is, tail_is}
use Rattle.lua_follow.proofs.TicksPaid.{ticked_comes}
use Rattle.lua_follow.proofs.Prefix.{outcome_before}
use Rattle.lua_follow.proofs.Loops.{le_refl, scene_at, scene_outside, block_row}
use Rattle.lua_follow.proofs.LoopsTurn.{none_above, outside_now, inner_now, below_now, turn_scene}
use Rattle.lua_follow.proofs.Sim.{Outcome, Row, Sim}

-- ---- values in slots
-- the first of those that came
prefix : (row : List Value) (n r i : ℕ) (vs : List Value) → n ≤ r → values_from row i r ≡ adjusted r vs → values_from row i n ≡ adjusted n vs
prefix row zero r i vs le e = refl
prefix row (suc n) zero i vs le e = absurd (omega arith)
prefix row (suc n) (suc r) i vs le e =
    let both : value_at row i ∷ values_from row (i + 1) r ≡ first vs ∷ adjusted r (drop 1 vs) = e ∙ adjusted_first r vs in
    ap (λ v. v ∷ values_from row (i + 1) n) (head_is _ _ _ _ both) ∙ ap (λ ws. first vs ∷ ws) (prefix row n r (i + 1) (drop 1 vs) (omega arith) (tail_is _ _ _ _ both)) ∙ sym (adjusted_first n vs)

first_came : (row : List Value) (r i : ℕ) (vs : List Value) → 1 ≤ r → values_from row i r ≡ adjusted r vs → value_at row i ≡ first vs
first_came row zero i vs le e = absurd (omega arith)
first_came row (suc r) i vs le e = head_is _ _ _ _ (e ∙ adjusted_first r vs)

three : (vs : List Value) → adjusted 3 vs ≡ value_at vs 0 ∷ value_at vs 1 ∷ value_at vs 2 ∷ []
three [] = refl
three (u ∷ []) = refl
three (u ∷ v ∷ []) = refl
three (u ∷ v ∷ w ∷ vs) = refl

three_came : (row : List Value) (i : ℕ) (vs : List Value) → values_from row i 3 ≡ adjusted 3 vs → (value_at row i ≡ value_at vs 0) × (value_at row (i + 1) ≡ value_at vs 1) × (value_at row (i + 1 + 1) ≡ value_at vs 2)
three_came row i vs e =
    let all : value_at row i ∷ value_at row (i + 1) ∷ value_at row (i + 1 + 1) ∷ [] ≡ value_at vs 0 ∷ value_at vs 1 ∷ value_at vs 2 ∷ [] = e ∙ three vs in
    (head_is _ _ _ _ all, head_is _ _ _ _ (tail_is _ _ _ _ all), head_is _ _ _ _ (tail_is _ _ _ _ (tail_is _ _ _ _ all)))

module _ (code : Code) (valid : IsValid code) (ks : List Spot) (xs : List Text) (body : Block) (line_at : ℕ) (rest : Block) (env : Env) (sc : Scope) where
  abbrev After : ℕ → ℕ → Type 0
  After f y = IsBlock code f sc rest 0 y (Exits code f ks) (Ends code f ks)

  -- ---- the iterator is called
  call_outcome : (m : Machine) (s : State) (f state control : Value) (r pay b : ℕ) → Scene code m s ks sc env → s.left ≡ m.left → Iterates code m.top.function sc xs body line_at (After m.top.function) m.top.at r pay b
      → slot m sc.free ≡ f → slot m (sc.free + 1) ≡ state → slot m (sc.free + 1 + 1) ≡ control
      → Outcome code (Sim code) m (generic_call f state control xs body line_at rest env s (contexts ks))
  call_outcome m s f state control r pay b h left is ef es ec =
      let ws = TurnS f state xs body line_at rest env sc r pay b m.top.at ∷ ks in
      let fr = waiting (InSlots (sc.free + 3) r) m.top in
      let cb = m.top.base + sc.free + 3 in
      let fit = fits_at code (view m.top) m.row h.room m.top.at (op.ForCall sc.free r) valid is.2.0 in
      let low = h.room.slots in
      let place : m.top.base + (sc.free + 1) + 1 ≡ m.top.base + (sc.free + 1 + 1) = omega arith in
      let args : slots_from m (sc.free + 1) 2 ≡ state ∷ control ∷ [] =
      ap (λ v. v ∷ value_at m.row (m.top.base + (sc.free + 1) + 1) ∷ []) es ∙ ap (λ v. state ∷ v ∷ []) (ap (value_at m.row) place ∙ ec) in
      let parked : Parked code h.homes h.owners m.row fr ws =
      record {
        takes = (refl, is);
        awaits = (refl, refl, omega (arith, fit.0, low), le_refl (sc.free + 3));
        first = refl;
        kept = (h.inner, h.round, ef, es, h.kept);
        lists = h.lists;
        room = h.room;
      } in
      calls_comes code valid m m s h.homes h.owners ws fr cb (state ∷ control ∷ []) (Some line_at) (omega arith) h.memory parked h.below h.beside left f 1
      (runs_op code m (op.ForCall sc.free r) _ is.2.0
      (ap (λ l. calls code (Some l) (slot m sc.free) (slots_from m (sc.free + 1) 2) cb fr m) (line_is code m line_at is.2.1)
      ∙ ap (λ g. calls code (Some line_at) g (slots_from m (sc.free + 1) 2) cb fr m) ef ∙ ap (λ us. calls code (Some line_at) f us cb fr m) args))

  -- ---- the three values have come
  begin_row : (m0 m : Machine) (s : State) (vs : List Value) (n : ℕ) → run n code m0 ≡ On m → m.left ≡ m0.left → Scene code m s ks sc env
      → IsGeneric code m.top.function sc xs line_at m.top.at (Turns code m.top.function body (After m.top.function)) (After m.top.function) → values_from m.row (m.top.base + sc.free) 3 ≡ adjusted 3 vs
      → Row code (Sim code) m0 s 0 (generic_begin vs xs body line_at rest env s (contexts ks))
  begin_row m0 m s vs n runs same h is came =
      let w = way code m.top.function m.top.at _ is in
      let c = w.holds in
      let values = three_came m.row (m.top.base + sc.free) vs came in
      let one : m.top.base + (sc.free + 1) ≡ m.top.base + sc.free + 1 = omega arith in
      let two : m.top.base + (sc.free + 1 + 1) ≡ m.top.base + sc.free + 1 + 1 = omega arith in
      acts code (Sim code) m0 s _ (λ left.
      outcome_before code (Sim code) m0 (put_at w.at m) (n + w.n) _ (runs_more code n w.n m0 m _ runs (w.runs m refl))
      (call_outcome (put_at w.at m) s (value_at vs 0) (value_at vs 1) (value_at vs 2) c.0 c.1 c.2 (scene_at code m s ks sc env w.at m.left s.left h) (left ∙ sym same) (c.3, c.4, c.5, c.6, c.7, c.8)
      values.0 (ap (value_at m.row) one ∙ values.1) (ap (value_at m.row) two ∙ values.2)))

  abbrev Begun : Machine → State → List Value → Bool → Type 0
  Begun m s vs listed = Stands code m (record s { focus = Lists vs; ks = contexts (GenericS xs body line_at rest env sc listed ∷ ks) }) (GenericS xs body line_at rest env sc listed ∷ ks) 0

  abbrev Came-at : (m : Machine) (s : State) (vs : List Value) (listed : Bool) → Begun m s vs listed → Type 0
  Came-at m s vs listed h =
      Lies code m.top m.row (λ end but. Memory code h.homes h.owners m.row m.cells m.closures s.store s.closures (m.top.base + end) (m.top.base + but)) (GenericS xs body line_at rest env sc listed ∷ ks) vs

  -- in slots
  in_slots : (m : Machine) (s : State) (vs : List Value) → (h : Begun m s vs false) → Came-at m s vs false h → Row code (Sim code) m s 0 (generic_begin vs xs body line_at rest env s (contexts ks))
  in_slots m s vs h (inl c) = absurd c.3
  in_slots m s vs h (inr (inl c)) = absurd c.1
  in_slots m s vs h (inr (inr c)) =
      begin_row m m s vs 0 refl refl
      (record { homes = h.homes; owners = h.owners; memory = c.2; inner = h.kept.0; round = h.kept.1; kept = h.kept.2; below = h.below; room = h.room; lists = c.1.1; beside = h.beside }) c.0 c.1.0

  -- in a list
  in_list : (m : Machine) (s : State) (vs : List Value) → (h : Begun m s vs true) → Came-at m s vs true h → Row code (Sim code) m s 0 (generic_begin vs xs body line_at rest env s (contexts ks))
  in_list m s vs h (inl c) = absurd c.3
  in_list m s vs h (inr (inl c)) = absurd c.1
  in_list m s vs h (inr (inr c)) =
      let ws = adjusted 3 vs in
      let line : List Value = written m.row (m.top.base + sc.free) ws in
      let many : length ws ≡ 3 = length_adjusted 3 vs in
      let fit = fits_at code (view m.top) m.row h.room m.top.at (op.Spread sc.free 3) valid c.0.0 in
      let low = h.room.slots in
      let popped : Scene code (with_lists (lists_of ks) m) s ks sc env =
      record { homes = h.homes; owners = h.owners; memory = c.2; inner = h.kept.0; round = h.kept.1; kept = h.kept.2; below = h.below; room = h.room; lists = refl; beside = h.beside } in
      begin_row m (shifted m (m.top.at + 1) (lists_of ks) line) s vs 1
      (runs_op code m (op.Spread sc.free 3) _ c.0.0 (ap (λ ls. on_list ls (λ us more. next (with_slots sc.free (adjusted 3 us) (with_lists more m)))) c.1)) refl
      (scene_shift code (with_lists (lists_of ks) m) s ks sc env (m.top.at + 1) (lists_of ks) line (length_written ws m.row (m.top.base + sc.free)) (λ p lt. written_other ws m.row (m.top.base + sc.free) p (inl lt)) refl popped) c.0.1
      (ap (λ i. values_from line (m.top.base + sc.free) i) (sym many) ∙ written_same ws m.row (m.top.base + sc.free) (omega (arith, fit.0, low, many)))

  pub generic_lists : (m : Machine) (s : State) (vs : List Value) (listed : Bool) → Begun m s vs listed → Row code (Sim code) m s 0 (generic_begin vs xs body line_at rest env s (contexts ks))
  generic_lists m s vs true h = in_list m s vs h h.here.1
  generic_lists m s vs false h = in_slots m s vs h h.here.1

  -- ---- the iterator's results have come
  module _ (m : Machine) (s : State) (f state : Value) (vs : List Value) (r pay b l : ℕ) (h : Scene code m s ks sc env) (at : m.top.at ≡ l + 1) (is : Iterates code m.top.function sc xs body line_at (After m.top.function) l r pay b)
      (ef : slot m sc.free ≡ f) (es : slot m (sc.free + 1) ≡ state) (came : values_from m.row (m.top.base + (sc.free + 3)) r ≡ adjusted r vs) where
    each : At code m.top.function m.top.at (op.ForEach (suc pay) sc.free b)
    each = ap (λ i. op_at code m.top.function i) at ∙ is.3

    abbrev line_of : List Value
    line_of = slice_set m.row (m.top.base + (sc.free + 2)) (first vs)

    a_turn : (i j : ℕ) → Sim code (record (shifted m b m.top.lists line_of) { left = i }) (record s { focus = Declares xs vs body env; ks = GenericLoopK f state (first vs) xs body line_at rest env ∷ contexts ks; left = j }) pay
    a_turn i j =
        let inside = GenericLoopS f state (first vs) xs body line_at rest env sc r pay b l ∷ ks in
        let fit = fits_at code (view m.top) m.row h.room m.top.at (op.ForEach (suc pay) sc.free b) valid each in
        let low = h.room.slots in
        let long = length_set m.row (m.top.base + (sc.free + 2)) (first vs) in
        let other = λ (p : ℕ) (ne : m.top.base + (sc.free + 2) ≡ p → ⊥). value_other m.row (m.top.base + (sc.free + 2)) p (first vs) ne in
        let same = λ (p : ℕ) (lt : p < m.top.base + sc.free). other p (λ e. omega (arith, e)) in
        let none = none_above code m s ks sc env line_of long same h in (
          suc (length xs),
          declares_near code valid inside body pay xs (record (shifted m b m.top.lists line_of) { left = i }) (record s { left = j }) vs (past 3 sc) env
              (turn_scene code m s ks sc env line_of long same h inside b i j refl refl h.round (
                inner_now code m s ks sc env line_of long same h,
                h.round,
                (none sc.free (omega arith), other (m.top.base + sc.free) (λ e. omega (arith, e)) ∙ ef),
                (none (sc.free + 1) (omega arith), other (m.top.base + (sc.free + 1)) (λ e. omega (arith, e)) ∙ es),
                (none (sc.free + 2) (omega arith), value_set m.row (m.top.base + (sc.free + 2)) (first vs) (omega (arith, fit.0, low))),
                is,
                outside_now code m s ks sc env line_of long same h,
              )
              (below_now code m s ks sc env line_of long same h) refl)
              is.4
              (values_same m.row line_of (length xs) (m.top.base + (sc.free + 3)) (λ p le lt. other p (λ e. omega (arith, e, le))) ∙ prefix m.row (length xs) r (m.top.base + (sc.free + 3)) vs is.0 came),
        )

    does : perform code (op.ForEach (suc pay) sc.free b) m ≡ generic_next (is_nil (first vs)) (first vs) (suc pay) sc.free b m
    does = ap (λ v. generic_next (is_nil v) v (suc pay) sc.free b m) (first_came m.row r (m.top.base + (sc.free + 3)) vs is.1 came)

    by_nil : (t : Bool) → run 1 code m ≡ generic_next t (first vs) (suc pay) sc.free b m → Row code (Sim code) m s 0 (generic_turn t vs f state xs body line_at rest env s (contexts ks))
    by_nil true runs =
        let place : l + 2 ≡ m.top.at + 1 = omega (arith, at) in
        block_row code m s ks sc env rest 1 (m.top.at + 1) 0 _ h runs (subst (λ i. Leads code m.top.function i (After m.top.function)) place is.5) refl refl
    by_nil false runs =
        acts code (Sim code) m s _ (λ left.
        ticked_comes code (Sim code) m m (shifted m b m.top.lists line_of) s (Declares xs vs body env) (GenericLoopK f state (first vs) xs body line_at rest env ∷ contexts ks) pay 1
        (λ t. jump b (with_slot (sc.free + 2) (first vs) t)) s.left runs left h.beside.heap refl (λ i. (0, _, refl, refl)) (λ i j. a_turn i j))

    turn_row : Row code (Sim code) m s 0 (generic_turn (is_nil (first vs)) vs f state xs body line_at rest env s (contexts ks))
    turn_row = by_nil (is_nil (first vs)) (runs_op code m (op.ForEach (suc pay) sc.free b) _ each does)

  abbrev Turned : Machine → State → Value → Value → List Value → ℕ → ℕ → ℕ → ℕ → Type 0
  Turned m s f state vs r pay b l =
      Stands code m (record s { focus = Lists vs; ks = contexts (TurnS f state xs body line_at rest env sc r pay b l ∷ ks) }) (TurnS f state xs body line_at rest env sc r pay b l ∷ ks) 0

  pub turn_lists : (m : Machine) (s : State) (f state : Value) (vs : List Value) (r pay b l : ℕ) → Turned m s f state vs r pay b l
      → Row code (Sim code) m s 0 (generic_turn (is_nil (first vs)) vs f state xs body line_at rest env s (contexts ks))
  turn_lists m s f state vs r pay b l h = by_coming h.here.1
    where
      by_coming : Lies code m.top m.row (λ end but. Memory code h.homes h.owners m.row m.cells m.closures s.store s.closures (m.top.base + end) (m.top.base + but)) (TurnS f state xs body line_at rest env sc r pay b l ∷ ks) vs
          → Row code (Sim code) m s 0 (generic_turn (is_nil (first vs)) vs f state xs body line_at rest env s (contexts ks))
      by_coming (inl c) = absurd c.3
      by_coming (inr (inl c)) = absurd c.1
      by_coming (inr (inr c)) =
          turn_row m s f state vs r pay b l
          (record { homes = h.homes; owners = h.owners; memory = c.2; inner = h.kept.0; round = h.kept.1; kept = h.kept.4; below = h.below; room = h.room; lists = c.1.1; beside = h.beside })
          c.0.0 c.0.1 h.kept.2 h.kept.3 c.1.0

  -- ---- the end of a turn
  pub generic_ends : (m : Machine) (s : State) (f state control : Value) (r pay b l : ℕ) (low : Scope) (end : Env) → Scene code m s (GenericLoopS f state control xs body line_at rest env sc r pay b l ∷ ks) low end
      → Ends code m.top.function (GenericLoopS f state control xs body line_at rest env sc r pay b l ∷ ks) low m.top.at
      → Row code (Sim code) m s 0 (leave (contexts (GenericLoopS f state control xs body line_at rest env sc r pay b l ∷ ks)) end s)
  generic_ends m s f state control r pay b l low end h leads =
      let w = way code m.top.function m.top.at _ leads in
      let two : m.top.base + (sc.free + 1 + 1) ≡ m.top.base + (sc.free + 2) = omega arith in
      let g = scene_outside code m s (GenericLoopS f state control xs body line_at rest env sc r pay b l ∷ ks) ks low sc end env h h.kept.0 h.kept.1 h.kept.6 h.below refl (let up = h.inner.slots_out in omega (arith, up)) in
      acts code (Sim code) m s _ (λ left.
      outcome_before code (Sim code) m (put_at l m) w.n _ (w.runs m refl ∙ ap (λ a. On (put_at a m)) w.holds)
      (call_outcome (put_at l m) s f state control r pay b (scene_at code m s ks sc env l m.left s.left g) left h.kept.5 h.kept.2.1 h.kept.3.1 (ap (value_at m.row) two ∙ h.kept.4.1)))
