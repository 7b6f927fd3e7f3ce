-- Results of a body, and the beginning and the end of a thread.
use Rattle.std.proofs.Common.{◌≡◌, ℕ, ◌+◌, ◌≤◌, inl, inr, List, [], ◌∷◌, ◌++◌, length, None, refl, sym, ap, ◌∙◌, subst, arith}
use Rattle.lua_value.specs.declared.value.Value.{Value}
use Rattle.lua_code.specs.declared.op.Op.{Op}
use Rattle.lua_code.specs.declared.op.Op.TheVariants as op
use Rattle.lua_code.specs.Valid.{IsValid}
use Rattle.lua_meaning.specs.State.{Lists, State, Step}
use Rattle.lua_meaning.specs.Calls as meaning_calls
use Rattle.lua_meaning.specs.Moves as meaning_moves
use Rattle.lua_meaning.specs.Reduce.{reduce}
use Rattle.lua_steps.specs.Machine as machine
use Rattle.lua_steps.specs.Machine.{Code, Machine, Frame, OnTop, Went, On, Off}
use Rattle.lua_steps.specs.Moves.{values_from, on_list, with_lists, next, finish}
use Rattle.lua_steps.specs.Calls.{hand, waiting}
use Rattle.lua_steps.specs.Exec.{perform}
use Rattle.lua_steps.specs.Scope.{Scope}
use Rattle.lua_steps.specs.Stand.{At, Into, Anywhere, Decided, Shown, Reg, Imm, Not, Holds, Fails, OfReg}
use Rattle.lua_follow.specs.Spot.{Form, Exactly, Filled, OnList, Alone, Spot, ReturnS, BeginS, contexts, lists_of}
use Rattle.lua_follow.specs.Memory.{view, Memory}
use Rattle.lua_follow.specs.Kept.{Shows}
use Rattle.lua_follow.specs.Stands.{Lies, Stands, Below}
use Rattle.lua_follow.proofs.Receives.{Handed, handed}
use Rattle.lua_follow.proofs.Firm.{shifted}
use Rattle.lua_follow.proofs.Comes.{acts}
use Rattle.lua_follow.proofs.RowsArgs.{calls_comes}
use Rattle.lua_follow.proofs.Runs.{runs_op, runs_more}
use Rattle.lua_follow.proofs.Sim.{Row, Sim, Outcome, quiet, standing}

le_refl : (n : ℕ) → n ≤ n
le_refl n = omega arith

-- an operation hands the values to the frame that waits
pub hand_row : (code : Code) (m m1 : Machine) (s : State) (ks : List Spot) (vs : List Value) (o : Op) (r : Step) → At code m.top.function m.top.at o → perform code o m ≡ hand vs m.below m1 → m1.left ≡ m.left → m1.aside ≡ m.aside
    → r ≡ meaning_calls.hand (contexts ks) vs s → Handed code m1 s vs ks m.below → Row code (Sim code) m s 0 r
hand_row code m m1 s ks vs o r at does left same is h =
    quiet code (Sim code) m h.to s (record s { focus = Lists vs; ks = contexts h.spots }) 0 1 r (runs_op code m o _ at (does ∙ h.does)) (h.left ∙ left) (λ lt. ap (λ a. a.heap) (h.aside ∙ same)) (is ∙ h.is) refl
    (standing code h.to _ 0 h.spots refl h.stands)

-- ---- results
module _ (code : Code) (m : Machine) (s : State) (sc : Scope) (ks : List Spot) (vs : List Value) where
  abbrev from : Form → State
  from form = record s { focus = Lists vs; ks = contexts (ReturnS sc form ∷ ks) }

  abbrev Here-at : Form → Type 0
  Here-at form = Stands code m (from form) (ReturnS sc form ∷ ks) 0

  abbrev Row-at : Form → Type 0
  Row-at form = Row code (Sim code) m (from form) 0 (reduce (from form))

  abbrev Came-at : (form : Form) → Here-at form → Type 0
  Came-at form h =
      Lies code m.top m.row (λ end but. Memory code h.homes h.owners m.row m.cells m.closures s.store s.closures (m.top.base + end) (m.top.base + but)) (ReturnS sc form ∷ ks) vs

  by_hand : (form : Form) (h : Here-at form)
      → Memory code h.homes h.owners m.row m.cells m.closures s.store s.closures (m.top.base + sc.free) (m.top.base + sc.free) → (ls : List (List Value)) → Handed code (with_lists ls m) (from form) vs ks m.below
  by_hand form h memory ls =
      handed code (with_lists ls m) (from form) h.homes h.owners vs (m.top.base + sc.free) (m.top.base + sc.free) memory (le_refl (m.top.base + sc.free)) h.beside m.top.base ks m.below (omega arith) h.kept.2 h.below

  alone_return : (d : ℕ) (h : Here-at (Alone Anywhere d)) → Came-at (Alone Anywhere d) h → Row-at (Alone Anywhere d)
  alone_return d h (inl c) = by_shown c.1 c.3 c.4
    where
      by_shown : (p : Shown) → OfReg p (λ r. At code m.top.function m.top.at (op.Return r 1)) → Shows (view m.top) m.row p c.0 → Row-at (Alone Anywhere d)
      by_shown (Reg r) is shows =
          hand_row code m (with_lists m.top.lists m) (from (Alone Anywhere d)) ks vs (op.Return r 1) _ is (ap (λ us. hand us m.below m) (ap (λ w. w ∷ []) shows ∙ sym c.2)) refl refl refl
          (by_hand (Alone Anywhere d) h c.9 m.top.lists)
      by_shown (Imm n) is shows = absurd is
      by_shown (Not r) is shows = absurd is
      by_shown (Holds pay) is shows = absurd is
      by_shown Fails is shows = absurd is
  alone_return d h (inr (inl c)) = absurd c.1
  alone_return d h (inr (inr c)) = absurd c.0

  exact_return : (r : ℕ) (h : Here-at (Exactly r)) → Came-at (Exactly r) h → Row-at (Exactly r)
  exact_return r h (inl c) = absurd c.3
  exact_return r h (inr (inl c)) =
      let count : c.1.0 ≡ length vs = (let a = c.1.1 in let b = c.2.0 in let e = h.kept.3 in omega (arith, a, b, e)) in
      hand_row code m (with_lists m.top.lists m) (from (Exactly r)) ks vs (op.Return sc.free c.1.0) _ c.1.2
      (ap (λ us. hand us m.below m) (ap (λ n. values_from m.row (m.top.base + sc.free) n) count ∙ ap (λ i. values_from m.row (m.top.base + i) (length vs)) (sym h.kept.3) ∙ c.2.1)) refl refl refl
      (by_hand (Exactly r) h c.4 m.top.lists)
  exact_return r h (inr (inr c)) = absurd c.0

  list_return : (d : ℕ) (h : Here-at (OnList d)) → Came-at (OnList d) h → Row-at (OnList d)
  list_return d h (inl c) = absurd c.3
  list_return d h (inr (inl c)) = absurd c.1
  list_return d h (inr (inr c)) =
      hand_row code m (with_lists (lists_of ks) m) (from (OnList d)) ks vs op.ReturnList _ c.0 (ap (λ ls. on_list ls (λ us more. hand us m.below (with_lists more m))) c.1) refl refl refl
      (by_hand (OnList d) h c.2 (lists_of ks))

  pub return_row : (form : Form) → Here-at form → Row-at form
  return_row (Alone Anywhere d) h = alone_return d h h.here.1
  return_row (Alone (Into r) d) h = absurd h.kept.3
  return_row (Alone Decided d) h = absurd h.kept.3
  return_row (Exactly r) h = exact_return r h h.here.1
  return_row (Filled r n) h = absurd h.kept.3
  return_row (OnList d) h = list_return d h h.here.1

-- ---- the end of a thread
pub bottom_row : (code : Code) (m : Machine) (s : State) (vs : List Value) → Stands code m (record s { focus = Lists vs; ks = [] }) [] 0
    → Row code (Sim code) m (record s { focus = Lists vs; ks = [] }) 0 (reduce (record s { focus = Lists vs; ks = [] }))
bottom_row code m s vs h = by_coming h.here.1
  where
    S : State
    S = record s { focus = Lists vs; ks = [] }

    no_frames : (frs : List Frame) → Below code h.homes h.owners m.row m.top.base [] frs → frs ≡ []
    no_frames [] b = refl
    no_frames (fr ∷ frs) b = absurd b

    ends : At code m.top.function m.top.at op.ReturnList → m.top.lists ≡ vs ∷ [] → s.left ≡ m.left → Memory code h.homes h.owners m.row m.cells m.closures s.store s.closures (m.top.base + 0) (m.top.base + 0)
        → Outcome code (Sim code) m (meaning_moves.finish s.aside.resumers vs S)
    ends at lists left memory =
        subst (Outcome code (Sim code) m) (ap (λ rs. meaning_moves.finish rs vs S) (sym h.beside.lone))
        (record {
          n = 1;
          stop = machine.Return vs;
          to = with_lists [] m;
          runs = runs_op code m op.ReturnList _ at
              (ap (λ ls. on_list ls (λ us more. hand us m.below (with_lists more m))) lists ∙ ap (λ frs. hand vs frs (with_lists [] m)) (no_frames m.below h.below)
              ∙ ap (λ rs. finish rs vs (with_lists [] m)) h.beside.alone);
          same = refl;
          rests = record { homes = h.homes; cells = memory.cells; closures = memory.closures; beside = h.beside; left = left };
        })

    by_coming : Lies code m.top m.row (λ end but. Memory code h.homes h.owners m.row m.cells m.closures s.store s.closures (m.top.base + end) (m.top.base + but)) [] vs → Row code (Sim code) m S 0 (reduce S)
    by_coming (inl c) = absurd c.3
    by_coming (inr (inl c)) = absurd c.1
    by_coming (inr (inr c)) = acts code (Sim code) m S _ (λ left. ends c.0 c.1 left c.2)

-- ---- a thread begins
module _ (code : Code) (valid : IsValid code) (m : Machine) (s : State) (f : Value) (vs : List Value) where
  abbrev Begun : List Spot → State
  Begun ks = record s { focus = Lists vs; ks = contexts (BeginS f ∷ ks) }

  begins_with : (h : Stands code m (Begun []) (BeginS f ∷ []) 0)
      → Lies code m.top m.row (λ end but. Memory code h.homes h.owners m.row m.cells m.closures s.store s.closures (m.top.base + end) (m.top.base + but)) (BeginS f ∷ []) vs
      → Row code (Sim code) m (Begun []) 0 (reduce (Begun []))
  begins_with h (inl c) = absurd c.3
  begins_with h (inr (inl c)) = absurd c.1
  begins_with h (inr (inr c)) =
      let mid = shifted m (m.top.at + 1) ((f ∷ vs) ∷ []) m.row in
      let there : m.top.at + 2 ≡ m.top.at + 1 + 1 = omega arith in
      acts code (Sim code) m (Begun []) _ (λ left.
      calls_comes code valid m (with_lists [] mid) (Begun []) h.homes h.owners [] (waiting OnTop (with_lists [] mid).top) m.top.base vs None (omega arith) c.2
      (record { takes = subst (λ a. At code m.top.function a op.ReturnList) there c.0.2; awaits = tt; first = refl; kept = tt; lists = refl; room = tt }) h.below h.beside left f 2
      (runs_more code 1 1 m mid _ (runs_op code m op.Append _ c.0.0 (ap (λ ls. on_list ls (λ us l. on_list l (λ ws more. next (with_lists ((ws ++ us) ∷ more) m)))) c.1))
      (runs_op code mid op.Start _ c.0.1 refl)))

  begin_in : (ks : List Spot) → ks ≡ [] → Stands code m (Begun ks) (BeginS f ∷ ks) 0 → Row code (Sim code) m (Begun ks) 0 (reduce (Begun ks))
  begin_in [] e h = begins_with h h.here.1
  begin_in (k ∷ ks) e h = absurd (cc)

  pub begin_row : (ks : List Spot) → Stands code m (Begun ks) (BeginS f ∷ ks) 0 → Row code (Sim code) m (Begun ks) 0 (reduce (Begun ks))
  begin_row ks h = begin_in ks h.kept h
