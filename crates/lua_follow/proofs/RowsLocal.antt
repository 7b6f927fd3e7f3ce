-- A list has come for locals, for variables, or for nothing.
use Rattle.std.proofs.Common.{◌≡◌, ℕ, suc, ◌+◌, ◌<◌, inl, inr, List, [], ◌∷◌, length, Some, refl, sym, ap, ◌∙◌, subst, arith, true, false}
use Rattle.std.specs.Prelude.{Bool, slice_set}
use Rattle.lua_tree.specs.Source.{Text, Block}
use Rattle.lua_value.specs.declared.value.Value.{Value}
use Rattle.lua_value.specs.Lists.{value_at, adjusted}
use Rattle.lua_code.specs.declared.op.Op.TheVariants as op
use Rattle.lua_code.specs.Valid.{IsValid}
use Rattle.lua_meaning.specs.State as meaning
use Rattle.lua_meaning.specs.State.{Env, Focus, Lists, Run, Declares, Stores, State, Step, Next, Context}
use Rattle.lua_meaning.specs.Moves.{location_of}
use Rattle.lua_meaning.specs.Statements.{stores_at, pending}
use Rattle.lua_meaning.specs.Reduce.{reduce}
use Rattle.lua_steps.specs.declared.scope.Place.TheVariants.{InSlot}
use Rattle.lua_steps.specs.Machine.{Code, Machine, On}
use Rattle.lua_steps.specs.Moves.{written, values_from, on_list, next, with_slots, with_lists}
use Rattle.lua_steps.specs.Run.{run}
use Rattle.lua_steps.specs.Scope.{Scope, place_of}
use Rattle.lua_steps.specs.Stand.{Into, Anywhere, Decided, Shown, Reg, Imm, Not, Holds, Fails, OfReg, IsPut, WhereOne, from_slots, from_items}
use Rattle.lua_steps.specs.Serves.{IsBlock}
use Rattle.lua_follow.specs.Spot.{Form, Exactly, Filled, OnList, Alone, Spot, LocalS, DropS, AssignS, contexts, lists_of}
use Rattle.lua_follow.specs.Takes.{Ends, Exits}
use Rattle.lua_follow.specs.Memory.{view, Memory}
use Rattle.lua_follow.specs.Kept.{Shows}
use Rattle.lua_follow.specs.Stands.{Stands, Lies}
use Rattle.lua_follow.proofs.Lists.{length_set, length_written, written_same, written_other, length_adjusted}
use Rattle.lua_follow.proofs.Frames.{fits_at}
use Rattle.lua_follow.proofs.Places.{found, rows_store, cells_slot}
use Rattle.lua_follow.proofs.Firm.{shifted}
use Rattle.lua_follow.proofs.Scenes.{Scene, run_stands}
use Rattle.lua_follow.proofs.RowsDeclares.{declares_near}
use Rattle.lua_follow.proofs.RowsStores.{put, scene_shift, unflat}
use Rattle.lua_follow.proofs.RowsWrites.{slots_match, items_match, slots_near, items_near}
use Rattle.lua_follow.proofs.Runs.{runs_op}
use Rattle.lua_follow.proofs.Sim.{Near, Row, Sim, quiet, near, standing}

-- ---- locals
module _ (code : Code) (valid : IsValid code) (m : Machine) (s : State) (ks : List Spot) (xs : List Text) (rest : Block) (env : Env) (sc : Scope) (vs : List Value) where
  abbrev Local-state : Bool → State
  Local-state listed = record s { focus = Lists vs; ks = contexts (LocalS xs rest env sc listed ∷ ks) }

  abbrev Local-here : Bool → Type 0
  Local-here listed = Stands code m (Local-state listed) (LocalS xs rest env sc listed ∷ ks) 0

  abbrev Local-row : Bool → Type 0
  Local-row listed = Row code (Sim code) m (Local-state listed) 0 (reduce (Local-state listed))

  abbrev Local-came : (listed : Bool) → Local-here listed → Type 0
  Local-came listed h =
      Lies code m.top m.row (λ end but. Memory code h.homes h.owners m.row m.cells m.closures s.store s.closures (m.top.base + end) (m.top.base + but)) (LocalS xs rest env sc listed ∷ ks) vs

  local_slots : (h : Local-here false) → Local-came false h → Local-row false
  local_slots h (inl c) = absurd c.3
  local_slots h (inr (inl c)) = absurd c.1
  local_slots h (inr (inr c)) =
      let scene : Scene code m s ks sc env =
      record { homes = h.homes; owners = h.owners; memory = c.2; inner = h.kept.0; round = h.kept.1; kept = h.kept.2; below = h.below; room = h.room; lists = c.1.1; beside = h.beside } in
      quiet code (Sim code) m m (Local-state false) (record s { focus = Declares xs vs rest env; ks = contexts ks }) 0 0 _ refl refl (λ lt. refl) refl refl
      (suc (length xs), declares_near code valid ks rest 0 xs m s vs sc env scene c.0 c.1.0)

  local_list : (h : Local-here true) → Local-came true h → Local-row true
  local_list h (inl c) = absurd c.3
  local_list h (inr (inl c)) = absurd c.1
  local_list h (inr (inr c)) =
      let n = length xs in
      let ws = adjusted n vs in
      let line = written m.row (m.top.base + sc.free) ws in
      let fit = fits_at code (view m.top) m.row h.room m.top.at (op.Spread sc.free n) valid c.0.0 in
      let low = h.room.slots in
      let count : length ws ≡ n = length_adjusted n vs in
      let to = shifted m (m.top.at + 1) (lists_of ks) line in
      let scene : Scene code (with_lists (lists_of ks) m) s ks sc env =
      record { homes = h.homes; owners = h.owners; memory = c.2; inner = h.kept.0; round = h.kept.1; kept = h.kept.2; below = h.below; room = h.room; lists = refl; beside = h.beside } in
      quiet code (Sim code) m to (Local-state true) (record s { focus = Declares xs vs rest env; ks = contexts ks }) 0 1 _
      (runs_op code m (op.Spread sc.free n) _ c.0.0 (ap (λ ls. on_list ls (λ us more. next (with_slots sc.free (adjusted n us) (with_lists more m)))) c.1)) refl (λ lt. refl) refl refl (
        suc (length xs),
        declares_near code valid ks rest 0 xs to s vs sc env
            (scene_shift code (with_lists (lists_of ks) m) s ks sc env (m.top.at + 1) (lists_of ks) line (length_written ws m.row (m.top.base + sc.free)) (λ p lt. written_other ws m.row (m.top.base + sc.free) p (inl lt)) refl scene)
            c.0.1 (ap (λ i. values_from line (m.top.base + sc.free) i) (sym count) ∙ written_same ws m.row (m.top.base + sc.free) (omega (arith, fit.0, low, count))),
      )

  pub local_row : (listed : Bool) → Local-here listed → Local-row listed
  local_row false h = local_slots h h.here.1
  local_row true h = local_list h h.here.1

-- ---- a statement that is a call or an expression
module _ (code : Code) (m : Machine) (s : State) (ks : List Spot) (rest : Block) (env : Env) (sc : Scope) (vs : List Value) where
  abbrev Drop-state : Bool → State
  Drop-state alone = record s { focus = Lists vs; ks = contexts (DropS rest env sc alone ∷ ks) }

  abbrev Drop-here : Bool → Type 0
  Drop-here alone = Stands code m (Drop-state alone) (DropS rest env sc alone ∷ ks) 0

  abbrev Drop-row : Bool → Type 0
  Drop-row alone = Row code (Sim code) m (Drop-state alone) 0 (reduce (Drop-state alone))

  on_run : (alone : Bool) → Scene code m s ks sc env → IsBlock code m.top.function sc rest 0 m.top.at (Exits code m.top.function ks) (Ends code m.top.function ks) → Drop-row alone
  on_run alone h c =
      quiet code (Sim code) m m (Drop-state alone) (record s { focus = Run rest env; ks = contexts ks }) 0 0 _ refl refl (λ lt. refl) refl refl
      (standing code m _ 0 ks refl (run_stands code m s ks sc env rest 0 h c))

  abbrev Drop-came : (alone : Bool) → Drop-here alone → Type 0
  Drop-came alone h =
      Lies code m.top m.row (λ end but. Memory code h.homes h.owners m.row m.cells m.closures s.store s.closures (m.top.base + end) (m.top.base + but)) (DropS rest env sc alone ∷ ks) vs

  drop_slots : (h : Drop-here false) → Drop-came false h → Drop-row false
  drop_slots h (inl c) = absurd c.3
  drop_slots h (inr (inl c)) = absurd c.1
  drop_slots h (inr (inr c)) =
      on_run false (record { homes = h.homes; owners = h.owners; memory = c.2; inner = h.kept.0; round = h.kept.1; kept = h.kept.2; below = h.below; room = h.room; lists = c.1.1; beside = h.beside }) c.0

  drop_alone : (h : Drop-here true) → Drop-came true h → Drop-row true
  drop_alone h (inl c) =
      on_run true (record { homes = h.homes; owners = h.owners; memory = c.9; inner = h.kept.0; round = h.kept.1; kept = h.kept.2; below = h.below; room = h.room; lists = c.8; beside = h.beside }) c.3
  drop_alone h (inr (inl c)) = absurd c.1
  drop_alone h (inr (inr c)) = absurd c.0

  pub drop_row : (alone : Bool) → Drop-here alone → Drop-row alone
  drop_row false h = drop_slots h h.here.1
  drop_row true h = drop_alone h h.here.1

-- ---- assignment
module _ (code : Code) (valid : IsValid code) (m : Machine) (s : State) (ks : List Spot) (rest : Block) (env : Env) (sc : Scope) (vs : List Value) where
  abbrev Assign-state : List Text → Form → State
  Assign-state xs form = record s { focus = Lists vs; ks = contexts (AssignS xs rest env sc form ∷ ks) }

  abbrev Assign-here : List Text → Form → Type 0
  Assign-here xs form = Stands code m (Assign-state xs form) (AssignS xs rest env sc form ∷ ks) 0

  abbrev Assign-row : List Text → Form → Type 0
  Assign-row xs form = Row code (Sim code) m (Assign-state xs form) 0 (reduce (Assign-state xs form))

  abbrev Assign-came : (xs : List Text) (form : Form) → Assign-here xs form → Type 0
  Assign-came xs form h =
      Lies code m.top m.row (λ end but. Memory code h.homes h.owners m.row m.cells m.closures s.store s.closures (m.top.base + end) (m.top.base + but)) (AssignS xs rest env sc form ∷ ks) vs

  abbrev Storing : List meaning.Write → State
  Storing todo = record s { focus = Stores todo rest env; ks = contexts ks }

  -- the writes are worked on
  on_stores : (xs : List Text) (form : Form) (i n : ℕ) (to : Machine) → run n code m ≡ On to → to.left ≡ m.left → to.aside ≡ m.aside → Near code i to (Storing (pending xs vs [])) 0 → Assign-row xs form
  on_stores xs form i n to runs left same h =
      quiet code (Sim code) m to (Assign-state xs form) (Storing (pending xs vs [])) 0 n _ runs left (λ lt. ap (λ a. a.heap) same) refl refl (i, h)

  -- the only variable has its value, and so has the machine
  stored_near : (x : Text) (v : Value) (n : ℕ) (to : Machine) (l : ℕ) → run n code m ≡ On to → to.left ≡ m.left → to.aside ≡ m.aside → location_of env.locals x ≡ Some l
      → Scene code to (record s { store = slice_set s.store l v }) ks sc env → IsBlock code to.top.function sc rest 0 to.top.at (Exits code to.top.function ks) (Ends code to.top.function ks)
      → Near code 2 m (Storing (record { name = x; value = v } ∷ [])) 0
  stored_near x v n to l runs left same is scene c =
      inr (quiet code (Near code 1) m to (Storing (record { name = x; value = v } ∷ [])) (record s { focus = Stores [] rest env; ks = contexts ks; store = slice_set s.store l v }) 0 n _ runs left (λ lt. ap (λ a. a.heap) same)
      (ap (λ o. stores_at o v [] rest env (Storing (record { name = x; value = v } ∷ [])) (contexts ks)) is) refl
      (inr (quiet code (Near code 0) to to (record s { focus = Stores [] rest env; ks = contexts ks; store = slice_set s.store l v }) (record s { focus = Run rest env; ks = contexts ks; store = slice_set s.store l v }) 0 0 _ refl refl (λ lt. refl) refl refl
      (near code 0 to _ 0 ks refl (run_stands code to (record s { store = slice_set s.store l v }) ks sc env rest 0 scene c)))))

  one_pending : (x : Text) (v : Value) → vs ≡ v ∷ [] → pending (x ∷ []) vs [] ≡ record { name = x; value = v } ∷ []
  one_pending x v e = ap (λ us. pending (x ∷ []) us []) e

  direct : (xs : List Text) (q d : ℕ) (h : Assign-here xs (Alone (Into q) d)) → WhereOne xs (λ x. place_of sc.names x ≡ Some (InSlot q)) → Assign-came xs (Alone (Into q) d) h → Assign-row xs (Alone (Into q) d)
  direct [] q d h one c = absurd one
  direct (x ∷ y ∷ xs) q d h one c = absurd one
  direct (x ∷ []) q d h one (inr (inl c)) = absurd c.1
  direct (x ∷ []) q d h one (inr (inr c)) = absurd c.0
  direct (x ∷ []) q d h one (inl c) =
      let f = found h.homes h.owners (view m.top) sc.free sc.cells sc.names env.locals x (InSlot q) h.kept.0.sees.names one in
      let stands : value_at m.row (m.top.base + q) ≡ c.0 = subst (λ p. Shows (view m.top) m.row p c.0) c.5 c.4 in
      let lt : m.top.base + q < m.top.base + sc.free = (let b = f.has.0 in omega (arith, b)) in
      let scene : Scene code m (record s { store = slice_set s.store f.location c.0 }) ks sc env =
      record {
        homes = h.homes;
        owners = h.owners;
        memory = record {
          homed = c.9.homed ∙ sym (length_set s.store f.location c.0);
          rows = rows_store h.homes h.owners m.row m.row s.store (m.top.base + sc.free) (m.top.base + q) (m.top.base + q) f.location (m.top.base + sc.free) c.0 c.9.homed lt f.has.1 (λ p ne. (ne, refl)) stands c.9.rows;
          cells = cells_slot h.homes m.cells s.store f.location (m.top.base + q) c.0 (c.9.rows.home (m.top.base + q) f.location lt f.has.1) c.9.cells;
          closures = c.9.closures;
        };
        inner = h.kept.0;
        round = h.kept.1;
        kept = h.kept.3;
        below = h.below;
        room = h.room;
        lists = c.8;
        beside = h.beside;
      } in
      on_stores (x ∷ []) (Alone (Into q) d) 2 0 m refl refl refl
      (subst (λ todo. Near code 2 m (Storing todo) 0) (sym (one_pending x c.0 c.2)) (stored_near x c.0 0 m f.location refl refl refl f.is scene c.3))

  moved : (xs : List Text) (d : ℕ) (h : Assign-here xs (Alone Anywhere d)) → Assign-came xs (Alone Anywhere d) h → Assign-row xs (Alone Anywhere d)
  moved xs d h (inr (inl c)) = absurd c.1
  moved xs d h (inr (inr c)) = absurd c.0
  moved [] d h (inl c) = absurd c.3
  moved (x ∷ y ∷ xs) d h (inl c) = absurd c.3
  moved (x ∷ []) d h (inl c) = by_shown c.1 c.3 c.4
    where
      scene : Scene code (with_lists (lists_of ks) m) s ks sc env
      scene = record { homes = h.homes; owners = h.owners; memory = c.9; inner = h.kept.0; round = h.kept.1; kept = h.kept.3; below = h.below; room = h.room; lists = refl; beside = h.beside }

      by_shown : (p : Shown)
          → OfReg p (λ r. IsPut code m.top.function m.top.at r (place_of sc.names x) × IsBlock code m.top.function sc rest 0 (m.top.at + 1) (Exits code m.top.function ks) (Ends code m.top.function ks))
          → Shows (view m.top) m.row p c.0 → Assign-row (x ∷ []) (Alone Anywhere d)
      by_shown (Reg r) is shows =
          let p = put code valid m s ks sc env scene x r c.0 shows is.0 in
          let to = record (shifted m (m.top.at + 1) m.top.lists p.row) { cells = p.cells } in
          on_stores (x ∷ []) (Alone Anywhere d) 2 0 m refl refl refl
          (subst (λ todo. Near code 2 m (Storing todo) 0) (sym (one_pending x c.0 c.2))
          (stored_near x c.0 1 to p.location p.runs refl refl p.is (unflat code to (record s { store = slice_set s.store p.location c.0 }) ks sc env c.8 p.scene) is.1))
      by_shown (Imm n) is shows = absurd is
      by_shown (Not r) is shows = absurd is
      by_shown (Holds pay) is shows = absurd is
      by_shown Fails is shows = absurd is

  slots : (xs : List Text) (r n : ℕ) (h : Assign-here xs (Filled r n)) → Assign-came xs (Filled r n) h → Assign-row xs (Filled r n)
  slots xs r n h (inl c) = absurd c.3
  slots xs r n h (inr (inl c)) = absurd c.1
  slots xs r n h (inr (inr c)) =
      let scene : Scene code m s ks sc env =
      record { homes = h.homes; owners = h.owners; memory = c.2; inner = h.kept.0; round = h.kept.1; kept = h.kept.3; below = h.below; room = h.room; lists = c.1.1; beside = h.beside } in
      let e = h.kept.2 in
      on_stores xs (Filled r n) (suc (length (pending xs vs []))) 0 m refl refl refl
      (slots_near code valid ks sc env rest (from_slots xs sc.free []) (pending xs vs []) m s scene
      (slots_match m sc.free sc.free xs vs [] [] (omega arith)
      (ap (λ i. values_from m.row (m.top.base + i) (length xs)) (sym e.0) ∙ ap (λ i. values_from m.row (m.top.base + r) i) (sym e.1) ∙ c.1.0 ∙ ap (λ i. adjusted i vs) e.1) tt) c.0)

  listed : (xs : List Text) (d : ℕ) (h : Assign-here xs (OnList d)) → Assign-came xs (OnList d) h → Assign-row xs (OnList d)
  listed xs d h (inl c) = absurd c.3
  listed xs d h (inr (inl c)) = absurd c.1
  listed xs d h (inr (inr c)) =
      let scene : Scene code (with_lists (lists_of ks) m) s ks sc env =
      record { homes = h.homes; owners = h.owners; memory = c.2; inner = h.kept.0; round = h.kept.1; kept = h.kept.3; below = h.below; room = h.room; lists = refl; beside = h.beside } in
      on_stores xs (OnList d) (suc (length (pending xs vs []))) 0 m refl refl refl
      (items_near code valid ks sc env rest vs (from_items xs 0 []) (pending xs vs []) m s scene c.1 (items_match vs 0 xs vs [] [] (λ j. ap (value_at vs) (none j)) tt) c.0)
    where
      none : (j : ℕ) → j ≡ 0 + j
      none j = omega arith

  pub assign_row : (xs : List Text) (form : Form) → Assign-here xs form → Assign-row xs form
  assign_row xs (Alone (Into q) d) h = direct xs q d h h.kept.2.1 h.here.1
  assign_row xs (Alone Anywhere d) h = moved xs d h h.here.1
  assign_row xs (Alone Decided d) h = absurd h.kept.2
  assign_row xs (Exactly r) h = absurd h.kept.2
  assign_row xs (Filled r n) h = slots xs r n h h.here.1
  assign_row xs (OnList d) h = listed xs d h h.here.1
