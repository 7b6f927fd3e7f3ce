-- Assignments.
use Rattle.std.proofs.Common.{◌≡◌, ℕ, ◌+◌, ◌<◌, ◌≤◌, List, length, Option, Some, None, refl, sym, ap, ◌∙◌, arith}
use Rattle.std.specs.Prelude.{slice_get, slice_set}
use Rattle.lua_tree.specs.Source.{Text}
use Rattle.lua_value.specs.declared.value.Value.{Value}
use Rattle.lua_value.specs.Lists.{value_at}
use Rattle.lua_code.specs.declared.op.Op.{Op}
use Rattle.lua_code.specs.declared.op.Op.TheVariants as op
use Rattle.lua_code.specs.Valid.{IsValid}
use Rattle.lua_meaning.specs.State.{Env, State}
use Rattle.lua_meaning.specs.Moves.{location_of}
use Rattle.lua_steps.specs.declared.scope.Place.{Place}
use Rattle.lua_steps.specs.declared.scope.Place.TheVariants.{InSlot, InCell, InUp, Hidden}
use Rattle.lua_steps.specs.Machine.{Code, Machine, On}
use Rattle.lua_steps.specs.Moves.{next, with_lists, gives, slot}
use Rattle.lua_steps.specs.Exec.{perform, cell_of}
use Rattle.lua_steps.specs.Run.{run}
use Rattle.lua_steps.specs.Scope.{Scope, place_of}
use Rattle.lua_steps.specs.Stand.{At, IsPut}
use Rattle.lua_follow.specs.Spot.{AtCell, Spot, free, lists_of}
use Rattle.lua_follow.specs.Memory.{view}
use Rattle.lua_follow.specs.Kept.{cells_in}
use Rattle.lua_follow.proofs.Lists.{length_set, value_set, value_other}
use Rattle.lua_follow.proofs.Keep.{kept_map}
use Rattle.lua_follow.proofs.Places.{found, Found, rows_store, rows_but, rows_row, rows_cell, cells_store, cells_slot}
use Rattle.lua_follow.proofs.Frames.{below_map, fits_at, slot_in, room_longer}
use Rattle.lua_follow.proofs.Aims.{kept_round}
use Rattle.lua_follow.proofs.Firm.{shifted}
use Rattle.lua_follow.proofs.Scenes.{Scene}
use Rattle.lua_follow.proofs.Runs.{runs_op}

pub le_refl : (n : ℕ) → n ≤ n
le_refl n = omega arith

-- ---- slots that no local has change
abbrev pub scene_shift : (code : Code) (m : Machine) (s : State) (ks : List Spot) (sc : Scope) (env : Env) (a : ℕ) (ls : List (List Value)) (row : List Value) → length row ≡ length m.row
    → ((p : ℕ) → p < m.top.base + sc.free → value_at row p ≡ value_at m.row p) → ls ≡ lists_of ks → Scene code m s ks sc env → Scene code (shifted m a ls row) s ks sc env
scene_shift code m s ks sc env a ls row long same lists h =
    record {
      homes = h.homes;
      owners = h.owners;
      memory = record {
        homed = h.memory.homed;
        rows = rows_row h.homes h.owners m.row row s.store (m.top.base + sc.free) (m.top.base + sc.free) same h.memory.rows;
        cells = h.memory.cells;
        closures = h.memory.closures;
      };
      inner = h.inner;
      round = h.round;
      kept = kept_map code h.homes h.homes h.owners h.owners (view m.top) m.top.cells m.row row (free ks) (cells_in ks)
          (record { homes_stay = λ l x e. e; owners_stay = λ i lt. refl; row_stays = λ i lt. same (m.top.base + i) (let up = h.inner.slots_out in omega arith); cells_stay = λ c lt. refl })
          ks (omega arith) (omega arith) h.kept;
      below = below_map code h.homes h.homes h.owners h.owners m.row row m.top.base ks m.below
          (record { homes_stay = λ l x e. e; owners_stay = λ p lt. refl; row_stays = λ p lt. same p (omega arith); longer = omega (arith, long) }) h.below;
      room = room_longer code (view m.top) m.row row (omega (arith, long)) h.room;
      lists = lists;
      beside = h.beside;
    }

-- with no list under construction, or with its own
abbrev pub flat : (code : Code) (m : Machine) (s : State) (ks : List Spot) (sc : Scope) (env : Env) → Scene code m s ks sc env → Scene code (with_lists (lists_of ks) m) s ks sc env
flat code m s ks sc env h =
    record { homes = h.homes; owners = h.owners; memory = h.memory; inner = h.inner; round = h.round; kept = h.kept; below = h.below; room = h.room; lists = refl; beside = h.beside }

abbrev pub unflat : (code : Code) (m : Machine) (s : State) (ks : List Spot) (sc : Scope) (env : Env) → m.top.lists ≡ lists_of ks → Scene code (with_lists (lists_of ks) m) s ks sc env → Scene code m s ks sc env
unflat code m s ks sc env e h =
    record { homes = h.homes; owners = h.owners; memory = h.memory; inner = h.inner; round = h.round; kept = h.kept; below = h.below; room = h.room; lists = e; beside = h.beside }

-- ---- one variable is assigned
pub record Put (code : Code) (m : Machine) (s : State) (ks : List Spot) (sc : Scope) (env : Env) (x : Text) (v : Value) : Type 0 where
  pub location : ℕ
  pub is : location_of env.locals x ≡ Some location
  pub row : List Value
  pub cells : List Value
  pub runs : run 1 code m ≡ On (record (shifted m (m.top.at + 1) m.top.lists row) { cells = cells })
  -- but for the lists
  pub scene : Scene code (record (shifted m (m.top.at + 1) (lists_of ks) row) { cells = cells }) (record s { store = slice_set s.store location v }) ks sc env
  pub same : (p : ℕ) → m.top.base + sc.free ≤ p → value_at row p ≡ value_at m.row p

module _ (code : Code) (valid : IsValid code) (m : Machine) (s : State) (ks : List Spot) (sc : Scope) (env : Env) (h : Scene code (with_lists (lists_of ks) m) s ks sc env) (x : Text) (r : ℕ) (v : Value) (has : value_at m.row (m.top.base + r) ≡ v) where
  some_none : (l : ℕ) → Some l ≡ None → ⊥
  some_none l e = cc

  -- the local of a slot
  pub scene_store : (q : ℕ) → Found h.homes h.owners (view m.top) sc.free sc.cells env.locals x (InSlot q) → (a : ℕ) (row : List Value) → length row ≡ length m.row → ((p : ℕ) → (p ≡ m.top.base + q → ⊥) → value_at row p ≡ value_at m.row p)
      → value_at row (m.top.base + q) ≡ v → (l : ℕ) → h.owners (m.top.base + q) ≡ Some l → Scene code (shifted m a (lists_of ks) row) (record s { store = slice_set s.store l v }) ks sc env
  scene_store q f a row long other is l owner =
      let lt : m.top.base + q < m.top.base + sc.free = (let b = f.has.0 in omega (arith, b)) in
      let homed = h.memory.homed in
      let stored = length_set s.store l v in
      record {
        homes = h.homes;
        owners = h.owners;
        memory = record {
          homed = homed ∙ sym stored;
          rows = rows_store h.homes h.owners m.row row s.store (m.top.base + sc.free) (m.top.base + q) (m.top.base + q) l (m.top.base + sc.free) v homed lt owner (λ p ne. (ne, other p ne)) is
              (rows_but h.homes h.owners m.row s.store (m.top.base + sc.free) (m.top.base + sc.free) (m.top.base + q) (le_refl (m.top.base + sc.free)) h.memory.rows);
          cells = cells_slot h.homes m.cells s.store l (m.top.base + q) v (h.memory.rows.home (m.top.base + q) l lt owner) h.memory.cells;
          closures = h.memory.closures;
        };
        inner = h.inner;
        round = h.round;
        kept = kept_round code h.homes h.owners (view m.top) m.row row (λ i none. other (m.top.base + i) (λ e. some_none l (sym owner ∙ ap h.owners (sym e) ∙ none))) ks h.round h.kept;
        below = below_map code h.homes h.homes h.owners h.owners m.row row m.top.base ks m.below
            (record { homes_stay = λ i y e. e; owners_stay = λ p less. refl; row_stays = λ p less. other p (λ e. omega (arith, e)); longer = omega (arith, long) }) h.below;
        room = room_longer code (view m.top) m.row row (omega (arith, long)) h.room;
        lists = refl;
        beside = h.beside;
      }

  to_slot : (q : ℕ) → Found h.homes h.owners (view m.top) sc.free sc.cells env.locals x (InSlot q) → At code m.top.function m.top.at (op.Move q r) → Put code m s ks sc env x v
  to_slot q f at =
      let row = slice_set m.row (m.top.base + q) v in
      let fit = fits_at code (view m.top) m.row h.room m.top.at (op.Move q r) valid at in
      record {
        location = f.location;
        is = f.is;
        row = row;
        cells = m.cells;
        runs = runs_op code m (op.Move q r) _ at (ap (λ w. gives q w m) has);
        scene = scene_store q f (m.top.at + 1) row (length_set m.row (m.top.base + q) v) (λ p ne. value_other m.row (m.top.base + q) p v (λ e. ne (sym e)))
            (value_set m.row (m.top.base + q) v (slot_in code (view m.top) m.row h.room q fit.0)) f.location f.has.1;
        same = λ p le. value_other m.row (m.top.base + q) p v (λ e. (let b = f.has.0 in omega (arith, b, e)));
      }

  -- the local of a cell
  to_cell : (o : Op) (c l : ℕ) → location_of env.locals x ≡ Some l → slice_get h.homes l ≡ Some (AtCell c) → At code m.top.function m.top.at o → perform code o m ≡ next (record m { cells = slice_set m.cells c (slot m r) }) → Put code m s ks sc env x v
  to_cell o c l is home at does =
      record {
        location = l;
        is = is;
        row = m.row;
        cells = slice_set m.cells c v;
        runs = runs_op code m o _ at (does ∙ ap (λ w. next (record m { cells = slice_set m.cells c w })) has);
        scene = record {
          homes = h.homes;
          owners = h.owners;
          memory = record {
            homed = h.memory.homed ∙ sym (length_set s.store l v);
            rows = rows_cell h.homes h.owners m.row s.store (m.top.base + sc.free) (m.top.base + sc.free) l c v home h.memory.rows;
            cells = cells_store h.homes m.cells s.store l c v h.memory.homed home h.memory.cells;
            closures = h.memory.closures;
          };
          inner = h.inner;
          round = h.round;
          kept = h.kept;
          below = h.below;
          room = h.room;
          lists = refl;
          beside = h.beside;
        };
        same = λ p le. refl;
      }

  put_at_place : (o : Option Place) → place_of sc.names x ≡ o → IsPut code m.top.function m.top.at r o → Put code m s ks sc env x v
  put_at_place None e c = absurd c
  put_at_place (Some Hidden) e c = absurd c
  put_at_place (Some (InSlot q)) e c = to_slot q (found h.homes h.owners (view m.top) sc.free sc.cells sc.names env.locals x (InSlot q) h.inner.sees.names e) c
  put_at_place (Some (InCell i)) e c =
      let f = found h.homes h.owners (view m.top) sc.free sc.cells sc.names env.locals x (InCell i) h.inner.sees.names e in
      to_cell (op.SetCell i r) (cell_of m.top.cells i) f.location f.is f.has.1 c refl
  put_at_place (Some (InUp u)) e c =
      let f = found h.homes h.owners (view m.top) sc.free sc.cells sc.names env.locals x (InUp u) h.inner.sees.names e in
      to_cell (op.SetUp u r) (cell_of m.top.ups u) f.location f.is f.has c refl

  pub put : IsPut code m.top.function m.top.at r (place_of sc.names x) → Put code m s ks sc env x v
  put c = put_at_place (place_of sc.names x) refl c
