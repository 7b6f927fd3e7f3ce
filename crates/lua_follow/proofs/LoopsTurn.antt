-- A turn of a `for` begins: its slots hold no local, and what waits outside is kept (manual, section 3.3.5).
use Rattle.std.proofs.Common.{◌≡◌, ℕ, ◌+◌, ◌<◌, ◌≤◌, List, [], ◌∷◌, length, None, refl, ap, ◌∙◌, arith}
use Rattle.lua_value.specs.declared.value.Value.{Value}
use Rattle.lua_value.specs.Lists.{value_at}
use Rattle.lua_meaning.specs.State.{Env, State}
use Rattle.lua_steps.specs.Machine.{Code, Machine}
use Rattle.lua_steps.specs.Moves.{written, values_from}
use Rattle.lua_steps.specs.Scope.{Scope, past}
use Rattle.lua_follow.specs.Spot.{Spot, free, lists_of}
use Rattle.lua_follow.specs.Memory.{Owners, owned_below, view}
use Rattle.lua_follow.specs.Kept.{Kept, Inner, Round, cells_in}
use Rattle.lua_follow.specs.Stands.{Below}
use Rattle.lua_follow.proofs.Lists.{written_same}
use Rattle.lua_follow.proofs.Keep.{Agrees, kept_map, sees_map}
use Rattle.lua_follow.proofs.Places.{owner_below, owner_above, rows_row, rows_but, rows_higher}
use Rattle.lua_follow.proofs.Frames.{room_longer, below_map}
use Rattle.lua_follow.proofs.Firm.{shifted}
use Rattle.lua_follow.proofs.Scenes.{Scene, all_wider, head_is, tail_is}
use Rattle.lua_follow.proofs.Loops.{le_refl}

-- ---- a turn
module _ (code : Code) (m : Machine) (s : State) (ks : List Spot) (sc : Scope) (env : Env) (row : List Value) (long : length row ≡ length m.row) (same : (p : ℕ) → p < m.top.base + sc.free → value_at row p ≡ value_at m.row p)
    (h : Scene code m s ks sc env) where
  abbrev end : ℕ
  end = m.top.base + sc.free

  -- the loop's slots are no local's
  abbrev pub cleared : Owners
  cleared = owned_below end h.owners

  pub none_above : (r : ℕ) → sc.free ≤ r → cleared (m.top.base + r) ≡ None
  none_above r le = owner_above end (m.top.base + r) h.owners (omega arith)

  clear_agrees : (N C : ℕ) → N ≤ sc.free → Agrees h.homes h.homes h.owners cleared (view m.top) m.top.cells m.row row N C
  clear_agrees N C le =
      record {
        homes_stay = λ l x e. e;
        owners_stay = λ i lt. owner_below end (m.top.base + i) h.owners (omega arith);
        row_stays = λ i lt. same (m.top.base + i) (omega arith);
        cells_stay = λ c lt. refl;
      }

  pub outside_now : Kept code h.homes cleared (view m.top) row ks
  outside_now =
      kept_map code h.homes h.homes h.owners cleared (view m.top) m.top.cells m.row row (free ks) (cells_in ks) (clear_agrees (free ks) (cells_in ks) h.inner.slots_out) ks (le_refl (free ks)) (le_refl (cells_in ks)) h.kept

  pub inner_now : Inner h.homes cleared (view m.top) sc env (free ks) (cells_in ks)
  inner_now =
      record {
        sees = sees_map code h.homes h.homes h.owners cleared (view m.top) m.top.cells m.row row sc.free sc.cells (clear_agrees sc.free sc.cells (le_refl sc.free)) sc env (le_refl sc.free) (le_refl sc.cells) h.inner.sees;
        slots_out = h.inner.slots_out;
        cells_out = h.inner.cells_out;
      }

  pub below_now : Below code h.homes cleared row m.top.base ks m.below
  below_now =
      below_map code h.homes h.homes h.owners cleared m.row row m.top.base ks m.below
      (record { homes_stay = λ l x e. e; owners_stay = λ p lt. owner_below end p h.owners (omega arith); row_stays = λ p lt. same p (omega arith); longer = omega (arith, long) }) h.below

  -- the scene of the body
  pub turn_scene : (inside : List Spot) (a l i : ℕ) → free inside ≡ sc.free + 3 → cells_in inside ≡ sc.cells → Round inside → Kept code h.homes cleared (view m.top) row inside → Below code h.homes cleared row m.top.base inside m.below
      → lists_of ks ≡ lists_of inside → Scene code (record (shifted m a m.top.lists row) { left = l }) (record s { left = i }) inside (past 3 sc) env
  turn_scene inside a l i slots cells round kept below lists =
      record {
        homes = h.homes;
        owners = cleared;
        memory = record {
          homed = h.memory.homed;
          rows = rows_higher h.homes h.owners row s.store end (m.top.base + (sc.free + 3)) (m.top.base + (sc.free + 3))
              (rows_but h.homes h.owners row s.store end end (m.top.base + (sc.free + 3)) (le_refl end) (rows_row h.homes h.owners m.row row s.store end end same h.memory.rows));
          cells = h.memory.cells;
          closures = h.memory.closures;
        };
        inner = record {
          sees = record {
            names = all_wider h.homes cleared (view m.top) sc.free sc.cells (sc.free + 3) sc.cells sc.names env.locals (omega arith) (le_refl sc.cells) inner_now.sees.names;
            dots = h.inner.sees.dots;
          };
          slots_out = omega (arith, slots);
          cells_out = omega (arith, cells);
        };
        round = round;
        kept = kept;
        below = below;
        room = room_longer code (view m.top) m.row row (omega (arith, long)) h.room;
        lists = h.lists ∙ lists;
        beside = h.beside;
      }

-- ---- four values in slots
pub four_values : (row : List Value) (i : ℕ) (a b c d : Value) → i + 4 ≤ length row
    → (value_at (written row i (a ∷ b ∷ c ∷ d ∷ [])) i ≡ a) × (value_at (written row i (a ∷ b ∷ c ∷ d ∷ [])) (i + 1) ≡ b)
    × (value_at (written row i (a ∷ b ∷ c ∷ d ∷ [])) (i + 2) ≡ c) × (value_at (written row i (a ∷ b ∷ c ∷ d ∷ [])) (i + 3) ≡ d)
four_values row i a b c d le =
    let line : List Value = written row i (a ∷ b ∷ c ∷ d ∷ []) in
    let all : values_from line i 4 ≡ a ∷ b ∷ c ∷ d ∷ [] = written_same (a ∷ b ∷ c ∷ d ∷ []) row i le in
    let two : i + 2 ≡ i + 1 + 1 = omega arith in
    let three : i + 3 ≡ i + 1 + 1 + 1 = omega arith in
    let after_one = tail_is _ _ _ _ all in
    let after_two = tail_is _ _ _ _ after_one in
    let after_three = tail_is _ _ _ _ after_two in
    (head_is _ _ _ _ all, head_is _ _ _ _ after_one, ap (value_at line) two ∙ head_is _ _ _ _ after_two, ap (value_at line) three ∙ head_is _ _ _ _ after_three)
