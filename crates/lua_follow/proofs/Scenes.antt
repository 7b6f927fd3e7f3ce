-- Blocks: what holds between statements, and how locals come.
use Rattle.std.proofs.Common.{◌≡◌, ℕ, suc, ◌+◌, ◌<◌, ◌≤◌, List, [], ◌∷◌, ◌++◌, length, Some, refl, sym, ap, ◌∙◌, arith, length-append}
use Rattle.std.specs.Prelude.{drop, slice_get, slice_set, unwrap_or}
use Rattle.lua_tree.specs.Source.{Text, Block}
use Rattle.lua_value.specs.declared.value.Value.{Value}
use Rattle.lua_value.specs.Lists.{value_at, adjusted, first}
use Rattle.lua_code.specs.Valid.{IsValid}
use Rattle.lua_meaning.specs.State.{Env, Named, Run, State}
use Rattle.lua_meaning.specs.Moves.{bound}
use Rattle.lua_steps.specs.declared.scope.Place.{Place}
use Rattle.lua_steps.specs.declared.scope.Place.TheVariants.{InSlot, InCell, InUp, Hidden}
use Rattle.lua_steps.specs.declared.scope.Known.{Known}
use Rattle.lua_steps.specs.Machine.{Code, Machine}
use Rattle.lua_steps.specs.Scope.{Scope, in_slot, in_cell, past}
use Rattle.lua_steps.specs.Serves.{IsBlock}
use Rattle.lua_follow.specs.Spot.{AtSlot, AtCell, Spot, contexts, free, lists_of}
use Rattle.lua_follow.specs.Takes.{Ends, Exits}
use Rattle.lua_follow.specs.Memory.{Homes, Owners, owned_by, owned_below, View, view, Has, HasAll, Memory}
use Rattle.lua_follow.specs.Kept.{Kept, Inner, Round, cells_in}
use Rattle.lua_follow.specs.Stands.{Room, Below, Beside, Stands}
use Rattle.lua_follow.proofs.Lists.{get_at_end, get_before, get_set, get_other, length_set, value_at_end}
use Rattle.lua_follow.proofs.Keep.{Agrees, kept_map, sees_map}
use Rattle.lua_follow.proofs.Places.{owner_here, owner_there, owner_below, rows_new, rows_owner, rows_but, rows_higher, cells_new, cells_cell, closures_more}
use Rattle.lua_follow.proofs.Frames.{below_map}

pub record Scene (code : Code) (m : Machine) (s : State) (ks : List Spot) (sc : Scope) (env : Env) : Type 0 where
  pub homes : Homes
  pub owners : Owners
  pub memory : Memory code homes owners m.row m.cells m.closures s.store s.closures (m.top.base + sc.free) (m.top.base + sc.free)
  pub inner : Inner homes owners (view m.top) sc env (free ks) (cells_in ks)
  pub round : Round ks
  pub kept : Kept code homes owners (view m.top) m.row ks
  pub below : Below code homes owners m.row m.top.base ks m.below
  pub room : Room code (view m.top) m.row
  pub lists : m.top.lists ≡ lists_of ks
  pub beside : Beside m.aside s.aside

pub run_stands : (code : Code) (m : Machine) (s : State) (ks : List Spot) (sc : Scope) (env : Env) (b : Block) (k : ℕ) → Scene code m s ks sc env → IsBlock code m.top.function sc b k m.top.at (Exits code m.top.function ks) (Ends code m.top.function ks)
    → Stands code m (record s { focus = Run b env; ks = contexts ks }) ks k
run_stands code m s ks sc env b k h is =
    record { homes = h.homes; owners = h.owners; here = (sc, is, h.inner, h.round, h.lists, h.memory); kept = h.kept; below = h.below; room = h.room; beside = h.beside }

le_refl : (n : ℕ) → n ≤ n
le_refl n = omega arith

-- ---- more room in a scope
has_wider : (homes : Homes) (owners : Owners) (fr : View) (a b c d l : ℕ) (p : Place) → a ≤ c → b ≤ d → Has homes owners fr a b p l → Has homes owners fr c d p l
has_wider homes owners fr a b c d l (InSlot s) x y h = (omega (arith, h.0), h.1)
has_wider homes owners fr a b c d l (InCell i) x y h = (omega (arith, h.0), h.1)
has_wider homes owners fr a b c d l (InUp u) x y h = h
has_wider homes owners fr a b c d l Hidden x y h = tt

pub all_wider : (homes : Homes) (owners : Owners) (fr : View) (a b c d : ℕ) (ns : List Known) (ks : List Named) → a ≤ c → b ≤ d → HasAll homes owners fr a b ns ks → HasAll homes owners fr c d ns ks
all_wider homes owners fr a b c d [] [] x y h = tt
all_wider homes owners fr a b c d [] (k ∷ ks) x y h = absurd h
all_wider homes owners fr a b c d (n ∷ ns) [] x y h = absurd h
all_wider homes owners fr a b c d (n ∷ ns) (k ∷ ks) x y h = (h.0, has_wider homes owners fr a b c d k.location n.place x y h.1, all_wider homes owners fr a b c d ns ks x y h.2)

pub adjusted_first : (n : ℕ) (vs : List Value) → adjusted (suc n) vs ≡ first vs ∷ adjusted n (drop 1 vs)
adjusted_first n [] = refl
adjusted_first n (v ∷ vs) = refl

pub head_is : (v w : Value) (vs ws : List Value) → v ∷ vs ≡ w ∷ ws → v ≡ w
head_is v w vs ws e = cc

pub tail_is : (v w : Value) (vs ws : List Value) → v ∷ vs ≡ w ∷ ws → vs ≡ ws
tail_is v w vs ws e = cc

module _ (code : Code) (valid : IsValid code) (m : Machine) (s : State) (ks : List Spot) (sc : Scope) (env : Env) (h : Scene code m s ks sc env) (x : Text) (v : Value) where
  abbrev more : State
  more = record s { store = s.store ++ v ∷ [] }

  longer : length (s.store ++ v ∷ []) ≡ length s.store + 1
  longer = length-append s.store (v ∷ [])

  -- ---- a local in a slot, which has its value
  abbrev slot_place : ℕ
  slot_place = m.top.base + sc.free

  abbrev slot_homes : Homes
  slot_homes = h.homes ++ AtSlot slot_place ∷ []

  abbrev slot_owners : Owners
  slot_owners = owned_by slot_place (Some (length s.store)) h.owners

  at_slot : slice_get slot_homes (length s.store) ≡ Some (AtSlot slot_place)
  at_slot = ap (slice_get slot_homes) (sym h.memory.homed) ∙ get_at_end h.homes (AtSlot slot_place)

  slot_agrees : (N C : ℕ) → N ≤ sc.free → Agrees h.homes slot_homes h.owners slot_owners (view m.top) m.top.cells m.row m.row N C
  slot_agrees N C le =
      record {
        homes_stay = λ l y e. get_before h.homes (AtSlot slot_place ∷ []) l y e;
        owners_stay = λ i lt. owner_there slot_place (m.top.base + i) (Some (length s.store)) h.owners (λ e. omega (arith, e));
        row_stays = λ i lt. refl;
        cells_stay = λ c lt. refl;
      }

  pub scene_slot : value_at m.row slot_place ≡ v → Scene code m more ks (in_slot x sc) (bound x (length s.store) env)
  scene_slot is =
      let up = h.inner.slots_out in
      record {
        homes = slot_homes;
        owners = slot_owners;
        memory = record {
          homed = (let a = length-append h.homes (AtSlot slot_place ∷ []) in let b = longer in let c = h.memory.homed in omega (arith, a, b, c));
          rows = rows_owner slot_homes h.owners m.row more.store slot_place (m.top.base + (sc.free + 1)) (m.top.base + (sc.free + 1)) slot_place (length s.store) at_slot (is ∙ sym (value_at_end s.store v)) (λ q lt ne. below_it q lt ne)
              (rows_but slot_homes h.owners m.row more.store slot_place slot_place (m.top.base + (sc.free + 1)) (le_refl slot_place)
              (rows_new h.homes h.owners m.row s.store slot_place slot_place (AtSlot slot_place) v h.memory.homed h.memory.rows));
          cells = cells_new h.homes m.cells s.store slot_place v h.memory.homed h.memory.cells;
          closures = closures_more code h.homes (AtSlot slot_place) m.closures s.closures h.memory.closures;
        };
        inner = record {
          sees = record {
            names = (
              refl,
              (omega arith, owner_here slot_place (Some (length s.store)) h.owners),
              all_wider slot_homes slot_owners (view m.top) sc.free sc.cells (sc.free + 1) sc.cells sc.names env.locals (omega arith) (le_refl sc.cells)
                  ((sees_map code h.homes slot_homes h.owners slot_owners (view m.top) m.top.cells m.row m.row sc.free sc.cells (slot_agrees sc.free sc.cells (le_refl sc.free)) sc env (le_refl sc.free) (le_refl sc.cells) h.inner.sees).names),
            );
            dots = h.inner.sees.dots;
          };
          slots_out = omega (arith, up);
          cells_out = h.inner.cells_out;
        };
        round = h.round;
        kept = kept_map code h.homes slot_homes h.owners slot_owners (view m.top) m.top.cells m.row m.row (free ks) (cells_in ks) (slot_agrees (free ks) (cells_in ks) up) ks (le_refl (free ks)) (le_refl (cells_in ks)) h.kept;
        below = below_map code h.homes slot_homes h.owners slot_owners m.row m.row m.top.base ks m.below
            (record {
              homes_stay = λ l y e. get_before h.homes (AtSlot slot_place ∷ []) l y e;
              owners_stay = λ p lt. owner_there slot_place p (Some (length s.store)) h.owners (λ e. omega (arith, e));
              row_stays = λ p lt. refl;
              longer = le_refl (length m.row);
            }) h.below;
        room = h.room;
        lists = h.lists;
        beside = h.beside;
      }
    where
      below_it : (q : ℕ) → q < m.top.base + (sc.free + 1) → (q ≡ m.top.base + sc.free → ⊥) → q < m.top.base + sc.free
      below_it q lt ne = apart q (m.top.base + sc.free) (omega arith) ne
        where
          apart : (a b : ℕ) → a ≤ b → (a ≡ b → ⊥) → a < b
          apart a b le ne = grind arith

  -- ---- a local in a new cell
  abbrev cell_homes : Homes
  cell_homes = h.homes ++ AtCell (length m.cells) ∷ []

  abbrev cell_owners : Owners
  cell_owners = owned_below slot_place h.owners

  abbrev boxes : List ℕ
  boxes = slice_set m.top.cells sc.cells (length m.cells)

  abbrev pub boxed : Machine
  boxed = record m { top = record m.top { at = m.top.at + 1; cells = boxes }; cells = m.cells ++ v ∷ [] }

  cell_agrees : (N C : ℕ) → N ≤ sc.free → C ≤ sc.cells → Agrees h.homes cell_homes h.owners cell_owners (view m.top) boxes m.row m.row N C
  cell_agrees N C le lc =
      record {
        homes_stay = λ l y e. get_before h.homes (AtCell (length m.cells) ∷ []) l y e;
        owners_stay = λ i lt. owner_below slot_place (m.top.base + i) h.owners (omega arith);
        row_stays = λ i lt. refl;
        cells_stay = λ c lt. ap (λ o. unwrap_or o 0) (get_other m.top.cells sc.cells c (length m.cells) (λ e. omega (arith, e)));
      }

  pub scene_cell : sc.cells < length m.top.cells → Scene code boxed more ks (past 1 (in_cell x sc)) (bound x (length s.store) env)
  scene_cell inside =
      let up = h.inner.slots_out in
      let cells_up = h.inner.cells_out in
      record {
        homes = cell_homes;
        owners = cell_owners;
        memory = record {
          homed = (let a = length-append h.homes (AtCell (length m.cells) ∷ []) in let b = longer in let c = h.memory.homed in omega (arith, a, b, c));
          rows = rows_higher cell_homes h.owners m.row more.store slot_place (m.top.base + (sc.free + 1)) (m.top.base + (sc.free + 1))
              (rows_but cell_homes h.owners m.row more.store slot_place slot_place (m.top.base + (sc.free + 1)) (le_refl slot_place)
              (rows_new h.homes h.owners m.row s.store slot_place slot_place (AtCell (length m.cells)) v h.memory.homed h.memory.rows));
          cells = cells_cell h.homes m.cells s.store v h.memory.homed h.memory.cells;
          closures = closures_more code h.homes (AtCell (length m.cells)) m.closures s.closures h.memory.closures;
        };
        inner = record {
          sees = record {
            names = (
              refl,
              (omega arith, ap (slice_get cell_homes) (sym h.memory.homed) ∙ get_at_end h.homes (AtCell (length m.cells)) ∙ ap (λ c. Some (AtCell c)) (sym (ap (λ o. unwrap_or o 0) (get_set m.top.cells sc.cells (length m.cells) inside)))),
              all_wider cell_homes cell_owners (view boxed.top) sc.free sc.cells (sc.free + 1) (sc.cells + 1) sc.names env.locals (omega arith) (omega arith)
                  ((sees_map code h.homes cell_homes h.owners cell_owners (view m.top) boxes m.row m.row sc.free sc.cells (cell_agrees sc.free sc.cells (le_refl sc.free) (le_refl sc.cells)) sc env (le_refl sc.free) (le_refl sc.cells) h.inner.sees).names),
            );
            dots = h.inner.sees.dots;
          };
          slots_out = omega (arith, up);
          cells_out = omega (arith, cells_up);
        };
        round = h.round;
        kept = kept_map code h.homes cell_homes h.owners cell_owners (view m.top) boxes m.row m.row (free ks) (cells_in ks) (cell_agrees (free ks) (cells_in ks) up cells_up) ks (le_refl (free ks)) (le_refl (cells_in ks)) h.kept;
        below = below_map code h.homes cell_homes h.owners cell_owners m.row m.row m.top.base ks m.below
            (record {
              homes_stay = λ l y e. get_before h.homes (AtCell (length m.cells) ∷ []) l y e;
              owners_stay = λ p lt. owner_below slot_place p h.owners (omega arith);
              row_stays = λ p lt. refl;
              longer = le_refl (length m.row);
            }) h.below;
        room = record { routine = h.room.routine; is = h.room.is; slots = h.room.slots; cells = length_set m.top.cells sc.cells (length m.cells) ∙ h.room.cells };
        lists = h.lists;
        beside = h.beside;
      }

  -- the same, where no slot is taken
  kept_agrees : (N C : ℕ) → C ≤ sc.cells → Agrees h.homes cell_homes h.owners h.owners (view m.top) boxes m.row m.row N C
  kept_agrees N C lc =
      record {
        homes_stay = λ l y e. get_before h.homes (AtCell (length m.cells) ∷ []) l y e;
        owners_stay = λ i lt. refl;
        row_stays = λ i lt. refl;
        cells_stay = λ c lt. ap (λ o. unwrap_or o 0) (get_other m.top.cells sc.cells c (length m.cells) (λ e. omega (arith, e)));
      }

  pub scene_boxed : sc.cells < length m.top.cells → Scene code boxed more ks (in_cell x sc) (bound x (length s.store) env)
  scene_boxed inside =
      let up = h.inner.slots_out in
      let cells_up = h.inner.cells_out in
      record {
        homes = cell_homes;
        owners = h.owners;
        memory = record {
          homed = (let a = length-append h.homes (AtCell (length m.cells) ∷ []) in let b = longer in let c = h.memory.homed in omega (arith, a, b, c));
          rows = rows_new h.homes h.owners m.row s.store slot_place slot_place (AtCell (length m.cells)) v h.memory.homed h.memory.rows;
          cells = cells_cell h.homes m.cells s.store v h.memory.homed h.memory.cells;
          closures = closures_more code h.homes (AtCell (length m.cells)) m.closures s.closures h.memory.closures;
        };
        inner = record {
          sees = record {
            names = (
              refl,
              (omega arith, ap (slice_get cell_homes) (sym h.memory.homed) ∙ get_at_end h.homes (AtCell (length m.cells)) ∙ ap (λ c. Some (AtCell c)) (sym (ap (λ o. unwrap_or o 0) (get_set m.top.cells sc.cells (length m.cells) inside)))),
              all_wider cell_homes h.owners (view boxed.top) sc.free sc.cells sc.free (sc.cells + 1) sc.names env.locals (le_refl sc.free) (omega arith)
                  ((sees_map code h.homes cell_homes h.owners h.owners (view m.top) boxes m.row m.row sc.free sc.cells (kept_agrees sc.free sc.cells (le_refl sc.cells)) sc env (le_refl sc.free) (le_refl sc.cells) h.inner.sees).names),
            );
            dots = h.inner.sees.dots;
          };
          slots_out = up;
          cells_out = omega (arith, cells_up);
        };
        round = h.round;
        kept = kept_map code h.homes cell_homes h.owners h.owners (view m.top) boxes m.row m.row (free ks) (cells_in ks) (kept_agrees (free ks) (cells_in ks) cells_up) ks (le_refl (free ks)) (le_refl (cells_in ks)) h.kept;
        below = below_map code h.homes cell_homes h.owners h.owners m.row m.row m.top.base ks m.below
            (record {
              homes_stay = λ l y e. get_before h.homes (AtCell (length m.cells) ∷ []) l y e;
              owners_stay = λ p lt. refl;
              row_stays = λ p lt. refl;
              longer = le_refl (length m.row);
            }) h.below;
        room = record { routine = h.room.routine; is = h.room.is; slots = h.room.slots; cells = length_set m.top.cells sc.cells (length m.cells) ∙ h.room.cells };
        lists = h.lists;
        beside = h.beside;
      }
