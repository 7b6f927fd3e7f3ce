-- Functions as values, and local functions.
use Rattle.std.proofs.Common.{◌≡◌, ℕ, ◌+◌, ◌<◌, ◌⊎◌, inl, inr, List, [], ◌∷◌, ◌++◌, length, Option, Some, None, refl, sym, ap, ◌∙◌, subst, arith, true}
use Rattle.std.specs.Prelude.{if◌then◌else◌, slice_set, unwrap_or}
use Rattle.std.specs.Prelude.{◌&&◌, nat_eq}
use Rattle.std.proofs.lemmas.Bool.{eq-eqb}
use Rattle.lua_tree.specs.Source as source
use Rattle.lua_tree.specs.Source.{Text, Block, Body}
use Rattle.lua_value.specs.declared.value.Value.{Value}
use Rattle.lua_value.specs.declared.value.Value.TheVariants as value
use Rattle.lua_model.specs.Heap as model
use Rattle.lua_model.specs.Texts.{same_bytes}
use Rattle.lua_code.specs.declared.op.Op.TheVariants as op
use Rattle.lua_code.specs.Valid.{IsValid}
use Rattle.lua_meaning.specs.State.{Env, Eval, Gives, Run, Stores, State, Next, Context, StoreK}
use Rattle.lua_meaning.specs.Moves.{bound, location_of}
use Rattle.lua_meaning.specs.Values as meaning_values
use Rattle.lua_meaning.specs.Statements.{stores_at, local_function}
use Rattle.lua_meaning.specs.Reduce.{reduce}
use Rattle.lua_steps.specs.Machine as machine
use Rattle.lua_steps.specs.Machine.{Code, Machine, Went, On, Off}
use Rattle.lua_steps.specs.Moves.{gives, next}
use Rattle.lua_steps.specs.Exec.{closed, cell_of}
use Rattle.lua_steps.specs.Scope.{Scope, in_slot, in_cell}
use Rattle.lua_steps.specs.Stand.{At, Reg, register}
use Rattle.lua_steps.specs.Serves.{IsBody, IsBlock, IsStat}
use Rattle.lua_follow.specs.Spot.{Spot, contexts, free, target}
use Rattle.lua_follow.specs.Takes.{Takes, Ends, Exits}
use Rattle.lua_follow.specs.Memory.{view}
use Rattle.lua_follow.specs.Kept.{Scoped, floor, cells_in}
use Rattle.lua_follow.proofs.Lists.{get_set, length_set, value_set, value_other}
use Rattle.lua_follow.proofs.Frames.{fits_at, slot_in}
use Rattle.lua_follow.proofs.Branches.{put_at}
use Rattle.lua_follow.proofs.Gives.{Steady, reg_stands}
use Rattle.lua_follow.proofs.Comes.{Comes, comes_same, acts, goes_on}
use Rattle.lua_follow.proofs.Firm.{shifted}
use Rattle.lua_follow.proofs.Scenes.{Scene, run_stands, scene_slot, scene_boxed}
use Rattle.lua_follow.proofs.Closing.{with_closure, and_closure, memory_closure, closes_length}
use Rattle.lua_follow.proofs.RowsStores.{scene_shift}
use Rattle.lua_follow.proofs.TicksPaid.{Settled, settled_row, at_once}
use Rattle.lua_follow.proofs.Runs.{runs_op}
use Rattle.lua_follow.proofs.Sim.{Standing, Row, Near, Sim, quiet, near, standing}

-- a closure is made on both sides, or the heap is full
closed_comes : (code : Code) (P : Standing) (m0 m : Machine) (s : State) (g : ℕ) (b : Body) (env : Env) (go : Value → Machine → Went) (K : List Context) → m.aside.heap ≡ s.aside.heap
    → ((x : model.Heap) → Comes code P m0 (go (value.Func (length m.closures)) (with_closure code g x m)) (Next (record (and_closure b env x s) { focus = Gives (value.Func (length s.closures)); ks = K })))
    → Comes code P m0 (closed (model.charged model.closure_units m.aside.heap) code g go m) (meaning_values.closed (model.charged model.closure_units s.aside.heap) b env s K)
closed_comes code P m0 m s g b env go K heap h =
    comes_same code P m0 (closed (model.charged model.closure_units s.aside.heap) code g go m) _ (meaning_values.closed (model.charged model.closure_units s.aside.heap) b env s K) _
    (ap (λ x. closed (model.charged model.closure_units x) code g go m) heap) refl (by_option (model.charged model.closure_units s.aside.heap))
  where
    by_option : (o : Option model.Heap) → Comes code P m0 (closed o code g go m) (meaning_values.closed o b env s K)
    by_option None = λ n runs. record { n = n; stop = machine.HeapFull; to = m; runs = runs; same = tt; rests = heap }
    by_option (Some x) = h x

-- ---- an expression
pub function_row : (code : Code) (valid : IsValid code) (m : Machine) (s : State) (ks : List Spot) (env : Env) (sc : Scope) (h : Steady code m s ks) (scoped : Scoped h.homes h.owners (view m.top) sc env (floor ks) (cells_in ks)) (p : Body) (g : ℕ)
    → At code m.top.function m.top.at (op.Close (register (target ks) (free ks)) g) → IsBody code g sc.names p → Takes code m.top.function ks (m.top.at + 1) (Reg (register (target ks) (free ks)))
    → Row code (Sim code) m (record s { focus = Eval (source.Function p) env; ks = contexts ks }) 0 (reduce (record s { focus = Eval (source.Function p) env; ks = contexts ks }))
function_row code valid m s ks env sc h scoped p g at is takes =
    let r = register (target ks) (free ks) in
    let fit = fits_at code (view m.top) m.row h.room m.top.at (op.Close r g) valid at in
    let inside = slot_in code (view m.top) m.row h.room r fit.0 in
    let S = record s { focus = Eval (source.Function p) env; ks = contexts ks } in
    let count : length m.closures ≡ length s.closures = closes_length code h.homes m.closures s.closures h.memory.closures in
    acts code (Sim code) m S _ (λ left.
    closed_comes code (Sim code) m m S g p env (gives r) (contexts ks) h.beside.heap
    (λ x. comes_same code (Sim code) m (gives r (value.Func (length s.closures)) (with_closure code g x m)) (gives r (value.Func (length m.closures)) (with_closure code g x m)) (Next (record (and_closure p env x s) { focus = Gives (value.Func (length s.closures)); ks = contexts ks })) (Next (record (and_closure p env x s) { focus = Gives (value.Func (length s.closures)); ks = contexts ks }))
    (ap (λ n. gives r (value.Func n) (with_closure code g x m)) count) refl
    (goes_on code (Sim code) m _ _ left
    (standing code _ _ 0 ks refl
    (reg_stands code (with_closure code g x m) (and_closure p env x s) ks (m.top.at + 1) r (value.Func (length s.closures)) refl inside
    (record {
      homes = h.homes;
      owners = h.owners;
      memory = memory_closure code h.homes h.owners m s sc env g p x (m.top.base + floor ks) (m.top.base + floor ks) scoped.sees is h.memory;
      kept = h.kept;
      below = h.below;
      room = h.room;
      lists = h.lists;
      beside = record { name = h.beside.name; heap = refl; alone = h.beside.alone; lone = h.beside.lone };
    }) takes))))
    1 (runs_op code m (op.Close r g) _ at refl))

-- ---- a local function
same_number : (n : ℕ) → nat_eq n n ≡ true
same_number n = eq-eqb n n refl

pub same_text : (x : Text) → same_bytes x x ≡ true
same_text [] = refl
same_text (b ∷ bs) = ap (λ y. y && same_bytes bs bs) (same_number b) ∙ same_text bs

set_at_end : (xs : List Value) (u v : Value) → slice_set (xs ++ u ∷ []) (length xs) v ≡ xs ++ v ∷ []
set_at_end [] u v = refl
set_at_end (x ∷ xs) u v = ap (λ ys. x ∷ ys) (set_at_end xs u v)

module _ (code : Code) (valid : IsValid code) (m : Machine) (s : State) (ks : List Spot) (sc : Scope) (env : Env) (h : Scene code m s ks sc env) (rest : Block) (x : Text) (p : Body) where
  abbrev inside : Env
  inside = bound x (length s.store) env

  abbrev C : List Context
  C = StoreK x rest inside ∷ contexts ks

  abbrev Made-state : Value → ℕ → model.Heap → State
  Made-state v i y = record (and_closure p inside y s) { focus = Gives v; ks = C; store = s.store ++ value.Nil ∷ []; left = i }

  abbrev Done-state : Value → ℕ → model.Heap → State
  Done-state v i y = record (and_closure p inside y s) { store = s.store ++ v ∷ []; left = i }

  -- the value goes to the local, which has it already
  made_near : (to : Machine) (v : Value) (i : ℕ) (y : model.Heap) (inner : Scope) → Scene code to (Done-state v i y) ks inner inside
      → IsBlock code to.top.function inner rest 0 to.top.at (Exits code to.top.function ks) (Ends code to.top.function ks) → Near code 3 to (Made-state v i y) 0
  made_near to v i y inner scene c =
      inr (quiet code (Near code 2) to to (Made-state v i y) (record (Made-state v i y) { focus = Stores (record { name = x; value = v } ∷ []) rest inside; ks = contexts ks }) 0 0 _ refl refl (λ lt. refl) refl refl
      (inr (quiet code (Near code 1) to to (record (Made-state v i y) { focus = Stores (record { name = x; value = v } ∷ []) rest inside; ks = contexts ks }) (record (Done-state v i y) { focus = Stores [] rest inside; ks = contexts ks }) 0 0 _ refl refl
      (λ lt. refl)
      (ap (λ b. stores_at (if b then Some (length s.store) else location_of env.locals x) v [] rest inside (record (Made-state v i y) { focus = Stores (record { name = x; value = v } ∷ []) rest inside; ks = contexts ks }) (contexts ks)) (same_text x)
      ∙ ap (λ st. Next (record (Made-state v i y) { focus = Stores [] rest inside; ks = contexts ks; store = st })) (set_at_end s.store value.Nil v)) refl
      (inr (quiet code (Near code 0) to to (record (Done-state v i y) { focus = Stores [] rest inside; ks = contexts ks }) (record (Done-state v i y) { focus = Run rest inside; ks = contexts ks }) 0 0 _ refl refl (λ lt. refl) refl refl
      (near code 0 to _ 0 ks refl (run_stands code to (Done-state v i y) ks inner inside rest 0 scene c)))))))

  abbrev Start-state : ℕ → State
  Start-state i = record s { focus = Eval (source.Function p) inside; ks = C; store = s.store ++ value.Nil ∷ []; left = i }

  abbrev at_place : ℕ → ℕ → Machine
  at_place a l = record (put_at a m) { left = l }

  count : length m.closures ≡ length s.closures
  count = closes_length code h.homes m.closures s.closures h.memory.closures

  abbrev v : Value
  v = value.Func (length s.closures)

  -- in a slot
  abbrev row : List Value
  row = slice_set m.row (m.top.base + sc.free) v

  slot_scene : (a l i g : ℕ) (y : model.Heap) → m.top.base + sc.free < length m.row → IsBody code g (in_slot x sc).names p
      → Scene code (record (with_closure code g y (shifted m (a + 1) m.top.lists row)) { left = l }) (Done-state v i y) ks (in_slot x sc) inside
  slot_scene a l i g y inside_row is =
      let one = scene_shift code m s ks sc env (a + 1) m.top.lists row (length_set m.row (m.top.base + sc.free) v) (λ q lt. value_other m.row (m.top.base + sc.free) q v (λ e. omega (arith, e))) h.lists h in
      let two = scene_slot code valid (shifted m (a + 1) m.top.lists row) s ks sc env one x v (value_set m.row (m.top.base + sc.free) v inside_row) in
      record {
        homes = two.homes;
        owners = two.owners;
        memory = memory_closure code two.homes two.owners (shifted m (a + 1) m.top.lists row) (record s { store = s.store ++ v ∷ [] }) (in_slot x sc) inside g p y (m.top.base + (sc.free + 1)) (m.top.base + (sc.free + 1)) two.inner.sees is two.memory;
        inner = two.inner;
        round = two.round;
        kept = two.kept;
        below = two.below;
        room = two.room;
        lists = two.lists;
        beside = record { name = h.beside.name; heap = refl; alone = h.beside.alone; lone = h.beside.lone };
      }

  slot_near : (a l i g : ℕ) → At code m.top.function a (op.Close sc.free g) → IsBody code g (in_slot x sc).names p
      → IsBlock code m.top.function (in_slot x sc) rest 0 (a + 1) (Exits code m.top.function ks) (Ends code m.top.function ks) → Near code 4 (at_place a l) (Start-state i) 0
  slot_near a l i g at is c =
      let fit = fits_at code (view m.top) m.row h.room a (op.Close sc.free g) valid at in
      let inside_row = slot_in code (view m.top) m.row h.room sc.free fit.0 in
      inr (acts code (Near code 3) (at_place a l) (Start-state i) _ (λ left.
      closed_comes code (Near code 3) (at_place a l) (at_place a l) (Start-state i) g p inside (gives sc.free) C h.beside.heap
      (λ y. comes_same code (Near code 3) (at_place a l) (gives sc.free v (with_closure code g y (at_place a l))) (gives sc.free (value.Func (length m.closures)) (with_closure code g y (at_place a l))) (Next (Made-state v i y)) (Next (Made-state v i y))
      (ap (λ n. gives sc.free (value.Func n) (with_closure code g y (at_place a l))) count) refl
      (goes_on code (Near code 3) (at_place a l) (record (with_closure code g y (shifted m (a + 1) m.top.lists row)) { left = l }) (Made-state v i y) left
      (made_near (record (with_closure code g y (shifted m (a + 1) m.top.lists row)) { left = l }) v i y (in_slot x sc) (slot_scene a l i g y inside_row is) c)))
      1 (runs_op code (at_place a l) (op.Close sc.free g) _ at refl)))

  -- in a cell
  abbrev boxes : List ℕ
  boxes = slice_set m.top.cells sc.cells (length m.cells)

  abbrev boxed_at : ℕ → ℕ → List Value → Machine
  boxed_at a l cells = record m { top = record m.top { at = a; cells = boxes }; cells = cells; left = l }

  cell_scene : (a l i g : ℕ) (y : model.Heap) → sc.cells < length m.top.cells → IsBody code g (in_cell x sc).names p
      → Scene code (with_closure code g y (boxed_at (a + 1) l (m.cells ++ v ∷ []))) (Done-state v i y) ks (in_cell x sc) inside
  cell_scene a l i g y within is =
      let one = scene_boxed code valid m s ks sc env h x v within in
      record {
        homes = one.homes;
        owners = one.owners;
        memory = memory_closure code one.homes one.owners (boxed_at (a + 1) l (m.cells ++ v ∷ [])) (record s { store = s.store ++ v ∷ [] }) (in_cell x sc) inside g p y (m.top.base + sc.free) (m.top.base + sc.free) one.inner.sees is one.memory;
        inner = one.inner;
        round = one.round;
        kept = one.kept;
        below = one.below;
        room = one.room;
        lists = one.lists;
        beside = record { name = h.beside.name; heap = refl; alone = h.beside.alone; lone = h.beside.lone };
      }

  -- what is done to the cell that the closure may have captured
  abbrev puts : Value → Machine → Went
  puts w t = next (record t { cells = slice_set t.cells (cell_of t.top.cells sc.cells) w })

  cell_put : (a l g : ℕ) (y : model.Heap) (w : Value) → sc.cells < length m.top.cells
      → puts w (with_closure code g y (boxed_at a l (m.cells ++ value.Nil ∷ []))) ≡ On (with_closure code g y (boxed_at (a + 1) l (m.cells ++ w ∷ [])))
  cell_put a l g y w within =
      let place : cell_of boxes sc.cells ≡ length m.cells = ap (λ o. unwrap_or o 0) (get_set m.top.cells sc.cells (length m.cells) within) in
      ap (λ c. On (with_closure code g y (boxed_at (a + 1) l (slice_set (m.cells ++ value.Nil ∷ []) c w)))) place ∙ ap (λ cs. On (with_closure code g y (boxed_at (a + 1) l cs))) (set_at_end m.cells value.Nil w)

  cell_near : (a l i g : ℕ) → At code m.top.function a (op.CloseCell sc.cells g) → IsBody code g (in_cell x sc).names p
      → IsBlock code m.top.function (in_cell x sc) rest 0 (a + 1) (Exits code m.top.function ks) (Ends code m.top.function ks) → Near code 4 (at_place a l) (Start-state i) 0
  cell_near a l i g at is c =
      let fit = fits_at code (view m.top) m.row h.room a (op.CloseCell sc.cells g) valid at in
      let long = h.room.cells in
      let within : sc.cells < length m.top.cells = omega (arith, fit.0, long) in
      inr (acts code (Near code 3) (at_place a l) (Start-state i) _ (λ left.
      closed_comes code (Near code 3) (at_place a l) (boxed_at a l (m.cells ++ value.Nil ∷ [])) (Start-state i) g p inside puts C h.beside.heap
      (λ y. comes_same code (Near code 3) (at_place a l) (On (with_closure code g y (boxed_at (a + 1) l (m.cells ++ v ∷ [])))) (puts (value.Func (length m.closures)) (with_closure code g y (boxed_at a l (m.cells ++ value.Nil ∷ []))))
      (Next (Made-state v i y)) (Next (Made-state v i y))
      (ap (λ n. puts (value.Func n) (with_closure code g y (boxed_at a l (m.cells ++ value.Nil ∷ [])))) count ∙ cell_put a l g y v within) refl
      (goes_on code (Near code 3) (at_place a l) (with_closure code g y (boxed_at (a + 1) l (m.cells ++ v ∷ []))) (Made-state v i y) left
      (made_near (with_closure code g y (boxed_at (a + 1) l (m.cells ++ v ∷ []))) v i y (in_cell x sc) (cell_scene a l i g y within is) c)))
      1 (runs_op code (at_place a l) (op.CloseCell sc.cells g) _ at refl)))

  abbrev K : Scope → ℕ → Type 0
  K next b = IsBlock code m.top.function next rest 0 b (Exits code m.top.function ks) (Ends code m.top.function ks)

  local_coming : (j a : ℕ) → j ≡ 0
      → ((g : ℕ)
      × ((At code m.top.function a (op.Close sc.free g) × IsBody code g (in_slot x sc).names p × K (in_slot x sc) (a + 1))
      ⊎ (At code m.top.function a (op.CloseCell sc.cells g) × IsBody code g (in_cell x sc).names p × K (in_cell x sc) (a + 1))))
      → Settled code (Sim code) m (record s { store = s.store ++ value.Nil ∷ [] }) (Eval (source.Function p) inside) C j a
  local_coming j a none (g, inl c) =
      at_once code (Sim code) m (record s { store = s.store ++ value.Nil ∷ [] }) (Eval (source.Function p) inside) C j a
      (λ l i. subst (λ y. Sim code (at_place a l) (Start-state i) y) (sym none) (4, slot_near a l i g c.0 c.1 c.2))
  local_coming j a none (g, inr c) =
      at_once code (Sim code) m (record s { store = s.store ++ value.Nil ∷ [] }) (Eval (source.Function p) inside) C j a
      (λ l i. subst (λ y. Sim code (at_place a l) (Start-state i) y) (sym none) (4, cell_near a l i g c.0 c.1 c.2))

  pub local_function_stat : (k : ℕ) → IsStat code m.top.function sc (source.LocalFunction x p) k m.top.at (Exits code m.top.function ks) K → Row code (Sim code) m s k (local_function x p rest env s (contexts ks))
  local_function_stat k c =
      settled_row code (Sim code) m (record s { store = s.store ++ value.Nil ∷ [] }) (Eval (source.Function p) inside) C k _ h.beside.heap c (λ j a r. local_coming j a r.0 r.1)
