-- Rows of statements: ticks and then operations, and the scenes inside and outside a block.
use Rattle.std.proofs.Common.{◌≡◌, ℕ, ◌+◌, ◌≤◌, List, refl, sym, ◌∙◌, subst, arith}
use Rattle.lua_tree.specs.Source.{Block}
use Rattle.lua_value.specs.declared.value.Value.{Value}
use Rattle.lua_meaning.specs.State as meaning
use Rattle.lua_meaning.specs.State.{Env, Focus, Run, State, Step, Next, Halt, Pause, Context}
use Rattle.lua_steps.specs.Machine as machine
use Rattle.lua_steps.specs.Machine.{Code, Machine, On}
use Rattle.lua_steps.specs.Run.{run}
use Rattle.lua_steps.specs.Scope.{Scope}
use Rattle.lua_steps.specs.Stand.{Leads}
use Rattle.lua_steps.specs.Serves.{IsBlock}
use Rattle.lua_follow.specs.Spot.{Spot, contexts, free, lists_of}
use Rattle.lua_follow.specs.Takes.{Ends, Exits}
use Rattle.lua_follow.specs.Memory.{Homes, Owners, view, Memory}
use Rattle.lua_follow.specs.Kept.{Kept, Scoped, Inner, Round, floor, cells_in}
use Rattle.lua_follow.specs.Stands.{Below}
use Rattle.lua_follow.proofs.Places.{rows_but, rows_lower}
use Rattle.lua_follow.proofs.Branches.{put_at}
use Rattle.lua_follow.proofs.Gives.{Steady}
use Rattle.lua_follow.proofs.Runs.{runs_more, way}
use Rattle.lua_follow.proofs.Scenes.{Scene, run_stands}
use Rattle.lua_follow.proofs.Sim.{Row, Sim, quiet, standing}

pub le_refl : (n : ℕ) → n ≤ n
le_refl n = omega arith

-- ---- scenes
-- the machine is at another place, with other ticks
abbrev pub scene_at : (code : Code) (m : Machine) (s : State) (ks : List Spot) (sc : Scope) (env : Env) (a l i : ℕ) → Scene code m s ks sc env → Scene code (record (put_at a m) { left = l }) (record s { left = i }) ks sc env
scene_at code m s ks sc env a l i h =
    record { homes = h.homes; owners = h.owners; memory = h.memory; inner = h.inner; round = h.round; kept = h.kept; below = h.below; room = h.room; lists = h.lists; beside = h.beside }

pub memory_lower : (code : Code) (homes : Homes) (owners : Owners) (row boxes : List Value) (ms : List machine.Closure) (store : List Value) (cs : List meaning.Closure) (base n low : ℕ) → low ≤ n
    → Memory code homes owners row boxes ms store cs (base + n) (base + n) → Memory code homes owners row boxes ms store cs (base + low) (base + low)
memory_lower code homes owners row boxes ms store cs base n low le h =
    record {
      homed = h.homed;
      rows = rows_but homes owners row store (base + low) (base + n) (base + low) (omega arith) (rows_lower homes owners row store (base + n) (base + low) (base + n) (omega arith) h.rows);
      cells = h.cells;
      closures = h.closures;
    }

-- what waits outside a block sees what it saw
abbrev pub scene_outside : (code : Code) (m : Machine) (s : State) (inside ks : List Spot) (low sc : Scope) (end env : Env) → (h : Scene code m s inside low end) → Inner h.homes h.owners (view m.top) sc env (free ks) (cells_in ks) → Round ks
    → Kept code h.homes h.owners (view m.top) m.row ks → Below code h.homes h.owners m.row m.top.base ks m.below → lists_of inside ≡ lists_of ks → sc.free ≤ low.free → Scene code m s ks sc env
scene_outside code m s inside ks low sc end env h inner round kept below lists le =
    record {
      homes = h.homes;
      owners = h.owners;
      memory = memory_lower code h.homes h.owners m.row m.cells m.closures s.store s.closures m.top.base low.free sc.free le h.memory;
      inner = inner;
      round = round;
      kept = kept;
      below = below;
      room = h.room;
      lists = h.lists ∙ lists;
      beside = h.beside;
    }

-- one more waits, in the same scope
abbrev pub scene_inside : (code : Code) (m : Machine) (s : State) (inside ks : List Spot) (sc : Scope) (env : Env) → (h : Scene code m s ks sc env) → free inside ≡ sc.free → cells_in inside ≡ sc.cells → Round inside
    → Kept code h.homes h.owners (view m.top) m.row inside → Below code h.homes h.owners m.row m.top.base inside m.below → lists_of ks ≡ lists_of inside → Scene code m s inside sc env
scene_inside code m s inside ks sc env h slots cells round kept below lists =
    record {
      homes = h.homes;
      owners = h.owners;
      memory = h.memory;
      inner = record { sees = h.inner.sees; slots_out = omega (arith, slots); cells_out = omega (arith, cells) };
      round = round;
      kept = kept;
      below = below;
      room = h.room;
      lists = h.lists ∙ lists;
      beside = h.beside;
    }

-- an expression is worked on, for which a statement waits
abbrev pub steady_inside : (code : Code) (m : Machine) (s : State) (inside ks : List Spot) (sc : Scope) (env : Env) → (h : Scene code m s ks sc env) → floor inside ≡ sc.free
    → Kept code h.homes h.owners (view m.top) m.row inside → Below code h.homes h.owners m.row m.top.base inside m.below → lists_of ks ≡ lists_of inside → Steady code m s inside
steady_inside code m s inside ks sc env h slots kept below lists =
    record {
      homes = h.homes;
      owners = h.owners;
      memory = subst (λ i. Memory code h.homes h.owners m.row m.cells m.closures s.store s.closures (m.top.base + i) (m.top.base + i)) (sym slots) h.memory;
      kept = kept;
      below = below;
      room = h.room;
      lists = h.lists ∙ lists;
      beside = h.beside;
    }

pub scoped_inside : (code : Code) (m : Machine) (s : State) (inside ks : List Spot) (sc : Scope) (env : Env) → (h : Scene code m s ks sc env) → floor inside ≡ sc.free → cells_in inside ≡ sc.cells
    → Scoped h.homes h.owners (view m.top) sc env (floor inside) (cells_in inside)
scoped_inside code m s inside ks sc env h slots cells = record { sees = h.inner.sees; slots_in = omega (arith, slots); cells_in = omega (arith, cells) }

-- ---- the code comes to a block
pub block_row : (code : Code) (m : Machine) (s : State) (ks : List Spot) (sc : Scope) (env : Env) (b : Block) (n a k : ℕ) (r : Step) → Scene code m s ks sc env → run n code m ≡ On (put_at a m)
    → Leads code m.top.function a (λ y. IsBlock code m.top.function sc b 0 y (Exits code m.top.function ks) (Ends code m.top.function ks)) → k ≡ 0 → r ≡ Next (record s { focus = Run b env; ks = contexts ks }) → Row code (Sim code) m s k r
block_row code m s ks sc env b n a k r h runs c none is =
    let w = way code m.top.function a _ c in
    subst (λ i. Row code (Sim code) m s i r) (sym none)
    (quiet code (Sim code) m (put_at w.at m) s (record s { focus = Run b env; ks = contexts ks }) 0 (n + w.n) r (runs_more code n w.n m (put_at a m) _ runs (w.runs m refl)) refl (λ lt. refl) is refl
    (standing code _ _ 0 ks refl (run_stands code (put_at w.at m) s ks sc env b 0 (scene_at code m s ks sc env w.at m.left s.left h) w.holds)))
