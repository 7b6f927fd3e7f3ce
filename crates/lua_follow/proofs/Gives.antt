-- A value for the first context: made in its register, or where it stands.
use Rattle.std.proofs.Common.{◌≡◌, ℕ, ◌+◌, ◌<◌, ◌≤◌, inl, inr, List, length, refl, sym, ap, ◌∙◌, subst, arith}
use Rattle.std.specs.Prelude.{slice_set}
use Rattle.lua_value.specs.declared.value.Value.{Value}
use Rattle.lua_value.specs.Lists.{value_at}
use Rattle.lua_code.specs.declared.op.Op.{Op}
use Rattle.lua_meaning.specs.State as meaning
use Rattle.lua_meaning.specs.State.{Focus, Eval, Gives, State, Step, Next, Context}
use Rattle.lua_steps.specs.Machine as machine
use Rattle.lua_steps.specs.Machine.{Code, Machine, Frame, Went, On}
use Rattle.lua_steps.specs.Moves.{gives, with_slot}
use Rattle.lua_steps.specs.Exec.{perform}
use Rattle.lua_steps.specs.Stand.{At, Target, Into, Anywhere, Decided, Shown, Reg, register, IsThere, IsOperand, WhereAnywhere, WhereDecided}
use Rattle.lua_follow.specs.Spot.{Spot, contexts, free, target, lists_of}
use Rattle.lua_follow.specs.Takes.{Takes}
use Rattle.lua_follow.specs.Memory.{Homes, Owners, View, view, Rows, Memory}
use Rattle.lua_follow.specs.Kept.{Shows, Under, Kept, floor, cells_in}
use Rattle.lua_follow.specs.Stands.{Room, Below, Beside, Stands, needed, ahead}
use Rattle.lua_follow.proofs.Lists.{length_set, value_set, value_other}
use Rattle.lua_follow.proofs.Keep.{Agrees, kept_map}
use Rattle.lua_follow.proofs.Places.{rows_write, rows_but}
use Rattle.lua_follow.proofs.Frames.{Grows, room_longer, below_map}
use Rattle.lua_follow.proofs.Aims.{Aimed, aimed, aimed_low, needed_register, there_needed, there_weak}
use Rattle.lua_follow.proofs.Runs.{runs_op}
use Rattle.lua_follow.proofs.Sim.{Row, Sim, quiet, standing}

-- what holds where an expression is worked on
pub record Steady (code : Code) (m : Machine) (s : State) (ks : List Spot) : Type 0 where
  pub homes : Homes
  pub owners : Owners
  pub memory : Memory code homes owners m.row m.cells m.closures s.store s.closures (m.top.base + floor ks) (m.top.base + floor ks)
  pub kept : Kept code homes owners (view m.top) m.row ks
  pub below : Below code homes owners m.row m.top.base ks m.below
  pub room : Room code (view m.top) m.row
  pub lists : m.top.lists ≡ lists_of ks
  pub beside : Beside m.aside s.aside

-- strings, units and ticks change on both sides
abbrev pub steady_beside : (code : Code) (m : Machine) (s : State) (ks : List Spot) (a : machine.Aside) (b : meaning.Aside) (i j : ℕ) → Beside a b → Steady code m s ks
    → Steady code (record m { aside = a; left = i }) (record s { aside = b; left = j }) ks
steady_beside code m s ks a b i j beside h =
    record { homes = h.homes; owners = h.owners; memory = h.memory; kept = h.kept; below = h.below; room = h.room; lists = h.lists; beside = beside }

-- ---- a write at or above the free slots
module _ (code : Code) (homes : Homes) (owners : Owners) (fr : View) (row : List Value) (r : ℕ) (v : Value) where
  abbrev line : List Value
  line = slice_set row (fr.base + r) v

  write_other : (q : ℕ) → (q ≡ fr.base + r → ⊥) → value_at line q ≡ value_at row q
  write_other q ne = value_other row (fr.base + r) q v (λ e. ne (sym e))

  write_agrees : (N C : ℕ) → N ≤ r → Agrees homes homes owners owners fr fr.boxes row line N C
  write_agrees N C le =
      record { homes_stay = λ l h e. e; owners_stay = λ s lt. refl; row_stays = λ s lt. write_other (fr.base + s) (λ e. omega (arith, e)); cells_stay = λ c lt. refl }

  write_grows : Grows homes homes owners owners row line fr.base
  write_grows =
      record {
        homes_stay = λ l h e. e;
        owners_stay = λ p lt. refl;
        row_stays = λ p lt. write_other p (λ e. omega (arith, e));
        longer = (let n = length_set row (fr.base + r) v in omega (arith, n));
      }

  le_refl : (n : ℕ) → n ≤ n
  le_refl n = omega arith

  kept_write : (ks : List Spot) → free ks ≤ r → Kept code homes owners fr row ks → Kept code homes owners fr line ks
  kept_write ks le h = kept_map code homes homes owners owners fr fr.boxes row line (free ks) (cells_in ks) (write_agrees (free ks) (cells_in ks) le) ks (le_refl (free ks)) (le_refl (cells_in ks)) h

  kept_in : (ks : List Spot) → r ≡ register (target ks) (free ks) → Kept code homes owners fr row ks → Aimed code homes owners fr row ks → Kept code homes owners fr line ks
  kept_in ks e h (inl same) = kept_write ks (omega (arith, e, same)) h
  kept_in ks e h (inr d) = d.keeps line (λ q ne. write_other q (λ is. ne (is ∙ ap (λ i. fr.base + i) e)))

  pub kept_gives : (ks : List Spot) → r ≡ register (target ks) (free ks) → Kept code homes owners fr row ks → Kept code homes owners fr line ks
  kept_gives ks e h = kept_in ks e h (aimed code homes owners fr row ks h)

-- ---- where a value comes
le_self : (n : ℕ) → n ≤ n
le_self n = omega arith

pub reg_stands : (code : Code) (m : Machine) (s : State) (ks : List Spot) (a r : ℕ) (v : Value) → r ≡ register (target ks) (free ks) → m.top.base + r < length m.row → Steady code m s ks
    → Takes code m.top.function ks a (Reg r) → Stands code (record (with_slot r v m) { top = record m.top { at = a } }) (record s { focus = Gives v; ks = contexts ks }) ks 0
reg_stands code m s ks a r v e inside h takes =
    let n : register (needed ks) (free ks) ≡ r = needed_register code h.homes h.owners (view m.top) m.row ks h.kept ∙ sym e in
    record {
      homes = h.homes;
      owners = h.owners;
      here = (
        Reg r,
        takes,
        value_set m.row (m.top.base + r) v inside,
        subst (λ i. IsThere (needed ks) (Reg i)) (sym e) (there_needed ks),
        (let low = aimed_low code h.homes h.owners (view m.top) m.row ks h.kept in omega (arith, low, e)),
        refl,
        h.lists,
        record {
          homed = h.memory.homed;
          rows = subst (λ i. Rows h.homes h.owners (slice_set m.row (m.top.base + r) v) s.store (m.top.base + floor ks) (m.top.base + i)) (sym n)
              (rows_write h.homes h.owners m.row s.store (m.top.base + floor ks) (m.top.base + floor ks) (m.top.base + r) v (le_self (m.top.base + floor ks)) h.memory.rows);
          cells = h.memory.cells;
          closures = h.memory.closures;
        },
      );
      kept = kept_gives code h.homes h.owners (view m.top) m.row r v ks e h.kept;
      below = below_map code h.homes h.homes h.owners h.owners m.row _ m.top.base ks m.below (write_grows code h.homes h.owners (view m.top) m.row r v) h.below;
      room = room_longer code (view m.top) m.row _ (let k = length_set m.row (m.top.base + r) v in omega (arith, k)) h.room;
      beside = h.beside;
    }

-- a value that stands already
pub shown_stands : (code : Code) (m : Machine) (s : State) (ks : List Spot) (p : Shown) (v : Value) → Steady code m s ks → Takes code m.top.function ks m.top.at p → Shows (view m.top) m.row p v
    → IsThere (target ks) p → Under (free ks + 1) p → Stands code m (record s { focus = Gives v; ks = contexts ks }) ks (ahead p)
shown_stands code m s ks p v h takes shows there under =
    record {
      homes = h.homes;
      owners = h.owners;
      here = (
        p,
        takes,
        shows,
        there_weak ks p there,
        under,
        refl,
        h.lists,
        record {
          homed = h.memory.homed;
          rows = rows_but h.homes h.owners m.row s.store (m.top.base + floor ks) (m.top.base + floor ks) (m.top.base + register (needed ks) (free ks)) (le_self (m.top.base + floor ks)) h.memory.rows;
          cells = h.memory.cells;
          closures = h.memory.closures;
        },
      );
      kept = h.kept;
      below = h.below;
      room = h.room;
      beside = h.beside;
    }

-- ---- targets
pub there_decided : (t : Target) (P : Type 0) (p : Shown) → WhereDecided t P → IsThere t p × P
there_decided (Into r) P p h = absurd h
there_decided Anywhere P p h = absurd h
there_decided Decided P p h = (tt, h)

pub there_anywhere : (t : Target) (P : Type 0) (p : Shown) → IsOperand p → WhereAnywhere t P → IsThere t p × P
there_anywhere (Into r) P p o h = absurd h
there_anywhere Anywhere P p o h = (o, h)
there_anywhere Decided P p o h = (tt, h)

-- ---- rows
-- an operation makes the value in its register
pub gives_row : (code : Code) (m : Machine) (s : State) (F : Focus) (K : List Context) (ks : List Spot) (o : Op) (v : Value) (r : Step) → Steady code m s ks → At code m.top.function m.top.at o
    → perform code o m ≡ gives (register (target ks) (free ks)) v m → m.top.base + register (target ks) (free ks) < length m.row → Takes code m.top.function ks (m.top.at + 1) (Reg (register (target ks) (free ks)))
    → r ≡ Next (record s { focus = Gives v; ks = contexts ks }) → Row code (Sim code) m (record s { focus = F; ks = K }) 0 r
gives_row code m s F K ks o v r h at does inside takes is =
    quiet code (Sim code) m _ (record s { focus = F; ks = K }) (record s { focus = Gives v; ks = contexts ks }) 0 1 r (runs_op code m o _ at does) refl (λ lt. refl) is refl
    (standing code _ _ 0 ks refl (reg_stands code m s ks (m.top.at + 1) (register (target ks) (free ks)) v refl inside h takes))

-- the value stands already
pub shown_row : (code : Code) (m : Machine) (s : State) (F : Focus) (K : List Context) (ks : List Spot) (p : Shown) (v : Value) (r : Step) → Steady code m s ks → Takes code m.top.function ks m.top.at p
    → Shows (view m.top) m.row p v → IsThere (target ks) p → Under (free ks + 1) p → ahead p ≡ 0 → r ≡ Next (record s { focus = Gives v; ks = contexts ks }) → Row code (Sim code) m (record s { focus = F; ks = K }) 0 r
shown_row code m s F K ks p v r h takes shows there under none is =
    quiet code (Sim code) m m (record s { focus = F; ks = K }) (record s { focus = Gives v; ks = contexts ks }) 0 0 r refl refl (λ lt. refl) is refl
    (standing code m _ 0 ks refl (subst (λ k. Stands code m (record s { focus = Gives v; ks = contexts ks }) ks k) none (shown_stands code m s ks p v h takes shows there under)))
