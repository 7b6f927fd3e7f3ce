-- What holds between expressions, where lists may be under construction.
use Rattle.std.proofs.Common.{◌≡◌, ℕ, ◌+◌, ◌-◌, ◌<◌, ◌≤◌, inl, inr, List, [], ◌∷◌, ◌++◌, length, refl, sym, ap, ◌∙◌, arith}
use Rattle.std.specs.Prelude.{min}
use Rattle.lua_value.specs.declared.value.Value.{Value}
use Rattle.lua_value.specs.Lists.{value_at, adjusted}
use Rattle.lua_meaning.specs.State.{Lists, State}
use Rattle.lua_steps.specs.Machine.{Code, Machine}
use Rattle.lua_steps.specs.Moves.{values_from}
use Rattle.lua_follow.specs.Spot.{Form, Exactly, Filled, OnList, Alone, Spot, BeginS, contexts, free, form_of, before, lists_of}
use Rattle.lua_follow.specs.Takes.{TakesUpTo, TakesAll}
use Rattle.lua_follow.specs.Memory.{Homes, Owners, View, view, Memory}
use Rattle.lua_follow.specs.Kept.{Partly, Kept, floor, cells_in}
use Rattle.lua_follow.specs.Stands.{Room, RoomFor, Below, Beside, Stands, Came, CameUpTo}
use Rattle.lua_follow.proofs.Lists.{values_same}
use Rattle.lua_follow.proofs.Keep.{kept_map, floor_free}
use Rattle.lua_follow.proofs.Places.{rows_row}
use Rattle.lua_follow.proofs.Frames.{room_longer, below_map}
use Rattle.lua_follow.proofs.Gives.{Steady}
use Rattle.lua_follow.proofs.Nils.{filled}

pub record Firm (code : Code) (m : Machine) (s : State) (ks : List Spot) : Type 0 where
  pub homes : Homes
  pub owners : Owners
  pub memory : Memory code homes owners m.row m.cells m.closures s.store s.closures (m.top.base + floor ks) (m.top.base + floor ks)
  pub kept : Kept code homes owners (view m.top) m.row ks
  pub below : Below code homes owners m.row m.top.base ks m.below
  pub room : Room code (view m.top) m.row
  pub beside : Beside m.aside s.aside

abbrev pub firm_of : (code : Code) (m : Machine) (s : State) (ks : List Spot) → Steady code m s ks → Firm code m s ks
firm_of code m s ks h = record { homes = h.homes; owners = h.owners; memory = h.memory; kept = h.kept; below = h.below; room = h.room; beside = h.beside }

abbrev pub steady_of : (code : Code) (m : Machine) (s : State) (ks : List Spot) → m.top.lists ≡ lists_of ks → Firm code m s ks → Steady code m s ks
steady_of code m s ks e h = record { homes = h.homes; owners = h.owners; memory = h.memory; kept = h.kept; below = h.below; room = h.room; lists = e; beside = h.beside }

-- another place and other lists
abbrev pub shifted : Machine → ℕ → List (List Value) → List Value → Machine
shifted m a ls row = record m { top = record m.top { at = a; lists = ls }; row = row }

pub le_refl : (n : ℕ) → n ≤ n
le_refl n = omega arith

-- the row changes from the free slots on
abbrev pub firm_row : (code : Code) (m : Machine) (s : State) (ks : List Spot) (a : ℕ) (ls : List (List Value)) (row : List Value) → length row ≡ length m.row → ((p : ℕ) → p < m.top.base + free ks → value_at row p ≡ value_at m.row p)
    → Firm code m s ks → Firm code (shifted m a ls row) s ks
firm_row code m s ks a ls row long same h =
    record {
      homes = h.homes;
      owners = h.owners;
      memory = record {
        homed = h.memory.homed;
        rows = rows_row h.homes h.owners m.row row s.store (m.top.base + floor ks) (m.top.base + floor ks) (λ p lt. same p (let le = floor_free code h.homes h.owners (view m.top) m.row ks h.kept in omega arith)) h.memory.rows;
        cells = h.memory.cells;
        closures = h.memory.closures;
      };
      kept = kept_map code h.homes h.homes h.owners h.owners (view m.top) m.top.cells m.row row (free ks) (cells_in ks)
          (record { homes_stay = λ l x e. e; owners_stay = λ i lt. refl; row_stays = λ i lt. same (m.top.base + i) (omega arith); cells_stay = λ c lt. refl }) ks (le_refl (free ks)) (le_refl (cells_in ks)) h.kept;
      below = below_map code h.homes h.homes h.owners h.owners m.row row m.top.base ks m.below
          (record { homes_stay = λ l x e. e; owners_stay = λ p lt. refl; row_stays = λ p lt. same p (omega arith); longer = omega (arith, long) }) h.below;
      room = room_longer code (view m.top) m.row row (omega (arith, long)) h.room;
      beside = h.beside;
    }

abbrev pub firm_at : (code : Code) (m : Machine) (s : State) (ks : List Spot) (a : ℕ) (ls : List (List Value)) → Firm code m s ks → Firm code (shifted m a ls m.row) s ks
firm_at code m s ks a ls h = record { homes = h.homes; owners = h.owners; memory = h.memory; kept = h.kept; below = h.below; room = h.room; beside = h.beside }

-- ---- lists that have come
pub room_for : (code : Code) (fr : View) (row : List Value) (ks : List Spot) → Room code fr row → RoomFor code fr row ks
room_for code fr row [] h = tt
room_for code fr row (BeginS f ∷ ks) h = tt
room_for code fr row (_ ∷ ks) h = h

pub whole_stands : (code : Code) (m : Machine) (s : State) (ks : List Spot) (vs : List Value) → Firm code m s ks → TakesAll code m.top.function ks m.top.at → Came (view m.top) m.row m.top.lists ks (form_of ks) vs
    → Stands code m (record s { focus = Lists vs; ks = contexts ks }) ks 0
whole_stands code m s ks vs h takes came =
    record {
      homes = h.homes;
      owners = h.owners;
      here = (refl, inr (inr (takes, came, h.memory)));
      kept = h.kept;
      below = h.below;
      room = room_for code (view m.top) m.row ks h.room;
      beside = h.beside;
    }

pub exact_stands : (code : Code) (m : Machine) (s : State) (ks : List Spot) (vs : List Value) (r : ℕ) → Firm code m s ks → TakesUpTo code m.top.function ks m.top.at r → CameUpTo (view m.top) m.row (form_of ks) r vs
    → m.top.lists ≡ lists_of ks → Stands code m (record s { focus = Lists vs; ks = contexts ks }) ks 0
exact_stands code m s ks vs r h takes came lists =
    record {
      homes = h.homes;
      owners = h.owners;
      here = (refl, inr (inl (r, takes, came, lists, h.memory)));
      kept = h.kept;
      below = h.below;
      room = room_for code (view m.top) m.row ks h.room;
      beside = h.beside;
    }

-- ---- what has come of a list so far is the list
pub exact_came : (fr : View) (row : List Value) (f : Form) (r : ℕ) (us : List Value) → Partly fr row f (Exactly r) us → CameUpTo fr row f r us
exact_came fr row (Exactly r0) r us h = h
exact_came fr row (Filled r0 n) r us h = absurd h
exact_came fr row (OnList d) r us h = absurd h
exact_came fr row (Alone t d) r us h = absurd h

-- one value more
pub filled_came : (fr : View) (row line : List Value) (lists : List (List Value)) (ks : List Spot) (f : Form) (r n : ℕ) (us vs : List Value) → Partly fr row f (Filled r n) us
    → ((p : ℕ) → p < fr.base + r → value_at line p ≡ value_at row p) → values_from line (fr.base + r) n ≡ adjusted n vs → lists ≡ lists_of ks → Came fr line lists ks f (us ++ vs)
filled_came fr row line lists ks (Filled r0 n0) r n us vs h same more is =
    let so_far : values_from line (fr.base + r0) (min (length us) n0) ≡ values_from row (fr.base + r0) (min (length us) n0) =
    values_same row line (min (length us) n0) (fr.base + r0) (λ p lo hi. same p (omega (arith, h.0))) in
    let later : values_from line (fr.base + (r0 + min (length us) n0)) (n0 - length us) ≡ adjusted (n0 - length us) vs =
    ap (λ i. values_from line (fr.base + i) (n0 - length us)) (sym h.0) ∙ ap (λ i. values_from line (fr.base + r) i) (sym h.1) ∙ more ∙ ap (λ i. adjusted i vs) h.1 in
    (filled line fr.base r0 n0 us vs (so_far ∙ h.2) later, is)
filled_came fr row line lists ks (Exactly r0) r n us vs h same more is = absurd h
filled_came fr row line lists ks (OnList d) r n us vs h same more is = absurd h
filled_came fr row line lists ks (Alone t d) r n us vs h same more is = absurd h

pub listed_came : (fr : View) (row : List Value) (lists : List (List Value)) (ks : List Spot) (f : Form) (d : ℕ) (us vs : List Value) → Partly fr row f (OnList d) us → lists ≡ (before ks ++ vs) ∷ lists_of ks → Came fr row lists ks f vs
listed_came fr row lists ks (OnList d0) d us vs h is = is
listed_came fr row lists ks (Exactly r0) d us vs h is = absurd h
listed_came fr row lists ks (Filled r0 n) d us vs h is = absurd h
listed_came fr row lists ks (Alone t e) d us vs h is = absurd h

pub append_none : (vs : List Value) → vs ++ [] ≡ vs
append_none [] = refl
append_none (v ∷ vs) = ap (λ ws. v ∷ ws) (append_none vs)
