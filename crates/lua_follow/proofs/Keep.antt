-- What frames keep is kept where nothing changes below their free slots.
use Rattle.std.proofs.Common.{◌≡◌, ℕ, ◌+◌, ◌-◌, ◌<◌, ◌≤◌, List, [], ◌∷◌, length, Some, None, sym, ap, ◌∙◌, subst, arith}
use Rattle.std.specs.Prelude.{true, false, not, slice_get, min}
use Rattle.lua_value.specs.declared.value.Value.{Value}
use Rattle.lua_value.specs.declared.value.Value.TheVariants as value
use Rattle.lua_value.specs.Same.{is_true}
use Rattle.lua_value.specs.Lists.{value_at}
use Rattle.lua_meaning.specs.State.{Env, Named}
use Rattle.lua_steps.specs.declared.scope.Place.{Place}
use Rattle.lua_steps.specs.declared.scope.Place.TheVariants.{InSlot, InCell, InUp, Hidden}
use Rattle.lua_steps.specs.declared.scope.Known.{Known}
use Rattle.lua_steps.specs.Machine.{Code}
use Rattle.lua_steps.specs.Moves.{values_from}
use Rattle.lua_steps.specs.Exec.{cell_of}
use Rattle.lua_steps.specs.Scope.{Scope}
use Rattle.lua_steps.specs.Stand.{Shown, Reg, Imm, Not, Holds, Fails}
use Rattle.lua_follow.specs.Spot.{Home, AtCell, Form, Exactly, Filled, OnList, Alone, Stage, First, Limit, FirstOf, LimitOf, StepOf, Spot, UnaryS, ChainS, OperandS, SuffixS, CutS, OneS, ItemS, SpreadS, ArgsS, AfterS, IfS, WhileS, UntilS, ForS, LocalS, AssignS, DropS, ReturnS, TailS, GenericS, TurnS, BeginS, BlockS, WhileLoopS, RepeatLoopS, NumericLoopS, GenericLoopS, CallS, free, free_in, asked, stage_place}
use Rattle.lua_follow.specs.Memory.{Homes, Owners, View, Has, HasAll, Sees}
use Rattle.lua_follow.specs.Kept.{Shows, Under, Partly, Keeps, Staged, Scoped, Inner, Kept, floor, cells_in}
use Rattle.lua_follow.proofs.Lists.{values_same}

-- locals are below what else is held
pub floor_free : (code : Code) (homes : Homes) (owners : Owners) (fr : View) (row : List Value) (ks : List Spot) → Kept code homes owners fr row ks → floor ks ≤ free ks
floor_free code homes owners fr row [] h = omega arith
floor_free code homes owners fr row (UnaryS op line how ∷ ks) h = floor_free code homes owners fr row ks h.1
floor_free code homes owners fr row (ChainS os env sc how ∷ ks) h = floor_free code homes owners fr row ks h.2
floor_free code homes owners fr row (OperandS op line u os env sc p ∷ ks) h = let le = floor_free code homes owners fr row ks h.3 in omega arith
floor_free code homes owners fr row (SuffixS ss how env sc ∷ ks) h = floor_free code homes owners fr row ks h.2
floor_free code homes owners fr row (CutS ∷ ks) h = floor_free code homes owners fr row ks h.1
floor_free code homes owners fr row (OneS ∷ ks) h = floor_free code homes owners fr row ks h.1
floor_free code homes owners fr row (ItemS e es env us sc form ∷ ks) h = let le = floor_free code homes owners fr row ks h.3 in omega (arith, h.1)
floor_free code homes owners fr row (SpreadS us form ∷ ks) h = let le = floor_free code homes owners fr row ks h.2 in omega (arith, h.1)
floor_free code homes owners fr row (ArgsS f line ss how env sc true ∷ ks) h = floor_free code homes owners fr row ks h.2
floor_free code homes owners fr row (ArgsS f line ss how env sc false ∷ ks) h = let le = floor_free code homes owners fr row ks h.3 in omega arith
floor_free code homes owners fr row (AfterS ss how env sc come ∷ ks) h = floor_free code homes owners fr row ks h.3
floor_free code homes owners fr row (IfS p others rest env sc ∷ ks) h = omega arith
floor_free code homes owners fr row (WhileS e body rest env sc c ∷ ks) h = omega arith
floor_free code homes owners fr row (UntilS body e rest env sc d q m s ∷ ks) h = omega arith
floor_free code homes owners fr row (ForS (First limit) x body line rest env sc ∷ ks) h = omega arith
floor_free code homes owners fr row (ForS (Limit u) x body line rest env sc ∷ ks) h = omega arith
floor_free code homes owners fr row (ForS (FirstOf limit step) x body line rest env sc ∷ ks) h = omega arith
floor_free code homes owners fr row (ForS (LimitOf u step) x body line rest env sc ∷ ks) h = omega arith
floor_free code homes owners fr row (ForS (StepOf u v) x body line rest env sc ∷ ks) h = omega arith
floor_free code homes owners fr row (LocalS xs rest env sc listed ∷ ks) h = omega arith
floor_free code homes owners fr row (AssignS xs rest env sc form ∷ ks) h = omega arith
floor_free code homes owners fr row (DropS rest env sc alone ∷ ks) h = omega arith
floor_free code homes owners fr row (ReturnS sc form ∷ ks) h = omega arith
floor_free code homes owners fr row (TailS sc ∷ ks) h = omega arith
floor_free code homes owners fr row (GenericS xs body line rest env sc listed ∷ ks) h = omega arith
floor_free code homes owners fr row (TurnS f state xs body line rest env sc r pay s l ∷ ks) h = omega arith
floor_free code homes owners fr row (BeginS f ∷ ks) h = omega arith
floor_free code homes owners fr row (BlockS rest env sc ∷ ks) h = omega arith
floor_free code homes owners fr row (WhileLoopS e body rest env sc c ∷ ks) h = omega arith
floor_free code homes owners fr row (RepeatLoopS body e rest env sc m s ∷ ks) h = omega arith
floor_free code homes owners fr row (NumericLoopS n at step x body rest env sc pay p ∷ ks) h = omega arith
floor_free code homes owners fr row (GenericLoopS f state control xs body line rest env sc r pay s l ∷ ks) h = omega arith
floor_free code homes owners fr row (CallS line ∷ ks) h = omega arith

stage_low : (s : Stage) (d : ℕ) → d ≤ stage_place s d
stage_low (First limit) d = omega arith
stage_low (Limit u) d = omega arith
stage_low (FirstOf limit step) d = omega arith
stage_low (LimitOf u step) d = omega arith
stage_low (StepOf u v) d = omega arith

-- below N slots and C cells nothing changes, and each location stays where it is
pub record Agrees (homes more : Homes) (owners others : Owners) (fr : View) (boxes : List ℕ) (row line : List Value) (N C : ℕ) : Type 0 where
  pub homes_stay : (l : ℕ) (h : Home) → slice_get homes l ≡ Some h → slice_get more l ≡ Some h
  pub owners_stay : (s : ℕ) → s < N → others (fr.base + s) ≡ owners (fr.base + s)
  pub row_stays : (s : ℕ) → s < N → value_at line (fr.base + s) ≡ value_at row (fr.base + s)
  pub cells_stay : (c : ℕ) → c < C → cell_of boxes c ≡ cell_of fr.boxes c

-- The same, but from slot F on places may lose their owners.
pub record Leaves (homes more : Homes) (owners others : Owners) (fr : View) (boxes : List ℕ) (row line : List Value) (N C F : ℕ) : Type 0 where
  pub homes_stay : (l : ℕ) (h : Home) → slice_get homes l ≡ Some h → slice_get more l ≡ Some h
  pub owners_stay : (s : ℕ) → s < F → others (fr.base + s) ≡ owners (fr.base + s)
  pub owners_none : (s : ℕ) → s < N → owners (fr.base + s) ≡ None → others (fr.base + s) ≡ None
  pub row_stays : (s : ℕ) → s < N → value_at line (fr.base + s) ≡ value_at row (fr.base + s)
  pub cells_stay : (c : ℕ) → c < C → cell_of boxes c ≡ cell_of fr.boxes c

module _ (code : Code) (homes more : Homes) (owners others : Owners) (fr : View) (boxes : List ℕ) (row line : List Value) (N C F : ℕ) (agrees : Leaves homes more owners others fr boxes row line N C F) where
  abbrev to : View
  to = record fr { boxes = boxes }

  has_map : (free cells l : ℕ) (p : Place) → free ≤ F → cells ≤ C → Has homes owners fr free cells p l → Has more others to free cells p l
  has_map free cells l (InSlot s) le lc h = (h.0, agrees.owners_stay s (omega (arith, h.0)) ∙ h.1)
  has_map free cells l (InCell c) le lc h =
      (h.0, agrees.homes_stay l _ h.1 ∙ ap (λ b. Some (AtCell b)) (sym (agrees.cells_stay c (omega (arith, h.0)))))
  has_map free cells l (InUp u) le lc h = agrees.homes_stay l _ h
  has_map free cells l Hidden le lc h = tt

  has_all : (free cells : ℕ) (ns : List Known) (ks : List Named) → free ≤ F → cells ≤ C → HasAll homes owners fr free cells ns ks → HasAll more others to free cells ns ks
  has_all free cells [] [] le lc h = tt
  has_all free cells [] (k ∷ ks) le lc h = absurd h
  has_all free cells (n ∷ ns) [] le lc h = absurd h
  has_all free cells (n ∷ ns) (k ∷ ks) le lc h = (h.0, has_map free cells k.location n.place le lc h.1, has_all free cells ns ks le lc h.2)

  pub sees_leaves : (sc : Scope) (env : Env) → sc.free ≤ F → sc.cells ≤ C → Sees homes owners fr sc env → Sees more others to sc env
  sees_leaves sc env le lc h = record { names = has_all sc.free sc.cells sc.names env.locals le lc h.names; dots = h.dots }

  pub scoped_map : (sc : Scope) (env : Env) (n c : ℕ) → n ≤ F → c ≤ C → Scoped homes owners fr sc env n c → Scoped more others to sc env n c
  scoped_map sc env n c le lc h =
      record { sees = sees_leaves sc env (let a = h.slots_in in omega (arith, a)) (let a = h.cells_in in omega (arith, a)) h.sees; slots_in = h.slots_in; cells_in = h.cells_in }

  pub inner_map : (sc : Scope) (env : Env) (n c : ℕ) → sc.free ≤ F → sc.cells ≤ C → Inner homes owners fr sc env n c → Inner more others to sc env n c
  inner_map sc env n c le lc h = record { sees = sees_leaves sc env le lc h.sees; slots_out = h.slots_out; cells_out = h.cells_out }

  pub shows_map : (p : Shown) (v : Value) (n : ℕ) → n ≤ N → Under n p → Shows fr row p v → Shows to line p v
  shows_map (Reg r) v n le u h = agrees.row_stays r (omega (arith, u)) ∙ h
  shows_map (Imm i) v n le u h = h
  shows_map (Not r) v n le u h = h ∙ ap (λ w. value.Bool (not (is_true w))) (sym (agrees.row_stays r (omega (arith, u))))
  shows_map (Holds pay) v n le u h = h
  shows_map Fails v n le u h = h

  pub keeps_map : (r : ℕ) (v : Value) → r < N → Keeps owners fr row r v → Keeps others to line r v
  keeps_map r v lt h = (agrees.owners_none r lt h.0, agrees.row_stays r lt ∙ h.1)

  pub from_map : (r n : ℕ) → r + n ≤ N → values_from line (fr.base + r) n ≡ values_from row (fr.base + r) n
  from_map r n le =
      values_same row line n (fr.base + r) (λ p low lt. (let e : fr.base + (p - fr.base) ≡ p = omega arith in
      subst (λ q. value_at line q ≡ value_at row q) e (agrees.row_stays (p - fr.base) (omega arith))))

  partly_map : (f g : Form) (us : List Value) → free_in g ≤ N → Partly fr row f g us → Partly to line f g us
  partly_map (Exactly r0) (Exactly r) us le h = (h.0, from_map r0 (length us) (omega (arith, h.0)) ∙ h.1)
  partly_map (Filled r0 n0) (Filled r n) us le h = (h.0, h.1, from_map r0 (min (length us) n0) (let e = h.0 in omega (arith, e)) ∙ h.2)
  partly_map (OnList d0) (OnList d) us le h = h
  partly_map (Alone t0 d0) (Alone t d) us le h = h
  partly_map (Exactly r0) (Filled r n) us le h = absurd h
  partly_map (Exactly r0) (OnList d) us le h = absurd h
  partly_map (Exactly r0) (Alone t d) us le h = absurd h
  partly_map (Filled r0 n0) (Exactly r) us le h = absurd h
  partly_map (Filled r0 n0) (OnList d) us le h = absurd h
  partly_map (Filled r0 n0) (Alone t d) us le h = absurd h
  partly_map (OnList d0) (Exactly r) us le h = absurd h
  partly_map (OnList d0) (Filled r n) us le h = absurd h
  partly_map (OnList d0) (Alone t d) us le h = absurd h
  partly_map (Alone t0 d0) (Exactly r) us le h = absurd h
  partly_map (Alone t0 d0) (Filled r n) us le h = absurd h
  partly_map (Alone t0 d0) (OnList d) us le h = absurd h

  staged_map : (d : ℕ) (s : Stage) → stage_place s d ≤ N → Staged fr row d s → Staged to line d s
  staged_map d (First limit) le h = tt
  staged_map d (Limit u) le h = agrees.row_stays d (omega arith) ∙ h
  staged_map d (FirstOf limit step) le h = tt
  staged_map d (LimitOf u step) le h = agrees.row_stays d (omega arith) ∙ h
  staged_map d (StepOf u v) le h = (agrees.row_stays d (omega arith) ∙ h.0, agrees.row_stays (d + 1) (omega arith) ∙ h.1)

  -- what blocks outside keep is below the locals of a block
  outer : (ks : List Spot) (n : ℕ) → free ks ≤ n → n ≤ F → Kept code homes owners fr row ks → floor ks ≤ F
  outer ks n le lf h = let a = floor_free code homes owners fr row ks h in omega arith

  pub kept_leaves : (ks : List Spot) → free ks ≤ N → cells_in ks ≤ C → floor ks ≤ F → Kept code homes owners fr row ks → Kept code more others to line ks
  kept_leaves [] le lc lf h = tt
  kept_leaves (UnaryS op line how ∷ ks) le lc lf h = (h.0, kept_leaves ks le lc lf h.1)
  kept_leaves (ChainS os env sc how ∷ ks) le lc lf h = (h.0, scoped_map sc env (floor ks) (cells_in ks) lf lc h.1, kept_leaves ks le lc lf h.2)
  kept_leaves (OperandS op line u os env sc p ∷ ks) le lc lf h =
      (shows_map p u (free ks + 1) le h.1 h.0, h.1, scoped_map sc env (floor ks) (cells_in ks) lf lc h.2, kept_leaves ks (omega arith) lc lf h.3)
  kept_leaves (SuffixS ss how env sc ∷ ks) le lc lf h = (h.0, scoped_map sc env (floor ks) (cells_in ks) lf lc h.1, kept_leaves ks le lc lf h.2)
  kept_leaves (CutS ∷ ks) le lc lf h = (h.0, kept_leaves ks le lc lf h.1)
  kept_leaves (OneS ∷ ks) le lc lf h = (h.0, kept_leaves ks le lc lf h.1)
  kept_leaves (ItemS e es env us sc form ∷ ks) le lc lf h =
      (partly_map (asked ks) form us le h.0, h.1, scoped_map sc env (floor ks) (cells_in ks) lf lc h.2, kept_leaves ks (omega (arith, h.1)) lc lf h.3)
  kept_leaves (SpreadS us form ∷ ks) le lc lf h = (partly_map (asked ks) form us le h.0, h.1, kept_leaves ks (omega (arith, h.1)) lc lf h.2)
  kept_leaves (ArgsS f line ss how env sc true ∷ ks) le lc lf h = (h.0, scoped_map sc env (floor ks) (cells_in ks) lf lc h.1, kept_leaves ks le lc lf h.2)
  kept_leaves (ArgsS f line ss how env sc false ∷ ks) le lc lf h =
      (agrees.row_stays (free ks) (omega arith) ∙ h.0, h.1, scoped_map sc env (floor ks) (cells_in ks) lf lc h.2, kept_leaves ks (omega arith) lc lf h.3)
  kept_leaves (AfterS ss how env sc come ∷ ks) le lc lf h =
      (h.0, h.1, scoped_map sc env (floor ks) (cells_in ks) lf lc h.2, kept_leaves ks le lc lf h.3)
  kept_leaves (IfS p others rest env sc ∷ ks) le lc lf h =
      (inner_map sc env (free ks) (cells_in ks) lf lc h.0, h.1, kept_leaves ks (let a = h.0.slots_out in omega (arith, a)) (let a = h.0.cells_out in omega (arith, a)) (outer ks sc.free h.0.slots_out (omega arith) h.2) h.2)
  kept_leaves (WhileS e body rest env sc c ∷ ks) le lc lf h =
      (inner_map sc env (free ks) (cells_in ks) lf lc h.0, h.1, h.2, kept_leaves ks (let a = h.0.slots_out in omega (arith, a)) (let a = h.0.cells_out in omega (arith, a)) (outer ks sc.free h.0.slots_out (omega arith) h.3) h.3)
  kept_leaves (UntilS body e rest env sc d q m s ∷ ks) le lc lf h = (
    inner_map sc env (free ks) (cells_in ks) (omega (arith, h.2)) (omega (arith, h.3)) h.0,
    h.1,
    h.2,
    h.3,
    h.4,
    kept_leaves ks (let a = h.0.slots_out in omega (arith, a, h.2)) (let a = h.0.cells_out in omega (arith, a, h.3)) (outer ks sc.free h.0.slots_out (omega (arith, h.2)) h.5) h.5,
  )
  kept_leaves (ForS stage x body line rest env sc ∷ ks) le lc lf h =
      let low = stage_low stage sc.free in (
        inner_map sc env (free ks) (cells_in ks) (omega arith) lc h.0,
        h.1,
        staged_map sc.free stage le h.2,
        kept_leaves ks (let a = h.0.slots_out in omega (arith, a)) (let a = h.0.cells_out in omega (arith, a)) (outer ks sc.free h.0.slots_out (omega arith) h.3) h.3,
      )
  kept_leaves (LocalS xs rest env sc listed ∷ ks) le lc lf h =
      (inner_map sc env (free ks) (cells_in ks) lf lc h.0, h.1, kept_leaves ks (let a = h.0.slots_out in omega (arith, a)) (let a = h.0.cells_out in omega (arith, a)) (outer ks sc.free h.0.slots_out (omega arith) h.2) h.2)
  kept_leaves (AssignS xs rest env sc form ∷ ks) le lc lf h =
      (inner_map sc env (free ks) (cells_in ks) lf lc h.0, h.1, h.2, kept_leaves ks (let a = h.0.slots_out in omega (arith, a)) (let a = h.0.cells_out in omega (arith, a)) (outer ks sc.free h.0.slots_out (omega arith) h.3) h.3)
  kept_leaves (DropS rest env sc alone ∷ ks) le lc lf h =
      (inner_map sc env (free ks) (cells_in ks) lf lc h.0, h.1, kept_leaves ks (let a = h.0.slots_out in omega (arith, a)) (let a = h.0.cells_out in omega (arith, a)) (outer ks sc.free h.0.slots_out (omega arith) h.2) h.2)
  kept_leaves (ReturnS sc form ∷ ks) le lc lf h = (h.0, h.1, h.2, h.3, kept_leaves ks (omega (arith, h.0)) (omega (arith, h.1)) (outer ks sc.free h.0 (omega arith) h.4) h.4)
  kept_leaves (TailS sc ∷ ks) le lc lf h = (h.0, h.1, h.2, kept_leaves ks (omega (arith, h.0)) (omega (arith, h.1)) (outer ks sc.free h.0 (omega arith) h.3) h.3)
  kept_leaves (GenericS xs body line rest env sc listed ∷ ks) le lc lf h =
      (inner_map sc env (free ks) (cells_in ks) lf lc h.0, h.1, kept_leaves ks (let a = h.0.slots_out in omega (arith, a)) (let a = h.0.cells_out in omega (arith, a)) (outer ks sc.free h.0.slots_out (omega arith) h.2) h.2)
  kept_leaves (TurnS f state xs body line rest env sc r pay s l ∷ ks) le lc lf h = (
    inner_map sc env (free ks) (cells_in ks) (omega arith) lc h.0,
    h.1,
    agrees.row_stays sc.free (omega arith) ∙ h.2,
    agrees.row_stays (sc.free + 1) (omega arith) ∙ h.3,
    kept_leaves ks (let a = h.0.slots_out in omega (arith, a)) (let a = h.0.cells_out in omega (arith, a)) (outer ks sc.free h.0.slots_out (omega arith) h.4) h.4,
  )
  kept_leaves (BeginS f ∷ ks) le lc lf h = h
  kept_leaves (BlockS rest env sc ∷ ks) le lc lf h =
      (inner_map sc env (free ks) (cells_in ks) lf lc h.0, h.1, kept_leaves ks (let a = h.0.slots_out in omega (arith, a)) (let a = h.0.cells_out in omega (arith, a)) (outer ks sc.free h.0.slots_out (omega arith) h.2) h.2)
  kept_leaves (WhileLoopS e body rest env sc c ∷ ks) le lc lf h =
      (inner_map sc env (free ks) (cells_in ks) lf lc h.0, h.1, h.2, kept_leaves ks (let a = h.0.slots_out in omega (arith, a)) (let a = h.0.cells_out in omega (arith, a)) (outer ks sc.free h.0.slots_out (omega arith) h.3) h.3)
  kept_leaves (RepeatLoopS body e rest env sc m s ∷ ks) le lc lf h =
      (inner_map sc env (free ks) (cells_in ks) lf lc h.0, h.1, h.2, kept_leaves ks (let a = h.0.slots_out in omega (arith, a)) (let a = h.0.cells_out in omega (arith, a)) (outer ks sc.free h.0.slots_out (omega arith) h.3) h.3)
  kept_leaves (NumericLoopS n at step x body rest env sc pay p ∷ ks) le lc lf h = (
    inner_map sc env (free ks) (cells_in ks) (omega arith) lc h.0,
    h.1,
    h.2,
    keeps_map sc.free _ (omega arith) h.3,
    keeps_map (sc.free + 1) _ (omega arith) h.4,
    keeps_map (sc.free + 2) _ (omega arith) h.5,
    h.6,
    kept_leaves ks (let a = h.0.slots_out in omega (arith, a)) (let a = h.0.cells_out in omega (arith, a)) (outer ks sc.free h.0.slots_out (omega arith) h.7) h.7,
  )
  kept_leaves (GenericLoopS f state control xs body line rest env sc r pay s l ∷ ks) le lc lf h = (
    inner_map sc env (free ks) (cells_in ks) (omega arith) lc h.0,
    h.1,
    keeps_map sc.free f (omega arith) h.2,
    keeps_map (sc.free + 1) state (omega arith) h.3,
    keeps_map (sc.free + 2) control (omega arith) h.4,
    h.5,
    kept_leaves ks (let a = h.0.slots_out in omega (arith, a)) (let a = h.0.cells_out in omega (arith, a)) (outer ks sc.free h.0.slots_out (omega arith) h.6) h.6,
  )
  kept_leaves (CallS line ∷ ks) le lc lf h = tt

-- where nothing changes at all
module _ (code : Code) (homes more : Homes) (owners others : Owners) (fr : View) (boxes : List ℕ) (row line : List Value) (N C : ℕ) (agrees : Agrees homes more owners others fr boxes row line N C) where
  leaves_all : Leaves homes more owners others fr boxes row line N C N
  leaves_all =
      record { homes_stay = agrees.homes_stay; owners_stay = agrees.owners_stay; owners_none = λ s lt e. agrees.owners_stay s lt ∙ e; row_stays = agrees.row_stays; cells_stay = agrees.cells_stay }

  pub sees_map : (sc : Scope) (env : Env) → sc.free ≤ N → sc.cells ≤ C → Sees homes owners fr sc env → Sees more others (record fr { boxes = boxes }) sc env
  sees_map sc env le lc h = sees_leaves code homes more owners others fr boxes row line N C N leaves_all sc env le lc h

  pub kept_map : (ks : List Spot) → free ks ≤ N → cells_in ks ≤ C → Kept code homes owners fr row ks → Kept code more others (record fr { boxes = boxes }) line ks
  kept_map ks le lc h = kept_leaves code homes more owners others fr boxes row line N C N leaves_all ks le lc (let a = floor_free code homes owners fr row ks h in omega arith) h
