-- What a frame keeps for the contexts that wait: the values that they hold, and what their terms see (manual, section 3.5). It is this
-- project's own.
use Rattle.std.specs.Prelude.{◌≡◌, ℕ, ◌+◌, ◌-◌, ◌<◌, ◌≤◌, true, false, not, List, [], ◌∷◌, length, Some, None, min}
use Rattle.lua_tree.specs.Source.{Text}
use Rattle.lua_value.specs.declared.value.Value.{Value}
use Rattle.lua_value.specs.declared.value.Value.TheVariants as value
use Rattle.lua_value.specs.Same.{is_true}
use Rattle.lua_value.specs.Lists.{value_at, adjusted}
use Rattle.lua_meaning.specs.State.{Env, Values, Result, Wanted}
use Rattle.lua_steps.specs.Machine.{Code}
use Rattle.lua_steps.specs.Moves.{values_from}
use Rattle.lua_steps.specs.Loops.{counted}
use Rattle.lua_steps.specs.declared.scope.Place.TheVariants.{InSlot}
use Rattle.lua_steps.specs.Scope.{Scope, past, place_of}
use Rattle.lua_steps.specs.Stand.{IsDeclares, WhereOne, Into, Anywhere, Decided, Shown, Reg, Imm, Not, Holds, Fails, register, Want, Count, AsList}
use Rattle.lua_steps.specs.Serves.{IsExp, IsBlock}
use Rattle.lua_follow.specs.Spot.{free_in, Form, Exactly, Filled, OnList, Alone, Coming, ToSlots, OnLists, ThenSpread, Stage, First, Limit, FirstOf, LimitOf, StepOf, Spot, UnaryS, ChainS, OperandS, SuffixS, CutS, OneS, ItemS, SpreadS, ArgsS, AfterS, IfS, WhileS, UntilS, ForS, LocalS, AssignS, DropS, ReturnS, TailS, GenericS, TurnS, BeginS, BlockS, WhileLoopS, RepeatLoopS, NumericLoopS, GenericLoopS, CallS, free, target, asked, want}
use Rattle.lua_follow.specs.Takes.{Takes, Ends, Exits, Iterates, wanted}
use Rattle.lua_follow.specs.Memory.{Homes, Owners, View, Sees}

-- ---- values
-- a frame shows the value so
abbrev pub Shows : View → List Value → Shown → Value → Type 0
Shows fr row (Reg r) v = value_at row (fr.base + r) ≡ v
Shows fr row (Imm n) v = v ≡ value.Int n
Shows fr row (Not r) v = v ≡ value.Bool (not (is_true (value_at row (fr.base + r))))
Shows fr row (Holds pay) v = is_true v ≡ true
Shows fr row Fails v = is_true v ≡ false

-- a shown slot is below n
abbrev pub Under : ℕ → Shown → Type 0
Under n (Reg r) = r < n
Under n (Not r) = r < n
Under n _ = Unit {0}

-- these values stand from slot r on
abbrev pub Stand : View → List Value → ℕ → List Value → Type 0
Stand fr row r vs = values_from row (fr.base + r) (length vs) ≡ vs

-- of a list so far those that are wanted stand in slots up to r, or they are in a list
abbrev pub Partly : View → List Value → Form → Form → List Value → Type 0
Partly fr row (Exactly r0) (Exactly r) us = (r ≡ r0 + length us) × Stand fr row r0 us
Partly fr row (Filled r0 n0) (Filled r n) us =
    (r ≡ r0 + min (length us) n0) × (n ≡ n0 - length us) × (values_from row (fr.base + r0) (min (length us) n0) ≡ adjusted (min (length us) n0) us)
Partly fr row (OnList d0) (OnList d) us = d ≡ d0
Partly fr row (Alone t0 d0) (Alone t d) us = (t ≡ t0) × (d ≡ d0) × (us ≡ []) × (t ≡ Decided → ⊥)
Partly fr row _ _ us = ⊥

-- a value that holds no local, in slot r
abbrev pub Keeps : Owners → View → List Value → ℕ → Value → Type 0
Keeps owners fr row r v = (owners (fr.base + r) ≡ None) × (value_at row (fr.base + r) ≡ v)

-- ---- scopes
-- the first slot that no local has
abbrev pub floor : List Spot → ℕ
floor [] = 0
floor (IfS p others rest env sc ∷ ks) = sc.free
floor (WhileS e body rest env sc c ∷ ks) = sc.free
floor (UntilS body e rest env sc d q m s ∷ ks) = d
floor (ForS stage x body line rest env sc ∷ ks) = sc.free
floor (LocalS xs rest env sc listed ∷ ks) = sc.free
floor (AssignS xs rest env sc form ∷ ks) = sc.free
floor (DropS rest env sc alone ∷ ks) = sc.free
floor (ReturnS sc form ∷ ks) = sc.free
floor (TailS sc ∷ ks) = sc.free
floor (GenericS xs body line rest env sc listed ∷ ks) = sc.free
floor (TurnS f state xs body line rest env sc r pay s l ∷ ks) = sc.free
floor (BeginS f ∷ ks) = 0
floor (BlockS rest env sc ∷ ks) = sc.free
floor (WhileLoopS e body rest env sc c ∷ ks) = sc.free
floor (RepeatLoopS body e rest env sc m s ∷ ks) = sc.free
floor (NumericLoopS n at step x body rest env sc pay p ∷ ks) = sc.free + 3
floor (GenericLoopS f state control xs body line rest env sc r pay s l ∷ ks) = sc.free + 3
floor (CallS line ∷ ks) = 0
floor (_ ∷ ks) = floor ks

-- the first cell of the frame that no local has
abbrev pub cells_in : List Spot → ℕ
cells_in [] = 0
cells_in (IfS p others rest env sc ∷ ks) = sc.cells
cells_in (WhileS e body rest env sc c ∷ ks) = sc.cells
cells_in (UntilS body e rest env sc d q m s ∷ ks) = q
cells_in (ForS stage x body line rest env sc ∷ ks) = sc.cells
cells_in (LocalS xs rest env sc listed ∷ ks) = sc.cells
cells_in (AssignS xs rest env sc form ∷ ks) = sc.cells
cells_in (DropS rest env sc alone ∷ ks) = sc.cells
cells_in (ReturnS sc form ∷ ks) = sc.cells
cells_in (TailS sc ∷ ks) = sc.cells
cells_in (GenericS xs body line rest env sc listed ∷ ks) = sc.cells
cells_in (TurnS f state xs body line rest env sc r pay s l ∷ ks) = sc.cells
cells_in (BeginS f ∷ ks) = 0
cells_in (BlockS rest env sc ∷ ks) = sc.cells
cells_in (WhileLoopS e body rest env sc c ∷ ks) = sc.cells
cells_in (RepeatLoopS body e rest env sc m s ∷ ks) = sc.cells
cells_in (NumericLoopS n at step x body rest env sc pay p ∷ ks) = sc.cells
cells_in (GenericLoopS f state control xs body line rest env sc r pay s l ∷ ks) = sc.cells
cells_in (CallS line ∷ ks) = 0
cells_in (_ ∷ ks) = cells_in ks

-- a term's scope, within the slots and the cells of the contexts below it
pub record Scoped (homes : Homes) (owners : Owners) (fr : View) (sc : Scope) (env : Env) (slots cells : ℕ) : Type 0 where
  pub sees : Sees homes owners fr sc env
  pub slots_in : sc.free ≤ slots
  pub cells_in : sc.cells ≤ cells

-- a scope within which the slots and cells of those outside are
pub record Inner (homes : Homes) (owners : Owners) (fr : View) (sc : Scope) (env : Env) (slots cells : ℕ) : Type 0 where
  pub sees : Sees homes owners fr sc env
  pub slots_out : slots ≤ sc.free
  pub cells_out : cells ≤ sc.cells

-- only blocks, loops and bodies wait
abbrev pub Round : List Spot → Type 0
Round [] = ⊥
Round (BlockS rest env sc ∷ ks) = Round ks
Round (WhileLoopS e body rest env sc c ∷ ks) = Round ks
Round (RepeatLoopS body e rest env sc m s ∷ ks) = Round ks
Round (NumericLoopS n at step x body rest env sc pay p ∷ ks) = Round ks
Round (GenericLoopS f state control xs body line rest env sc r pay s l ∷ ks) = Round ks
Round (CallS line ∷ ks) = Unit {0}
Round (_ ∷ ks) = ⊥

-- where the results of a call that comes last in a term go: they are values, or the results of the body
abbrev pub AsValues : Wanted → Type 0
AsValues Values = Unit {0}
AsValues Result = ⊥

abbrev pub AsOwn : Wanted → Type 0
AsOwn Values = ⊥
AsOwn Result = Unit {0}

abbrev pub Suits : Wanted → List Spot → Type 0
Suits how (CutS ∷ ks) = AsValues how
Suits how (SpreadS us (Filled r n) ∷ ks) = AsValues how
Suits how (SpreadS us (OnList d) ∷ ks) = AsValues how
Suits how (DropS rest env sc false ∷ ks) = AsValues how
Suits how (TailS sc ∷ ks) = AsOwn how
Suits how _ = ⊥

-- the contexts that take a list of one value
abbrev pub Alonely : List Spot → Type 0
Alonely (SpreadS us form ∷ ks) = Unit {0}
Alonely (DropS rest env sc true ∷ ks) = Unit {0}
Alonely _ = ⊥

-- in which way the results of a call come that are wanted so
abbrev pub Comes : Coming → Want → Type 0
Comes (ToSlots n) (Count k) = n ≡ k
Comes (ThenSpread n) (Count k) = n ≡ k
Comes OnLists AsList = Unit {0}
Comes _ _ = ⊥

-- the values of a numeric `for` so far
abbrev pub Staged : View → List Value → ℕ → Stage → Type 0
Staged fr row d (First limit) = Unit {0}
Staged fr row d (Limit u) = value_at row (fr.base + d) ≡ u
Staged fr row d (FirstOf limit step) = Unit {0}
Staged fr row d (LimitOf u step) = value_at row (fr.base + d) ≡ u
Staged fr row d (StepOf u v) = (value_at row (fr.base + d) ≡ u) × (value_at row (fr.base + (d + 1)) ≡ v)

-- the form in which an assignment takes its values
abbrev pub Assigns : Scope → List Text → Form → Type 0
Assigns sc xs (Alone (Into s) d) = (d ≡ sc.free) × WhereOne xs (λ x. place_of sc.names x ≡ Some (InSlot s))
Assigns sc xs (Alone Anywhere d) = d ≡ sc.free
Assigns sc xs (Filled r n) = (r ≡ sc.free) × (n ≡ length xs)
Assigns sc xs (OnList d) = d ≡ sc.free
Assigns sc xs _ = ⊥

abbrev pub Returns : Scope → Form → Type 0
Returns sc (Alone Anywhere d) = d ≡ sc.free
Returns sc (Exactly r) = r ≡ sc.free
Returns sc (OnList d) = d ≡ sc.free
Returns sc _ = ⊥

-- n turns are to come after this one, each of 64 bits
abbrev pub Counted : ℕ → Type 0
Counted n = n < 18446744073709551616

abbrev pub Kept : Code → Homes → Owners → View → List Value → List Spot → Type 0
Kept code homes owners fr row [] = Unit {0}
Kept code homes owners fr row (UnaryS op line how ∷ ks) = (register how (free ks) ≡ free ks) × Kept code homes owners fr row ks
Kept code homes owners fr row (ChainS os env sc how ∷ ks) =
    (register how (free ks) ≡ free ks) × Scoped homes owners fr sc env (floor ks) (cells_in ks) × Kept code homes owners fr row ks
Kept code homes owners fr row (OperandS op line u os env sc p ∷ ks) =
    Shows fr row p u × Under (free ks + 1) p × Scoped homes owners fr sc env (floor ks) (cells_in ks) × Kept code homes owners fr row ks
Kept code homes owners fr row (SuffixS ss how env sc ∷ ks) =
    Suits how ks × Scoped homes owners fr sc env (floor ks) (cells_in ks) × Kept code homes owners fr row ks
Kept code homes owners fr row (CutS ∷ ks) = (register (target ks) (free ks) ≡ free ks) × Kept code homes owners fr row ks
Kept code homes owners fr row (OneS ∷ ks) = Alonely ks × Kept code homes owners fr row ks
Kept code homes owners fr row (ItemS e es env us sc form ∷ ks) =
    Partly fr row (asked ks) form us × (free ks ≤ free_in form) × Scoped homes owners fr sc env (floor ks) (cells_in ks) × Kept code homes owners fr row ks
Kept code homes owners fr row (SpreadS us form ∷ ks) =
    Partly fr row (asked ks) form us × (free ks ≤ free_in form) × Kept code homes owners fr row ks
Kept code homes owners fr row (ArgsS f line ss how env sc true ∷ ks) =
    Suits how ks × Scoped homes owners fr sc env (floor ks) (cells_in ks) × Kept code homes owners fr row ks
Kept code homes owners fr row (ArgsS f line ss how env sc false ∷ ks) =
    (value_at row (fr.base + free ks) ≡ f) × Suits how ks × Scoped homes owners fr sc env (floor ks) (cells_in ks) × Kept code homes owners fr row ks
Kept code homes owners fr row (AfterS ss how env sc come ∷ ks) =
    Comes come (wanted ss (want ks)) × Suits how ks × Scoped homes owners fr sc env (floor ks) (cells_in ks) × Kept code homes owners fr row ks
Kept code homes owners fr row (IfS p others rest env sc ∷ ks) = Inner homes owners fr sc env (free ks) (cells_in ks) × Round ks × Kept code homes owners fr row ks
Kept code homes owners fr row (WhileS e body rest env sc c ∷ ks) =
    Inner homes owners fr sc env (free ks) (cells_in ks) × Round ks
    × IsExp code fr.function sc e c sc.free Decided (Takes code fr.function (WhileS e body rest env sc c ∷ ks)) × Kept code homes owners fr row ks
Kept code homes owners fr row (UntilS body e rest env sc d q m s ∷ ks) =
    Inner homes owners fr sc env (free ks) (cells_in ks) × Round ks × (sc.free ≤ d) × (sc.cells ≤ q)
    × IsBlock code fr.function sc body m s (Exits code fr.function (RepeatLoopS body e rest env sc m s ∷ ks)) (Ends code fr.function (RepeatLoopS body e rest env sc m s ∷ ks))
    × Kept code homes owners fr row ks
Kept code homes owners fr row (ForS stage x body line rest env sc ∷ ks) =
    Inner homes owners fr sc env (free ks) (cells_in ks) × Round ks × Staged fr row sc.free stage × Kept code homes owners fr row ks
Kept code homes owners fr row (LocalS xs rest env sc listed ∷ ks) = Inner homes owners fr sc env (free ks) (cells_in ks) × Round ks × Kept code homes owners fr row ks
Kept code homes owners fr row (AssignS xs rest env sc form ∷ ks) =
    Inner homes owners fr sc env (free ks) (cells_in ks) × Round ks × Assigns sc xs form × Kept code homes owners fr row ks
Kept code homes owners fr row (DropS rest env sc alone ∷ ks) = Inner homes owners fr sc env (free ks) (cells_in ks) × Round ks × Kept code homes owners fr row ks
Kept code homes owners fr row (ReturnS sc form ∷ ks) = (free ks ≤ sc.free) × (cells_in ks ≤ sc.cells) × Round ks × Returns sc form × Kept code homes owners fr row ks
Kept code homes owners fr row (TailS sc ∷ ks) = (free ks ≤ sc.free) × (cells_in ks ≤ sc.cells) × Round ks × Kept code homes owners fr row ks
Kept code homes owners fr row (GenericS xs body line rest env sc listed ∷ ks) =
    Inner homes owners fr sc env (free ks) (cells_in ks) × Round ks × Kept code homes owners fr row ks
Kept code homes owners fr row (TurnS f state xs body line rest env sc r pay s l ∷ ks) =
    Inner homes owners fr sc env (free ks) (cells_in ks) × Round ks
    × (value_at row (fr.base + sc.free) ≡ f) × (value_at row (fr.base + (sc.free + 1)) ≡ state) × Kept code homes owners fr row ks
Kept code homes owners fr row (BeginS f ∷ ks) = ks ≡ []
Kept code homes owners fr row (BlockS rest env sc ∷ ks) = Inner homes owners fr sc env (free ks) (cells_in ks) × Round ks × Kept code homes owners fr row ks
Kept code homes owners fr row (WhileLoopS e body rest env sc c ∷ ks) =
    Inner homes owners fr sc env (free ks) (cells_in ks) × Round ks
    × IsExp code fr.function sc e c sc.free Decided (Takes code fr.function (WhileS e body rest env sc c ∷ ks)) × Kept code homes owners fr row ks
Kept code homes owners fr row (RepeatLoopS body e rest env sc m s ∷ ks) =
    Inner homes owners fr sc env (free ks) (cells_in ks) × Round ks
    × IsBlock code fr.function sc body m s (Exits code fr.function (RepeatLoopS body e rest env sc m s ∷ ks)) (Ends code fr.function (RepeatLoopS body e rest env sc m s ∷ ks))
    × Kept code homes owners fr row ks
Kept code homes owners fr row (NumericLoopS n at step x body rest env sc pay p ∷ ks) =
    Inner homes owners fr sc env (free ks) (cells_in ks) × Round ks × Counted n
    × Keeps owners fr row sc.free (counted n) × Keeps owners fr row (sc.free + 1) (value.Int at) × Keeps owners fr row (sc.free + 2) (value.Int step)
    × IsDeclares code fr.function (past 3 sc) (x ∷ []) (p + 1) (λ inner s.
    IsBlock code fr.function inner body pay s (Exits code fr.function (NumericLoopS n at step x body rest env sc pay p ∷ ks)) (Ends code fr.function (NumericLoopS n at step x body rest env sc pay p ∷ ks)))
    × Kept code homes owners fr row ks
Kept code homes owners fr row (GenericLoopS f state control xs body line rest env sc r pay s l ∷ ks) =
    Inner homes owners fr sc env (free ks) (cells_in ks) × Round ks
    × Keeps owners fr row sc.free f × Keeps owners fr row (sc.free + 1) state × Keeps owners fr row (sc.free + 2) control
    × Iterates code fr.function sc xs body line (λ y. IsBlock code fr.function sc rest 0 y (Exits code fr.function ks) (Ends code fr.function ks)) l r pay s
    × Kept code homes owners fr row ks
Kept code homes owners fr row (CallS line ∷ ks) = Unit {0}
