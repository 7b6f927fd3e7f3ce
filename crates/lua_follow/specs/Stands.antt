-- Which machine stands for which state. It is this project's own.
use Rattle.std.specs.Prelude.{◌≡◌, ℕ, ◌+◌, ◌≤◌, ◌⊎◌, List, [], ◌∷◌, ◌++◌, length, Some, slice_get}
use Rattle.lua_value.specs.declared.value.Value.{Value}
use Rattle.lua_value.specs.Lists.{adjusted}
use Rattle.lua_code.specs.Routine.{Routine}
use Rattle.lua_meaning.specs.State as meaning
use Rattle.lua_meaning.specs.State.{Focus, Eval, Gives, Lists, Run, State}
use Rattle.lua_steps.specs.Machine as machine
use Rattle.lua_steps.specs.Machine.{Code, Frame, Machine, InSlots, OnTop}
use Rattle.lua_steps.specs.Moves.{values_from}
use Rattle.lua_steps.specs.Scope.{Scope}
use Rattle.lua_steps.specs.Stand.{Target, Anywhere, Decided, Shown, Holds, register, IsThere}
use Rattle.lua_steps.specs.Serves.{IsExp, IsBlock}
use Rattle.lua_follow.specs.Spot.{Form, Exactly, Filled, OnList, Alone, Spot, ChainS, SpreadS, AssignS, BeginS, CallS, contexts, free, target, form_of, before, lists_of, target_in}
use Rattle.lua_follow.specs.Takes.{Takes, TakesOne, TakesUpTo, TakesAll, Ends, Exits}
use Rattle.lua_follow.specs.Memory.{Homes, Owners, View, view, Memory}
use Rattle.lua_follow.specs.Kept.{Shows, Under, Stand, Kept, Scoped, Inner, Round, floor, cells_in}

-- ---- frames
-- the row has the frame's slots, and the frame its cells
pub record Room (code : Code) (fr : View) (row : List Value) : Type 0 where
  pub routine : Routine
  pub is : slice_get code fr.function ≡ Some routine
  pub slots : fr.base + routine.shape.slots ≤ length row
  pub cells : length fr.boxes ≡ routine.shape.cells

-- the first frame of a thread has no slots
abbrev pub RoomFor : Code → View → List Value → List Spot → Type 0
RoomFor code fr row [] = Unit {0}
RoomFor code fr row (BeginS f ∷ ks) = Unit {0}
RoomFor code fr row (_ ∷ ks) = Room code fr row

abbrev pub RoomAt : Code → View → List Value → Focus → List Spot → Type 0
RoomAt code fr row (Lists vs) ks = RoomFor code fr row ks
RoomAt code fr row _ ks = Room code fr row

-- a frame whose slots begin at `base` waits for its values in this form, within the row and above what it keeps
abbrev pub Awaits : ℕ → ℕ → ℕ → machine.Wanted → Form → Type 0
Awaits base long low (InSlots to count) (Filled r n) = (to ≡ r) × (count ≡ n) × (base + r + n ≤ long) × (low ≤ r)
Awaits base long low OnTop (OnList d) = Unit {0}
Awaits base long low _ _ = ⊥

-- a frame waits for a list, and then serves these contexts
pub record Parked (code : Code) (homes : Homes) (owners : Owners) (row : List Value) (fr : Frame) (ks : List Spot) : Type 0 where
  pub takes : TakesAll code fr.function ks fr.at
  pub awaits : Awaits fr.base (length row) (free ks) fr.wants (form_of ks)
  -- it waits for no arguments
  pub first : before ks ≡ []
  pub kept : Kept code homes owners (view fr) row ks
  pub lists : fr.lists ≡ lists_of ks
  pub room : RoomFor code (view fr) row ks

-- each body's call has its frame, whose slots are below n
abbrev pub Below : Code → Homes → Owners → List Value → ℕ → List Spot → List Frame → Type 0
Below code homes owners row n [] [] = Unit {0}
Below code homes owners row n [] (fr ∷ frs) = ⊥
Below code homes owners row n (CallS line ∷ ks) [] = ⊥
Below code homes owners row n (CallS line ∷ ks) (fr ∷ frs) =
    (fr.base + free ks ≤ n) × Parked code homes owners row fr ks × Below code homes owners row fr.base ks frs
Below code homes owners row n (_ ∷ ks) frs = Below code homes owners row n ks frs

-- ---- the running frame
-- the target of a value that is there already
abbrev pub needed : List Spot → Target
needed (ChainS os env sc how ∷ ks) = Decided
needed ks = target ks

abbrev pub needed_alone : List Spot → Target
needed_alone (SpreadS us form ∷ ks) = target_in form
needed_alone (AssignS xs rest env sc (Alone t d) ∷ ks) = t
needed_alone ks = Anywhere

-- the ticks that are paid in advance where a value is shown so
abbrev pub ahead : Shown → ℕ
ahead (Holds pay) = pay
ahead _ = 0

-- a list has come in this form
abbrev pub Came : View → List Value → List (List Value) → List Spot → Form → List Value → Type 0
Came fr row lists ks (Filled r n) vs = (values_from row (fr.base + r) n ≡ adjusted n vs) × (lists ≡ lists_of ks)
Came fr row lists ks (OnList d) vs = lists ≡ (before ks ++ vs) ∷ lists_of ks
Came fr row lists ks _ vs = ⊥

-- the values of the first form's slots are these
abbrev pub CameUpTo : View → List Value → Form → ℕ → List Value → Type 0
CameUpTo fr row (Exactly r) m vs = (m ≡ r + length vs) × Stand fr row r vs
CameUpTo fr row _ m vs = ⊥

abbrev pub Lies : Code → Frame → List Value → (ℕ → ℕ → Type 0) → List Spot → List Value → Type 0
Lies code fr row Mem ks vs =
    ((v : Value) × (p : Shown) × (vs ≡ v ∷ []) × TakesOne code fr.function ks fr.at p × Shows (view fr) row p v × IsThere (needed_alone ks) p × Under (free ks + 1) p
    × (ahead p ≡ 0) × (fr.lists ≡ lists_of ks) × Mem (floor ks) (register (needed_alone ks) (free ks)))
    ⊎ ((m : ℕ) × TakesUpTo code fr.function ks fr.at m × CameUpTo (view fr) row (form_of ks) m vs × (fr.lists ≡ lists_of ks) × Mem (floor ks) (floor ks))
    ⊎ (TakesAll code fr.function ks fr.at × Came (view fr) row fr.lists ks (form_of ks) vs × Mem (floor ks) (floor ks))

-- Mem says where values are: in slots below the first number, but for one.
abbrev pub Here : Code → Homes → Owners → Frame → List Value → (ℕ → ℕ → Type 0) → Focus → List Spot → ℕ → Type 0
Here code homes owners fr row Mem (Eval e env) ks k =
    (k ≡ 0) × (sc : Scope) × IsExp code fr.function sc e fr.at (free ks) (target ks) (Takes code fr.function ks)
    × Scoped homes owners (view fr) sc env (floor ks) (cells_in ks) × (fr.lists ≡ lists_of ks) × Mem (floor ks) (floor ks)
Here code homes owners fr row Mem (Gives v) ks k =
    (p : Shown) × Takes code fr.function ks fr.at p × Shows (view fr) row p v × IsThere (needed ks) p × Under (free ks + 1) p × (k ≡ ahead p)
    × (fr.lists ≡ lists_of ks) × Mem (floor ks) (register (needed ks) (free ks))
Here code homes owners fr row Mem (Lists vs) ks k = (k ≡ 0) × Lies code fr row Mem ks vs
Here code homes owners fr row Mem (Run b env) ks k =
    (sc : Scope) × IsBlock code fr.function sc b k fr.at (Exits code fr.function ks) (Ends code fr.function ks)
    × Inner homes owners (view fr) sc env (free ks) (cells_in ks) × Round ks × (fr.lists ≡ lists_of ks) × Mem sc.free sc.free
Here code homes owners fr row Mem _ ks k = ⊥

-- what both have alike
pub record Beside (m : machine.Aside) (s : meaning.Aside) : Type 0 where
  pub name : m.name ≡ s.name
  pub heap : m.heap ≡ s.heap
  -- no thread resumes another yet
  pub alone : m.resumers ≡ []
  pub lone : s.resumers ≡ []

-- The machine stands for the state of this focus in these contexts, with k ticks paid in advance.
pub record Stands (code : Code) (m : Machine) (s : State) (ks : List Spot) (k : ℕ) : Type 0 where
  pub homes : Homes
  pub owners : Owners
  pub here :
      Here code homes owners m.top m.row
      (λ end but. Memory code homes owners m.row m.cells m.closures s.store s.closures (m.top.base + end) (m.top.base + but)) s.focus ks k
  pub kept : Kept code homes owners (view m.top) m.row ks
  pub below : Below code homes owners m.row m.top.base ks m.below
  pub room : RoomAt code (view m.top) m.row s.focus ks
  pub beside : Beside m.aside s.aside

-- the machine waits for a list, as the state does
pub record Waits (code : Code) (m : Machine) (s : State) : Type 0 where
  pub ks : List Spot
  pub is : s.ks ≡ contexts ks
  pub homes : Homes
  pub owners : Owners
  pub memory : Memory code homes owners m.row m.cells m.closures s.store s.closures (m.top.base + floor ks) (m.top.base + floor ks)
  pub parked : Parked code homes owners m.row m.top ks
  pub below : Below code homes owners m.row m.top.base ks m.below
  pub beside : Beside m.aside s.aside
  pub left : s.left ≡ m.left
