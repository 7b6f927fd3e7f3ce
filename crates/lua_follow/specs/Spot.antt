-- What a machine that stands for a state knows of each context: the scope of its terms, and in which form its values come. It is this
-- project's own.
use Rattle.std.specs.Prelude.{ℕ, ℤ, ◌+◌, Bool, true, false, List, [], ◌∷◌, ◌++◌, length, Option}
use Rattle.lua_tree.specs.Source.{Text, Block, Exp, Exps, Operands, Suffixes, Branches}
use Rattle.lua_value.specs.declared.value.Value.{Value}
use Rattle.lua_model.specs.declared.operator.Binary.{Binary}
use Rattle.lua_model.specs.declared.operator.Unary.{Unary}
use Rattle.lua_meaning.specs.State.{Env, Wanted, Context, UnaryK, ChainK, OperandK, SuffixK, OneK, ItemK, IfK, WhileK, UntilK, ForK, CutK, SpreadK, ArgsK, AfterK, LocalK, AssignK, DropK, ReturnK, GenericK, TurnK, BeginK, BlockK, WhileLoopK, RepeatLoopK, NumericLoopK, GenericLoopK, CallK}
use Rattle.lua_tree.specs.Source.{NoExp, MoreExps}
use Rattle.lua_steps.specs.Scope.{Scope}
use Rattle.lua_steps.specs.Stand.{Target, Into, Anywhere, Decided, Shown, Want, Count, AsList, AsResult}

-- where a location is: in a place of the row, or in a cell
pub data Home : Type 0 where
  AtSlot : (p : ℕ) → Home
  AtCell : (c : ℕ) → Home

-- how the values of a list come to the term that takes them
pub data Form : Type 0 where
  -- as many as there are, in the slots from r on
  Exactly : (r : ℕ) → Form
  -- n of them, cut or filled with nil, in the slots from r on
  Filled : (r n : ℕ) → Form
  -- on top of the lists, while the slots from d on are free
  OnList : (d : ℕ) → Form
  -- the value of one expression
  Alone : (t : Target) (d : ℕ) → Form

-- how the results of a call come
pub data Coming : Type 0 where
  -- n of them, to the call's slots
  ToSlots : (n : ℕ) → Coming
  OnLists : Coming
  -- from a list to n slots
  ThenSpread : (n : ℕ) → Coming
  -- as the results of the body
  ThenReturn : Coming

-- the values of a numeric `for` that come after the one that is worked on
pub data Stage : Type 0 where
  First : (limit : Exp) → Stage
  Limit : (u : Value) → Stage
  FirstOf : (limit step : Exp) → Stage
  LimitOf : (u : Value) (step : Exp) → Stage
  StepOf : (u v : Value) → Stage

-- a context as the machine serves it
pub data Spot : Type 0 where
  UnaryS : (op : Unary) (line : ℕ) (how : Target) → Spot
  ChainS : (os : Operands) (env : Env) (sc : Scope) (how : Target) → Spot
  -- p shows the left operand
  OperandS : (op : Binary) (line : ℕ) (u : Value) (os : Operands) (env : Env) (sc : Scope) (p : Shown) → Spot
  SuffixS : (ss : Suffixes) (how : Wanted) (env : Env) (sc : Scope) → Spot
  CutS : Spot
  OneS : Spot
  ItemS : (e : Exp) (es : Exps) (env : Env) (us : List Value) (sc : Scope) (form : Form) → Spot
  SpreadS : (us : List Value) (form : Form) → Spot
  ArgsS : (f : Value) (line : ℕ) (ss : Suffixes) (how : Wanted) (env : Env) (sc : Scope) (listed : Bool) → Spot
  AfterS : (ss : Suffixes) (how : Wanted) (env : Env) (sc : Scope) (come : Coming) → Spot
  IfS : (p : Block) (others : Branches) (rest : Block) (env : Env) (sc : Scope) → Spot
  -- the condition is at c
  WhileS : (e : Exp) (body rest : Block) (env : Env) (sc : Scope) (c : ℕ) → Spot
  -- the body is at s with m ticks paid, and the slots from d and the cells from q on are free where its condition is looked at
  UntilS : (body : Block) (e : Exp) (rest : Block) (env : Env) (sc : Scope) (d q m s : ℕ) → Spot
  ForS : (stage : Stage) (x : Text) (body : Block) (line : ℕ) (rest : Block) (env : Env) (sc : Scope) → Spot
  LocalS : (xs : List Text) (rest : Block) (env : Env) (sc : Scope) (listed : Bool) → Spot
  AssignS : (xs : List Text) (rest : Block) (env : Env) (sc : Scope) (form : Form) → Spot
  DropS : (rest : Block) (env : Env) (sc : Scope) (alone : Bool) → Spot
  ReturnS : (sc : Scope) (form : Form) → Spot
  TailS : (sc : Scope) → Spot
  GenericS : (xs : List Text) (body : Block) (line : ℕ) (rest : Block) (env : Env) (sc : Scope) (listed : Bool) → Spot
  -- the iterator is called at l for r values, and a turn pays and begins at s
  TurnS : (f state : Value) (xs : List Text) (body : Block) (line : ℕ) (rest : Block) (env : Env) (sc : Scope) (r pay s l : ℕ) → Spot
  BeginS : (f : Value) → Spot
  BlockS : (rest : Block) (env : Env) (sc : Scope) → Spot
  WhileLoopS : (e : Exp) (body rest : Block) (env : Env) (sc : Scope) (c : ℕ) → Spot
  RepeatLoopS : (body : Block) (e : Exp) (rest : Block) (env : Env) (sc : Scope) (m s : ℕ) → Spot
  -- the loop begins at p, and a turn pays
  NumericLoopS : (n : ℕ) (at step : ℤ) (x : Text) (body rest : Block) (env : Env) (sc : Scope) (pay p : ℕ) → Spot
  GenericLoopS : (f state control : Value) (xs : List Text) (body : Block) (line : ℕ) (rest : Block) (env : Env) (sc : Scope) (r pay s l : ℕ) → Spot
  CallS : (line : Option ℕ) → Spot

abbrev pub to_come : Stage → Exps
to_come (First limit) = MoreExps limit NoExp
to_come (Limit u) = NoExp
to_come (FirstOf limit step) = MoreExps limit (MoreExps step NoExp)
to_come (LimitOf u step) = MoreExps step NoExp
to_come (StepOf u v) = NoExp

abbrev pub so_far_of : Stage → List Value
so_far_of (First limit) = []
so_far_of (Limit u) = u ∷ []
so_far_of (FirstOf limit step) = []
so_far_of (LimitOf u step) = u ∷ []
so_far_of (StepOf u v) = u ∷ v ∷ []

abbrev pub context : Spot → Context
context (UnaryS op line how) = UnaryK op line
context (ChainS os env sc how) = ChainK os env
context (OperandS op line u os env sc p) = OperandK op line u os env
context (SuffixS ss how env sc) = SuffixK ss how env
context CutS = CutK
context OneS = OneK
context (ItemS e es env us sc form) = ItemK (MoreExps e es) env us
context (SpreadS us form) = SpreadK us
context (ArgsS f line ss how env sc listed) = ArgsK f line ss how env
context (AfterS ss how env sc come) = AfterK ss how env
context (IfS p others rest env sc) = IfK p others rest env
context (WhileS e body rest env sc c) = WhileK e body rest env
context (UntilS body e rest env sc d q m s) = UntilK body e rest env
context (ForS stage x body line rest env sc) = ForK (to_come stage) (so_far_of stage) x body line rest env
context (LocalS xs rest env sc listed) = LocalK xs rest env
context (AssignS xs rest env sc form) = AssignK xs rest env
context (DropS rest env sc alone) = DropK rest env
context (ReturnS sc form) = ReturnK
context (TailS sc) = ReturnK
context (GenericS xs body line rest env sc listed) = GenericK xs body line rest env
context (TurnS f state xs body line rest env sc r pay s l) = TurnK f state xs body line rest env
context (BeginS f) = BeginK f
context (BlockS rest env sc) = BlockK rest env
context (WhileLoopS e body rest env sc c) = WhileLoopK e body rest env
context (RepeatLoopS body e rest env sc m s) = RepeatLoopK body e rest env
context (NumericLoopS n at step x body rest env sc pay p) = NumericLoopK n at step x body rest env
context (GenericLoopS f state control xs body line rest env sc r pay s l) = GenericLoopK f state control xs body line rest env
context (CallS line) = CallK line

abbrev pub contexts : List Spot → List Context
contexts [] = []
contexts (k ∷ ks) = context k ∷ contexts ks

-- ---- registers
abbrev pub free_in : Form → ℕ
free_in (Exactly r) = r
free_in (Filled r n) = r
free_in (OnList d) = d
free_in (Alone t d) = d

abbrev pub target_in : Form → Target
target_in (Exactly r) = Into r
target_in (Filled r n) = Into r
target_in (OnList d) = Anywhere
target_in (Alone t d) = t

abbrev pub stage_place : Stage → ℕ → ℕ
stage_place (First limit) d = d
stage_place (Limit u) d = d + 1
stage_place (FirstOf limit step) d = d
stage_place (LimitOf u step) d = d + 1
stage_place (StepOf u v) d = d + 2

-- the slots below are those of values that contexts hold, or of locals
abbrev pub free : List Spot → ℕ
free [] = 0
free (UnaryS op line how ∷ ks) = free ks
free (ChainS os env sc how ∷ ks) = free ks
free (OperandS op line u os env sc p ∷ ks) = free ks + 1
free (SuffixS ss how env sc ∷ ks) = free ks
free (CutS ∷ ks) = free ks
free (OneS ∷ ks) = free ks
free (ItemS e es env us sc form ∷ ks) = free_in form
free (SpreadS us form ∷ ks) = free_in form
free (ArgsS f line ss how env sc true ∷ ks) = free ks
free (ArgsS f line ss how env sc false ∷ ks) = free ks + 1
free (AfterS ss how env sc come ∷ ks) = free ks
free (IfS p others rest env sc ∷ ks) = sc.free
free (WhileS e body rest env sc c ∷ ks) = sc.free
free (UntilS body e rest env sc d q m s ∷ ks) = d
free (ForS stage x body line rest env sc ∷ ks) = stage_place stage sc.free
free (LocalS xs rest env sc listed ∷ ks) = sc.free
free (AssignS xs rest env sc form ∷ ks) = sc.free
free (DropS rest env sc alone ∷ ks) = sc.free
free (ReturnS sc form ∷ ks) = sc.free
free (TailS sc ∷ ks) = sc.free
free (GenericS xs body line rest env sc listed ∷ ks) = sc.free
free (TurnS f state xs body line rest env sc r pay s l ∷ ks) = sc.free + 3
free (BeginS f ∷ ks) = 0
free (BlockS rest env sc ∷ ks) = sc.free
free (WhileLoopS e body rest env sc c ∷ ks) = sc.free
free (RepeatLoopS body e rest env sc m s ∷ ks) = sc.free
free (NumericLoopS n at step x body rest env sc pay p ∷ ks) = sc.free + 3
free (GenericLoopS f state control xs body line rest env sc r pay s l ∷ ks) = sc.free + 3
free (CallS line ∷ ks) = 0

-- where the value goes that is worked on
abbrev pub target : List Spot → Target
target (UnaryS op line how ∷ ks) = how
target (ChainS os env sc how ∷ ks) = how
target (SuffixS ss how env sc ∷ ks) = Into (free ks)
target (OneS ∷ SpreadS us form ∷ ks) = target_in form
target (OneS ∷ ks) = Anywhere
target (ItemS e es env us sc (Alone t d) ∷ ks) = Anywhere
target (ItemS e es env us sc form ∷ ks) = target_in form
target (IfS p others rest env sc ∷ ks) = Decided
target (WhileS e body rest env sc c ∷ ks) = Decided
target (UntilS body e rest env sc d q m s ∷ ks) = Decided
target (ForS stage x body line rest env sc ∷ ks) = Into (stage_place stage sc.free)
target _ = Anywhere

-- what is wanted of a call that comes last in a term
abbrev pub want : List Spot → Want
want (CutS ∷ ks) = Count 1
want (SpreadS us (Filled r n) ∷ ks) = Count n
want (SpreadS us form ∷ ks) = AsList
want (DropS rest env sc alone ∷ ks) = Count 0
want _ = AsResult

-- how its list comes to the first context
abbrev pub form_of : List Spot → Form
form_of (CutS ∷ ks) = Filled (free ks) 1
form_of (SpreadS us form ∷ ks) = form
form_of (ArgsS f line ss how env sc true ∷ ks) = OnList (free ks)
form_of (ArgsS f line ss how env sc false ∷ ks) = Exactly (free ks + 1)
form_of (AfterS ss how env sc (ToSlots n) ∷ ks) = Filled (free ks) n
form_of (AfterS ss how env sc come ∷ ks) = OnList (free ks)
form_of (LocalS xs rest env sc false ∷ ks) = Filled sc.free (length xs)
form_of (LocalS xs rest env sc true ∷ ks) = OnList sc.free
form_of (AssignS xs rest env sc form ∷ ks) = form
form_of (DropS rest env sc false ∷ ks) = Filled sc.free 0
form_of (DropS rest env sc true ∷ ks) = Alone Anywhere sc.free
form_of (ReturnS sc form ∷ ks) = form
form_of (GenericS xs body line rest env sc false ∷ ks) = Filled sc.free 3
form_of (GenericS xs body line rest env sc true ∷ ks) = OnList sc.free
form_of (TurnS f state xs body line rest env sc r pay s l ∷ ks) = Filled (sc.free + 3) r
form_of _ = OnList 0

-- how a term asks for its list
abbrev pub asked : List Spot → Form
asked (SpreadS us form ∷ ks) = Alone Decided 0
asked ks = form_of ks

-- a call's function stands first in the list of its arguments
abbrev pub before : List Spot → List Value
before (ArgsS f line ss how env sc true ∷ ks) = f ∷ []
before _ = []

-- the lists under construction, where a context has its own
abbrev pub list_in : Form → List Value → List (List Value) → List (List Value)
list_in (OnList d) vs ls = vs ∷ ls
list_in _ vs ls = ls

abbrev pub lists_of : List Spot → List (List Value)
lists_of [] = []
lists_of (CallS line ∷ ks) = []
lists_of (BeginS f ∷ ks) = (f ∷ []) ∷ []
lists_of (ItemS e es env us sc form ∷ ks) = list_in form (before ks ++ us) (lists_of ks)
lists_of (SpreadS us form ∷ ks) = list_in form (before ks ++ us) (lists_of ks)
lists_of (k ∷ ks) = lists_of ks
