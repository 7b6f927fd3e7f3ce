-- What stands at places of the code: single operations, and the forms in which a value is shown to the operation that takes it. They
-- are this project's own.
use Rattle.std.specs.Prelude.{◌≡◌, ℕ, zero, suc, ◌+◌, ◌≤◌, ◌⊎◌, List, [], ◌∷◌, length, Option, Some, None, ℤ, neg_ℤ}
use Rattle.lua_tree.specs.Source.{Text, Operands, NoOperand, MoreOperands}
use Rattle.lua_model.specs.declared.operator.Binary.{Binary}
use Rattle.lua_model.specs.declared.operator.Binary.TheVariants as binary
use Rattle.lua_model.specs.declared.operator.Unary.{Unary}
use Rattle.lua_model.specs.declared.operator.Unary.TheVariants as unary
use Rattle.lua_model.specs.Integer as lua
use Rattle.lua_meaning.specs.Values.{Link, Both, Either, Strict}
use Rattle.lua_code.specs.declared.function.Constant.TheVariants as constant
use Rattle.lua_code.specs.declared.op.Op.{Op}
use Rattle.lua_code.specs.declared.op.Op.TheVariants as op
use Rattle.lua_steps.specs.Machine.{Code}
use Rattle.lua_steps.specs.Exec.{op_at, line_at, constant_at}
use Rattle.lua_steps.specs.declared.scope.Place.{Place}
use Rattle.lua_steps.specs.declared.scope.Place.TheVariants.{InSlot, InCell, InUp, Hidden}
use Rattle.lua_steps.specs.Scope.{Scope, place_of, in_slot, in_cell, past}

-- ---- operations
-- this operation is at place a of function f
abbrev pub At : Code → ℕ → ℕ → Op → Type 0
At code f a o = op_at code f a ≡ Some o

-- and it has this line
abbrev pub AtLine : Code → ℕ → ℕ → Op → ℕ → Type 0
AtLine code f a o line = At code f a o × (line_at code f a ≡ Some line)

abbrev pub AtSome : Code → ℕ → ℕ → Option Op → ℕ → Type 0
AtSome code f a None line = ⊥
AtSome code f a (Some o) line = AtLine code f a o line

-- the code comes to a place of which R holds, by one jump at most
abbrev pub Leads : Code → ℕ → ℕ → (ℕ → Type 0) → Type 0
Leads code f a R = R a ⊎ ((j : ℕ) × At code f a (op.Jump j) × R j)

-- A tick is paid: it was one of those that an operation before paid in advance, or an operation here pays it and maybe more.
-- R holds of the ticks that are paid in advance from there on, and of the place that comes next.
abbrev pub Ticks : Code → ℕ → ℕ → ℕ → (ℕ → ℕ → Type 0) → Type 0
Ticks code f (suc k) a R = R k a
Ticks code f zero a R =
    ((n : ℕ) × At code f a (op.Tick (suc n)) × R n (a + 1)) ⊎ ((n j : ℕ) × At code f a (op.Loop (suc n) j) × R n j)

-- a tick is paid, and something is done before the next one
abbrev pub Tick : Code → ℕ → ℕ → ℕ → (ℕ → Type 0) → Type 0
Tick code f k a R = Ticks code f k a (λ n b. (n ≡ 0) × R b)

-- n slots become nil
abbrev pub IsNils : Code → ℕ → ℕ → ℕ → ℕ → (ℕ → Type 0) → Type 0
IsNils code f r zero a R = R a
IsNils code f r (suc n) a R = At code f a (op.Nil r) × IsNils code f (r + 1) n (a + 1) R

-- ---- where the value of a term goes
pub data Target : Type 0 where
  -- to this slot, and nothing else is written there before
  Into : (r : ℕ) → Target
  -- where it stands, or to the first free slot
  Anywhere : Target
  -- only its truth is asked
  Decided : Target

-- how it is shown
pub data Shown : Type 0 where
  Reg : (r : ℕ) → Shown
  -- an integer in the operation that takes it
  Imm : (n : ℤ) → Shown
  -- the slot is true where the value is not
  Not : (r : ℕ) → Shown
  -- the place tells that it is true, and so many ticks are paid in advance; or that it is false
  Holds : (pay : ℕ) → Shown
  Fails : Shown

abbrev pub register : Target → ℕ → ℕ
register (Into r) d = r
register Anywhere d = d
register Decided d = d

abbrev pub WhereAnywhere : Target → Type 0 → Type 0
WhereAnywhere (Into r) P = ⊥
WhereAnywhere Anywhere P = P
WhereAnywhere Decided P = P

abbrev pub WhereDecided : Target → Type 0 → Type 0
WhereDecided (Into r) P = ⊥
WhereDecided Anywhere P = ⊥
WhereDecided Decided P = P

-- an operator takes the value as it is shown so
abbrev pub IsOperand : Shown → Type 0
IsOperand (Reg r) = Unit {0}
IsOperand (Imm n) = Unit {0}
IsOperand _ = ⊥

abbrev pub IsThere : Target → Shown → Type 0
IsThere (Into r) p = p ≡ Reg r
IsThere Anywhere p = IsOperand p
IsThere Decided p = Unit {0}

abbrev pub OfReg : Shown → (ℕ → Type 0) → Type 0
OfReg (Reg r) P = P r
OfReg _ P = ⊥

-- where the truth of a value is looked at: T holds where it is true, with the ticks paid in advance, and F where it is false
abbrev pub Branch : Code → ℕ → ℕ → Shown → (ℕ → ℕ → Type 0) → (ℕ → Type 0) → Type 0
Branch code f a (Reg r) T F =
    ((z : ℕ) × At code f a (op.Test r z) × T 0 (a + 1) × F z) ⊎ ((z : ℕ) × At code f a (op.TestNot r z) × F (a + 1) × T 0 z)
Branch code f a (Not r) T F =
    ((z : ℕ) × At code f a (op.Test r z) × F (a + 1) × T 0 z) ⊎ ((z : ℕ) × At code f a (op.TestNot r z) × T 0 (a + 1) × F z)
Branch code f a (Imm n) T F = T 0 a
Branch code f a (Holds pay) T F = T pay a
Branch code f a Fails T F = F a

-- ---- names
-- the value of a place goes to slot r
abbrev pub IsGet : Code → ℕ → ℕ → ℕ → Option Place → Type 0
IsGet code f a r (Some (InSlot s)) = At code f a (op.Move r s)
IsGet code f a r (Some (InCell c)) = At code f a (op.GetCell r c)
IsGet code f a r (Some (InUp u)) = At code f a (op.GetUp r u)
IsGet code f a r (Some Hidden) = ⊥
IsGet code f a r None = ⊥

-- the value of slot r goes to a place
abbrev pub IsPut : Code → ℕ → ℕ → ℕ → Option Place → Type 0
IsPut code f a r (Some (InSlot s)) = At code f a (op.Move s r)
IsPut code f a r (Some (InCell c)) = At code f a (op.SetCell c r)
IsPut code f a r (Some (InUp u)) = At code f a (op.SetUp u r)
IsPut code f a r (Some Hidden) = ⊥
IsPut code f a r None = ⊥

abbrev pub WhereInSlot : Option Place → (ℕ → Type 0) → Type 0
WhereInSlot (Some (InSlot s)) P = P s
WhereInSlot _ P = ⊥

-- The values in the slots from the first free one on become locals, each in its slot or in a new cell. K says what comes next, in their scope.
abbrev pub IsDeclares : Code → ℕ → Scope → List Text → ℕ → (Scope → ℕ → Type 0) → Type 0
IsDeclares code f sc [] a K = K sc a
IsDeclares code f sc (x ∷ xs) a K =
    IsDeclares code f (in_slot x sc) xs a K
    ⊎ (At code f a (op.NewCell sc.cells sc.free) × IsDeclares code f (past 1 (in_cell x sc)) xs (a + 1) K)

-- ---- loops of `for`
-- A numeric loop over the first free slots begins at p. `turns` says what its body is: in a scope, with ticks paid in advance, from a place on,
-- and what its end leads to.
abbrev pub IsNumeric : Code → ℕ → Scope → Text → ℕ → ℕ → (Scope → ℕ → ℕ → (ℕ → Type 0) → Type 0) → (ℕ → Type 0) → Type 0
IsNumeric code f sc x line p turns out =
    (pay z : ℕ) × AtLine code f p (op.ForPrep (suc pay) sc.free z) line
    × IsDeclares code f (past 3 sc) (x ∷ []) (p + 1) (λ inner s. turns inner pay s (λ y.
    Leads code f y (λ l. At code f l (op.ForLoop (suc pay) sc.free (p + 1)) × Leads code f (l + 1) out)))
    × Leads code f z out

-- a generic loop, whose iterator is called at l
abbrev pub IsGeneric : Code → ℕ → Scope → List Text → ℕ → ℕ → (Scope → ℕ → ℕ → (ℕ → Type 0) → Type 0) → (ℕ → Type 0) → Type 0
IsGeneric code f sc xs line p turns out =
    Leads code f p (λ l. (r pay s : ℕ) × (length xs ≤ r) × (1 ≤ r)
    × AtLine code f l (op.ForCall sc.free r) line × At code f (l + 1) (op.ForEach (suc pay) sc.free s)
    × IsDeclares code f (past 3 sc) xs s (λ inner j. turns inner pay j (λ y. Leads code f y (λ z. z ≡ l)))
    × Leads code f (l + 2) out)

-- ---- operators
abbrev pub IsInt : Code → ℕ → ℕ → ℕ → ℤ → Type 0
IsInt code f a r n = At code f a (op.Int r n) ⊎ ((i : ℕ) × At code f a (op.Constant r i) × (constant_at code f i ≡ Some (constant.Int n)))

abbrev pub short_op : Binary → ℕ → ℕ → ℕ → Option Op
short_op binary.Add r x y = Some (op.Add r x y)
short_op binary.Sub r x y = Some (op.Sub r x y)
short_op binary.Mul r x y = Some (op.Mul r x y)
short_op o r x y = None

-- with an integer as the right operand
abbrev pub int_op : Binary → ℕ → ℕ → ℤ → Op
int_op binary.Add r x n = op.AddInt r x n
int_op binary.Sub r x n = op.AddInt r x (neg_ℤ n)
int_op binary.Mul r x n = op.MulInt r x n
int_op o r x n = op.BinaryInt o r x n

-- and as the left one
abbrev pub left_int_op : Binary → ℕ → ℤ → ℕ → Option Op
left_int_op binary.Add r n y = Some (op.AddInt r y n)
left_int_op binary.Mul r n y = Some (op.MulInt r y n)
left_int_op o r n y = None

-- the operator's value goes to slot r
abbrev pub IsBinary : Code → ℕ → ℕ → Binary → ℕ → Shown → Shown → ℕ → Type 0
IsBinary code f a o r (Reg x) (Reg y) line = AtLine code f a (op.Binary o r x y) line ⊎ AtSome code f a (short_op o r x y) line
IsBinary code f a o r (Reg x) (Imm n) line = AtLine code f a (int_op o r x n) line
IsBinary code f a o r (Imm n) (Reg y) line = AtSome code f a (left_int_op o r n y) line
IsBinary code f a o r _ _ line = ⊥

-- the comparison that pays and goes on where it holds, and else jumps to z
abbrev pub test_op : Binary → Shown → Shown → ℕ → ℕ → Option Op
test_op binary.Less (Reg x) (Reg y) pay z = Some (op.UnlessLess x y pay z)
test_op binary.Less (Reg x) (Imm n) pay z = Some (op.UnlessLessInt x n pay z)
test_op binary.Less (Imm n) (Reg y) pay z = Some (op.UnlessGreaterInt y n pay z)
test_op binary.LessEqual (Reg x) (Reg y) pay z = Some (op.UnlessLessEqual x y pay z)
test_op binary.LessEqual (Reg x) (Imm n) pay z = Some (op.UnlessLessEqualInt x n pay z)
test_op binary.LessEqual (Imm n) (Reg y) pay z = Some (op.UnlessGreaterEqualInt y n pay z)
test_op binary.Greater (Reg x) (Reg y) pay z = Some (op.UnlessLess y x pay z)
test_op binary.Greater (Reg x) (Imm n) pay z = Some (op.UnlessGreaterInt x n pay z)
test_op binary.Greater (Imm n) (Reg y) pay z = Some (op.UnlessLessInt y n pay z)
test_op binary.GreaterEqual (Reg x) (Reg y) pay z = Some (op.UnlessLessEqual y x pay z)
test_op binary.GreaterEqual (Reg x) (Imm n) pay z = Some (op.UnlessGreaterEqualInt x n pay z)
test_op binary.GreaterEqual (Imm n) (Reg y) pay z = Some (op.UnlessLessEqualInt y n pay z)
test_op binary.Equal (Reg x) (Reg y) pay z = Some (op.UnlessEqual x y pay z)
test_op binary.Equal (Reg x) (Imm n) pay z = Some (op.UnlessEqualInt x n pay z)
test_op binary.Equal (Imm n) (Reg y) pay z = Some (op.UnlessEqualInt y n pay z)
test_op binary.NotEqual (Reg x) (Reg y) pay z = Some (op.UnlessNotEqual x y pay z)
test_op binary.NotEqual (Reg x) (Imm n) pay z = Some (op.UnlessNotEqualInt x n pay z)
test_op binary.NotEqual (Imm n) (Reg y) pay z = Some (op.UnlessNotEqualInt y n pay z)
test_op o p q pay z = None

-- The operator of one operand: its value in slot r by an operation, or known without one.
abbrev pub IsUnary : Code → ℕ → ℕ → Unary → Target → ℕ → Shown → ℕ → (ℕ → Shown → Type 0) → Type 0
IsUnary code f a unary.Not t d (Reg x) line R =
    (AtLine code f a (op.Unary unary.Not (register t d) x) line × R (a + 1) (Reg (register t d))) ⊎ WhereDecided t (R a (Not x))
IsUnary code f a o t d (Reg x) line R = AtLine code f a (op.Unary o (register t d) x) line × R (a + 1) (Reg (register t d))
IsUnary code f a unary.Minus t d (Imm n) line R =
    (IsInt code f a (register t d) (lua.minus n) × R (a + 1) (Reg (register t d))) ⊎ WhereAnywhere t (R a (Imm (lua.minus n)))
IsUnary code f a unary.Not t d (Imm n) line R = WhereDecided t (R a Fails)
IsUnary code f a unary.Not t d (Holds pay) line R = (pay ≡ 0) × WhereDecided t (R a Fails)
IsUnary code f a unary.Not t d Fails line R = WhereDecided t (R a (Holds 0))
IsUnary code f a o t d p line R = ⊥

-- ---- chains
-- by the kind of an operator
abbrev pub linked_as : Link → Type 0 → Type 0 → (Binary → Type 0) → Type 0
linked_as Both p q r = p
linked_as Either p q r = q
linked_as (Strict o) p q r = r o

-- where the value so far goes: the last one to the target
abbrev pub so_far : Operands → Target → ℕ → ℕ
so_far NoOperand t d = register t d
so_far (MoreOperands o line e os) t d = d

-- ---- calls
-- what is wanted of a call
pub data Want : Type 0 where
  -- its first values in so many slots from its own on
  Count : (n : ℕ) → Want
  -- all values, on top of the lists
  AsList : Want
  -- they are the results of the function
  AsResult : Want

-- a call of slot d: its arguments in the slots after it, or in a list after the function
abbrev pub IsCall : Code → ℕ → ℕ → ℕ → ℕ → Want → ((ℕ → ℕ → Type 0) → Type 0) → ((ℕ → Type 0) → Type 0) → (ℕ → Type 0) → Type 0
IsCall code f a d line (Count n) fixed listed R =
    fixed (λ b m. (k : ℕ) × (m ≡ d + 1 + k) × AtLine code f b (op.Call d k n) line × R (b + 1))
    ⊎ (At code f a op.Begin × At code f (a + 1) (op.Push d) × listed (λ b. AtLine code f b (op.CallList d) line × At code f (b + 1) (op.Spread d n) × R (b + 2)))
IsCall code f a d line AsList fixed listed R =
    fixed (λ b m. (k : ℕ) × (m ≡ d + 1 + k) × AtLine code f b (op.CallAll d k) line × R (b + 1))
    ⊎ (At code f a op.Begin × At code f (a + 1) (op.Push d) × listed (λ b. AtLine code f b (op.CallList d) line × R (b + 1)))
IsCall code f a d line AsResult fixed listed R =
    fixed (λ b m. (k : ℕ) × (m ≡ d + 1 + k) × AtLine code f b (op.TailCall d k) line × At code f (b + 1) op.ReturnList)
    ⊎ (At code f a op.Begin × At code f (a + 1) (op.Push d) × listed (λ b. AtLine code f b (op.TailCallList d) line × At code f (b + 1) op.ReturnList))

-- a value in slot d that no call made
abbrev pub IsWanted : Code → ℕ → ℕ → ℕ → Want → (ℕ → Type 0) → Type 0
IsWanted code f a d (Count zero) R = R a
IsWanted code f a d (Count (suc n)) R = IsNils code f (d + 1) n a R
IsWanted code f a d AsList R = At code f a op.Begin × At code f (a + 1) (op.Push d) × R (a + 2)
IsWanted code f a d AsResult R = At code f a (op.Return d 1)

-- ---- assignment
pub data Origin : Type 0 where
  FromSlot : (r : ℕ) → Origin
  -- a place of the list on top
  FromItem : (i : ℕ) → Origin

pub record Write : Type 0 where
  pub name : Text
  pub origin : Origin

-- the writes of an assignment, the last target first
abbrev pub from_slots : List Text → ℕ → List Write → List Write
from_slots [] r todo = todo
from_slots (x ∷ xs) r todo = from_slots xs (r + 1) (record { name = x; origin = FromSlot r } ∷ todo)

abbrev pub from_items : List Text → ℕ → List Write → List Write
from_items [] i todo = todo
from_items (x ∷ xs) i todo = from_items xs (i + 1) (record { name = x; origin = FromItem i } ∷ todo)

abbrev pub IsWrite : Code → ℕ → Scope → Write → Origin → ℕ → (ℕ → Type 0) → Type 0
IsWrite code f sc w (FromSlot r) a R = IsPut code f a r (place_of sc.names w.name) × R (a + 1)
IsWrite code f sc w (FromItem i) a R = At code f a (op.Item sc.free i) × IsPut code f (a + 1) sc.free (place_of sc.names w.name) × R (a + 2)

abbrev pub IsWrites : Code → ℕ → Scope → List Write → ℕ → (ℕ → Type 0) → Type 0
IsWrites code f sc [] a R = R a
IsWrites code f sc (w ∷ ws) a R = IsWrite code f sc w w.origin a (λ b. IsWrites code f sc ws b R)

abbrev pub WhereSome : Option (List Text) → (List Text → Type 0) → Type 0
WhereSome None P = ⊥
WhereSome (Some xs) P = P xs

-- there is one target
abbrev pub WhereOne : List Text → (Text → Type 0) → Type 0
WhereOne (x ∷ []) P = P x
WhereOne _ P = ⊥
