-- The forms of code that the compiler chooses among. They are this project's own.
use Rattle.std.specs.Prelude.{ℕ, zero, suc, ◌+◌, max, ltb, Bool, true, false, not, ◌&&◌, ◌==◌, if◌then◌else◌, List, [], ◌∷◌, length, Option, Some, None, ℤ, pos, negsuc, int_le}
use Rattle.lua_tree.specs.Source as source
use Rattle.lua_tree.specs.Source.{Text, Block, Plain, Returns, NoStat, MoreStats, Exp, Exps, NoExp, MoreExps, Operands, NoOperand, MoreOperands, Suffixes, NoSuffix, MoreSuffixes, Branches, NoElse}
use Rattle.lua_model.specs.declared.operator.Binary.{Binary}
use Rattle.lua_model.specs.declared.operator.Binary.TheVariants as binary
use Rattle.lua_model.specs.declared.operator.Unary.{Unary}
use Rattle.lua_model.specs.declared.operator.Unary.TheVariants as unary
use Rattle.lua_meaning.specs.Values.{Link, Both, Either, Strict, link_of}
use Rattle.lua_code.specs.declared.function.Constant.TheVariants as constant
use Rattle.lua_code.specs.declared.op.Op.{Op}
use Rattle.lua_code.specs.declared.op.Op.TheVariants as op
use Rattle.lua_steps.specs.declared.scope.Place.{Place}
use Rattle.lua_steps.specs.declared.scope.Place.TheVariants.{InSlot, InCell, InUp, Hidden}
use Rattle.lua_steps.specs.declared.scope.Known.{Known}
use Rattle.lua_steps.specs.Scope.{Scope, place_of, in_slot, in_cell, past}
use Rattle.lua_steps.specs.Stand.{Target, Shown, Reg, Imm, Write, Origin, FromSlot, FromItem, short_op, int_op, test_op}
use Rattle.lua_steps.specs.Stand as stand
use Rattle.lua_compile.specs.declared.aim.Aim.{Aim}
use Rattle.lua_compile.specs.declared.aim.Aim.TheVariants.{Into, Anywhere, Unless}
use Rattle.lua_compile.specs.declared.aim.Room.{Room}
use Rattle.lua_compile.specs.declared.aim.Room.TheVariants.{Nothing, Byte, Word}
use Rattle.lua_compile.specs.declared.aim.Operand.{Operand}
use Rattle.lua_compile.specs.declared.aim.Operand.TheVariants.{Slot, Constant}
use Rattle.lua_compile.specs.declared.aim.Want.{Want}
use Rattle.lua_compile.specs.declared.aim.Want.TheVariants as want
use Rattle.lua_compile.specs.Writer.{Writer, emit, put, labelled, label_of, placed_here, with_constant, lost_if, all_known, declare_all}

-- ---- aims
abbrev pub target_of : Aim → Target
target_of (Into r) = stand.Into r
target_of (Anywhere room) = stand.Anywhere
target_of (Unless l pay) = stand.Decided

abbrev pub register : Aim → ℕ → ℕ
register aim d = stand.register (target_of aim) d

abbrev pub is_unless : Aim → Bool
is_unless (Unless l pay) = true
is_unless _ = false

-- so many ticks are paid
abbrev pub paid_here : ℕ → Writer → Writer
paid_here zero w = w
paid_here (suc k) w = put (op.Tick (suc k)) w

-- the value of slot r is looked at where only its truth is asked
abbrev pub settled : Aim → ℕ → Writer → Writer
settled (Unless l pay) r w = paid_here pay (put (op.Test r l) w)
settled _ r w = w

abbrev pub differ : ℕ → ℕ → Bool
differ a b = not (a == b)

-- ---- constants and names
abbrev pub between : ℤ → ℤ → ℤ → Bool
between a b n = int_le a n && int_le n b

abbrev pub has_room : Room → ℤ → Bool
has_room Nothing n = false
has_room Byte n = between (negsuc 126) (pos 127) n
has_room Word n = between (negsuc 2147483646) (pos 2147483647) n

abbrev pub int_written : ℕ → ℤ → Writer → Writer
int_written r n w =
    if has_room Word n then put (op.Int r n) w else put (op.Constant r (length w.draft.constants)) (with_constant (constant.Int n) w)

abbrev pub int_shown : ℤ → ℕ → Aim → Operand
int_shown n d (Anywhere room) = if has_room room n then Constant n else Slot d
int_shown n d aim = Slot (register aim d)

abbrev pub int_aimed : ℤ → ℕ → Aim → Writer → Writer
int_aimed n d (Into r) w = int_written r n w
int_aimed n d (Anywhere room) w = if has_room room n then w else int_written d n w
int_aimed n d (Unless l pay) w = paid_here pay w

abbrev pub true_written : ℕ → Aim → Writer → Writer
true_written d (Unless l pay) w = paid_here pay w
true_written d aim w = put (op.Bool (register aim d) true) w

abbrev pub name_shown : Option Place → ℕ → Aim → Operand
name_shown (Some (InSlot s)) d (Anywhere room) = Slot s
name_shown o d aim = Slot (register aim d)

abbrev pub slot_written : ℕ → ℕ → Aim → Writer → Writer
slot_written s d (Into r) w = put (op.Move r s) w
slot_written s d (Anywhere room) w = w
slot_written s d (Unless l pay) w = paid_here pay (put (op.Test s l) w)

abbrev pub name_written : Option Place → ℕ → Aim → Writer → Writer
name_written (Some (InSlot s)) d aim w = slot_written s d aim w
name_written (Some (InCell c)) d aim w = settled aim (register aim d) (put (op.GetCell (register aim d) c) w)
name_written (Some (InUp u)) d aim w = settled aim (register aim d) (put (op.GetUp (register aim d) u) w)
name_written (Some Hidden) d aim w = lost_if true w
name_written None d aim w = lost_if true w

-- the value of slot r becomes that of a name
abbrev pub stored : Option Place → ℕ → Writer → Writer
stored (Some (InSlot s)) r w = put (op.Move s r) w
stored (Some (InCell c)) r w = put (op.SetCell c r) w
stored (Some (InUp u)) r w = put (op.SetUp u r) w
stored (Some Hidden) r w = lost_if true w
stored None r w = lost_if true w

-- an item of the list on top comes to slot d first
abbrev pub from : Origin → ℕ → Option Place → Writer → Writer
from (FromSlot r) d o w = stored o r w
from (FromItem i) d o w = stored o d (put (op.Item d i) w)

abbrev pub stores_written : List Write → ℕ → List Known → Writer → Writer
stores_written [] d names w = w
stores_written (x ∷ xs) d names w = stores_written xs d names (from x.origin d (place_of names x.name) w)

abbrev pub nils_written : ℕ → ℕ → Writer → Writer
nils_written r zero w = w
nils_written r (suc n) w = nils_written (r + 1) n (put (op.Nil r) w)

-- how the value of an expression is shown
abbrev pub shown : Exp → List Known → ℕ → Aim → Operand
shown (source.Int n) names d aim = int_shown n d aim
shown (source.Name x) names d aim = name_shown (place_of names x) d aim
shown (source.Paren e) names d aim = shown e names d aim
shown e names d aim = Slot (register aim d)

abbrev pub shown_of : Operand → Shown
shown_of (Slot r) = Reg r
shown_of (Constant n) = Imm n

abbrev pub on_slot : Operand → Writer → (ℕ → Writer) → Writer
on_slot (Slot r) w go = go r
on_slot (Constant n) w go = lost_if true w

abbrev pub is_slot : Operand → ℕ → Bool
is_slot (Slot r) d = r == d
is_slot (Constant n) d = false

abbrev pub is_short : Operand → Bool
is_short (Slot r) = ltb r 256
is_short (Constant n) = true

-- ---- operators
abbrev pub some_written : Option Op → ℕ → Writer → Writer
some_written None line w = lost_if true w
some_written (Some o) line w = emit o line w

abbrev pub or_else : Option Op → Op → Op
or_else None o = o
or_else (Some p) o = p

abbrev pub binary_written : Binary → ℕ → Operand → Operand → ℕ → Writer → Writer
binary_written o r (Slot x) (Slot y) line w =
    if ltb r 256 && ltb x 256 && ltb y 256 then emit (or_else (short_op o r x y) (op.Binary o r x y)) line w else emit (op.Binary o r x y) line w
binary_written o r (Slot x) (Constant n) line w = emit (int_op o r x n) line w
binary_written o r (Constant n) q line w = lost_if true w

abbrev pub is_comparison : Binary → Bool
is_comparison binary.Equal = true
is_comparison binary.NotEqual = true
is_comparison binary.Less = true
is_comparison binary.LessEqual = true
is_comparison binary.Greater = true
is_comparison binary.GreaterEqual = true
is_comparison o = false

abbrev pub no_more : Operands → Bool
no_more NoOperand = true
no_more (MoreOperands o line e os) = false

-- the last operator of a chain is a comparison that jumps by itself
abbrev pub tests : Binary → Operands → Aim → Operand → ℕ → Bool
tests o os aim p d = is_comparison o && no_more os && is_unless aim && is_short p && ltb d 255

-- which integers may stay in the operation as its right operand
abbrev pub room_for : Bool → Operand → ℕ → Room
room_for true p r = Byte
room_for false p r = if is_short p && ltb r 256 then Word else Nothing

abbrev pub test_written : Binary → Operand → Operand → Aim → ℕ → Writer → Writer
test_written o p q (Unless l pay) line w = some_written (test_op o (shown_of p) (shown_of q) pay l) line w
test_written o p q aim line w = lost_if true w

abbrev pub unary_slot : Unary → ℕ → ℕ → Aim → ℕ → Writer → Writer
unary_slot unary.Not x d (Unless l pay) line w = paid_here pay (put (op.TestNot x l) w)
unary_slot o x d aim line w = settled aim (register aim d) (emit (op.Unary o (register aim d) x) line w)

-- where the value so far goes
abbrev pub so_far : Operands → Aim → ℕ → ℕ
so_far NoOperand aim d = register aim d
so_far (MoreOperands o line e os) aim d = d

abbrev pub last_settled : Operands → Aim → ℕ → ℕ → Writer → Writer
last_settled NoOperand aim d r w = settled aim r (lost_if (differ (register aim d) r) w)
last_settled (MoreOperands o line e os) aim d r w = w

abbrev pub linked : Link → Writer → Writer → (Binary → Writer) → Writer
linked Both v w go = v
linked Either v w go = w
linked (Strict o) v w go = go o

abbrev pub link_aim : Link → ℕ → Aim
link_aim (Strict o) d = Anywhere Nothing
link_aim _ d = Into d

abbrev pub base_aim : Operands → Aim → ℕ → Aim
base_aim NoOperand aim d = Into d
base_aim (MoreOperands o line e os) aim d = link_aim (link_of o) d

abbrev pub is_both : Link → Bool
is_both Both = true
is_both _ = false

abbrev pub all_and : Operands → Bool
all_and NoOperand = true
all_and (MoreOperands o line e os) = is_both (link_of o) && all_and os

-- where each operand of `and` jumps, the last one pays
abbrev pub and_pay : Operands → ℕ → ℕ
and_pay NoOperand pay = pay
and_pay (MoreOperands o line e os) pay = 0

abbrev pub and_aim : Operands → Aim → Aim
and_aim os (Unless l pay) = Unless l (and_pay os pay)
and_aim os aim = aim

abbrev pub is_strict : Link → Bool
is_strict (Strict o) = true
is_strict _ = false

abbrev pub all_strict : Operands → Bool
all_strict NoOperand = true
all_strict (MoreOperands o line e os) = is_strict (link_of o) && all_strict os

-- ---- lists of expressions
abbrev pub is_many : Exp → Bool
is_many source.Dots = true
is_many (source.Suffixed e ss) = true
is_many _ = false

abbrev pub count : Exps → ℕ
count NoExp = 0
count (MoreExps e es) = count es + 1

abbrev pub last_is_one : Exps → Bool
last_is_one NoExp = true
last_is_one (MoreExps e NoExp) = not (is_many e)
last_is_one (MoreExps e (MoreExps g es)) = last_is_one (MoreExps g es)

-- so many values at most are put into slots where a list may have any number
abbrev pub most : ℕ
most = 50

abbrev pub slots_fit : Exps → Bool
slots_fit es = last_is_one es && ltb (count es) 51

-- the values of so many targets
abbrev pub targets_fit : List Text → Bool
targets_fit xs = ltb (length xs) 51

abbrev pub is_only : Exps → Bool
is_only (MoreExps e NoExp) = not (is_many e)
is_only _ = false

abbrev pub is_tail : Exps → Bool
is_tail (MoreExps (source.Suffixed e ss) NoExp) = true
is_tail _ = false

abbrev pub only_shown : Exps → List Known → ℕ → Aim → Operand
only_shown (MoreExps e NoExp) names d aim = shown e names d aim
only_shown _ names d aim = Slot (register aim d)

-- ---- calls
abbrev pub suffix_want : Suffixes → Want → Want
suffix_want NoSuffix w = w
suffix_want (MoreSuffixes x ss) w = want.Count 1

abbrev pub called : Want → ℕ → ℕ → ℕ → Writer → Writer
called (want.Count n) d k line w = emit (op.Call d k n) line w
called want.AsList d k line w = emit (op.CallAll d k) line w
called want.AsResult d k line w = put op.ReturnList (emit (op.TailCall d k) line w)

abbrev pub called_list : Want → ℕ → ℕ → Writer → Writer
called_list (want.Count n) d line w = put (op.Spread d n) (emit (op.CallList d) line w)
called_list want.AsList d line w = emit (op.CallList d) line w
called_list want.AsResult d line w = put op.ReturnList (emit (op.TailCallList d) line w)

-- a value that no call made, for what is wanted of a call
abbrev pub wanted_written : Want → ℕ → Writer → Writer
wanted_written (want.Count zero) d w = w
wanted_written (want.Count (suc n)) d w = nils_written (d + 1) n w
wanted_written want.AsList d w = put (op.Push d) (put op.Begin w)
wanted_written want.AsResult d w = put (op.Return d 1) w

abbrev pub where_none : Suffixes → Want → ℕ → Writer → Writer
where_none NoSuffix a d w = wanted_written a d w
where_none (MoreSuffixes x ss) a d w = w

-- ---- ticks
-- the ticks that a block pays before it acts
abbrev pub prepay : Block → ℕ
prepay (Plain NoStat) = 0
prepay (Plain (MoreStats t ts)) = 1
prepay (Returns NoStat es) = 0
prepay (Returns (MoreStats t ts) es) = 1

-- a statement's tick, where k were paid in advance
abbrev pub ticked : ℕ → Writer → Writer
ticked zero w = put (op.Tick 1) w
ticked (suc zero) w = w
ticked (suc (suc k)) w = lost_if true w

-- and with it m more
abbrev pub ticked_more : ℕ → ℕ → Writer → Writer
ticked_more zero m w = put (op.Tick (suc m)) w
ticked_more (suc k) m w = w

abbrev pub paid_before : ℕ → ℕ → ℕ
paid_before zero m = m
paid_before (suc k) m = k

-- the ticks of a `repeat`
abbrev pub ticked_twice : ℕ → ℕ → Writer → Writer
ticked_twice zero m w = put (op.Tick (suc (suc m))) w
ticked_twice (suc zero) m w = put (op.Tick (suc m)) w
ticked_twice (suc (suc k)) m w = lost_if true w

-- ---- statements
-- an expression whose value only its last operation writes
abbrev pub is_direct : Exp → Bool
is_direct source.Dots = false
is_direct (source.Suffixed e ss) = false
is_direct (source.Table fs) = false
is_direct (source.Paren e) = is_direct e
is_direct (source.Chain e os) = all_strict os && not (no_more os)
is_direct _ = true

abbrev pub only_direct : Exps → Bool
only_direct (MoreExps e NoExp) = is_direct e
only_direct _ = false

-- the slot of the only target
abbrev pub slot_at : Option Place → Option ℕ
slot_at (Some (InSlot s)) = Some s
slot_at _ = None

abbrev pub only_slot : List Text → List Known → Option ℕ
only_slot (x ∷ []) names = slot_at (place_of names x)
only_slot _ names = None

abbrev pub with_targets : Option (List Text) → Writer → (List Text → Writer) → Writer
with_targets None w go = lost_if true w
with_targets (Some xs) w go = go xs

-- by a slot to which the value goes directly, where there is one
abbrev pub directly : Option ℕ → Bool → Writer → (ℕ → Writer) → Writer
directly None direct w go = w
directly (Some s) direct w go = if direct then go s else w

abbrev pub jumped : Option ℕ → Writer → Writer
jumped None w = lost_if true w
jumped (Some l) w = put (op.Jump l) w

abbrev pub where_else : Branches → ℕ → Writer → Writer
where_else NoElse l w = w
where_else _ l w = put (op.Jump l) w

abbrev pub function_known : Text → Scope → Bool → Scope
function_known x sc shared = if shared then in_cell x sc else in_slot x sc

abbrev pub close_op : Scope → Bool → ℕ → Op
close_op sc shared g = if shared then op.CloseCell sc.cells g else op.Close sc.free g

-- the labels of a loop, what follows it and its body; `block` writes the body
abbrev pub numeric_written : Text → Scope → ℕ → ℕ → (Scope → Option ℕ → Writer → Writer) → Writer → Writer
numeric_written x sc line m block w =
    let l = label_of w in
    let v = placed_here (l + 1) (emit (op.ForPrep (suc m) sc.free l) line (labelled (labelled w))) in
    let inner = all_known (x ∷ []) (past 3 sc) v.flags v.locals in
    placed_here l (put (op.ForLoop (suc m) sc.free (l + 1)) (block inner (Some l) (declare_all (x ∷ []) (past 3 sc) v)))

-- what follows, its call, and its body
abbrev pub generic_written : List Text → Scope → ℕ → ℕ → (Scope → Option ℕ → Writer → Writer) → Writer → Writer
generic_written xs sc line m block w =
    let l = label_of w in
    let v = placed_here (l + 2) (put (op.Jump (l + 1)) (labelled (labelled (labelled w)))) in
    let inner = all_known xs (past 3 sc) v.flags v.locals in
    let u = placed_here (l + 1) (block inner (Some l) (declare_all xs (past 3 sc) v)) in
    placed_here l (put (op.ForEach (suc m) sc.free (l + 2)) (emit (op.ForCall sc.free (max 1 (length xs))) line u))
