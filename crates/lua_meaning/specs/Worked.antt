-- Small chunks, and what they give; the values were taken from Lua 5.4.
use Rattle.std.specs.Prelude.{◌≡◌, ℕ, true, false, List, [], ◌∷◌, codes, pos, negsuc, ℤ}
use Rattle.lua_tree.specs.declared.tree.BinaryOp.{BinaryOp}
use Rattle.lua_tree.specs.declared.tree.BinaryOp.TheVariants as sign
use Rattle.lua_tree.specs.declared.tree.UnaryOp.TheVariants as mark
use Rattle.lua_tree.specs.Source.{Block, Plain, Returns, Stats, NoStat, MoreStats, Stat, Assign, Invoke, Break, While, Repeat, If, Numeric, NumericBy, Generic, Local, LocalFunction, NoElse, Else, NoTarget, MoreTargets, Variable, Exp, Nil, Int, Str, Dots, Function, Name, Paren, Suffixed, Unary, Chain, Exps, NoExp, MoreExps, NoOperand, MoreOperands, NoSuffix, MoreSuffixes, Call, body}
use Rattle.lua_value.specs.declared.value.Value.{Value}
use Rattle.lua_value.specs.declared.value.Value.TheVariants as value
use Rattle.lua_model.specs.Heap as model
use Rattle.lua_model.specs.Texts.{bytes_at}
use Rattle.lua_meaning.specs.State.{State, Stop, Return, Raise, Budget, HeapFull, NoRule, Step, Next, Halt, Pause}
use Rattle.lua_meaning.specs.Until.{iterate, opening}

-- ---- what a run gives

pub data Outcome : Type 0 where
  Values : (vs : List Value) → Outcome
  -- the bytes of the error
  Error : (bytes : List ℕ) → Outcome
  NoTicks : Outcome
  NoUnits : Outcome
  Other : Outcome

abbrev pub error_of : Value → State → Outcome
error_of (value.Text k) s = Error (bytes_at s.aside.heap.texts k)
error_of _ s = Other

abbrev pub stopped : Stop → State → Outcome
stopped (Return vs) s = Values vs
stopped (Raise v) s = error_of v s
stopped Budget s = NoTicks
stopped HeapFull s = NoUnits
stopped NoRule s = Other

abbrev pub outcome_of : Step → Outcome
outcome_of (Next s) = Other
outcome_of (Halt x s) = stopped x s
outcome_of (Pause c s) = Other

-- a heap that counts up to this limit
abbrev pub counting : ℕ → model.Heap
counting limit = record { texts = []; units = 0; limit = limit; counts = true }

-- what the chunk `m` gives within n steps, this budget and these units
abbrev pub within : ℕ → ℕ → ℕ → Block → Outcome
within n budget limit b = outcome_of (iterate n (opening (codes "m") b (counting limit) budget []))

abbrev pub gives : Block → Outcome
gives b = within 400 100 100 b

-- ---- terms, all on line 1

abbrev pub int : ℕ → Exp
int n = Int (pos n)

abbrev pub list : List Exp → Exps
list [] = NoExp
list (e ∷ es) = MoreExps e (list es)

abbrev pub seq : List Stat → Stats
seq [] = NoStat
seq (t ∷ ts) = MoreStats t (seq ts)

abbrev pub name : List ℕ → Exp
name x = Name x

abbrev pub apply : Exp → BinaryOp → Exp → Exp
apply a op b = Chain a (MoreOperands op 1 b NoOperand)

abbrev pub call : Exp → List Exp → Exp
call f es = Suffixed f (MoreSuffixes (Call (list es) 1) NoSuffix)

abbrev pub set : List ℕ → Exp → Stat
set x e = Assign (MoreTargets (Variable x) NoTarget) (MoreExps e NoExp)

abbrev pub two : List ℕ → List ℕ → Exps → Stat
two x y es = Assign (MoreTargets (Variable x) (MoreTargets (Variable y) NoTarget)) es

abbrev pub a : List ℕ
a = codes "a"

abbrev pub b : List ℕ
b = codes "b"

abbrev pub f : List ℕ
f = codes "f"

abbrev pub i : List ℕ
i = codes "i"

-- ---- the chunks

-- return 7 // -2, 7 % -2, 1 << 64
abbrev pub operators : Block
operators =
    Returns NoStat (list (apply (int 7) sign.Divide (Unary mark.Negate 1 (int 2)) ∷ apply (int 7) sign.Remainder (Unary mark.Negate 1 (int 2)) ∷ apply (int 1) sign.ShiftLeft (int 64) ∷ []))

-- local a, b = 1, 2  a, b = b, a  return a, b
abbrev pub swap : Block
swap = Returns (seq (Local (a ∷ b ∷ []) (list (int 1 ∷ int 2 ∷ [])) ∷ two a b (list (name b ∷ name a ∷ [])) ∷ [])) (list (name a ∷ name b ∷ []))

-- local a  a, a = 1, 2  return a
abbrev pub twice : Block
twice = Returns (seq (Local (a ∷ []) (list []) ∷ two a a (list (int 1 ∷ int 2 ∷ [])) ∷ [])) (list (name a ∷ []))

-- local a, b  for i = 1, 2 do  if i == 1 then a = function() return i end else b = function() return i end end  end  return a(), b()
abbrev pub fresh_each_turn : Block
fresh_each_turn =
    let this = Function (body [] false (Returns NoStat (list (name i ∷ [])))) in
    Returns (seq (Local (a ∷ b ∷ []) (list []) ∷ Numeric i (int 1) (int 2) (Plain (seq (If (apply (name i) sign.Equal (int 1)) (Plain (seq (set a this ∷ []))) (Else (Plain (seq (set b this ∷ [])))) ∷ []))) 1 ∷ []))
    (list (call (name a) [] ∷ call (name b) [] ∷ []))

-- local a = 1  local f = function() a = a + 1 end  f()  f()  return a
abbrev pub shared : Block
shared =
    Returns (seq (Local (a ∷ []) (list (int 1 ∷ [])) ∷ LocalFunction f (body [] false (Plain (seq (set a (apply (name a) sign.Add (int 1)) ∷ [])))) ∷ Invoke (call (name f) []) ∷ Invoke (call (name f) []) ∷ []))
    (list (name a ∷ []))

-- local function f(...) return ... end  return f(1, 2), (f(3, 4)), f(5, 6)
abbrev pub varargs : Block
varargs =
    Returns (seq (LocalFunction f (body [] true (Returns NoStat (list (Dots ∷ [])))) ∷ []))
    (list (call (name f) (int 1 ∷ int 2 ∷ []) ∷ Paren (call (name f) (int 3 ∷ int 4 ∷ [])) ∷ call (name f) (int 5 ∷ int 6 ∷ []) ∷ []))

-- local function f(a, b) return b, a end  return f(1), f(1, 2, 3)
abbrev pub filled : Block
filled =
    Returns (seq (LocalFunction f (body (a ∷ b ∷ []) false (Returns NoStat (list (name b ∷ name a ∷ [])))) ∷ []))
    (list (Paren (call (name f) (int 1 ∷ [])) ∷ call (name f) (int 1 ∷ int 2 ∷ int 3 ∷ []) ∷ []))

-- local a = 0  for i = 9223372036854775806, 9223372036854775807 do a = a + 1 end  for i = 3, 1 do a = 9 end  for i = 3, 1, -2 do a = a + i end  return a
abbrev pub ends_of_range : Block
ends_of_range =
    Returns (seq (Local (a ∷ []) (list (int 0 ∷ []))
    ∷ Numeric i (int 9223372036854775806) (int 9223372036854775807) (Plain (seq (set a (apply (name a) sign.Add (int 1)) ∷ []))) 1
    ∷ Numeric i (int 3) (int 1) (Plain (seq (set a (int 9) ∷ []))) 1
    ∷ NumericBy i (int 3) (int 1) (Unary mark.Negate 1 (int 2)) (Plain (seq (set a (apply (name a) sign.Add (name i)) ∷ []))) 1 ∷ []))
    (list (name a ∷ []))

-- local a = 0  repeat local b = a + 1  a = b until b == 3  while true do a = a + 1  if a == 6 then break end end  return a
abbrev pub loops : Block
loops =
    Returns (seq (Local (a ∷ []) (list (int 0 ∷ []))
    ∷ Repeat (Plain (seq (Local (b ∷ []) (list (apply (name a) sign.Add (int 1) ∷ [])) ∷ set a (name b) ∷ []))) (apply (name b) sign.Equal (int 3))
    ∷ While (int 1) (Plain (seq (set a (apply (name a) sign.Add (int 1)) ∷ If (apply (name a) sign.Equal (int 6)) (Plain (seq (Break ∷ []))) NoElse ∷ []))) ∷ []))
    (list (name a ∷ []))

-- local a = 0  for i, b in function(f, i) if i == 3 then return nil end  return i + 1, f end, 7, 0 do a = a + i + b end  return a
abbrev pub iterator : Block
iterator =
    Returns (seq (Local (a ∷ []) (list (int 0 ∷ []))
    ∷ Generic (i ∷ b ∷ []) (list (Function (body (f ∷ i ∷ []) false (Returns (seq (If (apply (name i) sign.Equal (int 3)) (Returns NoStat (list (Nil ∷ []))) NoElse ∷ [])) (list (apply (name i) sign.Add (int 1) ∷ name f ∷ [])))) ∷ int 7 ∷ int 0 ∷ []))
    (Plain (seq (set a (Chain (name a) (MoreOperands sign.Add 1 (name i) (MoreOperands sign.Add 1 (name b) NoOperand))) ∷ []))) 1 ∷ []))
    (list (name a ∷ []))

-- return nil or 1, 2 and 3, nil and 4
abbrev pub links : Block
links = Returns NoStat (list (apply Nil sign.Or (int 1) ∷ apply (int 2) sign.And (int 3) ∷ apply Nil sign.And (int 4) ∷ []))

-- local a = "n" .. 7  return #a, a < "n8", a == "n7"
abbrev pub strings : Block
strings =
    Returns (seq (Local (a ∷ []) (list (apply (Str (codes "n")) sign.Concat (int 7) ∷ [])) ∷ []))
    (list (Unary mark.Length 1 (name a) ∷ apply (name a) sign.Less (Str (codes "n8")) ∷ apply (name a) sign.Equal (Str (codes "n7")) ∷ []))

-- return 1 + nil
abbrev pub wrong : Block
wrong = Returns NoStat (list (apply (int 1) sign.Add Nil ∷ []))

-- local a  a()
abbrev pub no_function : Block
no_function = Plain (seq (Local (a ∷ []) (list []) ∷ Invoke (call (name a) []) ∷ []))

-- while true do end
abbrev pub endless : Block
endless = Plain (seq (While (int 1) (Plain NoStat) ∷ []))

-- local function f(a) if a == 0 then return 7 end  return f(a - 1) end  return f(9)
abbrev pub tail : Block
tail =
    Returns (seq (LocalFunction f (body (a ∷ []) false (Returns (seq (If (apply (name a) sign.Equal (int 0)) (Returns NoStat (list (int 7 ∷ []))) NoElse ∷ [])) (list (call (name f) (apply (name a) sign.Subtract (int 1) ∷ []) ∷ [])))) ∷ []))
    (list (call (name f) (int 9 ∷ []) ∷ []))

-- local a = 0  for i = 2 ^ 63, 1 - 2 ^ 63 do a = a + 1 end  return a, where the first number is one that no text has
abbrev pub beyond_range : Block
beyond_range =
    Returns (seq (Local (a ∷ []) (list (int 0 ∷ []))
    ∷ Numeric i (int 9223372036854775808) (Unary mark.Negate 1 (int 9223372036854775807)) (Plain (seq (set a (apply (name a) sign.Add (int 1)) ∷ []))) 1 ∷ []))
    (list (name a ∷ []))

-- the empty chunk begins, in a state that lacks its function
abbrev pub unmade : Outcome
unmade = outcome_of (iterate 5 (record (opening (codes "m") (Plain NoStat) (counting 100) 100 []) { closures = [] }))

abbrev pub ints : List ℤ → Outcome
ints zs = Values (values zs)
  where
    values : List ℤ → List Value
    values [] = []
    values (z ∷ zs) = value.Int z ∷ values zs

pub record ChunksAreAsInLua : Type 0 where
  pub operators_give : gives operators ≡ ints (negsuc 3 ∷ negsuc 0 ∷ pos 0 ∷ [])
  pub swap_gives : gives swap ≡ ints (pos 2 ∷ pos 1 ∷ [])
  -- the targets are assigned from right to left
  pub twice_gives : gives twice ≡ ints (pos 1 ∷ [])
  pub turns_are_fresh : gives fresh_each_turn ≡ ints (pos 1 ∷ pos 2 ∷ [])
  pub locals_are_shared : gives shared ≡ ints (pos 3 ∷ [])
  pub lists_are_cut : gives varargs ≡ ints (pos 1 ∷ pos 3 ∷ pos 5 ∷ pos 6 ∷ [])
  pub lists_are_filled : gives filled ≡ Values (value.Nil ∷ value.Int (pos 2) ∷ value.Int (pos 1) ∷ [])
  pub nothing_wraps : gives ends_of_range ≡ ints (pos 6 ∷ [])
  pub values_are_words : gives beyond_range ≡ ints (pos 2 ∷ [])
  pub loops_give : gives loops ≡ ints (pos 6 ∷ [])
  pub iterator_gives : gives iterator ≡ ints (pos 27 ∷ [])
  pub links_give : gives links ≡ Values (value.Int (pos 1) ∷ value.Int (pos 3) ∷ value.Nil ∷ [])
  pub strings_give : gives strings ≡ Values (value.Int (pos 2) ∷ value.Bool true ∷ value.Bool true ∷ [])
  pub wrong_raises : gives wrong ≡ Error (codes "m.lua:1: attempt to perform arithmetic on a nil value")
  pub no_function_raises : gives no_function ≡ Error (codes "m.lua:1: attempt to call a nil value")
  pub unmade_raises : unmade ≡ Error (codes "attempt to call a function value")
  pub endless_stops : gives endless ≡ NoTicks
  pub tail_gives : gives tail ≡ ints (pos 7 ∷ [])
  -- a string of 2 bytes costs one unit
  pub units_are_exact : within 400 100 1 strings ≡ Values (value.Int (pos 2) ∷ value.Bool true ∷ value.Bool true ∷ [])
  pub units_are_counted : within 400 100 0 strings ≡ NoUnits
