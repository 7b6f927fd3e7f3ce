-- Small pieces of code, and what they give; the values were taken from Lua 5.4.
use Rattle.std.specs.Prelude.{◌≡◌, ℕ, Bool, true, false, List, [], ◌∷◌, length, codes, pos, negsuc}
use Rattle.lua_value.specs.declared.value.Value.TheVariants as value
use Rattle.lua_model.specs.declared.operator.Binary.TheVariants as binary
use Rattle.lua_meaning.specs.Worked.{Outcome, Values, Error, NoTicks, NoUnits, Other, ints, counting}
use Rattle.lua_code.specs.declared.function.Capture.{Capture}
use Rattle.lua_code.specs.declared.function.Capture.TheVariants as capture
use Rattle.lua_code.specs.declared.function.Constant.TheVariants as constant
use Rattle.lua_code.specs.declared.op.Op.{Op}
use Rattle.lua_code.specs.declared.op.Op.TheVariants as op
use Rattle.lua_code.specs.Routine.{Routine}
use Rattle.lua_steps.specs.Machine.{Code, Machine, Went, Paused}
use Rattle.lua_steps.specs.Calls.{given}
use Rattle.lua_steps.specs.Exec.{start_ops, opening}
use Rattle.lua_steps.specs.Run.{run, outcome_of}

-- each operation on line 1
abbrev pub ones : List Op → List ℕ
ones [] = []
ones (o ∷ os) = 1 ∷ ones os

abbrev pub routine : ℕ → Bool → List Capture → List Op → Routine
routine params dots captures ops =
    record {
      ops = ops;
      lines = ones ops;
      constants = constant.Text (codes "n") ∷ [];
      captures = captures;
      shape = record { params = params; pay = 1; has_dots = dots; slots = 8; cells = 1 };
    }

-- the chunk's own operations, and one function more
abbrev pub code : Routine → List Op → Code
code f ops = routine 0 false [] start_ops ∷ f ∷ routine 0 true [] ops ∷ []

abbrev pub begun : ℕ → ℕ → Machine
begun budget limit = given (opening (codes "m") 2 (counting limit) budget) []

abbrev pub none : Routine
none = routine 0 false [] (op.Return 0 0 ∷ [])

abbrev pub gives : Routine → List Op → Outcome
gives f ops = outcome_of (run 200 (code f ops) (begun 100 100))

-- 7 // -2, 7 % -2, 1 << 64
abbrev pub operators : List Op
operators =
    op.Int 0 (pos 7) ∷ op.Int 1 (negsuc 1) ∷ op.Binary binary.FloorDiv 2 0 1 ∷ op.Binary binary.Mod 3 0 1 ∷ op.Int 0 (pos 1) ∷ op.Int 1 (pos 64) ∷ op.Binary binary.ShiftLeft 4 0 1
    ∷ op.Return 2 3 ∷ []

-- local x = 7  return x // -2
abbrev pub by_integer : List Op
by_integer = op.Int 0 (pos 7) ∷ op.BinaryInt binary.FloorDiv 1 0 (negsuc 1) ∷ op.Return 1 1 ∷ []

-- local a = 1  local function f() a = a + 1 end  f()  f()  return a
abbrev pub adds : Routine
adds = routine 0 false (capture.Cell 0 ∷ []) (op.GetUp 0 0 ∷ op.AddInt 0 0 (pos 1) ∷ op.SetUp 0 0 ∷ op.Return 0 0 ∷ [])

abbrev pub shared : List Op
shared =
    op.Int 0 (pos 1) ∷ op.NewCell 0 0 ∷ op.Close 1 1 ∷ op.Move 2 1 ∷ op.Call 2 0 0 ∷ op.Move 2 1 ∷ op.Call 2 0 0 ∷ op.GetCell 2 0 ∷ op.Return 2 1 ∷ []

-- a = 0  for i = 3, 1, -2 do a = a + i end  return a
abbrev pub downwards : List Op
downwards =
    op.Int 0 (pos 0) ∷ op.Int 1 (pos 3) ∷ op.Int 2 (pos 1) ∷ op.Int 3 (negsuc 1) ∷ op.ForPrep 1 1 7 ∷ op.Add 0 0 4 ∷ op.ForLoop 1 1 5 ∷ op.Return 0 1 ∷ []

-- a = 0  for i = 2 ^ 63, 1 - 2 ^ 63 do a = a + 1 end  return a, where the first number is one that no text has
abbrev pub beyond_range : List Op
beyond_range =
    op.Int 0 (pos 0) ∷ op.Int 1 (pos 9223372036854775808) ∷ op.Int 2 (negsuc 9223372036854775806) ∷ op.Int 3 (pos 1) ∷ op.ForPrep 1 1 7 ∷ op.AddInt 0 0 (pos 1) ∷ op.ForLoop 1 1 5 ∷ op.Return 0 1 ∷ []

-- for i = 1, 2, 0 do end
abbrev pub no_step : List Op
no_step = op.Int 1 (pos 1) ∷ op.Int 2 (pos 2) ∷ op.Int 3 (pos 0) ∷ op.ForPrep 1 1 4 ∷ op.Return 0 0 ∷ []

-- local function f(a, b, ...) return b, a, ... end  return f(1, 2, 3, 4)
abbrev pub turned : Routine
turned = routine 2 true [] (op.Begin ∷ op.Push 1 ∷ op.Push 0 ∷ op.Dots ∷ op.Append ∷ op.ReturnList ∷ [])

abbrev pub all_values : List Op
all_values =
    op.Close 0 1 ∷ op.Begin ∷ op.Push 0 ∷ op.Int 1 (pos 1) ∷ op.Push 1 ∷ op.Int 1 (pos 2) ∷ op.Push 1 ∷ op.Int 1 (pos 3) ∷ op.Push 1 ∷ op.Int 1 (pos 4) ∷ op.Push 1
    ∷ op.CallList 1 ∷ op.ReturnList ∷ []

-- the first three of them, from slots
abbrev pub some_values : List Op
some_values = op.Close 0 1 ∷ op.Int 1 (pos 1) ∷ op.Int 2 (pos 2) ∷ op.Call 0 2 3 ∷ op.Return 0 3 ∷ []

-- for i in f, 3, 0 do a = a + i end  return a, where f(n, i) is i + 1 up to n, and then nil
abbrev pub counts : Routine
counts =
    routine 2 false [] (op.UnlessLess 1 0 0 3 ∷ op.AddInt 2 1 (pos 1) ∷ op.Return 2 1 ∷ op.Nil 2 ∷ op.Return 2 1 ∷ [])

abbrev pub iterated : List Op
iterated =
    op.Int 0 (pos 0) ∷ op.Close 1 1 ∷ op.Int 2 (pos 3) ∷ op.Int 3 (pos 0) ∷ op.Jump 6 ∷ op.Add 0 0 4 ∷ op.ForCall 1 1 ∷ op.ForEach 1 1 5 ∷ op.Return 0 1 ∷ []

-- "n" .. 7
abbrev pub joined : List Op
joined = op.Constant 0 0 ∷ op.Int 1 (pos 7) ∷ op.Binary binary.Concat 2 0 1 ∷ op.Constant 0 0 ∷ op.Binary binary.Less 0 0 2 ∷ op.Return 0 1 ∷ []

-- 1 + nil
abbrev pub wrong : List Op
wrong = op.Nil 0 ∷ op.AddInt 0 0 (pos 1) ∷ op.Return 0 1 ∷ []

-- while true do end
abbrev pub endless : List Op
endless = op.Loop 1 0 ∷ []

-- f(a) calls a of the host in its last act; how many frames wait then
abbrev pub passes : Routine
passes = routine 1 false [] (op.TailCall 0 0 ∷ op.ReturnList ∷ [])

abbrev pub frames : Went → Outcome
frames (Paused c m) = ints (pos (length m.below) ∷ [])
frames _ = Other

abbrev pub waiting : List Op → ℕ → Outcome
waiting ops n = frames (run n (code passes ops) (record (begun 100 100) { row = value.Nil ∷ value.Nil ∷ value.Native 3 ∷ [] }))

abbrev pub tail : List Op
tail = op.Close 0 1 ∷ op.Move 1 2 ∷ op.TailCall 0 1 ∷ op.ReturnList ∷ []

abbrev pub no_tail : List Op
no_tail = op.Close 0 1 ∷ op.Move 1 2 ∷ op.CallAll 0 1 ∷ op.ReturnList ∷ []

pub record CodeRunsAsInLua : Type 0 where
  pub operators_give : gives none operators ≡ ints (negsuc 3 ∷ negsuc 0 ∷ pos 0 ∷ [])
  pub integer_divides : gives none by_integer ≡ ints (negsuc 3 ∷ [])
  pub cells_are_shared : gives adds shared ≡ ints (pos 3 ∷ [])
  pub loop_gives : gives none downwards ≡ ints (pos 4 ∷ [])
  pub values_are_words : gives none beyond_range ≡ ints (pos 2 ∷ [])
  pub step_is_refused : gives none no_step ≡ Error (codes "m.lua:1: for step is zero")
  pub lists_are_whole : gives turned all_values ≡ ints (pos 2 ∷ pos 1 ∷ pos 3 ∷ pos 4 ∷ [])
  pub lists_are_filled : gives turned some_values ≡ Values (value.Int (pos 2) ∷ value.Int (pos 1) ∷ value.Nil ∷ [])
  pub iterator_gives : gives counts iterated ≡ ints (pos 6 ∷ [])
  pub strings_compare : gives none joined ≡ Values (value.Bool true ∷ [])
  pub wrong_raises : gives none wrong ≡ Error (codes "m.lua:1: attempt to perform arithmetic on a nil value")
  -- a machine that lacks the chunk's function
  pub unmade_raises : outcome_of (run 200 (code none endless) (record (begun 100 100) { closures = [] })) ≡ Error (codes "attempt to call a function value")
  pub endless_stops : gives none endless ≡ NoTicks
  -- a call and a closure cost 1 each
  pub call_is_paid : outcome_of (run 100 (code none (op.Return 0 0 ∷ [])) (begun 0 100)) ≡ NoTicks
  pub closure_is_paid : outcome_of (run 100 (code none (op.Close 0 1 ∷ op.Return 0 0 ∷ [])) (begun 100 0)) ≡ NoUnits
  pub tail_leaves : waiting tail 10 ≡ ints (pos 1 ∷ [])
  pub call_stays : waiting no_tail 10 ≡ ints (pos 2 ∷ [])
