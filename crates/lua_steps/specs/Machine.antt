-- A machine that runs code, as plain data: frames over one row of values, cells, closures, and what most operations leave as it is.
-- It is this project's own; a cell is what lfunc.c calls an upvalue that is closed.
use Rattle.std.specs.Prelude.{ℕ, List}
use Rattle.lua_value.specs.declared.value.Value.{Value}
use Rattle.lua_model.specs.Heap as model
use Rattle.lua_heap.specs.Contents.{Made}
use Rattle.lua_code.specs.Routine.{Routine}

abbrev pub Code : Type 0
Code = List Routine

-- where the values go that a frame waits for
pub data Wanted : Type 0 where
  -- the first `count` of them, filled with nil, to the slots from `to` on
  InSlots : (to count : ℕ) → Wanted
  -- all of them, as a list on top of the lists
  OnTop : Wanted

pub record Frame : Type 0 where
  pub function : ℕ
  -- the operation that comes next
  pub at : ℕ
  -- where its slots begin in the row
  pub base : ℕ
  -- the cells of its captured locals, and those of its closure, as numbers of the machine's cells
  pub cells : List ℕ
  pub ups : List ℕ
  -- the further arguments of its function
  pub dots : List Value
  -- lists under construction, the last one first
  pub lists : List (List Value)
  -- while it waits
  pub wants : Wanted

-- a function of the code, with the cells that it captured
abbrev pub Closure : Type 0
Closure = Made

-- a thread that does not run
pub data Thread : Type 0 where
  -- it waits for values in its innermost frame
  Asleep : (top : Frame) (below : List Frame) (row : List Value) → Thread
  -- it runs, or it has resumed another
  Busy : Thread
  Dead : Thread

-- a thread that has resumed another, and the frames in which it waits
pub record Resumer : Type 0 where
  pub thread : ℕ
  pub top : Frame
  pub below : List Frame
  pub row : List Value

-- what most operations leave as it is
pub record Aside : Type 0 where
  -- the script's name
  pub name : List ℕ
  -- strings and units
  pub heap : model.Heap
  -- the thread that runs, those that resumed it, the last first, and all threads by their numbers
  pub running : ℕ
  pub resumers : List Resumer
  pub threads : List Thread

pub record Machine : Type 0 where
  -- the frame that runs, and those that wait for it, the innermost first
  pub top : Frame
  pub below : List Frame
  -- the slots of all frames of the running thread
  pub row : List Value
  pub cells : List Value
  -- the functions that were made, by their numbers
  pub closures : List Closure
  -- the ticks that are left for this message
  pub left : ℕ
  pub aside : Aside

-- a call of a function that the host has
pub record NativeCall : Type 0 where
  pub called : Value
  pub args : List Value

pub data Stop : Type 0 where
  -- the thread that was entered ends with these values, or with an error
  Return : (vs : List Value) → Stop
  Raise : (v : Value) → Stop
  -- the next ticks pass the budget
  Budget : Stop
  -- the next units pass the heap
  HeapFull : Stop

-- what an operation leads to
pub data Went : Type 0 where
  On : (m : Machine) → Went
  Off : (x : Stop) (m : Machine) → Went
  -- the host is called, and the machine waits for the results
  Paused : (call : NativeCall) (m : Machine) → Went
  -- no compiled code comes here
  Stuck : Went
