-- What a heap holds that has no code in it, and the units that it counts.
use Rattle.std.specs.Prelude.{ℕ, ◌+◌, ◌/◌, ltb, Bool, true, false, if◌then◌else◌, List, [], length, Option, Some, None}
use Rattle.lua_value.specs.declared.value.Value.{Value}
use Rattle.lua_value.specs.declared.value.Value.TheVariants as value
use Rattle.lua_model.specs.Texts.{Texts, number_of, with_text}

pub record Heap : Type 0 where
  pub texts : Texts
  -- the units made since counting began, and how many may be made
  pub units : ℕ
  pub limit : ℕ
  -- whether counting has begun
  pub counts : Bool

abbrev pub empty : ℕ → Heap
empty limit = record { texts = []; units = 0; limit = limit; counts = false }

-- a closure costs one unit, and a string of n bytes 1 + n div 16
abbrev pub closure_units : ℕ
closure_units = 1

abbrev pub text_units : List ℕ → ℕ
text_units bytes = 1 + length bytes / 16

-- the ticks of a new string of n bytes: n div 64
abbrev pub text_ticks : List ℕ → ℕ
text_ticks bytes = length bytes / 64

abbrev pub counted : Bool → ℕ → Heap → Option Heap
counted false n h = Some h
counted true n h = if ltb h.limit (h.units + n) then None else Some (record h { units = h.units + n })

-- after n units more, or none where they would pass the limit; before counting nothing is counted
abbrev pub charged : ℕ → Heap → Option Heap
charged n h = counted h.counts n h

-- the heap has the string
abbrev pub holding : List ℕ → Heap → Heap
holding bytes h = record h { texts = with_text h.texts bytes }

-- the value of the string; equal bytes have one number
abbrev pub text_value : List ℕ → Heap → Value
text_value bytes h = value.Text (number_of h.texts bytes)
