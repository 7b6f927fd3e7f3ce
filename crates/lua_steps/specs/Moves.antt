-- What operations have in common: to go on, to read and write slots, to pay ticks and units, to raise, and the end of a thread
-- (manual, sections 2.3 and 2.6; ticks and units are this project's own).
use Rattle.std.specs.Prelude.{ℕ, zero, suc, ◌+◌, ◌-◌, ltb, true, false, if◌then◌else◌, List, [], ◌∷◌, ◌++◌, Option, Some, None, slice_set}
use Rattle.lua_value.specs.declared.value.Value.{Value}
use Rattle.lua_value.specs.declared.value.Value.TheVariants as value
use Rattle.lua_value.specs.Lists.{value_at, adjusted}
use Rattle.lua_model.specs.declared.refusal.Refusal.{Refusal}
use Rattle.lua_model.specs.Refusal.{refusal_text, position_text}
use Rattle.lua_model.specs.Answer as answer
use Rattle.lua_model.specs.Answer.{Answer}
use Rattle.lua_model.specs.Heap as model
use Rattle.lua_steps.specs.Machine.{Wanted, InSlots, OnTop, Frame, Dead, Resumer, Machine, Return, Raise, Budget, HeapFull, Went, On, Off, Stuck}

-- ---- places
abbrev pub at_next : Frame → Frame
at_next f = record f { at = f.at + 1 }

-- the next operation
abbrev pub next : Machine → Went
next m = On (record m { top = at_next m.top })

abbrev pub jump : ℕ → Machine → Went
jump to m = On (record m { top = record m.top { at = to } })

-- ---- slots
abbrev pub slot : Machine → ℕ → Value
slot m i = value_at m.row (m.top.base + i)

abbrev pub with_slot : ℕ → Value → Machine → Machine
with_slot i v m = record m { row = slice_set m.row (m.top.base + i) v }

-- these values stand from a place of the row on
abbrev pub written : List Value → ℕ → List Value → List Value
written row i [] = row
written row i (v ∷ vs) = written (slice_set row i v) (i + 1) vs

abbrev pub with_slots : ℕ → List Value → Machine → Machine
with_slots i vs m = record m { row = written m.row (m.top.base + i) vs }

-- so many values from a place of the row on
abbrev pub values_from : List Value → ℕ → ℕ → List Value
values_from row i zero = []
values_from row i (suc n) = value_at row i ∷ values_from row (i + 1) n

abbrev pub slots_from : Machine → ℕ → ℕ → List Value
slots_from m i n = values_from m.row (m.top.base + i) n

-- the value goes to a slot, and the next operation follows
abbrev pub gives : ℕ → Value → Machine → Went
gives to v m = next (with_slot to v m)

-- ---- lists
abbrev pub with_lists : List (List Value) → Machine → Machine
with_lists ls m = record m { top = record m.top { lists = ls } }

abbrev pub on_list : List (List Value) → (List Value → List (List Value) → Went) → Went
on_list [] go = Stuck
on_list (l ∷ ls) go = go l ls

-- ---- ticks and units
-- n ticks are paid, or they pass the budget
abbrev pub paid : ℕ → Machine → (Machine → Went) → Went
paid n m go = if ltb m.left n then Off Budget m else go (record m { left = m.left - n })

abbrev pub kept : Option model.Heap → Machine → (Machine → Went) → Went
kept None m go = Off HeapFull m
kept (Some heap) m go = go (record m { aside = record m.aside { heap = heap } })

-- a new string is made, whose ticks come before its units
abbrev pub made : List ℕ → Machine → (Value → Machine → Went) → Went
made bytes m go =
    paid (model.text_ticks bytes) m (λ t. kept (model.charged (model.text_units bytes) (model.holding bytes t.aside.heap)) t (go (model.text_value bytes t.aside.heap)))

-- ---- the end of a thread
-- the frame that waits gets these values
abbrev pub received : Wanted → List Value → Machine → Machine
received (InSlots to count) vs m = with_slots to (adjusted count vs) m
received OnTop vs m = with_lists (vs ∷ m.top.lists) m

-- back to the thread that resumed this one, which is dead from now on
abbrev pub back : Resumer → List Resumer → List Value → Machine → Went
back r rs vs m =
    On (received r.top.wants vs (record m {
      top = r.top;
      below = r.below;
      row = r.row;
      aside = record m.aside { running = r.thread; resumers = rs; threads = slice_set m.aside.threads m.aside.running Dead };
    }))

-- the running thread ends with these values
abbrev pub finish : List Resumer → List Value → Machine → Went
finish [] vs m = Off (Return vs) m
finish (r ∷ rs) vs m = back r rs (value.Bool true ∷ vs) m

-- or with an error
abbrev pub fail : List Resumer → Value → Machine → Went
fail [] v m = Off (Raise v) m
fail (r ∷ rs) v m = back r rs (value.Bool false ∷ v ∷ []) m

-- ---- errors
-- an error leaves all frames of the thread
abbrev pub raised : Value → Machine → Went
raised v m = fail m.aside.resumers v m

-- what stands before an error's text: none where no term of a script makes the call
abbrev pub place : List ℕ → Option ℕ → List ℕ
place name None = []
place name (Some line) = position_text name line

abbrev pub refused : Option ℕ → Refusal → Machine → Went
refused line why m = made (place m.aside.name line ++ refusal_text why) m (λ v t. raised v t)

-- an operation's answer goes to a slot
abbrev pub answered : Answer → ℕ → ℕ → Machine → Went
answered (answer.Plain v) to line m = gives to v m
answered (answer.Fresh bytes) to line m = made bytes m (λ v t. gives to v t)
answered (answer.Refused why) to line m = refused (Some line) why m
