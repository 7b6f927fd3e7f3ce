-- Calls and returns of inner calls are those of the frames that they stand for.
use Rattle.std.proofs.Common.{◌≡◌, ◌≢◌, ◌⊎◌, inl, inr, Bool, true, false, ℕ, zero, suc, ◌+◌, ◌-◌, ◌<◌, ◌≤◌, List, [], ◌∷◌, length, Option, Some, None, IfSome, refl, sym, ap, ◌∙◌, subst, arith}
use Rattle.std.specs.Prelude.{ltb, if◌then◌else◌, slice_set, slice_get, option_map}
use Rattle.std.proofs.lemmas.Bool.{ltb-false, ltb-true}
use Rattle.std.proofs.lemmas.List.{length-set, get_or-set_same, get_or-set_other}
use Rattle.lua_value.specs.declared.value.Value.{Value}
use Rattle.lua_value.specs.declared.value.Value.TheVariants as value
use Rattle.lua_value.specs.Lists.{value_at, adjusted}
use Rattle.lua_code.specs.Routine.{Routine}
use Rattle.lua_code.specs.Valid as valid_code
use Rattle.lua_code.specs.Valid.{IsValid}
use Rattle.lua_code.specs.declared.op.Op.{Op}
use Rattle.lua_code.specs.declared.op.Op.TheVariants as op
use Rattle.lua_steps.specs.Machine.{Code, Closure, Frame, InSlots, OnTop, Machine, On}
use Rattle.lua_steps.specs.Moves.{slot, values_from, written, received}
use Rattle.lua_steps.specs.Calls.{waiting, hand}
use Rattle.lua_steps.specs.Exec.{fresh, op_at}
use Rattle.lua_steps.specs.Measure.{total, rank, MeasureFalls}
use Rattle.lua_machine.specs.declared.call_info.CallInfo.{CallInfo}
use Rattle.lua_machine.specs.declared.call_info.Owner.{Owner}
use Rattle.lua_machine.specs.declared.call_info.Owner.TheVariants as owner
use Rattle.lua_machine.specs.declared.pace.Halt.{Halt}
use Rattle.lua_machine.specs.declared.pace.Pace.{Pace}
use Rattle.lua_machine.specs.declared.pace.Pass.{Pass}
use Rattle.lua_machine.specs.declared.pace.Pass.TheVariants as pass
use Rattle.lua_machine.specs.Nests.{cells_in, function_in, IsMade, IsOwner, IsThere, frame_of, entered, call_at, beneath, nested, over, Begins, HandedTo, Runnable, CanResume, AllResume, Ready, Reaches, Nests, Nested, Advanced}
use Rattle.lua_machine.specs.Passes.{Fits}
use Rattle.lua_machine.specs.Stack.{Stacked, plain}
use Rattle.lua_machine.specs.Stretch.{at_work, Stretched, Goes}
use Rattle.lua_machine.specs.Quick.{IsPass}
use Rattle.lua_machine.proofs.QuickLemmas.{fits_at}
use Rattle.lua_machine.proofs.StretchLemmas.{holding, stretched_none, stretched_join, stretched_more, stretched_falls, gone}
use Rattle.lua_machine.proofs.RunLemmas.{runs_reach}
use Rattle.lua_machine.proofs.PassLemmas.{passes_call}

abbrev pub no_call : CallInfo
no_call = record { function = 0; closure = 0; at = 0; base = 0; has_called = false; to = 0; count = 0 }

-- ---- inner calls past a depth are not seen from it
pub beneath_set : (cs : List Closure) (d i : ℕ) (calls : List CallInfo) (c : CallInfo) (s : Stacked) → d ≤ i → beneath cs (slice_set calls i c) d s ≡ beneath cs calls d s
beneath_set cs zero i calls c s le = refl
beneath_set cs (suc d) i calls c s le =
    let differs : d ≢ i = λ e. omega arith in
    let first : call_at (slice_set calls i c) d ≡ call_at calls d = get_or-set_other calls i d c no_call differs in
    let below : beneath cs (slice_set calls i c) d s ≡ beneath cs calls d s = beneath_set cs d i calls c s (omega arith) in
    ap (λ (x : CallInfo). frame_of cs x ∷ beneath cs (slice_set calls i c) d s) first ∙ ap (λ (xs : List Frame). frame_of cs (call_at calls d) ∷ xs) below

-- one more inner call, where the one that ran ends as `w`
pub nested_more : (cs : List Closure) (d : ℕ) (calls : List CallInfo) (c w : CallInfo) (s : Stacked) → d + 1 < length calls
    → nested cs (slice_set (slice_set calls (d + 1) c) d w) (d + 1) s ≡ record { top = frame_of cs c; below = frame_of cs w ∷ beneath cs calls d s }
nested_more cs d calls c w s lt =
    let longer = slice_set calls (d + 1) c in
    let long : length longer ≡ length calls = length-set calls (d + 1) c in
    let differs : d + 1 ≢ d = λ is. omega arith in
    let next : d + 1 ≡ suc d = omega arith in
    let top : call_at (slice_set longer d w) (d + 1) ≡ c = get_or-set_other longer d (d + 1) w no_call differs ∙ get_or-set_same calls (d + 1) c no_call lt in
    let waits : call_at (slice_set longer d w) d ≡ w = get_or-set_same longer d w no_call (omega arith) in
    let below : beneath cs (slice_set longer d w) d s ≡ beneath cs calls d s = beneath_set cs d d longer w s (omega arith) ∙ beneath_set cs d (d + 1) calls c s (omega arith) in
    ap (λ (x : CallInfo). record { top = frame_of cs x; below = beneath cs (slice_set longer d w) (d + 1) s }) top
    ∙ ap (λ (n : ℕ). record { top = frame_of cs c; below = beneath cs (slice_set longer d w) n s }) next
    ∙ ap (λ (x : CallInfo). record { top = frame_of cs c; below = frame_of cs x ∷ beneath cs (slice_set longer d w) d s }) waits
    ∙ ap (λ (xs : List Frame). record { top = frame_of cs c; below = frame_of cs w ∷ xs }) below

-- ---- closures
pub cells_told : (o : Option Closure) (cells : List ℕ) → Some cells ≡ option_map (λ (c : Closure). c.cells) o → cells ≡ cells_in o
cells_told None cells e = absurd (cc)
cells_told (Some c) cells e = cc

pub function_told : (o : Option Closure) (n function : ℕ) → Some n ≡ option_map (λ (c : Closure). c.function) o → function_in o ≡ Some function → n ≡ function
function_told None n function e made = absurd (cc)
function_told (Some c) n function e made = cc

pub made_there : (cs : List Closure) (k function : ℕ) → IsMade cs k function → k < length cs
made_there [] k function e = absurd (cc)
made_there (x ∷ cs) zero function e = omega arith
made_there (x ∷ cs) (suc k) function e = let lt = made_there cs k function e in omega (arith, lt)

pub owner_there : (o : Owner) (cs : List Closure) (function : ℕ) → IsOwner o cs function → IsThere o cs
owner_there (owner.Frame f) cs function is = tt
owner_there (owner.Closure c) cs function is = made_there cs c function is

-- ---- calls
pub begins_so : (code : Code) (cs : List Closure) (row : List Value) (from base args left k place function pay : ℕ) (c : Closure) (f : Routine) → value_at row (from + base) ≡ value.Func k → slice_get cs k ≡ Some c
    → slice_get code c.function ≡ Some f → place ≡ from + (base + 1) → Fits f.shape args place (length row) left → f.shape.cells ≡ 0 → function ≡ c.function → pay ≡ f.shape.pay
    → Begins code cs row from base args left function k place (left - pay)
begins_so code cs row from base args left k place function pay c f is_func is_closure is_routine is_place fits no_cells is_function is_pay = record {
  is = λ m results same_closures same_row same_base same_left.
      let callee = entered cs function k place in
      let w = waiting (InSlots base results) m.top ∷ m.below in
      let begun : Stacked = record { top = callee; below = w } in
      let func : slot m base ≡ value.Func k = ap (λ (r : List Value). value_at r (m.top.base + base)) same_row ∙ ap (λ (n : ℕ). value_at row (n + base)) same_base ∙ is_func in
      let closure : slice_get m.closures k ≡ Some c = ap (λ (xs : List Closure). slice_get xs k) same_closures ∙ is_closure in
      let placed : place ≡ m.top.base + (base + 1) = is_place ∙ ap (λ (n : ℕ). n + (base + 1)) (sym same_base) in
      let fit : Fits f.shape args place (length m.row) m.left = subst (λ (n : ℕ). Fits f.shape args place (length m.row) n) (sym same_left) (subst (λ (r : List Value). Fits f.shape args place (length r) left) (sym same_row) fits) in
      let frame : callee ≡ plain c f.shape.cells place =
      ap (λ (n : ℕ). record callee { function = n }) is_function
      ∙ ap (λ (o : Option Closure). record (plain c 0 place) { ups = cells_in o }) is_closure
      ∙ ap (λ (n : ℕ). plain c n place) (sym no_cells) in
      let opened : begun ≡ record { top = plain c f.shape.cells place; below = w } = ap (λ (x : Frame). record { top = x; below = w }) frame in
      passes_call code m base args results k place c f begun func closure is_routine placed fit opened
      ∙ ap (λ (n : ℕ). On (record m { top = callee; below = w; left = n - f.shape.pay })) same_left
      ∙ ap (λ (n : ℕ). On (record m { top = callee; below = w; left = left - n })) (sym is_pay);
  made = ap (λ (o : Option Closure). function_in o) is_closure ∙ ap (λ (n : ℕ). Some n) (sym is_function);
}

-- a call that has not waited stands for the frame of one that begins, at its first operation
entered_by : (cs : List Closure) (e : CallInfo) → e.has_called ≡ false → entered cs e.function e.closure e.base ≡ record (frame_of cs e) { at = 0 }
entered_by cs e not_yet = ap (λ (b : Bool). record (frame_of cs e) { at = 0; wants = if b then InSlots e.to e.count else OnTop }) (sym not_yet)

pub nests_call : (code : Code) (cs : List Closure) (calls : List CallInfo) (d : ℕ) (row : List Value) (base args results left : ℕ) (pace : Pace) (e w : CallInfo) → d + 1 < length calls
    → Begins code cs row (call_at calls d).base base args pace.left e.function e.closure e.base left → e.has_called ≡ false
    → w ≡ record (call_at (slice_set calls (d + 1) e) d) { at = pace.at + 1; has_called = true; to = base; count = results }
    → Nests code cs (op.Call base args results) calls d row pace (slice_set (slice_set calls (d + 1) e) d w) (d + 1) row (record { at = 0; left = left })
nests_call code cs calls d row base args results left pace e w lt begins not_yet is_waiting = record {
  is = λ s. record {
    is = λ m cells same.
        let x = at_work (nested cs calls d s) row cells pace m in
        let below = beneath cs calls d s in
        let differs : d ≢ d + 1 = λ is. omega arith in
        let ran : call_at (slice_set calls (d + 1) e) d ≡ call_at calls d = get_or-set_other calls (d + 1) d e no_call differs in
        let waits : waiting (InSlots base results) x.top ≡ frame_of cs w =
        ap (λ (c : CallInfo). frame_of cs (record c { at = pace.at + 1; has_called = true; to = base; count = results })) (sym ran) ∙ ap (λ (c : CallInfo). frame_of cs c) (sym is_waiting) in
        begins.is x results same refl refl refl
        ∙ ap (λ (f : Frame). On (record x { top = f; below = waiting (InSlots base results) x.top ∷ below; left = left })) (entered_by cs e not_yet)
        ∙ ap (λ (f : Frame). On (record x { top = record (frame_of cs e) { at = 0 }; below = f ∷ below; left = left })) waits
        ∙ ap (λ (t : Stacked). On (at_work t row cells (record { at = 0; left = left }) m)) (sym (nested_more cs d calls e w s lt));
  };
}

-- the first inner call of a frame, which waits for it
pub nests_first : (code : Code) (cs : List Closure) (s t : Stacked) (calls : List CallInfo) (row : List Value) (base args results left : ℕ) (pace : Pace) (e : CallInfo) → 0 < length calls
    → Begins code cs row s.top.base base args pace.left e.function e.closure e.base left → e.has_called ≡ false → t ≡ record { top = waiting (InSlots base results) (record s.top { at = pace.at }); below = s.below }
    → Goes code cs (op.Call base args results) s row pace (nested cs (slice_set calls 0 e) 0 t) row (record { at = 0; left = left })
nests_first code cs s t calls row base args results left pace e lt begins not_yet is_waiting = record {
  is = λ m cells same.
      let x = at_work s row cells pace m in
      let w = waiting (InSlots base results) x.top in
      let first : call_at (slice_set calls 0 e) 0 ≡ e = get_or-set_same calls 0 e no_call lt in
      begins.is x results same refl refl refl
      ∙ ap (λ (f : Frame). On (record x { top = f; below = w ∷ s.below; left = left })) (entered_by cs e not_yet)
      ∙ ap (λ (t : Stacked). On (record x { top = record (frame_of cs e) { at = 0 }; below = t.top ∷ t.below; left = left })) (sym is_waiting)
      ∙ ap (λ (c : CallInfo). On (record x { top = record (frame_of cs c) { at = 0 }; below = t.top ∷ t.below; left = left })) (sym first);
}

-- ---- returns
pub nests_return : (code : Code) (cs : List Closure) (calls : List CallInfo) (d e base from count to : ℕ) (row after : List Value) (pace : Pace) → d ≡ e + 1 → base ≡ (call_at calls d).base → (call_at calls e).has_called ≡ true
    → to ≡ (call_at calls e).base + (call_at calls e).to → HandedTo true (call_at calls e).count to (base + from) count row after
    → Nests code cs (op.Return from count) calls d row pace calls e after (record { at = (call_at calls e).at; left = pace.left })
nests_return code cs calls d e base from count to row after pace above begins called is_to handed = record {
  is = λ s. record {
    is = λ m cells same.
        let x = at_work (nested cs calls d s) row cells pace m in
        let c = call_at calls e in
        let f = frame_of cs c in
        let fs = beneath cs calls e s in
        let next : d ≡ suc e = omega (arith, above) in
        let vs = values_from row (base + from) count in
        let waited : Machine = record x { top = f; below = fs } in
        ap (λ (n : ℕ). hand (values_from row (n + from) count) (beneath cs calls d s) x) (sym begins)
        ∙ ap (λ (n : ℕ). hand vs (beneath cs calls n s) x) next
        ∙ ap (λ (b : Bool). On (received (if b then InSlots c.to c.count else OnTop) vs waited)) called
        ∙ ap (λ (n : ℕ). On (record waited { row = written row n (adjusted c.count vs) })) (sym is_to)
        ∙ ap (λ (r : List Value). On (record waited { row = r })) (sym handed);
  };
}

-- ---- inner calls that wait
same_length : (code : Code) (cs : List Closure) (row after : List Value) (c : CallInfo) → length after ≡ length row → CanResume code cs row c → CanResume code cs after c
same_length code cs row after c e h =
    let room : c.base + h.routine.shape.slots ≤ length row = h.room in
    let takes : c.base + c.to + c.count ≤ length row = h.takes in
    record { made = h.made; routine = h.routine; is = h.is; room = omega (arith, e, room); place = h.place; called = h.called; takes = omega (arith, e, takes) }

ready_same_length : (code : Code) (cs : List Closure) (calls : List CallInfo) (row after : List Value) (d function closure base : ℕ) (ops : List Op) (at : ℕ) → length after ≡ length row → Ready code cs calls row d function closure base ops at
    → Ready code cs calls after d function closure base ops at
ready_same_length code cs calls row after d function closure base ops at e h = record {
  within = h.within;
  serves = h.serves;
  closes = h.closes;
  begins = h.begins;
  made = h.made;
  runs = subst (λ (n : ℕ). Runnable code function ops base n) (sym e) h.runs;
  place = h.place;
  below = record { each = λ i lt. same_length code cs row after (call_at calls i) e (h.below.each i lt) };
}

pub ready_kept : (code : Code) (cs ds : List Closure) (calls : List CallInfo) (row after : List Value) (d function closure base : ℕ) (ops : List Op) (at : ℕ) → length after ≡ length row → ds ≡ cs → Ready code cs calls row d function closure base ops at
    → Ready code ds calls after d function closure base ops at
ready_kept code cs ds calls row after d function closure base ops at e same h =
    subst (λ (xs : List Closure). Ready code xs calls after d function closure base ops at) (sym same) (ready_same_length code cs calls row after d function closure base ops at e h)

pub all_fewer : (code : Code) (cs : List Closure) (calls : List CallInfo) (row after : List Value) (d e : ℕ) → e ≤ d → length after ≡ length row → AllResume code cs calls row d → AllResume code cs calls after e
all_fewer code cs calls row after d e le same h = record { each = λ i lt. same_length code cs row after (call_at calls i) same (h.each i (omega (arith, lt, le))) }

pub none_below : (code : Code) (cs : List Closure) (calls : List CallInfo) (row : List Value) → AllResume code cs calls row 0
none_below code cs calls row = record { each = λ i lt. absurd (omega (arith, lt)) }

last_or_before : (i d : ℕ) → i < d + 1 → (i < d) ⊎ (i ≡ d)
last_or_before i d less = go (ltb i d) refl
  where
    go : (b : Bool) → ltb i d ≡ b → (i < d) ⊎ (i ≡ d)
    go true is = inl (ltb-true _ _ is)
    go false is = let le : d ≤ i = ltb-false _ _ is in inr (omega (arith, less, le))

-- the one that ran waits at the next place, and a call is above it
all_more : (code : Code) (cs : List Closure) (calls : List CallInfo) (row : List Value) (d function closure base : ℕ) (ops : List Op) (at next to count : ℕ) (e w : CallInfo) → d + 1 < length calls → next < length ops
    → Ready code cs calls row d function closure base ops at → w ≡ record (call_at (slice_set calls (d + 1) e) d) { at = next; has_called = true; to = to; count = count } → base + to + count ≤ length row
    → AllResume code cs (slice_set (slice_set calls (d + 1) e) d w) row (d + 1)
all_more code cs calls row d function closure base ops at next to count e w lt is_next ready is_waiting takes = record { each = λ i less. go i (last_or_before i d less) }
  where
    go : (i : ℕ) → (i < d) ⊎ (i ≡ d) → CanResume code cs row (call_at (slice_set (slice_set calls (d + 1) e) d w) i)
    go i (inl less) =
        let not_last : i ≢ d = λ is. omega arith in
        let not_next : i ≢ d + 1 = λ is. omega arith in
        let same : call_at (slice_set (slice_set calls (d + 1) e) d w) i ≡ call_at calls i = get_or-set_other (slice_set calls (d + 1) e) d i w no_call not_last ∙ get_or-set_other calls (d + 1) i e no_call not_next in
        subst (λ (c : CallInfo). CanResume code cs row c) (sym same) (ready.below.each i less)
    go i (inr is) =
        let long : length (slice_set calls (d + 1) e) ≡ length calls = length-set calls (d + 1) e in
        let differs : d ≢ d + 1 = λ e. omega arith in
        let ran : call_at (slice_set calls (d + 1) e) d ≡ call_at calls d = get_or-set_other calls (d + 1) d e no_call differs in
        let waits : call_at (slice_set (slice_set calls (d + 1) e) d w) d ≡ w = get_or-set_same (slice_set calls (d + 1) e) d w no_call (omega arith) in
        let waiting : w ≡ record (call_at calls d) { at = next; has_called = true; to = to; count = count } = is_waiting ∙ ap (λ (c : CallInfo). record c { at = next; has_called = true; to = to; count = count }) ran in
        let runs = ready.runs in
        let serves : w.function ≡ function = ap (λ (c : CallInfo). c.function) waiting ∙ sym ready.serves in
        let closes : w.closure ≡ closure = ap (λ (c : CallInfo). c.closure) waiting ∙ sym ready.closes in
        let begins : w.base ≡ base = ap (λ (c : CallInfo). c.base) waiting ∙ sym ready.begins in
        let same_at : w.at ≡ next = ap (λ (c : CallInfo). c.at) waiting in
        let same_to : w.to ≡ to = ap (λ (c : CallInfo). c.to) waiting in
        let same_count : w.count ≡ count = ap (λ (c : CallInfo). c.count) waiting in
        let room : base + runs.routine.shape.slots ≤ length row = runs.room in
        let held : CanResume code cs row w = record {
          made = subst (λ (k : ℕ). IsMade cs k w.function) (sym closes) (subst (λ (f : ℕ). IsMade cs closure f) (sym serves) ready.made);
          routine = runs.routine;
          is = ap (λ (n : ℕ). slice_get code n) serves ∙ runs.is;
          room = omega (arith, begins, room);
          place = subst (λ (xs : List Op). w.at < length xs) runs.has (omega (arith, same_at, is_next));
          called = ap (λ (c : CallInfo). c.has_called) waiting;
          takes = omega (arith, begins, same_to, same_count, takes);
        } in
        subst (λ (k : ℕ). CanResume code cs row (call_at (slice_set (slice_set calls (d + 1) e) d w) k)) (sym is) (subst (λ (c : CallInfo). CanResume code cs row c) (sym waits) held)

-- the call above it can run from its first operation on
pub ready_above : (code : Code) (cs : List Closure) (calls : List CallInfo) (row : List Value) (d function closure base : ℕ) (ops : List Op) (at next to count : ℕ) (e w : CallInfo) (f k b : ℕ) (ps : List Op) → d + 1 < length calls → next < length ops
    → Ready code cs calls row d function closure base ops at → w ≡ record (call_at (slice_set calls (d + 1) e) d) { at = next; has_called = true; to = to; count = count } → base + to + count ≤ length row
    → f ≡ e.function → k ≡ e.closure → b ≡ e.base → Runnable code f ps b (length row) → 0 < length ps → IsMade cs k f
    → Ready code cs (slice_set (slice_set calls (d + 1) e) d w) row (d + 1) f k b ps 0
ready_above code cs calls row d function closure base ops at next to count e w f k b ps lt is_next ready is_waiting takes serves closes begins runs some made =
    let longer = slice_set calls (d + 1) e in
    let long : length longer ≡ length calls = length-set calls (d + 1) e in
    let both : length (slice_set longer d w) ≡ length longer = length-set longer d w in
    let differs : d + 1 ≢ d = λ e. omega arith in
    let top : e ≡ call_at (slice_set longer d w) (d + 1) = sym (get_or-set_other longer d (d + 1) w no_call differs ∙ get_or-set_same calls (d + 1) e no_call lt) in
    record {
      within = omega (arith, lt, long, both);
      serves = serves ∙ ap (λ (c : CallInfo). c.function) top;
      closes = closes ∙ ap (λ (c : CallInfo). c.closure) top;
      begins = begins ∙ ap (λ (c : CallInfo). c.base) top;
      made = made;
      runs = runs;
      place = some;
      below = all_more code cs calls row d function closure base ops at next to count e w lt is_next ready is_waiting takes;
    }

-- the first inner call can, over any frame
pub ready_first : (code : Code) (cs : List Closure) (calls : List CallInfo) (row : List Value) (e : CallInfo) (f k b : ℕ) (ps : List Op) → 0 < length calls → f ≡ e.function → k ≡ e.closure → b ≡ e.base → Runnable code f ps b (length row)
    → 0 < length ps → IsMade cs k f → Ready code cs (slice_set calls 0 e) row 0 f k b ps 0
ready_first code cs calls row e f k b ps lt serves closes begins runs some made =
    let long : length (slice_set calls 0 e) ≡ length calls = length-set calls 0 e in
    let top : e ≡ call_at (slice_set calls 0 e) 0 = sym (get_or-set_same calls 0 e no_call lt) in
    record {
      within = omega (arith, lt, long);
      serves = serves ∙ ap (λ (c : CallInfo). c.function) top;
      closes = closes ∙ ap (λ (c : CallInfo). c.closure) top;
      begins = begins ∙ ap (λ (c : CallInfo). c.base) top;
      made = made;
      runs = runs;
      place = some;
      below = none_below code cs (slice_set calls 0 e) row;
    }

-- valid code has a first operation
pub begins_there : (code : Code) (i : ℕ) (ops : List Op) (base long : ℕ) → IsValid code → Runnable code i ops base long → 0 < length ops
begins_there code i ops base long valid runs = subst (λ (xs : List Op). 0 < length xs) (sym runs.has) ((valid.functions.each i runs.routine runs.is).whole.0)

-- one that waited runs on
pub resumed : (code : Code) (cs : List Closure) (calls : List CallInfo) (row after : List Value) (d e : ℕ) (f : Routine) (ops : List Op) → e < d → d < length calls → length after ≡ length row → AllResume code cs calls row d
    → slice_get code (call_at calls e).function ≡ Some f → ops ≡ f.ops → Ready code cs calls after e (call_at calls e).function (call_at calls e).closure (call_at calls e).base ops (call_at calls e).at
resumed code cs calls row after d e f ops lt within same below is has =
    let back = below.each e lt in
    let both : Some back.routine ≡ Some f = sym back.is ∙ is in
    let routine : back.routine ≡ f = cc in
    let held : (call_at calls e).base + back.routine.shape.slots ≤ length row = back.room in
    let room : (call_at calls e).base + back.routine.shape.slots ≤ length after = omega (arith, same, held) in
    record {
      within = omega (arith, lt, within);
      serves = refl;
      closes = refl;
      begins = refl;
      made = back.made;
      runs = record { routine = f; is = is; has = has; room = subst (λ (g : Routine). (call_at calls e).base + g.shape.slots ≤ length after) routine room };
      place = subst (λ (xs : List Op). (call_at calls e).at < length xs) (sym has) (subst (λ (g : Routine). (call_at calls e).at < length g.ops) routine back.place);
      below = all_fewer code cs calls row after d e (omega (arith, lt)) same below;
    }

-- what valid code says of the call or return that a body has come to
pub reaches : (code : Code) (i : ℕ) (ops : List Op) (base long at : ℕ) (p : Pass) (o : Op) → IsValid code → Runnable code i ops base long → slice_get ops at ≡ Some o → IsPass p o → Reaches p base long at (length ops)
reaches code i ops base long at p o valid runs is same = told p same
  where
    here : slice_get runs.routine.ops at ≡ Some o
    here = ap (λ (xs : List Op). slice_get xs at) (sym runs.has) ∙ is

    told : (p : Pass) → IsPass p o → Reaches p base long at (length ops)
    told (pass.Call b args results) e =
        let fits = subst (λ (x : Op). valid_code.Fits code runs.routine at x) e (fits_at code i runs.routine at o valid runs.is here) in
        let called : b + (1 + args) ≤ runs.routine.shape.slots = fits.0 in
        let taken : b + results ≤ runs.routine.shape.slots = fits.1 in
        let next : at + 1 < length runs.routine.ops = fits.2 in
        let room : base + runs.routine.shape.slots ≤ long = runs.room in
        (omega (arith, called, room), omega (arith, taken, room), subst (λ (xs : List Op). at + 1 < length xs) (sym runs.has) next)
    told (pass.Return from n) e =
        let fits = subst (λ (x : Op). valid_code.Fits code runs.routine at x) e (fits_at code i runs.routine at o valid runs.is here) in
        let taken : from + n ≤ runs.routine.shape.slots = fits in
        let room : base + runs.routine.shape.slots ≤ long = runs.room in
        omega (arith, taken, room)
    told pass.Neither e = tt

-- ---- runs
pub nested_none : (code : Code) (cs : List Closure) (calls : List CallInfo) (d : ℕ) (row cells : List Value) (pace : Pace) → Nested code cs calls d row cells pace calls d row cells pace
nested_none code cs calls d row cells pace = record { is = λ s. stretched_none code cs (nested cs calls d s) row cells pace }

pub nested_join : (code : Code) (cs : List Closure) (calls mid later : List CallInfo) (d e g : ℕ) (first held row cells after kept : List Value) (start pace then_at : Pace) → Nested code cs calls d first held start mid e row cells pace
    → Nested code cs mid e row cells pace later g after kept then_at → Nested code cs calls d first held start later g after kept then_at
nested_join code cs calls mid later d e g first held row cells after kept start pace then_at p q = record { is = λ s. stretched_join _ _ _ _ _ _ _ _ _ _ _ _ _ _ (p.is s) (q.is s) }

pub nested_next : (code : Code) (cs : List Closure) (calls mid later : List CallInfo) (d e g : ℕ) (first held row cells after : List Value) (start pace then_at : Pace) (o : Op) → Nested code cs calls d first held start mid e row cells pace
    → op_at code (call_at mid e).function pace.at ≡ Some o → Nests code cs o mid e row pace later g after then_at → Nested code cs calls d first held start later g after cells then_at
nested_next code cs calls mid later d e g first held row cells after start pace then_at o run is goes = record { is = λ s. stretched_more _ _ _ _ _ _ _ _ _ _ _ _ _ _ (run.is s) is (goes.is s) }

-- frames for inner calls to stand on
abbrev pub ground : Stacked
ground = record { top = fresh value.Nil; below = [] }

abbrev pub rank_of : Code → List Closure → List CallInfo → ℕ → List Value → List Value → Pace → ℕ
rank_of code cs calls d row cells pace = rank (total code) (at_work (nested cs calls d ground) row cells pace (holding cs))

pub nested_falls : (code : Code) (cs : List Closure) (calls mid later : List CallInfo) (d e g : ℕ) (first held row cells after : List Value) (start pace then_at : Pace) (o : Op) → MeasureFalls → IsValid code
    → Nested code cs calls d first held start mid e row cells pace → op_at code (call_at mid e).function pace.at ≡ Some o → Nests code cs o mid e row pace later g after then_at
    → rank_of code cs later g after cells then_at < rank_of code cs calls d first held start
nested_falls code cs calls mid later d e g first held row cells after start pace then_at o falls valid run is goes = stretched_falls _ _ _ _ _ _ _ _ _ _ _ _ _ _ falls valid (run.is ground) is (goes.is ground)

-- so many inner calls, the last of which is at a depth
pub over_nested : (cs : List Closure) (calls : List CallInfo) (d : ℕ) (s : Stacked) → nested cs calls d s ≡ over cs calls (d + 1) s
over_nested cs calls d s = let next : suc d ≡ d + 1 = omega arith in ap (λ (n : ℕ). over cs calls n s) next

-- ---- at least one operation
pub advanced_goes : (code : Code) (cs : List Closure) (s t : Stacked) (row cells after : List Value) (pace then_at : Pace) (o : Op) → op_at code s.top.function pace.at ≡ Some o → Goes code cs o s row pace t after then_at
    → Advanced code cs s row cells pace t after cells then_at
advanced_goes code cs s t row cells after pace then_at o is goes = record {
  is = stretched_more _ _ _ _ _ _ _ _ _ _ _ _ _ _ (stretched_none code cs s row cells pace) is goes;
  falls = λ falls valid m same. falls code (at_work s row cells pace m) (at_work t after cells then_at m) valid (gone code cs s t row cells after pace then_at o is goes m same);
}

pub advanced_more : (code : Code) (cs : List Closure) (s t u : Stacked) (row cells mid held after later : List Value) (start pace then_at : Pace) → Advanced code cs s row cells start t mid held pace
    → Stretched code cs t mid held pace u after later then_at → Advanced code cs s row cells start u after later then_at
advanced_more code cs s t u row cells mid held after later start pace then_at first rest = record {
  is = stretched_join _ _ _ _ _ _ _ _ _ _ _ _ _ _ first.is rest;
  falls = λ falls good m same.
      let lt : rank (total code) (at_work t mid held pace m) < rank (total code) (at_work s row cells start m) = first.falls falls good m same in
      let le : rank (total code) (at_work u after later then_at m) ≤ rank (total code) (at_work t mid held pace m) = runs_reach code (at_work t mid held pace m) (at_work u after later then_at m) falls good (rest.is m same) in
      omega (arith, lt, le);
}

pub advanced_falls : (code : Code) (cs : List Closure) (s t u : Stacked) (row cells mid held after later : List Value) (start pace then_at : Pace) → MeasureFalls → IsValid code
    → Stretched code cs s row cells start t mid held pace → Advanced code cs t mid held pace u after later then_at
    → rank (total code) (at_work u after later then_at (holding cs)) < rank (total code) (at_work s row cells start (holding cs))
advanced_falls code cs s t u row cells mid held after later start pace then_at falls valid run rest =
    let a = at_work s row cells start (holding cs) in
    let b = at_work t mid held pace (holding cs) in
    let c = at_work u after later then_at (holding cs) in
    let le : rank (total code) b ≤ rank (total code) a = runs_reach code a b falls valid (run.is (holding cs) refl) in
    let lt : rank (total code) c < rank (total code) b = rest.falls falls valid (holding cs) refl in
    omega (arith, lt, le)

-- ---- answers that may be none
pub some_both : (o : Option Halt) (P Q R : Halt → Type 0) → ((h : Halt) → P h → Q h → R h) → IfSome o P → IfSome o Q → IfSome o R
some_both None P Q R f p q = tt
some_both (Some h) P Q R f p q = f h p q
