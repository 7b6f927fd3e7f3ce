-- A stretch goes on by quick operations, and by calls and returns.
use Rattle.std.proofs.Common.{◌≡◌, ℕ, ◌<◌, List, Option, Some, refl, sym, ap, ◌∙◌, subst}
use Rattle.lua_value.specs.declared.value.Value.{Value}
use Rattle.lua_code.specs.declared.op.Op.{Op}
use Rattle.lua_code.specs.Valid.{IsValid}
use Rattle.lua_steps.specs.Machine.{Code, Closure, Machine, On}
use Rattle.lua_steps.specs.Exec.{op_at, perform_at, exec}
use Rattle.lua_steps.specs.Measure.{total, rank, MeasureFalls}
use Rattle.lua_machine.specs.declared.pace.Pace.{Pace}
use Rattle.lua_machine.specs.Runs.{Runs}
use Rattle.lua_machine.specs.Quick.{Led}
use Rattle.lua_machine.specs.Stack.{Stacked}
use Rattle.lua_machine.specs.Stretch.{at_work, Stretched, Goes, Hurried}
use Rattle.lua_machine.proofs.QuickLemmas.{hurried, bare}
use Rattle.lua_machine.proofs.RunLemmas.{runs_more, runs_none, runs_join, runs_fall}

pub stretched_none : (code : Code) (cs : List Closure) (s : Stacked) (row cells : List Value) (pace : Pace) → Stretched code cs s row cells pace s row cells pace
stretched_none code cs s row cells pace = record { is = λ m same. runs_none code (at_work s row cells pace m) }

-- quick operations of the frame on top, with what it has taken apart
pub stretched_led : (code : Code) (cs : List Closure) (s : Stacked) (f base : ℕ) (own ups : List ℕ) (row cells after later : List Value) (start pace : Pace) → Led code f own ups base row cells start after later pace
    → f ≡ s.top.function → base ≡ s.top.base → own ≡ s.top.cells → ups ≡ s.top.ups → Stretched code cs s row cells start s after later pace
stretched_led code cs s f base own ups row cells after later start pace led same_f same_base same_own same_ups = record {
  is = λ m same.
      hurried code (at_work s row cells start m) (at_work s after later pace m) f base own ups row cells after later start pace led same_f same_base same_own same_ups refl refl refl refl refl;
}

pub stretched_join : (code : Code) (cs : List Closure) (s t u : Stacked) (row cells mid held after later : List Value) (start pace then_at : Pace) → Stretched code cs s row cells start t mid held pace
    → Stretched code cs t mid held pace u after later then_at → Stretched code cs s row cells start u after later then_at
stretched_join code cs s t u row cells mid held after later start pace then_at p q = record {
  is = λ m same. runs_join code (at_work s row cells start m) (at_work t mid held pace m) (On (at_work u after later then_at m)) (p.is m same) (q.is m same);
}

pub gone : (code : Code) (cs : List Closure) (s t : Stacked) (row cells after : List Value) (pace then_at : Pace) (o : Op) → op_at code s.top.function pace.at ≡ Some o → Goes code cs o s row pace t after then_at → (m : Machine)
    → m.closures ≡ cs → exec code (at_work s row cells pace m) ≡ On (at_work t after cells then_at m)
gone code cs s t row cells after pace then_at o is goes m same = ap (λ (x : Option Op). perform_at x code (at_work s row cells pace m)) is ∙ goes.is m cells same

pub stretched_more : (code : Code) (cs : List Closure) (s t u : Stacked) (first held row cells after : List Value) (start pace then_at : Pace) (o : Op) → Stretched code cs s first held start t row cells pace
    → op_at code t.top.function pace.at ≡ Some o → Goes code cs o t row pace u after then_at → Stretched code cs s first held start u after cells then_at
stretched_more code cs s t u first held row cells after start pace then_at o run is goes = record {
  is = λ m same.
      let here = at_work t row cells pace m in
      runs_more code (at_work s first held start m) here (On (at_work u after cells then_at m)) (run.is m same)
      (gone code cs t u row cells after pace then_at o is goes m same);
}

-- a machine that has nothing but closures beside what is in hand
abbrev pub holding : List Closure → Machine
holding cs = record bare { closures = cs }

pub stretched_falls : (code : Code) (cs : List Closure) (s t u : Stacked) (first held row cells after : List Value) (start pace then_at : Pace) (o : Op) → MeasureFalls → IsValid code → Stretched code cs s first held start t row cells pace
    → op_at code t.top.function pace.at ≡ Some o → Goes code cs o t row pace u after then_at
    → rank (total code) (at_work u after cells then_at (holding cs)) < rank (total code) (at_work s first held start (holding cs))
stretched_falls code cs s t u first held row cells after start pace then_at o falls valid run is goes =
    runs_fall code (at_work s first held start (holding cs)) (at_work t row cells pace (holding cs)) (at_work u after cells then_at (holding cs)) falls valid (run.is (holding cs) refl)
    (gone code cs t u row cells after pace then_at o is goes (holding cs) refl)

-- a stretch that begins and ends at the places of its frames
pub hurried_by : (code : Code) (cs : List Closure) (s begun t ended : Stacked) (row cells after later : List Value) (at left : ℕ) (pace : Pace) → Stretched code cs begun row cells (record { at = at; left = left }) ended after later pace
    → begun ≡ s → at ≡ begun.top.at → t ≡ record ended { top = record ended.top { at = pace.at } } → Hurried code cs s row cells left t after later pace.left
hurried_by code cs s begun t ended row cells after later at left pace run same_s same_at same_t = record {
  is = λ m same.
      subst (λ (x : Stacked). Runs code (record m { top = x.top; below = x.below; row = row; cells = cells; left = left }) (On (record m { top = t.top; below = t.below; row = after; cells = later; left = pace.left }))) same_s
      (subst (λ (x : Stacked). Runs code (record m { top = begun.top; below = begun.below; row = row; cells = cells; left = left }) (On (record m { top = x.top; below = x.below; row = after; cells = later; left = pace.left }))) (sym same_t)
      (subst (λ (n : ℕ). Runs code (record m { top = record begun.top { at = n }; below = begun.below; row = row; cells = cells; left = left }) (On (at_work ended after later pace m))) same_at (run.is m same)));
}
