-- A row whose machine did something before, without ticks and units.
use Rattle.std.proofs.Common.{◌≡◌, ℕ, ◌+◌, inl, inr, sym, ap, ◌∙◌, arith}
use Rattle.lua_meaning.specs.State.{State, Step, Next, Halt, Pause}
use Rattle.lua_steps.specs.Machine.{Code, Machine, On}
use Rattle.lua_steps.specs.Run.{run}
use Rattle.lua_follow.proofs.Runs.{runs_more}
use Rattle.lua_follow.proofs.Whole.{earlier_stop}
use Rattle.lua_follow.proofs.Sim.{Standing, Row, Outcome}

pub outcome_before : (code : Code) (P : Standing) (m to : Machine) (n : ℕ) (r : Step) → run n code m ≡ On to → Outcome code P to r → Outcome code P m r
outcome_before code P m to n (Next t) runs (inl h) = inl (n + h.0, h.1, h.2, runs_more code n h.0 m to _ runs h.3, h.4, h.5)
outcome_before code P m to n (Next t) runs (inr (inl h)) = inr (inl (n + h.0, h.1, h.2, h.3, runs_more code n h.0 m to _ runs h.4, h.5, h.6, h.7))
outcome_before code P m to n (Next t) runs (inr (inr h)) = inr (inr (n + h.0, h.1, h.2, runs_more code n h.0 m to _ runs h.3, h.4, h.5))
outcome_before code P m to n (Halt x t) runs h = earlier_stop code n m to x t runs h
outcome_before code P m to n (Pause c t) runs h = record { n = n + h.n; to = h.to; runs = runs_more code n h.n m to _ runs h.runs; waits = h.waits }

pub row_before : (code : Code) (P : Standing) (m to : Machine) (s : State) (k n : ℕ) (r : Step) → run n code m ≡ On to → to.left ≡ m.left → to.aside ≡ m.aside → Row code P to s k r → Row code P m s k r
row_before code P m to s k n r runs left same (inl h) =
    inl (n + h.0, h.1, runs_more code n h.0 m to _ runs h.2, h.3 ∙ left, λ lt. h.4 lt ∙ ap (λ a. a.heap) same, h.5, h.6, h.7, h.8, h.9)
row_before code P m to s k n r runs left same (inr h) =
    inr (λ lt. (let b = h.0 lt in (b.0, b.1, ap (λ a. a.heap) (sym same) ∙ b.2)), λ e. outcome_before code P m to n r runs (h.1 (omega (arith, e, left))))
