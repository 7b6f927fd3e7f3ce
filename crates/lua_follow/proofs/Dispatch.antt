-- Each reduction, whatever is worked on.
use Rattle.std.proofs.Common.{ℕ, List, sym, subst}
use Rattle.lua_code.specs.Valid.{IsValid}
use Rattle.lua_meaning.specs.State.{Focus, Eval, All, Items, Gives, Lists, Raises, Run, Declares, Stores, State}
use Rattle.lua_meaning.specs.Reduce.{reduce}
use Rattle.lua_steps.specs.Machine.{Code, Machine}
use Rattle.lua_follow.specs.Spot.{Spot, contexts}
use Rattle.lua_follow.specs.Stands.{Stands}
use Rattle.lua_follow.proofs.DispatchGives.{gives_row}
use Rattle.lua_follow.proofs.DispatchLists.{lists_row}
use Rattle.lua_follow.proofs.DispatchRun.{eval_row, run_row}
use Rattle.lua_follow.proofs.Sim.{Row, Sim, Rows}

module _ (code : Code) (valid : IsValid code) where
  by_focus : (m : Machine) (s : State) (k : ℕ) (ks : List Spot) (f : Focus) → Stands code m (record s { focus = f; ks = contexts ks }) ks k
      → Row code (Sim code) m (record s { focus = f; ks = contexts ks }) k (reduce (record s { focus = f; ks = contexts ks }))
  by_focus m s k ks (Eval e env) h = eval_row code valid m s k ks e env h
  by_focus m s k ks (Gives v) h = gives_row code valid m s v k ks h
  by_focus m s k ks (Lists vs) h = lists_row code valid m s vs ks k h
  by_focus m s k ks (Run b env) h = run_row code valid m s k ks b env h
  by_focus m s k ks (All e env) h = absurd h.here
  by_focus m s k ks (Items es env us) h = absurd h.here
  by_focus m s k ks (Raises v) h = absurd h.here
  by_focus m s k ks (Declares xs vs b env) h = absurd h.here
  by_focus m s k ks (Stores todo b env) h = absurd h.here

  pub rows : Rows code
  rows m s k ks e h =
      subst (λ K. Row code (Sim code) m (record s { ks = K }) k (reduce (record s { ks = K }))) (sym e) (by_focus m s k ks s.focus (subst (λ K. Stands code m (record s { ks = K }) ks k) e h))
