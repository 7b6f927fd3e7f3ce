-- A machine comes to one stop alone, and so to that of the states as which it waited.
use Rattle.std.proofs.Common.{◌≡◌, ℕ, zero, suc, ◌⊎◌, inl, inr, List, sym, ap, ap₂, ◌∙◌, subst}
use Rattle.lua_value.specs.declared.value.Value.{Value}
use Rattle.lua_code.specs.Valid.{IsValid}
use Rattle.lua_meaning.specs.State as meaning
use Rattle.lua_meaning.specs.State.{State}
use Rattle.lua_meaning.specs.Until as until
use Rattle.lua_meaning.specs.Until.{Until, Asks}
use Rattle.lua_meaning.specs.Laws.{StepIsDetermined}
use Rattle.lua_steps.specs.Machine as steps
use Rattle.lua_steps.specs.Machine.{Code, Machine, Went, On, Off, Paused, Stuck}
use Rattle.lua_steps.specs.Calls.{given}
use Rattle.lua_steps.specs.Exec.{exec}
use Rattle.lua_steps.specs.Run.{then_on, run}
use Rattle.lua_follow.specs.Stands.{Waits}
use Rattle.lua_follow.specs.Follows.{SameStop, RestsAt, Meets, CodeFollows}
use Rattle.lua_machine.specs.declared.stop.Stop.{Stop}
use Rattle.lua_machine.specs.declared.stop.Stop.TheVariants as stop
use Rattle.lua_machine.specs.declared.stop.GoError.{GoError}
use Rattle.lua_machine.specs.declared.stop.GoError.TheVariants as error
use Rattle.lua_machine.specs.Runs.{Runs, StuckIf}
use Rattle.lua_machine.specs.declared.stop.NativeCall.{NativeCall}
use Rattle.lua_machine.specs.Views.{call_of, stops}
use Rattle.lua_machine.specs.Follows.{StopsAs, Follows, UnwaitedIf}

-- ---- ends of runs
abbrev IsEnd : Went → Type 0
IsEnd (On m) = ⊥
IsEnd (Off x m) = Unit {0}
IsEnd (Paused c m) = Unit {0}
IsEnd Stuck = Unit {0}

-- the same end, whichever number of operations leads there
one_by : (n k : ℕ) (code : Code) (x w v : Went) → ((u : Machine) → run n code u ≡ w → run k code u ≡ v → w ≡ v) → then_on x (run n code) ≡ w → then_on x (run k code) ≡ v → w ≡ v
one_by n k code (On u) w v rest e f = rest u e f
one_by n k code (Off x u) w v rest e f = sym e ∙ f
one_by n k code (Paused c u) w v rest e f = sym e ∙ f
one_by n k code Stuck w v rest e f = sym e ∙ f

one_end : (n k : ℕ) (code : Code) (m : Machine) (w v : Went) → IsEnd w → IsEnd v → run n code m ≡ w → run k code m ≡ v → w ≡ v
one_end zero k code m w v a b e f = absurd (subst IsEnd (sym e) a)
one_end (suc n) zero code m w v a b e f = absurd (subst IsEnd (sym f) b)
one_end (suc n) (suc k) code m w v a b e f = one_by n k code (exec code m) w v (λ u g h. one_end n k code u w v a b g h) e f

stop_ends : (x : Stop) (m : Machine) → IsEnd (stops x m)
stop_ends (stop.Native c) m = tt
stop_ends (stop.Return vs) m = tt
stop_ends (stop.Raise v) m = tt
stop_ends stop.Budget m = tt
stop_ends stop.HeapFull m = tt

-- ---- the same stop
abbrev the_call : Value → List Value → meaning.NativeCall
the_call f vs = record { called = f; args = vs }

one_pause : (d : NativeCall) (c : steps.NativeCall) (to end : Machine) → Paused (call_of d) to ≡ Paused c end → (c ≡ call_of d) × (end ≡ to)
one_pause d c to end e = (let same : call_of d ≡ c = cc in sym same, let same : to ≡ end = cc in sym same)

module _ (code : Code) (s : State) where
  returned : (x : Stop) (us ws : List Value) (to end : Machine) (t : State) → stops x to ≡ Off (steps.Return ws) end → us ≡ ws → RestsAt code (meaning.Return us) end t → Until s (meaning.Return us) t → StopsAs code s x to
  returned (stop.Return vs) us ws to end t e same rests h =
      let values : ws ≡ vs = cc in
      let machine : end ≡ to = cc in
      (t, subst (λ z. Until s (meaning.Return z) t) (same ∙ values) h, subst (λ z. RestsAt code (meaning.Return us) z t) machine rests)
  returned (stop.Native c) us ws to end t e same rests h = absurd (cc)
  returned (stop.Raise v) us ws to end t e same rests h = absurd (cc)
  returned stop.Budget us ws to end t e same rests h = absurd (cc)
  returned stop.HeapFull us ws to end t e same rests h = absurd (cc)

  raised : (x : Stop) (u w : Value) (to end : Machine) (t : State) → stops x to ≡ Off (steps.Raise w) end → u ≡ w → RestsAt code (meaning.Raise u) end t → Until s (meaning.Raise u) t → StopsAs code s x to
  raised (stop.Raise v) u w to end t e same rests h =
      let values : w ≡ v = cc in
      let machine : end ≡ to = cc in
      (t, subst (λ z. Until s (meaning.Raise z) t) (same ∙ values) h, subst (λ z. RestsAt code (meaning.Raise u) z t) machine rests)
  raised (stop.Native c) u w to end t e same rests h = absurd (cc)
  raised (stop.Return vs) u w to end t e same rests h = absurd (cc)
  raised stop.Budget u w to end t e same rests h = absurd (cc)
  raised stop.HeapFull u w to end t e same rests h = absurd (cc)

  spent : (x : Stop) (to end : Machine) (t : State) → stops x to ≡ Off steps.Budget end → end.aside.heap ≡ t.aside.heap → Until s meaning.Budget t → StopsAs code s x to
  spent stop.Budget to end t e rests h = let machine : to ≡ end = cc in (t, h, ap (λ (m : Machine). m.aside.heap) machine ∙ rests)
  spent (stop.Native c) to end t e rests h = absurd (cc)
  spent (stop.Return vs) to end t e rests h = absurd (cc)
  spent (stop.Raise v) to end t e rests h = absurd (cc)
  spent stop.HeapFull to end t e rests h = absurd (cc)

  full : (x : Stop) (to end : Machine) (t : State) → stops x to ≡ Off steps.HeapFull end → end.aside.heap ≡ t.aside.heap → Until s meaning.HeapFull t → StopsAs code s x to
  full stop.HeapFull to end t e rests h = let machine : to ≡ end = cc in (t, h, ap (λ (m : Machine). m.aside.heap) machine ∙ rests)
  full (stop.Native c) to end t e rests h = absurd (cc)
  full (stop.Return vs) to end t e rests h = absurd (cc)
  full (stop.Raise v) to end t e rests h = absurd (cc)
  full stop.Budget to end t e rests h = absurd (cc)

  asked : (x : Stop) (c : meaning.NativeCall) (to end : Machine) (t : State) → stops x to ≡ Paused (record { called = c.called; args = c.args }) end → Waits code end t → Asks s c t → StopsAs code s x to
  asked (stop.Native d) c to end t e waits h =
      let p = one_pause d (record { called = c.called; args = c.args }) to end e in
      let call : c ≡ record { called = d.called; args = d.args } =
      ap₂ (λ (a : Value) (b : List Value). the_call a b) (ap (λ (z : steps.NativeCall). z.called) p.0) (ap (λ (z : steps.NativeCall). z.args) p.0) in
      (t, subst (λ z. Asks s z t) call h, subst (λ z. Waits code z t) p.1 waits)
  asked (stop.Return vs) c to end t e waits h = absurd (cc)
  asked (stop.Raise v) c to end t e waits h = absurd (cc)
  asked stop.Budget c to end t e waits h = absurd (cc)
  asked stop.HeapFull c to end t e waits h = absurd (cc)

  -- the machine is at the end of a run, and the state at this stop
  at_stop : (x : Stop) (y : meaning.Stop) (z : steps.Stop) (to end : Machine) (t : State) → stops x to ≡ Off z end → SameStop y z → RestsAt code y end t → Until s y t → StopsAs code s x to
  at_stop x (meaning.Return us) (steps.Return ws) to end t e same rests h = returned x us ws to end t e same rests h
  at_stop x (meaning.Raise u) (steps.Raise w) to end t e same rests h = raised x u w to end t e same rests h
  at_stop x meaning.Budget steps.Budget to end t e same rests h = spent x to end t e rests h
  at_stop x meaning.HeapFull steps.HeapFull to end t e same rests h = full x to end t e rests h
  at_stop x (meaning.Return us) (steps.Raise w) to end t e same rests h = absurd same
  at_stop x (meaning.Return us) steps.Budget to end t e same rests h = absurd same
  at_stop x (meaning.Return us) steps.HeapFull to end t e same rests h = absurd same
  at_stop x (meaning.Raise u) (steps.Return w) to end t e same rests h = absurd same
  at_stop x (meaning.Raise u) steps.Budget to end t e same rests h = absurd same
  at_stop x (meaning.Raise u) steps.HeapFull to end t e same rests h = absurd same
  at_stop x meaning.Budget (steps.Return w) to end t e same rests h = absurd same
  at_stop x meaning.Budget (steps.Raise w) to end t e same rests h = absurd same
  at_stop x meaning.Budget steps.HeapFull to end t e same rests h = absurd same
  at_stop x meaning.HeapFull (steps.Return w) to end t e same rests h = absurd same
  at_stop x meaning.HeapFull (steps.Raise w) to end t e same rests h = absurd same
  at_stop x meaning.HeapFull steps.Budget to end t e same rests h = absurd same
  at_stop x meaning.NoRule z to end t e same rests h = absurd same

module _ (law : CodeFollows) (determined : StepIsDetermined) (code : Code) (valid : IsValid code) (m : Machine) (vs : List Value) where
  met : (x : Stop) (to : Machine) (s : State) (y : meaning.Stop) (t : State) → Runs code (given m vs) (stops x to) → Until (until.given s vs) y t → Meets code (given m vs) y t → StopsAs code (until.given s vs) x to
  met x to s meaning.NoRule t r h g = absurd g
  met x to s (meaning.Return us) t r h g =
      at_stop code (until.given s vs) x _ g.stop to g.to t (one_end r.count g.n code (given m vs) _ _ (stop_ends x to) tt r.is g.runs) g.same g.rests h
  met x to s (meaning.Raise u) t r h g =
      at_stop code (until.given s vs) x _ g.stop to g.to t (one_end r.count g.n code (given m vs) _ _ (stop_ends x to) tt r.is g.runs) g.same g.rests h
  met x to s meaning.Budget t r h g =
      at_stop code (until.given s vs) x _ g.stop to g.to t (one_end r.count g.n code (given m vs) _ _ (stop_ends x to) tt r.is g.runs) g.same g.rests h
  met x to s meaning.HeapFull t r h g =
      at_stop code (until.given s vs) x _ g.stop to g.to t (one_end r.count g.n code (given m vs) _ _ (stop_ends x to) tt r.is g.runs) g.same g.rests h

  abbrev Ended : State → Type 0
  Ended s = ((y : meaning.Stop) × (t : State) × Until s y t) ⊎ ((c : meaning.NativeCall) × (t : State) × Asks s c t)

  follows_to : (x : Stop) (to : Machine) (s : State) → Runs code (given m vs) (stops x to) → Waits code m s → Ended (until.given s vs) → StopsAs code (until.given s vs) x to
  follows_to x to s r w (inl h) = met x to s h.0 h.1 r h.2 (law.stops code m s h.1 vs h.0 valid w h.2)
  follows_to x to s r w (inr h) =
      let g = law.asks code m s h.1 vs h.0 valid w h.2 in
      asked code (until.given s vs) x h.0 to g.to h.1 (one_end r.count g.n code (given m vs) _ _ (stop_ends x to) tt r.is g.runs) g.waits h.2

  pub follows : (x : Stop) (to : Machine) → Runs code (given m vs) (stops x to) → Follows code m vs x to
  follows x to r s w = follows_to x to s r w (determined.ends (until.given s vs))

  -- a machine that is stuck
  lost : (y : meaning.Stop) (t : State) → Runs code (given m vs) Stuck → Meets code (given m vs) y t → ⊥
  lost meaning.NoRule t r g = g
  lost (meaning.Return us) t r g = (let e : Stuck ≡ Off g.stop g.to = one_end r.count g.n code (given m vs) _ _ tt tt r.is g.runs in cc)
  lost (meaning.Raise u) t r g = (let e : Stuck ≡ Off g.stop g.to = one_end r.count g.n code (given m vs) _ _ tt tt r.is g.runs in cc)
  lost meaning.Budget t r g = (let e : Stuck ≡ Off g.stop g.to = one_end r.count g.n code (given m vs) _ _ tt tt r.is g.runs in cc)
  lost meaning.HeapFull t r g = (let e : Stuck ≡ Off g.stop g.to = one_end r.count g.n code (given m vs) _ _ tt tt r.is g.runs in cc)

  unwaited_at : (s : State) → Runs code (given m vs) Stuck → Waits code m s → Ended (until.given s vs) → ⊥
  unwaited_at s r w (inl h) = lost h.0 h.1 r (law.stops code m s h.1 vs h.0 valid w h.2)
  unwaited_at s r w (inr h) =
      let g = law.asks code m s h.1 vs h.0 valid w h.2 in
      let e : Stuck ≡ Paused (record { called = h.0.called; args = h.0.args }) g.to = one_end r.count g.n code (given m vs) _ _ tt tt r.is g.runs in
      cc

  pub unwaited_if : (e : GoError) → StuckIf e code (given m vs) → UnwaitedIf e code m
  unwaited_if error.Stuck r = λ s w. unwaited_at s r w (determined.ends (until.given s vs))
  unwaited_if error.Memory r = tt
  unwaited_if error.Spent r = tt
