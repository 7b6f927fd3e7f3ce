use Rattle.std.proofs.Common.{ap, ◌∙◌}
use Rattle.lua_machine.specs.declared.stop.Went.{Went}
use Rattle.lua_machine.specs.Views.{says}
use Rattle.lua_machine.proofs.RunLemmas.{runs_more, runs_join, runs_fall}
use Rattle.lua_machine.proofs.state.State.run.Goals as goal

pub operations-preserved : goal.operations-preserved
operations-preserved c = runs_more _ _ _ _ (runs_join _ _ _ _ c.operations.invariant c.in_ok-hurry.ensures) (c.in_ok-step.ensures ∙ ap (λ (x : Went). says x c.step.new.self) c.in-On.is)

pub operations-smaller : goal.operations-smaller
operations-smaller c = runs_fall _ _ _ _ c.law_measure_falls.ensures c.requires c.in_ok-hurry.ensures (c.in_ok-step.ensures ∙ ap (λ (x : Went). says x c.step.new.self) c.in-On.is)

pub returns-in-Off-clause-stop : goal.returns-in-Off-clause-stop
returns-in-Off-clause-stop c = runs_more _ _ _ _ (runs_join _ _ _ _ c.operations.invariant c.in_ok-hurry.ensures) (c.in_ok-step.ensures ∙ ap (λ (x : Went). says x c.step.new.self) c.in-Off.is)

pub returns-in-Stuck-clause-stuck : goal.returns-in-Stuck-clause-stuck
returns-in-Stuck-clause-stuck c = runs_more _ _ _ _ (runs_join _ _ _ _ c.operations.invariant c.in_ok-hurry.ensures) (c.in_ok-step.ensures ∙ ap (λ (x : Went). says x c.step.new.self) c.in-Stuck.is)
