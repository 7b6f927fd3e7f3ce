use Rattle.std.proofs.Common.{rules, ◌≡◌, Err, subst}
use Rattle.lua_steps.specs.Calls.{given}
use Rattle.lua_machine.specs.Runs.{Runs, StuckIf}
use Rattle.lua_machine.specs.Views.{stops}
use Rattle.lua_machine.proofs.FollowLemmas.{follows, unwaited_if}
use Rattle.lua_machine.proofs.machine.Machine.go.Goals as goal

pub returns-in_err-stop-clause-unwaited : goal.returns-in_err-stop-clause-unwaited
returns-in_err-stop-clause-unwaited c =
    let is : c.from_residual.result ≡ Err c.in_err-stop.field-0.0 = search rules in
    let stuck = subst (λ z. StuckIf c.in_err-stop.field-0.0 z (given c.self.inside.state c.args.values)) c.functions.ensures c.in_err-stop.ensures.stuck in
    let none = unwaited_if c.law_code_follows.ensures c.law_step_determined.ensures c.self.inside.code c.self.invariant c.self.inside.state c.args.values c.in_err-stop.field-0.0 stuck in
    rw (is, ← c.self.view_is) none

pub returns-clause-follows : goal.returns-clause-follows
returns-clause-follows c =
    let runs = subst (λ z. Runs z (given c.self.inside.state c.args.values) (stops c.in_ok-stop.stop c.run.new.self)) c.functions.ensures c.in_ok-stop.ensures.stop in
    let all = follows c.law_code_follows.ensures c.law_step_determined.ensures c.self.inside.code c.self.invariant c.self.inside.state c.args.values c.in_ok-stop.stop c.run.new.self runs in
    rw (← c.self.view_is) all
