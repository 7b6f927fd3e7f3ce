use Rattle.std.proofs.Common.{subst, sym}
use Rattle.std.specs.Bool.{OnFalse}
use Rattle.std.proofs.lemmas.Bool.{OnFalse_at}
use Rattle.message.specs.Worlds.{over}
use Rattle.call_fates.specs.Kept.{IsKept}
use Rattle.world_machine.specs.Machines.{Machine}
use Rattle.world_machine.specs.Standing.{StandsAt}
use Rattle.world_machine.specs.Launching.{clock_agent}
use Rattle.world_machine.proofs.Lists.{found_some}
use Rattle.world_machine.proofs.Keeping.{handle_is}
use Rattle.world_machine.proofs.Following.{clock_goes, absent_request}
use Rattle.world_machine.proofs.engine.Engine.act.Goals as goal

pub requests-requires-clause-absent : goal.requests-requires-clause-absent
requests-requires-clause-absent g c =
    let way = g.A.Actor.way in
    let f = g.A.Actor.meaning in
    let sound = g.A.Actor.sound in
    let all = c.args.calls.now in
    let P = λ (v : Machine g.row.A.Denot). OnFalse v.spent (IsKept way sound (over f v.world) all) in
    let Q = λ (v : Machine g.row.A.Denot). IsKept way sound (over f v.world) all in
    let kept = subst Q c.self.view_is (OnFalse_at c.if-self.false (subst P (sym c.self.view_is) c.requires)) in
    let at_it = found_some _ (λ st. StandsAt way (over f c.args.self.now.world) c.args.agent st) c.in_ok-stage_of.field-0 _ _ c.in-Some-Asks.is c.in-Some-Asks.field-0-is c.in_ok-stage_of.ensures in
    absent_request way sound g.met.A.Actor.lawful (over f c.args.self.now.world) all c.args.agent c.in-Some-Asks.request kept at_it

pub returns-then-agent-eq0-clause-done : goal.returns-then-agent-eq0-clause-done
returns-then-agent-eq0-clause-done g c =
    let f = g.A.Actor.meaning in
    clock_goes g.A.Actor.way (over f c.args.self.now.world) _ c.args.agent c.args.calls.now (handle_is c.args.agent clock_agent c.if-agent-eq0.true) c.in_ok-times.ensures.done
