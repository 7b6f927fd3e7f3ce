use Rattle.std.proofs.Common.{subst, sym}
use Rattle.std.specs.Prelude.{IfSome}
use Rattle.world_machine.proofs.Keeping.{handle_is}
use Rattle.message.specs.Worlds.{over}
use Rattle.sk_types.specs.declared.number.Handle.{Handle}
use Rattle.world_machine.specs.Launching.{clock_agent}
use Rattle.world_machine.specs.Foreseen.{IsAhead}
use Rattle.world_machine.proofs.engine.Engine.ahead.Goals as goal

pub returns-then-agent-eq0-clause-some : goal.returns-then-agent-eq0-clause-some
returns-then-agent-eq0-clause-some g c =
    let at_zero = handle_is clock_agent c.args.agent (sym c.if-agent-eq0.true) in
    subst (λ (h : Handle). IfSome c.clock_ahead.result (λ a. IsAhead g.A.Actor.way (over g.A.Actor.meaning c.args.self.now.world) h a.tick a.weight)) at_zero c.clock_ahead.ensures.some
