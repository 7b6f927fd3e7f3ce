use Rattle.std.proofs.Common.{◌≡◌, ◌+◌, length, ap, sym, ◌∙◌}
use Rattle.schedule_core.specs.Cores.{TurnBook}
use Rattle.schedule_core.proofs.Placed.{joined_placed}
use Rattle.schedule_core.proofs.turns.Turns.join.Goals as goal

pub invariant_of-self : goal.invariant_of-self
invariant_of-self c =
    let next : c.args.own.0 ≡ length c.self.inside.spots.items + 1 = c.requires.next ∙ ap (λ (b : TurnBook). length b.turns.spots + 1) (sym c.self.view_is) in
    rw (c.push_reserved.ensures.items, c.push_back_reserved.ensures.items) (joined_placed _ c.args.own c.self.invariant next)
