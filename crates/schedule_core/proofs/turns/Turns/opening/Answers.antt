use Rattle.schedule_core.proofs.Placed.{first_placed}
use Rattle.schedule_core.proofs.turns.Turns.opening.Goals as goal

pub invariant_of-result : goal.invariant_of-result
invariant_of-result c = rw (c.in_ok-push-3.ensures.items, c.in_ok-push-2.ensures.items, c.in_ok-push.ensures.items, c.new-spots.ensures.items, c.in_ok-push_back-3.ensures.items, c.in_ok-push_back-2.ensures.items, c.in_ok-push_back.ensures.items, c.new-queue.ensures.items)
    (first_placed c.in_ok-hands.hands.items c.in_ok-hands.ensures.empty)
