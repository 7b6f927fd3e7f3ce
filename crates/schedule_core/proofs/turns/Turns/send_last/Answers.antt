use Rattle.std.proofs.Common.{◌≡◌, Some, slice_get, ap, ◌∙◌, arith}
use Rattle.schedule_core.specs.Cores.{TurnBook}
use Rattle.schedule_core.proofs.Placed.{hand_fits, sent_placed}
use Rattle.schedule_core.proofs.turns.Turns.send_last.Goals as goal

pub overflow_sub-own : goal.overflow_sub-own
overflow_sub-own c =
    let has : slice_get c.self.inside.hands.items c.args.worker ≡ Some (Some c.args.own) = ap (λ (b : TurnBook). slice_get b.turns.hands c.args.worker) c.self.view_is ∙ c.requires.has in
    (hand_fits _ c.args.worker c.args.own c.self.invariant has).0

pub index_mut-requires : goal.index_mut-requires
index_mut-requires c =
    let has : slice_get c.self.inside.hands.items c.args.worker ≡ Some (Some c.args.own) = ap (λ (b : TurnBook). slice_get b.turns.hands c.args.worker) c.self.view_is ∙ c.requires.has in
    let fits = hand_fits _ c.args.worker c.args.own c.self.invariant has in
    let big = fits.0 in
    let within = fits.1 in
    omega (arith, big, within)

pub index_mut-requires-2 : goal.index_mut-requires-2
index_mut-requires-2 c =
    let has : slice_get c.self.inside.hands.items c.args.worker ≡ Some (Some c.args.own) = ap (λ (b : TurnBook). slice_get b.turns.hands c.args.worker) c.self.view_is ∙ c.requires.has in
    let within = (hand_fits _ c.args.worker c.args.own c.self.invariant has).2 in
    omega (arith, within)

pub invariant_of-self : goal.invariant_of-self
invariant_of-self c =
    let has : slice_get c.self.inside.hands.items c.args.worker ≡ Some (Some c.args.own) = ap (λ (b : TurnBook). slice_get b.turns.hands c.args.worker) c.self.view_is ∙ c.requires.has in
    rw c.push_back_reserved.ensures.items (sent_placed _ c.args.worker c.args.own c.self.invariant has)
