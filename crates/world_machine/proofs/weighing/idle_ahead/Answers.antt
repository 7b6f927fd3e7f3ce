use Rattle.std.proofs.Common.{◌≡◌, ℕ, List, [], ◌∷◌, length, Some, slice_get, ap, sym, ◌∙◌}
use Rattle.message.specs.Data.{capped}
use Rattle.sk_types.specs.declared.number.Handle.{Handle}
use Rattle.message.specs.declared.request.Message.{Message}
use Rattle.message.specs.declared.record.What.TheVariants as did
use Rattle.message.specs.declared.place.InboxStatus.TheVariants.{Live}
use Rattle.world_machine.specs.Foreseen.{weight_of, idle_ahead}
use Rattle.world_machine.proofs.weighing.idle_ahead.Goals as goal

live_first : (h : Handle) (ms : List Message) (m : Message) (n : ℕ) → slice_get ms 0 ≡ Some m → ((left : ℕ) → n ≡ capped (weight_of h (did.Take m left))) → Some n ≡ idle_ahead h Live ms
live_first h [] m n e w = absurd (cc)
live_first h (x ∷ ms) m n e w =
    let same : x ≡ m = cc in
    ap Some (w (length ms)) ∙ ap (λ y. Some (capped (weight_of h (did.Take y (length ms))))) (sym same)

pub returns-in-Some : goal.returns-in-Some
returns-in-Some c = rw (c.in-Live.is) (live_first c.args.agent c.args.inbox.now.waiting c.in-Some.message.now c.take_weight.result (sym c.in-Some.ensures) c.take_weight.ensures)
