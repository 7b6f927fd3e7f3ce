use Rattle.std.proofs.Common.{◌≡◌, ◌≤◌, ◌-◌, List, length, subst, sym, ap, ◌∙◌, refl, Some, None}
use Rattle.std.proofs.lemmas.List.{length-map}
use Rattle.message.specs.Inboxes.{end}
use Rattle.message.specs.Registries.{at}
use Rattle.message.specs.Worlds.{service_over, over}
use Rattle.message.specs.declared.place.InboxState.{InboxState}
use Rattle.world_machine.specs.Machines.{Machine}
use Rattle.world_machine.specs.Standing.{StandsAt}
use Rattle.world_machine.specs.Spotted.{spots}
use Rattle.world_machine.specs.declared.served.Stage.TheVariants as stage
use Rattle.world_machine.proofs.Asking.{same_service, seen}
use Rattle.world_machine.proofs.Keeping.{machine_set}
use Rattle.world_machine.proofs.Idling.{idle_here, inbox_there, room_kept, back_again, named}
use Rattle.world_machine.proofs.Following.{ends_goes}
use Rattle.world_machine.proofs.engine.Engine.idles.Goals as goal

pub end-requires-clause-named : goal.end-requires-clause-named
end-requires-clause-named g c =
    let way = g.A.Actor.way in
    let f = g.A.Actor.meaning in
    let w = c.self.inside in
    let P = λ (v : Machine g.row.A.Denot). StandsAt way (over f v.world) c.args.agent stage.Idle in
    let idle = subst P (sym c.self.view_is) c.requires in
    let within : c.args.agent.0 ≤ length w.services.items = simp length-map at idle.within in
    let x = service_over f c.index_mut-in-Some.result.now in
    named way g.A.Actor.sound c.args.agent x (c.self.invariant.okay c.args.agent x (seen (service_over f) w.services.items c.args.agent.0 c.index_mut-in-Some.result.now idle.given c.index_mut-in-Some.ensures.value within))

pub invariant_of-self : goal.invariant_of-self
invariant_of-self g c =
    let way = g.A.Actor.way in
    let f = g.A.Actor.meaning in
    let w = c.self.inside in
    let P = λ (v : Machine g.row.A.Denot). StandsAt way (over f v.world) c.args.agent stage.Idle in
    let idle = subst P (sym c.self.view_is) c.requires in
    let within : c.args.agent.0 ≤ length w.services.items = simp length-map at idle.within in
    machine_set way g.A.Actor.sound f w.services.items (length w.places.inboxes.items) _ c.args.agent c.index_mut-in-Some.result.now c.end.new.service
    c.self.invariant (room_kept w.places.inboxes.items (c.args.agent.0 - 1) _ c.close.new.inbox refl) idle.given within c.index_mut-in-Some.ensures.value c.end.ensures.kept refl

pub returns-in-Some-clause-done : goal.returns-in-Some-clause-done
returns-in-Some-clause-done g c =
    let way = g.A.Actor.way in
    let f = g.A.Actor.meaning in
    let w = c.self.inside in
    let P = λ (v : Machine g.row.A.Denot). StandsAt way (over f v.world) c.args.agent stage.Idle in
    let idle = subst P (sym c.self.view_is) c.requires in
    let within : c.args.agent.0 ≤ length w.services.items = simp length-map at idle.within in
    let room : c.args.agent.0 ≤ length w.places.inboxes.items = subst (λ n. c.args.agent.0 ≤ n) c.self.invariant.paired idle.within in
    let before = c.index_mut-in-Some.result.now in
    let here = idle_here way (service_over f before) idle.service (same_service (service_over f) w.services.items c.args.agent.0 before idle.service idle.given c.index_mut-in-Some.ensures.value within idle.there) idle.stands in
    rw (← c.self.view_is) (ends_goes way f w.services.items (spots w.places) w.due.items c.args.agent before c.index_mut.result.now idle.given within room c.index_mut-in-Some.ensures.value c.index_mut.ensures.value here
    c.end.new.service c.in-Some.waiting c.close.new.inbox c.args.calls.now c.end.new.calls c.in-Some.ensures.some c.end.ensures.ended c.end.ensures.calls)

pub takes-requires-clause-stays : goal.takes-requires-clause-stays
takes-requires-clause-stays g c =
    let way = g.A.Actor.way in
    let f = g.A.Actor.meaning in
    let w = c.self.inside in
    let P = λ (v : Machine g.row.A.Denot). StandsAt way (over f v.world) c.args.agent stage.Idle in
    let idle = subst P (sym c.self.view_is) c.requires in
    let room : c.args.agent.0 ≤ length w.places.inboxes.items = subst (λ n. c.args.agent.0 ≤ n) c.self.invariant.paired idle.within in
    let i0 = c.index_mut.result.now in
    let back = back_again w.places.inboxes.items (c.args.agent.0 - 1) i0 c.close.new.inbox c.index_mut.ensures.value c.in_default.ensures.none.1 in
    λ i there. (
    let e : Some i0 ≡ Some i = sym (inbox_there w.places.inboxes.items c.args.agent.0 i0 idle.given room c.index_mut.ensures.value) ∙ (ap (λ (l : List InboxState). at l c.args.agent.0) (sym back) ∙ there) in
    let same : i0 ≡ i = cc in
    subst (λ (j : InboxState). end j.status j.waiting ≡ None) same c.in_default.ensures.none.0)
