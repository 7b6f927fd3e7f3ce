use Rattle.std.proofs.Common.{◌≤◌, ◌<◌, ◌-◌, List, length, arith, subst, sym, ap, refl, true}
use Rattle.std.proofs.lemmas.List.{length-map}
use Rattle.message.specs.Worlds.{service_over, over}
use Rattle.message.specs.declared.place.InboxState.{InboxState}
use Rattle.world_machine.specs.Machines.{Machine}
use Rattle.world_machine.specs.Standing.{StandsAt, StaysAt}
use Rattle.world_machine.specs.Spotted.{spots}
use Rattle.world_machine.specs.Idling.{IsLineAhead}
use Rattle.world_machine.specs.declared.served.Stage.TheVariants as stage
use Rattle.world_machine.proofs.Asking.{same_service}
use Rattle.world_machine.proofs.Keeping.{machine_set}
use Rattle.world_machine.proofs.Idling.{idle_here, takes_acted, waits_on, inbox_there, room_kept, back_again, same_read}
use Rattle.world_machine.proofs.Following.{takes_goes}
use Rattle.world_machine.proofs.engine.Engine.takes.Goals as goal

pub take-requires : goal.take-requires
take-requires g c =
    let way = g.A.Actor.way in
    let f = g.A.Actor.meaning in
    let w = c.self.inside in
    let P = λ (v : Machine g.row.A.Denot). StandsAt way (over f v.world) c.args.agent stage.Idle in
    let idle = subst P (sym c.self.view_is) c.requires.idle in
    let within : c.args.agent.0 ≤ length w.services.items = simp length-map at idle.within in
    idle_here way (service_over f c.index_mut-2.result.now) idle.service (same_service (service_over f) w.services.items c.args.agent.0 c.index_mut-2.result.now idle.service idle.given c.index_mut-2.ensures.value within idle.there) idle.stands

pub invariant_of-self-then-take : goal.invariant_of-self-then-take
invariant_of-self-then-take g c =
    let way = g.A.Actor.way in
    let f = g.A.Actor.meaning in
    let w = c.self.inside in
    let P = λ (v : Machine g.row.A.Denot). StandsAt way (over f v.world) c.args.agent stage.Idle in
    let idle = subst P (sym c.self.view_is) c.requires.idle in
    let within : c.args.agent.0 ≤ length w.services.items = simp length-map at idle.within in
    machine_set way g.A.Actor.sound f w.services.items (length w.places.inboxes.items) _ c.args.agent c.index_mut-2.result.now c.take.new.service
    c.self.invariant (room_kept w.places.inboxes.items (c.args.agent.0 - 1) _ c.take_first.new.inbox refl) idle.given within c.index_mut-2.ensures.value c.if-take.ensures.kept refl

pub invariant_of-self-else-take : goal.invariant_of-self-else-take
invariant_of-self-else-take g c =
    let way = g.A.Actor.way in
    let f = g.A.Actor.meaning in
    let w = c.self.inside in
    let P = λ (v : Machine g.row.A.Denot). StandsAt way (over f v.world) c.args.agent stage.Idle in
    let idle = subst P (sym c.self.view_is) c.requires.idle in
    let within : c.args.agent.0 ≤ length w.services.items = simp length-map at idle.within in
    machine_set way g.A.Actor.sound f w.services.items (length w.places.inboxes.items) _ c.args.agent c.index_mut-2.result.now c.take.new.service
    c.self.invariant (room_kept w.places.inboxes.items (c.args.agent.0 - 1) _ c.take_first.new.inbox refl) idle.given within c.index_mut-2.ensures.value c.if-take.ensures.kept refl

pub returns-then-take-clause-done : goal.returns-then-take-clause-done
returns-then-take-clause-done g c =
    let way = g.A.Actor.way in
    let f = g.A.Actor.meaning in
    let w = c.self.inside in
    let P = λ (v : Machine g.row.A.Denot). StandsAt way (over f v.world) c.args.agent stage.Idle in
    let idle = subst P (sym c.self.view_is) c.requires.idle in
    let within : c.args.agent.0 ≤ length w.services.items = simp length-map at idle.within in
    let room : c.args.agent.0 ≤ length w.places.inboxes.items = subst (λ n. c.args.agent.0 ≤ n) c.self.invariant.paired idle.within in
    let inside : c.args.agent.0 - 1 < length w.places.inboxes.items = omega (arith, room, idle.given) in
    let here = idle_here way (service_over f c.index_mut-2.result.now) idle.service (same_service (service_over f) w.services.items c.args.agent.0 c.index_mut-2.result.now idle.service idle.given c.index_mut-2.ensures.value within idle.there) idle.stands in
    rw (← c.self.view_is) (takes_goes way f w.services.items (spots w.places) w.due.items c.args.agent c.index_mut-2.result.now c.index_mut.result.now idle.given within room c.index_mut-2.ensures.value c.index_mut.ensures.value here
    c.take.new.service c.in-Some.message (length c.take_first.new.inbox.waiting) c.take_first.new.inbox c.in_ok-line.line c.args.calls.now c.receive.new.calls c.take.new.calls c.in-Some.ensures.some c.if-take.ensures.fed (subst (λ (i : InboxState). IsLineAhead c.args.agent i c.in_ok-line.line) (same_read w.places.inboxes.items (c.args.agent.0 - 1) c.index.result.now c.index_mut.result.now inside c.index.ensures c.index_mut.ensures.value) c.in_ok-line.ensures) c.receive.ensures c.if-take.ensures.turned)

pub returns-else-take-clause-undone : goal.returns-else-take-clause-undone
returns-else-take-clause-undone g c =
    let way = g.A.Actor.way in
    let f = g.A.Actor.meaning in
    let w = c.self.inside in
    let P = λ (v : Machine g.row.A.Denot). StandsAt way (over f v.world) c.args.agent stage.Idle in
    let idle = subst P (sym c.self.view_is) c.requires.idle in
    let within : c.args.agent.0 ≤ length w.services.items = simp length-map at idle.within in
    let room : c.args.agent.0 ≤ length w.places.inboxes.items = subst (λ n. c.args.agent.0 ≤ n) c.self.invariant.paired idle.within in
    let inside : c.args.agent.0 - 1 < length w.places.inboxes.items = omega (arith, room, idle.given) in
    let here = idle_here way (service_over f c.index_mut-2.result.now) idle.service (same_service (service_over f) w.services.items c.args.agent.0 c.index_mut-2.result.now idle.service idle.given c.index_mut-2.ensures.value within idle.there) idle.stands in
    let line_is = subst (λ (i : InboxState). IsLineAhead c.args.agent i c.in_ok-line.line) (same_read w.places.inboxes.items (c.args.agent.0 - 1) c.index.result.now c.index_mut.result.now inside c.index.ensures c.index_mut.ensures.value) c.in_ok-line.ensures in
    rw (← c.self.view_is) (takes_acted way f w.services.items (spots w.places) w.due.items c.args.agent c.index_mut-2.result.now c.index_mut.result.now idle.given within room c.index_mut-2.ensures.value c.index_mut.ensures.value here
    c.in-Some.message (length c.take_first.new.inbox.waiting) c.take_first.new.inbox c.in_ok-line.line true c.in-Some.ensures.some line_is refl)

pub returns-in_default-clause-undone : goal.returns-in_default-clause-undone
returns-in_default-clause-undone g c =
    let way = g.A.Actor.way in
    let f = g.A.Actor.meaning in
    let w = c.self.inside in
    let P = λ (v : Machine g.row.A.Denot). StandsAt way (over f v.world) c.args.agent stage.Idle in
    let idle = subst P (sym c.self.view_is) c.requires.idle in
    let Q = λ (v : Machine g.row.A.Denot). StaysAt (over f v.world) c.args.agent in
    let stays = subst Q (sym c.self.view_is) c.requires.stays in
    let room : c.args.agent.0 ≤ length w.places.inboxes.items = subst (λ n. c.args.agent.0 ≤ n) c.self.invariant.paired idle.within in
    let i = c.index_mut.result.now in
    let nothing = waits_on way f w.services.items (spots w.places) w.due.items c.args.agent idle.service i idle.given room c.index_mut.ensures.value idle.there idle.stands c.in_default.ensures.none.0
    (stays i (inbox_there w.places.inboxes.items c.args.agent.0 i idle.given room c.index_mut.ensures.value)) in
    let F : List InboxState → Machine g.row.A.Denot = λ (is : List InboxState). record { world = record { services = w.services.items; inboxes = is; registry = w.places.registry; clock = w.places.clock; due = w.due.items }; spent = w.spent } in
    rw (← c.self.view_is) (nothing, ap F (back_again w.places.inboxes.items (c.args.agent.0 - 1) i c.take_first.new.inbox c.index_mut.ensures.value c.in_default.ensures.none.1))
