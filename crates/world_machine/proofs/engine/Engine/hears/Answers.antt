use Rattle.std.proofs.Common.{◌≤◌, length, subst, sym, refl}
use Rattle.std.proofs.lemmas.List.{length-map}
use Rattle.message.specs.Worlds.{service_over, over}
use Rattle.world_machine.specs.Machines.{Machine}
use Rattle.world_machine.specs.Spotted.{spots}
use Rattle.world_machine.specs.Launching.{MayHear}
use Rattle.world_machine.proofs.Asking.{hears_it, same_service, seen}
use Rattle.world_machine.proofs.Keeping.{machine_set}
use Rattle.world_machine.specs.Serving.{MayGet}
use Rattle.world_machine.specs.Calling.{sending}
use Rattle.call_fates.specs.Table.{Becomes}
use Rattle.call_fates.specs.declared.calls.Fate.TheVariants.{OnItsWay}
use Rattle.world_machine.proofs.engine.Engine.hears.Goals as goal

pub answer-requires : goal.answer-requires
answer-requires g c =
    let way = g.A.Actor.way in
    let f = g.A.Actor.meaning in
    let w = c.self.inside in
    let P = λ (v : Machine g.row.A.Denot). MayHear way (over f v.world) c.args.agent c.args.answer_ in
    let hear = subst P (sym c.self.view_is) c.requires in
    let within : c.args.agent.0 ≤ length w.services.items = simp length-map at hear.within in
    let same = same_service (service_over f) w.services.items c.args.agent.0 c.index_mut.result.now hear.service hear.given c.index_mut.ensures.value within hear.there in
    subst (λ x. MayGet way x c.args.answer_) (sym same) hear.may

pub invariant_of-self : goal.invariant_of-self
invariant_of-self g c =
    let way = g.A.Actor.way in
    let f = g.A.Actor.meaning in
    let w = c.self.inside in
    let P = λ (v : Machine g.row.A.Denot). MayHear way (over f v.world) c.args.agent c.args.answer_ in
    let hear = subst P (sym c.self.view_is) c.requires in
    let within : c.args.agent.0 ≤ length w.services.items = simp length-map at hear.within in
    machine_set way g.A.Actor.sound f w.services.items (length w.places.inboxes.items) (length w.places.inboxes.items) c.args.agent c.index_mut.result.now c.answer.new.service
    c.self.invariant refl hear.given within c.index_mut.ensures.value c.if-answer.ensures.kept refl

pub invariant_of-self-else-answer : goal.invariant_of-self-else-answer
invariant_of-self-else-answer g c =
    let way = g.A.Actor.way in
    let f = g.A.Actor.meaning in
    let w = c.self.inside in
    let P = λ (v : Machine g.row.A.Denot). MayHear way (over f v.world) c.args.agent c.args.answer_ in
    let hear = subst P (sym c.self.view_is) c.requires in
    let within : c.args.agent.0 ≤ length w.services.items = simp length-map at hear.within in
    machine_set way g.A.Actor.sound f w.services.items (length w.places.inboxes.items) (length w.places.inboxes.items) c.args.agent c.index_mut.result.now c.answer.new.service
    c.self.invariant refl hear.given within c.index_mut.ensures.value c.if-answer.ensures.kept refl

pub returns-then-answer-clause-heard : goal.returns-then-answer-clause-heard
returns-then-answer-clause-heard g c =
    let way = g.A.Actor.way in
    let f = g.A.Actor.meaning in
    let w = c.self.inside in
    let P = λ (v : Machine g.row.A.Denot). MayHear way (over f v.world) c.args.agent c.args.answer_ in
    let hear = subst P (sym c.self.view_is) c.requires in
    let within : c.args.agent.0 ≤ length w.services.items = simp length-map at hear.within in
    rw (← c.self.view_is) (hears_it way f w.services.items (spots w.places) w.due.items c.args.agent c.args.answer_ c.index_mut.result.now c.answer.new.service
    hear.given within c.index_mut.ensures.value c.if-answer.ensures.fed)

pub returns-then-answer-clause-turned : goal.returns-then-answer-clause-turned
returns-then-answer-clause-turned g c =
    let way = g.A.Actor.way in
    let f = g.A.Actor.meaning in
    let w = c.self.inside in
    let P = λ (v : Machine g.row.A.Denot). MayHear way (over f v.world) c.args.agent c.args.answer_ in
    let hear = subst P (sym c.self.view_is) c.requires in
    let within : c.args.agent.0 ≤ length w.services.items = simp length-map at hear.within in
    let before = c.index_mut.result.now in
    let turned = subst (λ y. Becomes OnItsWay (λ k. sending way k y) c.args.calls.now c.answer.new.calls) c.if-answer.ensures.fed c.if-answer.ensures.turned in
    rw (← c.self.view_is) (record { service = service_over f before; there = seen (service_over f) w.services.items c.args.agent.0 before hear.given c.index_mut.ensures.value within; turned = turned })
