use Rattle.std.proofs.Common.{◌≡◌, ◌<◌, ◌≤◌, ◌-◌, length, subst, sym, ap, ◌∙◌, refl, true, arith}
use Rattle.std.proofs.lemmas.Bool.{OnFalse_from}
use Rattle.call_fates.specs.Fates.{replying}
use Rattle.world_machine.specs.Calling.{call_in, reply_in, is_refusal, IsAbsent, Opens, Settles}
use Rattle.world_machine.proofs.Idling.{same_read}
use Rattle.world_machine.proofs.Following.{asks_goes, withdrawn}
use Rattle.std.proofs.lemmas.List.{length-map}
use Rattle.message.specs.Worlds.{service_over, over}
use Rattle.message.specs.Steps.{service_ops}
use Rattle.world_machine.specs.Machines.{Machine}
use Rattle.world_machine.specs.Standing.{StandsAt}
use Rattle.world_machine.specs.Spotted.{spots}
use Rattle.world_machine.specs.declared.served.Stage.TheVariants as stage
use Rattle.world_machine.proofs.Asking.{may_get, asks_acted, same_service, gives_len, gives_listed}
use Rattle.world_machine.proofs.Keeping.{machine_set}
use Rattle.world_machine.proofs.engine.Engine.asks.Goals as goal

pub answer-requires : goal.answer-requires
answer-requires g c =
    let way = g.A.Actor.way in
    let f = g.A.Actor.meaning in
    let w = c.self.inside in
    let P = λ (v : Machine g.row.A.Denot). StandsAt way (over f v.world) c.args.agent (stage.Asks c.args.request) in
    let asks = subst P (sym c.self.view_is) c.requires.asks in
    let within : c.args.agent.0 ≤ length w.services.items = simp length-map at asks.within in
    let same = same_service (service_over f) w.services.items c.args.agent.0 c.index_mut.result.now asks.service asks.given c.index_mut.ensures.value within asks.there in
    let ops : service_ops way (service_over f c.index_mut.result.now) ≡ _ = ap (service_ops way) same ∙ asks.stands in
    may_get way (service_over f c.index_mut.result.now) c.args.agent c.args.request (spots w.places) (spots c.ask.new.self) c.in-Ok.answer ops c.in-Ok.ensures.done

pub invariant_of-self-then-answer : goal.invariant_of-self-then-answer
invariant_of-self-then-answer g c =
    let way = g.A.Actor.way in
    let f = g.A.Actor.meaning in
    let w = c.self.inside in
    let P = λ (v : Machine g.row.A.Denot). StandsAt way (over f v.world) c.args.agent (stage.Asks c.args.request) in
    let asks = subst P (sym c.self.view_is) c.requires.asks in
    let within : c.args.agent.0 ≤ length w.services.items = simp length-map at asks.within in
    machine_set way g.A.Actor.sound f w.services.items (length w.places.inboxes.items) (length c.ask.new.self.inboxes.items) c.args.agent c.index_mut.result.now c.answer.new.service
    c.self.invariant (gives_len c.args.agent c.args.request (spots w.places) (spots c.ask.new.self) c.in-Ok.answer c.in-Ok.ensures.done) asks.given within c.index_mut.ensures.value c.if-answer.ensures.kept (gives_listed c.args.agent c.args.request (spots w.places) (spots c.ask.new.self) c.in-Ok.answer c.in-Ok.ensures.done)

pub invariant_of-self-else-answer : goal.invariant_of-self-else-answer
invariant_of-self-else-answer g c =
    let way = g.A.Actor.way in
    let f = g.A.Actor.meaning in
    let w = c.self.inside in
    let P = λ (v : Machine g.row.A.Denot). StandsAt way (over f v.world) c.args.agent (stage.Asks c.args.request) in
    let asks = subst P (sym c.self.view_is) c.requires.asks in
    let within : c.args.agent.0 ≤ length w.services.items = simp length-map at asks.within in
    machine_set way g.A.Actor.sound f w.services.items (length w.places.inboxes.items) (length c.ask.new.self.inboxes.items) c.args.agent c.index_mut.result.now c.answer.new.service
    c.self.invariant (gives_len c.args.agent c.args.request (spots w.places) (spots c.ask.new.self) c.in-Ok.answer c.in-Ok.ensures.done) asks.given within c.index_mut.ensures.value c.if-answer.ensures.kept (gives_listed c.args.agent c.args.request (spots w.places) (spots c.ask.new.self) c.in-Ok.answer c.in-Ok.ensures.done)

pub returns-then-answer-clause-done : goal.returns-then-answer-clause-done
returns-then-answer-clause-done g c =
    let way = g.A.Actor.way in
    let f = g.A.Actor.meaning in
    let w = c.self.inside in
    let r = c.args.request in
    let P = λ (v : Machine g.row.A.Denot). StandsAt way (over f v.world) c.args.agent (stage.Asks c.args.request) in
    let asks = subst P (sym c.self.view_is) c.requires.asks in
    let within : c.args.agent.0 ≤ length w.services.items = simp length-map at asks.within in
    let inside : c.args.agent.0 - 1 < length w.services.items = omega (arith, within, asks.given) in
    let before = c.index_mut.result.now in
    let same = same_service (service_over f) w.services.items c.args.agent.0 before asks.service asks.given c.index_mut.ensures.value within asks.there in
    let ops : service_ops way (service_over f before) ≡ _ = ap (service_ops way) same ∙ asks.stands in
    let read = same_read w.services.items (c.args.agent.0 - 1) c.index.result.now before inside c.index.ensures c.index_mut.ensures.value in
    let sent_is : c.reply_in-sent.result ≡ reply_in (replying way (service_over f before)) r = c.reply_in-sent.ensures ∙ ap (λ s. reply_in s r) (c.replying.ensures ∙ ap (λ y. replying way (service_over f y)) read) in
    let opened = subst (λ k. Opens k c.args.calls.now c.«open».new.calls) c.call_in-call.ensures c.in_ok-open.ensures.ok in
    let settled = subst (λ k. Settles k c.reply_in-sent.result (is_refusal c.in-Ok.answer) c.«open».new.calls c.settle.new.calls) c.call_in-call.ensures c.settle.ensures in
    let settled2 = subst (λ s. Settles (call_in r) s (is_refusal c.in-Ok.answer) c.«open».new.calls c.settle.new.calls) sent_is settled in
    rw (← c.self.view_is) (asks_goes way f w.services.items (spots w.places) (spots c.ask.new.self) w.due.items c.args.agent r c.in-Ok.answer before c.answer.new.service
    c.args.calls.now c.«open».new.calls c.settle.new.calls c.answer.new.calls
    asks.given within c.index_mut.ensures.value ops c.in-Ok.ensures.done c.if-answer.ensures.fed c.requires.absent opened settled2 c.if-answer.ensures.turned)

pub returns-else-answer-clause-undone : goal.returns-else-answer-clause-undone
returns-else-answer-clause-undone g c =
    let way = g.A.Actor.way in
    let f = g.A.Actor.meaning in
    let w = c.self.inside in
    let r = c.args.request in
    let P = λ (v : Machine g.row.A.Denot). StandsAt way (over f v.world) c.args.agent (stage.Asks c.args.request) in
    let asks = subst P (sym c.self.view_is) c.requires.asks in
    let within : c.args.agent.0 ≤ length w.services.items = simp length-map at asks.within in
    let before = c.index_mut.result.now in
    let same = same_service (service_over f) w.services.items c.args.agent.0 before asks.service asks.given c.index_mut.ensures.value within asks.there in
    let ops : service_ops way (service_over f before) ≡ _ = ap (service_ops way) same ∙ asks.stands in
    rw (← c.self.view_is) (asks_acted way f w.services.items (spots w.places) (spots c.ask.new.self) w.due.items c.args.agent r c.in-Ok.answer before true asks.given within c.index_mut.ensures.value ops c.in-Ok.ensures.done refl)

pub returns-in-Err-NoPlace-clause-same : goal.returns-in-Err-NoPlace-clause-same
returns-in-Err-NoPlace-clause-same g c = OnFalse_from _ _ (λ no_matter. withdrawn c.call_in-call.result c.args.calls.now c.«open».new.calls c.withdraw.new.calls (subst (λ k. IsAbsent k c.args.calls.now) (sym c.call_in-call.ensures) c.requires.absent) c.in_ok-open.ensures.ok c.withdraw.ensures)

pub returns-in-Err-Memory-clause-same : goal.returns-in-Err-Memory-clause-same
returns-in-Err-Memory-clause-same g c = OnFalse_from _ _ (λ no_matter. withdrawn c.call_in-call.result c.args.calls.now c.«open».new.calls c.withdraw-in-Err-Memory.new.calls (subst (λ k. IsAbsent k c.args.calls.now) (sym c.call_in-call.ensures) c.requires.absent) c.in_ok-open.ensures.ok c.withdraw-in-Err-Memory.ensures)
