use Rattle.std.proofs.Common.{◌∙◌, ap, sym}
use Rattle.std.specs.Option.{option_map}
use Rattle.message.specs.Messages.{requests, held_of}
use Rattle.message.specs.Ends.{caller_of}
use Rattle.message.proofs.Bounced.{first_held, first_past, first_waiting}
use Rattle.message.proofs.leaving.Bounces.next.Goals as goal

pub returns-in-Some : goal.returns-in-Some
returns-in-Some c =
    let b = c.self.inside in
    rw (← c.self.view_is) (ap (option_map caller_of) (sym (first_held b.held b.done (requests b.waiting) c.in-Some.held.now (sym c.in-Some.ensures.value))))

pub returns-in-Some-get : goal.returns-in-Some-get
returns-in-Some-get c =
    let b = c.self.inside in
    let past = first_past b.held b.done (requests b.waiting) (sym c.in-None.ensures.value) in
    let there = first_waiting b.waiting c.self.invariant ∙ ap (option_map held_of) (sym c.in-Some-get.ensures) in
    rw (← c.self.view_is) (ap (option_map caller_of) (sym (past ∙ there)))

pub returns-in-None-get : goal.returns-in-None-get
returns-in-None-get c =
    let b = c.self.inside in
    let past = first_past b.held b.done (requests b.waiting) (sym c.in-None.ensures.value) in
    let there = first_waiting b.waiting c.self.invariant ∙ ap (option_map held_of) (sym c.in-None-get.ensures) in
    rw (← c.self.view_is) (ap (option_map caller_of) (sym (past ∙ there)))
