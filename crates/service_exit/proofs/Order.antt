-- An ending asks what is left of its requests, in order.
use Rattle.std.proofs.Common.{Bool, true, false, if◌then◌else◌, ◌≡◌, refl, Option, Some, None, inl, inr}
use Rattle.message.specs.declared.request.Answer.{Answer}
use Rattle.message.specs.declared.request.Request.TheVariants.{Mark}
use Rattle.sk_types.specs.declared.number.Handle.{Handle}
use Rattle.service_exit.specs.declared.Exit.{Exit}
use Rattle.service_exit.specs.declared.Leave.{Leave}
use Rattle.service_exit.specs.declared.Stage.{Stage}
use Rattle.service_exit.specs.declared.Stage.TheVariants as stage
use Rattle.service_exit.specs.Endings.{ended, spares, next_request, after_next, next_stage, request_at, Asks}

abbrev ending_at : Handle → Exit → Stage → Leave
ending_at own exit s = record { own = own; exit = exit; stage = s }

-- the Mark, or nothing where it is spared
mark_first : (own : Handle) (exit : Exit) (last : Option Answer) (b : Bool) → spares exit last ≡ b → Asks (ending_at own exit stage.Mark) last (if b then None else Some (Mark (ended own exit))) (ending_at own exit stage.Over)
mark_first own exit last true h = (inr (refl, h), refl)
mark_first own exit last false h = refl

at_stage : (own : Handle) (exit : Exit) (s : Stage) (last : Option Answer) → Asks (ending_at own exit s) last (request_at own exit s last) (ending_at own exit (next_stage s))
at_stage own exit stage.Line last = refl
at_stage own exit stage.Report last = refl
at_stage own exit stage.Retire last = refl
at_stage own exit stage.Mark last = mark_first own exit last (spares exit last) refl
at_stage own exit stage.Over last = (inl refl, refl)

pub asks_first : (l : Leave) (last : Option Answer) → Asks l last (next_request l last) (after_next l)
asks_first l last = at_stage l.own l.exit l.stage last
