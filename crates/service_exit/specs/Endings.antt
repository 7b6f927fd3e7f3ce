-- How a service ends (skynet.lua, skynet.exit, skynet.kill and init_service): a line for the logger where there is
-- one, a word to the launcher, a Retire, a Mark.
use Rattle.std.specs.Prelude.{ℕ, Bool, true, false, if◌then◌else◌, Option, Some, None, List, [], ◌∷◌, ◌++◌, ◌≡◌, ◌⊎◌, codes}
use Rattle.sk_types.specs.declared.number.Handle.{Handle}
use Rattle.message.specs.declared.datum.Datum.TheVariants as datum
use Rattle.message.specs.declared.request.Request.{Request}
use Rattle.message.specs.declared.request.Request.TheVariants.{Retire, Mark}
use Rattle.message.specs.declared.request.Answer.{Answer}
use Rattle.message.specs.declared.request.Answer.TheVariants.{Flag}
use Rattle.service_exit.specs.declared.Exit.{Exit}
use Rattle.service_exit.specs.declared.Exit.TheVariants.{Own, Limit, Raised, Kill}
use Rattle.service_exit.specs.declared.Stage.{Stage}
use Rattle.service_exit.specs.declared.Stage.TheVariants as stage
use Rattle.service_exit.specs.declared.Leave.{Leave}
use Rattle.service_exit.specs.Words.{to_logger, removal, failure}

-- the handle that ends
abbrev pub ended : Handle → Exit → Handle
ended own (Kill h) = h
ended own Own = own
ended own (Limit text) = own
ended own (Raised text) = own

-- the text of the logger's line, where there is one
abbrev pub text_of_line : Exit → List ℕ
text_of_line (Limit text) = text
text_of_line (Raised text) = codes "init service failed: " ++ text
text_of_line Own = []
text_of_line (Kill h) = []

abbrev pub line : Handle → Exit → Request
line own exit = to_logger own (datum.Text (text_of_line exit) ∷ [])

-- the word to the launcher: a service that was killed, or met a limit, is removed as killed
abbrev pub report : Handle → Exit → Request
report own Own = removal own own false
report own (Limit text) = removal own own true
report own (Raised text) = failure own
report own (Kill h) = removal own h true

-- all requests of an ending, in order
abbrev pub requests : Handle → Exit → List Request
requests own Own = report own Own ∷ Retire own ∷ Mark own ∷ []
requests own (Limit text) = line own (Limit text) ∷ report own (Limit text) ∷ Retire own ∷ Mark own ∷ []
requests own (Raised text) = line own (Raised text) ∷ report own (Raised text) ∷ Retire own ∷ Mark own ∷ []
requests own (Kill h) = report own (Kill h) ∷ Retire h ∷ Mark h ∷ []

-- only a limit and an error have a line
abbrev pub first_stage : Exit → Stage
first_stage Own = stage.Report
first_stage (Kill h) = stage.Report
first_stage (Limit text) = stage.Line
first_stage (Raised text) = stage.Line

abbrev pub next_stage : Stage → Stage
next_stage stage.Line = stage.Report
next_stage stage.Report = stage.Retire
next_stage stage.Retire = stage.Mark
next_stage stage.Mark = stage.Over
next_stage stage.Over = stage.Over

abbrev pub ending : Handle → Exit → Leave
ending own exit = record { own = own; exit = exit; stage = first_stage exit }

-- the requests that are left at a stage
abbrev pub left_at : Handle → Exit → Stage → List Request
left_at own exit stage.Line = line own exit ∷ report own exit ∷ Retire (ended own exit) ∷ Mark (ended own exit) ∷ []
left_at own exit stage.Report = report own exit ∷ Retire (ended own exit) ∷ Mark (ended own exit) ∷ []
left_at own exit stage.Retire = Retire (ended own exit) ∷ Mark (ended own exit) ∷ []
left_at own exit stage.Mark = Mark (ended own exit) ∷ []
left_at own exit stage.Over = []

abbrev pub left : Leave → List Request
left l = left_at l.own l.exit l.stage

-- the answer to a Retire of a handle that was not listed
abbrev pub is_refusal : Option Answer → Bool
is_refusal (Some (Flag false)) = true
is_refusal _ = false

-- who kills a service asks no Mark of it where it was not listed; a service that ends itself asks it in any case
abbrev pub spares : Exit → Option Answer → Bool
spares (Kill h) last = is_refusal last
spares Own last = false
spares (Limit text) last = false
spares (Raised text) last = false

-- the request at a stage, last being the answer to the one before
abbrev pub request_at : Handle → Exit → Stage → Option Answer → Option Request
request_at own exit stage.Line last = Some (line own exit)
request_at own exit stage.Report last = Some (report own exit)
request_at own exit stage.Retire last = Some (Retire (ended own exit))
request_at own exit stage.Mark last = if spares exit last then None else Some (Mark (ended own exit))
request_at own exit stage.Over last = None

abbrev pub next_request : Leave → Option Answer → Option Request
next_request l last = request_at l.own l.exit l.stage last

abbrev pub after_next : Leave → Leave
after_next l = record { own = l.own; exit = l.exit; stage = next_stage l.stage }

-- Nothing more is asked: nothing was left, or only the Mark of who was not listed, which is spared.
abbrev pub IsDone : Leave → Option Answer → Type 0
IsDone l last = (left l ≡ []) ⊎ ((left l ≡ Mark (ended l.own l.exit) ∷ []) × (spares l.exit last ≡ true))

-- What an ending asks is the first of the requests that were left, and those after it are left then.
abbrev pub Asks : Leave → Option Answer → Option Request → Leave → Type 0
Asks l last (Some r) l2 = left l ≡ r ∷ left l2
Asks l last None l2 = IsDone l last × (left l2 ≡ [])
