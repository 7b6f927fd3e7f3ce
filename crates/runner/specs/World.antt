-- The one-thread message machine, as far as a script that logs texts needs it: the start service and the logger.
use Rattle.std.specs.Prelude.{◌≡◌, ℕ, ◌+◌, ◌*◌, ◌==◌, Bool, true, false, List, [], ◌∷◌, ◌++◌, Option, Some, None, if◌then◌else◌, length}
use Rattle.sk_types.specs.declared.number.Handle.{Handle}
use Rattle.sk_types.specs.declared.number.Kind.TheVariants as kind
use Rattle.runner.specs.declared.message.Message.{Message}
use Rattle.runner.specs.Logger.{line_of}

-- whether the start service's chunk began and what it has yet to log, the messages in its mailbox, and those in the logger's
pub record World : Type 0 where
  pub begun : Bool
  pub texts : List (List ℕ)
  pub mailbox : List Message
  pub logged : List Message

-- the message that begins a service
abbrev pub init_message : Message
init_message = record { source = record { 0 = 0 }; session = record { 0 = 0 }; kind = kind.Text; body = [] }

-- what the start service, which has handle 3, puts to the logger (`skynet.error` of skynet.lua)
abbrev pub log_message : List ℕ → Message
log_message text = record { source = record { 0 = 3 }; session = record { 0 = 0 }; kind = kind.Text; body = text ∷ [] }

abbrev pub opening : List (List ℕ) → World
opening texts = record { begun = false; texts = texts; mailbox = init_message ∷ []; logged = [] }

-- where an action leads, and what it writes
abbrev pub Step : Type 0
Step = Option (World × List ℕ)

-- Take: the first message leaves the mailbox. The first of all begins the chunk, and a later one is dropped.
abbrev pub takes : World → List Message → Step
takes w [] = None
takes w (m ∷ ms) = Some (record w { begun = true; mailbox = ms }, [])

-- Put: the next text goes to the end of the logger's mailbox. With no text left the service is idle, and takes.
abbrev pub logs : World → List (List ℕ) → Step
logs w [] = takes w w.mailbox
logs w (text ∷ texts) = Some (record w { texts = texts; logged = w.logged ++ log_message text ∷ [] }, [])

-- the start service's next action: before its chunk began it is idle
abbrev pub service_acts : World → Step
service_acts w = if w.begun then logs w w.texts else takes w w.mailbox

-- the logger's next action: it takes its first message, and writes its line
abbrev pub writes : World → List Message → Step
writes w [] = None
writes w (m ∷ ms) = Some (record w { logged = ms }, line_of m)

abbrev pub logger_acts : World → Step
logger_acts w = writes w w.logged

-- the next action of an agent; the launcher, which has handle 2, has none
abbrev pub act : World → Handle → Step
act w agent = if agent.0 == 1 then logger_acts w else (if agent.0 == 3 then service_acts w else None)

-- a step with this text before what it writes
abbrev pub prefixed : List ℕ → Step → Step
prefixed text None = None
prefixed text (Some s) = Some (s.0, text ++ s.1)

-- a step, and then another from where it leads
abbrev pub then_acts : (World → Step) → Step → Step
then_acts next None = None
then_acts next (Some s) = prefixed s.1 (next s.0)

-- the world after the agents of a journal acted in turn, and the logger's text; defined where each had an action
abbrev pub after : List Handle → World → Step
after [] w = Some (w, [])
after (agent ∷ journal) w = then_acts (after journal) (act w agent)

-- no agent has an action
abbrev pub IsDrained : World → Type 0
IsDrained w = (agent : Handle) → act w agent ≡ None

-- how many actions are left
abbrev pub actions_left : World → ℕ
actions_left w = 2 * length w.texts + length w.mailbox + length w.logged
