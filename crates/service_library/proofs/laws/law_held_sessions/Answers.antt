use Rattle.service_library.proofs.Held.{called_sessions, stopped_sessions}
use Rattle.service_library.proofs.laws.law_held_sessions.Goals as goal

pub returns-clause-calls : goal.returns-clause-calls
returns-clause-calls c = called_sessions

pub returns-clause-stops : goal.returns-clause-stops
returns-clause-stops c = stopped_sessions
