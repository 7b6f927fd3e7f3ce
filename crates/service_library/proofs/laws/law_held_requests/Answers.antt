use Rattle.service_library.proofs.Held.{called_keeps, stopped_keeps, message_keeps, answer_same}
use Rattle.service_library.proofs.laws.law_held_requests.Goals as goal

pub returns-clause-messages : goal.returns-clause-messages
returns-clause-messages c = message_keeps

pub returns-clause-calls : goal.returns-clause-calls
returns-clause-calls c = called_keeps

pub returns-clause-answers : goal.returns-clause-answers
returns-clause-answers c = answer_same

pub returns-clause-stops : goal.returns-clause-stops
returns-clause-stops c = stopped_keeps
