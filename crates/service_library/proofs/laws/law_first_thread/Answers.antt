use Rattle.service_library.proofs.Order.{stopped_first, answered_goes, wait_first, message_goes}
use Rattle.service_library.proofs.laws.law_first_thread.Goals as goal

pub returns-clause-stops : goal.returns-clause-stops
returns-clause-stops c = stopped_first

pub returns-clause-answers : goal.returns-clause-answers
returns-clause-answers c l a = answered_goes l l.doing a

pub returns-clause-waits : goal.returns-clause-waits
returns-clause-waits c = wait_first

pub returns-clause-messages : goal.returns-clause-messages
returns-clause-messages c l m t = message_goes l m t m.kind
