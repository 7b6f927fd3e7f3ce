use Rattle.service_library.proofs.Idle.{message_done, answered_done, called_done, stopped_done}
use Rattle.service_library.proofs.laws.law_idle.Goals as goal

pub returns-clause-messages : goal.returns-clause-messages
returns-clause-messages c = message_done

pub returns-clause-answers : goal.returns-clause-answers
returns-clause-answers c = answered_done

pub returns-clause-calls : goal.returns-clause-calls
returns-clause-calls c = called_done

pub returns-clause-stops : goal.returns-clause-stops
returns-clause-stops c = stopped_done
