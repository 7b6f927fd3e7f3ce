use Rattle.service_library.proofs.Together.{puts, called_orderly, stopped_orderly}
use Rattle.service_library.proofs.laws.law_requests_stand_together.Goals as goal

pub returns-clause-puts : goal.returns-clause-puts
returns-clause-puts c = puts

pub returns-clause-calls : goal.returns-clause-calls
returns-clause-calls c = called_orderly

pub returns-clause-stops : goal.returns-clause-stops
returns-clause-stops c = stopped_orderly
