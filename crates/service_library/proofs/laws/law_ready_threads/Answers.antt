use Rattle.service_library.proofs.Ready.{called_fits}
use Rattle.service_library.proofs.laws.law_ready_threads.Goals as goal

pub returns : goal.returns
returns c = called_fits
