use Rattle.clap.specs.Words.{app_of, fault_of}
use Rattle.words.proofs.CommandLemmas.{faultless, faulty, simple_too}
use Rattle.words.proofs.command.taken.Goals as goal

pub returns-in-Ok-clause-taken : goal.returns-in-Ok-clause-taken
returns-in-Ok-clause-taken c = (
  faultless (fault_of (app_of c.args.command) _) (c.in-Ok.ensures.kinds c.requires),
  (c.in-Ok.ensures.matches (simple_too (app_of c.args.command) c.requires)).0,
)

pub returns-in-Err-clause-usage : goal.returns-in-Err-clause-usage
returns-in-Err-clause-usage c = λ usage.
    faulty (fault_of (app_of c.args.command) _) c.in-Err.error (c.in-Err.ensures.kinds c.requires) (c.words_fault.ensures (cc))
