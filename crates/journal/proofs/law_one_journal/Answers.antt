use Rattle.journal.proofs.Spellings.{one_journal}
use Rattle.journal.proofs.law_one_journal.Goals as goal

pub returns : goal.returns
returns c = one_journal
