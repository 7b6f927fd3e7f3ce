use Rattle.std.proofs.Common.{◌∙◌, sym}
use Rattle.clap.specs.Words.{found_of}
use Rattle.clap.proofs.WalkLemmas.{first_value-rows}
use Rattle.words.proofs.run.run_words.Goals as goal

pub returns-clause-some : goal.returns-clause-some
returns-clause-some c = record {
  folder_is = c.text_or.ensures;
  start_is = c.text_or-2.ensures;
  workers_are = sym c.in_ok-workers.ensures.number;
  ticks_are = sym c.in_ok-ticks.ensures.number;
  limits_are = c.in_ok-limits.ensures.some;
  journal_is = c.get_str.ensures ∙ first_value-rows (found_of c.args.matches.now) _;
}
