use Rattle.std.proofs.Common.{◌∙◌, ap, sym, List}
use Rattle.std.proofs.Math.Path.{subst}
use Rattle.clap.specs.Words.{Row, is_simple_and_free}
use Rattle.words.specs.Forms.{ReplaySays, are_replay_numbers}
use Rattle.words.proofs.CommandLemmas.{replay_is_simple, both_true, second_false, taken_by}
use Rattle.words.proofs.replay.read_replay.Goals as goal

pub taken-requires : goal.taken-requires
taken-requires c = ap is_simple_and_free c.in_ok-command.ensures ∙ replay_is_simple

pub returns-in-Some-clause-says : goal.returns-in-Some-clause-says
returns-in-Some-clause-says c =
    let taken = taken_by _ _ c.in_ok-command.ensures c.in_ok-matches.ensures.taken in
    subst (λ (rows : List Row). ReplaySays rows c.in-Some.said) taken.1 c.in-Some.ensures.some

pub returns-in-Some-clause-form : goal.returns-in-Some-clause-form
returns-in-Some-clause-form c =
    let taken = taken_by _ _ c.in_ok-command.ensures c.in_ok-matches.ensures.taken in
    both_true _ _ taken.0 (sym (c.in-Some.ensures.test ∙ ap are_replay_numbers taken.1))

pub returns-clause-usage : goal.returns-clause-usage
returns-clause-usage c =
    let taken = taken_by _ _ c.in_ok-command.ensures c.in_ok-matches.ensures.taken in
    λ _. second_false _ _ (sym (c.in-None.ensures.test ∙ ap are_replay_numbers taken.1))
