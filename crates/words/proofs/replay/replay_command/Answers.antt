use Rattle.std.proofs.Common.{◌∙◌, codes}
use Rattle.std.proofs.lemmas.Result.{IfOk-weaker}
use Rattle.words.specs.Commands.{replay_command}
use Rattle.words.proofs.CommandLemmas.{one_more, one_place_more}
use Rattle.words.proofs.replay.replay_command.Goals as goal

pub returns : goal.returns
unfolding replay_command
returns c =
    let e0 = c.in_ok-folder.ensures ∙ one_place_more (codes "FOLDER") c.bare.ensures in
    let e1 = c.in_ok-journal.ensures ∙ one_place_more (codes "JOURNAL") e0 in
    let e2 = c.in_ok-start.ensures ∙ one_more (codes "start") e1 in
    let e3 = c.in_ok-budget.ensures ∙ one_more (codes "budget") e2 in
    IfOk-weaker c.with_option-3.result _ _ (λ m h. h ∙ one_more (codes "heap") e3) c.with_option-3.ensures
