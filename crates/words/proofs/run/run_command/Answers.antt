use Rattle.std.proofs.Common.{◌∙◌, codes}
use Rattle.std.proofs.lemmas.Result.{IfOk-weaker}
use Rattle.words.specs.Commands.{run_command}
use Rattle.words.proofs.CommandLemmas.{one_more, one_place_more}
use Rattle.words.proofs.run.run_command.Goals as goal

pub returns : goal.returns
unfolding run_command
returns c =
    let e0 = c.in_ok-folder.ensures ∙ one_place_more (codes "FOLDER") c.bare.ensures in
    let e1 = c.in_ok-workers.ensures ∙ one_more (codes "workers") e0 in
    let e2 = c.in_ok-start.ensures ∙ one_more (codes "start") e1 in
    let e3 = c.in_ok-ticks.ensures ∙ one_more (codes "ticks") e2 in
    let e4 = c.in_ok-budget.ensures ∙ one_more (codes "budget") e3 in
    let e5 = c.in_ok-heap.ensures ∙ one_more (codes "heap") e4 in
    let e6 = c.in_ok-events.ensures ∙ one_more (codes "events") e5 in
    IfOk-weaker c.with_option-7.result _ _ (λ m h. h ∙ one_more (codes "journal") e6) c.with_option-7.ensures
