use Rattle.std.proofs.Common.{sym, ◌∙◌, ◌++◌}
use Rattle.launcher.specs.Listed.{pending_in}
use Rattle.launcher.proofs.Holding.{found_is_held, held_is_found}
use Rattle.launcher.proofs.requests.is_held.Goals as goal

pub returns : goal.returns
returns c =
    let all = pending_in c.args.pending.now.entries ++ c.args.others.now in (
      λ t. found_is_held c.args.source c.args.session all (sym c.any_held.ensures ∙ t),
      λ h. c.any_held.ensures ∙ held_is_found c.args.source c.args.session all h,
    )
