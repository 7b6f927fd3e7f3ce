use Rattle.std.proofs.Common.{◌∙◌, ◌∷◌, ap, false}
use Rattle.std.specs.Fmt.{digits}
use Rattle.runner.proofs.LoggerLemmas.{padded-eight}
use Rattle.runner.proofs.logger.address.Goals as goal

pub returns : goal.returns
returns c =
    let told = rw (c.laid_out.ensures, c.in_radix.ensures) at c.in_ok-text.ensures.ok in
    told ∙ ap (λ text. 58 ∷ text) (padded-eight (digits 16 false c.args.handle.0))
