use Rattle.std.proofs.Common.{◌≡◌, ◌+◌, take}
use Rattle.std.specs.List.{sum_by}
use Rattle.message.specs.Data.{capped, datum_weight}
use Rattle.message.proofs.datum.Datum.+weight.Given as goal

abbrev pub invariant-loop-pair : goal.invariant-loop-pair
invariant-loop-pair l = l.total ≡ capped (16 + sum_by (λ p. datum_weight p.0 + datum_weight p.1) (take l.pair-index l.pair-items))
