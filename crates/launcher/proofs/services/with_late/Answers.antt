use Rattle.std.proofs.Common.{rules, ◌≡◌, ◌<◌, ◌++◌, ◌∷◌, [], length, get_or}
use Rattle.launcher.specs.Rows.{entry}
use Rattle.launcher.proofs.Listed.{entry_late}
use Rattle.launcher.proofs.services.with_late.Goals as goal

pub loop-service-preserved : goal.loop-service-preserved
loop-service-preserved c =
    let late = c.args.late.now in
    let i = c.loop-service.service-index in
    let s = c.service-item.result in
    let within : i < length late = search rules in
    let at : s ≡ get_or late i s = search rules in
    let is : c.in_ok-entry.field-0 ≡ entry s = search rules in
    let more : c.push.new.self ≡ c.loop-service.pairs ++ c.in_ok-entry.field-0 ∷ [] = search rules in
    entry_late c.args.pairs c.loop-service.pairs c.push.new.self c.in_ok-entry.field-0 late i s within at is more c.loop-service.invariant
