use Rattle.std.proofs.Common.{rules, ◌≡◌, ◌++◌, ◌∷◌, []}
use Rattle.launcher.specs.Rows.{entry}
use Rattle.launcher.proofs.Listed.{entry_by_handle}
use Rattle.launcher.proofs.services.entries_by_handle.Goals as goal

pub loop-handle-preserved : goal.loop-handle-preserved
loop-handle-preserved c =
    let h = c.in-Some.handle.now in
    let name = c.in-Some.name.now in
    let step : c.loop-handle.handle-iterator ≡ (h, name) ∷ c.next.new.self = search rules in
    let is : c.in_ok-entry.field-0 ≡ entry (record { handle = h; name = name }) = search rules in
    let more : c.push.new.self ≡ c.loop-handle.pairs ++ c.in_ok-entry.field-0 ∷ [] = search rules in
    entry_by_handle c.loop-handle.pairs c.push.new.self c.in_ok-entry.field-0 h name c.loop-handle.handle-iterator c.next.new.self _ step is more c.loop-handle.invariant
