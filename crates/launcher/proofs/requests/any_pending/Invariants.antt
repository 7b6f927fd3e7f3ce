use Rattle.std.proofs.Common.{◌≡◌}
use Rattle.std.specs.List.{list_any}
use Rattle.launcher.specs.Rows.{is_held_as}
use Rattle.launcher.specs.Listed.{pending_in}
use Rattle.launcher.proofs.requests.any_pending.Given as goal

abbrev pub invariant-loop-handle : goal.invariant-loop-handle
invariant-loop-handle l = list_any (λ x. is_held_as l.source l.session x.held) (pending_in l._handle-iterator) ≡ list_any (λ x. is_held_as l.source l.session x.held) (pending_in l.pending.entries)
