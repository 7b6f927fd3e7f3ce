use Rattle.std.proofs.Common.{ap, ◌∙◌}
use Rattle.std.specs.Prelude.{slice_set}
use Rattle.lua_steps.specs.Machine.{Frame}
use Rattle.lua_machine.specs.Stack.{stacked, under}
use Rattle.lua_machine.specs.Wants.{wanted_of}
use Rattle.lua_machine.proofs.StackLemmas.{stacked_set, at_any}
use Rattle.lua_machine.proofs.SettleLemmas.{kept_frame, kept_call}
use Rattle.lua_machine.proofs.stack.keep_place.Goals as goal

pub returns-then-halt-eq0 : goal.returns-then-halt-eq0
returns-then-halt-eq0 c =
    let fs = c.args.frames.now in
    let d = c.args.halt.depth in
    let at = c.args.halt.pace.at in
    let top = c.top.inside in
    let w : Frame = record { function = top.function; at = at; base = top.base; cells = top.cells.items; ups = top.ups.items; dots = top.dots; lists = top.lists.items; wants = wanted_of top.wants } in
    kept_frame c.args.halt.inner at c.args.calls.now (stacked fs d) (stacked (slice_set fs d w) d) c.if-halt-eq0.true
    (stacked_set d fs w c.requires.depth ∙ ap (λ (x : Frame). record { top = record x { at = at }; below = under d fs }) (c.top.view_is ∙ at_any d fs _ c.requires.depth))

pub returns : goal.returns
returns c = kept_call c.args.halt.inner c.args.halt.pace.at c.args.calls.now _ (stacked c.args.frames.now c.args.halt.depth) c.if-halt-eq0.false c.requires.inner
