use Rattle.std.proofs.Common.{ap, ◌∙◌}
use Rattle.lua_steps.specs.Machine.{Frame}
use Rattle.lua_machine.proofs.StackLemmas.{at_any}
use Rattle.lua_machine.proofs.StretchLemmas.{stretched_led}
use Rattle.lua_machine.proofs.stretch.hasten.Goals as goal

pub returns-clause-ran : goal.returns-clause-ran
returns-clause-ran c =
    let kept = c.index-frames-depth.is ∙ at_any c.args.depth c.args.frames.now _ c.requires.depth in
    let top = c.top.view_is ∙ kept in
    stretched_led _ _ _ _ _ _ _ _ _ _ _ _ _ c.block_at.ensures.led
    (ap (λ (x : Frame). x.function) top)
    (ap (λ (x : Frame). x.base) top)
    (ap (λ (x : Frame). x.cells) kept)
    (ap (λ (x : Frame). x.ups) kept)
