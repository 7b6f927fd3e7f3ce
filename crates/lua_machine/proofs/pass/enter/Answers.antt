use Rattle.std.proofs.Common.{◌≡◌, ◌+◌, ◌<◌, List, ℕ, ◌∷◌, length, refl, ap, ◌∙◌, arith}
use Rattle.std.specs.Prelude.{slice_set}
use Rattle.std.proofs.lemmas.List.{length-set}
use Rattle.lua_steps.specs.Machine as steps
use Rattle.lua_steps.specs.Calls.{waiting}
use Rattle.lua_machine.specs.Stack.{Stacked, plain, stacked}
use Rattle.lua_machine.specs.Wants.{wanted_of}
use Rattle.lua_machine.proofs.StackLemmas.{reentered, unseen, at_any}
use Rattle.lua_machine.proofs.pass.enter.Goals as goal

pub returns-in_default : goal.returns-in_default
returns-in_default c = unseen c.args.depth c.args.frames.now c.reopen.new.self

pub returns : goal.returns
returns c =
    let d = c.args.depth in
    let fs = c.args.frames.now in
    let f = c.reopen.new.self in
    let w = c.wait_at.new.self in
    let s = stacked fs d in
    let opened = plain c.args.closure.now c.args.cells c.args.base in
    let within : d + 1 < length fs = omega arith in
    let long : length (slice_set fs (d + 1) f) ≡ length fs = length-set fs (d + 1) f in
    let there : d < length (slice_set fs (d + 1) f) = omega arith in
    let ran = at_any d (slice_set fs (d + 1) f) c.index-frames-depth.result there ∙ ap (λ (x : Stacked). x.top) (unseen d fs f) in
    let waits : w ≡ waiting (wanted_of c.args.wants) (record s.top { at = c.args.at }) = c.wait_at.ensures ∙ ap (λ (x : steps.Frame). waiting (wanted_of c.args.wants) (record x { at = c.args.at })) ran in
    let opens : f ≡ opened =
    c.in-Ok.ensures
    ∙ ap (λ (n : ℕ). plain (record { function = n; cells = c.cells.result.now }) c.args.cells c.args.base) c.function.ensures
    ∙ ap (λ (ns : List ℕ). plain (record { function = c.args.closure.now.function; cells = ns }) c.args.cells c.args.base) c.cells.ensures in
    let both : length (slice_set (slice_set fs (d + 1) f) d w) ≡ length fs = length-set (slice_set fs (d + 1) f) d w ∙ long in (
      reentered d fs f w s within refl
          ∙ ap (λ (x : steps.Frame). record { top = x; below = w ∷ s.below }) opens
          ∙ ap (λ (x : steps.Frame). record { top = opened; below = x ∷ s.below }) waits,
      omega arith,
    )
