use Rattle.std.proofs.Common.{ℕ, ◌<◌, List, length, drop, sym, ap, ◌∙◌, subst}
use Rattle.lua_steps.specs.Machine.{Frame}
use Rattle.lua_machine.specs.Nests.{over}
use Rattle.lua_machine.specs.Stack.{stacked}
use Rattle.lua_machine.proofs.StackLemmas.{at_any}
use Rattle.lua_machine.proofs.QuickLemmas.{taken_all}
use Rattle.lua_machine.proofs.StretchLemmas.{hurried_by}
use Rattle.lua_machine.proofs.stack.CallStack.hurry.Goals as goal

pub returns-clause-ran : goal.returns-clause-ran
returns-clause-ran c =
    let cs = c.args.heap.now.closures in
    let fs = c.as_mut_slice-frames.result.now in
    let d = c.self.inside.depth in
    let xs = c.keep_place.new.frames in
    let calls = c.keep_place.new.calls in
    let halt = c.stretch-halt.result in
    let items = c.as_mut_slice-frames.ensures.value in
    let there : d < length fs = subst (λ (ys : List Frame). d < length ys) (sym items) (subst (λ (n : ℕ). d < n) c.self.inside.frames.ok.0 c.self.invariant) in
    let same_at = ap (λ (x : Frame). x.at) (c.top.view_is ∙ at_any d fs _ there) in
    let long = c.keep_place.auto.frames ∙ c.stretch-halt.auto.frames ∙ c.as_mut_slice-frames.ensures.len in
    hurried_by _ _ _ _ _ _ _ _ _ _ _ _ _ c.stretch-halt.ensures.ran (ap (λ (ys : List Frame). stacked ys d) items ∙ c.self.view_is) same_at
    (ap (λ (ys : List Frame). over cs calls halt.inner (stacked ys halt.depth)) (taken_all c.self.inside.frames.len xs (drop (length xs) c.self.inside.frames.items) long)
    ∙ c.keep_place.ensures.is cs)
