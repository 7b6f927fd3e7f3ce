use Rattle.std.proofs.Common.{ℕ, ◌<◌, length, refl, ap, ◌∙◌, subst}
use Rattle.lua_machine.specs.Stack.{Stacked}
use Rattle.lua_machine.proofs.StackLemmas.{stacked_set, at_any}
use Rattle.lua_machine.proofs.stack.CallStack.top_mut.Goals as goal

pub returns : goal.returns
returns c =
    let d = c.self.inside.depth in
    let fs = c.self.inside.frames.items in
    let within : d < length fs = subst (λ (n : ℕ). d < n) c.self.inside.frames.ok.0 c.self.invariant in (
      (refl, λ w. stacked_set d fs w within ∙ ap (λ (s : Stacked). record { top = w; below = s.below }) c.self.view_is),
      record {
        lends = tt;
        value = c.index_mut.ensures.value ∙ at_any d fs _ within ∙ ap (λ (s : Stacked). s.top) c.self.view_is;
      },
    )
