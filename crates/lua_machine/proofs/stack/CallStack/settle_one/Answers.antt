use Rattle.std.proofs.Common.{ℕ, List, [], ◌∷◌, ap, ◌∙◌, arith}
use Rattle.lua_steps.specs.Machine.{Frame}
use Rattle.lua_machine.specs.Nests.{frame_of}
use Rattle.lua_machine.proofs.StackLemmas.{entered_set}
use Rattle.lua_machine.proofs.stack.CallStack.settle_one.Goals as goal

pub returns-then-next-len : goal.returns-then-next-len
returns-then-next-len c =
    let d = c.self.inside.depth in
    let fs = c.self.inside.frames.items in
    let same = c.self.inside.frames.ok.0 in
    let was = c.args.self.now in
    entered_set d fs c.take.new.self was (omega arith) c.self.view_is
    ∙ ap (λ (x : Frame). record { top = x; below = was.top ∷ was.below }) c.in_ok-take.ensures
    ∙ ap (λ (ups : List ℕ). record { top = record (frame_of [] c.args.call) { ups = ups }; below = was.top ∷ was.below }) c.closure_cells-ups.ensures
