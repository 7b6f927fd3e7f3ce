use Rattle.std.proofs.Common.{ℕ, ◌+◌, ◌≡◌, ◌∙◌, ap, arith}
use Rattle.lua_steps.specs.Moves.{slot}
use Rattle.lua_machine.proofs.LoopLemmas.{numeric_not}
use Rattle.lua_machine.proofs.state.State.begin_loop.Goals.{in_default-via-in-Int+in-Int+in_default, in_default-via-in-Int+in_default, in_default-via-in_default}
use Rattle.lua_machine.proofs.state.State.begin_loop.Goals as goal

pub returns-in_default : goal.returns-in_default
returns-in_default c =
    let here : c.args.operands.base + 0 ≡ c.args.operands.base = omega arith in
    let first : c.slot_after.result ≡ slot c.args.self.now c.args.operands.base = c.slot_after.ensures ∙ ap (λ (i : ℕ). slot c.args.self.now i) here in
    rw (numeric_not (slot c.args.self.now c.args.operands.base) (slot c.args.self.now (c.args.operands.base + 1)) (slot c.args.self.now (c.args.operands.base + 2)) c.args.line c.args.operands.pay c.args.operands.base c.args.operands.to c.args.self.now
    (λ i j k eu ev ew. elim c.in_default.branch [
      | in_default-via-in-Int+in-Int+in_default w ↦ w.in_default.not-Int-2 k (c.slot_after-3.ensures ∙ ew)
      | in_default-via-in-Int+in_default w ↦ w.in_default.not-Int-1 j (c.slot_after-2.ensures ∙ ev)
      | in_default-via-in_default w ↦ w.in_default.not-Int-0 i (first ∙ eu)
    ])) c.refuse.ensures
