use Rattle.std.proofs.Common.{ap, sym, ◌∙◌}
use Rattle.std.proofs.Common.{rules, ◌≡◌, List, ℕ, ◌+◌, ◌-◌, ◌*◌, ◌<◌, ◌≤◌, length, ◌/◌, ◌%◌, Bool, true, false, nat_eq, nat_lt, [], ◌∷◌, ◌++◌, slice_index_or, slice_set, bit_and, bit_or, Fits, w8, w32, w64, Bor, MutBor}
use Rattle.lua_model.specs.Operators.{length_of, unary}
use Rattle.lua_operators.specs.Answers.{told}
use Rattle.lua_operators.proofs.one_operand.unary.Goals as goal

-- src/one_operand.rt:39:1
pub returns-in-Minus : goal.returns-in-Minus
returns-in-Minus c = c.minus.ensures c.args.heap.now.shared.texts ∙ ap (λ o. unary c.args.heap.now.shared.texts o c.args.value) (sym c.in-Minus.is)

-- src/one_operand.rt:39:1
pub returns-in-BitNot : goal.returns-in-BitNot
returns-in-BitNot c = c.bit_not.ensures c.args.heap.now.shared.texts ∙ ap (λ o. unary c.args.heap.now.shared.texts o c.args.value) (sym c.in-BitNot.is)
