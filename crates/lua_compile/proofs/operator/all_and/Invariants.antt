use Rattle.std.proofs.Common.{◌≡◌, drop, map}
use Rattle.lua_tree.specs.View.{operand_of, operands_of}
use Rattle.lua_compile.specs.Forms.{all_and}
use Rattle.lua_compile.proofs.operator.all_and.Given as goal

abbrev pub invariant-loop-operation : goal.invariant-loop-operation
invariant-loop-operation l =
    all_and (operands_of (map operand_of (drop l.operation-index l.operations))) ≡ all_and (operands_of (map operand_of l.operations))
