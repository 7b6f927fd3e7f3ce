use Rattle.std.proofs.Common.{ap, ◌∙◌, List, get_or, length, arith}
use Rattle.lua_code.specs.declared.op.Op.{Op}
use Rattle.lua_code.specs.declared.op.Op.TheVariants as op
use Rattle.lua_compile.specs.Writer.{placed}
use Rattle.lua_compile.proofs.TreeLemmas.{placed_next}
use Rattle.lua_compile.proofs.label.place_all.Goals as goal

pub loop-at-preserved : goal.loop-at-preserved
loop-at-preserved c =
    c.set_op.ensures
    ∙ placed_next c.args.labels.now c.args.function.now c.loop-at.function c.loop-at.at c.placed-op.result (op.Nil 0) c.loop-at.invariant
    (omega (arith, ap length c.ops-at-end.ensures))
    (c.placed-op.ensures ∙ ap (λ (os : List Op). placed c.args.labels.now (get_or os c.loop-at.at (op.Nil 0))) c.ops.ensures)
