use Rattle.std.proofs.Common.{ap, sym, ◌∙◌, drop}
use Rattle.lua_compile.proofs.LoopLemmas.{on_ok, ands_next, operations_next, one_left, list_next, values_next, pushed, function_is, unary_is, block_returns, generic_is, local_function_is}
use Rattle.lua_compile.proofs.StatLemmas.{repeat_is, if_is, numeric_for_is, local_function_made}
use Rattle.std.specs.Prelude.{Some}
use Rattle.lua_tree.specs.declared.tree.Expr.{Expr}
use Rattle.lua_tree.specs.declared.tree.Stat.TheVariants as stat
use Rattle.lua_tree.specs.View.{body_of}
use Rattle.lua_compile.specs.Writer.{resumed}
use Rattle.lua_compile.specs.Written.{body_written}
use Rattle.lua_steps.specs.Serves.{following}
use Rattle.lua_tree.specs.View.{stat_of}
use Rattle.lua_compile.specs.Written.{stat_written}
use Rattle.std.proofs.Common.{◌+◌, map, ◌-◌, length, List}
use Rattle.lua_tree.specs.View.{exp_of, exps_of}
use Rattle.lua_compile.specs.Parts.{repeat_written}
use Rattle.lua_compile.specs.Written.{exp_written, values_written, list_written}
use Rattle.lua_compile.proofs.+write.Goals as goal

-- src/expression.rt:26:1
pub expression::write_exp-returns-in_ok-put-in-Function :
    goal.expression::write_exp-returns-in_ok-put-in-Function
expression::write_exp-returns-in_ok-put-in-Function t c =
    on_ok c.settle-in-Function.result
    (λ is. is ∙ function_is c.in-Function.body c.args.aim c.register-to.result c.args.d c.in_ok-function-in-Function.function c.args.scope.now c.put-in-Function.new.self c.write_function.new.w c.args.w.now c.register-to.ensures (c.in_ok-function-in-Function.ensures.function ∙ ap (λ b. length (body_written (body_of b) c.args.scope.now.names c.args.w.now).made) c.get.ensures) (c.in_ok-function-in-Function.ensures.writer ∙ ap (λ b. resumed (body_written (body_of b) c.args.scope.now.names c.args.w.now) c.args.w.now) c.get.ensures) c.in_ok-put-in-Function.ensures
    ∙ ap (λ e. exp_written (exp_of e) c.args.scope.now c.args.d c.args.aim c.args.w.now) (sym c.in-Function.is))
    c.settle-in-Function.ensures

-- src/expression.rt:26:1
pub expression::write_exp-returns-in_ok-write_exp-in-Unary :
    goal.expression::write_exp-returns-in_ok-write_exp-in-Unary
expression::write_exp-returns-in_ok-write_exp-in-Unary t c =
    on_ok c.write_unary_of.result
    (λ is. is ∙ unary_is c.in-Unary.op c.unary_of.result c.in-Unary.line c.args.d c.in-Unary.inner c.get-in-Unary.result.now c.get-in-Unary-2.result.now c.args.aim c.args.scope.now c.shown-operand.result c.write_exp-in-Unary.new.w c.args.w.now c.unary_of.ensures c.get-in-Unary.ensures c.get-in-Unary-2.ensures c.shown-operand.ensures c.in_ok-write_exp-in-Unary.ensures
    ∙ ap (λ e. exp_written (exp_of e) c.args.scope.now c.args.d c.args.aim c.args.w.now) (sym c.in-Unary.is))
    c.write_unary_of.ensures

-- src/expression.rt:342:13
pub expression::write_list-returns-then-i-es : goal.expression::write_list-returns-then-i-es
expression::write_list-returns-then-i-es t c =
    on_ok c.write_last_item.result
    (λ is. is ∙ ap (λ xs. list_written (exps_of (map exp_of xs)) c.args.scope.now c.args.d c.loop-i.w) (sym (one_left c.args.es.now c.loop-i.i c.index-es-i.result c.if-i-es.true c.index-es-i.is)) ∙ c.loop-i.invariant)
    c.write_last_item.ensures

-- src/expression.rt:340:5
pub expression::write_list-loop-i-preserved : goal.expression::write_list-loop-i-preserved
expression::write_list-loop-i-preserved t c =
    ap (λ v. list_written (exps_of (map exp_of (drop (c.loop-i.i + 1) c.args.es.now))) c.args.scope.now c.args.d v) (c.in_ok-push_shown.ensures ∙ pushed c.shown.result _ c.write_exp.new.w _ c.shown.ensures c.in_ok-write_exp.ensures)
    ∙ sym (list_next c.args.es.now c.loop-i.i c.index-es-i.result c.args.scope.now c.args.d c.loop-i.w c.loop-i-test.true c.if-i-es.false c.index-es-i.is)
    ∙ c.loop-i.invariant

-- src/expression.rt:128:5
pub expression::write_ands-loop-i-preserved : goal.expression::write_ands-loop-i-preserved
expression::write_ands-loop-i-preserved t c =
    ands_next c.args.operations.now c.loop-i.i c.index-operations-i.result c.args.scope.now c.args.d c.args.aim c.and_aim-each.result c.loop-i.w c.write_exp.new.w c.loop-i-test.true c.index-operations-i.is c.and_aim-each.ensures c.in_ok-write_exp.ensures
    ∙ c.loop-i.invariant

-- src/expression.rt:148:5
pub expression::write_operations-loop-i-preserved :
    goal.expression::write_operations-loop-i-preserved
expression::write_operations-loop-i-preserved t c =
    operations_next c.args.operations.now c.loop-i.i c.index-operations-i.result c.args.scope.now c.args.d c.args.aim c.loop-i.left c.in_ok-left.left c.loop-i.w c.write_operation.new.w c.loop-i-test.true c.index-operations-i.is c.in_ok-left.ensures
    ∙ c.loop-i.invariant

-- src/expression.rt:292:13
pub expression::write_values-returns-then-i-es : goal.expression::write_values-returns-then-i-es
expression::write_values-returns-then-i-es t c =
    on_ok c.write_last_value.result
    (λ is. is ∙ ap (λ xs. values_written (exps_of (map exp_of xs)) c.loop-i.left c.args.scope.now c.loop-i.to c.loop-i.w) (sym (one_left c.args.es.now c.loop-i.i c.index-es-i.result c.if-i-es.true c.index-es-i.is)) ∙ c.loop-i.invariant)
    c.write_last_value.ensures

-- src/expression.rt:290:5
pub expression::write_values-loop-i-preserved : goal.expression::write_values-loop-i-preserved
expression::write_values-loop-i-preserved t c =
    ap (λ n. values_written (exps_of (map exp_of (drop (c.loop-i.i + 1) c.args.es.now))) n c.args.scope.now c.in_ok-to.to c.write_exp.new.w) c.saturating_sub-left.ensures
    ∙ ap (λ r. values_written (exps_of (map exp_of (drop (c.loop-i.i + 1) c.args.es.now))) (c.loop-i.left - 1) c.args.scope.now r c.write_exp.new.w) c.in_ok-to.ensures
    ∙ ap (λ v. values_written (exps_of (map exp_of (drop (c.loop-i.i + 1) c.args.es.now))) (c.loop-i.left - 1) c.args.scope.now (following c.loop-i.left c.loop-i.to) v) c.in_ok-write_exp.ensures
    ∙ sym (values_next c.args.es.now c.loop-i.i c.index-es-i.result c.loop-i.left c.args.scope.now c.loop-i.to c.loop-i.w c.loop-i-test.true c.if-i-es.false c.index-es-i.is)
    ∙ c.loop-i.invariant

-- src/statement.rt:91:1
pub statement::write_block-returns-in-Some-clause-writer :
    goal.statement::write_block-returns-in-Some-clause-writer
statement::write_block-returns-in-Some-clause-writer t c =
    on_ok c.write_return.result
    (λ is. is ∙ block_returns c.args.block.now c.as_slice.result.now c.as_slice-in-Some.result.now c.args.scope.now c.write_stats.new.scope c.args.paid c.args.exit c.args.w.now c.write_stats.new.w c.as_slice.ensures (c.in-Some.is ∙ ap (λ (xs : List Expr). Some xs) (sym c.as_slice-in-Some.ensures)) c.in_ok-write_stats.ensures.scope c.in_ok-write_stats.ensures.writer)
    c.write_return.ensures

-- src/statement.rt:429:1
pub statement::write_generic-returns-clause-writer :
    goal.statement::write_generic-returns-clause-writer
statement::write_generic-returns-clause-writer t c =
    on_ok c.write_generic_loop.result
    (λ is. is ∙ generic_is c.args.generic.now c.as_slice-2.result.now c.as_slice.result.now c.args.scope.now c.args.paid c.free.result c.args.w.now c.tick.new.self c.write_values.new.w c.as_slice-2.ensures c.as_slice.ensures c.free.ensures c.in_ok-tick.ensures c.in_ok-write_values.ensures)
    c.write_generic_loop.ensures.writer

-- src/statement.rt:501:1
pub statement::write_local_function-returns-clause-writer :
    goal.statement::write_local_function-returns-clause-writer
statement::write_local_function-returns-clause-writer t c =
    on_ok c.put.result
    (λ is. local_function_made c.args.name.now (body_of c.args.body.now) c.args.scope.now c.know_function.new.scope c.args.paid c.cells-cells.result c.free-free.result c.in_ok-function.function c.is_shared-shared.result c.close_op.result c.args.w.now c.tick.new.self c.count_local.new.self c.write_function.new.w c.put.new.self c.in_ok-tick.ensures c.is_shared-shared.ensures c.cells-cells.ensures c.free-free.ensures c.in_ok-know_function.ensures c.in_ok-count_local.ensures c.in_ok-function.ensures.function c.in_ok-function.ensures.writer c.close_op.ensures is)
    c.put.ensures

-- src/statement.rt:371:1
pub statement::write_numeric-returns-clause-writer :
    goal.statement::write_numeric-returns-clause-writer
statement::write_numeric-returns-clause-writer t c =
    on_ok c.write_numeric_loop.result
    (λ is. is ∙ numeric_for_is c.args.numeric.now c.args.scope.now c.args.paid c.free-first.result c.in_ok-limit.limit c.in_ok-step.step c.args.w.now c.tick.new.self c.write_exp.new.w c.write_exp-2.new.w c.write_step.new.w c.free-first.ensures c.in_ok-limit.ensures c.in_ok-step.ensures c.in_ok-tick.ensures c.in_ok-write_exp.ensures c.in_ok-write_exp-2.ensures c.in_ok-write_step.ensures)
    c.write_numeric_loop.ensures.writer

-- src/statement.rt:296:1
pub statement::write_repeat-returns-clause-writer :
    goal.statement::write_repeat-returns-clause-writer
statement::write_repeat-returns-clause-writer t c =
    c.place_here-3.ensures
    ∙ repeat_is c.in-Repeat.block c.in-Repeat.condition c.args.scope.now c.write_block.new.scope c.args.paid c.prepay-more.result c.free.result c.in_ok-after.after c.in_ok-after.again c.in_ok-after.body c.args.w.now c.tick_twice.new.self c.three_labels.new.self c.place_here.new.self c.write_block.new.w c.write_exp.new.w c.put.new.self c.place_here-2.new.self c.put-2.new.self c.prepay-more.ensures.paid c.in_ok-tick_twice.ensures c.in_ok-after.ensures.labels.0 c.in_ok-after.ensures.labels.1 c.in_ok-after.ensures.labels.2 c.in_ok-after.ensures.writer c.place_here.ensures c.in_ok-write_block.ensures.writer c.in_ok-write_block.ensures.scope c.free.ensures c.in_ok-write_exp.ensures c.in_ok-put.ensures c.place_here-2.ensures c.in_ok-put-2.ensures
    ∙ ap (λ s. repeat_written (stat_of s) c.args.scope.now c.args.paid c.args.w.now) (sym c.in-Repeat.is)

-- src/statement.rt:148:1
pub statement::write_stat-returns-in_ok-write_else-in-If-clause-writer :
    goal.statement::write_stat-returns-in_ok-write_else-in-If-clause-writer
statement::write_stat-returns-in_ok-write_else-in-If-clause-writer t c =
    c.place_here.ensures
    ∙ if_is c.as_slice-branches.result.now c.in-If.other c.args.scope.now c.write_branches.new.scope c.args.paid c.in_ok-end-in-If.end c.args.exit c.args.w.now c.tick-in-If.new.self c.new_label.new.self c.write_branches.new.w c.write_else.new.w c.if-branches-eq0.false c.in_ok-tick-in-If.ensures c.in_ok-end-in-If.ensures.label c.in_ok-end-in-If.ensures.writer c.in_ok-write_branches-in-If.ensures.writer c.in_ok-write_branches-in-If.ensures.scope (c.in_ok-write_else-in-If.ensures.writer c.in_ok-end-in-If.end)
    ∙ ap (λ bs. stat_written (stat_of (stat.If bs c.in-If.other)) c.args.scope.now c.args.paid c.args.exit c.args.w.now) c.as_slice-branches.ensures
    ∙ ap (λ s. stat_written (stat_of s) c.args.scope.now c.args.paid c.args.exit c.args.w.now) (sym c.in-If.is)

-- src/statement.rt:148:1
pub statement::write_stat-returns-in-LocalFunction-clause-writer :
    goal.statement::write_stat-returns-in-LocalFunction-clause-writer
statement::write_stat-returns-in-LocalFunction-clause-writer t c =
    on_ok c.write_local_function.result
    (λ is. is ∙ local_function_is c.in-LocalFunction.name c.in-LocalFunction.body c.args.scope.now c.args.paid c.args.exit c.args.w.now
    ∙ ap (λ s. stat_written (stat_of s) c.args.scope.now c.args.paid c.args.exit c.args.w.now) (sym c.in-LocalFunction.is))
    c.write_local_function.ensures.writer
