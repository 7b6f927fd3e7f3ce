use Rattle.std.proofs.Common.{◌≡◌, drop, map, option_map}
use Rattle.lua_tree.specs.View.{exp_of, exps_of, operand_of, operands_of, suffix_of, suffixes_of, stat_of, stats_of, branch_of, branches_of, else_of, block_of}
use Rattle.lua_compile.specs.Written.{ands_written, operands_written, suffixes_written, fixed_written, values_written, list_written, stats_written, stats_known, else_written}
use Rattle.lua_compile.proofs.+write.Given as goal

abbrev pub invariant-expression::write_ands-loop-i : goal.invariant-expression::write_ands-loop-i
invariant-expression::write_ands-loop-i l =
    ands_written (operands_of (map operand_of (drop l.i l.operations))) l.scope l.d l.aim l.w
    ≡ ands_written (operands_of (map operand_of l.operations)) l.scope l.d l.aim l.fn.w

abbrev pub invariant-expression::write_operations-loop-i : goal.invariant-expression::write_operations-loop-i
invariant-expression::write_operations-loop-i l =
    operands_written (operands_of (map operand_of (drop l.i l.operations))) l.scope l.d l.aim l.left l.w
    ≡ operands_written (operands_of (map operand_of l.operations)) l.scope l.d l.aim l.fn.base l.fn.w

abbrev pub invariant-expression::write_suffixes-loop-i : goal.invariant-expression::write_suffixes-loop-i
invariant-expression::write_suffixes-loop-i l =
    suffixes_written (suffixes_of (map suffix_of (drop l.i l.suffixes))) l.scope l.d l.want l.w
    ≡ suffixes_written (suffixes_of (map suffix_of l.suffixes)) l.scope l.d l.want l.fn.w

abbrev pub invariant-expression::write_fixed-loop-e : goal.invariant-expression::write_fixed-loop-e
invariant-expression::write_fixed-loop-e l =
    fixed_written (exps_of (map exp_of (drop l.e-index l.es))) l.scope l.to l.w ≡ fixed_written (exps_of (map exp_of l.es)) l.scope l.first l.fn.w

abbrev pub invariant-expression::write_values-loop-i : goal.invariant-expression::write_values-loop-i
invariant-expression::write_values-loop-i l =
    values_written (exps_of (map exp_of (drop l.i l.es))) l.left l.scope l.to l.w
    ≡ values_written (exps_of (map exp_of l.es)) l.count l.scope l.first l.fn.w

abbrev pub invariant-expression::write_list-loop-i : goal.invariant-expression::write_list-loop-i
invariant-expression::write_list-loop-i l =
    list_written (exps_of (map exp_of (drop l.i l.es))) l.scope l.d l.w ≡ list_written (exps_of (map exp_of l.es)) l.scope l.d l.fn.w

abbrev pub invariant-statement::write_stats-loop-stat : goal.invariant-statement::write_stats-loop-stat
invariant-statement::write_stats-loop-stat l =
    record {
      writer : stats_written (stats_of (map stat_of (drop l.stat-index l.stats))) l.scope l.left l.exit l.w ≡ stats_written (stats_of (map stat_of l.stats)) l.fn.scope l.paid l.exit l.fn.w;
      scope : stats_known (stats_of (map stat_of (drop l.stat-index l.stats))) l.scope l.left l.exit l.w ≡ stats_known (stats_of (map stat_of l.stats)) l.fn.scope l.paid l.exit l.fn.w;
    }

abbrev pub invariant-statement::write_branches-loop-i : goal.invariant-statement::write_branches-loop-i
invariant-statement::write_branches-loop-i l =
    record {
      writer : else_written (branches_of (map branch_of (drop l.i l.branches)) (else_of (option_map block_of l.other))) l.scope l.exit l.end l.w
          ≡ else_written (branches_of (map branch_of l.branches) (else_of (option_map block_of l.other))) l.fn.scope l.exit l.end l.fn.w;
      scope : l.scope ≡ l.fn.scope;
    }
