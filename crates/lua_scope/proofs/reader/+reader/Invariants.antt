use Rattle.std.proofs.Common.{◌≡◌, drop, map}
use Rattle.lua_tree.specs.View.{exp_of, exps_of, operand_of, operands_of, suffix_of, suffixes_of, field_of, fields_of, stat_of, stats_of, target_of, targets_of, branch_of}
use Rattle.lua_scope.specs.Walk.{exps_read, operands_read, suffixes_read, fields_read, stats_read, targets_read}
use Rattle.lua_scope.specs.Branches.{guarded_read}
use Rattle.lua_scope.proofs.reader.+reader.Given as goal

abbrev pub invariant-read_exps-loop-e : goal.invariant-read_exps-loop-e
invariant-read_exps-loop-e l = exps_read (exps_of (map exp_of (drop l.e-index l.es))) l.walk ≡ exps_read (exps_of (map exp_of l.es)) l.fn.walk

abbrev pub invariant-read_operands-loop-o : goal.invariant-read_operands-loop-o
invariant-read_operands-loop-o l = operands_read (operands_of (map operand_of (drop l.o-index l.os))) l.walk ≡ operands_read (operands_of (map operand_of l.os)) l.fn.walk

abbrev pub invariant-read_suffixes-loop-suffix : goal.invariant-read_suffixes-loop-suffix
invariant-read_suffixes-loop-suffix l = suffixes_read (suffixes_of (map suffix_of (drop l.suffix-index l.suffixes))) l.walk ≡ suffixes_read (suffixes_of (map suffix_of l.suffixes)) l.fn.walk

abbrev pub invariant-read_fields-loop-field : goal.invariant-read_fields-loop-field
invariant-read_fields-loop-field l = fields_read (fields_of (map field_of (drop l.field-index l.fields))) l.walk ≡ fields_read (fields_of (map field_of l.fields)) l.fn.walk

abbrev pub invariant-read_stats-loop-stat : goal.invariant-read_stats-loop-stat
invariant-read_stats-loop-stat l = stats_read (stats_of (map stat_of (drop l.stat-index l.stats))) l.walk ≡ stats_read (stats_of (map stat_of l.stats)) l.fn.walk

abbrev pub invariant-read_targets-loop-target : goal.invariant-read_targets-loop-target
invariant-read_targets-loop-target l = targets_read (targets_of (map target_of (drop l.target-index l.targets))) l.walk ≡ targets_read (targets_of (map target_of l.targets)) l.fn.walk

abbrev pub invariant-read_branches-loop-branch : goal.invariant-read_branches-loop-branch
invariant-read_branches-loop-branch l = guarded_read (map branch_of (drop l.branch-index l.branches)) l.walk ≡ guarded_read (map branch_of l.branches) l.fn.walk
