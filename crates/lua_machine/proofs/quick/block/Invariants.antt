use Rattle.std.proofs.Common.{◌≡◌, ◌<◌, [], length}
use Rattle.lua_steps.specs.Measure.{total, rank}
use Rattle.lua_machine.specs.Nests.{own_in, ups_in}
use Rattle.lua_machine.specs.Quick.{around, in_hand, Ran}
use Rattle.lua_machine.proofs.QuickLemmas.{bare}
use Rattle.lua_machine.proofs.quick.block.Given as goal

abbrev pub invariant-quick : goal.invariant-quick
invariant-quick g l = record {
  place : l.pace.at < length l.ops;
  ran : Ran l.code l._function (own_in l.owner) (ups_in l.owner l.fn.heap.closures) l.fn.row l.fn.heap.cells l.fn.start l.row l.heap.cells l.pace;
  heap : l.heap ≡ record l.fn.heap { cells = l.heap.cells };
}

abbrev pub decreases-quick : goal.decreases-quick
decreases-quick g l = rank (total l.code) (in_hand (around l._function (own_in l.owner) (ups_in l.owner l.heap.closures) [] bare) l.row l.heap.cells l.pace)
