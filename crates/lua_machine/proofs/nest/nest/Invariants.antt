use Rattle.std.proofs.Common.{◌≡◌}
use Rattle.lua_machine.specs.Nests.{Ready, Nested}
use Rattle.lua_machine.proofs.NestLemmas.{rank_of}
use Rattle.lua_machine.proofs.nest.nest.Given as goal

abbrev pub invariant-calls : goal.invariant-calls
invariant-calls l = record {
  ready : Ready l.code l.heap.closures l.calls l.row l.here.depth l.here.function l.here.closure l.here.base l.here.ops.now l.here.pace.at;
  ran : Nested l.code l.fn.heap.closures l.fn.calls l.fn.start.depth l.fn.row l.fn.heap.cells l.fn.start.pace l.calls l.here.depth l.row l.heap.cells l.here.pace;
  heap : l.heap ≡ record l.fn.heap { cells = l.heap.cells };
}

abbrev pub decreases-calls : goal.decreases-calls
decreases-calls l = rank_of l.code l.heap.closures l.calls l.here.depth l.row l.heap.cells l.here.pace
