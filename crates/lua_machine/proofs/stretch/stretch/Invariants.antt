use Rattle.std.proofs.Common.{◌≡◌, ◌<◌, length}
use Rattle.lua_steps.specs.Measure.{total, rank}
use Rattle.lua_machine.specs.Stack.{stacked}
use Rattle.lua_machine.specs.Stretch.{at_work, Stretched}
use Rattle.lua_machine.proofs.StretchLemmas.{holding}
use Rattle.lua_machine.proofs.stretch.stretch.Given as goal

abbrev pub invariant-frames : goal.invariant-frames
invariant-frames l = record {
  within : l.here.depth < length l.frames;
  inner : l.here.inner ≡ 0;
  ran : Stretched l.code l.fn.heap.closures (stacked l.fn.frames l.depth) l.fn.row l.fn.heap.cells l.fn.start (stacked l.frames l.here.depth) l.row l.heap.cells l.here.pace;
  heap : l.heap ≡ record l.fn.heap { cells = l.heap.cells };
}

abbrev pub decreases-frames : goal.decreases-frames
decreases-frames l = rank (total l.code) (at_work (stacked l.frames l.here.depth) l.row l.heap.cells l.here.pace (holding l.heap.closures))
