use Rattle.std.proofs.Common.{◌≡◌, ◌+◌, ◌++◌, map, take}
use Rattle.stamp_order.proofs.merging.add_agents.Given as goal

abbrev pub invariant-loop-key : goal.invariant-loop-key
invariant-loop-key l = (l.out.agents ≡ l.fn.out.agents ++ map (λ k. k.1) (take l.key-index l.keys)) × (l.out.room + l.key-index ≡ l.fn.out.room)
