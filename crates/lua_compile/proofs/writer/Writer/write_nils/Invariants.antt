use Rattle.std.proofs.Common.{◌≡◌}
use Rattle.lua_compile.specs.Forms.{nils_written}
use Rattle.lua_compile.proofs.writer.Writer.write_nils.Given as goal

abbrev pub invariant-loop-left : goal.invariant-loop-left
invariant-loop-left l = nils_written l.to l.left l.self ≡ nils_written l.from l.count l.fn.self

abbrev pub decreases-loop-left : goal.decreases-loop-left
decreases-loop-left l = l.left
