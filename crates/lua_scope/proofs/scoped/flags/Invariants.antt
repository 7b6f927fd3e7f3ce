use Rattle.lua_scope.proofs.FlagLemmas.{Marks}
use Rattle.lua_scope.proofs.scoped.flags.Given as goal

abbrev pub invariant-loop-usage : goal.invariant-loop-usage
invariant-loop-usage l = Marks l.uses l.locals l.usage-index l.marks
