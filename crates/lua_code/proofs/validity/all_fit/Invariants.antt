use Rattle.lua_code.proofs.Below.{FitBelow}
use Rattle.lua_code.proofs.validity.all_fit.Given as goal

abbrev pub invariant-loop-at : goal.invariant-loop-at
invariant-loop-at l = FitBelow l.code l.f l.at
