use Rattle.lua_code.proofs.Below.{ValidBelow}
use Rattle.lua_code.proofs.validity.all_valid.Given as goal

abbrev pub invariant-loop-place : goal.invariant-loop-place
invariant-loop-place l = ValidBelow l.code l.place
