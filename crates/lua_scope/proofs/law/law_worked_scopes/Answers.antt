use Rattle.std.proofs.Common.{refl}
use Rattle.lua_scope.proofs.law.law_worked_scopes.Goals as goal

pub returns : goal.returns
returns c =
    record {
      begins_after = refl;
      ends_with_block = refl;
      until_sees = refl;
      body_sees = refl;
      function_sees = refl;
      local_does_not = refl;
      outer_before_global = refl;
    }
