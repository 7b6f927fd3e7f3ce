use Rattle.std.proofs.Common.{refl}
use Rattle.std.specs.Fmt.{digits}
use Rattle.std.specs.Int.{int_wrap}
use Rattle.lua_steps.proofs.law_worked_runs.Goals as goal

pub returns : goal.returns
unfolding int_wrap digits
returns c =
    record {
      operators_give = refl;
      integer_divides = refl;
      cells_are_shared = refl;
      loop_gives = refl;
      values_are_words = refl;
      step_is_refused = refl;
      lists_are_whole = refl;
      lists_are_filled = refl;
      iterator_gives = refl;
      strings_compare = refl;
      wrong_raises = refl;
      unmade_raises = refl;
      endless_stops = refl;
      call_is_paid = refl;
      closure_is_paid = refl;
      tail_leaves = refl;
      call_stays = refl;
    }
