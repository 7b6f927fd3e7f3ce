use Rattle.std.proofs.Common.{refl}
use Rattle.std.specs.Fmt.{digits}
use Rattle.std.specs.Int.{int_wrap}
use Rattle.lua_meaning.proofs.law_worked_chunks.Goals as goal

pub returns : goal.returns
unfolding int_wrap digits
returns c =
    record {
      operators_give = refl;
      swap_gives = refl;
      twice_gives = refl;
      turns_are_fresh = refl;
      locals_are_shared = refl;
      lists_are_cut = refl;
      lists_are_filled = refl;
      nothing_wraps = refl;
      values_are_words = refl;
      loops_give = refl;
      iterator_gives = refl;
      links_give = refl;
      strings_give = refl;
      wrong_raises = refl;
      no_function_raises = refl;
      unmade_raises = refl;
      endless_stops = refl;
      tail_gives = refl;
      units_are_exact = refl;
      units_are_counted = refl;
    }
