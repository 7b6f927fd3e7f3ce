use Rattle.std.proofs.Common.{refl}
use Rattle.std.specs.Fmt.{digits}
use Rattle.std.specs.Int.{int_wrap}
use Rattle.lua_compile.proofs.law.law_worked_chunks.Goals as goal

pub returns : goal.returns
unfolding int_wrap digits
returns c =
    record {
      operators_give = refl;
      swap_gives = refl;
      twice_gives = refl;
      turns_are_fresh = refl;
      locals_are_shared = refl;
      lists_are_cut = refl;
      lists_are_filled = refl;
      nothing_wraps = refl;
      loops_give = refl;
      iterator_gives = refl;
      links_give = refl;
      strings_give = refl;
      wrong_raises = refl;
      no_function_raises = refl;
      endless_stops = refl;
      tail_gives = refl;
      units_are_exact = refl;
      units_are_counted = refl;
      cells_are_shared = refl;
      cells_are_fresh = refl;
      cells_swap = refl;
      loops_by_cells = refl;
      iterator_by_cells = refl;
      targets_in_slots = refl;
      targets_by_a_list = refl;
      targets_in_cells = refl;
    }
