use Rattle.std.proofs.Common.{refl}
use Rattle.std.specs.Int.{int_wrap}
use Rattle.lua_model.proofs.law.law_integers.Goals as goal

pub returns : goal.returns
unfolding int_wrap
returns c =
    record {
      floor_down = refl;
      rest_of_down = refl;
      floor_of_negative = refl;
      rest_of_negative = refl;
      floor_wraps = refl;
      rest_of_least = refl;
      sum_wraps = refl;
      product_wraps = refl;
      minus_wraps = refl;
      shifted_out = refl;
      shifted_to_sign = refl;
      shift_is_logical = refl;
      shift_turns = refl;
      all_bits = refl;
    }
