-- What the definitions give at values that were taken from Lua 5.4, and the law of a string's number.
use Rattle.std.specs.Prelude.{◌≡◌, ℕ, ◌<◌, List, length, pos, negsuc}
use Rattle.lua_model.specs.Integer as lua
use Rattle.lua_model.specs.Texts.{Texts, number_of, with_text, bytes_at}

-- 7 // -2, 7 % -2, -7 // 2, -7 % 2, mininteger // -1, mininteger % -1, maxinteger + 1, 1 << 64, 1 << 63, -1 >> 60, 16 << -3, ~0
pub record IntegersAreAsInLua : Type 0 where
  pub floor_down : lua.floor_div (pos 7) (negsuc 1) ≡ negsuc 3
  pub rest_of_down : lua.modulo (pos 7) (negsuc 1) ≡ negsuc 0
  pub floor_of_negative : lua.floor_div (negsuc 6) (pos 2) ≡ negsuc 3
  pub rest_of_negative : lua.modulo (negsuc 6) (pos 2) ≡ pos 1
  pub floor_wraps : lua.floor_div (negsuc 9223372036854775807) (negsuc 0) ≡ negsuc 9223372036854775807
  pub rest_of_least : lua.modulo (negsuc 9223372036854775807) (negsuc 0) ≡ pos 0
  pub sum_wraps : lua.add (pos 9223372036854775807) (pos 1) ≡ negsuc 9223372036854775807
  pub product_wraps : lua.mul (pos 9223372036854775807) (pos 2) ≡ negsuc 1
  pub minus_wraps : lua.minus (negsuc 9223372036854775807) ≡ negsuc 9223372036854775807
  pub shifted_out : lua.shift_left (pos 1) (pos 64) ≡ pos 0
  pub shifted_to_sign : lua.shift_left (pos 1) (pos 63) ≡ negsuc 9223372036854775807
  pub shift_is_logical : lua.shift_right (negsuc 0) (pos 60) ≡ pos 15
  pub shift_turns : lua.shift_left (pos 16) (negsuc 2) ≡ pos 2
  pub all_bits : lua.bit_not (pos 0) ≡ negsuc 0

pub record NumbersAreOfBytes : Type 0 where
  -- what was made has a number, which gives the bytes back
  pub held : (texts : Texts) (a : List ℕ) → bytes_at (with_text texts a) (number_of texts a) ≡ a
  -- another string changes no number
  pub stays : (texts : Texts) (a b : List ℕ) → number_of texts a < length texts → number_of (with_text texts b) a ≡ number_of texts a
  -- nor the bytes under one
  pub bytes_stay : (texts : Texts) (b : List ℕ) (k : ℕ) → k < length texts → bytes_at (with_text texts b) k ≡ bytes_at texts k
