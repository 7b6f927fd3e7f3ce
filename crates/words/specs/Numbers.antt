-- The numbers that options take.
use Rattle.std.specs.Prelude.{◌&&◌, ℕ, Bool, List, Option, Some, None, length, nat_le, nat_lt, if◌then◌else◌}
use Rattle.std.specs.List.{list_all}
use Rattle.std.specs.Char.{is_ascii_digit}
use Rattle.std.specs.Option.{option_map_or}
use Rattle.std.specs.Str.Parse.{digits_value}
use Rattle.clap.specs.Words.{Row, Text, first_of}
use Rattle.words.specs.declared.numbers.Range.{Range}

-- 1 to 10 decimal digits
abbrev pub is_digits : Text → Bool
is_digits text = nat_lt 0 (length text) && (nat_le (length text) 10 && list_all is_ascii_digit text)

-- the digits write a number of the range
abbrev pub is_within : Range → ℕ → Bool
is_within range n = nat_le range.least n && nat_le n range.greatest

-- the number that a text writes, where it is 1 to 10 decimal digits and in the range
abbrev pub number_of : Range → Text → Option ℕ
number_of range text =
    if is_digits text && is_within range (digits_value 10 text) then Some (digits_value 10 text) else None

-- the number of an option, or its default where it is not given
abbrev pub number_in : List Row → Text → Range → Option ℕ
number_in rows name range = option_map_or (number_of range) (first_of name rows) (Some range.default)

abbrev pub workers : Range
workers = record { least = 1; greatest = 64; default = 4 }

abbrev pub ticks : Range
ticks = record { least = 0; greatest = 1000000000; default = 1000000 }

abbrev pub events : Range
events = record { least = 1; greatest = 4000000; default = 1000000 }

abbrev pub budget : Range
budget = record { least = 1000; greatest = 1000000000; default = 1000000 }

abbrev pub heap : Range
heap = record { least = 1000; greatest = 16777216; default = 1048576 }

-- the bytes of a run, which no word says
abbrev pub bytes : ℕ
bytes = 268435456
