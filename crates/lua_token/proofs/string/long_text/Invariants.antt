use Rattle.std.proofs.Common.{◌≡◌, ◌+◌, ◌-◌, ◌≤◌, length}
use Rattle.lua_token.specs.Strings.{long_from, with_front}
use Rattle.lua_token.proofs.string.long_text.Given as goal

-- what was read, and what the rest reads as, is what the whole reads as
abbrev pub invariant-loop-b : goal.invariant-loop-b
invariant-loop-b l = record {
  whole : with_front l.text (length l.bytes - length l.rest) l.lines (long_from l.level 0 l.rest) ≡ long_from l.level 0 l.bytes;
  within : l.lines + length l.rest ≤ length l.bytes;
}

abbrev pub decreases-loop-b : goal.decreases-loop-b
decreases-loop-b l = length l.rest
