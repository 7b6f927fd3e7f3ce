-- What a device in memory counts, and takes.
use Rattle.std.specs.Prelude.{ℕ, ◌+◌, ◌-◌, ◌^◌, min, Result, Ok, Err}

-- a count after one more call; it stops at its last value
abbrev pub counted : ℕ → ℕ
counted calls = min (calls + 1) (2 ^ 64 - 1)

-- how many bytes of a piece one write takes
abbrev pub most_of : ℕ → ℕ → ℕ → ℕ
most_of room step len = min (min room step) len

-- how many bytes a write took
abbrev pub accepted : {E : Type 0} → Result ℕ E → ℕ
accepted (Ok n) = n
accepted (Err e) = 0
