-- The weights of data: a limit of the run counts them in place of the bytes that skynet's packing takes (lua-seri.c).
use Rattle.std.specs.Prelude.{ℕ, ◌+◌, ◌-◌, ◌^◌, min, List, length}
use Rattle.std.specs.List.{sum_by}
use Rattle.message.specs.declared.datum.Datum.{Datum, fold-Datum}
use Rattle.message.specs.declared.datum.Datum.TheOpen.{Datum-F}

-- nil, a boolean and an integer weigh 16, a string 16 and its length, a table 16 and its keys and values
abbrev pub weight_step : Datum-F ℕ → ℕ
weight_step Datum-F.Nil = 16
weight_step (Datum-F.Bool b) = 16
weight_step (Datum-F.Int n) = 16
weight_step (Datum-F.Text t) = 16 + length t
weight_step (Datum-F.Table ps) = 16 + sum_by (λ p. p.0 + p.1) ps

abbrev pub datum_weight : Datum → ℕ
datum_weight = fold-Datum ℕ weight_step

-- a body weighs what its data weigh
abbrev pub weight : List Datum → ℕ
weight ds = sum_by datum_weight ds

-- the number, or the last one that the type has
abbrev pub capped : ℕ → ℕ
capped n = min n (2 ^ 64 - 1)
