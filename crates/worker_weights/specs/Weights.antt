-- The weights of workers and the batches that they take (skynet_start.c, the table `weight`; skynet_server.c,
-- skynet_context_message_dispatch).
use Rattle.std.specs.Prelude.{ℕ, ◌/◌, ◌^◌, max, ℤ, pos, negsuc, nat_lt, if◌then◌else◌}

-- four workers of weight -1 and four of weight 0, then eight each of 1, 2 and 3; any further one has 0
abbrev pub weight_of : ℕ → ℤ
weight_of i = if nat_lt i 4 then negsuc 0 else (if nat_lt i 8 then pos 0 else (if nat_lt i 16 then pos 1 else (if nat_lt i 24 then pos 2 else (if nat_lt i 32 then pos 3 else pos 0))))

-- a worker of weight -1 takes one message of a service; any other takes the part 1 / 2 ^ weight of those that wait
-- after the first, and one at least
abbrev pub batch_of : ℤ → ℕ → ℕ
batch_of (pos w) remaining = max 1 (remaining / 2 ^ w)
batch_of (negsuc w) remaining = 1
