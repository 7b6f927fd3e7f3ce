-- A journal, as contracts see it.
use Rattle.std.specs.Prelude.{List, ℕ}
use Rattle.sk_types.specs.declared.number.Handle.{Handle}

-- the agents that acted, in order, and for how many more there is room
pub record Entries : Type 0 where
  pub agents : List Handle
  pub room : ℕ
