-- A record, as contracts see it. It is this project's own.
use Rattle.std.specs.Prelude.{List, ℕ}
use Rattle.message.specs.declared.record.Entry.{Entry}

-- the entries, in order, and for how many more there is room
pub record Trail : Type 0 where
  pub entries : List Entry
  pub room : ℕ
