-- The merge of records: the agents of all their entries, by stamp, then agent.
use Rattle.std.specs.Prelude.{◌≡◌, ℕ, List, ◌++◌, map, length}
use Rattle.std.specs.List.{flat_map}
use Rattle.std.specs.List.Sorted.{IsPermutation, IsSorted}
use Rattle.std.specs.Ordering.{nat_cmp, ordering_then}
use Rattle.std.specs.declared.cmp.Ordering.{Ordering}
use Rattle.sk_types.specs.declared.number.Handle.{Handle}
use Rattle.sk_types.specs.declared.number.Stamp.{Stamp}
use Rattle.message.specs.Trails.{Trail}
use Rattle.message.specs.declared.record.Entry.{Entry}

-- when an entry stands in the order, and whose it is
abbrev pub key : Entry → Stamp × Handle
key e = (e.stamp, e.agent)

-- by stamp, then agent
abbrev pub by_stamp : Stamp × Handle → Stamp × Handle → Ordering
by_stamp x y = ordering_then (nat_cmp x.0.0 y.0.0) (nat_cmp x.1.0 y.1.0)

-- the entries of the records, one record after another
abbrev pub entries_of : List Trail → List Entry
entries_of = flat_map (λ t. t.entries)

-- the agents of all entries of the records, ordered by stamp, then agent
pub record IsMerged (records : List Trail) (merged : List Handle) : Type 0 where
  pub keys : List (Stamp × Handle)
  pub all : IsPermutation (map key (entries_of records)) keys
  pub ordered : IsSorted by_stamp keys
  pub agents : merged ≡ map (λ k. k.1) keys

-- after them, such a list was added to the journal
pub record AddsMerged (records : List Trail) (before after : List Handle) : Type 0 where
  pub merged : List Handle
  pub is_merged : IsMerged records merged
  pub added : after ≡ before ++ merged

-- how many entries the records have
abbrev pub count : List Trail → ℕ
count ts = length (entries_of ts)
