-- The laws of the merge.
use Rattle.std.specs.Prelude.{◌≡◌, List, Some}
use Rattle.std.specs.List.{filter}
use Rattle.sk_types.specs.declared.number.Handle.{Handle}
use Rattle.message.specs.Actors.{Way}
use Rattle.message.specs.Trails.{Trail}
use Rattle.message.specs.Worlds.{World, after, opening}
use Rattle.message.specs.declared.record.Entry.{Entry}
use Rattle.stamp_order.specs.Merged.{entries_of, IsMerged}
use Rattle.stamp_order.specs.Records.{Records, is_by, AreRight, Agree, BeginWell, AreRising, IsAll, journal, IsLeft, IsWhole}

-- the records are those of a run from the world
pub record AreOfRun {S : Type 0} (way : Way S) (w : World S) (records : Records) : Type 0 where
  pub right : AreRight way w records
  pub agree : Agree records
  pub begin_well : BeginWell way w records
  pub rising : AreRising records

-- the agents are a run from the world, after which each agent and each place is as its own record leaves it
pub record IsRun {S : Type 0} (way : Way S) (w : World S) (records : Records) (agents : List Handle) : Type 0 where
  pub world : World S
  pub after : after way agents w ≡ Some world
  pub left : IsLeft way w records world

-- in any order by stamps the entries of all agents are a run
abbrev pub EntriesAreRun : {S : Type 0} → Way S → Type 0
EntriesAreRun {S} way = (w : World S) (records : Records) (es : List Entry) → IsWhole w → AreOfRun way w records → IsAll records es → IsRun way w records (journal es)

-- for each agent its entries in the list of records are its record, in order
abbrev pub HaveAll : Records → List Trail → Type 0
HaveAll records trails = (h : Handle) → filter (is_by h) (entries_of trails) ≡ records.of_agent h

-- the merged records are a run
abbrev pub MergedAreRun : {S : Type 0} → Way S → Type 0
MergedAreRun {S} way = (w : World S) (records : Records) (trails : List Trail) (merged : List Handle) → IsWhole w → AreOfRun way w records → HaveAll records trails → IsMerged trails merged → IsRun way w records merged

-- the opening world is one from which this holds
abbrev pub OpeningIsWhole : Type 0 → Type 0
OpeningIsWhole S = (logger launcher start : S) → IsWhole (opening logger launcher start)

-- the records have one merged list
abbrev pub OneMerged : Type 0
OneMerged = (trails : List Trail) (one other : List Handle) → IsMerged trails one → IsMerged trails other → one ≡ other
