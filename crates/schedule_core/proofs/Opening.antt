-- What the machine opens with is an opening world.
use Rattle.std.proofs.Common.{List, ℕ, Option, Some, None}
use Rattle.std.specs.Prelude.{Result, Ok, Err, IfOk, IfSome, MatchOption}
use Rattle.message.specs.Actors.{Way, IsLawful, Begins}
use Rattle.message.specs.Worlds.{over}
use Rattle.world_machine.specs.Machines.{Run}
use Rattle.world_machine.specs.Opening.{first_handle, second_handle, start_handle, OpensRun}
use Rattle.call_fates.specs.Reached.{IsOpening}

pub opens_first : {A S : Type 0} (way : Way S) (sound : S → Type 0) → IsLawful way sound → (f : A → S) (logger launcher : A) (name : List ℕ) (r : Run A)
    → Begins way sound first_handle (f logger) → Begins way sound second_handle (f launcher) → OpensRun way f logger launcher name r → IsOpening way sound (over f r.world)
opens_first way sound lawful f logger launcher name r one two o = record {
  logger = f logger;
  launcher = f launcher;
  start = o.0.0;
  first = one;
  second = two;
  third = lawful.begin name start_handle o.0.0 o.0.1;
  same = o.0.2;
}

-- the same of what the call answers
pub opens_all : {A S E : Type 0} (way : Way S) (sound : S → Type 0) → IsLawful way sound → (f : A → S) (logger launcher : A) (name : List ℕ) (P : Type 0) (r : Result (Option (Run A)) E)
    → Begins way sound first_handle (f logger) → Begins way sound second_handle (f launcher) → IfOk r (λ made. MatchOption made P (λ w. OpensRun way f logger launcher name w)) → IfOk r (λ made. IfSome made (λ w. IsOpening way sound (over f w.world)))
opens_all way sound lawful f logger launcher name P (Err e) one two o = o
opens_all way sound lawful f logger launcher name P (Ok None) one two o = tt
opens_all way sound lawful f logger launcher name P (Ok (Some r)) one two o = opens_first way sound lawful f logger launcher name r one two o
