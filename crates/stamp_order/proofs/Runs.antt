-- The laws of the merge.
use Rattle.std.proofs.Common.{◌≡◌, refl, sym, subst}
use Rattle.message.specs.Actors.{Way}
use Rattle.stamp_order.specs.Records.{AreRight, BeginWell, journal, IsLeft}
use Rattle.stamp_order.specs.Laws.{IsRun, EntriesAreRun, MergedAreRun, OpeningIsWhole}
use Rattle.stamp_order.proofs.Order.{parts, records_are_parts}
use Rattle.stamp_order.proofs.Weave.{IsRest, IsWoven, weave}
use Rattle.stamp_order.proofs.Keys.{merged_is_ordered}

pub entries_are_run : {S : Type 0} (way : Way S) → EntriesAreRun way
entries_are_run {S = S} way w records es whole run all = go (weave way w es 0 rest all.climbs) where
  same : parts es ≡ records
  same = records_are_parts records es run.agree run.rising all

  rest : IsRest way w es
  rest = record { whole = whole; right = subst (AreRight way w) (sym same) run.right; begin_well = subst (BeginWell way w) (sym same) run.begin_well }

  go : IsWoven way w es → IsRun way w records (journal es)
  go x = record { world = x.world; after = x.after; left = subst (λ r. IsLeft way w r x.world) same x.left }

pub merged_are_run : {S : Type 0} (way : Way S) → MergedAreRun way
merged_are_run way w records trails merged whole run have is_merged =
    let x = merged_is_ordered records trails merged run.rising have is_merged in
    subst (IsRun way w records) (sym x.agents) (entries_are_run way w records x.entries whole run x.all)

pub opening_is_whole : (S : Type 0) → OpeningIsWhole S
opening_is_whole S logger launcher start = record { services = refl; inboxes = refl }
