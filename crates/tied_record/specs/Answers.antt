-- What entering an entry answers.
use Rattle.std.specs.Prelude.{◌≡◌}
use Rattle.message.specs.declared.record.Entry.{Entry}
use Rattle.tied_record.specs.declared.entering.Entered.{Entered}
use Rattle.tied_record.specs.declared.entering.Entered.TheVariants.{Both, Neither}
use Rattle.tied_record.specs.Tied.{Trail, IsTorn, entered}

-- the entry is in both records, or in none and they were torn
abbrev pub EnteredAs : Entry → Trail → Trail → Trail → Trail → Entered → Type 0
EnteredAs e agent place agent2 place2 Both = (agent2 ≡ entered e agent) × (place2 ≡ entered e place)
EnteredAs e agent place agent2 place2 Neither = (agent2 ≡ agent) × (place2 ≡ place) × IsTorn agent place
