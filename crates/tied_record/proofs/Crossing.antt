-- What may go to another thread: an entry, a record, a master and what a closure captures. A tie may be shared.
use denote.RattleType.{RattleType}
use denote.Param.Send.{AllSend, IsSend, IsSync, sendable, view_send}
use denote.Param.SendFields.{FieldsHave, as_row_send, declared_send, variants_send}
use denote.Struct.Field.{row_field}
use denote.Struct.Tuple.{TupleAt, parts, type_at}
use mathlib.Core.List.{List, [], ◌∷◌}
use mir.Syntax.{Sym}
use Rattle.std.proofs.Crossing as plain
use Rattle.message.specs.contracts.record.What as what
use Rattle.message.specs.contracts.record.Entry as entry
use Rattle.message.proofs.datum.Datum.TheLaws.TheKnot as datum
use Rattle.message.proofs.request.Dest.TheSendSync as dest
use Rattle.sqlite_items.proofs.items.Items.TheSendSync as items
use Rattle.sk_types.proofs.bytes.Bytes.TheSendSync as bytes
use Rattle.std.proofs.MapsCrossing as maps
use Rattle.tie.proofs.pair.Half.TheSendSync as half
use Rattle.tie.proofs.master.Master.TheSendSync as the_master
use Rattle.tie.proofs.root.Tie.TheSendSync as the_tie
use Rattle.tie.specs.contracts.master.Master as master
use Rattle.tie.specs.contracts.root.Tie as tie
use Rattle.tied_record.specs.declared.trail.Naming as Naming
use Rattle.tied_record.specs.declared.trail.Side as Side
use Rattle.tied_record.specs.contracts.trail.TiedRecord as tied
use Rattle.tied_record.specs.contracts.trail.TiedRecord.TheInside as inside

ruleset moves = (sendable, plain.crosses, datum.crosses, items.the_send, bytes.the_send, dest.the_send, as_row_send, variants_send, declared_send)

-- each variant by a search of its own: one search over all twelve ends at its limit
pub what_send : IsSend what.the_row
what_send =
    variants_send what.enum (
      search moves depth 60 fits 1000000,
      (
        search moves depth 60 fits 1000000,
        (
          search moves depth 60 fits 1000000,
          (
            search moves depth 60 fits 1000000,
            (
              search moves depth 60 fits 1000000,
              (
                search moves depth 60 fits 1000000,
                (
                  search moves depth 60 fits 1000000,
                  (
                    search moves depth 60 fits 1000000,
                    (search moves depth 60 fits 1000000, (search moves depth 60 fits 1000000, (search moves depth 60 fits 1000000, (search moves depth 60 fits 1000000, tt)))),
                  ),
                ),
              ),
            ),
          ),
        ),
      ),
    )

pub entry_send : IsSend entry.the_row
entry_send = search (moves, what_send) depth 60 fits 1000000

ruleset holds = (sendable, plain.crosses, maps.crosses, half.the_send, as_row_send, entry_send)

-- a record goes where its naming does
pub tied_send : (T S : RattleType) (g : Naming.Ghosts T.Denot) (g' : Side.Ghosts S.Denot) → IsSend T → IsSend S → IsSend (tied.the_row T S g g')
tied_send T S g g' t s =
    view_send _ _ _ _ _ (declared_send (inside.the_type T S g g') (search sendable, (search holds depth 40, (search holds depth 40, (search (sendable, as_row_send) depth 40, tt)))))

pub master_send : IsSend (master.the_row entry.the_row)
master_send = search (sendable, the_master.the_send, entry_send) depth 20

pub tie_sync : IsSync (tie.the_row entry.the_row)
tie_sync = search (sendable, the_tie.the_sync, entry_send) depth 20

-- a closure goes where all that it captures does
fields_send : (Ts : List RattleType) → AllSend Ts → FieldsHave IsSend (parts Ts)
fields_send [] s = tt
fields_send (T ∷ Ts) s = (as_row_send (row_field T) s.0, fields_send Ts s.1)

pub captures_send : (ν : Sym) (Ts : List RattleType) → AllSend Ts → IsSend (TupleAt ν Ts)
captures_send ν Ts s = declared_send (type_at ν Ts) (fields_send Ts s)
