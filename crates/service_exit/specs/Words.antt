-- The library's own messages to the logger, service 1, and to the launcher, service 2. The sender is their source, and
-- none of them wants an answer.
use Rattle.std.specs.Prelude.{Bool, List, [], ◌∷◌, pos, codes}
use Rattle.sk_types.specs.declared.number.Handle.{Handle}
use Rattle.sk_types.specs.declared.number.Kind.TheVariants as kind
use Rattle.message.specs.declared.datum.Datum.{Datum}
use Rattle.message.specs.declared.datum.Datum.TheVariants as datum
use Rattle.message.specs.declared.request.Request.{Request}
use Rattle.message.specs.declared.request.Request.TheVariants.{Put}

-- a line for the logger (skynet.error)
abbrev pub to_logger : Handle → List Datum → Request
to_logger own body =
    Put (record { 0 = 1 }) (record { source = own; session = record { 0 = 0 }; kind = kind.Text; body = body })

-- a word to the launcher
abbrev pub to_launcher : Handle → List Datum → Request
to_launcher own body =
    Put (record { 0 = 2 }) (record { source = own; session = record { 0 = 0 }; kind = kind.Lua; body = body })

-- a service is to leave the launcher's list (launcher.lua, command.REMOVE), and whether it was killed
abbrev pub removal : Handle → Handle → Bool → Request
removal own ended killed =
    to_launcher own (datum.Text (codes "REMOVE") ∷ datum.Int (pos ended.0) ∷ datum.Bool killed ∷ [])

-- the sender's start failed (launcher.lua, command.ERROR)
abbrev pub failure : Handle → Request
failure own = to_launcher own (datum.Text (codes "ERROR") ∷ [])
