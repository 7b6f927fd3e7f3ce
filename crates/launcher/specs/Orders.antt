-- What a message asks of the launcher (launcher.lua: the commands, each by its name).
use Rattle.std.specs.Prelude.{ℕ, Bool, if◌then◌else◌, Option, Some, None, List, [], ◌∷◌, nat_le, ℤ, pos, negsuc, bytes_eq, codes}
use Rattle.sk_types.specs.declared.number.Handle.{Handle}
use Rattle.message.specs.declared.datum.Datum.{Datum}
use Rattle.message.specs.declared.datum.Datum.TheVariants as datum
use Rattle.launcher.specs.declared.order.Command.{Command}
use Rattle.launcher.specs.declared.order.Command.TheVariants as command
use Rattle.launcher.specs.declared.order.Order.{Order}
use Rattle.launcher.specs.declared.order.Order.TheVariants as order

-- the command that a text names
abbrev pub command_of : List ℕ → Option Command
command_of word =
    if bytes_eq word (codes "LAUNCH") then Some command.Launch else
    if bytes_eq word (codes "LAUNCHOK") then Some command.LaunchOk else
    if bytes_eq word (codes "ERROR") then Some command.Error else
    if bytes_eq word (codes "REMOVE") then Some command.Remove else
    if bytes_eq word (codes "KILL") then Some command.Kill else
    if bytes_eq word (codes "LIST") then Some command.List else
    None

-- the handle that an integer is
abbrev pub handle_in : ℤ → Option Handle
handle_in (pos n) = if nat_le n 4294967295 then Some (record { 0 = n }) else None
handle_in (negsuc n) = None

-- LAUNCH, the service's kind, the script's name, and its arguments of any form
abbrev pub launch_of : List Datum → Order
launch_of (datum.Text kind ∷ datum.Text name ∷ args) = if bytes_eq kind (codes "snlua") then order.Launch name args else order.Other
launch_of _ = order.Other

abbrev pub removal : Bool → Option Handle → Order
removal killed None = order.Other
removal killed (Some h) = order.Remove h killed

-- REMOVE, the handle, and whether it was killed
abbrev pub remove_of : List Datum → Order
remove_of (datum.Int n ∷ datum.Bool killed ∷ []) = removal killed (handle_in n)
remove_of _ = order.Other

abbrev pub kill : Option Handle → Order
kill None = order.Other
kill (Some h) = order.Kill h

-- KILL and the handle
abbrev pub kill_of : List Datum → Order
kill_of (datum.Int n ∷ []) = kill (handle_in n)
kill_of _ = order.Other

-- a command that stands alone
abbrev pub alone : Order → List Datum → Order
alone o [] = o
alone o (d ∷ ds) = order.Other

abbrev pub order_by : Option Command → List Datum → Order
order_by (Some command.Launch) rest = launch_of rest
order_by (Some command.LaunchOk) rest = alone order.LaunchOk rest
order_by (Some command.Error) rest = alone order.Error rest
order_by (Some command.Remove) rest = remove_of rest
order_by (Some command.Kill) rest = kill_of rest
order_by (Some command.List) rest = alone order.List rest
order_by None rest = order.Other

-- what a body asks
abbrev pub order_of : List Datum → Order
order_of (datum.Text word ∷ rest) = order_by (command_of word) rest
order_of _ = order.Other
