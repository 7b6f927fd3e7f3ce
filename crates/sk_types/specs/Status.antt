-- The exit code of each status.
use Rattle.std.specs.Prelude.{ℕ}
use Rattle.sk_types.specs.declared.status.Status.{Status}
use Rattle.sk_types.specs.declared.status.Status.TheVariants as status

abbrev pub code_of : Status → ℕ
code_of status.Done = 0
code_of status.Usage = 2
code_of (status.NoStart f) = 3
code_of status.ReadFault = 4
code_of status.WriteFault = 5
code_of status.EventsFull = 6
code_of status.TicksSpent = 7
code_of status.BytesFull = 8
code_of status.Memory = 9
code_of (status.JournalFault f) = 10
