-- The clauses of a run, from what its steps gave.
use Rattle.std.proofs.Common.{◌≡◌, ◌∙◌, refl, sym, ℕ, List, Option, Some, None}
use Rattle.std.specs.Prelude.{Result, Ok, Err, IfOk, IfErr, IfSome}
use Rattle.sk_types.specs.declared.fault.SyntaxFault.{SyntaxFault}
use Rattle.sk_types.specs.declared.fault.StartFault.TheVariants as start
use Rattle.sk_types.specs.declared.status.Status.{Status}
use Rattle.sk_types.specs.declared.status.Status.TheVariants as status
use Rattle.sk_ports.specs.Files.{Files, file}
use Rattle.runner.specs.Scripts.{HasScripts}
use Rattle.runner.specs.Run.{CannotStart, EndsEarly, IsRefused, Runs, Starts, start_file}

-- the start script's file in the folder
found_told : (files scripts : Files) (bytes : List ℕ) → HasScripts scripts files → Some bytes ≡ file scripts start_file → file files start_file ≡ Some bytes
found_told files scripts bytes has found = sym (found ∙ has start_file refl)

pub starts_told : (held : Option Files) (scripts : Files) (bytes : List ℕ) (r : Result (List (List ℕ)) Status) → IfSome held (HasScripts scripts)
    → Some bytes ≡ file scripts start_file → IfOk r (λ texts. Runs bytes texts) → IfOk r (λ texts. IfSome held (Starts texts))
starts_told None scripts bytes (Ok texts) has found runs = tt
starts_told (Some files) scripts bytes (Ok texts) has found runs = (bytes, found_told files scripts bytes has found, runs)
starts_told held scripts bytes (Err e) has found runs = tt

unread_told : (held : Option Files) (scripts : Files) (bytes : List ℕ) (before now : ℕ) (s : Status) → IfSome held (HasScripts scripts)
    → Some bytes ≡ file scripts start_file → now ≡ before → IsRefused bytes s → EndsEarly held before now s
unread_told held scripts bytes before now status.Memory has found kept refused = kept
unread_told None scripts bytes before now (status.NoStart (start.Unread fault)) has found kept refused = (tt, kept)
unread_told (Some files) scripts bytes before now (status.NoStart (start.Unread fault)) has found kept refused =
    ((bytes, found_told files scripts bytes has found, refused), kept)
unread_told held scripts bytes before now (status.NoStart start.Missing) has found kept refused = absurd refused
unread_told held scripts bytes before now status.Done has found kept refused = absurd refused
unread_told held scripts bytes before now status.Usage has found kept refused = absurd refused
unread_told held scripts bytes before now status.ReadFault has found kept refused = absurd refused
unread_told held scripts bytes before now status.WriteFault has found kept refused = absurd refused
unread_told held scripts bytes before now status.EventsFull has found kept refused = absurd refused
unread_told held scripts bytes before now status.TicksSpent has found kept refused = absurd refused
unread_told held scripts bytes before now status.BytesFull has found kept refused = absurd refused
unread_told held scripts bytes before now (status.JournalFault fault) has found kept refused = absurd refused

pub early_told : (held : Option Files) (scripts : Files) (bytes : List ℕ) (before now : ℕ) (r : Result (List (List ℕ)) Status) → IfSome held (HasScripts scripts)
    → Some bytes ≡ file scripts start_file → now ≡ before → IfErr r (IsRefused bytes) → IfErr r (EndsEarly held before now)
early_told held scripts bytes before now (Ok texts) has found kept refused = tt
early_told held scripts bytes before now (Err s) has found kept refused = unread_told held scripts bytes before now s has found kept refused
