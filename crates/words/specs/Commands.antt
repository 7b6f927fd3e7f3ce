-- The commands, as clap reads them.
use Rattle.std.specs.Prelude.{◌≡◌, Bool, true, false, List, [], ◌∷◌, Some, codes}
use Rattle.clap.specs.declared.parser.matches.ArgMatches.{ArgMatches}
use Rattle.clap.specs.Words.{App, Kinds, Rule, Text, fault_of, found_of, matches_of, new_app, new_rule, rows_of, with_rule}

-- an option with one value, `--name value` or `--name=value`
abbrev pub option_rule : Text → Rule
option_rule name = record (new_rule name) { long = Some name }

-- a word in its place, which must be given
abbrev pub positional_rule : Text → Rule
positional_rule name = record (new_rule name) { required = true }

-- a command without arguments: its words begin after the program's name, and it has no flag for help
abbrev pub bare : Text → App
bare name = let app = new_app name in
    record app { top = record app.top { no_binary_name = true; disable_help_flag = true } }

-- FOLDER [--workers N] [--start NAME] [--ticks N] [--budget N] [--heap N] [--events N] [--journal FILE]
unfoldable pub run_command : App
run_command =
    with_rule (with_rule (with_rule (with_rule (with_rule (with_rule (with_rule (with_rule (bare (codes "skynet_run"))
    (positional_rule (codes "FOLDER")))
    (option_rule (codes "workers")))
    (option_rule (codes "start")))
    (option_rule (codes "ticks")))
    (option_rule (codes "budget")))
    (option_rule (codes "heap")))
    (option_rule (codes "events")))
    (option_rule (codes "journal"))

-- FOLDER JOURNAL [--start NAME] [--budget N] [--heap N]
unfoldable pub replay_command : App
replay_command =
    with_rule (with_rule (with_rule (with_rule (with_rule (bare (codes "replay"))
    (positional_rule (codes "FOLDER")))
    (positional_rule (codes "JOURNAL")))
    (option_rule (codes "start")))
    (option_rule (codes "budget")))
    (option_rule (codes "heap"))

-- clap finds no fault
abbrev pub is_faultless : Kinds → Bool
is_faultless [] = true
is_faultless (kind ∷ kinds) = false

-- the command takes the words, and these are its matches
abbrev pub TakenAs : App → List Text → ArgMatches → Type 0
TakenAs command words matches =
    (is_faultless (fault_of command words) ≡ true) × (rows_of (found_of matches) ≡ matches_of command words)
