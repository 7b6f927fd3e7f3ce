-- What the words of each command say, and which words are of its form.
use Rattle.std.specs.Prelude.{◌≡◌, ◌&&◌, Bool, List, [], Some, codes, is_some, option_map, unwrap_or}
use Rattle.sk_types.specs.declared.number.Limits.{Limits}
use Rattle.clap.specs.Words.{Row, Text, fault_of, first_of, matches_of}
use Rattle.words.specs.Commands.{is_faultless, replay_command, run_command}
use Rattle.words.specs.Numbers.{budget, bytes, events, heap, number_in, ticks, workers}
use Rattle.words.specs.declared.replay.ReplayWords.{ReplayWords}
use Rattle.words.specs.declared.run.RunWords.{RunWords}

-- the text of a word, or what stands where it is not given
abbrev pub text_in : List Row → Text → Text → Text
text_in rows name default = unwrap_or (first_of name rows) default

-- what the options say of a run's limits
pub record LimitsSay (rows : List Row) (said : Limits) : Type 0 where
  pub events_are : number_in rows (codes "events") events ≡ Some said.events
  pub bytes_are : said.bytes ≡ bytes
  pub budget_is : number_in rows (codes "budget") budget ≡ Some said.budget
  pub heap_is : number_in rows (codes "heap") heap ≡ Some said.heap

-- each number of a run's limits is in its range
abbrev pub are_limits : List Row → Bool
are_limits rows = is_some (number_in rows (codes "events") events)
    && (is_some (number_in rows (codes "budget") budget) && is_some (number_in rows (codes "heap") heap))

-- what the words of a run say
pub record RunSays (rows : List Row) (said : RunWords) : Type 0 where
  pub folder_is : said.folder.now ≡ text_in rows (codes "FOLDER") []
  pub start_is : said.start.now ≡ text_in rows (codes "start") (codes "main")
  pub workers_are : number_in rows (codes "workers") workers ≡ Some said.workers
  pub ticks_are : number_in rows (codes "ticks") ticks ≡ Some said.ticks
  pub limits_are : LimitsSay rows said.limits
  pub journal_is : option_map (λ text. text.now) said.journal ≡ first_of (codes "journal") rows

-- each number of a run is in its range
abbrev pub are_run_numbers : List Row → Bool
are_run_numbers rows = is_some (number_in rows (codes "workers") workers)
    && (is_some (number_in rows (codes "ticks") ticks) && are_limits rows)

-- the words are of the form of a run: clap takes them, and each number is in its range
abbrev pub is_run : List Text → Bool
is_run words = is_faultless (fault_of run_command words) && are_run_numbers (matches_of run_command words)

-- what the words of a replay say
pub record ReplaySays (rows : List Row) (said : ReplayWords) : Type 0 where
  pub folder_is : said.folder.now ≡ text_in rows (codes "FOLDER") []
  pub journal_is : said.journal.now ≡ text_in rows (codes "JOURNAL") []
  pub start_is : said.start.now ≡ text_in rows (codes "start") (codes "main")
  pub budget_is : number_in rows (codes "budget") budget ≡ Some said.budget
  pub heap_is : number_in rows (codes "heap") heap ≡ Some said.heap

-- each number of a replay is in its range
abbrev pub are_replay_numbers : List Row → Bool
are_replay_numbers rows =
    is_some (number_in rows (codes "budget") budget) && is_some (number_in rows (codes "heap") heap)

-- the words are of the form of a replay: clap takes them, and each number is in its range
abbrev pub is_replay : List Text → Bool
is_replay words = is_faultless (fault_of replay_command words) && are_replay_numbers (matches_of replay_command words)
