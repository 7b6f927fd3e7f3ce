-- What a service's library keeps (the tables of skynet.lua). This form is the project's own.
use Rattle.std.specs.Prelude.{Bool, false, Option, Some, None, List, []}
use Rattle.sk_types.specs.declared.number.Handle.{Handle}
use Rattle.message.specs.declared.request.Held.{Held}
use Rattle.session_table.specs.declared.words.ThreadNo.{ThreadNo}
use Rattle.session_table.specs.Table.{Table, fresh}
use Rattle.service_library.specs.declared.words.Reason.{Reason}
use Rattle.service_library.specs.declared.words.Doing.{Doing}
use Rattle.service_library.specs.declared.words.Doing.TheVariants.{Quiet, Replying, Replied}

pub record Lib : Type 0 where
  pub own : Handle
  -- the sessions, the sleepers, and the requests that are held
  pub table : Table
  -- why each thread that waits does so
  pub blocked : List (ThreadNo × Reason)
  -- the threads whose call failed, and those that were forked, the first that came first
  pub failed : List ThreadNo
  pub forks : List ThreadNo
  -- the threads of the script's chunk and of the function of start, once there are any
  pub chunk : Option ThreadNo
  pub start : Option ThreadNo
  -- whether a dispatch function is set
  pub dispatches : Bool
  -- the thread that runs, or ran last
  pub running : ThreadNo
  pub doing : Doing
  -- whether it met want of memory
  pub spent : Bool

abbrev pub new_lib : Handle → Lib
new_lib own =
    record {
      own = own;
      table = fresh;
      blocked = [];
      failed = [];
      forks = [];
      chunk = None;
      start = None;
      dispatches = false;
      running = record { 0 = 0 };
      doing = Quiet;
      spent = false;
    }

-- the request whose answer is being sent
abbrev pub reply_of : Doing → Option Held
reply_of (Replying held k body after) = Some held
reply_of (Replied held after) = Some held
reply_of _ = None
