-- The three services as actors, and that they keep the laws.
use Rattle.std.specs.Prelude.{ℕ, ◌≡◌, ◌==◌, ◌<◌, Bool, true, false, List, [], ◌∷◌, Option, Some, None, Contains, slice_index_or, refl}
use Rattle.std.proofs.Common.{arith, ap, sym, ◌∙◌, subst, inl, inr, zero, suc}
use Rattle.sk_types.specs.declared.number.Handle.{Handle}
use Rattle.sk_types.specs.declared.number.Kind.{Kind}
use Rattle.sk_types.specs.declared.number.Kind.TheVariants as kind
use Rattle.message.specs.Messages.{is_request, held_of}
use Rattle.message.specs.Actors.{Way, Fits, IsStep, IsSound, IsLawful, Begins, drawn, MayMark}
use Rattle.message.specs.declared.request.Message.{Message}
use Rattle.message.specs.declared.request.Held.{Held}
use Rattle.message.specs.declared.request.Answer.{Answer}
use Rattle.message.specs.declared.request.Answer.TheVariants.{Found, Flag, Clock as Told, Done}
use Rattle.message.specs.declared.request.Input.{Input}
use Rattle.message.specs.declared.request.Input.TheVariants.{Message as Comes, Answer as Answers}
use Rattle.three_actors.specs.declared.player.Role.{Role}
use Rattle.three_actors.specs.declared.player.Role.TheVariants as roles
use Rattle.three_actors.specs.declared.player.Outcome.{Outcome}
use Rattle.three_actors.specs.declared.player.Outcome.TheVariants as outcomes
use Rattle.three_actors.specs.declared.player.Task.{Task}
use Rattle.three_actors.specs.declared.player.Task.TheVariants as tasks
use Rattle.three_actors.specs.Playing.{State, heard_by, roused, noted, calls_now, fed, next_of, reply_by, reply_of, known_of, asked_of, new_player, begins_by}

abbrev pub player_way : Way State
player_way = record {
  next = λ s. next_of s.own s.task;
  fed = fed;
  held = λ s. [];
  reply = λ s. reply_of s.task;
  handle = λ s. s.own;
  asked = λ s. asked_of s.called;
  known = λ s. known_of s.task;
  begins = λ name own. begins_by own name (own.0 == 0);
  opens = λ own. None;
}

-- it looks for the echo before its call alone
abbrev pub IsFirst : Task → Bool → Type 0
IsFirst tasks.Looks called = called ≡ false
IsFirst _ called = Unit {0}

abbrev pub player_sound : State → Type 0
player_sound s = ((s.own.0 == 0) ≡ false) × IsFirst s.task s.called

pub new_begins : (own : Handle) (r : Role) → (own.0 == 0) ≡ false → Begins player_way player_sound own (new_player own r)
new_begins own r e = record { is_sound = (e, tt); is_new = record { idle = refl; holds = refl; replies = refl; asks = refl; knows = refl; named = refl } }

begun : (own : Handle) (name : List ℕ) (b : Bool) (s : State) → (own.0 == 0) ≡ b → begins_by own name b ≡ Some s → Begins player_way player_sound own s
begun own [] b s e h = absurd (cc)
begun own (c ∷ cs) true s e h = absurd (cc)
begun own (c ∷ cs) false s e h = let same : new_player own roles.Echo ≡ s = cc in subst (Begins player_way player_sound own) same (new_begins own roles.Echo e)

is_in : (h : Handle) → Contains (h ∷ []) h
is_in h = (0, omega arith, refl)

one_in : (h k : Handle) → Contains (h ∷ []) k → h ≡ k
one_in h k c = go c.0 c.1 c.2 where
  go : (n : ℕ) → n < 1 → slice_index_or (h ∷ []) n k ≡ k → h ≡ k
  go zero l e = e
  go (suc n) l e = absurd (omega (arith, l))

none_in : (k : Handle) → Contains [] k → ⊥
none_in k c = let l = c.1 in omega (arith, l)

sound_told : (own : Handle) (r : Role) (called : Bool) (t : Task) → (own.0 == 0) ≡ false → IsSound player_way (record { own = own; role = r; called = called; task = t })
sound_told own r called tasks.Idle e = record { replying = tt; puts = tt; reaches = tt; waits = tt }
sound_told own r called tasks.Rouses e = record { replying = tt; puts = inl (refl, refl); reaches = inr (inl refl); waits = tt }
sound_told own r called tasks.Alarms e = record { replying = tt; puts = inl (refl, refl); reaches = inl refl; waits = tt }
sound_told own r called (tasks.Seeks x) e = record { replying = inl refl; puts = tt; reaches = tt; waits = tt }
sound_told own r called (tasks.Sends x) e = record {
  replying = inr (reply_by own x, refl, record { kind = refl; session = refl; source = refl });
  puts = inr (inr (x, refl, refl, record { kind = refl; session = refl; source = refl }));
  reaches = inr (inr (inr (is_in x.source)));
  waits = tt;
}
sound_told own r called tasks.Looks e = record { replying = tt; puts = tt; reaches = tt; waits = tt }
sound_told own r called (tasks.Calls to) e = record { replying = tt; puts = inl (refl, refl); reaches = inr (inr (inr (is_in to))); waits = tt }
sound_told own r called (tasks.Notes o) e = record { replying = tt; puts = inl (refl, refl); reaches = inl refl; waits = tt }
sound_told own r called tasks.Retires e = record { replying = tt; puts = tt; reaches = tt; waits = tt }
sound_told own r called tasks.Marks e = record { replying = tt; puts = tt; reaches = tt; waits = tt }

-- the same handle, by its number
same_handle : (g h : Handle) → g.0 ≡ h.0 → g ≡ h
same_handle g h e = let f : ℕ → Handle = λ k. record { 0 = k } in ap f e

abbrev pub Steps : State → Input → State → Type 0
Steps s i s2 = player_sound s2 × IsStep player_way s i s2

-- A MESSAGE

module _ (own : Handle) (r : Role) (called : Bool) (e : (own.0 == 0) ≡ false) where
  abbrev pub at : Task → State
  at t = record { own = own; role = r; called = called; task = t }

  -- where it holds nothing and sends nothing, to a task that draws no session
  quiet_step : (m : Message) (t : Task) → is_request m ≡ false → reply_of t ≡ None → known_of t ≡ [] → drawn (next_of own t) ≡ None → MayMark player_way (at t) None (next_of own t) → IsFirst t called → Steps (at tasks.Idle) (Comes m) (at t)
  quiet_step m t not_req no_reply no_known no_draw may_mark first = (
    (e, first),
    record {
      named = refl;
      moves = rw (no_reply, not_req) refl;
      draws = rw no_draw (omega arith);
      marks = tt;
      may_mark = may_mark;
      learns = λ k c. absurd (none_in k (subst (λ l. Contains l k) no_known c));
    },
  )

  rouses : (q : Role) (b by_echo : Bool) (m : Message) → is_request m ≡ false → called ≡ b → Steps (at tasks.Idle) (Comes m) (at (roused q b by_echo))
  rouses roles.Echo b by_echo m n is = quiet_step m tasks.Rouses n refl refl refl tt tt
  rouses roles.Caller false by_echo m n is = quiet_step m tasks.Looks n refl refl refl tt is
  rouses roles.Caller true by_echo m n is = quiet_step m tasks.Idle n refl refl refl tt tt
  rouses roles.Killer b true m n is = quiet_step m tasks.Retires n refl refl refl tt tt
  rouses roles.Killer b false m n is = quiet_step m tasks.Idle n refl refl refl tt tt

  notes : (q : Role) (o : Outcome) (m : Message) → is_request m ≡ false → Steps (at tasks.Idle) (Comes m) (at (noted q o))
  notes roles.Caller o m n = quiet_step m (tasks.Notes o) n refl refl refl tt tt
  notes roles.Echo o m n = quiet_step m tasks.Idle n refl refl refl tt tt
  notes roles.Killer o m n = quiet_step m tasks.Idle n refl refl refl tt tt

  seeks : (m : Message) → is_request m ≡ true → Steps (at tasks.Idle) (Comes m) (at (tasks.Seeks (held_of m)))
  seeks m req = (
    (e, tt),
    record {
      named = refl;
      moves = ([], [], rw req refl, refl, refl);
      draws = omega arith;
      marks = tt;
      may_mark = tt;
      learns = λ k c. absurd (none_in k c);
    },
  )

  hears : (m : Message) (req : Bool) (k : Kind) (by_echo : Bool) → is_request m ≡ req → Steps (at tasks.Idle) (Comes m) (at (heard_by r called (held_of m) req k by_echo))
  hears m true k by_echo is = seeks m is
  hears m false kind.Text by_echo is = rouses r called by_echo m is refl
  hears m false kind.Response by_echo is = notes r outcomes.Answered m is
  hears m false kind.Error by_echo is = notes r outcomes.Failed m is
  hears m false kind.Lua by_echo is = quiet_step m tasks.Idle is refl refl refl tt tt

-- a task that was roused is no call
not_called : (r : Role) (called : Bool) (x : Held) (req : Bool) (k : Kind) (by_echo : Bool) → calls_now called (heard_by r called x req k by_echo) ≡ called
not_called r called x true k by_echo = refl
not_called r called x false kind.Lua by_echo = refl
not_called roles.Caller called x false kind.Response by_echo = refl
not_called roles.Echo called x false kind.Response by_echo = refl
not_called roles.Killer called x false kind.Response by_echo = refl
not_called roles.Caller called x false kind.Error by_echo = refl
not_called roles.Echo called x false kind.Error by_echo = refl
not_called roles.Killer called x false kind.Error by_echo = refl
not_called roles.Echo called x false kind.Text by_echo = refl
not_called roles.Killer called x false kind.Text true = refl
not_called roles.Killer called x false kind.Text false = refl
not_called roles.Caller false x false kind.Text by_echo = refl
not_called roles.Caller true x false kind.Text by_echo = refl

message_step : (own : Handle) (r : Role) (called : Bool) (m : Message) → (own.0 == 0) ≡ false → Steps (record { own = own; role = r; called = called; task = tasks.Idle }) (Comes m) (fed (record { own = own; role = r; called = called; task = tasks.Idle }) (Comes m))
message_step own r called m e =
    let t = heard_by r called (held_of m) (is_request m) m.kind (m.source.0 == 3) in
    subst (λ b. Steps (record { own = own; role = r; called = called; task = tasks.Idle }) (Comes m) (record { own = own; role = r; called = b; task = t })) (sym (not_called r called (held_of m) (is_request m) m.kind (m.source.0 == 3)))
    (hears own r called e m (is_request m) m.kind (m.source.0 == 3) refl)

-- AN ANSWER

answer_step : (own : Handle) (r : Role) (called : Bool) (t : Task) (a : Answer) → (own.0 == 0) ≡ false → IsFirst t called → Fits (next_of own t) (Answers a)
    → Steps (record { own = own; role = r; called = called; task = t }) (Answers a) (fed (record { own = own; role = r; called = called; task = t }) (Answers a))
answer_step own r called tasks.Idle a e first fits = absurd fits
answer_step own r called tasks.Rouses a e first fits = ((e, tt), record { named = refl; moves = refl; draws = omega arith; marks = tt; may_mark = tt; learns = λ k c. absurd (none_in k c) })
answer_step own r called tasks.Alarms a e first fits = ((e, tt), record { named = refl; moves = refl; draws = omega arith; marks = tt; may_mark = tt; learns = λ k c. absurd (none_in k c) })
answer_step own r called (tasks.Seeks x) (Found (Some h)) e first fits = (
  (e, tt),
  record {
    named = refl;
    moves = (refl, refl, (reply_by own x, refl, record { kind = refl; session = refl; source = refl }));
    draws = rw e (omega arith);
    marks = tt;
    may_mark = tt;
    learns = λ k c. inr (ap Some (same_handle h x.source fits ∙ one_in x.source k c));
  },
)
answer_step own r called (tasks.Seeks x) (Found None) e first fits = ((e, tt), record { named = refl; moves = refl; draws = omega arith; marks = tt; may_mark = tt; learns = λ k c. absurd (none_in k c) })
answer_step own r called (tasks.Seeks x) (Flag f) e first fits = absurd fits
answer_step own r called (tasks.Seeks x) (Told n) e first fits = absurd fits
answer_step own r called (tasks.Seeks x) Done e first fits = absurd fits
answer_step own r called (tasks.Sends x) (Flag f) e first fits = ((e, tt), record { named = refl; moves = refl; draws = omega arith; marks = tt; may_mark = tt; learns = λ k c. absurd (none_in k c) })
answer_step own r called (tasks.Sends x) (Found f) e first fits = absurd fits
answer_step own r called (tasks.Sends x) (Told n) e first fits = absurd fits
answer_step own r called (tasks.Sends x) Done e first fits = absurd fits
answer_step own r called tasks.Looks (Found (Some h)) e first fits = (
  (e, tt),
  record {
    named = refl;
    moves = refl;
    draws = rw first (omega arith, omega arith);
    marks = tt;
    may_mark = tt;
    learns = λ k c. inr (ap Some (one_in h k c));
  },
)
answer_step own r called tasks.Looks (Found None) e first fits = ((e, tt), record { named = refl; moves = refl; draws = omega arith; marks = tt; may_mark = tt; learns = λ k c. absurd (none_in k c) })
answer_step own r called tasks.Looks (Flag f) e first fits = absurd fits
answer_step own r called tasks.Looks (Told n) e first fits = absurd fits
answer_step own r called tasks.Looks Done e first fits = absurd fits
answer_step own r called (tasks.Calls to) a e first fits = ((e, tt), record { named = refl; moves = refl; draws = omega arith; marks = tt; may_mark = tt; learns = λ k c. absurd (none_in k c) })
answer_step own r called (tasks.Notes o) a e first fits = ((e, tt), record { named = refl; moves = refl; draws = omega arith; marks = tt; may_mark = tt; learns = λ k c. absurd (none_in k c) })
answer_step own r called tasks.Retires (Flag true) e first fits = ((e, tt), record { named = refl; moves = refl; draws = omega arith; marks = refl; may_mark = inr refl; learns = λ k c. absurd (none_in k c) })
answer_step own r called tasks.Retires (Flag false) e first fits = ((e, tt), record { named = refl; moves = refl; draws = omega arith; marks = tt; may_mark = tt; learns = λ k c. absurd (none_in k c) })
answer_step own r called tasks.Retires (Found f) e first fits = absurd fits
answer_step own r called tasks.Retires (Told n) e first fits = absurd fits
answer_step own r called tasks.Retires Done e first fits = absurd fits
answer_step own r called tasks.Marks a e first fits = ((e, tt), record { named = refl; moves = refl; draws = omega arith; marks = tt; may_mark = tt; learns = λ k c. absurd (none_in k c) })

not_message : (own : Handle) (t : Task) (m : Message) → Fits (next_of own t) (Comes m) → t ≡ tasks.Idle
not_message own tasks.Idle m f = refl
not_message own tasks.Rouses m f = absurd f
not_message own tasks.Alarms m f = absurd f
not_message own (tasks.Seeks x) m f = absurd f
not_message own (tasks.Sends x) m f = absurd f
not_message own tasks.Looks m f = absurd f
not_message own (tasks.Calls to) m f = absurd f
not_message own (tasks.Notes o) m f = absurd f
not_message own tasks.Retires m f = absurd f
not_message own tasks.Marks m f = absurd f

step : (s : State) (i : Input) → player_sound s → Fits (next_of s.own s.task) i → Steps s i (fed s i)
step s (Comes m) sound fits =
    let is = not_message s.own s.task m fits in
    subst (λ t. Steps (record { own = s.own; role = s.role; called = s.called; task = t }) (Comes m) (fed (record { own = s.own; role = s.role; called = s.called; task = t }) (Comes m))) (sym is) (message_step s.own s.role s.called m sound.0)
step s (Answers a) sound fits = answer_step s.own s.role s.called s.task a sound.0 sound.1 fits

no_opening : (own : Handle) (s : State) → ◌≡◌ {A = Option State} None (Some s) → Begins player_way player_sound own s
no_opening own s e = absurd (cc)

pub player_lawful : IsLawful player_way player_sound
player_lawful = record {
  begin = λ name own s h. begun own name (own.0 == 0) s refl h;
  opened = no_opening;
  told = λ s h. sound_told s.own s.role s.called s.task h.0;
  step = step;
}
