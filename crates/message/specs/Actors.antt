-- What an actor is: a machine that is fed one input after another and asks one request at a time, and the laws
-- that every service of skynet keeps (skynet.lua and skynet_server.c).
use Rattle.std.specs.Prelude.{ℕ, ◌≡◌, ◌<◌, ◌≤◌, ◌==◌, ◌&&◌, ◌||◌, true, false, List, [], ◌∷◌, ◌++◌, Option, Some, None, if◌then◌else◌, ◌⊎◌, Contains}
use Rattle.message.specs.Messages.{is_request, is_answer, held_of}
use Rattle.sk_types.specs.declared.number.Handle.{Handle}
use Rattle.message.specs.declared.request.Message.{Message}
use Rattle.message.specs.declared.request.Held.{Held}
use Rattle.message.specs.declared.request.Dest.TheVariants.{Number, Name}
use Rattle.message.specs.declared.request.Request.{Request}
use Rattle.message.specs.declared.request.Request.TheVariants as ask
use Rattle.message.specs.declared.request.Answer.{Answer}
use Rattle.message.specs.declared.request.Answer.TheVariants.{Found, Flag, Clock as Told, Done}
use Rattle.message.specs.declared.request.Input.{Input}
use Rattle.message.specs.declared.request.Input.TheVariants.{Message as Comes, Answer as Answers}
use Rattle.message.specs.declared.request.Next.{Next}
use Rattle.message.specs.declared.request.Next.TheVariants.{Idle, Ask}

-- WHAT IT IS FED

-- the answers that a request may get
abbrev pub MayAnswer : Request → Answer → Type 0
MayAnswer (ask.Look (Number n)) (Found None) = Unit {0}
MayAnswer (ask.Look (Number n)) (Found (Some h)) = h.0 ≡ n
MayAnswer (ask.Look (Name t)) (Found found) = Unit {0}
MayAnswer (ask.Put h m) (Flag taken) = Unit {0}
MayAnswer (ask.Launch name args) (Found found) = Unit {0}
MayAnswer (ask.Name text h) (Flag named) = Unit {0}
MayAnswer (ask.Retire h) (Flag retired) = Unit {0}
MayAnswer (ask.Mark h) Done = Unit {0}
MayAnswer (ask.Later n x) Done = Unit {0}
MayAnswer ask.Now (Told n) = Unit {0}
MayAnswer _ _ = ⊥

-- the inputs that an actor may be fed: a message where it is idle, else an answer to what it asks
abbrev pub Fits : Next → Input → Type 0
Fits Idle (Comes m) = Unit {0}
Fits Idle (Answers a) = ⊥
Fits (Ask r) (Comes m) = ⊥
Fits (Ask r) (Answers a) = MayAnswer r a

-- the requests that an input brings
abbrev pub request_in : Input → List Held
request_in (Comes m) = if is_request m then held_of m ∷ [] else []
request_in (Answers a) = []

-- WHAT IT IS

-- how an actor goes, over what its states mean
pub record Way (S : Type 0) : Type 0 where
  -- whether it waits for a message, or what it asks
  pub next : S → Next
  -- the state after an input
  pub fed : S → Input → S
  -- the requests that it holds, in the order taken
  pub held : S → List Held
  -- the request whose answer it is sending
  pub reply : S → Option Held
  pub handle : S → Handle
  -- the last session with which it put a request or its own response, or asked a timer; 0 where there was none
  pub asked : S → ℕ
  -- the handles that Looks gave it and that it may still put to
  pub known : S → List Handle
  -- how the script of this name begins under this handle: None where there is no such script, or it does not read
  pub begins : List ℕ → Handle → Option S
  -- how the first three services of a run begin
  pub opens : Handle → Option S

-- THE LAWS

-- m is the answer of own to the request x
pub record IsReply (own : Handle) (x : Held) (m : Message) : Type 0 where
  pub kind : is_answer m.kind ≡ true
  pub session : m.session ≡ x.session
  pub source : m.source ≡ own

-- the next request is the Look of the caller of x
abbrev pub Looks : {S : Type 0} → Way S → Held → S → Type 0
Looks way x s = way.next s ≡ Ask (ask.Look (Number x.source.0))

-- the next request is the Put of the answer to x
abbrev pub Sends : {S : Type 0} → Way S → Held → S → Type 0
Sends way x s = (m : Message) × (way.next s ≡ Ask (ask.Put x.source m)) × IsReply (way.handle s) x m

-- how far the actor is with the request that it answers
abbrev pub Replying : {S : Type 0} → Way S → S → Option Held → Type 0
Replying way s None = Unit {0}
Replying way s (Some x) = Looks way x s ⊎ Sends way x s

-- of all its requests one is taken out, to be answered next; or none is
abbrev pub Frees : {S : Type 0} → Way S → List Held → S → Option Held → Type 0
Frees way all s None = way.held s ≡ all
Frees way all s (Some x) = (front : List Held) × (back : List Held) × (all ≡ front ++ x ∷ back) × (way.held s ≡ front ++ back) × Looks way x s

-- the Look of a reply found its caller
abbrev pub found_caller : Option Held → Input → Option Held
found_caller (Some x) (Answers (Found (Some h))) = Some x
found_caller _ _ = None

-- A request that is fed is added last to the held ones. It leaves them when it becomes the reply, whose caller is
-- then looked up; it stays the reply until that Look finds nobody or its Put is answered; and a Look that finds the
-- caller is followed by that Put.
abbrev pub Moves : {S : Type 0} → Way S → S → Input → S → Option Held → Type 0
Moves way s i s2 (Some x) = (way.reply s2 ≡ Some x) × (way.held s2 ≡ way.held s) × Sends way x s2
Moves way s i s2 None = Frees way (way.held s ++ request_in i) s2 (way.reply s2)

-- A message that it puts has its own handle as source. It is no answer, or the answer that it sends, or its own
-- response, which goes to itself with source 0.
abbrev pub MayPut : {S : Type 0} → Way S → S → Next → Type 0
MayPut way s (Ask (ask.Put h m)) = ((is_answer m.kind ≡ false) × (m.source ≡ way.handle s))
    ⊎ ((h ≡ way.handle s) × (m.source.0 ≡ 0) × (is_answer m.kind ≡ true))
    ⊎ ((x : Held) × (way.reply s ≡ Some x) × (h ≡ x.source) × IsReply (way.handle s) x m)
MayPut way s _ = Unit {0}

-- it puts only to the logger, to the launcher, to itself, and to handles that a Look gave it
abbrev pub MayReach : {S : Type 0} → Way S → S → Next → Type 0
MayReach way s (Ask (ask.Put h m)) = (h.0 ≡ 1) ⊎ (h.0 ≡ 2) ⊎ (h ≡ way.handle s) ⊎ Contains (way.known s) h
MayReach way s _ = Unit {0}

-- a timer takes from 1 to 2,147,483,647 ticks, as skynet_timeout's int does
abbrev pub MayWait : Next → Type 0
MayWait (Ask (ask.Later n x)) = (1 ≤ n) × (n ≤ 2147483647)
MayWait _ = Unit {0}

-- the session that the next request draws: that of a request, of its own response, or of a timer
abbrev pub drawn : Next → Option ℕ
drawn (Ask (ask.Put h m)) = if is_request m || (is_answer m.kind && (m.source.0 == 0)) then Some m.session.0 else None
drawn (Ask (ask.Later n x)) = Some x.0
drawn _ = None

-- no session is drawn twice: each is above the last
abbrev pub DrawsAbove : ℕ → ℕ → Option ℕ → Type 0
DrawsAbove before after None = before ≤ after
DrawsAbove before after (Some n) = (before < n) × (n ≤ after)

-- a Retire that was answered true is followed by the Mark of that handle
abbrev pub Marks : {S : Type 0} → Way S → S → Next → Input → Type 0
Marks way s2 (Ask (ask.Retire h)) (Answers (Flag true)) = way.next s2 ≡ Ask (ask.Mark h)
Marks way s2 _ _ = Unit {0}

-- the handle of which it was answered that it is listed no more
abbrev pub retired : Next → Input → Option Handle
retired (Ask (ask.Retire h)) (Answers (Flag true)) = Some h
retired _ _ = None

-- it asks a Mark only of itself, or of the handle that it has just retired
abbrev pub MayMark : {S : Type 0} → Way S → S → Option Handle → Next → Type 0
MayMark way s2 last (Ask (ask.Mark h)) = (h ≡ way.handle s2) ⊎ (last ≡ Some h)
MayMark way s2 last _ = Unit {0}

-- the handle that the answer to a Look gives
abbrev pub looked_up : Next → Input → Option Handle
looked_up (Ask (ask.Look d)) (Answers (Found found)) = found
looked_up _ _ = None

-- it learns handles from Looks alone
abbrev pub Learns : {S : Type 0} → Way S → S → Input → S → Type 0
Learns way s i s2 = (h : Handle) → Contains (way.known s2) h → Contains (way.known s) h ⊎ (looked_up (way.next s) i ≡ Some h)

-- a new actor: idle, and it has done nothing yet
pub record IsNew {S : Type 0} (way : Way S) (own : Handle) (s : S) : Type 0 where
  pub idle : way.next s ≡ Idle
  pub holds : way.held s ≡ []
  pub replies : way.reply s ≡ None
  pub asks : way.asked s ≡ 0
  pub knows : way.known s ≡ []
  pub named : way.handle s ≡ own

-- what holds of each state
pub record IsSound {S : Type 0} (way : Way S) (s : S) : Type 0 where
  pub replying : Replying way s (way.reply s)
  pub puts : MayPut way s (way.next s)
  pub reaches : MayReach way s (way.next s)
  pub waits : MayWait (way.next s)

-- what each step keeps
pub record IsStep {S : Type 0} (way : Way S) (s : S) (i : Input) (s2 : S) : Type 0 where
  pub named : way.handle s2 ≡ way.handle s
  pub moves : Moves way s i s2 (found_caller (way.reply s) i)
  pub draws : DrawsAbove (way.asked s) (way.asked s2) (drawn (way.next s2))
  pub marks : Marks way s2 (way.next s) i
  pub may_mark : MayMark way s2 (retired (way.next s) i) (way.next s2)
  pub learns : Learns way s i s2

-- the state is one of the type's own, and new
pub record Begins {S : Type 0} (way : Way S) (sound : S → Type 0) (own : Handle) (s : S) : Type 0 where
  pub is_sound : sound s
  pub is_new : IsNew way own s

-- The laws of an actor. sound holds of the states that can be reached: of each beginning, and of each state after
-- an input that fits.
pub record IsLawful {S : Type 0} (way : Way S) (sound : S → Type 0) : Type 0 where
  pub begin : (name : List ℕ) (own : Handle) (s : S) → way.begins name own ≡ Some s → Begins way sound own s
  pub opened : (own : Handle) (s : S) → way.opens own ≡ Some s → Begins way sound own s
  pub told : (s : S) → sound s → IsSound way s
  pub step : (s : S) (i : Input) → sound s → Fits (way.next s) i → sound (way.fed s i) × IsStep way s i (way.fed s i)
