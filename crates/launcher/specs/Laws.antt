-- The launcher as an actor, and that it keeps the laws of every service (skynet.lua and skynet_server.c).
use Rattle.std.specs.Prelude.{ℕ, ◌≡◌, ◌⊎◌, ◌<◌, Bool, true, false, List, [], ◌∷◌, ◌++◌, find, Option, Some, None, Contains, slice_index_or, refl}
use Rattle.std.specs.Option.{option_map}
use Rattle.std.proofs.Common.{arith, ap, sym, ◌∙◌, subst, cond, inl, inr, zero, suc}
use Rattle.sk_types.specs.declared.number.Handle.{Handle}
use Rattle.message.specs.Messages.{is_request, is_answer, is_lua, held_of}
use Rattle.message.specs.Actors.{Way, Fits, IsReply, IsStep, IsSound, IsLawful, Begins, Frees, MayMark, Marks, request_in, found_caller, drawn, retired}
use Rattle.message.specs.declared.request.Message.{Message}
use Rattle.message.specs.declared.request.Held.{Held}
use Rattle.message.specs.declared.request.Answer.{Answer}
use Rattle.message.specs.declared.request.Answer.TheVariants.{Found, Flag, Clock as Told, Done}
use Rattle.message.specs.declared.request.Input.{Input}
use Rattle.message.specs.declared.request.Input.TheVariants.{Message as Comes, Answer as Answers}
use Rattle.launcher.specs.declared.order.Order.{Order}
use Rattle.launcher.specs.declared.order.Order.TheVariants as order
use Rattle.launcher.specs.declared.desk.Service.{Service}
use Rattle.launcher.specs.declared.desk.Role.{Role}
use Rattle.launcher.specs.declared.desk.Role.TheVariants.{Pending}
use Rattle.launcher.specs.declared.desk.Taken.{Taken}
use Rattle.launcher.specs.declared.desk.Reply.{Reply}
use Rattle.launcher.specs.declared.desk.Reply.TheVariants as reply
use Rattle.launcher.specs.declared.desk.AfterReply.{AfterReply}
use Rattle.launcher.specs.declared.desk.AfterReply.TheVariants.{Rest, Report}
use Rattle.launcher.specs.declared.desk.Doing.{Doing}
use Rattle.launcher.specs.declared.desk.Doing.TheVariants.{Quiet, Launching, Telling, Retiring, Marking, Seeking, Sending}
use Rattle.launcher.specs.Orders.{order_of}
use Rattle.launcher.specs.Served.{NoneServed, Serving, IsServing, is_serving, last_pends, answers_serving, killed_serving, after_serving, heard_serving}
use Rattle.launcher.specs.Rows.{Desk, opened, without, at_first, is_served, is_pending, held, launcher, kind_of, answer, next_of, does, replies, answers, settles, unlisted, reply_of_removal, serves, role_of, taken, heard_order, heard, launched, killed, after_reply, told, fed, when_found}

-- the request whose answer is being sent
abbrev pub reply_to : Doing → Option Held
reply_to (Seeking x r after) = Some x
reply_to (Sending x r after) = Some x
reply_to _ = None

abbrev pub known_of : Doing → List Handle
known_of (Sending x r after) = x.source ∷ []
known_of _ = []

-- x is the request that it serves, or whose answer it sends
abbrev pub Serves : Desk → Held → Type 0
Serves l x = (reply_to l.doing ≡ Some x) ⊎ (option_map (λ t. t.held) (find is_served l.requests) ≡ Some x)

-- it draws no session, and no script is one
abbrev pub launcher_way : Way Desk
launcher_way = record {
  next = λ l. next_of l l.doing;
  fed = fed;
  held = λ l. held l.requests;
  reply = λ l. reply_to l.doing;
  handle = λ l. launcher;
  asked = λ l. 0;
  known = λ l. known_of l.doing;
  begins = λ name own. None;
  opens = λ own. None;
}

-- it serves at most one request, the last that it took, and none when it is idle
abbrev pub launcher_sound : Desk → Type 0
launcher_sound l = IsServing l

pub opened_begins : (start : List ℕ) → Begins launcher_way launcher_sound launcher (opened start)
opened_begins start = record { is_sound = tt; is_new = record { idle = refl; holds = refl; replies = refl; asks = refl; knows = refl; named = refl } }

-- LISTS

nothing_more : {X : Type 0} (xs : List X) → xs ≡ xs ++ []
nothing_more [] = refl
nothing_more (x ∷ xs) = ap (λ l. x ∷ l) (nothing_more xs)

held_more : (ts : List Taken) (t : Taken) → held (ts ++ t ∷ []) ≡ held ts ++ t.held ∷ []
held_more [] t = refl
held_more (x ∷ ts) t = ap (λ l. x.held ∷ l) (held_more ts t)

pends_head : (h : Handle) (t : Taken) (ts : List Taken) (b : Bool) → held (at_first is_served (λ x. record { role = Pending h; held = x.held }) ts) ≡ held ts → held (cond b (record { role = Pending h; held = t.held } ∷ ts) (t ∷ at_first is_served (λ x. record { role = Pending h; held = x.held }) ts)) ≡ t.held ∷ held ts
pends_head h t ts true ih = refl
pends_head h t ts false ih = ap (λ l. t.held ∷ l) ih

-- a launch that is pending is held as before
held_pends : (h : Handle) (ts : List Taken) → held (at_first is_served (λ x. record { role = Pending h; held = x.held }) ts) ≡ held ts
held_pends h [] = refl
held_pends h (t ∷ ts) = pends_head h t ts (is_served t) (held_pends h ts)

-- x is left out of all
abbrev LeftOut : List Held → Held → List Held → Type 0
LeftOut all x rest = (front : List Held) × (back : List Held) × (all ≡ front ++ x ∷ back) × (rest ≡ front ++ back)

left_out_head : (test : Taken → Bool) (y : Taken) (ys : List Taken) (x : Taken) (b : Bool) → (find test ys ≡ Some x → LeftOut (held ys) x.held (held (without test ys))) → cond b (Some y) (find test ys) ≡ Some x → LeftOut (y.held ∷ held ys) x.held (held (cond b ys (y ∷ without test ys)))
left_out_head test y ys x true ih e =
    let same : y ≡ x = cc in
    ([], held ys, ap (λ (z : Taken). z.held ∷ held ys) same, refl)
left_out_head test y ys x false ih e =
    let h = ih e in
    (y.held ∷ h.0, h.1, ap (λ l. y.held ∷ l) h.2, ap (λ l. y.held ∷ l) h.3)

-- what a search finds is left out with it
left_out : (test : Taken → Bool) (xs : List Taken) (x : Taken) → find test xs ≡ Some x → LeftOut (held xs) x.held (held (without test xs))
left_out test [] x e = absurd (cc)
left_out test (y ∷ ys) x e = left_out_head test y ys x (test y) (left_out test ys x) e

is_in : (h : Handle) → Contains (h ∷ []) h
is_in h = (0, omega arith, refl)

one_in : (h k : Handle) → Contains (h ∷ []) k → h ≡ k
one_in h k c = go c.0 c.1 c.2 where
  go : (n : ℕ) → n < 1 → slice_index_or (h ∷ []) n k ≡ k → h ≡ k
  go zero l e = e
  go (suc n) l e = absurd (omega (arith, l))

none_in : (k : Handle) → Contains [] k → ⊥
none_in k c = let l = c.1 in omega (arith, l)

-- the same handle, by its number
same_handle : (g h : Handle) → g.0 ≡ h.0 → g ≡ h
same_handle g h e = let f : ℕ → Handle = λ k. record { 0 = k } in ap f e

-- WHAT IT ASKS

answers_kind : (r : Reply) → is_answer (kind_of r) ≡ true
answers_kind reply.Failed = refl
answers_kind reply.Ended = refl
answers_kind (reply.Launched h) = refl
answers_kind (reply.Killed retired) = refl
answers_kind reply.Services = refl

is_answer_to : (services : List Service) (x : Held) (r : Reply) → IsReply launcher x (answer services x r)
is_answer_to services x r = record { kind = answers_kind r; session = refl; source = refl }

draws_nothing : (l : Desk) (d : Doing) → drawn (next_of l d) ≡ None
draws_nothing l Quiet = refl
draws_nothing l (Launching name args) = refl
draws_nothing l (Telling name) = refl
draws_nothing l (Retiring h) = refl
draws_nothing l (Marking h) = refl
draws_nothing l (Seeking x r after) = refl
draws_nothing l (Sending x reply.Failed after) = refl
draws_nothing l (Sending x reply.Ended after) = refl
draws_nothing l (Sending x (reply.Launched h) after) = refl
draws_nothing l (Sending x (reply.Killed retired) after) = refl
draws_nothing l (Sending x reply.Services after) = refl

is_sound : (services : List Service) (requests : List Taken) (d : Doing) → IsSound launcher_way (record { services = services; requests = requests; doing = d })
is_sound services requests Quiet = record { replying = tt; puts = tt; reaches = tt; waits = tt }
is_sound services requests (Launching name args) = record { replying = tt; puts = tt; reaches = tt; waits = tt }
is_sound services requests (Telling name) = record { replying = tt; puts = inl (refl, refl); reaches = inl refl; waits = tt }
is_sound services requests (Retiring h) = record { replying = tt; puts = tt; reaches = tt; waits = tt }
is_sound services requests (Marking h) = record { replying = tt; puts = tt; reaches = tt; waits = tt }
is_sound services requests (Seeking x r after) = record { replying = inl refl; puts = tt; reaches = tt; waits = tt }
is_sound services requests (Sending x r after) = record {
  replying = inr (answer services x r, refl, is_answer_to services x r);
  puts = inr (inr (x, refl, refl, is_answer_to services x r));
  reaches = inr (inr (inr (is_in x.source)));
  waits = tt;
}

-- STEPS

-- it asks neither a Mark nor the Put of a reply
abbrev Plain : Doing → Type 0
Plain (Marking h) = ⊥
Plain (Sending x r after) = ⊥
Plain _ = Unit {0}

plain_mark : (l : Desk) (d : Doing) (last : Option Handle) → Plain d → MayMark launcher_way l last (next_of l d)
plain_mark l Quiet last p = tt
plain_mark l (Launching name args) last p = tt
plain_mark l (Telling name) last p = tt
plain_mark l (Retiring h) last p = tt
plain_mark l (Marking h) last p = absurd p
plain_mark l (Seeking x r after) last p = tt
plain_mark l (Sending x r after) last p = tt

plain_known : (d : Doing) → Plain d → known_of d ≡ []
plain_known Quiet p = refl
plain_known (Launching name args) p = refl
plain_known (Telling name) p = refl
plain_known (Retiring h) p = refl
plain_known (Marking h) p = refl
plain_known (Seeking x r after) p = refl
plain_known (Sending x r after) p = absurd p

-- of all its requests one is left out and answered next, or none is
abbrev Settles : List Held → Desk → Type 0
Settles all l = Plain l.doing × Frees launcher_way all l (reply_to l.doing)

step_of : (s : Desk) (i : Input) (l : Desk) → launcher_sound l → Settles (held s.requests ++ request_in i) l → found_caller (reply_to s.doing) i ≡ None → Marks launcher_way l (next_of s s.doing) i → launcher_sound l × IsStep launcher_way s i l
step_of s i l sound settles no_caller marks = (
  sound,
  record {
    named = refl;
    moves = rw no_caller settles.1;
    draws = rw (draws_nothing l l.doing) (omega arith);
    marks = marks;
    may_mark = plain_mark l l.doing (retired (next_of s s.doing) i) settles.0;
    learns = λ k c. absurd (none_in k (subst (λ hs. Contains hs k) (plain_known l.doing settles.0) c));
  },
)

replies_settle : (all : List Held) (l : Desk) (test : Taken → Bool) (r : Reply) (after : AfterReply) (absent : Desk) → held l.requests ≡ all → Settles all absent → Settles all (replies l test r after absent)
replies_settle all l test r after absent e otherwise = go (find test l.requests) refl
  where
    go : (o : Option Taken) → find test l.requests ≡ o → Settles all (when_found o (λ t. does (record l { requests = without test l.requests }) (Seeking t.held r after)) absent)
    go None f = otherwise
    go (Some t) f = let h = left_out test l.requests t f in (tt, (h.0, h.1, sym e ∙ h.2, h.3, refl))

answers_settle : (all : List Held) (l : Desk) (r : Reply) → held l.requests ≡ all → Settles all (answers l r)
answers_settle all l r e = replies_settle all l is_served r Rest (does l Quiet) e (tt, e)

settles_settle : (all : List Held) (l : Desk) (h : Handle) (r : Reply) → held l.requests ≡ all → Settles all (settles l h r)
settles_settle all l h r e = replies_settle all l (is_pending h) r Rest (does l Quiet) e (tt, e)

killed_settle : (all : List Held) (l : Desk) (h : Handle) (b : Bool) → held l.requests ≡ all → Settles all (killed l h b)
killed_settle all l h b e = replies_settle all l (is_pending h) reply.Failed (Report b) (answers l (reply.Killed b)) e (answers_settle all l (reply.Killed b) e)

after_settle : (all : List Held) (l : Desk) (after : AfterReply) → held l.requests ≡ all → Settles all (after_reply l after)
after_settle all l Rest e = (tt, e)
after_settle all l (Report b) e = answers_settle all l (reply.Killed b) e

serves_settle : (all : List Held) (l : Desk) (source : Handle) (o : Order) → held l.requests ≡ all → Settles all (serves l source o)
serves_settle all l source (order.Launch name args) e = (tt, e)
serves_settle all l source order.LaunchOk e = settles_settle all l source (reply.Launched source) e
serves_settle all l source order.Error e = settles_settle all (unlisted l source) source reply.Failed e
serves_settle all l source (order.Remove h b) e = settles_settle all (unlisted l h) h (reply_of_removal b) e
serves_settle all l source (order.Kill h) e = (tt, e)
serves_settle all l source order.List e = answers_settle all l reply.Services e
serves_settle all l source order.Other e = answers_settle all l reply.Failed e

taken_held : (l : Desk) (m : Message) (role : Role) (b : Bool) → held (cond b (record l { requests = l.requests ++ (record { role = role; held = held_of m }) ∷ [] }) l).requests ≡ held l.requests ++ cond b (held_of m ∷ []) []
taken_held l m role true = held_more l.requests (record { role = role; held = held_of m })
taken_held l m role false = nothing_more (held l.requests)

not_request : (m : Message) → is_lua m.kind ≡ false → request_in (Comes m) ≡ []
not_request m e = rw e refl

heard_settle : (l : Desk) (m : Message) (b : Bool) → is_lua m.kind ≡ b → Settles (held l.requests ++ request_in (Comes m)) (cond b (heard_order l m (order_of m.body)) (does l Quiet))
heard_settle l m true e =
    let o = order_of m.body in
    serves_settle (held l.requests ++ request_in (Comes m)) (taken l m (role_of o)) m.source o (taken_held l m (role_of o) (is_request m))
heard_settle l m false e = (tt, nothing_more (held l.requests) ∙ ap (λ hs. held l.requests ++ hs) (sym (not_request m e)))

module _ (services : List Service) (requests : List Taken) where
  abbrev at : Doing → Desk
  at d = record { services = services; requests = requests; doing = d }

  abbrev Steps : Doing → Input → Desk → Type 0
  Steps d i l = launcher_sound l × IsStep launcher_way (at d) i l

  all : held requests ≡ held requests ++ []
  all = nothing_more (held requests)

  told_step : (d : Doing) (a : Answer) → Serving (is_serving d) requests → Fits (next_of (at d) d) (Answers a) → Steps d (Answers a) (told (at d) d a)
  told_step Quiet a sound fits = absurd fits
  told_step (Launching name args) (Found (Some h)) sound fits = step_of (at (Launching name args)) (Answers (Found (Some h))) (launched (at (Launching name args)) name h) (last_pends h requests sound) (tt, held_pends h requests ∙ all) refl tt
  told_step (Launching name args) (Found None) sound fits = step_of (at (Launching name args)) (Answers (Found None)) (at (Telling name)) sound (tt, all) refl tt
  told_step (Launching name args) (Flag f) sound fits = absurd fits
  told_step (Launching name args) (Told n) sound fits = absurd fits
  told_step (Launching name args) Done sound fits = absurd fits
  told_step (Telling name) a sound fits = step_of (at (Telling name)) (Answers a) (answers (at (Telling name)) reply.Failed) (answers_serving (at (Telling name)) reply.Failed sound) (answers_settle _ (at (Telling name)) reply.Failed all) refl tt
  told_step (Retiring h) (Flag true) sound fits = (
    sound,
    record { named = refl; moves = all; draws = omega arith; marks = refl; may_mark = inr refl; learns = λ k c. absurd (none_in k c) },
  )
  told_step (Retiring h) (Flag false) sound fits = step_of (at (Retiring h)) (Answers (Flag false)) (killed (at (Retiring h)) h false) (killed_serving (at (Retiring h)) h false sound) (killed_settle _ (at (Retiring h)) h false all) refl tt
  told_step (Retiring h) (Found f) sound fits = absurd fits
  told_step (Retiring h) (Told n) sound fits = absurd fits
  told_step (Retiring h) Done sound fits = absurd fits
  told_step (Marking h) a sound fits = step_of (at (Marking h)) (Answers a) (killed (at (Marking h)) h true) (killed_serving (at (Marking h)) h true sound) (killed_settle _ (at (Marking h)) h true all) refl tt
  told_step (Seeking x r after) (Found (Some h)) sound fits = (
    sound,
    record {
      named = refl;
      moves = (refl, refl, (answer services x r, refl, is_answer_to services x r));
      draws = rw (draws_nothing (at (Sending x r after)) (Sending x r after)) (omega arith);
      marks = tt;
      may_mark = tt;
      learns = λ k c. inr (ap Some (same_handle h x.source fits ∙ one_in x.source k c));
    },
  )
  told_step (Seeking x r after) (Found None) sound fits = step_of (at (Seeking x r after)) (Answers (Found None)) (after_reply (at (Seeking x r after)) after) (after_serving (at (Seeking x r after)) after sound) (after_settle _ (at (Seeking x r after)) after all) refl tt
  told_step (Seeking x r after) (Flag f) sound fits = absurd fits
  told_step (Seeking x r after) (Told n) sound fits = absurd fits
  told_step (Seeking x r after) Done sound fits = absurd fits
  told_step (Sending x r after) (Flag f) sound fits = step_of (at (Sending x r after)) (Answers (Flag f)) (after_reply (at (Sending x r after)) after) (after_serving (at (Sending x r after)) after sound) (after_settle _ (at (Sending x r after)) after all) refl tt
  told_step (Sending x r after) (Found f) sound fits = absurd fits
  told_step (Sending x r after) (Told n) sound fits = absurd fits
  told_step (Sending x r after) Done sound fits = absurd fits

not_message : (l : Desk) (d : Doing) (m : Message) → Fits (next_of l d) (Comes m) → d ≡ Quiet
not_message l Quiet m f = refl
not_message l (Launching name args) m f = absurd f
not_message l (Telling name) m f = absurd f
not_message l (Retiring h) m f = absurd f
not_message l (Marking h) m f = absurd f
not_message l (Seeking x r after) m f = absurd f
not_message l (Sending x r after) m f = absurd f

heard_sound : (l : Desk) (m : Message) (b : Bool) → NoneServed l.requests → launcher_sound (cond b (heard_order l m (order_of m.body)) (does l Quiet))
heard_sound l m true n = heard_serving l m (order_of m.body) n
heard_sound l m false n = n

heard_step : (services : List Service) (requests : List Taken) (m : Message) → NoneServed requests → launcher_sound (heard (record { services = services; requests = requests; doing = Quiet }) m) × IsStep launcher_way (record { services = services; requests = requests; doing = Quiet }) (Comes m) (heard (record { services = services; requests = requests; doing = Quiet }) m)
heard_step services requests m none =
    let l : Desk = record { services = services; requests = requests; doing = Quiet } in
    step_of l (Comes m) (heard l m) (heard_sound l m (is_lua m.kind) none) (heard_settle l m (is_lua m.kind) refl) refl tt

step : (l : Desk) (i : Input) → launcher_sound l → Fits (next_of l l.doing) i → launcher_sound (fed l i) × IsStep launcher_way l i (fed l i)
step l (Comes m) sound fits =
    let is = not_message l l.doing m fits in
    let none : NoneServed l.requests = subst (λ d. Serving (is_serving d) l.requests) is sound in
    subst (λ d. launcher_sound (fed (record { services = l.services; requests = l.requests; doing = d }) (Comes m)) × IsStep launcher_way (record { services = l.services; requests = l.requests; doing = d }) (Comes m) (fed (record { services = l.services; requests = l.requests; doing = d }) (Comes m))) (sym is) (heard_step l.services l.requests m none)
step l (Answers a) sound fits = told_step l.services l.requests l.doing a sound fits

no_opening : (own : Handle) (l : Desk) → ◌≡◌ {A = Option Desk} None (Some l) → Begins launcher_way launcher_sound own l
no_opening own l e = absurd (cc)

pub launcher_lawful : IsLawful launcher_way launcher_sound
launcher_lawful = record {
  begin = λ name own l h. no_opening own l h;
  opened = no_opening;
  told = λ l h. is_sound l.services l.requests l.doing;
  step = step;
}
