-- The list of calls follows an act.
use Rattle.std.proofs.Common.{inl, ◌≡◌, ℕ, ◌<◌, ◌≤◌, ◌-◌, ◌==◌, length, get_or, slice_set, Bool, true, false, List, [], ◌∷◌, Option, Some, None, cond, refl, ap, sym, ◌∙◌, subst, arith}
use Rattle.std.specs.Map.{remove_entry}
use Rattle.std.specs.BTreeMap.{is_at}
use Rattle.message.specs.declared.datum.Datum.{Datum}
use Rattle.std.proofs.lemmas.Bool.Decides.{nat_tests}
use Rattle.sk_types.specs.declared.number.Handle.{Handle}
use Rattle.sk_types.specs.declared.number.Session.{Session}
use Rattle.message.specs.Messages.{is_request, held_of}
use Rattle.message.specs.Actors.{Way, IsLawful}
use Rattle.message.specs.Inboxes.{put, mark, accepts, end, take_first}
use Rattle.message.specs.Registries.{at, set_at, does_look, does_name, does_retire, look, may_name, may_retire}
use Rattle.message.specs.Clocks.{add}
use Rattle.message.specs.Steps.{Agent, Asks, Serves, Times, IsOne, ops, op_of, due_ops, service_ops, input_of}
use Rattle.message.specs.Worlds.{World, agent, over, service_over}
use Rattle.message.specs.declared.request.Held.{Held as Pending}
use Rattle.message.specs.declared.request.Message.{Message}
use Rattle.message.specs.declared.request.Dest.{Dest}
use Rattle.message.specs.declared.request.Request.{Request}
use Rattle.message.specs.declared.request.Request.TheVariants as ask
use Rattle.message.specs.declared.request.Answer.{Answer}
use Rattle.message.specs.declared.request.Answer.TheVariants.{Found, Flag, Clock as Told, Done}
use Rattle.message.specs.declared.request.Input.TheVariants.{Answer as Answers, Message as Comes}
use Rattle.message.specs.declared.record.What.{What}
use Rattle.message.specs.declared.record.What.TheVariants as did
use Rattle.message.specs.declared.place.InboxState.{InboxState}
use Rattle.message.specs.declared.place.Service.{Service}
use Rattle.message.specs.declared.place.Service.TheVariants.{Serving, Leaving}
use Rattle.call_fates.specs.Calls.{Call, one, one_if, one_of, asks}
use Rattle.call_fates.specs.Fates.{makes, answers, fails, voids, replying}
use Rattle.call_fates.specs.Flows.{receives}
use Rattle.call_fates.specs.Kept.{turns, fate_by, turned_by, receiver, next_state, Follows}
use Rattle.call_fates.specs.Table.{Table, key_cmp, state_at, with_fate, is_key, call_of, Becomes}
use Rattle.call_fates.specs.declared.calls.CallKey.{CallKey}
use Rattle.call_fates.specs.declared.calls.CallState.{CallState}
use Rattle.call_fates.specs.declared.calls.Fate.TheVariants.{Waiting, OnItsWay, Void}
use Rattle.call_fates.proofs.Table.{key_is, sets_none}
use Rattle.call_fates.proofs.Adding.{takes_added, absent}
use Rattle.call_fates.proofs.Forms.{ClockDid, ticks, fires, clock_did}
use Rattle.call_fates.proofs.Inverts.{Acted, acted}
use Rattle.call_fates.specs.Kept.{IsKept}
use Rattle.world_machine.specs.Machines.{Did}
use Rattle.world_machine.specs.Idling.{IsLineAhead}
use Rattle.world_machine.specs.Standing.{StandsAt}
use Rattle.world_machine.specs.Launching.{Brings, Hears, clock_agent}
use Rattle.world_machine.specs.declared.served.Stage.TheVariants as stage
use Rattle.world_machine.proofs.Idling.{inboxes_set, ends_did, takes_did}
use Rattle.world_machine.proofs.Launching.{still_there, launches_did}
use Rattle.world_machine.specs.declared.calling.NewCall.{NewCall}
use Rattle.world_machine.specs.Serving.{answered, taken, ended, IsIdle}
use Rattle.world_machine.proofs.Asking.{asks_did, agent_serves, seen}
use Rattle.world_machine.specs.Spots.{Spots, in_registry, in_clock, in_inbox_of, asked_at, with_spots, Gives}
use Rattle.world_machine.specs.Calling.{Goes, new_call, call_in, reply_in, is_refusal, IsAbsent, Added, Opens, Withdraws, Settles, sending, Turns, Receives, Buries, EndsCalls}

-- WITH NO NEW CALL, AND NOTHING TAKEN

-- the act makes no call, and takes nothing
pub record IsQuiet (h : Handle) (what : What) : Type 0 where
  pub makes_none : (c : Call) → makes c what ≡ 0
  pub answers_none : (c : Call) → answers c h what ≡ 0
  pub fails_none : (c : Call) → fails c h what ≡ 0
  pub receives_none : (c : Call) → receives c h.0 what ≡ 0

module _ {S : Type 0} (way : Way S) (w : World S) (h : Handle) (x : Service S) (there : agent w h ≡ Some (Serves x)) where
  -- what becomes of one call, by the service
  abbrev pub State : What → CallKey → Option CallState → Option CallState
  State what q s = next_state way (call_of q) h (Some (Serves x)) what s

  by_service : (what : What) (all all2 : Table) → ((q : CallKey) → state_at all2 q ≡ State what q (state_at all q)) → Follows way w h what all all2
  by_service what all all2 each = record { each = λ q. each q ∙ sym (ap (λ a. next_state way (call_of q) h a what (state_at all q)) there) }

  quiet_state : (makes_n voids_n answers_n fails_n receives_n : ℕ) (s new : Option CallState) → makes_n ≡ 0 → answers_n ≡ 0 → fails_n ≡ 0 → receives_n ≡ 0
      → cond (voids_n == 0) s (with_fate Void s) ≡ cond (makes_n == 0) (fate_by voids_n answers_n fails_n receives_n s) new
  quiet_state m v a f r s new zm za zf zr = rw (zm, za, zf, zr) refl

  pub quiet_follows : (what : What) (all mid all2 : Table) → IsQuiet h what → Becomes Void (λ c. voids c h (replying way x) what) all mid → Becomes OnItsWay (λ c. turns way c h.0 x what) mid all2 → Follows way w h what all all2
  quiet_follows what all mid all2 quiet one two = by_service what all all2 (λ q.
      two.each q ∙ ap (turned_by (turns way (call_of q) h.0 x what)) (one.each q
      ∙ quiet_state (makes (call_of q) what) (voids (call_of q) h (replying way x) what) (answers (call_of q) h what) (fails (call_of q) h what) (receives (call_of q) h.0 what) (state_at all q) (Some (record { callee = receiver what; fate = Waiting }))
      (quiet.makes_none (call_of q)) (quiet.answers_none (call_of q)) (quiet.fails_none (call_of q)) (quiet.receives_none (call_of q))))

  -- where nothing is void
  pub still_follows : (what : What) (all all2 : Table) → IsQuiet h what → ((c : Call) → voids c h (replying way x) what ≡ 0) → Becomes OnItsWay (λ c. turns way c h.0 x what) all all2 → Follows way w h what all all2
  still_follows what all all2 quiet none two = quiet_follows what all all all2 quiet (sets_none all Void (λ c. voids c h (replying way x) what) (λ q. none (call_of q))) two

  -- A CALL IS MADE

  counted : {X : Type 0} (b : Bool) (n : ℕ) (s t : X) → n ≡ one_if b → cond b t s ≡ cond (n == 0) s t
  counted true n s t e = let k : (n == 0) ≡ false = grind (arith, nat_tests, e) in rw k refl
  counted false n s t e = let k : (n == 0) ≡ true = grind (arith, nat_tests, e) in rw k refl

  made_count : (to : Handle) (m : Message) (q : CallKey) → is_request m ≡ true → makes (call_of q) (did.Put to m true) ≡ one_if (is_key (record { caller = m.source; session = m.session }) q)
  made_count to m q req = rw req (ap one_if (sym (key_is (record { caller = m.source; session = m.session }) q)))

  pub made_follows : (to : Handle) (m : Message) (all mid all2 : Table) → is_request m ≡ true → Added (record { key = record { caller = m.source; session = m.session }; callee = to }) all mid → Becomes OnItsWay (λ c. turns way c h.0 x (did.Put to m true)) mid all2 → Follows way w h (did.Put to m true) all all2
  made_follows to m all mid all2 req added two = by_service (did.Put to m true) all all2 (λ q.
      two.each q ∙ ap (turned_by (turns way (call_of q) h.0 x (did.Put to m true))) (added.replaced.each q
      ∙ counted (is_key (record { caller = m.source; session = m.session }) q) (makes (call_of q) (did.Put to m true)) (state_at all q) (Some (record { callee = to; fate = Waiting })) (made_count to m q req)))

  -- A MESSAGE IS TAKEN

  pub taken_follows : (m : Message) (left : ℕ) (all mid all2 : Table) → Receives h m all mid → Becomes OnItsWay (λ c. turns way c h.0 x (did.Take m left)) mid all2 → Follows way w h (did.Take m left) all all2
  taken_follows m left all mid all2 one two = by_service (did.Take m left) all all2 (λ q. two.each q ∙ ap (turned_by (turns way (call_of q) h.0 x (did.Take m left))) (one.each q))

  -- IT ENDS

  pub ended_follows : (s : S) (ms : List Message) (all all2 : Table) → x ≡ Serving s → EndsCalls way x h ms all all2 → Follows way w h (did.End ms) all all2
  ended_follows s ms all all2 is b =
      let k : Buries h (way.held s) ms all all2 = subst (λ y. EndsCalls way y h ms all all2) is b in
      let two : Becomes OnItsWay (λ c. turns way c h.0 (Serving s) (did.End ms)) k.0 all2 = record { each = λ q. k.2.each q } in
      let quiet : IsQuiet h (did.End ms) = record { makes_none = λ c. refl; answers_none = λ c. refl; fails_none = λ c. refl; receives_none = λ c. refl } in
      quiet_follows (did.End ms) all k.0 all2 quiet (record { each = λ q. k.1.each q }) (subst (λ y. Becomes OnItsWay (λ c. turns way c h.0 y (did.End ms)) k.0 all2) (sym is) two)

-- WHAT A REQUEST DID

-- the request, its answer, and what was done
pub data AsksSo : Request → Answer → What → Type 0 where
  looks : (dest : Dest) (found : Option Handle) → AsksSo (ask.Look dest) (Found found) (did.Look dest found)
  puts : (to : Handle) (m : Message) (taken : Bool) → AsksSo (ask.Put to m) (Flag taken) (did.Put to m taken)
  names : (text : List ℕ) (g : Handle) (named : Bool) → AsksSo (ask.Name text g) (Flag named) (did.Name text g named)
  retires : (g : Handle) (retired : Bool) → AsksSo (ask.Retire g) (Flag retired) (did.Retire g retired)
  marks : (g : Handle) → AsksSo (ask.Mark g) Done (did.Mark g)
  waits : (n : ℕ) (y : Session) → AsksSo (ask.Later n y) Done (did.Later n y)
  tells : (n : ℕ) → AsksSo ask.Now (Told n) (did.Now n)

answer_is : (a b : Answer) → Answers a ≡ Answers b → a ≡ b
answer_is a b e = cc

so : (r : Request) (a b : Answer) (what what2 : What) → AsksSo r a what → what ≡ what2 → input_of what ≡ Answers a → input_of what2 ≡ Answers b → AsksSo r b what2
so r a b what what2 k same was is =
    let e : a ≡ b = answer_is a b (sym was ∙ (ap input_of same ∙ is)) in
    subst (λ z. AsksSo r z what2) e (subst (AsksSo r a) same k)

first_is : {X Y : Type 0} (p q : X × Y) → Some p ≡ Some q → p.0 ≡ q.0
first_is p q e = let same : p ≡ q = cc in ap (λ z. z.0) same

pub asks_so : (own : Handle) (r : Request) (p : Spots) (d : What × Spots) (a : Answer) → asked_at own r p ≡ Some d → input_of d.0 ≡ Answers a → AsksSo r a d.0
asks_so own (ask.Look dest) p d a e is = so (ask.Look dest) (Found (look p.registry dest)) a (did.Look dest (look p.registry dest)) d.0 (looks dest (look p.registry dest)) (first_is (in_registry p (does_look p.registry dest)) d e) refl is
asks_so own (ask.Name text g) p d a e is = so (ask.Name text g) (Flag (may_name p.registry text g)) a (did.Name text g (may_name p.registry text g)) d.0 (names text g (may_name p.registry text g)) (first_is (in_registry p (does_name p.registry text g)) d e) refl is
asks_so own (ask.Retire g) p d a e is = so (ask.Retire g) (Flag (may_retire p.registry g)) a (did.Retire g (may_retire p.registry g)) d.0 (retires g (may_retire p.registry g)) (first_is (in_registry p (does_retire p.registry g)) d e) refl is
asks_so own (ask.Launch name args) p d a e is = absurd (cc)
asks_so own (ask.Later n y) p d a e is = so (ask.Later n y) Done a (did.Later n y) d.0 (waits n y) (first_is (in_clock p (did.Later n y, add p.clock n own y)) d e) refl is
asks_so own ask.Now p d a e is = so ask.Now (Told p.clock.now) a (did.Now p.clock.now) d.0 (tells p.clock.now) (first_is (in_clock p (did.Now p.clock.now, p.clock)) d e) refl is
asks_so own (ask.Put to m) p d a e is = go (at p.inboxes to.0) e where
  go : (q : Option InboxState) → in_inbox_of p to.0 q (λ i. put to m i) ≡ Some d → AsksSo (ask.Put to m) a d.0
  go None k = absurd (cc)
  go (Some i) k = so (ask.Put to m) (Flag (accepts i.status)) a (did.Put to m (accepts i.status)) d.0 (puts to m (accepts i.status)) (first_is ((put to m i).0, record { inboxes = set_at p.inboxes to.0 (put to m i).1; registry = p.registry; clock = p.clock }) d k) refl is
asks_so own (ask.Mark g) p d a e is = go (at p.inboxes g.0) e where
  go : (q : Option InboxState) → in_inbox_of p g.0 q (λ i. mark g i) ≡ Some d → AsksSo (ask.Mark g) a d.0
  go None k = absurd (cc)
  go (Some i) k = so (ask.Mark g) Done a (did.Mark g) d.0 (marks g) (first_is ((mark g i).0, record { inboxes = set_at p.inboxes g.0 (mark g i).1; registry = p.registry; clock = p.clock }) d k) refl is

-- what a request that was added and taken back leaves
pub withdrawn : (call : Option NewCall) (all mid all2 : Table) → IsAbsent call all → Opens call all mid → Withdraws call mid all2 → all2 ≡ all
withdrawn None all mid all2 absent opened back = back ∙ opened
withdrawn (Some c) all mid all2 absent opened back =
    back ∙ (ap (λ z. remove_entry (is_at (key_cmp c.key)) z) opened.put_in ∙ takes_added all c.key (record { callee = c.callee; fate = Waiting }) absent)

settled_not : (call : Option NewCall) (sent : Option Pending) (all mid all2 : Table) → IsAbsent call all → Opens call all mid → Settles call sent true mid all2 → Becomes Void (λ c. one_of c 0 sent) all all2
settled_not call sent all mid all2 absent opened s = subst (λ z. Becomes Void (λ c. one_of c 0 sent) z all2) (withdrawn call all mid s.0 absent opened s.1) s.2

module _ {S : Type 0} (way : Way S) (w : World S) (h : Handle) (x : Service S) (there : agent w h ≡ Some (Serves x)) where
  quiet : (what : What) → ((c : Call) → makes c what ≡ 0) → ((c : Call) → answers c h what ≡ 0) → ((c : Call) → fails c h what ≡ 0) → ((c : Call) → receives c h.0 what ≡ 0) → IsQuiet h what
  quiet what m a f r = record { makes_none = m; answers_none = a; fails_none = f; receives_none = r }

  -- a request that is neither a Look nor a Put
  other : (what : What) (a : Answer) (call : Option NewCall) (refused : Bool) (all a1 a2 all2 : Table) → call ≡ None → IsQuiet h what → ((c : Call) → voids c h (replying way x) what ≡ 0)
      → Opens call all a1 → Settles call None refused a1 a2 → Becomes OnItsWay (λ c. turns way c h.0 x what) a2 all2 → Follows way w h what all all2
  other what a None false all a1 a2 all2 no_call q none opened s two = still_follows way w h x there what all all2 q none (subst (λ z. Becomes OnItsWay (λ c. turns way c h.0 x what) z all2) (s ∙ opened) two)
  other what a None true all a1 a2 all2 no_call q none opened s two =
      let b : Becomes Void (λ c. 0) all a2 = subst (λ z. Becomes Void (λ c. 0) z a2) (s.1 ∙ opened) s.2 in
      quiet_follows way w h x there what all a2 all2 q (record { each = λ k. b.each k ∙ sym (ap (λ n. cond (n == 0) (state_at all k) (with_fate Void (state_at all k))) (none (call_of k))) }) two
  other what a (Some c) refused all a1 a2 all2 no_call q none opened s two = absurd (cc)

  put_follows : (to : Handle) (m : Message) (taken req : Bool) (all a1 a2 all2 : Table) → is_request m ≡ req → IsAbsent (new_call to m req) all → Opens (new_call to m req) all a1
      → Settles (new_call to m req) (replying way x) (is_refusal (Flag taken)) a1 a2 → Becomes OnItsWay (λ c. turns way c h.0 x (did.Put to m taken)) a2 all2 → Follows way w h (did.Put to m taken) all all2
  put_follows to m true true all a1 a2 all2 is absent opened s two =
      made_follows way w h x there to m all a1 all2 is opened (subst (λ z. Becomes OnItsWay (λ c. turns way c h.0 x (did.Put to m true)) z all2) s two)
  put_follows to m true false all a1 a2 all2 is absent opened s two =
      still_follows way w h x there (did.Put to m true) all all2 (quiet (did.Put to m true) (λ c. ap (λ b. cond b (one c to.0 (held_of m)) 0) is) (λ c. refl) (λ c. refl) (λ c. refl)) (λ c. refl)
      (subst (λ z. Becomes OnItsWay (λ c. turns way c h.0 x (did.Put to m true)) z all2) (s ∙ opened) two)
  put_follows to m false req all a1 a2 all2 is absent opened s two =
      let b = settled_not (new_call to m req) (replying way x) all a1 a2 absent opened s in
      quiet_follows way w h x there (did.Put to m false) all a2 all2 (quiet (did.Put to m false) (λ c. refl) (λ c. refl) (λ c. refl) (λ c. refl)) (record { each = λ q. b.each q ∙ by_callee q (replying way x) }) two where
        by_callee : (q : CallKey) (sent : Option Pending) → cond (one_of (call_of q) 0 sent == 0) (state_at all q) (with_fate Void (state_at all q)) ≡ cond (one_of (call_of q) h.0 sent == 0) (state_at all q) (with_fate Void (state_at all q))
        by_callee q None = refl
        by_callee q (Some y) = refl

  look_follows : (dest : Dest) (found : Option Handle) (all a1 a2 all2 : Table) → a1 ≡ all → Settles None (replying way x) (is_refusal (Found found)) a1 a2
      → Becomes OnItsWay (λ c. turns way c h.0 x (did.Look dest found)) a2 all2 → Follows way w h (did.Look dest found) all all2
  look_follows dest (Some g) all a1 a2 all2 opened s two =
      still_follows way w h x there (did.Look dest (Some g)) all all2 (quiet (did.Look dest (Some g)) (λ c. refl) (λ c. refl) (λ c. refl) (λ c. refl)) (λ c. refl)
      (subst (λ z. Becomes OnItsWay (λ c. turns way c h.0 x (did.Look dest (Some g))) z all2) (s ∙ opened) two)
  look_follows dest None all a1 a2 all2 opened s two =
      let b = settled_not None (replying way x) all a1 a2 tt opened s in
      quiet_follows way w h x there (did.Look dest None) all a2 all2 (quiet (did.Look dest None) (λ c. refl) (λ c. refl) (λ c. refl) (λ c. refl)) (record { each = λ q. b.each q ∙ by_callee q (replying way x) }) two where
        by_callee : (q : CallKey) (sent : Option Pending) → cond (one_of (call_of q) 0 sent == 0) (state_at all q) (with_fate Void (state_at all q)) ≡ cond (one_of (call_of q) h.0 sent == 0) (state_at all q) (with_fate Void (state_at all q))
        by_callee q None = refl
        by_callee q (Some y) = refl

  pub so_follows : (r : Request) (a : Answer) (what : What) (all a1 a2 all2 : Table) → AsksSo r a what → IsAbsent (call_in r) all → Opens (call_in r) all a1 → Settles (call_in r) (reply_in (replying way x) r) (is_refusal a) a1 a2
      → Becomes OnItsWay (λ c. turns way c h.0 x what) a2 all2 → Follows way w h what all all2
  so_follows r a what all a1 a2 all2 (looks dest found) absent opened s two = look_follows dest found all a1 a2 all2 opened s two
  so_follows r a what all a1 a2 all2 (puts to m taken) absent opened s two = put_follows to m taken (is_request m) all a1 a2 all2 refl absent opened s two
  so_follows r a what all a1 a2 all2 (names text g named) absent opened s two = other (did.Name text g named) (Flag named) None (is_refusal (Flag named)) all a1 a2 all2 refl (quiet (did.Name text g named) (λ c. refl) (λ c. refl) (λ c. refl) (λ c. refl)) (λ c. refl) opened s two
  so_follows r a what all a1 a2 all2 (retires g retired) absent opened s two = other (did.Retire g retired) (Flag retired) None (is_refusal (Flag retired)) all a1 a2 all2 refl (quiet (did.Retire g retired) (λ c. refl) (λ c. refl) (λ c. refl) (λ c. refl)) (λ c. refl) opened s two
  so_follows r a what all a1 a2 all2 (marks g) absent opened s two = other (did.Mark g) Done None false all a1 a2 all2 refl (quiet (did.Mark g) (λ c. refl) (λ c. refl) (λ c. refl) (λ c. refl)) (λ c. refl) opened s two
  so_follows r a what all a1 a2 all2 (waits n y) absent opened s two = other (did.Later n y) Done None false all a1 a2 all2 refl (quiet (did.Later n y) (λ c. refl) (λ c. refl) (λ c. refl) (λ c. refl)) (λ c. refl) opened s two
  so_follows r a what all a1 a2 all2 (tells n) absent opened s two = other (did.Now n) (Told n) None false all a1 a2 all2 refl (quiet (did.Now n) (λ c. refl) (λ c. refl) (λ c. refl) (λ c. refl)) (λ c. refl) opened s two

  -- what the service sends after an input is what turned
  same_callee : (q : CallKey) (sent : Option Pending) → one_of (call_of q) 0 sent ≡ one_of (call_of q) h.0 sent
  same_callee q None = refl
  same_callee q (Some y) = refl

  turned_in : (count : Call → ℕ) (sent : Option Pending) (all all2 : Table) → Becomes OnItsWay (λ c. one_of c 0 sent) all all2 → ((q : CallKey) → count (call_of q) ≡ one_of (call_of q) h.0 sent) → Becomes OnItsWay count all all2
  turned_in count sent all all2 b is = record { each = λ q. b.each q ∙ ap (λ n. cond (n == 0) (state_at all q) (with_fate OnItsWay (state_at all q))) (same_callee q sent ∙ sym (is q)) }

  pub so_turned : (r : Request) (a : Answer) (what : What) (y : Service S) (all all2 : Table) → y ≡ x → AsksSo r a what → Becomes OnItsWay (λ c. sending way c (answered way y a)) all all2 → Becomes OnItsWay (λ c. turns way c h.0 y what) all all2
  so_turned r a what (Leaving e) all all2 is k b = record { each = λ q. b.each q }
  so_turned r a what (Serving s) all all2 is (looks dest found) b = turned_in (λ c. turns way c h.0 (Serving s) (did.Look dest found)) (way.reply (way.fed s (Answers (Found found)))) all all2 b (λ q. refl)
  so_turned r a what (Serving s) all all2 is (puts to m taken) b = turned_in (λ c. turns way c h.0 (Serving s) (did.Put to m taken)) (way.reply (way.fed s (Answers (Flag taken)))) all all2 b (λ q. refl)
  so_turned r a what (Serving s) all all2 is (names text g named) b = turned_in (λ c. turns way c h.0 (Serving s) (did.Name text g named)) (way.reply (way.fed s (Answers (Flag named)))) all all2 b (λ q. refl)
  so_turned r a what (Serving s) all all2 is (retires g retired) b = turned_in (λ c. turns way c h.0 (Serving s) (did.Retire g retired)) (way.reply (way.fed s (Answers (Flag retired)))) all all2 b (λ q. refl)
  so_turned r a what (Serving s) all all2 is (marks g) b = turned_in (λ c. turns way c h.0 (Serving s) (did.Mark g)) (way.reply (way.fed s (Answers Done))) all all2 b (λ q. refl)
  so_turned r a what (Serving s) all all2 is (waits n z) b = turned_in (λ c. turns way c h.0 (Serving s) (did.Later n z)) (way.reply (way.fed s (Answers Done))) all all2 b (λ q. refl)
  so_turned r a what (Serving s) all all2 is (tells n) b = turned_in (λ c. turns way c h.0 (Serving s) (did.Now n)) (way.reply (way.fed s (Answers (Told n)))) all all2 b (λ q. refl)

  pub launch_turned : (name : List ℕ) (args : List Datum) (found : Option Handle) (y : Service S) (all all2 : Table) → Becomes OnItsWay (λ c. sending way c (answered way y (Found found))) all all2 → Becomes OnItsWay (λ c. turns way c h.0 y (did.Launch name args found)) all all2
  launch_turned name args found (Leaving e) all all2 b = record { each = λ q. b.each q }
  launch_turned name args found (Serving s) all all2 b = turned_in (λ c. turns way c h.0 (Serving s) (did.Launch name args found)) (way.reply (way.fed s (Answers (Found found)))) all all2 b (λ q. refl)

  pub launch_follows : (name : List ℕ) (args : List Datum) (found : Option Handle) (all all2 : Table) → Becomes OnItsWay (λ c. sending way c (answered way x (Found found))) all all2 → Follows way w h (did.Launch name args found) all all2
  launch_follows name args found all all2 b =
      still_follows way w h x there (did.Launch name args found) all all2 (quiet (did.Launch name args found) (λ c. refl) (λ c. refl) (λ c. refl) (λ c. refl)) (λ c. refl) (launch_turned name args found x all all2 b)

  pub take_turned : (m : Message) (left : ℕ) (y : Service S) (all all2 : Table) → Becomes OnItsWay (λ c. sending way c (taken way y m)) all all2 → Becomes OnItsWay (λ c. turns way c h.0 y (did.Take m left)) all all2
  take_turned m left (Leaving e) all all2 b = record { each = λ q. b.each q }
  take_turned m left (Serving s) all all2 b = turned_in (λ c. turns way c h.0 (Serving s) (did.Take m left)) (way.reply (way.fed s (Comes m))) all all2 b (λ q. refl)

-- a request of a service of the list, with what became of the calls
pub asks_goes : {A M : Type 0} (way : Way M) (f : A → M) (services : List (Service A)) (p p2 : Spots) (due : List (Handle × Session)) (h : Handle) (r : Request) (a : Answer) (before next : Service A) (all a1 a2 all2 : Table)
    → 0 < h.0 → h.0 ≤ length services → before ≡ get_or services (h.0 - 1) before → service_ops way (service_over f before) ≡ Asks r ∷ [] → Gives (asked_at h r p) a p2 → service_over f next ≡ answered way (service_over f before) a
    → IsAbsent (call_in r) all → Opens (call_in r) all a1 → Settles (call_in r) (reply_in (replying way (service_over f before)) r) (is_refusal a) a1 a2 → Becomes OnItsWay (λ c. sending way c (service_over f next)) a2 all2
    → Goes way (over f (with_spots services p due)) h None (over f (with_spots (slice_set services (h.0 - 1) next) p2 due)) all all2
asks_goes way f services p p2 due h r a before next all a1 a2 all2 given within is asks gives fed absent opened settled turned =
    let x = service_over f before in
    let k = asks_did way f services p p2 due h r a before next given within is asks gives fed in
    let there = agent_serves (over f (with_spots services p due)) h x given (seen (service_over f) services h.0 before given is within) in
    let so_it = asks_so h r p k.done a k.asked k.answer in
    let now : Becomes OnItsWay (λ c. sending way c (answered way x a)) a2 all2 = subst (λ y. Becomes OnItsWay (λ c. sending way c y) a2 all2) fed turned in
    let turned2 = so_turned way (over f (with_spots services p due)) h x there r a k.done.0 x a2 all2 refl so_it now in
    record { what = k.done.0; acts = k.did_it.0; line_is = k.did_it.1; follows = so_follows way (over f (with_spots services p due)) h x there r a k.done.0 all a1 a2 all2 so_it absent opened settled turned2 }

module _ {A M : Type 0} (way : Way M) (f : A → M) (services : List (Service A)) (p : Spots) (due : List (Handle × Session)) (h : Handle) (before : Service A) (i : InboxState)
    (given : 0 < h.0) (within : h.0 ≤ length services) (room : h.0 ≤ length p.inboxes) (is : before ≡ get_or services (h.0 - 1) before) (inbox : i ≡ get_or p.inboxes (h.0 - 1) i) (idle : IsIdle way (service_over f before)) where
  here : agent (over f (with_spots services p due)) h ≡ Some (Serves (service_over f before))
  here = agent_serves (over f (with_spots services p due)) h (service_over f before) given (seen (service_over f) services h.0 before given is within)

  -- an idle service ends
  pub ends_goes : (next : Service A) (ms : List Message) (i2 : InboxState) (all all2 : Table) → end i.status i.waiting ≡ Some (did.End ms, i2) → service_over f next ≡ ended way (service_over f before) ms → EndsCalls way (service_over f before) h ms all all2
      → Goes way (over f (with_spots services p due)) h None (over f (with_spots (slice_set services (h.0 - 1) next) (inboxes_set p h i2) due)) all all2
  ends_goes next ms i2 all all2 e now b =
      let k = ends_did way f services p due h before i given within room is inbox idle next ms i2 e now in
      record { what = did.End ms; acts = k.0; line_is = k.1; follows = go (service_over f before) refl idle } where
        go : (x : Service M) → service_over f before ≡ x → IsIdle way x → Follows way (over f (with_spots services p due)) h (did.End ms) all all2
        go (Serving s) e2 ok = ended_follows way (over f (with_spots services p due)) h (service_over f before) here s ms all all2 e2 b
        go (Leaving k) e2 ok = absurd ok

  -- or takes a message
  pub takes_goes : (next : Service A) (m : Message) (left : ℕ) (i2 : InboxState) (l : Option (List ℕ)) (all mid all2 : Table) → take_first i.status i.waiting ≡ Some (did.Take m left, i2) → service_over f next ≡ taken way (service_over f before) m → IsLineAhead h i l
      → Receives h m all mid → Becomes OnItsWay (λ c. sending way c (service_over f next)) mid all2
      → Goes way (over f (with_spots services p due)) h l (over f (with_spots (slice_set services (h.0 - 1) next) (inboxes_set p h i2) due)) all all2
  takes_goes next m left i2 l all mid all2 e now ahead received turned =
      let k = takes_did way f services p due h before i given within room is inbox idle next m left i2 l e now ahead in
      let now2 : Becomes OnItsWay (λ c. sending way c (taken way (service_over f before) m)) mid all2 = subst (λ y. Becomes OnItsWay (λ c. sending way c y) mid all2) now turned in
      record {
        what = did.Take m left;
        acts = k.0;
        line_is = k.1;
        follows = taken_follows way (over f (with_spots services p due)) h (service_over f before) here m left all mid all2 received (take_turned way (over f (with_spots services p due)) h (service_over f before) here m left (service_over f before) mid all2 now2);
      }

-- a Launch
pub launches_goes : {S : Type 0} (way : Way S) (w w2 w3 : World S) (h : Handle) (name : List ℕ) (args : List Datum) (found : Option Handle) (all all2 : Table)
    → StandsAt way w h (stage.Asks (ask.Launch name args)) → Brings way w name args found w2 → Hears way w2 h (Found found) w3 → Turns way w2 h (Found found) all all2 → Goes way w h None w3 all all2
launches_goes way w w2 w3 h name args found all all2 at_it b heard t =
    let k = launches_did way w w2 w3 h name args found at_it b heard in
    let still = still_there way w w2 h at_it.service name args found at_it.given at_it.within at_it.there b in
    let e : Some t.service ≡ Some at_it.service = sym t.there ∙ still.1 in
    let same : t.service ≡ at_it.service = cc in
    let now = subst (λ y. Becomes OnItsWay (λ c. sending way c (answered way y (Found found))) all all2) same t.turned in
    record {
      what = did.Launch name args found;
      acts = k.0;
      line_is = k.1;
      follows = launch_follows way w h at_it.service (agent_serves w h at_it.service at_it.given at_it.there) name args found all all2 now;
    }

-- nothing of any call changes by what agent 0 does
clock_still : (what : What) → ClockDid what → (h : Handle) (due : List (Handle × Session)) {S : Type 0} (way : Way S) (q : CallKey) (s : Option CallState) → s ≡ next_state way (call_of q) h (Some (Times due)) what s
clock_still what (ticks more) h due way q s = refl
clock_still what (fires to y taken) h due way q s = refl

pub clock_goes : {S : Type 0} (way : Way S) (w w2 : World S) (h : Handle) (all : Table) → h ≡ clock_agent → Did way w clock_agent None w2 → Goes way w h None w2 all all
clock_goes {S = S} way w w2 h all is d = subst (λ (g : Handle). Goes way w g None w2 all all) (sym is) (record {
  what = d.0;
  acts = d.1;
  line_is = d.2;
  follows = record { each = λ q. clock_still d.0 (clock_did w.due d.0 may) clock_agent w.due way q (state_at all q) };
}) where
  x : Acted way w clock_agent (d.0, w2)
  x = acted way w clock_agent (d.0, w2) d.1

  who_is : Times w.due ≡ x.who
  who_is = let e : ◌≡◌ {A = Option (Agent S)} (Some (Times w.due)) (Some x.who) = x.there in cc

  may : IsOne (op_of d.0) (due_ops w.due)
  may = subst (λ (a : Agent S). IsOne (op_of d.0) (ops way a)) (sym who_is) x.may

-- a request that is about to be asked makes no call that is there
pub absent_request : {S : Type 0} (way : Way S) (sound : S → Type 0) → IsLawful way sound → (w : World S) (all : Table) (h : Handle) (r : Request) → IsKept way sound w all → StandsAt way w h (stage.Asks r) → IsAbsent (call_in r) all
absent_request way sound lawful w all h (ask.Look dest) kept at_it = tt
absent_request way sound lawful w all h (ask.Name text g) kept at_it = tt
absent_request way sound lawful w all h (ask.Retire g) kept at_it = tt
absent_request way sound lawful w all h (ask.Launch name args) kept at_it = tt
absent_request way sound lawful w all h (ask.Later n y) kept at_it = tt
absent_request way sound lawful w all h ask.Now kept at_it = tt
absent_request way sound lawful w all h (ask.Mark g) kept at_it = tt
absent_request way sound lawful w all h (ask.Put to m) kept at_it = go (is_request m) refl where
  may : IsOne (Asks (ask.Put to m)) (service_ops way at_it.service)
  may = subst (λ os. IsOne (Asks (ask.Put to m)) os) (sym at_it.stands) (inl refl)

  go : (b : Bool) → is_request m ≡ b → IsAbsent (new_call to m b) all
  go false is = tt
  go true is = absent way sound lawful w all h at_it.service to m kept at_it.there may is
