-- What one act changes of the fates of a call, and that it leaves the world a world.
use Rattle.std.proofs.Common.{◌⊎◌, inl, inr, ℕ, ◌≡◌, ◌≤◌, ◌+◌, Bool, true, false, List, [], ◌∷◌, ◌++◌, length, Option, Some, None, cond, refl, ap, sym, subst, arith}
use Rattle.message.specs.Messages.{init_message}
use Rattle.message.specs.Actors.{Way, IsLawful}
use Rattle.message.specs.Steps.{Op, Asks, Takes, Ends, Ticks, Fires, Agent, Serves, Times, IsOne, ops, service_ops, op_of, service_after}
use Rattle.message.specs.Worlds.{World, agent}
use Rattle.sk_types.specs.declared.number.Handle.{Handle}
use Rattle.sk_types.specs.declared.number.Session.{Session}
use Rattle.message.specs.declared.datum.Datum.{Datum}
use Rattle.message.specs.declared.request.Held.{Held}
use Rattle.message.specs.declared.record.What.{What}
use Rattle.message.specs.declared.record.What.TheVariants as did
use Rattle.message.specs.declared.place.InboxState.{InboxState}
use Rattle.message.specs.declared.place.InboxStatus.TheVariants.{Live}
use Rattle.message.specs.declared.place.Service.{Service}
use Rattle.message.specs.declared.place.Service.TheVariants.{Serving, Leaving}
use Rattle.call_fates.specs.Calls.{Call, total, one_of, all_of, replies, asks_in, replies_in, holds, sends, waiting, held, on_its_way}
use Rattle.call_fates.specs.Fates.{makes, answers, fails, voids, is_response, replying, replying_at}
use Rattle.call_fates.specs.Flows.{receives, bounces, frees, frees_at, sent, refused, fetched}
use Rattle.call_fates.specs.Kept.{turns, turns_at}
use Rattle.call_fates.specs.Reached.{IsWorld}
use Rattle.call_fates.proofs.Lists.{at_is, total_set, total_push, total_le}
use Rattle.call_fates.proofs.Forms.{LookFits, no_fires, clock_did, ClockDid, ticks, fires}
use Rattle.call_fates.proofs.Flow.{service_flow}
use Rattle.call_fates.proofs.Inboxes.{IsTimely, inbox_passes, passes_none}
use Rattle.call_fates.proofs.Inverts.{Acted, AtOne, AtNone, Grows, services_after, agent_is}

-- WHAT IS MOVED AT THE SERVICES

-- what turns is what is freed and bounced; or a reply is sent on, and then nothing else moves
abbrev pub Turns : Call → Handle → ℕ → ℕ → ℕ → Option Held → What → Type 0
Turns c h on T fr r what = (on ≡ fr + bounces c h.0 what) ⊎ ((on ≤ T) × (fr ≡ 0) × (bounces c h.0 what ≡ 0) × (sent c what + refused c h.0 r what ≡ 0) × (fetched c h.0 what ≡ 0))

turns_in : (c : Call) (h : Handle) (on x T fr : ℕ) (r : Option Held) (what : What) → x ≤ T → Turns c h on x fr r what → Turns c h on T fr r what
turns_in c h on x T fr r what le (inl e) = inl e
turns_in c h on x T fr r what le (inr e) = let l = e.0 in inr (omega (arith, l, le), e.1, e.2, e.3, e.4)

-- by an agent
pub record Moves {S : Type 0} (way : Way S) (c : Call) (h : Handle) (a : Agent S) (before after : List (Service S)) (what : What) : Type 0 where
  pub hold : total (holds way c) 1 after + frees_at way c h.0 a what ≡ total (holds way c) 1 before + receives c h.0 what
  pub send : total (sends way c) 1 after + (sent c what + refused c h.0 (replying_at way (Some a)) what) ≡ total (sends way c) 1 before + (frees_at way c h.0 a what + bounces c h.0 what)
  pub gone : sent c what + refused c h.0 (replying_at way (Some a)) what ≤ total (sends way c) 1 before
  pub turn : Turns c h (turns_at way c h.0 (Some a) what) (total (sends way c) 1 before) (frees_at way c h.0 a what) (replying_at way (Some a)) what

clock_moves : {S : Type 0} (way : Way S) (c : Call) (h : Handle) (due : List (Handle × Session)) (all : List (Service S)) (what : What) → ClockDid what → Moves way c h (Times due) all all what
clock_moves way c h due all what (ticks more) = record { hold = omega arith; send = omega arith; gone = omega arith; turn = inl refl }
clock_moves way c h due all what (fires to x taken) = record { hold = omega arith; send = omega arith; gone = omega arith; turn = inl refl }

pub agent_moves : {S : Type 0} (way : Way S) (sound : S → Type 0) → IsLawful way sound → (c : Call) (w : World S) (h : Handle) (a : Agent S) (what : What) → IsWorld way sound w → agent w h ≡ Some a → IsOne (op_of what) (ops way a) → LookFits what
    → Moves way c h a w.services (services_after way w h a what) what
agent_moves way sound lawful c w h (Times due) what ok there may fits = clock_moves way c h due w.services what (clock_did due what may)
agent_moves way sound lawful c w h (Serves x) what ok there may fits =
    let here = agent_is w h x there in
    let big = (at_is w.services h.0 x here).0 in
    let f = service_flow way sound lawful c h x what big (ok.services h x here) may fits in
    record {
      hold = omega (arith, f.hold, total_set (holds way c) w.services h.0 x (service_after way x what) here);
      send = omega (arith, f.send, total_set (sends way c) w.services h.0 x (service_after way x what) here);
      gone = omega (arith, f.gone, total_le (sends way c) w.services h.0 x here);
      turn = turns_in c h (turns way c h.0 x what) (sends way c h.0 x) (total (sends way c) 1 w.services) (frees way c h.0 x what) (replying way x) what (total_le (sends way c) w.services h.0 x here) f.turn;
    }

-- AT THE INBOXES

pub record Carries (c : Call) (h : Handle) (before after : List InboxState) (what : What) : Type 0 where
  pub asked : total (asks_in c) 1 after + (receives c h.0 what + bounces c h.0 what) ≡ total (asks_in c) 1 before + makes c what
  pub replied : total (replies_in c) 1 after + fetched c h.0 what ≡ total (replies_in c) 1 before + sent c what

-- what a service may do is timely
service_timely : {S : Type 0} (way : Way S) (x : Service S) (op : Op) → IsOne op (service_ops way x) → IsTimely op
service_timely way (Serving s) (Fires h m) may = absurd (no_fires (way.next s) h m may)
service_timely way (Serving s) (Asks r) may = tt
service_timely way (Serving s) Takes may = tt
service_timely way (Serving s) Ends may = tt
service_timely way (Serving s) Ticks may = tt
service_timely way (Leaving e) op may = go e.found e.bounces op may where
  go : (found : Bool) (xs : List Held) (op : Op) → IsOne op (service_ops way (Leaving (record { own = e.own; found = found; bounces = xs }))) → IsTimely op
  go found [] op one = absurd one
  go true (x ∷ xs) (Asks r) one = tt
  go true (x ∷ xs) Takes one = tt
  go true (x ∷ xs) Ends one = tt
  go true (x ∷ xs) Ticks one = tt
  go true (x ∷ xs) (Fires h m) (inl e) = absurd (cc)
  go true (x ∷ xs) (Fires h m) (inr e) = absurd e
  go false (x ∷ xs) (Asks r) one = tt
  go false (x ∷ xs) Takes one = tt
  go false (x ∷ xs) Ends one = tt
  go false (x ∷ xs) Ticks one = tt
  go false (x ∷ xs) (Fires h m) (inl e) = absurd (cc)
  go false (x ∷ xs) (Fires h m) (inr e) = absurd e

clock_timely : (what : What) → ClockDid what → IsTimely (op_of what)
clock_timely what (ticks due) = tt
clock_timely what (fires h x taken) = (x, refl)

pub timely : {S : Type 0} (way : Way S) (a : Agent S) (what : What) → IsOne (op_of what) (ops way a) → IsTimely (op_of what)
timely way (Serves x) what may = service_timely way x (op_of what) may
timely way (Times due) what may = clock_timely what (clock_did due what may)

pub inboxes_carry : {S : Type 0} (c : Call) (w : World S) (h : Handle) (what : What) (after : List InboxState) → IsTimely (op_of what) → AtOne w h (op_of what) what after ⊎ AtNone w h (op_of what) after → Carries c h w.inboxes after what
inboxes_carry c w h what after t (inl p) =
    let m = inbox_passes c h p.to (op_of what) p.before p.after what p.place t p.does in
    record {
      asked = omega (arith, m.asked, total_set (asks_in c) w.inboxes p.to.0 p.before p.after p.there, ap (total (asks_in c) 1) p.set);
      replied = omega (arith, m.replied, total_set (replies_in c) w.inboxes p.to.0 p.before p.after p.there, ap (total (replies_in c) 1) p.set);
    }
inboxes_carry c w h what after t (inr p) =
    let m = passes_none c h what p.other in
    record {
      asked = omega (arith, m.asked, ap (total (asks_in c) 1) p.kept);
      replied = omega (arith, m.replied, ap (total (replies_in c) 1) p.kept);
    }

-- what was fetched or refused is an answer, a failure or void
settled_cond : (b : Bool) (n : ℕ) → cond b n 0 + cond b 0 n ≡ n
settled_cond true n = omega arith
settled_cond false n = omega arith

pub settled : (c : Call) (h : Handle) (r : Option Held) (what : What) → answers c h what + (fails c h what + voids c h r what) ≡ fetched c h.0 what + refused c h.0 r what
settled c h r (did.Look dest None) = omega arith
settled c h r (did.Look dest (Some g)) = omega arith
settled c h r (did.Put to m true) = omega arith
settled c h r (did.Put to m false) = omega arith
settled c h r (did.Launch text args found) = omega arith
settled c h r (did.Name text g named) = omega arith
settled c h r (did.Retire g retired) = omega arith
settled c h r (did.Mark g) = omega arith
settled c h r (did.Later n x) = omega arith
settled c h r (did.Now n) = omega arith
settled c h r (did.Take m left) = omega (arith, settled_cond (is_response m.kind) (replies c h.0 m))
settled c h r (did.End ms) = omega arith
settled c h r (did.Tick due) = omega arith
settled c h r (did.Fire to m taken) = omega arith

-- A LAUNCH

-- a new service has nothing of a call, nor has its first message
grown_services : {S : Type 0} (way : Way S) (sound : S → Type 0) → IsLawful way sound → (c : Call) (all : List (Service S)) (text : List ℕ) (own : Handle) (s : S) → way.begins text own ≡ Some s
    → (total (holds way c) 1 (all ++ Serving s ∷ []) ≡ total (holds way c) 1 all) × (total (sends way c) 1 (all ++ Serving s ∷ []) ≡ total (sends way c) 1 all)
grown_services way sound lawful c all text own s e =
    let new = (lawful.begin text own s e).is_new in
    (omega (arith, total_push (holds way c) 1 all (Serving s), ap (all_of c (1 + length all)) new.holds), omega (arith, total_push (sends way c) 1 all (Serving s), ap (one_of c (1 + length all)) new.replies))

grown_inboxes : (c : Call) (all : List InboxState) (args : List Datum)
    → (total (asks_in c) 1 (all ++ record { status = Live; waiting = init_message args ∷ [] } ∷ []) ≡ total (asks_in c) 1 all)
    × (total (replies_in c) 1 (all ++ record { status = Live; waiting = init_message args ∷ [] } ∷ []) ≡ total (replies_in c) 1 all)
grown_inboxes c all args =
    let i : InboxState = record { status = Live; waiting = init_message args ∷ [] } in
    (omega (arith, total_push (asks_in c) 1 all i), omega (arith, total_push (replies_in c) 1 all i))

pub record Same {S : Type 0} (way : Way S) (c : Call) (w w2 : World S) : Type 0 where
  pub waits : waiting c w2 ≡ waiting c w
  pub hold : total (holds way c) 1 w2.services ≡ total (holds way c) 1 w.services
  pub send : total (sends way c) 1 w2.services ≡ total (sends way c) 1 w.services
  pub reply : total (replies_in c) 1 w2.inboxes ≡ total (replies_in c) 1 w.inboxes

pub grows_same : {S : Type 0} (way : Way S) (sound : S → Type 0) → IsLawful way sound → (c : Call) (what : What) (mid w2 : World S) → Grows way what mid w2 → Same way c mid w2
grows_same way sound lawful c what mid w2 (inl p) = subst (Same way c mid) (sym p.0) (record { waits = refl; hold = refl; send = refl; reply = refl })
grows_same way sound lawful c what mid w2 (inr p) =
    let s = grown_services way sound lawful c mid.services p.text p.own p.state p.begins in
    let i = grown_inboxes c mid.inboxes p.args in
    subst (Same way c mid) (sym p.grown) (record { waits = i.0; hold = s.0; send = s.1; reply = i.1 })

-- THE ACT

-- what the act of agent h, which was a, changes
pub record Changes {S : Type 0} (way : Way S) (c : Call) (w : World S) (h : Handle) (a : Agent S) (r : What × World S) : Type 0 where
  pub waits : waiting c r.1 + (receives c h.0 r.0 + bounces c h.0 r.0) ≡ waiting c w + makes c r.0
  pub hold : held way c r.1 + frees_at way c h.0 a r.0 ≡ held way c w + receives c h.0 r.0
  pub under_way : on_its_way way c r.1 + (answers c h r.0 + (fails c h r.0 + voids c h (replying_at way (Some a)) r.0)) ≡ on_its_way way c w + (frees_at way c h.0 a r.0 + bounces c h.0 r.0)
  pub send : total (sends way c) 1 r.1.services + (sent c r.0 + refused c h.0 (replying_at way (Some a)) r.0) ≡ total (sends way c) 1 w.services + (frees_at way c h.0 a r.0 + bounces c h.0 r.0)
  pub bring : total (replies_in c) 1 r.1.inboxes + fetched c h.0 r.0 ≡ total (replies_in c) 1 w.inboxes + sent c r.0
  pub gone : sent c r.0 + refused c h.0 (replying_at way (Some a)) r.0 ≤ total (sends way c) 1 w.services
  pub turn : Turns c h (turns_at way c h.0 (Some a) r.0) (total (sends way c) 1 w.services) (frees_at way c h.0 a r.0) (replying_at way (Some a)) r.0

pub changes : {S : Type 0} (way : Way S) (sound : S → Type 0) → IsLawful way sound → (c : Call) (w : World S) (h : Handle) (r : What × World S) → IsWorld way sound w → (x : Acted way w h r) → Changes way c w h x.who r
changes way sound lawful c w h r ok x =
    let m = agent_moves way sound lawful c w h x.who r.0 ok x.there x.may x.done.fits in
    let i = inboxes_carry c w h r.0 x.mid.inboxes (timely way x.who r.0 x.may) x.inboxes in
    let g = grows_same way sound lawful c r.0 x.mid r.1 x.grows in
    let s = settled c h (replying_at way (Some x.who)) r.0 in
    record {
      waits = omega (arith, i.asked, g.waits);
      hold = omega (arith, m.hold, g.hold, ap (total (holds way c) 1) x.services);
      under_way = omega (arith, m.send, i.replied, g.send, g.reply, s, ap (total (sends way c) 1) x.services);
      send = omega (arith, m.send, g.send, ap (total (sends way c) 1) x.services);
      bring = omega (arith, i.replied, g.reply);
      gone = m.gone;
      turn = m.turn;
    }
