-- An act leaves the two levels fitting.
use Rattle.std.proofs.Common.{◌⊎◌, inl, inr, ℕ, ◌≡◌, ◌≢◌, ◌<◌, ◌+◌, ◌==◌, Bool, true, false, List, [], ◌∷◌, length, Option, Some, None, refl, ap, sym, ◌∙◌, subst, arith, length-append}
use Rattle.std.proofs.lemmas.Bool.Decides.{nat_tests}
use Rattle.message.specs.Messages.{init_message}
use Rattle.message.specs.Actors.{Way, IsLawful}
use Rattle.message.specs.Registries.{Registry, at, set_at, register, next_handle}
use Rattle.message.specs.Steps.{Takes, Ends, Agent, Serves, Times, op_of, place_of, service_after, inbox_does}
use Rattle.message.specs.Worlds.{World, agent, agent_or_clock, act}
use Rattle.sk_types.specs.declared.number.Handle.{Handle}
use Rattle.sk_types.specs.declared.number.Session.{Session}
use Rattle.message.specs.declared.datum.Datum.{Datum}
use Rattle.message.specs.declared.request.Message.{Message}
use Rattle.message.specs.declared.record.What.{What}
use Rattle.message.specs.declared.record.What.TheVariants as did
use Rattle.message.specs.declared.place.Place.TheVariants.{Registry as TheRegistry, Inbox as TheInbox, Clock as TheClock}
use Rattle.message.specs.declared.place.InboxState.{InboxState}
use Rattle.message.specs.declared.place.Service.{Service}
use Rattle.message.specs.declared.place.Service.TheVariants.{Serving, Leaving}
use Rattle.world_machine.specs.Serving.{IsLeaving}
use Rattle.call_fates.proofs.Lists.{at_is}
use Rattle.call_fates.proofs.Inverts.{Acted, acted, AtOne, AtNone, Grows, Registers, services_after, agent_is}
use Rattle.call_fates.proofs.Worlds.{inboxes_len, listed_len, launch_listed, registry_given}
use Rattle.schedule_core.specs.declared.spot.Spot.TheVariants.{Queued, Hand}
use Rattle.schedule_core.specs.Turns.{Turns, woken, wake, joined, turns_after}
use Rattle.schedule_core.specs.Levels.{Levels, HasTurns}
use Rattle.schedule_core.specs.Cores.{MayAct}
use Rattle.schedule_core.proofs.Cells.{Changes, Mid, mid_of, live_with, put_changes, fire_changes, mark_does, take_does, end_does}
use Rattle.schedule_core.proofs.Cells as cells

-- every operation but an End leaves a service serving, or ended, as it was
abbrev NoEnd : What → Type 0
NoEnd (did.End ms) = ⊥
NoEnd _ = Unit {0}

pub goes_on : {S : Type 0} (way : Way S) (x : Service S) (what : What) → NoEnd what → (IsLeaving x → IsLeaving (service_after way x what)) × (IsLeaving (service_after way x what) → IsLeaving x)
goes_on way (Leaving e) what ne = ((λ l. tt), λ l. tt)
goes_on way (Serving s) (did.End ms) ne = absurd ne
goes_on way (Serving s) (did.Look d f) ne = ((λ l. l), λ l. l)
goes_on way (Serving s) (did.Put to m b) ne = ((λ l. l), λ l. l)
goes_on way (Serving s) (did.Launch t a f) ne = ((λ l. l), λ l. l)
goes_on way (Serving s) (did.Name t to b) ne = ((λ l. l), λ l. l)
goes_on way (Serving s) (did.Retire to b) ne = ((λ l. l), λ l. l)
goes_on way (Serving s) (did.Mark to) ne = ((λ l. l), λ l. l)
goes_on way (Serving s) (did.Later n x) ne = ((λ l. l), λ l. l)
goes_on way (Serving s) (did.Now n) ne = ((λ l. l), λ l. l)
goes_on way (Serving s) (did.Take m l) ne = ((λ k. k), λ k. k)
goes_on way (Serving s) (did.Tick due) ne = ((λ l. l), λ l. l)
goes_on way (Serving s) (did.Fire to m b) ne = ((λ l. l), λ l. l)

ends_so : {S : Type 0} (way : Way S) (x : Service S) (ms : List Message) → IsLeaving (service_after way x (did.End ms))
ends_so way (Serving s) ms = tt
ends_so way (Leaving e) ms = tt

-- a service that acts has its turn in a hand
pub in_hand_is : {X : Type 0} (xs : List X) (t : Turns) (h : Handle) (x : X) → MayAct t h → at xs h.0 ≡ Some x → at t.spots h.0 ≡ Some Hand
in_hand_is xs t h x (inl zero) e = let big : 0 < h.0 = (at_is xs h.0 x e).0 in absurd (omega (arith, big, zero))
in_hand_is xs t h x (inr held) e = held

-- the agent of the clock has handle 0
times_zero : {S : Type 0} (w : World S) (h : Handle) (due : List (Handle × Session)) → agent w h ≡ Some (Times due) → h.0 ≡ 0
times_zero {S = S} w h due e = go (h.0 == 0) refl (at w.services h.0) e where
  go : (b : Bool) → (h.0 == 0) ≡ b → (q : Option (Service S)) → agent_or_clock w.due q b ≡ Some (Times due) → h.0 ≡ 0
  go true k q f = grind (arith, nat_tests)
  go false k None f = absurd (cc)
  go false k (Some x) f = absurd (cc)

inbox_same : (a b : Handle) → TheInbox a ≡ TheInbox b → a ≡ b
inbox_same a b e = cc

no_registry : (to : Handle) → TheRegistry ≡ TheInbox to → ⊥
no_registry to e = cc

no_clock : (to : Handle) → TheClock ≡ TheInbox to → ⊥
no_clock to e = cc

module _ {S : Type 0} (way : Way S) (c : Levels S) (h : Handle) (two : HasTurns way c) (may : MayAct c.turns h) where
  abbrev w : World S
  w = c.world

  abbrev t : Turns
  t = c.turns

  -- the services alone
  served : (who : Agent S) (what : What) → agent w h ≡ Some who → NoEnd what → Mid way (services_after way w h who what) w.inboxes t
  served (Times due) what there ne = mid_of way c two
  served (Serves x) what there ne =
      let here = agent_is w h x there in
      let on = goes_on way x what ne in
      cells.serves way w.services w.inboxes t (mid_of way c two) h x (service_after way x what) here (in_hand_is w.services t h x may here) on.0 on.1

  -- what was done at no inbox
  elsewhere : (what : What) (w2 : World S) (x : Acted way w h (what, w2)) → NoEnd what → ((to : Handle) → place_of h (op_of what) ≡ TheInbox to → ⊥) → Mid way x.mid.services x.mid.inboxes t
  elsewhere what w2 x ne none = go x.inboxes where
    go : (AtOne w h (op_of what) what x.mid.inboxes ⊎ AtNone w h (op_of what) x.mid.inboxes) → Mid way x.mid.services x.mid.inboxes t
    go (inl p) = absurd (none p.to p.place)
    go (inr p) = subst (λ is. Mid way x.mid.services is t) (sym p.kept) (subst (λ ss. Mid way ss w.inboxes t) (sym x.services) (served x.who what x.there ne))

  -- or at one, which it changes
  at_inbox : (what : What) (w2 : World S) (x : Acted way w h (what, w2)) → NoEnd what → (to : Handle) → place_of h (op_of what) ≡ TheInbox to
      → ((i i2 : InboxState) → inbox_does (op_of what) i ≡ Some (what, i2) → Changes i i2) → Mid way x.mid.services x.mid.inboxes (wake t to)
  at_inbox what w2 x ne to place change = go x.inboxes where
    go : (AtOne w h (op_of what) what x.mid.inboxes ⊎ AtNone w h (op_of what) x.mid.inboxes) → Mid way x.mid.services x.mid.inboxes (wake t to)
    go (inr p) = absurd (p.other to place)
    go (inl p) =
        let same : p.to ≡ to = inbox_same p.to to (sym p.place ∙ place) in
        let done : Mid way (services_after way w h x.who what) (set_at w.inboxes p.to.0 p.after) (wake t p.to) =
        cells.mailed way (services_after way w h x.who what) w.inboxes t (served x.who what x.there ne) p.to p.before p.after p.there (change p.before p.after p.does) in
        let there : Mid way (services_after way w h x.who what) x.mid.inboxes (wake t p.to) = subst (λ is. Mid way (services_after way w h x.who what) is (wake t p.to)) (sym p.set) done in
        subst (λ (z : Handle). Mid way x.mid.services x.mid.inboxes (wake t z)) same (subst (λ ss. Mid way ss x.mid.inboxes (wake t p.to)) (sym x.services) there)

  -- its own is not woken: the turn is in a hand
  takes : (m : Message) (left : ℕ) (w2 : World S) (x : Acted way w h (did.Take m left, w2)) → Mid way x.mid.services x.mid.inboxes t
  takes m left w2 x = go x.inboxes where
    go : (AtOne w h Takes (did.Take m left) x.mid.inboxes ⊎ AtNone w h Takes x.mid.inboxes) → Mid way x.mid.services x.mid.inboxes t
    go (inr p) = absurd (p.other h refl)
    go (inl p) =
        let same : h ≡ p.to = inbox_same h p.to p.place in
        let held : at t.spots h.0 ≡ Some Hand = in_hand_is w.inboxes t h p.before may (ap (λ (z : Handle). at w.inboxes z.0) same ∙ p.there) in
        let still : wake t h ≡ t = ap (λ q. woken q t h) held in
        subst (Mid way x.mid.services x.mid.inboxes) still (at_inbox (did.Take m left) w2 x tt h refl (λ i i2 e. take_does (did.Take m left) i i2 e))

  ends : (ms : List Message) (w2 : World S) (x : Acted way w h (did.End ms, w2)) → Mid way x.mid.services x.mid.inboxes t
  ends ms w2 x = go x.inboxes x.who x.there x.services where
    go : (AtOne w h Ends (did.End ms) x.mid.inboxes ⊎ AtNone w h Ends x.mid.inboxes) → (who : Agent S) → agent w h ≡ Some who → x.mid.services ≡ services_after way w h who (did.End ms) → Mid way x.mid.services x.mid.inboxes t
    go (inr p) who there ss = absurd (p.other h refl)
    go (inl p) (Times due) there ss =
        let same : h ≡ p.to = inbox_same h p.to p.place in
        let big : 0 < h.0 = (at_is w.inboxes h.0 p.before (ap (λ (z : Handle). at w.inboxes z.0) same ∙ p.there)).0 in
        let zero : h.0 ≡ 0 = times_zero w h due there in
        absurd (omega (arith, big, zero))
    go (inl p) (Serves y) there ss =
        let same : h ≡ p.to = inbox_same h p.to p.place in
        let found : at w.inboxes h.0 ≡ Some p.before = ap (λ (z : Handle). at w.inboxes z.0) same ∙ p.there in
        let here = agent_is w h y there in
        let gone = end_does (did.End ms) p.before p.after p.does in
        let done : Mid way (set_at w.services h.0 (service_after way y (did.End ms))) (set_at w.inboxes h.0 p.after) t =
        cells.ends way w.services w.inboxes t (mid_of way c two) h y (service_after way y (did.End ms)) p.before p.after here found (in_hand_is w.services t h y may here) (ends_so way y ms) gone.0 gone.1 in
        let inboxes : set_at w.inboxes h.0 p.after ≡ x.mid.inboxes = ap (λ (z : Handle). set_at w.inboxes z.0 p.after) same ∙ sym p.set in
        subst (λ is. Mid way x.mid.services is t) inboxes (subst (λ zs. Mid way zs (set_at w.inboxes h.0 p.after) t) (sym ss) done)

  -- where no service was launched
  plain : (what : What) (w2 : World S) (x : Acted way w h (what, w2)) (t2 : Turns) → ((text : List ℕ) (args : List Datum) (own : Handle) → what ≡ did.Launch text args (Some own) → ⊥) → Mid way x.mid.services x.mid.inboxes t2
      → HasTurns way (record { world = w2; turns = t2 })
  plain what w2 x t2 none mid = go x.grows where
    len : length x.mid.registry.listed ≡ length t2.spots
    len = listed_len way w h what x.mid.registry x.registry (λ text args own e. absurd (none text args own e)) ∙ (two.listed ∙ (sym two.inboxes ∙ (sym (inboxes_len w h (op_of what) what x.mid.inboxes x.inboxes) ∙ mid.inboxes)))

    go : Grows way what x.mid w2 → HasTurns way (record { world = w2; turns = t2 })
    go (inl p) = subst (λ (z : World S). HasTurns way (record { world = z; turns = t2 })) (sym p.0) (record { placed = mid.placed; cells = mid.cells; services = mid.services; inboxes = mid.inboxes; listed = len })
    go (inr l) = absurd (none l.text l.args l.own l.is)

  launches : (sound : S → Type 0) → IsLawful way sound → (text : List ℕ) (args : List Datum) (own : Handle) (w2 : World S) (x : Acted way w h (did.Launch text args (Some own), w2)) → HasTurns way (record { world = w2; turns = joined t own })
  launches sound lawful text args own w2 x = go x.grows where
    mid : Mid way x.mid.services x.mid.inboxes t
    mid = elsewhere (did.Launch text args (Some own)) w2 x tt no_registry

    listed : (own ≡ next_handle w.registry) × (x.mid.registry ≡ register w.registry)
    listed = launch_listed way w h (did.Launch text args (Some own)) x.mid.registry text args own x.registry refl

    next : own.0 ≡ length t.spots + 1
    next = ap (λ (z : Handle). z.0) listed.0 ∙ ap (λ n. n + 1) two.listed

    bars : Registers way w h (op_of (did.Launch text args (Some own))) (did.Launch text args (Some own)) x.mid.registry → way.begins text own ≢ None
    bars (inl p) = (registry_given way (op_of (did.Launch text args (Some own))) w.registry (did.Launch text args (Some own)) x.mid.registry p.1).2
    bars (inr p) = absurd (p.0 refl)

    go : Grows way (did.Launch text args (Some own)) x.mid w2 → HasTurns way (record { world = w2; turns = joined t own })
    go (inl p) = absurd (bars x.registry (p.1 text args own refl))
    go (inr l) =
        let new = lawful.begin l.text l.own l.state l.begins in
        let born = cells.joins way x.mid.services x.mid.inboxes t mid own l.state (init_message l.args ∷ []) next new.is_new.idle in
        subst (λ (z : World S). HasTurns way (record { world = z; turns = joined t own })) (sym l.grown) (record {
          placed = born.placed;
          cells = born.cells;
          services = born.services;
          inboxes = born.inboxes;
          listed = ap (λ (z : Registry). length z.listed) listed.1 ∙ (length-append w.registry.listed (true ∷ []) ∙ (ap (λ n. n + 1) two.listed ∙ sym (length-append t.spots (Queued ∷ []))));
        })

  kept : (sound : S → Type 0) → IsLawful way sound → (what : What) (w2 : World S) → Acted way w h (what, w2) → HasTurns way (record { world = w2; turns = turns_after t what })
  kept sound lawful (did.Look d f) w2 x = plain (did.Look d f) w2 x t (λ a b o e. cc) (elsewhere (did.Look d f) w2 x tt no_registry)
  kept sound lawful (did.Put to m b) w2 x = plain (did.Put to m b) w2 x (wake t to) (λ a b2 o e. cc) (at_inbox (did.Put to m b) w2 x tt to refl (λ i i2 e. put_changes to m (did.Put to m b) i i2 e))
  kept sound lawful (did.Launch text args (Some own)) w2 x = launches sound lawful text args own w2 x
  kept sound lawful (did.Launch text args None) w2 x = plain (did.Launch text args None) w2 x t (λ a b o e. cc) (elsewhere (did.Launch text args None) w2 x tt no_registry)
  kept sound lawful (did.Name text to b) w2 x = plain (did.Name text to b) w2 x t (λ a b2 o e. cc) (elsewhere (did.Name text to b) w2 x tt no_registry)
  kept sound lawful (did.Retire to b) w2 x = plain (did.Retire to b) w2 x t (λ a b2 o e. cc) (elsewhere (did.Retire to b) w2 x tt no_registry)
  kept sound lawful (did.Mark to) w2 x = plain (did.Mark to) w2 x (wake t to) (λ a b o e. cc) (at_inbox (did.Mark to) w2 x tt to refl (λ i i2 e. mark_does to (did.Mark to) i i2 e))
  kept sound lawful (did.Later n s) w2 x = plain (did.Later n s) w2 x t (λ a b o e. cc) (elsewhere (did.Later n s) w2 x tt no_clock)
  kept sound lawful (did.Now n) w2 x = plain (did.Now n) w2 x t (λ a b o e. cc) (elsewhere (did.Now n) w2 x tt no_clock)
  kept sound lawful (did.Take m left) w2 x = plain (did.Take m left) w2 x t (λ a b o e. cc) (takes m left w2 x)
  kept sound lawful (did.End ms) w2 x = plain (did.End ms) w2 x t (λ a b o e. cc) (ends ms w2 x)
  kept sound lawful (did.Tick due) w2 x = plain (did.Tick due) w2 x t (λ a b o e. cc) (elsewhere (did.Tick due) w2 x tt no_clock)
  kept sound lawful (did.Fire to m b) w2 x = plain (did.Fire to m b) w2 x (wake t to) (λ a b2 o e. cc) (at_inbox (did.Fire to m b) w2 x tt to refl (λ i i2 e. fire_changes to m (did.Fire to m b) i i2 e))

-- an act by the clock's agent, or by a service whose turn is in a hand
pub act_two : {S : Type 0} (way : Way S) (sound : S → Type 0) → IsLawful way sound → (c : Levels S) (h : Handle) (what : What) (w2 : World S) → HasTurns way c → MayAct c.turns h → act way c.world h ≡ Some (what, w2)
    → HasTurns way (record { world = w2; turns = turns_after c.turns what })
act_two way sound lawful c h what w2 two may e = kept way c h two may sound lawful what w2 (acted way c.world h (what, w2) e)
