-- Steps in any order.
use Rattle.std.proofs.Common.{◌⊎◌, inl, inr, ℕ, ◌≡◌, ◌≢◌, List, [], ◌∷◌, ◌++◌, Option, Some, None, slice_get, refl, ap, sym, ◌∙◌, subst, arith}
use Rattle.std.proofs.lemmas.List.Sums.{sum_by-append, sum_by-cons}
use Rattle.message.specs.Messages.{init_message}
use Rattle.message.specs.Actors.{Way, IsLawful}
use Rattle.message.specs.Registries.{at}
use Rattle.message.specs.Worlds.{World, act, after, go_on, opening, empty_inbox, start_inbox}
use Rattle.sk_types.specs.declared.number.Handle.{Handle}
use Rattle.message.specs.declared.request.Message.{Message}
use Rattle.message.specs.declared.request.Next.TheVariants.{Idle}
use Rattle.message.specs.declared.record.What.{What}
use Rattle.message.specs.declared.place.InboxStatus.{InboxStatus}
use Rattle.message.specs.declared.place.InboxStatus.TheVariants.{Live, Closing, Gone}
use Rattle.message.specs.declared.place.InboxState.{InboxState}
use Rattle.message.specs.declared.place.Service.{Service}
use Rattle.message.specs.declared.place.Service.TheVariants.{Serving, Leaving}
use Rattle.world_machine.specs.Serving.{IsIdle}
use Rattle.world_machine.specs.Launching.{clock_agent}
use Rattle.call_fates.specs.Reached.{IsOpening}
use Rattle.call_fates.proofs.Journals.{each_counted, each_taken_once}
use Rattle.call_fates.proofs.Rests.{each_rests}
use Rattle.schedule_core.specs.declared.spot.Spot.{Spot}
use Rattle.schedule_core.specs.declared.spot.Spot.TheVariants.{Home, Queued, Hand, Spent}
use Rattle.schedule_core.specs.declared.action.Action.{Action}
use Rattle.schedule_core.specs.declared.action.Action.TheVariants as does
use Rattle.schedule_core.specs.Turns.{Turns, one_in, ArePlaced, AreEmpty, AreOpening, first_turns, laid, joined, turns_after, IsFetch}
use Rattle.schedule_core.specs.Levels.{Levels, IsOver, HasTurns, IsTwo, HasTimers}
use Rattle.schedule_core.specs.Steps.{ParksAt, ParksBy, IsPark, IsRequeue, IsExchange, with_hand, IsLaunch, IsAct, IsStep, Tries, Runs}
use Rattle.schedule_core.specs.Laws.{StepsKeepTwo, CallsAreSettled}
use Rattle.schedule_core.proofs.Lists.{at_nothing}
use Rattle.schedule_core.proofs.Placed.{apart, held_is, first_is, fetch_placed, laid_placed, sent_placed, none_placed}
use Rattle.schedule_core.proofs.Cells.{Mid, mid_of, two_with, cell_fetched, cell_home, cell_sent, cell_spent, some_is}
use Rattle.schedule_core.proofs.Cells as cells
use Rattle.schedule_core.proofs.Acting.{act_two}
use Rattle.schedule_core.proofs.Timers.{act_timers}
use Rattle.schedule_core.proofs.Quiet.{quiet_drained}

-- STEPS THAT LEAVE THE WORLD

module _ {S : Type 0} (way : Way S) (c : Levels S) (two : HasTurns way c) where
  abbrev With : Turns → Levels S
  With t2 = record { world = c.world; turns = t2 }

  pub fetched : (i : ℕ) (own : Handle) (t2 : Turns) → IsFetch c.turns i own t2 → HasTurns way (With t2)
  fetched i own t2 x = two_with way c t2 two (cells.moved way c.world.services c.world.inboxes c.turns (mid_of way c two) t2 own Queued Hand
      (fetch_placed c.turns i own t2 two.placed x) (ap (λ (z : Turns). z.spots) x.after) (first_is c.turns own x.rest two.placed x.first) (λ s b e f ok. cell_fetched way s b ok))

  pub sent : (i : ℕ) (own : Handle) (t2 : Turns) → IsRequeue way c.world c.turns i own t2 → HasTurns way (With t2)
  sent i own t2 x = two_with way c t2 two (cells.moved way c.world.services c.world.inboxes c.turns (mid_of way c two) t2 own Hand Queued
      (subst ArePlaced (sym x.after) (sent_placed c.turns i own two.placed x.has)) (ap (λ (z : Turns). z.spots) x.after) (held_is c.turns i own two.placed x.has)
      (λ s b e f ok. cell_sent way s b (subst (IsIdle way) (some_is x.service s (at c.world.services own.0) x.there e) x.idle) ok))

  laid_home : (i : ℕ) (own : Handle) (x : Service S) (b : InboxState) → slice_get c.turns.hands i ≡ Some (Some own) → at c.world.services own.0 ≡ Some x → at c.world.inboxes own.0 ≡ Some b
      → IsIdle way x → b.status ≡ Live → b.waiting ≡ [] → HasTurns way (With (laid c.turns i own Home))
  laid_home i own x b has there found idle live empty = two_with way c (laid c.turns i own Home) two (cells.moved way c.world.services c.world.inboxes c.turns (mid_of way c two) (laid c.turns i own Home) own Hand Home
      (laid_placed c.turns i own Home two.placed has tt) refl (held_is c.turns i own two.placed has)
      (λ s j e f ok.
      let one : x ≡ s = some_is x s (at c.world.services own.0) there e in
      let same : b ≡ j = some_is b j (at c.world.inboxes own.0) found f in
      cell_home way s j (subst (IsIdle way) one idle) (ap (λ (z : InboxState). z.status) (sym same) ∙ live) (ap (λ (z : InboxState). z.waiting) (sym same) ∙ empty) ok))

  parks_at : (i : ℕ) (own : Handle) (x : Service S) (b : InboxState) (t2 : Turns) → slice_get c.turns.hands i ≡ Some (Some own) → at c.world.services own.0 ≡ Some x → at c.world.inboxes own.0 ≡ Some b
      → IsIdle way x → (s : InboxStatus) (ms : List Message) → b.status ≡ s → b.waiting ≡ ms → ParksAt c.turns i own s ms t2 → HasTurns way (With t2)
  parks_at i own x b t2 has there found idle Live [] e f p = subst (λ (z : Turns). HasTurns way (With z)) (sym p) (laid_home i own x b has there found idle e f)
  parks_at i own x b t2 has there found idle Live (m ∷ ms) e f p = subst (λ (z : Turns). HasTurns way (With z)) (sym p) two
  parks_at i own x b t2 has there found idle Closing ms e f p = absurd p
  parks_at i own x b t2 has there found idle Gone ms e f p = absurd p

  parks_by : (i : ℕ) (own : Handle) (x : Service S) (b : InboxState) (t2 : Turns) → slice_get c.turns.hands i ≡ Some (Some own) → at c.world.services own.0 ≡ Some x → at c.world.inboxes own.0 ≡ Some b
      → ParksBy way x b c.turns i own t2 → HasTurns way (With t2)
  parks_by i own (Serving s) b t2 has there found p = parks_at i own (Serving s) b t2 has there found p.0 b.status b.waiting refl refl p.1
  parks_by i own (Leaving e) b t2 has there found p = subst (λ (z : Turns). HasTurns way (With z)) (sym p.1)
      (two_with way c (laid c.turns i own Spent) two (cells.moved way c.world.services c.world.inboxes c.turns (mid_of way c two) (laid c.turns i own Spent) own Hand Spent
      (laid_placed c.turns i own Spent two.placed has tt) refl (held_is c.turns i own two.placed has)
      (λ s j k f ok. cell_spent way s j (subst (λ (z : Service S). IsOver z) (some_is (Leaving e) s (at c.world.services own.0) there k) p.0) ok)))

  pub parked : (i : ℕ) (own : Handle) (t2 : Turns) → IsPark way c.world c.turns i own t2 → HasTurns way (With t2)
  parked i own t2 x = parks_by i own x.service x.inbox t2 x.has x.there x.found x.parks

pub exchanged : {S : Type 0} (way : Way S) (c : Levels S) → HasTurns way c → (i : ℕ) (old new : Handle) (t2 : Turns) → IsExchange way c.world c.turns i old new t2 → HasTurns way (record { world = c.world; turns = t2 })
exchanged way c two i old new t2 x = fetched way (record { world = c.world; turns = x.mid }) (sent way c two i old x.mid x.puts) i new t2 x.gets

-- one empty hand more
hand_more : {S : Type 0} (way : Way S) (c : Levels S) → HasTurns way c → HasTurns way (record { world = c.world; turns = with_hand c.turns })
hand_more way c two = record {
  placed = record {
    queue = two.placed.queue;
    hands = λ h. omega (arith, sum_by-append (one_in h) c.turns.hands (None ∷ []), sum_by-cons (one_in h) None [], two.placed.hands h);
  };
  cells = two.cells;
  services = two.services;
  inboxes = two.inboxes;
  listed = two.listed;
}

-- ONE STEP

record Out {S : Type 0} (way : Way S) (c : Levels S) (who : List Handle) (c2 : Levels S) : Type 0 where
  pub two : HasTurns way c2
  pub same : after way who c.world ≡ Some c2.world
  pub timers : HasTimers c.world → HasTimers c2.world

-- nobody acted
out_still : {S : Type 0} (way : Way S) (c : Levels S) (who : List Handle) (c2 : Levels S) → who ≡ [] → c2.world ≡ c.world → HasTurns way (record { world = c.world; turns = c2.turns }) → Out way c who c2
out_still {S = S} way c who c2 none same two = record {
  two = subst (λ (z : World S). HasTurns way (record { world = z; turns = c2.turns })) (sym same) two;
  same = ap (λ hs. after way hs c.world) none ∙ ap Some (sym same);
  timers = λ ok. subst (λ (z : World S). HasTimers z) (sym same) ok;
}

-- one did
out_act : {S : Type 0} (way : Way S) (c : Levels S) (who : List Handle) (c2 : Levels S) (own : Handle) (what : What) → HasTurns way c → who ≡ own ∷ [] → act way c.world own ≡ Some (what, c2.world) → HasTurns way c2 → Out way c who c2
out_act way c who c2 own what two one acts two2 = record {
  two = two2;
  same = ap (λ hs. after way hs c.world) one ∙ ap (λ q. go_on q (λ w2. after way [] w2)) acts;
  timers = λ ok. act_timers way c.world own what c2.world ok (two.services ∙ sym two.inboxes) acts;
}

act_kept : {S : Type 0} (way : Way S) (sound : S → Type 0) → IsLawful way sound → (c c2 : Levels S) (i : ℕ) (own : Handle) (what : What) → HasTurns way c → IsAct way c.world c.turns i own what c2.world c2.turns → HasTurns way c2
act_kept way sound lawful c c2 i own what two x = go x.after where
  done : HasTurns way (record { world = c2.world; turns = turns_after c.turns what })
  done = act_two way sound lawful c own what c2.world two (inr (held_is c.turns i own two.placed x.has)) x.acts

  go : ((c2.turns ≡ turns_after c.turns what) ⊎ (IsLaunch what × (c2.turns ≡ with_hand (turns_after c.turns what)))) → HasTurns way c2
  go (inl e) = subst (λ (z : Turns). HasTurns way (record { world = c2.world; turns = z })) (sym e) done
  go (inr (launch, e)) = subst (λ (z : Turns). HasTurns way (record { world = c2.world; turns = z })) (sym e) (hand_more way (record { world = c2.world; turns = turns_after c.turns what }) done)

step_out : {S : Type 0} (way : Way S) (sound : S → Type 0) → IsLawful way sound → (c : Levels S) (a : Action) (who : List Handle) (c2 : Levels S) → HasTurns way c → IsStep way c a who c2 → Out way c who c2
step_out way sound lawful c (does.Fetch i) who c2 two x = out_still way c who c2 x.1 x.2 (fetched way c two i x.0 c2.turns x.3)
step_out way sound lawful c (does.Act i) who c2 two x = out_act way c who c2 x.0 x.1 two x.2 x.3.acts (act_kept way sound lawful c c2 i x.0 x.1 two x.3)
step_out way sound lawful c (does.Park i) who c2 two x = out_still way c who c2 x.1 x.2 (parked way c two i x.0 c2.turns x.3)
step_out way sound lawful c (does.Exchange i) who c2 two x = out_still way c who c2 x.2 x.3 (exchanged way c two i x.0 x.1 c2.turns x.4)
step_out way sound lawful c does.Clock who c2 two x = out_act way c who c2 clock_agent x.0 two x.1 x.2.acts
    (subst (λ (z : Turns). HasTurns way (record { world = c2.world; turns = z })) (sym x.2.after) (act_two way sound lawful c clock_agent x.0 c2.world two (inl refl) x.2.acts))

-- MANY

pub after_both : {S : Type 0} (way : Way S) (xs ys : List Handle) (w v u : World S) → after way xs w ≡ Some v → after way ys v ≡ Some u → after way (xs ++ ys) w ≡ Some u
after_both way [] ys w v u e f = let same : w ≡ v = cc in ap (after way ys) same ∙ f
after_both {S = S} way (x ∷ xs) ys w v u e f = go (λ z k. after_both way xs ys z v u k f) (act way w x) e where
  go : ((z : World S) → after way xs z ≡ Some v → after way (xs ++ ys) z ≡ Some u) → (q : Option (What × World S)) → go_on q (λ z. after way xs z) ≡ Some v → go_on q (λ z. after way (xs ++ ys) z) ≡ Some u
  go rec None k = absurd (cc)
  go rec (Some r) k = rec r.1 k

out_both : {S : Type 0} (way : Way S) (c mid c2 : Levels S) (first rest who : List Handle) → Out way c first mid → Out way mid rest c2 → who ≡ first ++ rest → Out way c who c2
out_both way c mid c2 first rest who one two e = record {
  two = two.two;
  same = ap (λ hs. after way hs c.world) e ∙ after_both way first rest c.world mid.world c2.world one.same two.same;
  timers = λ ok. two.timers (one.timers ok);
}

stays : {S : Type 0} (way : Way S) (c : Levels S) (who : List Handle) (c2 : Levels S) → HasTurns way c → who ≡ [] → c2 ≡ c → Out way c who c2
stays {S = S} way c who c2 two none same = out_still way c who c2 none (ap (λ (z : Levels S). z.world) same) (subst (λ (z : Levels S). HasTurns way (record { world = c.world; turns = z.turns })) (sym same) two)

try_out : {S : Type 0} (way : Way S) (sound : S → Type 0) → IsLawful way sound → (c : Levels S) (a : Action) (who : List Handle) (c2 : Levels S) → HasTurns way c → Tries way c a who c2 → Out way c who c2
try_out way sound lawful c a who c2 two (inl x) = step_out way sound lawful c a who c2 two x
try_out way sound lawful c a who c2 two (inr x) = stays way c who c2 two x.1 x.2

run_out : {S : Type 0} (way : Way S) (sound : S → Type 0) → IsLawful way sound → (all : List Action) (c : Levels S) (who : List Handle) (c2 : Levels S) → HasTurns way c → Runs way all c who c2 → Out way c who c2
run_out way sound lawful [] c who c2 two x = stays way c who c2 two x.0 x.1
run_out way sound lawful (a ∷ more) c who c2 two x =
    let one = try_out way sound lawful c a x.0 x.1 two x.3 in
    out_both way c x.1 c2 x.0 x.2 who one (run_out way sound lawful more x.1 x.2 c2 one.two x.4) x.5

pub steps_keep : {S : Type 0} (way : Way S) (sound : S → Type 0) → IsLawful way sound → StepsKeepTwo way
steps_keep way sound lawful all c c2 who two x =
    let out = run_out way sound lawful all c who c2 two.turns x in
    record { two = record { turns = out.two; timers = out.timers two.timers }; same = out.same; apart = apart c2.turns out.two.placed }

-- THE FIRST STATE

none_is : {X : Type 0} (x : X) → None ≢ Some x
none_is x e = cc

none_there : {X : Type 0} (x : X) (g : ℕ) → at {X = X} [] g ≡ Some x → ⊥
none_there {X = X} x g e = none_is x (sym (at_nothing {X = X} g) ∙ e)

mid_none : {S : Type 0} (way : Way S) (hands : List (Option Handle)) → AreEmpty hands → Mid way [] [] (record { spots = []; queue = []; hands = hands })
mid_none way hands empty = record {
  placed = none_placed hands empty;
  cells = λ g x i spot e1 e2 e3. absurd (none_there x g.0 e1);
  services = refl;
  inboxes = refl;
}

first_mid : {S : Type 0} (way : Way S) (a b s : S) (hands : List (Option Handle)) → way.next a ≡ Idle → way.next b ≡ Idle → way.next s ≡ Idle → AreEmpty hands
    → Mid way (Serving a ∷ Serving b ∷ Serving s ∷ []) (empty_inbox ∷ empty_inbox ∷ start_inbox ∷ []) (record { spots = Queued ∷ Queued ∷ Queued ∷ []; queue = first_turns; hands = hands })
first_mid {S = S} way a b s hands ia ib is empty =
    let t0 : Turns = record { spots = []; queue = []; hands = hands } in
    let t1 : Turns = joined t0 (record { 0 = 1 }) in
    let t2 : Turns = joined t1 (record { 0 = 2 }) in
    let m1 : Mid way (Serving a ∷ []) (empty_inbox ∷ []) t1 = cells.joins way [] [] t0 (mid_none way hands empty) (record { 0 = 1 }) a [] refl ia in
    let m2 : Mid way (Serving a ∷ Serving b ∷ []) (empty_inbox ∷ empty_inbox ∷ []) t2 = cells.joins way (Serving a ∷ []) (empty_inbox ∷ []) t1 m1 (record { 0 = 2 }) b [] refl ib in
    cells.joins way (Serving a ∷ Serving b ∷ []) (empty_inbox ∷ empty_inbox ∷ []) t2 m2 (record { 0 = 3 }) s (init_message [] ∷ []) refl is

opening_fits : {S : Type 0} (way : Way S) (a b s : S) (t : Turns) → way.next a ≡ Idle → way.next b ≡ Idle → way.next s ≡ Idle → AreOpening t → HasTurns way (record { world = opening a b s; turns = t })
opening_fits way a b s t ia ib is o =
    let F : List Spot → List Handle → Turns = λ xs ys. record { spots = xs; queue = ys; hands = t.hands } in
    let e : F (Queued ∷ Queued ∷ Queued ∷ []) first_turns ≡ F t.spots t.queue = ap (λ xs. F xs first_turns) (sym o.spots) ∙ ap (F t.spots) (sym o.queue) in
    let mid = first_mid way a b s t.hands ia ib is o.empty in
    subst (λ (z : Turns). HasTurns way (record { world = opening a b s; turns = z })) e (record { placed = mid.placed; cells = mid.cells; services = refl; inboxes = refl; listed = refl })

pub opening_two : {S : Type 0} (way : Way S) (sound : S → Type 0) (w : World S) (t : Turns) → IsOpening way sound w → AreOpening t → IsTwo way (record { world = w; turns = t })
opening_two {S = S} way sound w t o p = subst (λ (z : World S). IsTwo way (record { world = z; turns = t })) (sym o.same) (record {
  turns = opening_fits way o.logger o.launcher o.start t o.first.is_new.idle o.second.is_new.idle o.third.is_new.idle p;
  timers = record { waiting = tt; due = tt };
})

-- each call, whatever the order of the steps
pub calls_settled : {S : Type 0} (way : Way S) (sound : S → Type 0) → IsLawful way sound → CallsAreSettled way sound
calls_settled way sound lawful call all c c2 who first x =
    let fits = opening_two way sound c.world c.turns first.world first.turns in
    let out = run_out way sound lawful all c who c2 fits.turns x in
    record {
      counted = each_counted way sound lawful call who c.world c2.world first.world out.same;
      once = each_taken_once way sound lawful call who c.world c2.world first.world out.same;
      rests = λ quiet some. each_rests way sound lawful call who c.world c2.world first.world out.same (quiet_drained way c2 (record { turns = out.two; timers = out.timers fits.timers }) quiet) some;
    }
