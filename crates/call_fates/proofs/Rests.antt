-- A call whose reply was void has a caller that is not listed or has ended; so in a drained world each call has come to rest.
use Rattle.std.proofs.Common.{◌⊎◌, inl, inr, ℕ, zero, suc, ◌≡◌, ◌<◌, ◌+◌, ◌==◌, ◌&&◌, Bool, true, false, not, List, [], ◌∷◌, Option, Some, None, if◌then◌else◌, refl, ap, sym, ◌∙◌, subst, arith}
use Rattle.std.specs.Prelude.{unwrap_or}
use Rattle.message.specs.Messages.{is_answer, bounce}
use Rattle.message.specs.Actors.{Way, IsLawful, Replying, Looks, Sends}
use Rattle.message.specs.Registries.{Registry, at, is_listed, look}
use Rattle.message.specs.Inboxes.{accepts, put}
use Rattle.message.specs.Steps.{Asks, Agent, Serves, Times, IsOne, ops, service_ops, op_of, service_after, ending_after, place_of, inbox_does, registry_does}
use Rattle.message.specs.Worlds.{World, agent, act, after, go_on, IsDrained}
use Rattle.sk_types.specs.declared.number.Handle.{Handle}
use Rattle.message.specs.declared.request.Message.{Message}
use Rattle.message.specs.declared.request.Held.{Held}
use Rattle.message.specs.declared.request.Dest.{Dest}
use Rattle.message.specs.declared.request.Dest.TheVariants.{Number}
use Rattle.message.specs.declared.request.Next.TheVariants.{Ask}
use Rattle.message.specs.declared.request.Request.TheVariants as ask
use Rattle.message.specs.declared.record.What.{What}
use Rattle.message.specs.declared.record.What.TheVariants as did
use Rattle.message.specs.declared.place.InboxState.{InboxState}
use Rattle.message.specs.declared.place.InboxStatus.{InboxStatus}
use Rattle.message.specs.declared.place.InboxStatus.TheVariants.{Live, Closing, Gone}
use Rattle.message.specs.declared.place.Ending.{Ending}
use Rattle.message.specs.declared.place.Service.{Service}
use Rattle.message.specs.declared.place.Service.TheVariants.{Serving, Leaving}
use Rattle.call_fates.specs.Calls.{Call, one_of, is_callee, asks, replies, held}
use Rattle.call_fates.specs.Fates.{makes, answers, fails, voids, replying, replying_at, made, answered, failed, void}
use Rattle.call_fates.specs.Reached.{IsOpening, IsWorld}
use Rattle.call_fates.specs.Sessions.{IsFresh, IsMade}
use Rattle.call_fates.specs.Drained.{IsOver, HasRest}
use Rattle.call_fates.proofs.Lists.{at_is, at_some, at_within}
use Rattle.call_fates.proofs.Forms.{asks_then, bounce_did, LooksBack, PutsBack, clock_did}
use Rattle.call_fates.proofs.Inverts.{Acted, Registers, acted, agent_is}
use Rattle.call_fates.proofs.Journals.{Sum, made_is, made_step, fresh_kept, fresh_opening, sum_step, sum_opening, tally_step, each_counted}
use Rattle.call_fates.proofs.Given.{looked}
use Rattle.call_fates.proofs.Steady.{ActsAt, RestsAt, DoneAt, DoneElse, service_now, inbox_now}
use Rattle.call_fates.proofs.Homes.{is_end, is_gone, IsHome}
use Rattle.call_fates.proofs.Orderly.{IsOrderly, orderly_kept, orderly_opening, off_stays, ends_timed}
use Rattle.call_fates.proofs.Sessions.{and_first, and_second, same_nat}
use Rattle.call_fates.proofs.Drained.{one_is, sum_in, none_waits, none_under_way, off_is_over, over_here, held_is_held}

-- HOW A REPLY IS VOID

-- the Look of the reply to x, or its Put, was refused
abbrev Refuses : What → Type 0
Refuses what = ((d : Dest) × (what ≡ did.Look d None)) ⊎ ((to : Handle) × (m : Message) × (what ≡ did.Put to m false))

abbrev IsVoid : Call → Handle → Option Held → What → Type 0
IsVoid c h sent what = ((x : Held) × (sent ≡ Some x) × (x.source ≡ c.caller) × Refuses what) ⊎ ((ms : List Message) × (what ≡ did.End ms) × (h.0 ≡ c.caller.0))

sent_is : (c : Call) (h : ℕ) (sent : Option Held) → 0 < one_of c h sent → (x : Held) × (sent ≡ Some x) × (x.source ≡ c.caller)
sent_is c h None p = absurd (omega (arith, p))
sent_is c h (Some x) p = (x, refl, ap (λ (z : Held). z.source) (one_is c h x p).1)

reply_to : (c : Call) (h : ℕ) (m : Message) → 0 < replies c h m → h ≡ c.caller.0
reply_to c h m p = go (is_answer m.kind && (not (m.source.0 == 0) && (is_callee c.callee m.source.0 && ((h == c.caller.0) && (m.session.0 == c.session.0))))) refl where
  go : (b : Bool) → (is_answer m.kind && (not (m.source.0 == 0) && (is_callee c.callee m.source.0 && ((h == c.caller.0) && (m.session.0 == c.session.0))))) ≡ b → h ≡ c.caller.0
  go false e = let z : replies c h m ≡ 0 = rw e refl in absurd (omega (arith, p, z))
  go true e = same_nat h c.caller.0 (and_first (h == c.caller.0) _ (and_second (is_callee c.callee m.source.0) _ (and_second (not (m.source.0 == 0)) _ (and_second (is_answer m.kind) _ e))))

refused_is : (c : Call) (h : Handle) (sent : Option Held) (what : What) → Refuses what → 0 < one_of c h.0 sent → IsVoid c h sent what
refused_is c h sent what r p = let s = sent_is c h.0 sent p in inl (s.0, s.1, s.2, r)

no_void : {n : ℕ} → n ≡ 0 → 0 < n → ⊥
no_void e p = omega (arith, e, p)

void_is : (c : Call) (h : Handle) (sent : Option Held) (what : What) → 0 < voids c h sent what → IsVoid c h sent what
void_is c h sent (did.Look d None) p = refused_is c h sent (did.Look d None) (inl (d, refl)) p
void_is c h sent (did.Look d (Some g)) p = absurd (no_void refl p)
void_is c h sent (did.Put to m false) p = refused_is c h sent (did.Put to m false) (inr (to, m, refl)) p
void_is c h sent (did.Put to m true) p = absurd (no_void refl p)
void_is c h sent (did.End ms) p = let s = sum_in (replies c h.0) ms p in inr (ms, refl, reply_to c h.0 s.0 s.2)
void_is c h sent (did.Launch text args f) p = absurd (no_void refl p)
void_is c h sent (did.Name text to b) p = absurd (no_void refl p)
void_is c h sent (did.Retire to b) p = absurd (no_void refl p)
void_is c h sent (did.Mark to) p = absurd (no_void refl p)
void_is c h sent (did.Later n x) p = absurd (no_void refl p)
void_is c h sent (did.Now n) p = absurd (no_void refl p)
void_is c h sent (did.Take m l) p = absurd (no_void refl p)
void_is c h sent (did.Tick due) p = absurd (no_void refl p)
void_is c h sent (did.Fire to m b) p = absurd (no_void refl p)

-- what makes a call makes no reply void
makes_no_void : (c : Call) (h : Handle) (sent : Option Held) (what : What) → 0 < makes c what → voids c h sent what ≡ 0
makes_no_void c h sent what p = go (made_is c what) where
  go : ((makes c what ≡ 0) ⊎ ((to : Handle) × (m : Message) × (what ≡ did.Put to m true) × (0 < asks c to.0 m) × (makes c what ≡ asks c to.0 m))) → voids c h sent what ≡ 0
  go (inl z) = absurd (omega (arith, p, z))
  go (inr q) = ap (voids c h sent) q.2

-- THE REPLY THAT WAS REFUSED

look_dest : (d d2 : Dest) (f f2 : Option Handle) → did.Look d f ≡ did.Look d2 f2 → d ≡ d2
look_dest d d2 f f2 e = cc

put_dest : (to to2 : Handle) (m m2 : Message) (b b2 : Bool) → did.Put to m b ≡ did.Put to2 m2 b2 → to ≡ to2
put_dest to to2 m m2 b b2 e = cc

look_not_put : (d : Dest) (to : Handle) (m : Message) → Ask (ask.Look d) ≡ Ask (ask.Put to m) → ⊥
look_not_put d to m e = cc

look_ask : (d d2 : Dest) → Ask (ask.Look d) ≡ Ask (ask.Look d2) → d ≡ d2
look_ask d d2 e = cc

put_ask : (to to2 : Handle) (m m2 : Message) → Ask (ask.Put to m) ≡ Ask (ask.Put to2 m2) → to ≡ to2
put_ask to to2 m m2 e = cc

held_same : (x y : Held) → Some x ≡ Some y → x ≡ y
held_same x y e = cc

-- the agent that sends the reply to x looks up its caller, or puts the reply to it
looks_for : {S : Type 0} (way : Way S) (y : Service S) (x : Held) (d : Dest) (f : Option Handle) → ((s : S) → y ≡ Serving s → Replying way s (way.reply s)) → replying way y ≡ Some x → IsOne (Asks (ask.Look d)) (service_ops way y) → d ≡ Number x.source.0
looks_for way (Serving s) x d f told e may = go (subst (Replying way s) e (told s refl)) where
  asked : way.next s ≡ Ask (ask.Look d)
  asked = asks_then (way.next s) (ask.Look d) may

  go : Looks way x s ⊎ Sends way x s → d ≡ Number x.source.0
  go (inl k) = look_ask d (Number x.source.0) (sym asked ∙ k)
  go (inr k) = absurd (look_not_put d x.source k.0 (sym asked ∙ k.1))
looks_for way (Leaving a) x d f told e may = go (bounce_did a.own a.found a.bounces (did.Look d f) may) where
  go : LooksBack a.own a.found a.bounces (did.Look d f) ⊎ PutsBack a.own a.found a.bounces (did.Look d f) → d ≡ Number x.source.0
  go (inl p) = look_dest d (Number p.0.source.0) f p.1 p.4 ∙ ap (λ (z : Held). Number z.source.0) (held_same p.0 x (sym p.2 ∙ e))
  go (inr p) = absurd (cc (p.4))

puts_to : {S : Type 0} (way : Way S) (y : Service S) (x : Held) (to : Handle) (m : Message) (b : Bool) → ((s : S) → y ≡ Serving s → Replying way s (way.reply s)) → replying way y ≡ Some x → IsOne (Asks (ask.Put to m)) (service_ops way y) → to ≡ x.source
puts_to way (Serving s) x to m b told e may = go (subst (Replying way s) e (told s refl)) where
  asked : way.next s ≡ Ask (ask.Put to m)
  asked = asks_then (way.next s) (ask.Put to m) may

  go : Looks way x s ⊎ Sends way x s → to ≡ x.source
  go (inl k) = absurd (look_not_put (Number x.source.0) to m (sym k ∙ asked))
  go (inr k) = put_ask to x.source m k.0 (sym asked ∙ k.1)
puts_to way (Leaving a) x to m b told e may = go (bounce_did a.own a.found a.bounces (did.Put to m b) may) where
  go : LooksBack a.own a.found a.bounces (did.Put to m b) ⊎ PutsBack a.own a.found a.bounces (did.Put to m b) → to ≡ x.source
  go (inl p) = absurd (cc (p.4))
  go (inr p) = put_dest to p.0.source m (bounce a.own p.0) b p.1 p.4 ∙ ap (λ (z : Held). z.source) (held_same p.0 x (sym p.2 ∙ e))

-- a Put is refused where the inbox is gone
refused_gone : (to : Handle) (m : Message) (i j : InboxState) → inbox_does (Asks (ask.Put to m)) i ≡ Some (did.Put to m false, j) → is_gone i.status ≡ true
refused_gone to m i j e = gone i.status (flag (put to m i) (did.Put to m false, j) e) where
  put_flag : What → Bool
  put_flag (did.Put t n b) = b
  put_flag _ = false

  flag : (d d2 : What × InboxState) → ◌≡◌ {A = Option (What × InboxState)} (Some d) (Some d2) → put_flag d.0 ≡ put_flag d2.0
  flag d d2 k = let same : d ≡ d2 = cc in ap (λ (z : What × InboxState). put_flag z.0) same

  gone : (s : InboxStatus) → accepts s ≡ false → is_gone s ≡ true
  gone Live k = absurd (cc)
  gone Closing k = absurd (cc)
  gone Gone k = refl

-- who is not found and was given is listed no more
not_found : (r : Registry) (n : ℕ) (b : Bool) → at r.listed n ≡ Some b → look r (Number n) ≡ None → at r.listed n ≡ Some false
not_found r n false there e = there
not_found r n true there e = absurd (found (is_listed r.listed n) (ap (λ q. unwrap_or q false) there) e) where
  N : Handle
  N = record { 0 = n }

  found : (b : Bool) → b ≡ true → (if b then Some N else None) ≡ None → ⊥
  found true k q = cc
  found false k q = cc

-- THE CALLER

-- it is listed no more, or has ended
abbrev pub IsAway : {S : Type 0} → World S → Handle → Type 0
IsAway w g = (at w.registry.listed g.0 ≡ Some false) ⊎ ((e : Ending) × (at w.services g.0 ≡ Some (Leaving e)))

module _ {S : Type 0} (way : Way S) (sound : S → Type 0) (lawful : IsLawful way sound) where
  module _ (w : World S) (h : Handle) (r : What × World S) (ok : IsWorld way sound w) (tidy : IsOrderly way w) (x : Acted way w h r) where
    away_kept : (g : Handle) → IsAway w g → IsAway r.1 g
    away_kept g (inl e) = inl (off_stays way sound lawful w h r ok tidy x g e)
    away_kept g (inr p) = go (service_now way w h r x g (Leaving p.0) p.1) where
      go : ActsAt way w h r x g (Leaving p.0) ⊎ RestsAt way w h r x g (Leaving p.0) → IsAway r.1 g
      go (inl q) = inr (ending_after p.0 r.0, q.now)
      go (inr q) = inr (p.0, q.now)

    -- the service that ends has ended
    ends_away : (g : Handle) (y : Service S) (ms : List Message) → at w.services g.0 ≡ Some y → g.0 ≡ h.0 → r.0 ≡ did.End ms → IsAway r.1 g
    ends_away g y ms here same e = go y (service_now way w h r x g y here) where
      go : (z : Service S) → ActsAt way w h r x g z ⊎ RestsAt way w h r x g z → IsAway r.1 g
      go (Serving s) (inl q) = inr (_, q.now ∙ ap (λ what. Some (service_after way (Serving s) what)) e)
      go (Leaving a) (inl q) = inr (ending_after a r.0, q.now)
      go z (inr q) = who x.who refl where
        who : (a : Agent S) → x.who ≡ a → IsAway r.1 g
        who (Serves v) is = absurd (q.other v is same)
        who (Times due) is = absurd (cc (ends_timed r.0 (clock_did due r.0 (subst (λ a. IsOne (op_of r.0) (ops way a)) is x.may)), ap is_end e))

    -- a Look that finds nobody
    look_away : (g : Handle) (y : Service S) → at w.services g.0 ≡ Some y → r.0 ≡ did.Look (Number g.0) None → IsAway w g
    look_away g y here e = inl (go x.registry) where
      b : (v : Bool) × (at w.registry.listed g.0 ≡ Some v)
      b = let l = at_within w.services g.0 y here in at_some w.registry.listed g.0 (at_is w.services g.0 y here).0 (omega (arith, l, ok.listed))

      go : Registers way w h (op_of r.0) r.0 x.mid.registry → at w.registry.listed g.0 ≡ Some false
      go (inr p) = absurd (p.0 (ap (λ z. place_of h (op_of z)) e))
      go (inl p) = not_found w.registry g.0 b.0 b.1 (looked way w.registry x.mid.registry (Number g.0) None (subst (λ z. registry_does way (op_of z) w.registry ≡ Some (z, x.mid.registry)) e p.1))

    -- a Put that is refused
    put_away : (g : Handle) (y : Service S) (m : Message) → at w.services g.0 ≡ Some y → r.0 ≡ did.Put g m false → IsAway w g
    put_away g y m here e = go (inbox_now way w h r x g i.0 i.1) where
      i : (j : InboxState) × (at w.inboxes g.0 ≡ Some j)
      i = let l = at_within w.services g.0 y here in at_some w.inboxes g.0 (at_is w.services g.0 y here).0 (omega (arith, l, ok.inboxes))

      left : (z : Service S) → at w.services g.0 ≡ Some z → IsHome z i.0 → is_gone i.0.status ≡ true → IsAway w g
      left (Leaving a) k home gone = inr (a, k)
      left (Serving s) k home gone = absurd (cc (home, gone))

      go : DoneAt way w h r x g i.0 ⊎ DoneElse way w h r x g i.0 → IsAway w g
      go (inl q) = left y here (tidy.homes g y i.0 here i.1) (refused_gone g m i.0 q.after (subst (λ z. inbox_does (op_of z) i.0 ≡ Some (z, q.after)) e q.does))
      go (inr q) = absurd (q.other (ap (λ z. place_of h (op_of z)) e))

    -- where a reply is void, its caller is away
    void_away : (c : Call) (y : Service S) → at w.services c.caller.0 ≡ Some y → 0 < voids c h (replying_at way (agent w h)) r.0 → IsAway r.1 c.caller
    void_away c y here p = go (void_is c h (replying_at way (agent w h)) r.0 p) where
      refused : (v : Held) → replying_at way (agent w h) ≡ Some v → v.source ≡ c.caller → Refuses r.0 → IsAway r.1 c.caller
      refused v sent is why = who x.who refl where
        told : (z : Service S) → x.who ≡ Serves z → (s : S) → z ≡ Serving s → Replying way s (way.reply s)
        told z at_z s k = (lawful.told s (ok.services h (Serving s) (agent_is w h (Serving s) (x.there ∙ ap Some (at_z ∙ ap Serves k)))).0).replying

        who : (a : Agent S) → x.who ≡ a → IsAway r.1 c.caller
        who (Times due) at_a = absurd (none (sym sent ∙ ap (replying_at way) (x.there ∙ ap Some at_a))) where
          none : Some v ≡ None → ⊥
          none k = cc
        who (Serves z) at_a = turn why where
          sends : replying way z ≡ Some v
          sends = ap (replying_at way) (sym (x.there ∙ ap Some at_a)) ∙ sent

          may : (what : What) → r.0 ≡ what → IsOne (op_of what) (service_ops way z)
          may what e = subst (λ u. IsOne (op_of u) (service_ops way z)) e (subst (λ a. IsOne (op_of r.0) (ops way a)) at_a x.may)

          turn : Refuses r.0 → IsAway r.1 c.caller
          turn (inl q) =
              let d_is : q.0 ≡ Number c.caller.0 = looks_for way z v q.0 None (told z at_a) sends (may (did.Look q.0 None) q.1) ∙ ap (λ (g : Handle). Number g.0) is in
              away_kept c.caller (look_away c.caller y here (q.1 ∙ ap (λ d. did.Look d None) d_is))
          turn (inr q) =
              let to_is : q.0 ≡ c.caller = puts_to way z v q.0 q.1 false (told z at_a) sends (may (did.Put q.0 q.1 false) q.2) ∙ is in
              away_kept c.caller (put_away c.caller y q.1 here (q.2 ∙ ap (λ g. did.Put g q.1 false) to_is))

      go : IsVoid c h (replying_at way (agent w h)) r.0 → IsAway r.1 c.caller
      go (inl q) = refused q.0 q.1 q.2 q.3
      go (inr q) = ends_away c.caller y q.0 here (sym q.2) q.1

    -- after the act
    away_step : (c : Call) (n a f v : ℕ) → IsMade way c w n → Sum way sound lawful c r.1 (n + makes c r.0) a f (v + voids c h (replying_at way (agent w h)) r.0) → (0 < v → IsAway w c.caller) → 0 < v + voids c h (replying_at way (agent w h)) r.0 → IsAway r.1 c.caller
    away_step c n a f v once sum old p = go v refl where
      go : (k : ℕ) → v ≡ k → IsAway r.1 c.caller
      go (suc k) e = away_kept c.caller (old (omega (arith, e)))
      go zero e = first_void (makes c r.0) refl where
        now : 0 < voids c h (replying_at way (agent w h)) r.0
        now = omega (arith, p, e)

        first_void : (k : ℕ) → makes c r.0 ≡ k → IsAway r.1 c.caller
        first_void (suc k) m = absurd (no_void (makes_no_void c h (replying_at way (agent w h)) r.0 (omega (arith, m))) now)
        first_void zero m = let drawn = once.past (omega (arith, sum, m, now)) in void_away c drawn.0 drawn.1 now

  -- JOURNALS

  -- the world after the journal
  pub record Reaches (c : Call) (hs : List Handle) (w w2 : World S) (v : ℕ) : Type 0 where
    pub world : IsWorld way sound w2
    pub tidy : IsOrderly way w2
    pub away : 0 < v + void way c hs w → IsAway w2 c.caller

  ends : (hs : List Handle) (w w2 : World S) (c : Call) (n a f v : ℕ) → IsFresh way sound w → IsOrderly way w → IsMade way c w n → Sum way sound lawful c w n a f v → (0 < v → IsAway w c.caller) → after way hs w ≡ Some w2 → Reaches c hs w w2 v
  ends [] w w2 c n a f v fresh tidy once sum away e =
      let same : w ≡ w2 = cc in
      record { world = subst (IsWorld way sound) same fresh.world; tidy = subst (IsOrderly way) same tidy; away = λ p. subst (λ (z : World S). IsAway z c.caller) same (away (omega (arith, p))) }
  ends (h ∷ hs) w w2 c n a f v fresh tidy once sum away e = go (λ u n2 a2 f2 v2 p t q s k x. ends hs u w2 c n2 a2 f2 v2 p t q s k x) (act way w h) refl e where
    go : ((u : World S) (n2 a2 f2 v2 : ℕ) → IsFresh way sound u → IsOrderly way u → IsMade way c u n2 → Sum way sound lawful c u n2 a2 f2 v2 → (0 < v2 → IsAway u c.caller) → after way hs u ≡ Some w2 → Reaches c hs u w2 v2)
        → (q : Option (What × World S)) → act way w h ≡ q → go_on q (λ u. after way hs u) ≡ Some w2 → Reaches c (h ∷ hs) w w2 v
    go later None eq k = absurd (cc)
    go later (Some r) eq k =
        let x = acted way w h r eq in
        let v1 = voids c h (replying_at way (agent w h)) r.0 in
        let sum2 = sum_step way sound lawful c w h r n a f v fresh x sum in
        let all = later r.1 (n + makes c r.0) (a + answers c h r.0) (f + fails c h r.0) (v + v1) (fresh_kept way sound lawful w h r fresh x) (orderly_kept way sound lawful w h r fresh.world tidy x) (made_step way sound lawful w h r c n fresh x once) sum2 (away_step w h r fresh.world tidy x c n (a + answers c h r.0) (f + fails c h r.0) v once sum2 away) k in
        let v_is = tally_step way sound lawful (λ u g what. voids c g (replying_at way (agent u g)) what) h hs w r eq in
        record { world = all.world; tidy = all.tidy; away = λ p. all.away (omega (arith, p, v_is)) }

  pub each_rests : (c : Call) (hs : List Handle) (w w2 : World S) → IsOpening way sound w → after way hs w ≡ Some w2 → IsDrained way w2 → 0 < made way c hs w → HasRest way c hs w w2
  each_rests c hs w w2 o e drained was = go (held way c w2) refl (void way c hs w) refl where
    none : IsMade way c w 0
    none = record { once = omega arith; past = λ p. absurd (omega (arith, p)) }

    sum : Sum way sound lawful c w 0 0 0 0
    sum = subst (λ z. Sum way sound lawful c z 0 0 0 0) (sym o.same) (sum_opening way sound lawful c o.logger o.launcher o.start o.first o.second o.third)

    all : Reaches c hs w w2 0
    all = ends hs w w2 c 0 0 0 0 (fresh_opening way sound lawful w o) (orderly_opening way sound lawful w o) none sum (λ p. absurd (omega (arith, p))) e

    fate : (held way c w2 + (answered way c hs w + (failed way c hs w + void way c hs w)) ≡ made way c hs w) × (made way c hs w ≡ 1)
    fate =
        let k = each_counted way sound lawful c hs w w2 o e in
        let one = k.one_fate in
        let once = k.once in
        (omega (arith, one, none_waits way sound lawful w2 all.world all.tidy drained.still c, none_under_way way sound lawful w2 all.world all.tidy drained.still c), omega (arith, once, was))

    over : IsAway w2 c.caller → IsOver w2 c.caller
    over (inr p) = over_here way sound lawful w2 all.world all.tidy drained.still c.caller p.0 p.1
    over (inl p) =
        let l = at_within w2.registry.listed c.caller.0 false p in
        let y = at_some w2.services c.caller.0 (at_is w2.registry.listed c.caller.0 false p).0 (omega (arith, l, all.world.listed)) in
        off_is_over way sound lawful w2 all.world all.tidy drained.still c.caller y.0 y.1 p

    go : (k : ℕ) → held way c w2 ≡ k → (u : ℕ) → void way c hs w ≡ u → HasRest way c hs w w2
    go (suc k) q u z = let p = fate in inr (inl (held_is_held way c w2 (omega (arith, p.0, p.1, q))))
    go zero q (suc u) z = let p = fate in inr (inr (record { once = omega (arith, p.0, p.1, z); caller = over (all.away (omega (arith, z))) }))
    go zero q zero z = let p = fate in inl (omega (arith, p.0, p.1, q, z))
