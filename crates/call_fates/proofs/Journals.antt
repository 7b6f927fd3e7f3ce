-- The fates of calls over whole journals.
use Rattle.std.proofs.Common.{◌⊎◌, inl, inr, ℕ, zero, suc, ◌≡◌, ◌<◌, ◌≤◌, ◌+◌, true, false, List, [], ◌∷◌, length, Option, Some, None, refl, ap, sym, ◌∙◌, subst, arith}
use Rattle.message.specs.Actors.{Way, IsLawful, Begins, drawn}
use Rattle.message.specs.Registries.{at, set_at}
use Rattle.message.specs.Steps.{Agent, Serves, Times, IsOne, Asks, ops, op_of, service_after}
use Rattle.message.specs.Worlds.{World, agent, act, after, go_on, opening}
use Rattle.sk_types.specs.declared.number.Handle.{Handle}
use Rattle.message.specs.declared.request.Message.{Message}
use Rattle.message.specs.declared.request.Request.TheVariants as ask
use Rattle.message.specs.declared.record.What.{What}
use Rattle.message.specs.declared.record.What.TheVariants as did
use Rattle.message.specs.declared.place.Service.{Service}
use Rattle.message.specs.declared.place.Service.TheVariants.{Serving}
use Rattle.call_fates.specs.Calls.{Call, asks, waiting, held, on_its_way, one_of, all_of}
use Rattle.call_fates.specs.Fates.{makes, answers, fails, voids, replying_at, with_act, tally, made, answered, failed, void, taken}
use Rattle.call_fates.specs.Reached.{IsOpening, ServiceOk}
use Rattle.call_fates.specs.Sessions.{IsBelow, IsUpTo, HasDrawn, Draws, IsDrawn, IsFresh, IsMade}
use Rattle.call_fates.specs.Laws.{IsCounted}
use Rattle.call_fates.proofs.Lists.{handle_is, at_is, at_set, at_push, at_kept, at_front, at_here}
use Rattle.call_fates.proofs.Forms.{clock_did, ClockDid, ticks, fires}
use Rattle.call_fates.proofs.Worlds.{world_kept}
use Rattle.call_fates.proofs.Inverts.{Acted, Grows, services_after, acted, agent_is}
use Rattle.call_fates.proofs.Counts.{changes}
use Rattle.call_fates.proofs.Sessions.{IsBehind, drawn_behind, after_drawn, after_draws, IsAsked, asks_is, IsPutter, putter}

-- a call is made by a true Put of a request
pub made_is : (c : Call) (what : What) → (makes c what ≡ 0) ⊎ ((to : Handle) × (m : Message) × (what ≡ did.Put to m true) × (0 < asks c to.0 m) × (makes c what ≡ asks c to.0 m))
made_is c (did.Put to m true) = go (asks c to.0 m) refl where
  go : (n : ℕ) → asks c to.0 m ≡ n → (asks c to.0 m ≡ 0) ⊎ ((t : Handle) × (x : Message) × (did.Put to m true ≡ did.Put t x true) × (0 < asks c t.0 x) × (asks c to.0 m ≡ asks c t.0 x))
  go zero e = inl e
  go (suc n) e = inr (to, m, refl, omega (arith, e), refl)
made_is c (did.Put to m false) = inl refl
made_is c (did.Look d f) = inl refl
made_is c (did.Launch text args f) = inl refl
made_is c (did.Name text to b) = inl refl
made_is c (did.Retire to b) = inl refl
made_is c (did.Mark to) = inl refl
made_is c (did.Later n x) = inl refl
made_is c (did.Now n) = inl refl
made_is c (did.Take m l) = inl refl
made_is c (did.End ms) = inl refl
made_is c (did.Tick due) = inl refl
made_is c (did.Fire to m b) = inl refl

module _ {S : Type 0} (way : Way S) (sound : S → Type 0) (lawful : IsLawful way sound) where
  -- THE SERVICES AFTER AN ACT

  on_grown : (what : What) (mid w2 : World S) (g : ℕ) (y : Service S) → Grows way what mid w2 → at mid.services g ≡ Some y → at w2.services g ≡ Some y
  on_grown what mid w2 g y (inl p) e = ap (λ (z : World S). at z.services g) p.0 ∙ e
  on_grown what mid w2 g y (inr p) e = ap (λ (z : World S). at z.services g) p.grown ∙ at_front mid.services (Serving p.state ∷ []) g y e

  -- a service that was there is there, as it was or as its act left it
  pub stays : (w : World S) (h : Handle) (r : What × World S) (x : Acted way w h r) (g : Handle) (y : Service S) → at w.services g.0 ≡ Some y
      → (at r.1.services g.0 ≡ Some y) ⊎ ((z : Service S) × (x.who ≡ Serves z) × (g.0 ≡ h.0) × (at r.1.services g.0 ≡ Some (service_after way z r.0)))
  stays w h r x g y e = go x.who x.there refl x.services where
    now : {z : Service S} → at x.mid.services g.0 ≡ Some z → at r.1.services g.0 ≡ Some z
    now {z} k = on_grown r.0 x.mid r.1 g.0 z x.grows k

    go : (a : Agent S) → agent w h ≡ Some a → x.who ≡ a → x.mid.services ≡ services_after way w h x.who r.0 → (at r.1.services g.0 ≡ Some y) ⊎ ((z : Service S) × (x.who ≡ Serves z) × (g.0 ≡ h.0) × (at r.1.services g.0 ≡ Some (service_after way z r.0)))
    go (Times due) there is all = inl (now (ap (λ z. at z g.0) (all ∙ ap (λ a. services_after way w h a r.0) is) ∙ e))
    go (Serves z) there is all = turn (at_kept w.services h.0 g.0 (service_after way z r.0) y (at_is w.services h.0 z (agent_is w h z there)).0 e) where
      same : x.mid.services ≡ set_at w.services h.0 (service_after way z r.0)
      same = all ∙ ap (λ a. services_after way w h a r.0) is

      turn : ((at (set_at w.services h.0 (service_after way z r.0)) g.0 ≡ Some y) ⊎ ((g.0 ≡ h.0) × (at (set_at w.services h.0 (service_after way z r.0)) g.0 ≡ Some (service_after way z r.0))))
          → (at r.1.services g.0 ≡ Some y) ⊎ ((v : Service S) × (x.who ≡ Serves v) × (g.0 ≡ h.0) × (at r.1.services g.0 ≡ Some (service_after way v r.0)))
      turn (inl p) = inl (now (ap (λ v. at v g.0) same ∙ p))
      turn (inr p) = inr (z, is, p.0, now (ap (λ v. at v g.0) same ∙ p.1))

  new_draws : (text : List ℕ) (own : Handle) (s : S) → way.begins text own ≡ Some s → Draws way (Serving s)
  new_draws text own s e = let new = (lawful.begin text own s e).is_new in subst (λ n. IsUpTo (way.asked s) (drawn n)) (sym new.idle) tt

  draws_kept : (w : World S) (h : Handle) (r : What × World S) → IsFresh way sound w → (x : Acted way w h r) → (g : Handle) (y : Service S) → at r.1.services g.0 ≡ Some y → Draws way y
  draws_kept w h r fresh x g y e = more x.grows where
    inner : (a : Agent S) → x.who ≡ a → at (services_after way w h a r.0) g.0 ≡ Some y → Draws way y
    inner (Times due) is f = fresh.draws g y f
    inner (Serves z) is f = go (at_set w.services h.0 g.0 (service_after way z r.0) y (at_is w.services h.0 z here).0 f) where
      here : at w.services h.0 ≡ Some z
      here = agent_is w h z (x.there ∙ ap Some is)

      go : (((g.0 ≡ h.0) × (y ≡ service_after way z r.0)) ⊎ (at w.services g.0 ≡ Some y)) → Draws way y
      go (inl p) = subst (Draws way) (sym p.1) (after_draws way sound lawful h z r.0 (fresh.world.services h z here) (subst (λ a. IsOne (op_of r.0) (ops way a)) is x.may) x.done.fits)
      go (inr p) = fresh.draws g y p

    mid : at x.mid.services g.0 ≡ Some y → Draws way y
    mid f = inner x.who refl (ap (λ z. at z g.0) (sym x.services) ∙ f)

    more : Grows way r.0 x.mid r.1 → Draws way y
    more (inl p) = mid (ap (λ (z : World S). at z.services g.0) (sym p.0) ∙ e)
    more (inr p) = last (at_push x.mid.services g.0 (Serving p.state) y (ap (λ (z : World S). at z.services g.0) (sym p.grown) ∙ e)) where
      last : (((g.0 ≡ length x.mid.services + 1) × (y ≡ Serving p.state)) ⊎ (at x.mid.services g.0 ≡ Some y)) → Draws way y
      last (inl q) = subst (Draws way) (sym q.1) (new_draws p.text p.own p.state p.begins)
      last (inr q) = mid q

  pub fresh_kept : (w : World S) (h : Handle) (r : What × World S) → IsFresh way sound w → Acted way w h r → IsFresh way sound r.1
  fresh_kept w h r fresh x = record { world = world_kept way sound lawful w h r fresh.world x; draws = draws_kept w h r fresh x }

  -- the service that acted, after its act
  pub acts_on : (w : World S) (h : Handle) (r : What × World S) (x : Acted way w h r) (z : Service S) → x.who ≡ Serves z → at r.1.services h.0 ≡ Some (service_after way z r.0)
  acts_on w h r x z is = on_grown r.0 x.mid r.1 h.0 (service_after way z r.0) x.grows (ap (λ v. at v h.0) (x.services ∙ ap (λ a. services_after way w h a r.0) is) ∙ at_here w.services h.0 (service_after way z r.0) z (agent_is w h z (x.there ∙ ap Some is)))

  -- A CALL IS MADE ONCE

  pub drawn_kept : (w : World S) (h : Handle) (r : What × World S) (c : Call) → IsFresh way sound w → Acted way w h r → IsDrawn way c w → IsDrawn way c r.1
  drawn_kept w h r c fresh x old = turn (stays w h r x c.caller old.0 old.1) where
    turn : ((at r.1.services c.caller.0 ≡ Some old.0) ⊎ ((z : Service S) × (x.who ≡ Serves z) × (c.caller.0 ≡ h.0) × (at r.1.services c.caller.0 ≡ Some (service_after way z r.0)))) → IsDrawn way c r.1
    turn (inl q) = (old.0, q, old.2)
    turn (inr q) =
        let here : at w.services h.0 ≡ Some q.0 = agent_is w h q.0 (x.there ∙ ap Some q.1) in
        let same : Some old.0 ≡ Some q.0 = sym old.1 ∙ (ap (at w.services) q.2 ∙ here) in
        let is : old.0 ≡ q.0 = cc in
        let d : HasDrawn way c.session.0 q.0 = subst (HasDrawn way c.session.0) is old.2 in
        (service_after way q.0 r.0, q.3, after_drawn way sound lawful h q.0 r.0 c.session.0 (fresh.world.services h q.0 here) (subst (λ a. IsOne (op_of r.0) (ops way a)) q.1 x.may) x.done.fits (drawn_behind way c.session.0 q.0 d))

  -- who makes the call draws its session
  pub record Maker (w : World S) (h : Handle) (r : What × World S) (c : Call) (x : Acted way w h r) : Type 0 where
    pub to : Handle
    pub message : Message
    pub put : r.0 ≡ did.Put to message true
    pub asked : IsAsked c to.0 message
    pub makes : makes c r.0 ≡ 1
    pub service : Service S
    pub is : x.who ≡ Serves service
    pub putter : IsPutter way h service message

  pub maker : (w : World S) (h : Handle) (r : What × World S) (c : Call) → IsFresh way sound w → (x : Acted way w h r) → (makes c r.0 ≡ 0) ⊎ Maker w h r c x
  maker w h r c fresh x = go (made_is c r.0) where
    go : ((makes c r.0 ≡ 0) ⊎ ((to : Handle) × (m : Message) × (r.0 ≡ did.Put to m true) × (0 < asks c to.0 m) × (makes c r.0 ≡ asks c to.0 m))) → (makes c r.0 ≡ 0) ⊎ Maker w h r c x
    go (inl z) = inl z
    go (inr p) = who x.who refl where
      is : IsAsked c p.0.0 p.1
      is = asks_is c p.0.0 p.1 p.3

      may : IsOne (Asks (ask.Put p.0 p.1)) (ops way x.who)
      may = subst (λ z. IsOne (op_of z) (ops way x.who)) p.2 x.may

      who : (a : Agent S) → x.who ≡ a → (makes c r.0 ≡ 0) ⊎ Maker w h r c x
      who (Times due) e = absurd (no_put p.0 p.1 (clock_did due (did.Put p.0 p.1 true) (subst (λ a. IsOne (Asks (ask.Put p.0 p.1)) (ops way a)) e may))) where
        timed : What → Type 0
        timed (did.Tick more) = Unit {0}
        timed (did.Fire to m b) = Unit {0}
        timed _ = ⊥

        is_timed : (what : What) → ClockDid what → timed what
        is_timed what (ticks more) = tt
        is_timed what (fires to y b) = tt

        no_put : (to : Handle) (m : Message) → ClockDid (did.Put to m true) → ⊥
        no_put to m k = is_timed (did.Put to m true) k
      who (Serves z) e =
          let here : at w.services h.0 ≡ Some z = agent_is w h z (x.there ∙ ap Some e) in
          inr (record {
            to = p.0;
            message = p.1;
            put = p.2;
            asked = is;
            makes = p.4 ∙ is.once;
            service = z;
            is = e;
            putter = putter way sound lawful h z p.0 p.1 true (fresh.world.services h z here) (subst (λ a. IsOne (Asks (ask.Put p.0 p.1)) (ops way a)) e may) is.request;
          })

  -- it had not drawn it before
  pub first_time : (w : World S) (h : Handle) (r : What × World S) (c : Call) → IsFresh way sound w → (x : Acted way w h r) → Maker w h r c x → IsDrawn way c w → ⊥
  first_time w h r c fresh x p old =
      let here : at w.services h.0 ≡ Some p.service = agent_is w h p.service (x.there ∙ ap Some p.is) in
      let caller_is : c.caller.0 ≡ h.0 = sym p.asked.caller ∙ ap (λ (z : Handle). z.0) p.putter.source in
      let same : Some old.0 ≡ Some (Serving p.putter.state) = sym old.1 ∙ (ap (at w.services) caller_is ∙ (here ∙ ap Some p.putter.serves)) in
      let is : old.0 ≡ Serving p.putter.state = cc in
      let drew : HasDrawn way c.session.0 (Serving p.putter.state) = subst (HasDrawn way c.session.0) is old.2 in
      let less : IsBelow c.session.0 (Some c.session.0) = subst (IsBelow c.session.0) (p.putter.draws ∙ ap Some p.asked.session) drew.1 in
      omega (arith, less)

  pub now_drawn : (w : World S) (h : Handle) (r : What × World S) (c : Call) → IsFresh way sound w → (x : Acted way w h r) → Maker w h r c x → IsDrawn way c r.1
  now_drawn w h r c fresh x p =
      let here : at w.services h.0 ≡ Some p.service = agent_is w h p.service (x.there ∙ ap Some p.is) in
      let caller_is : c.caller.0 ≡ h.0 = sym p.asked.caller ∙ ap (λ (z : Handle). z.0) p.putter.source in
      let draws_here : Draws way (Serving p.putter.state) = subst (Draws way) p.putter.serves (fresh.draws h p.service here) in
      let top : c.session.0 ≤ way.asked p.putter.state = subst (IsUpTo (way.asked p.putter.state)) (p.putter.draws ∙ ap Some p.asked.session) draws_here in
      let back : IsBehind way c.session.0 p.service = subst (IsBehind way c.session.0) (sym p.putter.serves) top in (
        service_after way p.service r.0,
        ap (at r.1.services) caller_is ∙ acts_on w h r x p.service p.is,
        after_drawn way sound lawful h p.service r.0 c.session.0 (fresh.world.services h p.service here) (subst (λ a. IsOne (op_of r.0) (ops way a)) p.is x.may) x.done.fits back,
      )

  pub made_step : (w : World S) (h : Handle) (r : What × World S) (c : Call) (n : ℕ) → IsFresh way sound w → Acted way w h r → IsMade way c w n → IsMade way c r.1 (n + makes c r.0)
  made_step w h r c n fresh x old = go (maker w h r c fresh x) where
    go : ((makes c r.0 ≡ 0) ⊎ Maker w h r c x) → IsMade way c r.1 (n + makes c r.0)
    go (inl z) = record { once = omega (arith, z, old.once); past = λ p. drawn_kept w h r c fresh x (old.past (omega (arith, z, p))) }
    go (inr p) = record { once = omega (arith, none n refl, p.makes); past = λ q. now_drawn w h r c fresh x p } where
      none : (t : ℕ) → n ≡ t → n ≡ 0
      none zero e = e
      none (suc t) e = absurd (first_time w h r c fresh x p (old.past (omega (arith, e))))

  -- JOURNALS

  -- the fates, as they stand in the world w, after so many of each before
  abbrev pub Sum : Call → World S → ℕ → ℕ → ℕ → ℕ → Type 0
  Sum c w n a f v = waiting c w + (held way c w + (on_its_way way c w + (a + (f + v)))) ≡ n

  pub sum_step : (c : Call) (w : World S) (h : Handle) (r : What × World S) (n a f v : ℕ) → IsFresh way sound w → (x : Acted way w h r) → Sum c w n a f v
      → Sum c r.1 (n + makes c r.0) (a + answers c h r.0) (f + fails c h r.0) (v + voids c h (replying_at way (agent w h)) r.0)
  sum_step c w h r n a f v fresh x old =
      let k = changes way sound lawful c w h r fresh.world x in
      let is : voids c h (replying_at way (agent w h)) r.0 ≡ voids c h (replying_at way (Some x.who)) r.0 = ap (λ q. voids c h (replying_at way q) r.0) x.there in
      omega (arith, k.waits, k.hold, k.under_way, old, is)

  pub tally_step : (g : World S → Handle → What → ℕ) (h : Handle) (hs : List Handle) (w : World S) (r : What × World S) → act way w h ≡ Some r → tally way g (h ∷ hs) w ≡ g w h r.0 + tally way g hs r.1
  tally_step g h hs w r e = ap (λ q. with_act q (g w h) (λ v. tally way g hs v)) e

  abbrev pub Counted : Call → List Handle → World S → World S → ℕ → ℕ → ℕ → ℕ → Type 0
  Counted c hs w w2 n a f v = Sum c w2 (n + made way c hs w) (a + answered way c hs w) (f + failed way c hs w) (v + void way c hs w) × (n + made way c hs w ≤ 1)

  counted : (hs : List Handle) (w w2 : World S) (c : Call) (n a f v : ℕ) → IsFresh way sound w → IsMade way c w n → Sum c w n a f v → after way hs w ≡ Some w2 → Counted c hs w w2 n a f v
  counted [] w w2 c n a f v fresh once sum e =
      let same : w ≡ w2 = cc in
      (subst (λ (z : World S). waiting c z + (held way c z + (on_its_way way c z + ((a + 0) + ((f + 0) + (v + 0))))) ≡ n + 0) same (omega (arith, sum)), omega (arith, once.once))
  counted (h ∷ hs) w w2 c n a f v fresh once sum e = go (λ u n2 a2 f2 v2 p q s x. counted hs u w2 c n2 a2 f2 v2 p q s x) (act way w h) refl e where
    go : ((u : World S) (n2 a2 f2 v2 : ℕ) → IsFresh way sound u → IsMade way c u n2 → Sum c u n2 a2 f2 v2 → after way hs u ≡ Some w2 → Counted c hs u w2 n2 a2 f2 v2)
        → (q : Option (What × World S)) → act way w h ≡ q → go_on q (λ u. after way hs u) ≡ Some w2 → Counted c (h ∷ hs) w w2 n a f v
    go later None eq x = absurd (cc)
    go later (Some r) eq k =
        let x = acted way w h r eq in
        let v1 = voids c h (replying_at way (agent w h)) r.0 in
        let all = later r.1 (n + makes c r.0) (a + answers c h r.0) (f + fails c h r.0) (v + v1) (fresh_kept w h r fresh x) (made_step w h r c n fresh x once) (sum_step c w h r n a f v fresh x sum) k in
        let m_is = tally_step (λ u g what. makes c what) h hs w r eq in
        let a_is = tally_step (λ u g what. answers c g what) h hs w r eq in
        let f_is = tally_step (λ u g what. fails c g what) h hs w r eq in
        let v_is = tally_step (λ u g what. voids c g (replying_at way (agent u g)) what) h hs w r eq in
        (omega (arith, all.0, m_is, a_is, f_is, v_is), omega (arith, all.1, m_is))

  -- THE FIRST WORLD

  opens : (c : Call) (h : ℕ) (own : Handle) (s : S) → Begins way sound own s → (all_of c h (way.held s) ≡ 0) × (one_of c h (way.reply s) ≡ 0)
  opens c h own s b = (ap (all_of c h) b.is_new.holds, ap (one_of c h) b.is_new.replies)

  pub sum_opening : (c : Call) (a b d : S) → Begins way sound (record { 0 = 1 }) a → Begins way sound (record { 0 = 2 }) b → Begins way sound (record { 0 = 3 }) d → Sum c (opening a b d) 0 0 0 0
  sum_opening c a b d one two three =
      let o1 = opens c 1 (record { 0 = 1 }) a one in
      let o2 = opens c 2 (record { 0 = 2 }) b two in
      let o3 = opens c 3 (record { 0 = 3 }) d three in
      omega (arith, o1.0, o1.1, o2.0, o2.1, o3.0, o3.1)

  begins_draws : (own : Handle) (s : S) → Begins way sound own s → Draws way (Serving s)
  begins_draws own s b = subst (λ n. IsUpTo (way.asked s) (drawn n)) (sym b.is_new.idle) tt

  begins_ok : (own h : Handle) (s : S) → Begins way sound own s → own.0 ≡ h.0 → ServiceOk way sound h (Serving s)
  begins_ok own h s b e = (b.is_sound, b.is_new.named ∙ handle_is own h e)

  -- each of the three services
  of_three : (P : Handle → Service S → Type 0) (a b d : S) → ((h : Handle) → 1 ≡ h.0 → P h (Serving a)) → ((h : Handle) → 2 ≡ h.0 → P h (Serving b)) → ((h : Handle) → 3 ≡ h.0 → P h (Serving d))
      → (h : Handle) (y : Service S) → at (Serving a ∷ Serving b ∷ Serving d ∷ []) h.0 ≡ Some y → P h y
  of_three P a b d one two three h y e = third (at_push (Serving a ∷ Serving b ∷ []) h.0 (Serving d) y e) where
    empty : at [] h.0 ≡ Some y → P h y
    empty k = let there = at_is [] h.0 y k in absurd (cc (there.1))

    first : (((h.0 ≡ 1) × (y ≡ Serving a)) ⊎ (at [] h.0 ≡ Some y)) → P h y
    first (inl p) = subst (P h) (sym p.1) (one h (sym p.0))
    first (inr p) = empty p

    second : (((h.0 ≡ 2) × (y ≡ Serving b)) ⊎ (at (Serving a ∷ []) h.0 ≡ Some y)) → P h y
    second (inl p) = subst (P h) (sym p.1) (two h (sym p.0))
    second (inr p) = first (at_push [] h.0 (Serving a) y p)

    third : (((h.0 ≡ 3) × (y ≡ Serving d)) ⊎ (at (Serving a ∷ Serving b ∷ []) h.0 ≡ Some y)) → P h y
    third (inl p) = subst (P h) (sym p.1) (three h (sym p.0))
    third (inr p) = second (at_push (Serving a ∷ []) h.0 (Serving b) y p)

  pub fresh_opening : (w : World S) → IsOpening way sound w → IsFresh way sound w
  fresh_opening w o = subst (IsFresh way sound) (sym o.same) (record {
    world = record {
      services = of_three (ServiceOk way sound) o.logger o.launcher o.start (λ h e. begins_ok (record { 0 = 1 }) h o.logger o.first e) (λ h e. begins_ok (record { 0 = 2 }) h o.launcher o.second e) (λ h e. begins_ok (record { 0 = 3 }) h o.start o.third e);
      listed = refl;
      inboxes = refl;
    };
    draws = of_three (λ h y. Draws way y) o.logger o.launcher o.start (λ h e. begins_draws (record { 0 = 1 }) o.logger o.first) (λ h e. begins_draws (record { 0 = 2 }) o.launcher o.second) (λ h e. begins_draws (record { 0 = 3 }) o.start o.third);
  })

  pub each_counted : (c : Call) (hs : List Handle) (w w2 : World S) → IsOpening way sound w → after way hs w ≡ Some w2 → IsCounted way c hs w w2
  each_counted c hs w w2 o e =
      let none : IsMade way c w 0 = record { once = omega arith; past = λ p. absurd (omega (arith, p)) } in
      let sum : Sum c w 0 0 0 0 = subst (λ z. Sum c z 0 0 0 0) (sym o.same) (sum_opening c o.logger o.launcher o.start o.first o.second o.third) in
      let all = counted hs w w2 c 0 0 0 0 (fresh_opening w o) none sum e in
      record { once = omega (arith, all.1); one_fate = omega (arith, all.0) }

  pub each_taken_once : (c : Call) (hs : List Handle) (w w2 : World S) → IsOpening way sound w → after way hs w ≡ Some w2 → taken way c hs w ≤ 1
  each_taken_once c hs w w2 o e = let k = each_counted c hs w w2 o e in omega (arith, k.once, k.one_fate)
