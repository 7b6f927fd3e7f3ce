-- What holds of each world that a journal reaches, of handles, services and inboxes.
use Rattle.std.proofs.Common.{◌⊎◌, inl, inr, ℕ, ◌≡◌, ◌≢◌, ◌<◌, ◌≤◌, Bool, true, false, List, [], ◌∷◌, length, Some, refl, ap, sym, ◌∙◌, subst, arith}
use Rattle.message.specs.Messages.{init_message}
use Rattle.message.specs.Actors.{Way, IsLawful}
use Rattle.message.specs.Registries.{Registry, at}
use Rattle.message.specs.Steps.{Asks, Agent, Serves, Times, IsOne, ops, op_of, service_after, place_of, inbox_does}
use Rattle.message.specs.Worlds.{World, first_names, empty_inbox, start_inbox}
use Rattle.sk_types.specs.declared.number.Handle.{Handle}
use Rattle.message.specs.declared.request.Message.{Message}
use Rattle.message.specs.declared.request.Answer.TheVariants.{Flag}
use Rattle.message.specs.declared.request.Input.TheVariants.{Answer as Answers}
use Rattle.message.specs.declared.request.Next.TheVariants.{Ask}
use Rattle.message.specs.declared.request.Request.TheVariants as ask
use Rattle.message.specs.declared.record.What.{What}
use Rattle.message.specs.declared.record.What.TheVariants as did
use Rattle.message.specs.declared.place.Place.TheVariants.{Inbox as TheInbox}
use Rattle.message.specs.declared.place.InboxState.{InboxState}
use Rattle.message.specs.declared.place.InboxStatus.TheVariants.{Live}
use Rattle.message.specs.declared.place.Service.{Service}
use Rattle.message.specs.declared.place.Service.TheVariants.{Serving, Leaving}
use Rattle.call_fates.specs.Reached.{IsOpening, IsWorld}
use Rattle.call_fates.proofs.Lists.{at_is, at_push, at_some, at_within}
use Rattle.call_fates.proofs.Forms.{bounce_did, LooksBack, PutsBack, clock_did, ClockDid, ticks, fires}
use Rattle.call_fates.proofs.Inverts.{Acted, Registers, agent_is}
use Rattle.call_fates.proofs.Given.{IsGiven, NamesGiven, names_more, names_after, names_from, given_at}
use Rattle.call_fates.proofs.Steady.{ActsAt, RestsAt, DoneAt, DoneElse, IsBorn, service_now, inbox_now, service_then, services_more, registry_now}
use Rattle.call_fates.proofs.Speaks.{SpeaksOf, speaks_more, new_speaks, after_speaks, Answered, answered}
use Rattle.call_fates.proofs.Homes.{is_live, is_gone, is_end, end_is, IsHome, KeepsOrEnds, inbox_keeps, both_home, other_home, service_stays, WasOff, registry_off, registry_stays, asks_mark, mark_closes, retires_then}

-- its inbox takes messages no more, or only until its service ends
abbrev pub Closes : {S : Type 0} → World S → Handle → Type 0
Closes w g = (i : InboxState) × (at w.inboxes g.0 ≡ Some i) × (is_live i.status ≡ false)

-- a service asks its Mark
abbrev pub IsMarked : {S : Type 0} → Way S → World S → Handle → Type 0
IsMarked {S} way w g = (b : Handle) × (s : S) × (at w.services b.0 ≡ Some (Serving s)) × (way.next s ≡ Ask (ask.Mark g))

abbrev pub IsOff : {S : Type 0} → Way S → World S → Handle → Type 0
IsOff way w g = Closes w g ⊎ IsMarked way w g

pub record IsOrderly {S : Type 0} (way : Way S) (w : World S) : Type 0 where
  pub launcher : 2 ≤ length w.services
  pub names : NamesGiven (length w.services) w.registry.named
  pub speaks : (h : Handle) (y : Service S) → at w.services h.0 ≡ Some y → SpeaksOf way (length w.services) y
  pub homes : (h : Handle) (y : Service S) (i : InboxState) → at w.services h.0 ≡ Some y → at w.inboxes h.0 ≡ Some i → IsHome y i
  pub off : (h : Handle) → at w.registry.listed h.0 ≡ Some false → IsOff way w h

stands : {X : Type 0} (x y : X) → Some x ≡ Some y → x ≡ y
stands x y e = cc

same_inbox : (g k : Handle) → TheInbox g ≡ TheInbox k → g ≡ k
same_inbox g k e = cc

-- agent 0 neither ends nor retires
pub ends_timed : (what : What) → ClockDid what → is_end what ≡ false
ends_timed what (ticks due) = refl
ends_timed what (fires to x b) = refl

abbrev is_retire : What → Bool
is_retire (did.Retire h b) = true
is_retire _ = false

retires_timed : (what : What) → ClockDid what → is_retire what ≡ false
retires_timed what (ticks due) = refl
retires_timed what (fires to x b) = refl

module _ {S : Type 0} (way : Way S) (sound : S → Type 0) (lawful : IsLawful way sound) where
  module _ (w : World S) (h : Handle) (r : What × World S) (ok : IsWorld way sound w) (tidy : IsOrderly way w) (x : Acted way w h r) where
    said : Answered (length w.services) r.0
    said = subst (λ n. Answered n r.0) ok.listed (answered way w h r.0 x.mid.registry (subst (λ n. NamesGiven n w.registry.named) (sym ok.listed) tidy.names) x.registry)

    names_kept : NamesGiven (length r.1.services) r.1.registry.named
    names_kept = names_more (length w.services) (length r.1.services) r.1.registry.named (services_more way w h r x) (subst (λ (z : Registry). NamesGiven (length w.services) z.named) (sym (registry_now way w h r x)) (mid x.registry)) where
      mid : Registers way w h (op_of r.0) r.0 x.mid.registry → NamesGiven (length w.services) x.mid.registry.named
      mid (inl p) = subst (λ n. NamesGiven n x.mid.registry.named) ok.listed (names_after way (op_of r.0) w.registry r.0 x.mid.registry p.1 (subst (λ n. NamesGiven n w.registry.named) (sym ok.listed) tidy.names))
      mid (inr p) = subst (λ (z : Registry). NamesGiven (length w.services) z.named) (sym p.1) tidy.names

    speaks_kept : (g : Handle) (y : Service S) → at r.1.services g.0 ≡ Some y → SpeaksOf way (length r.1.services) y
    speaks_kept g y e = go (service_then way w h r x sound ok g y e) where
      more : (z : Service S) → SpeaksOf way (length w.services) z → SpeaksOf way (length r.1.services) z
      more z o = speaks_more way (length w.services) (length r.1.services) z (services_more way w h r x) o

      old : (z : Service S) → at w.services g.0 ≡ Some z → ActsAt way w h r x g z ⊎ RestsAt way w h r x g z → SpeaksOf way (length r.1.services) y
      old z k (inr p) = subst (SpeaksOf way (length r.1.services)) (stands z y (sym p.now ∙ e)) (more z (tidy.speaks g z k))
      old z k (inl p) =
          let at_h : at w.services h.0 ≡ Some z = ap (λ (u : Handle). at w.services u.0) (sym p.here) ∙ k in
          let o = after_speaks way sound lawful (length w.services) h z r.0 (given_at w.services h z at_h) (ok.services h z at_h) p.may x.done.fits said (tidy.speaks h z at_h) in
          subst (SpeaksOf way (length r.1.services)) (stands (service_after way z r.0) y (sym p.now ∙ e)) (more (service_after way z r.0) o)

      go : ((z : Service S) × (at w.services g.0 ≡ Some z)) ⊎ IsBorn way w h r x g → SpeaksOf way (length r.1.services) y
      go (inl p) = old p.0 p.1 (service_now way w h r x g p.0 p.1)
      go (inr p) = subst (SpeaksOf way (length r.1.services)) (stands (Serving p.state) y (sym p.service ∙ e)) (new_speaks way sound lawful (length r.1.services) p.own p.state (lawful.begin p.text p.own p.state p.begins).is_new)

    -- an End is at the own inbox
    ends_here : (g : Handle) → place_of h (op_of r.0) ≢ TheInbox g → g ≡ h → is_end r.0 ≡ false
    ends_here g other same = go (is_end r.0) refl where
      go : (b : Bool) → is_end r.0 ≡ b → is_end r.0 ≡ false
      go false e = e
      go true e = let p = end_is r.0 e in absurd (other (ap (λ z. place_of h (op_of z)) p.1 ∙ ap TheInbox (sym same)))

    ends_not : (g : Handle) (z : Service S) → place_of h (op_of r.0) ≡ TheInbox g → RestsAt way w h r x g z → is_end r.0 ≡ false
    ends_not g z here rests = go (is_end r.0) refl where
      go : (b : Bool) → is_end r.0 ≡ b → is_end r.0 ≡ false
      go false e = e
      go true e = who x.who refl where
        p : (ms : List Message) × (r.0 ≡ did.End ms)
        p = end_is r.0 e

        at_h : g.0 ≡ h.0
        at_h = ap (λ (u : Handle). u.0) (same_inbox g h (sym here ∙ ap (λ z. place_of h (op_of z)) p.1))

        who : (a : Agent S) → x.who ≡ a → is_end r.0 ≡ false
        who (Serves v) is = absurd (rests.other v is at_h)
        who (Times due) is = ends_timed r.0 (clock_did due r.0 (subst (λ a. IsOne (op_of r.0) (ops way a)) is x.may))

    homes_kept : (g : Handle) (y : Service S) (j : InboxState) → at r.1.services g.0 ≡ Some y → at r.1.inboxes g.0 ≡ Some j → IsHome y j
    homes_kept g y j e f = go (service_then way w h r x sound ok g y e) where
      old : (z : Service S) (i : InboxState) → at w.services g.0 ≡ Some z → at w.inboxes g.0 ≡ Some i → ActsAt way w h r x g z ⊎ RestsAt way w h r x g z → DoneAt way w h r x g i ⊎ DoneElse way w h r x g i → IsHome y j
      old z i k l (inl p) (inl q) = subst (λ v. IsHome v j) (stands (service_after way z r.0) y (sym p.now ∙ e)) (subst (IsHome (service_after way z r.0)) (stands q.after j (sym q.now ∙ f)) (both_home way z i q.after r.0 (inbox_keeps (op_of r.0) i r.0 q.after q.does) (tidy.homes g z i k l)))
      old z i k l (inl p) (inr q) = subst (λ v. IsHome v j) (stands (service_after way z r.0) y (sym p.now ∙ e)) (subst (IsHome (service_after way z r.0)) (stands i j (sym q.now ∙ f)) (service_stays way z i r.0 (ends_here g q.other p.here) (tidy.homes g z i k l)))
      old z i k l (inr p) (inl q) = subst (λ v. IsHome v j) (stands z y (sym p.now ∙ e)) (subst (IsHome z) (stands q.after j (sym q.now ∙ f)) (other_home z i q.after r.0 (inbox_keeps (op_of r.0) i r.0 q.after q.does) (ends_not g z q.place p) (tidy.homes g z i k l)))
      old z i k l (inr p) (inr q) = subst (λ v. IsHome v j) (stands z y (sym p.now ∙ e)) (subst (IsHome z) (stands i j (sym q.now ∙ f)) (tidy.homes g z i k l))

      go : ((z : Service S) × (at w.services g.0 ≡ Some z)) ⊎ IsBorn way w h r x g → IsHome y j
      go (inr p) = subst (λ v. IsHome v j) (stands (Serving p.state) y (sym p.service ∙ e)) (subst (λ (v : InboxState). is_gone v.status ≡ false) (stands (record { status = Live; waiting = init_message p.args ∷ [] }) j (sym p.inbox ∙ f)) refl)
      go (inl p) =
          let above = (at_is w.services g.0 p.0 p.1).0 in
          let within = at_within w.services g.0 p.0 p.1 in
          let i = at_some w.inboxes g.0 above (omega (arith, within, ok.inboxes)) in
          old p.0 i.0 p.1 i.1 (service_now way w h r x g p.0 p.1) (inbox_now way w h r x g i.0 i.1)

    -- an inbox that closes, closes on
    closes_on : (g : Handle) → Closes w g → Closes r.1 g
    closes_on g c = go (inbox_now way w h r x g c.0 c.1) where
      live : (j : InboxState) → KeepsOrEnds r.0 c.0 j → is_live j.status ≡ false
      live j (inl p) = p.1.live c.2
      live j (inr p) = p.1.live

      go : DoneAt way w h r x g c.0 ⊎ DoneElse way w h r x g c.0 → Closes r.1 g
      go (inl q) = (q.after, q.now, live q.after (inbox_keeps (op_of r.0) c.0 r.0 q.after q.does))
      go (inr q) = (c.0, q.now, c.2)

    -- a Mark that is asked is done at the inbox
    marks_it : (g : Handle) → r.0 ≡ did.Mark g → IsGiven (length w.services) g → Closes r.1 g
    marks_it g e given = go (inbox_now way w h r x g i.0 i.1) where
      i : (j : InboxState) × (at w.inboxes g.0 ≡ Some j)
      i = let l = given.within in at_some w.inboxes g.0 given.above (omega (arith, l, ok.inboxes))

      go : DoneAt way w h r x g i.0 ⊎ DoneElse way w h r x g i.0 → Closes r.1 g
      go (inl q) = (q.after, q.now, mark_closes g i.0 q.after (subst (λ z. inbox_does (op_of z) i.0 ≡ Some (z, q.after)) e q.does))
      go (inr q) = absurd (q.other (ap (λ z. place_of h (op_of z)) e))

    marked_on : (g : Handle) → IsMarked way w g → IsOff way r.1 g
    marked_on g m = go (service_now way w h r x m.0 (Serving m.1) m.2) where
      go : ActsAt way w h r x m.0 (Serving m.1) ⊎ RestsAt way w h r x m.0 (Serving m.1) → IsOff way r.1 g
      go (inr p) = inr (m.0, m.1, p.now, m.3)
      go (inl p) = inl (marks_it g (asks_mark (way.next m.1) r.0 g m.3 p.may) ((tidy.speaks m.0 (Serving m.1) m.2).marked g m.3))

    -- who has retired it asks its Mark
    retired_on : (g : Handle) → r.0 ≡ did.Retire g true → IsMarked way r.1 g
    retired_on g e = who x.who refl where
      may : IsOne (Asks (ask.Retire g)) (ops way x.who)
      may = subst (λ z. IsOne (op_of z) (ops way x.who)) e x.may

      who : (a : Agent S) → x.who ≡ a → IsMarked way r.1 g
      who (Times due) is = absurd (cc (retires_timed (did.Retire g true) (clock_did due (did.Retire g true) (subst (λ a. IsOne (Asks (ask.Retire g)) (ops way a)) is may))))
      who (Serves (Leaving a)) is = back (bounce_did a.own a.found a.bounces (did.Retire g true) (subst (λ b. IsOne (Asks (ask.Retire g)) (ops way b)) is may)) where
        back : LooksBack a.own a.found a.bounces (did.Retire g true) ⊎ PutsBack a.own a.found a.bounces (did.Retire g true) → IsMarked way r.1 g
        back (inl p) = absurd (cc (p.4))
        back (inr p) = absurd (cc (p.4))
      who (Serves (Serving s)) is = go (service_now way w h r x h (Serving s) here) where
        here : at w.services h.0 ≡ Some (Serving s)
        here = agent_is w h (Serving s) (x.there ∙ ap Some is)

        next : way.next (way.fed s (Answers (Flag true))) ≡ Ask (ask.Mark g)
        next = retires_then way sound lawful s g (ok.services h (Serving s) here).0 (subst (λ b. IsOne (Asks (ask.Retire g)) (ops way b)) is may)

        go : ActsAt way w h r x h (Serving s) ⊎ RestsAt way w h r x h (Serving s) → IsMarked way r.1 g
        go (inr p) = absurd (p.other (Serving s) is refl)
        go (inl p) = (h, way.fed s (Answers (Flag true)), p.now ∙ ap (λ z. Some (service_after way (Serving s) z)) e, next)

    off_kept : (g : Handle) → at r.1.registry.listed g.0 ≡ Some false → IsOff way r.1 g
    off_kept g e = go x.registry where
      old : at w.registry.listed g.0 ≡ Some false → IsOff way r.1 g
      old k = turn (tidy.off g k) where
        turn : IsOff way w g → IsOff way r.1 g
        turn (inl c) = inl (closes_on g c)
        turn (inr m) = marked_on g m

      was : WasOff w.registry r.0 g → IsOff way r.1 g
      was (inl k) = old k
      was (inr k) = inr (retired_on g k)

      mid : at x.mid.registry.listed g.0 ≡ Some false
      mid = ap (λ (z : Registry). at z.listed g.0) (sym (registry_now way w h r x)) ∙ e

      go : Registers way w h (op_of r.0) r.0 x.mid.registry → IsOff way r.1 g
      go (inl p) = was (registry_off way (op_of r.0) w.registry r.0 x.mid.registry g p.1 mid)
      go (inr p) = old (ap (λ (z : Registry). at z.listed g.0) (sym p.1) ∙ mid)

    pub orderly_kept : IsOrderly way r.1
    orderly_kept = record { launcher = (let l = services_more way w h r x in let t = tidy.launcher in omega (arith, l, t)); names = names_kept; speaks = speaks_kept; homes = homes_kept; off = off_kept }

    -- what is listed no more stays so
    pub off_stays : (g : Handle) → at w.registry.listed g.0 ≡ Some false → at r.1.registry.listed g.0 ≡ Some false
    off_stays g e = ap (λ (z : Registry). at z.listed g.0) (registry_now way w h r x) ∙ go x.registry where
      go : Registers way w h (op_of r.0) r.0 x.mid.registry → at x.mid.registry.listed g.0 ≡ Some false
      go (inl p) = registry_stays way (op_of r.0) w.registry r.0 x.mid.registry g p.1 e
      go (inr p) = ap (λ (z : Registry). at z.listed g.0) p.1 ∙ e

  -- THE FIRST WORLD

  three : {X : Type 0} (P : X → Type 0) (a b d : X) → P a → P b → P d → (g : ℕ) (y : X) → at (a ∷ b ∷ d ∷ []) g ≡ Some y → P y
  three {X = X} P a b d one two last g y e = third (at_push (a ∷ b ∷ []) g d y e) where
    empty : at [] g ≡ Some y → P y
    empty k = let there = at_is [] g y k in absurd (cc (there.1))

    first : (((g ≡ 1) × (y ≡ a)) ⊎ (at [] g ≡ Some y)) → P y
    first (inl p) = subst P (sym p.1) one
    first (inr p) = empty p

    second : (((g ≡ 2) × (y ≡ b)) ⊎ (at (a ∷ []) g ≡ Some y)) → P y
    second (inl p) = subst P (sym p.1) two
    second (inr p) = first (at_push [] g a y p)

    third : (((g ≡ 3) × (y ≡ d)) ⊎ (at (a ∷ b ∷ []) g ≡ Some y)) → P y
    third (inl p) = subst P (sym p.1) last
    third (inr p) = second (at_push (a ∷ []) g b y p)

  given_of_three : (n : ℕ) → 0 < n → n ≤ 3 → IsGiven 3 (record { 0 = n })
  given_of_three n above within = record { above = above; within = within }

  is_on : ◌≡◌ {A = Bool} true false → ⊥
  is_on e = cc

  pub orderly_opening : (w : World S) → IsOpening way sound w → IsOrderly way w
  orderly_opening w o = subst (IsOrderly way) (sym o.same) (record {
    launcher = omega arith;
    names = names_from 3 first_names (given_of_three 1 (omega arith) (omega arith), (given_of_three 2 (omega arith) (omega arith), tt));
    speaks = λ g y e. three (SpeaksOf way 3) (Serving o.logger) (Serving o.launcher) (Serving o.start) (new_speaks way sound lawful 3 (record { 0 = 1 }) o.logger o.first.is_new) (new_speaks way sound lawful 3 (record { 0 = 2 }) o.launcher o.second.is_new) (new_speaks way sound lawful 3 (record { 0 = 3 }) o.start o.third.is_new) g.0 y e;
    homes = λ g y i e f. three (λ (z : Service S). (v : InboxState) → is_gone v.status ≡ false → IsHome z v) (Serving o.logger) (Serving o.launcher) (Serving o.start) (λ v k. k) (λ v k. k) (λ v k. k) g.0 y e i
        (three (λ (v : InboxState). is_gone v.status ≡ false) empty_inbox empty_inbox start_inbox refl refl refl g.0 i f);
    off = λ g e. absurd (three (λ (b : Bool). b ≡ false → ⊥) true true true is_on is_on is_on g.0 false e refl);
  })
