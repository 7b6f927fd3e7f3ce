-- A call that is added to the list, and one that is taken back.
use Rattle.std.proofs.Common.{◌≡◌, ◌==◌, Bool, true, false, [], ◌∷◌, Option, Some, None, IsSome, cond, refl, ap, sym, ◌∙◌, subst, arith}
use Rattle.std.specs.declared.cmp.Ordering.{Ordering}
use Rattle.std.specs.declared.cmp.Ordering.TheVariants.{Less, Equal, Greater}
use Rattle.std.specs.Ordering.{match_ordering, is_eq}
use Rattle.std.specs.Map.{remove_entry}
use Rattle.std.specs.BTreeMap.{is_at, insert_entry}
use Rattle.std.proofs.lemmas.Bool.Decides.{nat_tests}
use Rattle.message.specs.Actors.{Way, IsLawful}
use Rattle.message.specs.Messages.{is_request}
use Rattle.message.specs.Registries.{at}
use Rattle.message.specs.Steps.{Asks, IsOne, service_ops}
use Rattle.message.specs.Worlds.{World}
use Rattle.sk_types.specs.declared.number.Handle.{Handle}
use Rattle.message.specs.declared.request.Message.{Message}
use Rattle.message.specs.declared.request.Request.TheVariants as ask
use Rattle.message.specs.declared.place.Service.{Service}
use Rattle.message.specs.declared.place.Service.TheVariants.{Serving}
use Rattle.call_fates.specs.Table.{Table, key_cmp, state_at, is_key, call_of}
use Rattle.call_fates.specs.Sessions.{IsBelow, HasDrawn, IsDrawn}
use Rattle.call_fates.specs.Kept.{IsKept}
use Rattle.call_fates.specs.declared.calls.CallKey.{CallKey}
use Rattle.call_fates.specs.declared.calls.CallState.{CallState}
use Rattle.call_fates.proofs.Table.{key_is}
use Rattle.call_fates.proofs.Sessions.{putter}

differ : ◌≡◌ {A = Bool} true false → ⊥
differ e = cc

own_key : (k : CallKey) → is_key k k ≡ true
own_key k =
    let one : (k.caller.0 == k.caller.0) ≡ true = grind (arith, nat_tests) in
    let two : (k.session.0 == k.session.0) ≡ true = grind (arith, nat_tests) in
    key_is k k ∙ rw (one, two) refl

-- taking out what was just put in under a key that was not there gives the same list
pub takes_added : (all : Table) (k : CallKey) (s : CallState) → state_at all k ≡ None → remove_entry (is_at (key_cmp k)) (insert_entry key_cmp all k s) ≡ all
takes_added [] k s absent = rw (own_key k) refl
takes_added (e ∷ es) k s absent = go (λ none. takes_added es k s none) (key_cmp k e.0) refl where
  first_gone : (b : Bool) → is_key k e.0 ≡ b → cond b (Some e.1) (state_at es k) ≡ None → (b ≡ false) × (state_at es k ≡ None)
  first_gone true is none = absurd (cc)
  first_gone false is none = (refl, none)

  here : (is_key k e.0 ≡ false) × (state_at es k ≡ None)
  here = first_gone (is_key k e.0) refl absent

  go : (state_at es k ≡ None → remove_entry (is_at (key_cmp k)) (insert_entry key_cmp es k s) ≡ es) → (o : Ordering) → key_cmp k e.0 ≡ o → remove_entry (is_at (key_cmp k)) (match_ordering o ((k, s) ∷ e ∷ es) ((e.0, s) ∷ es) (e ∷ insert_entry key_cmp es k s)) ≡ e ∷ es
  go more Less is = rw (own_key k) refl
  go more Equal is =
      let same : is_key k e.0 ≡ true = ap is_eq is in
      absurd (differ (sym same ∙ here.0))
  go more Greater is = rw (here.0) (ap (λ z. e ∷ z) (more here.1))

-- a request that is about to be put is no call yet: its caller draws a session that it has not drawn before
pub absent : {S : Type 0} (way : Way S) (sound : S → Type 0) → IsLawful way sound → (w : World S) (all : Table) (h : Handle) (x : Service S) (to : Handle) (m : Message)
    → IsKept way sound w all → at w.services h.0 ≡ Some x → IsOne (Asks (ask.Put to m)) (service_ops way x) → is_request m ≡ true → state_at all (record { caller = m.source; session = m.session }) ≡ None
absent {S = S} way sound lawful w all h x to m kept there may req = go (state_at all k) refl where
  k : CallKey
  k = record { caller = m.source; session = m.session }

  drew : IsDrawn way (call_of k) w → ⊥
  drew old =
      let p = putter way sound lawful h x to m true (kept.fresh.world.services h x there) may req in
      let same : Some old.0 ≡ Some (Serving p.state) = sym old.1 ∙ (ap (λ (z : Handle). at w.services z.0) p.source ∙ (there ∙ ap Some p.serves)) in
      let is : old.0 ≡ Serving p.state = cc in
      let drawn_now : HasDrawn way m.session.0 (Serving p.state) = subst (HasDrawn way m.session.0) is old.2 in
      let less : IsBelow m.session.0 (Some m.session.0) = subst (IsBelow m.session.0) p.draws drawn_now.1 in
      omega (arith, less)

  go : (s : Option CallState) → state_at all k ≡ s → state_at all k ≡ None
  go None e = e
  go (Some t) e = absurd (drew (kept.drawn k (subst IsSome (sym e) refl)))
