-- Services and inboxes after an act: each is as it was, or as the act left it, or new.
use Rattle.std.proofs.Common.{◌⊎◌, inl, inr, ℕ, zero, suc, ◌≡◌, ◌≢◌, ◌<◌, ◌≤◌, ◌+◌, ◌-◌, ◌==◌, Bool, true, false, List, [], ◌∷◌, length, Some, slice_get, slice_set, refl, ap, sym, ◌∙◌, subst, arith, length-append}
use Rattle.std.proofs.lemmas.Bool.Decides.{nat_tests}
use Rattle.message.specs.Messages.{init_message}
use Rattle.message.specs.Actors.{Way}
use Rattle.message.specs.Registries.{at, set_at}
use Rattle.message.specs.Steps.{Agent, Serves, Times, IsOne, ops, service_ops, op_of, service_after, place_of, inbox_does}
use Rattle.message.specs.Worlds.{World}
use Rattle.sk_types.specs.declared.number.Handle.{Handle}
use Rattle.message.specs.declared.datum.Datum.{Datum}
use Rattle.message.specs.declared.record.What.{What}
use Rattle.message.specs.declared.record.What.TheVariants as did
use Rattle.message.specs.declared.place.Place.TheVariants.{Inbox as TheInbox}
use Rattle.message.specs.declared.place.InboxState.{InboxState}
use Rattle.message.specs.declared.place.InboxStatus.TheVariants.{Live}
use Rattle.message.specs.declared.place.Service.{Service}
use Rattle.message.specs.declared.place.Service.TheVariants.{Serving}
use Rattle.call_fates.specs.Reached.{IsWorld}
use Rattle.call_fates.proofs.Lists.{handle_is, at_is, at_back, at_push, at_front, at_here, at_within, at_some, at_last}
use Rattle.call_fates.proofs.Worlds.{services_len, inboxes_len}
use Rattle.call_fates.proofs.Inverts.{Acted, AtOne, AtNone, Grows, services_after, agent_is}

get_other : {X : Type 0} (xs : List X) (i j : ℕ) (x : X) → i ≢ j → slice_get (slice_set xs i x) j ≡ slice_get xs j
get_other [] i j x ne = refl
get_other (z ∷ xs) zero zero x ne = absurd (ne refl)
get_other (z ∷ xs) zero (suc j) x ne = refl
get_other (z ∷ xs) (suc i) zero x ne = refl
get_other (z ∷ xs) (suc i) (suc j) x ne = get_other xs i j x (λ e. ne (ap suc e))

-- what stands elsewhere
pub at_other : {X : Type 0} (xs : List X) (h g : ℕ) (x y : X) → 0 < h → h ≢ g → at xs g ≡ Some y → at (set_at xs h x) g ≡ Some y
at_other xs h g x y big ne e =
    let there = at_is xs g y e in
    let above : 0 < g = there.0 in
    let ne2 : h - 1 ≢ g - 1 = λ k. ne (omega (arith, k, big, above)) in
    at_back (set_at xs h x) g y above (get_other xs (h - 1) (g - 1) x ne2 ∙ there.1)

-- two numbers are one, or not
pub same_or_not : (n m : ℕ) → (n ≡ m) ⊎ (n ≢ m)
same_or_not n m = go (n == m) refl where
  go : (b : Bool) → (n == m) ≡ b → (n ≡ m) ⊎ (n ≢ m)
  go true e = inl (grind (arith, nat_tests))
  go false e = inr (λ k. unequal k) where
    unequal : n ≡ m → ⊥
    unequal k = grind (arith, nat_tests)

module _ {S : Type 0} (way : Way S) (w : World S) (h : Handle) (r : What × World S) (x : Acted way w h r) where
  -- THE SERVICES

  -- the service of handle g acted
  pub record ActsAt (g : Handle) (y : Service S) : Type 0 where
    pub here : g ≡ h
    pub is : x.who ≡ Serves y
    pub may : IsOne (op_of r.0) (service_ops way y)
    pub now : at r.1.services g.0 ≡ Some (service_after way y r.0)

  -- or it did not
  pub record RestsAt (g : Handle) (y : Service S) : Type 0 where
    pub other : (z : Service S) → x.who ≡ Serves z → g.0 ≢ h.0
    pub now : at r.1.services g.0 ≡ Some y

  grown_service : (g : ℕ) (y : Service S) → Grows way r.0 x.mid r.1 → at x.mid.services g ≡ Some y → at r.1.services g ≡ Some y
  grown_service g y (inl p) e = ap (λ (z : World S). at z.services g) p.0 ∙ e
  grown_service g y (inr p) e = ap (λ (z : World S). at z.services g) p.grown ∙ at_front x.mid.services (Serving p.state ∷ []) g y e

  pub service_now : (g : Handle) (y : Service S) → at w.services g.0 ≡ Some y → ActsAt g y ⊎ RestsAt g y
  service_now g y e = go x.who refl where
    mid : (a : Agent S) → x.who ≡ a → (z : Service S) → at (services_after way w h a r.0) g.0 ≡ Some z → at r.1.services g.0 ≡ Some z
    mid a is z k = grown_service g.0 z x.grows (ap (λ v. at v g.0) (x.services ∙ ap (λ b. services_after way w h b r.0) is) ∙ k)

    no_clock : {due : List (Handle × _)} (z : Service S) → Times due ≡ Serves z → ⊥
    no_clock z k = cc

    served : (z z2 : Service S) → Serves z ≡ Serves z2 → z ≡ z2
    served z z2 k = cc

    one : (z : Service S) → Some z ≡ Some y → z ≡ y
    one z k = cc

    go : (a : Agent S) → x.who ≡ a → ActsAt g y ⊎ RestsAt g y
    go (Times due) is = inr (record { other = λ z k. absurd (no_clock z (sym is ∙ k)); now = mid (Times due) is y e })
    go (Serves z) is = turn (same_or_not g.0 h.0) where
      here : at w.services h.0 ≡ Some z
      here = agent_is w h z (x.there ∙ ap Some is)

      turn : (g.0 ≡ h.0) ⊎ (g.0 ≢ h.0) → ActsAt g y ⊎ RestsAt g y
      turn (inl k) =
          let same : z ≡ y = one z (sym here ∙ (ap (at w.services) (sym k) ∙ e)) in
          let is2 : x.who ≡ Serves y = is ∙ ap Serves same in
          inl (record {
            here = handle_is g h k;
            is = is2;
            may = subst (λ a. IsOne (op_of r.0) (ops way a)) is2 x.may;
            now = mid (Serves y) is2 (service_after way y r.0) (ap (at (set_at w.services h.0 (service_after way y r.0))) k ∙ at_here w.services h.0 (service_after way y r.0) z here);
          })
      turn (inr ne) = inr (record { other = λ z2 k. ne; now = mid (Serves z) is y (at_other w.services h.0 g.0 (service_after way z r.0) y (at_is w.services h.0 z here).0 (λ k. ne (sym k)) e) })

  -- THE INBOXES

  -- it was done at the inbox of handle g
  pub record DoneAt (g : Handle) (i : InboxState) : Type 0 where
    pub place : place_of h (op_of r.0) ≡ TheInbox g
    pub after : InboxState
    pub does : inbox_does (op_of r.0) i ≡ Some (r.0, after)
    pub now : at r.1.inboxes g.0 ≡ Some after

  -- or elsewhere
  pub record DoneElse (g : Handle) (i : InboxState) : Type 0 where
    pub other : place_of h (op_of r.0) ≢ TheInbox g
    pub now : at r.1.inboxes g.0 ≡ Some i

  grown_inbox : (g : ℕ) (i : InboxState) → Grows way r.0 x.mid r.1 → at x.mid.inboxes g ≡ Some i → at r.1.inboxes g ≡ Some i
  grown_inbox g i (inl p) e = ap (λ (z : World S). at z.inboxes g) p.0 ∙ e
  grown_inbox g i (inr p) e = ap (λ (z : World S). at z.inboxes g) p.grown ∙ at_front x.mid.inboxes (record { status = Live; waiting = init_message p.args ∷ [] } ∷ []) g i e

  inbox_one : (i j : InboxState) → Some i ≡ Some j → i ≡ j
  inbox_one i j k = cc

  inbox_of : (g k : Handle) → TheInbox g ≡ TheInbox k → g ≡ k
  inbox_of g k e = cc

  pub inbox_now : (g : Handle) (i : InboxState) → at w.inboxes g.0 ≡ Some i → DoneAt g i ⊎ DoneElse g i
  inbox_now g i e = go x.inboxes where
    go : AtOne w h (op_of r.0) r.0 x.mid.inboxes ⊎ AtNone w h (op_of r.0) x.mid.inboxes → DoneAt g i ⊎ DoneElse g i
    go (inr p) = inr (record { other = p.other g; now = grown_inbox g.0 i x.grows (ap (λ z. at z g.0) p.kept ∙ e) })
    go (inl p) = turn (same_or_not g.0 p.to.0) where
      turn : (g.0 ≡ p.to.0) ⊎ (g.0 ≢ p.to.0) → DoneAt g i ⊎ DoneElse g i
      turn (inl k) =
          let same : p.before ≡ i = inbox_one p.before i (sym p.there ∙ (ap (at w.inboxes) (sym k) ∙ e)) in
          inl (record {
            place = p.place ∙ ap TheInbox (sym (handle_is g p.to k));
            after = p.after;
            does = ap (inbox_does (op_of r.0)) (sym same) ∙ p.does;
            now = grown_inbox g.0 p.after x.grows (ap (λ z. at z g.0) p.set ∙ (ap (at (set_at w.inboxes p.to.0 p.after)) k ∙ at_here w.inboxes p.to.0 p.after p.before p.there));
          })
      turn (inr ne) = inr (record {
        other = λ q. ne (ap (λ (z : Handle). z.0) (inbox_of g p.to (sym q ∙ p.place)));
        now = grown_inbox g.0 i x.grows (ap (λ z. at z g.0) p.set ∙ at_other w.inboxes p.to.0 g.0 p.after i (at_is w.inboxes p.to.0 p.before p.there).0 (λ k. ne (sym k)) e);
      })

  -- THE NEW ONE

  -- handle g was given by the act
  pub record IsBorn (g : Handle) : Type 0 where
    pub text : List ℕ
    pub args : List Datum
    pub own : Handle
    pub state : S
    pub launched : r.0 ≡ did.Launch text args (Some own)
    pub begins : way.begins text own ≡ Some state
    pub last : g.0 ≡ length w.services + 1
    pub service : at r.1.services g.0 ≡ Some (Serving state)
    pub inbox : at r.1.inboxes g.0 ≡ Some (record { status = Live; waiting = init_message args ∷ [] })

  -- a handle that has a service had one, or was given now
  pub service_then : (sound : S → Type 0) → IsWorld way sound w → (g : Handle) (y : Service S) → at r.1.services g.0 ≡ Some y → ((z : Service S) × (at w.services g.0 ≡ Some z)) ⊎ IsBorn g
  service_then sound ok g y e = go x.grows where
    len : length x.mid.services ≡ length w.services
    len = ap length x.services ∙ services_len way w h x.who r.0

    len_inboxes : length x.mid.inboxes ≡ length w.services
    len_inboxes = inboxes_len w h (op_of r.0) r.0 x.mid.inboxes x.inboxes ∙ ok.inboxes

    old : (z : Service S) → at x.mid.services g.0 ≡ Some z → (v : Service S) × (at w.services g.0 ≡ Some v)
    old z k = let l = at_within x.mid.services g.0 z k in at_some w.services g.0 (at_is x.mid.services g.0 z k).0 (omega (arith, l, len))

    go : Grows way r.0 x.mid r.1 → ((z : Service S) × (at w.services g.0 ≡ Some z)) ⊎ IsBorn g
    go (inl p) = inl (old y (ap (λ (z : World S). at z.services g.0) (sym p.0) ∙ e))
    go (inr p) = turn (at_push x.mid.services g.0 (Serving p.state) y (ap (λ (z : World S). at z.services g.0) (sym p.grown) ∙ e)) where
      turn : (((g.0 ≡ length x.mid.services + 1) × (y ≡ Serving p.state)) ⊎ (at x.mid.services g.0 ≡ Some y)) → ((z : Service S) × (at w.services g.0 ≡ Some z)) ⊎ IsBorn g
      turn (inr k) = inl (old y k)
      turn (inl k) = inr (record {
        text = p.text;
        args = p.args;
        own = p.own;
        state = p.state;
        launched = p.is;
        begins = p.begins;
        last = k.0 ∙ ap (λ n. n + 1) len;
        service = ap (λ (z : World S). at z.services g.0) p.grown ∙ at_last x.mid.services g.0 (Serving p.state) k.0;
        inbox = ap (λ (z : World S). at z.inboxes g.0) p.grown ∙ at_last x.mid.inboxes g.0 (record { status = Live; waiting = init_message p.args ∷ [] }) (k.0 ∙ ap (λ n. n + 1) (len ∙ sym len_inboxes));
      })

  -- no handle is taken back
  pub services_more : length w.services ≤ length r.1.services
  services_more = go x.grows where
    len : length x.mid.services ≡ length w.services
    len = ap length x.services ∙ services_len way w h x.who r.0

    go : Grows way r.0 x.mid r.1 → length w.services ≤ length r.1.services
    go (inl p) = let e : length r.1.services ≡ length x.mid.services = ap (λ (z : World S). length z.services) p.0 in omega (arith, e, len)
    go (inr p) = let e : length r.1.services ≡ length x.mid.services + 1 = ap (λ (z : World S). length z.services) p.grown ∙ length-append x.mid.services (Serving p.state ∷ []) in omega (arith, e, len)

  -- THE REGISTRY

  pub registry_now : r.1.registry ≡ x.mid.registry
  registry_now = go x.grows where
    go : Grows way r.0 x.mid r.1 → r.1.registry ≡ x.mid.registry
    go (inl p) = ap (λ (z : World S). z.registry) p.0
    go (inr p) = ap (λ (z : World S). z.registry) p.grown
