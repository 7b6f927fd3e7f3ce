-- An act is what the agent may do and the place answers: the two halves, and no more.
use Rattle.std.proofs.Common.{inl, inr, ◌≡◌, Bool, true, false, List, [], ◌∷◌, Option, Some, None, refl, ap, sym, ◌∙◌, subst}
use Rattle.message.specs.Actors.{Way}
use Rattle.message.specs.Inboxes.{take_first, end}
use Rattle.message.specs.Steps.{Op, Asks, Takes, Ends, Ticks, Agent, Serves, Times, PlaceState, AtRegistry, AtInbox, AtClock, IsOne, ops, next_ops, bounce_ops, due_ops, place_of, does, inbox_does, with_state}
use Rattle.message.specs.Worlds.{World, agent, place, act, answer_at, left_by}
use Rattle.message.proofs.Acts.{act_first, act_second}
use Rattle.sk_types.specs.declared.number.Handle.{Handle}
use Rattle.sk_types.specs.declared.number.Session.{Session}
use Rattle.message.specs.declared.request.Message.{Message}
use Rattle.message.specs.declared.request.Held.{Held}
use Rattle.message.specs.declared.request.Next.{Next}
use Rattle.message.specs.declared.request.Next.TheVariants.{Idle, Ask}
use Rattle.message.specs.declared.record.What.{What}
use Rattle.message.specs.declared.place.Place.TheVariants.{Inbox as TheInbox}
use Rattle.message.specs.declared.place.InboxState.{InboxState}
use Rattle.message.specs.declared.place.InboxStatus.{InboxStatus}
use Rattle.message.specs.declared.place.InboxStatus.TheVariants.{Live, Closing, Gone}
use Rattle.message.specs.declared.place.Ending.{Ending}
use Rattle.message.specs.declared.place.Service.TheVariants.{Serving, Leaving}

-- an inbox from which a message may be taken is not to be ended
pub take_bars_end : (i : InboxState) (d : What × InboxState) → inbox_does Takes i ≡ Some d → inbox_does Ends i ≡ None
take_bars_end i d e = go i.status i.waiting e where
  go : (status : InboxStatus) (waiting : List Message) → take_first status waiting ≡ Some d → end status waiting ≡ None
  go Live waiting e2 = refl
  go Closing waiting e2 = absurd (cc)
  go Gone waiting e2 = refl

bars : {S : Type 0} (way : Way S) (h : Handle) (p : PlaceState) (d : What × PlaceState) → does way h Takes p ≡ Some d → does way h Ends p ≡ None
bars way h (AtRegistry r) d e = absurd (cc)
bars way h (AtClock c) d e = absurd (cc)
bars way h (AtInbox i) d e = go (inbox_does Takes i) refl e where
  go : (q : Option (What × InboxState)) → inbox_does Takes i ≡ q → with_state AtInbox q ≡ Some d → does way h Ends (AtInbox i) ≡ None
  go None eq e2 = absurd (cc)
  go (Some d2) eq e2 = ap (with_state AtInbox) (take_bars_end i d2 eq)

-- the two halves: what the agent may do, and what the place answers
pub acts_if : {S : Type 0} (way : Way S) (w : World S) (h : Handle) (a : Agent S) (op : Op) (p : PlaceState) (d : What × PlaceState)
    → agent w h ≡ Some a → IsOne op (ops way a) → place w (place_of h op) ≡ Some p → does way h op p ≡ Some d
    → act way w h ≡ Some (d.0, left_by way w h a (place_of h op) d)
acts_if {S = S} way w h a op p d there may found can = go a there may refl where
  single : (b : Agent S) (x : Op) → ops way b ≡ x ∷ [] → agent w h ≡ Some b → op ≡ x → act way w h ≡ Some (d.0, left_by way w h b (place_of h op) d)
  single b x is here same = act_first way w h b op [] p d here (is ∙ ap (λ o. o ∷ []) (sym same)) found can

  idle : (s : S) (n : Next) → way.next s ≡ n → agent w h ≡ Some (Serves (Serving s)) → IsOne op (next_ops n) → act way w h ≡ Some (d.0, left_by way w h (Serves (Serving s)) (place_of h op) d)
  idle s Idle is here (inl e) = act_first way w h (Serves (Serving s)) op (Takes ∷ []) p d here (ap next_ops is ∙ ap (λ o. o ∷ Takes ∷ []) (sym e)) found can
  idle s Idle is here (inr (inl e)) =
      let found2 : place w (TheInbox h) ≡ Some p = ap (λ o. place w (place_of h o)) (sym e) ∙ found in
      let can2 : does way h Takes p ≡ Some d = ap (λ o. does way h o p) (sym e) ∙ can in
      let no_end : answer_at way h Ends (place w (TheInbox h)) ≡ None = ap (answer_at way h Ends) found2 ∙ bars way h p d can2 in
      let P : Op → Type 0 = λ o. act way w h ≡ Some (d.0, left_by way w h (Serves (Serving s)) (place_of h o) d) in
      subst P (sym e) (act_second way w h (Serves (Serving s)) Ends Takes p d here (ap next_ops is) no_end found2 can2)
  idle s Idle is here (inr (inr e)) = absurd e
  idle s (Ask r) is here (inl e) = single (Serves (Serving s)) (Asks r) (ap next_ops is) here e
  idle s (Ask r) is here (inr e) = absurd e

  leaves : (e : Ending) (seen : Bool) (xs : List Held) → bounce_ops e.own e.found e.bounces ≡ bounce_ops e.own seen xs → agent w h ≡ Some (Serves (Leaving e)) → IsOne op (bounce_ops e.own seen xs) → act way w h ≡ Some (d.0, left_by way w h (Serves (Leaving e)) (place_of h op) d)
  leaves e seen [] is here one = absurd one
  leaves e true (x ∷ xs) is here (inl o) = single (Serves (Leaving e)) _ is here o
  leaves e true (x ∷ xs) is here (inr o) = absurd o
  leaves e false (x ∷ xs) is here (inl o) = single (Serves (Leaving e)) _ is here o
  leaves e false (x ∷ xs) is here (inr o) = absurd o

  times : (due more : List (Handle × Session)) → due ≡ more → agent w h ≡ Some (Times due) → IsOne op (due_ops more) → act way w h ≡ Some (d.0, left_by way w h (Times due) (place_of h op) d)
  times due [] is here (inl o) = single (Times due) Ticks (ap due_ops is) here o
  times due [] is here (inr o) = absurd o
  times due (x ∷ xs) is here (inl o) = single (Times due) _ (ap due_ops is) here o
  times due (x ∷ xs) is here (inr o) = absurd o

  go : (b : Agent S) → agent w h ≡ Some b → IsOne op (ops way b) → b ≡ a → act way w h ≡ Some (d.0, left_by way w h a (place_of h op) d)
  go (Serves (Serving s)) here one same = let P : Agent S → Type 0 = λ b. act way w h ≡ Some (d.0, left_by way w h b (place_of h op) d) in subst P same (idle s (way.next s) refl here one)
  go (Serves (Leaving e)) here one same = let P : Agent S → Type 0 = λ b. act way w h ≡ Some (d.0, left_by way w h b (place_of h op) d) in subst P same (leaves e e.found e.bounces refl here one)
  go (Times due) here one same = let P : Agent S → Type 0 = λ b. act way w h ≡ Some (d.0, left_by way w h b (place_of h op) d) in subst P same (times due due refl here one)
