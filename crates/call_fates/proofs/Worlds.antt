-- An act leaves a world a world.
use Rattle.std.proofs.Common.{◌⊎◌, inl, inr, ℕ, ◌≡◌, ◌≢◌, ◌<◌, ◌+◌, ◌-◌, nat_lt, Bool, true, false, List, [], ◌∷◌, length, Option, Some, None, if◌then◌else◌, refl, ap, sym, ◌∙◌, subst, arith, length-append, length-set}
use Rattle.std.proofs.lemmas.Bool.Decides.{nat_tests}
use Rattle.message.specs.Messages.{init_message}
use Rattle.message.specs.Actors.{Way, IsLawful, Fits}
use Rattle.message.specs.Registries.{Registry, at, next_handle, register, does_look, does_launch, does_name, does_retire, most_handles, may_name, may_retire, name, retire}
use Rattle.message.specs.Steps.{Op, Asks, Takes, Ends, Ticks, Fires, Agent, Serves, Times, IsOne, ops, next_ops, service_ops, op_of, input_of, service_after, serving_after, ending_after, place_of, registry_does, made}
use Rattle.message.specs.Worlds.{World, agent}
use Rattle.sk_types.specs.declared.number.Handle.{Handle}
use Rattle.message.specs.declared.datum.Datum.{Datum}
use Rattle.message.specs.declared.request.Message.{Message}
use Rattle.message.specs.declared.request.Dest.TheVariants.{Number, Name}
use Rattle.message.specs.declared.request.Request.TheVariants as ask
use Rattle.message.specs.declared.request.Answer.{Answer}
use Rattle.message.specs.declared.request.Answer.TheVariants.{Found, Flag, Clock as Told, Done}
use Rattle.message.specs.declared.request.Input.TheVariants.{Message as Comes, Answer as Answers}
use Rattle.message.specs.declared.request.Next.{Next}
use Rattle.message.specs.declared.request.Next.TheVariants.{Idle, Ask}
use Rattle.message.specs.declared.record.What.{What}
use Rattle.message.specs.declared.record.What.TheVariants as did
use Rattle.message.specs.declared.place.InboxState.{InboxState}
use Rattle.message.specs.declared.place.InboxStatus.TheVariants.{Live}
use Rattle.message.specs.declared.place.Ending.{Ending}
use Rattle.message.specs.declared.place.Service.{Service}
use Rattle.message.specs.declared.place.Service.TheVariants.{Serving, Leaving}
use Rattle.call_fates.specs.Reached.{ServiceOk, IsWorld}
use Rattle.call_fates.proofs.Lists.{handle_is, at_is, at_set, at_push}
use Rattle.call_fates.proofs.Forms.{LookFits, asks_then, takes_then, ends_then, no_ticks, no_fires}
use Rattle.call_fates.proofs.Inverts.{Acted, AtOne, AtNone, Grows, Registers, services_after, agent_is}

-- A SERVICE

-- what a service that serves did: it ended, or was fed an input that fits
abbrev pub EndsOrFed : {S : Type 0} → Way S → S → What → Type 0
EndsOrFed way s what = ((ms : List Message) × (what ≡ did.End ms) × (way.next s ≡ Idle)) ⊎ (Fits (way.next s) (input_of what) × (serving_after way s what ≡ Serving (way.fed s (input_of what))))

fits_by : (n n2 : Next) (a : Answer) → n ≡ n2 → Fits n2 (Answers a) → Fits n (Answers a)
fits_by n n2 a e h = subst (λ z. Fits z (Answers a)) (sym e) h

pub ends_or_fed : {S : Type 0} (way : Way S) (s : S) (what : What) → IsOne (op_of what) (next_ops (way.next s)) → LookFits what → EndsOrFed way s what
ends_or_fed way s (did.Look (Number n) found) may fits = inr (fits_by (way.next s) (Ask (ask.Look (Number n))) (Found found) (asks_then (way.next s) (ask.Look (Number n)) may) fits, refl)
ends_or_fed way s (did.Look (Name t) found) may fits = inr (fits_by (way.next s) (Ask (ask.Look (Name t))) (Found found) (asks_then (way.next s) (ask.Look (Name t)) may) tt, refl)
ends_or_fed way s (did.Put to m taken) may fits = inr (fits_by (way.next s) (Ask (ask.Put to m)) (Flag taken) (asks_then (way.next s) (ask.Put to m) may) tt, refl)
ends_or_fed way s (did.Launch text args found) may fits = inr (fits_by (way.next s) (Ask (ask.Launch text args)) (Found found) (asks_then (way.next s) (ask.Launch text args) may) tt, refl)
ends_or_fed way s (did.Name text g named) may fits = inr (fits_by (way.next s) (Ask (ask.Name text g)) (Flag named) (asks_then (way.next s) (ask.Name text g) may) tt, refl)
ends_or_fed way s (did.Retire g retired) may fits = inr (fits_by (way.next s) (Ask (ask.Retire g)) (Flag retired) (asks_then (way.next s) (ask.Retire g) may) tt, refl)
ends_or_fed way s (did.Mark g) may fits = inr (fits_by (way.next s) (Ask (ask.Mark g)) Done (asks_then (way.next s) (ask.Mark g) may) tt, refl)
ends_or_fed way s (did.Later n x) may fits = inr (fits_by (way.next s) (Ask (ask.Later n x)) Done (asks_then (way.next s) (ask.Later n x) may) tt, refl)
ends_or_fed way s (did.Now n) may fits = inr (fits_by (way.next s) (Ask ask.Now) (Told n) (asks_then (way.next s) ask.Now may) tt, refl)
ends_or_fed way s (did.Take m left) may fits = inr (subst (λ z. Fits z (Comes m)) (sym (takes_then (way.next s) may)) tt, refl)
ends_or_fed way s (did.End ms) may fits = inl (ms, refl, ends_then (way.next s) may)
ends_or_fed way s (did.Tick due) may fits = absurd (no_ticks (way.next s) may)
ends_or_fed way s (did.Fire g m taken) may fits = absurd (no_fires (way.next s) g m may)

own_kept : (e : Ending) (what : What) → (ending_after e what).own ≡ e.own
own_kept e (did.Look d (Some g)) = refl
own_kept e (did.Look d None) = refl
own_kept e (did.Put to m taken) = refl
own_kept e (did.Launch text args found) = refl
own_kept e (did.Name text g named) = refl
own_kept e (did.Retire g retired) = refl
own_kept e (did.Mark g) = refl
own_kept e (did.Later n x) = refl
own_kept e (did.Now n) = refl
own_kept e (did.Take m left) = refl
own_kept e (did.End ms) = refl
own_kept e (did.Tick due) = refl
own_kept e (did.Fire g m taken) = refl

pub service_ok : {S : Type 0} (way : Way S) (sound : S → Type 0) → IsLawful way sound → (h : Handle) (x : Service S) (what : What) → ServiceOk way sound h x → IsOne (op_of what) (service_ops way x) → LookFits what → ServiceOk way sound h (service_after way x what)
service_ok way sound lawful h (Serving s) what ok may fits = go (ends_or_fed way s what may fits) where
  go : EndsOrFed way s what → ServiceOk way sound h (serving_after way s what)
  go (inl p) = subst (λ z. ServiceOk way sound h (serving_after way s z)) (sym p.1) ok.1
  go (inr p) =
      let n = lawful.step s (input_of what) ok.0 p.0 in
      subst (ServiceOk way sound h) (sym p.1) (n.0, n.1.named ∙ ok.1)
service_ok way sound lawful h (Leaving e) what ok may fits = own_kept e what ∙ ok

-- THE SERVICES

services_ok : {S : Type 0} (way : Way S) (sound : S → Type 0) → IsLawful way sound → (w : World S) (h : Handle) (a : Agent S) (what : What) → IsWorld way sound w → agent w h ≡ Some a → IsOne (op_of what) (ops way a) → LookFits what
    → (g : Handle) (y : Service S) → at (services_after way w h a what) g.0 ≡ Some y → ServiceOk way sound g y
services_ok way sound lawful w h (Times due) what ok there may fits g y e = ok.services g y e
services_ok way sound lawful w h (Serves x) what ok there may fits g y e = go (at_set w.services h.0 g.0 (service_after way x what) y (at_is w.services h.0 x here).0 e) where
  here : at w.services h.0 ≡ Some x
  here = agent_is w h x there

  go : (((g.0 ≡ h.0) × (y ≡ service_after way x what)) ⊎ (at w.services g.0 ≡ Some y)) → ServiceOk way sound g y
  go (inl p) =
      let now : ServiceOk way sound h (service_after way x what) = service_ok way sound lawful h x what (ok.services h x here) may fits in
      let at_g : ServiceOk way sound g (service_after way x what) = subst (λ n. ServiceOk way sound n (service_after way x what)) (sym (handle_is g h p.0)) now in
      subst (ServiceOk way sound g) (sym p.1) at_g
  go (inr p) = ok.services g y p

pub services_len : {S : Type 0} (way : Way S) (w : World S) (h : Handle) (a : Agent S) (what : What) → length (services_after way w h a what) ≡ length w.services
services_len way w h (Times due) what = refl
services_len way w h (Serves x) what = length-set w.services (h.0 - 1) (service_after way x what)

pub inboxes_len : {S : Type 0} (w : World S) (h : Handle) (op : Op) (what : What) (after : List InboxState) → AtOne w h op what after ⊎ AtNone w h op after → length after ≡ length w.inboxes
inboxes_len w h op what after (inl p) = ap length p.set ∙ length-set w.inboxes (p.to.0 - 1) p.after
inboxes_len w h op what after (inr p) = ap length p.kept

-- THE REGISTRY

-- a Launch that gave this handle: the script begins under it, and it is listed
abbrev pub Given : {S : Type 0} → Way S → Registry → What → Registry → Type 0
Given way r (did.Launch text args (Some own)) r2 = (own ≡ next_handle r) × (r2 ≡ register r) × (way.begins text own ≢ None) × (length r.listed < most_handles)
Given way r what r2 = length r2.listed ≡ length r.listed

given_by : {S : Type 0} (way : Way S) (r : Registry) (d : What × Registry) (what : What) (r2 : Registry) → ◌≡◌ {A = Option (What × Registry)} (Some d) (Some (what, r2)) → Given way r d.0 d.1 → Given way r what r2
given_by way r d what r2 e g = let same : d ≡ (what, r2) = cc in subst (λ (z : What × Registry). Given way r z.0 z.1) same g

below : (n : ℕ) → nat_lt n most_handles ≡ true → n < most_handles
below n e = grind (arith, nat_tests)

launch_given : {S : Type 0} (way : Way S) (r : Registry) (text : List ℕ) (args : List Datum) → Given way r (does_launch r text args (made way r text)).0 (does_launch r text args (made way r text)).1
launch_given {S = S} way r text args = go (nat_lt (length r.listed) most_handles) refl where
  inner : (b : Bool) → nat_lt (length r.listed) most_handles ≡ b → b ≡ true → (q : Option S) → way.begins text (next_handle r) ≡ q → Given way r (does_launch r text args q).0 (does_launch r text args q).1
  inner b e t None k = refl
  inner b e t (Some s) k = (refl, refl, (λ none. cc), below (length r.listed) (e ∙ t))

  go : (b : Bool) → nat_lt (length r.listed) most_handles ≡ b → Given way r (does_launch r text args (if b then way.begins text (next_handle r) else None)).0 (does_launch r text args (if b then way.begins text (next_handle r) else None)).1
  go true e = inner true e refl (way.begins text (next_handle r)) refl
  go false e = refl

name_given : {S : Type 0} (way : Way S) (r : Registry) (text : List ℕ) (h : Handle) (b : Bool) → Given way r (did.Name text h b) (if b then name r text h else r)
name_given way r text h true = refl
name_given way r text h false = refl

retire_given : {S : Type 0} (way : Way S) (r : Registry) (h : Handle) (b : Bool) → Given way r (did.Retire h b) (if b then retire r h else r)
retire_given way r h true = length-set r.listed (h.0 - 1) false
retire_given way r h false = refl

pub registry_given : {S : Type 0} (way : Way S) (op : Op) (r : Registry) (what : What) (r2 : Registry) → registry_does way op r ≡ Some (what, r2) → Given way r what r2
registry_given way (Asks (ask.Look dest)) r what r2 e = given_by way r (does_look r dest) what r2 e refl
registry_given way (Asks (ask.Launch text args)) r what r2 e = given_by way r (does_launch r text args (made way r text)) what r2 e (launch_given way r text args)
registry_given way (Asks (ask.Name text h)) r what r2 e = given_by way r (does_name r text h) what r2 e (name_given way r text h (may_name r text h))
registry_given way (Asks (ask.Retire h)) r what r2 e = given_by way r (does_retire r h) what r2 e (retire_given way r h (may_retire r h))
registry_given way (Asks (ask.Put to m)) r what r2 e = absurd (cc)
registry_given way (Asks (ask.Mark to)) r what r2 e = absurd (cc)
registry_given way (Asks (ask.Later n x)) r what r2 e = absurd (cc)
registry_given way (Asks ask.Now) r what r2 e = absurd (cc)
registry_given way Takes r what r2 e = absurd (cc)
registry_given way Ends r what r2 e = absurd (cc)
registry_given way Ticks r what r2 e = absurd (cc)
registry_given way (Fires h m) r what r2 e = absurd (cc)

given_len : {S : Type 0} (way : Way S) (r : Registry) (what : What) (r2 : Registry) → Given way r what r2 → ((text : List ℕ) (args : List Datum) (own : Handle) → what ≡ did.Launch text args (Some own) → way.begins text own ≡ None) → length r2.listed ≡ length r.listed
given_len way r (did.Launch text args (Some own)) r2 g none = absurd (g.2 (none text args own refl))
given_len way r (did.Launch text args None) r2 g none = g
given_len way r (did.Look d f) r2 g none = g
given_len way r (did.Put to m b) r2 g none = g
given_len way r (did.Name text to b) r2 g none = g
given_len way r (did.Retire to b) r2 g none = g
given_len way r (did.Mark to) r2 g none = g
given_len way r (did.Later n x) r2 g none = g
given_len way r (did.Now n) r2 g none = g
given_len way r (did.Take m l) r2 g none = g
given_len way r (did.End ms) r2 g none = g
given_len way r (did.Tick due) r2 g none = g
given_len way r (did.Fire to m b) r2 g none = g

pub listed_len : {S : Type 0} (way : Way S) (w : World S) (h : Handle) (what : What) (r : Registry) → Registers way w h (op_of what) what r → ((text : List ℕ) (args : List Datum) (own : Handle) → what ≡ did.Launch text args (Some own) → way.begins text own ≡ None) → length r.listed ≡ length w.registry.listed
listed_len way w h what r (inl p) none = given_len way w.registry what r (registry_given way (op_of what) w.registry what r p.1) none
listed_len way w h what r (inr p) none = ap (λ (z : Registry). length z.listed) p.1

pub launch_listed : {S : Type 0} (way : Way S) (w : World S) (h : Handle) (what : What) (r : Registry) (text : List ℕ) (args : List Datum) (own : Handle) → Registers way w h (op_of what) what r → what ≡ did.Launch text args (Some own) → (own ≡ next_handle w.registry) × (r ≡ register w.registry)
launch_listed way w h what r text args own (inl p) is =
    let g = subst (λ z. Given way w.registry z r) is (registry_given way (op_of what) w.registry what r p.1) in
    (g.0, g.1)
launch_listed way w h what r text args own (inr p) is = absurd (p.0 (ap (λ z. place_of h (op_of z)) is))

-- THE WORLD

pub world_kept : {S : Type 0} (way : Way S) (sound : S → Type 0) → IsLawful way sound → (w : World S) (h : Handle) (r : What × World S) → IsWorld way sound w → Acted way w h r → IsWorld way sound r.1
world_kept {S = S} way sound lawful w h r ok x = go x.grows where
  old : (g : Handle) (y : Service S) → at x.mid.services g.0 ≡ Some y → ServiceOk way sound g y
  old g y e = services_ok way sound lawful w h x.who r.0 ok x.there x.may x.done.fits g y (ap (λ z. at z g.0) (sym x.services) ∙ e)

  len : length x.mid.services ≡ length w.services
  len = ap length x.services ∙ services_len way w h x.who r.0

  inboxes : length x.mid.inboxes ≡ length w.inboxes
  inboxes = inboxes_len w h (op_of r.0) r.0 x.mid.inboxes x.inboxes

  go : Grows way r.0 x.mid r.1 → IsWorld way sound r.1
  go (inl p) = subst (IsWorld way sound) (sym p.0) (record {
    services = old;
    listed = listed_len way w h r.0 x.mid.registry x.registry p.1 ∙ (ok.listed ∙ sym len);
    inboxes = inboxes ∙ (ok.inboxes ∙ sym len);
  })
  go (inr p) = subst (IsWorld way sound) (sym p.grown) (record {
    services = λ g y e. last g y (at_push x.mid.services g.0 (Serving p.state) y e);
    listed = ap (λ (z : Registry). length z.listed) l.1 ∙ (length-append w.registry.listed (true ∷ []) ∙ (ap (λ n. n + 1) (ok.listed ∙ sym len) ∙ sym (length-append x.mid.services (Serving p.state ∷ []))));
    inboxes = length-append x.mid.inboxes (record { status = Live; waiting = init_message p.args ∷ [] } ∷ []) ∙ (ap (λ n. n + 1) (inboxes ∙ (ok.inboxes ∙ sym len)) ∙ sym (length-append x.mid.services (Serving p.state ∷ [])));
  }) where
    l : (p.own ≡ next_handle w.registry) × (x.mid.registry ≡ register w.registry)
    l = launch_listed way w h r.0 x.mid.registry p.text p.args p.own x.registry p.is

    last : (g : Handle) (y : Service S) → (((g.0 ≡ length x.mid.services + 1) × (y ≡ Serving p.state)) ⊎ (at x.mid.services g.0 ≡ Some y)) → ServiceOk way sound g y
    last g y (inl q) =
        let new = lawful.begin p.text p.own p.state p.begins in
        let own_is : p.own.0 ≡ length w.registry.listed + 1 = ap (λ (z : Handle). z.0) l.0 in
        let same : p.own ≡ g = handle_is p.own g (own_is ∙ (ap (λ n. n + 1) (ok.listed ∙ sym len) ∙ sym q.0)) in
        let here : ServiceOk way sound g (Serving p.state) = (new.is_sound, new.is_new.named ∙ same) in
        subst (ServiceOk way sound g) (sym q.1) here
    last g y (inr q) = old g y q
