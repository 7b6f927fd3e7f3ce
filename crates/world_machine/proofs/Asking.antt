-- What a service asks is done, and the answer is fed to it: that is its act.
use Rattle.std.proofs.Common.{◌≡◌, ℕ, ◌<◌, ◌≤◌, ◌-◌, ◌==◌, Bool, true, false, List, [], ◌∷◌, length, map, Option, Some, None, slice_get, slice_set, get_or, option_map, if◌then◌else◌, refl, ap, sym, ◌∙◌, subst, arith, length-set}
use Rattle.std.proofs.lemmas.Option.{slice_get-map, slice_get-get_or}
use Rattle.std.proofs.lemmas.List.{map-set}
use Rattle.std.proofs.lemmas.Bool.Decides.{nat_tests}
use Rattle.sk_types.specs.declared.number.Handle.{Handle}
use Rattle.sk_types.specs.declared.number.Session.{Session}
use Rattle.message.specs.Actors.{Way, Fits, MayAnswer}
use Rattle.message.specs.Inboxes.{put, mark}
use Rattle.message.specs.Registries.{Registry, at, set_at, is_listed, does_look, does_name, does_retire, name, retire, may_name, may_retire}
use Rattle.message.specs.Clocks.{add}
use Rattle.message.specs.Steps.{Asks, Serves, service_ops, next_ops, bounce_ops, input_of, service_after, place_of, does, PlaceState, AtRegistry, AtInbox, AtClock}
use Rattle.message.specs.Texts.{line_of}
use Rattle.message.specs.Worlds.{World, agent, agent_or_clock, serves, place, inbox_state, set_place, set_agent, grow, act, left_by, over, service_over}
use Rattle.message.proofs.Acts.{act_first}
use Rattle.message.specs.declared.request.Held.{Held}
use Rattle.message.specs.declared.request.Dest.TheVariants.{Number, Name}
use Rattle.message.specs.declared.request.Request.{Request}
use Rattle.message.specs.declared.request.Request.TheVariants as ask
use Rattle.message.specs.declared.request.Answer.{Answer}
use Rattle.message.specs.declared.request.Answer.TheVariants.{Found, Flag, Clock as Told, Done}
use Rattle.message.specs.declared.request.Input.TheVariants.{Answer as Answers}
use Rattle.message.specs.declared.request.Next.{Next}
use Rattle.message.specs.declared.request.Next.TheVariants.{Idle, Ask}
use Rattle.message.specs.declared.record.What.{What}
use Rattle.message.specs.declared.record.What.TheVariants as did
use Rattle.message.specs.declared.place.Place.TheVariants.{Registry as TheRegistry}
use Rattle.message.specs.declared.place.InboxState.{InboxState}
use Rattle.message.specs.declared.place.Service.{Service}
use Rattle.message.specs.declared.place.Service.TheVariants.{Serving, Leaving}
use Rattle.message.specs.declared.place.Ending.{Ending}
use Rattle.world_machine.specs.Spots.{Spots, with_spots, in_registry, in_clock, in_inbox_of, asked_at, Gives}
use Rattle.world_machine.specs.Serving.{MayGet, answered}
use Rattle.world_machine.specs.Failing.{IsSpent}
use Rattle.world_machine.specs.Machines.{DidThis}
use Rattle.world_machine.specs.Launching.{Hears}

-- WHAT IS DONE

-- what a request did, by its kind: it is the operation's own, and brings no service and no line
pub record IsAsked {S : Type 0} (way : Way S) (own : Handle) (r : Request) (services : List (Service S)) (p : Spots) (due : List (Handle × Session)) (d : What × Spots) : Type 0 where
  pub state : PlaceState
  pub after : PlaceState
  pub found : place (with_spots services p due) (place_of own (Asks r)) ≡ Some state
  pub can : does way own (Asks r) state ≡ Some (d.0, after)
  pub left : (more : List (Service S)) → set_place (with_spots more p due) (place_of own (Asks r)) after ≡ with_spots more d.1 due
  pub grows : (w : World S) → grow way w d.0 ≡ w
  pub silent : (h : Handle) → line_of h d.0 ≡ None
  pub serving : (s : S) → service_after way (Serving s) d.0 ≡ Serving (way.fed s (input_of d.0))

in_registry_asked : {S : Type 0} (way : Way S) (own : Handle) (services : List (Service S)) (p : Spots) (due : List (Handle × Session)) (r : Request) (d : What × Registry) (e : What × Spots)
    → place_of own (Asks r) ≡ TheRegistry → does way own (Asks r) (AtRegistry p.registry) ≡ Some (d.0, AtRegistry d.1)
    → ((w : World S) → grow way w d.0 ≡ w) → ((h : Handle) → line_of h d.0 ≡ None) → ((s : S) → service_after way (Serving s) d.0 ≡ Serving (way.fed s (input_of d.0)))
    → Some (in_registry p d) ≡ Some e → IsAsked way own r services p due e
in_registry_asked way own services p due r d e at_it can grows silent serving is =
    let same : in_registry p d ≡ e = cc in
    let all : IsAsked way own r services p due (in_registry p d) = record {
      state = AtRegistry p.registry;
      after = AtRegistry d.1;
      found = ap (place (with_spots services p due)) at_it;
      can = can;
      left = λ more. ap (λ q. set_place (with_spots more p due) q (AtRegistry d.1)) at_it;
      grows = grows;
      silent = silent;
      serving = serving;
    } in
    subst (IsAsked way own r services p due) same all

pub is_asked : {S : Type 0} (way : Way S) (own : Handle) (r : Request) (services : List (Service S)) (p : Spots) (due : List (Handle × Session)) (d : What × Spots) → asked_at own r p ≡ Some d → IsAsked way own r services p due d
is_asked way own (ask.Look dest) services p due d e = in_registry_asked way own services p due (ask.Look dest) (does_look p.registry dest) d refl refl (λ w. refl) (λ h. refl) (λ s. refl) e
is_asked way own (ask.Name text h) services p due d e = in_registry_asked way own services p due (ask.Name text h) (does_name p.registry text h) d refl refl (λ w. refl) (λ h. refl) (λ s. refl) e
is_asked way own (ask.Retire h) services p due d e = in_registry_asked way own services p due (ask.Retire h) (does_retire p.registry h) d refl refl (λ w. refl) (λ h. refl) (λ s. refl) e
is_asked way own (ask.Launch name args) services p due d e = absurd (cc)
is_asked way own (ask.Later n x) services p due d e =
    let same : in_clock p (did.Later n x, add p.clock n own x) ≡ d = cc in
    let all : IsAsked way own (ask.Later n x) services p due (in_clock p (did.Later n x, add p.clock n own x)) = record { state = AtClock p.clock; after = AtClock (add p.clock n own x); found = refl; can = refl; left = λ more. refl; grows = λ w. refl; silent = λ h. refl; serving = λ s. refl } in
    subst (IsAsked way own (ask.Later n x) services p due) same all
is_asked way own ask.Now services p due d e =
    let same : in_clock p (did.Now p.clock.now, p.clock) ≡ d = cc in
    let all : IsAsked way own ask.Now services p due (in_clock p (did.Now p.clock.now, p.clock)) = record { state = AtClock p.clock; after = AtClock p.clock; found = refl; can = refl; left = λ more. refl; grows = λ w. refl; silent = λ h. refl; serving = λ s. refl } in
    subst (IsAsked way own ask.Now services p due) same all
is_asked {S = S} way own (ask.Put h m) services p due d e = go (at p.inboxes h.0) refl e where
  go : (q : Option InboxState) → at p.inboxes h.0 ≡ q → in_inbox_of p h.0 q (λ i. put h m i) ≡ Some d → IsAsked way own (ask.Put h m) services p due d
  go None there is = absurd (cc)
  go (Some i) there is =
      let same : ((put h m i).0, record { inboxes = set_at p.inboxes h.0 (put h m i).1; registry = p.registry; clock = p.clock }) ≡ d = cc in
      let all : IsAsked way own (ask.Put h m) services p due ((put h m i).0, record { inboxes = set_at p.inboxes h.0 (put h m i).1; registry = p.registry; clock = p.clock }) =
      record { state = AtInbox i; after = AtInbox (put h m i).1; found = ap inbox_state there; can = refl; left = λ more. refl; grows = λ w. refl; silent = λ h. refl; serving = λ s. refl } in
      subst (IsAsked way own (ask.Put h m) services p due) same all
is_asked {S = S} way own (ask.Mark h) services p due d e = go (at p.inboxes h.0) refl e where
  go : (q : Option InboxState) → at p.inboxes h.0 ≡ q → in_inbox_of p h.0 q (λ i. mark h i) ≡ Some d → IsAsked way own (ask.Mark h) services p due d
  go None there is = absurd (cc)
  go (Some i) there is =
      let same : ((mark h i).0, record { inboxes = set_at p.inboxes h.0 (mark h i).1; registry = p.registry; clock = p.clock }) ≡ d = cc in
      let all : IsAsked way own (ask.Mark h) services p due ((mark h i).0, record { inboxes = set_at p.inboxes h.0 (mark h i).1; registry = p.registry; clock = p.clock }) =
      record { state = AtInbox i; after = AtInbox (mark h i).1; found = ap inbox_state there; can = refl; left = λ more. refl; grows = λ w. refl; silent = λ h. refl; serving = λ s. refl } in
      subst (IsAsked way own (ask.Mark h) services p due) same all

-- WHAT IT IS FED

look_fits : (n : ℕ) (b : Bool) → MayAnswer (ask.Look (Number n)) (Found (if b then Some (record { 0 = n }) else None))
look_fits n true = refl
look_fits n false = tt

-- the answer is one to the request
pub gives_fits : (own : Handle) (r : Request) (p p2 : Spots) (a : Answer) → Gives (asked_at own r p) a p2 → MayAnswer r a
gives_fits own (ask.Look (Number n)) p p2 a g = let same : Found (if is_listed p.registry.listed n then Some (record { 0 = n }) else None) ≡ a = cc (g.0) in subst (MayAnswer (ask.Look (Number n))) same (look_fits n (is_listed p.registry.listed n))
gives_fits own (ask.Look (Name t)) p p2 (Found f) g = tt
gives_fits own (ask.Look (Name t)) p p2 (Flag f) g = absurd (cc (g.0))
gives_fits own (ask.Look (Name t)) p p2 (Told f) g = absurd (cc (g.0))
gives_fits own (ask.Look (Name t)) p p2 Done g = absurd (cc (g.0))
gives_fits own (ask.Launch name args) p p2 a g = absurd g
gives_fits own (ask.Name text h) p p2 (Flag f) g = tt
gives_fits own (ask.Name text h) p p2 (Found f) g = absurd (cc (g.0))
gives_fits own (ask.Name text h) p p2 (Told f) g = absurd (cc (g.0))
gives_fits own (ask.Name text h) p p2 Done g = absurd (cc (g.0))
gives_fits own (ask.Retire h) p p2 (Flag f) g = tt
gives_fits own (ask.Retire h) p p2 (Found f) g = absurd (cc (g.0))
gives_fits own (ask.Retire h) p p2 (Told f) g = absurd (cc (g.0))
gives_fits own (ask.Retire h) p p2 Done g = absurd (cc (g.0))
gives_fits own (ask.Later n x) p p2 Done g = tt
gives_fits own (ask.Later n x) p p2 (Found f) g = absurd (cc (g.0))
gives_fits own (ask.Later n x) p p2 (Told f) g = absurd (cc (g.0))
gives_fits own (ask.Later n x) p p2 (Flag f) g = absurd (cc (g.0))
gives_fits own ask.Now p p2 (Told f) g = tt
gives_fits own ask.Now p p2 (Found f) g = absurd (cc (g.0))
gives_fits own ask.Now p p2 (Flag f) g = absurd (cc (g.0))
gives_fits own ask.Now p p2 Done g = absurd (cc (g.0))
gives_fits own (ask.Put h m) p p2 a g = go (at p.inboxes h.0) a g where
  go : (q : Option InboxState) (b : Answer) → Gives (in_inbox_of p h.0 q (λ i. put h m i)) b p2 → MayAnswer (ask.Put h m) b
  go None b k = absurd k
  go (Some i) (Flag f) k = tt
  go (Some i) (Found f) k = absurd (cc (k.0))
  go (Some i) (Told f) k = absurd (cc (k.0))
  go (Some i) Done k = absurd (cc (k.0))
gives_fits own (ask.Mark h) p p2 a g = go (at p.inboxes h.0) a g where
  go : (q : Option InboxState) (b : Answer) → Gives (in_inbox_of p h.0 q (λ i. mark h i)) b p2 → MayAnswer (ask.Mark h) b
  go None b k = absurd k
  go (Some i) Done k = tt
  go (Some i) (Found f) k = absurd (cc (k.0))
  go (Some i) (Told f) k = absurd (cc (k.0))
  go (Some i) (Flag f) k = absurd (cc (k.0))

pub next_is : (n : Next) (r : Request) → next_ops n ≡ Asks r ∷ [] → n ≡ Ask r
next_is Idle r e = absurd (cc)
next_is (Ask q) r e = let same : q ≡ r = cc in ap Ask same

pub may_get : {S : Type 0} (way : Way S) (x : Service S) (own : Handle) (r : Request) (p p2 : Spots) (a : Answer) → service_ops way x ≡ Asks r ∷ [] → Gives (asked_at own r p) a p2 → MayGet way x a
may_get way (Serving s) own r p p2 a asks g = subst (λ n. Fits n (Answers a)) (sym (next_is (way.next s) r asks)) (gives_fits own r p p2 a g)
may_get way (Leaving e) own r p p2 a asks g = tt

-- an ended service asks a Look or a Put alone
bounce_after : {S : Type 0} (way : Way S) (e : Ending) (found : Bool) (xs : List Held) (own : Handle) (r : Request) (p : Spots) (d : What × Spots) (a : Answer)
    → bounce_ops e.own found xs ≡ Asks r ∷ [] → asked_at own r p ≡ Some d → input_of d.0 ≡ Answers a → service_after way (Leaving e) d.0 ≡ answered way (Leaving e) a
bounce_after way e found [] own r p d a asks did_it is = absurd (cc)
bounce_after way e false (x ∷ xs) own r p d a asks did_it is =
    let same : ask.Look (Number x.source.0) ≡ r = cc in
    let done : Some (in_registry p (does_look p.registry (Number x.source.0))) ≡ Some d = ap (λ q. asked_at own q p) same ∙ did_it in
    let pair : in_registry p (does_look p.registry (Number x.source.0)) ≡ d = cc in
    let what : did.Look (Number x.source.0) (if is_listed p.registry.listed x.source.0 then Some (record { 0 = x.source.0 }) else None) ≡ d.0 = ap (λ (z : What × Spots). z.0) pair in
    let ans : Answers (Found (if is_listed p.registry.listed x.source.0 then Some (record { 0 = x.source.0 }) else None)) ≡ Answers a = ap input_of what ∙ is in
    let ans2 : Found (if is_listed p.registry.listed x.source.0 then Some (record { 0 = x.source.0 }) else None) ≡ a = cc in
    ap (service_after way (Leaving e)) (sym what) ∙ (both (is_listed p.registry.listed x.source.0) ∙ ap (answered way (Leaving e)) ans2) where
      both : (b : Bool) → service_after way (Leaving e) (did.Look (Number x.source.0) (if b then Some (record { 0 = x.source.0 }) else None)) ≡ answered way (Leaving e) (Found (if b then Some (record { 0 = x.source.0 }) else None))
      both true = refl
      both false = refl
bounce_after way e true (x ∷ xs) own r p d a asks did_it is = go r asks did_it where
  go : (q : Request) → bounce_ops e.own true (x ∷ xs) ≡ Asks q ∷ [] → asked_at own q p ≡ Some d → service_after way (Leaving e) d.0 ≡ answered way (Leaving e) a
  go (ask.Put h m) asks2 done = seek (at p.inboxes h.0) done where
    seek : (q : Option InboxState) → in_inbox_of p h.0 q (λ i. put h m i) ≡ Some d → service_after way (Leaving e) d.0 ≡ answered way (Leaving e) a
    seek None e2 = absurd (cc)
    seek (Some i) e2 =
        let pair : ((put h m i).0, record { inboxes = set_at p.inboxes h.0 (put h m i).1; registry = p.registry; clock = p.clock }) ≡ d = cc in
        let what : (put h m i).0 ≡ d.0 = ap (λ (z : What × Spots). z.0) pair in
        let ans : input_of (put h m i).0 ≡ Answers a = ap input_of what ∙ is in
        flag a ans what where
          flag : (b : Answer) → input_of (put h m i).0 ≡ Answers b → (put h m i).0 ≡ d.0 → service_after way (Leaving e) d.0 ≡ answered way (Leaving e) b
          flag (Flag t) k what = ap (service_after way (Leaving e)) (sym what)
          flag (Found t) k what = absurd (cc)
          flag (Told t) k what = absurd (cc)
          flag Done k what = absurd (cc)
  go (ask.Look dest) asks2 done = absurd (cc)
  go (ask.Launch name args) asks2 done = absurd (cc)
  go (ask.Name text h) asks2 done = absurd (cc)
  go (ask.Retire h) asks2 done = absurd (cc)
  go (ask.Mark h) asks2 done = absurd (cc)
  go (ask.Later n y) asks2 done = absurd (cc)
  go ask.Now asks2 done = absurd (cc)

pub after_asked : {S : Type 0} (way : Way S) (x : Service S) (own : Handle) (r : Request) (services : List (Service S)) (p : Spots) (due : List (Handle × Session)) (d : What × Spots) (a : Answer)
    → service_ops way x ≡ Asks r ∷ [] → asked_at own r p ≡ Some d → input_of d.0 ≡ Answers a → service_after way x d.0 ≡ answered way x a
after_asked way (Serving s) own r services p due d a asks done is = (is_asked way own r services p due d done).serving s ∙ ap (λ i. Serving (way.fed s i)) is
after_asked way (Leaving e) own r services p due d a asks done is = bounce_after way e e.found e.bounces own r p d a asks done is

-- no inbox is added
pub asked_len : (own : Handle) (r : Request) (p : Spots) (d : What × Spots) → asked_at own r p ≡ Some d → length d.1.inboxes ≡ length p.inboxes
asked_len own (ask.Look dest) p d e = let same : in_registry p (does_look p.registry dest) ≡ d = cc in ap (λ (z : What × Spots). length z.1.inboxes) (sym same)
asked_len own (ask.Name text h) p d e = let same : in_registry p (does_name p.registry text h) ≡ d = cc in ap (λ (z : What × Spots). length z.1.inboxes) (sym same)
asked_len own (ask.Retire h) p d e = let same : in_registry p (does_retire p.registry h) ≡ d = cc in ap (λ (z : What × Spots). length z.1.inboxes) (sym same)
asked_len own (ask.Launch name args) p d e = absurd (cc)
asked_len own (ask.Later n x) p d e = let same : in_clock p (did.Later n x, add p.clock n own x) ≡ d = cc in ap (λ (z : What × Spots). length z.1.inboxes) (sym same)
asked_len own ask.Now p d e = let same : in_clock p (did.Now p.clock.now, p.clock) ≡ d = cc in ap (λ (z : What × Spots). length z.1.inboxes) (sym same)
asked_len own (ask.Put h m) p d e = go (at p.inboxes h.0) e where
  go : (q : Option InboxState) → in_inbox_of p h.0 q (λ i. put h m i) ≡ Some d → length d.1.inboxes ≡ length p.inboxes
  go None is = absurd (cc)
  go (Some i) is =
      let same : ((put h m i).0, record { inboxes = set_at p.inboxes h.0 (put h m i).1; registry = p.registry; clock = p.clock }) ≡ d = cc in
      ap (λ (z : What × Spots). length z.1.inboxes) (sym same) ∙ length-set p.inboxes (h.0 - 1) (put h m i).1
asked_len own (ask.Mark h) p d e = go (at p.inboxes h.0) e where
  go : (q : Option InboxState) → in_inbox_of p h.0 q (λ i. mark h i) ≡ Some d → length d.1.inboxes ≡ length p.inboxes
  go None is = absurd (cc)
  go (Some i) is =
      let same : ((mark h i).0, record { inboxes = set_at p.inboxes h.0 (mark h i).1; registry = p.registry; clock = p.clock }) ≡ d = cc in
      ap (λ (z : What × Spots). length z.1.inboxes) (sym same) ∙ length-set p.inboxes (h.0 - 1) (mark h i).1

pub gives_len : (own : Handle) (r : Request) (p p2 : Spots) (a : Answer) → Gives (asked_at own r p) a p2 → length p2.inboxes ≡ length p.inboxes
gives_len own r p p2 a g = go (asked_at own r p) refl g where
  go : (q : Option (What × Spots)) → asked_at own r p ≡ q → Gives q a p2 → length p2.inboxes ≡ length p.inboxes
  go None e k = absurd k
  go (Some d) e k = ap (λ (z : Spots). length z.inboxes) (sym k.1) ∙ asked_len own r p d e

-- no handle is given
named_len : (r : Registry) (text : List ℕ) (h : Handle) (b : Bool) → length (if b then name r text h else r).listed ≡ length r.listed
named_len r text h true = refl
named_len r text h false = refl

retired_len : (r : Registry) (h : Handle) (b : Bool) → length (if b then retire r h else r).listed ≡ length r.listed
retired_len r h true = length-set r.listed (h.0 - 1) false
retired_len r h false = refl

same_listed : (p : Spots) (e d : What × Spots) → e ≡ d → length e.1.registry.listed ≡ length p.registry.listed → length d.1.registry.listed ≡ length p.registry.listed
same_listed p e d same len = ap (λ (z : What × Spots). length z.1.registry.listed) (sym same) ∙ len

asked_listed : (own : Handle) (r : Request) (p : Spots) (d : What × Spots) → asked_at own r p ≡ Some d → length d.1.registry.listed ≡ length p.registry.listed
asked_listed own (ask.Look dest) p d e = let same : in_registry p (does_look p.registry dest) ≡ d = cc in same_listed p (in_registry p (does_look p.registry dest)) d same refl
asked_listed own (ask.Name text h) p d e = let same : in_registry p (does_name p.registry text h) ≡ d = cc in same_listed p (in_registry p (does_name p.registry text h)) d same (named_len p.registry text h (may_name p.registry text h))
asked_listed own (ask.Retire h) p d e = let same : in_registry p (does_retire p.registry h) ≡ d = cc in same_listed p (in_registry p (does_retire p.registry h)) d same (retired_len p.registry h (may_retire p.registry h))
asked_listed own (ask.Launch text args) p d e = absurd (cc)
asked_listed own (ask.Later n x) p d e = let same : in_clock p (did.Later n x, add p.clock n own x) ≡ d = cc in same_listed p (in_clock p (did.Later n x, add p.clock n own x)) d same refl
asked_listed own ask.Now p d e = let same : in_clock p (did.Now p.clock.now, p.clock) ≡ d = cc in same_listed p (in_clock p (did.Now p.clock.now, p.clock)) d same refl
asked_listed own (ask.Put h m) p d e = go (at p.inboxes h.0) e where
  go : (q : Option InboxState) → in_inbox_of p h.0 q (λ i. put h m i) ≡ Some d → length d.1.registry.listed ≡ length p.registry.listed
  go None is = absurd (cc)
  go (Some i) is =
      let same : ((put h m i).0, record { inboxes = set_at p.inboxes h.0 (put h m i).1; registry = p.registry; clock = p.clock }) ≡ d = cc in
      same_listed p ((put h m i).0, record { inboxes = set_at p.inboxes h.0 (put h m i).1; registry = p.registry; clock = p.clock }) d same refl
asked_listed own (ask.Mark h) p d e = go (at p.inboxes h.0) e where
  go : (q : Option InboxState) → in_inbox_of p h.0 q (λ i. mark h i) ≡ Some d → length d.1.registry.listed ≡ length p.registry.listed
  go None is = absurd (cc)
  go (Some i) is =
      let same : ((mark h i).0, record { inboxes = set_at p.inboxes h.0 (mark h i).1; registry = p.registry; clock = p.clock }) ≡ d = cc in
      same_listed p ((mark h i).0, record { inboxes = set_at p.inboxes h.0 (mark h i).1; registry = p.registry; clock = p.clock }) d same refl

pub gives_listed : (own : Handle) (r : Request) (p p2 : Spots) (a : Answer) → Gives (asked_at own r p) a p2 → length p2.registry.listed ≡ length p.registry.listed
gives_listed own r p p2 a g = go (asked_at own r p) refl g where
  go : (q : Option (What × Spots)) → asked_at own r p ≡ q → Gives q a p2 → length p2.registry.listed ≡ length p.registry.listed
  go None e k = absurd k
  go (Some d) e k = ap (λ (z : Spots). length z.registry.listed) (sym k.1) ∙ asked_listed own r p d e

-- THE ACT

pub at_given : {X : Type 0} (xs : List X) (h : ℕ) → 0 < h → at xs h ≡ slice_get xs (h - 1)
at_given xs h given = let e : (h == 0) ≡ false = grind (arith, nat_tests) in rw e refl

pub agent_serves : {S : Type 0} (w : World S) (h : Handle) (x : Service S) → 0 < h.0 → at w.services h.0 ≡ Some x → agent w h ≡ Some (Serves x)
agent_serves w h x given there = let e : (h.0 == 0) ≡ false = grind (arith, nat_tests) in ap (agent_or_clock w.due (at w.services h.0)) e ∙ ap serves there

-- the service that was found in the list is the one that the machine has
pub seen : {A B : Type 0} (F : A → B) (xs : List A) (h : ℕ) (x : A) → 0 < h → x ≡ get_or xs (h - 1) x → h ≤ length xs → at (map F xs) h ≡ Some (F x)
seen F xs h x given is within =
    let inside : h - 1 < length xs = omega arith in
    at_given (map F xs) h given ∙ (slice_get-map F xs (h - 1) ∙ (ap (option_map F) (slice_get-get_or xs (h - 1) x inside) ∙ ap (λ y. Some (F y)) (sym is)))

pub same_service : {A B : Type 0} (F : A → B) (xs : List A) (h : ℕ) (x : A) (b : B) → 0 < h → x ≡ get_or xs (h - 1) x → h ≤ length xs → at (map F xs) h ≡ Some b → F x ≡ b
same_service F xs h x b given is within there = let e : Some (F x) ≡ Some b = sym (seen F xs h x given is within) ∙ there in cc

-- the request was done, with this answer
pub record Asked {A M : Type 0} (way : Way M) (f : A → M) (services : List (Service A)) (p p2 : Spots) (due : List (Handle × Session)) (h : Handle) (r : Request) (a : Answer) (next : Service A) : Type 0 where
  pub done : What × Spots
  pub asked : asked_at h r p ≡ Some done
  pub answer : input_of done.0 ≡ Answers a
  pub did_it : DidThis way (over f (with_spots services p due)) h None (over f (with_spots (slice_set services (h.0 - 1) next) p2 due)) done.0

pub asks_did : {A M : Type 0} (way : Way M) (f : A → M) (services : List (Service A)) (p p2 : Spots) (due : List (Handle × Session)) (h : Handle) (r : Request) (a : Answer) (before next : Service A)
    → 0 < h.0 → h.0 ≤ length services → before ≡ get_or services (h.0 - 1) before → service_ops way (service_over f before) ≡ Asks r ∷ []
    → Gives (asked_at h r p) a p2 → service_over f next ≡ answered way (service_over f before) a
    → Asked way f services p p2 due h r a next
asks_did {A = A} {M = M} way f services p p2 due h r a before next given within is asks gives fed = go (asked_at h r p) refl gives where
  all : List (Service M)
  all = map (service_over f) services

  go : (q : Option (What × Spots)) → asked_at h r p ≡ q → Gives q a p2 → Asked way f services p p2 due h r a next
  go None e k = absurd k
  go (Some d) e k =
      let w : World M = with_spots all p due in
      let x : Service M = service_over f before in
      let info = is_asked way h r all p due d e in
      let there : agent w h ≡ Some (Serves x) = agent_serves w h x given (seen (service_over f) services h.0 before given is within) in
      let acts : act way w h ≡ Some (d.0, left_by way w h (Serves x) (place_of h (Asks r)) (d.0, info.after)) = act_first way w h (Serves x) (Asks r) [] info.state (d.0, info.after) there asks info.found info.can in
      let now : service_after way x d.0 ≡ service_over f next = after_asked way x h r all p due d a asks e k.0 ∙ sym fed in
      let rest : List (Service M) = set_at all h.0 (service_after way x d.0) in
      let sets : set_agent (set_place w (place_of h (Asks r)) info.after) h (Serves (service_after way x d.0)) ≡ with_spots rest d.1 due = ap (λ v. set_agent v h (Serves (service_after way x d.0))) (info.left all) in
      let lists : rest ≡ map (service_over f) (slice_set services (h.0 - 1) next) = ap (set_at all h.0) now ∙ sym (map-set (service_over f) services (h.0 - 1) next) in
      let whole : left_by way w h (Serves x) (place_of h (Asks r)) (d.0, info.after) ≡ with_spots (map (service_over f) (slice_set services (h.0 - 1) next)) p2 due =
      info.grows (set_agent (set_place w (place_of h (Asks r)) info.after) h (Serves (service_after way x d.0))) ∙ (sets ∙ (ap (λ l. with_spots l d.1 due) lists ∙ ap (λ q. with_spots (map (service_over f) (slice_set services (h.0 - 1) next)) q due) k.1)) in
      record { done = d; asked = e; answer = k.0; did_it = (acts ∙ ap (λ v. Some (d.0, v)) whole, sym (info.silent h)) }

-- the request was done, whatever comes of its answer
pub asks_acted : {A M : Type 0} (way : Way M) (f : A → M) (services : List (Service A)) (p p2 : Spots) (due : List (Handle × Session)) (h : Handle) (r : Request) (a : Answer) (before : Service A) (spent : Bool)
    → 0 < h.0 → h.0 ≤ length services → before ≡ get_or services (h.0 - 1) before → service_ops way (service_over f before) ≡ Asks r ∷ []
    → Gives (asked_at h r p) a p2 → spent ≡ true → IsSpent way (over f (with_spots services p due)) h None spent
asks_acted {A = A} {M = M} way f services p p2 due h r a before spent given within is asks gives met = go (asked_at h r p) refl gives where
  go : (q : Option (What × Spots)) → asked_at h r p ≡ q → Gives q a p2 → IsSpent way (over f (with_spots services p due)) h None spent
  go None e k = absurd k
  go (Some d) e k =
      let all : List (Service M) = map (service_over f) services in
      let w : World M = with_spots all p due in
      let x : Service M = service_over f before in
      let info = is_asked way h r all p due d e in
      let there : agent w h ≡ Some (Serves x) = agent_serves w h x given (seen (service_over f) services h.0 before given is within) in
      let acts : act way w h ≡ Some (d.0, left_by way w h (Serves x) (place_of h (Asks r)) (d.0, info.after)) = act_first way w h (Serves x) (Asks r) [] info.state (d.0, info.after) there asks info.found info.can in
      record { what = d.0; after = left_by way w h (Serves x) (place_of h (Asks r)) (d.0, info.after); acts = acts; line_is = sym (info.silent h); met = met }

-- an answer is heard by its service alone
pub hears_it : {A M : Type 0} (way : Way M) (f : A → M) (services : List (Service A)) (p : Spots) (due : List (Handle × Session)) (h : Handle) (a : Answer) (before next : Service A)
    → 0 < h.0 → h.0 ≤ length services → before ≡ get_or services (h.0 - 1) before → service_over f next ≡ answered way (service_over f before) a
    → Hears way (over f (with_spots services p due)) h a (over f (with_spots (slice_set services (h.0 - 1) next) p due))
hears_it way f services p due h a before next given within is fed = record {
  service = service_over f before;
  there = seen (service_over f) services h.0 before given is within;
  after = ap (λ l. with_spots l p due) (map-set (service_over f) services (h.0 - 1) next ∙ ap (set_at (map (service_over f) services) h.0) fed);
}
