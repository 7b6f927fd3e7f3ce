-- What is done at the registry gives no handle twice.
use Rattle.std.proofs.Common.{◌⊎◌, inl, inr, ◌≡◌, ◌≢◌, ℕ, ◌<◌, ◌≤◌, ◌+◌, nat_lt, Bool, true, false, List, [], ◌∷◌, length, Option, Some, None, if◌then◌else◌, refl, ap, sym, ◌∙◌, subst, arith, length-append, length-set}
use Rattle.message.specs.Actors.{Way}
use Rattle.message.specs.Registries.{Registry, next_handle, does_look, does_launch, does_name, does_retire, most_handles, may_name, may_retire, name, retire}
use Rattle.message.specs.Steps.{Op, Asks, Takes, Ends, Ticks, Fires, op_of, PlaceState, AtRegistry, registry_does, made, with_state, does}
use Rattle.message.specs.Records.{PlaceRuns}
use Rattle.sk_types.specs.declared.number.Handle.{Handle}
use Rattle.message.specs.declared.datum.Datum.{Datum}
use Rattle.message.specs.declared.request.Request.TheVariants as ask
use Rattle.message.specs.declared.record.Entry.{Entry}
use Rattle.message.specs.declared.record.What.{What}
use Rattle.message.specs.declared.record.What.TheVariants as did
use Rattle.message.specs.declared.place.Place.TheVariants.{Registry as TheRegistry}
use Rattle.stamp_order.specs.Records.{IsAmong}

-- it was a Launch that gave the next handle
pub record Gave {S : Type 0} (way : Way S) (r : Registry) (what : What) (r2 : Registry) : Type 0 where
  pub name : List ℕ
  pub args : List Datum
  pub handle : Handle
  pub state : S
  pub is : what ≡ did.Launch name args (Some handle)
  pub next : handle.0 ≡ length r.listed + 1
  pub begins : way.begins name handle ≡ Some state
  pub more : length r2.listed ≡ length r.listed + 1

-- it was none
pub record GaveNone (r : Registry) (what : What) (r2 : Registry) : Type 0 where
  pub none : (name : List ℕ) (args : List Datum) (h : Handle) → what ≢ did.Launch name args (Some h)
  pub same : length r2.listed ≡ length r.listed

abbrev pub Gives : {S : Type 0} → Way S → Registry → What × Registry → Type 0
Gives way r d = Gave way r d.0 d.1 ⊎ GaveNone r d.0 d.1

gives_by : {S : Type 0} (way : Way S) (r : Registry) (d d2 : What × Registry) → ◌≡◌ {A = Option (What × Registry)} (Some d) (Some d2) → Gives way r d → Gives way r d2
gives_by way r d d2 e h = let same : d ≡ d2 = cc in subst (Gives way r) same h

launch_gives : {S : Type 0} (way : Way S) (r : Registry) (text : List ℕ) (args : List Datum) → Gives way r (does_launch r text args (made way r text))
launch_gives {S = S} way r text args = go (nat_lt (length r.listed) most_handles) refl where
  at : (s : Option S) → way.begins text (next_handle r) ≡ s → Gives way r (does_launch r text args s)
  at None b = inr (record { none = λ n a h e. absurd (cc); same = refl })
  at (Some s) b = inl (record { name = text; args = args; handle = next_handle r; state = s; is = refl; next = refl; begins = b; more = length-append r.listed (true ∷ []) })

  go : (b : Bool) → nat_lt (length r.listed) most_handles ≡ b → Gives way r (does_launch r text args (if b then way.begins text (next_handle r) else None))
  go true e = at (way.begins text (next_handle r)) refl
  go false e = inr (record { none = λ n a h e2. absurd (cc); same = refl })

named_length : (r : Registry) (text : List ℕ) (h : Handle) (b : Bool) → length (if b then name r text h else r).listed ≡ length r.listed
named_length r text h true = refl
named_length r text h false = refl

retired_length : (r : Registry) (h : Handle) (b : Bool) → length (if b then retire r h else r).listed ≡ length r.listed
retired_length r h true = length-set r.listed _ false
retired_length r h false = refl

pub registry_gives : {S : Type 0} (way : Way S) (op : Op) (r : Registry) (d : What × Registry) → registry_does way op r ≡ Some d → Gives way r d
registry_gives way (Asks (ask.Look dest)) r d e = gives_by way r (does_look r dest) d e (inr (record { none = λ n a h k. absurd (cc); same = refl }))
registry_gives way (Asks (ask.Launch text args)) r d e = gives_by way r (does_launch r text args (made way r text)) d e (launch_gives way r text args)
registry_gives way (Asks (ask.Name text h)) r d e = gives_by way r (does_name r text h) d e (inr (record { none = λ n a g k. absurd (cc); same = named_length r text h (may_name r text h) }))
registry_gives way (Asks (ask.Retire h)) r d e = gives_by way r (does_retire r h) d e (inr (record { none = λ n a g k. absurd (cc); same = retired_length r h (may_retire r h) }))
registry_gives way (Asks (ask.Put to m)) r d e = absurd (cc)
registry_gives way (Asks (ask.Mark to)) r d e = absurd (cc)
registry_gives way (Asks (ask.Later n x)) r d e = absurd (cc)
registry_gives way (Asks ask.Now) r d e = absurd (cc)
registry_gives way Takes r d e = absurd (cc)
registry_gives way Ends r d e = absurd (cc)
registry_gives way Ticks r d e = absurd (cc)
registry_gives way (Fires h m) r d e = absurd (cc)

-- what was done there is d
pub with_inv : {X : Type 0} (f : X → PlaceState) (q : Option (What × X)) (d : What × PlaceState) → with_state f q ≡ Some d → (d2 : What × X) × (q ≡ Some d2) × ((d2.0, f d2.1) ≡ d)
with_inv f None d e = absurd (cc)
with_inv f (Some d2) d e = let same : (d2.0, f d2.1) ≡ d = cc in (d2, refl, same)

-- the state of the registry after an entry
pub record Registered {S : Type 0} (way : Way S) (r : Registry) (what : What) (q : PlaceState) : Type 0 where
  pub after : Registry
  pub is : q ≡ AtRegistry after
  pub gives : Gives way r (what, after)

pub registered : {S : Type 0} (way : Way S) (own : Handle) (op : Op) (r : Registry) (what : What) (q : PlaceState) → does way own op (AtRegistry r) ≡ Some (what, q) → Registered way r what q
registered way own op r what q can =
    let x = with_inv AtRegistry (registry_does way op r) (what, q) can in
    let what_is : x.0.0 ≡ what = ap (λ (z : What × PlaceState). z.0) x.2 in
    let q_is : AtRegistry x.0.1 ≡ q = ap (λ (z : What × PlaceState). z.1) x.2 in
    record { after = x.0.1; is = sym q_is; gives = subst (λ (z : What). Gives way r (z, x.0.1)) what_is (registry_gives way op r x.0 x.1) }

gave_is : {S : Type 0} (way : Way S) (r r2 : Registry) (what : What) (text : List ℕ) (args : List Datum) (h : Handle) → what ≡ did.Launch text args (Some h) → Gives way r (what, r2) → length r.listed < h.0
gave_is way r r2 what text args h is (inl g) = let same : g.handle ≡ h = cc (g.is, is) in omega (arith, g.next, ap (λ (z : Handle). z.0) same)
gave_is way r r2 what text args h is (inr g) = absurd (g.none text args h is)

no_fewer : {S : Type 0} (way : Way S) (r r2 : Registry) (what : What) → Gives way r (what, r2) → length r.listed ≤ length r2.listed
no_fewer way r r2 what (inl g) = omega (arith, g.more)
no_fewer way r r2 what (inr g) = omega (arith, g.same)

-- a handle that the registry's record gives was not there before
pub fresh : {S : Type 0} (way : Way S) (r : Registry) (es : List Entry) (e : Entry) (text : List ℕ) (args : List Datum) (h : Handle)
    → PlaceRuns way TheRegistry (AtRegistry r) es → IsAmong e es → e.what ≡ did.Launch text args (Some h) → length r.listed < h.0
fresh way r [] e text args h runs i is = absurd i
fresh {S = S} way r (x ∷ xs) e text args h runs i is = go (λ r2 runs2 j. fresh way r2 xs e text args h runs2 j is) i (registered way x.agent (op_of x.what) r x.what runs.0 runs.2) where
  go : ((r2 : Registry) → PlaceRuns way TheRegistry (AtRegistry r2) xs → IsAmong e xs → length r2.listed < h.0) → ((e ≡ x) ⊎ IsAmong e xs) → Registered way r x.what runs.0 → length r.listed < h.0
  go rec (inl p) g = gave_is way r g.after x.what text args h (sym (ap (λ (z : Entry). z.what) p) ∙ is) g.gives
  go rec (inr j) g =
      let later : length g.after.listed < h.0 = rec g.after (subst (λ q. PlaceRuns way TheRegistry q xs) g.is runs.3) j in
      omega (arith, later, no_fewer way r g.after x.what g.gives)
