-- The machine keeps that each service is in a state that can be reached.
use Rattle.std.proofs.Common.{◌⊎◌, inl, inr, ◌≡◌, ℕ, ◌<◌, ◌≤◌, ◌-◌, ◌==◌, List, length, map, Option, Some, None, true, get_or, slice_set, [], ◌∷◌, ◌++◌, ◌+◌, refl, ap, sym, ◌∙◌, subst, arith, length-set, length-append}
use Rattle.std.proofs.lemmas.List.{map-set, map-append}
use Rattle.sk_types.specs.declared.number.Handle.{Handle}
use Rattle.std.specs.Prelude.{MatchOption}
use Rattle.message.specs.Actors.{Way, IsLawful, Begins}
use Rattle.message.specs.Registries.{Registry, at, set_at, most_handles}
use Rattle.message.specs.Worlds.{service_over}
use Rattle.message.specs.declared.place.Service.{Service}
use Rattle.message.specs.declared.place.Service.TheVariants.{Serving}
use Rattle.handle_names.specs.Living.{Registers}
use Rattle.world_machine.specs.Okay.{ServiceOk, KeepsOk}
use Rattle.world_machine.specs.Machines.{IsMachine}
use Rattle.world_machine.proofs.Asking.{seen}
use Rattle.world_machine.proofs.Lists.{at_set, at_push, at_is}
use Rattle.world_machine.specs.Opening.{first_handle, second_handle, start_handle}

pub handle_is : (g h : Handle) → g.0 ≡ h.0 → g ≡ h
handle_is g h e = let F : ℕ → Handle = λ k. record { 0 = k } in ap F e

-- one service is replaced by one that is as good
pub machine_set : {A M : Type 0} {k k2 : ℕ} (way : Way M) (sound : M → Type 0) (f : A → M) (services : List (Service A)) (n m : ℕ) (h : Handle) (before next : Service A)
    → IsMachine way sound (map (service_over f) services) n k → m ≡ n → 0 < h.0 → h.0 ≤ length services → before ≡ get_or services (h.0 - 1) before
    → KeepsOk way sound (service_over f before) (service_over f next) → k2 ≡ k
    → IsMachine way sound (map (service_over f) (slice_set services (h.0 - 1) next)) m k2
machine_set {A = A} {M = M} way sound f services n m h before next was same given within is keeps listed = record {
  paired = ap length lists ∙ (length-set all (h.0 - 1) (service_over f next) ∙ (was.paired ∙ sym same));
  registered = listed ∙ (was.registered ∙ sym same);
  okay = λ g x there. go g x (at_set all h.0 g.0 (service_over f next) x given (ap (λ l. at l g.0) (sym lists) ∙ there));
} where
  all : List (Service M)
  all = map (service_over f) services

  lists : map (service_over f) (slice_set services (h.0 - 1) next) ≡ set_at all h.0 (service_over f next)
  lists = map-set (service_over f) services (h.0 - 1) next

  here : ServiceOk way sound h (service_over f next)
  here = keeps h (was.okay h (service_over f before) (seen (service_over f) services h.0 before given is within))

  go : (g : Handle) (x : Service M) → (((g.0 ≡ h.0) × (x ≡ service_over f next)) ⊎ (at all g.0 ≡ Some x)) → ServiceOk way sound g x
  go g x (inl p) =
      let at_g : ServiceOk way sound g (service_over f next) = subst (λ k. ServiceOk way sound k (service_over f next)) (sym (handle_is g h p.0)) here in
      subst (ServiceOk way sound g) (sym p.1) at_g
  go g x (inr p) = was.okay g x p

-- one service more, under the next handle
pub machine_push : {A M : Type 0} {k2 : ℕ} (way : Way M) (sound : M → Type 0) (f : A → M) (services : List (Service A)) (n m k : ℕ) (h : Handle) (next : Service A) (more : List (Service A))
    → IsMachine way sound (map (service_over f) services) n k → more ≡ services ++ next ∷ [] → m ≡ n + 1 → k2 ≡ k + 1 → h.0 ≡ k + 1 → ServiceOk way sound h (service_over f next)
    → IsMachine way sound (map (service_over f) more) m k2
machine_push {A = A} {M = M} {k2 = k2} way sound f services n m k h next more was pushed inboxes listed named ok = record {
  paired = ap length lists ∙ (length-append all (service_over f next ∷ []) ∙ (ap (λ z. z + 1) was.paired ∙ sym inboxes));
  registered = listed ∙ (ap (λ z. z + 1) was.registered ∙ sym inboxes);
  okay = λ g x there. go g x (at_push all g.0 (service_over f next) x (ap (λ l. at l g.0) (sym lists) ∙ there));
} where
  all : List (Service M)
  all = map (service_over f) services

  lists : map (service_over f) more ≡ all ++ service_over f next ∷ []
  lists = ap (map (service_over f)) pushed ∙ map-append (service_over f) services (next ∷ [])

  place : h.0 ≡ length all + 1
  place = named ∙ ap (λ z. z + 1) (was.registered ∙ sym was.paired)

  go : (g : Handle) (x : Service M) → (((g.0 ≡ length all + 1) × (x ≡ service_over f next)) ⊎ (at all g.0 ≡ Some x)) → ServiceOk way sound g x
  go g x (inl p) =
      let at_g : ServiceOk way sound g (service_over f next) = subst (λ k3. ServiceOk way sound k3 (service_over f next)) (sym (handle_is g h (p.0 ∙ sym place))) ok in
      subst (ServiceOk way sound g) (sym p.1) at_g
  go g x (inr p) = was.okay g x p

pub registered_len : (r r2 : Registry) (found : Option Handle) → Registers r found r2 → length r.listed < most_handles → length r2.listed ≡ length r.listed + 1
registered_len r r2 None k few = let full = k.0 in absurd (omega (arith, full, few))
registered_len r r2 (Some h) k few = ap (λ (z : Registry). length z.listed) k.2 ∙ length-append r.listed (true ∷ [])

-- what the maker makes is in a state that can be reached, and has its handle
pub begun_ok : {A M : Type 0} (way : Way M) (sound : M → Type 0) (f : A → M) → IsLawful way sound → (name : List ℕ) (h : Handle) (q : Option A) (a b : A) → q ≡ Some a → b ≡ a
    → MatchOption q (way.begins name h ≡ None) (λ x. way.begins name h ≡ Some (f x)) → ServiceOk way sound h (Serving (f b))
begun_ok way sound f law name h None a b is same made = absurd (cc)
begun_ok way sound f law name h (Some x) a b is same made =
    let e : x ≡ a = cc in
    let new = law.begin name h (f x) made in
    let at_x : ServiceOk way sound h (Serving (f x)) = (new.is_sound, new.is_new.named) in
    subst (λ z. ServiceOk way sound h (Serving (f z))) (e ∙ sym same) at_x

pub begins_ok : {A M : Type 0} {h : Handle} (way : Way M) (sound : M → Type 0) (f : A → M) (a b : A) → Begins way sound h (f a) → b ≡ a → ServiceOk way sound h (Serving (f b))
begins_ok {h = h} way sound f a b new same =
    let at_a : ServiceOk way sound h (Serving (f a)) = (new.is_sound, new.is_new.named) in
    subst (λ z. ServiceOk way sound h (Serving (f z))) (sym same) at_a

no_services : {S : Type 0} (way : Way S) (sound : S → Type 0) → IsMachine way sound [] 0 0
no_services {S = S} way sound = record {
  paired = refl;
  registered = refl;
  okay = λ h x there. none h x (at_is [] h.0 x (h.0 == 0) refl there).1;
} where
  none : (h : Handle) (x : Service S) → ◌≡◌ {A = Option (Service S)} None (Some x) → ServiceOk way sound h x
  none h x e = absurd (cc)

-- the first three services
pub machine_three : {A M : Type 0} (way : Way M) (sound : M → Type 0) (f : A → M) (a b c : A) (l0 l1 l2 l3 : List (Service A)) (n k : ℕ)
    → l0 ≡ [] → l1 ≡ l0 ++ Serving a ∷ [] → l2 ≡ l1 ++ Serving b ∷ [] → l3 ≡ l2 ++ Serving c ∷ [] → n ≡ 3 → k ≡ 3
    → ServiceOk way sound first_handle (Serving (f a)) → ServiceOk way sound second_handle (Serving (f b)) → ServiceOk way sound start_handle (Serving (f c))
    → IsMachine way sound (map (service_over f) l3) n k
machine_three way sound f a b c l0 l1 l2 l3 n k none one two three inboxes given ok1 ok2 ok3 =
    let m0 : IsMachine way sound (map (service_over f) l0) 0 0 = subst (λ l. IsMachine way sound (map (service_over f) l) 0 0) (sym none) (no_services way sound) in
    let m1 : IsMachine way sound (map (service_over f) l1) 1 1 = machine_push way sound f l0 0 1 0 first_handle (Serving a) l1 m0 one refl refl refl ok1 in
    let m2 : IsMachine way sound (map (service_over f) l2) 2 2 = machine_push way sound f l1 1 2 1 second_handle (Serving b) l2 m1 two refl refl refl ok2 in
    machine_push way sound f l2 2 n 2 start_handle (Serving c) l3 m2 three inboxes given refl ok3
