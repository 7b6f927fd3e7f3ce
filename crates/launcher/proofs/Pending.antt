-- The pending launches by their handles, before the other requests.
use Rattle.std.proofs.Common.{◌≡◌, ◌||◌, Bool, true, false, cond, List, [], ◌∷◌, ◌++◌, Option, Some, None, find, refl, sym, ap, subst, ◌∙◌}
use Rattle.std.specs.declared.cmp.Ordering.TheVariants.{Greater}
use Rattle.std.specs.Ordering.{nat_cmp, match_ordering, is_eq}
use Rattle.std.specs.Cmp.{nat_cmp_is}
use Rattle.std.specs.Option.{option_map}
use Rattle.std.specs.List.{list_any, remove}
use Rattle.std.specs.Map.{lookup, remove_entry}
use Rattle.std.specs.BTreeMap.{insert_entry, is_at}
use Rattle.std.proofs.lemmas.List.{append_assoc}
use Rattle.sk_types.specs.declared.number.Handle.{Handle}
use Rattle.message.specs.declared.request.Held.{Held}
use Rattle.launcher.specs.declared.desk.Role.TheVariants.{Served, Pending}
use Rattle.launcher.specs.declared.desk.Taken.{Taken}
use Rattle.launcher.specs.Rows.{without, at_first, is_served, is_pending, held}
use Rattle.launcher.specs.Listed.{pending_in, AllBelow, StartsServed}
use Rattle.launcher.proofs.Listed.{handle_cmp, same_test}

abbrev one : Handle × Held → Taken
one e = record { role = Pending e.0; held = e.1 }

abbrev held_by : Option Taken → Option Held
held_by o = option_map (λ (t : Taken). t.held) o

-- SERVED

pub find_served : (es : List (Handle × Held)) (os : List Taken) → find is_served (pending_in es ++ os) ≡ find is_served os
find_served [] os = refl
find_served (e ∷ es) os = find_served es os

pub without_served : (es : List (Handle × Held)) (os : List Taken) → without is_served (pending_in es ++ os) ≡ pending_in es ++ without is_served os
without_served [] os = refl
without_served (e ∷ es) os = ap (λ (l : List Taken). one e ∷ l) (without_served es os)

pub pends_later : (f : Taken → Taken) (es : List (Handle × Held)) (os : List Taken) → at_first is_served f (pending_in es ++ os) ≡ pending_in es ++ at_first is_served f os
pends_later f [] os = refl
pends_later f (e ∷ es) os = ap (λ (l : List Taken). one e ∷ l) (pends_later f es os)

-- a launch of a greater handle is the last that is pending
listed_last : (h : Handle) (x : Held) (es : List (Handle × Held)) → AllBelow h es → pending_in (insert_entry handle_cmp es h x) ≡ pending_in es ++ one (h, x) ∷ []
listed_last h x [] b = refl
listed_last h x (e ∷ es) b =
    subst (λ o. pending_in (match_ordering o ((h, x) ∷ e ∷ es) ((e.0, x) ∷ es) (e ∷ insert_entry handle_cmp es h x)) ≡ pending_in (e ∷ es) ++ one (h, x) ∷ []) (nat_cmp_is h.0 e.0.0 Greater b.0) (ap (λ (l : List Taken). one e ∷ l) (listed_last h x es b.1))

pub pends_last : (h : Handle) (x : Held) (es : List (Handle × Held)) (os : List Taken) → AllBelow h es → StartsServed x os → pending_in (insert_entry handle_cmp es h x) ++ remove os 0 ≡ at_first is_served (λ t. record { role = Pending h; held = t.held }) (pending_in es ++ os)
pends_last h x es [] b s = absurd s
pends_last h x es (t ∷ os) b s =
    let f : Taken → Taken = λ (t : Taken). record { role = Pending h; held = t.held } in
    subst (λ (t : Taken). pending_in (insert_entry handle_cmp es h x) ++ os ≡ at_first is_served f (pending_in es ++ t ∷ os)) (sym s)
    (ap (λ (l : List Taken). l ++ os) (listed_last h x es b) ∙ append_assoc (pending_in es) (one (h, x) ∷ []) os ∙ sym (pends_later f es (record { role = Served; held = x } ∷ os)))

-- PENDING

module _ (h : Handle) where
  abbrev lookup_h : List (Handle × Held) → Option Held
  lookup_h es = lookup (is_at (handle_cmp h)) es

  found_head : (x : Held) (e : Handle × Held) (es : List (Handle × Held)) (os : List Taken) (b : Bool) → cond b (Some e.1) (lookup_h es) ≡ Some x → (lookup_h es ≡ Some x → held_by (find (is_pending h) (pending_in es ++ os)) ≡ Some x) → held_by (cond b (Some (one e)) (find (is_pending h) (pending_in es ++ os))) ≡ Some x
  found_head x e es os true f ih = f
  found_head x e es os false f ih = ih f

  pub found : (x : Held) (es : List (Handle × Held)) (os : List Taken) → lookup_h es ≡ Some x → held_by (find (is_pending h) (pending_in es ++ os)) ≡ Some x
  found x [] os f = absurd (cc)
  found x (e ∷ es) os f =
      subst (λ b. held_by (cond b (Some (one e)) (find (is_pending h) (pending_in es ++ os))) ≡ Some x) (same_test h.0 e.0.0) (found_head x e es os (is_eq (nat_cmp h.0 e.0.0)) f (found x es os))

  removed_head : (x : Held) (e : Handle × Held) (es : List (Handle × Held)) (os : List Taken) (b : Bool) → cond b (Some e.1) (lookup_h es) ≡ Some x → (lookup_h es ≡ Some x → pending_in (remove_entry (is_at (handle_cmp h)) es) ++ os ≡ without (is_pending h) (pending_in es ++ os)) → pending_in (cond b es (e ∷ remove_entry (is_at (handle_cmp h)) es)) ++ os ≡ cond b (pending_in es ++ os) (one e ∷ without (is_pending h) (pending_in es ++ os))
  removed_head x e es os true f ih = refl
  removed_head x e es os false f ih = ap (λ (l : List Taken). one e ∷ l) (ih f)

  pub removed : (x : Held) (es : List (Handle × Held)) (os : List Taken) → lookup_h es ≡ Some x → pending_in (remove_entry (is_at (handle_cmp h)) es) ++ os ≡ without (is_pending h) (pending_in es ++ os)
  removed x [] os f = absurd (cc)
  removed x (e ∷ es) os f =
      subst (λ b. pending_in (remove_entry (is_at (handle_cmp h)) (e ∷ es)) ++ os ≡ cond b (pending_in es ++ os) (one e ∷ without (is_pending h) (pending_in es ++ os))) (same_test h.0 e.0.0) (removed_head x e es os (is_eq (nat_cmp h.0 e.0.0)) f (removed x es os))

  missed_head : (e : Handle × Held) (es : List (Handle × Held)) (os : List Taken) (b : Bool) → cond b (Some e.1) (lookup_h es) ≡ None → (lookup_h es ≡ None → find (is_pending h) (pending_in es ++ os) ≡ find (is_pending h) os) → cond b (Some (one e)) (find (is_pending h) (pending_in es ++ os)) ≡ find (is_pending h) os
  missed_head e es os true f ih = absurd (cc)
  missed_head e es os false f ih = ih f

  pub missed : (es : List (Handle × Held)) (os : List Taken) → lookup_h es ≡ None → find (is_pending h) (pending_in es ++ os) ≡ find (is_pending h) os
  missed [] os f = refl
  missed (e ∷ es) os f =
      subst (λ b. cond b (Some (one e)) (find (is_pending h) (pending_in es ++ os)) ≡ find (is_pending h) os) (same_test h.0 e.0.0) (missed_head e es os (is_eq (nat_cmp h.0 e.0.0)) f (missed es os))

  kept_head : (e : Handle × Held) (es : List (Handle × Held)) (os : List Taken) (b : Bool) → cond b (Some e.1) (lookup_h es) ≡ None → (lookup_h es ≡ None → pending_in es ++ without (is_pending h) os ≡ without (is_pending h) (pending_in es ++ os)) → one e ∷ (pending_in es ++ without (is_pending h) os) ≡ cond b (pending_in es ++ os) (one e ∷ without (is_pending h) (pending_in es ++ os))
  kept_head e es os true f ih = absurd (cc)
  kept_head e es os false f ih = ap (λ (l : List Taken). one e ∷ l) (ih f)

  pub kept : (es : List (Handle × Held)) (os : List Taken) → lookup_h es ≡ None → pending_in es ++ without (is_pending h) os ≡ without (is_pending h) (pending_in es ++ os)
  kept [] os f = refl
  kept (e ∷ es) os f =
      subst (λ b. one e ∷ (pending_in es ++ without (is_pending h) os) ≡ cond b (pending_in es ++ os) (one e ∷ without (is_pending h) (pending_in es ++ os))) (same_test h.0 e.0.0) (kept_head e es os (is_eq (nat_cmp h.0 e.0.0)) f (kept es os))

-- ALL OF THEM

any_head : (b c d e : Bool) → e ≡ (c || d) → (b || e) ≡ ((b || c) || d)
any_head true c d e ih = refl
any_head false c d e ih = ih

pub any_of_both : (f : Taken → Bool) (ts os : List Taken) → list_any f (ts ++ os) ≡ (list_any f ts || list_any f os)
any_of_both f [] os = refl
any_of_both f (t ∷ ts) os = any_head (f t) (list_any f ts) (list_any f os) (list_any f (ts ++ os)) (any_of_both f ts os)

pub held_of_both : (ts os : List Taken) → held (ts ++ os) ≡ held ts ++ held os
held_of_both [] os = refl
held_of_both (t ∷ ts) os = ap (λ (l : List Held). t.held ∷ l) (held_of_both ts os)
