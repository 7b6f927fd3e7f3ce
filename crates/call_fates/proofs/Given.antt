-- Handles that a world speaks of were given: those that names lead to, that services know, and that they ask a Mark of.
use Rattle.std.proofs.Common.{ℕ, ◌≡◌, ◌<◌, ◌≤◌, ◌==◌, ◌&&◌, Bool, true, false, not, cond, List, [], ◌∷◌, length, Option, Some, None, if◌then◌else◌, refl, ap, sym, ◌∙◌, subst, arith}
use Rattle.std.specs.Prelude.{unwrap_or}
use Rattle.std.specs.List.{filter}
use Rattle.std.specs.Ordering.{nat_cmp, eq_by_cmp}
use Rattle.std.specs.declared.cmp.Ordering.{Ordering}
use Rattle.std.specs.declared.cmp.Ordering.TheVariants.{Less, Equal, Greater}
use Rattle.std.specs.Cmp.{IsTotalOrder}
use Rattle.std.specs.Cmp.Lexicographic.{slice_cmp, nat_list_cmp_total}
use Rattle.std.specs.FinMap as names
use Rattle.std.specs.FinMap.Entries.{put, by_order}
use Rattle.message.specs.Actors.{Way}
use Rattle.message.specs.Registries.{Registry, Names, at, is_listed, look, does_look, does_launch, does_name, does_retire, may_name, may_retire, name, retire, without}
use Rattle.message.specs.Steps.{Op, Asks, Takes, Ends, Ticks, Fires, registry_does, made}
use Rattle.sk_types.specs.declared.number.Handle.{Handle}
use Rattle.message.specs.declared.datum.Datum.{Datum}
use Rattle.message.specs.declared.request.Dest.{Dest}
use Rattle.message.specs.declared.request.Dest.TheVariants.{Number, Name}
use Rattle.message.specs.declared.request.Request.TheVariants as ask
use Rattle.message.specs.declared.record.What.{What}
use Rattle.message.specs.declared.record.What.TheVariants as did
use Rattle.call_fates.proofs.Sessions.{and_first, and_second}
use Rattle.call_fates.proofs.Lists.{at_is, at_within}

-- one of the n handles that were given
pub record IsGiven (n : ℕ) (h : Handle) : Type 0 where
  pub above : 0 < h.0
  pub within : h.0 ≤ n

pub given_more : (n m : ℕ) (h : Handle) → n ≤ m → IsGiven n h → IsGiven m h
given_more n m h le g = let w = g.within in record { above = g.above; within = omega (arith, w, le) }

pub given_at : {X : Type 0} (xs : List X) (h : Handle) (x : X) → at xs h.0 ≡ Some x → IsGiven (length xs) h
given_at xs h x e = record { above = (at_is xs h.0 x e).0; within = at_within xs h.0 x e }

-- a listed handle was given
pub listed_at : (listed : List Bool) (n : ℕ) → is_listed listed n ≡ true → at listed n ≡ Some true
listed_at listed n e = go (at listed n) refl e where
  go : (q : Option Bool) → at listed n ≡ q → unwrap_or q false ≡ true → at listed n ≡ Some true
  go None eq k = absurd (cc)
  go (Some b) eq k = eq ∙ ap Some k

pub given_listed : (listed : List Bool) (h : Handle) → is_listed listed h.0 ≡ true → IsGiven (length listed) h
given_listed listed h e = given_at listed h true (listed_at listed h.0 e)

-- NAMES

abbrev Entries : Type 0
Entries = List (List ℕ × Handle)

abbrev R : List ℕ → List ℕ → Ordering
R = slice_cmp nat_cmp

total : IsTotalOrder R
total = nat_list_cmp_total

-- each of the entries leads to a given handle
abbrev Lead : ℕ → Entries → Type 0
Lead n [] = Unit {0}
Lead n (e ∷ es) = IsGiven n e.1 × Lead n es

lead_more : (n m : ℕ) → n ≤ m → (es : Entries) → Lead n es → Lead m es
lead_more n m le [] all = tt
lead_more n m le (e ∷ es) all = (given_more n m e.1 le all.0, lead_more n m le es all.1)

lead_find : (n : ℕ) (q : List ℕ) (h : Handle) (es : Entries) → Lead n es → names.find R q es ≡ Some h → IsGiven n h
lead_find n q h [] all e = absurd (cc)
lead_find n q h (x ∷ es) all e = go (eq_by_cmp R q x.0) (lead_find n q h es all.1) e where
  go : (b : Bool) → (names.find R q es ≡ Some h → IsGiven n h) → cond b (Some x.1) (names.find R q es) ≡ Some h → IsGiven n h
  go true rec k = let same : x.1 ≡ h = cc in subst (IsGiven n) same all.0
  go false rec k = rec k

lead_filter : (n : ℕ) (p : List ℕ × Handle → Bool) (es : Entries) → Lead n es → Lead n (filter p es)
lead_filter n p [] all = tt
lead_filter n p (e ∷ es) all = go (p e) (lead_filter n p es all.1) where
  go : (b : Bool) → Lead n (filter p es) → Lead n (cond b (e ∷ filter p es) (filter p es))
  go true rec = (all.0, rec)
  go false rec = rec

lead_put : (n : ℕ) (k : List ℕ) (h : Handle) (es : Entries) → IsGiven n h → Lead n es → Lead n (put R k h es)
lead_put n k h [] g all = (g, tt)
lead_put n k h (e ∷ es) g all = go (R k e.0) (lead_put n k h es g all.1) where
  go : (o : Ordering) → Lead n (put R k h es) → Lead n (by_order o ((k, h) ∷ e ∷ es) ((e.0, h) ∷ es) (e ∷ put R k h es))
  go Less rec = (g, all)
  go Equal rec = (g, all.1)
  go Greater rec = (all.0, rec)

no_entries : (es : Entries) → length es ≡ 0 → es ≡ []
no_entries [] e = refl
no_entries (x ∷ es) e = absurd (omega (arith, e))

entries_empty : names.entries (names.empty {X = Handle} {R = R}) ≡ []
entries_empty = no_entries (names.entries (names.empty {X = Handle} {R = R})) (sym (names.len-entries names.empty) ∙ names.len-empty R Handle)

lead_insert : (n : ℕ) (m : Names) (k : List ℕ) (h : Handle) → IsGiven n h → Lead n (names.entries m) → Lead n (names.entries (names.insert m k h))
lead_insert n m k h g all = subst (Lead n) (sym (names.entries-insert total m k h)) (lead_put n k h (names.entries m) g all)

lead_from : (n : ℕ) (es : Entries) → Lead n es → Lead n (names.entries (names.from_entries {R = R} es))
lead_from n [] all = subst (Lead n) (sym entries_empty) tt
lead_from n (e ∷ es) all = lead_insert n (names.from_entries es) e.0 e.1 all.0 (lead_from n es all.1)

-- names lead to given handles
pub record NamesGiven (n : ℕ) (m : Names) : Type 0 where
  pub each : Lead n (names.entries m)

pub names_more : (n k : ℕ) (m : Names) → n ≤ k → NamesGiven n m → NamesGiven k m
names_more n k m le g = record { each = lead_more n k le (names.entries m) g.each }

pub names_from : (n : ℕ) (es : Entries) → Lead n es → NamesGiven n (names.from_entries es)
names_from n es all = record { each = lead_from n es all }

pub name_given : (n : ℕ) (m : Names) (text : List ℕ) (h : Handle) → NamesGiven n m → names.get m text ≡ Some h → IsGiven n h
name_given n m text h g e = lead_find n text h (names.entries m) g.each (sym (names.get-entries m text) ∙ e)

names_inserted : (n : ℕ) (m : Names) (text : List ℕ) (h : Handle) → NamesGiven n m → IsGiven n h → NamesGiven n (names.insert m text h)
names_inserted n m text h g k = record { each = lead_insert n m text h k g.each }

names_without : (n : ℕ) (m : Names) (h : Handle) → NamesGiven n m → NamesGiven n (without h m)
names_without n m h g = record { each = lead_from n (filter (λ e. not (e.1.0 == h.0)) (names.entries m)) (lead_filter n (λ e. not (e.1.0 == h.0)) (names.entries m) g.each) }

-- THE REGISTRY

-- what a Look finds was given
pub look_given : (r : Registry) (d : Dest) (h : Handle) → NamesGiven (length r.listed) r.named → look r d ≡ Some h → IsGiven (length r.listed) h
look_given r (Number n) h g e = go (is_listed r.listed n) refl e where
  go : (b : Bool) → is_listed r.listed n ≡ b → (if b then Some (record { 0 = n }) else None) ≡ Some h → IsGiven (length r.listed) h
  go true eq k =
      let N : Handle = record { 0 = n } in
      let same : N ≡ h = cc in
      subst (IsGiven (length r.listed)) same (given_listed r.listed (record { 0 = n }) eq)
  go false eq k = absurd (cc)
look_given r (Name t) h g e = name_given (length r.listed) r.named t h g e

pub may_name_listed : (r : Registry) (text : List ℕ) (h : Handle) → may_name r text h ≡ true → is_listed r.listed h.0 ≡ true
may_name_listed r text h e = and_second (not (names.contains_key r.named text)) (is_listed r.listed h.0) (and_second _ (not (names.contains_key r.named text) && is_listed r.listed h.0) e)

pub may_retire_listed : (r : Registry) (h : Handle) → may_retire r h ≡ true → is_listed r.listed h.0 ≡ true
may_retire_listed r h e = and_first (is_listed r.listed h.0) _ e

named_after : (r : Registry) (text : List ℕ) (h : Handle) (b : Bool) → may_name r text h ≡ b → NamesGiven (length r.listed) r.named → NamesGiven (length r.listed) (if b then name r text h else r).named
named_after r text h true e g = names_inserted (length r.listed) r.named text h g (given_listed r.listed h (may_name_listed r text h e))
named_after r text h false e g = g

retired_after : (r : Registry) (h : Handle) (b : Bool) → NamesGiven (length r.listed) r.named → NamesGiven (length r.listed) (if b then retire r h else r).named
retired_after r h true g = names_without (length r.listed) r.named h g
retired_after r h false g = g

launched_after : {S : Type 0} (r : Registry) (text : List ℕ) (args : List Datum) (q : Option S) → NamesGiven (length r.listed) r.named → NamesGiven (length r.listed) (does_launch r text args q).1.named
launched_after r text args None g = g
launched_after r text args (Some s) g = g

names_by : (n : ℕ) (d : What × Registry) (what : What) (r2 : Registry) → ◌≡◌ {A = Option (What × Registry)} (Some d) (Some (what, r2)) → NamesGiven n d.1.named → NamesGiven n r2.named
names_by n d what r2 e g = let same : d ≡ (what, r2) = cc in subst (λ (z : What × Registry). NamesGiven n z.1.named) same g

-- what is done at the registry leaves names that lead to given handles
pub names_after : {S : Type 0} (way : Way S) (op : Op) (r : Registry) (what : What) (r2 : Registry) → registry_does way op r ≡ Some (what, r2) → NamesGiven (length r.listed) r.named → NamesGiven (length r.listed) r2.named
names_after way (Asks (ask.Look dest)) r what r2 e g = names_by (length r.listed) (does_look r dest) what r2 e g
names_after way (Asks (ask.Launch text args)) r what r2 e g = names_by (length r.listed) (does_launch r text args (made way r text)) what r2 e (launched_after r text args (made way r text) g)
names_after way (Asks (ask.Name text h)) r what r2 e g = names_by (length r.listed) (does_name r text h) what r2 e (named_after r text h (may_name r text h) refl g)
names_after way (Asks (ask.Retire h)) r what r2 e g = names_by (length r.listed) (does_retire r h) what r2 e (retired_after r h (may_retire r h) g)
names_after way (Asks (ask.Put to m)) r what r2 e g = absurd (cc)
names_after way (Asks (ask.Mark to)) r what r2 e g = absurd (cc)
names_after way (Asks (ask.Later n x)) r what r2 e g = absurd (cc)
names_after way (Asks ask.Now) r what r2 e g = absurd (cc)
names_after way Takes r what r2 e g = absurd (cc)
names_after way Ends r what r2 e g = absurd (cc)
names_after way Ticks r what r2 e g = absurd (cc)
names_after way (Fires h m) r what r2 e g = absurd (cc)

-- what the registry answered
abbrev found_in : What → Option Handle
found_in (did.Look d found) = found
found_in _ = None

abbrev flag_in : What → Bool
flag_in (did.Retire h b) = b
flag_in _ = false

answer_is : {X : Type 0} (f : What → X) (d d2 : What × Registry) → ◌≡◌ {A = Option (What × Registry)} (Some d) (Some d2) → f d.0 ≡ f d2.0
answer_is f d d2 e = let same : d ≡ d2 = cc in ap (λ (z : What × Registry). f z.0) same

pub looked : {S : Type 0} (way : Way S) (r r2 : Registry) (d : Dest) (found : Option Handle) → registry_does way (Asks (ask.Look d)) r ≡ Some (did.Look d found, r2) → look r d ≡ found
looked way r r2 d found e = answer_is found_in (does_look r d) (did.Look d found, r2) e

pub retired_true : {S : Type 0} (way : Way S) (r r2 : Registry) (h : Handle) (b : Bool) → registry_does way (Asks (ask.Retire h)) r ≡ Some (did.Retire h b, r2) → may_retire r h ≡ b
retired_true way r r2 h b e = answer_is flag_in (does_retire r h) (did.Retire h b, r2) e
