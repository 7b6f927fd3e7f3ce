-- The services by their handles, as a list.
use Rattle.std.proofs.Common.{◌≡◌, ℕ, suc, ◌<◌, Bool, true, false, cond, List, [], ◌∷◌, ◌++◌, ◌+◌, length, map, take, get_or, Some, None, refl, sym, ap, subst, ◌∙◌, arith}
use Rattle.std.specs.declared.cmp.Ordering.{Ordering}
use Rattle.std.specs.declared.cmp.Ordering.TheVariants.{Greater}
use Rattle.std.specs.Ordering.{nat_cmp, match_ordering, is_eq, is_lt}
use Rattle.std.specs.Cmp.{nat_cmp_is}
use Rattle.std.specs.Prelude.{◌==◌, All}
use Rattle.std.specs.Map.{lookup, remove_entry, keys_of}
use Rattle.std.specs.BTreeMap.{insert_entry, is_at}
use Rattle.std.proofs.lemmas.Bool.Decides.{nat_tests}
use Rattle.std.proofs.lemmas.List.{append-nil, append_assoc, map_push, take_more}
use Rattle.sk_types.specs.declared.number.Handle.{Handle}
use Rattle.message.specs.declared.datum.Datum.{Datum}
use Rattle.launcher.specs.declared.desk.Service.{Service}
use Rattle.launcher.specs.Rows.{without, is_service, entry}
use Rattle.launcher.specs.Listed.{services_in, AllBelow}

abbrev pub handle_cmp : Handle → Handle → Ordering
handle_cmp a b = nat_cmp a.0 b.0

-- a service of a greater handle is the last
pub listed_last : (h : Handle) (name : List ℕ) (es : List (Handle × List ℕ)) → AllBelow h es → services_in (insert_entry handle_cmp es h name) ≡ services_in es ++ record { handle = h; name = name } ∷ []
listed_last h name [] b = refl
listed_last h name (e ∷ es) b =
    subst (λ o. services_in (match_ordering o ((h, name) ∷ e ∷ es) ((e.0, name) ∷ es) (e ∷ insert_entry handle_cmp es h name)) ≡ services_in (e ∷ es) ++ record { handle = h; name = name } ∷ []) (nat_cmp_is h.0 e.0.0 Greater b.0) (ap (λ (l : List Service). record { handle = e.0; name = e.1 } ∷ l) (listed_last h name es b.1))

pub same_test : (a b : ℕ) → is_eq (nat_cmp a b) ≡ (b == a)
same_test a b = grind (arith, nat_tests)

removed_head : (h : Handle) (v : List ℕ) (e : Handle × List ℕ) (es : List (Handle × List ℕ)) (late : List Service) (b : Bool) → cond b (Some e.1) (lookup (is_at (handle_cmp h)) es) ≡ Some v → (lookup (is_at (handle_cmp h)) es ≡ Some v → services_in (remove_entry (is_at (handle_cmp h)) es) ++ late ≡ without (is_service h) (services_in es ++ late)) → services_in (cond b es (e ∷ remove_entry (is_at (handle_cmp h)) es)) ++ late ≡ cond b (services_in es ++ late) (record { handle = e.0; name = e.1 } ∷ without (is_service h) (services_in es ++ late))
removed_head h v e es late true f ih = refl
removed_head h v e es late false f ih = ap (λ (l : List Service). record { handle = e.0; name = e.1 } ∷ l) (ih f)

-- a service that is there is taken out
pub removed : (h : Handle) (v : List ℕ) (es : List (Handle × List ℕ)) (late : List Service) → lookup (is_at (handle_cmp h)) es ≡ Some v → services_in (remove_entry (is_at (handle_cmp h)) es) ++ late ≡ without (is_service h) (services_in es ++ late)
removed h v [] late f = absurd (cc)
removed h v (e ∷ es) late f =
    subst (λ b. services_in (remove_entry (is_at (handle_cmp h)) (e ∷ es)) ++ late ≡ cond b (services_in es ++ late) (record { handle = e.0; name = e.1 } ∷ without (is_service h) (services_in es ++ late))) (same_test h.0 e.0.0) (removed_head h v e es late (is_eq (nat_cmp h.0 e.0.0)) f (removed h v es late))

missed_head : (h : Handle) (e : Handle × List ℕ) (es : List (Handle × List ℕ)) (late : List Service) (b : Bool) → cond b (Some e.1) (lookup (is_at (handle_cmp h)) es) ≡ None → (lookup (is_at (handle_cmp h)) es ≡ None → services_in es ++ without (is_service h) late ≡ without (is_service h) (services_in es ++ late)) → record { handle = e.0; name = e.1 } ∷ (services_in es ++ without (is_service h) late) ≡ cond b (services_in es ++ late) (record { handle = e.0; name = e.1 } ∷ without (is_service h) (services_in es ++ late))
missed_head h e es late true f ih = absurd (cc)
missed_head h e es late false f ih = ap (λ (l : List Service). record { handle = e.0; name = e.1 } ∷ l) (ih f)

-- where it is not, the first of the late ones is
pub missed : (h : Handle) (es : List (Handle × List ℕ)) (late : List Service) → lookup (is_at (handle_cmp h)) es ≡ None → services_in es ++ without (is_service h) late ≡ without (is_service h) (services_in es ++ late)
missed h [] late f = refl
missed h (e ∷ es) late f =
    subst (λ b. record { handle = e.0; name = e.1 } ∷ (services_in es ++ without (is_service h) late) ≡ cond b (services_in es ++ late) (record { handle = e.0; name = e.1 } ∷ without (is_service h) (services_in es ++ late))) (same_test h.0 e.0.0) (missed_head h e es late (is_eq (nat_cmp h.0 e.0.0)) f (missed h es late))

-- a service that comes last, where none is late
pub pushed : (h : Handle) (name : List ℕ) (es : List (Handle × List ℕ)) (late : List Service) → late ≡ [] → AllBelow h es → services_in (insert_entry handle_cmp es h name) ++ late ≡ (services_in es ++ late) ++ record { handle = h; name = name } ∷ []
pushed h name es late none b =
    let one : Service = record { handle = h; name = name } in
    subst (λ (l : List Service). services_in (insert_entry handle_cmp es h name) ++ l ≡ (services_in es ++ l) ++ one ∷ []) (sym none) (append-nil (services_in (insert_entry handle_cmp es h name)) ∙ listed_last h name es b ∙ ap (λ (l : List Service). l ++ one ∷ []) (sym (append-nil (services_in es))))

not_above : (a b c : ℕ) → is_lt (nat_cmp a b) ≡ false → a < c → b < c
not_above a b c h l = grind (arith, nat_tests)

pub below_last : {X : Type 0} (last h : Handle) (es : List (Handle × X)) → All (λ q. is_lt (handle_cmp last q) ≡ false) (keys_of es) → last.0 < h.0 → AllBelow h es
below_last last h [] a l = tt
below_last last h (e ∷ es) a l = (not_above last.0 e.0.0 h.0 (a 0 e.0 (omega arith)) l, below_last last h es (λ k d i. a (suc k) d (omega (arith, i))) l)

-- ENTRIES

more_entries : (ps qs : List (Datum × Datum)) (x e : Datum × Datum) (rest total : List (Datum × Datum)) → x ≡ e → qs ≡ ps ++ x ∷ [] → ps ++ e ∷ rest ≡ total → qs ++ rest ≡ total
more_entries ps qs x e rest total is more so =
    ap (λ (l : List (Datum × Datum)). l ++ rest) (more ∙ ap (λ (z : Datum × Datum). ps ++ z ∷ []) is) ∙ append_assoc ps (e ∷ []) rest ∙ so

-- the entries of the services that are left follow those so far
pub entry_by_handle : (ps qs : List (Datum × Datum)) (x : Datum × Datum) (h : Handle) (name : List ℕ) (es fs : List (Handle × List ℕ)) (total : List (Datum × Datum)) → es ≡ (h, name) ∷ fs → x ≡ entry (record { handle = h; name = name }) → qs ≡ ps ++ x ∷ [] → ps ++ map entry (services_in es) ≡ total → qs ++ map entry (services_in fs) ≡ total
entry_by_handle ps qs x h name es fs total step is more so =
    more_entries ps qs x (entry (record { handle = h; name = name })) (map entry (services_in fs)) total is more (subst (λ (l : List (Handle × List ℕ)). ps ++ map entry (services_in l) ≡ total) step so)

pub entry_late : (first ps qs : List (Datum × Datum)) (x : Datum × Datum) (late : List Service) (i : ℕ) (s : Service) → i < length late → s ≡ get_or late i s → x ≡ entry s → qs ≡ ps ++ x ∷ [] → ps ≡ first ++ map entry (take i late) → qs ≡ first ++ map entry (take (i + 1) late)
entry_late first ps qs x late i s h at is more so =
    let last : map entry (take (i + 1) late) ≡ map entry (take i late) ++ entry s ∷ [] = rw (take_more late i s h, ← at) (map_push entry (take i late) s) in
    more
    ∙ ap (λ (l : List (Datum × Datum)). l ++ x ∷ []) so
    ∙ ap (λ (z : Datum × Datum). (first ++ map entry (take i late)) ++ z ∷ []) is
    ∙ append_assoc first (map entry (take i late)) (entry s ∷ [])
    ∙ ap (λ (l : List (Datum × Datum)). first ++ l) (sym last)
