-- What the registry's calls know, as its answers.
use Rattle.std.proofs.Common.{ℕ, ◌≡◌, ◌<◌, ◌+◌, ◌-◌, ◌&&◌, Bool, true, false, not, List, [], ◌∷◌, ◌++◌, map, length, Option, Some, None, if◌then◌else◌, ap, sym, ◌∙◌, subst, arith, length-append, length-set, nat_lt}
use Rattle.std.proofs.lemmas.Bool.Decides.{nat_tests}
use Rattle.std.specs.Prelude.{is_some, Vec}
use Rattle.std.specs.declared.alloc.Global.{Global}
use Rattle.std.specs.List.Sorted.{IsStrictlySortedBy}
use Rattle.std.specs.FinMap as names
use Rattle.std.specs.BTreeMap.{insert_entry, is_at}
use Rattle.std.specs.Map.{lookup}
use Rattle.sk_types.specs.declared.number.Handle.{Handle}
use Rattle.message.specs.Registries.{Registry, Names, is_listed, is_name, may_name, may_retire, does_name, does_retire, most_handles, set_at, name, retire}
use Rattle.handle_names.specs.Living.{Kept, shown, living, AllGiven, IsKept, Registers}
use Rattle.handle_names.proofs.Lookups.{R, keep, lookup_is, get_living, living_insert, living_less, living_more, given_more, given_insert, listed_given}

module _ (listed : List Bool) (es : List Kept) (kept : IsKept listed es) where
  found : (q key : List ℕ) (o : Option Handle) → key ≡ q → o ≡ lookup (is_at (λ k. R key k.items)) es → names.get (living listed es) q ≡ keep (λ x. is_listed listed x.0) o
  found q key o same is =
      let e : o ≡ names.find R q (map shown es) = is ∙ (lookup_is key es ∙ ap (λ k. names.find R k (map shown es)) same) in
      get_living listed es kept.ordered q ∙ ap (keep (λ x. is_listed listed x.0)) (sym e)

  pub found_listed : (q key : List ℕ) (h : Handle) → key ≡ q → Some h ≡ lookup (is_at (λ k. R key k.items)) es → true ≡ is_listed listed h.0 → Some h ≡ names.get (living listed es) q
  found_listed q key h same is on = sym (found q key (Some h) same is ∙ ap (λ b. if b then Some h else None) (sym on))

  pub found_dead : (q key : List ℕ) (h : Handle) → key ≡ q → Some h ≡ lookup (is_at (λ k. R key k.items)) es → false ≡ is_listed listed h.0 → None ≡ names.get (living listed es) q
  found_dead q key h same is off = sym (found q key (Some h) same is ∙ ap (λ b. if b then Some h else None) (sym off))

  pub found_none : (q key : List ℕ) → key ≡ q → None ≡ lookup (is_at (λ k. R key k.items)) es → None ≡ names.get (living listed es) q
  found_none q key same is = sym (found q key None same is)

  -- a name that may be given
  pub free : (text : List ℕ) (h : Handle) → true ≡ is_name text → true ≡ is_listed listed h.0 → false ≡ is_some (names.get (living listed es) text)
      → true ≡ may_name (record { listed = listed; named = living listed es }) text h
  free text h a b c = sym (ap (λ t. t && (not (is_some (names.get (living listed es) text)) && is_listed listed h.0)) (sym a) ∙ (ap (λ t. not t && is_listed listed h.0) (sym c) ∙ sym b))

  pub named : (text : List ℕ) (h : Handle) (k : Vec ℕ Global) (es2 : List Kept) → k.items ≡ text → true ≡ may_name (record { listed = listed; named = living listed es }) text h → true ≡ is_listed listed h.0
      → es2 ≡ insert_entry (λ (a b : Vec ℕ Global). R a.items b.items) es k h → IsStrictlySortedBy (λ (a b : Vec ℕ Global). R a.items b.items) (map (λ e. e.0) es2)
      → record { listed = listed; named = living listed es2 } ≡ (does_name (record { listed = listed; named = living listed es }) text h).1
  named text h k es2 bytes e on is s2 =
      let r : Registry = record { listed = listed; named = living listed es } in
      let F : Names → Registry = λ (n : Names). record { listed = listed; named = n } in
      ap F (living_insert listed es es2 k h (sym on) kept.ordered s2 is ∙ ap (λ t. names.insert (living listed es) t h) bytes) ∙ ap (λ b. if b then name r text h else r) e

  pub named_kept : (h : Handle) (k : Vec ℕ Global) (es2 : List Kept) → true ≡ is_listed listed h.0 → es2 ≡ insert_entry (λ (a b : Vec ℕ Global). R a.items b.items) es k h
      → IsStrictlySortedBy (λ (a b : Vec ℕ Global). R a.items b.items) (map (λ e. e.0) es2) → IsKept listed es2
  named_kept h k es2 on is s2 =
      let G : AllGiven (length listed) (insert_entry (λ (a b : Vec ℕ Global). R a.items b.items) es k h) = given_insert (length listed) k h es (listed_given listed h.0 (sym on)) kept.given in
      record { few = kept.few; ordered = s2; given = subst (AllGiven (length listed)) (sym is) G }

  pub registered : (n : ℕ) (listed2 : List Bool) → listed2 ≡ listed ++ true ∷ [] → n ≡ length listed + 1 → length listed < most_handles
      → Registers (record { listed = listed; named = living listed es }) (Some (record { 0 = n })) (record { listed = listed2; named = living listed2 es })
  registered n listed2 is count few =
      let H : ℕ → Handle = λ k. record { 0 = k } in
      let G : List Bool → Registry = λ (l : List Bool). record { listed = l; named = living l es } in
      let F : Names → Registry = λ (m : Names). record { listed = listed ++ true ∷ []; named = m } in
      (few, ap H count, ap G is ∙ ap F (living_more listed es kept.given))

  pub registered_kept : (listed2 : List Bool) → listed2 ≡ listed ++ true ∷ [] → length listed < most_handles → IsKept listed2 es
  registered_kept listed2 is few =
      let more : length listed2 ≡ length listed + 1 = ap length is ∙ length-append listed (true ∷ []) in
      record { few = omega arith; ordered = kept.ordered; given = given_more (length listed) (length listed2) es (omega arith) kept.given }

  pub retired : (h : Handle) → 2 < h.0 → true ≡ is_listed listed h.0
      → record { listed = set_at listed h.0 false; named = living (set_at listed h.0 false) es } ≡ (does_retire (record { listed = listed; named = living listed es }) h).1
  retired h big on =
      let r : Registry = record { listed = listed; named = living listed es } in
      let F : Names → Registry = λ (m : Names). record { listed = set_at listed h.0 false; named = m } in
      let above : nat_lt 2 h.0 ≡ true = grind (arith, nat_tests) in
      let may : true ≡ may_retire r h = sym (ap (λ b. b && nat_lt 2 h.0) (sym on) ∙ above) in
      ap F (living_less listed es h (omega arith) kept.ordered) ∙ ap (λ b. if b then retire r h else r) may

  pub retired_kept : (h : ℕ) → IsKept (set_at listed h false) es
  retired_kept h =
      let same : length (set_at listed h false) ≡ length listed = length-set listed (h - 1) false in
      record { few = omega (arith, kept.few); ordered = kept.ordered; given = subst (λ n. AllGiven n es) (sym same) kept.given }
