-- Names are found by their bytes, where their handles are listed.
use Rattle.std.proofs.Common.{ℕ, zero, suc, ◌≡◌, ◌<◌, ◌≤◌, ◌-◌, ◌==◌, ◌&&◌, Bool, true, false, not, cond, List, [], ◌∷◌, ◌++◌, map, length, Option, Some, None, if◌then◌else◌, slice_get, slice_set, refl, ap, sym, ◌∙◌, arith}
use Rattle.std.proofs.lemmas.Bool.Decides.{nat_tests}
use Rattle.std.specs.Prelude.{unwrap_or, Vec, T}
use Rattle.std.specs.List.{filter, AllByRecursion}
use Rattle.std.specs.declared.alloc.Global.{Global}
use Rattle.std.specs.List.Sorted.{IsStrictlySortedBy}
use Rattle.std.specs.Ordering.{nat_cmp, eq_by_cmp, is_eq, is_lt, match_ordering}
use Rattle.std.specs.declared.cmp.Ordering.{Ordering}
use Rattle.std.specs.declared.cmp.Ordering.TheVariants.{Less, Equal, Greater}
use Rattle.std.specs.Cmp.{IsTotalOrder}
use Rattle.std.specs.Cmp.Lexicographic.{slice_cmp, nat_list_cmp_total}
use Rattle.std.specs.FinMap as names
use Rattle.std.specs.FinMap.Entries.{put, find-put, below_all, by_order}
use Rattle.std.specs.BTreeMap.{insert_entry, is_at}
use Rattle.std.specs.Map.{lookup}
use Rattle.sk_types.specs.declared.number.Handle.{Handle}
use Rattle.message.specs.Registries.{Names, is_listed, set_at, without}
use Rattle.handle_names.specs.Living.{Kept, shown, living, AllGiven}

abbrev pub R : List ℕ → List ℕ → Ordering
R = slice_cmp nat_cmp

abbrev Entries : Type 0
Entries = List (List ℕ × Handle)

-- the map's own look-up finds by bytes
pub lookup_is : (q : List ℕ) (es : List Kept) → lookup (is_at (λ k. R q k.items)) es ≡ names.find R q (map shown es)
lookup_is q [] = refl
lookup_is q (e ∷ es) = ap (cond (is_eq (R q e.0.items)) (Some e.1)) (lookup_is q es)

-- a value that passes
abbrev pub keep : (Handle → Bool) → Option Handle → Option Handle
keep p None = None
keep p (Some x) = if p x then Some x else None

-- no key of the rest ties with one that ties with the first
abbrev Apart : Entries → Type 0
Apart [] = Unit {0}
Apart (e ∷ es) = ((q : List ℕ) → R q e.0 ≡ Equal → names.find R q es ≡ None) × Apart es

total : IsTotalOrder R
total = nat_list_cmp_total

less_no_tie : (q x y : List ℕ) → R q x ≡ Equal → R x y ≡ Less → eq_by_cmp R q y ≡ false
less_no_tie q x y e l = ap is_eq (total.congr q x y e ∙ l)

past : (x : List ℕ) (es : List Kept) (q : List ℕ) → R q x ≡ Equal → AllByRecursion (λ (y : Vec ℕ Global). R x y.items ≡ Less) (map (λ e. e.0) es) → names.find R q (map shown es) ≡ None
past x [] q e b = refl
past x (y ∷ es) q e b = ap (λ t. cond t (Some y.1) (names.find R q (map shown es))) (less_no_tie q x y.0.items e b.0) ∙ past x es q e b.1

apart_kept : (es : List Kept) → IsStrictlySortedBy (λ (a b : Vec ℕ Global). R a.items b.items) (map (λ e. e.0) es) → Apart (map shown es)
unfolding IsStrictlySortedBy
apart_kept [] s = tt
apart_kept (e ∷ es) s = ((λ q t. past e.0.items es q t s.0), apart_kept es s.1)

and_both : (a b : Bool) → T (a && b) → T a × T b
and_both true b h = (tt, h)
and_both false b h = absurd h

lt_less : (o : Ordering) → T (is_lt o) → o ≡ Less
lt_less Less h = refl
lt_less Equal h = absurd h
lt_less Greater h = absurd h

past_below : (x : List ℕ) (es : Entries) (q : List ℕ) → R q x ≡ Equal → T (below_all R x es) → names.find R q es ≡ None
past_below x [] q e b = refl
past_below x (y ∷ es) q e b =
    let p = and_both (is_lt (R x y.0)) (below_all R x es) b in
    ap (λ t. cond t (Some y.1) (names.find R q es)) (less_no_tie q x y.0 e (lt_less (R x y.0) p.0)) ∙ past_below x es q e p.1

apart_sorted : (es : Entries) → T (names.is_sorted R es) → Apart es
apart_sorted [] s = tt
apart_sorted (e ∷ es) s =
    let p = and_both (below_all R e.0 es) (names.is_sorted R es) s in
    ((λ q t. past_below e.0 es q t p.0), apart_sorted es p.1)

tied : (o : Ordering) → is_eq o ≡ true → o ≡ Equal
tied Equal h = refl
tied Less h = absurd (cc)
tied Greater h = absurd (cc)

-- to find among the entries that pass is to find, and to see whether it passes
pub find_filter : (p : Handle → Bool) (q : List ℕ) (es : Entries) → Apart es → names.find R q (filter (λ e. p e.1) es) ≡ keep p (names.find R q es)
find_filter p q [] s = refl
find_filter p q (e ∷ es) s = go (p e.1) refl (eq_by_cmp R q e.0) refl (find_filter p q es s.1) where
  go : (b : Bool) → p e.1 ≡ b → (t : Bool) → eq_by_cmp R q e.0 ≡ t → names.find R q (filter (λ e. p e.1) es) ≡ keep p (names.find R q es)
      → names.find R q (cond (p e.1) (e ∷ filter (λ e. p e.1) es) (filter (λ e. p e.1) es)) ≡ keep p (cond (eq_by_cmp R q e.0) (Some e.1) (names.find R q es))
  go true pb true tb ih = rw (pb, tb) (sym (ap (λ b. if b then Some e.1 else None) pb))
  go true pb false tb ih = rw (pb, tb) ih
  go false pb true tb ih =
      let none = s.0 q (tied (R q e.0) tb) in
      rw (pb, tb) (ih ∙ (ap (keep p) none ∙ sym (ap (λ b. if b then Some e.1 else None) pb)))
  go false pb false tb ih = rw (pb, tb) ih

pub get_living : (listed : List Bool) (es : List Kept) → IsStrictlySortedBy (λ (a b : Vec ℕ Global). R a.items b.items) (map (λ e. e.0) es) → (q : List ℕ)
    → names.get (living listed es) q ≡ keep (λ x. is_listed listed x.0) (names.find R q (map shown es))
get_living listed es s q = names.get-from_entries total _ q ∙ find_filter (λ x. is_listed listed x.0) q (map shown es) (apart_kept es s)

same : (m n : Names) → ((q : List ℕ) → names.get m q ≡ names.get n q) → m ≡ n
same m n is = names.same_map total (names.slice_cmp-IsAntisymmetric names.nat_cmp-IsAntisymmetric) m n is

-- A NEW NAME

shown_insert : (k : Vec ℕ Global) (h : Handle) (es : List Kept) → map shown (insert_entry (λ (a b : Vec ℕ Global). R a.items b.items) es k h) ≡ put R k.items h (map shown es)
shown_insert k h [] = refl
shown_insert k h (e ∷ es) = go (R k.items e.0.items) (shown_insert k h es) where
  go : (o : Ordering) → map shown (insert_entry (λ (a b : Vec ℕ Global). R a.items b.items) es k h) ≡ put R k.items h (map shown es)
      → map shown (match_ordering o ((k, h) ∷ e ∷ es) ((e.0, h) ∷ es) (e ∷ insert_entry (λ (a b : Vec ℕ Global). R a.items b.items) es k h))
      ≡ by_order o ((k.items, h) ∷ shown e ∷ map shown es) ((e.0.items, h) ∷ map shown es) (shown e ∷ put R k.items h (map shown es))
  go Less ih = refl
  go Equal ih = refl
  go Greater ih = ap (λ z. shown e ∷ z) ih

pub living_insert : (listed : List Bool) (es es2 : List Kept) (k : Vec ℕ Global) (h : Handle) → is_listed listed h.0 ≡ true
    → IsStrictlySortedBy (λ (a b : Vec ℕ Global). R a.items b.items) (map (λ e. e.0) es) → IsStrictlySortedBy (λ (a b : Vec ℕ Global). R a.items b.items) (map (λ e. e.0) es2)
    → es2 ≡ insert_entry (λ (a b : Vec ℕ Global). R a.items b.items) es k h
    → living listed es2 ≡ names.insert (living listed es) k.items h
living_insert listed es es2 k h on s s2 is = same (living listed es2) (names.insert (living listed es) k.items h) (λ q.
    let P : Handle → Bool = λ x. is_listed listed x.0 in
    let found : names.find R q (map shown es2) ≡ cond (eq_by_cmp R q k.items) (Some h) (names.find R q (map shown es)) =
    ap (λ z. names.find R q (map shown z)) is ∙ (ap (names.find R q) (shown_insert k h es) ∙ find-put R total q k.items h (map shown es)) in
    get_living listed es2 s2 q ∙ (ap (keep P) found ∙ (pass (eq_by_cmp R q k.items) (names.find R q (map shown es))
    ∙ (ap (cond (eq_by_cmp R q k.items) (Some h)) (sym (get_living listed es s q)) ∙ sym (names.get-insert total (living listed es) k.items h q))))) where
      pass : (b : Bool) (o : Option Handle) → keep (λ x. is_listed listed x.0) (cond b (Some h) o) ≡ cond b (Some h) (keep (λ x. is_listed listed x.0) o)
      pass true o = ap (λ b. if b then Some h else None) on
      pass false o = refl

-- A HANDLE LESS

and_false : (b : Bool) → (b && false) ≡ false
and_false true = refl
and_false false = refl

and_true : (b : Bool) → (b && true) ≡ b
and_true true = refl
and_true false = refl

set_false : (listed : List Bool) (i j : ℕ) → unwrap_or (slice_get (slice_set listed i false) j) false ≡ (unwrap_or (slice_get listed j) false && not (j == i))
set_false [] i j = refl
set_false (b ∷ bs) zero zero = sym (and_false b)
set_false (b ∷ bs) zero (suc j) = sym (ap (λ t. unwrap_or (slice_get bs j) false && not t) (suc_zero j) ∙ and_true _) where
  suc_zero : (j : ℕ) → (suc j == 0) ≡ false
  suc_zero j = grind (arith, nat_tests)
set_false (b ∷ bs) (suc i) zero = sym (ap (λ t. b && not t) (zero_suc i) ∙ and_true b) where
  zero_suc : (i : ℕ) → (0 == suc i) ≡ false
  zero_suc i = grind (arith, nat_tests)
set_false (b ∷ bs) (suc i) (suc j) = set_false bs i j ∙ ap (λ t. unwrap_or (slice_get bs j) false && not t) (both_suc j i) where
  both_suc : (j i : ℕ) → (j == i) ≡ (suc j == suc i)
  both_suc j i = grind (arith, nat_tests)

at_is : (listed : List Bool) (n : ℕ) (b : Bool) → (n == 0) ≡ b → is_listed listed n ≡ (not b && unwrap_or (slice_get listed (n - 1)) false)
at_is listed n true e = ap (λ t. unwrap_or (if t then None else slice_get listed (n - 1)) false) e
at_is listed n false e = ap (λ t. unwrap_or (if t then None else slice_get listed (n - 1)) false) e

pub listed_less : (listed : List Bool) (h n : ℕ) → 0 < h → is_listed (set_at listed h false) n ≡ (is_listed listed n && not (n == h))
listed_less listed h n big = go (n == 0) refl where
  go : (b : Bool) → (n == 0) ≡ b → is_listed (set_at listed h false) n ≡ (is_listed listed n && not (n == h))
  go true e = at_is (set_at listed h false) n true e ∙ sym (ap (λ t. t && not (n == h)) (at_is listed n true e))
  go false e =
      let one : (n - 1 == h - 1) ≡ (n == h) = grind (arith, nat_tests) in
      at_is (set_at listed h false) n false e ∙ (set_false listed (h - 1) (n - 1) ∙ (ap (λ t. unwrap_or (slice_get listed (n - 1)) false && not t) one ∙ sym (ap (λ t. t && not (n == h)) (at_is listed n false e))))

pub living_less : (listed : List Bool) (es : List Kept) (h : Handle) → 0 < h.0 → IsStrictlySortedBy (λ (a b : Vec ℕ Global). R a.items b.items) (map (λ e. e.0) es)
    → living (set_at listed h.0 false) es ≡ without h (living listed es)
living_less listed es h big s = same (living (set_at listed h.0 false) es) (without h (living listed es)) (λ q.
    let L = living listed es in
    let Q : Handle → Bool = λ x. not (x.0 == h.0) in
    let left : names.get (without h L) q ≡ keep Q (names.find R q (names.entries L)) = names.get-from_entries total (filter (λ e. Q e.1) (names.entries L)) q ∙ find_filter Q q (names.entries L) (apart_sorted (names.entries L) (names.entries_sorted L)) in
    let found : names.find R q (names.entries L) ≡ keep (λ x. is_listed listed x.0) (names.find R q (map shown es)) = sym (names.get-entries L q) ∙ get_living listed es s q in
    get_living (set_at listed h.0 false) es s q ∙ (pass (names.find R q (map shown es)) ∙ sym (left ∙ ap (keep Q) found))) where
      pass : (o : Option Handle) → keep (λ x. is_listed (set_at listed h.0 false) x.0) o ≡ keep (λ x. not (x.0 == h.0)) (keep (λ x. is_listed listed x.0) o)
      pass None = refl
      pass (Some x) = ap (λ b. if b then Some x else None) (listed_less listed h.0 x.0 big) ∙ two (is_listed listed x.0) where
        two : (b : Bool) → (if b && not (x.0 == h.0) then Some x else None) ≡ keep (λ y. not (y.0 == h.0)) (if b then Some x else None)
        two true = refl
        two false = refl

-- A HANDLE MORE

get_push : (listed : List Bool) (i : ℕ) → i < length listed → slice_get (listed ++ true ∷ []) i ≡ slice_get listed i
get_push [] i l = absurd (omega arith)
get_push (b ∷ bs) zero l = refl
get_push (b ∷ bs) (suc i) l = get_push bs i (omega arith)

listed_more : (listed : List Bool) (n : ℕ) → n ≤ length listed → is_listed (listed ++ true ∷ []) n ≡ is_listed listed n
listed_more listed n within = go (n == 0) refl where
  go : (b : Bool) → (n == 0) ≡ b → is_listed (listed ++ true ∷ []) n ≡ is_listed listed n
  go true e = at_is (listed ++ true ∷ []) n true e ∙ sym (at_is listed n true e)
  go false e =
      let big : 0 < n = grind (arith, nat_tests) in
      at_is (listed ++ true ∷ []) n false e ∙ (ap (λ o. unwrap_or o false) (get_push listed (n - 1) (omega arith)) ∙ sym (at_is listed n false e))

filter_more : (listed : List Bool) (es : List Kept) → AllGiven (length listed) es
    → filter (λ e. is_listed (listed ++ true ∷ []) e.1.0) (map shown es) ≡ filter (λ e. is_listed listed e.1.0) (map shown es)
filter_more listed [] g = refl
filter_more listed (e ∷ es) g =
    ap (λ b. cond b (shown e ∷ filter (λ e. is_listed (listed ++ true ∷ []) e.1.0) (map shown es)) (filter (λ e. is_listed (listed ++ true ∷ []) e.1.0) (map shown es))) (listed_more listed e.1.0 g.0)
    ∙ ap (λ z. cond (is_listed listed e.1.0) (shown e ∷ z) z) (filter_more listed es g.1)

pub living_more : (listed : List Bool) (es : List Kept) → AllGiven (length listed) es → living (listed ++ true ∷ []) es ≡ living listed es
living_more listed es g = ap names.from_entries (filter_more listed es g)

pub given_more : (n m : ℕ) (es : List Kept) → n ≤ m → AllGiven n es → AllGiven m es
given_more n m [] l g = tt
given_more n m (e ∷ es) l g = (omega (arith, g.0), given_more n m es l g.1)

pub given_insert : (n : ℕ) (k : Vec ℕ Global) (h : Handle) (es : List Kept) → h.0 ≤ n → AllGiven n es → AllGiven n (insert_entry (λ (a b : Vec ℕ Global). R a.items b.items) es k h)
given_insert n k h [] l g = (l, tt)
given_insert n k h (e ∷ es) l g = go (R k.items e.0.items) (given_insert n k h es l g.1) where
  go : (o : Ordering) → AllGiven n (insert_entry (λ (a b : Vec ℕ Global). R a.items b.items) es k h) → AllGiven n (match_ordering o ((k, h) ∷ e ∷ es) ((e.0, h) ∷ es) (e ∷ insert_entry (λ (a b : Vec ℕ Global). R a.items b.items) es k h))
  go Less ih = (l, g)
  go Equal ih = (l, g.1)
  go Greater ih = (g.0, ih)

-- a listed handle was given
pub listed_given : (listed : List Bool) (n : ℕ) → is_listed listed n ≡ true → n ≤ length listed
listed_given listed n on = go (n == 0) refl where
  within : (bs : List Bool) (i : ℕ) → unwrap_or (slice_get bs i) false ≡ true → i < length bs
  within [] i e = absurd (cc)
  within (b ∷ bs) zero e = omega arith
  within (b ∷ bs) (suc i) e = omega (arith, within bs i e)

  go : (b : Bool) → (n == 0) ≡ b → n ≤ length listed
  go true e = let none : n ≡ 0 = grind (arith, nat_tests) in omega arith
  go false e = omega (arith, within listed (n - 1) (sym (at_is listed n false e) ∙ on))
