-- One more file of a folder.
use Rattle.std.proofs.Common.{◌≡◌, ◌∙◌, ◌||◌, ◌++◌, ap, refl, sym, ℕ, Bool, true, false, List, [], ◌∷◌, Option, Some, None, cond, if◌then◌else◌, is_some, true≢false, String, string_bytes, map, take, length, get_or, zero, suc, arith, ◌<◌, ◌≤◌, ◌+◌}
use Rattle.std.specs.Prelude.{IfSome}
use Rattle.std.proofs.lemmas.List.{map_push, take_all, take_more}
use Rattle.std.specs.Prelude.{MatchBool}
use Rattle.std.specs.Map.{lookup}
use Rattle.std.specs.Str.{bytes_eq}
use Rattle.std.proofs.lemmas.List.Folds.{list_any-append}
use Rattle.std.proofs.lemmas.Slice.Eq.{bytes_eq-Decides}
use Rattle.sk_ports.specs.Files.{Files, Lists, file, has_name, IsListed}
use Rattle.runner.specs.Scripts.{AddsScript, HasScripts, KeepsScripts, is_script}

abbrev or_else : {T : Type 0} → Option T → Option T → Option T
or_else None o = o
or_else (Some x) o = Some x

core : {T : Type 0} (h d : Bool) (r f : Option T) (b : T) → (d ≡ true → f ≡ Some b) → r ≡ (if h then f else None)
    → or_else r (cond d (Some b) None) ≡ (if h || (d || false) then f else None)
core true d r (Some x) b at e = rw e refl
core true true r None b at e = absurd (some_apart b (at refl))
  where
    some_apart : {T : Type 0} (b : T) → None ≡ Some b → ⊥
    some_apart b h = cc
core true false r None b at e = rw e refl
core false true r f b at e = rw (e, at refl) refl
core false false r f b at e = rw e refl

lookup-snoc : (test : List ℕ → Bool) (es : Files) (k v : List ℕ)
    → lookup test (es ++ (k, v) ∷ []) ≡ or_else (lookup test es) (cond (test k) (Some v) None)
lookup-snoc test [] k v = refl
lookup-snoc test (e ∷ es) k v = by (test e.0) (lookup-snoc test es k v)
  where
    by : (b : Bool) → lookup test (es ++ (k, v) ∷ []) ≡ or_else (lookup test es) (cond (test k) (Some v) None)
        → cond b (Some e.1) (lookup test (es ++ (k, v) ∷ [])) ≡ or_else (cond b (Some e.1) (lookup test es)) (cond (test k) (Some v) None)
    by true h = refl
    by false h = h

same_name : (q n : List ℕ) → bytes_eq q n ≡ true → q ≡ n
same_name q n h = (bytes_eq-Decides q n).0 h

skipped : {T : Type 0} (h d : Bool) (r f : Option T) → (d ≡ true → ⊥) → r ≡ (if h then f else None) → r ≡ (if h || (d || false) then f else None)
skipped true d r f apart e = e
skipped false true r f apart e = absurd (apart refl)
skipped false false r f apart e = e

pub keeps_more : (files scripts longer : Files) (seen : List (List ℕ)) (n : List ℕ)
    → AddsScript n scripts longer files → KeepsScripts seen scripts files → KeepsScripts (seen ++ n ∷ []) longer files
keeps_more files scripts longer seen n adds kept q is = by (is_script n) refl adds
  where
    by : (b : Bool) → is_script n ≡ b
        → MatchBool b ((bytes : List ℕ) × (file files n ≡ Some bytes) × (longer ≡ scripts ++ (n, bytes) ∷ [])) (longer ≡ scripts)
        → file longer q ≡ (if has_name (seen ++ n ∷ []) q then file files q else None)
    by true s a = rw (list_any-append, a.2, lookup-snoc)
        (core (has_name seen q) (bytes_eq q n) (file scripts q) (file files q) a.0 (λ same. rw (same_name q n same) a.1) (kept q is))
    by false s a = rw (list_any-append, a)
        (skipped (has_name seen q) (bytes_eq q n) (file scripts q) (file files q) (λ same. absurd (true≢false (sym is ∙ ap is_script (same_name q n same) ∙ s))) (kept q is))

-- all names were seen
pub keeps_all : (files scripts : Files) (names : List (List ℕ)) → Lists names files → KeepsScripts names scripts files → HasScripts scripts files
keeps_all files scripts names lists kept q is = kept q is ∙ by (file files q) (lists q)
  where
    by : (f : Option (List ℕ)) → has_name names q ≡ is_some f → (if has_name names q then f else None) ≡ f
    by None h = rw h refl
    by (Some x) h = rw h refl

module _ {Z : Type 0} where
  -- a name of the list is listed
  pub has_name-item : (xs : List (String Z)) (i : ℕ) (d : String Z) → i < length xs → d ≡ get_or xs i d
      → has_name (map string_bytes xs) (string_bytes d) ≡ true
  has_name-item [] i d h e = absurd (omega arith)
  has_name-item (x ∷ xs) zero d h e = here (string_bytes d) (string_bytes x) (ap string_bytes e) (has_name (map string_bytes xs) (string_bytes d))
    where
      here : (a b : List ℕ) → a ≡ b → (rest : Bool) → (bytes_eq a b || rest) ≡ true
      here a b e rest = rw ((bytes_eq-Decides a b).1 e) refl
  has_name-item (x ∷ xs) (suc i) d h e = later (bytes_eq (string_bytes d) (string_bytes x)) (has_name-item xs i d (omega arith) e)
    where
      later : (b : Bool) {r : Bool} → r ≡ true → (b || r) ≡ true
      later true e = refl
      later false e = e

  pub item_is_listed : (listed : Option (List (List ℕ))) (xs : List (String Z)) (i : ℕ) (d : String Z) (name : List ℕ)
      → listed ≡ Some (map string_bytes xs) → i < length xs → d ≡ get_or xs i d → name ≡ string_bytes d → IsListed listed name
  item_is_listed listed xs i d name l h e n = rw (l, n) (has_name-item xs i d h e)

  -- the names so far, with one more
  more_seen : (xs : List (String Z)) (i : ℕ) (d : String Z) → i < length xs → d ≡ get_or xs i d
      → map string_bytes (take (i + 1) xs) ≡ map string_bytes (take i xs) ++ string_bytes d ∷ []
  more_seen xs i d h e = rw (take_more xs i d h, ← e) (map_push string_bytes (take i xs) d)

  pub told_more : (held : Option Files) (xs : List (String Z)) (i : ℕ) (d : String Z) (name : List ℕ) (scripts longer : Files)
      → i < length xs → d ≡ get_or xs i d → name ≡ string_bytes d
      → IfSome held (AddsScript name scripts longer) → IfSome held (KeepsScripts (map string_bytes (take i xs)) scripts)
      → IfSome held (KeepsScripts (map string_bytes (take (i + 1) xs)) longer)
  told_more None xs i d name scripts longer h e n adds kept = tt
  told_more (Some files) xs i d name scripts longer h e n adds kept =
      rw (more_seen xs i d h e, ← n) (keeps_more files scripts longer (map string_bytes (take i xs)) name adds kept)

  pub told_all : (held : Option Files) (xs : List (String Z)) (i : ℕ) (scripts : Files) → length xs ≤ i
      → IfSome held (Lists (map string_bytes xs)) → IfSome held (KeepsScripts (map string_bytes (take i xs)) scripts)
      → IfSome held (HasScripts scripts)
  told_all None xs i scripts h lists kept = tt
  told_all (Some files) xs i scripts h lists kept =
      keeps_all files scripts (map string_bytes xs) lists (rw (take_all i xs h) at kept)
