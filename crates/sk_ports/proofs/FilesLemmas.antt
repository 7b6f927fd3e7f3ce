-- The names of files, each once.
use Rattle.std.proofs.Common.{◌≡◌, ◌∙◌, ◌||◌, ◌++◌, ap, refl, sym, ℕ, Bool, true, false, not, List, [], ◌∷◌, is_some, Some, None, cond, true≢false, filter, map, string_bytes, String, Vec, take, length, get_or, drop, ◌<◌, ◌+◌, if◌then◌else◌}
use Rattle.std.proofs.lemmas.List.{drop_more, map-append, map_more, take-append-drop}
use Rattle.std.specs.Map.{lookup}
use Rattle.std.specs.Bool.{one_answer}
use Rattle.std.specs.Str.{bytes_eq}
use Rattle.std.specs.List.{IsDistinct, list_any, AllByRecursion}
use Rattle.std.proofs.lemmas.Slice.Eq.{bytes_eq-Decides}
use Rattle.std.proofs.lemmas.Map.Views.{any-filter_same}
use Rattle.sk_ports.specs.Files.{Files, IsListed, Lists, entry_of, file, files_of, has_name, names_of, with_name}

-- the names that differ from one
abbrev others : List ℕ → List (List ℕ) → List (List ℕ)
others name = filter (λ other. not (bytes_eq other name))

-- a test of the mapped list is one of the list
pub list_any-map : {X Y : Type 0} (test : Y → Bool) (h : X → Y) (xs : List X) → list_any test (map h xs) ≡ list_any (λ x. test (h x)) xs
list_any-map test h [] = refl
list_any-map test h (x ∷ xs) = ap (λ b. test (h x) || b) (list_any-map test h xs)

bytes_eq-sym : (xs ys : List ℕ) → bytes_eq xs ys ≡ bytes_eq ys xs
bytes_eq-sym xs ys = one_answer (bytes_eq xs ys) (bytes_eq ys xs) (bytes_eq-Decides xs ys)
    (λ t. sym ((bytes_eq-Decides ys xs).0 t), λ e. (bytes_eq-Decides ys xs).1 (sym e))

any-others : (name first : List ℕ) → bytes_eq name first ≡ false → (names : List (List ℕ)) → list_any (bytes_eq name) (others first names) ≡ list_any (bytes_eq name) names
any-others name first e names = any-filter_same (bytes_eq name) (λ other. not (bytes_eq other first)) true
    (λ other t. ap not (ap (λ x. bytes_eq x first) (sym ((bytes_eq-Decides name other).0 t)) ∙ e)) names

one_more : (b k h : Bool) (bytes : List ℕ) (o : Bool) → (b ≡ false → k ≡ o) → (b || k) ≡ (cond b true o)
one_more true k h bytes o e = refl
one_more false k h bytes o e = e refl

is_some-cond : (b : Bool) (bytes : List ℕ) (fs : Files) (name : List ℕ) → cond b true (is_some (file fs name)) ≡ is_some (cond b (Some bytes) (file fs name))
is_some-cond true bytes fs name = refl
is_some-cond false bytes fs name = refl

pub Lists-names_of : (files : Files) → Lists (names_of files) files
Lists-names_of [] name = refl
Lists-names_of (f ∷ fs) name =
    one_more (bytes_eq name f.0) (list_any (bytes_eq name) (others f.0 (names_of fs))) true f.1 (is_some (file fs name))
    (λ e. any-others name f.0 e (names_of fs) ∙ Lists-names_of fs name)
    ∙ is_some-cond (bytes_eq name f.0) f.1 fs name

-- a name at the end stays where it differs
others-push : (b : Bool) (first name : List ℕ) → bytes_eq name first ≡ b → (names : List (List ℕ))
    → others first (names ++ name ∷ []) ≡ (if b then others first names else others first names ++ name ∷ [])
others-push true first name e [] = ap (λ b. cond (not b) (name ∷ []) []) e
others-push false first name e [] = ap (λ b. cond (not b) (name ∷ []) []) e
others-push b first name e (x ∷ xs) = kept (not (bytes_eq x first)) b x (others first (xs ++ name ∷ [])) (others first xs) name (others-push b first name e xs)
  where
    kept : (p b : Bool) (x : List ℕ) (more rest : List (List ℕ)) (name : List ℕ) → more ≡ (if b then rest else rest ++ name ∷ [])
        → cond p (x ∷ more) more ≡ (if b then cond p (x ∷ rest) rest else cond p (x ∷ rest) rest ++ name ∷ [])
    kept true true x more rest name e = ap (λ xs. x ∷ xs) e
    kept true false x more rest name e = ap (λ xs. x ∷ xs) e
    kept false true x more rest name e = e
    kept false false x more rest name e = e

-- one more name, where the first may be equal to it, and the others hold it or not
push_others : (b h k : Bool) (first name : List ℕ) → bytes_eq name first ≡ b → (b ≡ false → k ≡ h) → (names : List (List ℕ))
    → (first ∷ others first (if h then names else names ++ name ∷ [])) ≡ (if b || k then first ∷ others first names else first ∷ others first names ++ name ∷ [])
push_others true true k first name e same names = refl
push_others true false k first name e same names = ap (λ xs. first ∷ xs) (others-push true first name e names)
push_others false true k first name e same names =
    ap (λ b. if b then first ∷ others first names else first ∷ others first names ++ name ∷ []) (sym (same refl))
push_others false false k first name e same names = ap (λ xs. first ∷ xs) (others-push false first name e names)
    ∙ ap (λ b. if b then first ∷ others first names else first ∷ others first names ++ name ∷ []) (sym (same refl))

pub names_of-push : (files : Files) (name bytes : List ℕ) → names_of (files ++ (name, bytes) ∷ []) ≡ with_name (names_of files) name
names_of-push [] name bytes = refl
names_of-push (f ∷ fs) name bytes = ap (λ names. f.0 ∷ others f.0 names) (names_of-push fs name bytes)
    ∙ push_others (bytes_eq name f.0) (has_name (names_of fs) name) (list_any (bytes_eq name) (others f.0 (names_of fs))) f.0 name refl
    (λ e. any-others name f.0 e (names_of fs)) (names_of fs)

all-others : (first : List ℕ) (names : List (List ℕ)) → AllByRecursion (λ other. bytes_eq first other ≡ false) (others first names)
all-others first [] = tt
all-others first (x ∷ xs) = go (bytes_eq x first) refl (all-others first xs)
  where
    go : (b : Bool) → bytes_eq x first ≡ b → AllByRecursion (λ other. bytes_eq first other ≡ false) (others first xs)
        → AllByRecursion (λ other. bytes_eq first other ≡ false) (cond (not b) (x ∷ others first xs) (others first xs))
    go true e h = h
    go false e h = (bytes_eq-sym first x ∙ e, h)

all-filter : {X : Type 0} (P : X → Type 0) (test : X → Bool) (xs : List X) → AllByRecursion P xs → AllByRecursion P (filter test xs)
all-filter P test [] h = tt
all-filter P test (x ∷ xs) h = go (test x) (all-filter P test xs h.1)
  where
    go : (b : Bool) → AllByRecursion P (filter test xs) → AllByRecursion P (cond b (x ∷ filter test xs) (filter test xs))
    go true more = (h.0, more)
    go false more = more

IsDistinct-filter : (test : List ℕ → Bool) (names : List (List ℕ)) → IsDistinct bytes_eq names → IsDistinct bytes_eq (filter test names)
unfolding IsDistinct
IsDistinct-filter test [] h = tt
IsDistinct-filter test (x ∷ xs) h = go (test x) (IsDistinct-filter test xs h.1)
  where
    go : (b : Bool) → IsDistinct bytes_eq (filter test xs) → IsDistinct bytes_eq (cond b (x ∷ filter test xs) (filter test xs))
    go true more = (all-filter (λ other. bytes_eq x other ≡ false) test xs h.0, more)
    go false more = more

pub IsDistinct-names_of : (files : Files) → IsDistinct bytes_eq (names_of files)
unfolding IsDistinct
IsDistinct-names_of [] = tt
IsDistinct-names_of (f ∷ fs) = (all-others f.0 (names_of fs), IsDistinct-filter (λ other. not (bytes_eq other f.0)) (names_of fs) (IsDistinct-names_of fs))

-- a listed name is that of a file
pub listed_has_file : (b : Bool) (fs : Files) (name : List ℕ) → IsListed (if b then Some (names_of fs) else None) name → None ≡ file fs name → ⊥
listed_has_file false fs name h e = absurd h
listed_has_file true fs name h e = absurd (true≢false (sym h ∙ Lists-names_of fs name ∙ ap is_some (sym e)))

pub with_name-there : (names : List (List ℕ)) (name : List ℕ) → has_name names name ≡ true → names ≡ with_name names name
with_name-there names name e = ap (λ b. if b then names else names ++ name ∷ []) (sym e)

pub with_name-new : (names : List (List ℕ)) (name : List ℕ) → has_name names name ≡ false → names ++ name ∷ [] ≡ with_name names name
with_name-new names name e = ap (λ b. if b then names else names ++ name ∷ []) (sym e)

module _ {Z : Type 0} where
  -- what a search of the names says of their texts
  pub has_name-texts : (xs ys : List (String Z)) (name : List ℕ) (r b : Bool) → ys ≡ xs
      → r ≡ list_any (λ other. bytes_eq name (string_bytes other)) ys → r ≡ b → has_name (map string_bytes xs) name ≡ b
  has_name-texts xs ys name r b same told is =
      list_any-map (bytes_eq name) string_bytes xs ∙ ap (list_any (λ other. bytes_eq name (string_bytes other))) (sym same) ∙ sym told ∙ is

module _ {Z Y : Type 0} where
  -- the names of one file more
  pub names_of-more : (files : List (String Z × Vec ℕ Y)) (i : ℕ) (d : String Z × Vec ℕ Y) → i < length files → d ≡ get_or files i d
      → names_of (files_of (take (i + 1) files)) ≡ with_name (names_of (files_of (take i files))) (string_bytes d.0)
  names_of-more files i d within is =
      ap names_of (map_more entry_of files i d within ∙ ap (λ x. files_of (take i files) ++ entry_of x ∷ []) (sym is))
      ∙ names_of-push (files_of (take i files)) (string_bytes d.0) d.1.items

lookup_later : (test : List ℕ → Bool) (before after : Files) → lookup test before ≡ None → lookup test (before ++ after) ≡ lookup test after
lookup_later test [] after h = refl
lookup_later test (f ∷ fs) after h = go (test f.0) h (lookup_later test fs after)
  where
    go : (b : Bool) → cond b (Some f.1) (lookup test fs) ≡ None → (lookup test fs ≡ None → lookup test (fs ++ after) ≡ lookup test after)
        → cond b (Some f.1) (lookup test (fs ++ after)) ≡ lookup test after
    go true h more = cc
    go false h more = more h

module _ {Z Y : Type 0} where
  -- the first file of this name, where those before it have others
  pub file_here : (files : List (String Z × Vec ℕ Y)) (i : ℕ) (d : String Z × Vec ℕ Y) (name : List ℕ) → i < length files → d ≡ get_or files i d
      → file (files_of (take i files)) name ≡ None → bytes_eq name (string_bytes d.0) ≡ true → Some d.1.items ≡ file (files_of files) name
  file_here files i d name within is before same =
      let rest = drop_more files i d within ∙ ap (λ x. x ∷ drop (i + 1) files) (sym is) in
      let whole = sym (take-append-drop i files) ∙ ap (λ xs. take i files ++ xs) rest in
      ap (λ b. cond b (Some d.1.items) (file (files_of (drop (i + 1) files)) name)) (sym same)
      ∙ sym (lookup_later (bytes_eq name) (files_of (take i files)) (entry_of d ∷ files_of (drop (i + 1) files)) before)
      ∙ ap (λ fs. file fs name) (sym (map-append entry_of (take i files) (d ∷ drop (i + 1) files)))
      ∙ ap (λ fs. file (files_of fs) name) (sym whole)

  -- another file more has another name
  pub file_not_yet : (files : List (String Z × Vec ℕ Y)) (i : ℕ) (d : String Z × Vec ℕ Y) (name : List ℕ) → i < length files → d ≡ get_or files i d
      → file (files_of (take i files)) name ≡ None → bytes_eq name (string_bytes d.0) ≡ false → file (files_of (take (i + 1) files)) name ≡ None
  file_not_yet files i d name within is before other =
      ap (λ fs. file fs name) (map_more entry_of files i d within ∙ ap (λ x. files_of (take i files) ++ entry_of x ∷ []) (sym is))
      ∙ lookup_later (bytes_eq name) (files_of (take i files)) (entry_of d ∷ []) before
      ∙ ap (λ b. cond b (Some d.1.items) None) other
